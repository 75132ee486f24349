-- `words::Cursor::first_de_bruijn` meets its contract: the byte decides the word.
use mathlib.Core.Path.{refl, sym, ◌∙◌}
use Rattle.calculus.specs.DeBruijn.{first_word, word_at, glyph}
use Rattle.words.specs.declared.Word.TheVariants.{Left, Right, Number}
use Rattle.words.proofs.Tables.{only_none}
use Rattle.words.proofs.Telling.{ends, goes-past, binds-nothing, stops-here}
use Rattle.words.proofs.DeBruijnWords.{first-digit, first_wrong}
use Rattle.words.proofs.Cursor.first_de_bruijn.Goals as goal

pub returns-then-text-at : goal.returns-then-text-at
unfolding first_word
returns-then-text-at c = ends first_word c.requires c.if-text-at.true refl

pub returns-then-b-eq92 : goal.returns-then-b-eq92
unfolding first_word word_at glyph
returns-then-b-eq92 c =
    binds-nothing first_word (c.args.text.clean, c.requires, c.if-text-at.false) c.past-next.ensures c.unnamed.ensures
    (rw c.if-b-eq92.true)

pub returns-then-b : goal.returns-then-b
unfolding first_word word_at glyph
returns-then-b c =
    binds-nothing first_word (c.args.text.clean, c.requires, c.if-text-at.false) c.past-next.ensures c.unnamed-then-b.ensures
    (rw c.if-b.true)

pub returns-then-b-eq40 : goal.returns-then-b-eq40
unfolding first_word word_at glyph
returns-then-b-eq40 c =
    goes-past first_word (c.args.text.clean, c.requires, c.if-text-at.false) c.past-next.ensures Left refl tt (rw c.if-b-eq40.true)

pub returns-then-b-eq41 : goal.returns-then-b-eq41
unfolding first_word word_at glyph
returns-then-b-eq41 c =
    goes-past first_word (c.args.text.clean, c.requires, c.if-text-at.false) c.past-next.ensures Right refl tt
    (rw c.if-b-eq41.true)

pub returns-in-Some : goal.returns-in-Some
returns-in-Some c =
    let byte = c.args.text.clean.only_bytes c.args.self.at in
    goes-past first_word (c.args.text.clean, c.requires, c.if-text-at.false) c.past-next.ensures (Number _) refl tt
    (first-digit _ byte (sym c.hex_digit.ensures ∙ c.in-Some.is) _)

pub returns : goal.returns
returns c =
    let byte = c.args.text.clean.only_bytes c.args.self.at in
    stops-here first_word (c.args.text.clean, c.requires, c.if-text-at.false)
    (first_wrong _ byte (sym c.hex_digit.ensures ∙ only_none _ c.in_default.not-Some) c.if-b-eq91.false c.if-b-eq92.false
    c.if-b.false c.if-b-eq40.false c.if-b-eq41.false)
