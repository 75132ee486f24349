-- `words::Cursor::first_classic` meets its contract: the byte decides the word.
use mathlib.Core.Path.{refl, sym, ◌∙◌}
use Rattle.calculus.specs.Classic.{first_word, word_at, glyph}
use Rattle.words.specs.declared.Word.TheVariants.{Left, Right}
use Rattle.words.proofs.Telling.{ends, goes-past, stops-here}
use Rattle.words.proofs.ClassicWords.{first-binder, first-name, first_wrong}
use Rattle.words.proofs.Cursor.first_classic.Goals as goal

pub returns-then-text-at : goal.returns-then-text-at
unfolding first_word
returns-then-text-at c = ends first_word c.requires c.if-text-at.true refl

pub returns-then-b-eq92 : goal.returns-then-b-eq92
unfolding first_word word_at glyph
returns-then-b-eq92 c =
    first-binder (c.args.text.clean, c.requires, c.if-text-at.false) c.past-next.ensures (rw c.if-b-eq92.true) c.binder.ensures

pub returns-then-b : goal.returns-then-b
unfolding first_word word_at glyph
returns-then-b c =
    first-binder (c.args.text.clean, c.requires, c.if-text-at.false) c.past-next.ensures (rw c.if-b.true)
    c.binder-then-b.ensures

pub returns-then-b-eq40 : goal.returns-then-b-eq40
unfolding first_word word_at glyph
returns-then-b-eq40 c =
    goes-past first_word (c.args.text.clean, c.requires, c.if-text-at.false) c.past-next.ensures Left refl tt (rw c.if-b-eq40.true)

pub returns-then-b-eq41 : goal.returns-then-b-eq41
unfolding first_word word_at glyph
returns-then-b-eq41 c =
    goes-past first_word (c.args.text.clean, c.requires, c.if-text-at.false) c.past-next.ensures Right refl tt
    (rw c.if-b-eq41.true)

pub returns-then-is_letter : goal.returns-then-is_letter
returns-then-is_letter c =
    let is = sym c.is_letter.ensures ∙ c.if-is_letter.true in
    first-name (c.args.text.clean, c.requires, c.if-text-at.false) c.past-next.ensures c.over-end.ensures is

pub returns : goal.returns
returns c =
    let byte = c.args.text.clean.only_bytes c.args.self.at in
    let other = sym c.is_letter.ensures ∙ c.if-is_letter.false in
    stops-here first_word (c.args.text.clean, c.requires, c.if-text-at.false)
    (first_wrong _ byte other c.if-b-eq92.false c.if-b.false c.if-b-eq40.false
    c.if-b-eq41.false)
