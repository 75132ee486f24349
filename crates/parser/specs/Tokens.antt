-- The words ahead of a place, and what the code's token says of them.
use Rattle.std.specs.Prelude.{ℕ, ◌≤◌, ◌<◌, ◌≡◌, List, [], ◌∷◌, Option, Result, Ok, Err}
use Rattle.std.proofs.Math.Option.{some}
use Rattle.calculus.specs.Term.{var}
use Rattle.calculus.specs.Refusal.{Answer, given, refused}
use Rattle.calculus.specs.Reading.{Notation}
use Rattle.calculus.specs.Words.{Word, opening, closing, binder}
use Rattle.calculus.specs.Walk.{Open, group, bound}
use Rattle.calculus.specs.Grammar.{Waits}
use Rattle.term.specs.Answers.{refusal_of}
use Rattle.term.specs.declared.Refusal.{Refusal}
use Rattle.words.specs.Places.{Placed}
use Rattle.parser.specs.declared.tokens.Binder.{Binder}
use Rattle.words.specs.declared.Cursor.{Cursor}
use Rattle.words.specs.Ahead.{words_at}
use Rattle.parser.specs.Opens.{open_of, Held}
use Rattle.parser.specs.States.{State, reading, beside, go}
use Rattle.parser.specs.declared.tokens.Token.{Token}
use Rattle.parser.specs.declared.tokens.Token.TheVariants as token

-- the words from a place on, where they are valid
abbrev pub list_of : Answer (List Word) → List Word
list_of (given ws) = ws
list_of (refused e) = []

unfoldable pub words_on : Notation → List ℕ → ℕ → List Word
unfolding words_at
words_on n s at = list_of (words_at n s at)

pub record Valid (n : Notation) (s : List ℕ) (at : ℕ) : Type 0 where
  pub valid : words_at n s at ≡ given (words_on n s at)

-- the word that opens
unfoldable pub word_of : Open → Word
word_of group = opening
word_of (bound x) = binder x

-- a place that is reached from another
pub record Onward (n : Notation) (s : List ℕ) (here next : Cursor) : Type 0 where
  pub placed : Placed s next
  pub valid : Valid n s next.at
  pub forward : here.at ≤ next.at

-- the token at a place, with so much open: how reading goes on
module _ (n : Notation) (s : List ℕ) (os : List Open) (here : Cursor) where
  pub record MetIndex (i : ℕ) (next : Cursor) : Type 0 where
    pub step : Onward n s here next
    pub moved : here.at < next.at
    pub goes : (st : State) (ps : List Waits) → go os (words_on n s here.at) st ps
        ≡ go os (words_on n s next.at) (beside st (reading (some (var i)))) ps

  pub record MetOpening (w : Option Binder) (next : Cursor) : Type 0 where
    pub step : Onward n s here next
    pub moved : here.at < next.at
    pub inside : Held s w
    pub ahead : words_on n s here.at ≡ word_of (open_of s w) ∷ words_on n s next.at

  pub record MetClosing (next : Cursor) : Type 0 where
    pub step : Onward n s here next
    pub ahead : words_on n s here.at ≡ closing ∷ words_on n s next.at

  pub record MetEnd (next : Cursor) : Type 0 where
    pub step : Onward n s here next
    pub ahead : words_on n s here.at ≡ []
    pub last : words_on n s next.at ≡ []

  pub record MetRefused (why : Refusal) : Type 0 where
    pub goes : (st : State) (ps : List Waits) → go os (words_on n s here.at) st ps ≡ refused (refusal_of why)

  abbrev pub Meets : Result (Token × Cursor) Refusal → Type 0
  Meets (Ok (token.Index i, next)) = MetIndex i next
  Meets (Ok (token.Open w, next)) = MetOpening w next
  Meets (Ok (token.Close, next)) = MetClosing next
  Meets (Ok (token.End, next)) = MetEnd next
  Meets (Err why) = MetRefused why
