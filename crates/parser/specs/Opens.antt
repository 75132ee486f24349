-- What is open at a word, the innermost first: a group, or a binder by the place of its name.
use Rattle.std.specs.Prelude.{ℕ, zero, suc, ◌≤◌, ◌<◌, List, [], ◌∷◌, length, get_or, Option, Some, None, ⊤}
use Rattle.std.proofs.Math.Option as maybe
use Rattle.calculus.specs.Bounds.{most_open}
use Rattle.calculus.specs.Walk.{Open, group, bound}
use Rattle.words.specs.Places.{name_of, Inside}
use Rattle.words.specs.declared.Name.{Name}
use Rattle.parser.specs.declared.tokens.Binder.{Binder}

abbrev pub name_at : Binder → Name
name_at x = record { from = x.from; to = x.to }

abbrev pub binder_of : Name → Binder
binder_of x = record { from = x.from; to = x.to }

abbrev pub open_of : List ℕ → Option Binder → Open
open_of s None = group
open_of s (Some x) = bound (name_of s (name_at x))

-- as the stack holds it: a group by the ends 0 and 0, which no binder has
abbrev pub entry : Option Binder → Binder
entry None = record { from = 0; to = 0 }
entry (Some x) = x

abbrev pub before_end : ℕ → Binder → Option Binder
before_end zero x = None
before_end (suc n) x = Some x

abbrev pub opener : Binder → Option Binder
opener x = before_end x.to x

unfoldable pub opens : (s : List ℕ) (stack : List Binder) → List Open
opens s [] = []
opens s (w ∷ ws) = open_of s (opener w) ∷ opens s ws

-- a binder's name is in the text, after its lambda
abbrev pub Held : List ℕ → Option Binder → Type 0
Held s None = ⊤
Held s (Some x) = (0 < x.from) × Inside s (name_at x)

-- no more is open than may be, and it is in the text
pub record Opened (s : List ℕ) (stack : List Binder) : Type 0 where
  pub few : length stack ≤ most_open
  pub inside : (k : ℕ) → k < length stack → Held s (opener (get_or stack k (entry None)))

-- what a search told, as a definition says it
abbrev pub found : Option ℕ → maybe.Option ℕ
found None = maybe.none
found (Some i) = maybe.some i
