-- Reading on from a word: the walk and the grammar together, as the recursion over the text meets them.
use Rattle.std.specs.Prelude.{Bool, true, false, List, [], ◌∷◌}
use Rattle.std.proofs.Math.Option.{none, some}
use Rattle.calculus.specs.Term.{Term, lam}
use Rattle.calculus.specs.Bounds.{most_open}
use Rattle.calculus.specs.Refusal.{Answer, refused, ◌then◌, empty_expression}
use Rattle.calculus.specs.Words.{Word, closing}
use Rattle.calculus.specs.Walk.{Token, Open, walk}
use Rattle.calculus.specs.Grammar.{Part, with_item, Waits, parsed}

-- what a sequence has read, or that something in it is empty, so that 8 waits for the end of the walk
pub data State : Type 0 where
  reading : Part → State
  void : State

-- a state with what its next item holds
abbrev pub beside : State → State → State
beside st void = void
beside st (reading none) = void
beside (reading p) (reading (some t)) = reading (some (with_item p t))
beside void (reading (some t)) = void

-- the abstraction whose body is read
abbrev pub under : State → State
under void = void
under (reading none) = void
under (reading (some t)) = reading (some (lam t))

-- the grammar from a state on
abbrev pub parsed_on : List Token → State → List Waits → Answer Term
parsed_on ts (reading p) ps = parsed ts p ps
parsed_on ts void ps = refused empty_expression

-- the answer for the words that remain, with so much open, in sequences that wait
unfoldable pub go : List Open → List Word → State → List Waits → Answer Term
unfolding walk parsed
go os ws st ps = walk most_open os ws then (λ ts. parsed_on ts st ps)

-- a state, unless something was empty before
abbrev pub unless_void : Bool → State → State
unless_void true st = void
unless_void false st = st

-- the words where a sequence ends: at a `)`, or with the text
abbrev pub ended : (closed : Bool) → List Word → List Word
ended true ws = closing ∷ ws
ended false ws = []
