-- ONE ANSWER: any two answers that a statement of this crate allows are the same.
use Prim.Native.Nat.{ℕ}
use mathlib.Core.Path.{◌≡◌, refl, sym, ap, ◌∙◌}
use mathlib.Core.List.{List}
use lib.ListN.{drop}
use Rattle.calculus.specs.Refusal as calculus
use Rattle.calculus.specs.Refusal.{Answer, given, refused}
use Rattle.term.specs.Heads.{head_in}
use Rattle.term.specs.Answers.{refusal_of, told, check_of}
use Rattle.term.specs.declared.Head.{Head}
use Rattle.term.specs.declared.Refusal.{Refusal}
use Rattle.term.specs.declared.Refusal.TheVariants.{OutsideBounds, TooLittleRoom, TextTooLong, OutsideDomain}
use Rattle.term.specs.declared.Refusal.TheVariants.{InvalidCharacter, UndefinedFreeVariable, TooHigh}
use Rattle.term.specs.declared.Refusal.TheVariants.{EmptyExpression, TooManyNodes, NotATerm, NotAbs}
use Rattle.term.specs.declared.Refusal.TheVariants.{IndexTooGreat, OutputTooShort}
use Rattle.std.specs.Prelude.{Option, Result, Ok, Err}
use Rattle.term.specs.declared.Facts.{Facts}

-- what can be told back tells which it is
pub one_by : {A B : Type 0} (to : A → B) (from : B → A) → ((x : A) → from (to x) ≡ x) → {x y : A} {b : B}
    → to x ≡ b → to y ≡ b
    → x ≡ y
one_by to from back {x} {y} e k = sym (back x) ∙ ap from (e ∙ sym k) ∙ back y

abbrev pub refusal-from : calculus.Refusal → Refusal
refusal-from calculus.outside_bounds = OutsideBounds
refusal-from calculus.too_little_room = TooLittleRoom
refusal-from calculus.text_too_long = TextTooLong
refusal-from (calculus.outside_domain offset) = OutsideDomain offset
refusal-from (calculus.invalid_character place code) = InvalidCharacter place code
refusal-from calculus.undefined_free_variable = UndefinedFreeVariable
refusal-from calculus.too_high = TooHigh
refusal-from calculus.empty_expression = EmptyExpression
refusal-from calculus.too_many_nodes = TooManyNodes
refusal-from (calculus.not_a_term offset) = NotATerm offset
refusal-from calculus.not_abs = NotAbs
refusal-from calculus.index_too_great = IndexTooGreat
refusal-from (calculus.output_too_short needed) = OutputTooShort needed

pub refusal_back : (why : Refusal) → refusal-from (refusal_of why) ≡ why
refusal_back OutsideBounds = refl
refusal_back TooLittleRoom = refl
refusal_back TextTooLong = refl
refusal_back (OutsideDomain offset) = refl
refusal_back (InvalidCharacter place code) = refl
refusal_back UndefinedFreeVariable = refl
refusal_back TooHigh = refl
refusal_back EmptyExpression = refl
refusal_back TooManyNodes = refl
refusal_back (NotATerm offset) = refl
refusal_back NotAbs = refl
refusal_back IndexTooGreat = refl
refusal_back (OutputTooShort needed) = refl

-- for any enum of answers: a case that gives, and one that refuses
abbrev pub answer-from : {A R : Type 0} → (A → R) → (Refusal → R) → Answer A → R
answer-from give refuse (given a) = give a
answer-from give refuse (refused why) = refuse (refusal-from why)

-- for the answers of any function
abbrev pub result_from : {A : Type 0} → Answer A → Result A Refusal
result_from (given a) = Ok a
result_from (refused why) = Err (refusal-from why)

pub told_back : {A : Type 0} (r : Result A Refusal) → result_from (told r) ≡ r
told_back (Ok a) = refl
told_back (Err why) = ap Err (refusal_back why)

pub one_told : {A : Type 0} {a : Answer A} {r q : Result A Refusal} → told r ≡ a → told q ≡ a → r ≡ q
one_told e k = one_by told result_from told_back e k

pub one_check : (cap : ℕ) (s : List ℕ) {r q : Result Facts Refusal} → told r ≡ check_of cap s
    → told q ≡ check_of cap s
    → r ≡ q
one_check cap s e k = one_told e k

pub one_head : (s : List ℕ) (at : ℕ) {r q : Option Head} → r ≡ head_in (drop at s) → q ≡ head_in (drop at s) → r ≡ q
one_head s at e k = e ∙ sym k
