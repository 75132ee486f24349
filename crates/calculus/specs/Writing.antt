-- WRITING TEXT: one layout of a term, in characters, for both notations.
use Rattle.std.specs.Prelude.{ℕ, zero, suc, ◌+◌, ◌-◌, ◌/◌, ◌%◌, min, cond, List, [], ◌∷◌, ◌++◌, leb, ltb}
use Rattle.calculus.specs.Term.{Term, var, lam, app}
use Rattle.calculus.specs.Numbers.{between, figure, numeral}
use Rattle.calculus.specs.Bounds.{greatest_number}
use Rattle.calculus.specs.Queries.{max_depth}
use Rattle.calculus.specs.Characters.{sign, bytes, codes}
use Rattle.calculus.specs.Reading.{Notation, de_bruijn, classic}

-- what a term is written with: binders by depth, variables by depth and index, the gap between two parts, parentheses
pub record Layout (A : Type 0) : Type 0 where
  pub binder : ℕ → List A
  pub variable : ℕ → ℕ → List A
  pub gap : List A
  pub left : A
  pub right : A

module _ {A : Type 0} (w : Layout A) where
  abbrev pub grouped : List A → List A
  grouped xs = w.left ∷ (xs ++ (w.right ∷ []))

  -- an abstraction is parenthesised as either part of an application, an application as a right part only
  abbrev pub as_left : Term → List A → List A
  as_left (var i) xs = xs
  as_left (lam b) xs = grouped xs
  as_left (app l r) xs = xs

  abbrev pub as_right : Term → List A → List A
  as_right (var i) xs = xs
  as_right (lam b) xs = grouped xs
  as_right (app l r) xs = grouped xs

  -- a term that lies under d abstractions
  unfoldable pub written : ℕ → Term → List A
  written d (var i) = w.variable d i
  written d (lam b) = w.binder d ++ written (suc d) b
  written d (app l r) = as_left l (written d l) ++ (w.gap ++ as_right r (written d r))

-- DE BRUIJN: indices 1 to 15 are one digit; others stand in brackets, of at most 16 digits
unfoldable pub index_text : ℕ → List ℕ
unfolding numeral
index_text i = cond (between 1 15 i) (figure i ∷ []) (91 ∷ (numeral 16 16 i ++ (93 ∷ [])))

-- NAMES by number, in at most n letters: 0 is a, 25 z, 26 aa, 701 zz, 702 aaa
unfoldable pub letters : ℕ → ℕ → List ℕ
letters zero k = []
letters (suc n) k = cond (ltb k 26) [] (letters n (k / 26 - 1)) ++ ((97 + k % 26) ∷ [])

-- 14 letters name every number below 2^64
unfoldable pub name_text : ℕ → List ℕ
unfolding letters
name_text k = letters 14 k

-- CLASSIC: index 0; bound, by the binder's depth; or free, with number index - d, in a term whose max_depth is m
unfoldable pub variable_text : (m d : ℕ) → ℕ → List ℕ
unfolding name_text codes
variable_text m d zero = codes "undefined"
variable_text m d (suc i) =
    cond (leb (suc i) d) (name_text (d - suc i)) (name_text (min (m + (suc i - d)) greatest_number - 1))

-- in each notation: a binder at depth d, a variable under d abstractions, the gap between two parts
unfoldable pub binder_text : Notation → (d : ℕ) → List ℕ
unfolding name_text
binder_text de_bruijn d = sign ∷ []
binder_text classic d = sign ∷ (name_text d ++ (46 ∷ []))

unfoldable pub text_of_variable : Notation → (m d : ℕ) → ℕ → List ℕ
unfolding index_text variable_text
text_of_variable de_bruijn m d i = index_text i
text_of_variable classic m d i = variable_text m d i

abbrev pub gap_text : Notation → List ℕ
gap_text de_bruijn = []
gap_text classic = 32 ∷ []

abbrev pub in_characters : Notation → (m : ℕ) → Layout ℕ
in_characters n m =
    record { binder = binder_text n; variable = text_of_variable n m; gap = gap_text n; left = 40; right = 41 }

unfoldable pub characters_written : Notation → Term → List ℕ
unfolding binder_text text_of_variable written max_depth
characters_written n t = written (in_characters n (max_depth t)) 0 t

-- THE TEXT OF A TERM, in bytes
unfoldable pub write_text : Notation → Term → List ℕ
unfolding bytes characters_written
write_text n t = bytes (characters_written n t)
