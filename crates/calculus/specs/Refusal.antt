-- The thirteen refusals, and answers that one of them may take the place of.
use Rattle.std.specs.Prelude.{ℕ, Bool, true, false, List, [], ◌∷◌}

pub data Refusal : Type 0 where
  outside_bounds : Refusal
  too_little_room : Refusal
  text_too_long : Refusal
  outside_domain : (offset : ℕ) → Refusal
  invalid_character : (place code : ℕ) → Refusal
  undefined_free_variable : Refusal
  too_high : Refusal
  empty_expression : Refusal
  too_many_nodes : Refusal
  not_a_term : (offset : ℕ) → Refusal
  not_abs : Refusal
  index_too_great : Refusal
  output_too_short : (needed : ℕ) → Refusal

-- a refusal's number
abbrev pub refusal_number : Refusal → ℕ
refusal_number outside_bounds = 1
refusal_number too_little_room = 2
refusal_number text_too_long = 3
refusal_number (outside_domain offset) = 4
refusal_number (invalid_character place code) = 5
refusal_number undefined_free_variable = 6
refusal_number too_high = 7
refusal_number empty_expression = 8
refusal_number too_many_nodes = 9
refusal_number (not_a_term offset) = 10
refusal_number not_abs = 11
refusal_number index_too_great = 12
refusal_number (output_too_short needed) = 13

-- what it returns besides its number
abbrev pub refusal_values : Refusal → List ℕ
refusal_values outside_bounds = []
refusal_values too_little_room = []
refusal_values text_too_long = []
refusal_values (outside_domain offset) = offset ∷ []
refusal_values (invalid_character place code) = place ∷ code ∷ []
refusal_values undefined_free_variable = []
refusal_values too_high = []
refusal_values empty_expression = []
refusal_values too_many_nodes = []
refusal_values (not_a_term offset) = offset ∷ []
refusal_values not_abs = []
refusal_values index_too_great = []
refusal_values (output_too_short needed) = needed ∷ []

-- what is given, or the refusal
pub data Answer (A : Type 0) : Type 0 where
  given : A → Answer A
  refused : Refusal → Answer A

-- the next stage, unless this one refused
abbrev pub ◌then◌ : {A B : Type 0} → Answer A → (A → Answer B) → Answer B
◌then◌ (given a) next = next a
◌then◌ (refused e) next = refused e

infixl 20 ◌then◌
-- a value that must pass a test
abbrev pub kept_if : {A : Type 0} → Bool → Refusal → A → Answer A
kept_if true e a = given a
kept_if false e a = refused e
