-- The grammar as a relation, in which a sequence holds groups and a group a sequence; parsing gives just its terms.
use Prim.Native.Nat.{ℕ, zero, suc, ◌≤◌, ◌<◌}
use mathlib.Core.Path.{◌≡◌, refl, ◌∙◌}
use mathlib.Core.Logic.{◌↔◌}
use mathlib.Core.List.{List, [], ◌∷◌}
use mathlib.Core.Option.{none, some}
use native.Mathlib.Omega.{arith}
use lib.ListN.{length}
use Rattle.calculus.specs.Term.{Term, var, lam}
use Rattle.calculus.specs.Refusal.{given, refused, empty_expression}
use Rattle.calculus.specs.Walk.{Token, lambda, left, right, index}
use Rattle.calculus.specs.Grammar.{Part, with_item, Waits, for_group, for_body, parsed}

-- where a sequence ends: at the end of the text, or before a `)`
pub data Ends {A : Type 0} (close : A) : List A → Type 0 where
  at_the_end : Ends close []
  at_a_right : {xs : List A} → Ends close (close ∷ xs)

mutual
  -- after a part, the tokens give a term and end before the rest
  pub data Sequence : List Token → Part → Term → List Token → Type 0 where
    ends : {t : Term} {rest : List Token} → Ends right rest → Sequence rest (some t) t rest
    item : {ts mid rest : List Token} {p : Part} {g t : Term} → Item ts g mid
        → Sequence mid (some (with_item p g)) t rest
        → Sequence ts p t rest

  -- a variable; an abstraction, whose body is the rest of its sequence; a sequence in parentheses, of which the
  -- last may be missing at the end of the text
  pub data Item : List Token → Term → List Token → Type 0 where
    variable : {i : ℕ} {ts : List Token} → Item (index i ∷ ts) (var i) ts
    abstraction : {ts rest : List Token} {b : Term} → Sequence ts none b rest → Item (lambda ∷ ts) (lam b) rest
    closed : {ts rest : List Token} {t : Term} → Sequence ts none t (right ∷ rest) → Item (left ∷ ts) t rest
    unclosed : {ts : List Token} {t : Term} → Sequence ts none t [] → Item (left ∷ ts) t []

sequence-ends : {ts rest : List Token} {p : Part} {t : Term} → Sequence ts p t rest → Ends right rest
sequence-ends (ends e) = e
sequence-ends (item g s) = sequence-ends s

-- a body ends where its sequence ends
body-ends : {ts : List Token} → Ends right ts → (p : Part) (b : Term) (ps : List Waits)
    → parsed ts (some b) (for_body p ∷ ps) ≡ parsed ts (some (with_item p (lam b))) ps
unfolding parsed
body-ends at_the_end p b ps = refl
body-ends at_a_right p b ps = refl

mutual
  unfolding parsed

  pub sequence-parsed : {ts rest : List Token} {p : Part} {t : Term} → Sequence ts p t rest → (ps : List Waits)
      → parsed ts p ps ≡ parsed rest (some t) ps
  sequence-parsed (ends e) ps = refl
  sequence-parsed (item {p = p} g s) ps = item_parsed g p ps ∙ sequence-parsed s ps

  pub item_parsed : {ts rest : List Token} {t : Term} → Item ts t rest → (p : Part) (ps : List Waits)
      → parsed ts p ps ≡ parsed rest (some (with_item p t)) ps
  item_parsed variable p ps = refl
  item_parsed (abstraction {b = b} s) p ps = sequence-parsed s (for_body p ∷ ps) ∙ body-ends (sequence-ends s) p b ps
  item_parsed (closed s) p ps = sequence-parsed s (for_group p ∷ ps)
  item_parsed (unclosed s) p ps = sequence-parsed s (for_group p ∷ ps)

-- where a sequence of the whole text ends, the text ends
pub sequence-given : {ts rest : List Token} {t : Term} → Sequence ts none t rest → parsed ts none [] ≡ given t
unfolding parsed
sequence-given s = sequence-parsed s [] ∙ at_its_end (sequence-ends s)
  where
    at_its_end : {rest : List Token} {t : Term} → Ends right rest → parsed rest (some t) [] ≡ given t
    at_its_end at_the_end = refl
    at_its_end at_a_right = refl

-- after a part, tokens begin with a sequence, or something in them is empty
pub data Begins (ts : List Token) (p : Part) : Type 0 where
  sequence : (t : Term) (rest : List Token) → length rest ≤ length ts → Sequence ts p t rest → Begins ts p
  empty : ((ps : List Waits) → parsed ts p ps ≡ refused empty_expression) → Begins ts p

after_item : {ts mid : List Token} {g : Term} (p : Part) → length mid ≤ length ts → Item ts g mid
    → Begins mid (some (with_item p g)) → Begins ts p
after_item p h g (sequence t rest k s) = sequence t rest (omega arith) (item g s)
after_item p h g (empty e) = empty (λ ps. item_parsed g p ps ∙ e ps)

after-lambda : {ts : List Token} (p : Part) → Begins ts none → Begins (lambda ∷ ts) p
unfolding parsed
after-lambda p (sequence b rest h s) =
    sequence (with_item p (lam b)) rest (omega arith) (item (abstraction s) (ends (sequence-ends s)))
after-lambda p (empty e) = empty (λ ps. e (for_body p ∷ ps))

-- a group, and what comes after it, of which `go` tells how it begins
after-left : {ts : List Token} (p : Part) → ((mid : List Token) (q : Part) → length mid ≤ length ts → Begins mid q)
    → Begins ts none → Begins (left ∷ ts) p
unfolding parsed
after-left {ts} p go (sequence g rest h s) = by_end (sequence-ends s) h s
  where
    by_end : {rest : List Token} → Ends right rest → length rest ≤ length ts → Sequence ts none g rest
        → Begins (left ∷ ts) p
    by_end at_the_end h s = after_item p (omega arith) (unclosed s) (go [] (some (with_item p g)) (omega arith))
    by_end (at_a_right {xs = mid}) h s =
        after_item p (omega arith) (closed s) (go mid (some (with_item p g)) (omega arith))
after-left p go (empty e) = empty (λ ps. e (for_group p ∷ ps))

-- how tokens begin, by how all shorter ones do
by_shorter : (ts : List Token) (p : Part) → ((mid : List Token) (q : Part) → length mid < length ts → Begins mid q)
    → Begins ts p
unfolding parsed
by_shorter [] none go = empty (λ ps. refl)
by_shorter [] (some t) go = sequence t [] (omega arith) (ends at_the_end)
by_shorter (right ∷ ts) none go = empty (λ ps. refl)
by_shorter (right ∷ ts) (some t) go = sequence t (right ∷ ts) (omega arith) (ends at_a_right)
by_shorter (index i ∷ ts) p go =
    after_item p (omega arith) variable (go ts (some (with_item p (var i))) (omega arith))
by_shorter (lambda ∷ ts) p go = after-lambda p (go ts none (omega arith))
by_shorter (left ∷ ts) p go = after-left p (λ mid q h. go mid q (omega arith)) (go ts none (omega arith))

begins_in : (n : ℕ) (ts : List Token) (p : Part) → length ts ≤ n → Begins ts p
begins_in zero ts p h = by_shorter ts p (λ mid q k. absurd (omega arith))
begins_in (suc n) ts p h = by_shorter ts p (λ mid q k. begins_in n mid q (omega arith))

pub begins : (ts : List Token) (p : Part) → Begins ts p
begins ts p = begins_in (length ts) ts p (omega arith)

-- a text for which some term is parsed begins with a sequence
pub parsed-sequence : (ts : List Token) (t : Term) → parsed ts none [] ≡ given t
    → (rest : List Token) × Sequence ts none t rest
parsed-sequence ts t e = of (begins ts none)
  where
    of : Begins ts none → (rest : List Token) × Sequence ts none t rest
    of (sequence u rest h s) = let same : u ≡ t = cc (sequence-given s) in (rest, rw (← same) s)
    of (empty f) = let never : ◌≡◌ {A = ℕ} 0 1 = cc (f []) in absurd (omega arith)

-- PARSING GIVES A TERM EXACTLY IF THE TOKENS BEGIN WITH A SEQUENCE FOR IT
pub parsed↔sequence : (ts : List Token) (t : Term)
    → (parsed ts none [] ≡ given t) ↔ ((rest : List Token) × Sequence ts none t rest)
parsed↔sequence ts t = (parsed-sequence ts t, λ s. sequence-given s.1)
