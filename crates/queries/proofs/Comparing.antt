-- Two terms compared from the root, node by node, at one offset of each input.
use Prim.Native.Nat.{ℕ, ◌+◌, ◌-◌, ◌≤◌}
use mathlib.Core.Path.{◌≡◌, refl, sym, ap, ◌∙◌}
use mathlib.Core.Bool.{Bool, true, false}
use mathlib.Core.List.{List}
use native.Mathlib.Omega.{arith}
use lib.ListN.{drop}
use Rattle.calculus.specs.Term.{Term, var, height}
use Rattle.calculus.specs.Bounds.{most_nodes, most_height}
use Rattle.calculus.specs.Refusal.{Answer, given, refused, ◌then◌}
use Rattle.calculus.specs.Outcomes.{checked, equality_of}
use Rattle.calculus.proofs.Coding.{AllBytes}
use Rattle.calculus.proofs.Judged.{checked-given}
use Rattle.calculus.specs.Queries.{same}
use Rattle.calculus.proofs.Equality.{same_refl, same_equal}
use Rattle.calculus.proofs.Measures.{height_positive}
use Rattle.calculus.proofs.Sizes.{size}
use Rattle.calculus.proofs.Tests.{is_false}
use Rattle.term.specs.Heads.{head_in}
use Rattle.term.specs.Surveys.{Stands, Begins}
use Rattle.term.specs.declared.Head.TheVariants.{Variable, Abstraction, Application}
use Rattle.term.specs.Answers.{told, check_of}
use Rattle.term.specs.FactsOf.{facts_of}
use Rattle.term.specs.declared.Facts.{Facts}
use Rattle.term.specs.declared.Refusal.{Refusal}
use Rattle.std.specs.Prelude.{Option, Some, None, is_some, Result, Ok, Err, IsErrAnd}
use Rattle.term.proofs.Checking.{decoded_stands, check-whole, check-refused, handed_on}
use Rattle.term.proofs.Places.{head_of_term, head_at, term-begins}
use Rattle.term.proofs.Places.{is-variable, is-abstraction, is-application}
use Rattle.queries.specs.Comparing.{Low, until_if, Compares}

-- WHAT THE COMPARISON ANSWERS at each head
until_is : (b : Bool) {end next : ℕ} → Some next ≡ until_if b end → (b ≡ true) × (next ≡ end)
until_is true e = (refl, cc)
until_is false e = let never : ◌≡◌ {A = ℕ} 0 1 = cc in absurd (omega arith)

differs_is : (b : Bool) (end : ℕ) → None ≡ until_if b end → b ≡ false
differs_is true end e = let never : ◌≡◌ {A = ℕ} 0 1 = cc in absurd (omega arith)
differs_is false end e = refl

module _ {s u : List ℕ} {at : ℕ} where
  pub differ_here : (head_in (drop at s) ≡ head_in (drop at u) → ⊥) → Compares s u at None
  differ_here ne = record {
    compared = λ t v st su.
        rw (is_false (same t v) (λ e. ne (head_at st ∙ ap head_of_term (same_equal t v e) ∙ sym (head_at su))));
  }

  pub same-variable : {i : ℕ} → head_in (drop at s) ≡ Some (Variable i) → head_in (drop at u) ≡ Some (Variable i)
      → Compares s u at (Some (at + 9))
  unfolding size
  same-variable {i} h k = record {
    compared = λ t v st su. rw (is-variable t h st, is-variable v k su, same_refl (var i));
  }

  pub same-abstraction : {r : Option ℕ} → head_in (drop at s) ≡ Some Abstraction → head_in (drop at u) ≡ Some Abstraction
      → Compares s u (at + 1) r → Compares s u at r
  unfolding same size
  same-abstraction h k body = record {
    compared = λ t v st su.
        let x = is-abstraction t h st in
        let y = is-abstraction v k su in
        let found = body.compared x.body y.body x.body_at y.body_at in
        rw (x.same, y.same) (found ∙ ap (until_if (same x.body y.body)) (omega arith));
  }

  pub left_differs : {l : Option ℕ} → head_in (drop at s) ≡ Some Application → head_in (drop at u) ≡ Some Application
      → Compares s u (at + 1) l → l ≡ None → Compares s u at None
  unfolding same
  left_differs h k left e = record {
    compared = λ t v st su.
        let x = is-application t h st in
        let y = is-application v k su in
        let found = left.compared x.left y.left x.left_at y.left_at in
        rw (x.same, y.same, differs_is (same x.left y.left) (at + 1 + size x.left) (sym e ∙ found));
  }

  -- the left parts are the same: where the right ones stand
  left-same : {l : Option ℕ} {mid : ℕ} → (h : head_in (drop at s) ≡ Some Application) (k : head_in (drop at u) ≡ Some Application)
      → Compares s u (at + 1) l → l ≡ Some mid → (t v : Term) (st : Stands s at t) (su : Stands u at v)
      → let x = is-application t h st in let y = is-application v k su in
      (same x.left y.left ≡ true) × (mid ≡ at + 1 + size x.left)
      × Stands s mid x.right × Stands u mid y.right
  left-same h k left e t v st su =
      let x = is-application t h st in
      let y = is-application v k su in
      let found = left.compared x.left y.left x.left_at y.left_at in
      let (alike, end) = until_is (same x.left y.left) (sym e ∙ found) in
      let one = same_equal x.left y.left alike in
      (alike, end, rw end x.right_at, rw (end, one) y.right_at)

  pub same-application : {l r : Option ℕ} {mid : ℕ} → head_in (drop at s) ≡ Some Application
      → head_in (drop at u) ≡ Some Application → Compares s u (at + 1) l → l ≡ Some mid → Compares s u mid r
      → Compares s u at r
  unfolding same size
  same-application h k left e right = record {
    compared = λ t v st su.
        let x = is-application t h st in
        let y = is-application v k su in
        let (alike, end, rs, ru) = left-same h k left e t v st su in
        let found = right.compared x.right y.right rs ru in
        rw (x.same, y.same, alike) (found ∙ ap (until_if (same x.right y.right)) (omega arith));
  }

-- WHAT A CALL ASKS
stands-low : {s : List ℕ} {at room : ℕ} {t : Term} → Stands s at t → height t ≤ room → Low s at room
stands-low {t = t} st low =
    let positive = height_positive t in
    record {
      begins = record { term = t; stands = st; inside = (term-begins st).inside };
      low = low;
      some_room = omega arith;
    }

module _ {s : List ℕ} {at room : ℕ} (st : Low s at room) where
  pub body-low : head_in (drop at s) ≡ Some Abstraction → Low s (at + 1) (room - 1)
  unfolding height
  body-low h =
      let x = is-abstraction st.begins.term h st.begins.stands in
      stands-low x.body_at (omega (arith, st.low, ap height x.same))

  pub left-low : head_in (drop at s) ≡ Some Application → Low s (at + 1) (room - 1)
  unfolding height
  left-low h =
      let x = is-application st.begins.term h st.begins.stands in
      stands-low x.left_at (omega (arith, st.low, ap height x.same))

  module _ {u : List ℕ} (su : Begins u at) {l : Option ℕ} {mid : ℕ} (h : head_in (drop at s) ≡ Some Application)
      (k : head_in (drop at u) ≡ Some Application) (left : Compares s u (at + 1) l) (e : l ≡ Some mid) where
    pub right-low : Low s mid (room - 1)
    unfolding height
    right-low =
        let x = is-application st.begins.term h st.begins.stands in
        let (alike, end, rs, ru) =
        left-same h k left e st.begins.term su.term st.begins.stands su.stands in
        stands-low rs (omega (arith, st.low, ap height x.same))

    pub right-begins : Begins u mid
    right-begins =
        let (alike, end, rs, ru) =
        left-same h k left e st.begins.term su.term st.begins.stands su.stands in
        term-begins ru

-- THE ANSWER for two inputs
pub whole-low : (s : List ℕ) {r : Result Facts Refusal} {f : Facts} → AllBytes s → told r ≡ check_of most_nodes s → r ≡ Ok f
    → Low s 0 most_height
whole-low s bytes says e =
    let w = check-whole most_nodes s says e in
    let (decoded, low, few) = checked-given s w.let_through in
    stands-low (decoded_stands s bytes decoded) low

-- whatever the comparison finds, the first input's refusal comes first, then the second's
pub equality_asked : (s u : List ℕ)
    → equality_of s u ≡ (check_of most_nodes s then (λ f. check_of most_nodes u then (λ g. equality_of s u)))
unfolding equality_of check_of
equality_asked s u = read (checked most_nodes s) refl
  where
    read-second : (t : Term) (b : Answer Term)
        → (b then (λ v. given (same t v))) ≡ (b then (λ v. given (facts_of 0 v)) then (λ g. b then (λ v. given (same t v))))
    read-second t (given v) = refl
    read-second t (refused why) = refl

    read : (a : Answer Term) → checked most_nodes s ≡ a
        → (a then (λ t. checked most_nodes u then (λ v. given (same t v))))
        ≡ (a then (λ t. given (facts_of 0 t)) then (λ f. checked most_nodes u then (λ v. given (facts_of 0 v))
        then (λ g. checked most_nodes s then (λ t. checked most_nodes u then (λ v. given (same t v))))))
    read (given t) e = rw e (read-second t (checked most_nodes u))
    read (refused why) e = refl

module _ (s u : List ℕ) {r : Result Facts Refusal} (says : told r ≡ check_of most_nodes s) where
  pub refuses-first : (a : Result Bool Refusal) {why : Refusal} → IsErrAnd a (λ y. y ≡ why) → r ≡ Err why
      → told a ≡ equality_of s u
  unfolding equality_of
  refuses-first a h e = rw (check-refused most_nodes s says e) (handed_on a _ h)

  module _ {f : Facts} (e : r ≡ Ok f) {q : Result Facts Refusal} (says' : told q ≡ check_of most_nodes u) where
    pub refuses-second : (a : Result Bool Refusal) {why : Refusal} → IsErrAnd a (λ y. y ≡ why) → q ≡ Err why
        → told a ≡ equality_of s u
    unfolding equality_of
    refuses-second a h k =
        let w = check-whole most_nodes s says e in
        rw (w.let_through, check-refused most_nodes u says' k) (handed_on a _ h)

    -- the comparison is about the two terms that were let through
    pub answers : {g : Facts} {x : Option ℕ} → q ≡ Ok g → AllBytes s → AllBytes u → Compares s u 0 x
        → given (is_some x) ≡ equality_of s u
    unfolding equality_of
    answers k bytes bytes' found =
        let w = check-whole most_nodes s says e in
        let z = check-whole most_nodes u says' k in
        let st = decoded_stands s bytes (checked-given s w.let_through).0 in
        let su = decoded_stands u bytes' (checked-given u z.let_through).0 in
        let same_so = found.compared w.term z.term st su in
        rw (w.let_through, z.let_through, same_so) (ap given (agrees_until (same w.term z.term) _))
      where
        agrees_until : (b : Bool) (end : ℕ) → is_some (until_if b end) ≡ b
        agrees_until true end = refl
        agrees_until false end = refl
