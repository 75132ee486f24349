-- From a check's answer to a query's: a refusal is handed on, and a fact is what the query asks.
use Rattle.std.specs.Prelude.{ℕ, Bool, not, ◌≡◌, List, Result, Ok, Err, IsErrAnd}
use Rattle.std.proofs.Common.{refl, sym, ap, ◌∙◌}
use Rattle.calculus.specs.Term.{Term, nodes, height}
use Rattle.calculus.specs.Bounds.{most_nodes}
use Rattle.calculus.specs.Refusal.{Answer, given, refused, ◌then◌}
use Rattle.calculus.specs.Outcomes.{query_of, checked, nodes_of, height_of, max_depth_of, max_free_index_of}
use Rattle.calculus.specs.Outcomes.{has_free_variables_of, is_supercombinator_of}
use Rattle.calculus.specs.Queries.{max_depth, max_free_index, has_free_variables}
use Rattle.term.specs.FactsOf.{facts_of}
use Rattle.term.specs.Answers.{told, check_of}
use Rattle.term.specs.declared.Facts.{Facts}
use Rattle.term.specs.declared.Refusal.{Refusal}
use Rattle.term.proofs.Checking.{check-whole, check-refused, handed_on}

module _ {A : Type 0} (ask : Term → A) (s : List ℕ) {r : Result Facts Refusal}
    (says : told r ≡ check_of most_nodes s) where
  pub refused_alike : (q : Result A Refusal) {why : Refusal} → IsErrAnd q (λ y. y ≡ why) → r ≡ Err why
      → told q ≡ query_of ask s
  unfolding query_of
  refused_alike q h e = rw (check-refused most_nodes s says e) (handed_on q _ h)

  pub given_alike : (pick : Facts → A) → ((t : Term) → pick (facts_of 0 t) ≡ ask t) → {f : Facts} → r ≡ Ok f
      → given (pick f) ≡ query_of ask s
  unfolding query_of
  given_alike pick same e =
      let whole = check-whole most_nodes s says e in
      rw whole.let_through (ap given (ap pick whole.same ∙ same whole.term))

-- WHAT A QUERY IS of the facts that the check tells
by_facts : {A : Type 0} (ask : Term → A) (pick : Facts → A) → ((t : Term) → pick (facts_of 0 t) ≡ ask t) → (s : List ℕ)
    → query_of ask s ≡ (check_of most_nodes s then (λ f. given (pick f)))
unfolding query_of check_of
by_facts ask pick same s = read (checked most_nodes s)
  where
    read : (a : Answer Term) → (a then (λ t. given (ask t)))
        ≡ (a then (λ t. given (facts_of 0 t)) then (λ f. given (pick f)))
    read (given t) = ap given (sym (same t))
    read (refused why) = refl

module _ (s : List ℕ) where
  pub nodes_asked : nodes_of s ≡ (check_of most_nodes s then (λ f. given f.nodes))
  unfolding nodes_of facts_of
  nodes_asked = by_facts nodes (λ f. f.nodes) (λ t. refl) s

  pub height_asked : height_of s ≡ (check_of most_nodes s then (λ f. given f.height))
  unfolding height_of facts_of
  height_asked = by_facts height (λ f. f.height) (λ t. refl) s

  pub depth_asked : max_depth_of s ≡ (check_of most_nodes s then (λ f. given f.depth))
  unfolding max_depth_of facts_of
  depth_asked = by_facts max_depth (λ f. f.depth) (λ t. refl) s

  pub free_index_asked : max_free_index_of s ≡ (check_of most_nodes s then (λ f. given f.reach))
  unfolding max_free_index_of facts_of
  free_index_asked = by_facts max_free_index (λ f. f.reach) (λ t. refl) s

  pub free_asked : has_free_variables_of s ≡ (check_of most_nodes s then (λ f. given f.free))
  unfolding has_free_variables_of facts_of
  free_asked = by_facts has_free_variables (λ f. f.free) (λ t. refl) s

-- an answer that is worked on further
further : {A B : Type 0} (ask : Term → A) (more : A → B) (s : List ℕ)
    → (query_of ask s then (λ a. given (more a))) ≡ query_of (λ t. more (ask t)) s
unfolding query_of
further ask more s = read (checked most_nodes s)
  where
    read : (a : Answer Term) → (a then (λ t. given (ask t)) then (λ x. given (more x)))
        ≡ (a then (λ t. given (more (ask t))))
    read (given t) = refl
    read (refused why) = refl

module _ (s : List ℕ) {r : Result Bool Refusal} (says : told r ≡ has_free_variables_of s) where
  opposite : (b : Result Bool Refusal) → r ≡ b → (told b then (λ free. given (not free))) ≡ is_supercombinator_of s
  unfolding is_supercombinator_of has_free_variables_of
  opposite b e = ap (λ a. a then (λ b. given (not b))) (rw e at says) ∙ further has_free_variables not s

  pub opposite_refused : (q : Result Bool Refusal) {why : Refusal} → IsErrAnd q (λ y. y ≡ why) → r ≡ Err why
      → told q ≡ is_supercombinator_of s
  opposite_refused q h e = handed_on q _ h ∙ opposite _ e

  pub opposite_given : {b : Bool} → r ≡ Ok b → given (not b) ≡ is_supercombinator_of s
  opposite_given e = opposite _ e
