-- Shrinking a named term is eta's sequence on the term that is meant, and tells whether a place is left.
use Prim.Native.Nat.{ℕ, zero, suc, pred, ◌+◌, ◌≤◌, ◌<◌}
use mathlib.Core.Path.{◌≡◌, refl, ap, ap₂, ◌∙◌}
use mathlib.Core.Bool.{Bool, true, false, ◌&&◌, ◌||◌, cond}
use mathlib.Core.List.{List, [], ◌∷◌}
use mathlib.Core.Option.{none, some}
use native.Mathlib.Omega.{arith}
use lib.ListN.{length}
use Rattle.calculus.specs.Term.{Term, var, lam, app, nodes, height, greatest_index}
use Rattle.calculus.specs.Bounds.{most_height, greatest_number}
use Rattle.calculus.specs.Runs.{finished, unfinished}
use Rattle.calculus.specs.Ends.{at_root}
use Rattle.calculus.specs.Eta.{eta_step, has_place, Counted, may_follow, step_if, while_possible, do_parts, eta_from}
use Rattle.calculus.specs.Eta.{eta}
use Rattle.calculus.proofs.Measures.{nodes_positive}
use Rattle.calculus.proofs.Lowering.{eta_smaller}
use Rattle.calculus.proofs.EtaRuns.{placeless, eta-comes}
use Rattle.calculus.proofs.EtaTries.{while-enough}
use Rattle.eta.specs.Named.{Named, loose, binds, joins, named, place, plain, levels}
use Rattle.eta.specs.Scope.{Scoped}
use Rattle.eta.specs.Shrinking.{applied, shrunk}
use Rattle.eta.proofs.Levels.{of_loose, plain-named, scoped-named}
use Rattle.eta.proofs.Uses.{may_go}
use Rattle.eta.proofs.Ways.{After, goes, kept, stays}
use Rattle.eta.proofs.Ways.{Way, at_bound, at_loose, at_place, at_binder, at_joins, way}
use Rattle.eta.proofs.Dropping.{no_step, step_drops, scoped_drops, places-drop}

module _ (more : ℕ → Bool) where
  -- WHAT MAY STAND WHERE
  scoped-after : (around : List ℕ) {k n m : ℕ} {left left' : Bool} {b σ : Named}
      → After more k n b left m σ left' → Scoped around (binds k b)
      → Scoped around σ
  unfolding Scoped
  scoped-after around {k} (goes p f) (t, _, s) = scoped_drops k around t p s
  scoped-after around (kept p f) s = s
  scoped-after around (stays e) s = s

  scoped-way : (around : List ℕ) {n m : ℕ} {τ σ : Named} {left : Bool} → Way more n τ m σ left → Scoped around τ
      → Scoped around σ
  unfolding Scoped
  scoped-way around at_bound s = s
  scoped-way around at_loose s = s
  scoped-way around (at_place {k = k} p f w) (t, _, s) =
      scoped-way around w (scoped_drops k around t p s)
  scoped-way around (at_binder {k = k} e w a) (t, c, s) =
      scoped-after around a (t, c, scoped-way (k ∷ around) w s)
  scoped-way around (at_joins w v) (s, t) = (scoped-way around w s, scoped-way around v t)

  pub scoped-shrunk : (n : ℕ) (around : List ℕ) (τ : Named) → Scoped around τ → Scoped around (shrunk more n τ).1
  scoped-shrunk n around τ = scoped-way around (way more n τ)

  -- THE PLACES THAT ARE LEFT
  left_after : (around : List ℕ) {k n m : ℕ} {left left' : Bool} {b σ : Named}
      → After more k n b left m σ left' → Scoped around (binds k b)
      → has_place (plain (k ∷ around) b) ≡ left
      → has_place (plain around σ) ≡ left'
  unfolding Scoped plain has_place
  left_after around {k} (goes p f) (t, _, s) h = places-drop k around t p s ∙ h
  left_after around {k} (kept p f) (t, _, s) h = rw (step_drops k around t p s)
  left_after around {k} (stays {b = b} e) (t, _, s) h = rw (no_step k around t b s e, h)

  left-way : (around : List ℕ) {n m : ℕ} {τ σ : Named} {left : Bool} → Way more n τ m σ left → Scoped around τ
      → has_place (plain around σ) ≡ left
  unfolding Scoped plain has_place
  left-way around at_bound s = refl
  left-way around (at_loose {j = j}) s = of_loose (λ t. has_place t ≡ false) around j (λ e. refl) (λ h. refl)
  left-way around (at_place {k = k} p f w) (t, _, s) =
      left-way around w (scoped_drops k around t p s)
  left-way around (at_binder {k = k} e w a) (t, c, s) =
      left_after around a (t, c, scoped-way (k ∷ around) w s) (left-way (k ∷ around) w s)
  left-way around (at_joins w v) (s, t) = ap₂ ◌||◌ (left-way around w s) (left-way around v t)

  pub place-left : (n : ℕ) (around : List ℕ) (τ : Named) → Scoped around τ
      → has_place (plain around (shrunk more n τ).1) ≡ (shrunk more n τ).2
  place-left n around τ = left-way around (way more n τ)

  -- ETA'S SEQUENCE at a node: it waits where no step may follow, and goes on where one does
  waits : (tries n : ℕ) (t : Term) → step_if (more n) t ≡ none → while_possible more tries n t ≡ (n, t)
  unfolding while_possible
  waits zero n t e = refl
  waits (suc tries) n t e = rw e

  goes_on : (tries n : ℕ) (t : Term) {u : Term} → 0 < tries → more n ≡ true → eta_step t ≡ some u
      → while_possible more tries n t ≡ while_possible more (pred tries) (suc n) u
  unfolding while_possible
  goes_on zero n t h a e = absurd (omega arith)
  goes_on (suc tries) n t h a e = rw (a, e)

  no-step_if : (may : Bool) (t : Term) → eta_step t ≡ none → step_if may t ≡ none
  no-step_if true t e = e
  no-step_if false t e = refl

  -- where it waits, the parts are done
  eta-parts : (tries n : ℕ) (t : Term) → nodes t ≤ tries → step_if (more n) t ≡ none
      → eta_from more tries n t ≡ do_parts (while_possible more tries) (eta_from more (pred tries)) n t
  unfolding eta_from
  eta-parts zero n t h e = absurd (omega (arith, nodes_positive t))
  eta-parts (suc tries) n t h e = rw (waits (suc tries) n t e)

  eta-variable : (tries n i : ℕ) → 1 ≤ tries → eta_from more tries n (var i) ≡ (n, var i)
  unfolding nodes
  eta-variable tries n i h = eta-parts tries n (var i) h (no-step_if (more n) (var i) refl)

  -- where it goes on, it does so as from the term contracted
  eta_on : (tries n : ℕ) (t : Term) {u : Term} → nodes t ≤ tries → more n ≡ true → eta_step t ≡ some u
      → (nodes u ≤ tries) × (eta_from more tries n t ≡ eta_from more tries (suc n) u)
  unfolding eta_from
  eta_on zero n t h a e = absurd (omega (arith, nodes_positive t))
  eta_on (suc tries) n t {u} h a e =
      let fewer = (eta_smaller {t = t} (at_root e)).three_nodes in (
        omega arith,
        rw (goes_on (suc tries) n t (omega arith) a e
            ∙ while-enough more tries (suc tries) (suc n) u (omega arith) (omega arith)),
      )

  -- AT AN ABSTRACTION AGAIN: one step at most, since it leaves no place
  eta-after : (around : List ℕ) (tries : ℕ) {k n m : ℕ} {left left' : Bool} {b σ : Named} → 0 < tries
      → After more k n b left m σ left' → Scoped around (binds k b)
      → (more n ≡ true → has_place (plain (k ∷ around) b) ≡ false)
      → while_possible more tries n (lam (plain (k ∷ around) b)) ≡ (m, plain around σ)
  unfolding Scoped plain
  eta-after around tries {k} {n} h (goes {b = b} p f) (t, _, s) settled =
      let u = plain around (applied b) in
      goes_on tries n (lam (plain (k ∷ around) b)) h f (step_drops k around t p s)
      ∙ waits (pred tries) (suc n) u
      (no-step_if (more (suc n)) u (placeless u (places-drop k around t p s ∙ settled f)))
  eta-after around tries {k} {n} h (kept {b = b} p f) s settled =
      waits tries n (lam (plain (k ∷ around) b)) (rw f)
  eta-after around tries {k} {n} h (stays {b = b} e) (t, _, s) settled =
      let B = lam (plain (k ∷ around) b) in
      waits tries n B (no-step_if (more n) B (no_step k around t b s e))

  -- a binder that may go is kept where no step may follow
  waits_before : (around : List ℕ) (n k : ℕ) (b : Named) → Scoped around (binds k b) → (may_go k b && more n) ≡ false
      → step_if (more n) (lam (plain (k ∷ around) b)) ≡ none
  unfolding Scoped
  waits_before around n k b (t, _, s) e = by_test (may_go k b) refl e
    where
      by_test : (x : Bool) → may_go k b ≡ x → (x && more n) ≡ false
          → step_if (more n) (lam (plain (k ∷ around) b)) ≡ none
      by_test true g f = rw f
      by_test false g f = no-step_if (more n) (lam (plain (k ∷ around) b)) (no_step k around t b s g)

  eta-way : (around : List ℕ) (tries : ℕ) {n m : ℕ} {τ σ : Named} {left : Bool} → Way more n τ m σ left
      → Scoped around τ → nodes (plain around τ) ≤ tries
      → eta_from more tries n (plain around τ) ≡ (m, plain around σ)
  unfolding Scoped plain nodes
  eta-way around tries (at_bound {n} {k}) s h = eta-variable tries n (place k around) h
  eta-way around tries (at_loose {n} {j}) s h =
      let some_tries : 1 ≤ tries = omega (arith, nodes_positive (plain around (loose j))) in
      of_loose (λ t. eta_from more tries n t ≡ (n, t)) around j (λ e. eta-variable tries n 0 some_tries)
      (λ l. eta-variable tries n (j + length around) some_tries)
  eta-way around tries (at_place {n} {k} {b = b} p f w) (t, _, s) h =
      let (g, on) = eta_on tries n (plain around (binds k b)) h f (step_drops k around t p s) in
      on ∙ eta-way around tries w (scoped_drops k around t p s) g
  eta-way around tries (at_binder {n} {k} {b = b} e w a) (t, c, s) h =
      let few : nodes (plain (k ∷ around) b) ≤ pred tries = omega arith in
      let body = eta-way (k ∷ around) (pred tries) w s few in
      eta-parts tries n (plain around (binds k b)) h (waits_before around n k b (t, c, s) e)
      ∙ ap (λ (c : Counted). while_possible more tries c.0 (lam c.1)) body
      ∙ eta-after around tries (omega arith) a (t, c, scoped-way (k ∷ around) w s)
      (rw body at (eta-comes more (pred tries) n (plain (k ∷ around) b) few).so)
  eta-way around tries (at_joins {n} {l = l} {r} {σ} w v) (s, t) h =
      eta-parts tries n (plain around (joins l r)) h (no-step_if (more n) _ refl)
      ∙ ap (λ (c : Counted). let d = eta_from more (pred tries) c.0 (plain around r) in (d.0, app c.1 d.1))
      (eta-way around (pred tries) w s (omega arith))
      ∙ ap (λ (d : Counted). (d.0, app (plain around σ) d.1)) (eta-way around (pred tries) v t (omega arith))

  pub eta-shrunk : (tries n : ℕ) (around : List ℕ) (τ : Named) → Scoped around τ → nodes (plain around τ) ≤ tries
      → eta_from more tries n (plain around τ) ≡ ((shrunk more n τ).0, plain around (shrunk more n τ).1)
  eta-shrunk tries n around τ = eta-way around tries (way more n τ)

-- A WHOLE TERM
pub eta-whole : (limit : ℕ) (t : Term) → greatest_index t ≤ greatest_number → height t ≤ most_height
    → let c = shrunk (may_follow limit) 0 (named 0 t) in
    eta limit t ≡ cond c.2 (unfinished c.0 (plain [] c.1)) (finished c.0 (plain [] c.1))
unfolding eta levels
eta-whole limit t g h =
    let scoped : Scoped [] (named 0 t) = scoped-named 0 t g (omega arith) in
    let same : plain [] (named 0 t) ≡ t = plain-named 0 t in
    let few : nodes (plain [] (named 0 t)) ≤ nodes t = rw same (omega arith) in
    let run = eta-shrunk (may_follow limit) (nodes t) 0 [] (named 0 t) scoped few in
    rw (rw same at run, place-left (may_follow limit) 0 [] (named 0 t) scoped)
