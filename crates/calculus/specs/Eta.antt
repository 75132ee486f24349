-- Eta: one contraction, the sequence in which places are taken, and when it is finished.
use Rattle.std.specs.Prelude.{ℕ, zero, suc, pred, Bool, true, false, not, ◌&&◌, ◌||◌, cond, leb, ltb, eqb}
use Rattle.std.proofs.Math.Option.{Option, none, some}
use Rattle.calculus.specs.Term.{Term, var, lam, app, nodes}
use Rattle.calculus.specs.Runs.{Run, finished, unfinished}

-- the binder or index 0 is in a term that lies under d abstractions below the binder
unfoldable pub blocked : ℕ → Term → Bool
blocked d (var i) = eqb i 0 || eqb i (suc d)
blocked d (lam b) = blocked (suc d) b
blocked d (app l r) = blocked d l || blocked d r

-- the indices that are free there lowered by 1
unfoldable pub lower : ℕ → Term → Term
lower d (var i) = cond (leb i (suc d)) (var i) (var (pred i))
lower d (lam b) = lam (lower (suc d) b)
lower d (app l r) = app (lower d l) (lower d r)

-- whether a term is the variable 1
abbrev pub is_one : Term → Bool
is_one (var i) = eqb i 1
is_one (lam b) = false
is_one (app l r) = false

-- M 1 under a binder, where M has neither the binder nor index 0 in it: M with its free indices lowered
abbrev pub eta_body : Term → Option Term
eta_body (var i) = none
eta_body (lam b) = none
eta_body (app m a) = cond (is_one a && not (blocked 0 m)) (some (lower 0 m)) none

-- \(M 1) contracted, if it may be
abbrev pub eta_step : Term → Option Term
eta_step (var i) = none
eta_step (lam b) = eta_body b
eta_step (app l r) = none

abbrev pub is_some : Option Term → Bool
is_some none = false
is_some (some t) = true

-- some place is left in a term
unfoldable pub has_place : Term → Bool
unfolding blocked lower
has_place (var i) = false
has_place (lam b) = is_some (eta_step (lam b)) || has_place b
has_place (app l r) = has_place l || has_place r

-- the steps made so far, and the term that they lead to
abbrev pub Counted : Type 0
Counted = ℕ × Term

-- a step may follow so many: limit 0 is none
abbrev pub may_follow : (limit steps : ℕ) → Bool
may_follow limit steps = eqb limit 0 || ltb steps limit

-- the step at a node, if one may follow
abbrev pub step_if : Bool → Term → Option Term
step_if true t = eta_step t
step_if false t = none

abbrev pub stay_or : Counted → (Term → Counted) → Option Term → Counted
stay_or here go none = here
stay_or here go (some u) = go u

-- AT A NODE CONTRACT WHILE POSSIBLE; each step takes three nodes, so as many tries as nodes are enough
unfoldable pub while_possible : (more : ℕ → Bool) (tries : ℕ) → ℕ → Term → Counted
unfolding blocked lower
while_possible more zero n t = (n, t)
while_possible more (suc tries) n t = stay_or (n, t) (while_possible more tries (suc n)) (step_if (more n) t)

-- THEN DO THE PARTS, LEFT FIRST; THEN, AT AN ABSTRACTION, CONTRACT WHILE POSSIBLE AGAIN
abbrev pub do_parts : (again go : ℕ → Term → Counted) → ℕ → Term → Counted
do_parts again go n (var i) = (n, var i)
do_parts again go n (lam b) = let c = go n b in again c.0 (lam c.1)
do_parts again go n (app l r) = let c = go n l in let d = go c.0 r in (d.0, app c.1 d.1)

-- the whole sequence; a part has fewer nodes than the whole, so here too as many tries as nodes are enough
unfoldable pub eta_from : (more : ℕ → Bool) (tries : ℕ) → ℕ → Term → Counted
unfolding while_possible
eta_from more zero n t = (n, t)
eta_from more (suc tries) n t =
    let c = while_possible more (suc tries) n t in
    do_parts (while_possible more (suc tries)) (eta_from more tries) c.0 c.1

-- FINISHED exactly if no place remains
abbrev pub eta_ended : Counted → Run Term
unfolding has_place
eta_ended c = cond (has_place c.1) (unfinished c.0 c.1) (finished c.0 c.1)

unfoldable pub eta : (limit : ℕ) → Term → Run Term
unfolding eta_from has_place nodes
eta limit t = eta_ended (eta_from (may_follow limit) (nodes t) 0 t)
