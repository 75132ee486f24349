-- ETA'S OUTCOME BY THE RULES of its sequence: it is what they say, and nothing else is.
use Prim.Native.Nat.{ℕ, zero, suc, ◌≤◌}
use mathlib.Core.Path.{◌≡◌, refl}
use mathlib.Core.Bool.{Bool, true, false}
use mathlib.Core.List.{List}
use mathlib.Core.Option.{Option, none, some}
use native.Mathlib.Omega.{arith}
use Rattle.calculus.specs.Term.{Term, var, lam, app, nodes}
use Rattle.calculus.specs.Runs.{Run}
use Rattle.calculus.specs.Ends.{at_root}
use Rattle.calculus.specs.Eta.{has_place, Counted, may_follow, step_if, stay_or, while_possible, do_parts, eta_from}
use Rattle.calculus.specs.Eta.{eta_ended, eta}
use Rattle.calculus.specs.Outcomes.{cap_allowed, eta_of}
use Rattle.calculus.proofs.Measures.{nodes_positive}
use Rattle.calculus.proofs.Lowering.{eta_smaller}
use Rattle.calculus.proofs.EtaRuns.{nodes-taken, step-allowed, while-comes, eta-comes}
use Rattle.finality.specs.EtaRules.{While, no_more, once_more, Sequence, at_variable, at_abstraction}
use Rattle.finality.specs.EtaRules.{at_application, EtaEndsBy, none_left, some_left}
use Rattle.finality.specs.Meaning.{Answers}
use Rattle.finality.proofs.Meaning.{means, only}

module _ (more : ℕ → Bool) where
  smaller : (n : ℕ) (t : Term) {u : Term} → step_if (more n) t ≡ some u → suc (nodes u) ≤ nodes t
  smaller n t e =
      let (_, k) = step-allowed more (more n) t e in
      omega (arith, (eta_smaller {t = t} (at_root k)).three_nodes)

  -- THE FUNCTION FOLLOWS THE RULES
  while_rules : (tries n : ℕ) (t : Term) → nodes t ≤ tries
      → let c = while_possible more tries n t in While more n t c.0 c.1
  unfolding while_possible
  while_rules zero n t few = absurd (omega (arith, nodes_positive t))
  while_rules (suc tries) n t few = by_step (step_if (more n) t) refl (while_rules tries (suc n))
    where
      by_step : (x : Option Term) → step_if (more n) t ≡ x
          → ((u : Term) → nodes u ≤ tries
          → let c = while_possible more tries (suc n) u in While more (suc n) u c.0 c.1)
          → let c = stay_or (n, t) (while_possible more tries (suc n)) x in While more n t c.0 c.1
      by_step none e go = no_more e
      by_step (some u) e go = once_more e (go u (omega (arith, smaller n t e)))

  eta_rules : (tries n : ℕ) (t : Term) → nodes t ≤ tries
      → let c = eta_from more tries n t in Sequence more n t c.0 c.1
  unfolding eta_from nodes
  eta_rules zero n t few = absurd (omega (arith, nodes_positive t))
  eta_rules (suc tries) n t few =
      let c : Counted = while_possible more (suc tries) n t in
      let fewer : nodes c.1 ≤ nodes t = nodes-taken (while-comes more (suc tries) n t).way.steps in
      parts c.0 c.1 (while_rules (suc tries) n t few) (omega arith) (eta_rules tries)
    where
      parts : (m : ℕ) (v : Term) → While more n t m v → nodes v ≤ suc tries
          → ((k : ℕ) (u : Term) → nodes u ≤ tries
          → let c = eta_from more tries k u in Sequence more k u c.0 c.1)
          → let c = do_parts (while_possible more (suc tries)) (eta_from more tries) m v in
          Sequence more n t c.0 c.1
      parts m (var i) w few go = at_variable w
      parts m (lam b) w few go =
          let c : Counted = eta_from more tries m b in
          let fewer : nodes c.1 ≤ nodes b = nodes-taken (eta-comes more tries m b (omega arith)).way.steps in
          at_abstraction w (go m b (omega arith)) (while_rules (suc tries) c.0 (lam c.1) (omega arith))
      parts m (app l r) w few go =
          let c : Counted = eta_from more tries m l in
          at_application w (go m l (omega arith)) (go c.0 r (omega arith))

  -- AND THE RULES SAY NOTHING ELSE
  while-fewer : {n m : ℕ} {t v : Term} → While more n t m v → nodes v ≤ nodes t
  while-fewer (no_more e) = omega arith
  while-fewer (once_more {n = n} {t = t} e w) = omega (arith, smaller n t e, while-fewer w)

  sequence-fewer : {n m : ℕ} {t v : Term} → Sequence more n t m v → nodes v ≤ nodes t
  unfolding nodes
  sequence-fewer (at_variable w) = while-fewer w
  sequence-fewer (at_abstraction w s a) = omega (arith, while-fewer w, sequence-fewer s, while-fewer a)
  sequence-fewer (at_application w s s') = omega (arith, while-fewer w, sequence-fewer s, sequence-fewer s')

  rules_while : {n m : ℕ} {t v : Term} → While more n t m v → (tries : ℕ) → nodes t ≤ tries
      → while_possible more tries n t ≡ (m, v)
  unfolding while_possible
  rules_while {t = t} w zero few = absurd (omega (arith, nodes_positive t))
  rules_while (no_more e) (suc tries) few = rw e
  rules_while (once_more {n = n} {t = t} e w) (suc tries) few =
      rw (e, rules_while w tries (omega (arith, smaller n t e)))

  rules_eta : {n m : ℕ} {t u : Term} → Sequence more n t m u → (tries : ℕ) → nodes t ≤ tries
      → eta_from more tries n t ≡ (m, u)
  unfolding eta_from nodes
  rules_eta {t = t} s zero few = absurd (omega (arith, nodes_positive t))
  rules_eta (at_variable w) (suc tries) few = rw (rules_while w (suc tries) few)
  rules_eta (at_abstraction w s a) (suc tries) few =
      rw (
        rules_while w (suc tries) few,
        rules_eta s tries (omega (arith, while-fewer w)),
        rules_while a (suc tries) (omega (arith, while-fewer w, sequence-fewer s)),
      )
  rules_eta (at_application w s s') (suc tries) few =
      rw (
        rules_while w (suc tries) few,
        rules_eta s tries (omega (arith, while-fewer w)),
        rules_eta s' tries (omega (arith, while-fewer w)),
      )

-- ON TERMS: what eta comes to ends by the rules, and each such end is what it comes to
ends_by : (limit : ℕ) (t : Term) → EtaEndsBy limit t (eta limit t)
unfolding eta
ends_by limit t = told (has_place c.1) refl
  where
    c : Counted
    c = eta_from (may_follow limit) (nodes t) 0 t

    rules : Sequence (may_follow limit) 0 t c.0 c.1
    rules = eta_rules (may_follow limit) (nodes t) 0 t (omega arith)

    told : (b : Bool) → has_place c.1 ≡ b → EtaEndsBy limit t (eta_ended c)
    told true e = rw e (some_left rules e)
    told false e = rw e (none_left rules e)

by_ends : (limit : ℕ) (t : Term) (r : Run Term) → EtaEndsBy limit t r → eta limit t ≡ r
unfolding eta
by_ends limit t r (none_left s e) = rw (rules_eta (may_follow limit) s (nodes t) (omega arith), e)
by_ends limit t r (some_left s e) = rw (rules_eta (may_follow limit) s (nodes t) (omega arith), e)

-- ON BYTES, with every buffer
module _ (limit cap : ℕ) (s out room : List ℕ) where
  abbrev pub EtaAnswers : Run ℕ → List ℕ → List ℕ → Type 0
  EtaAnswers = Answers (cap_allowed cap) cap s out room (EtaEndsBy limit)

  pub eta_by_rules : let r = eta_of limit cap s out room in EtaAnswers r.0 r.1 r.2
  unfolding eta_of
  eta_by_rules = means (cap_allowed cap) cap s out room (EtaEndsBy limit) (eta limit) (ends_by limit)

  pub rules_by_eta : {x : Run ℕ} {w z : List ℕ} → EtaAnswers x w z → eta_of limit cap s out room ≡ (x, w, z)
  unfolding eta_of
  rules_by_eta = only (cap_allowed cap) cap s out room (EtaEndsBy limit) (eta limit) (by_ends limit)
