-- Eta's sequence as rules: no tries are counted.
use Rattle.std.specs.Prelude.{ℕ, suc, ◌≡◌, Bool, true, false}
use Rattle.std.proofs.Math.Option.{none, some}
use Rattle.calculus.specs.Term.{Term, var, lam, app}
use Rattle.calculus.specs.Runs.{Run, finished, unfinished}
use Rattle.calculus.specs.Eta.{may_follow, step_if, has_place}

-- AT A NODE CONTRACT WHILE POSSIBLE: from a term after n steps to one after m
pub data While (more : ℕ → Bool) : ℕ → Term → ℕ → Term → Type 0 where
  no_more : {n : ℕ} {t : Term} → step_if (more n) t ≡ none → While more n t n t
  once_more : {n m : ℕ} {t u v : Term} → step_if (more n) t ≡ some u → While more (suc n) u m v → While more n t m v

-- THEN DO THE PARTS, LEFT FIRST; THEN, AT AN ABSTRACTION, CONTRACT WHILE POSSIBLE AGAIN
pub data Sequence (more : ℕ → Bool) : ℕ → Term → ℕ → Term → Type 0 where
  at_variable : {n m i : ℕ} {t : Term} → While more n t m (var i) → Sequence more n t m (var i)
  at_abstraction : {n m k j : ℕ} {t b c u : Term} → While more n t m (lam b) → Sequence more m b k c
      → While more k (lam c) j u → Sequence more n t j u
  at_application : {n m k j : ℕ} {t l r l' r' : Term} → While more n t m (app l r) → Sequence more m l k l'
      → Sequence more k r j r'
      → Sequence more n t j (app l' r')

-- FINISHED EXACTLY IF NO PLACE REMAINS
pub data EtaEndsBy (limit : ℕ) (t : Term) : Run Term → Type 0 where
  none_left : {n : ℕ} {u : Term} → Sequence (may_follow limit) 0 t n u → has_place u ≡ false
      → EtaEndsBy limit t (finished n u)
  some_left : {n : ℕ} {u : Term} → Sequence (may_follow limit) 0 t n u → has_place u ≡ true
      → EtaEndsBy limit t (unfinished n u)
