-- The test of equality is that of being the same term.
use mathlib.Core.Path.{◌≡◌, refl, ap, ap₂}
use mathlib.Core.Bool.{true, false≢true}
use borrow.Author.Tests.{eq-eqb, eqb-true}
use Rattle.calculus.specs.Term.{Term, var, lam, app}
use Rattle.calculus.specs.Queries.{same}
use Rattle.calculus.proofs.Tests.{both}

pub same_refl : (t : Term) → same t t ≡ true
unfolding same
same_refl (var i) = eq-eqb i i refl
same_refl (lam b) = same_refl b
same_refl (app l r) = rw (same_refl l, same_refl r)

pub same_equal : (t u : Term) → same t u ≡ true → t ≡ u
unfolding same
same_equal (var i) (var j) e = ap var (eqb-true i j e)
same_equal (var i) (lam c) e = absurd (false≢true e)
same_equal (var i) (app m s) e = absurd (false≢true e)
same_equal (lam b) (var j) e = absurd (false≢true e)
same_equal (lam b) (lam c) e = ap lam (same_equal b c e)
same_equal (lam b) (app m s) e = absurd (false≢true e)
same_equal (app l r) (var j) e = absurd (false≢true e)
same_equal (app l r) (lam c) e = absurd (false≢true e)
same_equal (app l r) (app m s) e =
    let (p, q) = both (same l m) (same r s) e in
    ap₂ app (same_equal l m p) (same_equal r s q)
