-- Church and Rosser's theorem, by parallel reduction, and that a normal form is the only one.
use mathlib.Core.Path.{◌≡◌, ◌∙◌, sym}
use Rattle.calculus.specs.Term.{Term, lam, app}
use Rattle.finality.specs.Beta.{Beta, beta, in_lam, in_left, in_right, Normal, Many, done, next}
use Rattle.finality.proofs.Reductions.{many_trans, many-map, many-normal}
use Rattle.finality.proofs.Parallel.{Par, p_var, p_lam, p_app, p_beta, par_refl, triangle}

beta→par : {t u : Term} → Beta t u → Par t u
beta→par (beta {b} {a}) = p_beta (par_refl b) (par_refl a)
beta→par (in_lam r) = p_lam (beta→par r)
beta→par (in_left {r} p) = p_app (beta→par p) (par_refl r)
beta→par (in_right {l} p) = p_app (par_refl l) (beta→par p)

many-app : {l m r s : Term} → Many Beta l m → Many Beta r s → Many Beta (app l r) (app m s)
many-app {m} {r} p q =
    many_trans (many-map (λ x. app x r) (λ _ _ h. in_left h) p) (many-map (app m) (λ _ _ h. in_right h) q)

par→many : {t u : Term} → Par t u → Many Beta t u
par→many p_var = done
par→many (p_lam p) = many-map lam (λ _ _ h. in_lam h) (par→many p)
par→many (p_app p q) = many-app (par→many p) (par→many q)
par→many (p_beta p q) =
    many_trans (many-app (many-map lam (λ _ _ h. in_lam h) (par→many p)) (par→many q)) (next beta done)

-- two terms come together by a relation's steps
abbrev pub Meet : (Term → Term → Type 0) → Term → Term → Type 0
Meet R u v = (w : Term) × Many R u w × Many R v w

-- one parallel step against many
strip : {t u v : Term} → Par t u → Many Par t v → (w : Term) × Many Par u w × Par v w
strip {u} p done = (u, done, p)
strip p (next q qs) = let (w, us, vw) = strip (triangle q) qs in (w, next (triangle p) us, vw)

par_confluent : {t u v : Term} → Many Par t u → Many Par t v → Meet Par u v
par_confluent {v} done qs = (v, qs, done)
par_confluent (next p ps) qs =
    let (w, us, vw) = strip p qs in
    let (x, ux, wx) = par_confluent ps us in
    (x, ux, next vw wx)

pars→many : {t u : Term} → Many Par t u → Many Beta t u
pars→many done = done
pars→many (next p ps) = many_trans (par→many p) (pars→many ps)

pub church_rosser : {t u v : Term} → Many Beta t u → Many Beta t v → Meet Beta u v
church_rosser p q =
    let (w, uw, vw) = par_confluent (many-map (λ x. x) (λ _ _ r. beta→par r) p)
    (many-map (λ x. x) (λ _ _ r. beta→par r) q) in
    (w, pars→many uw, pars→many vw)

pub normal_unique : {t u v : Term} → Many Beta t u → Normal u → Many Beta t v → Normal v → u ≡ v
normal_unique p nu q nv = let (w, uw, vw) = church_rosser p q in many-normal nu uw ∙ sym (many-normal nv vw)
