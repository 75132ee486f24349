-- WHERE A TEXT OFFENDS: the walk gives 7 only where too much is open, the grammar 8 exactly where nothing stands.
use Prim.Native.Nat.{ℕ, zero, suc, ◌≤◌, ◌<◌, max}
use mathlib.Core.Path.{◌≡◌, refl, ap}
use mathlib.Core.Bool.{Bool, true, false}
use mathlib.Core.List.{List, [], ◌∷◌}
use mathlib.Core.Option.{Option, none, some}
use native.Mathlib.Omega.{arith}
use native.Mathlib.Decide.{dec_le}
use lib.ListN.{length}
use borrow.Author.Tests.{le-leb, lt-leb}
use Rattle.calculus.specs.Term.{Term, var, lam}
use Rattle.calculus.specs.Refusal.{Answer, given, refused, undefined_free_variable, too_high, empty_expression}
use Rattle.calculus.specs.Words.{Word, binder, opening, closing, number, name}
use Rattle.calculus.specs.Walk.{Token, lambda, left, right, index, Open, group, bound, resolved, closed}
use Rattle.calculus.specs.Walk.{and_then, on_name, on_closing, opened, walk}
use Rattle.calculus.specs.Grammar.{Part, Waits, for_group, for_body, with_item, at_end, at_right, parsed}
use Rattle.finality.specs.Offences.{if_closed, nesting, starved}

-- THE WALK gives 7 only where more is open than may be, and nothing but 7 or 6 where more is
pub data Walked (most open_most : ℕ) : Answer (List Token) → Type 0 where
  low : {ts : List Token} → open_most ≤ most → Walked most open_most (given ts)
  deep : most < open_most → Walked most open_most (refused too_high)
  unbound : Walked most open_most (refused undefined_free_variable)

at_least : (os : List Open) (ws : List Word) → length os ≤ nesting os ws
unfolding nesting
at_least os [] = omega arith
at_least os (binder x ∷ ws) = omega (arith, at_least (bound x ∷ os) ws)
at_least os (opening ∷ ws) = omega (arith, at_least (group ∷ os) ws)
at_least os (closing ∷ ws) = omega arith
at_least os (number i ∷ ws) = at_least os ws
at_least os (name x ∷ ws) = at_least os ws

token-first : {most n : ℕ} {x : Answer (List Token)} (k : Token) → Walked most n x → Walked most n (and_then k x)
token-first k (low h) = low h
token-first k (deep h) = deep h
token-first k unbound = unbound

one_more : {most n : ℕ} (os : List Open) (k : Token) (go : List Open → Answer (List Token)) → length os ≤ n
    → (length os ≤ most → Walked most n (go os)) → Walked most n (opened most os k go)
one_more {most} os k go h walked =
    elim (dec_le (length os) most) [
      | yes few ↦ rw (le-leb (length os) most few) (token-first k (walked few))
      | no many ↦ rw (lt-leb (length os) most (omega arith)) (deep (omega arith))
    ]

named : {most n : ℕ} (i : Option ℕ) {x : Answer (List Token)} → Walked most n x → Walked most n (on_name i x)
named none w = unbound
named (some i) w = token-first (index i) w

-- what a `)` leaves open is no more than there was
closed-fewer : (os : List Open) {left_open : List Open} → closed os ≡ some left_open → length left_open ≤ length os
unfolding closed
closed-fewer [] e = let never : ◌≡◌ {A = ℕ} 0 1 = cc in absurd (omega arith)
closed-fewer (group ∷ os) {left_open} e = let same : os ≡ left_open = cc in omega (arith, ap length same)
closed-fewer (bound x ∷ os) e = omega (arith, closed-fewer os e)

pub walk-refuses : (most : ℕ) (os : List Open) (ws : List Word) → length os ≤ most
    → Walked most (nesting os ws) (walk most os ws)
unfolding nesting walk
walk-refuses most os [] h = low h
walk-refuses most os (binder x ∷ ws) h =
    one_more (bound x ∷ os) lambda (λ os. walk most os ws) (at_least (bound x ∷ os) ws)
    (λ few. walk-refuses most (bound x ∷ os) ws few)
walk-refuses most os (opening ∷ ws) h =
    one_more (group ∷ os) left (λ os. walk most os ws) (at_least (group ∷ os) ws)
    (λ few. walk-refuses most (group ∷ os) ws few)
walk-refuses most os (closing ∷ ws) h =
    after (closed os) refl (λ left_open e. walk-refuses most left_open ws (omega (arith, closed-fewer os e)))
  where
    beside : {n : ℕ} {x : Answer (List Token)} → Walked most n x → Walked most (max (length os) n) x
    beside (low k) = low (omega arith)
    beside (deep k) = deep (omega arith)
    beside unbound = unbound

    after : (c : Option (List Open)) → closed os ≡ c
        → ((left_open : List Open) → closed os ≡ some left_open
        → Walked most (nesting left_open ws) (walk most left_open ws))
        → Walked most (max (length os) (if_closed c (λ os. nesting os ws))) (on_closing c (λ os. walk most os ws))
    after none e walked = low (omega arith)
    after (some left_open) e walked = beside (token-first right (walked left_open e))
walk-refuses most os (number i ∷ ws) h = token-first (index i) (walk-refuses most os ws h)
walk-refuses most os (name x ∷ ws) h = named (resolved x 1 os) (walk-refuses most os ws h)

-- THE GRAMMAR gives 8 exactly where an expression is missing, and nothing else
pub data Fed : Bool → Answer Term → Type 0 where
  fed : {t : Term} → Fed false (given t)
  empty : Fed true (refused empty_expression)

-- the `(` that are open around
unfoldable pub groups : List Waits → ℕ
groups [] = 0
groups (for_group p ∷ ps) = suc (groups ps)
groups (for_body p ∷ ps) = groups ps

abbrev pub begins : Part → Bool
begins none = true
begins (some t) = false

ended : (t : Term) (ps : List Waits) → Fed false (at_end (some t) ps)
unfolding at_end
ended t [] = fed
ended t (for_group p ∷ ps) = ended (with_item p t) ps
ended t (for_body p ∷ ps) = ended (with_item p (lam t)) ps

pub grammar_refuses : (ts : List Token) (p : Part) (ps : List Waits)
    → Fed (starved (groups ps) (begins p) ts) (parsed ts p ps)
unfolding starved parsed groups at_end at_right
grammar_refuses [] none ps = empty
grammar_refuses [] (some t) ps = ended t ps
grammar_refuses (index i ∷ ts) p ps = grammar_refuses ts (some (with_item p (var i))) ps
grammar_refuses (lambda ∷ ts) p ps = grammar_refuses ts none (for_body p ∷ ps)
grammar_refuses (left ∷ ts) p ps = grammar_refuses ts none (for_group p ∷ ps)
grammar_refuses (right ∷ ts) none ps = at_once (groups ps)
  where
    at_once : (g : ℕ) → Fed (starved g true (right ∷ ts)) (refused empty_expression)
    at_once zero = empty
    at_once (suc g) = empty
grammar_refuses (right ∷ ts) (some t) ps = closing_at t ps (grammar_refuses ts)
  where
    closing_at : (t : Term) (ps : List Waits)
        → ((p : Part) (ps : List Waits) → Fed (starved (groups ps) (begins p) ts) (parsed ts p ps))
        → Fed (starved (groups ps) false (right ∷ ts)) (at_right (parsed ts) (some t) ps)
    closing_at t [] on = fed
    closing_at t (for_group p ∷ ps) on = on (some (with_item p t)) ps
    closing_at t (for_body p ∷ ps) on = closing_at (with_item p (lam t)) ps on
