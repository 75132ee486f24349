-- NOTHING IS WRITTEN PAST A BUFFER: every buffer that is lent is afterwards as long as before, for every entry point.
use Prim.Native.Nat.{ℕ, ◌*◌, ◌≤◌}
use mathlib.Core.Path.{◌≡◌, refl}
use mathlib.Core.Bool.{Bool, true, false, ◌&&◌}
use mathlib.Core.List.{List, []}
use mathlib.Core.Option.{none}
use native.Mathlib.Omega.{arith}
use borrow.Author.Tests.{leb-true}
use lib.Dec.{leb}
use lib.ListN.{length, replicate, length-replicate}
use Rattle.calculus.specs.Term.{Term, nodes}
use Rattle.calculus.specs.Bounds.{most_nodes, most_open, output_per_node, room_per_node}
use Rattle.calculus.specs.Refusal.{Refusal, Answer, given, refused, ◌then◌, kept_if, output_too_short}
use Rattle.calculus.specs.Bytes.{encode, decode}
use Rattle.calculus.specs.Judging.{judge}
use Rattle.calculus.specs.Substitution.{contract}
use Rattle.calculus.specs.Orders.{Order}
use Rattle.calculus.specs.Runs.{Run, finished, unfinished, refused_after, run}
use Rattle.calculus.specs.Eta.{eta}
use Rattle.calculus.specs.Ends.{Accepted, stay_so, go_on, Ends, ends_finished, ends_unfinished, ends_refused}
use Rattle.calculus.specs.Ends.{EtaEnds, eta_finished, eta_unfinished}
use Rattle.calculus.specs.Words.{words}
use Rattle.calculus.specs.Walk.{walk}
use Rattle.calculus.specs.Grammar.{parsed}
use Rattle.calculus.specs.Reading.{Notation, next, characters_of, read_text}
use Rattle.calculus.specs.Writing.{write_text}
use Rattle.calculus.specs.Outcomes.{checked, suffice, stored, stored_run, coded, laid_over, cleared, lent}
use Rattle.calculus.specs.Outcomes.{run_on, body_of}
use Rattle.calculus.specs.Outcomes.{cap_allowed, limit_allowed, if_it_fits, applied, print_of, parse_of, apply_of}
use Rattle.calculus.specs.Outcomes.{eta_of}
use Rattle.calculus.specs.Outcomes.{reduced, reduce_of}
use Rattle.calculus.proofs.Tests.{both}
use Rattle.calculus.proofs.Sizes.{length-encode, nine_per_node, laid_length}
use Rattle.calculus.proofs.Judged.{Judgement, in_bounds, high, many, within-judged, accepted}
use Rattle.calculus.proofs.Judged.{NextJudgement, small, great, next-judged}
use Rattle.calculus.proofs.Running.{run_ends}
use Rattle.calculus.proofs.EtaRuns.{eta-ends, nodes-taken}
use Rattle.finality.specs.Statements.{Call, Result, outcome}
use Rattle.finality.specs.Statements as call

-- WHAT IS REACHED has no more nodes than the cap
pub data Few (cap : ℕ) : Answer Term → Type 0 where
  few : {t : Term} → nodes t ≤ cap → Few cap (given t)
  none_given : {e : Refusal} → Few cap (refused e)

few-within : (cap : ℕ) {t : Term} {x : Answer Term} → Judgement cap t x → Few cap x
few-within cap (in_bounds h k) = few k
few-within cap (high h) = none_given
few-within cap (many h k) = none_given

few-next : (cap : ℕ) {t : Term} {x : Answer Term} → NextJudgement cap t x → Few cap x
few-next cap (small i j) = few-within cap j
few-next cap (great i) = none_given

few_then : {A : Type 0} (cap : ℕ) (x : Answer A) {next : A → Answer Term} → ((a : A) → Few cap (next a))
    → Few cap (x then next)
few_then cap (given a) f = f a
few_then cap (refused e) f = none_given

few-checked : (cap : ℕ) (s : List ℕ) → Few cap (checked cap s)
unfolding checked
few-checked cap s = few_then cap (decode s) (λ t. few-within cap (within-judged cap t))

few-read : (n : Notation) (cap : ℕ) (text : List ℕ) → Few cap (read_text n cap text)
unfolding read_text
few-read n cap text =
    few_then cap (characters_of text then words (next n) then walk most_open [] then (λ ts. parsed ts none []))
    (λ t. few-within cap (within-judged cap t))

few-applied : (cap : ℕ) (s u : List ℕ) → Few cap (applied cap s u)
unfolding applied
few-applied cap s u =
    few_then cap (checked cap s)
    (λ t.
    few_then cap (checked cap u)
    (λ a. few_then cap (body_of t) (λ b. few-next cap (next-judged cap (contract b a)))))

-- RUNS
pub data FewRun (cap : ℕ) : Run Term → Type 0 where
  few_finished : {n : ℕ} {u : Term} → nodes u ≤ cap → FewRun cap (finished n u)
  few_unfinished : {n : ℕ} {u : Term} → nodes u ≤ cap → FewRun cap (unfinished n u)
  none_reached : {n : ℕ} {e : Refusal} → FewRun cap (refused_after n e)

few-accepted : (cap : ℕ) {o : Order} {n : ℕ} {t u : Term} → nodes t ≤ cap → Accepted (judge cap) o n t u → nodes u ≤ cap
few-accepted cap h stay_so = h
few-accepted cap h (go_on {u = u} e a s) = few-accepted cap (accepted u a).2 s

few-ends : (cap : ℕ) {o : Order} {limit : ℕ} {t : Term} {r : Run Term} → nodes t ≤ cap → Ends (judge cap) o limit t r
    → FewRun cap r
few-ends cap h (ends_finished l s k) = few_finished (few-accepted cap h s)
few-ends cap h (ends_unfinished s k) = few_unfinished (few-accepted cap h s)
few-ends cap h (ends_refused l s k j) = none_reached

few-eta : (cap : ℕ) {limit : ℕ} {t : Term} {r : Run Term} → nodes t ≤ cap → EtaEnds limit t r → FewRun cap r
few-eta cap h (eta_finished {u = u} l s k) = few_finished {u = u} (omega (arith, nodes-taken s))
few-eta cap h (eta_unfinished {u = u} l s k) = few_unfinished {u = u} (omega (arith, nodes-taken s))

few_on : (cap : ℕ) {x : Answer Term} (go : Term → Run Term) → ((t : Term) → nodes t ≤ cap → FewRun cap (go t))
    → Few cap x → FewRun cap (run_on x go)
few_on cap go f (few {t = t} h) = f t h
few_on cap go f none_given = none_reached

-- BUFFERS
bytes-kept : (cap : ℕ) (t : Term) (out : List ℕ) → nodes t ≤ cap → output_per_node * cap ≤ length out
    → length (laid_over (encode t) out) ≡ length out
bytes-kept cap t out h k = laid_length (encode t) out (omega (arith, length-encode t, nine_per_node t))

stored-kept : (cap : ℕ) {x : Answer Term} (out : List ℕ) → output_per_node * cap ≤ length out → Few cap x
    → length (stored (x then coded) out).1 ≡ length out
stored-kept cap out k (few {t = t} h) = bytes-kept cap t out h k
stored-kept cap out k none_given = refl

run-kept : (cap : ℕ) {r : Run Term} (out : List ℕ) → output_per_node * cap ≤ length out → FewRun cap r
    → length (stored_run r out).1 ≡ length out
run-kept cap out k (few_finished {u = u} h) = bytes-kept cap u out h k
run-kept cap out k (few_unfinished {u = u} h) = bytes-kept cap u out h k
run-kept cap out k none_reached = refl

room-kept : (cap : ℕ) (room : List ℕ) → room_per_node * cap ≤ length room → length (cleared cap room) ≡ length room
room-kept cap room k =
    let zeros : List ℕ = replicate (room_per_node * cap) 0 in
    let many : length zeros ≡ room_per_node * cap = length-replicate (room_per_node * cap) 0 in
    laid_length zeros room (omega arith)

-- 1 and 2 change nothing; else both suffice
abbrev Kept : List ℕ → List ℕ → List ℕ → List ℕ → Type 0
Kept out room out' room' = (length out' ≡ length out) × (length room' ≡ length room)

lent-kept : {A : Type 0} (refuse : Refusal → A) (b c : Bool) (cap : ℕ) (done : A × List ℕ) (out room : List ℕ)
    → suffice cap out room ≡ c → (output_per_node * cap ≤ length out → length done.1 ≡ length out)
    → let r = lent refuse b c cap done out room in Kept out room r.1 r.2
lent-kept refuse false c cap done out room q h = (refl, refl)
lent-kept refuse true false cap done out room q h = (refl, refl)
lent-kept refuse true true cap done out room q h =
    let (o, r) = both (leb (output_per_node * cap) (length out)) (leb (room_per_node * cap) (length room)) q in
    (h (leb-true _ _ o), room-kept cap room (leb-true _ _ r))

print-kept : (n : Notation) (s out : List ℕ) → length (print_of n s out).1 ≡ length out
unfolding print_of
print-kept n s out = on_input (checked most_nodes s)
  where
    by_fit : (text : List ℕ) (b : Bool) → leb (length text) (length out) ≡ b → (e : Refusal)
        → length (stored (kept_if b e text) out).1 ≡ length out
    by_fit text true p e = laid_length text out (leb-true (length text) (length out) p)
    by_fit text false p e = refl

    on_input : (x : Answer Term) → length (stored (x then (λ t. if_it_fits out (write_text n t))) out).1 ≡ length out
    on_input (given t) =
        let text : List ℕ = write_text n t in
        by_fit text (leb (length text) (length out)) refl (output_too_short (length text))
    on_input (refused e) = refl

-- EVERY ENTRY POINT: what is lent to it keeps its length
abbrev pub Keeps : (c : Call) → Result c → Type 0
Keeps (call.nodes s) r = Unit {0}
Keeps (call.height s) r = Unit {0}
Keeps (call.max_depth s) r = Unit {0}
Keeps (call.has_free_variables s) r = Unit {0}
Keeps (call.is_supercombinator s) r = Unit {0}
Keeps (call.max_free_index s) r = Unit {0}
Keeps (call.equality s u) r = Unit {0}
Keeps (call.print n s out) r = length r.1 ≡ length out
Keeps (call.parse n cap text out room) r = Kept out room r.1 r.2
Keeps (call.apply cap s u out room) r = Kept out room r.1 r.2
Keeps (call.eta limit cap s out room) r = Kept out room r.1 r.2
Keeps (call.reduce o limit cap s out room) r = Kept out room r.1 r.2
Keeps (call.program s) r = Unit {0}

pub lengths_kept : (c : Call) → Keeps c (outcome c)
unfolding outcome parse_of apply_of eta_of reduce_of reduced
lengths_kept (call.nodes s) = tt
lengths_kept (call.height s) = tt
lengths_kept (call.max_depth s) = tt
lengths_kept (call.has_free_variables s) = tt
lengths_kept (call.is_supercombinator s) = tt
lengths_kept (call.max_free_index s) = tt
lengths_kept (call.equality s u) = tt
lengths_kept (call.print n s out) = print-kept n s out
lengths_kept (call.parse n cap text out room) =
    lent-kept refused (cap_allowed cap) (suffice cap out room) cap _ out room refl
    (λ k. stored-kept cap out k (few-read n cap text))
lengths_kept (call.apply cap s u out room) =
    lent-kept refused (cap_allowed cap) (suffice cap out room) cap _ out room refl
    (λ k. stored-kept cap out k (few-applied cap s u))
lengths_kept (call.eta limit cap s out room) =
    lent-kept (refused_after 0) (cap_allowed cap) (suffice cap out room) cap _ out room refl
    (λ k. run-kept cap out k (few_on cap (eta limit) (λ t h. few-eta cap h (eta-ends limit t)) (few-checked cap s)))
lengths_kept (call.reduce o limit cap s out room) =
    let go = run (judge cap) o limit in
    let reached = few_on cap go (λ t h. few-ends cap h (run_ends (judge cap) o limit t)) (few-checked cap s) in
    lent-kept (refused_after 0) (cap_allowed cap && limit_allowed limit) (suffice cap out room) cap _ out room refl
    (λ k. run-kept cap out k reached)
lengths_kept (call.program s) = tt
