-- WHAT EACH ENTRY POINT ANSWERS from all of its inputs, and what it leaves in every buffer that is lent to it.
use Rattle.std.specs.Prelude.{ℕ, ◌*◌, Bool, true, false, ◌&&◌, List, ◌++◌, leb, length, drop, replicate}
use Rattle.calculus.specs.Term.{Term, var, lam, app, nodes, height}
use Rattle.calculus.specs.Numbers.{between}
use Rattle.calculus.specs.Bounds.{most_nodes, most_steps, output_per_node, room_per_node}
use Rattle.calculus.specs.Refusal.{Refusal, Answer, given, refused, ◌then◌, kept_if}
use Rattle.calculus.specs.Refusal.{outside_bounds, too_little_room, not_abs, output_too_short}
use Rattle.calculus.specs.Bytes.{encode, decode}
use Rattle.calculus.specs.Judging.{within, next_within, judge}
use Rattle.calculus.specs.Queries.{max_depth, has_free, has_free_variables, is_supercombinator}
use Rattle.calculus.specs.Queries.{max_free, max_free_index, same}
use Rattle.calculus.specs.Substitution.{contract, put}
use Rattle.calculus.specs.Orders.{Order}
use Rattle.calculus.specs.Runs.{Run, finished, unfinished, refused_after, run}
use Rattle.calculus.specs.Eta.{eta}
use Rattle.calculus.specs.Reading.{Notation, read_text}
use Rattle.calculus.specs.Writing.{write_text}

-- A CODED INPUT: 10, then 7, 9
unfoldable pub checked : (cap : ℕ) → List ℕ → Answer Term
unfolding decode within
checked cap s = decode s then within cap

-- QUERIES take no cap and no buffer
unfoldable pub query_of : {A : Type 0} → (Term → A) → List ℕ → Answer A
unfolding checked
query_of ask s = checked most_nodes s then (λ t. given (ask t))

unfoldable pub nodes_of : List ℕ → Answer ℕ
unfolding query_of nodes
nodes_of = query_of nodes

unfoldable pub height_of : List ℕ → Answer ℕ
unfolding query_of height
height_of = query_of height

unfoldable pub max_depth_of : List ℕ → Answer ℕ
unfolding query_of max_depth
max_depth_of = query_of max_depth

unfoldable pub has_free_variables_of : List ℕ → Answer Bool
unfolding query_of has_free
has_free_variables_of = query_of has_free_variables

unfoldable pub is_supercombinator_of : List ℕ → Answer Bool
unfolding query_of has_free
is_supercombinator_of = query_of is_supercombinator

unfoldable pub max_free_index_of : List ℕ → Answer ℕ
unfolding query_of max_free
max_free_index_of = query_of max_free_index

-- the first input's refusals, then the second's
unfoldable pub equality_of : List ℕ → List ℕ → Answer Bool
unfolding checked same
equality_of s u = checked most_nodes s then (λ t. checked most_nodes u then (λ v. given (same t v)))

-- BUFFERS: an answer's bytes stand first in the output, whose rest is unchanged, and their length is told
abbrev pub laid_over : List ℕ → List ℕ → List ℕ
laid_over xs buffer = xs ++ drop (length xs) buffer

abbrev pub stored : Answer (List ℕ) → List ℕ → Answer ℕ × List ℕ
stored (given xs) out = (given (length xs), laid_over xs out)
stored (refused e) out = (refused e, out)

-- a term that is reached is stored as its bytes
abbrev pub coded : Term → Answer (List ℕ)
coded t = given (encode t)

abbrev pub stored_run : Run Term → List ℕ → Run ℕ × List ℕ
stored_run (finished n t) out = (finished n (length (encode t)), laid_over (encode t) out)
stored_run (unfinished n t) out = (unfinished n (length (encode t)), laid_over (encode t) out)
stored_run (refused_after n e) out = (refused_after n e, out)

-- the first numbers of work room, eight for each node of the cap, are zero, and the rest is unchanged
abbrev pub cleared : (cap : ℕ) → List ℕ → List ℕ
cleared cap room = laid_over (replicate (room_per_node * cap) 0) room

-- 2
abbrev pub suffice : (cap : ℕ) (out room : List ℕ) → Bool
suffice cap out room = leb (output_per_node * cap) (length out) && leb (room_per_node * cap) (length room)

-- the answer, the output and the work room
abbrev pub Outcome : Type 0 → Type 0
Outcome A = A × List ℕ × List ℕ

-- 1, then 2, which change nothing; then the work, after which the room is cleared
abbrev pub lent : {A : Type 0} → (Refusal → A) → (in_bounds enough : Bool) → (cap : ℕ) → A × List ℕ
    → (out room : List ℕ) → Outcome A
lent refuse false enough cap done out room = (refuse outside_bounds, out, room)
lent refuse true false cap done out room = (refuse too_little_room, out, room)
lent refuse true true cap done out room = (done.0, done.1, cleared cap room)

-- PRINTING: the input, then 13
abbrev pub if_it_fits : (out : List ℕ) → List ℕ → Answer (List ℕ)
if_it_fits out text = kept_if (leb (length text) (length out)) (output_too_short (length text)) text

unfoldable pub print_of : Notation → List ℕ → (out : List ℕ) → Answer ℕ × List ℕ
unfolding checked write_text
print_of n s out = stored (checked most_nodes s then (λ t. if_it_fits out (write_text n t))) out

abbrev pub cap_allowed : ℕ → Bool
cap_allowed cap = between 1 most_nodes cap

-- PARSING
unfoldable pub parse_of : Notation → (cap : ℕ) (text : List ℕ) (out room : List ℕ) → Outcome (Answer ℕ)
unfolding read_text encode
parse_of n cap text out room =
    lent refused (cap_allowed cap) (suffice cap out room) cap (stored (read_text n cap text then coded) out) out room

-- APPLYING: the abstraction's input, the argument's, 11, then the result: 12, 7, 9
abbrev pub body_of : Term → Answer Term
body_of (var i) = refused not_abs
body_of (lam b) = given b
body_of (app l r) = refused not_abs

unfoldable pub applied : (cap : ℕ) (s u : List ℕ) → Answer Term
unfolding checked next_within put
applied cap s u =
    checked cap s then (λ t. checked cap u then (λ a. body_of t then (λ b. next_within cap (contract b a))))

unfoldable pub apply_of : (cap : ℕ) (s u : List ℕ) (out room : List ℕ) → Outcome (Answer ℕ)
unfolding applied encode
apply_of cap s u out room =
    lent refused (cap_allowed cap) (suffice cap out room) cap (stored (applied cap s u then coded) out) out room

-- RUNS: each refusal tells the steps completed, at first 0
abbrev pub run_on : Answer Term → (Term → Run Term) → Run Term
run_on (given t) go = go t
run_on (refused e) go = refused_after 0 e

-- ETA: any limit, 0 meaning none
unfoldable pub eta_of : (limit cap : ℕ) (s : List ℕ) (out room : List ℕ) → Outcome (Run ℕ)
unfolding checked eta encode
eta_of limit cap s out room =
    lent (refused_after 0) (cap_allowed cap) (suffice cap out room) cap
    (stored_run (run_on (checked cap s) (eta limit)) out) out room

-- REDUCTION: the input, then the steps
abbrev pub limit_allowed : ℕ → Bool
limit_allowed limit = between 1 most_steps limit

unfoldable pub reduced : Order → (limit cap : ℕ) → List ℕ → Run Term
unfolding checked run next_within put
reduced o limit cap s = run_on (checked cap s) (run (judge cap) o limit)

unfoldable pub reduce_of : Order → (limit cap : ℕ) (s : List ℕ) (out room : List ℕ) → Outcome (Run ℕ)
unfolding reduced encode
reduce_of o limit cap s out room =
    lent (refused_after 0) (cap_allowed cap && limit_allowed limit) (suffice cap out room) cap
    (stored_run (reduced o limit cap s) out) out room
