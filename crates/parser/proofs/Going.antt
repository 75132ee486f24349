-- Reading on, word by word: what each word does to what is open, to what was read, and to the sequences that wait.
use Prim.Native.Nat.{ℕ, suc, ◌≤◌, ◌<◌}
use mathlib.Core.Path.{◌≡◌, refl, ◌∙◌}
use mathlib.Core.Bool.{Bool, true, false}
use mathlib.Core.List.{List, [], ◌∷◌}
use mathlib.Core.Option.{Option, none, some}
use native.Mathlib.Omega.{arith}
use lib.ListN.{length}
use borrow.Author.Tests.{le-leb, lt-leb}
use Rattle.calculus.specs.Term.{Term, var}
use Rattle.calculus.specs.Bounds.{most_open}
use Rattle.calculus.specs.Refusal.{Refusal, Answer, given, refused, ◌then◌, undefined_free_variable, too_high}
use Rattle.calculus.specs.Words.{Name, Word, binder, opening, number, name}
use Rattle.calculus.specs.Walk as walk
use Rattle.calculus.specs.Walk.{Token, Open, group, bound, resolved, and_then, on_closing}
use Rattle.calculus.specs.Grammar.{Part, Waits, for_group, for_body, parsed}
use Rattle.calculus.proofs.Sequences.{Ends, at_the_end, at_a_right}
use Rattle.parser.specs.Tokens.{word_of}
use Rattle.parser.specs.States.{State, reading, void, beside, under, parsed_on, go, unless_void, ended}

-- a token before others
one_token : (k : Token) (ts : Answer (List Token)) (on : List Token → Answer Term)
    → (and_then k ts then on) ≡ (ts then (λ ts. on (k ∷ ts)))
one_token k (given ts) on = refl
one_token k (refused e) on = refl

-- what goes on in the same way from tokens gives the same
same_on : (ts : Answer (List Token)) (on on' : List Token → Answer Term) → ((ts : List Token) → on ts ≡ on' ts)
    → (ts then on) ≡ (ts then on')
same_on (given ts) on on' same = same ts
same_on (refused e) on on' same = refl

-- an item that is one token
index_on : (st : State) (i : ℕ) (ps : List Waits) (ts : List Token)
    → parsed_on (walk.index i ∷ ts) st ps ≡ parsed_on ts (beside st (reading (some (var i)))) ps
unfolding parsed
index_on (reading p) i ps ts = refl
index_on void i ps ts = refl

module _ (os : List Open) (ws : List Word) (st : State) (ps : List Waits) where
  index_goes : (i : ℕ) → (and_then (walk.index i) (walk.walk most_open os ws) then (λ ts. parsed_on ts st ps))
      ≡ go os ws (beside st (reading (some (var i)))) ps
  unfolding go
  index_goes i =
      one_token (walk.index i) (walk.walk most_open os ws) (λ ts. parsed_on ts st ps)
      ∙ same_on (walk.walk most_open os ws) (λ ts. parsed_on (walk.index i ∷ ts) st ps)
      (λ ts. parsed_on ts (beside st (reading (some (var i)))) ps) (index_on st i ps)

  pub goes_number : (i : ℕ) → go os (number i ∷ ws) st ps ≡ go os ws (beside st (reading (some (var i)))) ps
  unfolding go walk.walk
  goes_number i = index_goes i

  pub goes-name : (x : Name) (i : ℕ) → resolved x 1 os ≡ some i
      → go os (name x ∷ ws) st ps ≡ go os ws (beside st (reading (some (var i)))) ps
  unfolding go walk.walk
  goes-name x i e = rw e (index_goes i)

  -- 6
  pub goes_undefined : (x : Name) → resolved x 1 os ≡ none → go os (name x ∷ ws) st ps ≡ refused undefined_free_variable
  unfolding go walk.walk
  goes_undefined x e = rw e

-- WHAT OPENS: its token, and how the sequence before it waits
unfoldable token_of : Open → Token
token_of group = walk.left
token_of (bound x) = walk.lambda

unfoldable waits_for : Open → Part → Waits
waits_for group p = for_group p
waits_for (bound x) p = for_body p

-- a sequence waits for what it has read; where something is empty, nothing waits
abbrev waiting : Open → State → List Waits → List Waits
waiting o (reading p) ps = waits_for o p ∷ ps
waiting o void ps = ps

abbrev failed : State → Bool
failed (reading p) = false
failed void = true

walk-opening : (o : Open) (os : List Open) (ws : List Word) → walk.walk most_open os (word_of o ∷ ws)
    ≡ walk.opened most_open (o ∷ os) (token_of o) (λ os. walk.walk most_open os ws)
unfolding walk.walk word_of token_of
walk-opening group os ws = refl
walk-opening (bound x) os ws = refl

parsed-opening : (o : Open) (p : Part) (ps : List Waits) (ts : List Token)
    → parsed (token_of o ∷ ts) p ps ≡ parsed ts none (waits_for o p ∷ ps)
unfolding parsed token_of waits_for
parsed-opening group p ps ts = refl
parsed-opening (bound x) p ps ts = refl

opening_on : (o : Open) (st : State) (ps : List Waits) (ts : List Token)
    → parsed_on (token_of o ∷ ts) st ps ≡ parsed_on ts (unless_void (failed st) (reading none)) (waiting o st ps)
opening_on o (reading p) ps ts = parsed-opening o p ps ts
opening_on o void ps ts = refl

module _ (o : Open) (os : List Open) (ws : List Word) (st : State) (ps : List Waits) where
  -- 7
  pub goes-too_high : most_open ≤ length os → go os (word_of o ∷ ws) st ps ≡ refused too_high
  unfolding go
  goes-too_high h = rw (walk-opening o os ws, lt-leb (suc (length os)) most_open (omega arith))

  -- inside, a sequence begins
  goes-inside : length os < most_open
      → go os (word_of o ∷ ws) st ps
      ≡ go (o ∷ os) ws (unless_void (failed st) (reading none)) (waiting o st ps)
  unfolding go
  goes-inside h =
      rw (walk-opening o os ws, le-leb (suc (length os)) most_open h)
      (one_token (token_of o) (walk.walk most_open (o ∷ os) ws) (λ ts. parsed_on ts st ps)
      ∙ same_on (walk.walk most_open (o ∷ os) ws) (λ ts. parsed_on (token_of o ∷ ts) st ps)
      (λ ts. parsed_on ts (unless_void (failed st) (reading none)) (waiting o st ps)) (opening_on o st ps))

-- THE END OF A GROUP
right_on : (st inner : State) (ps : List Waits) (ts : List Token)
    → parsed_on (walk.right ∷ ts) (unless_void (failed st) inner) (waiting group st ps) ≡ parsed_on ts
    (beside st inner) ps
unfolding parsed waits_for
right_on (reading p) (reading none) ps ts = refl
right_on (reading p) (reading (some t)) ps ts = refl
right_on (reading p) void ps ts = refl
right_on void (reading none) ps ts = refl
right_on void (reading (some t)) ps ts = refl
right_on void void ps ts = refl

end_on : (st inner : State) (ps : List Waits)
    → parsed_on [] (unless_void (failed st) inner) (waiting group st ps) ≡ parsed_on [] (beside st inner) ps
unfolding parsed waits_for
end_on (reading p) (reading none) ps = refl
end_on (reading p) (reading (some t)) ps = refl
end_on (reading p) void ps = refl
end_on void (reading none) ps = refl
end_on void (reading (some t)) ps = refl
end_on void void ps = refl

group-ends : (closed : Bool) (os : List Open) (ws : List Word) (st inner : State) (ps : List Waits)
    → (closed ≡ false → ws ≡ [])
    → go (group ∷ os) (ended closed ws) (unless_void (failed st) inner) (waiting group st ps) ≡ go os ws
    (beside st inner) ps
unfolding go walk.walk
group-ends true os ws st inner ps last =
    one_token walk.right (walk.walk most_open os ws)
    (λ ts. parsed_on ts (unless_void (failed st) inner) (waiting group st ps))
    ∙ same_on (walk.walk most_open os ws)
    (λ ts. parsed_on (walk.right ∷ ts) (unless_void (failed st) inner) (waiting group st ps))
    (λ ts. parsed_on ts (beside st inner) ps) (right_on st inner ps)
group-ends false os ws st inner ps last = rw (last refl) (end_on st inner ps)

-- THE END OF A BODY, which ends where its sequence ends
body_on : (x : Name) (st inner : State) (ps : List Waits) {ts : List Token} → Ends walk.right ts
    → parsed_on ts (unless_void (failed st) inner) (waiting (bound x) st ps) ≡ parsed_on ts (beside st (under inner)) ps
unfolding parsed waits_for
body_on x (reading p) (reading none) ps at_the_end = refl
body_on x (reading p) (reading none) ps at_a_right = refl
body_on x (reading p) (reading (some t)) ps at_the_end = refl
body_on x (reading p) (reading (some t)) ps at_a_right = refl
body_on x (reading p) void ps e = refl
body_on x void (reading none) ps e = refl
body_on x void (reading (some t)) ps e = refl
body_on x void void ps e = refl

-- a `)` closes what it would without the binder
closing_on : (x : Name) (st inner : State) (ps : List Waits) (to : Option (List Open)) (go : List Open
    → Answer (List Token))
    → (on_closing to go then (λ ts. parsed_on ts (unless_void (failed st) inner) (waiting (bound x) st ps)))
    ≡ (on_closing to go then (λ ts. parsed_on ts (beside st (under inner)) ps))
closing_on x st inner ps none go = body_on x st inner ps at_the_end
closing_on x st inner ps (some os) go = after (go os)
  where
    after : (ts : Answer (List Token))
        → (and_then walk.right ts then (λ ts. parsed_on ts (unless_void (failed st) inner) (waiting (bound x) st ps)))
        ≡ (and_then walk.right ts then (λ ts. parsed_on ts (beside st (under inner)) ps))
    after (given ts) = body_on x st inner ps at_a_right
    after (refused e) = refl

body-ends : (closed : Bool) (x : Name) (os : List Open) (ws : List Word) (st inner : State) (ps : List Waits)
    → go (bound x ∷ os) (ended closed ws) (unless_void (failed st) inner) (waiting (bound x) st ps)
    ≡ go os (ended closed ws) (beside st (under inner)) ps
unfolding go walk.walk walk.closed
body-ends true x os ws st inner ps = closing_on x st inner ps (walk.closed os) (λ os. walk.walk most_open os ws)
body-ends false x os ws st inner ps = body_on x st inner ps at_the_end

-- how reading goes inside, whether or not something was empty before
abbrev pub Inside : List Open → List Word → List Word → State → Type 0
Inside os ws after st = (void_before : Bool) (ps : List Waits)
    → go os ws (unless_void void_before (reading none)) ps ≡ go os after (unless_void void_before st) ps

module _ (os : List Open) (ws after : List Word) (closed : Bool) (st inner : State) (ps : List Waits)
    (h : length os < most_open) where
  pub goes-group : Inside (group ∷ os) ws (ended closed after) inner → (closed ≡ false → after ≡ [])
      → go os (opening ∷ ws) st ps ≡ go os after (beside st inner) ps
  unfolding word_of
  goes-group inside last =
      goes-inside group os ws st ps h ∙ inside (failed st) (waiting group st ps)
      ∙ group-ends closed os after st inner ps last

  pub goes-body : (x : Name) → Inside (bound x ∷ os) ws (ended closed after) inner
      → go os (binder x ∷ ws) st ps ≡ go os (ended closed after) (beside st (under inner)) ps
  unfolding word_of
  goes-body x inside =
      goes-inside (bound x) os ws st ps h ∙ inside (failed st) (waiting (bound x) st ps)
      ∙ body-ends closed x os after st inner ps

-- 6 or 7 inside
pub goes-refused : (o : Open) (os : List Open) (ws : List Word) (st : State) (ps : List Waits) (e : Refusal)
    → length os < most_open
    → ((void_before : Bool) (ps : List Waits) → go (o ∷ os) ws (unless_void void_before (reading none)) ps ≡ refused e)
    → go os (word_of o ∷ ws) st ps ≡ refused e
goes-refused o os ws st ps e h inside = goes-inside o os ws st ps h ∙ inside (failed st) (waiting o st ps)
