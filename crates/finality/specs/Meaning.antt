-- WHAT AN OUTCOME OF REDUCE OR ETA MEANS: how the end of a run on terms becomes an answer on bytes, with the buffers.
use Rattle.std.specs.Prelude.{ℕ, ◌≡◌, Bool, true, false, List, length}
use Rattle.calculus.specs.Term.{Term}
use Rattle.calculus.specs.Refusal.{Refusal, given, refused, outside_bounds, too_little_room}
use Rattle.calculus.specs.Bytes.{encode}
use Rattle.calculus.specs.Runs.{Run, finished, unfinished, refused_after}
use Rattle.calculus.specs.Outcomes.{checked, suffice, laid_over, cleared}

-- of a call with bounds that are allowed or not, a cap, an input, an output and a work room, by how a run from a term
-- may end
module _ (allowed : Bool) (cap : ℕ) (s out room : List ℕ) (Ends : Term → Run Term → Type 0) where
  -- neither 1 nor 2 holds, the input is the bytes of a term within the bounds, and its run ends so
  pub record Runs (r : Run Term) : Type 0 where
    pub in_bounds : allowed ≡ true
    pub enough : suffice cap out room ≡ true
    pub from : Term
    pub input : checked cap s ≡ given from
    pub ends : Ends from r

  -- the answer, the output and the work room
  pub data Answers : Run ℕ → List ℕ → List ℕ → Type 0 where
    -- 1, then 2: nothing changes
    out_of_bounds : allowed ≡ false → Answers (refused_after 0 outside_bounds) out room
    room_lacking : allowed ≡ true → suffice cap out room ≡ false → Answers (refused_after 0 too_little_room) out room
    -- the input's own 10, 7 or 9
    input_refused : {e : Refusal} → allowed ≡ true → suffice cap out room ≡ true → checked cap s ≡ refused e
        → Answers (refused_after 0 e) out (cleared cap room)
    -- a term that is reached stands first in the output, whose rest is unchanged
    run_finished : {n : ℕ} (u : Term) → Runs (finished n u)
        → Answers (finished n (length (encode u))) (laid_over (encode u) out) (cleared cap room)
    run_unfinished : {n : ℕ} (u : Term) → Runs (unfinished n u)
        → Answers (unfinished n (length (encode u))) (laid_over (encode u) out) (cleared cap room)
    -- a refused run leaves the output as it was
    run_refused : {n : ℕ} {e : Refusal} → Runs (refused_after n e) → Answers (refused_after n e) out (cleared cap room)
