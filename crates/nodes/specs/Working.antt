-- What is left to do after 1 and 2: what a call is to answer and to leave in the output, and the store.
use Rattle.std.specs.Prelude.{ℕ, ◌≡◌, List, length}

-- the answer and the output are what they are to be; the store is as long as before
pub record Works {A : Type 0} (done : A × List ℕ) (store : List ℕ) (answer : A) (after store' : List ℕ) : Type 0 where
  pub stores : (answer, after) ≡ done
  pub as_long : length store' ≡ length store
