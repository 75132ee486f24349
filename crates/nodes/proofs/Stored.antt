-- A node that was put: its two numbers, and that the nodes before are as they were.
use Prim.Native.Nat.{ℕ, ◌+◌, ◌*◌, ◌≤◌}
use mathlib.Core.Path.{◌≡◌, ◌∙◌}
use mathlib.Core.List.{List}
use native.Mathlib.Omega.{arith}
use lib.ListN.{length, set, length-set}
use lib.Seq.{get_or-set_same, get_or-set_other}
use Rattle.nodes.specs.Store.{Same, word, link}

pub record Stored (xs ys : List ℕ) (u w x : ℕ) : Type 0 where
  pub same : Same xs ys u
  pub word_is : word ys u ≡ w
  pub link_is : link ys u ≡ x

-- it was put after them
pub stored : (xs : List ℕ) (u w x : ℕ) {ys : List ℕ} → 2 * u + 2 ≤ length xs
    → ys ≡ set (set xs (2 * u) w) (2 * u + 1) x → Stored xs ys u w x
stored xs u w x fits put =
    let with_word = set xs (2 * u) w in
    rw put (record {
      same = record {
        as_long = simp length-set;
        kept = λ k lt.
            get_or-set_other with_word (2 * u + 1) k x 0 (λ e. omega arith)
            ∙ get_or-set_other xs (2 * u) k w 0 (λ e. omega arith);
      };
      word_is =
          get_or-set_other with_word (2 * u + 1) (2 * u) x 0 (λ e. omega arith)
          ∙ get_or-set_same xs (2 * u) w 0 (omega arith);
      link_is = get_or-set_same with_word (2 * u + 1) x 0 (simp length-set (omega arith));
    })
