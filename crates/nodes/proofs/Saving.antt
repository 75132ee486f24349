-- Saving a term: what is left to be put at each node, what the calls ask there and what they come to.
use Prim.Native.Nat.{ℕ, ◌+◌, ◌*◌, ◌≤◌, ◌<◌}
use mathlib.Core.Path.{◌≡◌, refl, sym, ap}
use mathlib.Core.List.{List, [], ◌∷◌, ◌++◌, append-nil}
use native.Mathlib.Omega.{arith}
use lib.ListN.{length, set, length-set}
use Rattle.calculus.specs.Term.{Term}
use Rattle.calculus.specs.Bytes.{digits, encode}
use Rattle.calculus.proofs.Sizes.{size, length-encode}
use Rattle.calculus.proofs.Putting.{Puts, Leaves, all_left, put_on, none_left, leaves-length}
use Rattle.nodes.specs.Node.{node_in}
use Rattle.nodes.specs.declared.Node.{Node}
use Rattle.nodes.specs.declared.Node.TheVariants.{Variable, Abstraction, Application}
use Rattle.nodes.specs.Store.{Holds, word, link}
use Rattle.nodes.specs.Coded.{Savable, Saves}
use Rattle.nodes.proofs.Parts.{HeldAbstraction, HeldApplication}
use Rattle.nodes.proofs.Parts.{held-variable, held-abstraction, held-application}
use Rattle.nodes.proofs.Coding.{one_put}

-- of a whole term, the term of this node is left
pub record Remaining (room before : List ℕ) (from here : ℕ) (out : List ℕ) (to : ℕ) (whole : Term) : Type 0 where
  pub term : Term
  pub holds : Holds room term here
  pub left : Leaves before from (encode whole) out to (encode term)

-- whatever term the whole is
pub record On (room : List ℕ) (node : ℕ) (before : List ℕ) (from here : ℕ) (out : List ℕ) (to : ℕ) : Type 0 where
  pub not_above : here ≤ node
  pub on : (whole : Term) → Holds room whole node → Remaining room before from here out to whole

-- so many places are left in the output, which is as long as it was
pub record Places (before out : List ℕ) (to count : ℕ) : Type 0 where
  pub fits : to + count ≤ length out
  pub as_long : length out ≡ length before

module _ {room : List ℕ} {node : ℕ} {before : List ℕ} {from : ℕ} where
  pub at_first : On room node before from node before from
  at_first = record {
    not_above = omega arith;
    on = λ t h. record { term = t; holds = h; left = all_left };
  }

  module _ {here : ℕ} {out : List ℕ} {to : ℕ} (now : On room node before from here out to)
      (asked : Savable room node before from) where
    -- the term of this node, and that its bytes fit
    rest : Remaining room before from here out to asked.term
    rest = now.on asked.term asked.holds

    places-here : Places before out to (size rest.term)
    places-here =
        let long = leaves-length _ _ rest.left in
        let bytes = length-encode rest.term in
        let all = length-encode asked.term in
        record { fits = omega (arith, rest.left.reached, asked.fits); as_long = long }

    pub inside-here : 2 * here + 2 ≤ length room
    inside-here = omega (arith, now.not_above, asked.inside)

    module _ {found : Node} (told : found ≡ node_in (word room here) (link room here)) where
      -- A VARIABLE ends the bytes
      module _ {i : ℕ} (is : found ≡ Variable i) where
        pub variable_asks : Places before out to 9
        unfolding size
        variable_asks =
            let e = ap size (held-variable room here told rest.term rest.holds is) in omega (arith, places-here)

        pub at_variable : {end : ℕ} {after : List ℕ} → Puts (set out to 1) (to + 1) (digits 7 i) end after
            → Saves room node before from end after
        unfolding encode
        at_variable put = record {
          saved = λ t h.
              let x = now.on t h in
              let index = digits 7 i in
              let bytes = ap encode (held-variable room here told x.term x.holds is) in
              let kind_put = put_on (1 ∷ []) index x.left bytes (one_put 1 refl) in
              none_left (put_on index [] kind_put (sym (append-nil _)) put) refl;
        }

      -- AN ABSTRACTION leaves its body
      module _ {b : ℕ} (is : found ≡ Abstraction b) where
        held-body : HeldAbstraction room here b rest.term
        held-body = held-abstraction room here told rest.term rest.holds is

        pub abstraction_asks : Places before out to 1
        unfolding size
        abstraction_asks = let e = ap size held-body.same in omega (arith, places-here)

        pub body_below : b < here
        body_below = held-body.below

        pub at_abstraction : On room node before from b (set out to 2) (to + 1)
        unfolding encode
        at_abstraction = record {
          not_above = omega (arith, body_below, now.not_above);
          on = λ t h.
              let x = now.on t h in
              let v = held-abstraction room here told x.term x.holds is in
              let bytes = ap encode v.same in record {
                term = v.body;
                holds = v.held;
                left = put_on (2 ∷ []) (encode v.body) x.left bytes (one_put 2 refl);
              };
        }

      -- AN APPLICATION, once its left part is saved, leaves its right part
      module _ {l r : ℕ} (is : found ≡ Application l r) where
        parts : HeldApplication room here l r rest.term
        parts = held-application room here told rest.term rest.holds is

        pub application_asks : Places before out to 1
        unfolding size
        application_asks = let e = ap size parts.same in omega (arith, places-here)

        pub left_below : l < here
        left_below = parts.left_below

        pub right_below : r < here
        right_below = parts.right_below

        pub left_asks : Savable room l (set out to 3) (to + 1)
        unfolding size
        left_asks = record {
          term = parts.left;
          holds = parts.left_held;
          inside = omega (arith, inside-here, parts.left_below);
          fits = omega (arith, places-here.fits, ap size parts.same, length-set out to 3);
        }

        pub at_application : {end : ℕ} {mid : List ℕ}
            → Saves room l (set out to 3) (to + 1) end mid
            → On room node before from r mid end
        unfolding encode
        at_application first = record {
          not_above = omega (arith, right_below, now.not_above);
          on = λ t h.
              let x = now.on t h in
              let v = held-application room here told x.term x.holds is in
              let first_bytes = encode v.left in
              let last_bytes = encode v.right in
              let kind_put = put_on (3 ∷ []) (first_bytes ++ last_bytes) x.left (ap encode v.same) (one_put 3 refl) in
              record {
                term = v.right;
                holds = v.right_held;
                left = put_on first_bytes last_bytes kind_put refl (first.saved v.left v.left_held);
              };
        }
