-- Weighing a contraction: what the calls ask, and what the measures come to.
use Prim.Native.Nat.{ℕ, ◌+◌, ◌*◌, ◌-◌, ◌^◌, ◌≤◌, ◌<◌}
use mathlib.Core.Path.{◌≡◌, sym, ◌∙◌}
use mathlib.Core.Bool.{Bool}
use mathlib.Core.List.{List}
use native.Mathlib.Omega.{arith}
use native.Mathlib.Nat.{mul-le-mul}
use lib.ListN.{get_or}
use Rattle.calculus.specs.Term.{nodes}
use Rattle.calculus.specs.Bounds.{most_nodes}
use Rattle.calculus.specs.Substitution.{occurs}
use Rattle.calculus.proofs.Growth.{nodes-put}
use Rattle.nodes.specs.Packing.{nodes_in, height_in}
use Rattle.nodes.specs.Store.{word}
use Rattle.nodes.proofs.Keeping.{says}
use Rattle.substitution.specs.Weighing.{Measurable, Measures, Occurring, Bursts, Weighable, Weighs}
use Rattle.substitution.specs.declared.weighing.Measured.{Measured}
use Rattle.nodes.proofs.Holding.{indices_fit}
use Rattle.substitution.proofs.Counting.{within}

module _ {room : List ℕ} {body argument : ℕ} (asked : Weighable room body argument)
    {tall : ℕ} (tall_is : tall ≡ height_in (word room argument)) where
  pub measure_asks : Measurable room body 0 tall
  measure_asks =
      let said = says room asked.put_term argument asked.holds_put in
      record {
        term = asked.term;
        holds = asked.holds;
        inside = asked.inside;
        few = omega (arith, asked.few);
        deep = omega (arith, asked.low);
        put_term = asked.put_term;
        tall_is = sym (tall_is ∙ said.height_is);
        low = omega (arith, said.height_is, asked.low_put);
      }

  module _ {found : Measured} (measured : Measures room body 0 tall found) where
    pub burst_asks : Occurring room argument found.deepest
    burst_asks = record {
      term = asked.term;
      put_term = asked.put_term;
      holds_put = asked.holds_put;
      inside = asked.inside_put;
      deepest_at = measured.deepest_at asked.term asked.holds;
      low = asked.low;
      low_put = asked.low_put;
    }

    module _ {all : ℕ} (all_are : all ≡ nodes_in (word room body)) where
      -- there are as many nodes as are taken away
      pub left-low : (found.copies ≤ all) × (all ≤ most_nodes)
      left-low =
          let said = says room asked.term body asked.holds in
          let counted = measured.copies asked.term asked.holds in
          let few = (within 0 asked.put_term asked.term).few in
          (omega (arith, said.nodes_are), omega (arith, said.nodes_are, asked.few))

      module _ {one : ℕ} (one_has : one ≡ nodes_in (word room argument)) where
        pub copies-low : found.copies * one ≤ most_nodes * most_nodes
        copies-low =
            let said = says room asked.put_term argument asked.holds_put in
            let (taken, few) = left-low in
            let copies_few : found.copies ≤ most_nodes = omega arith in
            let nodes_few : one ≤ most_nodes = omega (arith, said.nodes_are, asked.few_put) in
            mul-le-mul copies_few nodes_few

        pub at_end : ((k : ℕ) → get_or room k 0 < 2 ^ 64) → {bursts : Bool}
            → Bursts room argument found.deepest bursts
            → Weighs room body argument (record {
              copies = found.copies;
              bursts = bursts;
              height = found.height;
              nodes = all - found.copies + found.copies * one;
            })
        at_end fit told = record {
          copies_are = λ b h. measured.copies b h;
          bursts = λ b a h g. told.tells b a g (measured.deepest_at b h) (indices_fit room body b fit h);
          height_is = λ b a h g. measured.height_is b a h (sym (tall_is ∙ (says room a argument g).height_is));
          nodes_are = λ b a h g.
              let counted = measured.copies b h in
              let one_is = one_has ∙ (says room a argument g).nodes_are in
              let product : found.copies * one ≡ occurs 0 b * nodes a = rw (counted, one_is) in
              omega (arith, nodes-put 0 a b, (within 0 a b).few, (says room b body h).nodes_are);
        }
