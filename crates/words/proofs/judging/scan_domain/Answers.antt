-- `scan_domain` meets its contract.
use Rattle.std.proofs.Common.{sym, ◌∙◌, arith, rules}
use Rattle.words.specs.Judging.{is_inside, is_outside}
use Rattle.words.proofs.Domains.{all-passed, pass_sign, pass_plain}
use Rattle.words.proofs.Domains.{outside_last, outside_lone, outside_plain}
use Rattle.words.proofs.judging.scan_domain.Goals as goal
use Rattle.words.proofs.judging.scan_domain.Goals.{in_default-via-then-after-lt1, in_default-via-else-after-lt1+in_default-1}

pub returns-in-empty : goal.returns-in-empty
returns-in-empty c =
    is_inside
    (all-passed c.loop-rest.rest.now c.loop-rest.invariant (omega (arith, c.in-empty.len_below)) c.requires
    (λ i. (c.type_inv.text i).fits))

pub returns-in_default : goal.returns-in_default
returns-in_default c =
    is_outside
    (elim c.in_default.branch [
      | in_default-via-then-after-lt1 w ↦
          outside_last c.loop-rest.rest.now c.loop-rest.invariant (omega arith) (search rules)
      | in_default-via-else-after-lt1+in_default-1 w ↦
          outside_lone c.loop-rest.rest.now c.loop-rest.invariant (omega arith) (λ e. omega arith)
    ])

pub loop-rest-preserved-in-206 : goal.loop-rest-preserved-in-206
loop-rest-preserved-in-206 c = pass_sign c.loop-rest.rest.now c.loop-rest.invariant (omega arith) (omega arith)

pub returns-then-not-is_plain : goal.returns-then-not-is_plain
returns-then-not-is_plain c =
    is_outside
    (outside_plain c.loop-rest.rest.now c.loop-rest.invariant c.in-len1-up.len_at_least (λ e. omega arith)
    (sym c.is_plain.ensures ∙ c.if-not-is_plain.true))

pub loop-rest-preserved : goal.loop-rest-preserved
loop-rest-preserved c =
    pass_plain c.loop-rest.rest.now c.loop-rest.invariant (sym c.is_plain.ensures ∙ c.if-not-is_plain.false)
