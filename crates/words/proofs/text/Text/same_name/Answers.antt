-- `Text::same_name` meets its contract: where the first bytes agree, `==` of the rest decides.
use Rattle.std.proofs.Common.{arith}
use Rattle.words.proofs.SameNames.{bytes-length, agreeing-names}
use Rattle.words.proofs.text.Text.same_name.Goals as goal

pub returns : goal.returns
returns c =
    let clean = c.args.self.clean in
    let (x_in, y_in) = c.requires in
    agreeing-names clean c.args.x c.args.y c.min-near.result (omega (arith, c.min-near.ensures))
    (omega (arith, bytes-length clean c.args.x x_in, bytes-length clean c.args.y y_in, c.if-x-y.false))
    (λ k low. c.loop-i.invariant k (omega (arith, c.loop-i-test.false))) c.eq.ensures
