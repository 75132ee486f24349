-- `printer::gauging::gauge_whole` meets its contract: a walk to the end of the bytes, and few enough nodes.
use Rattle.printer.proofs.Gauged.{whole_known}
use Rattle.printer.proofs.gauging.gauge_whole.Goals as goal

pub returns : goal.returns
returns c =
    whole_known c.gauge_part.ensures c.in_ok-end.was c.if-end-s.false c.if-counts-gt-MOST_NODES.false
