-- `marking::report_run` meets its contract: the run's line, the term's text and a line feed, one after the other.
use mathlib.Core.List.{[], ◌∷◌, ◌++◌}
use Rattle.calculus.specs.Program.{line}
use Rattle.calculus.specs.Writing.{write_text}
use Rattle.calculus.proofs.Putting.{puts_then}
use Rattle.term.specs.Notations.{notation_of}
use Rattle.marking.proofs.Lines.{feed_fits}
use Rattle.marking.proofs.report_run.Goals as goal

pub put-requires : goal.put-requires
put-requires c =
    feed_fits c.args.word.now c.args.steps c.requires.0 c.requires.1
    c.put_line-text.ensures (notation_of c.args.notation) c.put_term-end.ensures

pub returns : goal.returns
returns c t passes =
    let text = write_text (notation_of c.args.notation) t in
    puts_then (line c.args.word.now c.args.steps) (text ++ (10 ∷ []))
    c.put_line-text.ensures
    (puts_then text (10 ∷ []) (c.put_term-end.ensures t passes) c.put.ensures)
