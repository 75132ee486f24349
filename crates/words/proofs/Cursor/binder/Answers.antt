-- `words::Cursor::binder` meets its contract: no figure first, and after the name a dot or the end.
use mathlib.Core.Path.{sym, ◌∙◌}
use Rattle.words.proofs.ClassicWords.{binder-none, binder-figure, binder-last, binder_dot, binder_wrong}
use Rattle.words.proofs.Cursor.binder.Goals as goal

pub returns-then-text-from : goal.returns-then-text-from
returns-then-text-from c =
    let clean = c.args.text.clean in let (placed, after) = c.requires in
    binder-none placed after c.if-text-from.true c.unnamed.ensures

pub returns-then-is_figure : goal.returns-then-is_figure
returns-then-is_figure c =
    let clean = c.args.text.clean in let (placed, after) = c.requires in
    binder-figure (clean, placed, c.if-text-from.false) (sym c.is_figure.ensures ∙ c.if-is_figure.true)

pub returns-then-text-to : goal.returns-then-text-to
returns-then-text-to c =
    let clean = c.args.text.clean in let (placed, after) = c.requires in
    binder-last (clean, placed, c.if-text-from.false) (sym c.is_figure.ensures ∙ c.if-is_figure.false)
    c.over-end.ensures after c.if-text-to.true

pub returns-then-text-to-eq46 : goal.returns-then-text-to-eq46
returns-then-text-to-eq46 c =
    let clean = c.args.text.clean in let (placed, after) = c.requires in
    binder_dot (clean, placed, c.if-text-from.false) (sym c.is_figure.ensures ∙ c.if-is_figure.false)
    c.over-end.ensures c.if-text-to.false c.past.ensures c.if-text-to-eq46.true after

pub returns : goal.returns
returns c =
    let clean = c.args.text.clean in let (placed, after) = c.requires in
    binder_wrong (clean, placed, c.if-text-from.false) (sym c.is_figure.ensures ∙ c.if-is_figure.false)
    c.over-end.ensures c.if-text-to.false c.if-text-to-eq46.false
