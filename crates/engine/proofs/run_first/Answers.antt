-- `engine::run_first` meets its contract: the store's first part is lent to `rounds::run`.
use Rattle.engine.proofs.Stepping.{first-ready, first_run}
use Rattle.engine.proofs.run_first.Goals as goal

pub run-requires : goal.run-requires
run-requires c =
    let (t, at) = c.requires in
    (t, first-ready at)

pub returns : goal.returns
returns c =
    λ t at. first_run at c.run.ensures
