-- What the answers of `grant` and of runs mean.
use Rattle.std.specs.Prelude.{ℕ, ◌*◌, ◌&&◌, leb, Result, Ok, Err}
use Rattle.calculus.specs.Bounds.{output_per_node, room_per_node}
use Rattle.calculus.specs.Refusal.{Answer, ◌then◌, kept_if, outside_bounds, too_little_room}
use Rattle.calculus.specs.Runs as calculus
use Rattle.calculus.specs.Outcomes.{cap_allowed}
use Rattle.term.specs.Answers.{refusal_of}
use Rattle.nodes.specs.declared.runs.End.{End}
use Rattle.nodes.specs.declared.runs.End.TheVariants.{Finished, Unfinished}
use Rattle.nodes.specs.declared.runs.Run.{Run}
use Rattle.nodes.specs.declared.runs.Stopped.{Stopped}

-- 1, then 2
unfoldable pub granting : (cap output room : ℕ) → Answer ℕ
granting cap output room =
    kept_if (cap_allowed cap) outside_bounds cap then
    kept_if (leb (output_per_node * cap) output && leb (room_per_node * cap) room) too_little_room

-- a run that comes to something after so many steps
abbrev pub ended : {A : Type 0} → End → ℕ → A → calculus.Run A
ended Finished steps reached = calculus.finished steps reached
ended Unfinished steps reached = calculus.unfinished steps reached

unfoldable pub run_told : Result Run Stopped → calculus.Run ℕ
run_told (Ok run) = ended run.end run.steps run.length
run_told (Err stopped) = calculus.refused_after stopped.steps (refusal_of stopped.why)
