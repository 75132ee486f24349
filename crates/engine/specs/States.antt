-- How a run stands, as what the engine's functions lend and answer tells it.
use Rattle.std.specs.Prelude.{ℕ, ◌-◌}
use Rattle.engine.specs.declared.Stop.{Stop}
use Rattle.engine.specs.declared.Stop.TheVariants.{Rested, Stepped}
use Rattle.engine.specs.declared.At.{At}
use Rattle.engine.specs.declared.Work.{Work}

-- the node of its part, the number of the next node, the steps that may still be made, the nodes by which the whole
-- term may still grow, and why it stopped
pub record State : Type 0 where
  pub node : ℕ
  pub used : ℕ
  pub budget : ℕ
  pub spare : ℕ
  pub stop : Stop

-- what is lent and a node to begin at
abbrev pub standing : (node : ℕ) → Work → State
standing node work = record {
  node = node;
  used = work.used;
  budget = work.budget;
  spare = work.spare;
  stop = Rested;
}

-- at no node
abbrev pub lent : Work → State
lent = standing 0

-- what is lent and an answer: a node and why the run stopped there
abbrev pub told : At → Work → State
told answer work = record {
  node = answer.node;
  used = work.used;
  budget = work.budget;
  spare = work.spare;
  stop = answer.stop;
}

-- the same state at another node to begin at, at one that was made, and stopped
abbrev pub placed : State → ℕ → State
placed s node = record { node = node; used = s.used; budget = s.budget; spare = s.spare; stop = Rested }

abbrev pub renoded : State → (node used : ℕ) → State
renoded s node used = record {
  node = node;
  used = used;
  budget = s.budget;
  spare = s.spare;
  stop = s.stop;
}

abbrev pub halted : State → Stop → State
halted s stop = record { node = s.node; used = s.used; budget = s.budget; spare = s.spare; stop = stop }

-- the state once its term is the first nodes, the last of which it is
abbrev pub restarted : State → (used : ℕ) → State
restarted s used = record { node = used - 1; used = used; budget = s.budget; spare = s.spare; stop = Rested }

-- the state once a contraction is made
abbrev pub advanced : State → (node used spare : ℕ) → State
advanced s node used spare = record {
  node = node;
  used = used;
  budget = s.budget - 1;
  spare = spare;
  stop = Stepped;
}
