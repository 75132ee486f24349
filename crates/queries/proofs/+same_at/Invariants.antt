use Rattle.queries.proofs.+same_at.Given as goal

-- the room falls at each call
abbrev pub decreases-same_at : goal.decreases-same_at
decreases-same_at l = l.room
