-- `Text::same_name` meets its contract. The invariant: the bytes before agree.
use Rattle.std.proofs.Common.{ℕ, ◌≡◌, ◌<◌, get_or}
use Rattle.words.proofs.text.Text.same_name.Given as goal

abbrev pub invariant-loop-i : goal.invariant-loop-i
invariant-loop-i l = (k : ℕ) → k < l.i → get_or l.one k 0 ≡ get_or l.other k 0
