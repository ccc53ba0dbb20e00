-- The bytes that were read stand in the first places. Assumes nothing.
use Rattle.std.proofs.Common.{ℕ, sym}
use Rattle.std.proofs.lemmas.List.{length-replicate}
use Rattle.replay.proofs.main.Goals as goal

pub slice_bounds-read_full-end : goal.slice_bounds-read_full-end
slice_bounds-read_full-end c = sym (length-replicate {A = ℕ} 524288 0)

pub slice_bounds-text-end : goal.slice_bounds-text-end
slice_bounds-text-end c = c.read_full-n.ensures.0

pub slice_bounds-replay_text-end : goal.slice_bounds-replay_text-end
slice_bounds-replay_text-end c = c.read_full-n.ensures.1
