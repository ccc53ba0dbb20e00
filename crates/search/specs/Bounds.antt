-- What the arithmetic of a search wants. It holds in every state of a search (proofs/SearchLaws, running_bounded).
use Rattle.std.specs.Prelude.{◌≤◌}
use Rattle.search.specs.declared.Search.{Search}

pub record Bounded (s : Search) : Type 0 where
  pub rises : 1 ≤ s.step
  pub apart : s.low ≤ s.high
  pub small : s.high ≤ 1024
