-- The laws of a round. Other crates' proofs cite them as Rattle.refinement.proofs.NAME.
pub mod SpanLaws
pub mod MergeLaws
pub mod SplitLaws
pub mod RoundLaws
pub mod Examples
