-- The laws of fits, and demand 3. Other crates' proofs cite them as Rattle.fitting.proofs.NAME.
pub mod DeviationLaws
pub mod RefinedLaws
pub mod ToleranceLaws
pub mod FlatLaws
pub mod AttemptLaws
pub mod RoundsLaws
pub mod CountLaws
