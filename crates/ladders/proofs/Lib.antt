-- The laws of the ladder calls, and demand 3. Other crates' proofs cite them as Rattle.ladders.proofs.NAME.
pub mod LadderLaws
pub mod RunLaws
