-- The laws of what is made of a direction and handed out. Other crates' proofs cite them as Rattle.making.proofs.NAME.
pub mod MakeLaws
pub mod SavedLaws
pub mod HandedLaws
pub mod FitLaws
