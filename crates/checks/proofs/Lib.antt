-- What a ladder and a grid that pass their checks have. Other crates' proofs cite them as Rattle.checks.proofs.NAME.
pub mod CheckLaws
pub mod GridCheckLaws
pub mod RisingLaws
