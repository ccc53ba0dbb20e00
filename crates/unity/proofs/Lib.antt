-- How near the basis functions' values add up to one. Other crates' proofs cite them as Rattle.unity.proofs.NAME.
pub mod SumLaws
pub mod SharingLaws
pub mod RowLaws
pub mod DegreeLaws
pub mod UnityLaws
pub mod ReadLaws
pub mod Examples
