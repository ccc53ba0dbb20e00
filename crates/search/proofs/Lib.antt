-- The laws of the search. Other crates' proofs cite them as Rattle.search.proofs.NAME.
pub mod SearchLaws
pub mod Fewest
