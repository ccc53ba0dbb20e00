-- Laws that belong to no one function. `LuLaws` and `SolvedLaws` are the textbook's equations; other crates cite them as Rattle.lu.proofs.NAME.
pub mod Lengths
pub mod PivotLaws
pub mod LuLaws
pub mod SolvedLaws
pub mod NarrowLaws
pub mod Examples
