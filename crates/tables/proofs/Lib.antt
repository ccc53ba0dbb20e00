-- The laws of tables, of what is read by them, and of the measures of distances. Other crates' proofs cite them as Rattle.tables.proofs.NAME.
pub mod DirectionLaws
pub mod ReadingLaws
pub mod TableLaws
pub mod PointsLaws
pub mod MeasureLaws
pub mod GridLaws
pub mod BookLaws
