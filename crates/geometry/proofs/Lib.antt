-- The laws of doubles and points. Other crates' proofs cite them as Rattle.geometry.proofs.NAME.
pub mod DoubleLaws
pub mod FloatOrder
pub mod Folds
pub mod PointLaws
pub mod FactorLaws
pub mod SortLaws
pub mod Correct
pub mod OrderLaws
pub mod RootOrder
pub mod SquareRootLaws
pub mod Roots
pub mod Examples
pub mod Whole
mod Steps
mod QuickLaws
pub mod Patterns
mod Special
pub mod ErrorLaws
pub mod RoundingLaws
pub mod UnitLaws
pub mod OperationLaws
pub mod ExactLaws
pub mod ShareLaws
pub mod SizeLaws
