-- The laws of the grid calls, and demand 3 of grids.
pub mod CallLaws
pub mod GridLaws
