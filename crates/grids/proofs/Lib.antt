-- What the steps of a grid call ask and give.
pub mod SurfaceLaws
pub mod RoomLaws
pub mod FitLaws
pub mod DirectionLaws
pub mod GridRunLaws
pub mod GridCallLaws
