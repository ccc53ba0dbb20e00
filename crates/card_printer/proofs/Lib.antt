-- The laws of texts put one after the other.
pub mod PutLaws
