-- The laws of what is told to C.
pub mod ToldLaws
pub mod ToldGridLaws
