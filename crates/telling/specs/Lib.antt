-- What a call for C hands back.
pub mod Told
pub mod ToldGrid
pub mod ToldReading
