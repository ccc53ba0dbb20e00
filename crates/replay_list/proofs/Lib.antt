-- What the loops do, and values beside words.
pub mod Loops
pub mod ValueLaws
