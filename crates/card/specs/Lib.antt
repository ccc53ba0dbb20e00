-- What the program says of a read, and what it prints.
pub mod Input
pub mod Answers
