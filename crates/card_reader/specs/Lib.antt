-- The card and its text, what the reader promises of a text, and how it reads one.
pub mod Card
pub mod Reading
pub mod Judged
