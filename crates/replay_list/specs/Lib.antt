-- A list of calls with answers: its text, its cases, and an answer beside the list's.
pub mod Text
pub mod Listed
pub mod Compared
