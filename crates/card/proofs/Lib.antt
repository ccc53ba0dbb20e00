-- The laws of the texts that are printed.
pub mod AnswerLaws
pub mod TextLaws
