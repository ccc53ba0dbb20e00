-- The reader's laws: what is read is a card's text, every card's text is read, and both as the promise of `judge`.
pub mod CaseLaws
pub mod DigitLaws
pub mod RangeLaws
pub mod SoundLaws
pub mod CompleteLaws
pub mod LaidLaws
pub mod JudgedLaws
