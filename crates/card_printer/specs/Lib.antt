-- The texts that the card program prints.
pub mod Answer
