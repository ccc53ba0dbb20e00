-- The laws of words and decimals. Other crates' proofs cite them as Rattle.card_text.proofs.NumberLaws.
pub mod NumberLaws
