-- What the card's text and the answer's text share: words, decimals, lines.
pub mod Text
