-- What other crates may use of this crate's proofs.
pub use Rattle.plain_words.proofs.Steps.{bind_some, when_some, or_first, chosen, first_gives}
pub use Rattle.plain_words.proofs.WordLaws.{number_found, number_spelled, place_found, place_spelled, in_range, port_small, word_parts}
pub use Rattle.plain_words.proofs.LineLaws.{decimal_visible, are_visible, words_found, words_spelled, split_uncut, split_cut, words_cut, words_uncut}
