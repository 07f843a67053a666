-- What other crates may use of this crate's proofs.
pub use Rattle.exact_decimal.proofs.Runs.{value_more}
pub use Rattle.exact_decimal.proofs.Answered.{not_a_number, read_form, whole_value}
pub use Rattle.exact_decimal.proofs.TokenChars.{all_mono, from_digit, from_sign, real_passes, token_passes}
pub use Rattle.exact_decimal.proofs.OrderLaws.{decimal_cmp_total}
pub use Rattle.exact_decimal.proofs.NumberOrder.{less_trans, same_itself, same_normal, whole_less, whole_same}
pub use Rattle.exact_decimal.proofs.ReadBack.{read_back}
pub use Rattle.exact_decimal.proofs.WholeCounts.{whole_back}
pub use Rattle.exact_decimal.proofs.Texts.{length-decimal_text}
