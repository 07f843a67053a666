-- What other crates may use of this crate's proofs.
pub use Rattle.packed_keys.proofs.Packed.{key_decides, key_back, set_back, part_back, same_key, same_set}
pub use Rattle.packed_keys.proofs.Taken.{gone_of_parted}
