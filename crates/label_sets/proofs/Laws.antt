-- What other crates may use of this crate's proofs.
pub use Rattle.label_sets.proofs.ListLaws.{same_tests, bytes_eq-swap, option_or-none, option_map-none, when_true-none, all-append, all-front, all-behind, all-reverse, all-weaker, all-filter, filter-passes, any-map, any-reverse, filter-none, rest-passed, rest-stopped, rest-none, length-inserted}
pub use Rattle.label_sets.proofs.Same.{label_decides, sets_decide, kind_decides, key_decides}
pub use Rattle.label_sets.proofs.Order.{distinct_before, distinct_kept, sorted_ascending, sorted_itself, sorted_permutation, IsLabelSet-nil, IsLabelSet-without, IsLabelSet-label_set}
pub use Rattle.label_sets.proofs.Repeats.{repeated_at-distinct, distinct_from_repeated_at}
pub use Rattle.label_sets.proofs.NewNames.{IsLabelSet-renamed}
