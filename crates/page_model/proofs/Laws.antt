-- What other crates may use of this crate's proofs.
pub use Rattle.page_model.proofs.Fronts.{while_parts, while_passes, behind_parts, behind-append}
pub use Rattle.page_model.proofs.TextSound.{text_line_sound}
pub use Rattle.page_model.proofs.LineHeads.{head-stays}
pub use Rattle.page_model.proofs.Decides.{written_sound, front_fault, first_fault_read, page_is_read, first_fault_once, fault_or_page, page_of_once}
pub use Rattle.page_model.proofs.Groups.{Member, label_sets_decide, agrees_in, is_complete_group, groups_of, complete_by_groups}
pub use Rattle.page_model.proofs.Prefixes.{fault_from-append, too_long_fault}
pub use Rattle.page_model.proofs.Least.{none_found}
pub use Rattle.page_model.proofs.KindLaws.{kind_of_page}
pub use Rattle.page_model.proofs.Stamps.{stamp_in, stamp_kept, stamp_is_within, no_stamp, none_given}
pub use Rattle.page_model.proofs.Texts.{items_make_text, Made, nothing_made, made_more, made_says}
pub use Rattle.page_model.proofs.DistinctKeys.{page-distinct_keys}
pub use Rattle.page_model.proofs.SomeOf.{some_skipped, some_filtered}
pub use Rattle.page_model.proofs.RightPages.{whole_family, text_is_right, nothing_is_right, right-distinct_keys}
pub use Rattle.page_model.proofs.Filled.{no_readings, filled_is_read, filled_readings}
