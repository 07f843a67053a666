-- Outcomes with a page or its fault, by computation.
use Rattle.std.proofs.Common.{◌≡◌, [], ◌∷◌, Some, None, codes, refl}
use Rattle.std.specs.Str.{is_utf8, chars}
use Rattle.std.specs.Char.{encode_utf8}
use Rattle.std.specs.Fmt.{digits}
use Rattle.exact_decimal.specs.Decimals.{decimal_cmp}
use Rattle.exact_decimal.specs.Tokens.{unsigned, has_minus, mantissa, whole_part, fraction_part, has_exponent, exponent_part, is_digits, is_real, is_infinity, is_nan_token, is_number_token, multiplies_by, divides_by, without_leading_zeros, trailing_zeros, without_trailing_zeros, significant_digits, one_form, is_within, decimal_of, is_in_limits}
use Rattle.exact_decimal.specs.Numbers.{number_read, number_of}
use Rattle.exact_decimal.specs.Order.{less, same, whole}
use Rattle.page_lines.specs.Lines.{lines_of, ends_clean}
use Rattle.page_model.specs.declared.rule.Rule.TheVariants as rules
use Rattle.page_model.specs.TextItems.{trimmed, is_integer_token}
use Rattle.page_model.specs.TextReading.{label_at, labels_at, middle_from, middle_at, stamp_of, sample_of, kind_named, named_at, marked_of, trimmed_of, text_line_of}
use Rattle.page_model.specs.Owners.{kind_of, sample_owner, owned_lines, samples_of}
use Rattle.page_model.specs.Rules.{is_after_eof, is_without_eof, is_late_descriptor, is_split, is_bad_unit, has_forbidden_unit, is_bad_exemplar, is_interleaved, has_wrong_suffix, is_duplicate, has_bad_value, has_forbidden_value, has_bad_threshold, is_out_of_order, is_past_limit, buckets_of_group, infinite_bucket, is_complete_at, is_incomplete, leaves_incomplete, exemplar_characters}
use Rattle.page_model.specs.Faults.{line_breaks, own_fault, sample_breaks, owned_breaks, item_breaks, item_fault, end_breaks, end_fault, line_fault, fault_from}
use Rattle.page_model.specs.PageReading.{text_fault, text_page}
use Rattle.page_model.proofs.Laws.{first_fault_read, page_is_read}
use Rattle.page_model.specs.declared.format.Format.TheVariants.{Text}
use Rattle.page_model.specs.declared.event.Cause.TheVariants as causes
use Rattle.page_model.specs.declared.event.Outcome.TheVariants as outcomes
use Rattle.httparse.proofs.OnLiterals.{httparse_on_literals}
use Rattle.bridge_ports.specs.declared.talk.End.TheVariants as ends
use Rattle.http_talk.specs.Heads.{head_cause}
use Rattle.http_talk.specs.Chunks.{place_after}
use Rattle.http_talk.specs.Replies.{decided, goes_on, whole as whole_reply, chunks_verdict, body_judged, judged, HasOutcome, scraped_setting}
use Rattle.http_talk.proofs.Laws.{by_head, field, ok_head}

-- the page of one sample has no fault
one_sample : text_fault (scraped_setting Text 20000) (codes "x 1\n") ≡ None
unfolding lines_of ends_clean text_fault is_integer_token unsigned has_minus mantissa whole_part fraction_part has_exponent exponent_part is_digits is_real is_infinity is_nan_token is_number_token multiplies_by divides_by without_leading_zeros trailing_zeros without_trailing_zeros significant_digits one_form is_within decimal_of is_in_limits is_utf8 digits chars encode_utf8 number_read number_of decimal_cmp less same whole trimmed label_at labels_at middle_from middle_at stamp_of sample_of kind_named named_at marked_of trimmed_of text_line_of kind_of sample_owner owned_lines samples_of is_after_eof is_without_eof is_late_descriptor is_split is_bad_unit has_forbidden_unit is_bad_exemplar is_interleaved has_wrong_suffix is_duplicate has_bad_value has_forbidden_value has_bad_threshold is_out_of_order is_past_limit buckets_of_group infinite_bucket is_complete_at is_incomplete leaves_incomplete exemplar_characters line_breaks own_fault sample_breaks owned_breaks item_breaks item_fault end_breaks end_fault line_fault fault_from
one_sample = refl

-- one sample more than there may be
two_samples : text_fault (scraped_setting Text 1) (codes "x 1\ny 2\n") ≡ Some (2, rules.TooMany)
unfolding lines_of ends_clean text_fault is_integer_token unsigned has_minus mantissa whole_part fraction_part has_exponent exponent_part is_digits is_real is_infinity is_nan_token is_number_token multiplies_by divides_by without_leading_zeros trailing_zeros without_trailing_zeros significant_digits one_form is_within decimal_of is_in_limits is_utf8 digits chars encode_utf8 number_read number_of decimal_cmp less same whole trimmed label_at labels_at middle_from middle_at stamp_of sample_of kind_named named_at marked_of trimmed_of text_line_of kind_of sample_owner owned_lines samples_of is_after_eof is_without_eof is_late_descriptor is_split is_bad_unit has_forbidden_unit is_bad_exemplar is_interleaved has_wrong_suffix is_duplicate has_bad_value has_forbidden_value has_bad_threshold is_out_of_order is_past_limit buckets_of_group infinite_bucket is_complete_at is_incomplete leaves_incomplete exemplar_characters line_breaks own_fault sample_breaks owned_breaks item_breaks item_fault end_breaks end_fault line_fault fault_from
two_samples = refl

-- the chunked reply of 71 bytes gives that page
chunked_page : HasOutcome 20000 1024 (record { at = 10; sent = []; got = codes "HTTP/1.1 200 OK\r\nTransfer-Encoding: chunked\r\n\r\n4;a=b\r\nx 1\n\r\n0\r\nT: v\r\n\r\n"; end = ends.Left }) (outcomes.Page (text_page (scraped_setting Text 20000) (codes "x 1\n")))
unfolding httparse_on_literals head_cause judged body_judged chunks_verdict place_after
chunked_page = record {
  known = decided (whole_reply Text (codes "x 1\n"));
  judged_so = by_head _ _ (ok_head (field (codes "Transfer-Encoding") (codes " chunked") ∷ [])) (codes "4;a=b\r\nx 1\n\r\n0\r\nT: v\r\n\r\n") _ refl refl refl refl;
  outcome_is = (page_is_read (scraped_setting Text 20000) (codes "x 1\n") _).1 (one_sample, refl);
}

-- a body that goes to the end is whole at the end, and has too many samples
too_many : HasOutcome 1 1024 (record { at = 10; sent = []; got = codes "HTTP/1.1 200 OK\r\n\r\nx 1\ny 2\n"; end = ends.Ended }) (outcomes.Failed (causes.Page 2 rules.TooMany))
unfolding httparse_on_literals head_cause judged body_judged chunks_verdict place_after
too_many = record {
  known = goes_on Text (codes "x 1\ny 2\n");
  judged_so = by_head _ _ (ok_head []) (codes "x 1\ny 2\n") _ refl refl refl refl;
  outcome_is = (first_fault_read (scraped_setting Text 1) (codes "x 1\ny 2\n") (2, rules.TooMany)).1 two_samples;
}

-- the same, where a read failed before the end: the fault of transport goes first
read_first : HasOutcome 1 1024 (record { at = 10; sent = []; got = codes "HTTP/1.1 200 OK\r\n\r\nx 1\ny 2\n"; end = ends.ReadFailed }) (outcomes.Failed causes.Read)
unfolding httparse_on_literals head_cause judged body_judged chunks_verdict place_after
read_first = record {
  known = goes_on Text (codes "x 1\ny 2\n");
  judged_so = by_head _ _ (ok_head []) (codes "x 1\ny 2\n") _ refl refl refl refl;
  outcome_is = refl;
}
