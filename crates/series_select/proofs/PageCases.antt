-- Selected pages, by computation: the texts of federation pages, selectors, and the text of the page that these leave,
-- as a model in another language tells it.
use Rattle.std.proofs.Common.{◌≡◌, ℕ, List, [], ◌∷◌, ◌++◌, map, codes, refl}
use Rattle.std.specs.Str.{is_utf8, chars}
use Rattle.std.specs.Char.{encode_utf8}
use Rattle.std.specs.Fmt.{digits}
use Rattle.exact_decimal.specs.Decimals.{decimal_cmp}
use Rattle.exact_decimal.specs.Tokens.{unsigned, has_minus, mantissa, whole_part, fraction_part, has_exponent, exponent_part, is_digits, is_real, is_infinity, is_nan_token, is_number_token, multiplies_by, divides_by, without_leading_zeros, trailing_zeros, without_trailing_zeros, significant_digits, one_form, is_within, decimal_of, is_in_limits}
use Rattle.exact_decimal.specs.Numbers.{number_read, number_of}
use Rattle.exact_decimal.specs.Order.{less, same, whole}
use Rattle.exact_decimal.specs.Literals.{sign_text, pointed, plain_text, difference_text, exponent_text, is_plain, size_text, decimal_text, number_text}
use Rattle.page_lines.specs.Lines.{lines_of, ends_clean}
use Rattle.page_model.specs.OpenReading as open_text
use Rattle.page_model.specs.Owners.{kind_of, sample_owner, owned_lines, samples_of}
use Rattle.page_model.specs.Rules.{is_after_eof, is_without_eof, is_late_descriptor, is_split, is_bad_unit, has_forbidden_unit, is_bad_exemplar, is_interleaved, has_wrong_suffix, is_duplicate, has_bad_value, has_forbidden_value, has_bad_threshold, is_out_of_order, is_past_limit, buckets_of_group, infinite_bucket, is_complete_at, is_incomplete, leaves_incomplete, exemplar_characters}
use Rattle.page_model.specs.Faults.{line_breaks, own_fault, sample_breaks, owned_breaks, item_breaks, item_fault, end_breaks, end_fault, line_fault, fault_from}
use Rattle.page_model.specs.Readings.{value_with, buckets_of, quantiles_of, sum_of, value_of, stamp_of, exemplars_of, reading_of, readings_of, family_of, families_of, page_of}
use Rattle.page_model.specs.PageReading.{text_fault, text_page}
use Rattle.page_model.specs.declared.format.Treatment.TheVariants.{Written}
use Rattle.page_model.specs.Written.{open_setting}
use Rattle.open_writing.specs.Writing.{value_samples, reading_samples, family_samples, family_items, page_items, sample_lines, escaped, open_label_text, more_labels_text, labels_text, sample_text, item_text, written_text}
use Rattle.std.specs.List.{filter_map}
use Rattle.series_select.specs.SelectorReading.{sign_at, matcher_at, matchers_at, braced, rest_of, bare_selector, selector_in}
use Rattle.series_select.specs.Selection.{is_called, is_selected_by, thinned, selected_families, selected_page}

-- texts of selectors, and the text of the page that they leave
record Selecting : Type 0 where
  selectors : List (List ℕ)
  text : List ℕ

abbrev selecting : List (List ℕ) → List ℕ → Selecting
selecting selectors text = record { selectors = selectors; text = text }

-- the text of the page that selectors leave of the page of a text
abbrev selected_of : List ℕ → List (List ℕ) → List ℕ
selected_of text selectors = written_text (selected_page (filter_map selector_in selectors) (text_page (open_setting Written 200000) text))

abbrev two_targets : List ℕ
two_targets = codes "# TYPE x gauge\nx{exported_job=\"z\",instance=\"h1:80\",job=\"a\"} 1\n# TYPE y unknown\ny{exported_job=\"z\",instance=\"h2:80\",job=\"b\"} 3\n# EOF\n"

abbrev two_targets_selected : List Selecting
two_targets_selected =
    -- a name of one family
    selecting ((codes "y") ∷ []) (codes "# TYPE y unknown\ny{exported_job=\"z\",instance=\"h2:80\",job=\"b\"} 3\n# EOF\n") ∷
    -- every job but one
    selecting ((codes "{job!=\"b\"}") ∷ []) (codes "# TYPE x gauge\nx{exported_job=\"z\",instance=\"h1:80\",job=\"a\"} 1\n# EOF\n") ∷
    -- a kept family has a clashing name
    selecting ((codes "x") ∷ []) (codes "# TYPE x gauge\nx{exported_job=\"z\",instance=\"h1:80\",job=\"a\"} 1\n# EOF\n") ∷
    -- two selectors
    selecting ((codes "x") ∷ (codes "{job=\"b\"}") ∷ []) (codes "# TYPE x gauge\nx{exported_job=\"z\",instance=\"h1:80\",job=\"a\"} 1\n# TYPE y unknown\ny{exported_job=\"z\",instance=\"h2:80\",job=\"b\"} 3\n# EOF\n") ∷
    -- nothing is left
    selecting ((codes "x{job=\"b\"}") ∷ []) (codes "# EOF\n") ∷ []

two_targets_are_so : map (λ (c : Selecting). selected_of two_targets c.selectors) two_targets_selected ≡ map (λ (c : Selecting). c.text) two_targets_selected
unfolding lines_of text_page text_fault ends_clean digits is_utf8 chars encode_utf8 number_read number_of whole unsigned has_minus mantissa whole_part fraction_part has_exponent exponent_part is_digits is_real is_infinity is_nan_token is_number_token multiplies_by divides_by without_leading_zeros trailing_zeros without_trailing_zeros significant_digits one_form is_within decimal_of is_in_limits decimal_cmp less same kind_of sample_owner owned_lines samples_of value_with buckets_of quantiles_of sum_of value_of stamp_of exemplars_of reading_of readings_of family_of families_of page_of open_text.label_at open_text.more_labels_at open_text.list_at open_text.optional_list_at open_text.value_at open_text.stamp_at open_text.exemplar_of open_text.sample_of open_text.kind_named open_text.named_at open_text.descriptor_of open_text.open_line_of is_after_eof is_without_eof is_late_descriptor is_split is_bad_unit has_forbidden_unit is_bad_exemplar is_interleaved has_wrong_suffix is_duplicate has_bad_value has_forbidden_value has_bad_threshold is_out_of_order is_past_limit buckets_of_group infinite_bucket is_complete_at is_incomplete leaves_incomplete exemplar_characters line_breaks own_fault sample_breaks owned_breaks item_breaks item_fault end_breaks end_fault line_fault fault_from sign_text pointed plain_text difference_text exponent_text is_plain size_text decimal_text number_text value_samples reading_samples family_samples family_items page_items sample_lines escaped open_label_text more_labels_text labels_text sample_text item_text written_text sign_at matcher_at matchers_at braced rest_of bare_selector selector_in is_called is_selected_by thinned selected_families selected_page
two_targets_are_so = refl

abbrev every_kind : List ℕ
every_kind = codes "# TYPE c counter\nc_total{instance=\"h1:80\",job=\"j1\"} 5\nc_total{a=\"1\",instance=\"h2:80\",job=\"j2\"} 7\nc_created{a=\"1\",instance=\"h2:80\",job=\"j2\"} 1.5\n# TYPE h histogram\nh_bucket{instance=\"h2:80\",job=\"j2\",le=\"1\"} 1\nh_bucket{instance=\"h2:80\",job=\"j2\",le=\"+Inf\"} 2\nh_count{instance=\"h2:80\",job=\"j2\"} 2\nh_sum{instance=\"h2:80\",job=\"j2\"} 3\nh_bucket{a=\"1\",instance=\"h2:80\",job=\"j2\",le=\"+Inf\"} 2\n# TYPE i info\ni_info{instance=\"h2:80\",job=\"j2\",v=\"1\"} 1\n# TYPE s summary\ns{instance=\"h1:80\",job=\"j1\",quantile=\"0.5\"} 1\ns_count{instance=\"h1:80\",job=\"j1\"} 2\n# TYPE st stateset\nst{instance=\"h2:80\",job=\"j2\",st=\"on\"} 1\nst{instance=\"h2:80\",job=\"j2\",st=\"off\"} 0\n# TYPE x gauge\n# HELP x Some.\nx{a=\"1\",exported_job=\"z\",instance=\"h1:80\",job=\"j1\"} 1\nx{a=\"2\",instance=\"h1:80\",job=\"j1\"} 2\nx{a=\"two\\nlines\",instance=\"h1:80\",job=\"j1\"} 3\nx{a=\"q\\\"\\\\\",instance=\"h1:80\",job=\"j1\"} 4\nx{a=\"1\",instance=\"h2:80\",job=\"j2\"} 9\n# TYPE y unknown\ny{b=\"" ++ (195 ∷ 169 ∷ []) ++ codes "\",instance=\"h1:80\",job=\"j1\"} 3\n# EOF\n"

abbrev every_kind_selected : List Selecting
every_kind_selected =
    -- a counter by its sample name
    selecting ((codes "c_total") ∷ []) (codes "# TYPE c counter\nc_total{instance=\"h1:80\",job=\"j1\"} 5\nc_total{a=\"1\",instance=\"h2:80\",job=\"j2\"} 7\nc_created{a=\"1\",instance=\"h2:80\",job=\"j2\"} 1.5\n# EOF\n") ∷
    -- a counter by its family name
    selecting ((codes "c") ∷ []) (codes "# TYPE c counter\nc_total{instance=\"h1:80\",job=\"j1\"} 5\nc_total{a=\"1\",instance=\"h2:80\",job=\"j2\"} 7\nc_created{a=\"1\",instance=\"h2:80\",job=\"j2\"} 1.5\n# EOF\n") ∷
    -- a counter by its created time
    selecting ((codes "c_created{a=\"1\"}") ∷ []) (codes "# TYPE c counter\nc_total{a=\"1\",instance=\"h2:80\",job=\"j2\"} 7\nc_created{a=\"1\",instance=\"h2:80\",job=\"j2\"} 1.5\n# EOF\n") ∷
    -- a histogram stays whole
    selecting ((codes "h_bucket{a=\"\"}") ∷ []) (codes "# TYPE h histogram\nh_bucket{instance=\"h2:80\",job=\"j2\",le=\"1\"} 1\nh_bucket{instance=\"h2:80\",job=\"j2\",le=\"+Inf\"} 2\nh_count{instance=\"h2:80\",job=\"j2\"} 2\nh_sum{instance=\"h2:80\",job=\"j2\"} 3\n# EOF\n") ∷
    -- a bound is no label
    selecting ((codes "h{le=\"1\"}") ∷ []) (codes "# EOF\n") ∷
    -- a summary by its count
    selecting ((codes "s_count") ∷ []) (codes "# TYPE s summary\ns{instance=\"h1:80\",job=\"j1\",quantile=\"0.5\"} 1\ns_count{instance=\"h1:80\",job=\"j1\"} 2\n# EOF\n") ∷
    -- a quantile is no label
    selecting ((codes "{quantile=\"0.5\"}") ∷ []) (codes "# EOF\n") ∷
    -- an info by its family name
    selecting ((codes "i") ∷ []) (codes "# TYPE i info\ni_info{instance=\"h2:80\",job=\"j2\",v=\"1\"} 1\n# EOF\n") ∷
    -- a state
    selecting ((codes "st{st=\"on\"}") ∷ []) (codes "# TYPE st stateset\nst{instance=\"h2:80\",job=\"j2\",st=\"on\"} 1\n# EOF\n") ∷
    -- a name by a matcher
    selecting ((codes "{__name__=\"i_info\"}") ∷ []) (codes "# TYPE i info\ni_info{instance=\"h2:80\",job=\"j2\",v=\"1\"} 1\n# EOF\n") ∷
    -- no such name, and a label
    selecting ((codes "{__name__!=\"x\",a!=\"\"}") ∷ []) (codes "# TYPE c counter\nc_total{a=\"1\",instance=\"h2:80\",job=\"j2\"} 7\nc_created{a=\"1\",instance=\"h2:80\",job=\"j2\"} 1.5\n# TYPE h histogram\nh_bucket{a=\"1\",instance=\"h2:80\",job=\"j2\",le=\"+Inf\"} 2\n# EOF\n") ∷
    -- a name of no family
    selecting ((codes "h_gsum") ∷ []) (codes "# EOF\n") ∷
    -- escapes
    selecting ((codes "{a=\"two\\nlines\"}") ∷ (codes "{a=\"q\\\"\\\\\"}") ∷ []) (codes "# TYPE x gauge\n# HELP x Some.\nx{a=\"two\\nlines\",instance=\"h1:80\",job=\"j1\"} 3\nx{a=\"q\\\"\\\\\",instance=\"h1:80\",job=\"j1\"} 4\n# EOF\n") ∷
    -- an absent label
    selecting ((codes "x{job=\"j1\",a=\"nope\"}") ∷ []) (codes "# EOF\n") ∷ []

every_kind_are_so : map (λ (c : Selecting). selected_of every_kind c.selectors) every_kind_selected ≡ map (λ (c : Selecting). c.text) every_kind_selected
unfolding lines_of text_page text_fault ends_clean digits is_utf8 chars encode_utf8 number_read number_of whole unsigned has_minus mantissa whole_part fraction_part has_exponent exponent_part is_digits is_real is_infinity is_nan_token is_number_token multiplies_by divides_by without_leading_zeros trailing_zeros without_trailing_zeros significant_digits one_form is_within decimal_of is_in_limits decimal_cmp less same kind_of sample_owner owned_lines samples_of value_with buckets_of quantiles_of sum_of value_of stamp_of exemplars_of reading_of readings_of family_of families_of page_of open_text.label_at open_text.more_labels_at open_text.list_at open_text.optional_list_at open_text.value_at open_text.stamp_at open_text.exemplar_of open_text.sample_of open_text.kind_named open_text.named_at open_text.descriptor_of open_text.open_line_of is_after_eof is_without_eof is_late_descriptor is_split is_bad_unit has_forbidden_unit is_bad_exemplar is_interleaved has_wrong_suffix is_duplicate has_bad_value has_forbidden_value has_bad_threshold is_out_of_order is_past_limit buckets_of_group infinite_bucket is_complete_at is_incomplete leaves_incomplete exemplar_characters line_breaks own_fault sample_breaks owned_breaks item_breaks item_fault end_breaks end_fault line_fault fault_from sign_text pointed plain_text difference_text exponent_text is_plain size_text decimal_text number_text value_samples reading_samples family_samples family_items page_items sample_lines escaped open_label_text more_labels_text labels_text sample_text item_text written_text sign_at matcher_at matchers_at braced rest_of bare_selector selector_in is_called is_selected_by thinned selected_families selected_page
every_kind_are_so = refl

-- without a selector the page stays as it is
whole_page_stays : selected_of every_kind [] ≡ every_kind
unfolding lines_of text_page text_fault ends_clean digits is_utf8 chars encode_utf8 number_read number_of whole unsigned has_minus mantissa whole_part fraction_part has_exponent exponent_part is_digits is_real is_infinity is_nan_token is_number_token multiplies_by divides_by without_leading_zeros trailing_zeros without_trailing_zeros significant_digits one_form is_within decimal_of is_in_limits decimal_cmp less same kind_of sample_owner owned_lines samples_of value_with buckets_of quantiles_of sum_of value_of stamp_of exemplars_of reading_of readings_of family_of families_of page_of open_text.label_at open_text.more_labels_at open_text.list_at open_text.optional_list_at open_text.value_at open_text.stamp_at open_text.exemplar_of open_text.sample_of open_text.kind_named open_text.named_at open_text.descriptor_of open_text.open_line_of is_after_eof is_without_eof is_late_descriptor is_split is_bad_unit has_forbidden_unit is_bad_exemplar is_interleaved has_wrong_suffix is_duplicate has_bad_value has_forbidden_value has_bad_threshold is_out_of_order is_past_limit buckets_of_group infinite_bucket is_complete_at is_incomplete leaves_incomplete exemplar_characters line_breaks own_fault sample_breaks owned_breaks item_breaks item_fault end_breaks end_fault line_fault fault_from sign_text pointed plain_text difference_text exponent_text is_plain size_text decimal_text number_text value_samples reading_samples family_samples family_items page_items sample_lines escaped open_label_text more_labels_text labels_text sample_text item_text written_text sign_at matcher_at matchers_at braced rest_of bare_selector selector_in is_called is_selected_by thinned selected_families selected_page
whole_page_stays = refl

-- samples are counted anew: three of one histogram and two of the other
samples_counted : (selected_page (filter_map selector_in (codes "h" ∷ [])) (text_page (open_setting Written 200000) every_kind)).samples ≡ 5
unfolding lines_of text_page text_fault ends_clean digits is_utf8 chars encode_utf8 number_read number_of whole unsigned has_minus mantissa whole_part fraction_part has_exponent exponent_part is_digits is_real is_infinity is_nan_token is_number_token multiplies_by divides_by without_leading_zeros trailing_zeros without_trailing_zeros significant_digits one_form is_within decimal_of is_in_limits decimal_cmp less same kind_of sample_owner owned_lines samples_of value_with buckets_of quantiles_of sum_of value_of stamp_of exemplars_of reading_of readings_of family_of families_of page_of open_text.label_at open_text.more_labels_at open_text.list_at open_text.optional_list_at open_text.value_at open_text.stamp_at open_text.exemplar_of open_text.sample_of open_text.kind_named open_text.named_at open_text.descriptor_of open_text.open_line_of is_after_eof is_without_eof is_late_descriptor is_split is_bad_unit has_forbidden_unit is_bad_exemplar is_interleaved has_wrong_suffix is_duplicate has_bad_value has_forbidden_value has_bad_threshold is_out_of_order is_past_limit buckets_of_group infinite_bucket is_complete_at is_incomplete leaves_incomplete exemplar_characters line_breaks own_fault sample_breaks owned_breaks item_breaks item_fault end_breaks end_fault line_fault fault_from sign_text pointed plain_text difference_text exponent_text is_plain size_text decimal_text number_text value_samples reading_samples family_samples family_items page_items sample_lines escaped open_label_text more_labels_text labels_text sample_text item_text written_text sign_at matcher_at matchers_at braced rest_of bare_selector selector_in is_called is_selected_by thinned selected_families selected_page
samples_counted = refl
