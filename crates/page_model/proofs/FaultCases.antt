-- Pages and the fault of each, or none, by computation.
use Rattle.std.proofs.Common.{◌≡◌, ℕ, List, [], ◌∷◌, ◌++◌, map, Option, Some, None, codes, replicate, refl}
use Rattle.std.specs.Str.{is_utf8, chars}
use Rattle.std.specs.Char.{encode_utf8}
use Rattle.std.specs.Fmt.{digits}
use Rattle.exact_decimal.specs.Decimals.{decimal_cmp}
use Rattle.exact_decimal.specs.Tokens.{unsigned, has_minus, mantissa, whole_part, fraction_part, has_exponent, exponent_part, is_digits, is_real, is_infinity, is_nan_token, is_number_token, multiplies_by, divides_by, without_leading_zeros, trailing_zeros, without_trailing_zeros, significant_digits, one_form, is_within, decimal_of, is_in_limits}
use Rattle.exact_decimal.specs.Numbers.{number_read, number_of}
use Rattle.exact_decimal.specs.Order.{less, same, whole}
use Rattle.page_lines.specs.Lines.{lines_of, ends_clean}
use Rattle.page_model.specs.declared.format.Treatment.TheVariants.{Scraped}
use Rattle.page_model.specs.declared.rule.Rule.TheVariants as rules
use Rattle.page_model.specs.Written.{Setting, text_setting, open_setting}
use Rattle.page_model.specs.TextItems.{trimmed, is_integer_token}
use Rattle.page_model.specs.TextReading as text
use Rattle.page_model.specs.OpenReading as open_text
use Rattle.page_model.specs.Owners.{kind_of, sample_owner, owned_lines, samples_of}
use Rattle.page_model.specs.Rules.{is_after_eof, is_without_eof, is_late_descriptor, is_split, is_bad_unit, has_forbidden_unit, is_bad_exemplar, is_interleaved, has_wrong_suffix, is_duplicate, has_bad_value, has_forbidden_value, has_bad_threshold, is_out_of_order, is_past_limit, buckets_of_group, infinite_bucket, is_complete_at, is_incomplete, leaves_incomplete, exemplar_characters}
use Rattle.page_model.specs.Faults.{Fault, line_breaks, own_fault, sample_breaks, owned_breaks, item_breaks, item_fault, end_breaks, end_fault, line_fault, fault_from}
use Rattle.page_model.specs.PageReading.{text_fault}

-- a page, how many samples it may have, and the fault that it has
record Case : Type 0 where
  limit : ℕ
  page : List ℕ
  fault : Option Fault

abbrev case : List ℕ → Option Fault → Case
case page fault = record { limit = 200000; page = page; fault = fault }

-- under this setting each page has its fault
abbrev HaveFaults : (ℕ → Setting) → List Case → Type 0
HaveFaults setting cases = map (λ (c : Case). text_fault (setting c.limit) c.page) cases ≡ map (λ (c : Case). c.fault) cases

-- pages of the text format
abbrev text_pages : List Case
text_pages =
    -- no bytes
    case ([]) None ∷
    -- the last line without a line feed
    case (codes "x 1") (Some (2, rules.NoNewline)) ∷
    -- labels in another order, and one without a value, are the same set
    case (codes "x{b=\"1\",a=\"2\",} 1\nx{a=\"2\",b=\"1\",c=\"\"} 2\n") (Some (2, rules.Duplicate)) ∷
    -- escapes, and a character of two bytes, in a value
    case (codes "x{a=\"p\\n\\\"\\\\\\q" ++ (195 ∷ 169 ∷ []) ++ codes "\"} 1\n") None ∷
    -- one sample more than the limit
    (record { limit = 1; page = (codes "x 1\ny 2\n"); fault = Some (2, rules.TooMany) }) ∷
    -- a sample apart from its TYPE line
    case (codes "# TYPE x counter\ny 1\nx 2\n") (Some (3, rules.Split)) ∷
    -- a byte that no character has
    case (codes "x{a=\"" ++ (255 ∷ []) ++ codes "\"} 1\n") (Some (1, rules.Utf8)) ∷
    -- before the missing line feed
    case ((255 ∷ [])) (Some (1, rules.Utf8)) ∷
    -- two bytes of one character
    case (codes "x{a=\"" ++ (195 ∷ 169 ∷ []) ++ codes "\"} 1\n") None ∷
    -- no item
    case (codes "x\n") (Some (1, rules.Syntax)) ∷
    case (codes "x 1 2 3\n") (Some (1, rules.Syntax)) ∷
    case (codes "{a=\"b\"} 1\n") (Some (1, rules.Syntax)) ∷
    case (codes "x{a=b} 1\n") (Some (1, rules.Syntax)) ∷
    case (codes "x{,} 1\n") (Some (1, rules.Syntax)) ∷
    case (codes "x{a=\"1\",,} 1\n") (Some (1, rules.Syntax)) ∷
    case (codes "x{a=\"1\"\n") (Some (1, rules.Syntax)) ∷
    case (codes "x{a=\"1} 1\n") (Some (1, rules.Syntax)) ∷
    case (codes "x{a=\"1\\\"} 1\n") (Some (1, rules.Syntax)) ∷
    case (codes "# TYPE x bogus\n") (Some (1, rules.Syntax)) ∷
    case (codes "# TYPE x\n") (Some (1, rules.Syntax)) ∷
    case (codes "# TYPE x counter x\n") (Some (1, rules.Syntax)) ∷
    case (codes "# TYPE x info\n") (Some (1, rules.Syntax)) ∷
    case (codes "# HELP\n") (Some (1, rules.Syntax)) ∷
    case (codes "# HELP 1x a\n") (Some (1, rules.Syntax)) ∷
    case (codes "# HELP x{ a\n") (Some (1, rules.Syntax)) ∷
    case (codes "1x 2\n") (Some (1, rules.Syntax)) ∷
    case (codes "x abc\n") (Some (1, rules.Syntax)) ∷
    case (codes "x 1 1.5\n") (Some (1, rules.Syntax)) ∷
    case (codes "x1\n") (Some (1, rules.Syntax)) ∷
    case (codes "x{a=\"1\" b=\"2\"} 1\n") (Some (1, rules.Syntax)) ∷
    case (codes "x{1a=\"1\"} 1\n") (Some (1, rules.Syntax)) ∷
    case (codes "x{a:b=\"1\"} 1\n") (Some (1, rules.Syntax)) ∷
    case (codes "x 1 # {a=\"1\"} 1\n") (Some (1, rules.Syntax)) ∷
    case ((194 ∷ 160 ∷ []) ++ codes "x 1\n") (Some (1, rules.Syntax)) ∷
    -- an item
    case (codes " x 1\n") None ∷
    case (codes "x\t1\t\n") None ∷
    case (codes "x{}1\n") None ∷
    case (codes "x { a = \"1\" , } 1 1000\n") None ∷
    case (codes "x{a=\"1\"}2\n") None ∷
    case (codes "#HELP x\n") None ∷
    case (codes "#\n") None ∷
    case (codes "# EOF\n") None ∷
    case (codes "# UNIT x s\n") None ∷
    -- no item: HELP without a name
    case (codes "#HELP\n") (Some (1, rules.Syntax)) ∷
    -- an item
    case (codes "# TYPE x untyped\n") None ∷
    case (codes "#\tTYPE \t x  gauge \n") None ∷
    case (codes "# TYPEx y\n") None ∷
    case (codes "a:b 1\n") None ∷
    case (codes ":a 1\n") None ∷
    case (codes "x{a=\"}\"} 1\n") None ∷
    case (codes "x{ } 1\n") None ∷
    case (codes "x{a=\"\\x\"} 1\n") None ∷
    case (codes "x -Inf\n") None ∷
    case (codes "x +1e2 -5\n") None ∷
    case (codes "# HELP x  \\\n") None ∷
    case (codes "\n") None ∷
    case (codes "  \t\n") None ∷
    -- a timestamp with more than 128 bytes, most of them zeros in front
    case (codes "x 1 " ++ (replicate 130 48 ++ codes "5\n")) None ∷
    -- a timestamp of minus zero
    case (codes "x 1 -0\n") None ∷
    -- a number of more than 128 bytes
    case (codes "x " ++ (replicate 130 48 ++ codes "5\n")) (Some (1, rules.Range)) ∷
    -- a carriage return before the line feed
    case (codes "x 1\r\n") (Some (1, rules.Syntax)) ∷
    -- a value out of range
    case (codes "x 1e309\n") (Some (1, rules.Range)) ∷
    -- a timestamp out of range
    case (codes "x 1 9223372036854775808\n") (Some (1, rules.Range)) ∷
    -- the greatest timestamp
    case (codes "x 1 9223372036854775807\n") None ∷
    -- the least timestamp
    case (codes "x 1 -9223372036854775808\n") None ∷
    -- a label twice
    case (codes "x{a=\"1\",a=\"2\"} 1\n") (Some (1, rules.Labels)) ∷
    -- a label twice, once without a value
    case (codes "x{a=\"\",a=\"2\"} 1\n") (Some (1, rules.Labels)) ∷
    -- range goes before labels
    case (codes "x{a=\"1\",a=\"2\"} 1e309\n") (Some (1, rules.Range)) ∷
    -- 64 labels
    case (codes "x{l0=\"1\",l1=\"1\",l2=\"1\",l3=\"1\",l4=\"1\",l5=\"1\",l6=\"1\",l7=\"1\",l8=\"1\",l9=\"1\",l10=\"1\",l11=\"1\",l12=\"1\",l13=\"1\",l14=\"1\",l15=\"1\",l16=\"1\",l17=\"1\",l18=\"1\",l19=\"1\",l20=\"1\",l21=\"1\",l22=\"1\",l23=\"1\",l24=\"1\",l25=\"1\",l26=\"1\",l27=\"1\",l28=\"1\",l29=\"1\",l30=\"1\",l31=\"1\",l32=\"1\",l33=\"1\",l34=\"1\",l35=\"1\",l36=\"1\",l37=\"1\",l38=\"1\",l39=\"1\",l40=\"1\",l41=\"1\",l42=\"1\",l43=\"1\",l44=\"1\",l45=\"1\",l46=\"1\",l47=\"1\",l48=\"1\",l49=\"1\",l50=\"1\",l51=\"1\",l52=\"1\",l53=\"1\",l54=\"1\",l55=\"1\",l56=\"1\",l57=\"1\",l58=\"1\",l59=\"1\",l60=\"1\",l61=\"1\",l62=\"1\",l63=\"1\"} 1\n") None ∷
    -- 65 labels
    case (codes "x{l0=\"1\",l1=\"1\",l2=\"1\",l3=\"1\",l4=\"1\",l5=\"1\",l6=\"1\",l7=\"1\",l8=\"1\",l9=\"1\",l10=\"1\",l11=\"1\",l12=\"1\",l13=\"1\",l14=\"1\",l15=\"1\",l16=\"1\",l17=\"1\",l18=\"1\",l19=\"1\",l20=\"1\",l21=\"1\",l22=\"1\",l23=\"1\",l24=\"1\",l25=\"1\",l26=\"1\",l27=\"1\",l28=\"1\",l29=\"1\",l30=\"1\",l31=\"1\",l32=\"1\",l33=\"1\",l34=\"1\",l35=\"1\",l36=\"1\",l37=\"1\",l38=\"1\",l39=\"1\",l40=\"1\",l41=\"1\",l42=\"1\",l43=\"1\",l44=\"1\",l45=\"1\",l46=\"1\",l47=\"1\",l48=\"1\",l49=\"1\",l50=\"1\",l51=\"1\",l52=\"1\",l53=\"1\",l54=\"1\",l55=\"1\",l56=\"1\",l57=\"1\",l58=\"1\",l59=\"1\",l60=\"1\",l61=\"1\",l62=\"1\",l63=\"1\",l64=\"1\"} 1\n") (Some (1, rules.Labels)) ∷
    -- HELP twice
    case (codes "# HELP x a\n# HELP x b\n") (Some (2, rules.Descriptor)) ∷
    -- HELP and TYPE
    case (codes "# HELP x a\n# TYPE x gauge\nx 1\n") None ∷
    -- HELP behind a sample
    case (codes "# TYPE x gauge\nx 1\n# HELP x a\n") (Some (3, rules.Descriptor)) ∷
    -- TYPE behind a sample
    case (codes "x 1\n# TYPE x gauge\n") (Some (2, rules.Descriptor)) ∷
    -- TYPE twice
    case (codes "# TYPE x gauge\n# TYPE x counter\n") (Some (2, rules.Descriptor)) ∷
    -- descriptor goes before split
    case (codes "x 1\ny 1\n# HELP x a\n") (Some (3, rules.Descriptor)) ∷
    -- samples of a family apart
    case (codes "x 1\ny 1\nx{a=\"1\"} 1\n") (Some (3, rules.Split)) ∷
    -- blank lines and comments split nothing
    case (codes "x 1\n\n# comment\nx{a=\"1\"} 1\n") None ∷
    -- descriptors of a family apart
    case (codes "# HELP x a\ny 1\n# TYPE x gauge\n") (Some (3, rules.Split)) ∷
    -- a text counter may be negative
    case (codes "# TYPE c counter\nc -1\n") None ∷
    -- another family: a text counter allows no suffix
    case (codes "# TYPE c counter\nc_total 1\n") None ∷
    -- two series
    case (codes "x{a=\"1\"} 1\nx{a=\"2\"} 1\n") None ∷
    -- an empty value is absent
    case (codes "x{a=\"1\"} 1\nx{a=\"1\",b=\"\"} 2\n") (Some (2, rules.Duplicate)) ∷
    -- renamed label sets are compared
    case (codes "x{job=\"a\"} 1\nx{exported_job=\"a\"} 2\n") (Some (2, rules.Duplicate)) ∷
    -- renamed twice
    case (codes "x{job=\"a\",exported_job=\"a\"} 1\nx{exported_job=\"a\"} 2\n") None ∷
    -- a gauge may have any label
    case (codes "# TYPE g gauge\ng{le=\"x\",quantile=\"y\"} 1\n") None ∷
    -- as many as the limit
    (record { limit = 2; page = (codes "x 1\ny 2\n"); fault = None }) ∷
    -- duplicate goes before too many
    (record { limit = 2; page = (codes "x 1\n\n# HELP y a\ny 2\ny 3\n"); fault = Some (5, rules.Duplicate) }) ∷
    []

-- pages of the text format with histograms and summaries
abbrev text_histograms : List Case
text_histograms =
    -- a whole histogram
    case (codes "# TYPE h histogram\nh_bucket{le=\"0.1\"} 2\nh_bucket{le=\"1\"} 5\nh_bucket{le=\"+Inf\"} 5\nh_sum 1.5\nh_count 5\n") None ∷
    -- without the bucket +Inf
    case (codes "# TYPE h histogram\nh_bucket{le=\"0.1\"} 2\nh_bucket{le=\"1\"} 5\nh_sum 1.5\nh_count 5\ny 1\n") (Some (6, rules.Incomplete)) ∷
    -- with another count
    case (codes "# TYPE h histogram\nh_bucket{le=\"0.1\"} 2\nh_bucket{le=\"1\"} 5\nh_bucket{le=\"+Inf\"} 5\nh_sum 1.5\nh_count 6\ny 1\n") (Some (7, rules.Incomplete)) ∷
    -- one bound twice, in two spellings
    case (codes "# TYPE h histogram\nh_bucket{le=\"0.5\"} 1\nh_bucket{le=\"0.50\"} 1\n") (Some (3, rules.Order)) ∷
    -- a bucket behind +Inf
    case (codes "# TYPE h histogram\nh_bucket{le=\"+Inf\"} 2\nh_bucket{le=\"1\"} 2\n") (Some (3, rules.Order)) ∷
    -- a summary without a quantile
    case (codes "# TYPE s summary\ns 1\n") (Some (2, rules.Threshold)) ∷
    -- a histogram without suffix
    case (codes "# TYPE h histogram\nh 1\n") (Some (2, rules.Suffix)) ∷
    -- a bucket of no whole number
    case (codes "# TYPE h histogram\nh_bucket{le=\"+Inf\"} 1.5\n") (Some (2, rules.Value)) ∷
    -- a negative count
    case (codes "# TYPE h histogram\nh_count -1\n") (Some (2, rules.Value)) ∷
    -- a count of no whole number
    case (codes "# TYPE s summary\ns_count 1.5\n") (Some (2, rules.Value)) ∷
    -- a count in another form
    case (codes "# TYPE s summary\ns_count 1e3\ns_sum NaN\n") None ∷
    -- no label le
    case (codes "# TYPE h histogram\nh_bucket 1\n") (Some (2, rules.Threshold)) ∷
    -- an empty le is absent
    case (codes "# TYPE h histogram\nh_bucket{le=\"\"} 1\n") (Some (2, rules.Threshold)) ∷
    -- le is no number
    case (codes "# TYPE h histogram\nh_bucket{le=\"abc\"} 1\n") (Some (2, rules.Threshold)) ∷
    -- le is not a number
    case (codes "# TYPE h histogram\nh_bucket{le=\"NaN\"} 1\n") (Some (2, rules.Threshold)) ∷
    -- le is minus infinity
    case (codes "# TYPE h histogram\nh_bucket{le=\"-Inf\"} 1\n") (Some (2, rules.Threshold)) ∷
    -- le is out of range
    case (codes "# TYPE h histogram\nh_bucket{le=\"1e999\"} 1\n") (Some (2, rules.Threshold)) ∷
    -- infinity in another spelling
    case (codes "# TYPE h histogram\nh_bucket{le=\"inf\"} 1\n") None ∷
    -- a sum with le
    case (codes "# TYPE h histogram\nh_sum{le=\"1\"} 1\n") (Some (2, rules.Threshold)) ∷
    -- an empty le on a sum is absent
    case (codes "# TYPE h histogram\nh_bucket{le=\"+Inf\"} 1\nh_sum{le=\"\"} 1\n") None ∷
    -- a quantile that is infinite
    case (codes "# TYPE s summary\ns{quantile=\"+Inf\"} 1\n") (Some (2, rules.Threshold)) ∷
    -- a sum with a quantile
    case (codes "# TYPE s summary\ns_sum{quantile=\"1\"} 1\n") (Some (2, rules.Threshold)) ∷
    -- a count that falls
    case (codes "# TYPE h histogram\nh_bucket{le=\"1\"} 2\nh_bucket{le=\"+Inf\"} 1\n") (Some (3, rules.Order)) ∷
    -- groups are ordered apart
    case (codes "# TYPE h histogram\nh_bucket{a=\"1\",le=\"1\"} 2\nh_bucket{a=\"2\",le=\"1\"} 1\nh_bucket{a=\"1\",le=\"+Inf\"} 2\nh_bucket{a=\"2\",le=\"+Inf\"} 1\n") None ∷
    -- a quantile twice
    case (codes "# TYPE s summary\ns{quantile=\"0.5\"} 1\ns{quantile=\"0.50\"} 1\n") (Some (3, rules.Order)) ∷
    -- quantiles in any order
    case (codes "# TYPE s summary\ns{quantile=\"0.9\"} 1\ns{quantile=\"0.5\"} 9\n") None ∷
    -- the end leaves it
    case (codes "# TYPE h histogram\nh_bucket{le=\"1\"} 2\n") (Some (3, rules.Incomplete)) ∷
    -- a group without buckets
    case (codes "# TYPE h histogram\nh_sum 2\n") (Some (3, rules.Incomplete)) ∷
    -- no group at all
    case (codes "# TYPE h histogram\n") None ∷
    -- one group of two
    case (codes "# TYPE h histogram\nh_bucket{a=\"1\",le=\"+Inf\"} 2\nh_bucket{a=\"2\",le=\"1\"} 2\ny 1\n") (Some (4, rules.Incomplete)) ∷
    -- an equal count in another form
    case (codes "# TYPE h histogram\nh_bucket{le=\"+Inf\"} 2\nh_count 2.0\ny 1\n") None ∷
    -- a count before its bucket
    case (codes "# TYPE h histogram\nh_count 3\nh_bucket{le=\"+Inf\"} 2\n") (Some (4, rules.Incomplete)) ∷
    -- it is not left yet
    case (codes "# TYPE h histogram\nh_bucket{le=\"1\"} 2\nh 1\n") (Some (3, rules.Suffix)) ∷
    -- the kind is not declared yet
    case (codes "h_bucket{le=\"+Inf\"} 1\n# TYPE h histogram\n") None ∷
    -- the kind is not declared yet, and the family was begun
    case (codes "# HELP h a\nh_bucket 1\n# TYPE h histogram\n") (Some (3, rules.Split)) ∷
    -- a suffix that the kind lacks begins a family
    case (codes "# TYPE h histogram\nh_bucket{le=\"+Inf\"} 1\nh_total 1\n") None ∷
    -- names of two families clash
    case (codes "# TYPE a histogram\na_count 1\na_bucket{le=\"+Inf\"} 1\n# TYPE a_count gauge\na_count 2\n") (Some (5, rules.Duplicate)) ∷
    -- names of two families clash, the other way
    case (codes "# TYPE a_count gauge\na_count 1\n# TYPE a histogram\na_count 1\n") (Some (4, rules.Duplicate)) ∷
    -- the name fits the nearest family
    case (codes "# TYPE a_count gauge\n# TYPE a histogram\na_bucket{le=\"+Inf\"} 1\na_count 1\n") None ∷
    -- the name fits the nearest family, the other way
    case (codes "# TYPE a histogram\n# TYPE a_bucket gauge\na_bucket 1\n") None ∷
    -- behind another family it is one of its own
    case (codes "# TYPE a histogram\n# TYPE b gauge\na_bucket{le=\"+Inf\"} 1\n") None ∷
    []

-- pages of OpenMetrics
abbrev open_pages : List Case
open_pages =
    -- no bytes
    case ([]) (Some (1, rules.NoEof)) ∷
    -- no line feed is needed
    case (codes "# EOF") None ∷
    -- an empty line behind the end
    case (codes "# EOF\n\n") (Some (2, rules.Syntax)) ∷
    -- a sample without the suffix of its kind
    case (codes "# TYPE x counter\nx 1\n# EOF\n") (Some (2, rules.Suffix)) ∷
    -- interleaved goes before duplicate
    case (codes "# TYPE x unknown\nx{a=\"1\"} 1\nx{a=\"2\"} 1\nx{a=\"1\"} 2\n# EOF\n") (Some (4, rules.Interleaved)) ∷
    -- no item
    case (codes "x  1\n# EOF\n") (Some (1, rules.Syntax)) ∷
    case (codes " x 1\n# EOF\n") (Some (1, rules.Syntax)) ∷
    case (codes "x 1 \n# EOF\n") (Some (1, rules.Syntax)) ∷
    case (codes "# HELP x\n# EOF\n") (Some (1, rules.Syntax)) ∷
    case (codes "# UNIT x\n# EOF\n") (Some (1, rules.Syntax)) ∷
    case (codes "# foo\n# EOF\n") (Some (1, rules.Syntax)) ∷
    case (codes "x{a=\"1\",} 1\n# EOF\n") (Some (1, rules.Syntax)) ∷
    case (codes "x{ } 1\n# EOF\n") (Some (1, rules.Syntax)) ∷
    case (codes "x{a=\"1\", b=\"2\"} 1\n# EOF\n") (Some (1, rules.Syntax)) ∷
    case (codes "x 1 NaN\n# EOF\n") (Some (1, rules.Syntax)) ∷
    case (codes "x 1 1 1\n# EOF\n") (Some (1, rules.Syntax)) ∷
    case (codes "x\n# EOF\n") (Some (1, rules.Syntax)) ∷
    case (codes "# TYPE x untyped\n# EOF\n") (Some (1, rules.Syntax)) ∷
    case (codes "# TYPE x counter \n# EOF\n") (Some (1, rules.Syntax)) ∷
    case (codes "#EOF\n# EOF\n") (Some (1, rules.Syntax)) ∷
    case (codes "# EOF \n# EOF\n") (Some (1, rules.Syntax)) ∷
    case (codes "x{a=\"1\"}1\n# EOF\n") (Some (1, rules.Syntax)) ∷
    case (codes "x 1 # 2\n# EOF\n") (Some (1, rules.Syntax)) ∷
    case (codes "x 1 # {} \n# EOF\n") (Some (1, rules.Syntax)) ∷
    case (codes "x 1 #{} 2\n# EOF\n") (Some (1, rules.Syntax)) ∷
    case (codes "# UNIT x a-b\n# EOF\n") (Some (1, rules.Syntax)) ∷
    case (codes "x{} 1 # {a=\"1\",} 2\n# EOF\n") (Some (1, rules.Syntax)) ∷
    -- an item
    case (codes "x 1\n# EOF\n") None ∷
    case (codes "x{} 1\n# EOF\n") None ∷
    case (codes "x{a=\"1\",b=\"2\"} 1\n# EOF\n") None ∷
    case (codes "# HELP x \n# EOF\n") None ∷
    case (codes "# HELP x a b \n# EOF\n") None ∷
    case (codes "# UNIT x \n# EOF\n") None ∷
    case (codes "x 1 1.5\n# EOF\n") None ∷
    case (codes "x 1 -1e3\n# EOF\n") None ∷
    case (codes "# TYPE x stateset\n# EOF\n") None ∷
    case (codes "# HELP x \\\"\\n\\\\ \"\n# EOF\n") None ∷
    case (codes "x{a=\"a b # {\"} 1 2\n# EOF\n") None ∷
    -- a timestamp out of range
    case (codes "x 1 1e309\n# EOF\n") (Some (1, rules.Range)) ∷
    -- an exemplar out of range
    case (codes "# TYPE c counter\nc_total 1 # {} 1e309\n# EOF\n") (Some (2, rules.Range)) ∷
    -- an exemplar with a label twice
    case (codes "# TYPE c counter\nc_total 1 # {a=\"1\",a=\"2\"} 1\n# EOF\n") (Some (2, rules.Labels)) ∷
    -- a line behind the end
    case (codes "# EOF\nx 1\n") (Some (2, rules.AfterEof)) ∷
    -- the end twice
    case (codes "# EOF\n# EOF\n") (Some (2, rules.AfterEof)) ∷
    -- no end
    case (codes "x 1\n") (Some (2, rules.NoEof)) ∷
    -- the last line may be open
    case (codes "x 1\n# EOF") None ∷
    -- a counter
    case (codes "# TYPE c counter\nc_total 1\nc_created 5\n# EOF\n") None ∷
    -- a counter that is no number
    case (codes "# TYPE c counter\nc_total NaN\n# EOF\n") (Some (2, rules.Value)) ∷
    -- a negative counter
    case (codes "# TYPE c counter\nc_total -1\n# EOF\n") (Some (2, rules.Value)) ∷
    -- an infinite counter
    case (codes "# TYPE c counter\nc_total +Inf\n# EOF\n") None ∷
    -- a created time that is infinite
    case (codes "# TYPE c counter\nc_created +Inf\n# EOF\n") (Some (2, rules.Value)) ∷
    -- a family of that name may be anything
    case (codes "x_created NaN\n# EOF\n") None ∷
    -- a unit that the name has
    case (codes "# TYPE x_s gauge\n# UNIT x_s s\nx_s 1\n# EOF\n") None ∷
    -- a unit that the name lacks
    case (codes "# UNIT x s\n# EOF\n") (Some (1, rules.Unit)) ∷
    -- without the underscore
    case (codes "# UNIT xs s\n# EOF\n") (Some (1, rules.Unit)) ∷
    -- an info with a unit
    case (codes "# TYPE x_s info\n# UNIT x_s s\n# EOF\n") (Some (2, rules.Unit)) ∷
    -- a state set with a unit, at the later line
    case (codes "# UNIT x_s s\n# TYPE x_s stateset\n# EOF\n") (Some (2, rules.Unit)) ∷
    -- an empty unit
    case (codes "# TYPE x info\n# UNIT x \n# EOF\n") None ∷
    -- UNIT twice
    case (codes "# UNIT x_s s\n# UNIT x_s s\n# EOF\n") (Some (2, rules.Descriptor)) ∷
    -- an exemplar of a total
    case (codes "# TYPE c counter\nc_total 1 # {a=\"1\"} 0.5 1\n# EOF\n") None ∷
    -- an exemplar of a created time
    case (codes "# TYPE c counter\nc_created 1 # {a=\"1\"} 0.5\n# EOF\n") (Some (2, rules.Exemplar)) ∷
    -- an exemplar of a gauge
    case (codes "# TYPE g gauge\ng 1 # {a=\"1\"} 0.5\n# EOF\n") (Some (2, rules.Exemplar)) ∷
    -- a name that looks like a bucket
    case (codes "x_bucket 1 # {} 0.5\n# EOF\n") (Some (1, rules.Exemplar)) ∷
    -- 128 characters
    case (codes "# TYPE c counter\nc_total 1 # {a=\"bbbbbbbbbbbbbbbbbbbbbbbbbbbbbbbbbbbbbbbbbbbbbbbbbbbbbbbbbbbbbbbbbbbbbbbbbbbbbbbbbbbbbbbbbbbbbbbbbbbbbbbbbbbbbbbbbbbbbbbbbbbbbbb\"} 1\n# EOF\n") None ∷
    -- 129 characters
    case (codes "# TYPE c counter\nc_total 1 # {a=\"bbbbbbbbbbbbbbbbbbbbbbbbbbbbbbbbbbbbbbbbbbbbbbbbbbbbbbbbbbbbbbbbbbbbbbbbbbbbbbbbbbbbbbbbbbbbbbbbbbbbbbbbbbbbbbbbbbbbbbbbbbbbbbbb\"} 1\n# EOF\n") (Some (2, rules.Exemplar)) ∷
    -- 128 characters of more bytes
    case (codes "# TYPE c counter\nc_total 1 # {a=\"" ++ (195 ∷ 169 ∷ 195 ∷ 169 ∷ 195 ∷ 169 ∷ 195 ∷ 169 ∷ 195 ∷ 169 ∷ 195 ∷ 169 ∷ 195 ∷ 169 ∷ 195 ∷ 169 ∷ 195 ∷ 169 ∷ 195 ∷ 169 ∷ 195 ∷ 169 ∷ 195 ∷ 169 ∷ 195 ∷ 169 ∷ 195 ∷ 169 ∷ 195 ∷ 169 ∷ 195 ∷ 169 ∷ 195 ∷ 169 ∷ 195 ∷ 169 ∷ 195 ∷ 169 ∷ 195 ∷ 169 ∷ 195 ∷ 169 ∷ 195 ∷ 169 ∷ 195 ∷ 169 ∷ 195 ∷ 169 ∷ 195 ∷ 169 ∷ 195 ∷ 169 ∷ 195 ∷ 169 ∷ 195 ∷ 169 ∷ 195 ∷ 169 ∷ 195 ∷ 169 ∷ 195 ∷ 169 ∷ 195 ∷ 169 ∷ 195 ∷ 169 ∷ 195 ∷ 169 ∷ 195 ∷ 169 ∷ 195 ∷ 169 ∷ 195 ∷ 169 ∷ 195 ∷ 169 ∷ 195 ∷ 169 ∷ 195 ∷ 169 ∷ 195 ∷ 169 ∷ 195 ∷ 169 ∷ 195 ∷ 169 ∷ 195 ∷ 169 ∷ 195 ∷ 169 ∷ 195 ∷ 169 ∷ 195 ∷ 169 ∷ 195 ∷ 169 ∷ 195 ∷ 169 ∷ 195 ∷ 169 ∷ 195 ∷ 169 ∷ 195 ∷ 169 ∷ 195 ∷ 169 ∷ 195 ∷ 169 ∷ 195 ∷ 169 ∷ 195 ∷ 169 ∷ 195 ∷ 169 ∷ 195 ∷ 169 ∷ 195 ∷ 169 ∷ 195 ∷ 169 ∷ 195 ∷ 169 ∷ 195 ∷ 169 ∷ 195 ∷ 169 ∷ 195 ∷ 169 ∷ 195 ∷ 169 ∷ 195 ∷ 169 ∷ 195 ∷ 169 ∷ 195 ∷ 169 ∷ 195 ∷ 169 ∷ 195 ∷ 169 ∷ 195 ∷ 169 ∷ 195 ∷ 169 ∷ 195 ∷ 169 ∷ 195 ∷ 169 ∷ 195 ∷ 169 ∷ 195 ∷ 169 ∷ 195 ∷ 169 ∷ 195 ∷ 169 ∷ 195 ∷ 169 ∷ 195 ∷ 169 ∷ 195 ∷ 169 ∷ 195 ∷ 169 ∷ 195 ∷ 169 ∷ 195 ∷ 169 ∷ 195 ∷ 169 ∷ 195 ∷ 169 ∷ 195 ∷ 169 ∷ 195 ∷ 169 ∷ 195 ∷ 169 ∷ 195 ∷ 169 ∷ 195 ∷ 169 ∷ 195 ∷ 169 ∷ 195 ∷ 169 ∷ 195 ∷ 169 ∷ 195 ∷ 169 ∷ 195 ∷ 169 ∷ 195 ∷ 169 ∷ 195 ∷ 169 ∷ 195 ∷ 169 ∷ 195 ∷ 169 ∷ 195 ∷ 169 ∷ 195 ∷ 169 ∷ 195 ∷ 169 ∷ 195 ∷ 169 ∷ 195 ∷ 169 ∷ 195 ∷ 169 ∷ 195 ∷ 169 ∷ 195 ∷ 169 ∷ 195 ∷ 169 ∷ 195 ∷ 169 ∷ 195 ∷ 169 ∷ 195 ∷ 169 ∷ 195 ∷ 169 ∷ 195 ∷ 169 ∷ 195 ∷ 169 ∷ 195 ∷ 169 ∷ 195 ∷ 169 ∷ 195 ∷ 169 ∷ 195 ∷ 169 ∷ 195 ∷ 169 ∷ 195 ∷ 169 ∷ 195 ∷ 169 ∷ 195 ∷ 169 ∷ 195 ∷ 169 ∷ 195 ∷ 169 ∷ 195 ∷ 169 ∷ 195 ∷ 169 ∷ []) ++ codes "\"} 1\n# EOF\n") None ∷
    -- an empty value is absent, name and all
    case (codes "# TYPE c counter\nc_total 1 # {a=\"bbbbbbbbbbbbbbbbbbbbbbbbbbbbbbbbbbbbbbbbbbbbbbbbbbbbbbbbbbbbbbbbbbbbbbbbbbbbbbbbbbbbbbbbbbbbbbbbbbbbbbbbbbbbbbbbbbbbbbbbbbbbbbb\",c=\"\"} 1\n# EOF\n") None ∷
    -- an info
    case (codes "# TYPE i info\ni_info{a=\"1\"} 1\n# EOF\n") None ∷
    -- an info that is not 1
    case (codes "# TYPE i info\ni_info 2\n# EOF\n") (Some (2, rules.Value)) ∷
    -- an info without suffix
    case (codes "# TYPE i info\ni 1\n# EOF\n") (Some (2, rules.Suffix)) ∷
    -- a state set
    case (codes "# TYPE s stateset\ns{s=\"a\"} 1\ns{s=\"b\"} 0.0\n# EOF\n") None ∷
    -- a state that is neither 0 nor 1
    case (codes "# TYPE s stateset\ns{s=\"a\"} 2\n# EOF\n") (Some (2, rules.Value)) ∷
    -- a state without its label
    case (codes "# TYPE s stateset\ns{t=\"a\"} 1\n# EOF\n") (Some (2, rules.Value)) ∷
    -- states of two groups mixed
    case (codes "# TYPE s stateset\ns{s=\"a\",x=\"1\"} 1\ns{s=\"a\",x=\"2\"} 1\ns{s=\"b\",x=\"1\"} 1\n# EOF\n") (Some (4, rules.Interleaved)) ∷
    -- names of two families clash
    case (codes "# TYPE c counter\nc_total 1\n# TYPE c_total gauge\nc_total 2\n# EOF\n") (Some (4, rules.Duplicate)) ∷
    -- names that do not clash
    case (codes "# TYPE c gauge\nc 1\n# TYPE c_total gauge\nc_total 2\n# EOF\n") None ∷
    -- a created time apart from its total
    case (codes "# TYPE c counter\nc_total{a=\"1\"} 1\nc_total{a=\"2\"} 1\nc_created{a=\"1\"} 1\n# EOF\n") (Some (4, rules.Interleaved)) ∷
    -- metrics one after another
    case (codes "# TYPE c counter\nc_total{a=\"1\"} 1\nc_created{a=\"1\"} 1\nc_total{a=\"2\"} 1\n# EOF\n") None ∷
    -- histograms and summaries
    -- an item
    case (codes "# TYPE x gaugehistogram\n# EOF\n") None ∷
    -- an exemplar of a bucket
    case (codes "# TYPE h histogram\nh_bucket{le=\"+Inf\"} 1 # {} 0.5\n# EOF\n") None ∷
    -- a gauge histogram
    case (codes "# TYPE g gaugehistogram\ng_bucket{le=\"+Inf\"} 1\ng_gcount 1\ng_gsum -1\n# EOF\n") None ∷
    -- EOF leaves it
    case (codes "# TYPE g gaugehistogram\ng_bucket{le=\"+Inf\"} 1\ng_gcount 2\n# EOF\n") (Some (4, rules.Incomplete)) ∷
    -- a suffix that the kind lacks begins a family
    case (codes "# TYPE g gaugehistogram\ng_count 2\n# EOF\n") None ∷
    -- a count of no whole number
    case (codes "# TYPE g gaugehistogram\ng_gcount 0.5\n# EOF\n") (Some (2, rules.Value)) ∷
    -- no end goes before incomplete
    case (codes "# TYPE h histogram\nh_bucket{le=\"1\"} 1\n") (Some (3, rules.NoEof)) ∷
    []

-- each page has its fault
faults : HaveFaults (text_setting Scraped) text_pages × HaveFaults (text_setting Scraped) text_histograms × HaveFaults (open_setting Scraped) open_pages
unfolding lines_of ends_clean text_fault is_integer_token unsigned has_minus mantissa whole_part fraction_part has_exponent exponent_part is_digits is_real is_infinity is_nan_token is_number_token multiplies_by divides_by without_leading_zeros trailing_zeros without_trailing_zeros significant_digits one_form is_within decimal_of is_in_limits is_utf8 digits chars encode_utf8 number_read number_of decimal_cmp less same whole trimmed text.label_at text.labels_at text.middle_from text.middle_at text.stamp_of text.sample_of text.kind_named text.named_at text.marked_of text.trimmed_of text.text_line_of kind_of sample_owner owned_lines samples_of is_after_eof is_without_eof is_late_descriptor is_split is_bad_unit has_forbidden_unit is_bad_exemplar is_interleaved has_wrong_suffix is_duplicate has_bad_value has_forbidden_value has_bad_threshold is_out_of_order is_past_limit buckets_of_group infinite_bucket is_complete_at is_incomplete leaves_incomplete exemplar_characters line_breaks own_fault sample_breaks owned_breaks item_breaks item_fault end_breaks end_fault line_fault fault_from open_text.label_at open_text.more_labels_at open_text.list_at open_text.optional_list_at open_text.value_at open_text.stamp_at open_text.exemplar_of open_text.sample_of open_text.kind_named open_text.named_at open_text.descriptor_of open_text.open_line_of
faults = (refl, refl, refl)
