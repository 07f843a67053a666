-- How the part of a sample is found: by what stands behind the family's name, then its value, then its label `le` or `quantile`.
-- Prometheus text format 0.0.4, "Histograms and summaries"; OpenMetrics 1.0, "Counter", "Histogram", "GaugeHistogram", "Summary".
use Rattle.std.specs.Prelude.{ℕ, ◌||◌, List, Result, Ok, Err, unwrap_or, if◌then◌else◌}
use Rattle.exact_decimal.specs.Numbers.{number_of}
use Rattle.exact_decimal.specs.Order.{less, whole, is_finite, is_not_a_number}
use Rattle.label_sets.specs.declared.kind.Kind.{Kind}
use Rattle.label_sets.specs.Lists.{some_passes}
use Rattle.label_sets.specs.Labels.{has_name}
use Rattle.page_model.specs.declared.format.Format.{Format}
use Rattle.page_model.specs.declared.item.Sample.{Sample}
use Rattle.page_model.specs.declared.suffix.Suffix.{Suffix}
use Rattle.page_model.specs.declared.suffix.Suffix.TheVariants as suffixes
use Rattle.page_model.specs.declared.rule.Rule.{Rule}
use Rattle.page_model.specs.declared.rule.Rule.TheVariants as rules
use Rattle.page_model.specs.Rules.{threshold, quantile_at, is_bound, is_whole, has_bad_value, has_bad_threshold}
use Rattle.page_model.specs.Readings.{bucket_of, quantile_of}
use Rattle.sample_groups.specs.declared.part.Part.{Part}
use Rattle.sample_groups.specs.declared.part.Part.TheVariants as parts
use Rattle.sample_groups.specs.Parts.{quantile_part, part_of}
use Rattle.sample_groups.specs.Groups.{place_name}

-- Value or Threshold, or else the part of a sample whose kind has groups
abbrev pub grouped_part : Format → Kind → List ℕ → Sample → Result Part Rule
grouped_part format kind family s =
    if has_bad_value format kind family s then Err rules.Value
    else if has_bad_threshold kind family s then Err rules.Threshold
    else Ok (part_of family s)

-- the part, of a sample whose label bounds no bucket and places no quantile, so that it may have none
abbrev pub unplaced : Kind → Sample → Part → Result Part Rule
unplaced kind s part = if some_passes (has_name s.labels) (place_name kind) then Err rules.Threshold else Ok part

-- a bucket with a bound
abbrev pub bucket_found : Sample → Result Part Rule
bucket_found s = if is_whole s.value then (if is_bound (threshold s) then Ok (parts.Bucket (bucket_of s)) else Err rules.Threshold) else Err rules.Value

-- a count
abbrev pub count_found : Kind → Sample → Result Part Rule
count_found kind s = if is_whole s.value then unplaced kind s (parts.Count (unwrap_or (whole s.value) 0)) else Err rules.Value

-- a quantile with a place
abbrev pub quantile_found : Sample → Result Part Rule
quantile_found s = if is_finite (quantile_at s) then Ok (quantile_part (quantile_of s) s.value) else Err rules.Threshold

-- a total, which is a number from 0 on
abbrev pub total_found : Sample → Result Part Rule
total_found s = if is_not_a_number s.value || less s.value (number_of 0) then Err rules.Value else Ok (parts.Total s.value)

-- a created time, which is finite
abbrev pub created_found : Kind → Sample → Result Part Rule
created_found kind s = if is_finite s.value then unplaced kind s (parts.Created s.value) else Err rules.Value

-- the part of a sample with this suffix
abbrev pub found : Kind → Sample → Suffix → Result Part Rule
found kind s suffixes.Bucket = bucket_found s
found kind s suffixes.Count = count_found kind s
found kind s suffixes.GaugeCount = count_found kind s
found kind s suffixes.Own = quantile_found s
found kind s suffixes.Total = total_found s
found kind s suffixes.Created = created_found kind s
found kind s _ = unplaced kind s (parts.Sum s.value)
