-- How many sample lines families have, added up.
use Rattle.std.proofs.Common.{◌≡◌, ℕ, ◌+◌, List, [], ◌∷◌, ◌++◌, length, map, codes, refl, ◌∙◌, Option, Some, None, arith, length-append}
use Rattle.std.proofs.lemmas.List.{length-map}
use Rattle.std.proofs.lemmas.List.Concat.{length-flat_map}
use Rattle.std.proofs.lemmas.List.Sums.{sum_by-cons}
use Rattle.std.specs.List.{sum_by}
use Rattle.std.specs.Prelude.{option_map}
use Rattle.label_sets.specs.declared.kind.Kind.{Kind}
use Rattle.label_sets.specs.declared.label_set.LabelSet.{LabelSet}
use Rattle.exact_decimal.specs.declared.number.Number.{Number}
use Rattle.exact_decimal.specs.Numbers.{number_of}
use Rattle.page_model.specs.declared.page.Bucket.{Bucket}
use Rattle.page_model.specs.declared.page.Value.{Value}
use Rattle.page_model.specs.declared.page.Value.TheVariants as values
use Rattle.page_model.specs.declared.page.Reading.{Reading}
use Rattle.page_model.specs.declared.page.Family.{Family}
use Rattle.open_writing.specs.Pieces.{option_count, value_lines, reading_lines, family_lines}
use Rattle.open_writing.specs.Writing.{bucket_sample, quantile_sample, number_sample, total_samples, value_samples, reading_samples, family_samples, sample_lines}

-- sums of what is the same for each element
sums_alike : {A : Type 0} (f g : A → ℕ) → ((x : A) → f x ≡ g x) → (xs : List A) → sum_by f xs ≡ sum_by g xs
sums_alike f g same [] = refl
sums_alike f g same (x ∷ xs) =
    let left : sum_by f (x ∷ xs) ≡ f x + sum_by f xs = sum_by-cons f x xs in
    let right : sum_by g (x ∷ xs) ≡ g x + sum_by g xs = sum_by-cons g x xs in
    let rest : sum_by f xs ≡ sum_by g xs = sums_alike f g same xs in
    omega (arith, same x)

option_lines : (name : List ℕ) (labels : LabelSet) (n : Option Number) → length (number_sample name labels n) ≡ option_count n
option_lines name labels None = refl
option_lines name labels (Some n) = refl

count_lines : (n : Option ℕ) → option_count (option_map number_of n) ≡ option_count n
count_lines None = refl
count_lines (Some n) = refl

total_lines : (kind : Kind) (name : List ℕ) (labels : LabelSet) (buckets : List Bucket) (sum : Option Number) → length (total_samples kind name labels buckets sum) ≡ option_count sum + option_count sum
total_lines kind name labels buckets None = refl
total_lines kind name labels buckets (Some n) = refl

value_counted : (kind : Kind) (name : List ℕ) (labels : LabelSet) (v : Value) → length (value_samples kind name labels v) ≡ value_lines v
unfolding value_samples
value_counted kind name labels (values.Plain n) = refl
value_counted kind name labels (values.Buckets buckets sum) = omega (
  arith,
  length-append (map (bucket_sample name labels) buckets) (total_samples kind name labels buckets sum),
  length-map buckets (bucket_sample name labels),
  total_lines kind name labels buckets sum,
)
value_counted kind name labels (values.Quantiles quantiles count sum) =
    let counts = number_sample (name ++ codes "_count") labels (option_map number_of count) in
    let sums = number_sample (name ++ codes "_sum") labels sum in
    omega (
      arith,
      length-append (map (quantile_sample name labels) quantiles) (counts ++ sums),
      length-append counts sums,
      length-map quantiles (quantile_sample name labels),
      option_lines (name ++ codes "_count") labels (option_map number_of count),
      count_lines count,
      option_lines (name ++ codes "_sum") labels sum,
    )

reading_counted : (kind : Kind) (name : List ℕ) (r : Reading) → length (reading_samples kind name r) ≡ reading_lines r
unfolding reading_samples
reading_counted kind name r =
    let front = value_samples kind name r.key.labels r.value in
    let created = number_sample (name ++ codes "_created") r.key.labels r.created in
    omega (arith, length-append front created, value_counted kind name r.key.labels r.value, option_lines (name ++ codes "_created") r.key.labels r.created)

family_counted : (f : Family) → length (family_samples f) ≡ family_lines f
unfolding family_samples
family_counted f = length-flat_map (reading_samples f.kind f.name) f.readings ∙ sums_alike _ reading_lines (reading_counted f.kind f.name) f.readings

-- the sample lines of families are those of each, added up
pub families_counted : (fs : List Family) → sample_lines fs ≡ sum_by family_lines fs
unfolding sample_lines
families_counted fs = length-flat_map family_samples fs ∙ sums_alike _ family_lines family_counted fs
