-- A written bucket: its suffix, its count, and what follows it.
use Rattle.std.proofs.Common.{◌≡◌, ℕ, ◌^◌, ◌<◌, true, false, List, ◌++◌, codes, nat_lt, refl, ap, ◌∙◌, arith}
use Rattle.std.specs.Prelude.{nat_le, is_some}
use Rattle.std.proofs.lemmas.Bool.{and_parts}
use Rattle.std.proofs.lemmas.Bool.Decides.{nat_tests}
use Rattle.std.proofs.Math.Seq.{drop-append_seam}
use Rattle.label_sets.specs.declared.label_set.LabelSet.{LabelSet}
use Rattle.label_sets.specs.Labels.{has_name}
use Rattle.exact_decimal.specs.Numbers.{number_of}
use Rattle.exact_decimal.specs.Order.{less}
use Rattle.exact_decimal.proofs.Laws.{whole_less, whole_back}
use Rattle.page_model.specs.declared.page.Bucket.{Bucket}
use Rattle.page_model.specs.Suffixes.{suffix_of}
use Rattle.page_model.specs.Rules.{is_whole, follows_bucket}
use Rattle.open_writing.specs.Writing.{bucket_sample}
use Rattle.open_writing.specs.Forms.{IsFormedNumber, is_next_bucket}
use Rattle.writing_laws.proofs.PutLabels.{written_threshold}

-- what stands behind the family's name is the suffix
pub suffix_read : (family suffix : List ℕ) → suffix_of family (family ++ suffix) ≡ suffix
suffix_read family suffix = drop-append_seam family suffix

-- a count below 2 ^ 64 is a whole number
pub whole_count : (n : ℕ) → n < 2 ^ 64 → is_whole (number_of n) ≡ true
whole_count n small = ap is_some (whole_back n small)

-- counts that don't fall
not_fewer : (m n : ℕ) → m < 2 ^ 64 → n < 2 ^ 64 → nat_le m n ≡ true → less (number_of n) (number_of m) ≡ false
not_fewer m n small_m small_n h = whole_less (number_of n) (number_of m) n m (whole_back n small_n) (whole_back m small_m) ∙ (let e : nat_lt n m ≡ false = grind (arith, nat_tests) in e)

-- a bucket follows the one before it
pub follows : (family : List ℕ) (labels : LabelSet) (b c : Bucket) → has_name labels (codes "le") ≡ false → IsFormedNumber b.le → IsFormedNumber c.le → b.count < 2 ^ 64 → c.count < 2 ^ 64 → is_next_bucket b c ≡ true
    → follows_bucket (bucket_sample family labels b) (bucket_sample family labels c) ≡ true
follows family labels b c free fb fc sb sc next =
    let both = and_parts (less b.le c.le) (nat_le b.count c.count) next in
    rw (written_threshold family labels b free fb, written_threshold family labels c free fc, both.0, not_fewer b.count c.count sb sc both.1) refl
