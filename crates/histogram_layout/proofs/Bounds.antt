-- The bounds of cumulative buckets: all but the last are finite, and they increase.
use Rattle.std.proofs.Common.{◌≡◌, ℕ, ◌+◌, true, ◌&&◌, suc, List, [], ◌∷◌, filter_map, length, refl, ap, subst, ◌∙◌, arith, Some, None}
use Rattle.std.specs.Ordering.{is_lt}
use Rattle.std.specs.declared.cmp.Ordering.{Ordering}
use Rattle.std.specs.declared.cmp.Ordering.TheVariants.{Less, Equal, Greater}
use Rattle.std.specs.List.{AllByRecursion}
use Rattle.std.specs.List.Sorted.{IsStrictlySortedBy}
use Rattle.std.proofs.lemmas.Bool.{and_parts}
use Rattle.exact_decimal.specs.declared.number.Number.{Number}
use Rattle.exact_decimal.specs.declared.number.Number.TheVariants.{Finite, Up, Down, NotANumber}
use Rattle.exact_decimal.specs.Decimals.{DecimalValue, decimal_cmp}
use Rattle.exact_decimal.specs.Order.{less, is_finite}
use Rattle.page_model.specs.declared.page.Bucket.{Bucket}
use Rattle.page_model.specs.Rules.{is_up}
use Rattle.histogram_layout.specs.Layouts.{may_follow, are_cumulative, finite_part, finite_bound, differences, cumulative_counts, layout_of}
use Rattle.histogram_layout.specs.Laws.{OneCountMore, BoundsIncrease}
use Rattle.exact_decimal.proofs.Laws.{decimal_cmp_total}

length-differences : (before : ℕ) (buckets : List Bucket) → length (differences before (cumulative_counts buckets)) ≡ length buckets
length-differences before [] = refl
length-differences before (b ∷ bs) = ap (λ n. suc n) (length-differences b.count bs)

-- what is finite has a finite part, which is all of it
part_of : (n : Number) → is_finite n ≡ true → (d : DecimalValue) × (n ≡ Finite d) × (finite_part n ≡ Some d)
unfolding finite_part
part_of (Finite d) h = (d, refl, refl)
part_of _ h = absurd cc

-- plus infinity has none
no_part : (n : Number) → is_up n ≡ true → finite_part n ≡ None
unfolding finite_part
no_part Up h = refl
no_part _ h = absurd cc

-- a bucket with another behind it has a finite bound, which is less than the other's
record HasNext (b c : Bucket) : Type 0 where
  bound : DecimalValue
  is : b.le ≡ Finite bound
  part : finite_bound b ≡ Some bound
  less : less (Finite bound) c.le ≡ true

has_next : (b c : Bucket) → may_follow b c ≡ true → HasNext b c
unfolding may_follow
has_next b c h =
    let parts = and_parts (is_finite b.le) _ (and_parts (is_finite b.le && less b.le c.le) _ h).0 in
    let found = part_of b.le parts.0 in
    record { bound = found.0; is = found.1; part = found.2; less = subst (λ (n : Number). less n c.le ≡ true) found.1 parts.1 }

-- all bounds but the last are finite
one_more : (b : Bucket) (bs : List Bucket) → are_cumulative (b ∷ bs) ≡ true → length (b ∷ bs) ≡ length (filter_map finite_bound (b ∷ bs)) + 1
unfolding are_cumulative
one_more b [] h = rw (no_part b.le h) refl
one_more b (c ∷ bs) h =
    let parts = and_parts (may_follow b c) _ h in
    let next = has_next b c parts.0 in
    let rest = one_more c bs parts.1 in
    rw next.part (omega arith)

pub one_count_more : OneCountMore
unfolding layout_of are_cumulative
one_count_more [] h = absurd cc
one_count_more (b ∷ bs) h = length-differences 0 (b ∷ bs) ∙ one_more b bs h

-- the order says that the first is less
is_less : (o : Ordering) → is_lt o ≡ true → o ≡ Less
is_less Less h = refl
is_less Equal h = absurd cc
is_less Greater h = absurd cc

decimal_less : (d e : DecimalValue) → less (Finite d) (Finite e) ≡ true → decimal_cmp d e ≡ Less
unfolding less
decimal_less d e h = is_less _ h

-- what is below a decimal is below what the decimal is below
less_on : (d e : DecimalValue) (n : Number) → decimal_cmp d e ≡ Less → less (Finite e) n ≡ true → less (Finite d) n ≡ true
unfolding less
less_on d e (Finite f) h k = ap is_lt (decimal_cmp_total.trans d e f h (is_less _ k))
less_on d e Up h k = refl
less_on d e Down h k = absurd cc
less_on d e NotANumber h k = absurd cc

-- a decimal below the first bound is below all
below : (d : DecimalValue) (b : Bucket) (bs : List Bucket) → are_cumulative (b ∷ bs) ≡ true → less (Finite d) b.le ≡ true → AllByRecursion (λ e. decimal_cmp d e ≡ Less) (filter_map finite_bound (b ∷ bs))
unfolding are_cumulative
below d b [] h low = rw (no_part b.le h) tt
below d b (c ∷ bs) h low =
    let parts = and_parts (may_follow b c) _ h in
    let next = has_next b c parts.0 in
    let first : decimal_cmp d next.bound ≡ Less = decimal_less d next.bound (subst (λ (n : Number). less (Finite d) n ≡ true) next.is low) in
    rw next.part (first, below d c bs parts.1 (less_on d next.bound c.le first next.less))

increasing : (b : Bucket) (bs : List Bucket) → are_cumulative (b ∷ bs) ≡ true → IsStrictlySortedBy decimal_cmp (filter_map finite_bound (b ∷ bs))
unfolding are_cumulative IsStrictlySortedBy
increasing b [] h = rw (no_part b.le h) tt
increasing b (c ∷ bs) h =
    let parts = and_parts (may_follow b c) _ h in
    let next = has_next b c parts.0 in
    rw next.part (below next.bound c bs parts.1 next.less, increasing c bs parts.1)

pub bounds_increase : BoundsIncrease
unfolding layout_of are_cumulative
bounds_increase [] h = absurd cc
bounds_increase (b ∷ bs) h = increasing b bs h
