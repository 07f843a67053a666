-- Counts that don't fall, their differences, and the sums of these.
use Rattle.std.proofs.Common.{◌≡◌, ℕ, ◌+◌, ◌-◌, ◌≤◌, true, ◌&&◌, List, [], ◌∷◌, refl, ap, arith, rules}
use Rattle.std.specs.List.{sum}
use Rattle.std.proofs.lemmas.List.Sums.{sum_by-cons}
use Rattle.std.proofs.lemmas.Bool.{and_parts, leb-true}
use Rattle.exact_decimal.specs.Order.{less, is_finite}
use Rattle.page_model.specs.declared.page.Bucket.{Bucket}
use Rattle.histogram_layout.specs.Layouts.{may_follow, are_cumulative, differences, last_from, cumulative_counts, layout_of}
use Rattle.histogram_layout.specs.Laws.{running_sums, CountsSumToCount, RunningSumsAreCumulative}

-- no number is below the one before it
abbrev pub RisesFrom : ℕ → List ℕ → Type 0
RisesFrom before [] = Unit {0}
RisesFrom before (n ∷ ns) = (before ≤ n) × RisesFrom n ns

-- the count of a bucket that may follow another is no smaller
not_below : (b c : Bucket) → may_follow b c ≡ true → b.count ≤ c.count
unfolding may_follow
not_below b c h = leb-true _ _ (and_parts (is_finite b.le && less b.le c.le) _ h).1

-- the counts behind the first of cumulative buckets don't fall
rises_behind : (b : Bucket) (bs : List Bucket) → are_cumulative (b ∷ bs) ≡ true → RisesFrom b.count (cumulative_counts bs)
unfolding are_cumulative
rises_behind b [] h = tt
rises_behind b (c ∷ bs) h = let parts = and_parts (may_follow b c) _ h in (not_below b c parts.0, rises_behind c bs parts.1)

-- the counts of cumulative buckets don't fall
pub rises : (buckets : List Bucket) → are_cumulative buckets ≡ true → RisesFrom 0 (cumulative_counts buckets)
rises [] h = tt
rises (b ∷ bs) h = (omega arith, rises_behind b bs h)

-- the differences of numbers that don't fall sum to the last of them
sum-differences : (before : ℕ) (ns : List ℕ) → RisesFrom before ns → before + sum (differences before ns) ≡ last_from before ns
sum-differences before [] r = search rules
sum-differences before (n ∷ ns) r =
    let low : before ≤ n = r.0 in
    let first : sum (differences before (n ∷ ns)) ≡ (n - before) + sum (differences n ns) = sum_by-cons (λ x. x) _ (differences n ns) in
    let rest = sum-differences n ns r.1 in
    omega arith

-- the running sums of the differences are the numbers
running_sums-differences : (before : ℕ) (ns : List ℕ) → RisesFrom before ns → running_sums before (differences before ns) ≡ ns
running_sums-differences before [] r = refl
running_sums-differences before (n ∷ ns) r =
    let low : before ≤ n = r.0 in
    let whole : before + (n - before) ≡ n = omega arith in
    rw whole (ap (λ ms. n ∷ ms) (running_sums-differences n ns r.1))

pub counts_sum_to_count : CountsSumToCount
unfolding layout_of
counts_sum_to_count buckets h = let all = sum-differences 0 _ (rises buckets h) in omega arith

pub running_sums_are_cumulative : RunningSumsAreCumulative
unfolding layout_of
running_sums_are_cumulative buckets h = running_sums-differences 0 _ (rises buckets h)
