-- The counts of one visit more.
use Rattle.std.proofs.Common.{◌≡◌, ℕ, ◌+◌, ◌≤◌, ◌<◌, suc, Bool, true, false, cond, List, ◌∷◌, length, sym, ap, subst, ◌∙◌, arith}
use Rattle.std.specs.Prelude.{count_by}
use Rattle.std.specs.List.{sum_by}
use Rattle.std.proofs.lemmas.List.Sums.{sum_by-cons, count_by-le-length}
use Rattle.page_model.specs.declared.event.Event.{Event}
use Rattle.otlp_sender.specs.declared.posted.Posted.{Posted}
use Rattle.otlp_tree.specs.declared.tree.Request.{Request}
use Rattle.otlp_tree.specs.declared.tree.Metric.{Metric}
use Rattle.otlp_tree.specs.declared.tree.ResourceMetrics.{ResourceMetrics}
use Rattle.target_core.specs.Events.{request_after, requests_of}
use Rattle.series_table.specs.declared.counts.Counts.{Counts}
use Rattle.series_table.specs.declared.point_counts.PointCounts.{PointCounts}
use Rattle.series_table.specs.Talking.{Followed}
use Rattle.series_table.specs.Emission.{tracking_of}
use Rattle.series_table.specs.Counting.{over_scopes, over_metrics, valued_in, unvalued_in, as_count, has_failed, was_accepted, was_refused, was_given_up, raised_if, with_visit, visit_counts}
use Rattle.series_table.specs.Making.{point_counts}

up_by_one : (b : Bool) (n : ℕ) → n < 1000000 → raised_if b n ≡ cond b 1 0 + n
up_by_one true n few = omega (arith, few)
up_by_one false n few = omega (arith, few)

rises : {A : Type 0} (p : A → Bool) (x : A) (xs : List A) → length xs < 1000000 → raised_if (p x) (count_by p xs) ≡ count_by p (x ∷ xs)
rises p x xs few =
    let below : count_by p xs ≤ length xs = count_by-le-length p xs in
    let more : count_by p (x ∷ xs) ≡ cond (p x) 1 0 + count_by p xs = sum_by-cons (λ y. cond (p y) 1 0) x xs in
    up_by_one (p x) (count_by p xs) (omega (arith, below, few)) ∙ sym more

capped : (a b : ℕ) → as_count (as_count a + as_count b) ≡ as_count (b + a)
capped a b = omega arith

grows : (h : Metric → ℕ) (r : Request) (rs : List Request) → as_count (as_count (sum_by (over_metrics h) rs) + as_count (over_metrics h r)) ≡ as_count (sum_by (over_metrics h) (r ∷ rs))
grows h r rs = capped (sum_by (over_metrics h) rs) (over_metrics h r) ∙ ap as_count (sym (sum_by-cons (over_metrics h) r rs))

one_more : (n : ℕ) → n < 1000000 → as_count (n + 1) ≡ suc n
one_more n few = omega (arith, few)

-- one visit more
pub counts_rise : (f : Followed) (events : List Event) (ps : List Posted) (e : Event) (p : Posted) → length ps ≡ length events → length events < 1000000
    → with_visit (visit_counts f events ps) (has_failed e) (point_counts (request_after f.target (tracking_of f) events e)) p ≡ visit_counts f (e ∷ events) (p ∷ ps)
counts_rise f events ps e p as_many few =
    let below : length ps < 1000000 = subst (λ n. n < 1000000) (sym as_many) few in
    let tree = request_after f.target (tracking_of f) events e in
    let trees = requests_of f.target (tracking_of f) events in
    let visits = one_more (length events) few in
    let failed = rises has_failed e events few in
    let points = grows valued_in tree trees in
    let markers = grows unvalued_in tree trees in
    let accepted = rises was_accepted p ps below in
    let refused = rises was_refused p ps below in
    let given_up = rises was_given_up p ps below in
    λ i. record { visits = visits i; failed = failed i; points = points i; markers = markers i; accepted = accepted i; refused = refused i; given_up = given_up i }

-- counts in place of equal ones
pub same_tally : (a b : Counts) (failed failed_is : Bool) (x y : PointCounts) (p : Posted) → a ≡ b → failed ≡ failed_is → x ≡ y → with_visit a failed x p ≡ with_visit b failed_is y p
same_tally a b failed failed_is x y p u v w = λ i. with_visit (u i) (v i) (w i) p

-- where a visit is counted
pub visits_rise : (counts : Counts) → counts.visits < 1000000 → as_count (counts.visits + 1) ≡ counts.visits + 1
visits_rise counts few = omega (arith, few)

-- the points of a tree are those of its parts
pub of_parts : (r : PointCounts) (parts : List ResourceMetrics) (tree : Request) → parts ≡ tree.parts
    → r.valued ≡ as_count (sum_by (λ (part : ResourceMetrics). over_scopes valued_in part.scopes) parts) → r.unvalued ≡ as_count (sum_by (λ (part : ResourceMetrics). over_scopes unvalued_in part.scopes) parts)
    → r ≡ point_counts tree
of_parts r parts tree same valued unvalued =
    let v : r.valued ≡ as_count (over_metrics valued_in tree) = valued ∙ ap (λ (xs : List ResourceMetrics). as_count (sum_by (λ (part : ResourceMetrics). over_scopes valued_in part.scopes) xs)) same in
    let u : r.unvalued ≡ as_count (over_metrics unvalued_in tree) = unvalued ∙ ap (λ (xs : List ResourceMetrics). as_count (sum_by (λ (part : ResourceMetrics). over_scopes unvalued_in part.scopes) xs)) same in
    λ i. record { valued = v i; unvalued = u i }
