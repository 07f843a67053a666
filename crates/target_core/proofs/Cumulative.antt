-- The buckets of a right page are cumulative, so each value that has buckets has a layout.
use Rattle.std.proofs.Common.{◌≡◌, true, false, ◌&&◌, List, [], ◌∷◌, Some, refl, sym, subst}
use Rattle.std.specs.Prelude.{nat_le, All}
use Rattle.std.specs.List.{last_or, AllByRecursion}
use Rattle.std.proofs.lemmas.Bool.{and_parts, not-false}
use Rattle.std.proofs.lemmas.List.Elements.{All-from_recursion}
use Rattle.label_sets.specs.declared.kind.Kind.{Kind}
use Rattle.label_sets.specs.declared.kind.Kind.TheVariants.{Counter, Gauge, Histogram, GaugeHistogram, StateSet, Info, Summary, Unknown}
use Rattle.label_sets.specs.Lists.{some_passes}
use Rattle.exact_decimal.specs.declared.number.Number.{Number}
use Rattle.exact_decimal.specs.declared.number.Number.TheVariants.{Finite}
use Rattle.exact_decimal.specs.Order.{less, is_finite}
use Rattle.page_model.specs.declared.page.Bucket.{Bucket}
use Rattle.page_model.specs.declared.page.Reading.{Reading}
use Rattle.page_model.specs.declared.page.Family.{Family}
use Rattle.page_model.specs.declared.page.Page.{Page}
use Rattle.page_model.specs.declared.page.Value.{Value}
use Rattle.page_model.specs.declared.page.Value.TheVariants as values
use Rattle.page_model.specs.Rules.{is_bound, is_up}
use Rattle.page_model.specs.Pages.{IsRightPage}
use Rattle.sample_groups.proofs.Laws.{AreRising, RiseToUp}
use Rattle.family_rules.proofs.Laws.{IsValueOf, HaveValuesOf, HaveKindValues, right_values}
use Rattle.histogram_layout.specs.Layouts.{may_follow, are_cumulative}
use Rattle.family_metrics.specs.Points.{MayBeLaidOut, MayAllBeLaidOut}

-- ---- buckets that rise to `+Inf` are cumulative

-- a bound below another is finite
finite_below : (a b : Number) → is_bound a ≡ true → less a b ≡ true → is_finite a ≡ true
unfolding less
finite_below (Finite d) b bound h = refl
finite_below _ b bound h = absurd cc

cumulative_from : (bs : List Bucket) (b : Bucket) → is_bound b.le ≡ true → AreRising (Some b) bs → some_passes (λ (c : Bucket). is_up c.le) (last_or (Some b) bs) ≡ true → are_cumulative (b ∷ bs) ≡ true
unfolding are_cumulative may_follow
cumulative_from [] b bound rising last = last
cumulative_from (c ∷ bs) b bound rising last =
    let follows = and_parts (less b.le c.le) (nat_le b.count c.count) (not-false (less b.le c.le && nat_le b.count c.count) rising.1) in
    let finite : is_finite b.le ≡ true = finite_below b.le c.le bound follows.0 in
    rw (finite, follows.0, follows.1) (cumulative_from bs c rising.0 rising.2 last)

pub rising_cumulative : (bs : List Bucket) → RiseToUp bs → are_cumulative bs ≡ true
rising_cumulative [] rise = absurd (let e : false ≡ true = rise.last in cc)
rising_cumulative (b ∷ bs) rise = cumulative_from bs b rise.rising.0 rise.rising.2 rise.last

-- ---- the values of a page

of_value : (kind : Kind) (v : Value) → IsValueOf kind v → MayBeLaidOut v
of_value Histogram (values.Buckets bs sum) h = rising_cumulative bs h
of_value GaugeHistogram (values.Buckets bs sum) h = rising_cumulative bs h
of_value Counter (values.Buckets bs sum) h = absurd h
of_value Gauge (values.Buckets bs sum) h = absurd h
of_value StateSet (values.Buckets bs sum) h = absurd h
of_value Info (values.Buckets bs sum) h = absurd h
of_value Summary (values.Buckets bs sum) h = absurd h
of_value Unknown (values.Buckets bs sum) h = absurd h
of_value kind (values.Plain n) h = tt
of_value kind (values.Quantiles list count sum) h = tt

of_readings : (kind : Kind) (rs : List Reading) → HaveValuesOf kind rs → AllByRecursion (λ (r : Reading). MayBeLaidOut r.value) rs
of_readings kind [] have = tt
of_readings kind (r ∷ rs) have = (of_value kind r.value have.0, of_readings kind rs have.1)

of_families : (fs : List Family) → HaveKindValues fs → AllByRecursion (λ (f : Family). MayAllBeLaidOut f.readings) fs
of_families [] have = tt
of_families (f ∷ fs) have = (All-from_recursion (λ (r : Reading). MayBeLaidOut r.value) f.readings (of_readings f.kind f.readings have.0), of_families fs have.1)

-- the families of a right page
pub page_laid_out : (page : Page) (fs : List Family) → fs ≡ page.families → IsRightPage page → All (λ (f : Family). MayAllBeLaidOut f.readings) fs
page_laid_out page fs same right =
    All-from_recursion (λ (f : Family). MayAllBeLaidOut f.readings) fs (subst (AllByRecursion (λ (f : Family). MayAllBeLaidOut f.readings)) (sym same) (of_families page.families (right_values page right)))
