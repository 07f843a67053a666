-- Each reading of a right page that is not late becomes a point, but for those of gauge histograms.
use Rattle.std.proofs.Common.{◌≡◌, ℕ, suc, Bool, true, false, cond, List, [], ◌∷◌, length, filter, filter_map, Option, Some, None, option_map, is_some, refl, ap, ◌∙◌, IfSome}
use Rattle.std.specs.List.{cons_option, AllByRecursion}
use Rattle.std.specs.Option.{option_map_or}
use Rattle.std.proofs.lemmas.List.Elements.{All-from_recursion, recursion_from_All}
use Rattle.label_sets.specs.declared.kind.Kind.{Kind}
use Rattle.label_sets.specs.declared.kind.Kind.TheVariants.{Counter, Gauge, Histogram, GaugeHistogram, StateSet, Info, Summary, Unknown}
use Rattle.label_sets.specs.declared.series_key.SeriesKey.{SeriesKey}
use Rattle.label_sets.proofs.Laws.{all-weaker}
use Rattle.page_model.specs.declared.format.Format.{Format}
use Rattle.page_model.specs.declared.format.Treatment.{Treatment}
use Rattle.page_model.specs.declared.page.Reading.{Reading}
use Rattle.page_model.specs.declared.page.Family.{Family}
use Rattle.page_model.specs.declared.page.Page.{Page}
use Rattle.page_model.specs.declared.page.Value.{Value}
use Rattle.page_model.specs.declared.page.Value.TheVariants as values
use Rattle.page_model.specs.Pages.{IsRightPage}
use Rattle.family_rules.proofs.Laws.{IsPlain, IsQuantiles, HasRisingBuckets, HaveValuesOf, HaveKindValues, right_values}
use Rattle.open_writing.specs.Forms.{IsFormedReading, IsFormedFamily, AreFormed}
use Rattle.writing_laws.proofs.Laws.{read_pages}
use Rattle.otlp_tree.specs.declared.tree.Metric.{Metric}
use Rattle.otlp_tree.specs.declared.tree.Shape.{Shape}
use Rattle.otlp_tree.specs.declared.tree.Shape.TheVariants as shapes
use Rattle.start_times.specs.declared.row.Placed.{Placed}
use Rattle.start_times.specs.declared.row.Placed.TheVariants.{Late, At}
use Rattle.start_times.specs.Scrapes.{Scrape}
use Rattle.start_times.specs.Starts.{Tracking, has_points, is_taken, placed, reading_place, cumulative_layout}
use Rattle.start_times.specs.Laws.{RiseTo}
use Rattle.start_times.proofs.Laws.{none_is_late}
use Rattle.target_core.proofs.Laws.{rising_cumulative}
use Rattle.family_metrics.specs.Points.{Point, point_at, point_in, point_of, plain_number, histogram_in, summary_in, number_point, histogram_point, summary_point}
use Rattle.family_metrics.specs.Metrics.{some_of, shape_of, metric_of}
use Rattle.scope_metrics.specs.PageScopes.{has_point}
use Rattle.point_laws.proofs.Parts.{all-pass}
use Rattle.point_laws.specs.PageLaws.{points_in, points_of_family, points_due, due_of_all, due_of_passing, HavePoints}

-- ---- the point of a value

map_some : {A B : Type 0} (f : A → B) (o : Option A) → is_some o ≡ true → is_some (option_map f o) ≡ true
map_some f None h = h
map_some f (Some x) h = refl

number_is : (v : Value) → IsPlain v → is_some (plain_number v) ≡ true
unfolding plain_number
number_is (values.Plain n) h = refl
number_is (values.Buckets buckets sum) h = absurd h
number_is (values.Quantiles list count sum) h = absurd h

histogram_is : (v : Value) → HasRisingBuckets v → is_some (histogram_in v) ≡ true
unfolding histogram_in cumulative_layout
histogram_is (values.Plain n) h = absurd h
histogram_is (values.Buckets buckets sum) h = rw (rising_cumulative buckets h) refl
histogram_is (values.Quantiles list count sum) h = absurd h

summary_is : (v : Value) → IsQuantiles v → is_some (summary_in v) ≡ true
unfolding summary_in
summary_is (values.Plain n) h = absurd h
summary_is (values.Buckets buckets sum) h = absurd h
summary_is (values.Quantiles list count sum) h = refl

number_has : (time start : ℕ) (r : Reading) → IsPlain r.value → is_some (number_point (point_at time start r)) ≡ true
unfolding number_point point_at
number_has time start r h = map_some _ (plain_number r.value) (number_is r.value h)

histogram_has : (time start : ℕ) (r : Reading) → HasRisingBuckets r.value → is_some (histogram_point (point_at time start r)) ≡ true
unfolding histogram_point point_at
histogram_has time start r h = map_some _ (histogram_in r.value) (histogram_is r.value h)

summary_has : (time start : ℕ) (r : Reading) → IsQuantiles r.value → is_some (summary_point (point_at time start r)) ≡ true
unfolding summary_point point_at
summary_has time start r h = map_some _ (summary_in r.value) (summary_is r.value h)

-- ---- the points of readings

-- one more, where there is one
one_longer : {Y : Type 0} (o : Option Y) (ys : List Y) → is_some o ≡ true → length (cons_option o ys) ≡ suc (length ys)
one_longer None ys e = absurd cc
one_longer (Some y) ys e = refl

-- what readings become has as many forms as there are readings that become something
all_formed : {P Y : Type 0} (become : Reading → Option P) (h : P → Option Y) (rs : List Reading) → AllByRecursion (λ (r : Reading). IfSome (become r) (λ (p : P). is_some (h p) ≡ true)) rs
    → length (filter_map h (filter_map become rs)) ≡ length (filter (λ (r : Reading). is_some (become r)) rs)
all_formed become h [] have = refl
all_formed {P} {Y} become h (r ∷ rs) have = by (become r) have.0 (all_formed become h rs have.1)
  where
    by : (o : Option P) → IfSome o (λ (p : P). is_some (h p) ≡ true) → length (filter_map h (filter_map become rs)) ≡ length (filter (λ (q : Reading). is_some (become q)) rs)
        → length (filter_map h (cons_option o (filter_map become rs))) ≡ length (cond (is_some o) (r ∷ filter (λ (q : Reading). is_some (become q)) rs) (filter (λ (q : Reading). is_some (become q)) rs))
    by None e rest = rest
    by (Some p) e rest = one_longer (h p) (filter_map h (filter_map become rs)) e ∙ ap suc rest

-- a shape has as many points as are made for it
shape_count : {P Y : Type 0} (h : P → Option Y) (shape : List Y → Shape) → ((ys : List Y) → points_in (shape ys) ≡ length ys) → (ps : List P) → option_map_or points_in (option_map shape (some_of h ps)) 0 ≡ length (filter_map h ps)
shape_count {P} {Y} h shape counts ps = go (filter_map h ps) refl
  where
    go : (ys : List Y) → filter_map h ps ≡ ys → option_map_or points_in (option_map shape (some_of h ps)) 0 ≡ length (filter_map h ps)
    go [] e = rw e refl
    go (y ∷ ys) e = rw e (counts (y ∷ ys))

module _ (place : Reading → Option Placed) where
  -- the points of readings have this form
  each_formed : {Y : Type 0} (h : Point → Option Y) (V : Value → Type 0) → ((time start : ℕ) (r : Reading) → V r.value → is_some (h (point_at time start r)) ≡ true)
      → (rs : List Reading) → AllByRecursion (λ (r : Reading). V r.value) rs → AllByRecursion (λ (r : Reading). IfSome (point_of place r) (λ (p : Point). is_some (h p) ≡ true)) rs
  each_formed h V has [] v = tt
  each_formed h V has (r ∷ rs) v = (by (place r), each_formed h V has rs v.1)
    where
      by : (o : Option Placed) → IfSome (point_in o r) (λ (p : Point). is_some (h p) ≡ true)
      by None = tt
      by (Some Late) = tt
      by (Some (At time start)) = has time start r v.0

  formed_points : {Y : Type 0} (h : Point → Option Y) (V : Value → Type 0) (shape : List Y → Shape) → ((ys : List Y) → points_in (shape ys) ≡ length ys) → ((time start : ℕ) (r : Reading) → V r.value → is_some (h (point_at time start r)) ≡ true)
      → (rs : List Reading) → AllByRecursion (λ (r : Reading). V r.value) rs → option_map_or points_in (option_map shape (some_of h (filter_map (point_of place) rs))) 0 ≡ length (filter (has_point place) rs)
  formed_points h V shape counts has rs v = shape_count h shape counts (filter_map (point_of place) rs) ∙ all_formed (point_of place) h rs (each_formed h V has rs v)

  kind_points : (kind : Kind) (rs : List Reading) → HaveValuesOf kind rs → option_map_or points_in (shape_of kind (filter_map (point_of place) rs)) 0 ≡ points_due kind (length (filter (has_point place) rs))
  unfolding shape_of
  kind_points Counter rs have = formed_points number_point IsPlain (λ ps. shapes.Sum ps true) (λ ps. refl) number_has rs have
  kind_points Gauge rs have = formed_points number_point IsPlain shapes.Gauge (λ ps. refl) number_has rs have
  kind_points Unknown rs have = formed_points number_point IsPlain shapes.Gauge (λ ps. refl) number_has rs have
  kind_points Histogram rs have = formed_points histogram_point HasRisingBuckets shapes.Histogram (λ ps. refl) histogram_has rs have
  kind_points Summary rs have = formed_points summary_point IsQuantiles shapes.Summary (λ ps. refl) summary_has rs have
  kind_points GaugeHistogram rs have = refl
  kind_points StateSet rs have = formed_points number_point IsPlain (λ ps. shapes.Sum ps false) (λ ps. refl) number_has rs have
  kind_points Info rs have = formed_points number_point IsPlain (λ ps. shapes.Sum ps false) (λ ps. refl) number_has rs have

  none_due : (kind : Kind) → 0 ≡ points_due kind 0
  none_due GaugeHistogram = refl
  none_due _ = refl

  -- the metric of readings has each of their points
  pub metric_points : (kind : Kind) (help : List ℕ) (rs : List Reading) → HaveValuesOf kind rs → option_map_or (λ (m : Metric). points_in m.shape) (metric_of place kind help rs) 0 ≡ points_due kind (length (filter (has_point place) rs))
  metric_points kind help [] have = none_due kind
  metric_points kind help (r ∷ rs) have = by (shape_of kind (filter_map (point_of place) (r ∷ rs))) ∙ kind_points kind (r ∷ rs) have
    where
      by : (o : Option Shape) → option_map_or (λ (m : Metric). points_in m.shape) (option_map (λ shape. record { name = r.key.name; description = help; unit = r.key.unit; shape = shape }) o) 0 ≡ option_map_or points_in o 0
      by None = refl
      by (Some shape) = refl

  -- ---- the points of a page

  families_points : (fs : List Family) → HaveKindValues fs → AllByRecursion (λ (f : Family). points_of_family place f ≡ points_due f.kind (length (filter (has_point place) f.readings))) fs
  families_points [] have = tt
  families_points (f ∷ fs) have = (metric_points f.kind f.help f.readings have.0, families_points fs have.1)

-- each reading of a right page has the point that its place gives
pub places_have_points : (place : Reading → Option Placed) (page : Page) → IsRightPage page → HavePoints place (due_of_passing (has_point place)) page
places_have_points place page right =
    All-from_recursion (λ (f : Family). points_of_family place f ≡ due_of_passing (has_point place) f) page.families (families_points place page.families (right_values page right))

-- ---- readings that are taken

-- points are due of kinds with points alone
same_due : (kind : Kind) (m n : ℕ) → (has_points kind ≡ true → m ≡ n) → points_due kind m ≡ points_due kind n
unfolding has_points
same_due Counter m n same = same refl
same_due Gauge m n same = same refl
same_due Unknown m n same = same refl
same_due Histogram m n same = same refl
same_due Summary m n same = same refl
same_due GaugeHistogram m n same = refl
same_due StateSet m n same = same refl
same_due Info m n same = same refl

same_count : (test other : Reading → Bool) (rs : List Reading) → AllByRecursion (λ (r : Reading). test r ≡ other r) rs → length (filter test rs) ≡ length (filter other rs)
same_count test other [] same = refl
same_count test other (r ∷ rs) same = by (other r) same.0 (same_count test other rs same.1)
  where
    by : (b : Bool) → test r ≡ b → length (filter test rs) ≡ length (filter other rs) → length (filter test (r ∷ rs)) ≡ length (cond b (r ∷ filter other rs) (filter other rs))
    by true e rest = rw e (ap suc rest)
    by false e rest = rw e rest

module _ (t : Tracking) (past : List Scrape) (moment : ℕ) where
  -- the reading is taken
  abbrev taken : Reading → Bool
  taken r = is_taken t moment r past

  point_of_taken : (r : Reading) → has_points r.key.kind ≡ true → is_some (point_of (reading_place t past moment) r) ≡ taken r
  unfolding reading_place placed
  point_of_taken r points = by (is_taken t moment r past) refl
    where
      by : (b : Bool) → is_taken t moment r past ≡ b → is_some (point_of (reading_place t past moment) r) ≡ is_taken t moment r past
      by true e = rw (points, e) refl
      by false e = rw (points, e) refl

  -- the readings of a family are of its kind
  family_taken : (kind : Kind) (rs : List Reading) → AllByRecursion (λ (r : Reading). r.key.kind ≡ kind) rs
      → points_due kind (length (filter (λ (r : Reading). is_some (point_of (reading_place t past moment) r)) rs)) ≡ points_due kind (length (filter taken rs))
  family_taken kind rs kinds = same_due kind (length (filter (λ (r : Reading). is_some (point_of (reading_place t past moment) r)) rs)) (length (filter taken rs)) (λ points. same_count (λ (r : Reading). is_some (point_of (reading_place t past moment) r)) taken rs
      (all-weaker (λ (r : Reading). r.key.kind ≡ kind) (λ (r : Reading). is_some (point_of (reading_place t past moment) r) ≡ taken r) (λ r is. point_of_taken r (ap has_points is ∙ points)) rs kinds))

  module _ (f : Format) (treatment : Treatment) where
    own_kinds : (family : Family) → IsFormedFamily f treatment family → AllByRecursion (λ (r : Reading). r.key.kind ≡ family.kind) family.readings
    own_kinds family formed = all-weaker (IsFormedReading f treatment family.kind family.name family.unit) (λ (r : Reading). r.key.kind ≡ family.kind) (λ r is. ap (λ (k : SeriesKey). k.kind) is.key) family.readings
        (recursion_from_All (IsFormedReading f treatment family.kind family.name family.unit) family.readings formed.readings)

    all_taken : (fs : List Family) → HaveKindValues fs → AllByRecursion (IsFormedFamily f treatment) fs
        → AllByRecursion (λ (g : Family). points_of_family (reading_place t past moment) g ≡ points_due g.kind (length (filter taken g.readings))) fs
    all_taken [] have formed = tt
    all_taken (g ∷ fs) have formed = (metric_points (reading_place t past moment) g.kind g.help g.readings have.0 ∙ family_taken g.kind g.readings (own_kinds g formed.0), all_taken fs have.1 formed.1)

-- each reading of a right page that is taken has a point
pub taken_have_points : (t : Tracking) (past : List Scrape) (moment : ℕ) (page : Page) → IsRightPage page → HavePoints (reading_place t past moment) (due_of_passing (taken t past moment)) page
taken_have_points t past moment page right =
    let formed : AreFormed right.0.format right.0.treatment page.families = read_pages right.0 page right.1 in
    All-from_recursion (λ (f : Family). points_of_family (reading_place t past moment) f ≡ due_of_passing (taken t past moment) f) page.families
    (all_taken t past moment right.0.format right.0.treatment page.families (right_values page right) (recursion_from_All (IsFormedFamily right.0.format right.0.treatment) page.families formed.each))

-- ---- where times of the page don't count

all_pass : (t : Tracking) (past : List Scrape) (moment : ℕ) (rs : List Reading) → t.honor ≡ false → RiseTo moment past → AllByRecursion (λ (r : Reading). is_taken t moment r past ≡ true) rs
all_pass t past moment [] off rise = tt
all_pass t past moment (r ∷ rs) off rise = (none_is_late t moment r past off rise, all_pass t past moment rs off rise)

-- no reading is late, so all are due
pub due_for_all : (t : Tracking) (past : List Scrape) (moment : ℕ) (f : Family) → t.honor ≡ false → RiseTo moment past → due_of_passing (taken t past moment) f ≡ due_of_all f
due_for_all t past moment f off rise = ap (λ (rs : List Reading). points_due f.kind (length rs)) (all-pass (taken t past moment) f.readings (all_pass t past moment f.readings off rise))
