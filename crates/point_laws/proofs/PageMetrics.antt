-- The metrics of a right page: their points have values, and no two are of one name, kind and unit.
use Rattle.std.proofs.Common.{◌≡◌, ℕ, Bool, true, false, ◌||◌, ◌&&◌, List, [], ◌∷◌, map, filter_map, codes, Option, Some, None, option_map, refl, sym, ap, subst, ◌∙◌, IfSome, All}
use Rattle.std.specs.List.{IsDistinct, AllByRecursion, flat_map, list_any, cons_option}
use Rattle.std.specs.Str.{bytes_eq}
use Rattle.std.specs.Cmp.Lexicographic.{bytes_decides}
use Rattle.std.proofs.lemmas.Bool.{and_parts, and_from, or_left, or_right}
use Rattle.std.proofs.lemmas.List.{map-append, append_cancel_right}
use Rattle.std.proofs.lemmas.List.Elements.{recursion_from_All}
use Rattle.std.proofs.lemmas.List.Folds.{list_any-append}
use Rattle.label_sets.specs.declared.kind.Kind.{Kind}
use Rattle.label_sets.specs.declared.kind.Kind.TheVariants.{Counter, Gauge, Histogram, GaugeHistogram, StateSet, Info, Summary, Unknown}
use Rattle.label_sets.specs.declared.series_key.SeriesKey.{SeriesKey}
use Rattle.label_sets.specs.Keys.{kind_eq}
use Rattle.label_sets.proofs.Laws.{kind_decides, all-weaker}
use Rattle.exact_decimal.specs.declared.number.Number.{Number}
use Rattle.page_model.specs.declared.format.Format.{Format}
use Rattle.page_model.specs.declared.format.Treatment.{Treatment}
use Rattle.page_model.specs.declared.page.Reading.{Reading}
use Rattle.page_model.specs.declared.page.Family.{Family}
use Rattle.page_model.specs.Readings.{counter_suffix, key_name}
use Rattle.open_writing.specs.Forms.{IsFormedReading, IsFormedFamily}
use Rattle.otlp_tree.specs.declared.tree.Metric.{Metric}
use Rattle.otlp_tree.specs.declared.tree.NumberPoint.{NumberPoint}
use Rattle.otlp_tree.specs.declared.tree.HistogramPoint.{HistogramPoint}
use Rattle.otlp_tree.specs.declared.tree.HistogramValue.{HistogramValue}
use Rattle.otlp_tree.specs.declared.tree.SummaryPoint.{SummaryPoint}
use Rattle.otlp_tree.specs.declared.tree.SummaryValue.{SummaryValue}
use Rattle.otlp_tree.specs.declared.tree.Shape.{Shape}
use Rattle.otlp_tree.specs.declared.tree.Shape.TheVariants as shapes
use Rattle.start_times.specs.declared.row.Placed.{Placed}
use Rattle.family_metrics.specs.Points.{Point, plain_number, histogram_in, summary_in, start_or_time, point_of, number_point, histogram_point, summary_point}
use Rattle.family_metrics.specs.Markers.{no_points}
use Rattle.family_metrics.specs.Metrics.{some_of, shape_of, metric_of, kind_metric}
use Rattle.family_metrics.specs.Laws.{is_same_metric}
use Rattle.point_laws.specs.MarkerLaws.{UnvaluedPoint, sort_of, unvalued_number, unvalued_histogram, unvalued_summary, unvalued_in_shape}
use Rattle.point_laws.proofs.GonePoints.{IsValued, is_in}

-- ---- points with values

-- what is made with a value has one
all_valued : {P Y : Type 0} (h : P → Option Y) (unvalued : Y → Option UnvaluedPoint) → ((p : P) → IfSome (h p) (λ (y : Y). unvalued y ≡ None)) → (ps : List P) → filter_map unvalued (filter_map h ps) ≡ []
all_valued h unvalued each [] = refl
all_valued {P} {Y} h unvalued each (p ∷ ps) = by (h p) (each p) (all_valued h unvalued each ps)
  where
    by : (o : Option Y) → IfSome o (λ (y : Y). unvalued y ≡ None) → filter_map unvalued (filter_map h ps) ≡ [] → filter_map unvalued (cons_option o (filter_map h ps)) ≡ []
    by None none rest = rest
    by (Some y) none rest = ap (λ (o : Option UnvaluedPoint). cons_option o (filter_map unvalued (filter_map h ps))) none ∙ rest

module _ (name unit : List ℕ) (sort : Option Shape) where
  valued_number : (p : Point) → IfSome (number_point p) (λ (n : NumberPoint). unvalued_number name unit sort n ≡ None)
  unfolding number_point
  valued_number p = by (plain_number p.value)
    where
      by : (o : Option Number) → IfSome (option_map (λ number. record { labels = p.labels; start = p.start; time = p.time; value = Some number; exemplars = p.shots }) o) (λ (n : NumberPoint). unvalued_number name unit sort n ≡ None)
      by None = tt
      by (Some n) = refl

  valued_histogram : (p : Point) → IfSome (histogram_point p) (λ (h : HistogramPoint). unvalued_histogram name unit sort h ≡ None)
  unfolding histogram_point
  valued_histogram p = by (histogram_in p.value)
    where
      by : (o : Option HistogramValue) → IfSome (option_map (λ histogram. record { labels = p.labels; start = start_or_time p; time = p.time; value = Some histogram; exemplars = p.shots }) o) (λ (h : HistogramPoint). unvalued_histogram name unit sort h ≡ None)
      by None = tt
      by (Some n) = refl

  valued_summary : (p : Point) → IfSome (summary_point p) (λ (s : SummaryPoint). unvalued_summary name unit sort s ≡ None)
  unfolding summary_point
  valued_summary p = by (summary_in p.value)
    where
      by : (o : Option SummaryValue) → IfSome (option_map (λ summary. record { labels = p.labels; start = start_or_time p; time = p.time; value = Some summary }) o) (λ (s : SummaryPoint). unvalued_summary name unit sort s ≡ None)
      by None = tt
      by (Some n) = refl

-- ---- the shape of points

-- a shape of a kind whose points have values
record IsValuedShape (kind : Kind) (shape : Shape) : Type 0 where
  sort : no_points kind ≡ Some (sort_of shape)
  valued : (name unit : List ℕ) → unvalued_in_shape name unit shape ≡ []

made_shape : {Y : Type 0} (P : Shape → Type 0) (h : Point → Option Y) (make : List Y → Shape) (points : List Point) → P (make (filter_map h points)) → IfSome (option_map make (some_of h points)) P
made_shape {Y} P h make points given = go (filter_map h points) refl given
  where
    go : (ys : List Y) → filter_map h points ≡ ys → P (make ys) → IfSome (option_map make (some_of h points)) P
    go [] e p = rw e tt
    go (y ∷ ys) e p = rw e p

kind_shape : (kind : Kind) (points : List Point) → IfSome (shape_of kind points) (IsValuedShape kind)
unfolding shape_of no_points
kind_shape Counter points =
    made_shape (IsValuedShape Counter) number_point (λ ps. shapes.Sum ps true) points
    (record { sort = refl; valued = λ name unit. all_valued number_point (unvalued_number name unit (Some (shapes.Sum [] true))) (valued_number name unit (Some (shapes.Sum [] true))) points })
kind_shape Info points =
    made_shape (IsValuedShape Info) number_point (λ ps. shapes.Sum ps false) points
    (record { sort = refl; valued = λ name unit. all_valued number_point (unvalued_number name unit (Some (shapes.Sum [] false))) (valued_number name unit (Some (shapes.Sum [] false))) points })
kind_shape StateSet points =
    made_shape (IsValuedShape StateSet) number_point (λ ps. shapes.Sum ps false) points
    (record { sort = refl; valued = λ name unit. all_valued number_point (unvalued_number name unit (Some (shapes.Sum [] false))) (valued_number name unit (Some (shapes.Sum [] false))) points })
kind_shape Histogram points =
    made_shape (IsValuedShape Histogram) histogram_point shapes.Histogram points
    (record { sort = refl; valued = λ name unit. all_valued histogram_point (unvalued_histogram name unit (Some (shapes.Histogram []))) (valued_histogram name unit (Some (shapes.Histogram []))) points })
kind_shape Summary points =
    made_shape (IsValuedShape Summary) summary_point shapes.Summary points
    (record { sort = refl; valued = λ name unit. all_valued summary_point (unvalued_summary name unit (Some (shapes.Summary []))) (valued_summary name unit (Some (shapes.Summary []))) points })
kind_shape GaugeHistogram points = tt
kind_shape Gauge points =
    made_shape (IsValuedShape Gauge) number_point shapes.Gauge points
    (record { sort = refl; valued = λ name unit. all_valued number_point (unvalued_number name unit (Some (shapes.Gauge []))) (valued_number name unit (Some (shapes.Gauge []))) points })
kind_shape Unknown points =
    made_shape (IsValuedShape Unknown) number_point shapes.Gauge points
    (record { sort = refl; valued = λ name unit. all_valued number_point (unvalued_number name unit (Some (shapes.Gauge []))) (valued_number name unit (Some (shapes.Gauge []))) points })

-- ---- the metric of a family

abbrev pub keys_in : List Reading → List SeriesKey
keys_in rs = map (λ (r : Reading). r.key) rs

-- the metric of a family: its kind, the name of its series, points of its kind with values, and one of its series is in it
pub record IsMetricOf (f : Format) (family : Family) (p : Kind × Metric) : Type 0 where
  pub kind_is : p.0 ≡ family.kind
  pub name_is : p.1.name ≡ key_name f family.kind family.name
  pub valued : IsValued p
  pub belongs : list_any (is_in p) (keys_in family.readings) ≡ true

module _ (f : Format) (treatment : Treatment) (place : Reading → Option Placed) where
  metric_is : (family : Family) → IsFormedFamily f treatment family → IfSome (kind_metric place family) (IsMetricOf f family)
  metric_is family formed = by family.readings refl
    where
      each : (r : Reading) → IsFormedReading f treatment family.kind family.name family.unit r → (r.key.name ≡ key_name f family.kind family.name) × (r.key.kind ≡ family.kind)
      each r is = (ap (λ (k : SeriesKey). k.name) is.key, ap (λ (k : SeriesKey). k.kind) is.key)

      by : (rs : List Reading) → family.readings ≡ rs → IfSome (option_map (λ (m : Metric). (family.kind, m)) (metric_of place family.kind family.help rs)) (IsMetricOf f family)
      by [] same = tt
      by (first ∷ rest) same = of (shape_of family.kind (filter_map (point_of place) (first ∷ rest))) (kind_shape family.kind (filter_map (point_of place) (first ∷ rest)))
        where
          all : AllByRecursion (IsFormedReading f treatment family.kind family.name family.unit) (first ∷ rest)
          all = recursion_from_All (IsFormedReading f treatment family.kind family.name family.unit) (first ∷ rest)
              (subst (λ (rs : List Reading). All (IsFormedReading f treatment family.kind family.name family.unit) rs) same formed.readings)

          belongs : (m : Metric) → m.name ≡ first.key.name → m.unit ≡ first.key.unit → list_any (is_in (family.kind, m)) (keys_in family.readings) ≡ true
          belongs m name unit = rw same (or_left (is_in (family.kind, m) first.key) (list_any (is_in (family.kind, m)) (keys_in rest))
              (and_from (bytes_eq m.name first.key.name && kind_eq family.kind first.key.kind) (bytes_eq m.unit first.key.unit)
              (and_from (bytes_eq m.name first.key.name) (kind_eq family.kind first.key.kind) ((bytes_decides m.name first.key.name).1 name) ((kind_decides family.kind first.key.kind).1 (sym (each first all.0).1)))
              ((bytes_decides m.unit first.key.unit).1 unit)))

          of : (o : Option Shape) → IfSome o (IsValuedShape family.kind)
              → IfSome (option_map (λ (m : Metric). (family.kind, m)) (option_map (λ shape. record { name = first.key.name; description = family.help; unit = first.key.unit; shape = shape }) o)) (IsMetricOf f family)
          of None valued = tt
          of (Some shape) valued =
              let m : Metric = record { name = first.key.name; description = family.help; unit = first.key.unit; shape = shape } in
              record {
                kind_is = refl;
                name_is = (each first all.0).0;
                valued = record { sort = valued.sort; valued = valued.valued first.key.name first.key.unit };
                belongs = belongs m refl refl;
              }

  -- ---- no two are of one name, kind and unit

  -- under one kind the name of a series tells the family
  family_told : (kind : Kind) (a b : List ℕ) → key_name f kind a ≡ key_name f kind b → a ≡ b
  family_told Counter a b e = append_cancel_right a b (counter_suffix f) e
  family_told Info a b e = append_cancel_right a b (codes "_info") e
  family_told _ a b e = e

  families_apart : (family other : Family) (p q : Kind × Metric) → bytes_eq family.name other.name ≡ false → IsMetricOf f family p → IsMetricOf f other q → is_same_metric p q ≡ false
  families_apart family other p q differ is of_other = go (is_same_metric p q) refl
    where
      go : (b : Bool) → is_same_metric p q ≡ b → is_same_metric p q ≡ false
      go false e = e
      go true e =
          let two = and_parts (bytes_eq p.1.name q.1.name && kind_eq p.0 q.0) (bytes_eq p.1.unit q.1.unit) e in
          let both = and_parts (bytes_eq p.1.name q.1.name) (kind_eq p.0 q.0) two.0 in
          let kinds : family.kind ≡ other.kind = sym is.kind_is ∙ (kind_decides p.0 q.0).0 both.1 ∙ of_other.kind_is in
          let names : key_name f family.kind family.name ≡ key_name f family.kind other.name =
          sym is.name_is ∙ (bytes_decides p.1.name q.1.name).0 both.0 ∙ of_other.name_is ∙ ap (λ (k : Kind). key_name f k other.name) (sym kinds) in
          let same : bytes_eq family.name other.name ≡ true = (bytes_decides family.name other.name).1 (family_told family.kind family.name other.name names) in
          absurd (let h : true ≡ false = sym same ∙ differ in cc)

  abbrev metrics_in : List Family → List (Kind × Metric)
  metrics_in fs = filter_map (kind_metric place) fs

  others_apart : (family : Family) (p : Kind × Metric) → IsMetricOf f family p → (fs : List Family) → AllByRecursion (IsFormedFamily f treatment) fs → AllByRecursion (λ (g : List ℕ). bytes_eq family.name g ≡ false) (map (λ (g : Family). g.name) fs)
      → AllByRecursion (λ (q : Kind × Metric). is_same_metric p q ≡ false) (metrics_in fs)
  others_apart family p is [] formed differ = tt
  others_apart family p is (g ∷ fs) formed differ = by (kind_metric place g) (metric_is g formed.0) (others_apart family p is fs formed.1 differ.1)
    where
      by : (o : Option (Kind × Metric)) → IfSome o (IsMetricOf f g) → AllByRecursion (λ (q : Kind × Metric). is_same_metric p q ≡ false) (metrics_in fs) → AllByRecursion (λ (q : Kind × Metric). is_same_metric p q ≡ false) (cons_option o (metrics_in fs))
      by None of_g rest = rest
      by (Some q) of_g rest = (families_apart family g p q differ.0 is of_g, rest)

  pub metrics_apart : (fs : List Family) → AllByRecursion (IsFormedFamily f treatment) fs → IsDistinct bytes_eq (map (λ (g : Family). g.name) fs) → IsDistinct is_same_metric (metrics_in fs)
  unfolding IsDistinct
  metrics_apart [] formed names = tt
  metrics_apart (family ∷ fs) formed names = by (kind_metric place family) (metric_is family formed.0) (metrics_apart fs formed.1 names.1)
    where
      by : (o : Option (Kind × Metric)) → IfSome o (IsMetricOf f family) → IsDistinct is_same_metric (metrics_in fs) → IsDistinct is_same_metric (cons_option o (metrics_in fs))
      by None is rest = rest
      by (Some p) is rest = (others_apart family p is fs formed.1 names.0, rest)

  -- what is true of the metric of each family is true of each metric
  each_metric : (P : Kind × Metric → Type 0) → ((family : Family) (p : Kind × Metric) → IsMetricOf f family p → P p) → (fs : List Family) → AllByRecursion (IsFormedFamily f treatment) fs → AllByRecursion P (metrics_in fs)
  each_metric P gives [] formed = tt
  each_metric P gives (family ∷ fs) formed = by (kind_metric place family) (metric_is family formed.0) (each_metric P gives fs formed.1)
    where
      by : (o : Option (Kind × Metric)) → IfSome o (IsMetricOf f family) → AllByRecursion P (metrics_in fs) → AllByRecursion P (cons_option o (metrics_in fs))
      by None is rest = rest
      by (Some p) is rest = (gives family p is, rest)

  pub all_are_valued : (fs : List Family) → AllByRecursion (IsFormedFamily f treatment) fs → AllByRecursion IsValued (metrics_in fs)
  all_are_valued fs formed = each_metric IsValued (λ family p is. is.valued) fs formed

  -- the keys of families' readings
  abbrev pub keys_under : List Family → List SeriesKey
  keys_under fs = keys_in (flat_map (λ (g : Family). g.readings) fs)

  pub all_belong : (fs : List Family) → AllByRecursion (IsFormedFamily f treatment) fs → AllByRecursion (λ (p : Kind × Metric). list_any (is_in p) (keys_under fs) ≡ true) (metrics_in fs)
  all_belong [] formed = tt
  all_belong (family ∷ fs) formed = by (kind_metric place family) (metric_is family formed.0) (later (all_belong fs formed.1))
    where
      split : (p : Kind × Metric) → list_any (is_in p) (keys_under (family ∷ fs)) ≡ (list_any (is_in p) (keys_in family.readings) || list_any (is_in p) (keys_under fs))
      split p = ap (list_any (is_in p)) (map-append (λ (r : Reading). r.key) family.readings (flat_map (λ (g : Family). g.readings) fs)) ∙ list_any-append (is_in p) (keys_in family.readings) (keys_under fs)

      later : AllByRecursion (λ (p : Kind × Metric). list_any (is_in p) (keys_under fs) ≡ true) (metrics_in fs) → AllByRecursion (λ (p : Kind × Metric). list_any (is_in p) (keys_under (family ∷ fs)) ≡ true) (metrics_in fs)
      later rest = all-weaker (λ (p : Kind × Metric). list_any (is_in p) (keys_under fs) ≡ true) (λ (p : Kind × Metric). list_any (is_in p) (keys_under (family ∷ fs)) ≡ true)
          (λ p h. split p ∙ or_right (list_any (is_in p) (keys_in family.readings)) (list_any (is_in p) (keys_under fs)) h) (metrics_in fs) rest

      by : (o : Option (Kind × Metric)) → IfSome o (IsMetricOf f family) → AllByRecursion (λ (p : Kind × Metric). list_any (is_in p) (keys_under (family ∷ fs)) ≡ true) (metrics_in fs)
          → AllByRecursion (λ (p : Kind × Metric). list_any (is_in p) (keys_under (family ∷ fs)) ≡ true) (cons_option o (metrics_in fs))
      by None is rest = rest
      by (Some p) is rest = (split p ∙ or_left (list_any (is_in p) (keys_in family.readings)) (list_any (is_in p) (keys_under fs)) is.belongs, rest)
