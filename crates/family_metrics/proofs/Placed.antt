-- Each marker has one place among the metrics of an event.
use Rattle.std.proofs.Common.{◌≡◌, ℕ, ◌≤◌, Bool, true, false, not, ◌&&◌, List, [], ◌∷◌, filter, length, refl, sym, ap, ◌∙◌, arith}
use Rattle.std.specs.List.{IsDistinct, AllByRecursion, list_any}
use Rattle.std.specs.Str.{bytes_eq}
use Rattle.std.specs.Cmp.Lexicographic.{bytes_decides}
use Rattle.std.proofs.lemmas.Bool.Decides.{Decides-eqb}
use Rattle.std.proofs.lemmas.Bool.{and_parts}
use Rattle.label_sets.specs.declared.kind.Kind.{Kind}
use Rattle.label_sets.specs.declared.series_key.SeriesKey.{SeriesKey}
use Rattle.label_sets.specs.Keys.{kind_place, kind_eq, identity_eq}
use Rattle.label_sets.specs.Lists.{first_of_each}
use Rattle.otlp_tree.specs.declared.tree.Metric.{Metric}
use Rattle.family_metrics.specs.declared.markers.Marker.{Marker}
use Rattle.family_metrics.specs.Markers.{is_of_metric}
use Rattle.family_metrics.specs.Laws.{is_same_metric, metrics_with, OneMetricOfThePage, OneMetricAlone}

join : (a b : Bool) → a ≡ true → b ≡ true → (a && b) ≡ true
join true b e f = f
join false b e f = absurd cc

-- three texts and kinds of which two are equal to the third
bytes_same : (a b c : List ℕ) → bytes_eq a c ≡ true → bytes_eq b c ≡ true → bytes_eq a b ≡ true
bytes_same a b c e f = (bytes_decides a b).1 ((bytes_decides a c).0 e ∙ sym ((bytes_decides b c).0 f))

kinds_same : (a b c : Kind) → kind_eq a c ≡ true → kind_eq b c ≡ true → kind_eq a b ≡ true
kinds_same a b c e f = (Decides-eqb (kind_place a) (kind_place b)).1 ((Decides-eqb (kind_place a) (kind_place c)).0 e ∙ sym ((Decides-eqb (kind_place b) (kind_place c)).0 f))

bytes_then : (a b c : List ℕ) → bytes_eq a b ≡ true → bytes_eq b c ≡ true → bytes_eq a c ≡ true
bytes_then a b c e f = (bytes_decides a c).1 ((bytes_decides a b).0 e ∙ (bytes_decides b c).0 f)

kinds_then : (a b c : Kind) → kind_eq a b ≡ true → kind_eq b c ≡ true → kind_eq a c ≡ true
kinds_then a b c e f = (Decides-eqb (kind_place a) (kind_place c)).1 ((Decides-eqb (kind_place a) (kind_place b)).0 e ∙ (Decides-eqb (kind_place b) (kind_place c)).0 f)

same_metric : (p q : Kind × Metric) (key : SeriesKey) → is_of_metric p.0 p.1 key ≡ true → is_of_metric q.0 q.1 key ≡ true → is_same_metric p q ≡ true
same_metric p q key e f =
    let a = and_parts (bytes_eq p.1.name key.name && kind_eq p.0 key.kind) (bytes_eq p.1.unit key.unit) e in
    let b = and_parts (bytes_eq p.1.name key.name) (kind_eq p.0 key.kind) a.0 in
    let c = and_parts (bytes_eq q.1.name key.name && kind_eq q.0 key.kind) (bytes_eq q.1.unit key.unit) f in
    let d = and_parts (bytes_eq q.1.name key.name) (kind_eq q.0 key.kind) c.0 in
    join (bytes_eq p.1.name q.1.name && kind_eq p.0 q.0) (bytes_eq p.1.unit q.1.unit)
    (join (bytes_eq p.1.name q.1.name) (kind_eq p.0 q.0) (bytes_same p.1.name q.1.name key.name b.0 d.0) (kinds_same p.0 q.0 key.kind b.1 d.1)) (bytes_same p.1.unit q.1.unit key.unit a.1 c.1)

none_more : (p : Kind × Metric) (key : SeriesKey) (ps : List (Kind × Metric)) → is_of_metric p.0 p.1 key ≡ true → AllByRecursion (λ q. is_same_metric p q ≡ false) ps → metrics_with key ps ≡ []
none_more p key [] e all = refl
none_more p key (q ∷ ps) e all = go (is_of_metric q.0 q.1 key) refl (none_more p key ps e all.1)
  where
    go : (b : Bool) → is_of_metric q.0 q.1 key ≡ b → metrics_with key ps ≡ [] → metrics_with key (q ∷ ps) ≡ []
    go true f rest = absurd (let x : true ≡ false = sym (same_metric p q key e f) ∙ all.0 in cc)
    go false f rest = rw f rest

pub one_metric_of_the_page : OneMetricOfThePage
unfolding IsDistinct
one_metric_of_the_page [] key once = omega arith
one_metric_of_the_page (p ∷ ps) key once = go (is_of_metric p.0 p.1 key) refl (one_metric_of_the_page ps key once.1)
  where
    go : (b : Bool) → is_of_metric p.0 p.1 key ≡ b → length (metrics_with key ps) ≤ 1 → length (metrics_with key (p ∷ ps)) ≤ 1
    go true e rest = rw (e, none_more p key ps e once.0) (omega arith)
    go false e rest = rw e rest

-- ---- the first of each

identity_then : (a b c : SeriesKey) → identity_eq a b ≡ true → identity_eq b c ≡ true → identity_eq a c ≡ true
identity_then a b c e f =
    let x = and_parts (bytes_eq a.name b.name && kind_eq a.kind b.kind) (bytes_eq a.unit b.unit) e in
    let y = and_parts (bytes_eq a.name b.name) (kind_eq a.kind b.kind) x.0 in
    let z = and_parts (bytes_eq b.name c.name && kind_eq b.kind c.kind) (bytes_eq b.unit c.unit) f in
    let v = and_parts (bytes_eq b.name c.name) (kind_eq b.kind c.kind) z.0 in
    join (bytes_eq a.name c.name && kind_eq a.kind c.kind) (bytes_eq a.unit c.unit)
    (join (bytes_eq a.name c.name) (kind_eq a.kind c.kind) (bytes_then a.name b.name c.name y.0 v.0) (kinds_then a.kind b.kind c.kind y.1 v.1)) (bytes_then a.unit b.unit c.unit x.1 z.1)

identity_both : (a b c : SeriesKey) → identity_eq a c ≡ true → identity_eq b c ≡ true → identity_eq a b ≡ true
identity_both a b c e f =
    let x = and_parts (bytes_eq a.name c.name && kind_eq a.kind c.kind) (bytes_eq a.unit c.unit) e in
    let y = and_parts (bytes_eq a.name c.name) (kind_eq a.kind c.kind) x.0 in
    let z = and_parts (bytes_eq b.name c.name && kind_eq b.kind c.kind) (bytes_eq b.unit c.unit) f in
    let v = and_parts (bytes_eq b.name c.name) (kind_eq b.kind c.kind) z.0 in
    join (bytes_eq a.name b.name && kind_eq a.kind b.kind) (bytes_eq a.unit b.unit)
    (join (bytes_eq a.name b.name) (kind_eq a.kind b.kind) (bytes_same a.name b.name c.name y.0 v.0) (kinds_same a.kind b.kind c.kind y.1 v.1)) (bytes_same a.unit b.unit c.unit x.1 z.1)

-- the markers of one metric with this one
of_one : Marker → List Marker → List Marker
of_one m ms = filter (λ (f : Marker). identity_eq f.key m.key) ms

without : Marker → List Marker → List Marker
without x ms = filter (λ (y : Marker). not (identity_eq x.key y.key)) ms

none_left : (x m : Marker) (ms : List Marker) → identity_eq x.key m.key ≡ true → of_one m (without x ms) ≡ []
unfolding of_one without
none_left x m [] e = refl
none_left x m (y ∷ ms) e = go (identity_eq x.key y.key) refl (identity_eq y.key m.key) refl (none_left x m ms e)
  where
    go : (b : Bool) → identity_eq x.key y.key ≡ b → (c : Bool) → identity_eq y.key m.key ≡ c → of_one m (without x ms) ≡ [] → of_one m (without x (y ∷ ms)) ≡ []
    go true f c g rest = rw f rest
    go false f true g rest = absurd (let h : true ≡ false = sym (identity_both x.key y.key m.key e g) ∙ f in cc)
    go false f false g rest = rw (f, g) rest

all_left : (x m : Marker) (ms : List Marker) → identity_eq x.key m.key ≡ false → of_one m (without x ms) ≡ of_one m ms
unfolding of_one without
all_left x m [] e = refl
all_left x m (y ∷ ms) e = go (identity_eq x.key y.key) refl (identity_eq y.key m.key) refl (all_left x m ms e)
  where
    go : (b : Bool) → identity_eq x.key y.key ≡ b → (c : Bool) → identity_eq y.key m.key ≡ c → of_one m (without x ms) ≡ of_one m ms → of_one m (without x (y ∷ ms)) ≡ of_one m (y ∷ ms)
    go true f true g rest = absurd (let h : true ≡ false = sym (identity_then x.key y.key m.key f g) ∙ e in cc)
    go true f false g rest = rw (f, g) rest
    go false f true g rest = rw (f, g) (ap (λ ys. y ∷ ys) rest)
    go false f false g rest = rw (f, g) rest

pub one_metric_alone : OneMetricAlone
unfolding of_one without
one_metric_alone [] m h = absurd cc
one_metric_alone (x ∷ ms) m h = go (identity_eq x.key m.key) refl (one_metric_alone ms m)
  where
    firsts : List Marker
    firsts = first_of_each (λ (a b : Marker). identity_eq a.key b.key) ms

    go : (b : Bool) → identity_eq x.key m.key ≡ b → (list_any (λ (y : Marker). identity_eq y.key m.key) ms ≡ true → length (of_one m firsts) ≡ 1) → length (of_one m (x ∷ without x firsts)) ≡ 1
    go true e rest = rw (e, none_left x m firsts e) refl
    go false e rest = rw (e, all_left x m firsts e) (rest (rw e at h))
