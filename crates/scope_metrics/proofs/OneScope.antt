-- Each marker and each point is in one scope, and where none is named all are in the bridge's own.
use Rattle.std.proofs.Common.{◌≡◌, ℕ, Bool, true, false, cond, not, ◌&&◌, ◌||◌, List, [], ◌∷◌, ◌++◌, map, filter, length, Option, Some, None, is_none, refl, sym, ap, subst, ◌∙◌}
use Rattle.std.specs.List.{AllByRecursion, list_all, list_any, flat_map}
use Rattle.std.specs.Str.{bytes_eq}
use Rattle.std.specs.Cmp.Lexicographic.{bytes_decides}
use Rattle.std.proofs.lemmas.Bool.{and_parts}
use Rattle.std.proofs.lemmas.List.{append-nil}
use Rattle.std.proofs.lemmas.List.Folds.{list_all-append}
use Rattle.label_sets.specs.declared.label_set.LabelSet.{LabelSet}
use Rattle.label_sets.specs.Lists.{first_of_each}
use Rattle.label_sets.proofs.Laws.{all-append}
use Rattle.page_model.specs.declared.page.Reading.{Reading}
use Rattle.page_model.specs.declared.page.Family.{Family}
use Rattle.page_model.specs.Presence.{all_readings}
use Rattle.start_times.specs.declared.row.Placed.{Placed}
use Rattle.family_metrics.specs.declared.markers.Marker.{Marker}
use Rattle.family_metrics.specs.Scopes.{Scope, scope_eq, scope_name, scope_of, bridge_scope}
use Rattle.scope_metrics.specs.ScopeParts.{family_holding}
use Rattle.family_metrics.specs.PlacedMarkers.{family_readings, families_page}
use Rattle.scope_metrics.specs.PageScopes.{has_point, is_in_scope, reading_scopes, marker_scopes, scopes_in, scope_metrics, scope_with, series_scopes}
use Rattle.family_metrics.specs.Metrics.{event_metrics}
use Rattle.scope_metrics.specs.Laws.{names_none, readings_name_none, families_name_none, markers_name_none, OneScopeOfMarker, OneScopeOfReading, OneScopeAlone}

-- ---- one scope

same_scope : (a b : Scope) → scope_eq a b ≡ true → a ≡ b
same_scope a b e =
    let parts = and_parts (bytes_eq a.name b.name) (bytes_eq a.version b.version) e in
    let name : a.name ≡ b.name = (bytes_decides a.name b.name).0 parts.0 in
    let version : a.version ≡ b.version = (bytes_decides a.version b.version).0 parts.1 in
    λ i. record { name = name i; version = version i }

scope_itself : (a : Scope) → scope_eq a a ≡ true
scope_itself a = let n = (bytes_decides a.name a.name).1 refl in let v = (bytes_decides a.version a.version).1 refl in rw (n, v) refl

others_of : Scope → List Scope → List Scope
others_of x ss = filter (λ y. not (scope_eq x y)) ss

none_left : (x s : Scope) (ss : List Scope) → scope_eq s x ≡ true → filter (scope_eq s) (others_of x ss) ≡ []
unfolding others_of
none_left x s [] e = refl
none_left x s (y ∷ ss) e = go (scope_eq x y) refl (scope_eq s y) refl (none_left x s ss e)
  where
    go : (b : Bool) → scope_eq x y ≡ b → (c : Bool) → scope_eq s y ≡ c → filter (scope_eq s) (others_of x ss) ≡ [] → filter (scope_eq s) (others_of x (y ∷ ss)) ≡ []
    go true p c q rest = rw p rest
    go false p false q rest = rw (p, q) rest
    go false p true q rest = absurd (let same : x ≡ y = sym (same_scope s x e) ∙ same_scope s y q in let f : scope_eq x x ≡ false = subst (λ z. scope_eq x z ≡ false) (sym same) p in let g : true ≡ false = sym (scope_itself x) ∙ f in cc)

all_left : (x s : Scope) (ss : List Scope) → scope_eq s x ≡ false → filter (scope_eq s) (others_of x ss) ≡ filter (scope_eq s) ss
unfolding others_of
all_left x s [] e = refl
all_left x s (y ∷ ss) e = go (scope_eq x y) refl (scope_eq s y) refl (all_left x s ss e)
  where
    go : (b : Bool) → scope_eq x y ≡ b → (c : Bool) → scope_eq s y ≡ c → filter (scope_eq s) (others_of x ss) ≡ filter (scope_eq s) ss → filter (scope_eq s) (others_of x (y ∷ ss)) ≡ filter (scope_eq s) (y ∷ ss)
    go true p true q rest = absurd (let same : s ≡ x = same_scope s y q ∙ sym (same_scope x y p) in let f : scope_eq s s ≡ false = subst (λ z. scope_eq s z ≡ false) (sym same) e in let g : true ≡ false = sym (scope_itself s) ∙ f in cc)
    go true p false q rest = rw (p, q) rest
    go false p true q rest = rw (p, q) (ap (λ ys. y ∷ ys) rest)
    go false p false q rest = rw (p, q) rest

once_among : (s : Scope) (ss : List Scope) → list_any (scope_eq s) ss ≡ true → length (filter (scope_eq s) (first_of_each scope_eq ss)) ≡ 1
unfolding others_of
once_among s [] h = absurd cc
once_among s (x ∷ ss) h = go (scope_eq s x) refl (once_among s ss)
  where
    firsts : List Scope
    firsts = first_of_each scope_eq ss

    go : (b : Bool) → scope_eq s x ≡ b → (list_any (scope_eq s) ss ≡ true → length (filter (scope_eq s) firsts) ≡ 1) → length (filter (scope_eq s) (x ∷ others_of x firsts)) ≡ 1
    go true e rest = rw (e, none_left x s firsts e) refl
    go false e rest = rw (e, all_left x s firsts e) (rest (rw e at h))

either_right : (a b : Bool) → b ≡ true → (a || b) ≡ true
either_right true b h = refl
either_right false b h = h

any_left : (test : Scope → Bool) (xs ys : List Scope) → list_any test xs ≡ true → list_any test (xs ++ ys) ≡ true
any_left test [] ys h = absurd cc
any_left test (x ∷ xs) ys h = go (test x) refl (any_left test xs ys)
  where
    go : (b : Bool) → test x ≡ b → (list_any test xs ≡ true → list_any test (xs ++ ys) ≡ true) → list_any test (x ∷ xs ++ ys) ≡ true
    go true e rest = rw e refl
    go false e rest = rw e (rest (rw e at h))

any_right : (test : Scope → Bool) (xs ys : List Scope) → list_any test ys ≡ true → list_any test (xs ++ ys) ≡ true
any_right test [] ys h = h
any_right test (x ∷ xs) ys h = either_right (test x) (list_any test (xs ++ ys)) (any_right test xs ys h)

pub one_scope_of_marker : OneScopeOfMarker
one_scope_of_marker place ms page m h =
    let s = scope_of m.key.labels in
    once_among s (bridge_scope ∷ reading_scopes place page ++ marker_scopes ms) (any_right (scope_eq s) (bridge_scope ∷ reading_scopes place page) (marker_scopes ms) h)

pub one_scope_of_reading : OneScopeOfReading
one_scope_of_reading place ms page r h =
    let s = scope_of r.key.labels in
    once_among s (bridge_scope ∷ reading_scopes place page ++ marker_scopes ms)
    (any_left (scope_eq s) (bridge_scope ∷ reading_scopes place page) (marker_scopes ms) (either_right (scope_eq s bridge_scope) (list_any (scope_eq s) (reading_scopes place page)) h))

-- ---- all in one scope

unnamed : (labels : LabelSet) → names_none labels ≡ true → scope_of labels ≡ bridge_scope
unnamed labels h = by (scope_name labels) refl
  where
    by : (o : Option (List ℕ)) → scope_name labels ≡ o → scope_of labels ≡ bridge_scope
    by None e = rw e refl
    by (Some name) e = absurd (let no : false ≡ true = sym (ap is_none e) ∙ h in cc)

in_bridge : (labels : LabelSet) → names_none labels ≡ true → scope_eq bridge_scope (scope_of labels) ≡ true
in_bridge labels h = ap (scope_eq bridge_scope) (unnamed labels h) ∙ scope_itself bridge_scope

module _ {A : Type 0} (labels_in : A → LabelSet) where
  all_kept : (xs : List A) → list_all (λ x. names_none (labels_in x)) xs ≡ true → filter (λ x. scope_eq bridge_scope (scope_of (labels_in x))) xs ≡ xs
  all_kept [] h = refl
  all_kept (x ∷ xs) h =
      let both = and_parts (names_none (labels_in x)) (list_all (λ y. names_none (labels_in y)) xs) h in
      ap (λ b. cond b (x ∷ filter (λ y. scope_eq bridge_scope (scope_of (labels_in y))) xs) (filter (λ y. scope_eq bridge_scope (scope_of (labels_in y))) xs)) (in_bridge (labels_in x) both.0)
      ∙ ap (λ l. x ∷ l) (all_kept xs both.1)

  all_bridge : (xs : List A) → list_all (λ x. names_none (labels_in x)) xs ≡ true → AllByRecursion (λ s. s ≡ bridge_scope) (map (λ x. scope_of (labels_in x)) xs)
  all_bridge [] h = tt
  all_bridge (x ∷ xs) h =
      let both = and_parts (names_none (labels_in x)) (list_all (λ y. names_none (labels_in y)) xs) h in
      (unnamed (labels_in x) both.0, all_bridge xs both.1)

  all_still : (test : A → Bool) (xs : List A) → list_all (λ x. names_none (labels_in x)) xs ≡ true → list_all (λ x. names_none (labels_in x)) (filter test xs) ≡ true
  all_still test [] h = refl
  all_still test (x ∷ xs) h =
      let both = and_parts (names_none (labels_in x)) (list_all (λ y. names_none (labels_in y)) xs) h in
      by (test x) both.0 (all_still test xs both.1)
    where
      by : (b : Bool) → names_none (labels_in x) ≡ true → list_all (λ y. names_none (labels_in y)) (filter test xs) ≡ true
          → list_all (λ y. names_none (labels_in y)) (cond b (x ∷ filter test xs) (filter test xs)) ≡ true
      by true e ih = ap (λ b. b && list_all (λ y. names_none (labels_in y)) (filter test xs)) e ∙ ih
      by false e ih = ih

families_kept : (fs : List Family) → readings_name_none (family_readings fs) ≡ true → map (λ (f : Family). family_holding f (filter (is_in_scope bridge_scope) f.readings)) fs ≡ fs
families_kept [] h = refl
families_kept (f ∷ fs) h =
    let both = and_parts (readings_name_none f.readings) (readings_name_none (family_readings fs))
    (sym (list_all-append (λ (r : Reading). names_none r.key.labels) f.readings (family_readings fs)) ∙ h) in
    λ i. family_holding f (all_kept (λ (r : Reading). r.key.labels) f.readings both.0 i) ∷ families_kept fs both.1 i

no_others : (ss : List Scope) → AllByRecursion (λ s. s ≡ bridge_scope) ss → others_of bridge_scope (first_of_each scope_eq ss) ≡ []
unfolding others_of
no_others [] all = refl
no_others (s ∷ ss) all =
    ap (λ x. others_of bridge_scope (x ∷ others_of x (first_of_each scope_eq ss))) all.0
    ∙ ap (λ l. others_of bridge_scope (bridge_scope ∷ l)) (no_others ss all.1)
    ∙ ap (λ b. cond (not b) (bridge_scope ∷ []) []) (scope_itself bridge_scope)

pub one_scope_alone : OneScopeAlone
unfolding others_of series_scopes
one_scope_alone place ms page readings markers =
    let others : AllByRecursion (λ s. s ≡ bridge_scope) (reading_scopes place page ++ marker_scopes ms) =
    all-append (λ s. s ≡ bridge_scope) (reading_scopes place page) (marker_scopes ms)
    (all_bridge (λ (r : Reading). r.key.labels) (filter (has_point place) (all_readings page)) (all_still (λ (r : Reading). r.key.labels) (has_point place) (all_readings page) readings))
    (all_bridge (λ (m : Marker). m.key.labels) ms markers) in
    let one : scopes_in place ms page ≡ bridge_scope ∷ [] = ap (λ l. bridge_scope ∷ l) (no_others (reading_scopes place page ++ marker_scopes ms) others) in
    ap (flat_map (scope_metrics place ms page)) one
    ∙ append-nil (scope_metrics place ms page bridge_scope)
    ∙ (λ i. scope_with bridge_scope (event_metrics place (all_kept (λ (m : Marker). m.key.labels) ms markers i) (record { families = families_kept page.families readings i; samples = page.samples })))

-- the readings of families, one family after the other
by_families : (fs : List Family) → readings_name_none (family_readings fs) ≡ families_name_none fs
by_families [] = refl
by_families (f ∷ fs) = list_all-append (λ (r : Reading). names_none r.key.labels) f.readings (family_readings fs)
    ∙ ap (λ b. readings_name_none f.readings && b) (by_families fs)

-- the same, as it is asked for
pub alone_here : (place : Reading → Option Placed) (fs : List Family) (ms seen : List Marker) → seen ≡ ms
    → (families_name_none fs && markers_name_none seen) ≡ true
    → scope_with bridge_scope (event_metrics place ms (families_page fs)) ≡ series_scopes place ms (families_page fs)
alone_here place fs ms seen told none =
    let both = and_parts (families_name_none fs) (markers_name_none seen) none in
    sym (one_scope_alone place ms (families_page fs) (by_families fs ∙ both.0) (ap markers_name_none (sym told) ∙ both.1))
