-- The scopes of a page and of series that are gone: each stands once, none is the target's own, and each series has one of them.
use Rattle.std.proofs.Common.{◌≡◌, ℕ, Bool, true, false, not, List, [], ◌∷◌, ◌++◌, map, filter, codes, Option, Some, None, refl, sym, ap, subst, ◌∙◌}
use Rattle.std.specs.List.{AllByRecursion, IsDistinct, list_any}
use Rattle.std.specs.Str.{bytes_eq}
use Rattle.std.specs.Cmp.Lexicographic.{bytes_decides}
use Rattle.std.proofs.lemmas.Bool.{and_parts, and_from, and_left, or_left, or_right, or_parts}
use Rattle.std.proofs.lemmas.Option.{same_Some}
use Rattle.std.proofs.lemmas.List.Folds.{list_any-append}
use Rattle.label_sets.specs.declared.label_set.LabelSet.{LabelSet}
use Rattle.label_sets.specs.declared.series_key.SeriesKey.{SeriesKey}
use Rattle.label_sets.specs.Lists.{◌>>=◌, when_true}
use Rattle.label_sets.specs.Labels.{label_value}
use Rattle.label_sets.proofs.Laws.{all-weaker, all-append, any-map}
use Rattle.page_model.specs.declared.page.Reading.{Reading}
use Rattle.page_model.specs.declared.page.Page.{Page}
use Rattle.page_model.specs.Presence.{all_readings}
use Rattle.start_times.specs.declared.row.Placed.{Placed}
use Rattle.family_metrics.specs.Scopes.{Scope, scope_eq, bridge_scope, target_scope, is_own_scope, scope_name, scope_of}
use Rattle.scope_metrics.specs.PageScopes.{is_in_scope, has_point, reading_scopes, marker_scopes, scopes_in}
use Rattle.target_core.specs.Events.{marker_with}
use Rattle.point_laws.specs.MarkerLaws.{is_key_in}
use Rattle.point_laws.proofs.Parts.{all-images, all-firsts, any-firsts, each-among, firsts-distinct, is_of_some}

-- ---- one scope

pub same_scope : (a b : Scope) → scope_eq a b ≡ true → a ≡ b
same_scope a b e =
    let parts = and_parts (bytes_eq a.name b.name) (bytes_eq a.version b.version) e in
    let name : a.name ≡ b.name = (bytes_decides a.name b.name).0 parts.0 in
    let version : a.version ≡ b.version = (bytes_decides a.version b.version).0 parts.1 in
    λ i. record { name = name i; version = version i }

scope_itself : (a : Scope) → scope_eq a a ≡ true
scope_itself a = and_from (bytes_eq a.name a.name) (bytes_eq a.version a.version) ((bytes_decides a.name a.name).1 refl) ((bytes_decides a.version a.version).1 refl)

scope_again : (a b : Scope) → a ≡ b → scope_eq a b ≡ true
scope_again a b e = subst (λ x. scope_eq a x ≡ true) e (scope_itself a)

scope_then : (a b c : Scope) → scope_eq a b ≡ true → scope_eq b c ≡ true → scope_eq a c ≡ true
scope_then a b c e f = scope_again a c (same_scope a b e ∙ same_scope b c f)

pub scope_both : (a b c : Scope) → scope_eq a c ≡ true → scope_eq b c ≡ true → scope_eq a b ≡ true
scope_both a b c e f = scope_again a b (same_scope a c e ∙ sym (same_scope b c f))

-- ---- no series names the target's own scope

free_name : (o : Option (List ℕ)) (name : List ℕ) → (o >>= λ n. when_true (not (is_own_scope n)) n) ≡ Some name → is_own_scope name ≡ false
free_name None name e = absurd (let h : ◌≡◌ {A = Option (List ℕ)} None (Some name) = e in cc)
free_name (Some n) name e = go (is_own_scope n) refl e
  where
    go : (b : Bool) → is_own_scope n ≡ b → when_true (not b) n ≡ Some name → is_own_scope name ≡ false
    go true own f = absurd (let h : ◌≡◌ {A = Option (List ℕ)} None (Some name) = f in cc)
    go false own f = ap is_own_scope (sym (same_Some n name f)) ∙ own

named_free : (labels : LabelSet) (name : List ℕ) → scope_name labels ≡ Some name → is_own_scope name ≡ false
unfolding scope_name
named_free labels name e = free_name (label_value (codes "otel_scope_name") labels) name e

bridge_apart : scope_eq bridge_scope target_scope ≡ false
bridge_apart = refl

pub named_apart : (labels : LabelSet) → scope_eq (scope_of labels) target_scope ≡ false
named_apart labels = go (scope_name labels) refl
  where
    go : (o : Option (List ℕ)) → scope_name labels ≡ o → scope_eq (scope_of labels) target_scope ≡ false
    go None e = rw e refl
    go (Some name) e = rw e (and_left (bytes_eq name (codes "bridge.target")) _ (or_parts (bytes_eq name (codes "bridge")) (bytes_eq name (codes "bridge.target")) (named_free labels name e)).1)

-- ---- the scopes of readings and of markers

-- what has a name among names is found there
each_named : {A : Type 0} (name : A → Scope) (xs : List A) → AllByRecursion (λ a. list_any (λ s. scope_eq s (name a)) (map name xs) ≡ true) xs
each_named {A} name xs = all-weaker (λ a. list_any (λ x. scope_eq (name x) (name a)) xs ≡ true) (λ a. list_any (λ s. scope_eq s (name a)) (map name xs) ≡ true)
    (λ a h. any-map (λ s. scope_eq s (name a)) name xs ∙ h) xs (each-among (λ a b. scope_eq (name a) (name b)) (λ a. scope_itself (name a)) xs)

-- the scopes of markers are those of their series
gone_scopes : (start : SeriesKey → Option ℕ) (moment : ℕ) (keys : List SeriesKey) → marker_scopes (map (marker_with start moment) keys) ≡ map (λ (key : SeriesKey). scope_of key.labels) keys
unfolding marker_with
gone_scopes start moment [] = refl
gone_scopes start moment (key ∷ keys) = ap (λ ss. scope_of key.labels ∷ ss) (gone_scopes start moment keys)

module _ (place : Reading → Option Placed) (start : SeriesKey → Option ℕ) (moment : ℕ) (keys : List SeriesKey) (page : Page) where
  abbrev of_readings : List Scope
  of_readings = reading_scopes place page

  abbrev of_markers : List Scope
  of_markers = marker_scopes (map (marker_with start moment) keys)

  abbrev pub scopes : List Scope
  scopes = scopes_in place (map (marker_with start moment) keys) page

  pub scopes_differ : IsDistinct scope_eq scopes
  scopes_differ = firsts-distinct scope_eq (bridge_scope ∷ (of_readings ++ of_markers))

  among_readings : (s : Scope) → list_any (λ x. scope_eq x s) of_readings ≡ true → list_any (λ x. scope_eq x s) scopes ≡ true
  among_readings s h = any-firsts scope_eq scope_then s (bridge_scope ∷ (of_readings ++ of_markers))
      ∙ or_right (scope_eq bridge_scope s) (list_any (λ x. scope_eq x s) (of_readings ++ of_markers))
      (list_any-append (λ x. scope_eq x s) of_readings of_markers ∙ or_left (list_any (λ x. scope_eq x s) of_readings) (list_any (λ x. scope_eq x s) of_markers) h)

  among_markers : (s : Scope) → list_any (λ x. scope_eq x s) of_markers ≡ true → list_any (λ x. scope_eq x s) scopes ≡ true
  among_markers s h = any-firsts scope_eq scope_then s (bridge_scope ∷ (of_readings ++ of_markers))
      ∙ or_right (scope_eq bridge_scope s) (list_any (λ x. scope_eq x s) (of_readings ++ of_markers))
      (list_any-append (λ x. scope_eq x s) of_readings of_markers ∙ or_right (list_any (λ x. scope_eq x s) of_readings) (list_any (λ x. scope_eq x s) of_markers) h)

  -- each series that is gone has one of the scopes
  pub keys_scoped : AllByRecursion (λ (key : SeriesKey). is_of_some is_key_in scopes key ≡ true) keys
  keys_scoped = all-weaker (λ (key : SeriesKey). list_any (λ s. scope_eq s (scope_of key.labels)) (map (λ (k : SeriesKey). scope_of k.labels) keys) ≡ true)
      (λ (key : SeriesKey). is_of_some is_key_in scopes key ≡ true)
      (λ key h. among_markers (scope_of key.labels) (ap (list_any (λ s. scope_eq s (scope_of key.labels))) (gone_scopes start moment keys) ∙ h))
      keys (each_named (λ (k : SeriesKey). scope_of k.labels) keys)

  -- and so has each reading with a point
  pub readings_scoped : AllByRecursion (λ (r : Reading). is_of_some is_in_scope scopes r ≡ true) (filter (has_point place) (all_readings page))
  readings_scoped = all-weaker (λ (r : Reading). list_any (λ s. scope_eq s (scope_of r.key.labels)) of_readings ≡ true)
      (λ (r : Reading). is_of_some is_in_scope scopes r ≡ true) (λ r h. among_readings (scope_of r.key.labels) h)
      (filter (has_point place) (all_readings page)) (each_named (λ (r : Reading). scope_of r.key.labels) (filter (has_point place) (all_readings page)))

  -- none of them is the target's own
  pub none_is_target : AllByRecursion (λ s. scope_eq s target_scope ≡ false) scopes
  none_is_target = all-firsts (λ s. scope_eq s target_scope ≡ false) scope_eq (bridge_scope ∷ (of_readings ++ of_markers)) (
    bridge_apart,
    all-append (λ s. scope_eq s target_scope ≡ false) of_readings of_markers
        (all-images (λ s. scope_eq s target_scope ≡ false) (λ (r : Reading). scope_of r.key.labels) (λ r. named_apart r.key.labels) (filter (has_point place) (all_readings page)))
        (subst (AllByRecursion (λ s. scope_eq s target_scope ≡ false)) (sym (gone_scopes start moment keys))
        (all-images (λ s. scope_eq s target_scope ≡ false) (λ (key : SeriesKey). scope_of key.labels) (λ key. named_apart key.labels) keys)),
  )
