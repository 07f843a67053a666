-- What the readings of a page and markers come to under one scope.
use Rattle.std.proofs.Common.{◌≡◌, ℕ, suc, ◌<◌, Bool, true, false, cond, List, [], ◌∷◌, ◌++◌, map, filter, Option, Some, None, refl, sym, ap, subst, ◌∙◌, append_assoc, arith}
use Rattle.std.specs.Prelude.{⊤, ◌==◌, if◌then◌else◌}
use Rattle.std.specs.List.{fold, flat_map}
use Rattle.std.proofs.lemmas.Bool.Decides.{Decides-eqb}
use Rattle.std.proofs.lemmas.List.{append-nil, map-append}
use Rattle.std.proofs.lemmas.List.Elements.{filter-append}
use Rattle.std.proofs.lemmas.List.Sums.{fold-append}
use Rattle.std.proofs.lemmas.Grind.{flat_map-append}
use Rattle.page_model.specs.declared.page.Reading.{Reading}
use Rattle.page_model.specs.declared.page.Family.{Family}
use Rattle.start_times.specs.declared.row.Placed.{Placed}
use Rattle.family_metrics.specs.declared.markers.Marker.{Marker}
use Rattle.family_metrics.specs.Scopes.{Scope}
use Rattle.scope_metrics.specs.PageScopes.{is_in_scope, is_marked_in, has_point}
use Rattle.family_metrics.specs.PlacedMarkers.{family_readings}
use Rattle.scope_metrics.specs.ScopeParts.{LastOfScope, OfScope, no_series, family_holding, all_families, is_last, part_started, part_with_last, reading_behind, marker_behind, Item, of_reading, of_marker, item_behind, items_in_scope, placed_items, all_placed_items, HasOwnPlaces}
use Rattle.scope_metrics.proofs.ScopeItems.{is_of}

-- a family with these readings, where there are some
abbrev pub some_family : Family → List Reading → List Family
some_family f [] = []
some_family f (r ∷ rs) = family_holding f (r ∷ rs) ∷ []

-- the last family is one before this number
abbrev IsBefore : ℕ → Option LastOfScope → Type 0
IsBefore n None = ⊤
IsBefore n (Some l) = l.number < n

same_number : (n : ℕ) → (n == n) ≡ true
same_number n = (Decides-eqb n n).1 refl

other_number : (m n : ℕ) → m < n → (m == n) ≡ false
other_number m n less = go (m == n) refl
  where
    go : (b : Bool) → (m == n) ≡ b → b ≡ false
    go true e = absurd (let same : m ≡ n = (Decides-eqb m n).0 e in omega (arith, same, less))
    go false e = refl

not_last : (n : ℕ) (o : Option LastOfScope) → IsBefore n o → is_last n o ≡ false
not_last n None before = refl
not_last n (Some l) before = other_number l.number n before

module _ (place : Reading → Option Placed) where
  -- the readings of a family that have points and are of a scope
  abbrev pub own_of : Scope → Family → List Reading
  own_of s f = filter (is_in_scope s) (filter (has_point place) f.readings)

  -- the families of a scope
  abbrev pub own_families : Scope → List Family → List Family
  own_families s fs = flat_map (λ (f : Family). some_family f (own_of s f)) fs

  abbrev item : ℕ → Family → Reading → Item
  item n f r = of_reading n f r (place r)

  -- ---- the readings of one family

  -- a scope whose last family has this number
  abbrev reached : ℕ → Family → Scope → List Family → List Reading → List (Option Placed) → List Marker → OfScope
  reached n f s fs gs ps ms = record { scope = s; families = fs; last = Some (record { number = n; family = family_holding f gs }); places = ps; markers = ms }

  more_readings : (n : ℕ) (f : Family) (rs gs : List Reading) (s : Scope) (fs : List Family) (ps : List (Option Placed)) (ms : List Marker)
      → fold item_behind (reached n f s fs gs ps ms) (map (item n f) rs) ≡ reached n f s fs (gs ++ rs) (ps ++ map place rs) ms
  unfolding part_with_last reading_behind
  more_readings n f [] gs s fs ps ms = λ i. reached n f s fs (sym (append-nil gs) i) (sym (append-nil ps) i) ms
  more_readings n f (r ∷ rs) gs s fs ps ms =
      ap (λ b. fold item_behind (reading_behind r (place r) (if b then reached n f s fs gs ps ms else part_started n f (reached n f s fs gs ps ms))) (map (item n f) rs)) (same_number n)
      ∙ more_readings n f rs (gs ++ r ∷ []) s fs (ps ++ place r ∷ []) ms
      ∙ (λ i. reached n f s fs (append_assoc gs (r ∷ []) rs i) (append_assoc ps (place r ∷ []) (map place rs) i) ms)

  first_reading : (n : ℕ) (f : Family) (r : Reading) (q : OfScope) → IsBefore n q.last
      → item_behind q (item n f r) ≡ reached n f q.scope (all_families q) (r ∷ []) (q.places ++ place r ∷ []) q.markers
  unfolding part_with_last reading_behind
  first_reading n f r q before = ap (λ b. reading_behind r (place r) (if b then q else part_started n f q)) (not_last n q.last before)

  all_readings_behind : (n : ℕ) (f : Family) (r : Reading) (rs : List Reading) (q : OfScope) → IsBefore n q.last
      → fold item_behind q (map (item n f) (r ∷ rs)) ≡ reached n f q.scope (all_families q) (r ∷ rs) ((q.places ++ place r ∷ []) ++ map place rs) q.markers
  all_readings_behind n f r rs q before = ap (λ p. fold item_behind p (map (item n f) rs)) (first_reading n f r q before)
      ∙ more_readings n f rs (r ∷ []) q.scope (all_families q) (q.places ++ place r ∷ []) q.markers

  -- these families and readings more
  record IsMore (old new : OfScope) (fs : List Family) (rs : List Reading) : Type 0 where
    scope_is : new.scope ≡ old.scope
    families_are : all_families new ≡ all_families old ++ fs
    places_are : new.places ≡ old.places ++ map place rs
    markers_are : new.markers ≡ old.markers

  family_more : (n : ℕ) (f : Family) (rs : List Reading) (q : OfScope) → IsBefore n q.last → IsMore q (fold item_behind q (map (item n f) rs)) (some_family f rs) rs
  family_more n f [] q before = record { scope_is = refl; families_are = sym (append-nil (all_families q)); places_are = sym (append-nil q.places); markers_are = refl }
  family_more n f (r ∷ rs) q before =
      let all = all_readings_behind n f r rs q before in
      record {
        scope_is = ap (λ (p : OfScope). p.scope) all;
        families_are = ap (λ (p : OfScope). all_families p) all;
        places_are = ap (λ (p : OfScope). p.places) all ∙ append_assoc q.places (place r ∷ []) (map place rs);
        markers_are = ap (λ (p : OfScope). p.markers) all;
      }

  later : (n : ℕ) (o : Option LastOfScope) → IsBefore n o → IsBefore (suc n) o
  later n None before = tt
  later n (Some l) before = omega (arith, before)

  family_passed : (n : ℕ) (f : Family) (rs : List Reading) (q : OfScope) → IsBefore n q.last → IsBefore (suc n) (fold item_behind q (map (item n f) rs)).last
  family_passed n f [] q before = later n q.last before
  family_passed n f (r ∷ rs) q before =
      let least : n < suc n = omega arith in
      subst (λ (p : OfScope). IsBefore (suc n) p.last) (sym (all_readings_behind n f r rs q before)) least

  -- ---- the readings of a page

  items_of_scope : (n : ℕ) (f : Family) (s : Scope) (rs : List Reading) → filter (is_of s) (map (item n f) rs) ≡ map (item n f) (filter (is_in_scope s) rs)
  items_of_scope n f s [] = refl
  items_of_scope n f s (r ∷ rs) = by (is_in_scope s r) (items_of_scope n f s rs)
    where
      by : (b : Bool) → filter (is_of s) (map (item n f) rs) ≡ map (item n f) (filter (is_in_scope s) rs)
          → cond b (item n f r ∷ filter (is_of s) (map (item n f) rs)) (filter (is_of s) (map (item n f) rs)) ≡ map (item n f) (cond b (r ∷ filter (is_in_scope s) rs) (filter (is_in_scope s) rs))
      by true ih = ap (λ l. item n f r ∷ l) ih
      by false ih = ih

  page_more : (fs : List Family) (n : ℕ) (s : Scope) (q : OfScope) → IsBefore n q.last
      → IsMore q (fold item_behind q (filter (is_of s) (all_placed_items place n fs))) (own_families s fs) (flat_map (own_of s) fs)
  page_more [] n s q before = record { scope_is = refl; families_are = sym (append-nil (all_families q)); places_are = sym (append-nil q.places); markers_are = refl }
  page_more (f ∷ fs) n s q before =
      let first = family_more n f (own_of s f) q before in
      let rest = page_more fs (suc n) s (fold item_behind q (map (item n f) (own_of s f))) (family_passed n f (own_of s f) q before) in
      let both : fold item_behind q (filter (is_of s) (all_placed_items place n (f ∷ fs))) ≡ fold item_behind (fold item_behind q (map (item n f) (own_of s f))) (filter (is_of s) (all_placed_items place (suc n) fs)) =
      ap (fold item_behind q) (filter-append (is_of s) (placed_items place n f) (all_placed_items place (suc n) fs)
      ∙ ap (λ l. l ++ filter (is_of s) (all_placed_items place (suc n) fs)) (items_of_scope n f s (filter (has_point place) f.readings)))
      ∙ fold-append item_behind q (map (item n f) (own_of s f)) (filter (is_of s) (all_placed_items place (suc n) fs)) in
      subst (λ (p : OfScope). IsMore q p (own_families s (f ∷ fs)) (flat_map (own_of s) (f ∷ fs))) (sym both) (record {
        scope_is = rest.scope_is ∙ first.scope_is;
        families_are = rest.families_are ∙ ap (λ l. l ++ own_families s fs) first.families_are ∙ append_assoc (all_families q) (some_family f (own_of s f)) (own_families s fs);
        places_are = rest.places_are ∙ ap (λ l. l ++ map place (flat_map (own_of s) fs)) first.places_are
            ∙ append_assoc q.places (map place (own_of s f)) (map place (flat_map (own_of s) fs))
            ∙ ap (λ l. q.places ++ l) (sym (map-append place (own_of s f) (flat_map (own_of s) fs)));
        markers_are = rest.markers_are ∙ first.markers_are;
      })

  -- ---- the markers

  markers_behind : (ms : List Marker) (q : OfScope)
      → fold item_behind q (map of_marker ms) ≡ record { scope = q.scope; families = q.families; last = q.last; places = q.places; markers = q.markers ++ ms }
  unfolding marker_behind
  markers_behind [] q = λ i. record { scope = q.scope; families = q.families; last = q.last; places = q.places; markers = sym (append-nil q.markers) i }
  markers_behind (m ∷ ms) q = markers_behind ms (marker_behind m q)
      ∙ (λ i. record { scope = q.scope; families = q.families; last = q.last; places = q.places; markers = append_assoc q.markers (m ∷ []) ms i })

  markers_of_scope : (s : Scope) (ms : List Marker) → filter (is_of s) (map of_marker ms) ≡ map of_marker (filter (is_marked_in s) ms)
  markers_of_scope s [] = refl
  markers_of_scope s (m ∷ ms) = by (is_marked_in s m) (markers_of_scope s ms)
    where
      by : (b : Bool) → filter (is_of s) (map of_marker ms) ≡ map of_marker (filter (is_marked_in s) ms)
          → cond b (of_marker m ∷ filter (is_of s) (map of_marker ms)) (filter (is_of s) (map of_marker ms)) ≡ map of_marker (cond b (m ∷ filter (is_marked_in s) ms) (filter (is_marked_in s) ms))
      by true ih = ap (λ l. of_marker m ∷ l) ih
      by false ih = ih

  -- ---- all of it

  readings_of_some : (f : Family) (rs : List Reading) (more : List Reading) → flat_map (λ (g : Family). g.readings) (some_family f rs) ++ more ≡ rs ++ more
  readings_of_some f [] more = refl
  readings_of_some f (r ∷ rs) more = ap (λ l. l ++ more) (append-nil (r ∷ rs))

  own_readings : (s : Scope) (fs : List Family) → family_readings (own_families s fs) ≡ flat_map (own_of s) fs
  own_readings s [] = refl
  own_readings s (f ∷ fs) = flat_map-append (λ (g : Family). g.readings) (some_family f (own_of s f)) (own_families s fs)
      ∙ readings_of_some f (own_of s f) (family_readings (own_families s fs)) ∙ ap (λ l. own_of s f ++ l) (own_readings s fs)

  -- what is of a scope among the readings of a page and markers
  pub record IsPartOf (fs : List Family) (ms : List Marker) (s : Scope) (q : OfScope) : Type 0 where
    pub scope_is : q.scope ≡ s
    pub families_are : all_families q ≡ own_families s fs
    pub places_are : HasOwnPlaces place q
    pub markers_are : q.markers ≡ filter (is_marked_in s) ms

  pub part_is : (fs : List Family) (ms : List Marker) (s : Scope) → IsPartOf fs ms s (items_in_scope (all_placed_items place 0 fs ++ map of_marker ms) s)
  unfolding items_in_scope
  part_is fs ms s =
      let q : OfScope = fold item_behind (no_series s) (filter (is_of s) (all_placed_items place 0 fs)) in
      let page : IsMore (no_series s) q (own_families s fs) (flat_map (own_of s) fs) = page_more fs 0 s (no_series s) tt in
      let whole : fold item_behind (no_series s) (filter (is_of s) (all_placed_items place 0 fs ++ map of_marker ms))
      ≡ record { scope = q.scope; families = q.families; last = q.last; places = q.places; markers = q.markers ++ filter (is_marked_in s) ms } =
      ap (fold item_behind (no_series s)) (filter-append (is_of s) (all_placed_items place 0 fs) (map of_marker ms)
      ∙ ap (λ l. filter (is_of s) (all_placed_items place 0 fs) ++ l) (markers_of_scope s ms))
      ∙ fold-append item_behind (no_series s) (filter (is_of s) (all_placed_items place 0 fs)) (map of_marker (filter (is_marked_in s) ms))
      ∙ markers_behind (filter (is_marked_in s) ms) q in
      subst (λ (p : OfScope). IsPartOf fs ms s p) (sym whole) (record {
        scope_is = page.scope_is;
        families_are = page.families_are;
        places_are = page.places_are ∙ ap (map place) (sym (own_readings s fs) ∙ sym (ap family_readings page.families_are));
        markers_are = ap (λ l. l ++ filter (is_marked_in s) ms) page.markers_are;
      })
