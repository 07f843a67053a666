-- The readings of a page that have points, one family after the other.
use Rattle.std.proofs.Common.{◌≡◌, ℕ, suc, ◌+◌, ◌<◌, ◌≤◌, cond, List, [], ◌∷◌, ◌++◌, map, filter, filter_map, take, drop, length, get_or, Option, Some, None, refl, sym, ap, ◌∙◌, append_assoc, arith}
use Rattle.std.specs.Prelude.{is_some}
use Rattle.std.specs.List.{zip, cons_option}
use Rattle.std.proofs.lemmas.List.{append-nil, length-take-le}
use Rattle.label_sets.specs.Lists.{when_true}
use Rattle.page_model.specs.declared.page.Reading.{Reading}
use Rattle.page_model.specs.declared.page.Family.{Family}
use Rattle.start_times.specs.declared.row.Placed.{Placed}
use Rattle.start_times.specs.declared.row.Placed.TheVariants.{At, Late}
use Rattle.family_metrics.specs.Points.{point_in}
use Rattle.scope_metrics.specs.PageScopes.{has_point}
use Rattle.family_metrics.specs.PlacedMarkers.{family_readings}
use Rattle.scope_metrics.specs.ScopeParts.{OfScope, Item, of_reading, items_by_scope, is_at, placed_item, placed_items, all_placed_items}
use Rattle.family_metrics.proofs.Laws.{one_more, own_places, later_places, next_family}

-- readings beside their places
items_beside : (place : Reading → Option Placed) (n : ℕ) (f : Family) (rs : List Reading)
    → filter_map (placed_item n f) (zip rs (map place rs)) ≡ map (λ (r : Reading). of_reading n f r (place r)) (filter (has_point place) rs)
items_beside place n f [] = refl
items_beside place n f (r ∷ rs) = by (place r) (items_beside place n f rs)
  where
    by : (p : Option Placed) → filter_map (placed_item n f) (zip rs (map place rs)) ≡ map (λ (x : Reading). of_reading n f x (place x)) (filter (has_point place) rs)
        → cons_option (when_true (is_at p) (of_reading n f r (place r))) (filter_map (placed_item n f) (zip rs (map place rs)))
        ≡ map (λ (x : Reading). of_reading n f x (place x)) (cond (is_some (point_in p r)) (r ∷ filter (has_point place) rs) (filter (has_point place) rs))
    by None ih = ih
    by (Some Late) ih = ih
    by (Some (At time start)) ih = ap (λ l. of_reading n f r (place r) ∷ l) ih

-- one family more
page_more : (place : Reading → Option Placed) (fs : List Family) (n m : ℕ) (f : Family) → m ≡ n + length fs → all_placed_items place n (fs ++ f ∷ []) ≡ all_placed_items place n fs ++ placed_items place m f
page_more place [] n m f e = let same : n ≡ m = omega (arith, e) in append-nil (placed_items place n f) ∙ ap (λ k. placed_items place k f) same
page_more place (g ∷ fs) n m f e = let rest : m ≡ suc n + length fs = omega (arith, e) in
    ap (λ l. placed_items place n g ++ l) (page_more place fs (suc n) m f rest) ∙ sym (append_assoc (placed_items place n g) (all_placed_items place (suc n) fs) (placed_items place m f))

-- the readings of one family more are put, and its places passed
pub families_step : (place : Reading → Option Placed) (fs : List Family) (i : ℕ) (f : Family) (old new : List OfScope) (left own rest : List (Option Placed)) (count : ℕ)
    → i < length fs → f ≡ get_or fs i f → (old ≡ items_by_scope (all_placed_items place 0 (take i fs))) × (left ≡ map place (family_readings (drop i fs)))
    → count ≡ length f.readings → own ≡ take count left → rest ≡ drop count left
    → ((items : List Item) → old ≡ items_by_scope items → new ≡ items_by_scope (items ++ filter_map (placed_item i f) (zip f.readings own)))
    → (new ≡ items_by_scope (all_placed_items place 0 (take (i + 1) fs))) × (rest ≡ map place (family_readings (drop (i + 1) fs)))
families_step place fs i f old new left own rest count within read stands many own_is rest_is put =
    let left_are : left ≡ map place (family_readings (f ∷ drop (i + 1) fs)) = stands.1 ∙ ap (λ l. map place (family_readings l)) (next_family fs i f within read) in
    let own_are : own ≡ map place f.readings = own_is ∙ ap (λ n. take n left) many ∙ own_places place f (drop (i + 1) fs) left left_are in
    let so_far : i ≡ 0 + length (take i fs) = let reached : i ≤ length fs = omega (arith, within) in let long : length (take i fs) ≡ i = length-take-le i fs reached in omega (arith, long) in (
      put (all_placed_items place 0 (take i fs)) stands.0
          ∙ ap (λ l. items_by_scope (all_placed_items place 0 (take i fs) ++ l)) (ap (λ ps. filter_map (placed_item i f) (zip f.readings ps)) own_are ∙ items_beside place i f f.readings)
          ∙ ap items_by_scope (sym (ap (all_placed_items place 0) (one_more fs i f within read) ∙ page_more place (take i fs) 0 i f so_far)),
      rest_is ∙ ap (λ n. drop n left) many ∙ later_places place f (drop (i + 1) fs) left left_are,
    )
