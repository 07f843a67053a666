-- Each series that is gone has one marker, and no marker has a start after its time.
use Rattle.std.proofs.Common.{◌≡◌, ℕ, suc, ◌≤◌, Bool, true, false, List, [], ◌∷◌, map, filter, length, min, Option, Some, None, option_map, refl, ap, ◌∙◌, arith}
use Rattle.std.specs.Prelude.{IfSome}
use Rattle.label_sets.specs.declared.series_key.SeriesKey.{SeriesKey}
use Rattle.label_sets.specs.Keys.{key_eq}
use Rattle.start_times.specs.Scrapes.{last_page}
use Rattle.start_times.specs.Starts.{start_there}
use Rattle.staleness.specs.Vanished.{times, keys_gone}
use Rattle.staleness.proofs.Laws.{gone_once}
use Rattle.family_metrics.specs.declared.markers.Marker.{Marker}
use Rattle.target_core.specs.Events.{marker_with}
use Rattle.target_core.specs.Laws.{MarkedOnce, MarkerStartIsBefore}

marked : (start : SeriesKey → Option ℕ) (moment : ℕ) (key : SeriesKey) (keys : List SeriesKey) → length (filter (λ (m : Marker). key_eq key m.key) (map (marker_with start moment) keys)) ≡ times key keys
unfolding marker_with
marked start moment key [] = refl
marked start moment key (k ∷ keys) = go (key_eq key k) refl (marked start moment key keys)
  where
    go : (b : Bool) → key_eq key k ≡ b → length (filter (λ (m : Marker). key_eq key m.key) (map (marker_with start moment) keys)) ≡ times key keys
        → length (filter (λ (m : Marker). key_eq key m.key) (map (marker_with start moment) (k ∷ keys))) ≡ times key (k ∷ keys)
    go true h rest = rw h (ap suc rest)
    go false h rest = rw h rest

pub marked_once : MarkedOnce
marked_once t past now key once = marked (start_there t past) now.moment key (keys_gone t (last_page past) now.page) ∙ gone_once t (last_page past) now.page key once

pub marker_start_is_before : MarkerStartIsBefore
unfolding marker_with
marker_start_is_before start moment key = go (start key)
  where
    go : (o : Option ℕ) → IfSome (option_map (min moment) o) (λ since. since ≤ moment)
    go None = tt
    go (Some since) = omega arith
