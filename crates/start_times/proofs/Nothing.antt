-- A tracker without rows stands for no scrapes, and without counts none falls.
use Rattle.std.proofs.Common.{◌≡◌, ℕ, Bool, true, false, List, [], ◌∷◌, None, refl, sym}
use Rattle.std.specs.List.{IsDistinct}
use Rattle.label_sets.specs.declared.series_key.SeriesKey.{SeriesKey}
use Rattle.start_times.specs.Starts.{Tracking, has_points, some_falls}
use Rattle.start_times.specs.Rows.{Tracks, kept_row}

-- without scrapes no row is kept
nothing_kept : (t : Tracking) (key : SeriesKey) → kept_row t key [] ≡ None
unfolding kept_row
nothing_kept t key = go (has_points key.kind) refl
  where
    go : (b : Bool) → has_points key.kind ≡ b → kept_row t key [] ≡ None
    go true p = rw p refl
    go false p = rw p refl

pub nothing_tracks : (keep : ℕ) (honor : Bool) → Tracks (record { keep = keep; honor = honor }) (record { keep = keep; honor = honor; rows = [] }) []
unfolding IsDistinct
nothing_tracks keep honor = record { keep = refl; honor = refl; rows = λ key. sym (nothing_kept (record { keep = keep; honor = honor }) key); once = tt }

-- without counts now none falls
pub nothing_falls : (olds : List ℕ) → some_falls olds [] ≡ false
nothing_falls [] = refl
nothing_falls (old ∷ olds) = refl
