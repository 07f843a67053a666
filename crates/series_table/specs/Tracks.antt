-- The tracks of several targets, in order, each over the wires of its number.
-- The bridge's own.
use Rattle.std.specs.Prelude.{◌≡◌, ℕ, ◌+◌, ◌<◌, true, false, List, [], ◌∷◌, All, ⊤}
use Rattle.series_table.specs.Talking.{Talking, Followed}
use Rattle.series_table.specs.Records.{Kept, IsTrack}

-- a track that is one of the run's target at this place, with its wires at home
pub record IsTrackAt (w : Talking) (f : Followed) (place : ℕ) (k : Kept) : Type 0 where
  pub followed : k.followed ≡ f
  pub scrape_place : k.scrape.place ≡ record { number = place + 1; post = false }
  pub post_place : k.post.place ≡ record { number = place + 1; post = true }
  pub track : IsTrack w k

-- one track of each target, in order, from this place on
abbrev pub AreTracks : Talking → ℕ → List Followed → List Kept → Type 0
AreTracks w place [] [] = ⊤
AreTracks w place (f ∷ fs) (k ∷ ks) = IsTrackAt w f place k × AreTracks w (place + 1) fs ks
AreTracks w place _ _ = ⊥

-- no track was visited or is halted
abbrev pub AreUnvisited : List Kept → Type 0
AreUnvisited tracks = All (λ (k : Kept). (k.counts.visits ≡ 0) × (k.halted ≡ false)) tracks

-- a track that has all its visits, or is halted and has fewer
pub record HasAllVisits (rounds : ℕ) (k : Kept) : Type 0 where
  pub all : k.halted ≡ false → k.counts.visits ≡ rounds
  pub left : k.halted ≡ true → k.counts.visits < rounds
