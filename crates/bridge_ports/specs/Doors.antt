-- Doors: where peers connect to the bridge.
-- The bridge's own.
use Rattle.std.specs.Prelude.{◌≡◌, ℕ, ◌+◌, ◌-◌, ◌^◌, Bool, true, false, ◌==◌, List, [], ◌∷◌, ◌++◌, Option, Some, None, option_map, if◌then◌else◌, ⊤}

-- a door: how many calls failed, the bytes of each connection still to come where that is told, how many connections were handed out, whether one is out, what was written to each that came back, in order, where that is told, and of how many of these a read failed, and a write
pub record DoorState : Type 0 where
  pub faults : ℕ
  pub coming : Option (List (List ℕ))
  pub handed : ℕ
  pub out : Bool
  pub replies : Option (List (List ℕ))
  pub broken_reads : ℕ
  pub broken_writes : ℕ

-- the most connections that one door hands out, which a u32 counts
abbrev pub most_handed : ℕ
most_handed = 2 ^ 32 - 1

-- a door at which these are to come; it tells what is written to them where it tells what is to come
abbrev pub new_door : Option (List (List ℕ)) → DoorState
new_door coming = record { faults = 0; coming = coming; handed = 0; out = false; replies = option_map (λ (all : List (List ℕ)). []) coming; broken_reads = 0; broken_writes = 0 }

-- a count that isn't 0 counts once
abbrev pub broken_count : ℕ → ℕ
broken_count faults = if faults == 0 then 0 else 1

-- these replies and one more, where both are told
abbrev pub with_reply : Option (List ℕ) → Option (List (List ℕ)) → Option (List (List ℕ))
with_reply (Some reply) (Some replies) = Some (replies ++ reply ∷ [])
with_reply (Some reply) None = None
with_reply None replies = None

-- the door once a connection came back to which this was written, with these counts
abbrev pub closed_with : Option (List ℕ) → ℕ → ℕ → DoorState → DoorState
closed_with held read_faults write_faults d = record d {
  out = false;
  replies = with_reply held d.replies;
  broken_reads = d.broken_reads + broken_count read_faults;
  broken_writes = d.broken_writes + broken_count write_faults;
}

-- of those to come, the first one was handed out with its bytes left
abbrev pub IsFirstToCome : Option (List (List ℕ)) → Option (List (List ℕ)) → Option (List ℕ) → Type 0
IsFirstToCome None new left = new ≡ None
IsFirstToCome (Some []) new left = ⊥
IsFirstToCome (Some (bytes ∷ coming)) new left = (new ≡ Some coming) × (left ≡ Some bytes)

-- nothing is held, where that is told
abbrev pub HoldsNothing : Option (List ℕ) → Type 0
HoldsNothing None = ⊤
HoldsNothing (Some held) = held ≡ []

-- a fresh connection was handed out
pub record HandsOut (old new : DoorState) (left held : Option (List ℕ)) (read_faults write_faults : ℕ) : Type 0 where
  pub first : IsFirstToCome old.coming new.coming left
  pub door : new ≡ record old { coming = new.coming; handed = old.handed + 1; out = true }
  pub nothing_held : HoldsNothing held
  pub no_read_faults : read_faults ≡ 0
  pub no_write_faults : write_faults ≡ 0
