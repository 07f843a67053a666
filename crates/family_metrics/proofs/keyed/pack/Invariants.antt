use Rattle.std.proofs.Common.{◌≡◌, ℕ, [], ◌∷◌, take}
use Rattle.std.specs.List.{flat_map}
use Rattle.family_metrics.proofs.keyed.pack.Given as goal

-- the bytes of the name so far, each behind a 1
abbrev pub invariant-loop-byte : goal.invariant-loop-byte
invariant-loop-byte l = l.room.items ≡ flat_map (λ (b : ℕ). 1 ∷ b ∷ []) (take l.byte-index l.name)
