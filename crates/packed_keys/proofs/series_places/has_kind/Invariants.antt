use Rattle.std.proofs.Common.{take}
use Rattle.packed_keys.specs.Places.{AreNotOfKind}
use Rattle.packed_keys.proofs.series_places.has_kind.Given as goal

-- none of the keys passed is of the kind
abbrev pub invariant-loop-key : goal.invariant-loop-key
invariant-loop-key l = AreNotOfKind (take l.key-index l.key-items) l.kind
