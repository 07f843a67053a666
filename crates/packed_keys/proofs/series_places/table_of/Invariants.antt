use Rattle.std.proofs.Common.{take}
use Rattle.packed_keys.specs.Places.{AreBytesOf}
use Rattle.packed_keys.proofs.series_places.table_of.Given as goal

-- the table has the bytes of the keys passed
abbrev pub invariant-loop-key : goal.invariant-loop-key
invariant-loop-key l = AreBytesOf (take l.key-index l.key-items) l.table
