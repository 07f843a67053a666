-- A track whose second page was moved out.
-- The bridge's own.
use Rattle.std.specs.Prelude.{None}
use Rattle.series_table.specs.Records.{Kept}

-- a track without its second page
abbrev pub without_second : Kept → Kept
without_second k = record k { second = None }
