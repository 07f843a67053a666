-- How the visits of targets ended.
-- The bridge's own.
use Rattle.std.specs.Prelude.{Bool, List}
use Rattle.std.specs.List.{list_any}
use Rattle.series_table.specs.Records.{Kept}
use Rattle.run_report.specs.declared.target_end.TargetEnd.{TargetEnd}

-- how the target of a track ended, as its visits stand
abbrev pub track_end : Kept → TargetEnd
track_end k = record { job = k.followed.target.job; instance = k.followed.target.instance; counts = k.counts; halted = k.halted }

-- some target was halted
abbrev pub some_halted : List TargetEnd → Bool
some_halted ends = list_any (λ (e : TargetEnd). e.halted) ends
