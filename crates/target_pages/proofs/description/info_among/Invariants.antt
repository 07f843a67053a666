use Rattle.std.proofs.Common.{◌≡◌, drop, find}
use Rattle.target_pages.specs.Stretches.{is_info}
use Rattle.target_pages.proofs.description.info_among.Given as goal

-- the readings that are left decide
abbrev pub invariant-loop-reading : goal.invariant-loop-reading
invariant-loop-reading l = find is_info l.readings ≡ find is_info (drop l.reading-index l.readings)
