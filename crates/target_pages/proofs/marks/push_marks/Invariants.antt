use Rattle.std.proofs.Common.{◌≡◌, ◌++◌, take}
use Rattle.target_pages.specs.SeriesPages.{marks_where}
use Rattle.target_pages.proofs.marks.push_marks.Given as goal

-- the marks of the readings passed stand behind those that were there
abbrev pub invariant-loop-reading : goal.invariant-loop-reading
invariant-loop-reading l = l.marks.items ≡ l.initial.marks.items ++ marks_where l.honor (take l.reading-index l.readings)
