use Rattle.std.proofs.Common.{◌≡◌, filter, map, take}
use Rattle.staleness.specs.declared.marks.Mark.{Mark}
use Rattle.staleness.specs.Marks.{is_unread}
use Rattle.staleness.proofs.marks.unread.Given as goal

-- the keys are those of the marks passed
abbrev pub invariant-loop-mark : goal.invariant-loop-mark
invariant-loop-mark l = record {
  keys : l.keys.items ≡ map (λ (m : Mark). m.key) (filter (is_unread l.initial.others) (take l.mark-index l.fn.marks));
  others : l.others ≡ l.initial.others;
}
