use Rattle.std.proofs.Common.{◌≡◌, ◌-◌, ◌≤◌, length}
use Rattle.series_select.specs.SelectorSteps.{behind_list}
use Rattle.series_select.proofs.telling.behind_list.Given as goal

-- what is left ends where all does
abbrev pub invariant-loop : goal.invariant-loop
invariant-loop l = record {
  within : l.counter ≤ length l.bytes;
  end : behind_list (length l.bytes) l.bytes ≡ behind_list (length l.bytes - l.counter) l.rest;
}
