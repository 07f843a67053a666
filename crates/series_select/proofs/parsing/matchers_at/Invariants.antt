use Rattle.std.proofs.Common.{◌≡◌, ◌-◌, ◌≤◌, length}
use Rattle.series_select.specs.SelectorReading.{matchers_at}
use Rattle.series_select.specs.SelectorSteps.{behind_matchers}
use Rattle.series_select.proofs.parsing.matchers_at.Given as goal

-- what is left gives behind the matchers so far what all gives
abbrev pub invariant-loop : goal.invariant-loop
invariant-loop l = record {
  within : l.counter ≤ length l.bytes;
  value : behind_matchers l.initial.matchers.items (matchers_at (length l.bytes) l.bytes) ≡ behind_matchers l.matchers.items (matchers_at (length l.bytes - l.counter) l.rest);
}
