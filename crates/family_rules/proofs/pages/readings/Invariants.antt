use Rattle.std.proofs.Common.{◌≡◌, ◌+◌, ◌-◌, ◌≤◌, ◌++◌, drop, vec_len, vec_capacity}
use Rattle.family_rules.specs.Made.{readings_at}
use Rattle.family_rules.proofs.pages.readings.Given as goal

-- the readings so far and those of the samples that are left are all of them
abbrev pub invariant-loop : goal.invariant-loop
invariant-loop l = record {
  readings : l.readings.items ++ readings_at l.kind l.unit (l.count - l.counter) l.samples ≡ readings_at l.kind l.unit l.count l.initial.samples;
  room : vec_len l.readings + (l.count - l.counter) ≤ vec_capacity l.readings;
  rest : drop (l.count - l.counter) l.samples ≡ drop l.count l.initial.samples;
}
