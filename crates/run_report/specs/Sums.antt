-- How the sums of a report are made, and that no sum is too large for its type.
-- The bridge's own.
use Rattle.std.specs.Prelude.{ℕ, ◌+◌, ◌-◌, ◌*◌, ◌^◌, ◌≤◌}
use Rattle.run_report.specs.declared.numbers.Numbers.{Numbers}

-- two numbers of each kind, added up
unfoldable pub added : Numbers → Numbers → Numbers
added a b = record {
  visits = a.visits + b.visits;
  failed = a.failed + b.failed;
  points = a.points + b.points;
  markers = a.markers + b.markers;
  accepted = a.accepted + b.accepted;
  refused = a.refused + b.refused;
  given_up = a.given_up + b.given_up;
  halted = a.halted + b.halted;
}

-- the most that one target counts of a kind
abbrev pub most_of_target : ℕ
most_of_target = 2 ^ 64 - 1

-- each of the numbers is at most that of so many targets
pub record AreOfTargets (targets : ℕ) (n : Numbers) : Type 0 where
  pub visits : n.visits ≤ targets * most_of_target
  pub failed : n.failed ≤ targets * most_of_target
  pub points : n.points ≤ targets * most_of_target
  pub markers : n.markers ≤ targets * most_of_target
  pub accepted : n.accepted ≤ targets * most_of_target
  pub refused : n.refused ≤ targets * most_of_target
  pub given_up : n.given_up ≤ targets * most_of_target
  pub halted : n.halted ≤ targets * most_of_target
