-- The report of a run: a line for each target, a line for all of them, and where pages were served a line for these.
-- The bridge's own.
use Rattle.std.specs.Prelude.{ℕ, suc, Bool, true, false, List, [], ◌∷◌, ◌++◌, codes}
use Rattle.std.specs.List.{sum_by}
use Rattle.std.specs.Fmt.{decimal}
use Rattle.run_report.specs.declared.numbers.Numbers.{Numbers}
use Rattle.run_report.specs.declared.target_end.TargetEnd.{TargetEnd}

-- how many halted targets this one is
abbrev pub halted_count : Bool → ℕ
halted_count true = 1
halted_count false = 0

-- the numbers of a target
unfoldable pub numbers_of : TargetEnd → Numbers
numbers_of e = record {
  visits = e.counts.visits;
  failed = e.counts.failed;
  points = e.counts.points;
  markers = e.counts.markers;
  accepted = e.counts.accepted;
  refused = e.counts.refused;
  given_up = e.counts.given_up;
  halted = halted_count e.halted;
}

-- the sums over targets, and how many of them were halted
unfoldable pub sums_of : List TargetEnd → Numbers
sums_of ends = record {
  visits = sum_by (λ (e : TargetEnd). e.counts.visits) ends;
  failed = sum_by (λ (e : TargetEnd). e.counts.failed) ends;
  points = sum_by (λ (e : TargetEnd). e.counts.points) ends;
  markers = sum_by (λ (e : TargetEnd). e.counts.markers) ends;
  accepted = sum_by (λ (e : TargetEnd). e.counts.accepted) ends;
  refused = sum_by (λ (e : TargetEnd). e.counts.refused) ends;
  given_up = sum_by (λ (e : TargetEnd). e.counts.given_up) ends;
  halted = sum_by (λ (e : TargetEnd). halted_count e.halted) ends;
}

-- a word and a number, each behind a space
unfoldable pub counted : List ℕ → ℕ → List ℕ
counted word n = codes " " ++ word ++ codes " " ++ decimal n

-- what a line says of visits
unfoldable pub visits_text : Numbers → List ℕ
visits_text n = counted (codes "visits") n.visits ++ counted (codes "failed") n.failed ++ counted (codes "points") n.points ++ counted (codes "markers") n.markers

-- what a line says of the bodies that were posted, and of targets that were halted
unfoldable pub bodies_text : Numbers → List ℕ
bodies_text n = counted (codes "accepted") n.accepted ++ counted (codes "refused") n.refused ++ counted (codes "givenup") n.given_up ++ counted (codes "halted") n.halted

-- the numbers of a line, and its end
abbrev pub numbers_text : Numbers → List ℕ
numbers_text n = visits_text n ++ bodies_text n ++ codes "\n"

-- whose line it is: the number of the target, its job and its instance
unfoldable pub target_text : ℕ → TargetEnd → List ℕ
target_text number e = codes "target " ++ decimal number ++ codes " " ++ e.job ++ codes " " ++ e.instance

-- the line of the target of a number
unfoldable pub target_line : ℕ → TargetEnd → List ℕ
target_line number e = target_text number e ++ numbers_text (numbers_of e)

-- the lines of targets, of which the first has this number
abbrev pub target_lines : ℕ → List TargetEnd → List ℕ
target_lines number [] = []
target_lines number (e ∷ ends) = target_line number e ++ target_lines (suc number) ends

-- the line of all targets
unfoldable pub all_line : List TargetEnd → List ℕ
all_line ends = codes "all" ++ numbers_text (sums_of ends)

-- the report of targets
unfoldable pub report_text : List TargetEnd → List ℕ
report_text ends = target_lines 1 ends ++ all_line ends

-- the line of the pages that were served
unfoldable pub served_line : ℕ → List ℕ
served_line served = codes "served " ++ decimal served ++ codes "\n"
