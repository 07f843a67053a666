-- The sums of a report, one target after the other.
use Rattle.std.proofs.Common.{◌≡◌, ℕ, suc, ◌+◌, ◌<◌, List, [], ◌∷◌, ◌++◌, length, take, get_or, ap, arith}
use Rattle.std.specs.List.{sum_by}
use Rattle.std.proofs.lemmas.List.{append-nil, append_assoc, take_more, length-take-le}
use Rattle.std.proofs.lemmas.List.Sums.{sum_by-append}
use Rattle.run_report.specs.declared.numbers.Numbers.{Numbers}
use Rattle.run_report.specs.declared.target_end.TargetEnd.{TargetEnd}
use Rattle.run_report.specs.Reports.{halted_count, numbers_of, sums_of, target_line, target_lines}
use Rattle.run_report.specs.Sums.{added, AreOfTargets}

-- one target more is added
one_more : (f : TargetEnd → ℕ) (es : List TargetEnd) (e : TargetEnd) → sum_by f (es ++ e ∷ []) ≡ sum_by f es + f e
one_more f es e = omega (arith, sum_by-append f es (e ∷ []))

pub sums_more : (es : List TargetEnd) (e : TargetEnd) → sums_of (es ++ e ∷ []) ≡ added (sums_of es) (numbers_of e)
unfolding sums_of added numbers_of
sums_more es e =
    cc (
      one_more (λ (e : TargetEnd). e.counts.visits) es e,
      one_more (λ (e : TargetEnd). e.counts.failed) es e,
      one_more (λ (e : TargetEnd). e.counts.points) es e,
      one_more (λ (e : TargetEnd). e.counts.markers) es e,
      one_more (λ (e : TargetEnd). e.counts.accepted) es e,
      one_more (λ (e : TargetEnd). e.counts.refused) es e,
      one_more (λ (e : TargetEnd). e.counts.given_up) es e,
      one_more (λ (e : TargetEnd). halted_count e.halted) es e,
    )

pub of_more : (n : ℕ) (a b : Numbers) → AreOfTargets n a → AreOfTargets 1 b → AreOfTargets (n + 1) (added a b)
unfolding added
of_more n a b these one = record {
  visits = omega (arith, these.visits, one.visits);
  failed = omega (arith, these.failed, one.failed);
  points = omega (arith, these.points, one.points);
  markers = omega (arith, these.markers, one.markers);
  accepted = omega (arith, these.accepted, one.accepted);
  refused = omega (arith, these.refused, one.refused);
  given_up = omega (arith, these.given_up, one.given_up);
  halted = omega (arith, these.halted, one.halted);
}

-- the sums once the next target is added
pub sums_next : (es : List TargetEnd) (i : ℕ) (e : TargetEnd) (a b : Numbers) → i < length es → e ≡ get_or es i e → a ≡ sums_of (take i es) → b ≡ numbers_of e → added a b ≡ sums_of (take (i + 1) es)
sums_next es i e a b within is sums one =
    cc (sums, one, sums_more (take i es) e, ap sums_of (take_more es i e within), ap (λ d. sums_of (take i es ++ d ∷ [])) is)

-- the lines once the next target's is there
lines_more : (n : ℕ) (es : List TargetEnd) (e : TargetEnd) → target_lines n (es ++ e ∷ []) ≡ target_lines n es ++ target_line (n + length es) e
lines_more n [] e =
    let same : n + length {A = TargetEnd} [] ≡ n = omega arith in
    cc (append-nil (target_line n e), ap (λ m. target_line m e) same)
lines_more n (x ∷ es) e =
    let same : n + length (x ∷ es) ≡ suc n + length es = omega arith in
    cc (lines_more (suc n) es e, append_assoc (target_line n x) (target_lines (suc n) es) (target_line (suc n + length es) e), ap (λ m. target_line m e) same)

pub lines_next : (es : List TargetEnd) (i number : ℕ) (e : TargetEnd) (before text : List ℕ) → i < length es → e ≡ get_or es i e → number ≡ i + 1 → text ≡ before ++ target_lines 1 (take i es)
    → text ++ target_line number e ≡ before ++ target_lines 1 (take (i + 1) es)
lines_next es i number e before text within is at says =
    let many : length (take i es) ≡ i = length-take-le i es (omega (arith, within)) in
    let same : 1 + length (take i es) ≡ number = omega (arith, many, at) in
    cc (
      says,
      append_assoc before (target_lines 1 (take i es)) (target_line number e),
      lines_more 1 (take i es) e,
      ap (λ m. target_line m e) same,
      ap (target_lines 1) (take_more es i e within),
      ap (λ d. target_lines 1 (take i es ++ d ∷ [])) is,
    )
