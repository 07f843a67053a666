use Rattle.std.proofs.Common.{arith}
use Rattle.std.proofs.lemmas.Bool.{leb-true, le-leb}
use Rattle.load_pages.proofs.limits.is_load.Goals as goal

pub returns-then-number-gt-MOST_NUMBER-clause-only : goal.returns-then-number-gt-MOST_NUMBER-clause-only
returns-then-number-gt-MOST_NUMBER-clause-only c = λ is. absurd (omega (arith, is.small, c.if-number-gt-MOST_NUMBER.true))

pub returns-then-targets-eq0-clause-only : goal.returns-then-targets-eq0-clause-only
returns-then-targets-eq0-clause-only c = λ is. absurd (omega (arith, is.some_targets, c.if-targets-eq0.true))

pub returns-then-targets-gt-MOST_LOAD_TARGETS-clause-only : goal.returns-then-targets-gt-MOST_LOAD_TARGETS-clause-only
returns-then-targets-gt-MOST_LOAD_TARGETS-clause-only c = λ is. absurd (omega (arith, is.few_targets, c.if-targets-gt-MOST_LOAD_TARGETS.true))

pub returns-then-rounds-eq0-clause-only : goal.returns-then-rounds-eq0-clause-only
returns-then-rounds-eq0-clause-only c = λ is. absurd (omega (arith, is.some_rounds, c.if-rounds-eq0.true))

pub returns-then-rounds-gt-MOST_ROUNDS-clause-only : goal.returns-then-rounds-gt-MOST_ROUNDS-clause-only
returns-then-rounds-gt-MOST_ROUNDS-clause-only c = λ is. absurd (omega (arith, is.few_rounds, c.if-rounds-gt-MOST_ROUNDS.true))

pub returns-clause-right : goal.returns-clause-right
returns-clause-right c = λ e. record {
  small = omega (arith, c.if-number-gt-MOST_NUMBER.false);
  some_targets = omega (arith, c.if-targets-eq0.false);
  few_targets = omega (arith, c.if-targets-gt-MOST_LOAD_TARGETS.false);
  some_rounds = omega (arith, c.if-rounds-eq0.false);
  few_rounds = omega (arith, c.if-rounds-gt-MOST_ROUNDS.false);
  few_visits = leb-true _ _ e;
}

pub returns-clause-only : goal.returns-clause-only
returns-clause-only c = λ is. le-leb _ _ is.few_visits
