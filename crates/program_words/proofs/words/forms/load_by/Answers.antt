use Rattle.std.proofs.Common.{arith}
use Rattle.program_words.proofs.WordLaws.{load_is, no_load, not_a_load}
use Rattle.program_words.proofs.words.forms.load_by.Goals as goal

pub returns-in-None-clause-none : goal.returns-in-None-clause-none
returns-in-None-clause-none c = no_load _ _ _ (λ n t r is a b d. c.in-None.ensures.none n is.small a)

pub returns-in-None-load_number-clause-none : goal.returns-in-None-load_number-clause-none
returns-in-None-load_number-clause-none c = no_load _ _ _ (λ n t r is a b d. c.in-None-load_number.ensures.none t (omega (arith, is.few_targets)) b)

pub returns-in-None-load_number-2-clause-none : goal.returns-in-None-load_number-2-clause-none
returns-in-None-load_number-2-clause-none c = no_load _ _ _ (λ n t r is a b d. c.in-None-load_number-2.ensures.none r (omega (arith, is.few_rounds)) d)

pub returns-then-not-is_load-clause-none : goal.returns-then-not-is_load-clause-none
returns-then-not-is_load-clause-none c = not_a_load _ _ _ _ _ _ _ c.in-Some.ensures.found c.in-Some-load_number.ensures.found c.in-Some-load_number-2.ensures.found c.is_load.ensures.only c.if-not-is_load.true

pub returns-clause-found : goal.returns-clause-found
returns-clause-found c = load_is _ _ _ _ _ _ c.in-Some.ensures.found.0 c.in-Some-load_number.ensures.found.0 c.in-Some-load_number-2.ensures.found.0 (c.is_load.ensures.right c.if-not-is_load.false)
