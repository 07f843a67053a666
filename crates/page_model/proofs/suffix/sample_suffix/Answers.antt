use Rattle.std.proofs.Common.{◌∙◌}
use Rattle.page_model.proofs.SampleNames.{suffix_found, suffix_only, no_suffix}
use Rattle.page_model.proofs.suffix.sample_suffix.Goals as goal

pub returns-in-Some-clause-found : goal.returns-in-Some-clause-found
returns-in-Some-clause-found c = suffix_found c.args.family.now c.args.name.now c.in-Some.rest.now c.suffix_named.result
    (rw (c.as_bytes.ensures, c.as_bytes-2.ensures) at c.in-Some.ensures.cases.0) (rw (c.as_bytes.ensures, c.as_bytes-2.ensures) at c.in-Some.ensures.cases.1) c.suffix_named.ensures

pub returns-in-Some-clause-only : goal.returns-in-Some-clause-only
returns-in-Some-clause-only c = λ suffix is. c.suffix_named.ensures ∙ suffix_only c.args.family.now c.args.name.now c.in-Some.rest.now
    (rw (c.as_bytes.ensures, c.as_bytes-2.ensures) at c.in-Some.ensures.cases.0) (rw (c.as_bytes.ensures, c.as_bytes-2.ensures) at c.in-Some.ensures.cases.1) suffix is

pub returns-in-None-clause-only : goal.returns-in-None-clause-only
returns-in-None-clause-only c = no_suffix c.args.family.now c.args.name.now (rw (c.as_bytes.ensures, c.as_bytes-2.ensures) at c.in-None.ensures.cases)
