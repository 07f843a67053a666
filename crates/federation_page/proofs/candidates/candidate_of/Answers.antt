use Rattle.std.proofs.Common.{◌∙◌, Some, ap, sym}
use Rattle.page_model.specs.declared.page.Family.{Family}
use Rattle.federation_page.proofs.CodeSteps.{candidate_made, free_readings, none_left_out, none_stays}
use Rattle.federation_page.proofs.candidates.candidate_of.Goals as goal

pub returns-then-is_left_out-clause-candidate : goal.returns-then-is_left_out-clause-candidate
returns-then-is_left_out-clause-candidate c = none_left_out c.args.shown.now c.args.family.now (sym c.is_left_out.ensures ∙ c.if-is_left_out.true)

pub returns-in_default-clause-candidate : goal.returns-in_default-clause-candidate
returns-in_default-clause-candidate c = none_stays c.args.shown.now c.args.family.now (sym c.is_left_out.ensures ∙ c.if-is_left_out.false) c.in_default.ensures

pub named_candidate-requires-clause-free : goal.named_candidate-requires-clause-free
named_candidate-requires-clause-free c = free_readings c.requires.formed.0 c.args.family.now c.requires.formed.1

pub returns-clause-candidate : goal.returns-clause-candidate
returns-clause-candidate c =
    ap (λ (f : Family). Some f) c.in_ok-candidate.ensures.candidate
    ∙ candidate_made c.args.shown.now c.requires.formed.0 c.args.family.now c.in-Some.first.now c.in-Some.ensures.0 c.requires.formed.1 (sym c.is_left_out.ensures ∙ c.if-is_left_out.false) c.in-Some.ensures.1
