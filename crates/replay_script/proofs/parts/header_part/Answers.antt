use Rattle.std.proofs.Common.{sym, ap, ◌∙◌, bytes_eq}
use Rattle.replay_script.proofs.Fronts.{header_steps}
use Rattle.replay_script.proofs.parts.header_part.Goals as goal

pub returns-in-Some-number : goal.returns-in-Some-number
returns-in-Some-number c = sym (header_steps c.args.first.now c.args.second.now c.in-Some.line _ (ap (bytes_eq c.args.first.now) (sym c.as_slice.ensures) ∙ sym c.eq.ensures ∙ c.if-eq.false) c.in-Some.ensures c.in-Some-number.ensures.only)

pub returns-in-None-number : goal.returns-in-None-number
returns-in-None-number c = sym (header_steps c.args.first.now c.args.second.now c.in-Some.line _ (ap (bytes_eq c.args.first.now) (sym c.as_slice.ensures) ∙ sym c.eq.ensures ∙ c.if-eq.false) c.in-Some.ensures c.in-None-number.ensures.only)
