use Rattle.std.proofs.Common.{◌∙◌, sym, ap}
use Rattle.sample_groups.specs.Parts.{is_grouped}
use Rattle.family_rules.proofs.Plain.{told_value, told_none, told_some, told_refused}
use Rattle.family_rules.proofs.sample_values.part_or_rule.Goals as goal

pub returns-then-is_bad_plain_value : goal.returns-then-is_bad_plain_value
returns-then-is_bad_plain_value c = λ st format named. told_value st c.args.kind c.args.family.now c.args.sample.now named (ap (λ f. is_grouped f c.args.kind) format ∙ sym c.is_grouped.ensures ∙ c.if-not-is_grouped.true) (sym c.is_bad_plain_value.ensures ∙ c.if-is_bad_plain_value.true)

pub returns-then-not-is_grouped : goal.returns-then-not-is_grouped
returns-then-not-is_grouped c = λ st format named. told_none st c.args.kind c.args.family.now c.args.sample.now named (ap (λ f. is_grouped f c.args.kind) format ∙ sym c.is_grouped.ensures ∙ c.if-not-is_grouped.true) (sym c.is_bad_plain_value.ensures ∙ c.if-is_bad_plain_value.false)

pub returns-in-Ok : goal.returns-in-Ok
returns-in-Ok c = λ st format named. told_some st c.args.kind c.args.family.now c.args.sample.now named c.in-Ok.part (ap (λ f. is_grouped f c.args.kind) format ∙ sym c.is_grouped.ensures ∙ c.if-not-is_grouped.false) (c.in-Ok.ensures st (ap (λ f. is_grouped f c.args.kind) format ∙ sym c.is_grouped.ensures ∙ c.if-not-is_grouped.false) named)

pub returns-in-Err : goal.returns-in-Err
returns-in-Err c = λ st format named. told_refused st c.args.kind c.args.family.now c.args.sample.now named c.in-Err.rule (c.in-Err.ensures st (ap (λ f. is_grouped f c.args.kind) format ∙ sym c.is_grouped.ensures ∙ c.if-not-is_grouped.false) named)
