use Rattle.std.proofs.Common.{refl, sym, ◌∙◌}
use Rattle.openmetrics_grammar.proofs.DescriptorSteps.{descriptor-type, descriptor-help, descriptor-unit, descriptor-eof, descriptor-none}
use Rattle.openmetrics_grammar.proofs.descriptors.descriptor_line.Goals as goal

pub returns-in-Some : goal.returns-in-Some
returns-in-Some c = λ t. rw (descriptor-type c.args.line.now c.in-Some.rest.now c.in-Some.ensures.value) (c.type_line.ensures t)

pub returns-in-Some-behind_text : goal.returns-in-Some-behind_text
returns-in-Some-behind_text c = λ t. rw (descriptor-help c.args.line.now c.in-Some-behind_text.rest.now c.in-Some-behind_text.ensures.value) (c.help_line.ensures t)

pub returns-in-Some-behind_text-2 : goal.returns-in-Some-behind_text-2
returns-in-Some-behind_text-2 c = λ t. rw (descriptor-unit c.args.line.now c.in-Some-behind_text-2.rest.now c.in-Some-behind_text-2.ensures.value) (c.unit_line.ensures t)

pub returns-then-is_word : goal.returns-then-is_word
returns-then-is_word c = λ t. rw (descriptor-eof c.args.line.now c.in_default.ensures.value c.in_default-behind_text.ensures.value c.in_default-behind_text-2.ensures.value (sym c.is_word.ensures ∙ c.if-is_word.true)) (refl, refl)

pub returns : goal.returns
returns c = λ t. rw (descriptor-none c.args.line.now c.in_default.ensures.value c.in_default-behind_text.ensures.value c.in_default-behind_text-2.ensures.value (sym c.is_word.ensures ∙ c.if-is_word.false)) refl
