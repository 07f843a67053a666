use Rattle.std.proofs.Common.{arith}
use Rattle.openmetrics_grammar.proofs.DescriptorSteps.{named-none, named-stuck, named-found}
use Rattle.openmetrics_grammar.proofs.descriptors.named_at.Goals as goal

pub returns-in_default : goal.returns-in_default
returns-in_default c = named-none c.args.bytes.now c.in_default.ensures

pub returns-in_default-behind : goal.returns-in_default-behind
returns-in_default-behind c = named-stuck c.args.bytes.now c.in-Some.name c.in-Some.ensures c.in_default-behind.ensures.value

pub returns : goal.returns
returns c = record {
  found_is = named-found c.args.bytes.now c.in-Some.name c.in-Some.ensures c.in-Some-behind.rest.now c.in-Some-behind.ensures.value;
  utf8_front = c.in-Some.ensures.utf8_front;
  utf8_rest = λ u. c.in-Some-behind.ensures.utf8 (omega arith) (c.in-Some.ensures.utf8_rest u);
}
