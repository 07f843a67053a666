use Rattle.std.proofs.Common.{ap, Some}
use Rattle.exact_decimal.specs.Tokens.{is_real}
use Rattle.openmetrics_grammar.specs.declared.numbers.TokenRead.{TokenRead}
use Rattle.openmetrics_grammar.proofs.TokenSteps.{stamp-no_token, stamp-no_real, stamp-written, said}
use Rattle.openmetrics_grammar.proofs.numbers.written_stamp_at.Goals as goal

pub returns-in_default : goal.returns-in_default
returns-in_default c = stamp-no_token c.args.bytes.now c.in_default.ensures.value

pub returns-in_default-real_token : goal.returns-in_default-real_token
returns-in_default-real_token c = stamp-no_real c.args.bytes.now c.in-Some.token.front.now c.in-Some.token.rest.now c.in-Some.ensures.value c.in_default-real_token.ensures

pub returns : goal.returns
returns c =
    let is = said (is_real c.in-Some.token.front.now) c.in-Some.token.front.now c.in-Some-real_token.read c.in-Some-real_token.ensures in
    record {
      token = Some c.in-Some.token.front.now;
      found_is = stamp-written c.args.bytes.now c.in-Some.token.front.now c.in-Some.token.rest.now c.in-Some.ensures.value c.in-Some-real_token.read c.in-Some-real_token.ensures;
      stamp = ap (λ (x : TokenRead). Some x.number) is;
      in_range = ap (λ (x : TokenRead). x.in_range) is;
      utf8_rest = λ u. c.in-Some.ensures.utf8 u;
    }
