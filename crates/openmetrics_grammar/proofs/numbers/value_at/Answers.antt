use Rattle.std.proofs.Common.{ap}
use Rattle.exact_decimal.specs.Tokens.{is_number_token}
use Rattle.openmetrics_grammar.specs.declared.numbers.TokenRead.{TokenRead}
use Rattle.openmetrics_grammar.proofs.TokenSteps.{value-no_token, value-no_number, value-found, said}
use Rattle.openmetrics_grammar.proofs.numbers.value_at.Goals as goal

pub returns-in_default : goal.returns-in_default
returns-in_default c = value-no_token c.args.bytes.now c.in_default.ensures.value

pub returns-in_default-number_token : goal.returns-in_default-number_token
returns-in_default-number_token c = value-no_number c.args.bytes.now c.in-Some.token.front.now c.in-Some.token.rest.now c.in-Some.ensures.value c.in_default-number_token.ensures

pub returns : goal.returns
returns c =
    let is = said (is_number_token c.in-Some.token.front.now) c.in-Some.token.front.now c.in-Some-number_token.read c.in-Some-number_token.ensures in
    record {
      token = c.in-Some.token.front.now;
      found = value-found c.args.bytes.now c.in-Some.token.front.now c.in-Some.token.rest.now c.in-Some.ensures.value c.in-Some-number_token.read c.in-Some-number_token.ensures;
      value = ap (λ (x : TokenRead). x.number) is;
      in_range = ap (λ (x : TokenRead). x.in_range) is;
      utf8_rest = λ u. c.in-Some.ensures.utf8 u;
    }
