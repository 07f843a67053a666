use Rattle.std.proofs.Common.{sym, ◌∙◌, refl}
use Rattle.std.specs.Option.{option_copied}
use Rattle.series_select.proofs.MatcherSteps.{rest-nothing, rest-no_brace, rest-broken, rest-read}
use Rattle.series_select.proofs.parsing.read_rest.Goals as goal

pub returns-then-is_empty : goal.returns-then-is_empty
returns-then-is_empty c = rest-nothing c.args.bytes.now c.args.matchers.now.items (sym c.is_empty.ensures ∙ c.if-is_empty.true) c.requires

pub returns-in_default : goal.returns-in_default
returns-in_default c = rest-no_brace c.args.bytes.now c.args.matchers.now.items (sym c.is_empty.ensures ∙ c.if-is_empty.false) c.in_default.ensures.value

pub returns-in_default-2 : goal.returns-in_default-2
returns-in_default-2 c =
    rest-broken c.args.bytes.now c.matchers_at.new.matchers.items c.args.matchers.now.items c.in-Some.inner.now (sym c.is_empty.ensures ∙ c.if-is_empty.false) c.in-Some.ensures.value c.requires
    (option_copied c.in_ok-rest.field-0) c.in_ok-rest.ensures (rw c.in_default-2.is refl)

pub returns : goal.returns
returns c =
    rest-read c.args.bytes.now c.matchers_at.new.matchers.items c.args.matchers.now.items c.in-Some.inner.now (sym c.is_empty.ensures ∙ c.if-is_empty.false) c.in-Some.ensures.value c.requires
    (option_copied c.in_ok-rest.field-0) c.in_ok-rest.ensures c.in-Some-2.rest.now c.without_leading_blanks.result.now c.is_empty-2.result (rw c.in-Some-2.is refl) c.without_leading_blanks.ensures c.is_empty-2.ensures
