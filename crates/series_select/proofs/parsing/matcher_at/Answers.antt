use Rattle.std.proofs.Common.{sym, ◌∙◌}
use Rattle.std.proofs.lemmas.Str.{IsUtf8-from_is_utf8}
use Rattle.series_select.proofs.MatcherSteps.{matcher-no_name, matcher-no_sign, matcher-no_opening, matcher-no_end, matcher-no_text, matcher-found}
use Rattle.series_select.proofs.parsing.matcher_at.Goals as goal

pub returns-in_default : goal.returns-in_default
returns-in_default c = matcher-no_name c.args.bytes.now c.in_default.ensures

pub returns-in_default-sign_at : goal.returns-in_default-sign_at
returns-in_default-sign_at c = matcher-no_sign c.args.bytes.now c.in-Some.name c.in-Some.ensures c.without_leading_blanks.result.now c.without_leading_blanks.ensures c.in_default-sign_at.ensures

pub returns-in_default-behind : goal.returns-in_default-behind
returns-in_default-behind c =
    matcher-no_opening c.args.bytes.now c.in-Some.name c.in-Some.ensures c.without_leading_blanks.result.now c.without_leading_blanks.ensures
    c.in-Some-sign_at.sign.differs c.in-Some-sign_at.sign.rest.now c.without_leading_blanks-2.result.now c.in-Some-sign_at.ensures c.without_leading_blanks-2.ensures c.in_default-behind.ensures.value

pub returns-in_default-quoted_at : goal.returns-in_default-quoted_at
returns-in_default-quoted_at c =
    matcher-no_end c.args.bytes.now c.in-Some.name c.in-Some.ensures c.without_leading_blanks.result.now c.without_leading_blanks.ensures
    c.in-Some-sign_at.sign.differs c.in-Some-sign_at.sign.rest.now c.without_leading_blanks-2.result.now c.in-Some-sign_at.ensures c.without_leading_blanks-2.ensures
    c.in-Some-behind.opened.now c.in-Some-behind.ensures.value c.in_default-quoted_at.ensures.value

pub returns-then-not-is_text : goal.returns-then-not-is_text
returns-then-not-is_text c =
    matcher-no_text c.args.bytes.now c.in-Some.name c.in-Some.ensures c.without_leading_blanks.result.now c.without_leading_blanks.ensures
    c.in-Some-sign_at.sign.differs c.in-Some-sign_at.sign.rest.now c.without_leading_blanks-2.result.now c.in-Some-sign_at.ensures c.without_leading_blanks-2.ensures
    c.in-Some-behind.opened.now c.in-Some-behind.ensures.value c.in-Some-quoted_at.quoted.written.now c.in-Some-quoted_at.quoted.rest.now c.in-Some-quoted_at.ensures.value
    (sym c.is_text.ensures ∙ c.if-not-is_text.true)

pub returns : goal.returns
returns c =
    let text = sym c.is_text.ensures ∙ c.if-not-is_text.false in
    record {
      matcher = matcher-found c.args.bytes.now c.in-Some.name c.in-Some.ensures c.without_leading_blanks.result.now c.without_leading_blanks.ensures
          c.in-Some-sign_at.sign.differs c.in-Some-sign_at.sign.rest.now c.without_leading_blanks-2.result.now c.in-Some-sign_at.ensures c.without_leading_blanks-2.ensures
          c.in-Some-behind.opened.now c.in-Some-behind.ensures.value c.in-Some-quoted_at.quoted.written.now c.in-Some-quoted_at.quoted.rest.now c.in-Some-quoted_at.ensures.value
          c.without_leading_blanks-3.result.now text c.without_leading_blanks-3.ensures;
      backslash = c.in-Some-quoted_at.ensures.backslash;
      utf8_name = c.in-Some.ensures.utf8_front;
      utf8_written = IsUtf8-from_is_utf8 c.in-Some-quoted_at.quoted.written.now text;
    }
