-- The causes in their order.
use Rattle.std.proofs.Common.{◌∙◌, sym}
use Rattle.http_talk.proofs.FactLaws.{cause_status, cause_coding, cause_media, cause_framed, no_cause}
use Rattle.http_talk.proofs.head_facts.HeadFacts.start.Goals as goal

pub returns-then-code-ne200-clause-start : goal.returns-then-code-ne200-clause-start
returns-then-code-ne200-clause-start c = λ h facts few code. cause_status c.args.most h c.args.code few code c.if-code-ne200.true

pub returns-then-is_encoded-clause-start : goal.returns-then-is_encoded-clause-start
returns-then-is_encoded-clause-start c = λ h facts few code. cause_coding c.args.most h c.args.code few code c.if-code-ne200.false (sym (c.is_encoded.ensures h facts) ∙ c.if-is_encoded.true)

pub returns-in_default-clause-start : goal.returns-in_default-clause-start
returns-in_default-clause-start c = λ h facts few code.
    cause_media c.args.most h c.args.code few code c.if-code-ne200.false (sym (c.is_encoded.ensures h facts) ∙ c.if-is_encoded.false) (sym (c.format.ensures _ facts.media) ∙ c.in_default.is)

pub returns-in-Ok-clause-start : goal.returns-in-Ok-clause-start
returns-in-Ok-clause-start c = λ h facts few code.
    let plain = sym (c.is_encoded.ensures h facts) ∙ c.if-is_encoded.false in
    let format = sym (c.format.ensures _ facts.media) ∙ c.in-Some.is in
    let framed = c.in-Ok.ensures.part h facts plain in
    (no_cause c.args.most h c.args.code few code c.if-code-ne200.false plain c.in-Some.format format framed.0 framed.1, format, framed.2)

pub returns-in-Err-clause-start : goal.returns-in-Err-clause-start
returns-in-Err-clause-start c = λ h facts few code.
    let plain = sym (c.is_encoded.ensures h facts) ∙ c.if-is_encoded.false in
    let format = sym (c.format.ensures _ facts.media) ∙ c.in-Some.is in
    cause_framed c.in-Err.fault c.args.most h c.args.code c.in-Some.format few code c.if-code-ne200.false plain format (c.in-Err.ensures.part h facts plain)
