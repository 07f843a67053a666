-- What the line at the front of the rest says, the head says.
use Rattle.std.proofs.Common.{rules, inl, inr}
use Rattle.httparse.specs.Grammar.{HasNoSection, NeverHasSection, MayBecomeSection}
use Rattle.httparse.specs.Outcome.{IsCompleteAnd}
use Rattle.httparse.specs.Spans.{IsSectionOf, SectionExceeds}
use Rattle.http_talk.proofs.LineByLine.{begun, one_more, not_yet, never, may, ended}
use Rattle.http_talk.proofs.long_head.parse_long_head.Goals as goal

pub lines-init : goal.lines-init
lines-init c = rw (c.behind_line-rest.ensures, c.behind_blanks.ensures) (begun c.args.bytes.now 64 c.requires.there)

pub lines-preserved : goal.lines-preserved
lines-preserved c =
    let field : SectionExceeds 0 c.lines.rest.now = search rules in
    rw c.behind_line-rest-in-Err-TooManyHeaders.ensures (one_more c.args.bytes.now c.lines.rest.now c.lines.invariant field).0

pub lines-smaller : goal.lines-smaller
lines-smaller c =
    let field : SectionExceeds 0 c.lines.rest.now = search rules in
    rw c.behind_line-rest-in-Err-TooManyHeaders.ensures (one_more c.args.bytes.now c.lines.rest.now c.lines.invariant field).1

pub returns-in-Ok-Complete : goal.returns-in-Ok-Complete
returns-in-Ok-Complete c =
    let section : IsCompleteAnd c.parse_headers.result (IsSectionOf c.lines.rest.now 0 c.parse_headers.new.headers) = search rules in
    λ spans. inr (ended c.args.bytes.now c.lines.rest.now c.lines.invariant c.requires.many c.parse_headers.new.headers c.parse_headers.result section)

pub returns-in-Ok-Partial : goal.returns-in-Ok-Partial
returns-in-Ok-Partial c =
    let none : HasNoSection c.lines.rest.now = search rules in
    let more : MayBecomeSection c.lines.rest.now = search rules in
    λ spans. (not_yet c.args.bytes.now c.lines.rest.now c.lines.invariant none, may c.args.bytes.now c.lines.rest.now c.lines.invariant more)

pub returns-in-Err : goal.returns-in-Err
returns-in-Err c =
    let none : NeverHasSection c.lines.rest.now = search rules in
    λ spans. inl (never c.args.bytes.now c.lines.rest.now c.lines.invariant none)
