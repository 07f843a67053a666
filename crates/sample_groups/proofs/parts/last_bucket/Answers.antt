use Rattle.std.proofs.Common.{◌∙◌, sym}
use Rattle.sample_groups.proofs.Adding.{last_some, last_none}
use Rattle.sample_groups.proofs.parts.last_bucket.Goals as goal

pub returns-then-is_some : goal.returns-then-is_some
returns-then-is_some c = last_some c.loop-last.front.now c.in-Some.before.now c.in-Some.last.now c.bucket-bucket.result c.in-Some.ensures.cases.0 c.bucket-bucket.ensures (sym c.is_some.ensures ∙ c.if-is_some.true) ∙ sym c.loop-last.invariant

pub loop-last-preserved : goal.loop-last-preserved
loop-last-preserved c = c.loop-last.invariant ∙ last_none c.loop-last.front.now c.in-Some.before.now c.in-Some.last.now c.bucket-bucket.result c.in-Some.ensures.cases.0 c.bucket-bucket.ensures (sym c.is_some.ensures ∙ c.if-is_some.false)
