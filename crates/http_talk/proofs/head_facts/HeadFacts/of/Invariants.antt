use Rattle.std.proofs.Common.{◌≡◌, take, map}
use Rattle.httparse.specs.Spans.{header_bytes}
use Rattle.http_talk.specs.HeadFacts.{facts_by}
use Rattle.http_talk.proofs.head_facts.HeadFacts.of.Given as goal

abbrev pub invariant-loop-span : goal.invariant-loop-span
invariant-loop-span l = l.facts ≡ facts_by (map (header_bytes l.bytes) (take l.span-index l.spans))
