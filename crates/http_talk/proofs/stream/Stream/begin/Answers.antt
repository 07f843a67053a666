-- The head's cause, or how the body begins.
use Rattle.std.proofs.Common.{◌≡◌, ◌∙◌, ap, subst, None}
use Rattle.http_talk.specs.HeadFacts.{IsHeadFault}
use Rattle.http_talk.specs.Heads.{head_cause}
use Rattle.http_talk.proofs.StreamHeads.{begun_so, head_facts_of}
use Rattle.http_talk.proofs.stream.Stream.begin.Goals as goal

pub returns-in-Err-clause-begun : goal.returns-in-Err-clause-begun
returns-in-Err-clause-begun c = λ h at.
    let front = c.as_slice.ensures.value ∙ ap (λ v. v.kept) c.self.view_is in
    let facts = head_facts_of c.of-facts.result c.as_slice.result.now c.args.self.now.kept c.args.spans.now c.args.head h front c.of-facts.ensures at in
    subst (λ m. IsHeadFault m h c.in-Err.fault) (ap (λ v. v.most) c.self.view_is) (c.in-Err.ensures.start h facts at.few at.at.code)

pub returns-clause-begun : goal.returns-clause-begun
returns-clause-begun c = λ h at.
    let front = c.as_slice.ensures.value ∙ ap (λ v. v.kept) c.self.view_is in
    let facts = head_facts_of c.of-facts.result c.as_slice.result.now c.args.self.now.kept c.args.spans.now c.args.head h front c.of-facts.ensures at in
    let x = c.in-Ok.ensures.start h facts at.few at.at.code in
    let most = ap (λ v. v.most) c.self.view_is in
    (subst (λ m. head_cause m h ≡ None) most x.0, x.1, begun_so _ _ _ _ _ _ _ _ _ _ most x.2 c.clear.ensures.items (ap (λ v. v.stopped) c.self.view_is))
