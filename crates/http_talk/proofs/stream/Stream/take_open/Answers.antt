-- A body that goes to the end.
use Rattle.std.proofs.Common.{◌≡◌, ◌≤◌, ◌∙◌, ap, subst, arith, Ok, Err}
use Rattle.http_talk.specs.declared.part.Part.TheVariants.{Open}
use Rattle.http_talk.specs.Streams.{StepsOver, IsSoundPart}
use Rattle.http_talk.proofs.StreamSteps.{takes_from, open_gives_at, open_refuses_at}
use Rattle.http_talk.proofs.stream.Stream.take_open.Goals as goal

pub returns-then-piece-from : goal.returns-then-piece-from
returns-then-piece-from c =
    let inside = c.self.inside in
    let is : inside.part ≡ Open = ap (λ v. v.part) c.self.view_is ∙ c.requires.part in
    let short : inside.body ≤ inside.most = subst (λ p. IsSoundPart p inside.most inside.body) is c.self.invariant.0 in
    let x = open_refuses_at inside.most inside.format inside.kept.items inside.body inside.got inside.stopped c.args.piece.now short inside.part is (omega (arith, c.from.ensures, c.if-piece-from.true)) in
    subst (λ v. StepsOver v v c.args.piece.now (Err _)) c.self.view_is x

pub returns : goal.returns
returns c =
    let inside = c.self.inside in
    let is : inside.part ≡ Open = ap (λ v. v.part) c.self.view_is ∙ c.requires.part in
    let short : inside.body ≤ inside.most = subst (λ p. IsSoundPart p inside.most inside.body) is c.self.invariant.0 in
    takes_from _ _ _ _ _ _ c.self.view_is (ap (λ s. Ok s) c.body_step.ensures)
    (open_gives_at inside.most inside.format inside.kept.items inside.body inside.got inside.stopped c.args.piece.now short inside.part is (omega (arith, c.from.ensures, c.if-piece-from.false)))
