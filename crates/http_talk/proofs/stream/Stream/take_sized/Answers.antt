-- A body of a length.
use Rattle.std.proofs.Common.{◌≡◌, ◌<◌, ◌∙◌, sym, ap, subst, Ok}
use Rattle.http_talk.specs.declared.part.Part.TheVariants.{Sized}
use Rattle.http_talk.specs.Streams.{StepsOver, IsSoundPart}
use Rattle.http_talk.proofs.StreamSteps.{takes_from, sized_all_at, sized_some_at}
use Rattle.http_talk.proofs.stream.Stream.take_sized.Goals as goal
use Rattle.http_talk.proofs.stream.Stream.take_sized.Goals.{then-count-missing, else-count-missing}

pub returns : goal.returns
returns c =
    let inside = c.self.inside in
    let count = c.min-count.result in
    let is : inside.part ≡ Sized c.args.size = ap (λ v. v.part) c.self.view_is ∙ c.requires.part in
    let below : inside.body < c.args.size = subst (λ p. IsSoundPart p inside.most inside.body) is c.self.invariant.0 in
    elim c.if-count-missing.branch [
      | then-count-missing w ↦
          subst (λ s. StepsOver c.args.self.now s c.args.piece.now (Ok c.body_step.result)) (sym w.self-is)
          (takes_from _ _ _ _ _ _ c.self.view_is (ap (λ s. Ok s) c.body_step.ensures)
          (sized_all_at inside.most c.args.size inside.format inside.kept.items inside.body inside.got inside.stopped c.args.piece.now count c.min-count.ensures below inside.part is w.if-count-missing.true))
      | else-count-missing w ↦
          subst (λ s. StepsOver c.args.self.now s c.args.piece.now (Ok c.body_step.result)) (sym w.self-is)
          (takes_from _ _ _ _ _ _ c.self.view_is (ap (λ s. Ok s) c.body_step.ensures)
          (sized_some_at inside.most c.args.size inside.format inside.kept.items inside.body inside.got inside.stopped c.args.piece.now count c.min-count.ensures below inside.part is w.if-count-missing.false))
    ]
