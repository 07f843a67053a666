use Rattle.std.proofs.Common.{refl}
use Rattle.page_feeding.specs.PageFeeding.{Fed}
use Rattle.page_feeding.proofs.PageSteps.{LinesStep, takes-step, after}
use Rattle.page_feeding.proofs.reader.PageReader.take_step.Goals as goal

pub returns : goal.returns
returns g c =
    let old : Fed = record { treatment = c.self.inside.treatment; lines = c.self.inside.lines; checker = c.self.inside.checker; stopped = c.self.inside.stopped } in
    let mid : Fed = record { treatment = c.self.inside.treatment; lines = c.feed-step.new.self; checker = c.self.inside.checker; stopped = c.self.inside.stopped } in
    let step : LinesStep old.lines mid.lines c.args.piece.now c.feed-step.new.taken c.feed-step.result = (record {
      most = c.feed-step.ensures.most;
      fed = c.feed-step.ensures.fed;
      taken = c.feed-step.ensures.taken;
      stands = c.feed-step.ensures.stands;
      told = c.feed-step.ensures.told;
      soonest = c.feed-step.ensures.soonest;
      more = c.feed-step.ensures.more;
      number = c.feed-step.ensures.number;
    }) in
    rw (← c.self.view_is) (takes-step g.G.Grammar.format old mid c.after_step.new.self c.args.piece.now c.feed-step.new.taken c.feed-step.result c.after_step.result step refl refl refl c.after_step.ensures.taken
    (after g.G.Grammar.format c.feed-step.result mid c.after_step.new.self c.feed-step.new.taken c.after_step.result c.after_step.ensures.more c.after_step.ensures.line c.after_step.ensures.too_long))
