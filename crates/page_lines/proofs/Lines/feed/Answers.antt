-- A step behind the line that was told of before.
use Rattle.std.proofs.Common.{◌+◌}
use Rattle.page_lines.specs.Feeding.{IsStep}
use Rattle.page_lines.proofs.Standing.{step-reached}
use Rattle.page_lines.proofs.PageEnds.{step-only, step-number, step-line_stays, step-past_stays}
use Rattle.page_lines.proofs.Lines.feed.Goals as goal

pub returns-in-Some : goal.returns-in-Some
returns-in-Some c =
    let old = c.args.self.now in
    let new = c.gather-step.new.self in
    let piece = c.args.piece.now in
    let used = c.in-Some.passed + c.gather-step.result.1 in
    let step : IsStep old new piece used c.gather-step.result.0 = step-reached old c.reach.new.self new piece c.in-Some.passed c.gather-step.result.1 c.gather-step.result.0 c.in-Some.ensures.reached c.gather-step.ensures in
    record {
      most = step.same;
      fed = step.count;
      taken = step.taken;
      stands = step.stands;
      told = step.told;
      soonest = step.soonest;
      more = step.all;
      only = step-only old new piece used c.gather-step.result.0 step;
      number = step-number old new piece used c.gather-step.result.0 step;
      line = step-line_stays old new piece used c.gather-step.result.0 step;
      too_long = step-past_stays old new piece used c.gather-step.result.0 step;
    }
