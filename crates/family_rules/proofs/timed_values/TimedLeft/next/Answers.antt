use Rattle.std.proofs.Common.{◌∙◌, sym}
use Rattle.std.specs.Vec.Iter.{into_iter_items}
use Rattle.family_rules.specs.TimedValues.{times_to_come}
use Rattle.family_rules.proofs.Loops.{values_done, nothing_left}
use Rattle.family_rules.proofs.Timed.{paired-none, paired-untimed}
use Rattle.family_rules.proofs.timed_values.TimedLeft.next.Goals as goal

pub returns-in_default : goal.returns-in_default
returns-in_default c =
    let times = times_to_come c.self.inside.bare c.self.inside.times in
    let done = values_done c.self.inside.values c.next.new.self c.next.result c.in_default.is c.next.ensures.cases in
    (sym c.self.view_is ∙ paired-none (into_iter_items c.self.inside.values) times done.0, paired-none (into_iter_items c.next.new.self) times done.1)

pub returns-in_default-next_time : goal.returns-in_default-next_time
returns-in_default-next_time c =
    let done = nothing_left c.next_time.result (times_to_come c.self.inside.bare c.self.inside.times) (times_to_come c.next_time.new.bare c.next_time.new.times) c.in_default-next_time.is c.next_time.ensures in (
      sym c.self.view_is ∙ paired-untimed (into_iter_items c.self.inside.values) (times_to_come c.self.inside.bare c.self.inside.times) done.0,
      paired-untimed (into_iter_items c.next.new.self) (times_to_come c.next_time.new.bare c.next_time.new.times) done.1,
    )
