use Rattle.std.proofs.Common.{◌∙◌, ◌++◌, List, ap}
use Rattle.page_model.specs.declared.page.Family.{Family}
use Rattle.family_rules.specs.Made.{families_at}
use Rattle.family_rules.proofs.Loops.{families_step, families_end, none_left, one_left}
use Rattle.family_rules.proofs.pages.put_families.Goals as goal

pub returns-in_default : goal.returns-in_default
returns-in_default c = families_end c.args.format c.loop-next.known c.loop-next.samples c.loop-next.families.items _ (none_left c.in_ok-next.next c.loop-next.known c.next.new.self c.in_default.is c.in_ok-next.ensures) c.loop-next.invariant
    ∙ ap (λ (fs : List Family). fs ++ families_at c.args.format c.args.known.now c.args.samples.now) c.in_ok-reserve.ensures.items

pub loop-next-preserved : goal.loop-next-preserved
loop-next-preserved c = families_step c.args.format c.loop-next.known c.next.new.self c.in-Some.name c.in-Some.so_far c.loop-next.samples c.family.new.samples c.in_ok-family.family c.loop-next.families.items c.push.new.self.items _
    (one_left c.in_ok-next.next (c.in-Some.name, c.in-Some.so_far) c.loop-next.known c.next.new.self c.in-Some.is c.in_ok-next.ensures)
    c.in_ok-family.ensures.family c.in_ok-family.ensures.rest c.in_ok-push.ensures.items c.loop-next.invariant
