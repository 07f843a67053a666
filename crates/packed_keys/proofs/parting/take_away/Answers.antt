use Rattle.std.proofs.Common.{take}
use Rattle.packed_keys.specs.Partings.{keys_behind}
use Rattle.packed_keys.proofs.Taken.{stray_step, near_step}
use Rattle.packed_keys.proofs.parting.take_away.Goals as goal

pub returns-in_default-clause-parted : goal.returns-in_default-clause-parted
returns-in_default-clause-parted c = λ asked parted.
    stray_step asked (take c.args.next (keys_behind c.args.keys.now)) c.args.strays.now.items c.args.left.now.items c.push.new.self.items c.args.key.now c.in_ok-copy.field-0 c.in_ok-copy.ensures c.in_ok-push.ensures.items parted

pub returns-clause-parted : goal.returns-clause-parted
returns-clause-parted c = λ asked parted.
    near_step asked c.args.keys.now c.args.strays.now.items c.args.left.now.items c.put_keys.new.out.items c.args.next c.in-Some.at c.args.key.now
    c.in-Some.ensures.from c.in-Some.ensures.place c.in_ok-put_keys.ensures parted
