use Rattle.std.proofs.Common.{refl}
use Rattle.packed_keys.specs.Partings.{keys_behind}
use Rattle.packed_keys.proofs.Taken.{parted_whole}
use Rattle.packed_keys.proofs.parting.part.Goals as goal

pub returns : goal.returns
returns c = parted_whole (keys_behind c.args.asked.now) c.args.keys.now c.take_near.new.strays.items c.in_ok-strays.strays c.take_near.new.left.items c.put_keys.new.out.items c.in_ok-left.left c.in_ok-next.next _
    refl c.in_ok-next.ensures.parted c.in_ok-put_keys.ensures c.in_ok-strays.ensures c.in_ok-left.ensures
