use Rattle.std.proofs.Common.{◌∙◌, ap, None}
use Rattle.std.proofs.Math.ListN.{set}
use Rattle.target_table.proofs.Taking.{set_changed}
use Rattle.target_table.proofs.slots.take_out.Goals as goal

pub returns-clause-after : goal.returns-clause-after
returns-clause-after g c = ap (λ x. set c.args.slots.now.items c.args.place x) c.replace.ensures.after ∙ set_changed c.args.slots.now.items c.args.place None
