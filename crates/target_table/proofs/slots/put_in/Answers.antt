use Rattle.std.proofs.Common.{◌∙◌, ap, Some}
use Rattle.std.proofs.Math.ListN.{set}
use Rattle.target_table.proofs.Taking.{set_changed}
use Rattle.target_table.proofs.slots.put_in.Goals as goal

pub returns : goal.returns
returns g c = record { after = ap (λ x. set c.args.slots.now.items c.args.place x) c.replace.ensures.after ∙ set_changed c.args.slots.now.items c.args.place (Some c.args.track) }
