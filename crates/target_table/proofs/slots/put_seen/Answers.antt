use Rattle.std.proofs.Common.{sym}
use Rattle.target_table.proofs.Taking.{set_changed}
use Rattle.target_table.proofs.Tabled.{changed_to_same}
use Rattle.target_table.proofs.slots.put_seen.Goals as goal

pub returns-in-Some : goal.returns-in-Some
returns-in-Some c = record { after = rw c.in-Some.is (set_changed c.args.seen.now.items c.args.place c.in-Some.shown) }

pub returns-in-None : goal.returns-in-None
returns-in-None c = record { after = rw c.in-None.is (sym (changed_to_same c.args.seen.now.items c.args.place)) }
