use Rattle.std.proofs.Common.{subst}
use Rattle.series_table.specs.HttpTalks.{talking}
use Rattle.federation_page.specs.Gathering.{AreShowable}
use Rattle.target_table.specs.Tables.{Held, IsTable}
use Rattle.target_table.proofs.Showable.{showable}
use Rattle.target_table.proofs.table.Table.shown.Goals as goal

pub returns-clause-table : goal.returns-clause-table
returns-clause-table g c = subst (IsTable talking g.N.RunName.run) c.self.view_is c.self.invariant.1

pub returns-clause-showable : goal.returns-clause-showable
returns-clause-showable g c = subst (λ (v : Held). AreShowable v.seen) c.self.view_is (showable talking g.N.RunName.run (record { slots = c.self.inside.slots.items; books = c.self.inside.books; seen = c.self.inside.seen.items }) c.self.invariant.1)
