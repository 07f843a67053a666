use Rattle.std.proofs.Common.{◌∙◌, ap, count_by, is_none}
use Rattle.series_table.specs.HttpTalks.{talking}
use Rattle.target_table.specs.Tables.{Held, targets_out}
use Rattle.target_table.proofs.Countings.{out_is_counted}
use Rattle.target_table.proofs.table.Table.count_out.Goals as goal

pub returns : goal.returns
returns g c =
    c.count_empty.ensures ∙ ap (count_by is_none) c.as_slice.ensures.value
    ∙ out_is_counted talking g.N.RunName.run (record { slots = c.self.inside.slots.items; books = c.self.inside.books; seen = c.self.inside.seen.items }) c.self.invariant.1
    ∙ ap (λ (v : Held). targets_out v.books) c.self.view_is
