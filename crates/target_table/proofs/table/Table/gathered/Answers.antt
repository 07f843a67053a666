use Rattle.std.proofs.Common.{◌≡◌, ◌∙◌, List, ap, sym, subst}
use Rattle.std.specs.Prelude.{IfOk}
use Rattle.page_model.specs.declared.event.Shown.{Shown}
use Rattle.page_model.specs.declared.page.Page.{Page}
use Rattle.series_table.specs.HttpTalks.{talking}
use Rattle.federation_page.specs.Gathering.{AreShowable, federated_page}
use Rattle.target_table.specs.Tables.{Held}
use Rattle.target_table.proofs.Showable.{showable}
use Rattle.target_table.proofs.table.Table.gathered.Goals as goal

pub gather-requires : goal.gather-requires
gather-requires g c = subst AreShowable (sym c.as_slice.ensures.value) (showable talking g.N.RunName.run (record { slots = c.self.inside.slots.items; books = c.self.inside.books; seen = c.self.inside.seen.items }) c.self.invariant.1)

pub returns-clause-page : goal.returns-clause-page
returns-clause-page g c = subst (λ (s : List Shown). IfOk c.gather.result (λ (page : Page). page ≡ federated_page s)) (c.as_slice.ensures.value ∙ ap (λ (v : Held). v.seen) c.self.view_is) c.gather.ensures.page

pub returns-clause-showable : goal.returns-clause-showable
returns-clause-showable g c = subst (λ (v : Held). AreShowable v.seen) c.self.view_is (showable talking g.N.RunName.run (record { slots = c.self.inside.slots.items; books = c.self.inside.books; seen = c.self.inside.seen.items }) c.self.invariant.1)
