use Rattle.std.proofs.Common.{◌∙◌, ap}
use Rattle.series_table.specs.HttpTalks.{talking}
use Rattle.target_table.specs.Tables.{Held, next_place}
use Rattle.target_table.proofs.Beginning.{all_free}
use Rattle.target_table.proofs.Ending.{none_is_out, are_tracks, run_is_over}
use Rattle.target_table.proofs.table.Table.into_tracks.Goals as goal

pub clear-requires-clause-full : goal.clear-requires-clause-full
clear-requires-clause-full g c = λ _ _. none_is_out talking g.N.RunName.run (record { slots = c.self.inside.slots.items; books = c.self.inside.books; seen = c.self.inside.seen.items }) c.self.invariant.1
    (all_free c.self.inside.books c.args.shares.a.held c.args.shares.b.held c.args.shares.c.held c.args.shares.d.held c.close.ensures c.requires.home)

pub returns-clause-are : goal.returns-clause-are
returns-clause-are g c = are_tracks talking g.N.RunName.run (record { slots = c.self.inside.slots.items; books = c.self.inside.books; seen = c.self.inside.seen.items }) c.clear.new.tracks.items c.self.invariant.1 c.clear.ensures.moved

pub returns-clause-over : goal.returns-clause-over
returns-clause-over g c = λ none. run_is_over talking g.N.RunName.run (record { slots = c.self.inside.slots.items; books = c.self.inside.books; seen = c.self.inside.seen.items }) c.clear.new.tracks.items c.self.invariant.1 c.clear.ensures.moved
    (ap (λ (v : Held). next_place g.N.RunName.run.rounds v.slots) c.self.view_is ∙ none)
