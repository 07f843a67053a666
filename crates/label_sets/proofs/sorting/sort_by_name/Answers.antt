use Rattle.std.proofs.Common.{[], ap, sym, ◌∙◌}
use Rattle.label_sets.specs.Labels.{repeated_at}
use Rattle.label_sets.proofs.Places.{sorts_all}
use Rattle.label_sets.proofs.sorting.sort_by_name.Goals as goal

pub returns-in-None : goal.returns-in-None
returns-in-None c = sorts_all c.args.labels.now.items c.sort_unstable.new.self.items (ap (repeated_at [] 0) (sym c.as_slice.ensures.value) ∙ (sym c.in_ok-at.ensures ∙ c.in-None.is)) c.sort_unstable.ensures.permutation c.sort_unstable.ensures.sorted
