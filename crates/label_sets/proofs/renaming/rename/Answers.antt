use Rattle.std.proofs.Common.{List, ℕ, Option, set, sym, subst}
use Rattle.label_sets.specs.declared.label.Label.{Label}
use Rattle.label_sets.proofs.NewNames.{Changes, change_found, change_none}
use Rattle.label_sets.proofs.renaming.rename.Goals as goal

pub returns-in_default-find : goal.returns-in_default-find
returns-in_default-find c = subst (λ (o : Option (List ℕ)). Changes c.args.from.now o c.args.labels.now.items c.args.labels.now.items) (sym c.in-Some.is)
    (change_none c.args.from.now c.in-Some.to c.as_slice.result.now c.args.labels.now.items c.as_slice.ensures.value c.in_default-find.ensures)

pub returns : goal.returns
returns c =
    let new : List Label = set c.args.labels.now.items c.in-Some-find.at (record { name = c.in-Some.to; value = c.index_mut.result.now.value }) in
    subst (λ (o : Option (List ℕ)). Changes c.args.from.now o c.args.labels.now.items new) (sym c.in-Some.is)
    (change_found c.args.from.now c.in-Some.to c.as_slice.result.now c.args.labels.now.items c.in-Some-find.at c.index_mut.result.now c.as_slice.ensures.value c.requires c.in-Some-find.ensures c.index_mut.ensures.value)
