use Rattle.std.proofs.Common.{◌≡◌, Bool, true, Some, List, ℕ, length, sym, subst, ◌∙◌, ap}
use Rattle.label_sets.specs.Lists.{when_true}
use Rattle.label_sets.specs.Labels.{exported_name, has_name}
use Rattle.label_sets.proofs.NewNames.{stands_some}
use Rattle.label_sets.proofs.renaming.exported.Goals as goal

pub returns : goal.returns
returns c =
    let taken = subst (λ (n : List ℕ). has_name c.args.labels.now n ≡ true) c.as_bytes.ensures.value (stands_some c.args.labels.now _ c.find.result c.find.ensures c.if-is_none.ensures) in
    ap Some c.in_ok-free_name.ensures ∙ ap (λ (b : Bool). when_true b (exported_name (length c.args.labels.now) c.args.labels.now c.args.name.now)) (sym taken)
