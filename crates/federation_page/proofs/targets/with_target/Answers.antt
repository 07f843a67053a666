use Rattle.std.proofs.Common.{◌≡◌, ◌∙◌, List, sym, subst}
use Rattle.std.specs.Prelude.{IfOk}
use Rattle.label_sets.specs.declared.label.Label.{Label}
use Rattle.label_sets.specs.Sets.{IsLabelSet}
use Rattle.federation_page.specs.Candidates.{with_target}
use Rattle.federation_page.proofs.CodeSteps.{labels_of_target, target_made}
use Rattle.federation_page.proofs.targets.with_target.Goals.{In_ok-put-2}
use Rattle.federation_page.proofs.targets.with_target.Goals as goal

made : (c : In_ok-put-2) → c.put-2.new.labels.items ≡ with_target c.args.shown.now.job c.args.shown.now.instance c.args.labels.now
made c =
    target_made c.args.shown.now.job c.args.shown.now.instance c.args.labels.now c.in_ok-all.all.items c.put.new.labels.items c.put-2.new.labels.items
    (c.in_ok-all.ensures ∙ c.labels.ensures) c.in_ok-put.ensures c.in_ok-put-2.ensures

pub from_sorted-requires : goal.from_sorted-requires
from_sorted-requires c = subst IsLabelSet (sym (made c)) (labels_of_target c.args.shown.now c.args.labels.now c.requires.named c.requires.free)

pub returns : goal.returns
returns c = subst (λ (ls : List Label). IfOk c.from_sorted.result (λ set. set ≡ ls)) (made c.before) c.from_sorted.ensures
