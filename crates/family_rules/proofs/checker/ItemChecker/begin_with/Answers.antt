use Rattle.std.proofs.Common.{◌∙◌, ap}
use Rattle.std.proofs.lemmas.Result.{IfOk-weaker}
use Rattle.label_sets.specs.declared.kind.Kind.TheVariants.{Unknown}
use Rattle.family_rules.specs.Checking.{Checking}
use Rattle.family_rules.specs.Steps.{begun}
use Rattle.family_rules.specs.Samples.{add_stop, with_added}
use Rattle.family_rules.proofs.checker.ItemChecker.begin_with.Goals as goal

pub returns-in-Ok-clause-broken : goal.returns-in-Ok-clause-broken
returns-in-Ok-clause-broken c =
    let mid = c.in-Ok.ensures ∙ ap (begun c.args.self.now) c.in_ok-family.ensures in
    IfOk-weaker c.add_sample.result _ _ (λ answer stop. stop ∙ ap (λ (m : Checking). add_stop m Unknown c.args.sample c.args.told.now) mid) c.add_sample.ensures.broken

pub returns-in-Ok-clause-added : goal.returns-in-Ok-clause-added
returns-in-Ok-clause-added c =
    let mid = c.in-Ok.ensures ∙ ap (begun c.args.self.now) c.in_ok-family.ensures in
    IfOk-weaker c.add_sample.result _ _ (λ answer step none. step none ∙ ap (λ (m : Checking). with_added m Unknown c.args.sample c.args.told.now) mid) c.add_sample.ensures.added
