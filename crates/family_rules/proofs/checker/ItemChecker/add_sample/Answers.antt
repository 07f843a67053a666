use Rattle.std.proofs.Common.{◌∙◌, ap}
use Rattle.std.proofs.lemmas.Result.{IfOk-weaker}
use Rattle.sample_groups.specs.Parts.{sample_time}
use Rattle.family_rules.specs.Checking.{Checking}
use Rattle.family_rules.specs.Samples.{key_stop, with_key, with_member}
use Rattle.family_rules.proofs.checker.ItemChecker.add_sample.Goals as goal

pub returns-clause-broken : goal.returns-clause-broken
returns-clause-broken c =
    IfOk-weaker c.add_line-answer.result _ _ (λ answer stop.
    stop ∙ (λ i. key_stop c.args.self.now c.args.kind (record { name = c.args.sample.name; labels = c.in_ok-labels.ensures i }) c.args.told.now)) c.add_line-answer.ensures.broken

pub returns-clause-added : goal.returns-clause-added
returns-clause-added c =
    let time = c.sample_time-time.ensures ∙ ap (λ (v : Checking). sample_time v.setting.format c.args.sample) c.self.view_is in
    IfOk-weaker c.add_line-answer.result _ _ (λ answer step none. step none ∙ (λ i. with_key c.args.self.now c.args.kind
    (record { name = c.args.sample.name; labels = c.in_ok-labels.ensures i }) (record { value = c.args.sample.value; time = time i })
    (with_member (time i) c.args.sample.exemplar c.args.told.now))) c.add_line-answer.ensures.added
