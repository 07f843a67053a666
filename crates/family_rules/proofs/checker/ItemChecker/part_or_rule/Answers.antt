use Rattle.std.proofs.Common.{◌≡◌, ◌∙◌, ap, sym, subst, false}
use Rattle.page_model.specs.Rules.{has_wrong_suffix}
use Rattle.family_rules.specs.Checking.{Checking}
use Rattle.family_rules.specs.Samples.{told_part}
use Rattle.family_rules.proofs.Plain.{same_name}
use Rattle.family_rules.proofs.checker.ItemChecker.part_or_rule.Goals as goal

pub returns-in-Some : goal.returns-in-Some
returns-in-Some c = λ family f current st format named.
    let name = same_name c.in-Some.current family f (sym c.in-Some.is ∙ ap (λ (v : Checking). v.current) c.self.view_is ∙ current) in
    subst (λ F. c.part_or_rule.result ≡ told_part st c.args.kind F c.args.sample.now) name
    (c.part_or_rule.ensures st (format ∙ ap (λ (v : Checking). v.setting.format) (sym c.self.view_is)) (subst (λ F. has_wrong_suffix st c.args.kind F c.args.sample.now ≡ false) (sym name) named))
