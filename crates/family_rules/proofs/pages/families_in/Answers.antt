use Rattle.std.proofs.Common.{◌∙◌, ◌++◌}
use Rattle.std.proofs.lemmas.Result.{IfOk-weaker}
use Rattle.family_rules.specs.Made.{families_at}
use Rattle.family_rules.proofs.pages.families_in.Goals as goal

pub returns-in-Ok : goal.returns-in-Ok
returns-in-Ok c = IfOk-weaker c.from_vec.result _ _ (λ list is. is ∙ c.in-Ok.ensures
    ∙ (λ i. c.new-families.ensures.items i ++ families_at c.args.format (c.into_entries-entries.ensures i) c.args.samples)) c.from_vec.ensures
