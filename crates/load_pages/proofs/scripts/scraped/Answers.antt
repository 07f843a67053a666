use Rattle.std.proofs.Common.{false, ap, ◌∙◌}
use Rattle.std.proofs.lemmas.Result.{IfOk-weaker}
use Rattle.replay_script.specs.ScriptRules.{is_target_line}
use Rattle.replay_script.specs.ScriptContents.{line_target}
use Rattle.load_pages.proofs.LoadLaws.{line_right, line_is}
use Rattle.load_pages.proofs.scripts.scraped.Goals as goal

pub target-requires : goal.target-requires
target-requires c = ap is_target_line (line_is c.args.number _ (c.as_slice.ensures.value ∙ c.in_ok-host.ensures)) ∙ line_right c.args.number c.requires

pub returns : goal.returns
returns c = IfOk-weaker c.target.result _ _ (λ t is. is ∙ ap (line_target false) (line_is c.args.number _ (c.as_slice.ensures.value ∙ c.in_ok-host.ensures))) c.target.ensures
