use Rattle.std.proofs.Common.{not, refl, sym, ap, ◌∙◌}
use Rattle.std.specs.Prelude.{Vec}
use Rattle.std.specs.declared.alloc.Global.{Global}
use Rattle.replay_script.specs.declared.script.ScriptTarget.{ScriptTarget}
use Rattle.replay_script.proofs.KeptRecords.{no_target_read, scrapes_left, script_ended}
use Rattle.replay_script.proofs.progress.Progress.finish.Goals as goal

pub returns-then-is_none : goal.returns-then-is_none
returns-then-is_none c = λ parts k. no_target_read parts c.args.self.now k (c.is_none.ensures ∙ ap not c.if-is_none.true)

pub returns-then-not-has_whole_target : goal.returns-then-not-has_whole_target
returns-then-not-has_whole_target c = λ parts k. scrapes_left parts c.args.self.now k (sym c.has_whole_target.ensures ∙ c.if-not-has_whole_target.true)

pub returns : goal.returns
returns c = λ parts k.
    script_ended parts c.args.self.now c.close_target.new.self _ _ k (c.is_none.ensures ∙ ap not c.if-is_none.false) (sym c.has_whole_target.ensures ∙ c.if-not-has_whole_target.false)
    c.in_ok-close_target.ensures refl (c.in_ok-targets.ensures ∙ ap (λ (ts : Vec ScriptTarget Global). ts.items) c.replace-finished.ensures.value)
