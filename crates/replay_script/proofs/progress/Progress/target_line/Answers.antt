use Rattle.std.proofs.Common.{Some, refl, sym, ap, ◌∙◌, arith}
use Rattle.replay_script.specs.ScriptRules.{has_namesake}
use Rattle.replay_script.specs.Progresses.{words_found_as}
use Rattle.replay_script.proofs.Kept.{no_rounds_yet, scrapes_missing, no_target_line, too_many_targets, named_before, target_taken}
use Rattle.replay_script.proofs.progress.Progress.target_line.Goals as goal

pub returns-then-self-eq0 : goal.returns-then-self-eq0
returns-then-self-eq0 c = no_rounds_yet (words_found_as c.args.words.now) c.args.self.now _ c.if-self-eq0.true

pub returns-then-not-has_whole_target : goal.returns-then-not-has_whole_target
returns-then-not-has_whole_target c = scrapes_missing (words_found_as c.args.words.now) c.args.self.now _ (sym c.has_whole_target.ensures ∙ c.if-not-has_whole_target.true)

pub returns-then-not-is_target_line : goal.returns-then-not-is_target_line
returns-then-not-is_target_line c = no_target_line (words_found_as c.args.words.now) c.args.self.now _ (sym c.is_target_line.ensures ∙ c.if-not-is_target_line.true)

pub returns-then-len-ge-MOST_TARGETS : goal.returns-then-len-ge-MOST_TARGETS
returns-then-len-ge-MOST_TARGETS c = too_many_targets (words_found_as c.args.words.now) c.args.self.now _ c.in_ok-close_target.ensures (omega (arith, c.len.ensures, c.if-len-ge-MOST_TARGETS.true))

pub returns-then-has_namesake : goal.returns-then-has_namesake
returns-then-has_namesake c =
    named_before (words_found_as c.args.words.now) c.args.self.now _ c.in_ok-close_target.ensures
    (ap (has_namesake c.close_target.new.self.finished.items) (sym c.in_ok-target.ensures) ∙ ap (λ ts. has_namesake ts c.in_ok-target.target) (sym c.as_slice.ensures.value) ∙ sym c.has_namesake.ensures ∙ c.if-has_namesake.true)

pub returns : goal.returns
returns c =
    target_taken (words_found_as c.args.words.now) c.args.self.now c.close_target.new.self _ c.if-self-eq0.false (sym c.has_whole_target.ensures ∙ c.if-not-has_whole_target.false)
    (sym c.is_target_line.ensures ∙ c.if-not-is_target_line.false) c.in_ok-close_target.ensures (omega (arith, c.len.ensures, c.if-len-ge-MOST_TARGETS.false))
    (ap (has_namesake c.close_target.new.self.finished.items) (sym c.in_ok-target.ensures) ∙ ap (λ ts. has_namesake ts c.in_ok-target.target) (sym c.as_slice.ensures.value) ∙ sym c.has_namesake.ensures ∙ c.if-has_namesake.false)
    refl refl (ap Some c.in_ok-target.ensures) refl refl refl
