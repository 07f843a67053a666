use Rattle.std.proofs.Common.{sym, ap, ◌∙◌, inl, inr}
use Rattle.std.proofs.lemmas.Bool.{true≢false}
use Rattle.program_words.specs.Statuses.{code_of}
use Rattle.program_words.specs.CommandWords.{command_row}
use Rattle.program_words.proofs.Laws.{pieces_take, told_or_not}
use Rattle.bridge_cli.proofs.PrintLaws.{stop_whole, stop_statuses, stop_printed, stop_nothing, over_statuses, over_read, over_memory}
use Rattle.bridge_cli.proofs.ReadLaws.{ok_through, ok_in_part, ok_fault, stop_all_read, stop_part_read, stop_count, ok_used, stop_used}
use Rattle.bridge_cli.proofs.program.answer_of.Goals as goal

pub returns-in-Ok-clause-statuses : goal.returns-in-Ok-clause-statuses
returns-in-Ok-clause-statuses g c = over_statuses c.args.command _ c.in-Ok.ensures.status

pub returns-in-Ok-clause-unread : goal.returns-in-Ok-clause-unread
returns-in-Ok-clause-unread g c = λ e. absurd (over_read c.args.command _ c.in-Ok.ensures.status e)

pub returns-in-Ok-clause-wanting : goal.returns-in-Ok-clause-wanting
returns-in-Ok-clause-wanting g c = λ e. inr (over_memory c.args.command _ c.in-Ok.ensures.status e)

pub returns-in-Ok-clause-ready : goal.returns-in-Ok-clause-ready
returns-in-Ok-clause-ready g c = λ none e. absurd (true≢false (sym (over_memory c.args.command _ c.in-Ok.ensures.status e) ∙ pieces_take c.args.command none))

pub returns-in-Ok-clause-read_through : goal.returns-in-Ok-clause-read_through
returns-in-Ok-clause-read_through g c = λ _. ok_through (command_row c.args.command).reads (g.I.Source.left c.args.input.now) (g.I.Source.left c.run_up_to_printing.new.input) (g.I.Source.read_faults c.args.input.now) (g.I.Source.read_faults c.run_up_to_printing.new.input) (g.W.World.seen c.args.world.now) (g.W.World.seen c.run_up_to_printing.new.world) _ c.in-Ok.ensures.reads

pub returns-in-Ok-clause-read_in_part : goal.returns-in-Ok-clause-read_in_part
returns-in-Ok-clause-read_in_part g c = λ _. ok_in_part (command_row c.args.command).reads (g.I.Source.left c.args.input.now) (g.I.Source.left c.run_up_to_printing.new.input) (g.I.Source.read_faults c.args.input.now) (g.I.Source.read_faults c.run_up_to_printing.new.input) (g.W.World.seen c.args.world.now) (g.W.World.seen c.run_up_to_printing.new.world) _ c.in-Ok.ensures.reads

pub returns-in-Ok-clause-read_faults : goal.returns-in-Ok-clause-read_faults
returns-in-Ok-clause-read_faults g c = ok_fault (command_row c.args.command).reads (g.I.Source.left c.args.input.now) (g.I.Source.left c.run_up_to_printing.new.input) (g.I.Source.read_faults c.args.input.now) (g.I.Source.read_faults c.run_up_to_printing.new.input) (g.W.World.seen c.args.world.now) (g.W.World.seen c.run_up_to_printing.new.world) _ _ (over_read c.args.command _ c.in-Ok.ensures.status) c.in-Ok.ensures.reads

pub returns-in-Ok-clause-left : goal.returns-in-Ok-clause-left
returns-in-Ok-clause-left g c = ok_used (command_row c.args.command).uses (g.W.World.seen c.args.world.now) (g.W.World.seen c.run_up_to_printing.new.world) _ c.in-Ok.ensures.left

pub returns-in-Err-clause-statuses : goal.returns-in-Err-clause-statuses
returns-in-Err-clause-statuses g c = stop_statuses c.in-Err.stop _ _ c.stop_answer.ensures

pub returns-in-Err-clause-printed : goal.returns-in-Err-clause-printed
returns-in-Err-clause-printed g c = stop_printed c.args.command (g.I.Source.left c.args.input.now) (g.W.World.seen c.args.world.now) (g.W.World.seen c.run_up_to_printing.new.world) c.in-Err.stop _ _ c.stop_answer.ensures c.in-Err.ensures.stop

pub returns-in-Err-clause-unread : goal.returns-in-Err-clause-unread
returns-in-Err-clause-unread g c = λ e. stop_nothing c.in-Err.stop _ _ c.stop_answer.ensures (inl (ap code_of e))

pub returns-in-Err-clause-wanting : goal.returns-in-Err-clause-wanting
returns-in-Err-clause-wanting g c = λ e. inl (stop_nothing c.in-Err.stop _ _ c.stop_answer.ensures (inr (ap code_of e)))

pub returns-in-Err-clause-read_through : goal.returns-in-Err-clause-read_through
returns-in-Err-clause-read_through g c = λ why.
    let answer = (stop_whole c.in-Err.stop _ _ c.stop_answer.ensures).1 in
    elim why [
      | inl told ↦ stop_all_read (command_row c.args.command).reads (g.I.Source.left c.args.input.now) (g.I.Source.left c.run_up_to_printing.new.input) (g.I.Source.read_faults c.args.input.now) (g.I.Source.read_faults c.run_up_to_printing.new.input) (g.W.World.seen c.args.world.now) (g.W.World.seen c.run_up_to_printing.new.world) c.in-Err.stop _ _ answer c.in-Err.ensures.reads told
      | inr some ↦ elim (told_or_not _ (stop_statuses c.in-Err.stop _ _ c.stop_answer.ensures).0) [
        | inl told ↦ stop_all_read (command_row c.args.command).reads (g.I.Source.left c.args.input.now) (g.I.Source.left c.run_up_to_printing.new.input) (g.I.Source.read_faults c.args.input.now) (g.I.Source.read_faults c.run_up_to_printing.new.input) (g.W.World.seen c.args.world.now) (g.W.World.seen c.run_up_to_printing.new.world) c.in-Err.stop _ _ answer c.in-Err.ensures.reads told
        | inr none ↦ absurd (some (stop_nothing c.in-Err.stop _ _ c.stop_answer.ensures none))
      ]
    ]

pub returns-in-Err-clause-read_in_part : goal.returns-in-Err-clause-read_in_part
returns-in-Err-clause-read_in_part g c = λ other. stop_part_read (command_row c.args.command).reads (g.I.Source.left c.args.input.now) (g.I.Source.left c.run_up_to_printing.new.input) (g.I.Source.read_faults c.args.input.now) (g.I.Source.read_faults c.run_up_to_printing.new.input) (g.W.World.seen c.args.world.now) (g.W.World.seen c.run_up_to_printing.new.world) c.in-Err.stop _ _ (stop_whole c.in-Err.stop _ _ c.stop_answer.ensures).1 c.in-Err.ensures.reads other

pub returns-in-Err-clause-read_faults : goal.returns-in-Err-clause-read_faults
returns-in-Err-clause-read_faults g c = stop_count (command_row c.args.command).reads (g.I.Source.left c.args.input.now) (g.I.Source.left c.run_up_to_printing.new.input) (g.I.Source.read_faults c.args.input.now) (g.I.Source.read_faults c.run_up_to_printing.new.input) (g.W.World.seen c.args.world.now) (g.W.World.seen c.run_up_to_printing.new.world) c.in-Err.stop _ _ (stop_whole c.in-Err.stop _ _ c.stop_answer.ensures).1 c.in-Err.ensures.reads

pub returns-in-Err-clause-left : goal.returns-in-Err-clause-left
returns-in-Err-clause-left g c = stop_used (command_row c.args.command).uses (g.W.World.seen c.args.world.now) (g.W.World.seen c.run_up_to_printing.new.world) c.in-Err.stop _ _ (stop_whole c.in-Err.stop _ _ c.stop_answer.ensures).1 c.in-Err.ensures.left
