use Rattle.std.proofs.Common.{◌≡◌, ap, inl, inr, subst, sym}
use Rattle.program_words.specs.declared.status.Status.TheVariants.{ReadFailed}
use Rattle.program_words.specs.Statuses.{code_of, TellsFault}
use Rattle.program_words.specs.CommandWords.{command_row}
use Rattle.bridge_cli.specs.CommandReads.{IsAllRead, IsNoFile, IsReadInPart, read_count}
use Rattle.bridge_cli.specs.Printed.{IsWhole}
use Rattle.bridge_cli.proofs.CommandLaws.{only_answer}
use Rattle.bridge_cli.proofs.EndLaws.{ended_status, ended_answered, ended_read, ended_memory, ended_ready, ended_through, ended_in_part, ended_fault, ended_changes, ended_kept, ended_files, ended_shelf, same_shelf, true_on}
use Rattle.bridge_cli.proofs.ReadLaws.{shelf_reads, all_read_on, part_read_on, count_on}
use Rattle.bridge_cli.proofs.program.execute.Goals as goal

pub returns : goal.returns
returns g c =
    let seen = g.W.World.seen in
    let row = command_row c.args.command in
    let a = c.answer_of-answer.ensures in
    let of = a.printed in
    let ended = c.print.ensures.ended in
    let before = seen c.args.world.now in
    let mid = seen c.answer_of-answer.new.world in
    let now = seen c.print.new.world in
    let same : IsWhole c.answer_of-answer.result.printed → now ≡ mid = λ is. ap seen (c.print.ensures.unused is) in
    let no_file : (¬ IsWhole c.answer_of-answer.result.printed) → IsNoFile row.reads = λ other. shelf_reads c.args.command (of.shelves other) in
    let left = g.I.Source.left c.args.input.now in
    let left_now = g.I.Source.left c.answer_of-answer.new.input in
    let answered = ended_answered c.args.command left before mid now _ _ _ _ _ of same ended in
    let changes = ended_changes row.uses seen c.args.world.now c.answer_of-answer.new.world c.print.new.world _ _ _ _ _ of.shelves a.left a.world c.print.ensures.unused c.print.ensures.kept ended in
    record {
      statuses = ended_status _ _ _ _ _ a.statuses.1 ended;
      answered = answered;
      only_answer = λ told. only_answer c.args.command left before now _ _ _ answered told;
      silent = λ e. c.print.ensures.empty (ended_read _ _ _ _ _ a.unread ended e);
      memory = λ e. elim (ended_memory c.args.command left before mid now _ _ _ _ _ of same a.wanting ended e) [ inl none ↦ inl (c.print.ensures.empty none) | inr pieces ↦ inr pieces ];
      ready = λ none. ended_ready c.args.command _ _ _ _ _ of.whole none (a.ready none) ended;
      write_faults = c.print.ensures.faults;
      unread = a.input;
      read_through = ended_through (IsAllRead row.reads left left_now before now) _ _ _ _ _ a.statuses.0
          (λ why. true_on (IsAllRead row.reads left left_now before) _ mid now same (λ other. all_read_on row.reads left left_now before mid now (no_file other)) (a.read_through why)) ended;
      read_in_part = ended_in_part (IsReadInPart row.reads left left_now before now) _ _ _ _ _ of.printable
          (λ other_status. true_on (IsReadInPart row.reads left left_now before) _ mid now same (λ other. part_read_on row.reads left left_now before mid now (no_file other)) (a.read_in_part other_status)) ended;
      read_faults =
          let counts = read_count row.reads (g.I.Source.read_faults c.answer_of-answer.new.input) in
          let was = read_count row.reads (g.I.Source.read_faults c.args.input.now) before in
          true_on (λ o. TellsFault (code_of ReadFailed) c.print.result was (counts o)) _ mid now same
          (λ other. subst (TellsFault (code_of ReadFailed) c.print.result was) (sym (count_on row.reads (g.I.Source.read_faults c.answer_of-answer.new.input) mid now (no_file other))))
          (ended_fault _ _ _ _ _ _ _ of.printable a.unread a.read_faults ended);
      world_kept = ended_kept row.uses c.args.world.now c.answer_of-answer.new.world c.print.new.world _ of.shelves a.world c.print.ensures.unused;
      changes = changes;
      files_kept = ended_files row.uses before now _ changes;
      shelf = λ e visits. ended_shelf c.args.command left _ _ _ _ _ _ _ _ of.visits (same_shelf row.uses seen c.args.world.now c.answer_of-answer.new.world a.world visits) ended c.print.ensures.shelf e visits;
    }
