-- What the program did, from what it did for the command that the words ask for.
use Rattle.std.proofs.Common.{◌≡◌, ◌≢◌, inl, inr, ℕ, List, [], Option, Result, Ok, Err, OnOk, OnErr, refl, sym, subst, ◌∙◌, arith}
use Rattle.std.specs.Prelude.{⊤}
use Rattle.std.specs.Io.KnownBytes.{Appends}
use Rattle.std.proofs.lemmas.Bool.{true≢false}
use Rattle.bridge_ports.specs.Causes.{Rose}
use Rattle.bridge_ports.specs.Inputs.{TookAtMost}
use Rattle.bridge_ports.proofs.Laws.{appends_none, consumes_none}
use Rattle.bridge_ports.specs.Outside.{Outside}
use Rattle.bridge_ports.specs.Writing.{WroteFront}
use Rattle.program_words.specs.declared.status.Status.TheVariants as statuses
use Rattle.program_words.specs.declared.words.Command.{Command}
use Rattle.program_words.specs.CommandWords.{IsCommand, FitNoForm, AskFor, takes_memory, command_row, Reading, of_nothing, of_input, of_file, WorldUse, uses_nothing, uses_shelf, uses_wires}
use Rattle.program_words.specs.HelpTexts.{no_form_text}
use Rattle.program_words.specs.Statuses.{code_of, IsStatus}
use Rattle.program_words.proofs.Laws.{any_bytes, one_command, tells_fault}
use Rattle.run_command.proofs.Laws.{unbegun_left}
use Rattle.bridge_cli.specs.Answers.{Says, wanting}
use Rattle.bridge_cli.specs.CommandReads.{IsReadInPart, LeavesInput, ChangesOnly}
use Rattle.bridge_cli.specs.CommandRuns.{IsWritten, written_whole, written_part, RanCommand}
use Rattle.bridge_program.specs.Ran.{Ran}

-- ---- a command was done

-- words that ask for a command do not fit no form
no_form_of : (words : List (List ℕ)) (command : Command) (status : ℕ) → IsCommand words command → IsStatus status × (status ≢ code_of statuses.NoForm) → status ≡ code_of statuses.NoForm → FitNoForm words
no_form_of words command status is statuses e = absurd (statuses.1 e)

pub command_ran : {I O W : Type 0} (words : List (List ℕ)) (command : Command) (left : I → Option (List ℕ)) (read_faults : I → ℕ) (input input_now : I) (held : O → Option (List ℕ)) (write_faults : O → ℕ) (output output_now : O) (seen : W → Outside) (world world_now : W) (status : ℕ)
    → IsCommand words command → RanCommand command left read_faults input input_now held write_faults output output_now seen world world_now status
    → Ran words left read_faults input input_now held write_faults output output_now seen world world_now status
command_ran words command left read_faults input input_now held write_faults output output_now seen world world_now status is ran = record {
  statuses = ran.statuses.0;
  form = inr (command, is);
  command = λ other asked. let Of : Command → Type 0 = λ c. RanCommand c left read_faults input input_now held write_faults output output_now seen world world_now status in subst Of (one_command words command other is asked) ran;
  refused = λ none. absurd (none command is);
  no_form = no_form_of words command status is ran.statuses;
  write_faults = ran.write_faults;
}

-- ---- words that fit no form

pub words_refused : {I O W E : Type 0} (words : List (List ℕ)) (left : I → Option (List ℕ)) (read_faults : I → ℕ) (input : I) (held : O → Option (List ℕ)) (write_faults : O → ℕ) (output output_now : O) (seen : W → Outside) (world : W) (status : ℕ) (written : Result ⊤ E)
    → FitNoForm words → OnOk written (Appends (held output) (held output_now) no_form_text) → OnErr written (WroteFront (held output) (held output_now) no_form_text)
    → OnOk written (write_faults output_now ≡ write_faults output) → OnErr written (Rose (write_faults output) (write_faults output_now))
    → OnOk written (status ≡ code_of statuses.NoForm) → OnErr written (status ≡ code_of statuses.WriteFailed)
    → Ran words left read_faults input input held write_faults output output_now seen world world status
words_refused words left read_faults input held write_faults output output_now seen world status (Ok done) none all front kept rose ended cut = record {
  statuses = (statuses.NoForm, ended);
  form = inl none;
  command = λ command is. absurd (none command is);
  refused = λ _. record { line = let At : ℕ → Type 0 = IsWritten (code_of statuses.NoForm) no_form_text (held output) (held output_now) in subst At (sym ended) (written_whole all); unread = refl; world_kept = refl };
  no_form = λ _. none;
  write_faults = tells_fault _ _ (write_faults output) (write_faults output_now) (λ e. absurd (omega (arith, e, ended))) (λ _. kept);
}
words_refused words left read_faults input held write_faults output output_now seen world status (Err failed) none all front kept rose ended cut = record {
  statuses = (statuses.WriteFailed, cut);
  form = inl none;
  command = λ command is. absurd (none command is);
  refused = λ _. record { line = let At : ℕ → Type 0 = IsWritten (code_of statuses.NoForm) no_form_text (held output) (held output_now) in subst At (sym cut) (written_part front); unread = refl; world_kept = refl };
  no_form = λ _. none;
  write_faults = tells_fault _ _ (write_faults output) (write_faults output_now) (λ _. rose) (λ other. absurd (other cut));
}

-- ---- want of memory for the words

-- no bytes were taken
took_none : (most : ℕ) (left : Option (List ℕ)) → TookAtMost most left left
took_none most left = record { bytes = []; from = consumes_none left; few = omega arith }

-- nothing was read
none_read : (reads : Reading) (left : Option (List ℕ)) (before : Outside) → IsReadInPart reads left left before before
none_read of_nothing left before = tt
none_read (of_input most) left before = took_none most left
none_read (of_file path most) left before = inl refl

left_alone : {I : Type 0} (reads : Reading) (input : I) → LeavesInput reads input input
left_alone of_nothing input = refl
left_alone (of_input most) input = tt
left_alone (of_file path most) input = refl

unchanged : (used : WorldUse) (before : Outside) (status : ℕ) → status ≢ code_of statuses.ReadFailed → ChangesOnly used before before status
unchanged uses_nothing before status other = refl
unchanged uses_shelf before status other = refl
unchanged (uses_wires path) before status other = unbegun_left path before status other

pub memory_ran : {I O W : Type 0} (words : List (List ℕ)) (left : I → Option (List ℕ)) (read_faults : I → ℕ) (input : I) (held : O → Option (List ℕ)) (write_faults : O → ℕ) (output : O) (seen : W → Outside) (world : W) (status : ℕ)
    → AskFor takes_memory words → status ≡ code_of statuses.WantOfMemory → Ran words left read_faults input input held write_faults output output seen world world status
memory_ran {I} {O} {W} words left read_faults input held write_faults output seen world status asks is =
    let At : ℕ → Type 0 = λ s. Ran words left read_faults input input held write_faults output output seen world world s in
    let command = asks.0 in
    let ran : RanCommand command left read_faults input input held write_faults output output seen world world (code_of statuses.WantOfMemory) = record {
      statuses = ((statuses.WantOfMemory, refl), λ e. omega (arith, e));
      answered = record { status = code_of statuses.WantOfMemory; text = []; says = any_bytes (Says command (seen world) (seen world)) (left input) (code_of statuses.WantOfMemory) [] (λ bytes. wanting); written = written_whole (appends_none (held output)) };
      only_answer = λ told. absurd (told.2 refl);
      silent = λ e. refl;
      memory = λ e. inl refl;
      ready = λ none. absurd (true≢false (sym asks.2 ∙ none));
      write_faults = tells_fault _ _ (write_faults output) (write_faults output) (λ e. absurd (omega (arith, e))) (λ _. refl);
      unread = left_alone (command_row command).reads input;
      read_through = λ some. absurd (some (inr refl));
      read_in_part = λ _. none_read (command_row command).reads (left input) (seen world);
      read_faults = tells_fault _ _ _ _ (λ e. absurd (omega (arith, e))) (λ _. refl);
      world_kept = λ _. refl;
      changes = unchanged (command_row command).uses (seen world) (code_of statuses.WantOfMemory) (λ e. omega (arith, e));
      files_kept = refl;
      shelf = λ e. absurd (omega (arith, e));
    } in
    subst At (sym is) (command_ran words command left read_faults input input held write_faults output output seen world world (code_of statuses.WantOfMemory) asks.1 ran)
