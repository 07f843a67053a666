-- From what a command comes to, to what is to be printed.
use Rattle.std.proofs.Common.{◌≡◌, ◌≢◌, ℕ, Bool, true, false, List, [], Option, Result, Ok, Err, OnOk, OnErr, refl, sym, ap, subst, ◌∙◌, ◌⊎◌, inl, inr, arith}
use Rattle.std.specs.Prelude.{⊤}
use Rattle.std.specs.Cow.{cow_slice_items}
use Rattle.std.specs.Io.KnownBytes.{Appends}
use Rattle.std.proofs.lemmas.Bool.{true≢false}
use Rattle.bridge_ports.specs.Outside.{Outside}
use Rattle.bridge_ports.specs.Writing.{WroteFront}
use Rattle.page_model.specs.declared.format.Format.{Format}
use Rattle.replay_script.specs.declared.script.Script.{Script}
use Rattle.bridge_cli.specs.declared.answer.Printed.{Printed}
use Rattle.bridge_cli.specs.declared.answer.Printed.TheVariants.{Whole, Tree, Bodies, Report}
use Rattle.script_commands.specs.declared.replaying.Cut.{Cut}
use Rattle.script_commands.specs.declared.replaying.Cut.TheVariants as cuts
use Rattle.program_words.specs.declared.status.Status.{Status}
use Rattle.program_words.specs.declared.status.Status.TheVariants as statuses
use Rattle.program_words.specs.declared.stop.Stop.{Stop}
use Rattle.program_words.specs.declared.stop.Stop.TheVariants as stops
use Rattle.program_words.specs.declared.words.Command.{Command}
use Rattle.program_words.specs.declared.words.Command.TheVariants.{OverPage, Replay, Run, Load}
use Rattle.program_words.specs.declared.words.PageCommand.{PageCommand}
use Rattle.program_words.specs.Statuses.{code_of, IsUntold, TellsFault}
use Rattle.program_words.specs.CommandWords.{command_row, uses_shelf}
use Rattle.program_words.specs.StopAnswers.{IsStopAnswer, said, wanting, StopsAs}
use Rattle.program_words.specs.InputAnswers.{HasAnswer}
use Rattle.program_words.proofs.Laws.{same_text, stop_undone, stop_written, stop_formed, stop_untold, any_bytes, tells_fault}
use Rattle.series_select.specs.declared.selector.Selector.{Selector}
use Rattle.replay_script.specs.RightScripts.{IsRightScript}
use Rattle.load_pages.specs.GeneratedScripts.{generated_script, TakesAllBodies}
use Rattle.page_commands.specs.PageAnswers.{page_setting, IsPageAnswer}
use Rattle.page_commands.specs.PageTexts.{command_text}
use Rattle.script_commands.specs.Loads.{IsLoadReport, MayBeReported}
use Rattle.script_commands.specs.ScriptAnswers.{script_done, IsReportAnswer}
use Rattle.script_commands.specs.Printing.{cut_status, CutCause, CutsScript, PrintsReport, HoldsScript}
use Rattle.run_command.specs.RunReports.{IsReportOfRun}
use Rattle.run_command.specs.RunAnswers.{run_status, run_over}
use Rattle.bridge_cli.specs.Answers.{Answers, Says, SaysPieces, answers, unread, in_part}
use Rattle.bridge_cli.specs.Answers as spec
use Rattle.bridge_cli.specs.Printed.{Gives, GivesPart, IsNothing, IsPrintable, IsWhole, Ended, printed, stopped, AnswersVisits, IsPrintedOf, IsStopPrinted, IsPageTextPrinted, IsReportPrinted, IsStatusSoFar}
use Rattle.bridge_cli.specs.Printed as ends

-- ---- what is to be printed

-- all is made before it is printed, or not
pub whole_or_not : (p : Printed) → IsWhole p ⊎ (¬ IsWhole p)
whole_or_not (Whole t) = inl tt
whole_or_not (Tree request) = inl tt
whole_or_not (Bodies script scrapers page) = inr (λ none. none)
whole_or_not (Report script) = inr (λ none. none)

-- a front may be printed of what is printed whole
pub whole_part : (p : Printed) (text : List ℕ) → IsWhole p → GivesPart p text → Gives p text
whole_part (Whole t) text is e = e
whole_part (Tree request) text is e = e
whole_part (Bodies script scrapers page) text is e = absurd is
whole_part (Report script) text is e = absurd is

-- it can be printed
whole_printable : (p : Printed) → IsWhole p → IsPrintable statuses.Done p
whole_printable (Whole t) is = tt
whole_printable (Tree request) is = tt
whole_printable (Bodies script scrapers page) is = absurd is
whole_printable (Report script) is = absurd is

-- and its command puts nothing on a shelf
whole_visits : (command : Command) (left : Option (List ℕ)) (p : Printed) → IsWhole p → (command_row command).uses ≢ uses_shelf → AnswersVisits command left p
whole_visits command left (Whole t) is none = none
whole_visits command left (Tree request) is none = none
whole_visits command left (Bodies script scrapers page) is none = absurd is
whole_visits command left (Report script) is none = absurd is

-- an answer is what a command comes to
says_answer : (command : Command) (before after : Outside) (left : Option (List ℕ)) (status : ℕ) (text : List ℕ) → HasAnswer (Answers command before after) left status text → HasAnswer (Says command before after) left status text
says_answer command before after left status text has = record { bytes = has.bytes; on_input = has.on_input; says = answers status text has.says }

-- and so is what it printed in pieces
pub says_pieces : (command : Command) (before after : Outside) (left : Option (List ℕ)) (text : List ℕ) → HasAnswer (SaysPieces command before after) left (code_of statuses.WantOfMemory) text
    → HasAnswer (Says command before after) left (code_of statuses.WantOfMemory) text
says_pieces command before after left text has = record { bytes = has.bytes; on_input = has.on_input; says = elim has.says [ inl whole ↦ answers _ text whole | inr part ↦ in_part text part ] }

-- a command that is done wants no memory
not_done : {A : Type 0} → statuses.Done ≡ statuses.WantOfMemory → A
not_done e = absurd (let both : statuses.Done ≡ statuses.WantOfMemory = e in cc)

-- a text that a command over an input made
pub whole_printed : (command : Command) (left : Option (List ℕ)) (before after : Outside) (p : Printed) → IsWhole p → (command_row command).uses ≢ uses_shelf
    → ((now : Outside) (text : List ℕ) → Gives p text → HasAnswer (Answers command before now) left (code_of statuses.Done) text) → IsPrintedOf command left before after statuses.Done p
whole_printed command left before after p is none gives = record {
  gives = λ now same text e. says_answer command before now left (code_of statuses.Done) text (gives now text e);
  parts = λ now text e other. absurd (other is);
  pieces = λ now same wants text e. not_done wants;
  printable = whole_printable p is;
  whole = λ _. is;
  shelves = λ other. absurd (other is);
  visits = λ _. whole_visits command left p is none;
}

-- the text of a page
pub page_text_printed : (format : Format) (what : PageCommand) (left : Option (List ℕ)) (before after : Outside) (text : List ℕ) (p : Printed) → IsPageTextPrinted text p
    → HasAnswer (IsPageAnswer (page_setting format) (command_text what)) left (code_of statuses.Done) text → IsPrintedOf (OverPage format what) left before after statuses.Done p
page_text_printed format what left before after text (Whole t) is has =
    whole_printed (OverPage format what) left before after (Whole t) tt (λ e. absurd cc) (λ now u e. same_text (IsPageAnswer (page_setting format) (command_text what)) left _ text u has (e ∙ is))
page_text_printed format what left before after text (Tree request) is has =
    whole_printed (OverPage format what) left before after (Tree request) tt (λ e. absurd cc) (λ now u e. same_text (IsPageAnswer (page_setting format) (command_text what)) left _ text u has (e ∙ is))
page_text_printed format what left before after text (Bodies script scrapers page) is has = absurd is
page_text_printed format what left before after text (Report script) is has = absurd is

-- the report of a run
pub report_printed_of : (path : List ℕ) (left : Option (List ℕ)) (before after : Outside) (text : List ℕ) (halted : Bool) (status : Status) (p : Printed) → IsReportOfRun path before after text halted → status ≡ run_status halted
    → IsReportPrinted text p → IsPrintedOf (Run path) left before after status p
report_printed_of path left before after text halted status (Whole t) report is same = record {
  gives = gives;
  parts = λ now u e other. absurd (other tt);
  pieces = λ now same_now wants u e. inr (pieces now same_now wants u e);
  printable = tt;
  whole = λ _. tt;
  shelves = λ other. absurd (other tt);
  visits = λ _ e. absurd cc;
}
  where
    gives : (now : Outside) → (⊤ → now ≡ after) → (u : List ℕ) → u ≡ cow_slice_items t → HasAnswer (Says (Run path) before now) left (code_of status) u
    gives now same_now u e =
        let At : Outside → Type 0 = λ o. HasAnswer (Says (Run path) before o) left (code_of status) u in
        let Stat : Status → Type 0 = λ s. HasAnswer (Says (Run path) before after) left (code_of s) u in
        let Text : List ℕ → Type 0 = λ v. HasAnswer (Says (Run path) before after) left (code_of (run_status halted)) v in
        subst At (sym (same_now tt)) (subst Stat (sym is) (subst Text (sym (e ∙ same)) (any_bytes (Says (Run path) before after) left (code_of (run_status halted)) text (λ bytes. answers _ text (run_over text halted report)))))

    pieces : (now : Outside) → (⊤ → now ≡ after) → status ≡ statuses.WantOfMemory → (u : List ℕ) → u ≡ cow_slice_items t → HasAnswer (SaysPieces (Run path) before now) left (code_of statuses.WantOfMemory) u
    pieces now same_now wants u e =
        let At : Outside → Type 0 = λ o. HasAnswer (SaysPieces (Run path) before o) left (code_of statuses.WantOfMemory) u in
        let Stat : Status → Type 0 = λ s. HasAnswer (SaysPieces (Run path) before after) left (code_of s) u in
        let Text : List ℕ → Type 0 = λ v. HasAnswer (SaysPieces (Run path) before after) left (code_of (run_status halted)) v in
        subst At (sym (same_now tt)) (subst Stat (sym is ∙ wants) (subst Text (sym (e ∙ same)) (any_bytes (SaysPieces (Run path) before after) left (code_of (run_status halted)) text (λ bytes. inl (run_over text halted report)))))
report_printed_of path left before after text halted status _ report is same = absurd same

-- the bodies of a script
pub bodies_printed : (said_scrapers : Option ℕ) (page : Option (List Selector)) (left : Option (List ℕ)) (before after : Outside) (script : Script) (scrapers : ℕ) → HoldsScript left script
    → IsPrintedOf (Replay said_scrapers page) left before after statuses.Done (Bodies script scrapers page)
bodies_printed said_scrapers page left before after script scrapers holds = record {
  gives = λ now same text is. record { bytes = holds.bytes; on_input = holds.on_input; says = answers _ text (script_done script text holds.is is) };
  parts = λ now text is other. record { bytes = holds.bytes; on_input = holds.on_input; says = inr (script, holds.is, is) };
  pieces = λ now same wants text e. not_done wants;
  printable = (holds.right, refl);
  whole = λ e. absurd (true≢false e);
  shelves = λ _. refl;
  visits = λ _ text is. record { bytes = holds.bytes; on_input = holds.on_input; visits = holds.is; says = λ b a. script_done script text holds.is is };
}

-- the report of a load
pub report_printed : (number targets rounds : ℕ) (left : Option (List ℕ)) (before after : Outside) (script : Script) → script ≡ generated_script number targets rounds → IsRightScript script → TakesAllBodies script
    → IsPrintedOf (Load number targets rounds) left before after statuses.Done (Report script)
report_printed number targets rounds left before after script same right taken = record {
  gives = λ now same_now text is. any_bytes (Says (Load number targets rounds) before now) left (code_of statuses.Done) text (λ bytes. answers _ text (says text is));
  parts = λ now text is other. any_bytes (SaysPieces (Load number targets rounds) before now) left (code_of statuses.WantOfMemory) text (λ bytes. inr (part text is));
  pieces = λ now same_now wants text e. not_done wants;
  printable = (right, taken, refl);
  whole = λ e. absurd (true≢false e);
  shelves = λ _. refl;
  visits = λ _ text is. let has = any_bytes (λ bytes. IsReportAnswer (generated_script number targets rounds)) left (code_of statuses.Done) text (λ bytes. says text is) in
      record { bytes = has.bytes; on_input = has.on_input; visits = same; says = λ b a. says text is };
}
  where
    says : (text : List ℕ) → IsLoadReport script text → IsReportAnswer (generated_script number targets rounds) (code_of statuses.Done) text
    says text is = record { done = refl; reports = subst (λ (s : Script). IsLoadReport s text) same is }

    part : (text : List ℕ) → MayBeReported script text ⊎ IsLoadReport script text → MayBeReported (generated_script number targets rounds) text ⊎ IsLoadReport (generated_script number targets rounds) text
    part text is = subst (λ (s : Script). MayBeReported s text ⊎ IsLoadReport s text) same is

-- ---- stops

-- the answer of a stop as a text
pub stop_whole : (stop : Stop) (status : Status) (p : Printed) → IsStopPrinted stop status p → (text : List ℕ) × IsStopAnswer stop status text
stop_whole stop status (Whole t) is = (_, is)
stop_whole stop status _ is = absurd is

-- its status is neither that of a failed write nor that of words that fit no form
pub stop_statuses : (stop : Stop) (status : Status) (p : Printed) → IsStopPrinted stop status p → (status ≢ statuses.WriteFailed) × (status ≢ statuses.NoForm)
stop_statuses stop status p is = let answer = stop_whole stop status p is in (stop_written stop status answer.0 answer.1, stop_formed stop status answer.0 answer.1)

-- what a command comes to that stops
stop_says : (command : Command) (before after : Outside) (left : Option (List ℕ)) (stop : Stop) (status : Status) (text : List ℕ) → IsStopAnswer stop status text → StopsAs (Answers command before after) left stop
    → HasAnswer (Says command before after) left (code_of status) text
stop_says command before after left stops.Read status text said has = any_bytes (Says command before after) left _ [] (λ bytes. unread)
stop_says command before after left stops.Memory status text said has = any_bytes (Says command before after) left _ [] (λ bytes. spec.wanting)
stop_says command before after left stop status text (wanting takes) has = any_bytes (Says command before after) left _ [] (λ bytes. spec.wanting)
stop_says command before after left _ status text said has = says_answer command before after left _ _ has

pub stop_printed : (command : Command) (left : Option (List ℕ)) (before after : Outside) (stop : Stop) (status : Status) (p : Printed) → IsStopPrinted stop status p → StopsAs (Answers command before after) left stop
    → IsPrintedOf command left before after status p
stop_printed command left before after stop status (Whole t) is stops = record {
  gives = gives;
  parts = λ now text e other. absurd (other tt);
  pieces = λ now same wants text e. inl (stop_untold stop status _ is (inr (ap code_of wants)));
  printable = tt;
  whole = λ _. tt;
  shelves = λ other. absurd (other tt);
  visits = λ done. absurd (stop_undone stop status _ is done);
}
  where
    gives : (now : Outside) → (⊤ → now ≡ after) → (text : List ℕ) → text ≡ cow_slice_items t → HasAnswer (Says command before now) left (code_of status) text
    gives now same text e =
        let At : Outside → Type 0 = λ o. HasAnswer (Says command before o) left (code_of status) text in
        subst At (sym (same tt)) (same_text (Says command before after) left (code_of status) _ text (stop_says command before after left stop status _ is stops) e)
stop_printed command left before after stop status _ is stops = absurd is

-- where a read failed or memory was wanting, nothing is to be printed
pub stop_nothing : (stop : Stop) (status : Status) (p : Printed) → IsStopPrinted stop status p → IsUntold (code_of status) → IsNothing p
stop_nothing stop status (Whole t) is untold = stop_untold stop status _ is untold
stop_nothing stop status _ is untold = absurd is

-- ---- the status of what is over

pub over_statuses : (command : Command) (status : Status) → IsStatusSoFar command status → (status ≢ statuses.WriteFailed) × (status ≢ statuses.NoForm)
over_statuses command status (inl done) = (λ e. let both : statuses.Done ≡ statuses.WriteFailed = sym done ∙ e in absurd cc, λ e. let both : statuses.Done ≡ statuses.NoForm = sym done ∙ e in absurd cc)
over_statuses command status (inr some) =
    (λ e. let both : statuses.WantOfMemory ≡ statuses.WriteFailed = sym some.0 ∙ e in absurd cc, λ e. let both : statuses.WantOfMemory ≡ statuses.NoForm = sym some.0 ∙ e in absurd cc)

pub over_read : (command : Command) (status : Status) → IsStatusSoFar command status → status ≢ statuses.ReadFailed
over_read command status (inl done) e = let both : statuses.Done ≡ statuses.ReadFailed = sym done ∙ e in absurd cc
over_read command status (inr some) e = let both : statuses.WantOfMemory ≡ statuses.ReadFailed = sym some.0 ∙ e in absurd cc

pub over_memory : (command : Command) (status : Status) → IsStatusSoFar command status → status ≡ statuses.WantOfMemory → (command_row command).prints_pieces ≡ true
over_memory command status (inl done) e = let both : statuses.Done ≡ statuses.WantOfMemory = sym done ∙ e in absurd cc
over_memory command status (inr some) e = some.1

-- ---- printing

-- a text was printed
pub print_done : (status : Status) (p q : Printed) (before after : Option (List ℕ)) (result : ℕ) (text : List ℕ) → p ≡ q → Gives q text → Appends before after text → result ≡ code_of status
    → Ended status p before after result
print_done status p q before after result text same gives written e =
    let Given : Printed → Type 0 = λ x. Gives x text in
    let At : ℕ → Type 0 = λ r. Ended status p before after r in
    subst At (sym e) (printed text (subst Given (sym same) gives) written)

-- a write failed
pub print_front : (status : Status) (p q : Printed) (before after : Option (List ℕ)) (result : ℕ) (text : List ℕ) → p ≡ q → GivesPart q text → WroteFront before after text
    → result ≡ code_of statuses.WriteFailed → Ended status p before after result
print_front status p q before after result text same gives front e =
    let Given : Printed → Type 0 = λ x. GivesPart x text in
    let At : ℕ → Type 0 = λ r. Ended status p before after r in
    subst At (sym e) (stopped text (subst Given (sym same) gives) front)

-- a text was printed at once, or a write failed
pub print_at_once : {E : Type 0} (status : Status) (p q : Printed) (before after : Option (List ℕ)) (result : ℕ) (text : List ℕ) (written : Result ⊤ E) → p ≡ q → Gives q text → GivesPart q text
    → OnOk written (Appends before after text) → OnErr written (WroteFront before after text) → OnOk written (result ≡ code_of status) → OnErr written (result ≡ code_of statuses.WriteFailed)
    → Ended status p before after result
print_at_once status p q before after result text (Ok done) same gives part all front e f = print_done status p q before after result text same gives all e
print_at_once status p q before after result text (Err fault) same gives part all front e f = print_front status p q before after result text same part front f

-- printing a script was cut off
pub print_cut : (status : Status) (p : Printed) (script : Script) (scrapers : ℕ) (page : Option (List Selector)) (before after : Option (List ℕ)) (result : ℕ) (cut : Cut) → p ≡ Bodies script scrapers page
    → CutsScript page script before after cut
    → result ≡ code_of (cut_status cut) → Ended status p before after result
print_cut status p script scrapers page before after result cuts.Write same next e = print_front status p (Bodies script scrapers page) before after result next.0 same next.1 next.2 e
print_cut status p script scrapers page before after result cuts.Memory same next e =
    let Given : Printed → Type 0 = λ x. GivesPart x next.0 in
    let At : ℕ → Type 0 = λ r. Ended status p before after r in
    let InPieces : Printed → Type 0 = λ x. ¬ IsWhole x in
    subst At (sym e) (ends.wanting next.0 (subst Given (sym same) next.1) next.2 (subst InPieces (sym same) (λ whole. whole)))

-- printing a report was cut off
pub print_report_cut : (status : Status) (p : Printed) (script : Script) (before after : Option (List ℕ)) (result : ℕ) (cut : Cut) → p ≡ Report script → PrintsReport script before after (Err cut)
    → result ≡ code_of (cut_status cut) → Ended status p before after result
print_report_cut status p script before after result cuts.Write same next e = print_front status p (Report script) before after result next.0 same next.1 next.2 e
print_report_cut status p script before after result cuts.Memory same next e =
    let Given : Printed → Type 0 = λ x. GivesPart x next.0 in
    let At : ℕ → Type 0 = λ r. Ended status p before after r in
    let InPieces : Printed → Type 0 = λ x. ¬ IsWhole x in
    subst At (sym e) (ends.wanting next.0 (subst Given (sym same) next.1) next.2 (subst InPieces (sym same) (λ whole. whole)))

-- the count of writes that failed rose only where one cut off printing
pub cut_fault : (before now result : ℕ) (cut : Cut) → CutCause {T = ⊤} before now (Err cut) → result ≡ code_of (cut_status cut) → TellsFault (code_of statuses.WriteFailed) result before now
cut_fault before now result cuts.Write cause e = tells_fault _ _ before now (λ _. cause) (λ other. absurd (other e))
cut_fault before now result cuts.Memory cause e = tells_fault _ _ before now (λ f. absurd (omega (arith, e, f))) (λ _. cause)
