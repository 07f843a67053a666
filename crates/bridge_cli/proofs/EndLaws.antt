-- From how printing ended, to what the command did.
use Rattle.std.proofs.Common.{◌≡◌, ◌≢◌, ℕ, Bool, true, false, List, [], ◌∷◌, ◌++◌, Option, refl, sym, ap, subst, ◌∙◌, ◌⊎◌, inl, inr, arith}
use Rattle.bridge_ports.specs.Outside.{Outside}
use Rattle.bridge_ports.specs.Worlds.{ShelvedPair}
use Rattle.bridge_ports.specs.Writing.{WroteFront}
use Rattle.program_words.specs.declared.status.Status.{Status}
use Rattle.program_words.specs.declared.status.Status.TheVariants as statuses
use Rattle.program_words.specs.declared.words.Command.{Command}
use Rattle.program_words.specs.Statuses.{code_of, IsStatus, IsTold, IsUntold, TellsFault}
use Rattle.program_words.specs.CommandWords.{WorldUse, uses_nothing, uses_shelf, uses_wires, command_row, takes_memory}
use Rattle.program_words.proofs.Laws.{same_code, done_told, told_or_not, pieces_take, tells_fault}
use Rattle.script_commands.specs.Shelves.{KeepsAllButShelf}
use Rattle.run_command.specs.RunAnswers.{IsRunLeft}
use Rattle.run_command.proofs.Laws.{cut_left, files_stay}
use Rattle.bridge_cli.specs.declared.answer.Printed.{Printed}
use Rattle.bridge_cli.specs.declared.answer.Printed.TheVariants.{Whole, Tree, Bodies, Report}
use Rattle.bridge_cli.specs.CommandReads.{ChangesOnly, IsAlone, LeavesUsed}
use Rattle.bridge_cli.specs.CommandRuns.{written_whole, written_part, WritesAnswer, WritesPieces, ShelvesVisits}
use Rattle.bridge_cli.specs.Printed.{Gives, GivesPart, IsNothing, IsPrintable, IsWhole, IsShelved, Ended, printed, stopped, wanting, AnswersVisits, IsPrintedOf}
use Rattle.bridge_cli.proofs.PrintLaws.{whole_or_not, whole_part, says_pieces}

-- ---- texts

-- nothing is left of an empty text
none_left : (front rest : List ℕ) → [] ≡ front ++ rest → rest ≡ []
none_left [] rest e = sym e
none_left (x ∷ xs) rest e = cc

-- of an empty text no front is written that leaves something
no_front : (before after : Option (List ℕ)) (text : List ℕ) → WroteFront before after text → text ≡ [] → ⊥
no_front before after text wrote none = wrote.some_left (none_left wrote.front wrote.rest (sym none ∙ wrote.text))

-- nothing is left of nothing
nothing_part : (p : Printed) (text : List ℕ) → IsNothing p → GivesPart p text → text ≡ []
nothing_part (Whole t) text none e = e ∙ none
nothing_part _ text none e = absurd none

-- of nothing no front is written that leaves something
no_front_of : (p : Printed) (text : List ℕ) (before after : Option (List ℕ)) → IsNothing p → GivesPart p text → WroteFront before after text → ⊥
no_front_of p text before after none gives front = no_front before after text front (nothing_part p text none gives)

-- what isn't whole is of a command that is done
pieces_done : (status : Status) (p : Printed) → IsPrintable status p → ¬ IsWhole p → status ≡ statuses.Done
pieces_done status (Whole t) right other = absurd (other tt)
pieces_done status (Tree request) right other = absurd (other tt)
pieces_done status (Bodies script scrapers page) right other = right.1
pieces_done status (Report script) right other = right.2

-- a test that does not fail passes
passes : (b : Bool) → (b ≡ false → ⊥) → b ≡ true
passes true other = refl
passes false other = absurd (other refl)

-- ---- what was written

-- the status is one of the program's, and not that of words that fit no form
pub ended_status : (status : Status) (p : Printed) (before after : Option (List ℕ)) (result : ℕ) → status ≢ statuses.NoForm → Ended status p before after result → IsStatus result × (result ≢ code_of statuses.NoForm)
ended_status status p before after result other (printed text gives written) = ((status, refl), λ e. other (same_code status statuses.NoForm e))
ended_status status p before after result other (stopped text gives front) = ((statuses.WriteFailed, refl), λ e. omega (arith, e))
ended_status status p before after result other (wanting text gives written pieces) = ((statuses.WantOfMemory, refl), λ e. omega (arith, e))

-- the text of what the command came to was written, whole or in part
pub ended_answered : (command : Command) (left : Option (List ℕ)) (before after now : Outside) (status : Status) (p : Printed) (held written_now : Option (List ℕ)) (result : ℕ) → IsPrintedOf command left before after status p
    → (IsWhole p → now ≡ after) → Ended status p held written_now result → WritesAnswer command left before now held written_now result
ended_answered command left before after now status p held written_now result of same (printed text gives written) =
    record { status = code_of status; text = text; says = of.gives now same text gives; written = written_whole written }
ended_answered command left before after now status p held written_now result of same (wanting text gives written other) =
    record { status = code_of statuses.WantOfMemory; text = text; says = says_pieces command before now left text (of.parts now text gives other); written = written_whole written }
ended_answered command left before after now status p held written_now result of same (stopped text gives front) = by (whole_or_not p)
  where
    by : IsWhole p ⊎ (¬ IsWhole p) → WritesAnswer command left before now held written_now (code_of statuses.WriteFailed)
    by (inl is) = record { status = code_of status; text = text; says = of.gives now same text (whole_part p text is gives); written = written_part front }
    by (inr other) = record { status = code_of statuses.WantOfMemory; text = text; says = says_pieces command before now left text (of.parts now text gives other); written = written_part front }

-- at a failed read nothing was to be printed
pub ended_read : (status : Status) (p : Printed) (before after : Option (List ℕ)) (result : ℕ) → (status ≡ statuses.ReadFailed → IsNothing p) → Ended status p before after result
    → result ≡ code_of statuses.ReadFailed → IsNothing p
ended_read status p before after result unread (printed text gives written) e = unread (same_code status statuses.ReadFailed e)
ended_read status p before after result unread (stopped text gives front) e = absurd (omega (arith, e))
ended_read status p before after result unread (wanting text gives written other) e = absurd (omega (arith, e))

-- nor at want of memory, but the pieces that were made were written
pub ended_memory : (command : Command) (left : Option (List ℕ)) (before after now : Outside) (status : Status) (p : Printed) (held written_now : Option (List ℕ)) (result : ℕ) → IsPrintedOf command left before after status p
    → (IsWhole p → now ≡ after) → (status ≡ statuses.WantOfMemory → IsNothing p ⊎ ((command_row command).prints_pieces ≡ true)) → Ended status p held written_now result → result ≡ code_of statuses.WantOfMemory
    → IsNothing p ⊎ WritesPieces command left before now held written_now
ended_memory command left before after now status p held written_now result of same none (printed text gives written) e = by (none wants)
  where
    wants : status ≡ statuses.WantOfMemory
    wants = same_code status statuses.WantOfMemory e

    by : IsNothing p ⊎ ((command_row command).prints_pieces ≡ true) → IsNothing p ⊎ WritesPieces command left before now held written_now
    by (inl nothing) = inl nothing
    by (inr in_pieces) = elim (of.pieces now same wants text gives) [
      | inl nothing ↦ inl nothing
      | inr says ↦ inr (record { in_pieces = in_pieces; text = text; says = says; written = written })
    ]
ended_memory command left before after now status p held written_now result of same none (stopped text gives front) e = absurd (omega (arith, e))
ended_memory command left before after now status p held written_now result of same none (wanting text gives written other) e =
    inr (record { in_pieces = passes (command_row command).prints_pieces (λ f. other (of.whole f)); text = text; says = of.parts now text gives other; written = written })

-- a command that takes no memory
pub ended_ready : (command : Command) (status : Status) (p : Printed) (before after : Option (List ℕ)) (result : ℕ) → ((command_row command).prints_pieces ≡ false → IsWhole p) → takes_memory command ≡ false
    → status ≢ statuses.WantOfMemory → Ended status p before after result → result ≢ code_of statuses.WantOfMemory
ended_ready command status p before after result whole none other (printed text gives written) e = other (same_code status statuses.WantOfMemory e)
ended_ready command status p before after result whole none other (stopped text gives front) e = omega (arith, e)
ended_ready command status p before after result whole none other (wanting text gives written pieces) e = pieces (whole (pieces_take command none))

-- ---- what was read

-- what is true at the statuses with a text, and where something is to be printed, is true where something was written, or all
pub ended_through : (Through : Type 0) (status : Status) (p : Printed) (before after : Option (List ℕ)) (result : ℕ) → status ≢ statuses.WriteFailed → (IsTold (code_of status) ⊎ (¬ IsNothing p) → Through)
    → Ended status p before after result → ¬ IsUntold result → Through
ended_through Through status p before after result other through (printed text gives written) some = elim (told_or_not status other) [ inl told ↦ through (inl told) | inr none ↦ absurd (some none) ]
ended_through Through status p before after result other through (stopped text gives front) some = through (inr (λ none. no_front_of p text before after none gives front))
ended_through Through status p before after result other through (wanting text gives written pieces) some = absurd (some (inr refl))

-- what is true unless the input was too long is true at the statuses without a text
pub ended_in_part : (Part : Type 0) (status : Status) (p : Printed) (before after : Option (List ℕ)) (result : ℕ) → IsPrintable status p → (status ≢ statuses.TooLong → Part) → Ended status p before after result
    → IsUntold result → Part
ended_in_part Part status p before after result right part (printed text gives written) untold = part (λ e. absurd (long_told (subst (λ s. IsUntold (code_of s)) e untold)))
  where
    long_told : IsUntold (code_of statuses.TooLong) → ⊥
    long_told untold = omega (arith, untold)
ended_in_part Part status p before after result right part (stopped text gives front) untold = absurd (omega (arith, untold))
ended_in_part Part status p before after result right part (wanting text gives written pieces) untold =
    let done = pieces_done status p right pieces in
    part (λ e. let both : statuses.Done ≡ statuses.TooLong = sym done ∙ e in cc)

-- the count of failed reads
pub ended_fault : (status : Status) (p : Printed) (before after : Option (List ℕ)) (result read now : ℕ) → IsPrintable status p → (status ≡ statuses.ReadFailed → IsNothing p)
    → TellsFault (code_of statuses.ReadFailed) (code_of status) read now → Ended status p before after result → TellsFault (code_of statuses.ReadFailed) result read now
ended_fault status p before after result read now right unread tells (printed text gives written) = tells
ended_fault status p before after result read now right unread tells (stopped text gives front) =
    tells_fault _ _ read now (λ e. absurd (omega (arith, e))) (λ _. tells.kept (λ e. no_front_of p text before after (unread (same_code status statuses.ReadFailed e)) gives front))
ended_fault status p before after result read now right unread tells (wanting text gives written pieces) =
    let told = done_told status (pieces_done status p right pieces) in tells_fault _ _ read now (λ e. absurd (omega (arith, e))) (λ _. tells.kept told.0)

-- ---- what became of the world

-- what a run left, by the status of the process
run_ended : (path : List ℕ) (before after : Outside) (status : Status) (p : Printed) (held written_now : Option (List ℕ)) (result : ℕ) → IsWhole p → IsRunLeft path before after (code_of status)
    → Ended status p held written_now result → IsRunLeft path before after result
run_ended path before after status p held written_now result is left (printed text gives written) = left
run_ended path before after status p held written_now result is left (stopped text gives front) = cut_left path before after (code_of status) left
run_ended path before after status p held written_now result is left (wanting text gives written other) = absurd (other is)

-- at most what the command uses changed
pub ended_changes : {W : Type 0} (used : WorldUse) (seen : W → Outside) (old mid new : W) (status : Status) (p : Printed) (held written_now : Option (List ℕ)) (result : ℕ) → (¬ IsWhole p → used ≡ uses_shelf)
    → LeavesUsed used (seen old) (seen mid) (code_of status) → IsAlone used old mid → (IsWhole p → new ≡ mid) → KeepsAllButShelf (seen mid) (seen new) → Ended status p held written_now result
    → ChangesOnly used (seen old) (seen new) result
ended_changes uses_nothing seen old mid new status p held written_now result shelves left alone unused kept ended = elim (whole_or_not p) [
  | inl is ↦ ap seen (unused is ∙ alone)
  | inr other ↦ absurd (let e : uses_nothing ≡ uses_shelf = shelves other in cc)
]
ended_changes uses_shelf seen old mid new status p held written_now result shelves left alone unused kept ended =
    let From : Outside → Type 0 = λ o. KeepsAllButShelf o (seen new) in subst From (ap seen alone) kept
ended_changes (uses_wires path) seen old mid new status p held written_now result shelves left alone unused kept ended = elim (whole_or_not p) [
  | inl is ↦ let To : Outside → Type 0 = λ o. IsRunLeft path (seen old) o result in subst To (sym (ap seen (unused is))) (run_ended path (seen old) (seen mid) status p held written_now result is left ended)
  | inr other ↦ absurd (let e : uses_wires path ≡ uses_shelf = shelves other in cc)
]

-- a world of which nothing is used is left alone
pub ended_kept : {W : Type 0} (used : WorldUse) (old mid new : W) (p : Printed) → (¬ IsWhole p → used ≡ uses_shelf) → IsAlone used old mid → (IsWhole p → new ≡ mid) → used ≡ uses_nothing → new ≡ old
ended_kept uses_nothing old mid new p shelves alone unused is = elim (whole_or_not p) [
  | inl whole ↦ unused whole ∙ alone
  | inr other ↦ absurd (let e : uses_nothing ≡ uses_shelf = shelves other in cc)
]
ended_kept uses_shelf old mid new p shelves alone unused is = absurd cc
ended_kept (uses_wires path) old mid new p shelves alone unused is = absurd cc

-- files stay
pub ended_files : (used : WorldUse) (before after : Outside) (status : ℕ) → ChangesOnly used before after status → after.files ≡ before.files
ended_files uses_nothing before after status same = ap (λ (o : Outside). o.files) same
ended_files uses_shelf before after status kept = ap (λ (o : Outside). o.files) kept
ended_files (uses_wires path) before after status left = files_stay path before after left.asked

-- what was printed of visits that are done: the answer was written, and the wires are on the shelf
pub ended_shelf : (command : Command) (left : Option (List ℕ)) (status : Status) (p : Printed) (before after : Option (List ℕ)) (result : ℕ) (shelf old_shelf shelf_now : Option (List ShelvedPair))
    → (status ≡ statuses.Done → AnswersVisits command left p) → shelf ≡ old_shelf → Ended status p before after result → (result ≡ code_of statuses.Done → IsShelved p shelf shelf_now)
    → result ≡ code_of statuses.Done → (command_row command).uses ≡ uses_shelf → ShelvesVisits command left before after old_shelf shelf_now
ended_shelf command left status p before after result shelf old_shelf shelf_now answers same (stopped text gives front) shelved e visits = absurd (omega (arith, e))
ended_shelf command left status p before after result shelf old_shelf shelf_now answers same (wanting text gives written pieces) shelved e visits = absurd (omega (arith, e))
ended_shelf command left status p before after result shelf old_shelf shelf_now answers same (printed text gives written) shelved e visits =
    let From : Option (List ShelvedPair) → Type 0 = λ s. ShelvesVisits command left before after s shelf_now in
    subst From same (by p gives (answers (same_code status statuses.Done e)) (shelved e))
  where
    by : (q : Printed) → Gives q text → AnswersVisits command left q → IsShelved q shelf shelf_now → ShelvesVisits command left before after shelf shelf_now
    by (Whole t) given none is_shelved = absurd (none visits)
    by (Tree request) given none is_shelved = absurd (none visits)
    by (Bodies script scrapers page) given answer is_shelved = record { script = script; text = text; answer = answer text given; written = written; shelved = is_shelved }
    by (Report script) given answer is_shelved = record { script = script; text = text; answer = answer text given; written = written; shelved = is_shelved }

-- the world of a command that puts wires on the shelf is as it was, before these are there
pub same_shelf : {W : Type 0} (used : WorldUse) (seen : W → Outside) (old mid : W) → IsAlone used old mid → used ≡ uses_shelf → (seen mid).world.shelf ≡ (seen old).world.shelf
same_shelf uses_nothing seen old mid alone is = absurd cc
same_shelf uses_shelf seen old mid alone is = ap (λ w. (seen w).world.shelf) alone
same_shelf (uses_wires path) seen old mid alone is = absurd cc

-- what is true of a world before printing is true behind it, where that is what is printed at once, or of no matter
pub true_on : (P : Outside → Type 0) (p : Printed) (mid now : Outside) → (IsWhole p → now ≡ mid) → (¬ IsWhole p → P mid → P now) → P mid → P now
true_on P p mid now same other is = elim (whole_or_not p) [ inl whole ↦ subst P (sym (same whole)) is | inr pieces ↦ other pieces is ]
