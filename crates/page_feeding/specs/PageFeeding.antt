-- A reader of a page in one of the formats, and which bytes it was fed.
-- Prometheus text format 0.0.4, "Text-based format"; OpenMetrics 1.0, "Overall Structure"; the rules are the bridge's own profile of both.
use Rattle.std.specs.Prelude.{◌≡◌, ℕ, ◌+◌, ◌-◌, ◌^◌, false, ◌<◌, ◌≤◌, take, IfOk, List, [], ◌∷◌, ◌++◌, map, length, Option, Some, None, Result, Ok, Err, ⊤}
use Rattle.page_lines.specs.Feeding.{Feeding}
use Rattle.page_lines.specs.Feeding as feeding
use Rattle.page_lines.specs.Lines.{lines_of, ends_clean}
use Rattle.page_lines.specs.Told.{told_of, whole}
use Rattle.page_model.specs.declared.format.Format.{Format}
use Rattle.page_model.specs.declared.format.Treatment.{Treatment}
use Rattle.page_model.specs.declared.item.Item.{Item}
use Rattle.page_model.specs.declared.page.Page.{Page}
use Rattle.page_model.specs.declared.counts.PageCounts.{PageCounts}
use Rattle.page_model.specs.Counts.{counts_of}
use Rattle.page_feeding.specs.declared.reader.PageEnd.{PageEnd}
use Rattle.page_model.specs.declared.fault.PageFault.{PageFault}
use Rattle.page_model.specs.declared.fault.PageFault.TheVariants as faults
use Rattle.page_model.specs.Written.{Setting, line_limit}
use Rattle.page_model.specs.Faults.{line_fault, lines_fault, with_line, with_lines}
use Rattle.page_model.specs.Pages.{FirstFault, IsPageOf}
use Rattle.page_model.specs.PageReading.{line_read}
use Rattle.family_rules.specs.Checking.{Checking}
use Rattle.family_rules.specs.Checking as checking
use Rattle.line_scan.specs.LineReading.{setting_of}

-- a reader: how it reads, the lines and the items that it took, and what stopped it
pub record Fed : Type 0 where
  pub treatment : Treatment
  pub lines : Feeding
  pub checker : Checking
  pub stopped : Option PageFault

-- the checker goes by this format and treatment, unless it has stopped
abbrev pub GoesBy : Format → Treatment → Checking → Type 0
GoesBy f t c = c.stopped ≡ None → (c.setting.format ≡ f) × (c.setting.treatment ≡ t)

-- the parts of a reader fit together: its lines are as long as the treatment allows, it was fed no more bytes than have a number, and its checker goes by the same format and treatment
pub record FitsTogether (f : Format) (t : Treatment) (lines : Feeding) (c : Checking) : Type 0 where
  pub most : lines.most ≡ line_limit t
  pub few : lines.fed < 2 ^ 32 - 1
  pub goes_by : GoesBy f t c

-- a reader of this format, under this treatment and limit, was fed these bytes and has found no fault
pub record Stands (f : Format) (t : Treatment) (limit : ℕ) (fed : List ℕ) (p : Fed) : Type 0 where
  pub working : p.stopped ≡ None
  pub treatment : p.treatment ≡ t
  pub most : p.lines.most ≡ line_limit t
  pub lines_stand : feeding.Stands fed p.lines
  pub told : List (List ℕ)
  pub told_is : told_of (line_limit t) fed ≡ map whole told
  pub without_fault : lines_fault (setting_of f t limit) [] 1 (map (line_read f) told) ≡ None
  pub checker_stands : checking.Stands (setting_of f t limit) p.checker (with_lines f (map (line_read f) told) [])

-- the reader has refused, or wanted memory, and answers this
abbrev pub HasStopped : PageFault → Fed → Type 0
HasStopped fault p = p.stopped ≡ Some fault

-- the refusal is the first fault of these bytes, however they go on; want of memory is free
abbrev pub Refuses : Setting → List ℕ → PageFault → Type 0
Refuses st fed (faults.Refused line rule) = (more : List ℕ) → FirstFault st (fed ++ more) (line, rule)
Refuses st fed faults.Memory = ⊤

-- what the end of a page answers: its page, or its first fault; want of memory is free
abbrev pub Answers : Setting → List ℕ → Result Page PageFault → Type 0
Answers st fed (Ok page) = IsPageOf st fed page
Answers st fed (Err (faults.Refused line rule)) = FirstFault st fed (line, rule)
Answers st fed (Err faults.Memory) = ⊤

-- a line was read behind these items: its item is taken, or the least rule that it breaks is answered
abbrev pub LineAnswer : Setting → List Item → List ℕ → ℕ → Checking → Result ⊤ PageFault → Type 0
LineAnswer st earlier line number new (Ok u) =
    (line_fault st earlier (line_read st.format line) ≡ None) × checking.Stands st new (with_line st.format (line_read st.format line) earlier)
LineAnswer st earlier line number new (Err (faults.Refused n rule)) = (n ≡ number) × (line_fault st earlier (line_read st.format line) ≡ Some rule)
LineAnswer st earlier line number new (Err faults.Memory) = ⊤

-- the line that was told of last is taken in this format, and nothing else changes
pub record TakesLine (f : Format) (old new : Fed) (result : Result ⊤ PageFault) : Type 0 where
  pub treatment : new.treatment ≡ old.treatment
  pub lines : new.lines ≡ old.lines
  pub stopped : new.stopped ≡ old.stopped
  pub answer : (limit : ℕ) (earlier : List Item) → checking.Stands (setting_of f old.treatment limit) old.checker earlier
      → LineAnswer (setting_of f old.treatment limit) earlier old.lines.line old.lines.number new.checker result

-- what reading a line answered, without the number of bytes that it took
abbrev pub line_result : Result ℕ PageFault → Result ⊤ PageFault
line_result (Ok used) = Ok tt
line_result (Err fault) = Err fault

-- what a step over a piece gives: some of its bytes are taken, or a refusal
abbrev pub StepAnswer : Format → Treatment → ℕ → List ℕ → List ℕ → Fed → Result ℕ PageFault → Type 0
StepAnswer f t limit fed piece new (Ok used) = Stands f t limit (fed ++ take used piece) new × (used < length piece → 0 < used)
StepAnswer f t limit fed piece new (Err fault) = Refuses (setting_of f t limit) (fed ++ piece) fault

-- one step over a piece of this format
pub record TakesStep (f : Format) (old new : Fed) (piece : List ℕ) (result : Result ℕ PageFault) : Type 0 where
  pub taken : IfOk result (λ used. (used ≤ length piece) × (new.lines.fed ≡ old.lines.fed + used))
  pub stopped : new.stopped ≡ old.stopped
  pub answer : (t : Treatment) (limit : ℕ) (fed : List ℕ) → Stands f t limit fed old → StepAnswer f t limit fed piece new result

-- what a piece gives: it is taken, or a refusal
abbrev pub PieceAnswer : Format → Treatment → ℕ → List ℕ → List ℕ → Fed → Result ⊤ PageFault → Type 0
PieceAnswer f t limit fed piece new (Ok u) = Stands f t limit (fed ++ piece) new
PieceAnswer f t limit fed piece new (Err fault) = Refuses (setting_of f t limit) (fed ++ piece) fault

-- a piece of this format is taken, whatever was fed before
abbrev pub TakesPiece : Format → Fed → Fed → List ℕ → Result ⊤ PageFault → Type 0
TakesPiece f old new piece result = (t : Treatment) (limit : ℕ) (fed : List ℕ) → Stands f t limit fed old → PieceAnswer f t limit fed piece new result

-- the bytes end in a line without a line feed, which the reader of lines shows; the lines before it were taken
pub record AtLast (f : Format) (t : Treatment) (limit : ℕ) (fed : List ℕ) (p : Fed) : Type 0 where
  pub treatment : p.treatment ≡ t
  pub told : List (List ℕ)
  pub lines_are : lines_of fed ≡ told ++ p.lines.line ∷ []
  pub number : p.lines.number ≡ 1 + length told
  pub few : length told + 1 < 2 ^ 32 - 1
  pub not_clean : ends_clean fed ≡ false
  pub without_fault : lines_fault (setting_of f t limit) [] 1 (map (line_read f) told) ≡ None
  pub checker_stands : checking.Stands (setting_of f t limit) p.checker (with_lines f (map (line_read f) told) [])

-- the lines of these bytes were all taken, and the checker took them
pub record IsEnded (f : Format) (t : Treatment) (limit : ℕ) (fed : List ℕ) (c : Checking) (e : PageEnd) : Type 0 where
  pub line : e.line ≡ 1 + length (lines_of fed)
  pub clean : e.clean ≡ ends_clean fed
  pub without_fault : lines_fault (setting_of f t limit) [] 1 (map (line_read f) (lines_of fed)) ≡ None
  pub checker_stands : checking.Stands (setting_of f t limit) c (with_lines f (map (line_read f) (lines_of fed)) [])

-- the refusal is the first fault of these bytes; want of memory is free
abbrev pub IsLastFault : Format → Treatment → ℕ → List ℕ → PageFault → Type 0
IsLastFault f t limit fed (faults.Refused line rule) = FirstFault (setting_of f t limit) fed (line, rule)
IsLastFault f t limit fed faults.Memory = ⊤

-- what is answered to the last of the lines: this checker took them all, or the first fault
abbrev pub EndAnswer : Format → Treatment → ℕ → List ℕ → Checking → Result PageEnd PageFault → Type 0
EndAnswer f t limit fed c (Ok e) = IsEnded f t limit fed c e
EndAnswer f t limit fed c (Err fault) = IsLastFault f t limit fed fault

-- the same, where the checker is given too
abbrev pub LastAnswer : Format → Treatment → ℕ → List ℕ → Result (Checking × PageEnd) PageFault → Type 0
LastAnswer f t limit fed (Ok last) = IsEnded f t limit fed last.0 last.1
LastAnswer f t limit fed (Err fault) = IsLastFault f t limit fed fault

-- the page of these bytes has so many families and samples
pub record HasCounts (st : Setting) (fed : List ℕ) (counts : PageCounts) : Type 0 where
  pub page : Page
  pub is_page : IsPageOf st fed page
  pub counted : counts ≡ counts_of page

-- what counting answers: the numbers of the page, or its first fault; want of memory is free
abbrev pub CountAnswers : Setting → List ℕ → Result PageCounts PageFault → Type 0
CountAnswers st fed (Ok counts) = HasCounts st fed counts
CountAnswers st fed (Err (faults.Refused line rule)) = FirstFault st fed (line, rule)
CountAnswers st fed (Err faults.Memory) = ⊤
