-- A reader of lines, and which bytes it was fed.
-- The bridge's own.
use Rattle.std.specs.Prelude.{◌≡◌, ◌≢◌, ℕ, ◌-◌, ◌+◌, ◌^◌, ◌<◌, ◌≤◌, List, [], ◌∷◌, ◌++◌, ◌↔◌, true, length, map, take, slice_get, Some, IsSomeAnd}
use Rattle.page_lines.specs.declared.Place.{Place}
use Rattle.page_lines.specs.declared.Place.TheVariants.{Within, Behind, Passing}
use Rattle.page_lines.specs.declared.Last.{Last}
use Rattle.page_lines.specs.declared.Last.TheVariants.{Clean, Open}
use Rattle.page_lines.specs.declared.Step.{Step}
use Rattle.page_lines.specs.declared.Step.TheVariants.{Line, More, TooLong}
use Rattle.page_lines.specs.Lines.{Plain, ended_lines, open_line, lines_of, ends_clean}
use Rattle.page_lines.specs.Told.{Told, whole, too_long, told_line, told_of}

-- a reader: how many bytes a line may have, how many bytes were fed, the line that was told of last or is under way, its number, and where the bytes fed end
pub record Feeding : Type 0 where
  pub most : ℕ
  pub fed : ℕ
  pub line : List ℕ
  pub number : ℕ
  pub place : Place

-- the fields of a reader fit together, its buffer holding `held` bytes of the `capacity` that it has, none of them a line feed
pub record IsSound (most fed number : ℕ) (place : Place) (line : List ℕ) (held capacity : ℕ) : Type 0 where
  pub short : held ≤ most
  pub room : most ≤ capacity
  pub few : fed < 2 ^ 32 - 1
  pub numbered : number ≤ fed + 1
  pub ended : place ≡ Behind → number ≤ fed
  pub plain : Plain line

-- the bytes fed end within a line that is under way, or in front of it
pub record IsWithin (fed : List ℕ) (at : Feeding) : Type 0 where
  pub number : at.number ≡ length (ended_lines fed) + 1
  pub line : at.line ≡ open_line fed
  pub short : length at.line ≤ at.most

-- the bytes fed end behind the line feed of the line that was told of last
pub record IsBehind (fed : List ℕ) (at : Feeding) : Type 0 where
  pub number : at.number ≡ length (ended_lines fed)
  pub before : List (List ℕ)
  pub last : ended_lines fed ≡ before ++ at.line ∷ []
  pub none : open_line fed ≡ []
  pub short : length at.line ≤ at.most

-- the bytes fed end past the limit of a line
pub record IsPassing (fed : List ℕ) (at : Feeding) : Type 0 where
  pub number : at.number ≡ length (ended_lines fed) + 1
  pub line : at.line ≡ take at.most (open_line fed)
  pub long : at.most < length (open_line fed)

-- the reader is as these bytes leave it, whatever pieces they came in
pub record Stands (fed : List ℕ) (at : Feeding) : Type 0 where
  pub count : at.fed ≡ length fed
  pub within : at.place ≡ Within → IsWithin fed at
  pub behind : at.place ≡ Behind → IsBehind fed at
  pub passing : at.place ≡ Passing → IsPassing fed at

-- the line of the reader's number is the one that the reader has, however the page goes on behind these bytes
abbrev pub HasLine : List ℕ → Feeding → Type 0
HasLine fed at = (rest : List ℕ) → slice_get (lines_of (fed ++ rest)) (at.number - 1) ≡ Some at.line

-- the line of the reader's number is too long, and the reader has its front, however the page goes on behind these bytes
abbrev pub HasLongLine : List ℕ → Feeding → Type 0
HasLongLine fed at = (rest : List ℕ) → IsSomeAnd (slice_get (lines_of (fed ++ rest)) (at.number - 1)) (λ line. (at.most < length line) × (take at.most line ≡ at.line))

-- what a step tells, with the line that the reader then has
abbrev pub told_by : Step → List ℕ → List Told
told_by Line line = whole line ∷ []
told_by More line = []
told_by TooLong line = too_long ∷ []

-- what the end of a page tells beside that: its last line, unless a line feed ended it or it was passed over
abbrev pub told_at_end : Last → Place → List ℕ → List Told
told_at_end Clean place line = []
told_at_end Open Passing line = []
told_at_end Open place line = whole line ∷ []

-- where the bytes fed end after a step that told of a line
abbrev pub IsPlaceAfter : Step → Place → Type 0
IsPlaceAfter Line place = place ≡ Behind
IsPlaceAfter More place = Unit {0}
IsPlaceAfter TooLong place = place ≡ Passing

-- a call took `used` bytes of the piece, up to the first byte at which there is something to tell
pub record IsStep (old new : Feeding) (piece : List ℕ) (used : ℕ) (step : Step) : Type 0 where
  pub same : new.most ≡ old.most
  pub count : new.fed ≡ old.fed + used
  pub taken : used ≤ length piece
  pub some : step ≢ More → 0 < used
  pub place : IsPlaceAfter step new.place
  pub stands : (fed : List ℕ) → Stands fed old → Stands (fed ++ take used piece) new
  pub told : (fed : List ℕ) → Stands fed old → told_of old.most (fed ++ take used piece) ≡ told_of old.most fed ++ told_by step new.line
  pub soonest : step ≢ More → (fed : List ℕ) → Stands fed old → told_of old.most (fed ++ take (used - 1) piece) ≡ told_of old.most fed
  pub all : step ≡ More → used ≡ length piece

-- a call took `used` bytes of the piece and came to a line that is under way, with nothing to tell
pub record Reaches (old new : Feeding) (piece : List ℕ) (used : ℕ) : Type 0 where
  pub same : new.most ≡ old.most
  pub count : new.fed ≡ old.fed + used
  pub taken : used ≤ length piece
  pub place : new.place ≡ Within
  pub stands : (fed : List ℕ) → Stands fed old → Stands (fed ++ take used piece) new
  pub told : (fed : List ℕ) → Stands fed old → told_of old.most (fed ++ take used piece) ≡ told_of old.most fed

-- the page ends here: whether it ends clean, and its last line with its number, or the number past it
pub record IsEnd (fed : List ℕ) (at : Feeding) (result : Last) : Type 0 where
  pub told : map (told_line at.most) (lines_of fed) ≡ told_of at.most fed ++ told_at_end result at.place at.line
  pub clean : (result ≡ Clean) ↔ (ends_clean fed ≡ true)
  pub past : result ≡ Clean → (at.number ≡ length (lines_of fed) + 1) × (at.line ≡ [])
  pub last : result ≡ Open → (at.number ≡ length (lines_of fed)) × IsSomeAnd (slice_get (lines_of fed) (at.number - 1)) (λ line. at.line ≡ take at.most line)
