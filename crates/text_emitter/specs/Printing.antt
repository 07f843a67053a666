-- A text that is written to an output through some room.
-- The bridge's own.
use Rattle.std.specs.Prelude.{◌≡◌, ℕ, ◌≤◌, Bool, true, false, List, [], ◌∷◌, ◌++◌, Option}
use Rattle.std.specs.Borrow.{GName}
use Rattle.std.specs.Io.KnownBytes.{Appends}
use Rattle.bridge_ports.specs.Causes.{Rose}
use Rattle.bridge_ports.specs.Writing.{WroteFront}

-- an output, what it held and how many writes had failed before a text, and the text so far
pub record Printing : Type 0 where
  pub name : GName
  pub before : Option (List ℕ)
  pub faults : ℕ
  pub text : List ℕ

-- an output of this name, what it held and how many writes had failed before, and the text so far
abbrev pub printing_to : GName → Option (List ℕ) → ℕ → List ℕ → Printing
printing_to name before faults text = record { name = name; before = before; faults = faults; text = text }

-- the same output, and this text
abbrev pub printing : Printing → List ℕ → Printing
printing p text = record { name = p.name; before = p.before; faults = p.faults; text = text }

-- the text with one byte more
abbrev pub print_push : Printing → ℕ → Printing
print_push p byte = printing p (p.text ++ byte ∷ [])

-- the text was written, but for what is in the room
pub record IsGoingOn (held : Option (List ℕ)) (faults : ℕ) (room : List ℕ) (p : Printing) : Type 0 where
  pub front : List ℕ
  pub text : p.text ≡ front ++ room
  pub written : Appends p.before held front
  pub kept : faults ≡ p.faults

-- a write failed, and a front of the text was written
pub record IsCutOff (held : Option (List ℕ)) (faults : ℕ) (p : Printing) : Type 0 where
  pub written : WroteFront p.before held p.text
  pub rose : Rose p.faults faults
  pub later : p.faults ≤ faults

-- what an output holds, and what is in the room, where a write failed and where none did
pub record Prints (held : Option (List ℕ)) (faults : ℕ) (room : List ℕ) (failed : Bool) (p : Printing) : Type 0 where
  pub going_on : failed ≡ false → IsGoingOn held faults room p
  pub cut_off : failed ≡ true → IsCutOff held faults p

-- a text that was printed before is printed after with these bytes behind it
abbrev pub PrintsOn : (Printing → Type 0) → (Printing → Type 0) → List ℕ → Type 0
PrintsOn before after bytes = (p : Printing) → before p → after (printing p (p.text ++ bytes))
