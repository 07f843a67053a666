-- What a room holds of a line.
-- The bridge's own.
use Rattle.std.specs.Prelude.{ℕ, List}
use Rattle.label_sets.specs.declared.label.Label.{Label}
use Rattle.page_model.specs.declared.format.Format.{Format}
use Rattle.line_scan.specs.declared.head.Head.{Head}
use Rattle.line_scan.specs.declared.line_room.LineRoom.{LineRoom}
use Rattle.line_scan.specs.LineHeads.{IsFrontOf, IsHead, AreHeld}

-- these labels were read into a room
abbrev pub HasLabels : LineRoom → List Label → Type 0
HasLabels room labels = AreHeld room.labels.items room.set labels

-- the labels behind this front were read into a room
pub record HasReadHead (f : Format) (room : LineRoom) (head : Head) : Type 0 where
  pub labels : List Label
  pub front : IsFrontOf f labels head
  pub held : HasLabels room labels

-- these parts are the head of a line, whose labels were read into a room
pub record IsHeadIn (f : Format) (bytes : List ℕ) (room : LineRoom) (head : Head) : Type 0 where
  pub labels : List Label
  pub is_head : IsHead f bytes labels head
  pub held : HasLabels room labels
