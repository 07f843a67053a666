-- Streams over the readers and writers of the standard library.
-- The bridge's own.
use Rattle.std.specs.Prelude.{ℕ}

-- the stream, and how many calls on it failed
pub record Edge (Stream : Type 0) : Type 0 where
  pub stream : Stream
  pub faults : ℕ
