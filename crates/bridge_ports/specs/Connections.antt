-- A connection to a peer: what is seen of it, and what its calls do.
-- The bridge's own.
use Rattle.std.specs.Prelude.{◌≡◌, ℕ, List, ◌++◌, Option, Result}
use Rattle.std.specs.Io.KnownBytes.{Consumes, Appends, ReadConsumes, WriteAppends}
use Rattle.bridge_ports.specs.Causes.{HasCause, Rose}

-- a connection: the bytes still to come and those that were written, where it tells them, and how many of its reads and writes failed
pub record ConnSeen : Type 0 where
  pub left : Option (List ℕ)
  pub held : Option (List ℕ)
  pub read_faults : ℕ
  pub write_faults : ℕ

-- a connection with these
abbrev pub conn_with : Option (List ℕ) → Option (List ℕ) → ℕ → ℕ → ConnSeen
conn_with left held read_faults write_faults = record { left = left; held = held; read_faults = read_faults; write_faults = write_faults }

-- a read: it takes bytes from the front, none only at their end, and leaves what was written as it was
pub record IsHeard {E : Type 0} (old new : ConnSeen) (result : Result ℕ E) (into : List ℕ) : Type 0 where
  pub bytes : ReadConsumes old.left new.left result into
  pub cause : HasCause old.read_faults new.read_faults result
  pub held : new.held ≡ old.held
  pub writes : new.write_faults ≡ old.write_faults

-- a write: it adds bytes, and leaves what is still to come as it was
pub record IsSaid {E : Type 0} (old new : ConnSeen) (result : Result ℕ E) (piece : List ℕ) : Type 0 where
  pub bytes : WriteAppends old.held new.held result piece
  pub cause : HasCause old.write_faults new.write_faults result
  pub left : new.left ≡ old.left
  pub reads : new.read_faults ≡ old.read_faults

-- these bytes were taken, and no call failed
pub record WereTaken (old new : ConnSeen) (bytes : List ℕ) : Type 0 where
  pub left : Consumes old.left new.left bytes
  pub reads : new.read_faults ≡ old.read_faults
  pub held : new.held ≡ old.held
  pub writes : new.write_faults ≡ old.write_faults

-- these bytes were written, and no call failed
pub record WereWritten (old new : ConnSeen) (bytes : List ℕ) : Type 0 where
  pub held : Appends old.held new.held bytes
  pub writes : new.write_faults ≡ old.write_faults
  pub left : new.left ≡ old.left
  pub reads : new.read_faults ≡ old.read_faults

-- a write failed once a front of these bytes was written
pub record WereCutOff (old new : ConnSeen) (bytes : List ℕ) : Type 0 where
  pub front : List ℕ
  pub rest : List ℕ
  pub bytes_are : bytes ≡ front ++ rest
  pub held : Appends old.held new.held front
  pub rose : Rose old.write_faults new.write_faults
  pub left : new.left ≡ old.left
  pub reads : new.read_faults ≡ old.read_faults
