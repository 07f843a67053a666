-- What a reader of chunks keeps of where their bytes end.
-- The bridge's own.
use Rattle.std.specs.Prelude.{◌≡◌, ◌⊎◌, Bool, true, false, ◌||◌, Result, Ok, Err, ℕ, ◌+◌, ◌-◌, ◌*◌, ◌^◌, ◌<◌, ◌≤◌, min, nat_lt, List, [], ◌++◌, length, take, slice_range, if◌then◌else◌, ⊤}
use Rattle.http_talk.specs.declared.chunk_place.ChunkPlace.{ChunkPlace}
use Rattle.http_talk.specs.declared.chunk_place.ChunkPlace.TheVariants.{Digits, Bytes, BytesEnd, Trailer, TrailerEnd, Whole}
use Rattle.http_talk.specs.declared.part.Part.{Part}
use Rattle.http_talk.specs.declared.part.Part.TheVariants as parts
use Rattle.http_talk.specs.declared.fault.Progress.{Progress}
use Rattle.http_talk.specs.declared.fault.Progress.TheVariants as progresses
use Rattle.http_talk.specs.declared.fault.ReplyFault.{ReplyFault}
use Rattle.http_talk.specs.declared.fault.ReplyFault.TheVariants as faults
use Rattle.http_talk.specs.Chunks.{Chunks, trailer_limit, total_limit, with_bytes, is_body_end, is_wrong}

-- the numbers of a place are within the limits
abbrev pub IsChunkPlace : ChunkPlace → Type 0
IsChunkPlace (Digits count size) = (count ≤ 8) × (size < 16 ^ count)
IsChunkPlace (Bytes left) = 0 < left
IsChunkPlace (Trailer before line) = before + line + min (2 * line) 2 ≤ trailer_limit
IsChunkPlace (TrailerEnd before line) = before + line + min (2 * line) 2 ≤ trailer_limit
IsChunkPlace _ = ⊤

-- behind so many of the bytes of a chunk that are still to come
abbrev pub behind_bytes : ℕ → ℕ → ChunkPlace
behind_bytes left count = if nat_lt count left then Bytes (left - count) else BytesEnd

-- what is read next, where the bytes of a body in chunks end here
abbrev pub part_behind : ChunkPlace → Part
part_behind Whole = parts.Whole
part_behind place = parts.Chunked place

-- ---- chunks whose bytes are counted

-- where the bytes of a body in chunks end, how many bytes its chunks held so far, and how many bytes of the reply came in all
pub record Counted : Type 0 where
  pub place : ChunkPlace
  pub body : ℕ
  pub got : ℕ

-- the chunks that held these bytes
abbrev pub holding : Counted → List ℕ → Chunks
holding c held = record { place = c.place; held = held; got = c.got }

-- within a chunk
abbrev pub is_in_chunk : ChunkPlace → Bool
is_in_chunk (Bytes left) = true
is_in_chunk place = false

-- too many bytes came, of the body or in all
abbrev pub is_past : ℕ → Counted → Bool
is_past most c = nat_lt most c.body || nat_lt (total_limit most) c.got

-- something is certain
abbrev pub is_over : ℕ → Counted → Bool
is_over most c = is_body_end c.place || is_past most c || is_wrong c.place

-- these bytes were taken, of which these stand in chunks, whatever the chunks held before
abbrev pub TakesChunks : ℕ → Counted → Counted → List ℕ → List ℕ → Type 0
TakesChunks most old new bytes given =
    (held : List ℕ) → old.body ≡ length held → (new.body ≡ length (held ++ given)) × (holding new (held ++ given) ≡ with_bytes most (holding old held) bytes)

-- the bytes in front of a chunk's were taken, up to the first of these, or to the first at which something is certain
pub record SkipsTo (most : ℕ) (old new : Counted) (piece : List ℕ) (count : ℕ) : Type 0 where
  pub within : count ≤ length piece
  pub took : TakesChunks most old new (take count piece) []
  pub stops : (count < length piece) → (is_over most new ≡ true) ⊎ (is_in_chunk new.place ≡ true)

-- bytes of a chunk were taken, at least one where the chunk goes on
pub record TakesRun (most : ℕ) (old new : Counted) (piece : List ℕ) (count : ℕ) : Type 0 where
  pub within : count ≤ length piece
  pub took : TakesChunks most old new (take count piece) (take count piece)
  pub some : 0 < length piece → is_over most old ≡ false → is_in_chunk old.place ≡ true → 0 < count
  pub goes_on : 0 < count → is_body_end new.place ≡ false
  pub stays : count ≡ 0 → new ≡ old

-- a front of a piece was taken, of which the bytes from a place on stand in a chunk: all of it, unless some do or something is certain
pub record TakesFront (most : ℕ) (old new : Counted) (piece : List ℕ) (from to : ℕ) : Type 0 where
  pub order : from ≤ to
  pub within : to ≤ length piece
  pub took : TakesChunks most old new (take to piece) (slice_range piece from to)
  pub whole : is_body_end new.place ≡ true → from ≡ to
  pub used : from ≡ to → is_over most new ≡ false → to ≡ length piece

-- what is certain of a body in chunks
abbrev pub IsChunkAnswer : ℕ → Counted → Result Progress ReplyFault → Type 0
IsChunkAnswer most c (Ok progresses.Whole) = c.place ≡ Whole
IsChunkAnswer most c (Ok progresses.More) = is_over most c ≡ false
IsChunkAnswer most c (Err faults.TooLong) = (is_body_end c.place ≡ false) × (is_past most c ≡ true)
IsChunkAnswer most c (Err faults.Chunk) = (is_body_end c.place ≡ false) × (is_past most c ≡ false) × (is_wrong c.place ≡ true)
IsChunkAnswer most c (Err fault) = ⊥
