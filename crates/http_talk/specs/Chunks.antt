-- Bodies in chunks: which byte may stand where, and what the chunks hold.
-- RFC 9112, section 7.1 (chunked transfer coding). The limits, 8 digits, 1,024 bytes of a chunk line and 16,384 bytes of trailer lines, are the bridge's own.
use Rattle.std.specs.Prelude.{ℕ, ◌+◌, ◌-◌, ◌*◌, Bool, true, false, not, ◌&&◌, ◌||◌, ◌==◌, List, [], ◌∷◌, ◌++◌, length, nat_lt, nat_le, if◌then◌else◌}
use Rattle.std.specs.Char.{is_ascii_hexdigit, digit_value}
use Rattle.httparse.specs.Grammar.{is_ows}
use Rattle.http_talk.specs.declared.chunk_place.ChunkPlace.{ChunkPlace}
use Rattle.http_talk.specs.declared.chunk_place.ChunkPlace.TheVariants.{Digits, Blanks, Extension, SizeEnd, Bytes, BytesEnd, BytesFeed, Trailer, TrailerEnd, Whole, Wrong}

-- the most bytes of a chunk line, with its end
abbrev pub chunk_line_limit : ℕ
chunk_line_limit = 1024

-- the most bytes of the trailer lines, with their ends
abbrev pub trailer_limit : ℕ
trailer_limit = 16384

-- the most bytes of a reply in all, where its body may have so many
abbrev pub total_limit : ℕ → ℕ
total_limit most = 8 * most + 65536

-- one more byte, and then CR LF, fit a line of which so many bytes came
abbrev pub fits_line : ℕ → Bool
fits_line line = nat_le (line + 3) chunk_line_limit

-- one more byte of a trailer line, and then CR LF, fit the trailer lines of which so many bytes came
abbrev pub fits_trailers : ℕ → ℕ → Bool
fits_trailers before line = nat_le (before + line + 3) trailer_limit

-- ---- which byte may stand where

-- behind the size, of whose line so many bytes came: a line end, a blank, or a semicolon
abbrev pub behind_size : ℕ → ℕ → ℕ → ChunkPlace
behind_size line size b =
    if b == 13 then SizeEnd size
    else if not (fits_line line) then Wrong
    else if is_ows b then Blanks (line + 1) size
    else if b == 59 then Extension (line + 1) size
    else Wrong

-- behind one byte more
unfoldable pub place_after : ChunkPlace → ℕ → ChunkPlace
-- 1 to 8 digits, and what may stand behind them
place_after (Digits count size) b =
    if is_ascii_hexdigit b && nat_lt count 8 then Digits (count + 1) (size * 16 + digit_value b)
    else if nat_lt 0 count then behind_size count size b
    else Wrong
place_after (Blanks line size) b = behind_size line size b
-- any bytes but CR and LF, up to the line end
place_after (Extension line size) b =
    if b == 13 then SizeEnd size
    else if b == 10 || not (fits_line line) then Wrong
    else Extension (line + 1) size
-- a chunk of size 0 ends the chunks, and trailer lines follow
place_after (SizeEnd size) b =
    if not (b == 10) then Wrong
    else if size == 0 then Trailer 0 0
    else Bytes size
-- a byte of a chunk, and the line end behind the last one
place_after (Bytes left) b = if nat_lt 1 left then Bytes (left - 1) else BytesEnd
place_after BytesEnd b = if b == 13 then BytesFeed else Wrong
place_after BytesFeed b = if b == 10 then Digits 0 0 else Wrong
-- any bytes but CR and LF, up to the line end; the empty line is not counted
place_after (Trailer before line) b =
    if b == 13 then TrailerEnd before line
    else if b == 10 || not (fits_trailers before line) then Wrong
    else Trailer before (line + 1)
place_after (TrailerEnd before line) b =
    if not (b == 10) then Wrong
    else if line == 0 then Whole
    else Trailer (before + line + 2) 0
-- what follows changes nothing
place_after Whole b = Whole
place_after Wrong b = Wrong

-- ---- what is known of a body

-- where its bytes end, what its chunks hold so far, and how many bytes of the reply came in all
pub record Chunks : Type 0 where
  pub place : ChunkPlace
  pub held : List ℕ
  pub got : ℕ

-- behind a head of so many bytes
abbrev pub no_chunks : ℕ → Chunks
no_chunks head = record { place = Digits 0 0; held = []; got = head }

-- what the chunks hold once this byte stands here
abbrev pub held_after : ChunkPlace → List ℕ → ℕ → List ℕ
held_after (Bytes left) held b = held ++ b ∷ []
held_after _ held b = held

-- with one byte more
abbrev pub with_byte : Chunks → ℕ → Chunks
with_byte c b = record { place = place_after c.place b; held = held_after c.place c.held b; got = c.got + 1 }

-- behind the last byte
abbrev pub is_body_end : ChunkPlace → Bool
is_body_end Whole = true
is_body_end _ = false

-- behind a byte that no body has there
abbrev pub is_wrong : ChunkPlace → Bool
is_wrong Wrong = true
is_wrong _ = false

-- too many bytes came, of the body or in all
abbrev pub is_too_much : ℕ → Chunks → Bool
is_too_much most c = nat_lt most (length c.held) || nat_lt (total_limit most) c.got

-- something is certain
abbrev pub is_certain : ℕ → Chunks → Bool
is_certain most c = is_body_end c.place || is_too_much most c || is_wrong c.place

-- with these bytes, up to the first at which something is certain
abbrev pub with_bytes : ℕ → Chunks → List ℕ → Chunks
with_bytes most c [] = c
with_bytes most c (b ∷ bytes) = if is_certain most c then c else with_bytes most (with_byte c b) bytes
