-- What the fields of a head say of its body, gathered field by field.
-- RFC 9110, sections 8.3, 8.4 and 8.6; RFC 9112, section 6.1.
use Rattle.std.specs.Prelude.{◌≡◌, ℕ, ◌<◌, Bool, true, false, not, ◌&&◌, ◌||◌, ◌==◌, List, [], length, fold, codes, Option, Some, None, Result, Ok, Err, if◌then◌else◌, ⊤}
use Rattle.std.specs.Str.Parse.{digits_value}
use Rattle.httparse.specs.Grammar.{ResponseHead}
use Rattle.page_model.specs.declared.format.Format.{Format}
use Rattle.http_talk.specs.declared.head_facts.Transfer.{Transfer}
use Rattle.http_talk.specs.declared.head_facts.Transfer.TheVariants as transfers
use Rattle.http_talk.specs.declared.head_facts.Media.{Media}
use Rattle.http_talk.specs.declared.head_facts.Media.TheVariants as medias
use Rattle.http_talk.specs.declared.head_facts.Lengths.{Lengths}
use Rattle.http_talk.specs.declared.head_facts.Lengths.TheVariants as lengths
use Rattle.http_talk.specs.declared.head_facts.HeadFacts.{HeadFacts}
use Rattle.http_talk.specs.declared.part.Part.{Part}
use Rattle.http_talk.specs.declared.part.Part.TheVariants as parts
use Rattle.http_talk.specs.declared.part.Start.{Start}
use Rattle.http_talk.specs.declared.fault.ReplyFault.{ReplyFault}
use Rattle.http_talk.specs.declared.fault.ReplyFault.TheVariants as faults
use Rattle.page_model.specs.declared.format.Format.TheVariants.{Text}
use Rattle.http_talk.specs.declared.chunk_place.ChunkPlace.TheVariants.{Digits}
use Rattle.http_talk.specs.Heads.{is_word, is_length, media_type, format_named, format_by, head_format, values_of, has_content_coding, has_transfer_coding, is_only_chunked, are_bad_lengths, framing_by, framing_of, is_long, head_cause, Framing, in_chunks, to_the_end, of_length}
use Rattle.http_talk.specs.ChunkFeeding.{IsChunkPlace}
use Rattle.http_talk.specs.Replies.{cause_of}

-- no field was looked at
abbrev pub no_facts : HeadFacts
no_facts = record { coded = false; transfer = transfers.Absent; media = medias.Absent; lengths = lengths.Absent }

-- with one more value of Content-Encoding
abbrev pub with_coding : Bool → List ℕ → Bool
with_coding coded value = coded || not (is_word [] value || is_word (codes "identity") value)

-- with one more value of Transfer-Encoding: more than one are another coding
abbrev pub with_transfer : Transfer → List ℕ → Transfer
with_transfer transfers.Absent value = if is_word (codes "chunked") value then transfers.Chunked else transfers.Other
with_transfer transfer value = transfers.Other

-- what a media type says
abbrev pub media_by : Option Format → Media
media_by None = medias.Other
media_by (Some format) = medias.Known format

-- with one more value of Content-Type: the first one counts
abbrev pub with_media : Media → List ℕ → Media
with_media medias.Absent value = media_by (format_named (media_type value))
with_media media value = media

-- with one more length
abbrev pub with_one_length : Lengths → ℕ → Lengths
with_one_length lengths.Absent n = lengths.One n
with_one_length (lengths.One m) n = if n == m then lengths.One m else lengths.Bad
with_one_length lengths.Bad n = lengths.Bad

-- with one more value of Content-Length
abbrev pub with_length : Lengths → List ℕ → Lengths
with_length known value = if is_length value then with_one_length known (digits_value 10 value) else lengths.Bad

-- with one more field, of this name and value
abbrev pub with_field : HeadFacts → List ℕ × List ℕ → HeadFacts
with_field f p = record {
  coded = if is_word (codes "content-encoding") p.0 then with_coding f.coded p.1 else f.coded;
  transfer = if is_word (codes "transfer-encoding") p.0 then with_transfer f.transfer p.1 else f.transfer;
  media = if is_word (codes "content-type") p.0 then with_media f.media p.1 else f.media;
  lengths = if is_word (codes "content-length") p.0 then with_length f.lengths p.1 else f.lengths;
}

-- what fields say by their names and values
abbrev pub facts_by : List (List ℕ × List ℕ) → HeadFacts
facts_by fields = fold with_field no_facts fields

-- ---- what the facts say of a head

-- of the values of Transfer-Encoding
abbrev pub IsTransfer : Transfer → List (List ℕ) → Type 0
IsTransfer transfers.Absent values = values ≡ []
IsTransfer transfers.Chunked values = ((length values == 0) ≡ false) × (is_only_chunked values ≡ true)
IsTransfer transfers.Other values = ((length values == 0) ≡ false) × (is_only_chunked values ≡ false)

-- of the values of Content-Type
abbrev pub IsMedia : Media → List (List ℕ) → Type 0
IsMedia medias.Absent values = format_by values ≡ Some Text
IsMedia (medias.Known format) values = format_by values ≡ Some format
IsMedia medias.Other values = format_by values ≡ None

-- of the values of Content-Length
abbrev pub AreLengths : Lengths → List (List ℕ) → Type 0
AreLengths lengths.Absent values = (are_bad_lengths values ≡ false) × (framing_by values ≡ to_the_end)
AreLengths (lengths.One n) values = (are_bad_lengths values ≡ false) × (framing_by values ≡ of_length n)
AreLengths lengths.Bad values = are_bad_lengths values ≡ true

-- the facts say this of a head
pub record AreFactsOf (f : HeadFacts) (h : ResponseHead) : Type 0 where
  pub coded : f.coded ≡ has_content_coding h
  pub transfer : IsTransfer f.transfer (values_of (codes "transfer-encoding") h)
  pub media : IsMedia f.media (values_of (codes "content-type") h)
  pub lengths : AreLengths f.lengths (values_of (codes "content-length") h)

-- ---- how a body begins

-- what is read behind a head
abbrev pub IsFirstPart : Part → Type 0
IsFirstPart parts.Head = ⊥
IsFirstPart (parts.Sized n) = 0 < n
IsFirstPart (parts.Chunked place) = IsChunkPlace place
IsFirstPart part = ⊤

-- a length counts and is refused
abbrev pub has_bad_lengths : ResponseHead → Bool
has_bad_lengths h = not (has_transfer_coding h) && are_bad_lengths (values_of (codes "content-length") h)

-- what a reader reads behind a head, by the framing of the body
abbrev pub first_part : Framing → Part
first_part in_chunks = parts.Chunked (Digits 0 0)
first_part to_the_end = parts.Open
first_part (of_length n) = if n == 0 then parts.Whole else parts.Sized n

-- the head is refused for the cause that this fault stands for
abbrev pub IsHeadFault : ℕ → ResponseHead → ReplyFault → Type 0
IsHeadFault most h faults.Memory = ⊥
IsHeadFault most h faults.Truncated = ⊥
IsHeadFault most h fault = cause_of fault ≡ head_cause most h

-- what is read first by these values of Content-Length, or why they are refused
abbrev pub IsSized : ℕ → List (List ℕ) → Result Part ReplyFault → Type 0
IsSized most values (Ok part) = (are_bad_lengths values ≡ false) × (is_long most (framing_by values) ≡ false) × (part ≡ first_part (framing_by values))
IsSized most values (Err faults.Head) = are_bad_lengths values ≡ true
IsSized most values (Err faults.TooLong) = (are_bad_lengths values ≡ false) × (is_long most (framing_by values) ≡ true)
IsSized most values (Err fault) = ⊥

-- no length is refused, or this is the fault
abbrev pub IsFramed : ℕ → ResponseHead → Result Part ReplyFault → Type 0
IsFramed most h (Ok part) = (has_bad_lengths h ≡ false) × (is_long most (framing_of h) ≡ false) × (part ≡ first_part (framing_of h))
IsFramed most h (Err faults.Head) = has_bad_lengths h ≡ true
IsFramed most h (Err faults.TooLong) = (has_bad_lengths h ≡ false) × (is_long most (framing_of h) ≡ true)
IsFramed most h (Err fault) = ⊥

-- how a body begins behind a head that is taken, or the cause for which it is refused
abbrev pub IsStart : ℕ → ResponseHead → Result Start ReplyFault → Type 0
IsStart most h (Ok start) = (head_cause most h ≡ None) × (head_format h ≡ Some start.format) × (start.part ≡ first_part (framing_of h))
IsStart most h (Err fault) = IsHeadFault most h fault
