-- The head of a reply: whether the bytes hold one, and what its fields say.
-- RFC 9112, sections 2.2, 4 and 5, as the parser `httparse` takes them; RFC 9110, sections 8.3, 8.4 and 8.6. The limits are the bridge's own.
use Rattle.std.specs.Prelude.{◌≡◌, ℕ, ◌<◌, ◌≤◌, ◌⊎◌, Bool, true, not, ◌&&◌, ◌||◌, ◌==◌, List, [], ◌∷◌, length, map, filter, take, take_while, Option, Some, None, is_none, codes, bytes_eq, nat_lt, nat_le, if◌then◌else◌}
use Rattle.std.specs.List.{list_all}
use Rattle.std.specs.Char.{is_ascii_digit}
use Rattle.std.specs.Str.{str_to_ascii_lowercase}
use Rattle.std.specs.Str.Parse.{digits_value}
use Rattle.httparse.specs.Grammar.{ResponseHead, ReadsResponse, print_response, HasNoResponse, NeverHasResponse, MayBecomeResponse, field_value, trim_ows, status_code}
use Rattle.label_sets.specs.Lists.{first_some, when_true}
use Rattle.page_model.specs.declared.format.Format.{Format}
use Rattle.page_model.specs.declared.format.Format.TheVariants.{Text, OpenMetrics}
use Rattle.page_model.specs.declared.event.Cause.{Cause}
use Rattle.page_model.specs.declared.event.Cause.TheVariants as causes
use Rattle.http_talk.specs.declared.seen.HeadSeen.{HeadSeen}
use Rattle.http_talk.specs.declared.seen.HeadSeen.TheVariants as seen

-- ---- whether the bytes hold a head

-- the most bytes of a head
abbrev pub head_limit : ℕ
head_limit = 16384

-- the most fields of a head that is taken
abbrev pub field_limit : ℕ
field_limit = 64

-- what bytes say of a head: none is there yet, none will be, or this one, with the bytes behind it
pub data HeadRead : Type 0 where
  unfinished missing : HeadRead
  found : ResponseHead → List ℕ → HeadRead

-- the bytes say so: a head that is found has no more bytes than it may have; one is missing where there are as many bytes and no head, or where none can follow
abbrev pub HeadIs : List ℕ → HeadRead → Type 0
HeadIs got unfinished = (length got < head_limit) × HasNoResponse got × MayBecomeResponse got
HeadIs got missing = HasNoResponse (take head_limit got) × ((head_limit ≤ length got) ⊎ NeverHasResponse got)
HeadIs got (found h rest) = ReadsResponse got h rest × (length (print_response h) ≤ head_limit)

-- what a post's reply shows once its head is read so
abbrev pub head_seen : HeadRead → HeadSeen
head_seen unfinished = seen.More
head_seen missing = seen.Bad
head_seen (found h rest) = if nat_lt field_limit (length h.fields) then seen.Bad else seen.Status (status_code h)

-- the bytes of a post's reply show this
pub record Shows (got : List ℕ) (what : HeadSeen) : Type 0 where
  pub head : HeadRead
  pub head_is : HeadIs got head
  pub what_is : what ≡ head_seen head

-- ---- what a head's fields say

-- the bytes are this word in small letters, whatever the case of theirs
abbrev pub is_word : List ℕ → List ℕ → Bool
is_word word bytes = bytes_eq (str_to_ascii_lowercase bytes) word

-- the values of the fields of this name, in order, without the blanks around them
abbrev pub values_of : List ℕ → ResponseHead → List (List ℕ)
values_of name h = map field_value (filter (λ f. is_word name f.name) h.fields)

-- the body comes in some encoding
abbrev pub has_content_coding : ResponseHead → Bool
has_content_coding h = not (list_all (λ v. is_word [] v || is_word (codes "identity") v) (values_of (codes "content-encoding") h))

-- the body comes in chunks, or in another transfer encoding
abbrev pub has_transfer_coding : ResponseHead → Bool
has_transfer_coding h = not (length (values_of (codes "transfer-encoding") h) == 0)

-- it comes in chunks alone
abbrev pub is_only_chunked : List (List ℕ) → Bool
is_only_chunked (v ∷ []) = is_word (codes "chunked") v
is_only_chunked _ = not true

-- a coding that the bridge doesn't read
abbrev pub has_other_coding : ResponseHead → Bool
has_other_coding h = has_content_coding h || (has_transfer_coding h && not (is_only_chunked (values_of (codes "transfer-encoding") h)))

-- a media type without its parameters
abbrev pub media_type : List ℕ → List ℕ
media_type value = trim_ows (take_while (λ c. not (c == 59)) value)

-- the format of a media type, where it has one
abbrev pub format_named : List ℕ → Option Format
format_named named =
    if is_word (codes "text/plain") named then Some Text
    else if is_word (codes "application/openmetrics-text") named then Some OpenMetrics
    else None

-- the format that the first of these values names; text where there is none
abbrev pub format_by : List (List ℕ) → Option Format
format_by [] = Some Text
format_by (value ∷ values) = format_named (media_type value)

-- the format of the body, where it is one that the bridge reads
abbrev pub head_format : ResponseHead → Option Format
head_format h = format_by (values_of (codes "content-type") h)

-- a length is 1 to 18 digits
abbrev pub is_length : List ℕ → Bool
is_length value = nat_lt 0 (length value) && nat_le (length value) 18 && list_all is_ascii_digit value

-- the numbers are one
abbrev pub are_equal_numbers : List ℕ → Bool
are_equal_numbers [] = true
are_equal_numbers (n ∷ ns) = list_all (λ m. m == n) ns

-- how a body is framed: in chunks, by its length, or up to the end of the connection
pub data Framing : Type 0 where
  in_chunks to_the_end : Framing
  of_length : ℕ → Framing

-- the framing by these values of Content-Length
abbrev pub framing_by : List (List ℕ) → Framing
framing_by [] = to_the_end
framing_by (value ∷ values) = of_length (digits_value 10 value)

-- the framing of a head's body
abbrev pub framing_of : ResponseHead → Framing
framing_of h = if has_transfer_coding h then in_chunks else framing_by (values_of (codes "content-length") h)

-- the lengths are no lengths, or differ
abbrev pub are_bad_lengths : List (List ℕ) → Bool
are_bad_lengths values = not (list_all is_length values && are_equal_numbers (map (digits_value 10) values))

-- the body is longer than it may be
abbrev pub is_long : ℕ → Framing → Bool
is_long most (of_length n) = nat_lt most n
is_long most _ = not true

-- the first cause for which the head is refused, in the order of causes, where bodies may have so many bytes
unfoldable pub head_cause : ℕ → ResponseHead → Option Cause
head_cause most h = first_some (λ cause. cause) (
    when_true (nat_lt field_limit (length h.fields)) causes.Head
    ∷ when_true (not (status_code h == 200)) (causes.Status (status_code h))
    ∷ when_true (has_other_coding h) causes.Encoding
    ∷ when_true (is_none (head_format h)) causes.MediaType
    ∷ when_true (not (has_transfer_coding h) && are_bad_lengths (values_of (codes "content-length") h)) causes.Head
    ∷ when_true (is_long most (framing_of h)) causes.TooLong
    ∷ [])
