-- The head of a request: whether the bytes hold one that is taken.
-- RFC 9112, sections 2.2, 3 and 5, as the parser `httparse` takes them. The limits are the bridge's own.
use Rattle.std.specs.Prelude.{ℕ, ◌≤◌, ◌<◌, ◌⊎◌, List, length, take}
use Rattle.httparse.specs.Grammar.{RequestHead, ReadsRequest, print_request, HasNoRequest, MayBecomeRequest}
use Rattle.httparse.specs.Spans.{RequestOverflows}
use Rattle.http_talk.specs.Heads.{head_limit, field_limit}

-- what bytes say of a request's head: none is there yet, none that is taken will be, or this one, with the bytes behind it
pub data RequestRead : Type 0 where
  waiting refused : RequestRead
  asked : RequestHead → List ℕ → RequestRead

-- each head at the front of the bytes has more fields than one that is taken
abbrev pub HasNoneTaken : List ℕ → Type 0
HasNoneTaken got = (h : RequestHead) (rest : List ℕ) → ReadsRequest got h rest → field_limit < length h.fields

-- the bytes say so: a head is waited for while there are fewer bytes than it may have and the parser waits; one is refused where there are as many bytes and none that is taken, or where every head that follows has too many fields; one that is taken has no more bytes and no more fields than it may have
abbrev pub RequestIs : List ℕ → RequestRead → Type 0
RequestIs got waiting = (length got < head_limit) × HasNoRequest got × MayBecomeRequest got
RequestIs got refused = HasNoneTaken (take head_limit got) × ((head_limit ≤ length got) ⊎ RequestOverflows field_limit got)
RequestIs got (asked h rest) = ReadsRequest got h rest × (length (print_request h) ≤ head_limit) × (length h.fields ≤ field_limit)
