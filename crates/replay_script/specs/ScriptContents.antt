-- What parts of a script say: a header, and targets with what their wires answer.
-- The bridge's own; the replies of `page` records after RFC 9112, sections 4 to 6.
use Rattle.std.specs.Prelude.{ℕ, Bool, ◌==◌, List, [], ◌∷◌, ◌++◌, length, codes, reverse, Option, None, unwrap_or, nat_eq}
use Rattle.std.specs.Fmt.{decimal}
use Rattle.label_sets.specs.Lists.{first_some, when_true}
use Rattle.page_model.specs.declared.format.Format.{Format}
use Rattle.page_model.specs.declared.format.Format.TheVariants as formats
use Rattle.bridge_ports.specs.declared.talk.End.{End}
use Rattle.bridge_ports.specs.declared.talk.End.TheVariants.{ConnectFailed, WriteFailed, ReadFailed, Ended}
use Rattle.bridge_ports.specs.declared.talk.Address.{Address}
use Rattle.bridge_ports.specs.declared.talk.MemoryReply.{MemoryReply}
use Rattle.bridge_ports.specs.Targets.{Scraped}
use Rattle.replay_script.specs.declared.header.Header.{Header}
use Rattle.replay_script.specs.declared.script.ScriptTarget.{ScriptTarget}
use Rattle.replay_script.specs.declared.script.Script.{Script}
use Rattle.replay_script.specs.declared.header.HeaderLine.{HeaderLine}
use Rattle.replay_script.specs.declared.header.HeaderLine.TheVariants.{Keep, Tries, Limit, MaxPage, Cut, Honor, Rounds}
use Rattle.replay_script.specs.HeaderLines.{place_of, header_row}
use Rattle.replay_script.specs.declared.ending.Ending.{Ending}
use Rattle.replay_script.specs.declared.ending.Ending.TheVariants.{ConnectFails, WriteFails, ReadFails, PeerEnds}
use Rattle.replay_script.specs.ScriptParts.{TargetLine, Part, opening, header, target, page, scrape, post}

-- ---- the header

-- the number of a header line, where the part is that line
abbrev pub number_at : HeaderLine → Part → Option ℕ
number_at line (header other n) = when_true (nat_eq (place_of line) (place_of other)) n
number_at line _ = None

-- the number of a header line that stands among the parts
abbrev pub written_number : List Part → HeaderLine → Option ℕ
written_number parts line = first_some (number_at line) parts

-- the number of a header line, or its default; the line without a default is needed
abbrev pub header_number : List Part → HeaderLine → ℕ
header_number parts line = unwrap_or (written_number parts line) (unwrap_or (header_row line).default 0)

-- the header says that times of pages count
abbrev pub are_honored : List Part → Bool
are_honored parts = header_number parts Honor == 1

-- the header of parts
unfoldable pub header_of : List Part → Header
header_of parts = record {
  keep = header_number parts Keep;
  tries = header_number parts Tries;
  limit = header_number parts Limit;
  max_page = header_number parts MaxPage;
  cut = header_number parts Cut;
  honor = are_honored parts;
  rounds = header_number parts Rounds;
}

-- ---- replies

-- the end of a talk
abbrev pub end_of : Ending → End
end_of ConnectFails = ConnectFailed
end_of WriteFails = WriteFailed
end_of ReadFails = ReadFailed
end_of PeerEnds = Ended

-- the reply of a record with raw bytes
abbrev pub raw_reply : ℕ → Ending → List ℕ → MemoryReply
raw_reply at ending bytes = record { at = at; got = bytes; end = end_of ending }

-- the media type of a format
abbrev pub page_media_type : Format → List ℕ
page_media_type formats.Text = codes "text/plain; version=0.0.4"
page_media_type formats.OpenMetrics = codes "application/openmetrics-text; version=1.0.0; charset=utf-8"

-- the bytes of a reply that carries a page
unfoldable pub page_message : Format → List ℕ → List ℕ
page_message format body = codes "HTTP/1.1 200 OK\r\n" ++ codes "Content-Type: " ++ page_media_type format ++ codes "\r\n"
    ++ codes "Content-Length: " ++ decimal (length body) ++ codes "\r\n" ++ codes "\r\n" ++ body

-- the reply of a page: the whole of it, and then the peer ends
abbrev pub page_reply : ℕ → Format → List ℕ → MemoryReply
page_reply at format body = record { at = at; got = page_message format body; end = Ended }

-- ---- targets

-- the address of a line
abbrev pub line_address : TargetLine → Address
line_address t = record { host = t.host; port = t.port; path = t.path }

-- the target of a line, whose times of pages count or don't
abbrev pub line_target : Bool → TargetLine → Scraped
line_target honor t = record {
  job = t.job;
  instance = t.host ++ (codes ":" ++ decimal t.port);
  address = line_address t;
  honor = honor;
}

-- the target of a line behind these parts, among which is the header
abbrev pub target_of : List Part → TargetLine → Scraped
target_of parts t = line_target (are_honored parts) t

-- a target whose wires answer nothing yet
abbrev pub new_target : List Part → TargetLine → ScriptTarget
new_target parts t = record { target = target_of parts t; scrapes = []; posts = [] }

-- the targets, the last first, with one reply more for the scrapes of the last
abbrev pub with_scrape : MemoryReply → List ScriptTarget → List ScriptTarget
with_scrape reply [] = []
with_scrape reply (last ∷ others) = record { target = last.target; scrapes = last.scrapes ++ reply ∷ []; posts = last.posts } ∷ others

-- the same with one reply more for its posts
abbrev pub with_post : MemoryReply → List ScriptTarget → List ScriptTarget
with_post reply [] = []
with_post reply (last ∷ others) = record { target = last.target; scrapes = last.scrapes; posts = last.posts ++ reply ∷ [] } ∷ others

-- the targets of parts, in both of which the last comes first: a record belongs to the target above it
abbrev pub targets_of : List Part → List ScriptTarget
targets_of [] = []
targets_of (target t ∷ earlier) = new_target earlier t ∷ targets_of earlier
targets_of (page at format body ∷ earlier) = with_scrape (page_reply at format body) (targets_of earlier)
targets_of (scrape at ending bytes ∷ earlier) = with_scrape (raw_reply at ending bytes) (targets_of earlier)
targets_of (post at ending bytes ∷ earlier) = with_post (raw_reply at ending bytes) (targets_of earlier)
targets_of (opening ∷ earlier) = targets_of earlier
targets_of (header line n ∷ earlier) = targets_of earlier

-- what the parts say
abbrev pub script_of : List Part → Script
script_of parts = record { header = header_of parts; targets = reverse (targets_of parts) }
