-- What a connection that asks for the federation page is answered: what its bytes ask for, when they decide it, and the reply.
-- RFC 9110, sections 9.3.1 (GET), 10.2.1 (Allow), 15.5.1, 15.5.5 and 15.5.6 (400, 404, 405), 8.3 and 8.6; RFC 9112, sections 3 and 4; RFC 3986, sections 3.3 (Path) and 3.4 (Query); Prometheus, "Federation"; OpenMetrics 1.0, "Overall Structure" (the media type).
use Rattle.std.specs.Prelude.{◌≡◌, ◌≢◌, ℕ, Bool, true, false, not, ◌==◌, List, [], ◌++◌, length, take_while, codes, Option, Some, None, Result, Ok, Err, unwrap_or}
use Rattle.std.specs.Fmt.{decimal}
use Rattle.std.specs.Io.KnownBytes.{Consumes, Appends, IsAtEnd}
use Rattle.label_sets.specs.Lists.{rest_while, behind}
use Rattle.bridge_ports.specs.Causes.{Rose}
use Rattle.bridge_ports.specs.Connections.{ConnSeen, WereTaken, WereWritten, WereCutOff}
use Rattle.http_talk.specs.Requests.{line}
use Rattle.series_select.specs.declared.selector.Selector.{Selector}
use Rattle.series_select.specs.Selectors.{match_values, SpellEach, IsFirstOther}
use Rattle.page_server.specs.declared.asked.Asked.{Asked}
use Rattle.page_server.specs.declared.asked.Asked.TheVariants as asks
use Rattle.page_server.specs.declared.status.ReplyStatus.{ReplyStatus}
use Rattle.page_server.specs.declared.status.ReplyStatus.TheVariants as statuses
use Rattle.page_server.specs.declared.status.ServeFault.{ServeFault}
use Rattle.page_server.specs.declared.status.ServeFault.TheVariants as faults
use Rattle.page_server.specs.RequestHeads.{RequestRead, waiting, refused, asked, RequestIs}

-- ---- what is asked for

-- a byte of a path: any but a question mark, which begins a query
abbrev pub is_path_byte : ℕ → Bool
is_path_byte b = not (b == 63)

-- the path of a target: what stands in front of its first question mark
unfoldable pub path_of : List ℕ → List ℕ
path_of target = take_while is_path_byte target

-- the query of a target: what stands behind that question mark, nothing where there is none
unfoldable pub query_of : List ℕ → List ℕ
query_of target = unwrap_or (behind (codes "?") (rest_while is_path_byte target)) []

-- what the query of a request for the page asks for: the page with what its selectors match; nothing that is served, where a value of `match[]` is no selector
abbrev pub QueryAsks : List ℕ → Asked → Type 0
QueryAsks query (asks.Page list) = SpellEach (match_values query) list
QueryAsks query asks.BadRequest = (number : ℕ) × IsFirstOther (match_values query) number
QueryAsks query _ = ⊥

-- what a request with this method and this target asks for: another method is not allowed, another path is not found, and of the page the query tells
abbrev pub RequestAsks : List ℕ → List ℕ → Asked → Type 0
RequestAsks method target asks.NotAllowed = method ≢ codes "GET"
RequestAsks method target asks.NotFound = (method ≡ codes "GET") × (path_of target ≢ codes "/federate")
RequestAsks method target what = (method ≡ codes "GET") × (path_of target ≡ codes "/federate") × QueryAsks (query_of target) what

-- what a head that is read so asks for, once that is certain; `ended` says that nothing follows
abbrev pub HeadAsks : RequestRead → Bool → Asked → Type 0
HeadAsks waiting ended what = (ended ≡ true) × (what ≡ asks.BadRequest)
HeadAsks refused ended what = what ≡ asks.BadRequest
HeadAsks (asked h rest) ended what = RequestAsks h.method h.target what

-- these bytes, of which the end was seen or not, ask for this; where it was not seen they decide it
pub record BytesAsk (got : List ℕ) (ended : Bool) (what : Asked) : Type 0 where
  pub head : RequestRead
  pub head_is : RequestIs got head
  pub asks_for : HeadAsks head ended what

-- these bytes decide what is asked for, or a head is still waited for
abbrev pub Decides : List ℕ → Option Asked → Type 0
Decides got None = RequestIs got waiting
Decides got (Some what) = BytesAsk got false what

-- ---- the status

-- the number of a status
abbrev pub reply_code : ReplyStatus → ℕ
reply_code statuses.Page = 200
reply_code statuses.BadRequest = 400
reply_code statuses.NotFound = 404
reply_code statuses.NotAllowed = 405

-- the status of what is asked for
abbrev pub status_of : Asked → ReplyStatus
status_of (asks.Page list) = statuses.Page
status_of asks.BadRequest = statuses.BadRequest
status_of asks.NotFound = statuses.NotFound
status_of asks.NotAllowed = statuses.NotAllowed

-- ---- the reply

-- the lines that a reply's head begins with
unfoldable pub first_lines : ReplyStatus → List ℕ
first_lines statuses.Page = line (codes "HTTP/1.1 200 OK") ++ line (codes "Content-Type: application/openmetrics-text; version=1.0.0; charset=utf-8")
first_lines statuses.BadRequest = line (codes "HTTP/1.1 400 Bad Request")
first_lines statuses.NotFound = line (codes "HTTP/1.1 404 Not Found")
first_lines statuses.NotAllowed = line (codes "HTTP/1.1 405 Method Not Allowed") ++ line (codes "Allow: GET")

-- the head of a reply that carries so many bytes
unfoldable pub reply_head : ReplyStatus → ℕ → List ℕ
reply_head status count =
    first_lines status
    ++ line (codes "Content-Length: " ++ decimal count)
    ++ line (codes "Connection: close")
    ++ line []

-- the reply of a status that carries this page
abbrev pub served_text : ReplyStatus → List ℕ → List ℕ
served_text status page = reply_head status (length page) ++ page

-- the page of a reply: one that may be shown where the page is asked for, by its selectors, else none
abbrev pub IsPageFor : (List Selector → List ℕ → Type 0) → Asked → List ℕ → Type 0
IsPageFor may_show (asks.Page list) page = may_show list page
IsPageFor may_show _ page = page ≡ []

-- what came of writing the reply of a status that carries this page
abbrev pub ReplyAnswer : ReplyStatus → List ℕ → ConnSeen → ConnSeen → Result ReplyStatus ServeFault → Type 0
ReplyAnswer status page old new (Ok done) = (done ≡ status) × WereWritten old new (served_text status page)
ReplyAnswer status page old new (Err faults.Write) = WereCutOff old new (served_text status page)
ReplyAnswer status page old new (Err faults.Memory) = new ≡ old
ReplyAnswer status page old new (Err faults.Read) = ⊥

-- ---- one connection

-- bytes were taken that ask for this, and nothing else happened
pub record IsAsked (old new : ConnSeen) (what : Asked) : Type 0 where
  pub taken : List ℕ
  pub ended : Bool
  pub taken_so : WereTaken old new taken
  pub at_end : ended ≡ true → IsAtEnd new.left
  pub asks_for : BytesAsk taken ended what

-- what was taken of a connection asks for something, of which this is the status and this the reply, and no read of it failed
pub record IsAnsweredWith (may_show : List Selector → List ℕ → Type 0) (old new : ConnSeen) (status : ReplyStatus) (reply : List ℕ) : Type 0 where
  pub taken : List ℕ
  pub ended : Bool
  pub what : Asked
  pub page : List ℕ
  pub left : Consumes old.left new.left taken
  pub at_end : ended ≡ true → IsAtEnd new.left
  pub asks_for : BytesAsk taken ended what
  pub status_is : status ≡ status_of what
  pub page_is : IsPageFor may_show what page
  pub reply_is : reply ≡ served_text status page
  pub reads : new.read_faults ≡ old.read_faults

-- the reply was written whole
pub record IsWhollyServed (may_show : List Selector → List ℕ → Type 0) (old new : ConnSeen) (status : ReplyStatus) : Type 0 where
  pub reply : List ℕ
  pub answered : IsAnsweredWith may_show old new status reply
  pub held : Appends old.held new.held reply
  pub writes : new.write_faults ≡ old.write_faults

-- a write failed behind a front of the reply
pub record IsPartlyServed (may_show : List Selector → List ℕ → Type 0) (old new : ConnSeen) : Type 0 where
  pub status : ReplyStatus
  pub front : List ℕ
  pub rest : List ℕ
  pub answered : IsAnsweredWith may_show old new status (front ++ rest)
  pub held : Appends old.held new.held front
  pub rose : Rose old.write_faults new.write_faults

-- a read failed while a head was waited for, and nothing was written
pub record IsUnheard (old new : ConnSeen) : Type 0 where
  pub taken : List ℕ
  pub left : Consumes old.left new.left taken
  pub undecided : RequestIs taken waiting
  pub rose : Rose old.read_faults new.read_faults
  pub held : new.held ≡ old.held
  pub writes : new.write_faults ≡ old.write_faults

-- bytes were taken, no call failed, and nothing was written
abbrev pub IsDropped : ConnSeen → ConnSeen → Type 0
IsDropped old new = (taken : List ℕ) × WereTaken old new taken

-- what came of reading a request
abbrev pub HearAnswer : ConnSeen → ConnSeen → Result Asked ServeFault → Type 0
HearAnswer old new (Ok what) = IsAsked old new what
HearAnswer old new (Err faults.Read) = IsUnheard old new
HearAnswer old new (Err faults.Memory) = IsDropped old new
HearAnswer old new (Err faults.Write) = ⊥

-- what came of one connection
abbrev pub ServeAnswer : (List Selector → List ℕ → Type 0) → ConnSeen → ConnSeen → Result ReplyStatus ServeFault → Type 0
ServeAnswer may_show old new (Ok status) = IsWhollyServed may_show old new status
ServeAnswer may_show old new (Err faults.Read) = IsUnheard old new
ServeAnswer may_show old new (Err faults.Write) = IsPartlyServed may_show old new
ServeAnswer may_show old new (Err faults.Memory) = IsDropped old new
