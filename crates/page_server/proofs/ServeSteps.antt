-- One connection, step by step: its request, its reply, and what came of it.
use Rattle.std.proofs.Common.{◌≡◌, ℕ, ◌≤◌, ◌<◌, true, false, List, ◌++◌, length, drop, Result, Ok, Err, refl, sym, ap, ◌∙◌, subst}
use Rattle.std.specs.Io.KnownBytes.{Consumes, Appends, IsAtEnd}
use Rattle.httparse.specs.Grammar.{RequestHead, HasNoRequest}
use Rattle.httparse.specs.Spans.{RequestOverflows, IsRequestAt, IsRequestOf, span_bytes}
use Rattle.httparse.specs.declared.spans.HeaderSpan.{HeaderSpan}
use Rattle.httparse.specs.declared.spans.RequestSpans.{RequestSpans}
use Rattle.bridge_ports.specs.Causes.{Rose}
use Rattle.bridge_ports.specs.Connections.{ConnSeen, IsHeard, WereTaken, WereWritten, WereCutOff}
use Rattle.series_select.specs.declared.selector.Selector.{Selector}
use Rattle.page_server.specs.declared.asked.Asked.{Asked}
use Rattle.page_server.specs.declared.asked.Asked.TheVariants as asks
use Rattle.page_server.specs.declared.status.ReplyStatus.{ReplyStatus}
use Rattle.page_server.specs.declared.status.ServeFault.{ServeFault}
use Rattle.page_server.specs.declared.status.ServeFault.TheVariants as faults
use Rattle.page_server.specs.RequestHeads.{waiting, refused, asked, RequestIs}
use Rattle.page_server.specs.Serving.{RequestAsks, BytesAsk, IsAsked, status_of, reply_head, served_text, IsPageFor, ReplyAnswer, HearAnswer, IsAnsweredWith, IsWhollyServed, IsPartlyServed, ServeAnswer}
use Rattle.page_server.proofs.ConnSteps.{end_taken}
use Rattle.page_server.proofs.RequestFronts.{asked_at, refused_when_full, refused_by_error}
use Rattle.page_server.proofs.AskedLaws.{bad_at_end}

-- ---- what the parser says

-- the spans of a head tell what is asked for
asks_at : (got : List ℕ) (spans : List HeaderSpan) (r : RequestSpans) (h : RequestHead) (method target : List ℕ) (what : Asked) → length got ≤ 16384 → length spans ≡ 64
    → IsRequestAt got spans r h → method ≡ span_bytes got r.method → target ≡ span_bytes got r.path → RequestAsks method target what → BytesAsk got false what
asks_at got spans r h method target what short room at m t is = record {
  head = asked h (drop r.len got);
  head_is = asked_at got spans r h short room at;
  asks_for = subst (λ xs. RequestAsks xs h.target what) (m ∙ at.method) (subst (λ xs. RequestAsks method xs what) (t ∙ at.path) is);
}

pub asks_told : (got : List ℕ) (spans : List HeaderSpan) (r : RequestSpans) (method target : List ℕ) (what : Asked) → length got ≤ 16384 → length spans ≡ 64
    → IsRequestOf got spans r → method ≡ span_bytes got r.method → target ≡ span_bytes got r.path → RequestAsks method target what → BytesAsk got false what
asks_told got spans r method target what short room head m t is = asks_at got spans r head.0 method target what short room head.1 m t is

pub bad_when_full : (got : List ℕ) → length got ≡ 16384 → HasNoRequest got → BytesAsk got false asks.BadRequest
bad_when_full got long none = record { head = refused; head_is = refused_when_full got long none; asks_for = refl }

pub bad_by_error : (got : List ℕ) (room : ℕ) → RequestOverflows room got → room ≡ 64 → BytesAsk got false asks.BadRequest
bad_by_error got room over is = record { head = refused; head_is = refused_by_error got (subst (λ n. RequestOverflows n got) is over); asks_for = refl }

-- ---- the request

-- the end came while a head was waited for
pub asked_by_end : {E : Type 0} (into got : List ℕ) (count : ℕ) (old mid new : ConnSeen) → count ≡ 0 → WereTaken old mid got → RequestIs got waiting → 0 < length into
    → IsHeard {E = E} mid new (Ok count) into → IsAsked old new asks.BadRequest
asked_by_end {E} into got count old mid new is taken waits some heard =
    let none : IsHeard {E = E} mid new (Ok 0) into = subst (λ n. IsHeard {E = E} mid new (Ok n) into) is heard in
    record {
      taken = got;
      ended = true;
      taken_so = end_taken into got old mid new taken none;
      at_end = λ over. none.bytes.1 refl some;
      asks_for = bad_at_end got waits;
    }

-- ---- the reply

-- head and page, as the slices hold them, were written whole
pub reply_said : (status : ReplyStatus) (head page first : List ℕ) (old new : ConnSeen) → head ≡ reply_head status (length page) → first ≡ head → WereWritten old new (first ++ page)
    → WereWritten old new (served_text status page)
reply_said status head page first old new is same written = subst (λ xs. WereWritten old new xs) (ap (λ xs. xs ++ page) (same ∙ is)) written

-- or a front of them
pub reply_cut : (status : ReplyStatus) (head page first : List ℕ) (old new : ConnSeen) → head ≡ reply_head status (length page) → first ≡ head → WereCutOff old new (first ++ page)
    → WereCutOff old new (served_text status page)
reply_cut status head page first old new is same cut = subst (λ xs. WereCutOff old new xs) (ap (λ xs. xs ++ page) (same ∙ is)) cut

-- ---- what came of a connection

answered_with : (may_show : List Selector → List ℕ → Type 0) (old mid new : ConnSeen) (what : Asked) (page : List ℕ) → IsAsked old mid what → IsPageFor may_show what page
    → new.left ≡ mid.left → new.read_faults ≡ mid.read_faults → IsAnsweredWith may_show old new (status_of what) (served_text (status_of what) page)
answered_with may_show old mid new what page heard shown left reads = record {
  taken = heard.taken;
  ended = heard.ended;
  what = what;
  page = page;
  left = subst (λ o. Consumes old.left o heard.taken) (sym left) heard.taken_so.left;
  at_end = λ over. subst IsAtEnd (sym left) (heard.at_end over);
  asks_for = heard.asks_for;
  status_is = refl;
  page_is = shown;
  reply_is = refl;
  reads = reads ∙ heard.taken_so.reads;
}

wholly_served : (may_show : List Selector → List ℕ → Type 0) (old mid new : ConnSeen) (what : Asked) (page : List ℕ) → IsAsked old mid what → IsPageFor may_show what page
    → WereWritten mid new (served_text (status_of what) page) → IsWhollyServed may_show old new (status_of what)
wholly_served may_show old mid new what page heard shown written = record {
  reply = served_text (status_of what) page;
  answered = answered_with may_show old mid new what page heard shown written.left written.reads;
  held = subst (λ o. Appends o new.held (served_text (status_of what) page)) heard.taken_so.held written.held;
  writes = written.writes ∙ heard.taken_so.writes;
}

partly_served : (may_show : List Selector → List ℕ → Type 0) (old mid new : ConnSeen) (what : Asked) (page : List ℕ) → IsAsked old mid what → IsPageFor may_show what page
    → WereCutOff mid new (served_text (status_of what) page) → IsPartlyServed may_show old new
partly_served may_show old mid new what page heard shown cut = record {
  status = status_of what;
  front = cut.front;
  rest = cut.rest;
  answered = subst (λ text. IsAnsweredWith may_show old new (status_of what) text) cut.bytes_are (answered_with may_show old mid new what page heard shown cut.left cut.reads);
  held = subst (λ o. Appends o new.held cut.front) heard.taken_so.held cut.held;
  rose = subst (λ n. Rose n new.write_faults) heard.taken_so.writes cut.rose;
}

-- a request that was heard was replied
pub replied : (may_show : List Selector → List ℕ → Type 0) (old mid new : ConnSeen) (what : Asked) (page : List ℕ) (result : Result ReplyStatus ServeFault) → IsAsked old mid what → IsPageFor may_show what page
    → ReplyAnswer (status_of what) page mid new result → ServeAnswer may_show old new result
replied may_show old mid new what page (Ok status) heard shown came =
    subst (λ s. IsWhollyServed may_show old new s) (sym came.0) (wholly_served may_show old mid new what page heard shown came.1)
replied may_show old mid new what page (Err faults.Write) heard shown came = partly_served may_show old mid new what page heard shown came
replied may_show old mid new what page (Err faults.Memory) heard shown came = (heard.taken, subst (λ n. WereTaken old n heard.taken) (sym came) heard.taken_so)
replied may_show old mid new what page (Err faults.Read) heard shown came = absurd came

-- one that was not heard gets none
pub not_heard : (may_show : List Selector → List ℕ → Type 0) (old new : ConnSeen) (fault : ServeFault) → HearAnswer old new (Err fault) → ServeAnswer may_show old new (Err fault)
not_heard may_show old new faults.Read came = came
not_heard may_show old new faults.Memory came = came
not_heard may_show old new faults.Write came = absurd came
