-- What one request and its reply over a wire come to.
use Rattle.std.proofs.Common.{◌≡◌, ℕ, ◌+◌, ◌-◌, ◌*◌, ◌≤◌, ◌<◌, true, false, List, [], ◌∷◌, ◌++◌, length, length-append, length-drop, take, drop, Option, Some, None, option_map, Result, Ok, Err, codes, refl, sym, ap, subst, ◌∙◌, inl, inr, arith}
use Rattle.std.specs.Prelude.{◌≢◌, ◌⊎◌, ⊤, IfOk, IsSomeAnd}
use Rattle.httparse.proofs.OnLiterals.{httparse_on_literals}
use Rattle.bridge_ports.specs.declared.talk.Stage.{Stage}
use Rattle.bridge_ports.specs.declared.talk.Stage.TheVariants as stages
use Rattle.bridge_ports.specs.declared.talk.End.{End}
use Rattle.bridge_ports.specs.declared.talk.End.TheVariants as ends
use Rattle.bridge_ports.specs.Causes.{Rose}
use Rattle.bridge_ports.specs.Talks.{WireState, ToldTalks, Spoken, Tells, talk_of, telling_from, telling_sent, telling_got, telling_end, made_ready, begun_at, sent_on, got_on, ended_by, failed_at, left_at, after_read}
use Rattle.std.proofs.lemmas.List.{take_all, take-append-drop}
use Rattle.std.proofs.Math.Seq.{take-add}
use Rattle.bridge_ports.proofs.Laws.{read_goes_on, got_on-nil, got_on-more, sent_on-more}
use Rattle.page_model.specs.declared.event.Cause.{Cause}
use Rattle.page_model.specs.declared.event.Cause.TheVariants as causes
use Rattle.page_model.specs.declared.event.Outcome.{Outcome}
use Rattle.page_model.specs.declared.event.Outcome.TheVariants as outcomes
use Rattle.page_model.specs.declared.format.Format.{Format}
use Rattle.http_talk.specs.declared.fault.ReplyFault.{ReplyFault}
use Rattle.http_talk.specs.declared.fault.ReplyFault.TheVariants as faults
use Rattle.http_talk.specs.declared.fault.Progress.{Progress}
use Rattle.http_talk.specs.declared.fault.Progress.TheVariants as progresses
use Rattle.http_talk.specs.Replies.{Judged, waits, goes_on, decided, refused, IsJudged, is_decided, IsPageOutcome, IsOutcomeOf, IsOutcomeBy, IsSent, IsGot, cause_of}
use Rattle.http_talk.specs.ReplyReading.{progress_of, IsRefusal}
use Rattle.http_talk.proofs.Laws.{by_more, bare_head, undecided_is_short}
use Rattle.scrape_client.specs.declared.page_reply.PageReply.{PageReply}
use Rattle.scrape_client.specs.PageReplies.{ReadsPage, HasRead, IsFaultOutcome, IsPeerOutcome, IsPieceRead, most_of}
use Rattle.scrape_client.specs.Scraping.{IsWireFault}
use Rattle.scrape_client.specs.Exchanges.{BlamesWire, RoseByWire, IsOutcomeAt, IsOutcomeIn, IsReplyRead, ReadsOn, HasTalked, IsTalkOver, IsExchange}

-- nothing is certain of no bytes
pub nothing_got : (most : ℕ) → IsJudged most [] waits
unfolding httparse_on_literals
nothing_got most = by_more most [] 72 (codes "TTP/1.1 200\r\n\r\n") (bare_head (codes "200")) refl refl refl

-- ---- sending

-- the wire behind one more piece of a text
pub sends_more : (old now new : WireState) (text : List ℕ) (at count : ℕ) → now ≡ sent_on (take at text) old
    → new ≡ sent_on (take count (take (length text - at) (drop at text))) now → new ≡ sent_on (take (at + count) text) old
sends_more old now new text at count before is =
    let rest : take (length text - at) (drop at text) ≡ drop at text = take_all (length text - at) (drop at text) (omega (arith, length-drop at text)) in
    is ∙ ap (λ (piece : List ℕ). sent_on (take count piece) now) rest ∙ ap (sent_on (take count (drop at text))) before
    ∙ sent_on-more (take at text) (take count (drop at text)) old ∙ ap (λ (sent : List ℕ). sent_on sent old) (sym (take-add at count text))

-- a write failed behind a front of a text
pub sends_less : (old now new : WireState) (text : List ℕ) (at : ℕ) → now ≡ sent_on (take at text) old → new ≡ failed_at ends.WriteFailed new.faults now
    → (sent : List ℕ) × (rest : List ℕ) × (text ≡ sent ++ rest) × (new ≡ failed_at ends.WriteFailed new.faults (sent_on sent old))
sends_less old now new text at is failed = (
  take at text,
  drop at text,
  sym (take-append-drop at text),
  failed ∙ ap (failed_at ends.WriteFailed new.faults) is,
)

-- ---- by verdicts and ends

-- behind a verdict the end says nothing
pub decided_by_any : (a b : End) (limit : ℕ) (known : Judged) (outcome : Outcome) → is_decided known ≡ true → IsOutcomeOf a limit known outcome → IsOutcomeOf b limit known outcome
decided_by_any a b limit (decided v) outcome e x = x
decided_by_any a b limit waits outcome e x = absurd (cc e)
decided_by_any a b limit (goes_on format body) outcome e x = absurd (cc e)

-- a reply that may go on has no verdict
pub more_is_open : (known : Judged) → progresses.More ≡ progress_of known → is_decided known ≡ false
more_is_open (decided v) e = absurd (cc e)
more_is_open waits e = refl
more_is_open (goes_on format body) e = refl

-- a whole one has
pub whole_is_decided : (known : Judged) → progresses.Whole ≡ progress_of known → is_decided known ≡ true
whole_is_decided (decided v) e = refl
whole_is_decided waits e = absurd (cc e)
whole_is_decided (goes_on format body) e = absurd (cc e)

of_cause : (found : Option Cause) (cause : Cause) (outcome : Outcome) → found ≡ Some cause → IsSomeAnd found (λ c. outcome ≡ outcomes.Failed c) → outcome ≡ outcomes.Failed cause
of_cause found cause outcome is x = subst (λ (o : Option Cause). IsSomeAnd o (λ c. outcome ≡ outcomes.Failed c)) is x

refusal_outcome : (fault : ReplyFault) (limit most : ℕ) (got : List ℕ) (outcome : Outcome) → IsRefusal most got fault → IsFaultOutcome fault outcome → IsOutcomeIn limit most got ends.Left outcome
refusal_outcome faults.Memory limit most got outcome r is = absurd is
refusal_outcome faults.Truncated limit most got outcome r is = absurd r
refusal_outcome fault limit most got outcome r is = record {
  known = decided (refused r.0);
  judged_so = r.2;
  outcome_is = of_cause (cause_of fault) r.0 outcome r.1 is;
  left = ((λ _. refl), (λ _. refl));
}

-- what a refusal comes to
pub refused_outcome : {E : Type 0} (fault : ReplyFault) (limit most : ℕ) (got : List ℕ) (result : Result Outcome E) → IsRefusal most got fault → IfOk result (IsFaultOutcome fault) → IfOk result (IsOutcomeIn limit most got ends.Left)
refused_outcome fault limit most got (Ok outcome) r is = refusal_outcome fault limit most got outcome r is
refused_outcome fault limit most got (Err e) r is = is

peer_cause : (fault : ReplyFault) (outcome : Outcome) → IsFaultOutcome fault outcome → IsWireFault outcome → ⊥
peer_cause faults.Memory outcome is wire = is
peer_cause faults.Head outcome is wire = subst IsWireFault is wire
peer_cause (faults.Status code) outcome is wire = subst IsWireFault is wire
peer_cause faults.Encoding outcome is wire = subst IsWireFault is wire
peer_cause faults.MediaType outcome is wire = subst IsWireFault is wire
peer_cause faults.TooLong outcome is wire = subst IsWireFault is wire
peer_cause faults.Chunk outcome is wire = subst IsWireFault is wire
peer_cause faults.Truncated outcome is wire = subst IsWireFault is wire

-- no fault of a reply is one of the wire
pub peer_fault : {E : Type 0} (fault : ReplyFault) (result : Result Outcome E) → IfOk result (IsFaultOutcome fault) → BlamesWire result → ⊥
peer_fault fault (Ok outcome) is wire = peer_cause fault outcome is wire
peer_fault fault (Err e) is wire = wire

pub page_is_peer : (limit : ℕ) (format : Format) (body : List ℕ) (outcome : Outcome) → IsPageOutcome limit format body outcome → IsWireFault outcome → ⊥
page_is_peer limit format body (outcomes.Page page) x fault = fault
page_is_peer limit format body (outcomes.Failed causes.Connect) x fault = x
page_is_peer limit format body (outcomes.Failed causes.Write) x fault = x
page_is_peer limit format body (outcomes.Failed causes.Read) x fault = x
page_is_peer limit format body (outcomes.Failed _) x fault = fault

-- ---- reading

-- nothing was read yet
pub reads_nothing : (limit : ℕ) (old : WireState) (reply : PageReply) → ReadsPage limit [] reply → ReadsOn limit (most_of reply) old old reply 0
reads_nothing limit old reply x = record {
  fed = [];
  reads = x;
  most_is = refl;
  known = waits;
  judged_so = nothing_got (most_of reply);
  goes_on = refl;
  wire = sym (got_on-nil old);
  count_is = refl;
}

pub some_read : (limit : ℕ) (fed : List ℕ) (reply : PageReply) → ReadsPage limit fed reply → HasRead reply
some_read limit fed reply x = (fed, subst (λ l. ReadsPage l fed reply) (sym x.limit_is) x)

pub has_read : (limit most : ℕ) (old now : WireState) (reply : PageReply) (count : ℕ) → ReadsOn limit most old now reply count → HasRead reply
has_read limit most old now reply count x = some_read limit x.fed reply x.reads

-- the wire behind one more piece
piece_read : (old now new : WireState) (fed piece : List ℕ) → now ≡ got_on fed old → 0 < length piece → new ≡ after_read piece now → new ≡ got_on (fed ++ piece) old
piece_read old now new fed piece is some read = read ∙ read_goes_on piece now some ∙ ap (got_on piece) is ∙ got_on-more fed piece old

-- a piece was read and fed, and nothing is certain yet
pub reads_more : (limit most : ℕ) (old now new : WireState) (reply fed_on : PageReply) (count n : ℕ) (piece : List ℕ) (x : ReadsOn limit most old now reply count)
    → 0 < length piece → length piece ≡ n → new ≡ after_read piece now → most_of fed_on ≡ most_of reply → IsPieceRead limit (x.fed ++ piece) fed_on progresses.More → ReadsOn limit most old new fed_on (count + n)
reads_more limit most old now new reply fed_on count n piece x some long read same t = record {
  fed = x.fed ++ piece;
  reads = t.reads;
  most_is = same ∙ x.most_is;
  known = t.known;
  judged_so = subst (λ (m : ℕ). IsJudged m (x.fed ++ piece) t.known) (same ∙ x.most_is) t.judged_so;
  goes_on = more_is_open t.known t.progress_is;
  wire = piece_read old now new x.fed piece x.wire some read;
  count_is = omega (arith, x.count_is, length-append x.fed piece);
}

-- a reply on which there is no verdict is short
pub reads_few : (limit most : ℕ) (old now : WireState) (reply : PageReply) (count : ℕ) → ReadsOn limit most old now reply count → count ≤ 8 * most + 65536
reads_few limit most old now reply count x = let short = undecided_is_short most x.fed x.known x.judged_so x.goes_on in omega (arith, x.count_is)

-- the count of faults stays on a wire that goes on
pub reads_keep : (limit most : ℕ) (old now : WireState) (reply : PageReply) (count : ℕ) → ReadsOn limit most old now reply count → (now.faults ≡ old.faults) × (now.stage ≡ old.stage)
reads_keep limit most old now reply count x = (ap (λ (w : WireState). w.faults) x.wire, ap (λ (w : WireState). w.stage) x.wire)

-- a result that is no fault of the wire
same_faults : {E : Type 0} (before now : ℕ) (said : Result Outcome E) → now ≡ before → (BlamesWire said → ⊥) → RoseByWire before now said
same_faults before now said is peer = record { later = omega (arith, is); rose = λ blames. absurd (peer blames); kept = λ _. is }

-- an end of a talk that keeps the count of faults
kept_wire : (end : End) (got : List ℕ) (old new : WireState) → new ≡ ended_by end (got_on got old) → new ≡ record (ended_by end (got_on got old)) { faults = new.faults }
kept_wire end got old new is = is ∙ ap (λ (f : ℕ). record (ended_by end (got_on got old)) { faults = f }) (sym (ap (λ (w : WireState). w.faults) is))

-- the talk that is left is ended so
left_connected : (w : WireState) → w.stage ≡ stages.Connected → left_at w.stage w ≡ ended_by ends.Left w
left_connected w is = ap (λ (s : Stage). left_at s w) is

-- the wire behind a piece, once it was left
left_behind : (old now mid new : WireState) (fed piece : List ℕ) → now ≡ got_on fed old → now.stage ≡ stages.Connected → 0 < length piece → mid ≡ after_read piece now
    → new ≡ left_at mid.stage mid → new ≡ ended_by ends.Left (got_on (fed ++ piece) old)
left_behind old now mid new fed piece is connected some read left =
    let there = piece_read old now mid fed piece is some read in
    let stage : mid.stage ≡ stages.Connected = ap (λ (w : WireState). w.stage) (there) ∙ sym (ap (λ (w : WireState). w.stage) is) ∙ connected in
    left ∙ left_connected mid stage ∙ ap (ended_by ends.Left) there

by_any_end : {E : Type 0} (limit most : ℕ) (got : List ℕ) (known : Judged) (result : Result Outcome E) → IsJudged most got known → is_decided known ≡ true → IfOk result (IsOutcomeOf ends.Ended limit known) → IfOk result (IsOutcomeIn limit most got ends.Left)
by_any_end limit most got known (Ok outcome) judged sure x = record {
  known = known;
  judged_so = judged;
  outcome_is = decided_by_any ends.Ended ends.Left limit known outcome sure x;
  left = ((λ _. sure), (λ _. refl));
}
by_any_end limit most got known (Err e) judged sure x = x

-- the reply is whole, and the talk was left
pub whole_read : {E : Type 0} (limit most : ℕ) (old now mid new : WireState) (reply fed_on : PageReply) (count : ℕ) (piece : List ℕ) (said : Result Outcome E) (x : ReadsOn limit most old now reply count)
    → now.stage ≡ stages.Connected → 0 < length piece → mid ≡ after_read piece now → new ≡ left_at mid.stage mid → most_of fed_on ≡ most_of reply
    → (t : IsPieceRead limit (x.fed ++ piece) fed_on progresses.Whole) → IfOk said (IsOutcomeOf ends.Ended limit t.known) → (BlamesWire said → ⊥) → IsReplyRead limit most old new said
whole_read limit most old now mid new reply fed_on count piece said x connected some read left same t closes peer =
    let wire = left_behind old now mid new x.fed piece x.wire connected some read left in
    let sure = whole_is_decided t.known t.progress_is in
    let judged = subst (λ (m : ℕ). IsJudged m (x.fed ++ piece) t.known) (same ∙ x.most_is) t.judged_so in
    record {
      got = x.fed ++ piece;
      end = ends.Left;
      behind = ((λ e. absurd (cc e)), (λ e. absurd (cc e)));
      wire = kept_wire ends.Left (x.fed ++ piece) old new wire;
      faults = same_faults old.faults new.faults said (ap (λ (w : WireState). w.faults) wire) peer;
      outcome = by_any_end limit most (x.fed ++ piece) t.known said judged sure closes;
    }

-- the reply is refused, and the talk was left
pub refused_read : {E : Type 0} (limit most : ℕ) (old now mid new : WireState) (reply fed_on : PageReply) (count : ℕ) (piece : List ℕ) (fault : ReplyFault) (said : Result Outcome E) (x : ReadsOn limit most old now reply count)
    → now.stage ≡ stages.Connected → 0 < length piece → mid ≡ after_read piece now → new ≡ left_at mid.stage mid → most_of fed_on ≡ most_of reply
    → IsRefusal (most_of fed_on) (x.fed ++ piece) fault → IfOk said (IsFaultOutcome fault) → IsReplyRead limit most old new said
refused_read limit most old now mid new reply fed_on count piece fault said x connected some read left same r is =
    let wire = left_behind old now mid new x.fed piece x.wire connected some read left in
    record {
      got = x.fed ++ piece;
      end = ends.Left;
      behind = ((λ e. absurd (cc e)), (λ e. absurd (cc e)));
      wire = kept_wire ends.Left (x.fed ++ piece) old new wire;
      faults = same_faults old.faults new.faults said (ap (λ (w : WireState). w.faults) wire) (peer_fault fault said is);
      outcome = refused_outcome fault limit most (x.fed ++ piece) said (subst (λ (m : ℕ). IsRefusal m (x.fed ++ piece) fault) (same ∙ x.most_is) r) is;
    }

in_ended : {E : Type 0} (limit most : ℕ) (got : List ℕ) (known : Judged) (result : Result Outcome E) → IsJudged most got known → is_decided known ≡ false → IfOk result (IsOutcomeOf ends.Ended limit known) → IfOk result (IsOutcomeIn limit most got ends.Ended)
in_ended limit most got known (Ok outcome) judged on x = record {
  known = known;
  judged_so = judged;
  outcome_is = x;
  left = ((λ e. absurd (cc e)), (λ e. absurd (cc (sym e ∙ on))));
}
in_ended limit most got known (Err e) judged on x = x

-- the peer ended the reply
pub ended_read : {E : Type 0} (limit most : ℕ) (old now new : WireState) (reply : PageReply) (count : ℕ) (said : Result Outcome E) (x : ReadsOn limit most old now reply count)
    → new ≡ ended_by ends.Ended now → IfOk said (IsOutcomeOf ends.Ended limit x.known) → (BlamesWire said → ⊥) → IsReplyRead limit most old new said
ended_read limit most old now new reply count said x is closes peer =
    let wire = is ∙ ap (ended_by ends.Ended) x.wire in
    record {
      got = x.fed;
      end = ends.Ended;
      behind = ((λ e. absurd (cc e)), (λ e. absurd (cc e)));
      wire = kept_wire ends.Ended x.fed old new wire;
      faults = same_faults old.faults new.faults said (ap (λ (w : WireState). w.faults) wire) peer;
      outcome = in_ended limit most x.fed x.known said x.judged_so x.goes_on closes;
    }

-- a read failed
pub read_failed : {E : Type 0} (limit most : ℕ) (old now new : WireState) (reply : PageReply) (count : ℕ) (x : ReadsOn limit most old now reply count) → new ≡ failed_at ends.ReadFailed new.faults now → old.faults ≤ new.faults → Rose old.faults new.faults
    → IsReplyRead {E = E} limit most old new (Ok (outcomes.Failed causes.Read))
read_failed limit most old now new reply count x is later rose = record {
  got = x.fed;
  end = ends.ReadFailed;
  behind = ((λ e. absurd (cc e)), (λ e. absurd (cc e)));
  wire = is ∙ ap (failed_at ends.ReadFailed new.faults) x.wire;
  faults = record { later = later; rose = λ _. rose; kept = λ none. absurd (none tt) };
  outcome = record {
    known = x.known;
    judged_so = x.judged_so;
    outcome_is = by_read limit x.known x.goes_on;
    left = ((λ e. absurd (cc e)), (λ e. absurd (cc (sym e ∙ x.goes_on))));
  };
}
  where
    by_read : (limit : ℕ) (known : Judged) → is_decided known ≡ false → IsOutcomeOf ends.ReadFailed limit known (outcomes.Failed causes.Read)
    by_read limit (decided v) e = absurd (cc e)
    by_read limit waits e = refl
    by_read limit (goes_on format body) e = refl

-- ---- whole talks

-- the talk under way, as it is told
abbrev IsNow : Spoken → Option ToldTalks → Option ToldTalks → Type 0
IsNow now None None = ⊤
IsNow now None (Some u) = ⊥
IsNow now (Some t) None = ⊥
IsNow now (Some t) (Some u) = u ≡ record t { now = now }

told_end : (t u : Option ToldTalks) (now : Spoken) (end : End) → IsNow now t u → Tells (λ earlier after. after ≡ talk_of end now ∷ earlier) t (option_map (telling_end end) u)
told_end None None now end x = tt
told_end None (Some u) now end x = absurd x
told_end (Some t) None now end x = absurd x
told_end (Some t) (Some u) now end x = ap (λ (v : ToldTalks). talk_of end v.now ∷ v.talks) x

talked : (w x : WireState) (f : ℕ) (now : Spoken) (end : End) → x.place ≡ w.place → x.plan ≡ w.plan → IsNow now w.told x.told
    → HasTalked w (record (ended_by end x) { faults = f }) (talk_of end now)
talked w x f now end place plan told = record { free = refl; place = place; plan = plan; told = told_end w.told x.told now end told }

begun_now : (at : ℕ) (t : Option ToldTalks) → IsNow (record { at = at; sent = []; got = [] }) t (option_map (telling_from at) t)
begun_now at None = tt
begun_now at (Some t) = refl

sent_now : (at : ℕ) (sent : List ℕ) (t : Option ToldTalks) → IsNow (record { at = at; sent = sent; got = [] }) t (option_map (telling_sent sent) (option_map (telling_from at) t))
sent_now at sent None = tt
sent_now at sent (Some t) = refl

read_now : (at : ℕ) (sent got : List ℕ) (t : Option ToldTalks)
    → IsNow (record { at = at; sent = sent; got = got }) t (option_map (telling_got got) (option_map (telling_sent sent) (option_map (telling_from at) t)))
read_now at sent got None = tt
read_now at sent got (Some t) = refl

-- the wire with a talk of a text that is connected
abbrev pub connected_at : ℕ → ℕ → WireState → WireState
connected_at at n w = record (begun_at at (made_ready 1 n w)) { stage = stages.Connected }

-- no connection was made
pub no_connection : {E : Type 0} (limit most at : ℕ) (text : List ℕ) (w new : WireState) → new ≡ failed_at ends.ConnectFailed new.faults (begun_at at (made_ready 1 (length text) w))
    → w.faults ≤ new.faults → Rose w.faults new.faults → IsExchange {E = E} limit most at text w new (Ok (outcomes.Failed causes.Connect))
no_connection limit most at text w new is later rose = record {
  talk = record { at = at; sent = []; got = []; end = ends.ConnectFailed };
  at_is = refl;
  talked = subst (λ (s : WireState). HasTalked w s (record { at = at; sent = []; got = []; end = ends.ConnectFailed })) (sym is)
      (talked w (begun_at at (made_ready 1 (length text) w)) new.faults (record { at = at; sent = []; got = [] }) ends.ConnectFailed refl refl (begun_now at w.told));
  over = record {
    whole_talk = record { sent = (text, refl); got = refl; known = waits; judged_so = nothing_got most; left = ((λ e. absurd (cc e)), (λ e. absurd (cc e))) };
    outcome_is = record { known = waits; judged_so = nothing_got most; outcome_is = refl };
  };
  faults = record { later = later; rose = λ _. rose; kept = λ none. absurd (none tt) };
}

-- a write failed
pub no_write : {E : Type 0} (limit most at : ℕ) (text sent rest : List ℕ) (w new : WireState) → text ≡ sent ++ rest
    → new ≡ failed_at ends.WriteFailed new.faults (sent_on sent (connected_at at (length text) w))
    → w.faults ≤ new.faults → Rose w.faults new.faults → IsExchange {E = E} limit most at text w new (Ok (outcomes.Failed causes.Write))
no_write limit most at text sent rest w new parts is later rose = record {
  talk = record { at = at; sent = sent; got = []; end = ends.WriteFailed };
  at_is = refl;
  talked = subst (λ (s : WireState). HasTalked w s (record { at = at; sent = sent; got = []; end = ends.WriteFailed })) (sym is)
      (talked w (sent_on sent (connected_at at (length text) w)) new.faults (record { at = at; sent = sent; got = [] }) ends.WriteFailed refl refl (sent_now at sent w.told));
  over = record {
    whole_talk = record { sent = (rest, parts); got = refl; known = waits; judged_so = nothing_got most; left = ((λ e. absurd (cc e)), (λ e. absurd (cc e))) };
    outcome_is = record { known = waits; judged_so = nothing_got most; outcome_is = refl };
  };
  faults = record { later = later; rose = λ _. rose; kept = λ none. absurd (none tt) };
}

sent_all : (end : End) (text : List ℕ) → (end ≢ ends.ConnectFailed) × (end ≢ ends.WriteFailed) → IsSent end text text
sent_all ends.ConnectFailed text x = absurd (x.0 refl)
sent_all ends.WriteFailed text x = absurd (x.1 refl)
sent_all _ text x = refl

got_some : (end : End) (got : List ℕ) → (end ≢ ends.ConnectFailed) × (end ≢ ends.WriteFailed) → IsGot end got
got_some ends.ConnectFailed got x = absurd (x.0 refl)
got_some ends.WriteFailed got x = absurd (x.1 refl)
got_some _ got x = tt

talk_over : {E : Type 0} (limit most at : ℕ) (text got : List ℕ) (end : End) (said : Result Outcome E) → (end ≢ ends.ConnectFailed) × (end ≢ ends.WriteFailed) → IfOk said (IsOutcomeIn limit most got end)
    → IfOk said (IsTalkOver limit most text (record { at = at; sent = text; got = got; end = end }))
talk_over limit most at text got end (Ok outcome) behind y = record {
  whole_talk = record { sent = sent_all end text behind; got = got_some end got behind; known = y.known; judged_so = y.judged_so; left = y.left };
  outcome_is = record { known = y.known; judged_so = y.judged_so; outcome_is = y.outcome_is };
}
talk_over limit most at text got end (Err e) behind y = y

-- the reply was read behind all of the text
pub reply_read : {E : Type 0} (limit most at : ℕ) (text : List ℕ) (w mid new : WireState) (said : Result Outcome E) → mid ≡ sent_on text (connected_at at (length text) w)
    → IsReplyRead limit most mid new said → IsExchange limit most at text w new said
reply_read limit most at text w mid new said is x = record {
  talk = record { at = at; sent = text; got = x.got; end = x.end };
  at_is = refl;
  talked = subst (λ (s : WireState). HasTalked w s (record { at = at; sent = text; got = x.got; end = x.end }))
      (sym (x.wire ∙ ap (λ (s : WireState). record (ended_by x.end (got_on x.got s)) { faults = new.faults }) is))
      (talked w (got_on x.got (sent_on text (connected_at at (length text) w))) new.faults (record { at = at; sent = text; got = x.got }) x.end refl refl (read_now at text x.got w.told));
  over = talk_over limit most at text x.got x.end said x.behind x.outcome;
  faults = subst (λ (f : ℕ). RoseByWire f new.faults said) (ap (λ (s : WireState). s.faults) is) x.faults;
}

pub peer_is : {E : Type 0} (result : Result Outcome E) → IfOk result IsPeerOutcome → BlamesWire result → ⊥
peer_is (Ok outcome) x wire = x wire
peer_is (Err e) x wire = wire

-- ---- bytes in hand

by_end : (end : End) (limit : ℕ) (known : Judged) (cause : Cause) → is_decided known ≡ false → IsOutcomeBy end limit known (outcomes.Failed cause) → IsOutcomeOf end limit known (outcomes.Failed cause)
by_end end limit (decided v) cause e x = absurd (cc e)
by_end end limit waits cause e x = x
by_end end limit (goes_on format body) cause e x = x

-- a call failed behind these bytes, on which there is no verdict
pub failed_at_end : (limit most : ℕ) (fed : List ℕ) (r : PageReply) (end : End) (cause : Cause) → most_of r ≡ most → (t : IsPieceRead limit fed r progresses.More) → IsOutcomeBy end limit t.known (outcomes.Failed cause) → IsOutcomeAt limit most fed end (outcomes.Failed cause)
failed_at_end limit most fed r end cause same t x = record {
  known = t.known;
  judged_so = subst (λ (m : ℕ). IsJudged m fed t.known) same t.judged_so;
  outcome_is = by_end end limit t.known cause (more_is_open t.known t.progress_is) x;
}

-- the peer ended behind these bytes
pub ended_at : {E : Type 0} (result : Result Outcome E) (limit most : ℕ) (fed : List ℕ) (r : PageReply) (progress : Progress) → most_of r ≡ most → (t : IsPieceRead limit fed r progress) → IfOk result (IsOutcomeOf ends.Ended limit t.known) → IfOk result (IsOutcomeAt limit most fed ends.Ended)
ended_at (Ok outcome) limit most fed r progress same t x = record { known = t.known; judged_so = subst (λ (m : ℕ). IsJudged m fed t.known) same t.judged_so; outcome_is = x }
ended_at (Err e) limit most fed r progress same t x = x

-- a whole reply comes to the same whatever the end
pub whole_at : {E : Type 0} (result : Result Outcome E) (limit most : ℕ) (fed : List ℕ) (r : PageReply) (end : End) → most_of r ≡ most → (t : IsPieceRead limit fed r progresses.Whole) → IfOk result (IsOutcomeOf ends.Ended limit t.known) → IfOk result (IsOutcomeAt limit most fed end)
whole_at (Ok outcome) limit most fed r end same t x = record {
  known = t.known;
  judged_so = subst (λ (m : ℕ). IsJudged m fed t.known) same t.judged_so;
  outcome_is = decided_by_any ends.Ended end limit t.known outcome (whole_is_decided t.known t.progress_is) x;
}
whole_at (Err e) limit most fed r end same t x = x

-- so does a refusal
pub refused_at : {E : Type 0} (result : Result Outcome E) (limit most : ℕ) (fed : List ℕ) (end : End) (fault : ReplyFault) → IsRefusal most fed fault → IfOk result (IsFaultOutcome fault) → IfOk result (IsOutcomeAt limit most fed end)
refused_at (Ok outcome) limit most fed end fault r is =
    let x = refusal_outcome fault limit most fed outcome r is in
    record { known = x.known; judged_so = x.judged_so; outcome_is = decided_by_any ends.Left end limit x.known outcome (x.left.0 refl) x.outcome_is }
refused_at (Err e) limit most fed end fault r is = is

pub not_left : (end : End) → (end ≡ ends.Ended) ⊎ (end ≡ ends.Left) → end ≢ ends.Left → end ≡ ends.Ended
not_left end (inl is) other = is
not_left end (inr is) other = absurd (other is)
