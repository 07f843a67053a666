-- What the steps of a try do to a wire.
use Rattle.std.proofs.Common.{◌≡◌, ℕ, ◌+◌, ◌-◌, ◌≤◌, ◌<◌, true, false, List, [], ◌∷◌, ◌++◌, length, take, drop, Option, Some, None, refl, sym, ap, ◌∙◌, subst, arith, inl, inr, append_assoc}
use Rattle.std.specs.Prelude.{◌≢◌, ◌↔◌, ◌⊎◌, option_map}
use Rattle.std.proofs.lemmas.List.{length-append, length-take, length-drop, take-append-drop, take_all}
use Rattle.bridge_ports.specs.declared.talk.End.{End}
use Rattle.bridge_ports.specs.declared.talk.End.TheVariants as ends
use Rattle.bridge_ports.specs.declared.talk.Talk.{Talk}
use Rattle.bridge_ports.specs.declared.talk.Stage.TheVariants as stages
use Rattle.bridge_ports.specs.Causes.{Rose}
use Rattle.bridge_ports.specs.Talks.{WireState, ToldTalks, Tells, begun_at, sent_on, got_on, failed_at, after_read, ended_by, left_at, telling_from, telling_sent, telling_got, telling_end}
use Rattle.http_talk.specs.declared.seen.HeadSeen.{HeadSeen}
use Rattle.http_talk.specs.declared.seen.HeadSeen.TheVariants as seen
use Rattle.http_talk.specs.Heads.{Shows}
use Rattle.http_talk.specs.Replies.{IsSent}
use Rattle.http_talk.proofs.Laws.{nothing_shown, take_past, got_front, unsettled_is_short}
use Rattle.bridge_ports.proofs.Laws.{read_goes_on, sent_on-nil, sent_on-more, got_on-nil, got_on-more}
use borrow.Rule.Slice.PartMut.{put_mid}
use Rattle.otlp_sender.specs.declared.posted.Try.{Try}
use Rattle.otlp_sender.specs.declared.posted.Try.TheVariants as tries
use Rattle.otlp_sender.specs.Posting.{IsRightTry, IsTryBy, IsWireTry, try_seen, IsOpenTry, is_open, GrewByRun, IsPosting, posted_of}
use Rattle.otlp_sender.specs.declared.posted.Posted.{Posted}
use Rattle.otlp_sender.specs.Sending.{BrokeOff, IsHeadTalk, IsConnectedTalk, GrewByTry, IsOneTry, GrewByOpenTries, IsUnderWay}

-- ---- bytes sent and got

-- the bytes from a place on, of which some were sent
pub sent_step : (text : List ℕ) (at count : ℕ) (w now new : WireState) → at ≤ length text → now ≡ sent_on (take at text) w → new ≡ sent_on (take count (take (length text - at) (drop at text))) now → count ≤ length (take (length text - at) (drop at text))
    → new ≡ sent_on (take (at + count) text) w
sent_step text at count w now new within before after few =
    let rest : take (length text - at) (drop at text) ≡ drop at text = take_all (length text - at) (drop at text) (omega (arith, length-drop at text)) in
    after ∙ ap (λ xs. sent_on (take count xs) now) rest ∙ ap (λ v. sent_on (take count (drop at text)) v) before ∙ sent_on-more (take at text) (take count (drop at text)) w ∙ ap (λ xs. sent_on xs w) (both text at count within)
  where
    both : (text : List ℕ) (at count : ℕ) → at ≤ length text → take at text ++ take count (drop at text) ≡ take (at + count) text
    both text at count within =
        let left : at + count - length (take at text) ≡ count = omega (arith, within, length-take at text) in
        sym (ap (λ xs. take (at + count) xs) (sym (take-append-drop at text)) ∙ take_past (take at text) (drop at text) (at + count) (omega (arith, within, length-take at text)) ∙ ap (λ n. take at text ++ take n (drop at text)) left)

pub broke_off : (text : List ℕ) (at : ℕ) (w now new : WireState) → now ≡ sent_on (take at text) w → new ≡ failed_at ends.WriteFailed new.faults now → now.faults ≤ new.faults → Rose now.faults new.faults → BrokeOff text w new
broke_off text at w now new before after later rose = record {
  later = subst (λ v. v.faults ≤ new.faults) before later;
  sent = take at text;
  rest = drop at text;
  text_is = sym (take-append-drop at text);
  state = after ∙ ap (λ v. failed_at ends.WriteFailed new.faults v) before;
  rose = subst (λ v. Rose v.faults new.faults) before rose;
}

-- ---- a text in two parts

-- a write failed in the second
pub broke_rest : (front rest : List ℕ) (w now new : WireState) → now ≡ sent_on front w → BrokeOff rest now new → BrokeOff (front ++ rest) w new
broke_rest front rest w now new before b = record {
  sent = front ++ b.sent;
  rest = b.rest;
  text_is = ap (λ xs. front ++ xs) b.text_is ∙ sym (append_assoc front b.sent b.rest);
  state = b.state ∙ ap (λ v. failed_at ends.WriteFailed new.faults (sent_on b.sent v)) before ∙ ap (λ v. failed_at ends.WriteFailed new.faults v) (sent_on-more front b.sent w);
  later = subst (λ v. v.faults ≤ new.faults) before b.later;
  rose = subst (λ v. Rose v.faults new.faults) before b.rose;
}

-- ---- bytes read behind others

pub read_step : (buffer into after : List ℕ) (filled room count : ℕ) (w now mid : WireState) → filled ≤ length buffer → count ≤ length into → 0 < count → after ≡ take (filled + count) (put_mid filled room buffer into)
    → now ≡ got_on (take filled buffer) w → mid ≡ after_read (take count into) now → mid ≡ got_on after w
read_step buffer into after filled room count w now mid within few some is before read =
    read ∙ read_goes_on (take count into) now (omega (arith, length-take count into, few, some)) ∙ ap (λ v. got_on (take count into) v) before
    ∙ got_on-more (take filled buffer) (take count into) w ∙ ap (λ xs. got_on xs w) (sym (is ∙ got_front buffer into filled room count within few))

-- a reply whose head is not settled leaves room
pub room_left : (buffer into after : List ℕ) (filled room count : ℕ) → filled ≤ length buffer → count ≤ length into → after ≡ take (filled + count) (put_mid filled room buffer into) → Shows after seen.More → filled + count < 16384
room_left buffer into after filled room count within few is shown =
    omega (arith, unsettled_is_short after shown, ap (length {A = ℕ}) (is ∙ got_front buffer into filled room count within few), length-append (take filled buffer) (take count into), length-take filled buffer, length-take count into, within, few)

-- a talk that was left at a settled head
pub left_there : (got : List ℕ) (what : HeadSeen) (w mid new : WireState) (t : Try) → w.stage ≡ stages.Connected → mid ≡ got_on got w → new ≡ left_at mid.stage mid → Shows got what → what ≢ seen.More → t ≡ try_seen what → IsHeadTalk w new t
left_there got what w mid new t connected is leaves shown settled verdict =
    let at : mid.stage ≡ stages.Connected = ap (λ v. v.stage) is ∙ connected in
    let ended : new ≡ ended_by ends.Left (got_on got w) = leaves ∙ ap (λ s. left_at s mid) at ∙ ap (λ v. ended_by ends.Left v) is in
    let faults : new.faults ≡ w.faults = ap (λ v. v.faults) ended in
    record {
      got = got;
      end = ends.Left;
      state = ended ∙ ap (λ f. failed_at ends.Left f (got_on got w)) (sym faults);
      later = omega (arith, faults);
      rose = λ failed. absurd (no_failure what (subst IsWireTry verdict failed));
      what = what;
      shown = shown;
      left = ((λ e. settled), (λ e. refl));
      verdict = (what, shown, verdict);
      connected = λ same. cc same;
      written = λ same. cc same;
    }
  where
    no_failure : (what : HeadSeen) → IsWireTry (try_seen what) → ⊥
    no_failure (seen.Status code) x = x
    no_failure seen.Bad x = x
    no_failure seen.More x = x

-- ---- one try

tells_try : (old new : Option ToldTalks) (text : List ℕ) (t : Try) (end : End) (at : ℕ) (sent got : List ℕ)
    → new ≡ option_map (telling_end end) (option_map (telling_got got) (option_map (telling_sent sent) (option_map (telling_from at) old)))
    → IsRightTry text (record { at = at; sent = sent; got = got; end = end }) → IsTryBy end got t → Tells (GrewByTry text t) old new
tells_try None new text t end at sent got is right verdict = subst (λ n. Tells (GrewByTry text t) None n) (sym is) tt
tells_try (Some o) new text t end at sent got is right verdict =
    subst (λ n. Tells (GrewByTry text t) (Some o) n) (sym is) (record { at = at; sent = sent; got = got; end = end }, refl, right, verdict)

nothing_left : (end : End) → end ≢ ends.Left → (end ≡ ends.Left) ↔ (seen.More ≢ seen.More)
nothing_left end other = ((λ is. absurd (other is)), (λ no. absurd (no refl)))

pub exchange_broke : (text : List ℕ) (old new : WireState) → BrokeOff text old new → IsConnectedTalk text old new tries.Write
exchange_broke text old new b = record {
  sent = b.sent;
  got = [];
  end = ends.WriteFailed;
  state = b.state ∙ ap (λ v. failed_at ends.WriteFailed new.faults v) (sym (got_on-nil (sent_on b.sent old)));
  later = b.later;
  rose = λ w. b.rose;
  text_is = (b.rest, b.text_is);
  what = seen.More;
  shown = nothing_shown;
  left = nothing_left ends.WriteFailed (λ same. cc same);
  verdict = refl;
}

all_sent : (end : End) (text : List ℕ) → end ≢ ends.ConnectFailed → end ≢ ends.WriteFailed → IsSent end text text
all_sent ends.ConnectFailed text a b = absurd (a refl)
all_sent ends.WriteFailed text a b = absurd (b refl)
all_sent _ text a b = refl

pub exchange_read : (text : List ℕ) (old mid new : WireState) (t : Try) → mid ≡ sent_on text old → IsHeadTalk mid new t → IsConnectedTalk text old new t
exchange_read text old mid new t is h = record {
  sent = text;
  got = h.got;
  end = h.end;
  state = h.state ∙ ap (λ v. failed_at h.end new.faults (got_on h.got v)) is;
  later = subst (λ v. v.faults ≤ new.faults) is h.later;
  rose = λ w. subst (λ v. Rose v.faults new.faults) is (h.rose w);
  text_is = all_sent h.end text h.connected h.written;
  what = h.what;
  shown = h.shown;
  left = h.left;
  verdict = h.verdict;
}

pub try_exchanged : (text : List ℕ) (at : ℕ) (old mid new : WireState) (t : Try) → 1 ≤ old.allowed → mid ≡ record (begun_at at old) { stage = stages.Connected } → IsConnectedTalk text mid new t → IsOneTry text old new t
try_exchanged text at old mid new t some is x =
    let state : new ≡ failed_at x.end new.faults (got_on x.got (sent_on x.sent (record (begun_at at old) { stage = stages.Connected }))) = x.state ∙ ap (λ v. failed_at x.end new.faults (got_on x.got (sent_on x.sent v))) is in
    record {
      free = ap (λ v. v.stage) state;
      place = ap (λ v. v.place) state;
      plan = ap (λ v. v.plan) state;
      room = ap (λ v. v.room) state;
      later = subst (λ v. v.faults ≤ new.faults) is x.later;
      rose = λ w. subst (λ v. Rose v.faults new.faults) is (x.rose w);
      counted = omega (arith, some, ap (λ v. v.allowed) state);
      told = tells_try old.told new.told text t x.end at x.sent x.got (ap (λ v. v.told) state) (record { sent = x.text_is; what = x.what; shown = x.shown; left = x.left }) x.verdict;
    }

pub try_unconnected : (text : List ℕ) (at : ℕ) (old mid new : WireState) → 1 ≤ old.allowed → mid ≡ begun_at at old → new ≡ failed_at ends.ConnectFailed new.faults mid → mid.faults ≤ new.faults → Rose mid.faults new.faults → IsOneTry text old new tries.Connect
try_unconnected text at old mid new some is failed after rose =
    let before : new ≡ failed_at ends.ConnectFailed new.faults (begun_at at old) = failed ∙ ap (λ v. failed_at ends.ConnectFailed new.faults v) is in
    let state : new ≡ failed_at ends.ConnectFailed new.faults (got_on [] (sent_on [] (begun_at at old))) =
    before ∙ ap (λ v. failed_at ends.ConnectFailed new.faults v) (sym (got_on-nil (sent_on [] (begun_at at old)) ∙ sent_on-nil (begun_at at old))) in
    let risen : Rose old.faults new.faults = subst (λ v. Rose v.faults new.faults) is rose in
    record {
      free = ap (λ v. v.stage) state;
      place = ap (λ v. v.place) state;
      plan = ap (λ v. v.plan) state;
      room = ap (λ v. v.room) state;
      later = subst (λ v. v.faults ≤ new.faults) is after;
      rose = λ w. risen;
      counted = omega (arith, some, ap (λ v. v.allowed) state);
      told = tells_try old.told new.told text tries.Connect ends.ConnectFailed at [] [] (ap (λ v. v.told) state)
          (record { sent = (text, refl); what = seen.More; shown = nothing_shown; left = nothing_left ends.ConnectFailed (λ same. cc same) }) refl;
    }

-- ---- the tries of a text

open_try : (text : List ℕ) (talk : Talk) (t : Try) → IsRightTry text talk → IsTryBy talk.end talk.got t → is_open t ≡ true → IsOpenTry text talk
open_try text talk t right verdict due = record { right = right; verdict = t; verdict_is = verdict; open_verdict = due }

one_more_told : (text : List ℕ) (t : Try) (made : ℕ) (a b c : Option ToldTalks) → is_open t ≡ true → Tells (GrewByOpenTries text made) a b → Tells (GrewByTry text t) b c → Tells (GrewByOpenTries text (made + 1)) a c
one_more_told text t made None None None due x y = tt
one_more_told text t made None None (Some c) due x y = absurd y
one_more_told text t made None (Some b) c due x y = absurd x
one_more_told text t made (Some a) None c due x y = absurd x
one_more_told text t made (Some a) (Some b) None due x y = absurd y
one_more_told text t made (Some a) (Some b) (Some c) due x y =
    (y.0 ∷ x.0, y.1 ∙ ap (λ ts. y.0 ∷ ts) x.1, (open_try text y.0 t y.2 y.3 due, x.2), omega (arith, x.3))

pub posted_on : (text : List ℕ) (t : Try) (made : ℕ) (old now new : WireState) → is_open t ≡ true → IsUnderWay text made old now → IsOneTry text now new t → IsUnderWay text (made + 1) old new
posted_on text t made old now new due u x = record {
  free = x.free;
  place = x.place ∙ u.place;
  plan = x.plan ∙ u.plan;
  room = x.room ∙ u.room;
  later = omega (arith, u.later, x.later);
  counted = omega (arith, u.counted, x.counted);
  told = one_more_told text t made old.told now.told new.told due u.told x.told;
}

run_told : (most : ℕ) (text : List ℕ) (t : Try) (made : ℕ) (a b c : Option ToldTalks) → made + 1 ≤ most → (is_open t ≡ false) ⊎ (made + 1 ≡ most) → Tells (GrewByOpenTries text made) a b → Tells (GrewByTry text t) b c → Tells (GrewByRun most text t) a c
run_told most text t made None None None few ended x y = tt
run_told most text t made None None (Some c) few ended x y = absurd y
run_told most text t made None (Some b) c few ended x y = absurd x
run_told most text t made (Some a) None c few ended x y = absurd x
run_told most text t made (Some a) (Some b) None few ended x y = absurd y
run_told most text t made (Some a) (Some b) (Some c) few ended x y = (
  y.0 ∷ x.0,
  y.1 ∙ ap (λ ts. y.0 ∷ ts) x.1,
  record {
    talk = y.0;
    earlier = x.0;
    talks_are = refl;
    right = y.2;
    verdict = y.3;
    before = x.2;
    few = omega (arith, few, x.3);
    ended = elim ended [ inl closed ↦ inl closed | inr all ↦ inr (omega (arith, all, x.3)) ];
  },
)

pub posted_all : (most : ℕ) (text : List ℕ) (t : Try) (made : ℕ) (old now new : WireState) (result : Posted) → made + 1 ≤ most → (is_open t ≡ false) ⊎ (made + 1 ≡ most) → result ≡ posted_of t → IsUnderWay text made old now → IsOneTry text now new t
    → IsPosting most text old new result
posted_all most text t made old now new result few ended is u x = record {
  last = t;
  result_is = is;
  free = x.free;
  place = x.place ∙ u.place;
  plan = x.plan ∙ u.plan;
  later = omega (arith, u.later, x.later);
  rose = λ w. let r = x.rose w in omega (arith, u.later, r);
  tries = made + 1;
  counted = (omega arith, few, omega (arith, u.counted, x.counted));
  ended = ended;
  told = run_told most text t made old.told now.told new.told few ended u.told x.told;
}

-- the wire whose peer is connected
pub connected_on : (a b c : WireState) → a ≡ record b { stage = stages.Connected } → b ≡ c → a ≡ record c { stage = stages.Connected }
connected_on a b c e f = e ∙ ap (λ (w : WireState). record w { stage = stages.Connected }) f

pub shown_more : (got : List ℕ) (what : HeadSeen) → what ≡ seen.More → Shows got what → Shows got seen.More
shown_more got what is shown = subst (λ s. Shows got s) is shown
