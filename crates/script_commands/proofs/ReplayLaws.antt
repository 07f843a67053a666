-- What a script's records come to is one text, and how it grows by one body.
use Rattle.std.proofs.Common.{◌≡◌, ℕ, zero, suc, ◌+◌, ◌^◌, ◌<◌, ◌≤◌, List, [], ◌∷◌, ◌++◌, length, get_or, Option, Some, None, Result, Ok, Err, refl, sym, ap, subst, ◌∙◌, arith, append-nil}
use Rattle.std.specs.Prelude.{slice_get, IfOk, codes, ⊤}
use Rattle.std.specs.List.{AllByRecursion}
use Rattle.page_model.specs.declared.format.Format.{Format}
use Rattle.otlp_json.specs.Texts.{request_text}
use Rattle.target_core.specs.Events.{request_after}
use Rattle.std.specs.Io.KnownBytes.{Appends}
use Rattle.std.proofs.lemmas.Option.{same_Some, none-some}
use Rattle.page_model.specs.declared.event.Event.{Event}
use Rattle.page_model.specs.declared.event.Outcome.{Outcome}
use Rattle.page_model.specs.declared.event.Outcome.TheVariants as outcomes
use Rattle.page_model.specs.declared.event.Cause.{Cause}
use Rattle.page_model.specs.declared.event.Cause.TheVariants as causes
use Rattle.page_model.specs.Presence.{page_of_outcome}
use Rattle.page_model.proofs.Laws.{page-distinct_keys}
use Rattle.bridge_ports.specs.Targets.{Scraped}
use Rattle.bridge_ports.specs.declared.talk.End.{End}
use Rattle.bridge_ports.specs.declared.talk.End.TheVariants as ends
use Rattle.bridge_ports.specs.declared.talk.MemoryReply.{MemoryReply}
use Rattle.http_talk.specs.Replies.{Verdict, refused, whole, Judged, waits, goes_on, decided, scraped_setting, IsPageOutcome, IsVerdictOutcome, IsEndOutcome, IsOutcomeBy, IsOutcomeOf, HasOutcome}
use Rattle.http_talk.proofs.Laws.{outcome_once}
use Rattle.start_times.specs.Scrapes.{last_moment, moment_after, scrape_after, scrapes_of}
use Rattle.start_times.specs.Advancing.{HasDistinctKeys}
use Rattle.target_core.specs.States.{Following, StandsFor, HasNextMoment}
use Rattle.replay_script.specs.declared.header.Header.{Header}
use Rattle.replay_script.specs.declared.script.ScriptTarget.{ScriptTarget}
use Rattle.replay_script.specs.declared.script.Script.{Script}
use Rattle.replay_script.specs.RightScripts.{IsRightHeader, IsRightTarget}
use Rattle.plain_words.proofs.Laws.{in_range}
use Rattle.script_commands.specs.declared.replaying.Cut.{Cut}
use Rattle.script_commands.specs.declared.replaying.Cut.TheVariants as cuts
use Rattle.program_words.specs.Limits.{most_rounds}
use Rattle.script_commands.specs.Replays.{script_tracking, reply_talk, IsReplyEvent, IsEventAt, AreEvents, body_after, bodies_of, IsTextOfSome, IsTextOf, AreTexts, joined_texts, IsReplay, IsReplayOfSome}
use Rattle.bridge_ports.proofs.Laws.{appends_twice, front_behind}
use Rattle.otlp_tree.specs.declared.tree.Request.{Request}
use Rattle.script_commands.specs.Printing.{MakesTree, PrintsNext, CutsTarget, CutsBodies, PrintedSome, PrintedTargets}
use Rattle.bridge_ports.specs.Writing.{WroteFront}

-- ---- one text

-- a reply comes to one event
event_once : (h : Header) (r s : MemoryReply) (e f : Event) → r ≡ s → IsReplyEvent h r e → IsReplyEvent h s f → e ≡ f
event_once h r s e f same a b =
    let At : MemoryReply → Type 0 = λ x. IsReplyEvent h x e in
    let moved = subst At same a in
    let time : e.reading ≡ f.reading = moved.time ∙ sym b.time in
    let outcome : e.outcome ≡ f.outcome = outcome_once h.limit h.max_page (reply_talk s) e.outcome f.outcome moved.comes_to b.comes_to in
    let all : record { reading = e.reading; outcome = e.outcome } ≡ record { reading = f.reading; outcome = f.outcome } = cc in
    all

-- replies come to one list of events, where there are as many
pub events_once : (h : Header) (records : List MemoryReply) (xs ys : List Event) → length xs ≡ length ys → AreEvents h records xs → AreEvents h records ys → xs ≡ ys
events_once h records [] [] same a b = refl
events_once h records [] (y ∷ ys) same a b = absurd (omega (arith, same))
events_once h records (x ∷ xs) [] same a b = absurd (omega (arith, same))
events_once h records (x ∷ xs) (y ∷ ys) same a b =
    let shorter : length xs ≡ length ys = omega (arith, same) in
    let rest = events_once h records xs ys shorter a.1 b.1 in
    let r = same_Some a.0.reply b.0.reply (sym a.0.stands ∙ ap (slice_get records) shorter ∙ b.0.stands) in
    ap (λ e. e ∷ xs) (event_once h a.0.reply b.0.reply x y r a.0.is b.0.is) ∙ ap (λ es. y ∷ es) rest

text_once : (h : Header) (t u : ScriptTarget) (a b : List ℕ) → t ≡ u → IsTextOf h t a → IsTextOf h u b → a ≡ b
text_once h t u a b same x y =
    let At : ScriptTarget → Type 0 = λ v. IsTextOf h v a in
    let moved = subst At same x in
    let events = events_once h u.scrapes moved.events y.events (moved.all ∙ sym y.all) moved.are y.are in
    moved.says ∙ ap (bodies_of h u.target) events ∙ sym y.says

texts_once : (s : Script) (xs ys : List (List ℕ)) → length xs ≡ length ys → AreTexts s xs → AreTexts s ys → xs ≡ ys
texts_once s [] [] same a b = refl
texts_once s [] (y ∷ ys) same a b = absurd (omega (arith, same))
texts_once s (x ∷ xs) [] same a b = absurd (omega (arith, same))
texts_once s (x ∷ xs) (y ∷ ys) same a b =
    let shorter : length xs ≡ length ys = omega (arith, same) in
    let rest = texts_once s xs ys shorter a.1 b.1 in
    let t = same_Some a.0.target b.0.target (sym a.0.stands ∙ ap (slice_get s.targets) shorter ∙ b.0.stands) in
    ap (λ e. e ∷ xs) (text_once s.header a.0.target b.0.target x y t a.0.is b.0.is) ∙ ap (λ es. y ∷ es) rest

-- a script has one text
pub replay_once : (s : Script) (a b : List ℕ) → IsReplay s a → IsReplay s b → a ≡ b
replay_once s a b x y = x.says ∙ ap joined_texts (texts_once s x.texts y.texts (x.all ∙ sym y.all) x.are y.are) ∙ sym y.says

-- ---- outcomes

-- it holds of each failed scrape
abbrev OfFailed : (Outcome → Type 0) → Type 0
OfFailed P = (cause : Cause) → P (outcomes.Failed cause)

-- it holds of what each body comes to
abbrev OfBodies : ℕ → (Outcome → Type 0) → Type 0
OfBodies limit P = (f : Format) (body : List ℕ) (o : Outcome) → IsPageOutcome limit f body o → P o

failed_holds : (P : Outcome → Type 0) (o : Outcome) (cause : Cause) → OfFailed P → o ≡ outcomes.Failed cause → P o
failed_holds P o cause failed e = subst P (sym e) (failed cause)

verdict_holds : (P : Outcome → Type 0) (limit : ℕ) (v : Verdict) (o : Outcome) → OfFailed P → OfBodies limit P → IsVerdictOutcome limit v o → P o
verdict_holds P limit (refused cause) o failed bodies is = failed_holds P o cause failed is
verdict_holds P limit (whole f body) o failed bodies is = bodies f body o is

end_holds : (P : Outcome → Type 0) (limit : ℕ) (known : Judged) (o : Outcome) → OfFailed P → OfBodies limit P → IsEndOutcome limit known o → P o
end_holds P limit waits o failed bodies is = failed_holds P o causes.Truncated failed is
end_holds P limit (goes_on f body) o failed bodies is = bodies f body o is
end_holds P limit (decided v) o failed bodies is = verdict_holds P limit v o failed bodies is

holds_by : (P : Outcome → Type 0) (end : End) (limit : ℕ) (known : Judged) (o : Outcome) → OfFailed P → OfBodies limit P → IsOutcomeBy end limit known o → P o
holds_by P ends.ConnectFailed limit known o failed bodies is = failed_holds P o causes.Connect failed is
holds_by P ends.WriteFailed limit known o failed bodies is = failed_holds P o causes.Write failed is
holds_by P ends.ReadFailed limit known o failed bodies is = failed_holds P o causes.Read failed is
holds_by P ends.Ended limit known o failed bodies is = end_holds P limit known o failed bodies is
holds_by P ends.Left limit known o failed bodies is = absurd is

holds_of : (P : Outcome → Type 0) (end : End) (limit : ℕ) (known : Judged) (o : Outcome) → OfFailed P → OfBodies limit P → IsOutcomeOf end limit known o → P o
holds_of P end limit (decided v) o failed bodies is = verdict_holds P limit v o failed bodies is
holds_of P end limit waits o failed bodies is = holds_by P end limit waits o failed bodies is
holds_of P end limit (goes_on f body) o failed bodies is = holds_by P end limit (goes_on f body) o failed bodies is

-- what holds of each failed scrape and of what each body comes to holds of what a reply comes to
pub outcome_holds : (P : Outcome → Type 0) (h : Header) (r : MemoryReply) (o : Outcome) → OfFailed P → OfBodies h.limit P → HasOutcome h.limit h.max_page (reply_talk r) o → P o
outcome_holds P h r o failed bodies has = holds_of P r.end h.limit has.known o failed bodies has.outcome_is

-- the keys of a page that a body holds are distinct
page_keys : (limit : ℕ) → OfBodies limit (λ o. HasDistinctKeys (page_of_outcome o))
unfolding Rattle.std.specs.List.IsDistinct
page_keys limit f body (outcomes.Page page) is = page-distinct_keys (scraped_setting f limit) body page is
page_keys limit f body (outcomes.Failed cause) is = tt

-- a failed scrape has no keys
failed_keys : OfFailed (λ o. HasDistinctKeys (page_of_outcome o))
unfolding Rattle.std.specs.List.IsDistinct
failed_keys cause = tt

-- the keys of what a reply comes to are distinct
pub outcome_keys : (h : Header) (r : MemoryReply) (o : Outcome) → HasOutcome h.limit h.max_page (reply_talk r) o → HasDistinctKeys (page_of_outcome o)
outcome_keys h r o has = outcome_holds (λ o. HasDistinctKeys (page_of_outcome o)) h r o failed_keys (page_keys h.limit) has

-- ---- moments

-- a moment is not far behind the greatest reading
abbrev IsNear : ℕ → Option ℕ → Type 0
IsNear n None = ⊤
IsNear n (Some moment) = moment ≤ 2 ^ 62 + n

after_near : (n : ℕ) (before : Option ℕ) (reading : ℕ) → IsNear n before → moment_after before reading ≤ 2 ^ 62 + suc n
after_near n None reading near = omega arith
after_near n (Some moment) reading near = omega (arith, near)

last_near : (events : List Event) → IsNear (length events) (last_moment (scrapes_of events))
unfolding scrape_after
last_near [] = tt
last_near (e ∷ earlier) = after_near (length earlier) (last_moment (scrapes_of earlier)) e.reading (last_near earlier)

near_next : (n : ℕ) (o : Option ℕ) → n ≤ most_rounds → IsNear n o → HasNextMoment o
near_next n None few near = tt
near_next n (Some moment) few near = omega (arith, few, near)

-- behind the events of a script a further moment fits
pub next_moment : (target : Scraped) (h : Header) (s : Following) (events : List Event) → StandsFor target (script_tracking h target) s events → length events ≤ most_rounds → HasNextMoment s.moment
next_moment target h s events stands few = subst HasNextMoment (sym stands.moment_is) (near_next (length events) (last_moment (scrapes_of events)) few (last_near events))

-- a target of a script has few scrapes
pub rounds_few : (h : Header) (t : ScriptTarget) → IsRightHeader h → IsRightTarget h t → length t.scrapes ≤ most_rounds
rounds_few h t header right = omega (arith, right.scrapes, (in_range 1 1000000 h.rounds header.rounds).1)

-- ---- one body more

-- the element at a place
pub at_place : {A : Type 0} (xs : List A) (i : ℕ) (x : A) → i < length xs → x ≡ get_or xs i x → slice_get xs i ≡ Some x
at_place [] i x inside e = absurd (omega arith)
at_place (y ∷ ys) zero x inside e = ap Some (sym e)
at_place (y ∷ ys) (suc i) x inside e = at_place ys i x (omega (arith, inside)) e

-- the event behind those that were printed
next_event : (h : Header) (t : ScriptTarget) (at : ℕ) (state : Following) (a b : Option (List ℕ)) (r : MemoryReply) (e : Event) → (was : PrintedSome h t at state a b) → slice_get t.scrapes at ≡ Some r → IsReplyEvent h r e
    → IsEventAt h t.scrapes (length was.events) e
next_event h t at state a b r e was stands is = record { reply = r; stands = ap (slice_get t.scrapes) was.count ∙ stands; is = is }

-- a body more was printed
pub printed_more : (h : Header) (t : ScriptTarget) (at : ℕ) (old new : Following) (a b c : Option (List ℕ)) (r : MemoryReply) (e : Event) → (was : PrintedSome h t at old a b) → slice_get t.scrapes at ≡ Some r
    → IsReplyEvent h r e → StandsFor t.target (script_tracking h t.target) new (e ∷ was.events) → Appends b c (body_after h t.target was.events e) → PrintedSome h t (at + 1) new a c
printed_more h t at old new a b c r e was stands is state more = record {
  events = e ∷ was.events;
  are = (next_event h t at old a b r e was stands is, was.are);
  count = omega (arith, was.count);
  stands = state;
  written = appends_twice a b c (bodies_of h t.target was.events) (body_after h t.target was.events e) was.written more;
}

-- a front of the next body was written
pub printed_front : (h : Header) (t : ScriptTarget) (at : ℕ) (state : Following) (a b c : Option (List ℕ)) (r : MemoryReply) (e : Event) → (was : PrintedSome h t at state a b) → slice_get t.scrapes at ≡ Some r
    → IsReplyEvent h r e → WroteFront b c (body_after h t.target was.events e) → (text : List ℕ) × IsTextOfSome h t text × WroteFront a c text
printed_front h t at state a b c r e was stands is front = (
  bodies_of h t.target (e ∷ was.events),
  record { events = e ∷ was.events; are = (next_event h t at state a b r e was stands is, was.are); says = refl },
  front_behind a b c (bodies_of h t.target was.events) (body_after h t.target was.events e) was.written front,
)

-- memory was wanted for the next body
pub printed_stop : (h : Header) (t : ScriptTarget) (at : ℕ) (state : Following) (a b c : Option (List ℕ)) → PrintedSome h t at state a b → Appends b c [] → (text : List ℕ) × IsTextOfSome h t text × Appends a c text
printed_stop h t at state a b c was none =
    let Grown : List ℕ → Type 0 = λ t. Appends a c t in (
      bodies_of h t.target was.events,
      record { events = was.events; are = was.are; says = refl },
      subst Grown (append-nil (bodies_of h t.target was.events)) (appends_twice a b c (bodies_of h t.target was.events) [] was.written none),
    )

-- ---- one target more

pub targets_more : (s : Script) (at : ℕ) (a b c : Option (List ℕ)) (t : ScriptTarget) (text : List ℕ) → PrintedTargets s at a b → slice_get s.targets at ≡ Some t → IsTextOf s.header t text → Appends b c text
    → PrintedTargets s (at + 1) a c
targets_more s at a b c t text was stands is more = record {
  texts = text ∷ was.texts;
  are = (record { target = t; stands = ap (slice_get s.targets) was.count ∙ stands; is = is }, was.are);
  count = omega (arith, was.count);
  written = appends_twice a b c (joined_texts was.texts) text was.written more;
}

-- the text of all events is that of some
pub some_text : (h : Header) (t : ScriptTarget) (text : List ℕ) → IsTextOf h t text → IsTextOfSome h t text
some_text h t text is = record { events = is.events; are = is.are; says = is.says }

some_of : (s : Script) (at : ℕ) (a b : Option (List ℕ)) (t : ScriptTarget) (part : List ℕ) → (was : PrintedTargets s at a b) → slice_get s.targets at ≡ Some t → IsTextOfSome s.header t part
    → IsReplayOfSome s (joined_texts was.texts ++ part)
some_of s at a b t part was stands is = record { texts = was.texts; are = was.are; target = t; stands = ap (slice_get s.targets) was.count ∙ stands; part = part; is_part = is; says = refl }

pub targets_front : (s : Script) (at : ℕ) (a b c : Option (List ℕ)) (t : ScriptTarget) (part : List ℕ) → PrintedTargets s at a b → slice_get s.targets at ≡ Some t → IsTextOfSome s.header t part → WroteFront b c part
    → (text : List ℕ) × IsReplayOfSome s text × WroteFront a c text
targets_front s at a b c t part was stands is front =
    (joined_texts was.texts ++ part, some_of s at a b t part was stands is, front_behind a b c (joined_texts was.texts) part was.written front)

pub targets_stop : (s : Script) (at : ℕ) (a b c : Option (List ℕ)) (t : ScriptTarget) (part : List ℕ) → PrintedTargets s at a b → slice_get s.targets at ≡ Some t → IsTextOfSome s.header t part → Appends b c part
    → (text : List ℕ) × IsReplayOfSome s text × Appends a c text
targets_stop s at a b c t part was stands is more =
    (joined_texts was.texts ++ part, some_of s at a b t part was stands is, appends_twice a b c (joined_texts was.texts) part was.written more)

-- ---- what is made

-- the event of a reply whose bytes were judged
pub reply_event : (h : Header) (r : MemoryReply) (got : List ℕ) (o : Outcome) → got ≡ r.got → HasOutcome h.limit h.max_page (record { at = r.at; sent = []; got = got; end = r.end }) o
    → IsReplyEvent h r (record { reading = r.at; outcome = o })
reply_event h r got o same has =
    let At : List ℕ → Type 0 = λ bytes. HasOutcome h.limit h.max_page (record { at = r.at; sent = []; got = bytes; end = r.end }) o in
    record { time = refl; comes_to = subst At same has }

-- a tree that was made
pub made_tree : {E : Type 0} (h : Header) (target : Scraped) (r : MemoryReply) (earlier : List Event) (new : Following) (result : Result Request E) (e : Event) → IsReplyEvent h r e
    → IfOk result (λ request. (request ≡ request_after target (script_tracking h target) earlier e) × StandsFor target (script_tracking h target) new (e ∷ earlier))
    → MakesTree h target r earlier new result
made_tree h target r earlier new (Ok request) e is made = (e, is, made.1, made.0)
made_tree h target r earlier new (Err wanting) e is made = tt

-- the text of a tree, and an LF, are the body of the event whose tree it is
pub tree_body : (h : Header) (target : Scraped) (earlier : List Event) (e : Event) (request : Request) → request ≡ request_after target (script_tracking h target) earlier e → request_text request ++ codes "\n" ≡ body_after h target earlier e
unfolding body_after
tree_body h target earlier e request is = ap (λ r. request_text r ++ codes "\n") is

-- ---- where printing is cut off

-- printing a target was cut off at this reply
pub target_cut : (h : Header) (t : ScriptTarget) (at : ℕ) (old new : Following) (a b c : Option (List ℕ)) (r : MemoryReply) (cut : Cut) → (was : PrintedSome h t at old a b) → slice_get t.scrapes at ≡ Some r
    → PrintsNext h t.target r was.events new b c (Err cut) → CutsTarget h t a c cut
target_cut h t at old new a b c r cuts.Write was stands next = printed_front h t at old a b c r next.0 was stands next.1 next.2
target_cut h t at old new a b c r cuts.Memory was stands next = printed_stop h t at old a b c was next

-- printing a script was cut off at this target
pub script_cut : (s : Script) (at : ℕ) (a b c : Option (List ℕ)) (t : ScriptTarget) (cut : Cut) → PrintedTargets s at a b → slice_get s.targets at ≡ Some t → CutsTarget s.header t b c cut
    → CutsBodies s a c cut
script_cut s at a b c t cuts.Write was stands next = targets_front s at a b c t next.0 was stands next.1 next.2
script_cut s at a b c t cuts.Memory was stands next = targets_stop s at a b c t next.0 was stands next.1 next.2

-- the bodies of a target were printed, and memory was wanted for what it shows
pub script_full : (s : Script) (at : ℕ) (a b c : Option (List ℕ)) (t : ScriptTarget) → PrintedTargets s at a b → slice_get s.targets at ≡ Some t → (text : List ℕ) × IsTextOf s.header t text × Appends b c text
    → CutsBodies s a c cuts.Memory
script_full s at a b c t was stands next = targets_stop s at a b c t next.0 was stands (some_text s.header t next.0 next.1) next.2

-- a place in values that are the same
pub place_in_same : {A : Type 0} (xs ys : List A) (i : ℕ) (x : A) → xs ≡ ys → i < length xs → x ≡ get_or xs i x → slice_get ys i ≡ Some x
place_in_same xs ys i x same inside e = sym (ap (λ zs. slice_get zs i) same) ∙ at_place xs i x inside e

-- what holds of each holds of the one at a place
pub all_at : {A : Type 0} (P : A → Type 0) (xs : List A) (i : ℕ) (x : A) → AllByRecursion P xs → slice_get xs i ≡ Some x → P x
all_at P [] i x all at = absurd (none-some x at)
all_at P (y ∷ ys) zero x all at = subst P (same_Some y x at) all.0
all_at P (y ∷ ys) (suc i) x all at = all_at P ys i x all.1 at
