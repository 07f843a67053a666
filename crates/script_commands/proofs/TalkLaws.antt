-- The talks over the wires of a script's targets: each is one that a reply gives, and they tell the events that the replies come to.
use Rattle.std.proofs.Common.{◌≡◌, ℕ, zero, suc, ◌<◌, ◌≤◌, Bool, true, false, List, [], ◌∷◌, ◌++◌, length, Option, Some, None, unwrap_or, refl, sym, ap, subst, ◌∙◌, inl, inr, arith, append-nil}
use Rattle.std.specs.Prelude.{slice_get, ◌≢◌}
use Rattle.std.specs.Option.{option_or}
use Rattle.std.specs.List.{AllByRecursion}
use Rattle.std.proofs.lemmas.Bool.{true≢false}
use Rattle.std.proofs.lemmas.Option.{same_Some}
use Rattle.page_model.specs.declared.event.Event.{Event}
use Rattle.bridge_ports.specs.declared.memory_world.Shelved.{Shelved}
use Rattle.bridge_ports.specs.declared.talk.Address.{Address}
use Rattle.bridge_ports.specs.declared.talk.End.{End}
use Rattle.bridge_ports.specs.declared.talk.End.TheVariants as ends
use Rattle.bridge_ports.specs.declared.talk.Talk.{Talk}
use Rattle.bridge_ports.specs.declared.talk.MemoryReply.{MemoryReply}
use Rattle.bridge_ports.specs.Talks.{Plan, reply_of, no_reply, WireState}
use Rattle.bridge_ports.specs.Plans.{IsTalkOf, EndsAs, AreTalksOf}
use Rattle.http_talk.specs.Requests.{line, get_request, post_head, post_request}
use Rattle.http_talk.specs.Replies.{IsSent}
use Rattle.http_talk.proofs.Laws.{whole_reply}
use Rattle.otlp_sender.specs.declared.posted.Posted.{Posted}
use Rattle.otlp_sender.specs.Posting.{IsRightTry, AreOpenTries}
use Rattle.target_core.specs.Events.{latest_shown}
use Rattle.series_table.specs.declared.counts.Counts.{Counts}
use Rattle.series_table.specs.Talking.{Followed}
use Rattle.series_table.specs.HttpTalks.{talking}
use Rattle.series_table.specs.Emission.{IsEventOf, IsHistoryOf, post_texts}
use Rattle.series_table.specs.Bodies.{CameOfText, CameOfTexts}
use Rattle.series_table.specs.Counting.{visit_counts}
use Rattle.series_table.specs.Records.{Kept, BodiesOf, further_talks, talks_of}
use Rattle.series_table.specs.Tracks.{HasAllVisits, IsTrackAt}
use Rattle.replay_script.specs.declared.header.Header.{Header}
use Rattle.replay_script.specs.declared.script.ScriptTarget.{ScriptTarget}
use Rattle.replay_script.specs.RightScripts.{IsRightReply, IsRightTarget}
use Rattle.replay_script.specs.WirePlans.{default_reply, scrape_plan, post_plan}
use Rattle.script_commands.specs.Replays.{IsReplyEvent, AreEvents}
use Rattle.script_commands.specs.Rounds.{script_followed, AreWiresOf}
use Rattle.script_commands.specs.Shelves.{IsTalkOfReply, AreTalksOfReplies}
use Rattle.script_commands.proofs.ReplayLaws.{all_at}
use Rattle.script_commands.proofs.VisitLaws.{at_most_all}

-- ---- one talk

nothing_in_front : (xs ys : List ℕ) → [] ≡ xs ++ ys → xs ≡ []
nothing_in_front [] ys e = refl
nothing_in_front (x ∷ xs) ys e = absurd cc

-- a text with nothing behind it
all_of_it : (xs ys : List ℕ) → xs ≡ ys → xs ≡ ys ++ []
all_of_it xs ys e = e ∙ sym (append-nil ys)

-- a talk that sent something where its peer ended it is one that its reply gives
talk_of_reply : (reply : MemoryReply) (talk : Talk) → IsRightReply reply → IsTalkOf [] reply talk → (talk.end ≡ ends.Ended → talk.sent ≢ []) → IsTalkOfReply reply talk
talk_of_reply reply talk right is sent = by talk.end refl is.ends
  where
    by : (end : End) → talk.end ≡ end → EndsAs end [] reply talk.sent talk.got → IsTalkOfReply reply talk
    by ends.ConnectFailed e x =
        let failed = x.2 refl in
        record { rest = []; time = is.follows.at_is; bytes = all_of_it reply.got talk.got (right.silent (inl failed) ∙ sym x.1); ends = inr (e ∙ sym failed, refl) }
    by ends.WriteFailed e x =
        let failed = x.1 refl in
        let none : reply.got ≡ [] = right.silent (inr failed) in
        let got : talk.got ≡ [] = nothing_in_front talk.got is.follows.front.0 (sym none ∙ is.follows.front.1) in
        record { rest = []; time = is.follows.at_is; bytes = all_of_it reply.got talk.got (none ∙ sym got); ends = inr (e ∙ sym failed, refl) }
    by ends.ReadFailed e x =
        let failed = x.1 refl in
        record { rest = []; time = is.follows.at_is; bytes = all_of_it reply.got talk.got (sym failed.1); ends = inr (e ∙ sym failed.0, refl) }
    by ends.Ended e x = ended reply.end refl
      where
        ended : (last : End) → reply.end ≡ last → IsTalkOfReply reply talk
        ended ends.ConnectFailed f = absurd (x.0 f)
        ended ends.WriteFailed f = absurd (sent e (is.follows.silent (inr f)))
        ended ends.ReadFailed f = absurd (x.1 f)
        ended ends.Ended f = record { rest = []; time = is.follows.at_is; bytes = all_of_it reply.got talk.got (sym x.2); ends = inr (e ∙ sym f, refl) }
        ended ends.Left f = absurd (right.over f)
    by ends.Left e x = record { rest = is.follows.front.0; time = is.follows.at_is; bytes = is.follows.front.1; ends = inl e }

-- the peer ends a talk only once all of a text was sent
sent_some : (text : List ℕ) (talk : Talk) → text ≢ [] → IsSent talk.end text talk.sent → talk.end ≡ ends.Ended → talk.sent ≢ []
sent_some text talk some is e none =
    let all : talk.sent ≡ text = subst (λ end. IsSent end text talk.sent) e is in
    some (sym all ∙ none)

-- a text has no byte
abbrev is_empty : List ℕ → Bool
is_empty [] = true
is_empty (x ∷ xs) = false

get_some : (to : Address) → get_request to ≢ []
unfolding get_request line
get_some to e = true≢false (sym (ap is_empty e))

post_some : (to : Address) (body : List ℕ) → post_request to body ≢ []
unfolding post_request post_head line
post_some to body e = true≢false (sym (ap is_empty e))

-- ---- the talks of scrapes

-- a place of a list has an element
pub stands_there : {A : Type 0} (xs : List A) (i : ℕ) → i < length xs → (x : A) × (slice_get xs i ≡ Some x)
stands_there [] i inside = absurd (omega (arith, inside))
stands_there (x ∷ xs) zero inside = (x, refl)
stands_there (x ∷ xs) (suc i) inside = stands_there xs i (omega (arith, inside))

-- the talk of a scrape is one that its reply gives
scrape_of_reply : (keeps : Bool) (h : Header) (t : ScriptTarget) (reply : MemoryReply) (talk : Talk) (e : Event) → IsRightReply reply → IsTalkOf [] reply talk → IsEventOf talking (script_followed keeps h t) talk e → IsTalkOfReply reply talk
unfolding talking
scrape_of_reply keeps h t reply talk e right is told = talk_of_reply reply talk right is (sent_some (get_request t.target.address) talk (get_some t.target.address) told.whole.sent)

-- the event that the talk tells is the one that the reply comes to
reply_told : (keeps : Bool) (h : Header) (t : ScriptTarget) (reply : MemoryReply) (talk : Talk) (e : Event) → IsTalkOfReply reply talk → IsEventOf talking (script_followed keeps h t) talk e → IsReplyEvent h reply e
unfolding talking
reply_told keeps h t reply talk e of told = record {
  time = told.read_at ∙ of.time;
  comes_to = whole_reply h.limit h.max_page reply.at _ reply.got of.rest talk reply.end e.outcome told.whole told.outcome of.bytes of.ends;
}

-- as many events as talks
as_many : (f : Followed) (talks : List Talk) (events : List Event) → IsHistoryOf talking f talks events → length talks ≡ length events
as_many f [] [] told = refl
as_many f (talk ∷ talks) (e ∷ earlier) told = ap suc (as_many f talks earlier told.1)
as_many f [] (e ∷ earlier) told = absurd told
as_many f (talk ∷ talks) [] told = absurd told

-- the event of a talk more is that of its reply
pub scrape_told : (keeps : Bool) (h : Header) (t : ScriptTarget) (talks : List Talk) (talk : Talk) (e : Event) (reply : MemoryReply) → AllByRecursion IsRightReply t.scrapes → AreTalksOf (scrape_plan h t) (talk ∷ talks)
    → slice_get t.scrapes (length talks) ≡ Some reply → IsEventOf talking (script_followed keeps h t) talk e → IsReplyEvent h reply e
scrape_told keeps h t talks talk e reply right are stands told =
    let same : reply_of (scrape_plan h t) (length talks) ≡ reply = ap (λ r. unwrap_or (option_or r None) no_reply) stands in
    let is : IsTalkOf [] reply talk = subst (λ r. IsTalkOf [] r talk) same are.0 in
    reply_told keeps h t reply talk e (scrape_of_reply keeps h t reply talk e (all_at IsRightReply t.scrapes (length talks) reply right stands) is told) told

-- the talks of a target's scrapes are of its replies, and the events that they tell are those of the replies
scrapes_told : (keeps : Bool) (h : Header) (t : ScriptTarget) (talks : List Talk) (events : List Event) → AllByRecursion IsRightReply t.scrapes → AreTalksOf (scrape_plan h t) talks → IsHistoryOf talking (script_followed keeps h t) talks events
    → length events ≤ length t.scrapes → AreEvents h t.scrapes events × AreTalksOfReplies (scrape_plan h t) talks
scrapes_told keeps h t [] [] right are told few = (tt, tt)
scrapes_told keeps h t [] (e ∷ earlier) right are told few = absurd told
scrapes_told keeps h t (talk ∷ talks) [] right are told few = absurd told
scrapes_told keeps h t (talk ∷ talks) (e ∷ earlier) right are told few =
    let place : length talks ≡ length earlier = as_many (script_followed keeps h t) talks earlier told.1 in
    let found = stands_there t.scrapes (length earlier) (omega (arith, few)) in
    let reply : reply_of (scrape_plan h t) (length talks) ≡ found.0 = ap (λ n. reply_of (scrape_plan h t) n) place ∙ ap (λ r. unwrap_or (option_or r None) no_reply) found.1 in
    let is : IsTalkOf [] found.0 talk = subst (λ r. IsTalkOf [] r talk) reply are.0 in
    let of : IsTalkOfReply found.0 talk = scrape_of_reply keeps h t found.0 talk e (all_at IsRightReply t.scrapes (length earlier) found.0 right found.1) is told.0 in
    let before = scrapes_told keeps h t talks earlier right are.1 told.1 (omega (arith, few)) in (
      (record { reply = found.0; stands = found.1; is = reply_told keeps h t found.0 talk e of told.0 }, before.0),
      (subst (λ r. IsTalkOfReply r talk) (sym reply) of, before.1),
    )

-- ---- the talks of posts

-- the reply to a post is that of a record, or the default one
post_reply_right : (keeps : Bool) (h : Header) (t : ScriptTarget) (n : ℕ) → AllByRecursion IsRightReply t.posts → IsRightReply (reply_of (post_plan keeps h t) n)
unfolding default_reply
post_reply_right keeps h t n right = by (slice_get t.posts n) refl
  where
    by : (found : Option MemoryReply) → slice_get t.posts n ≡ found → IsRightReply (unwrap_or (option_or found (Some default_reply)) no_reply)
    by (Some reply) e = all_at IsRightReply t.posts n reply right e
    by None e = record { over = λ left. absurd cc; silent = λ none. elim none [ inl failed ↦ absurd cc | inr failed ↦ absurd cc ] }

-- the tries of a text are of their replies, behind talks that are
tries_told : (keeps : Bool) (h : Header) (t : ScriptTarget) (text : List ℕ) (tries before : List Talk) → AllByRecursion IsRightReply t.posts → text ≢ [] → AllByRecursion (IsRightTry text) tries → AreTalksOf (post_plan keeps h t) (tries ++ before)
    → AreTalksOfReplies (post_plan keeps h t) before → AreTalksOfReplies (post_plan keeps h t) (tries ++ before)
tries_told keeps h t text [] before right some each are told = told
tries_told keeps h t text (talk ∷ tries) before right some each are told = (
  talk_of_reply (reply_of (post_plan keeps h t) (length (tries ++ before))) talk (post_reply_right keeps h t (length (tries ++ before)) right) are.0 (sent_some text talk some each.0.sent),
  tries_told keeps h t text tries before right some each.1 are.1 told,
)

-- each try of a text is a right one
open_right : (text : List ℕ) (talks : List Talk) → AreOpenTries text talks → AllByRecursion (IsRightTry text) talks
open_right text [] all = tt
open_right text (talk ∷ earlier) all = (all.0.right, open_right text earlier all.1)

all_right : (most : ℕ) (text : List ℕ) (talks : List Talk) (p : Posted) → CameOfText talking most text talks p → AllByRecursion (IsRightTry text) talks
unfolding talking
all_right most text talks p came = subst (AllByRecursion (IsRightTry text)) (sym came.run.talks_are) (came.run.right, open_right text came.run.earlier came.run.before)

-- the talks behind others are those of the plan
pub talks_behind : (plan : Plan) (front back : List Talk) → AreTalksOf plan (front ++ back) → AreTalksOf plan back
talks_behind plan [] back are = are
talks_behind plan (talk ∷ front) back are = talks_behind plan front back are.1

-- the request that posts an event's text isn't empty
text_some : (keeps : Bool) (h : Header) (t : ScriptTarget) (body : List ℕ) → talking.post_request (script_followed keeps h t).to body ≢ []
unfolding talking
text_some keeps h t body = post_some (script_followed keeps h t).to body

-- the talks of posts are of the replies of their numbers
posts_told : (keeps : Bool) (h : Header) (t : ScriptTarget) (most : ℕ) (events : List Event) (talks : List Talk) (ps : List Posted) → AllByRecursion IsRightReply t.posts → AreTalksOf (post_plan keeps h t) talks
    → CameOfTexts talking most (post_texts talking (script_followed keeps h t) events) talks ps → AreTalksOfReplies (post_plan keeps h t) talks
posts_told keeps h t most [] talks ps right are came = subst (AreTalksOfReplies (post_plan keeps h t)) (sym came.0) tt
posts_told keeps h t most (e ∷ earlier) talks [] right are came = absurd came
posts_told keeps h t most (e ∷ earlier) talks (p ∷ ps) right are came =
    let tried = came.0 in
    let before = came.1 in
    let all : AreTalksOf (post_plan keeps h t) (tried ++ before) = subst (AreTalksOf (post_plan keeps h t)) came.2 are in
    let told = posts_told keeps h t most earlier before ps right (talks_behind (post_plan keeps h t) tried before all) came.4 in
    subst (AreTalksOfReplies (post_plan keeps h t)) (sym came.2) (tries_told keeps h t _ tried before right (text_some keeps h t _) (all_right most _ tried p came.3) all told)

-- ---- a track

-- what the wires of a track of a script's target tell
pub record TrackTold (keeps : Bool) (h : Header) (t : ScriptTarget) (k : Kept) (w : Shelved) : Type 0 where
  pub events : List Event
  pub posted : List Posted
  pub counts : k.counts ≡ visit_counts (script_followed keeps h t) events posted
  pub many : k.counts.visits ≡ length events
  pub bodies : BodiesOf talking (script_followed keeps h t) (further_talks k.halted) w.scrape.talks w.post.talks events posted
  pub are : AreEvents h t.scrapes events
  pub counted : AreTalksOfReplies (scrape_plan h t) bodies.tells.counted
  pub scrape_by : w.scrape.plan ≡ scrape_plan h t
  pub post_by : w.post.plan ≡ post_plan keeps h t
  pub sent : AreTalksOf (post_plan keeps h t) w.post.talks
  pub shown : k.shown ≡ latest_shown t.target events

pub track_told : (keeps : Bool) (h : Header) (t : ScriptTarget) (place : ℕ) (k : Kept) (w : Shelved) → IsRightTarget h t → IsTrackAt talking (script_followed keeps h t) place k → HasAllVisits h.rounds k → AreWiresOf k w → TrackTold keeps h t k w
track_told keeps h t place k w right at visits wires =
    let f = script_followed keeps h t in
    let kept = at.track.history in
    let scrapes_by : w.scrape.plan ≡ scrape_plan h t =
    same_Some w.scrape.plan (scrape_plan h t) (sym (ap (λ (s : WireState). s.plan) wires.scrape_is) ∙ at.track.scrape_wire.plan_is ∙ ap (λ (g : Followed). g.scrape_plan) at.followed) in
    let posts_by : w.post.plan ≡ post_plan keeps h t =
    same_Some w.post.plan (post_plan keeps h t) (sym (ap (λ (s : WireState). s.plan) wires.post_is) ∙ at.track.post_wire.plan_is ∙ ap (λ (g : Followed). g.post_plan) at.followed) in
    let bodies : BodiesOf talking f (further_talks k.halted) w.scrape.talks w.post.talks kept.events kept.posted =
    subst (λ (g : Followed). BodiesOf talking g (further_talks k.halted) w.scrape.talks w.post.talks kept.events kept.posted) at.followed
    (kept.bodies w.scrape.talks w.post.talks (ap talks_of wires.scrape_is) (ap talks_of wires.post_is)) in
    let told = bodies.tells in
    let scraped : AreTalksOf (scrape_plan h t) (told.further ++ told.counted) = subst (AreTalksOf (scrape_plan h t)) told.talks_are (subst (λ p. AreTalksOf p w.scrape.talks) scrapes_by wires.scrape_plan.past) in
    let many : k.counts.visits ≡ length kept.events = ap (λ (c : Counts). c.visits) kept.counts in
    let both = scrapes_told keeps h t told.counted kept.events right.replies (talks_behind (scrape_plan h t) told.further told.counted scraped) told.history (omega (arith, many, right.scrapes, at_most_all h.rounds k k.halted refl visits)) in
    record {
      events = kept.events;
      posted = kept.posted;
      counts = kept.counts ∙ ap (λ (g : Followed). visit_counts g kept.events kept.posted) at.followed;
      many = many;
      bodies = bodies;
      are = both.0;
      counted = both.1;
      scrape_by = scrapes_by;
      post_by = posts_by;
      sent = subst (λ p. AreTalksOf p w.post.talks) posts_by wires.post_plan.past;
      shown = kept.shown ∙ ap (λ (g : Followed). latest_shown g.target kept.events) at.followed;
    }

-- the talks of its posts are of the replies of their numbers
pub track_posts : (keeps : Bool) (h : Header) (t : ScriptTarget) (k : Kept) (w : Shelved) → IsRightTarget h t → (told : TrackTold keeps h t k w) → AreTalksOfReplies (post_plan keeps h t) w.post.talks
track_posts keeps h t k w right told = posts_told keeps h t _ told.events w.post.talks told.posted right.post_replies told.sent told.bodies.in_order
