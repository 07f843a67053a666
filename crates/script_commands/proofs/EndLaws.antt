-- How the targets of a script ended, where all that they posted was accepted, and the report of it.
use Rattle.std.proofs.Common.{◌≡◌, ℕ, suc, ◌+◌, Bool, false, List, [], ◌∷◌, ◌++◌, length, map, Option, Some, Result, Ok, Err, unwrap_or, refl, sym, ap, subst, ◌∙◌, inl, inr, arith}
use Rattle.std.specs.Prelude.{slice_get, ⊤, codes, All, OnOk}
use Rattle.std.specs.Option.{option_or}
use Rattle.std.specs.List.{AllZip, AllByRecursion}
use Rattle.std.proofs.lemmas.Bool.{or_parts}
use Rattle.httparse.proofs.OnLiterals.{httparse_on_literals}
use Rattle.page_model.specs.declared.event.Event.{Event}
use Rattle.bridge_ports.specs.declared.memory_world.Shelved.{Shelved}
use Rattle.bridge_ports.specs.declared.talk.End.{End}
use Rattle.bridge_ports.specs.declared.talk.End.TheVariants as ends
use Rattle.bridge_ports.specs.declared.talk.Talk.{Talk}
use Rattle.bridge_ports.specs.declared.talk.MemoryReply.{MemoryReply}
use Rattle.bridge_ports.specs.Talks.{reply_of, no_reply}
use Rattle.bridge_ports.specs.Plans.{IsTalkOf, EndsAs, AreTalksOf}
use Rattle.http_talk.specs.declared.seen.HeadSeen.TheVariants as seen
use Rattle.http_talk.specs.Heads.{Shows}
use Rattle.http_talk.proofs.Laws.{shows_once, shows_stays, shows_head, ok_head, field}
use Rattle.otlp_sender.specs.declared.posted.Try.{Try}
use Rattle.otlp_sender.specs.declared.posted.Try.TheVariants as tries
use Rattle.otlp_sender.specs.declared.posted.Posted.{Posted}
use Rattle.otlp_sender.specs.declared.posted.Posted.TheVariants as posted
use Rattle.otlp_sender.specs.Posting.{IsRightTry, HasPostVerdict, IsTryBy, posted_of, try_seen}
use Rattle.series_table.specs.Talking.{Followed}
use Rattle.series_table.specs.HttpTalks.{talking}
use Rattle.series_table.specs.Emission.{post_texts}
use Rattle.series_table.specs.Bodies.{CameOfText, CameOfTexts}
use Rattle.series_table.specs.Counting.{visit_counts}
use Rattle.series_table.specs.Records.{Kept}
use Rattle.series_table.specs.Tracks.{HasAllVisits, IsTrackAt, AreTracks}
use Rattle.run_report.specs.declared.target_end.TargetEnd.{TargetEnd}
use Rattle.run_report.specs.Ends.{track_end, some_halted}
use Rattle.run_report.specs.Reports.{report_text}
use Rattle.replay_script.specs.declared.header.Header.{Header}
use Rattle.replay_script.specs.declared.script.ScriptTarget.{ScriptTarget}
use Rattle.replay_script.specs.declared.script.Script.{Script}
use Rattle.replay_script.specs.RightScripts.{IsRightTarget, IsRightScript}
use Rattle.replay_script.specs.WirePlans.{default_reply, post_plan}
use Rattle.load_pages.specs.GeneratedScripts.{TakesBodies, TakesAllBodies}
use Rattle.script_commands.specs.declared.replaying.Cut.{Cut}
use Rattle.script_commands.specs.declared.replaying.Cut.TheVariants.{Write, Memory}
use Rattle.script_commands.specs.Rounds.{script_followed, script_targets, AreWiresOf, IsScriptRun, AreVisitedThrough}
use Rattle.script_commands.specs.Loads.{all_accepted, accepted_counts, IsScriptEnd, IsWholeEnd, IsLoadReport, MayBeReported, no_report, part_report}
use Rattle.script_commands.specs.Printing.{PrintsFirst, PrintsReport}
use Rattle.bridge_ports.proofs.Laws.{appends_none}
use Rattle.script_commands.proofs.ReplayLaws.{events_once}
use Rattle.script_commands.proofs.TalkLaws.{talks_behind, track_told}

-- ---- posts

-- what the default reply shows
default_shows : Shows default_reply.got (seen.Status 200)
unfolding httparse_on_literals default_reply
default_shows = shows_head _ (ok_head (field (codes "Content-Length") (codes " 2") ∷ [])) (codes "{}") _ refl refl refl refl

-- a try that the default reply answers is told that the body was taken
taken : (text : List ℕ) (talk : Talk) (last : Try) → IsTalkOf [] default_reply talk → IsRightTry text talk → HasPostVerdict talk last → last ≡ tries.Status 200
unfolding default_reply
taken text talk last is right verdict = by talk.end refl is.ends verdict
  where
    by : (end : End) → talk.end ≡ end → EndsAs end [] default_reply talk.sent talk.got → IsTryBy end talk.got last → last ≡ tries.Status 200
    by ends.ConnectFailed e x v = let none : ends.Ended ≡ ends.ConnectFailed = x.2 refl in absurd cc
    by ends.WriteFailed e x v = let none : ends.Ended ≡ ends.WriteFailed = x.1 refl in absurd cc
    by ends.ReadFailed e x v = let none : ends.Ended ≡ ends.ReadFailed = (x.1 refl).0 in absurd cc
    by ends.Ended e x v =
        let status : right.what ≡ seen.Status 200 = shows_once default_reply.got right.what (seen.Status 200) (subst (λ got. Shows got right.what) x.2 right.shown) default_shows in
        let left : talk.end ≡ ends.Left = right.left.1 (λ more. let both : seen.Status 200 ≡ seen.More = sym status ∙ more in cc) in
        let both : ends.Ended ≡ ends.Left = sym e ∙ left in absurd cc
    by ends.Left e x v =
        let one : v.0 ≡ right.what = shows_once talk.got v.0 right.what v.1 right.shown in
        let stays = shows_stays talk.got is.follows.front.0 right.what right.shown (right.left.0 e) in
        let status : right.what ≡ seen.Status 200 = shows_once default_reply.got right.what (seen.Status 200) (subst (λ got. Shows got right.what) (sym is.follows.front.1) stays) default_shows in
        v.2 ∙ ap try_seen (one ∙ status)

-- each post of a target without replies of its own gets the default one
default_next : (keeps : Bool) (h : Header) (t : ScriptTarget) (n : ℕ) → t.posts ≡ [] → reply_of (post_plan keeps h t) n ≡ default_reply
default_next keeps h t n none = ap (λ (rs : List MemoryReply). unwrap_or (option_or (slice_get rs n) (Some default_reply)) no_reply) none

-- so a text whose tries get it is accepted
text_accepted : (keeps : Bool) (h : Header) (t : ScriptTarget) (most : ℕ) (text : List ℕ) (tried before : List Talk) (p : Posted) → t.posts ≡ [] → AreTalksOf (post_plan keeps h t) (tried ++ before) → CameOfText talking most text tried p
    → p ≡ posted.Accepted 200
unfolding talking
text_accepted keeps h t most text tried before p none are came =
    let all : AreTalksOf (post_plan keeps h t) (came.run.talk ∷ came.run.earlier ++ before) = subst (λ ts. AreTalksOf (post_plan keeps h t) (ts ++ before)) came.run.talks_are are in
    let is : IsTalkOf [] default_reply came.run.talk = subst (λ r. IsTalkOf [] r came.run.talk) (default_next keeps h t (length (came.run.earlier ++ before)) none) all.0 in
    came.posted_is ∙ ap posted_of (taken text came.run.talk came.last is came.run.right came.run.verdict)

-- the body of each event was accepted
posts_accepted : (keeps : Bool) (h : Header) (t : ScriptTarget) (most : ℕ) (events : List Event) (talks : List Talk) (ps : List Posted) → t.posts ≡ [] → AreTalksOf (post_plan keeps h t) talks
    → CameOfTexts talking most (post_texts talking (script_followed keeps h t) events) talks ps → ps ≡ all_accepted events
posts_accepted keeps h t most [] talks ps none are came = came.1
posts_accepted keeps h t most (e ∷ earlier) talks [] none are came = absurd came
posts_accepted keeps h t most (e ∷ earlier) talks (p ∷ ps) none are came =
    let tried = came.0 in
    let before = came.1 in
    let all : AreTalksOf (post_plan keeps h t) (tried ++ before) = subst (AreTalksOf (post_plan keeps h t)) came.2 are in
    ap (λ q. q ∷ ps) (text_accepted keeps h t most _ tried before p none all came.3) ∙ ap (λ qs. posted.Accepted 200 ∷ qs) (posts_accepted keeps h t most earlier before ps none (talks_behind (post_plan keeps h t) tried before all) came.4)

-- ---- targets

-- how the target of a track of a script ended
track_ended : (keeps : Bool) (h : Header) (t : ScriptTarget) (place : ℕ) (k : Kept) (w : Shelved) → IsRightTarget h t → TakesBodies t → IsTrackAt talking (script_followed keeps h t) place k → HasAllVisits h.rounds k → AreWiresOf k w
    → IsScriptEnd h t (track_end k)
track_ended keeps h t place k w right taken at visits wires =
    let told = track_told keeps h t place k w right at visits wires in
    let f = script_followed keeps h t in
    record {
      events = told.events;
      are = told.are;
      job = ap (λ (g : Followed). g.target.job) at.followed;
      instance = ap (λ (g : Followed). g.target.instance) at.followed;
      counts = told.counts ∙ ap (visit_counts f told.events) (posts_accepted keeps h t f.settings.tries told.events w.post.talks told.posted taken told.sent told.bodies.in_order);
      all = λ e. omega (arith, told.many, visits.all e);
      left = λ e. omega (arith, told.many, visits.left e);
    }

-- the same of all tracks, in order
tracks_ended : (keeps : Bool) (h : Header) (place : ℕ) (ts : List ScriptTarget) (ks : List Kept) (ws : List Shelved) → AllByRecursion (IsRightTarget h) ts → AllByRecursion TakesBodies ts → AreTracks talking place (script_targets keeps h ts) ks
    → All (HasAllVisits h.rounds) ks → AllZip AreWiresOf ks ws → AllZip (IsScriptEnd h) ts (map track_end ks)
tracks_ended keeps h place [] [] ws right taken are visits wires = tt
tracks_ended keeps h place (t ∷ ts) (k ∷ ks) (w ∷ ws) right taken are visits wires = (
  track_ended keeps h t place k w right.0 taken.0 are.0 (visits 0 k (omega arith)) wires.0,
  tracks_ended keeps h (place + 1) ts ks ws right.1 taken.1 are.1 (λ i d inside. visits (suc i) d (omega (arith, inside))) wires.1,
)
tracks_ended keeps h place (t ∷ ts) (k ∷ ks) [] right taken are visits wires = absurd wires
tracks_ended keeps h place [] (k ∷ ks) ws right taken are visits wires = absurd are
tracks_ended keeps h place (t ∷ ts) [] ws right taken are visits wires = absurd are

-- ---- the report

-- where none was halted, all rounds of each target were made
whole_ends : (h : Header) (ts : List ScriptTarget) (es : List TargetEnd) → AllZip (IsScriptEnd h) ts es → some_halted es ≡ false → AllZip (IsWholeEnd h) ts es
whole_ends h [] [] are none = tt
whole_ends h (t ∷ ts) (e ∷ es) are none = let both = or_parts e.halted (some_halted es) none in (record { is = are.0; goes_on = both.0 }, whole_ends h ts es are.1 both.1)
whole_ends h [] (e ∷ es) are none = absurd are
whole_ends h (t ∷ ts) [] are none = absurd are

-- the ends of a run are those of the script's targets
ends_are : (keeps : Bool) (s : Script) (ends : List TargetEnd) (wires : List Shelved) → IsRightScript s → TakesAllBodies s → IsScriptRun keeps s ends wires → AllZip (IsScriptEnd s.header) s.targets ends
ends_are keeps s ends wires right taken run =
    subst (AllZip (IsScriptEnd s.header) s.targets) (sym run.left.ends_are) (tracks_ended keeps s.header 0 s.targets run.tracks wires right.targets taken run.tracks_are run.visited run.left.wires_are)

-- the report of how they ended, where none was halted
whole_report : (keeps : Bool) (s : Script) (ends : List TargetEnd) (wires : List Shelved) → IsRightScript s → TakesAllBodies s → IsScriptRun keeps s ends wires → some_halted ends ≡ false → IsLoadReport s (report_text ends)
whole_report keeps s ends wires right taken run none = record { ends = ends; are = whole_ends s.header s.targets ends (ends_are keeps s ends wires right taken run) none; says = refl }

-- and where some may have been
part_of_run : (keeps : Bool) (s : Script) (ends : List TargetEnd) (wires : List Shelved) → IsRightScript s → TakesAllBodies s → IsScriptRun keeps s ends wires → MayBeReported s (report_text ends)
part_of_run keeps s ends wires right taken run = part_report (report_text ends) (record { ends = ends; are = ends_are keeps s ends wires right taken run; says = refl })

-- what printing the report came to, over the ends as they were printed
pub report_seen : (ends seen : List TargetEnd) (before after : Option (List ℕ)) (r : Result ⊤ Cut) → seen ≡ ends → PrintsFirst (report_text seen) before after r → PrintsFirst (report_text ends) before after r
report_seen ends seen before after r same printed = subst (λ (es : List TargetEnd). PrintsFirst (report_text es) before after r) same printed

-- what printing the report of a script's run came to
pub run_reported : (keeps : Bool) (s : Script) (ends : List TargetEnd) (wires : List Shelved) (before after : Option (List ℕ)) (r : Result ⊤ Cut) → IsRightScript s → TakesAllBodies s → IsScriptRun keeps s ends wires
    → PrintsFirst (report_text ends) before after r → OnOk r (some_halted ends ≡ false) → PrintsReport s before after r
run_reported keeps s ends wires before after (Ok done) right taken run p none = (report_text ends, whole_report keeps s ends wires right taken run none, p)
run_reported keeps s ends wires before after (Err Write) right taken run p none = (report_text ends, inl (part_of_run keeps s ends wires right taken run), p)
run_reported keeps s ends wires before after (Err Memory) right taken run (inl p) none = ([], inl no_report, p)
run_reported keeps s ends wires before after (Err Memory) right taken run (inr p) none = (report_text ends, inl (part_of_run keeps s ends wires right taken run), p)

-- nothing was printed of it
pub none_reported : (s : Script) (held : Option (List ℕ)) → PrintsReport s held held (Err Memory)
none_reported s held = ([], inl no_report, appends_none held)

-- where none was halted, each target had a visit for each round
through : (rounds : ℕ) (ks : List Kept) → All (HasAllVisits rounds) ks → some_halted (map track_end ks) ≡ false → AreVisitedThrough rounds (map track_end ks)
through rounds [] visits none = tt
through rounds (k ∷ ks) visits none =
    let both = or_parts k.halted (some_halted (map track_end ks)) none in
    let all : k.counts.visits ≡ rounds = (visits 0 k (omega arith)).all both.0 in
    (omega (arith, all), through rounds ks (λ i d inside. visits (suc i) d (omega (arith, inside))) both.1)

pub none_halted : (keeps : Bool) (s : Script) (ends : List TargetEnd) (wires : List Shelved) → IsScriptRun keeps s ends wires → some_halted ends ≡ false → AreVisitedThrough s.header.rounds ends
none_halted keeps s ends wires run none =
    let of_tracks : some_halted (map track_end run.tracks) ≡ false = subst (λ es. some_halted es ≡ false) run.left.ends_are none in
    subst (AreVisitedThrough s.header.rounds) (sym run.left.ends_are) (through s.header.rounds run.tracks run.visited of_tracks)

-- a target ends in one way where all its rounds were made
end_once : (h : Header) (t : ScriptTarget) (a b : TargetEnd) → IsWholeEnd h t a → IsWholeEnd h t b → a ≡ b
end_once h t a b x y =
    let events = events_once h t.scrapes x.is.events y.is.events (x.is.all x.goes_on ∙ sym (y.is.all y.goes_on)) x.is.are y.is.are in
    let job : a.job ≡ b.job = x.is.job ∙ sym y.is.job in
    let instance : a.instance ≡ b.instance = x.is.instance ∙ sym y.is.instance in
    let counts : a.counts ≡ b.counts = x.is.counts ∙ ap (accepted_counts h t) events ∙ sym y.is.counts in
    let halted : a.halted ≡ b.halted = x.goes_on ∙ sym y.goes_on in
    let all : record { job = a.job; instance = a.instance; counts = a.counts; halted = a.halted } ≡ record { job = b.job; instance = b.instance; counts = b.counts; halted = b.halted } = cc in
    all

ends_once : (h : Header) (ts : List ScriptTarget) (xs ys : List TargetEnd) → AllZip (IsWholeEnd h) ts xs → AllZip (IsWholeEnd h) ts ys → xs ≡ ys
ends_once h [] [] [] a b = refl
ends_once h [] [] (y ∷ ys) a b = absurd b
ends_once h [] (x ∷ xs) ys a b = absurd a
ends_once h (t ∷ ts) [] ys a b = absurd a
ends_once h (t ∷ ts) (x ∷ xs) [] a b = absurd b
ends_once h (t ∷ ts) (x ∷ xs) (y ∷ ys) a b = ap (λ z. z ∷ xs) (end_once h t x y a.0 b.0) ∙ ap (λ zs. y ∷ zs) (ends_once h ts xs ys a.1 b.1)

-- a script has one report of all its visits
pub report_once : (s : Script) (a b : List ℕ) → IsLoadReport s a → IsLoadReport s b → a ≡ b
report_once s a b x y = x.says ∙ ap report_text (ends_once s.header s.targets x.ends y.ends x.are y.are) ∙ sym y.says
