-- What a run comes to: each target's end is that of its own talks, and its pair is at home.
use Rattle.std.proofs.Common.{◌≡◌, ◌⊎◌, ℕ, zero, suc, ◌+◌, ◌<◌, ◌≤◌, Bool, cond, List, [], ◌∷◌, length, map, get_or, Option, Some, None, refl, sym, ap, subst, ◌∙◌, arith}
use Rattle.std.specs.Prelude.{IfSome, count_by}
use Rattle.std.proofs.lemmas.List.{length-map, get_or-map}
use Rattle.std.proofs.lemmas.List.Sums.{sum_by-cons}
use Rattle.bridge_ports.specs.declared.settings.Settings.{Settings}
use Rattle.bridge_ports.specs.declared.talk.Talk.{Talk}
use Rattle.bridge_ports.specs.declared.talk.Address.{Address}
use Rattle.bridge_ports.specs.Targets.{Scraped}
use Rattle.bridge_ports.specs.Talks.{Plan}
use Rattle.bridge_ports.specs.Worlds.{Given}
use Rattle.bridge_ports.specs.Outside.{SeenPair, Outside}
use Rattle.series_table.specs.HttpTalks.{talking}
use Rattle.otlp_sender.specs.declared.posted.Posted.{Posted}
use Rattle.otlp_sender.specs.declared.posted.Posted.TheVariants.{Accepted, Refused, GivenUp}
use Rattle.series_table.specs.declared.counts.Counts.{Counts}
use Rattle.series_table.specs.Counting.{was_accepted, was_refused, was_given_up}
use Rattle.series_table.specs.Talking.{Followed}
use Rattle.series_table.specs.Records.{Kept, talks_of, HasRecord}
use Rattle.series_table.specs.Tracks.{IsTrackAt, HasAllVisits, AreTracks}
use Rattle.target_table.specs.Tables.{IsRunOver}
use Rattle.scraper_pool.specs.Turns.{run_of}
use Rattle.bridge_config.specs.declared.config.Config.{Config}
use Rattle.bridge_config.specs.RightConfigs.{IsRightConfig}
use Rattle.run_report.specs.declared.target_end.TargetEnd.{TargetEnd}
use Rattle.world_run.specs.Unused.{most_pairs}
use Rattle.world_run.specs.Ends.{config_followed, AreCountsOf, HaveFates, KeepsPlans, IsEndAtHome, AreEndsAtHome, KeepsRest, IsRunEnd, IsNotBegun}
use Rattle.run_report.specs.Ends.{track_end}
use Rattle.world_run.specs.Taken.{EachTrack, IsFirstTrack, IsPairOf, IsOut, IsInPlace}
use Rattle.world_run.proofs.Homes.{all_again, rest_through}

-- ---- counts

-- where both wires tell, the numbers are those of their talks
told : (f : Followed) (halted : Bool) (counts : Counts) (scrapes posts : Option (List Talk)) → ((s p : List Talk) → scrapes ≡ Some s → posts ≡ Some p → AreCountsOf f halted s p counts)
    → IfSome scrapes (λ s. IfSome posts (λ p. AreCountsOf f halted s p counts))
told f halted counts None posts are = tt
told f halted counts (Some s) None are = tt
told f halted counts (Some s) (Some p) are = are s p refl refl

counts_of : (k : Kept) → HasRecord talking k → (s p : List Talk) → talks_of k.scrape ≡ Some s → talks_of k.post ≡ Some p → AreCountsOf k.followed k.halted s p k.counts
counts_of k has s p is_s is_p = record { history = has.events; posted = has.posted; bodies = has.bodies s p is_s is_p; counted = has.counts }

-- a body has one of the three fates
one_fate : (p : Posted) → cond (was_accepted p) 1 0 + cond (was_refused p) 1 0 + cond (was_given_up p) 1 0 ≡ 1
one_fate (Accepted status) = refl
one_fate (Refused status) = refl
one_fate (GivenUp last) = refl

each_fate : (ps : List Posted) → count_by was_accepted ps + count_by was_refused ps + count_by was_given_up ps ≡ length ps
each_fate [] = refl
each_fate (p ∷ ps) =
    let accepted : count_by was_accepted (p ∷ ps) ≡ cond (was_accepted p) 1 0 + count_by was_accepted ps = sum_by-cons (λ (q : Posted). cond (was_accepted q) 1 0) p ps in
    let refused : count_by was_refused (p ∷ ps) ≡ cond (was_refused p) 1 0 + count_by was_refused ps = sum_by-cons (λ (q : Posted). cond (was_refused q) 1 0) p ps in
    let given_up : count_by was_given_up (p ∷ ps) ≡ cond (was_given_up p) 1 0 + count_by was_given_up ps = sum_by-cons (λ (q : Posted). cond (was_given_up q) 1 0) p ps in
    omega (arith, accepted, refused, given_up, one_fate p, each_fate ps)

fates_of : (k : Kept) → HasRecord talking k → HaveFates k.counts
fates_of k has = subst HaveFates (sym has.counts) (each_fate has.posted ∙ has.as_many)

-- a target with these settings and this collector is one of the configuration's
followed_is : (f : Followed) (c : Config) (scrape post : Option Plan) → f.settings ≡ c.settings → f.to ≡ c.collector → scrape ≡ f.scrape_plan → post ≡ f.post_plan → f ≡ config_followed c scrape post f.target
followed_is f c scrape post settings to s p =
    let With : Settings → Address → Option Plan → Option Plan → Followed = λ x a m n. record { target = f.target; to = a; settings = x; scrape_plan = m; post_plan = n } in
    ap (λ (x : Settings). With x f.to f.scrape_plan f.post_plan) settings ∙ ap (λ (a : Address). With c.settings a f.scrape_plan f.post_plan) to
    ∙ ap (λ (m : Option Plan). With c.settings c.collector m f.post_plan) (sym s) ∙ ap (λ (n : Option Plan). With c.settings c.collector scrape n) (sym p)

-- ---- ends

-- a track that was visited has the plans of the pair that it was made of
keeps_plans : (was : Option SeenPair) (place : ℕ) (k l : Kept) → was ≡ Some (k.scrape, k.post) → IsTrackAt talking k.followed place k → IsTrackAt talking k.followed place l → KeepsPlans was l.scrape l.post
keeps_plans was place k l is first at = record {
  went_out = (k.scrape, k.post);
  was_home = is;
  scrape_plan = at.track.scrape_wire.plan_is ∙ ap (λ (f : Followed). f.scrape_plan) at.followed ∙ sym first.track.scrape_wire.plan_is;
  post_plan = at.track.post_wire.plan_is ∙ ap (λ (f : Followed). f.post_plan) at.followed ∙ sym first.track.post_wire.plan_is;
}

-- the end of a target whose pair is at home
end_at_home : (c : Config) (b o : Outside) (place : ℕ) (k l : Kept) → IsFirstTrack c place k → IsPairOf b.home place k → IsTrackAt talking k.followed place l → HasAllVisits c.rounds l → IsPairOf o.home place l
    → o.given (place + 1) ≡ Some (record { scrape = k.followed.target.address; post = k.followed.to }) → IsEndAtHome c b o (place + 1) k.followed.target (track_end l)
end_at_home c b o place k l first was at visits home given =
    let same : k.followed ≡ config_followed c l.scrape.plan l.post.plan k.followed.target =
    followed_is k.followed c l.scrape.plan l.post.plan first.settings first.to (at.track.scrape_wire.plan_is ∙ ap (λ (f : Followed). f.scrape_plan) at.followed) (at.track.post_wire.plan_is ∙ ap (λ (f : Followed). f.post_plan) at.followed) in
    let counted : IfSome (talks_of l.scrape) (λ s. IfSome (talks_of l.post) (λ p. AreCountsOf l.followed l.halted s p l.counts)) =
    told l.followed l.halted l.counts (talks_of l.scrape) (talks_of l.post) (counts_of l at.track.history) in
    let To : Address → Option Given = λ a. Some (record { scrape = k.followed.target.address; post = a }) in
    let to_is : o.given (place + 1) ≡ To c.collector = given ∙ ap To first.to in
    record {
      scrape = l.scrape;
      post = l.post;
      home = home;
      scrape_home = record { free = at.track.scrape_wire.free; place = at.scrape_place };
      post_home = record { free = at.track.post_wire.free; place = at.post_place };
      plans = keeps_plans (b.home (place + 1)) place k l was first.at at;
      given = to_is;
      end_is = record {
        job = ap (λ (f : Followed). f.target.job) at.followed;
        instance = ap (λ (f : Followed). f.target.instance) at.followed;
        counted = subst (λ (f : Followed). IfSome (talks_of l.scrape) (λ s. IfSome (talks_of l.post) (λ p. AreCountsOf f l.halted s p l.counts))) (at.followed ∙ same) counted;
        fates = fates_of l at.track.history;
        all = visits.all;
        some = visits.left;
      };
    }

-- the track at a place is that of the target there
track_at : (ks ls : List Kept) (place : ℕ) → AreTracks talking place (map (λ (k : Kept). k.followed) ks) ls → (i : ℕ) (d : Kept) → i < length ls → IsTrackAt talking (get_or ks i d).followed (place + i) (get_or ls i d)
track_at [] [] place are i d within = absurd (omega (arith, within))
track_at [] (l ∷ ls) place are i d within = absurd are
track_at (k ∷ ks) [] place are i d within = absurd are
track_at (k ∷ ks) (l ∷ ls) place are zero d within = let here : place ≡ place + 0 = omega arith in subst (λ n. IsTrackAt talking k.followed n l) here are.0
track_at (k ∷ ks) (l ∷ ls) place are (suc i) d within =
    let next : place + 1 + i ≡ place + suc i = omega arith in
    subst (λ n. IsTrackAt talking (get_or ks i d).followed n (get_or ls i d)) next (track_at ks ls (place + 1) are.1 i d (omega (arith, within)))

-- as many tracks come back
as_many : (ks ls : List Kept) (place : ℕ) → AreTracks talking place (map (λ (k : Kept). k.followed) ks) ls → length ls ≡ length ks
as_many [] [] place are = refl
as_many [] (l ∷ ls) place are = absurd are
as_many (k ∷ ks) [] place are = absurd are
as_many (k ∷ ks) (l ∷ ls) place are = ap suc (as_many ks ls (place + 1) are.1)

pub as_many_back : (rounds : ℕ) (ks ls : List Kept) → IsRunOver talking (run_of rounds ks) ls → length ls ≡ length ks
as_many_back rounds ks ls over = as_many ks ls 0 over.tracks_are

-- the wires of the tracks that come back are in their places
pub back_in_place : (rounds : ℕ) (ks ls : List Kept) → IsRunOver talking (run_of rounds ks) ls → EachTrack IsInPlace ls
back_in_place rounds ks ls over = λ i d within.
    let at = track_at ks ls 0 over.tracks_are i d within in
    let same : 0 + i ≡ i = omega arith in
    subst (λ n. IsInPlace n (get_or ls i d)) same (record { scrape = at.scrape_place; post = at.post_place })

-- as many tracks as targets
pub as_many_targets : (c : Config) (ks : List Kept) → map (λ (k : Kept). k.followed.target) ks ≡ c.targets → length ks ≡ length c.targets
as_many_targets c ks targets = sym (length-map ks (λ (k : Kept). k.followed.target)) ∙ ap length targets

pub few_tracks : (c : Config) (ks : List Kept) → IsRightConfig c → map (λ (k : Kept). k.followed.target) ks ≡ c.targets → length ks ≤ most_pairs
few_tracks c ks right targets = omega (arith, as_many_targets c ks targets, right.few_targets)

-- what holds of each end holds of all
ends_from : (c : Config) (b o : Outside) (number : ℕ) (ts : List Scraped) (ls : List Kept) → length ls ≡ length ts → ((i : ℕ) (t : Scraped) (d : Kept) → i < length ls → IsEndAtHome c b o (number + i) (get_or ts i t) (track_end (get_or ls i d)))
    → AreEndsAtHome c b o number ts (map track_end ls)
ends_from c b o number [] [] same each = tt
ends_from c b o number [] (l ∷ ls) same each = absurd (omega (arith, same))
ends_from c b o number (t ∷ ts) [] same each = absurd (omega (arith, same))
ends_from c b o number (t ∷ ts) (l ∷ ls) same each =
    let here : number + 0 ≡ number = omega arith in (
      subst (λ n. IsEndAtHome c b o n t (track_end l)) here (each 0 t l (omega arith)),
      ends_from c b o (number + 1) ts ls (omega (arith, same)) (λ i u d within. let next : number + suc i ≡ number + 1 + i = omega arith in
          subst (λ n. IsEndAtHome c b o n (get_or ts i u) (track_end (get_or ls i d))) next (each (suc i) u d (omega (arith, within)))),
    )

-- the end of the target at a place
end_there : (c : Config) (ks ls : List Kept) (before mid after : Outside) → EachTrack (IsFirstTrack c) ks → EachTrack (IsPairOf before.home) ks → map (λ (k : Kept). k.followed.target) ks ≡ c.targets → EachTrack (IsOut mid) ks → IsRunOver talking (run_of c.rounds ks) ls
    → EachTrack (IsPairOf after.home) ls → after.given ≡ mid.given → (i : ℕ) (t : Scraped) (d : Kept) → i < length ls → IsEndAtHome c before after (1 + i) (get_or c.targets i t) (track_end (get_or ls i d))
end_there c ks ls before mid after first was targets out over home given i t d within =
    let less : i < length ks = omega (arith, as_many_back c.rounds ks ls over, within) in
    let place : 0 + i ≡ i = omega arith in
    let number : i + 1 ≡ 1 + i = omega arith in
    let at = subst (λ n. IsTrackAt talking (get_or ks i d).followed n (get_or ls i d)) place (track_at ks ls 0 over.tracks_are i d within) in
    let target : (get_or ks i d).followed.target ≡ get_or c.targets i t = sym (get_or-map (λ (k : Kept). k.followed.target) ks i d t less) ∙ ap (λ ts. get_or ts i t) targets in
    let told_to = ap (λ (g : ℕ → Option Given). g (i + 1)) given ∙ (out i d less).given_is in
    subst (λ n. IsEndAtHome c before after n (get_or c.targets i t) (track_end (get_or ls i d))) number
    (subst (λ u. IsEndAtHome c before after (i + 1) u (track_end (get_or ls i d))) target
    (end_at_home c before after i (get_or ks i d) (get_or ls i d) (first i d less) (was i d less) at (over.visited i d within) (home i d within) told_to))

-- a run that is over, whose wires came home
pub run_end : (c : Config) (ks ls : List Kept) (ends : List TargetEnd) (before mid after : Outside) → EachTrack (IsFirstTrack c) ks → EachTrack (IsPairOf before.home) ks → map (λ (k : Kept). k.followed.target) ks ≡ c.targets → EachTrack (IsOut mid) ks
    → KeepsRest (length c.targets) before mid → IsRunOver talking (run_of c.rounds ks) ls → ends ≡ map track_end ls → EachTrack (IsPairOf after.home) ls → KeepsRest (length ls) mid after → after.given ≡ mid.given → IsRunEnd c before after ends
run_end c ks ls ends before mid after first was targets out rest over ends_are home rest_after given =
    let many : length ls ≡ length c.targets = as_many_back c.rounds ks ls over ∙ as_many_targets c ks targets in
    record {
      ends_are = subst (AreEndsAtHome c before after 1 c.targets) (sym ends_are) (ends_from c before after 1 c.targets ls many (end_there c ks ls before mid after first was targets out over home given));
      rest = rest_through (length ls) (length c.targets) before mid after (omega (arith, many)) rest rest_after;
    }

-- a run that was not begun, whose wires came home
pub not_begun : (c : Config) (ks back : List Kept) (before mid after : Outside) → back ≡ ks → map (λ (k : Kept). k.followed.target) ks ≡ c.targets → EachTrack (IsPairOf before.home) ks → KeepsRest (length c.targets) before mid
    → EachTrack (IsPairOf after.home) back → KeepsRest (length back) mid after → IsNotBegun c before after
not_begun c ks back before mid after same targets was rest home rest_after =
    let many = as_many_targets c ks targets in
    let through = rest_through (length ks) (length c.targets) before mid after (omega (arith, many)) rest (subst (λ ls. KeepsRest (length ls) mid after) same rest_after) in
    record {
      homes = all_again ks before.home after.home was (subst (EachTrack (IsPairOf after.home)) same home) (λ n outside. through.homes n (subst (λ m. (n ≡ 0) ⊎ (m < n)) many outside));
      rest = through;
    }
