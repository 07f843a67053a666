-- The tracks of a configuration's targets: that their run may be, and how their ends are told.
use Rattle.std.proofs.Common.{◌≡◌, ℕ, suc, ◌+◌, ◌<◌, ◌≤◌, true, false, List, [], ◌∷◌, ◌++◌, length, map, take, set, get_or, refl, sym, ap, subst, ◌∙◌, arith}
use Rattle.std.specs.List.{AllByRecursion, IsDistinct}
use Rattle.std.specs.Int.{is_in_range}
use Rattle.std.proofs.lemmas.Bool.{and_parts, leb-true}
use Rattle.std.proofs.lemmas.List.{length-map, get_or-map, map-append, take_more, take_more_set}
use Rattle.std.proofs.Math.Seq.{map-set_same}
use Rattle.std.proofs.lemmas.List.Elements.{All-map}
use Rattle.bridge_ports.specs.Targets.{IsScraped, have_same_names}
use Rattle.series_table.specs.HttpTalks.{talking}
use Rattle.series_table.specs.Talking.{Followed, AreInRange}
use Rattle.series_table.specs.Records.{Kept}
use Rattle.target_table.specs.Runs.{IsRightRun, is_same_target}
use Rattle.series_table.specs.Tracks.{IsTrackAt, AreTracks}
use Rattle.scraper_pool.specs.Turns.{run_of}
use Rattle.bridge_config.specs.declared.config.Config.{Config}
use Rattle.bridge_config.specs.RightConfigs.{IsRightConfig}
use Rattle.run_report.specs.declared.target_end.TargetEnd.{TargetEnd}
use Rattle.run_report.specs.Ends.{track_end}
use Rattle.world_run.specs.Taken.{EachTrack, IsFirstTrack, end_names, track_names}
use Rattle.world_run.specs.Serving.{IsRunOf}

-- ---- the run of tracks

-- no name again
other_names : (k : Kept) (ks : List Kept) → AllByRecursion (λ t. have_same_names k.followed.target t ≡ false) (map (λ (l : Kept). l.followed.target) ks)
    → AllByRecursion (λ f. is_same_target k.followed f ≡ false) (map (λ (l : Kept). l.followed) ks)
other_names k [] all = tt
other_names k (l ∷ ks) all = (all.0, other_names k ks all.1)

distinct_tracks : (ks : List Kept) → IsDistinct have_same_names (map (λ (k : Kept). k.followed.target) ks) → IsDistinct is_same_target (map (λ (k : Kept). k.followed) ks)
unfolding IsDistinct
distinct_tracks [] all = tt
distinct_tracks (k ∷ ks) all = (other_names k ks all.0, distinct_tracks ks all.1)

-- a number in a range is between its ends
between : (low high n : ℕ) → is_in_range low high n ≡ true → (low ≤ n) × (n ≤ high)
between low high n e = let both = and_parts _ _ e in (leb-true low n both.0, leb-true n high both.1)

-- the run of a right configuration's tracks may be
pub right_run : (c : Config) (ks : List Kept) → IsRightConfig c → EachTrack (IsFirstTrack c) ks → map (λ (k : Kept). k.followed.target) ks ≡ c.targets → IsRightRun (run_of c.rounds ks)
right_run c ks right first targets =
    let some : length (map (λ (k : Kept). k.followed) ks) ≡ length ks = length-map ks (λ (k : Kept). k.followed) in
    let many : length c.targets ≡ length ks = ap length (sym targets) ∙ length-map ks (λ (k : Kept). k.followed.target) in
    record {
      some = omega (arith, some, many, right.some_target);
      few = omega (arith, some, many, right.few_targets);
      distinct = distinct_tracks ks (subst (IsDistinct have_same_names) (sym targets) right.names);
      scraped = All-map (λ (f : Followed). IsScraped f.target) (λ (k : Kept). k.followed) ks (λ i d less. (first i d less).scraped);
      settings = All-map (λ (f : Followed). AreInRange f.settings) (λ (k : Kept). k.followed) ks (λ i d less. (first i d less).at.track.ranges);
      rounds = between 1 1000000 c.rounds right.numbers.rounds;
    }

-- it is the run of the configuration
pub own_run : (c : Config) (ks : List Kept) → EachTrack (IsFirstTrack c) ks → map (λ (k : Kept). k.followed.target) ks ≡ c.targets → IsRunOf c (run_of c.rounds ks)
own_run c ks first targets = record {
  targets = targets_of ks ∙ targets;
  settings = All-map (λ (f : Followed). f.settings ≡ c.settings) (λ (k : Kept). k.followed) ks (λ i d less. (first i d less).settings);
  collector = All-map (λ (f : Followed). f.to ≡ c.collector) (λ (k : Kept). k.followed) ks (λ i d less. (first i d less).to);
  rounds = refl;
}
  where
    targets_of : (ks : List Kept) → map (λ (f : Followed). f.target) (map (λ (k : Kept). k.followed) ks) ≡ map (λ (k : Kept). k.followed.target) ks
    targets_of [] = refl
    targets_of (k ∷ ks) = ap (λ ts. k.followed.target ∷ ts) (targets_of ks)

-- each track is that of its own target
own_tracks_from : (ks : List Kept) (place : ℕ) → ((i : ℕ) (d : Kept) → i < length ks → IsTrackAt talking (get_or ks i d).followed (place + i) (get_or ks i d)) → AreTracks talking place (map (λ (k : Kept). k.followed) ks) ks
own_tracks_from [] place each = tt
own_tracks_from (k ∷ ks) place each =
    let here : place + 0 ≡ place = omega arith in (
      subst (λ n. IsTrackAt talking k.followed n k) here (each 0 k (omega arith)),
      own_tracks_from ks (place + 1) (λ i d less. let next : place + suc i ≡ place + 1 + i = omega arith in subst (λ n. IsTrackAt talking (get_or ks i d).followed n (get_or ks i d)) next (each (suc i) d (omega (arith, less)))),
    )

pub own_tracks : (c : Config) (ks : List Kept) → EachTrack (IsFirstTrack c) ks → AreTracks talking 0 (map (λ (k : Kept). k.followed) ks) ks
own_tracks c ks first = own_tracks_from ks 0 (λ i d less. let same : i ≡ 0 + i = omega arith in subst (λ n. IsTrackAt talking (get_or ks i d).followed n (get_or ks i d)) same (first i d less).at)

-- the tracks that a run gives back are those of its targets
pub same_followed : (fs : List Followed) (place : ℕ) (ks : List Kept) → AreTracks talking place fs ks → map (λ (k : Kept). k.followed) ks ≡ fs
same_followed [] place [] are = refl
same_followed (f ∷ fs) place (k ∷ ks) are = ap (λ g. g ∷ map (λ (l : Kept). l.followed) ks) are.0.followed ∙ ap (λ gs. f ∷ gs) (same_followed fs (place + 1) ks are.1)
same_followed [] place (k ∷ ks) are = absurd are
same_followed (f ∷ fs) place [] are = absurd are

-- ---- ends

names_of_followed : (ks : List Kept) → map (λ (f : Followed). (f.target.job, f.target.instance)) (map (λ (k : Kept). k.followed) ks) ≡ map track_names ks
names_of_followed [] = refl
names_of_followed (k ∷ ks) = ap (λ ns. track_names k ∷ ns) (names_of_followed ks)

names_of_ends : (ks : List Kept) → map end_names (map track_end ks) ≡ map track_names ks
names_of_ends [] = refl
names_of_ends (k ∷ ks) = ap (λ ns. track_names k ∷ ns) (names_of_ends ks)

-- the ends that were made of tracks have the names of those that came back
pub same_names : (ks ls : List Kept) (ends : List TargetEnd) → ends ≡ map track_end ks → map (λ (k : Kept). k.followed) ls ≡ map (λ (k : Kept). k.followed) ks → map end_names ends ≡ map track_names ls
same_names ks ls ends made same =
    ap (map end_names) made ∙ names_of_ends ks ∙ sym (names_of_followed ks)
    ∙ ap (map (λ (f : Followed). (f.target.job, f.target.instance))) (sym same) ∙ names_of_followed ls

pub as_many_ends : (ends : List TargetEnd) (ks : List Kept) → map end_names ends ≡ map track_names ks → length ends ≡ length ks
as_many_ends ends ks names = sym (length-map ends end_names) ∙ ap length names ∙ length-map ks track_names

-- the end and the track at one place have one name
pub names_at : (ends : List TargetEnd) (ks : List Kept) (i : ℕ) (e : TargetEnd) (k : Kept) → map end_names ends ≡ map track_names ks → i < length ks → k ≡ get_or ks i k → end_names (get_or ends i e) ≡ track_names k
names_at ends ks i e k names within is =
    let many : length ends ≡ length ks = as_many_ends ends ks names in
    sym (get_or-map end_names ends i e (track_names k) (omega (arith, many, within))) ∙ ap (λ (ns : List (List ℕ × List ℕ)). get_or ns i (track_names k)) names
    ∙ get_or-map track_names ks i k (track_names k) within ∙ ap track_names (sym is)

-- one end more is told
pub end_told : (ends : List TargetEnd) (ks : List Kept) (i : ℕ) (e : TargetEnd) (k : Kept) → map end_names ends ≡ map track_names ks → i < length ks → k ≡ get_or ks i k → e ≡ track_end k → take i ends ≡ map track_end (take i ks)
    → (map end_names (set ends i e) ≡ map track_names ks) × (take (i + 1) (set ends i e) ≡ map track_end (take (i + 1) ks))
end_told ends ks i e k names within is told so =
    let many : length ends ≡ length ks = as_many_ends ends ks names in (
      map-set_same end_names ends i e e (ap end_names told ∙ sym (names_at ends ks i e k names within is)) ∙ names,
      take_more_set ends i e (omega (arith, many, within)) ∙ ap (λ es. es ++ e ∷ []) so ∙ ap (λ x. map track_end (take i ks) ++ x ∷ []) told
          ∙ sym (map-append track_end (take i ks) (k ∷ [])) ∙ ap (λ l. map track_end (take i ks ++ l ∷ [])) is ∙ ap (map track_end) (sym (take_more ks i k within)),
    )
