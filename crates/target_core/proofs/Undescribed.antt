-- Without target info an event has one part, read behind all scrapes of its target.
use Rattle.std.proofs.Common.{◌≡◌, Bool, true, false, not, List, [], ◌∷◌, find, None, refl, ap, ◌∙◌}
use Rattle.std.specs.List.{list_all}
use Rattle.page_model.specs.declared.page.Reading.{Reading}
use Rattle.page_model.specs.declared.page.Page.{Page}
use Rattle.page_model.specs.declared.event.Outcome.{Outcome}
use Rattle.page_model.specs.declared.event.Outcome.TheVariants as outcomes
use Rattle.page_model.specs.declared.event.Event.{Event}
use Rattle.page_model.specs.Presence.{all_readings, page_of_outcome}
use Rattle.start_times.specs.Scrapes.{Scrape, scrape_after, scrapes_of}
use Rattle.start_times.specs.Starts.{reading_place}
use Rattle.label_sets.specs.declared.label_set.LabelSet.{LabelSet}
use Rattle.target_pages.specs.Stretches.{is_info, attributes_in, attributes_after, resource_attributes, goes_on, moment_of, stretch_scrape, stretch_of}
use Rattle.target_core.specs.Trees.{request_of}
use Rattle.target_pages.specs.Outcomes.{up_of}
use Rattle.target_core.specs.Events.{markers_at, request_within, request_after}
use Rattle.target_core.specs.Laws.{DescribeNothing, OnePartAlone}
use Rattle.target_pages.proofs.Laws.{whole_page_left}

-- ---- one page

-- where all readings fail the test none is found
none_found : (test : Reading → Bool) (rs : List Reading) → list_all (λ (r : Reading). not (test r)) rs ≡ true → find test rs ≡ None
none_found test [] all = refl
none_found test (r ∷ rs) all = go (test r) refl (none_found test rs)
  where
    go : (b : Bool) → test r ≡ b → (list_all (λ (q : Reading). not (test q)) rs ≡ true → find test rs ≡ None) → find test (r ∷ rs) ≡ None
    go true e rest = absurd (let f : false ≡ true = rw e at all in cc)
    go false e rest = rw e (rest (rw e at all))

no_info : (page : Page) → list_all (λ (r : Reading). not (is_info r)) (all_readings page) ≡ true → find is_info (all_readings page) ≡ None
no_info page all = none_found is_info (all_readings page) all

no_attributes_in : (page : Page) → list_all (λ (r : Reading). not (is_info r)) (all_readings page) ≡ true → attributes_in page ≡ []
unfolding attributes_in
no_attributes_in page all = rw (no_info page all) refl

none_after : (before : LabelSet) (o : Outcome) → before ≡ [] → list_all (λ (r : Reading). not (is_info r)) (all_readings (page_of_outcome o)) ≡ true → attributes_after before o ≡ []
none_after before (outcomes.Page page) none all = no_attributes_in page all
none_after before (outcomes.Failed cause) none all = none

-- ---- all events

no_attributes : (events : List Event) → DescribeNothing events → resource_attributes events ≡ []
no_attributes [] all = refl
no_attributes (e ∷ earlier) all = none_after (resource_attributes earlier) e.outcome (no_attributes earlier all.1) all.0

all_go_on : (earlier : List Event) (e : Event) → DescribeNothing (e ∷ earlier) → goes_on earlier e ≡ true
all_go_on earlier e all = rw (no_attributes (e ∷ earlier) all, no_attributes earlier all.1) refl

same_scrape : (earlier : List Event) (e : Event) → DescribeNothing (e ∷ earlier) → stretch_scrape earlier e ≡ scrape_after (scrapes_of earlier) e
unfolding stretch_scrape scrape_after
same_scrape earlier e all = ap (λ (page : Page). (let s : Scrape = record { moment = moment_of earlier e; page = page } in s)) (whole_page_left (page_of_outcome e.outcome) (no_info (page_of_outcome e.outcome) all.0))

same_stretch : (events : List Event) → DescribeNothing events → stretch_of events ≡ scrapes_of events
same_stretch [] all = refl
same_stretch (e ∷ earlier) all =
    let on = all_go_on earlier e all in
    let step : stretch_of (e ∷ earlier) ≡ stretch_scrape earlier e ∷ stretch_of earlier = rw on refl in
    step ∙ (λ i. same_scrape earlier e all i ∷ same_stretch earlier all.1 i)

pub one_part_alone : OnePartAlone
unfolding request_after scrape_after
one_part_alone target t earlier e all =
    let on = all_go_on earlier e all in
    let within : request_after target t earlier e ≡ request_within target t earlier e = rw on refl in
    let past = same_stretch earlier all.1 in
    let now = same_scrape earlier e all in
    let page = whole_page_left (page_of_outcome e.outcome) (no_info (page_of_outcome e.outcome) all.0) in
    within ∙ (λ i. request_of target (no_attributes (e ∷ earlier) all i) (reading_place t (past i) (now i).moment) (markers_at t (past i) (now i)) (now i).moment (up_of e.outcome) (page i) [])
