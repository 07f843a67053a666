-- Without earlier events an event has the tree of a target without a past.
use Rattle.std.proofs.Common.{◌≡◌, ℕ, Bool, true, false, cond, [], ◌∷◌, Some, None, refl, ap, ◌∙◌}
use Rattle.page_model.specs.declared.page.Reading.{Reading}
use Rattle.start_times.specs.declared.row.Placed.TheVariants.{At}
use Rattle.start_times.specs.Scrapes.{moment_after, scrape_after}
use Rattle.start_times.specs.Starts.{Tracking, has_points, time_of, placed, reading_place}
use Rattle.start_times.proofs.Laws.{start_without_past}
use Rattle.target_pages.specs.Stretches.{resource_attributes, goes_on, stretch_scrape}
use Rattle.target_core.specs.Trees.{request_with}
use Rattle.target_core.specs.Events.{first_place, event_request, request_after}
use Rattle.target_core.specs.Laws.{EmptyPast}

-- a reading is placed as if it had no past
first : (t : Tracking) (moment : ℕ) (r : Reading) → reading_place t [] moment r ≡ first_place t.honor moment r
unfolding reading_place placed first_place
first t moment r = ap (λ n. cond (has_points r.key.kind) (Some (At (time_of t moment r) n)) None) (start_without_past t moment r)

pub empty_past : EmptyPast
unfolding request_after event_request stretch_scrape scrape_after
empty_past target t e same = go (goes_on [] e) refl
  where
    moment : ℕ
    moment = moment_after None e.reading

    go : (b : Bool) → goes_on [] e ≡ b → request_after target t [] e ≡ event_request target moment e.outcome
    go true h = rw h (λ i. request_with target (resource_attributes (e ∷ [])) (λ r. (first t moment r ∙ ap (λ (honor : Bool). first_place honor moment r) same) i) [] moment e.outcome [])
    go false h = rw h (λ i. request_with target (resource_attributes (e ∷ [])) (λ r. (first t moment r ∙ ap (λ (honor : Bool). first_place honor moment r) same) i) [] moment e.outcome [])
