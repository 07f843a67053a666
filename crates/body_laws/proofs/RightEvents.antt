-- The pages of the events that talks tell are right, so their trees mark the series that are gone.
use Rattle.std.proofs.Common.{◌≡◌, ℕ, List, [], ◌∷◌, sym, subst}
use Rattle.page_model.specs.declared.format.Format.{Format}
use Rattle.page_model.specs.declared.event.Event.{Event}
use Rattle.page_model.specs.declared.event.Outcome.{Outcome}
use Rattle.page_model.specs.declared.event.Outcome.TheVariants as outcomes
use Rattle.page_model.specs.declared.event.Cause.{Cause}
use Rattle.page_model.specs.declared.event.Cause.TheVariants as causes
use Rattle.page_model.specs.declared.format.Treatment.TheVariants.{Scraped}
use Rattle.page_model.specs.Written.{text_setting}
use Rattle.page_model.specs.Pages.{IsRightPage}
use Rattle.page_model.specs.Presence.{empty_page, page_of_outcome}
use Rattle.page_model.proofs.Laws.{text_is_right, nothing_is_right}
use Rattle.bridge_ports.specs.declared.talk.Talk.{Talk}
use Rattle.bridge_ports.specs.declared.talk.End.{End}
use Rattle.bridge_ports.specs.declared.talk.End.TheVariants as ends
use Rattle.http_talk.specs.Replies.{Verdict, refused, whole, Judged, waits, goes_on, decided, scraped_setting, IsPageOutcome, IsVerdictOutcome, IsEndOutcome, IsOutcomeBy, IsOutcomeOf, HasOutcome}
use Rattle.start_times.specs.Scrapes.{last_page, scrape_after, scrapes_of}
use Rattle.series_table.specs.Talking.{Followed}
use Rattle.series_table.specs.HttpTalks.{talking}
use Rattle.series_table.specs.Emission.{IsHistoryOf, tracking_of}
use Rattle.point_laws.proofs.Laws.{events_mark_the_gone}
use Rattle.body_laws.specs.BodyLaws.{AllMarkTheGone, BodiesMarkTheGone, TracksMarkTheGone}

-- the page of an outcome is right
abbrev IsRightOutcome : Outcome → Type 0
IsRightOutcome o = IsRightPage (page_of_outcome o)

nothing_right : IsRightPage empty_page
nothing_right = (text_setting Scraped 0, nothing_is_right Scraped 0)

failed_right : (o : Outcome) (cause : Cause) → o ≡ outcomes.Failed cause → IsRightOutcome o
failed_right o cause is = subst IsRightOutcome (sym is) nothing_right

body_right : (limit : ℕ) (f : Format) (body : List ℕ) (o : Outcome) → IsPageOutcome limit f body o → IsRightOutcome o
body_right limit f body (outcomes.Page page) is = (scraped_setting f limit, text_is_right (scraped_setting f limit) body page is)
body_right limit f body (outcomes.Failed cause) is = nothing_right

verdict_right : (limit : ℕ) (v : Verdict) (o : Outcome) → IsVerdictOutcome limit v o → IsRightOutcome o
verdict_right limit (refused cause) o is = failed_right o cause is
verdict_right limit (whole f body) o is = body_right limit f body o is

end_right : (limit : ℕ) (known : Judged) (o : Outcome) → IsEndOutcome limit known o → IsRightOutcome o
end_right limit waits o is = failed_right o causes.Truncated is
end_right limit (goes_on f body) o is = body_right limit f body o is
end_right limit (decided v) o is = verdict_right limit v o is

right_by : (end : End) (limit : ℕ) (known : Judged) (o : Outcome) → IsOutcomeBy end limit known o → IsRightOutcome o
right_by ends.ConnectFailed limit known o is = failed_right o causes.Connect is
right_by ends.WriteFailed limit known o is = failed_right o causes.Write is
right_by ends.ReadFailed limit known o is = failed_right o causes.Read is
right_by ends.Ended limit known o is = end_right limit known o is
right_by ends.Left limit known o is = absurd is

right_of : (end : End) (limit : ℕ) (known : Judged) (o : Outcome) → IsOutcomeOf end limit known o → IsRightOutcome o
right_of end limit (decided v) o is = verdict_right limit v o is
right_of end limit waits o is = right_by end limit waits o is
right_of end limit (goes_on f body) o is = right_by end limit (goes_on f body) o is

outcome_right : (limit most : ℕ) (talk : Talk) (o : Outcome) → HasOutcome limit most talk o → IsRightOutcome o
outcome_right limit most talk o has = right_of talk.end limit has.known o has.outcome_is

-- ---- histories

last_right : (f : Followed) (talks : List Talk) (events : List Event) → IsHistoryOf talking f talks events → IsRightPage (last_page (scrapes_of events))
unfolding talking scrape_after
last_right f [] [] history = nothing_right
last_right f [] (e ∷ earlier) history = absurd history
last_right f (talk ∷ talks) [] history = absurd history
last_right f (talk ∷ talks) (e ∷ earlier) history = outcome_right f.settings.limit f.settings.max_page talk e.outcome history.0.outcome

history_marks : (f : Followed) (talks : List Talk) (events : List Event) → IsHistoryOf talking f talks events → AllMarkTheGone f events
unfolding talking
history_marks f [] [] history = tt
history_marks f [] (e ∷ earlier) history = absurd history
history_marks f (talk ∷ talks) [] history = absurd history
history_marks f (talk ∷ talks) (e ∷ earlier) history = (
  events_mark_the_gone f.target (tracking_of f) earlier e (last_right f talks earlier history.1) (outcome_right f.settings.limit f.settings.max_page talk e.outcome history.0.outcome),
  history_marks f talks earlier history.1,
)

-- ---- bodies

pub bodies_mark : BodiesMarkTheGone
bodies_mark f more scrapes posts events ps bodies = history_marks f bodies.tells.counted events bodies.tells.history

pub tracks_mark : TracksMarkTheGone
tracks_mark k posts_what = λ scrapes posts a b.
    let said = posts_what scrapes posts a b in
    (said.0, said.1, said.2, bodies_mark k.followed _ scrapes posts said.0 said.1 said.2)
