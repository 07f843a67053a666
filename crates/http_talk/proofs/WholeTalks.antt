-- Whole talks: their outcomes, and where they were left.
use Rattle.std.proofs.Common.{◌≡◌, ℕ, true, false, List, Some, None, refl, ap}
use Rattle.std.specs.Prelude.{◌↔◌}
use Rattle.bridge_ports.specs.declared.talk.Talk.{Talk}
use Rattle.bridge_ports.specs.declared.talk.End.{End}
use Rattle.bridge_ports.specs.declared.talk.End.TheVariants as ends
use Rattle.page_model.specs.declared.format.Format.{Format}
use Rattle.page_model.specs.declared.event.Cause.TheVariants as causes
use Rattle.page_model.specs.declared.event.Outcome.{Outcome}
use Rattle.page_model.specs.declared.event.Outcome.TheVariants as outcomes
use Rattle.page_model.specs.PageReading.{text_fault, text_page}
use Rattle.page_model.proofs.Laws.{first_fault_read, page_is_read}
use Rattle.http_talk.specs.Replies.{Judged, waits, goes_on, decided, refused, whole, IsJudged, Verdict, HasVerdict, HasOutcome, IsOutcomeOf, IsOutcomeBy, IsVerdictOutcome, IsEndOutcome, IsPageOutcome, scraped_setting, IsWholeTalk, is_decided}
use Rattle.http_talk.proofs.Once.{known_once}

-- a body has a page or a first fault
page_outcome : (limit : ℕ) (format : Format) (body : List ℕ) → (outcome : Outcome) × IsPageOutcome limit format body outcome
page_outcome limit format body =
    let st = scraped_setting format limit in
    elim (text_fault st body) as (λ o. text_fault st body ≡ o → (outcome : Outcome) × IsPageOutcome limit format body outcome) [
      | None ↦ λ none. (outcomes.Page (text_page st body), (page_is_read st body (text_page st body)).1 (none, refl))
      | Some fault ↦ λ some. (outcomes.Failed (causes.Page fault.0 fault.1), (first_fault_read st body fault).1 some)
    ] refl

verdict_outcome : (limit : ℕ) (v : Verdict) → (outcome : Outcome) × IsVerdictOutcome limit v outcome
verdict_outcome limit (refused cause) = (outcomes.Failed cause, refl)
verdict_outcome limit (whole format body) = page_outcome limit format body

end_outcome : (limit : ℕ) (known : Judged) → (outcome : Outcome) × IsEndOutcome limit known outcome
end_outcome limit waits = (outcomes.Failed causes.Truncated, refl)
end_outcome limit (goes_on format body) = page_outcome limit format body
end_outcome limit (decided v) = verdict_outcome limit v

outcome_by : (end : End) (limit : ℕ) (known : Judged) → ((end ≡ ends.Left) ↔ (is_decided known ≡ true)) → is_decided known ≡ false
    → (outcome : Outcome) × IsOutcomeBy end limit known outcome
outcome_by ends.ConnectFailed limit known left live = (outcomes.Failed causes.Connect, refl)
outcome_by ends.WriteFailed limit known left live = (outcomes.Failed causes.Write, refl)
outcome_by ends.ReadFailed limit known left live = (outcomes.Failed causes.Read, refl)
outcome_by ends.Ended limit known left live = end_outcome limit known
outcome_by ends.Left limit known left live = absurd (cc (left.0 refl, live))

outcome_of : (end : End) (limit : ℕ) (known : Judged) → ((end ≡ ends.Left) ↔ (is_decided known ≡ true)) → (outcome : Outcome) × IsOutcomeOf end limit known outcome
outcome_of end limit (decided v) left = verdict_outcome limit v
outcome_of end limit waits left = outcome_by end limit waits left refl
outcome_of end limit (goes_on format body) left = outcome_by end limit (goes_on format body) left refl

pub whole_talk_outcome : (limit most : ℕ) (text : List ℕ) (talk : Talk) → IsWholeTalk most text talk → (outcome : Outcome) × HasOutcome limit most talk outcome
whole_talk_outcome limit most text talk x =
    let found = outcome_of talk.end limit x.known x.left in
    (found.0, record { known = x.known; judged_so = x.judged_so; outcome_is = found.1 })

verdict_of : (most : ℕ) (got : List ℕ) (known : Judged) → IsJudged most got known → is_decided known ≡ true → (v : Verdict) × HasVerdict most got v
verdict_of most got (decided v) x e = (v, x)
verdict_of most got waits x e = absurd (cc e)
verdict_of most got (goes_on format body) x e = absurd (cc e)

pub left_decided : (most : ℕ) (text : List ℕ) (talk : Talk) → IsWholeTalk most text talk → (talk.end ≡ ends.Left) ↔ ((v : Verdict) × HasVerdict most talk.got v)
left_decided most text talk x = (
  (λ left. verdict_of most talk.got x.known x.judged_so (x.left.0 left)),
  (λ some. x.left.1 (ap is_decided (known_once most talk.got x.known (decided some.0) x.judged_so some.1))),
)
