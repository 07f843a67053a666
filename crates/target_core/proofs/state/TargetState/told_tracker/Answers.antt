use Rattle.std.proofs.Common.{◌≡◌, sym, ap, subst, ◌∙◌}
use Rattle.std.proofs.lemmas.Result.{IfOk-weaker}
use Rattle.start_times.specs.Rows.{Tracked}
use Rattle.start_times.specs.Advancing.{Advances}
use Rattle.page_model.specs.declared.page.Page.{Page}
use Rattle.target_core.specs.States.{Following}
use Rattle.target_core.specs.Stepping.{IsToldBehind}
use Rattle.target_pages.specs.Stretches.{without_info}
use Rattle.target_core.proofs.Stepping.{told_none, told_late}
use Rattle.target_core.proofs.state.TargetState.told_tracker.Goals as goal

pub returns-in_default : goal.returns-in_default
returns-in_default c =
    IfOk-weaker c.copy.result (λ (k : Tracked). k ≡ c.self.inside.tracker) (IsToldBehind c.args.self.now)
    (λ k e. subst (IsToldBehind c.args.self.now) (sym (e ∙ ap (λ (s : Following). s.tracked) c.self.view_is)) (told_none c.args.self.now (sym (ap (λ (s : Following). s.moment) c.self.view_is) ∙ c.in_default.is))) c.copy.ensures

pub returns : goal.returns
returns c =
    let s = c.args.self.now in
    told_late s c.in-Some.moment c.in_ok-tracker.field-0-0 c.in_ok-tracker.tracker (sym (ap (λ (x : Following). x.pending) c.self.view_is) ∙ c.if-not-self.false)
    (sym (ap (λ (x : Following). x.moment) c.self.view_is) ∙ c.in-Some.is)
    (subst (λ (p : Page). Advances s.tracked p c.in-Some.moment c.in_ok-tracker.field-0-0 c.in_ok-tracker.tracker) (c.series.ensures ∙ ap (λ (x : Following). without_info x.page) c.self.view_is)
    (subst (λ (k : Tracked). Advances k c.series.result.now c.in-Some.moment c.in_ok-tracker.field-0-0 c.in_ok-tracker.tracker) (ap (λ (x : Following). x.tracked) c.self.view_is) c.in_ok-tracker.ensures))
