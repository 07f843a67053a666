use Rattle.std.proofs.Common.{◌∙◌}
use Rattle.std.proofs.lemmas.Result.{IfOk-weaker}
use Rattle.start_times.proofs.Whole.{page_advanced}
use Rattle.start_times.proofs.tracker.Tracker.advance.Goals as goal

pub returns : goal.returns
returns c = IfOk-weaker c.behind.result _ _
    (λ r is. λ t past tracks distinct. page_advanced t past c.self.inside.keep c.self.inside.honor c.self.inside.keys c.self.inside.rows c.args.self.now c.args.page.now c.args.moment c.as_slice-families.result.now
    c.in_ok-seen.seen c.see_beside.new.seen c.as_slice-found.result.now c.keep_others.new.entries c.in_ok-misses.misses r.1 r.0.list r.0.misses
    c.self.view_is c.self.invariant (c.as_slice-families.ensures ∙ c.families.ensures.families) c.in_ok-seen.ensures.0 c.in_ok-seen.ensures.1 c.in_ok-seen.ensures.2
    c.in_ok-see_beside.ensures c.as_slice-found.ensures.value c.in_ok-misses.ensures.kept c.in_ok-misses.ensures.misses is.1 is.2 is.3 is.0 is.4 tracks distinct)
    c.behind.ensures
