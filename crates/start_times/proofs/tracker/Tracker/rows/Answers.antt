use Rattle.std.proofs.Common.{◌+◌, ◌*◌, ◌≤◌, ◌≡◌, ℕ, length, take, sym, ap, subst, ◌∙◌}
use Rattle.start_times.specs.Rows.{Tracked, most_readings}
use Rattle.start_times.proofs.Zips.{zip_length}
use Rattle.start_times.proofs.FewRows.{rows_are_few}
use Rattle.start_times.proofs.tracker.Tracker.rows.Goals as goal

pub returns-clause-rows : goal.returns-clause-rows
returns-clause-rows c = c.len.ensures ∙ (sym (zip_length c.self.inside.keys c.self.inside.rows c.self.invariant) ∙ ap (λ (k : Tracked). length k.rows) c.self.view_is)

pub returns-clause-few : goal.returns-clause-few
returns-clause-few c = λ t past tracks.
    let all : c.len.result ≡ length c.args.self.now.rows = c.len.ensures ∙ (sym (zip_length c.self.inside.keys c.self.inside.rows c.self.invariant) ∙ ap (λ (k : Tracked). length k.rows) c.self.view_is) in
    subst (λ (n : ℕ). n ≤ (t.keep + 1) * most_readings (take (t.keep + 1) past)) (sym all) (rows_are_few t c.args.self.now past tracks)
