use Rattle.std.proofs.Common.{◌≡◌, ◌++◌, [], ◌∷◌, List, Some, zip, take, ap, subst, sym, ◌∙◌}
use Rattle.std.specs.Prelude.{IfSome, slice_get}
use Rattle.label_sets.specs.declared.series_key.SeriesKey.{SeriesKey}
use Rattle.start_times.specs.declared.row.Row.{Row}
use Rattle.start_times.specs.Filling.{Filled, with_entries}
use Rattle.start_times.proofs.Zips.{zip_push}
use Rattle.start_times.proofs.entries.Entries.push.Goals as goal

pub returns : goal.returns
returns c = λ there.
    let e = c.self.inside in
    let keys = take e.shared e.before ++ e.own.items in
    let more : take c.put_key.new.shared e.before ++ c.put_key.new.own.items ≡ keys ++ c.args.key.now ∷ []
    = c.in_ok-put_key.ensures.put (subst (λ (f : Filled). IfSome c.args.at (λ place. slice_get f.before place ≡ Some c.args.key.now)) (sym c.self.view_is) there) in
    let rows : c.push_reserved.new.self.items ≡ e.rows.items ++ c.args.row ∷ [] = c.push_reserved.ensures.items ∙ ap (λ (rs : List Row). rs ++ c.args.row ∷ []) c.in_ok-reserve.ensures.items in
    (λ i. record { before = e.before; list = zip (more i) (rows i) })
    ∙ (ap (λ (es : List (SeriesKey × Row)). record { before = e.before; list = es }) (zip_push keys e.rows.items c.args.key.now c.args.row c.self.invariant.2)
    ∙ ap (λ (f : Filled). with_entries f ((c.args.key.now, c.args.row) ∷ [])) c.self.view_is)
