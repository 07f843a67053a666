use Rattle.std.proofs.Common.{◌≡◌, ◌+◌, ◌++◌, ◌∷◌, [], List, take, sym, ap, ◌∙◌}
use Rattle.std.proofs.lemmas.List.{take_more, map-append}
use Rattle.label_sets.specs.declared.series_key.SeriesKey.{SeriesKey}
use Rattle.start_times.specs.declared.row.Row.{Row}
use Rattle.start_times.specs.declared.row.Kept.{Kept}
use Rattle.start_times.specs.Rows.{row_at_age}
use Rattle.start_times.specs.Filling.{Filled}
use Rattle.start_times.specs.Keeping.{entries_of}
use Rattle.start_times.proofs.listing.collected.Goals as goal

pub loop-kept-preserved : goal.loop-kept-preserved
unfolding row_at_age
loop-kept-preserved c =
    let rows = c.args.rows.now in
    let kept : Kept = c.kept-item.result in
    let front = take c.loop-kept.kept-index rows in
    let more : take (c.loop-kept.kept-index + 1) rows ≡ front ++ kept ∷ [] = take_more rows c.loop-kept.kept-index kept c.loop-kept-test.true ∙ ap (λ (k : Kept). front ++ k ∷ []) (sym c.kept-item.is) in
    let row : c.in_ok-row.row ≡ kept.row = c.in_ok-row.ensures in
    ap (λ (f : Filled). f.list) (c.in_ok-push.ensures tt) ∙ (ap (λ (es : List (SeriesKey × Row)). es ++ (kept.key, c.in_ok-row.row) ∷ []) c.loop-kept.invariant
    ∙ (ap (λ (r : Row). entries_of front ++ (kept.key, r) ∷ []) row
    ∙ (sym (map-append (λ (k : Kept). (k.key, k.row)) front (kept ∷ [])) ∙ ap entries_of (sym more))))
