use Rattle.std.proofs.Common.{◌≡◌, rules, Some, slice_get, sym, ap, ◌∙◌}
use Rattle.std.proofs.lemmas.Bool.{OnTrue_from}
use Rattle.label_sets.specs.contracts.series_key.SeriesKeyPartialEq.TheImpl.{ghosts}
use Rattle.label_sets.specs.Keys.{key_eq}
use Rattle.label_sets.proofs.Laws.{key_decides}
use Rattle.packed_keys.proofs.key_row.is_at.Goals as goal

pub returns-in-Some : goal.returns-in-Some
returns-in-Some g c = OnTrue_from c.eq.result (slice_get (g.K.KeyRow.keys c.args.row.now) c.args.at ≡ Some c.args.key.now) (λ t.
    let other = c.in-Some.other.now in
    let key = c.args.key.now in
    let equal : ghosts.eq other key ≡ key_eq other key = search rules in
    let same : other ≡ key = (key_decides other key).0 (sym equal ∙ (sym c.eq.ensures ∙ t)) in
    sym c.in-Some.ensures ∙ ap Some same)
