use Rattle.std.proofs.Common.{◌≡◌, ◌<◌, List, length, zip, take, refl, ap, ◌∙◌, arith}
use Rattle.std.specs.List.{filter_map, list_any}
use Rattle.std.proofs.lemmas.List.{take_all}
use Rattle.label_sets.specs.declared.series_key.SeriesKey.{SeriesKey}
use Rattle.start_times.specs.declared.row.Row.{Row}
use Rattle.start_times.specs.Filling.{with_entries}
use Rattle.start_times.specs.Sightings.{is_first_miss, missed_entry}
use Rattle.start_times.proofs.Zips.{zip_length}
use Rattle.start_times.proofs.Advance.{row_missed, row_marked}
use Rattle.start_times.proofs.Missed.{miss_told, miss_kept}
use Rattle.start_times.proofs.sighting.keep_others.Goals.{then-not-is_marked+in_ok-keep_missed, else-not-is_marked}
use Rattle.start_times.proofs.sighting.keep_others.Goals as goal

pub loop-at-preserved : goal.loop-at-preserved
loop-at-preserved c =
    let keys = c.args.keys.now in
    let rows = c.args.rows.now in
    let m : length c.as_slice-rows.result.now ≡ length rows = ap length c.as_slice-rows.ensures in
    let in_rows : c.loop-at.at < length rows = omega arith in
    let in_keys : c.loop-at.at < length keys = omega (arith, c.requires) in
    elim c.if-not-is_marked.branch [
      | then-not-is_marked+in_ok-keep_missed w ↦ record {
        kept = λ present e same. row_missed c.args.keep keys c.as_slice-keys.result.now rows c.as_slice-rows.result.now c.args.found.now present c.loop-at.at w.index-keys-at.result w.index-rows-at-then-not-is_marked.result c.args.entries.now
            c.loop-at.entries w.keep_missed.new.entries c.if-not-is_marked.entries c.is_marked.result c.as_slice-keys.ensures c.as_slice-rows.ensures in_keys in_rows w.index-keys-at.is w.index-rows-at-then-not-is_marked.is e c.is_marked.ensures
            w.if-not-is_marked.true (c.loop-at.invariant.kept present e same) w.entries-is same w.in_ok-keep_missed.ensures;
        misses = λ present e. miss_told keys rows c.as_slice-rows.result.now c.args.found.now present c.loop-at.at w.index-rows-at.result c.loop-at.misses _ c.if-not-is_marked.misses c.is_marked.result
            c.as_slice-rows.ensures in_keys in_rows w.index-rows-at.is e c.is_marked.ensures w.if-not-is_marked.true (c.loop-at.invariant.misses present e) w.misses-is refl;
      }
      | else-not-is_marked w ↦ record {
        kept = λ present e same. row_marked c.args.keep keys rows c.args.found.now present c.loop-at.at c.args.entries.now c.loop-at.entries c.if-not-is_marked.entries c.is_marked.result in_keys in_rows e c.is_marked.ensures
            w.if-not-is_marked.false (c.loop-at.invariant.kept present e same) w.entries-is;
        misses = λ present e. miss_kept keys rows c.args.found.now present c.loop-at.at c.loop-at.misses c.if-not-is_marked.misses c.is_marked.result in_keys in_rows e c.is_marked.ensures
            w.if-not-is_marked.false (c.loop-at.invariant.misses present e) w.misses-is;
      }
    ]

pub returns-clause-kept : goal.returns-clause-kept
returns-clause-kept c = λ present e same.
    let all : take c.loop-at.at (zip c.args.keys.now c.args.rows.now) ≡ zip c.args.keys.now c.args.rows.now
    = take_all c.loop-at.at (zip c.args.keys.now c.args.rows.now) (let n = zip_length c.args.keys.now c.args.rows.now c.requires in let m : length c.as_slice-rows.result.now ≡ length c.args.rows.now = ap length c.as_slice-rows.ensures in omega arith) in
    c.loop-at.invariant.kept present e same ∙ ap (λ (es : List (SeriesKey × Row)). with_entries c.args.entries.now (filter_map (missed_entry c.args.keep present) es)) all

pub returns-clause-misses : goal.returns-clause-misses
returns-clause-misses c = λ present e.
    let all : take c.loop-at.at (zip c.args.keys.now c.args.rows.now) ≡ zip c.args.keys.now c.args.rows.now
    = take_all c.loop-at.at (zip c.args.keys.now c.args.rows.now) (let n = zip_length c.args.keys.now c.args.rows.now c.requires in let m : length c.as_slice-rows.result.now ≡ length c.args.rows.now = ap length c.as_slice-rows.ensures in omega arith) in
    c.loop-at.invariant.misses present e ∙ ap (list_any (is_first_miss present)) all
