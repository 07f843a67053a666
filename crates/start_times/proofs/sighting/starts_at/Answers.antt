use Rattle.std.proofs.Common.{◌≡◌, ◌++◌, ◌∷◌, [], ◌+◌, ℕ, List, Option, map, zip, take, sym, ap, subst, ◌∙◌}
use Rattle.std.proofs.lemmas.List.{take_more, map-append}
use Rattle.label_sets.specs.declared.series_key.SeriesKey.{SeriesKey}
use Rattle.packed_keys.specs.Places.{IsPlace}
use Rattle.start_times.specs.Rows.{kept_start}
use Rattle.start_times.proofs.Sights.{start_found}
use Rattle.start_times.proofs.sighting.starts_at.Goals as goal

pub loop-key-preserved : goal.loop-key-preserved
loop-key-preserved c =
    let keys = c.args.keys.now in
    let key = c.key-item.result in
    let front = take c.loop-key.key-index keys in
    let start = kept_start (zip c.args.places.now c.args.rows.now) in
    let more : take (c.loop-key.key-index + 1) keys ≡ front ++ key ∷ [] = take_more keys c.loop-key.key-index key c.loop-key-test.true ∙ ap (λ (k : SeriesKey). front ++ k ∷ []) (sym c.key-item.is) in
    let place : IsPlace c.args.places.now key c.in_ok-at.at = subst (λ (ks : List SeriesKey). IsPlace ks key c.in_ok-at.at) c.loop-key.invariant.places c.in_ok-at.ensures.place in
    record {
      places = c.find.ensures.same ∙ c.loop-key.invariant.places;
      starts = λ once. c.in_ok-push.ensures.items ∙ (ap (λ (os : List (Option ℕ)). os ++ c.start_at.result ∷ []) (c.loop-key.invariant.starts once)
          ∙ (ap (λ (o : Option ℕ). map start front ++ o ∷ []) (start_found c.args.places.now c.args.rows.now key c.in_ok-at.at c.start_at.result c.requires once place c.start_at.ensures)
          ∙ (sym (map-append start front (key ∷ [])) ∙ ap (map start) (sym more))));
    }
