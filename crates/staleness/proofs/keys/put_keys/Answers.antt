use Rattle.std.proofs.Common.{take, sym, ap, ◌∙◌, arith, List, [], ◌∷◌, ◌++◌, ◌≡◌, ◌+◌, append_assoc}
use Rattle.std.proofs.lemmas.List.{take_more, take_all, append-nil}
use Rattle.label_sets.specs.declared.series_key.SeriesKey.{SeriesKey}
use Rattle.packed_keys.specs.Partings.{keys_behind}
use Rattle.page_model.specs.declared.page.Reading.{Reading}
use Rattle.staleness.specs.Vanished.{untimed_keys}
use Rattle.staleness.proofs.Lacking.{untimed-append}
use Rattle.staleness.proofs.keys.put_keys.Goals as goal

pub loop-reading-init : goal.loop-reading-init
loop-reading-init c = sym (append-nil (keys_behind c.args.keys.now.items))

pub loop-reading-preserved : goal.loop-reading-preserved
loop-reading-preserved c =
    let rs = c.args.readings.now in
    let r = c.reading-item.result in
    let front = take c.loop-reading.reading-index rs in
    let before = keys_behind c.args.keys.now.items in
    let more : take (c.loop-reading.reading-index + 1) rs ≡ front ++ r ∷ [] = take_more rs c.loop-reading.reading-index r c.loop-reading-test.true ∙ ap (λ (m : Reading). front ++ m ∷ []) (sym c.reading-item.is) in
    c.in_ok-put_key.ensures
    ∙ (ap (λ (ks : List SeriesKey). ks ++ untimed_keys c.args.honor (r ∷ [])) c.loop-reading.invariant
    ∙ (append_assoc before (untimed_keys c.args.honor front) (untimed_keys c.args.honor (r ∷ []))
    ∙ ap (λ (ks : List SeriesKey). before ++ ks) (sym (untimed-append c.args.honor front (r ∷ [])) ∙ ap (untimed_keys c.args.honor) (sym more))))

pub returns : goal.returns
returns c = c.loop-reading.invariant ∙ ap (λ (rs : List Reading). keys_behind c.args.keys.now.items ++ untimed_keys c.args.honor rs) (take_all c.loop-reading.reading-index c.args.readings.now (omega arith))
