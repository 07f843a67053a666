use Rattle.std.proofs.Common.{ap, ◌∙◌, Bor}
use Rattle.std.proofs.lemmas.List.{map_push}
use Rattle.label_sets.specs.declared.series_key.SeriesKey.{SeriesKey}
use Rattle.packed_keys.specs.Partings.{keys_behind}
use Rattle.staleness.proofs.Lacking.{passed_over, put_behind}
use Rattle.staleness.proofs.keys.put_key.Goals as goal

pub returns-then-has_own_time : goal.returns-then-has_own_time
returns-then-has_own_time c = passed_over c.args.honor c.args.reading.now (keys_behind c.args.keys.now.items) c.has_own_time.result c.has_own_time.ensures c.if-has_own_time.true

pub returns : goal.returns
returns c =
    ap keys_behind c.in_ok-push.ensures.items ∙ (map_push (λ (k : Bor SeriesKey). k.now) c.args.keys.now.items _
    ∙ put_behind c.args.honor c.args.reading.now (keys_behind c.args.keys.now.items) c.has_own_time.result c.has_own_time.ensures c.if-has_own_time.false)
