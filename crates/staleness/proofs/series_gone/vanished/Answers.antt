use Rattle.std.proofs.Common.{List, ap, subst, ◌∙◌, Bor}
use Rattle.std.specs.Option.{option_copied}
use Rattle.std.specs.List.{filter}
use Rattle.label_sets.specs.declared.series_key.SeriesKey.{SeriesKey}
use Rattle.packed_keys.specs.Partings.{IsParted, keys_behind}
use Rattle.staleness.specs.Vanished.{page_or_empty, is_lacking}
use Rattle.staleness.proofs.Lacking.{all_gone}
use Rattle.staleness.proofs.series_gone.vanished.Goals as goal

pub returns : goal.returns
returns c =
    let parted = c.in_ok-parted.parted in
    let keys = keys_behind c.in_ok-keys.keys.items in
    let others = keys_behind c.in_ok-others.others.items in
    all_gone c.from_vec.result c.args.honor c.args.before.now (page_or_empty (option_copied c.args.now)) c.in_ok-gone.gone.items others keys parted.strays parted.left
    c.in_ok-others.ensures c.in_ok-keys.ensures.keys c.in_ok-keys.ensures.once
    (subst (λ (refs : List (Bor SeriesKey)). IsParted (keys_behind refs) others parted.strays parted.left) c.as_slice-2.ensures.value
    (subst (λ (refs : List (Bor SeriesKey)). IsParted (keys_behind c.as_slice-2.result.now) (keys_behind refs) parted.strays parted.left) c.as_slice.ensures.value c.in_ok-parted.ensures))
    (c.in_ok-gone.ensures ∙ (ap (λ (xs : List SeriesKey). filter (is_lacking xs) c.as_slice-3.result.now) c.of-left.ensures ∙ ap (filter (is_lacking parted.left)) c.as_slice-3.ensures)) c.from_vec.ensures
