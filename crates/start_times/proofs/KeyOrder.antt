-- The order of keys is total and ties just equal keys, as the impl of that order says.
use Rattle.std.proofs.Common.{◌≡◌, rules, sym, ap, subst, ◌∙◌}
use Rattle.std.specs.Cmp.{IsTotalOrder}
use Rattle.std.specs.Cmp.Rules.{comparing}
use Rattle.std.specs.Ordering.{is_eq}
use Rattle.std.specs.declared.cmp.Ordering.{Ordering}
use Rattle.std.specs.declared.cmp.Ordering.TheVariants.{Equal}
use Rattle.label_sets.specs.declared.series_key.SeriesKey.{SeriesKey}
use Rattle.label_sets.specs.Keys.{key_eq, key_cmp}
use Rattle.label_sets.specs.contracts.series_key.SeriesKeyPartialEq.TheImpl.{ghosts}
use Rattle.label_sets.specs.contracts.series_key.SeriesKeyOrd.TheImpl.{ghosts as order}
use Rattle.label_sets.specs.contracts.series_key.SeriesKeyOrd.TheImpl.Laws.{total-law, matches_eq-law}
use Rattle.label_sets.proofs.Laws.{key_decides}

pub order_is : (a b : SeriesKey) → order.cmp a b ≡ key_cmp a b
order_is a b = search (comparing, rules)

pub key_order : IsTotalOrder key_cmp
key_order = let same : order.cmp ≡ key_cmp = λ i a b. order_is a b i in subst (λ (cmp : SeriesKey → SeriesKey → Ordering). IsTotalOrder cmp) same total-law

pub keys_tied : (a b : SeriesKey) → key_cmp a b ≡ Equal → a ≡ b
keys_tied a b e =
    let equal : ghosts.eq a b ≡ key_eq a b = search rules in
    (key_decides a b).0 (sym equal ∙ (matches_eq-law a b ∙ ap is_eq (order_is a b ∙ e)))
