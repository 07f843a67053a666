use Rattle.std.proofs.Common.{◌≡◌, rules, sym, ◌∙◌}
use Rattle.label_sets.specs.Keys.{key_eq}
use Rattle.label_sets.specs.contracts.series_key.SeriesKeyPartialEq.TheImpl.{ghosts}
use Rattle.label_sets.proofs.Same.{key_decides, key_cmp-total, key_cmp-Equal}
use Rattle.label_sets.proofs.set_laws.order_of_keys.Goals as goal

pub returns-clause-same : goal.returns-clause-same
returns-clause-same c = λ a b.
    let equal : ghosts.eq a b ≡ key_eq a b = search rules in
    (λ t. (key_decides a b).0 (sym equal ∙ t), λ e. equal ∙ (key_decides a b).1 e)

pub returns-clause-total : goal.returns-clause-total
returns-clause-total c = key_cmp-total

pub returns-clause-ties : goal.returns-clause-ties
returns-clause-ties c = key_cmp-Equal
