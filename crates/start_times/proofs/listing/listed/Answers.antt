use Rattle.std.proofs.Common.{zip, rules}
use Rattle.std.specs.Ordering.{is_lt}
use Rattle.std.proofs.lemmas.List.Sorted.{answers_always, ranks_by}
use Rattle.start_times.specs.declared.row.Kept.{Kept}
use Rattle.start_times.specs.Keeping.{by_key}
use Rattle.start_times.proofs.KeptRows.{sorted_list}
use Rattle.start_times.proofs.KeyOrder.{key_order, order_is}
use Rattle.start_times.proofs.listing.listed.Goals as goal

pub returns : goal.returns
returns c = sorted_list (zip c.args.keys.now c.args.rows.now) c.in_ok-list.list.items c.sort_unstable_by.new.self.items c.in_ok-list.ensures c.sort_unstable_by.ensures.permutation
    (c.sort_unstable_by.ensures.sorted (λ x y. is_lt (by_key x y)) (ranks_by key_order (λ (k : Kept). k.key)) (answers_always _ _ _ (λ f a r g h. search (rules, order_is))))
