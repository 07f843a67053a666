use Rattle.std.proofs.Common.{rules, sym, subst, ◌≡◌, ◌<◌, length, List, ℕ}
use Rattle.std.specs.Vec.{with_items}
use Rattle.std.proofs.lemmas.List.{with_items_is}
use Rattle.byte_table.specs.Links.{IsChained}
use Rattle.byte_table.proofs.Linked.{one_more}
use Rattle.byte_table.proofs.chains.Chains.push.Goals as goal

pub returns-clause-chained : goal.returns-clause-chained
returns-clause-chained c =
    let own = c.make_room.new.self in
    let heads = c.as_mut_slice.result.now in
    let nexts = c.as_mut_slice-2.result.now in
    let long : length c.link.new.heads ≡ length heads = search rules in
    let long' : length c.link.new.nexts ≡ length nexts = search rules in
    let heads_are : (with_items own.heads c.link.new.heads).items ≡ c.link.new.heads = with_items_is own.heads c.link.new.heads (search rules) in
    let nexts_are : (with_items own.nexts c.link.new.nexts).items ≡ c.link.new.nexts = with_items_is own.nexts c.link.new.nexts (search rules) in
    let chained : IsChained c.args.strings.now heads nexts = rw (c.as_mut_slice.ensures.value, c.as_mut_slice-2.ensures.value) c.in_ok-make_room.ensures.chained in
    let room : length c.args.strings.now < length nexts = search rules in
    subst (λ (hs : List ℕ). IsChained c.push.new.self hs (with_items own.nexts c.link.new.nexts).items) (sym heads_are)
    (subst (IsChained c.push.new.self c.link.new.heads) (sym nexts_are)
    (one_more c.args.strings.now c.push.new.self c.args.string.now c.args.hash c.len-count.result heads nexts c.link.new.heads c.link.new.nexts chained room c.in_ok-push.ensures.added c.requires.hash c.len-count.ensures.count c.link.ensures long long'))
