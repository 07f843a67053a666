use Rattle.std.proofs.Common.{◌≡◌, ◌∙◌, ◌+◌, ap, length, arith}
use Rattle.std.specs.Prelude.{nat_lt}
use Rattle.sample_groups.specs.Groups.{shared_labels}
use Rattle.sample_groups.proofs.Placing.{within_groups, overtaken_here}
use Rattle.sample_groups.proofs.group_table.GroupTable.is_overtaken.Goals as goal

pub overflow_add-result : goal.overflow_add-result
overflow_add-result c =
    let within = within_groups c.args.self.now c.place_from.new.self c.self.inside.sets c.self.inside.groups.items (shared_labels c.args.kind c.args.labels.now) c.in_ok-place.place c.in_ok-place.ensures c.self.view_is c.self.invariant.0.many in
    omega (arith, within, c.self.inside.groups.ok)

pub returns : goal.returns
returns c =
    let count : c.len-count.result ≡ length c.self.inside.groups.items = omega (arith, c.len-count.ensures, c.self.inside.groups.ok) in
    ap (nat_lt (c.in_ok-place.place + 1)) count
    ∙ overtaken_here c.args.self.now c.place_from.new.self c.self.inside.sets c.self.inside.groups.items (shared_labels c.args.kind c.args.labels.now) c.in_ok-place.place c.in_ok-place.ensures c.self.view_is c.self.invariant.0.many
