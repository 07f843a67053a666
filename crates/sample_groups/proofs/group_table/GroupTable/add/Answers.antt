use Rattle.std.proofs.Common.{◌≡◌, ◌∙◌, ◌+◌, ap, not, length, arith}
use Rattle.std.specs.Prelude.{nat_lt}
use Rattle.sample_groups.specs.Groups.{shared_labels, breaks_order}
use Rattle.sample_groups.specs.Members.{member_behind}
use Rattle.sample_groups.proofs.Placing.{within_groups, group_here, grown_here, overtaken_here}
use Rattle.sample_groups.proofs.group_table.GroupTable.add.Goals as goal

pub overflow_add-overtaken : goal.overflow_add-overtaken
overflow_add-overtaken c =
    let within = within_groups c.args.self.now c.place_from.new.self c.self.inside.sets c.self.inside.groups.items (shared_labels c.args.kind c.args.labels.now) c.in_ok-place.place c.in_ok-place.ensures c.self.view_is c.self.invariant.0.many in
    omega (arith, within, c.self.inside.groups.ok)

pub index_mut-requires : goal.index_mut-requires
index_mut-requires c =
    let within = within_groups c.args.self.now c.place_from.new.self c.self.inside.sets c.self.inside.groups.items (shared_labels c.args.kind c.args.labels.now) c.in_ok-place.place c.in_ok-place.ensures c.self.view_is c.self.invariant.0.many in
    omega (arith, within, c.self.inside.groups.ok)

pub returns : goal.returns
returns c =
    let count : c.len-count.result ≡ length c.self.inside.groups.items = omega (arith, c.len-count.ensures, c.self.inside.groups.ok) in
    let shared = shared_labels c.args.kind c.args.labels.now in record {
      answer = c.in_ok-fits.ensures.answer ∙ ap (λ g. not (breaks_order g c.args.member.now.part.now))
          (group_here c.args.self.now c.place_from.new.self c.self.inside.sets c.self.inside.groups.items shared c.in_ok-place.place c.index_mut.result.now
          c.in_ok-place.ensures c.self.view_is c.self.invariant.0.many c.index_mut.ensures.value);
      overtaken = ap (nat_lt (c.in_ok-place.place + 1)) count ∙ overtaken_here c.args.self.now c.place_from.new.self c.self.inside.sets c.self.inside.groups.items shared c.in_ok-place.place c.in_ok-place.ensures c.self.view_is c.self.invariant.0.many;
      grown = λ added.
          grown_here c.args.self.now c.place_from.new.self c.self.inside.sets c.self.inside.groups.items shared c.in_ok-place.place c.index_mut.result.now c.add.new.self (member_behind c.args.member.now)
          c.in_ok-place.ensures c.self.view_is c.self.invariant.0.many c.index_mut.ensures.value (c.in_ok-fits.ensures.added added);
    }
