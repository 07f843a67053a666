use Rattle.std.proofs.Common.{sym, ◌∙◌}
use Rattle.packed_keys.specs.Texts.{IsPackedSet}
use Rattle.packed_keys.proofs.Seen.{still, set_placed, sets_are, stays_there}
use Rattle.packed_keys.proofs.seen_sets.insert_packed.Goals as goal

pub returns-then-eq-clause-place : goal.returns-then-eq-clause-place
returns-then-eq-clause-place c = (stays_there c.args.table.now c.args.last.now c.get.result c.args.packed c.requires.sets c.requires.set c.get.ensures (sym c.eq.ensures ∙ c.if-eq.true)).0

pub returns-then-eq-clause-sets : goal.returns-then-eq-clause-sets
returns-then-eq-clause-sets c = (stays_there c.args.table.now c.args.last.now c.get.result c.args.packed c.requires.sets c.requires.set c.get.ensures (sym c.eq.ensures ∙ c.if-eq.true)).1

pub returns-clause-place : goal.returns-clause-place
returns-clause-place c =
    rw c.unwrap_or-place.ensures (set_placed c.args.table.now c.insert.new.self c.args.packed.now c.in_ok-insert.field-0 c.len-count.result c.len-count.ensures (c.in_ok-insert.ensures.found, c.in_ok-insert.ensures.added))

pub returns-clause-sets : goal.returns-clause-sets
returns-clause-sets c = sets_are c.args.table.now c.insert.new.self c.args.packed.now c.in_ok-insert.field-0 c.requires.sets c.requires.set (c.in_ok-insert.ensures.found, c.in_ok-insert.ensures.added)

pub returns-clause-packed : goal.returns-clause-packed
returns-clause-packed c = still IsPackedSet c.args.table.now c.insert.new.self c.args.packed.now c.in_ok-insert.field-0 c.requires.sets c.requires.set (c.in_ok-insert.ensures.found, c.in_ok-insert.ensures.added)
