use Rattle.std.proofs.Common.{◌∙◌, ◌<◌, ◌≤◌, ◌==◌, List, length, ap, sym, subst, arith}
use Rattle.std.specs.List.{position_or_len, remove}
use Rattle.bridge_ports.specs.declared.memory_world.MemoryPair.{MemoryPair}
use Rattle.memory_world.specs.WorldParts.{IsFirstOut}
use Rattle.memory_world.proofs.PairLaws.{first_given, first_bare}
use Rattle.memory_world.proofs.memory_pairs.out_first.Goals as goal

pub returns-then-place-len : goal.returns-then-place-len
returns-then-place-len c =
    let inside : c.place_of-place.result < length c.args.fresh.now.items = omega (arith, c.if-place-len.true, c.len.ensures, c.args.fresh.now.ok.0) in
    subst (λ (now : List MemoryPair). IsFirstOut c.args.number c.args.fresh.now.items now c.remove.result.wires) (sym c.remove.ensures.items)
    (subst (λ (p : MemoryPair). IsFirstOut c.args.number c.args.fresh.now.items (remove c.args.fresh.now.items c.place_of-place.result) p.wires) (sym c.remove.ensures.value)
    (first_given c.args.fresh.now.items c.args.number c.place_of-place.result c.remove.result
    (c.place_of-place.ensures ∙ ap (position_or_len (λ (p : MemoryPair). p.number == c.args.number)) c.as_slice.ensures.value) inside))

pub returns : goal.returns
returns c =
    let long : length c.args.fresh.now.items ≤ c.place_of-place.result = omega (arith, c.if-place-len.false, c.len.ensures, c.args.fresh.now.ok.0) in
    first_bare c.args.fresh.now.items c.args.number c.place_of-place.result (record { scrape = c.bare_wire.result; post = c.bare_wire-2.result })
    (c.place_of-place.ensures ∙ ap (position_or_len (λ (p : MemoryPair). p.number == c.args.number)) c.as_slice.ensures.value) long c.requires c.bare_wire.ensures c.bare_wire-2.ensures
