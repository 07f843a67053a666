use Rattle.std.proofs.Common.{◌≡◌, ◌∙◌, ◌<◌, ◌≤◌, ◌==◌, List, length, Some, option_map, Bor, ap, sym, subst, arith}
use Rattle.std.specs.List.{position_or_len}
use Rattle.bridge_ports.specs.declared.memory_world.Shelved.{Shelved}
use Rattle.bridge_ports.specs.declared.memory_world.MemoryPair.{MemoryPair}
use Rattle.memory_world.specs.declared.memory_pairs.KeptPair.{KeptPair}
use Rattle.bridge_ports.specs.MemoryWorlds.{PairState}
use Rattle.bridge_ports.specs.WorldMaking.{shown_pair}
use Rattle.memory_world.specs.WorldParts.{both_wires}
use Rattle.memory_world.proofs.PairLaws.{home_kept, shown_fresh, shown_none}
use Rattle.memory_world.proofs.memory_pairs.MemoryPairs.home.Goals as goal

pub returns-then-place-len : goal.returns-then-place-len
returns-then-place-len c =
    let inside : c.place_of-place.result < length c.self.inside.kept.items = omega (arith, c.if-place-len.true, c.len.ensures, c.self.inside.kept.ok.0) in
    subst (λ (ps : List PairState). option_map (λ (w : Bor Shelved). both_wires w.now) c.as_ref.result ≡ shown_pair ps c.args.number) c.self.view_is
    (home_kept c.self.inside.kept.items c.self.inside.fresh.items c.args.number c.place_of-place.result c.index.result.now c.as_ref.result
    (c.place_of-place.ensures ∙ ap (position_or_len (λ (k : KeptPair). k.number == c.args.number)) c.as_slice.ensures.value) inside c.index.ensures c.as_ref.ensures.value)

pub returns-then-place-len-2 : goal.returns-then-place-len-2
returns-then-place-len-2 c =
    let long : length c.self.inside.kept.items ≤ c.place_of-place.result = omega (arith, c.if-place-len.false, c.len.ensures, c.self.inside.kept.ok.0) in
    let inside : c.place_of-place-2.result < length c.self.inside.fresh.items = omega (arith, c.if-place-len-2.true, c.len-2.ensures, c.self.inside.fresh.ok.0) in
    ap (λ (p : MemoryPair). Some (both_wires p.wires)) c.index-then-place-len-2.ensures
    ∙ sym (shown_fresh c.self.inside.kept.items c.self.inside.fresh.items c.args.number c.place_of-place.result c.place_of-place-2.result c.index-then-place-len-2.result.now
    (c.place_of-place.ensures ∙ ap (position_or_len (λ (k : KeptPair). k.number == c.args.number)) c.as_slice.ensures.value) long
    (c.place_of-place-2.ensures ∙ ap (position_or_len (λ (p : MemoryPair). p.number == c.args.number)) c.as_slice-2.ensures.value) inside)
    ∙ ap (λ (ps : List PairState). shown_pair ps c.args.number) c.self.view_is

pub returns : goal.returns
returns c =
    let long : length c.self.inside.kept.items ≤ c.place_of-place.result = omega (arith, c.if-place-len.false, c.len.ensures, c.self.inside.kept.ok.0) in
    let past : length c.self.inside.fresh.items ≤ c.place_of-place-2.result = omega (arith, c.if-place-len-2.false, c.len-2.ensures, c.self.inside.fresh.ok.0) in
    sym (shown_none c.self.inside.kept.items c.self.inside.fresh.items c.args.number c.place_of-place.result c.place_of-place-2.result
    (c.place_of-place.ensures ∙ ap (position_or_len (λ (k : KeptPair). k.number == c.args.number)) c.as_slice.ensures.value) long
    (c.place_of-place-2.ensures ∙ ap (position_or_len (λ (p : MemoryPair). p.number == c.args.number)) c.as_slice-2.ensures.value) past)
    ∙ ap (λ (ps : List PairState). shown_pair ps c.args.number) c.self.view_is
