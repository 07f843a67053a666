use Rattle.std.proofs.Common.{◌≡◌, ◌∙◌, ◌<◌, ◌==◌, List, length, set, Some, IsSome, ap, sym, subst, arith}
use Rattle.std.specs.List.{position_or_len}
use Rattle.memory_world.specs.declared.memory_pairs.KeptPair.{KeptPair}
use Rattle.bridge_ports.specs.MemoryWorlds.{PairState, given_of}
use Rattle.memory_world.specs.WorldParts.{both_wires, found_pair, pair_seen, pairs_state}
use Rattle.memory_world.proofs.PairLaws.{back_at_home, given_is_kept, back_kept_at, back_found_at, back_others_at}
use Rattle.memory_world.proofs.memory_pairs.MemoryPairs.take_back.Goals as goal

pub index_mut-requires : goal.index_mut-requires
index_mut-requires c =
    let inside : c.place_of-place.result < length c.self.inside.kept.items = given_is_kept c.self.inside.kept.items c.self.inside.fresh.items c.args.number c.place_of-place.result
    (c.place_of-place.ensures ∙ ap (position_or_len (λ (k : KeptPair). k.number == c.args.number)) c.as_slice.ensures.value)
    (subst (λ (ps : List PairState). IsSome (given_of ps c.args.number)) (sym c.self.view_is) c.requires.given) in
    omega (arith, inside, c.self.inside.kept.ok.0)

pub invariant_of-self : goal.invariant_of-self
invariant_of-self c = back_kept_at c.self.inside.kept.items c.self.inside.fresh.items c.args.number c.place_of-place.result c.index_mut.result.now c.args.wires c.self.invariant
    (c.place_of-place.ensures ∙ ap (position_or_len (λ (k : KeptPair). k.number == c.args.number)) c.as_slice.ensures.value)
    (subst (λ (ps : List PairState). IsSome (given_of ps c.args.number)) (sym c.self.view_is) c.requires.given) c.index_mut.ensures.value c.requires.scrape c.requires.post

pub returns-clause-back : goal.returns-clause-back
returns-clause-back c =
    subst (λ (ps : List PairState). found_pair (pairs_state (set c.self.inside.kept.items c.place_of-place.result (back_at_home c.index_mut.result.now c.args.wires)) c.self.inside.fresh.items) c.args.number
    ≡ Some (pair_seen c.args.number (Some (both_wires c.args.wires)) (given_of ps c.args.number))) c.self.view_is
    (back_found_at c.self.inside.kept.items c.self.inside.fresh.items c.args.number c.place_of-place.result c.index_mut.result.now c.args.wires
    (c.place_of-place.ensures ∙ ap (position_or_len (λ (k : KeptPair). k.number == c.args.number)) c.as_slice.ensures.value)
    (subst (λ (ps : List PairState). IsSome (given_of ps c.args.number)) (sym c.self.view_is) c.requires.given) c.index_mut.ensures.value)

pub returns-clause-others : goal.returns-clause-others
returns-clause-others c = λ m other.
    back_others_at c.self.inside.kept.items c.self.inside.fresh.items c.args.number c.place_of-place.result c.index_mut.result.now c.args.wires
    (c.place_of-place.ensures ∙ ap (position_or_len (λ (k : KeptPair). k.number == c.args.number)) c.as_slice.ensures.value)
    (subst (λ (ps : List PairState). IsSome (given_of ps c.args.number)) (sym c.self.view_is) c.requires.given) c.index_mut.ensures.value m other
    ∙ ap (λ (ps : List PairState). found_pair ps m) c.self.view_is
