use Rattle.std.proofs.Common.{◌≡◌, ◌∙◌, ◌<◌, ◌==◌, List, [], ◌∷◌, ◌++◌, length, Some, None, option_map, IsSome, ap, refl, sym, subst, arith}
use Rattle.std.specs.List.{position_or_len}
use Rattle.memory_world.specs.declared.memory_pairs.KeptPair.{KeptPair}
use Rattle.bridge_ports.specs.MemoryWorlds.{PairState, pair_of}
use Rattle.memory_world.specs.WorldParts.{both_wires, pair_seen, found_pair, handed_of, pairs_state, addresses_kept, HavePlaces}
use Rattle.memory_world.proofs.PairLaws.{find_none, home_again, pair_again, away_kept, found_set, others_set, places_of_pair, pair_first, away_pushed, found_push, others_push}
use Rattle.memory_world.proofs.memory_pairs.MemoryPairs.hand_out.Goals as goal

pub out_again-requires-clause-home : goal.out_again-requires-clause-home
out_again-requires-clause-home c =
    let pair : KeptPair = record { number = c.args.number; wires = None; scrape = c.in_ok-scrape.scrape; post = c.in_ok-scrape.post } in
    let is : c.place_of-place.result ≡ position_or_len (λ (k : KeptPair). k.number == c.args.number) c.self.inside.kept.items = c.place_of-place.ensures ∙ ap (position_or_len (λ (k : KeptPair). k.number == c.args.number)) c.as_slice.ensures.value in
    let inside : c.place_of-place.result < length c.self.inside.kept.items = omega (arith, c.if-place-len.true, c.len.ensures, c.self.inside.kept.ok.0) in
    let told : IsSome (pair_of (pairs_state c.self.inside.kept.items c.self.inside.fresh.items) c.args.number) = subst (λ (ps : List PairState). IsSome (pair_of ps c.args.number)) (sym c.self.view_is) c.requires in
    home_again c.self.inside.kept.items c.self.inside.fresh.items c.args.number c.place_of-place.result pair is inside told

pub invariant_of-self : goal.invariant_of-self
invariant_of-self c =
    let pair : KeptPair = record { number = c.args.number; wires = None; scrape = c.in_ok-scrape.scrape; post = c.in_ok-scrape.post } in
    let told : IsSome (pair_of (pairs_state c.self.inside.kept.items c.self.inside.fresh.items) c.args.number) = subst (λ (ps : List PairState). IsSome (pair_of ps c.args.number)) (sym c.self.view_is) c.requires in
    subst (λ (now : List KeptPair). HavePlaces now c.self.inside.fresh.items) (sym c.out_again.ensures.kept) (away_kept c.self.inside.kept.items c.self.inside.fresh.items c.args.number c.place_of-place.result pair c.self.invariant told refl refl)

pub returns-then-place-len-clause-pair : goal.returns-then-place-len-clause-pair
returns-then-place-len-clause-pair c =
    let pair : KeptPair = record { number = c.args.number; wires = None; scrape = c.in_ok-scrape.scrape; post = c.in_ok-scrape.post } in
    let is : c.place_of-place.result ≡ position_or_len (λ (k : KeptPair). k.number == c.args.number) c.self.inside.kept.items = c.place_of-place.ensures ∙ ap (position_or_len (λ (k : KeptPair). k.number == c.args.number)) c.as_slice.ensures.value in
    let inside : c.place_of-place.result < length c.self.inside.kept.items = omega (arith, c.if-place-len.true, c.len.ensures, c.self.inside.kept.ok.0) in
    let home : pair_of (pairs_state c.self.inside.kept.items c.self.inside.fresh.items) c.args.number ≡ Some (both_wires c.out_again.result) = pair_again c.self.inside.kept.items c.self.inside.fresh.items c.args.number c.place_of-place.result pair is inside ∙ ap (option_map both_wires) c.out_again.ensures.wires in
    ap (λ (ps : List PairState). pair_of ps c.args.number) (sym c.self.view_is) ∙ home

pub returns-then-place-len-clause-scrape : goal.returns-then-place-len-clause-scrape
returns-then-place-len-clause-scrape c =
    let pair : KeptPair = record { number = c.args.number; wires = None; scrape = c.in_ok-scrape.scrape; post = c.in_ok-scrape.post } in
    let is : c.place_of-place.result ≡ position_or_len (λ (k : KeptPair). k.number == c.args.number) c.self.inside.kept.items = c.place_of-place.ensures ∙ ap (position_or_len (λ (k : KeptPair). k.number == c.args.number)) c.as_slice.ensures.value in
    let inside : c.place_of-place.result < length c.self.inside.kept.items = omega (arith, c.if-place-len.true, c.len.ensures, c.self.inside.kept.ok.0) in
    let home : pair_of (pairs_state c.self.inside.kept.items c.self.inside.fresh.items) c.args.number ≡ Some (both_wires c.out_again.result) = pair_again c.self.inside.kept.items c.self.inside.fresh.items c.args.number c.place_of-place.result pair is inside ∙ ap (option_map both_wires) c.out_again.ensures.wires in
    (places_of_pair c.self.inside.kept.items c.self.inside.fresh.items c.args.number (both_wires c.out_again.result) c.self.invariant home).0

pub returns-then-place-len-clause-post : goal.returns-then-place-len-clause-post
returns-then-place-len-clause-post c =
    let pair : KeptPair = record { number = c.args.number; wires = None; scrape = c.in_ok-scrape.scrape; post = c.in_ok-scrape.post } in
    let is : c.place_of-place.result ≡ position_or_len (λ (k : KeptPair). k.number == c.args.number) c.self.inside.kept.items = c.place_of-place.ensures ∙ ap (position_or_len (λ (k : KeptPair). k.number == c.args.number)) c.as_slice.ensures.value in
    let inside : c.place_of-place.result < length c.self.inside.kept.items = omega (arith, c.if-place-len.true, c.len.ensures, c.self.inside.kept.ok.0) in
    let home : pair_of (pairs_state c.self.inside.kept.items c.self.inside.fresh.items) c.args.number ≡ Some (both_wires c.out_again.result) = pair_again c.self.inside.kept.items c.self.inside.fresh.items c.args.number c.place_of-place.result pair is inside ∙ ap (option_map both_wires) c.out_again.ensures.wires in
    (places_of_pair c.self.inside.kept.items c.self.inside.fresh.items c.args.number (both_wires c.out_again.result) c.self.invariant home).1

pub returns-then-place-len-clause-out : goal.returns-then-place-len-clause-out
returns-then-place-len-clause-out c =
    let pair : KeptPair = record { number = c.args.number; wires = None; scrape = c.in_ok-scrape.scrape; post = c.in_ok-scrape.post } in
    let is : c.place_of-place.result ≡ position_or_len (λ (k : KeptPair). k.number == c.args.number) c.self.inside.kept.items = c.place_of-place.ensures ∙ ap (position_or_len (λ (k : KeptPair). k.number == c.args.number)) c.as_slice.ensures.value in
    let inside : c.place_of-place.result < length c.self.inside.kept.items = omega (arith, c.if-place-len.true, c.len.ensures, c.self.inside.kept.ok.0) in
    ap (λ (now : List KeptPair). found_pair (pairs_state now c.self.inside.fresh.items) c.args.number) c.out_again.ensures.kept
    ∙ found_set c.self.inside.kept.items c.self.inside.fresh.items c.args.number c.place_of-place.result pair is inside refl
    ∙ (λ i. Some (pair_seen c.args.number None (addresses_kept (c.in_ok-scrape.ensures.scrape i) (c.in_ok-scrape.ensures.post i))))

pub returns-then-place-len-clause-others : goal.returns-then-place-len-clause-others
returns-then-place-len-clause-others c =
    let pair : KeptPair = record { number = c.args.number; wires = None; scrape = c.in_ok-scrape.scrape; post = c.in_ok-scrape.post } in
    let is : c.place_of-place.result ≡ position_or_len (λ (k : KeptPair). k.number == c.args.number) c.self.inside.kept.items = c.place_of-place.ensures ∙ ap (position_or_len (λ (k : KeptPair). k.number == c.args.number)) c.as_slice.ensures.value in
    let inside : c.place_of-place.result < length c.self.inside.kept.items = omega (arith, c.if-place-len.true, c.len.ensures, c.self.inside.kept.ok.0) in
    λ m other. ap (λ (now : List KeptPair). found_pair (pairs_state now c.self.inside.fresh.items) m) c.out_again.ensures.kept ∙ others_set c.self.inside.kept.items c.self.inside.fresh.items c.args.number c.place_of-place.result pair is inside refl m other
    ∙ ap (λ (ps : List PairState). found_pair ps m) c.self.view_is

pub out_first-wires-requires : goal.out_first-wires-requires
out_first-wires-requires c =
    let is : c.place_of-place.result ≡ position_or_len (λ (k : KeptPair). k.number == c.args.number) c.self.inside.kept.items = c.place_of-place.ensures ∙ ap (position_or_len (λ (k : KeptPair). k.number == c.args.number)) c.as_slice.ensures.value in
    let none : handed_of c.self.inside.kept.items c.args.number ≡ None = find_none (λ (k : KeptPair). k.number == c.args.number) c.self.inside.kept.items c.place_of-place.result is (omega (arith, c.if-place-len.false, c.len.ensures, c.self.inside.kept.ok.0)) in
    let told : IsSome (pair_of (pairs_state c.self.inside.kept.items c.self.inside.fresh.items) c.args.number) = subst (λ (ps : List PairState). IsSome (pair_of ps c.args.number)) (sym c.self.view_is) c.requires in
    subst IsSome (pair_first c.self.inside.kept.items c.self.inside.fresh.items c.args.number none) told

pub invariant_of-self-2 : goal.invariant_of-self-2
invariant_of-self-2 c =
    let pair : KeptPair = record { number = c.args.number; wires = None; scrape = c.in_ok-scrape.scrape; post = c.in_ok-scrape.post } in
    let told : IsSome (pair_of (pairs_state c.self.inside.kept.items c.self.inside.fresh.items) c.args.number) = subst (λ (ps : List PairState). IsSome (pair_of ps c.args.number)) (sym c.self.view_is) c.requires in
    let items : c.push_reserved.new.self.items ≡ c.self.inside.kept.items ++ pair ∷ [] = c.push_reserved.ensures.items ∙ ap (λ (ks : List KeptPair). ks ++ pair ∷ []) c.in_ok-reserve.ensures.items in
    subst (λ (now : List KeptPair). HavePlaces now c.out_first-wires.new.fresh.items) (sym items) (away_pushed c.self.inside.kept.items c.self.inside.fresh.items c.out_first-wires.new.fresh.items c.args.number pair c.self.invariant told refl refl c.out_first-wires.ensures.places)

pub returns-clause-pair : goal.returns-clause-pair
returns-clause-pair c =
    let is : c.place_of-place.result ≡ position_or_len (λ (k : KeptPair). k.number == c.args.number) c.self.inside.kept.items = c.place_of-place.ensures ∙ ap (position_or_len (λ (k : KeptPair). k.number == c.args.number)) c.as_slice.ensures.value in
    let none : handed_of c.self.inside.kept.items c.args.number ≡ None = find_none (λ (k : KeptPair). k.number == c.args.number) c.self.inside.kept.items c.place_of-place.result is (omega (arith, c.if-place-len.false, c.len.ensures, c.self.inside.kept.ok.0)) in
    let home : pair_of (pairs_state c.self.inside.kept.items c.self.inside.fresh.items) c.args.number ≡ Some (both_wires c.out_first-wires.result) = pair_first c.self.inside.kept.items c.self.inside.fresh.items c.args.number none ∙ c.out_first-wires.ensures.pair in
    ap (λ (ps : List PairState). pair_of ps c.args.number) (sym c.self.view_is) ∙ home

pub returns-clause-scrape : goal.returns-clause-scrape
returns-clause-scrape c =
    let is : c.place_of-place.result ≡ position_or_len (λ (k : KeptPair). k.number == c.args.number) c.self.inside.kept.items = c.place_of-place.ensures ∙ ap (position_or_len (λ (k : KeptPair). k.number == c.args.number)) c.as_slice.ensures.value in
    let none : handed_of c.self.inside.kept.items c.args.number ≡ None = find_none (λ (k : KeptPair). k.number == c.args.number) c.self.inside.kept.items c.place_of-place.result is (omega (arith, c.if-place-len.false, c.len.ensures, c.self.inside.kept.ok.0)) in
    let home : pair_of (pairs_state c.self.inside.kept.items c.self.inside.fresh.items) c.args.number ≡ Some (both_wires c.out_first-wires.result) = pair_first c.self.inside.kept.items c.self.inside.fresh.items c.args.number none ∙ c.out_first-wires.ensures.pair in
    (places_of_pair c.self.inside.kept.items c.self.inside.fresh.items c.args.number (both_wires c.out_first-wires.result) c.self.invariant home).0

pub returns-clause-post : goal.returns-clause-post
returns-clause-post c =
    let is : c.place_of-place.result ≡ position_or_len (λ (k : KeptPair). k.number == c.args.number) c.self.inside.kept.items = c.place_of-place.ensures ∙ ap (position_or_len (λ (k : KeptPair). k.number == c.args.number)) c.as_slice.ensures.value in
    let none : handed_of c.self.inside.kept.items c.args.number ≡ None = find_none (λ (k : KeptPair). k.number == c.args.number) c.self.inside.kept.items c.place_of-place.result is (omega (arith, c.if-place-len.false, c.len.ensures, c.self.inside.kept.ok.0)) in
    let home : pair_of (pairs_state c.self.inside.kept.items c.self.inside.fresh.items) c.args.number ≡ Some (both_wires c.out_first-wires.result) = pair_first c.self.inside.kept.items c.self.inside.fresh.items c.args.number none ∙ c.out_first-wires.ensures.pair in
    (places_of_pair c.self.inside.kept.items c.self.inside.fresh.items c.args.number (both_wires c.out_first-wires.result) c.self.invariant home).1

pub returns-clause-out : goal.returns-clause-out
returns-clause-out c =
    let pair : KeptPair = record { number = c.args.number; wires = None; scrape = c.in_ok-scrape.scrape; post = c.in_ok-scrape.post } in
    let is : c.place_of-place.result ≡ position_or_len (λ (k : KeptPair). k.number == c.args.number) c.self.inside.kept.items = c.place_of-place.ensures ∙ ap (position_or_len (λ (k : KeptPair). k.number == c.args.number)) c.as_slice.ensures.value in
    let none : handed_of c.self.inside.kept.items c.args.number ≡ None = find_none (λ (k : KeptPair). k.number == c.args.number) c.self.inside.kept.items c.place_of-place.result is (omega (arith, c.if-place-len.false, c.len.ensures, c.self.inside.kept.ok.0)) in
    let items : c.push_reserved.new.self.items ≡ c.self.inside.kept.items ++ pair ∷ [] = c.push_reserved.ensures.items ∙ ap (λ (ks : List KeptPair). ks ++ pair ∷ []) c.in_ok-reserve.ensures.items in
    ap (λ (now : List KeptPair). found_pair (pairs_state now c.out_first-wires.new.fresh.items) c.args.number) items
    ∙ found_push c.self.inside.kept.items c.out_first-wires.new.fresh.items c.args.number pair none refl
    ∙ (λ i. Some (pair_seen c.args.number None (addresses_kept (c.in_ok-scrape.ensures.scrape i) (c.in_ok-scrape.ensures.post i))))

pub returns-clause-others : goal.returns-clause-others
returns-clause-others c =
    let pair : KeptPair = record { number = c.args.number; wires = None; scrape = c.in_ok-scrape.scrape; post = c.in_ok-scrape.post } in
    let items : c.push_reserved.new.self.items ≡ c.self.inside.kept.items ++ pair ∷ [] = c.push_reserved.ensures.items ∙ ap (λ (ks : List KeptPair). ks ++ pair ∷ []) c.in_ok-reserve.ensures.items in
    λ m other. ap (λ (now : List KeptPair). found_pair (pairs_state now c.out_first-wires.new.fresh.items) m) items ∙ others_push c.self.inside.kept.items c.self.inside.fresh.items c.out_first-wires.new.fresh.items c.args.number pair refl c.out_first-wires.ensures.others m other
    ∙ ap (λ (ps : List PairState). found_pair ps m) c.self.view_is
