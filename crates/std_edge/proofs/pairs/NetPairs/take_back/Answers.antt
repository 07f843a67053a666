use Rattle.std.proofs.Common.{◌≡◌, ◌∙◌, ℕ, List, Some, IsSome, option_map, ap, sym, subst}
use Rattle.std.specs.Option.{option_copied_mut}
use Rattle.std.specs.BTreeMap.{get}
use Rattle.std.specs.Ordering.{nat_cmp}
use Rattle.std_edge.specs.Pairs.{PairSeen, home_seen, home_in, last_given_in, addresses_of}
use Rattle.std_edge.specs.KeptPairs.{kept_seen, pairs_seen}
use Rattle.std_edge.proofs.PairLaws.{back_at_home, seen_pair, kept_some, lent_some, here_seen, others_seen, still_pairs, given_stays}
use Rattle.std_edge.proofs.pairs.NetPairs.take_back.Goals as goal

pub unwrap-requires : goal.unwrap-requires
unwrap-requires g c =
    let told : IsSome (last_given_in (pairs_seen c.self.inside.kept) c.args.number) = subst (λ (ps : List (ℕ × PairSeen)). IsSome (last_given_in ps c.args.number)) (sym c.self.view_is) c.requires.given in
    lent_some c.get_mut.result _ c.get_mut.ensures.value (kept_some c.self.inside.kept c.args.number told)

pub invariant_of-self : goal.invariant_of-self
invariant_of-self g c =
    let told : IsSome (last_given_in (pairs_seen c.self.inside.kept) c.args.number) = subst (λ (ps : List (ℕ × PairSeen)). IsSome (last_given_in ps c.args.number)) (sym c.self.view_is) c.requires.given in
    let w = back_at_home c.unwrap.result.now c.args.scrape c.args.post in
    still_pairs c.self.inside.kept (c.get_mut.follows.lender w) c.args.number w ((c.get_mut.follows.holds w).3 (kept_some c.self.inside.kept c.args.number told)) c.self.invariant (c.requires.scrape, c.requires.post)

pub returns-clause-back : goal.returns-clause-back
returns-clause-back g c =
    let told : IsSome (last_given_in (pairs_seen c.self.inside.kept) c.args.number) = subst (λ (ps : List (ℕ × PairSeen)). IsSome (last_given_in ps c.args.number)) (sym c.self.view_is) c.requires.given in
    let w = back_at_home c.unwrap.result.now c.args.scrape c.args.post in
    ap (home_seen c.args.number) (here_seen c.self.inside.kept (c.get_mut.follows.lender w) c.args.number w ((c.get_mut.follows.holds w).3 (kept_some c.self.inside.kept c.args.number told)))

pub returns-clause-others : goal.returns-clause-others
returns-clause-others g c =
    let told : IsSome (last_given_in (pairs_seen c.self.inside.kept) c.args.number) = subst (λ (ps : List (ℕ × PairSeen)). IsSome (last_given_in ps c.args.number)) (sym c.self.view_is) c.requires.given in
    let w = back_at_home c.unwrap.result.now c.args.scrape c.args.post in
    λ m other. ap (home_seen m) (others_seen c.self.inside.kept (c.get_mut.follows.lender w) c.args.number w ((c.get_mut.follows.holds w).3 (kept_some c.self.inside.kept c.args.number told)) m other)
    ∙ ap (λ (ps : List (ℕ × PairSeen)). home_in ps m) c.self.view_is

pub returns-clause-given : goal.returns-clause-given
returns-clause-given g c =
    let told : IsSome (last_given_in (pairs_seen c.self.inside.kept) c.args.number) = subst (λ (ps : List (ℕ × PairSeen)). IsSome (last_given_in ps c.args.number)) (sym c.self.view_is) c.requires.given in
    let w = back_at_home c.unwrap.result.now c.args.scrape c.args.post in
    let was : Some c.unwrap.result.now ≡ get nat_cmp c.self.inside.kept c.args.number = sym (ap option_copied_mut c.unwrap.ensures) ∙ c.get_mut.ensures.value in
    let same : last_given_in (pairs_seen c.self.inside.kept) c.args.number ≡ Some (addresses_of (kept_seen c.unwrap.result.now)) = ap (option_map addresses_of) (seen_pair c.self.inside.kept c.args.number ∙ ap (option_map kept_seen) (sym was)) in
    let all : last_given_in (pairs_seen (c.get_mut.follows.lender w)) ≡ last_given_in (pairs_seen c.self.inside.kept) = λ i m. given_stays c.self.inside.kept (c.get_mut.follows.lender w) c.args.number w ((c.get_mut.follows.holds w).3 (kept_some c.self.inside.kept c.args.number told)) same m i in
    all ∙ ap last_given_in c.self.view_is
