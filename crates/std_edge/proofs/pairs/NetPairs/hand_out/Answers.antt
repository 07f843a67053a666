use Rattle.std.proofs.Common.{rules, ◌≡◌, ◌∙◌, ℕ, List, Some, IsSome, option_map, ap, sym, subst}
use Rattle.std_edge.specs.Pairs.{PairSeen, home_seen, home_in, last_given_in, addresses_of, AreHome, ArePairs}
use Rattle.std_edge.specs.KeptPairs.{pairs_seen}
use Rattle.std_edge.proofs.PairLaws.{home_kept, here_seen, others_seen, still_pairs}
use Rattle.std_edge.proofs.pairs.NetPairs.hand_out.Goals as goal

pub invariant_of-self : goal.invariant_of-self
invariant_of-self g c =
    let same : pairs_seen c.insert.new.self ≡ pairs_seen c.self.inside.kept = search rules in
    subst ArePairs (sym same) c.self.invariant

pub returns-in_err-before-clause-others : goal.returns-in_err-before-clause-others
returns-in_err-before-clause-others g c =
    let same : pairs_seen c.insert.new.self ≡ c.args.self.now = search rules in
    λ m other. ap (λ (ps : List (ℕ × PairSeen)). home_in ps m) same

pub returns-in_err-before-clause-other_addresses : goal.returns-in_err-before-clause-other_addresses
returns-in_err-before-clause-other_addresses g c =
    let same : pairs_seen c.insert.new.self ≡ c.args.self.now = search rules in
    λ m other. ap (λ (ps : List (ℕ × PairSeen)). last_given_in ps m) same

pub wires_of-requires : goal.wires_of-requires
wires_of-requires g c =
    let told : IsSome (home_in (pairs_seen c.self.inside.kept) c.args.number) = subst (λ (ps : List (ℕ × PairSeen)). IsSome (home_in ps c.args.number)) (sym c.self.view_is) c.requires in
    subst IsSome (home_kept c.self.inside.kept c.args.number c.in_ok-before.before c.in_ok-before.ensures.old) told

pub invariant_of-self-2 : goal.invariant_of-self-2
invariant_of-self-2 g c = still_pairs c.self.inside.kept c.insert.new.self c.args.number _ c.in_ok-before.ensures.updates c.self.invariant tt

pub returns-clause-pair : goal.returns-clause-pair
returns-clause-pair g c =
    ap (λ (ps : List (ℕ × PairSeen)). home_in ps c.args.number) (sym c.self.view_is)
    ∙ home_kept c.self.inside.kept c.args.number c.in_ok-before.before c.in_ok-before.ensures.old
    ∙ c.wires_of.ensures

pub returns-clause-scrape : goal.returns-clause-scrape
returns-clause-scrape g c =
    (subst (AreHome c.args.number) (home_kept c.self.inside.kept c.args.number c.in_ok-before.before c.in_ok-before.ensures.old ∙ c.wires_of.ensures) (c.self.invariant c.args.number)).0

pub returns-clause-post : goal.returns-clause-post
returns-clause-post g c =
    (subst (AreHome c.args.number) (home_kept c.self.inside.kept c.args.number c.in_ok-before.before c.in_ok-before.ensures.old ∙ c.wires_of.ensures) (c.self.invariant c.args.number)).1

pub returns-clause-out : goal.returns-clause-out
returns-clause-out g c = ap (home_seen c.args.number) (here_seen c.self.inside.kept c.insert.new.self c.args.number _ c.in_ok-before.ensures.updates)

pub returns-clause-addresses : goal.returns-clause-addresses
returns-clause-addresses g c =
    ap (option_map addresses_of) (here_seen c.self.inside.kept c.insert.new.self c.args.number _ c.in_ok-before.ensures.updates)
    ∙ (λ i. Some (record { scrape = c.in_ok-scrape.ensures.scrape i; post = c.in_ok-scrape.ensures.post i }))

pub returns-clause-others : goal.returns-clause-others
returns-clause-others g c = λ m other.
    ap (home_seen m) (others_seen c.self.inside.kept c.insert.new.self c.args.number _ c.in_ok-before.ensures.updates m other)
    ∙ ap (λ (ps : List (ℕ × PairSeen)). home_in ps m) c.self.view_is

pub returns-clause-other_addresses : goal.returns-clause-other_addresses
returns-clause-other_addresses g c = λ m other.
    ap (option_map addresses_of) (others_seen c.self.inside.kept c.insert.new.self c.args.number _ c.in_ok-before.ensures.updates m other)
    ∙ ap (λ (ps : List (ℕ × PairSeen)). last_given_in ps m) c.self.view_is
