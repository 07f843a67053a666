-- The pairs that are kept in a map, as they are seen.
use Rattle.std.proofs.Common.{◌≡◌, ◌∙◌, ℕ, Bool, true, false, Option, Some, None, cond, refl, sym, ap, subst}
use Rattle.std.specs.Prelude.{◌≢◌, ◌==◌, option_map, nat_lt, IsSome}
use Rattle.std.specs.Option.{option_copied_mut}
use Rattle.std.specs.Borrow.{MutBor}
use Rattle.std.specs.BTreeMap.{BTreeMap, get, is_at, Updates}
use Rattle.std.specs.Ordering.{nat_cmp, is_eq}
use Rattle.std.specs.declared.cmp.Ordering.TheVariants.{Less, Equal, Greater}
use Rattle.std.proofs.lemmas.Bool.{eqb-true, eqb-false}
use Rattle.std.proofs.lemmas.Map.Made.{lookup-map_values}
use Rattle.bridge_ports.specs.Talks.{WireState}
use Rattle.bridge_ports.specs.Worlds.{KeepsOthers}
use Rattle.std_edge.specs.declared.pairs.KeptPair.{KeptPair}
use Rattle.std_edge.specs.Pairs.{pair_in, home_seen, home_in, last_given_in, addresses_of, AreHome, ArePairs}
use Rattle.std_edge.specs.KeptPairs.{kept_seen, pairs_seen}

-- a pair that is kept, with these wires at home
abbrev pub back_at_home : {R : Type 0} → KeptPair R → WireState → WireState → KeptPair R
back_at_home k scrape post = record { wires = Some (scrape, post); scrape = k.scrape; post = k.post }

-- what is seen of the pair of a number
pub seen_pair : {R : Type 0} (kept : BTreeMap ℕ (KeptPair R)) (number : ℕ) → pair_in (pairs_seen kept) number ≡ option_map kept_seen (get nat_cmp kept number)
seen_pair kept number = lookup-map_values kept_seen (is_at (nat_cmp number)) kept.entries

not_equal : (less same : Bool) → same ≡ false → is_eq (cond less Less (cond same Equal Greater)) ≡ false
not_equal true same e = refl
not_equal false same e = subst (λ t. is_eq (cond t Equal Greater) ≡ false) (sym e) refl

-- other numbers compare as others
pub apart : (number other : ℕ) → other ≢ number → is_at (nat_cmp number) other ≡ false
apart number other differs = not_equal (nat_lt number other) (number == other) (eqb-apart (number == other) refl)
  where
    eqb-apart : (t : Bool) → (number == other) ≡ t → t ≡ false
    eqb-apart true e = absurd (differs (sym (eqb-true number other e)))
    eqb-apart false e = refl

some_mapped : {T U : Type 0} (f : T → U) (o : Option T) → IsSome (option_map f o) → IsSome o
some_mapped f None told = absurd (cc told)
some_mapped f (Some x) told = refl

-- what was lent is there where the pair was handed out
pub lent_some : {T : Type 0} (r : Option (MutBor T)) (o : Option T) → option_copied_mut r ≡ o → IsSome o → IsSome r
lent_some {T} r o value told = some_mapped (λ (x : MutBor T). x.now) r (subst IsSome (sym value) told)

pub kept_some : {R : Type 0} (kept : BTreeMap ℕ (KeptPair R)) (number : ℕ) → IsSome (last_given_in (pairs_seen kept) number) → IsSome (get nat_cmp kept number)
kept_some kept number told =
    some_mapped kept_seen (get nat_cmp kept number) (subst IsSome (seen_pair kept number) (some_mapped addresses_of (pair_in (pairs_seen kept) number) told))

-- the wires at home, by what was kept
pub home_kept : {R : Type 0} (kept : BTreeMap ℕ (KeptPair R)) (number : ℕ) (before : Option (KeptPair R)) → before ≡ get nat_cmp kept number
    → home_in (pairs_seen kept) number ≡ home_seen number (option_map kept_seen before)
home_kept kept number before is = ap (home_seen number) (seen_pair kept number ∙ ap (option_map kept_seen) (sym is))

module _ {R : Type 0} (old new : BTreeMap ℕ (KeptPair R)) (number : ℕ) (w : KeptPair R) (changed : Updates nat_cmp old new number (Some w)) where
  pub here_seen : pair_in (pairs_seen new) number ≡ Some (kept_seen w)
  here_seen = seen_pair new number ∙ ap (option_map kept_seen) changed.1

  pub others_seen : KeepsOthers number (pair_in (pairs_seen old)) (pair_in (pairs_seen new))
  others_seen other differs = seen_pair new other ∙ ap (option_map kept_seen) (changed.2 other (apart number other differs)) ∙ sym (seen_pair old other)

  pub still_pairs : ArePairs (pairs_seen old) → AreHome number w.wires → ArePairs (pairs_seen new)
  still_pairs before here other = by_test (other == number) refl
    where
      by_test : (t : Bool) → (other == number) ≡ t → AreHome other (home_in (pairs_seen new) other)
      by_test true e = subst (λ n. AreHome n (home_in (pairs_seen new) n)) (sym (eqb-true other number e)) (subst (λ p. AreHome number (home_seen number p)) (sym here_seen) here)
      by_test false e = subst (λ p. AreHome other (home_seen other p)) (sym (others_seen other (eqb-false other number e))) (before other)

  -- the addresses stay where the pair keeps them
  pub given_stays : last_given_in (pairs_seen old) number ≡ Some (addresses_of (kept_seen w)) → (other : ℕ) → last_given_in (pairs_seen new) other ≡ last_given_in (pairs_seen old) other
  given_stays same other = by_test (other == number) refl
    where
      by_test : (t : Bool) → (other == number) ≡ t → last_given_in (pairs_seen new) other ≡ last_given_in (pairs_seen old) other
      by_test true e = subst (λ n. last_given_in (pairs_seen new) n ≡ last_given_in (pairs_seen old) n) (sym (eqb-true other number e)) (ap (option_map addresses_of) here_seen ∙ sym same)
      by_test false e = ap (option_map addresses_of) (others_seen other (eqb-false other number e))
