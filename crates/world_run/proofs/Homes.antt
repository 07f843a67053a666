-- The pairs of a run: how they are taken, and how they come home.
use Rattle.std.proofs.Common.{◌≡◌, ◌≢◌, ℕ, zero, suc, ◌+◌, ◌<◌, ◌≤◌, ◌⊎◌, inl, inr, Bool, true, false, List, [], ◌∷◌, ◌++◌, length, map, take, get_or, Option, Some, None, refl, sym, ap, subst, ◌∙◌, arith}
use Rattle.std.specs.Prelude.{is_some, IsSome}
use Rattle.std.proofs.lemmas.Bool.{cases_lt, cases_eq}
use Rattle.std.proofs.lemmas.List.{append-nil, append_assoc, length-append, map-append, take_more}
use Rattle.std.proofs.Math.Seq.{get_or-append_seam}
use Rattle.bridge_ports.specs.declared.talk.Address.{Address}
use Rattle.bridge_ports.specs.Targets.{Scraped, IsScraped}
use Rattle.bridge_ports.specs.Talks.{WireState}
use Rattle.bridge_ports.specs.declared.talk.Stage.TheVariants.{Idle}
use Rattle.bridge_ports.specs.Worlds.{Given, IsHome, KeepsOthers}
use Rattle.bridge_ports.specs.Outside.{SeenPair, Outside, at_number, with_pairs, with_pair_out, with_pair_home}
use Rattle.bridge_ports.proofs.Laws.{at_same, at_others}
use Rattle.series_table.specs.HttpTalks.{talking}
use Rattle.series_table.specs.declared.counts.Counts.{Counts}
use Rattle.series_table.specs.Talking.{Followed}
use Rattle.series_table.specs.Records.{Kept, IsNew, IsTrack}
use Rattle.bridge_config.specs.declared.config.Config.{Config}
use Rattle.world_run.specs.Unused.{most_pairs, IsUnused, AreUnused}
use Rattle.world_run.specs.Ends.{KeepsRest}
use Rattle.world_run.specs.Taken.{EachTrack, IsFirstTrack, IsPairOf, IsOut, IsInPlace, IsAway, KeepsOtherPairs}

-- ---- worlds as they are seen

-- once a pair was handed out it is not at home, and has its addresses
pub out_now : (number : ℕ) (given : Given) (o next : Outside) → next ≡ with_pair_out number given o → (next.home number ≡ None) × (next.given number ≡ Some given)
out_now number given o next is = (
  ap (λ (x : Outside). x.home number) is ∙ at_same number None o.home,
  ap (λ (x : Outside). x.given number) is ∙ at_same number (Some given) o.given,
)

-- what changed but pairs is as it was, over two stretches of the way
chained : (a b c : Outside) → b ≡ with_pairs b.home b.given a → c ≡ with_pairs c.home c.given b → c ≡ with_pairs c.home c.given a
chained a b c first then = then ∙ ap (with_pairs c.home c.given) first

-- what changed but one pair and its addresses is as it was
with_own_pairs : (home : ℕ → Option SeenPair) (given : ℕ → Option Given) (o next : Outside) → next ≡ with_pairs home given o → next ≡ with_pairs next.home next.given o
with_own_pairs home given o next is =
    let home_is : home ≡ next.home = sym (ap (λ (x : Outside). x.home) is) in
    let given_is : given ≡ next.given = sym (ap (λ (x : Outside). x.given) is) in
    is ∙ (λ i. with_pairs (home_is i) (given_is i) o)

pub out_keeps : (number : ℕ) (given : Given) (o next : Outside) → next ≡ with_pair_out number given o → KeepsOtherPairs number o next
out_keeps number given o next is = record {
  but_pairs = with_own_pairs (at_number number None o.home) (at_number number (Some given) o.given) o next is;
  homes = λ n other. ap (λ (x : Outside). x.home n) is ∙ at_others number None o.home n other;
  addresses = λ n other. ap (λ (x : Outside). x.given n) is ∙ at_others number (Some given) o.given n other;
}

-- a pair that came home is there, and the others are where they were
pub back_now : (number : ℕ) (pair : SeenPair) (o next : Outside) → next ≡ with_pair_home number pair o → next.home number ≡ Some pair
back_now number pair o next is = ap (λ (x : Outside). x.home number) is ∙ at_same number (Some pair) o.home

pub back_others : (number : ℕ) (pair : SeenPair) (o next : Outside) → next ≡ with_pair_home number pair o → KeepsOthers number o.home next.home
back_others number pair o next is = λ n other. ap (λ (x : Outside). x.home n) is ∙ at_others number (Some pair) o.home n other

back_keeps : (number : ℕ) (pair : SeenPair) (o next : Outside) → next ≡ with_pair_home number pair o → KeepsOtherPairs number o next
back_keeps number pair o next is = record {
  but_pairs = with_own_pairs (at_number number (Some pair) o.home) o.given o next is;
  homes = back_others number pair o next is;
  addresses = λ n other. ap (λ (x : Outside). x.given n) is;
}

both_keep : (number : ℕ) (a b c : Outside) → KeepsOtherPairs number a b → KeepsOtherPairs number b c → KeepsOtherPairs number a c
both_keep number a b c first then = record {
  but_pairs = chained a b c first.but_pairs then.but_pairs;
  homes = λ n other. then.homes n other ∙ first.homes n other;
  addresses = λ n other. then.addresses n other ∙ first.addresses n other;
}

-- a pair that was handed out and came back at once leaves the others as they were
pub out_and_back : (number : ℕ) (given : Given) (pair : SeenPair) (o out next : Outside) → out ≡ with_pair_out number given o → next ≡ with_pair_home number pair out → KeepsOtherPairs number o next
out_and_back number given pair o out next is then = both_keep number o out next (out_keeps number given o out is) (back_keeps number pair out next then)

-- and where nothing changed, they are too
pub same_keeps : (number : ℕ) (o next : Outside) → next ≡ o → KeepsOtherPairs number o next
same_keeps number o next is = subst (KeepsOtherPairs number o) (sym is) (record { but_pairs = refl; homes = λ n other. refl; addresses = λ n other. refl })

-- a wire of this state is at home
pub wire_home : (wire state : WireState) (number : ℕ) (post : Bool) → wire ≡ state → state.stage ≡ Idle → state.place ≡ record { number = number; post = post } → IsHome number post wire
wire_home wire state number post is free place = record { free = ap (λ (w : WireState). w.stage) is ∙ free; place = ap (λ (w : WireState). w.place) is ∙ place }

-- ---- a pair is taken

-- the track that is made of a pair
pub first_track : (c : Config) (place : ℕ) (t : Scraped) (to : Address) (scrape post : WireState) (k : Kept) → IsNew t to c.settings scrape post k → to ≡ c.collector → IsTrack talking k
    → IsHome (place + 1) false scrape → IsHome (place + 1) true post → IsScraped t → IsFirstTrack c place k
first_track c place t to scrape post k new same track scrape_home post_home scraped = record {
  at = record {
    followed = refl;
    scrape_place = ap (λ (w : WireState). w.place) new.scrape_wire ∙ scrape_home.place;
    post_place = ap (λ (w : WireState). w.place) new.post_wire ∙ post_home.place;
    track = track;
  };
  scraped = subst IsScraped (sym (ap (λ (f : Followed). f.target) new.followed)) scraped;
  settings = ap (λ (f : Followed). f.settings) new.followed;
  to = ap (λ (f : Followed). f.to) new.followed ∙ same;
  unvisited = ap (λ (x : Counts). x.visits) new.counts;
  goes_on = new.goes_on;
}

-- its pair is out, with these addresses
pub out_with : (place : ℕ) (given : Given) (o next : Outside) (k : Kept) → next ≡ with_pair_out (place + 1) given o → given ≡ record { scrape = k.followed.target.address; post = k.followed.to } → IsOut next place k
out_with place given o next k is given_is =
    let now = out_now (place + 1) given o next is in
    record { away = now.0; given_is = now.1 ∙ ap (λ (g : Given). Some g) given_is }

-- the tracks of the targets so far, whose pairs are out
pub record AreTaken (c : Config) (at : ℕ) (ks : List Kept) (before now : Outside) : Type 0 where
  pub many : length ks ≡ at
  pub first : EachTrack (IsFirstTrack c) ks
  pub targets : map (λ (k : Kept). k.followed.target) ks ≡ take at c.targets
  pub was : EachTrack (IsPairOf before.home) ks
  pub out : EachTrack (IsOut now) ks
  pub rest : KeepsRest at before now

-- before the first track none is taken
pub none_taken : (c : Config) (ks : List Kept) (o : Outside) → ks ≡ [] → AreTaken c 0 ks o o
none_taken c ks o none = subst (λ (ls : List Kept). AreTaken c 0 ls o o) (sym none) (record {
  many = refl;
  first = λ i d within. absurd (omega (arith, within));
  targets = refl;
  was = λ i d within. absurd (omega (arith, within));
  out = λ i d within. absurd (omega (arith, within));
  rest = record { but_pairs = refl; homes = λ n outside. refl; addresses = λ n outside. refl };
})

each_more : (P : ℕ → Kept → Type 0) (ks : List Kept) (k : Kept) → EachTrack P ks → P (length ks) k → EachTrack P (ks ++ k ∷ [])
each_more P [] k all one zero d within = one
each_more P [] k all one (suc i) d within = absurd (omega (arith, within))
each_more P (l ∷ ks) k all one zero d within = all 0 d (omega arith)
each_more P (l ∷ ks) k all one (suc i) d within = each_more (λ j. P (suc j)) ks k (λ j e less. all (suc j) e (omega (arith, less))) one i d (omega (arith, within))

-- a number outside of more targets is outside of fewer, and not that of one in between
outside_fewer : (m many n : ℕ) → m ≤ many → (n ≡ 0) ⊎ (many < n) → (n ≡ 0) ⊎ (m < n)
outside_fewer m many n few (inl none) = inl none
outside_fewer m many n few (inr above) = inr (omega (arith, few, above))

another : (at many n : ℕ) → at < many → (n ≡ 0) ⊎ (many < n) → n ≢ at + 1
another at many n within (inl none) = λ same. omega (arith, none, same)
another at many n within (inr above) = λ same. omega (arith, within, above, same)

-- the rest stays once the pair of the next number changes
rest_more : (at many : ℕ) (before now next : Outside) → at < many → KeepsRest at before now → KeepsOtherPairs (at + 1) now next → KeepsRest many before next
rest_more at many before now next within rest others = record {
  but_pairs = chained before now next rest.but_pairs others.but_pairs;
  homes = λ n outside. others.homes n (another at many n within outside) ∙ rest.homes n (outside_fewer at many n (omega (arith, within)) outside);
  addresses = λ n outside. others.addresses n (another at many n within outside) ∙ rest.addresses n (outside_fewer at many n (omega (arith, within)) outside);
}

-- the pair of the next number is unused still
pub unused_still : (at : ℕ) (before now : Outside) → AreUnused before.home → KeepsRest at before now → at < most_pairs → IsUnused now.home (at + 1)
unused_still at before now unused rest few =
    let was = unused (at + 1) (omega arith) (omega (arith, few)) in
    (was.0, rest.homes (at + 1) (inr (omega arith)) ∙ was.1, was.2)

-- the tracks that are out stay out while the pair of another number changes
pub still_out : (at : ℕ) (ks : List Kept) (now next : Outside) → length ks ≡ at → EachTrack (IsOut now) ks → KeepsOtherPairs (at + 1) now next → EachTrack (IsOut next) ks
still_out at ks now next many out others = λ i d within.
    let other : i + 1 ≢ at + 1 = λ same. omega (arith, many, within, same) in
    record {
      away = others.homes (i + 1) other ∙ (out i d within).away;
      given_is = others.addresses (i + 1) other ∙ (out i d within).given_is;
    }

-- one track more is taken
one_taken : (c : Config) (at : ℕ) (t : Scraped) (ks : List Kept) (k : Kept) (before now next : Outside) → at < length c.targets → t ≡ get_or c.targets at t → AreTaken c at ks before now
    → IsFirstTrack c at k → k.followed.target ≡ t → IsPairOf now.home at k → IsOut next at k → KeepsOtherPairs (at + 1) now next → AreTaken c (at + 1) (ks ++ k ∷ []) before next
one_taken c at t ks k before now next within is taken first target was out others = record {
  many = length-append ks (k ∷ []) ∙ ap (λ n. n + 1) taken.many;
  first = each_more (IsFirstTrack c) ks k taken.first (subst (λ n. IsFirstTrack c n k) (sym taken.many) first);
  targets = map-append (λ (l : Kept). l.followed.target) ks (k ∷ []) ∙ ap (λ ts. ts ++ k.followed.target ∷ []) taken.targets
      ∙ ap (λ u. take at c.targets ++ u ∷ []) (target ∙ is) ∙ sym (take_more c.targets at t within);
  was = each_more (IsPairOf before.home) ks k taken.was (subst (λ n. IsPairOf before.home n k) (sym taken.many) (sym (taken.rest.homes (at + 1) (inr (omega arith))) ∙ was));
  out = each_more (IsOut next) ks k (still_out at ks now next taken.many taken.out others) (subst (λ n. IsOut next n k) (sym taken.many) out);
  rest = rest_more at (at + 1) before now next (omega arith) taken.rest others;
}

pub next_taken : (c : Config) (at : ℕ) (t : Scraped) (ks more : List Kept) (k : Kept) (before now next : Outside) → more ≡ ks ++ k ∷ [] → at < length c.targets → t ≡ get_or c.targets at t → AreTaken c at ks before now
    → IsFirstTrack c at k → k.followed.target ≡ t → IsPairOf now.home at k → IsOut next at k → KeepsOtherPairs (at + 1) now next → AreTaken c (at + 1) more before next
next_taken c at t ks more k before now next are within is taken first target was out others =
    subst (λ ls. AreTaken c (at + 1) ls before next) (sym are) (one_taken c at t ks k before now next within is taken first target was out others)

-- ---- pairs come home

-- the wires of first tracks, and of those that a run gives back, are in their places
pub first_in_place : (c : Config) (ks : List Kept) → EachTrack (IsFirstTrack c) ks → EachTrack IsInPlace ks
first_in_place c ks first = λ i d within. record { scrape = (first i d within).at.scrape_place; post = (first i d within).at.post_place }

pub some_given : (given : ℕ → Option Given) (n : ℕ) (g : Given) → given n ≡ Some g → IsSome (given n)
some_given given n g is = ap (λ (o : Option Given). is_some o) is

-- pairs that are out are away
pub out_away : (ks ls : List Kept) (o : Outside) → EachTrack (IsOut o) ks → length ls ≡ length ks → EachTrack (IsAway o) ls
out_away ks ls o out same = λ i d within.
    let is = out i d (omega (arith, same, within)) in
    (is.away, some_given o.given (i + 1) _ is.given_is)

-- while wires come home: those of the last tracks are there, and every other pair is as it was
pub record ComesHome (ks left : List Kept) (before now : Outside) : Type 0 where
  pub gone : List Kept
  pub all : ks ≡ left ++ gone
  pub back : (j : ℕ) (d : Kept) → j < length gone → IsPairOf now.home (length left + j) (get_or gone j d)
  pub homes : (n : ℕ) → (n ≤ length left) ⊎ (length ks < n) → now.home n ≡ before.home n
  pub but_homes : now ≡ with_pairs now.home before.given before

pub none_home : (ks : List Kept) (before : Outside) → ComesHome ks ks before before
none_home ks before = record {
  gone = [];
  all = sym (append-nil ks);
  back = λ j d within. absurd (omega (arith, within));
  homes = λ n other. refl;
  but_homes = refl;
}

-- the track that comes home next is the one at its place
pub last_is : (ks rest : List Kept) (k d : Kept) (before now : Outside) → ComesHome ks (rest ++ k ∷ []) before now → (length rest < length ks) × (get_or ks (length rest) d ≡ k)
last_is ks rest k d before now is =
    let all : ks ≡ rest ++ k ∷ is.gone = is.all ∙ append_assoc rest (k ∷ []) is.gone in
    let many : length ks ≡ length rest + length (k ∷ is.gone) = ap length all ∙ length-append rest (k ∷ is.gone) in
    (omega (arith, many), ap (λ ls. get_or ls (length rest) d) all ∙ get_or-append_seam rest k is.gone d)

back_more : (now next : Outside) (rest gone : List Kept) (k : Kept) → ((j : ℕ) (d : Kept) → j < length gone → IsPairOf now.home (length (rest ++ k ∷ []) + j) (get_or gone j d)) → KeepsOthers (length rest + 1) now.home next.home
    → IsPairOf next.home (length rest) k → (j : ℕ) (d : Kept) → j < length (k ∷ gone) → IsPairOf next.home (length rest + j) (get_or (k ∷ gone) j d)
back_more now next rest gone k back others here zero d within =
    let same : length rest ≡ length rest + 0 = omega arith in
    subst (λ n. IsPairOf next.home n k) same here
back_more now next rest gone k back others here (suc j) d within =
    let more : length (rest ++ k ∷ []) ≡ length rest + 1 = length-append rest (k ∷ []) in
    let same : length (rest ++ k ∷ []) + j ≡ length rest + suc j = omega (arith, more) in
    let other : length rest + suc j + 1 ≢ length rest + 1 = λ e. omega (arith, e) in
    others (length rest + suc j + 1) other ∙ subst (λ n. IsPairOf now.home n (get_or gone j d)) same (back j d (omega (arith, within)))

homes_more : (ks rest : List Kept) (k : Kept) (before now next : Outside) → ComesHome ks (rest ++ k ∷ []) before now → KeepsOthers (length rest + 1) now.home next.home → (n : ℕ) → (n ≤ length rest) ⊎ (length ks < n) → next.home n ≡ before.home n
homes_more ks rest k before now next is others n (inl low) =
    let more : length (rest ++ k ∷ []) ≡ length rest + 1 = length-append rest (k ∷ []) in
    let other : n ≢ length rest + 1 = λ e. omega (arith, e, low) in
    others n other ∙ is.homes n (inl (omega (arith, more, low)))
homes_more ks rest k before now next is others n (inr high) =
    let within = (last_is ks rest k k before now is).0 in
    let other : n ≢ length rest + 1 = λ e. omega (arith, e, high, within) in
    others n other ∙ is.homes n (inr high)

-- the tracks that are left end with this one
pub ending : (ks left rest : List Kept) (k : Kept) (before now : Outside) → left ≡ rest ++ k ∷ [] → ComesHome ks left before now → ComesHome ks (rest ++ k ∷ []) before now
ending ks left rest k before now are is = subst (λ ls. ComesHome ks ls before now) are is

-- one pair more is at home
pub one_home : (ks rest : List Kept) (k : Kept) (n : ℕ) (before now next : Outside) (scrape post : WireState) → length rest ≡ n → ComesHome ks (rest ++ k ∷ []) before now → next ≡ with_pair_home (n + 1) (scrape, post) now
    → scrape ≡ k.scrape → post ≡ k.post → ComesHome ks rest before next
one_home ks rest k n before now next scrape post at is changed scrape_is post_is =
    let pair : SeenPair = (scrape, post) in
    let here : IsPairOf next.home n k = back_now (n + 1) pair now next changed ∙ (λ i. Some (scrape_is i, post_is i)) in
    let others_at = subst (λ m. KeepsOthers (m + 1) now.home next.home) (sym at) (back_others (n + 1) pair now next changed) in
    let home_is : at_number (n + 1) (Some pair) now.home ≡ next.home = sym (ap (λ (o : Outside). o.home) changed) in
    let own : next ≡ with_pairs next.home now.given now = changed ∙ ap (λ (home : ℕ → Option SeenPair). with_pairs home now.given now) home_is in
    record {
      gone = k ∷ is.gone;
      all = is.all ∙ append_assoc rest (k ∷ []) is.gone;
      back = back_more now next rest is.gone k is.back others_at (subst (λ m. IsPairOf next.home m k) (sym at) here);
      homes = homes_more ks rest k before now next is others_at;
      but_homes = own ∙ ap (λ (o : Outside). with_pairs next.home o.given o) is.but_homes;
    }

-- the pair of the track that comes home next is away, as it was
pub still_away : (ks rest : List Kept) (k : Kept) (n : ℕ) (before now : Outside) → length rest ≡ n → ComesHome ks (rest ++ k ∷ []) before now → EachTrack (IsAway before) ks → IsAway now n k
still_away ks rest k n before now at is away =
    let more : length (rest ++ k ∷ []) ≡ n + 1 = length-append rest (k ∷ []) ∙ ap (λ m. m + 1) at in
    let was = subst (λ m. IsAway before m k) at (away (length rest) k (last_is ks rest k k before now is).0) in
    (is.homes (n + 1) (inl (omega (arith, more))) ∙ was.0, subst (λ (o : Outside). IsSome (o.given (n + 1))) (sym is.but_homes) was.1)

-- the wires of the track that comes home next are in the places of its number
pub next_in_place : (ks rest : List Kept) (k : Kept) (n : ℕ) (before now : Outside) → length rest ≡ n → ComesHome ks (rest ++ k ∷ []) before now → EachTrack IsInPlace ks → IsInPlace n k
next_in_place ks rest k n before now at is places =
    let last = last_is ks rest k k before now is in
    subst (λ m. IsInPlace m k) at (subst (IsInPlace (length rest)) last.1 (places (length rest) k last.0))

-- where none is left, all came home
pub none_left : (ks left : List Kept) (before now : Outside) → length left ≡ 0 → ComesHome ks left before now → ComesHome ks [] before now
none_left ks [] before now none is = is
none_left ks (k ∷ left) before now none is = absurd (omega (arith, none))

-- all pairs are at home
pub all_home : (ks : List Kept) (before after : Outside) → ComesHome ks [] before after → EachTrack (IsPairOf after.home) ks
all_home ks before after is = λ i d within.
    let less : i < length is.gone = subst (λ ls. i < length ls) is.all within in
    let same : 0 + i ≡ i = omega arith in
    subst (λ ls. IsPairOf after.home i (get_or ls i d)) (sym is.all) (subst (λ n. IsPairOf after.home n (get_or is.gone i d)) same (is.back i d less))

outside_all : (ks : List Kept) (n : ℕ) → (n ≡ 0) ⊎ (length ks < n) → (n ≤ 0) ⊎ (length ks < n)
outside_all ks n (inl none) = inl (omega (arith, none))
outside_all ks n (inr above) = inr above

-- no pair was handed out
pub given_home : (ks : List Kept) (before after : Outside) → ComesHome ks [] before after → after.given ≡ before.given
given_home ks before after is = ap (λ (o : Outside). o.given) is.but_homes

pub home_rest : (ks : List Kept) (before after : Outside) → ComesHome ks [] before after → KeepsRest (length ks) before after
home_rest ks before after is = record {
  but_pairs = is.but_homes ∙ ap (λ (given : ℕ → Option Given). with_pairs after.home given before) (sym (given_home ks before after is));
  homes = λ n outside. is.homes n (outside_all ks n outside);
  addresses = λ n outside. ap (λ (given : ℕ → Option Given). given n) (given_home ks before after is);
}

-- ---- pairs that no visit used

-- a pair that was taken and came home is what it was
came_back : (ks : List Kept) (home final : ℕ → Option SeenPair) → EachTrack (IsPairOf home) ks → EachTrack (IsPairOf final) ks → (i : ℕ) → i < length ks → final (i + 1) ≡ home (i + 1)
came_back [] home final was back i within = absurd (omega (arith, within))
came_back (k ∷ ks) home final was back i within = back i k within ∙ sym (was i k within)

-- all pairs are what they were
pub all_again : (ks : List Kept) (home final : ℕ → Option SeenPair) → EachTrack (IsPairOf home) ks → EachTrack (IsPairOf final) ks → ((n : ℕ) → (n ≡ 0) ⊎ (length ks < n) → final n ≡ home n) → (n : ℕ) → final n ≡ home n
all_again ks home final was back rest zero = rest 0 (inl refl)
all_again ks home final was back rest (suc i) = elim (cases_lt i (length ks)) [
  | inl within ↦ let same : i + 1 ≡ suc i = omega arith in subst (λ n. final n ≡ home n) same (came_back ks home final was back i within)
  | inr above ↦ rest (suc i) (inr (omega (arith, above)))
]

-- where a track could not be made, the pairs of those above it come home
pub none_kept : (c : Config) (at : ℕ) (ks : List Kept) (before now next after : Outside) → AreTaken c at ks before now → KeepsOtherPairs (at + 1) now next → next.home (at + 1) ≡ now.home (at + 1) → EachTrack (IsPairOf after.home) ks → KeepsRest (length ks) next after
    → (n : ℕ) → after.home n ≡ before.home n
none_kept c at ks before now next after taken others same back rest =
    all_again ks before.home after.home taken.was back (λ n outside. rest.homes n outside ∙ unchanged n ∙ taken.rest.homes n (subst (λ m. (n ≡ 0) ⊎ (m < n)) taken.many outside))
  where
    unchanged : (n : ℕ) → next.home n ≡ now.home n
    unchanged n = elim (cases_eq n (at + 1)) [ inl here ↦ subst (λ m. next.home m ≡ now.home m) (sym here) same | inr other ↦ others.homes n other ]

-- the rest is as it was, over two stretches of the way
pub rest_through : (m many : ℕ) (before mid after : Outside) → m ≤ many → KeepsRest many before mid → KeepsRest m mid after → KeepsRest many before after
rest_through m many before mid after few first then = record {
  but_pairs = chained before mid after first.but_pairs then.but_pairs;
  homes = λ n outside. then.homes n (outside_fewer m many n few outside) ∙ first.homes n outside;
  addresses = λ n outside. then.addresses n (outside_fewer m many n few outside) ∙ first.addresses n outside;
}

pub rest_of_failed : (c : Config) (at : ℕ) (ks : List Kept) (before now next after : Outside) → at < length c.targets → AreTaken c at ks before now → KeepsOtherPairs (at + 1) now next → KeepsRest (length ks) next after → KeepsRest (length c.targets) before after
rest_of_failed c at ks before now next after within taken others rest =
    rest_through (length ks) (length c.targets) before next after (omega (arith, within, taken.many)) (rest_more at (length c.targets) before now next within taken.rest others) rest
