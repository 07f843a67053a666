-- What every configuration keeps, by the classes of faults that it doesn't have.
use Rattle.std.proofs.Common.{◌≡◌, ◌≢◌, ◌==◌, if◌then◌else◌, ℤ, pos, negsuc, ℕ, zero, suc, ◌+◌, ◌*◌, ◌^◌, ◌≤◌, Bool, true, false, not, ◌&&◌, List, [], ◌∷◌, ◌++◌, map, length, Option, Some, None, option_map, unwrap_or, is_none, is_some, codes, bytes_eq, refl, sym, ap, subst, ◌∙◌, arith}
use Rattle.std.specs.Prelude.{IfSome, IsTrue}
use Rattle.std.specs.List.{AllByRecursion, IsDistinct}
use Rattle.std.specs.Option.{option_or}
use Rattle.std.proofs.lemmas.Bool.{true≢false, ltb-false, not-false, and_parts, or_parts}
use Rattle.std.proofs.lemmas.Bool.Decides.{nat_tests}
use Rattle.std.proofs.lemmas.List.Folds.{list_any-append}
use Rattle.std.proofs.lemmas.Option.{none-some}
use Rattle.std.proofs.lemmas.Slice.Eq.{bytes_eq-Decides}
use Rattle.label_sets.specs.Lists.{◌>>=◌, when_true, first_some, some_passes}
use Rattle.label_sets.proofs.Laws.{option_or-none, option_map-none, when_true-none}
use Rattle.plain_words.specs.Places.{place_in, is_port, is_visible_word}
use Rattle.plain_words.proofs.Laws.{bind_some, when_some}
use Rattle.plain_words.proofs.Laws.{place_spelled}
use Rattle.bridge_ports.specs.declared.talk.Address as Addresses
use Rattle.bridge_ports.specs.Targets.{Scraped, have_same_names}
use Rattle.toml.specs.Data.{Data, Members, get_member, as_str, as_integer}
use Rattle.url.specs.Parts.{Parts}
use Rattle.url.specs.Parser.{parse_url}
use Rattle.bridge_config.specs.declared.config.Config.{Config}
use Rattle.bridge_config.specs.declared.fault.ConfigFault.TheVariants.{Address, Twice, Product}
use Rattle.bridge_config.specs.declared.fault.Product.TheVariants.{Samples, Pages, Held}
use Rattle.bridge_config.specs.ConfigKeys.{collector_key, honor_key, pages_key, listen_key, job_word, url_word, natural_of, natural_in, is_place}
use Rattle.bridge_config.specs.Addresses.{url_host, port_of, is_host, is_bare, is_url_address, url_in, right_url, address_of, is_pathless, collector_of}
use Rattle.bridge_config.specs.Configurations.{key_number, key_truth, text_at, target_tables, no_address, collector_in, table_target, place_address, door_in, config_of}
use Rattle.bridge_config.specs.KeyFaults.{is_not_zero, is_faulty, is_job, key_fault}
use Rattle.bridge_config.specs.ConfigFaults.{wrong_address, wrong_target, address_fault, is_named_in, first_repeated, twice_fault, too_large, product_fault, limits_fault, config_fault}
use Rattle.bridge_config.specs.RightConfigs.{IsRightAddress, IsRightConfigTarget, AreRightProducts, AreRightNumbers, IsRightConfig, NumbersAreRight, ConfigsAreRight}
use Rattle.bridge_config.specs.Makings.{HaveJobs}
use Rattle.bridge_config.proofs.NoneLaws.{first_none}
use Rattle.bridge_config.proofs.KeyLaws.{faultless, keys_right, jobs_right, few_targets}

-- ---- classes

-- a document without fault has none in its keys, its addresses and what it says
record IsFaultless (d : Members) : Type 0 where
  keys : key_fault d ≡ None
  collector : wrong_address (0, text_at d collector_key.word) ≡ None
  targets : first_some wrong_target (target_tables d) ≡ None
  names : first_repeated 1 [] (config_of d).targets ≡ None
  products : product_fault (config_of d) ≡ None

whole_faultless : (d : Members) → config_fault d ≡ None → IsFaultless d
unfolding config_fault address_fault limits_fault twice_fault
whole_faultless d e =
    let a = option_or-none (key_fault d) (option_or (address_fault d) (limits_fault (config_of d))) e in
    let b = option_or-none (address_fault d) (limits_fault (config_of d)) a.1 in
    let c = option_or-none (twice_fault (config_of d).targets) (product_fault (config_of d)) b.1 in
    let urls = option_or-none (wrong_address (0, text_at d collector_key.word)) (first_some wrong_target (target_tables d)) (option_map-none Address _ b.0) in
    record { keys = a.0; collector = urls.0; targets = urls.1; names = option_map-none Twice _ c.0; products = c.1 }

-- ---- numbers and products

products_right : (c : Config) → product_fault c ≡ None → AreRightProducts c
unfolding product_fault
products_right c e =
    let samples = length c.targets * c.settings.limit in
    let pages = c.scrapers * c.settings.max_page in
    let held = length c.targets * c.settings.max_page in
    let some = option_map-none Product _ e in
    let a = option_or-none (too_large Samples 2000000 samples) (option_or (too_large Pages (2 ^ 27) pages) (too_large Held (2 ^ 32) held)) some in
    let b = option_or-none (too_large Pages (2 ^ 27) pages) (too_large Held (2 ^ 32) held) a.1 in
    record {
      samples = ltb-false 2000000 samples (when_true-none _ Samples a.0);
      pages = ltb-false (2 ^ 27) pages (when_true-none _ Pages b.0);
      held = ltb-false (2 ^ 32) held (when_true-none _ Held b.1);
    }

numbers_right : (d : Members) → config_fault d ≡ None → AreRightNumbers (config_of d)
unfolding config_of
numbers_right d e =
    let k = keys_right d (whole_faultless d e).keys in
    let interval = k.interval in
    record {
      settings = record { keep = k.keep; tries = k.tries; limit = k.limit; max_page = k.max_page; interval = omega (arith, interval) };
      rounds = k.rounds;
      scrapers = k.scrapers;
      pages = k.pages;
    }

pub numbers_are_right : NumbersAreRight
numbers_are_right bytes config is =
    subst (λ c. AreRightNumbers c × AreRightProducts c) (sym is.says)
    (numbers_right is.document is.without_fault, products_right (config_of is.document) (whole_faultless is.document is.without_fault).products)

-- ---- addresses

-- a text with a URL that is an address
record HasUrl (text : List ℕ) : Type 0 where
  url : Parts
  is : right_url text ≡ Some url
  right : is_url_address url ≡ true

-- a value that passed its test
tested : {A : Type 0} (test : A → Bool) (o : Option A) → is_none (elim o as (λ _. Option A) [ Some u ↦ when_true (test u) u | None ↦ None ]) ≡ false
    → (u : A) × (elim o as (λ _. Option A) [ Some u ↦ when_true (test u) u | None ↦ None ] ≡ Some u) × (test u ≡ true)
tested test None there = absurd (true≢false there)
tested {A} test (Some u) there = go (test u) refl there
  where
    go : (b : Bool) → test u ≡ b → is_none (when_true b u) ≡ false → (v : A) × (when_true (test u) u ≡ Some v) × (test v ≡ true)
    go true is there = (u, ap (λ b. when_true b u) is, is)
    go false is there = absurd (true≢false there)

has_url : (text : List ℕ) → is_none (right_url text) ≡ false → HasUrl text
unfolding right_url
has_url text there = let found = tested is_url_address (url_in (parse_url None text)) there in record { url = found.0; is = found.1; right = found.2 }

-- a URL that is there is an address
pub right_is : (text : List ℕ) (u : Parts) → right_url text ≡ Some u → is_url_address u ≡ true
unfolding right_url
right_is text u e = go (url_in (parse_url None text)) e
  where
    go : (o : Option Parts) → elim o as (λ _. Option Parts) [ Some v ↦ when_true (is_url_address v) v | None ↦ None ] ≡ Some u → is_url_address u ≡ true
    go None is = absurd (none-some u is)
    go (Some v) is = let both = when_some (is_url_address v) v u is in ap is_url_address (sym both.1) ∙ both.0

-- the host and the port of such a URL
pub url_right : (u : Parts) → is_url_address u ≡ true → (is_host (url_host u) ≡ true) × (is_port (port_of u) ≡ true)
unfolding is_url_address
url_right u e =
    let a = and_parts (bytes_eq u.scheme (codes "http")) (is_host (url_host u) && (is_port (port_of u) && is_bare u)) e in
    let b = and_parts (is_host (url_host u)) (is_port (port_of u) && is_bare u) a.1 in
    (b.0, (and_parts (is_port (port_of u)) (is_bare u) b.1).0)

collector_right : (u : Parts) → is_url_address u ≡ true → IsRightAddress (collector_of u)
collector_right u e = go (is_pathless u)
  where
    go : (b : Bool) → IsRightAddress (if b then record { host = url_host u; port = port_of u; path = codes "/v1/metrics" } else address_of u)
    go true = record { host = (url_right u e).0; port = (url_right u e).1 }
    go false = record { host = (url_right u e).0; port = (url_right u e).1 }

found_collector : (d : Members) → wrong_address (0, text_at d collector_key.word) ≡ None → IsRightAddress (collector_in d)
found_collector d e =
    let found = has_url (text_at d collector_key.word) (when_true-none _ _ e) in
    subst (λ o. IsRightAddress (unwrap_or (option_map collector_of o) no_address)) (sym found.is) (collector_right found.url found.right)

target_right : (honor : Bool) (found : ℕ × Members) → wrong_target found ≡ None → IsTrue (is_job (text_at found.1 job_word)) → IsRightConfigTarget (table_target honor found)
target_right honor found e job =
    let url = has_url (text_at found.1 url_word) (when_true-none _ _ e) in
    record {
      job = job;
      instance = refl;
      address = subst (λ o. IsRightAddress (unwrap_or (option_map address_of o) no_address)) (sym url.is)
          (record { host = (url_right url.url url.right).0; port = (url_right url.url url.right).1 });
    }

targets_right : (honor : Bool) (tables : List (ℕ × Members)) → first_some wrong_target tables ≡ None → HaveJobs tables → AllByRecursion IsRightConfigTarget (map (table_target honor) tables)
targets_right honor [] e jobs = tt
targets_right honor (t ∷ ts) e jobs = let both = first_none wrong_target t ts e in (target_right honor t both.0 jobs.0, targets_right honor ts both.1 jobs.1)

-- ---- the door

-- an address to serve at
abbrev IsDoor : Addresses.Address → Type 0
IsDoor a = IsTrue (is_visible_word 255 a.host) × IsTrue (is_port a.port)

door_right : (d : Members) → IfSome (door_in d) IsDoor
unfolding door_in
door_right d = go (get_member listen_key.word d >>= as_str >>= place_in 255) refl
  where
    go : (o : Option (List ℕ × ℕ)) → (get_member listen_key.word d >>= as_str >>= place_in 255) ≡ o → IfSome (option_map place_address o) IsDoor
    go None e = tt
    go (Some found) e =
        let text = bind_some (get_member listen_key.word d >>= as_str) (place_in 255) found e in
        let place = place_spelled 255 text.0 found text.2 in
        (place.1, place.2)

-- a number from 1 isn't 0
nonzero : (n : ℕ) → 1 ≤ n → not (n == 0) ≡ true
nonzero zero some = absurd (omega (arith, some))
nonzero (suc n) some = grind (arith, nat_tests)

-- an integer from 1 isn't 0
nonzero_integer : (o : Option ℤ) → 1 ≤ unwrap_or (o >>= natural_of) 0 → some_passes (λ z. not (some_passes (λ n. n == 0) (natural_of z))) o ≡ true
nonzero_integer None some = absurd (omega (arith, some))
nonzero_integer (Some (pos n)) some = nonzero n some
nonzero_integer (Some (negsuc n)) some = absurd (omega (arith, some))

-- a number of pages that isn't 0 asks for a door
asks : (o : Option Data) → 1 ≤ unwrap_or (o >>= natural_in) 0 → some_passes is_not_zero o ≡ true
asks None some = absurd (omega (arith, some))
asks (Some v) some = nonzero_integer (as_integer v) some

-- what is there maps to something
some_mapped : {A B : Type 0} (f : A → B) (o : Option A) → is_some o ≡ true → option_map f o ≢ None
some_mapped f None is none = true≢false (sym is)
some_mapped f (Some x) is none = none-some (f x) (sym none)

-- a text that is a place gives a door
text_door : (o : Option (List ℕ)) → some_passes (λ text. is_some (place_in 255 text)) o ≡ true → option_map place_address (o >>= place_in 255) ≢ None
text_door None is none = true≢false (sym is)
text_door (Some text) is none = some_mapped place_address (place_in 255 text) is none

-- a place that is there gives a door
gives_door : (o : Option Data) → is_none o ≡ false → some_passes (λ v. not (is_place v)) o ≡ false → option_map place_address (o >>= as_str >>= place_in 255) ≢ None
gives_door None there range none = true≢false there
gives_door (Some v) there range none = text_door (as_str v) (not-false (is_place v) range) none

-- where both of two can't hold and the first does, the second doesn't
second_fails : (a b : Bool) → (a && b) ≡ false → a ≡ true → b ≡ false
second_fails true b e is = e
second_fails false b e is = absurd (true≢false (sym is))

some_door : (d : Members) → key_fault d ≡ None → 1 ≤ key_number d pages_key → door_in d ≢ None
unfolding is_faulty key_number door_in
some_door d e pages =
    let none = faultless d e in
    let missing = second_fails (some_passes is_not_zero (get_member pages_key.word d)) (is_none (get_member listen_key.word d)) (when_true-none _ _ none.missing.1.1.1.1.1.1.1.1.1.0)
    (asks (get_member pages_key.word d) pages) in
    gives_door (get_member listen_key.word d) missing (when_true-none _ _ none.ranges.1.1.1.1.1.1.1.1.1.0)

-- ---- names

-- texts are the same the other way round
bytes_turned : (a b : List ℕ) → bytes_eq a b ≡ true → bytes_eq b a ≡ true
bytes_turned a b e = (bytes_eq-Decides b a).1 (sym ((bytes_eq-Decides a b).0 e))

-- two targets without the same names have none the other way round
names_turned : (a b : Scraped) → have_same_names a b ≡ false → have_same_names b a ≡ false
names_turned a b e = go (have_same_names b a) refl
  where
    go : (x : Bool) → have_same_names b a ≡ x → have_same_names b a ≡ false
    go false is = is
    go true is =
        let both = and_parts (bytes_eq b.job a.job) (bytes_eq b.instance a.instance) is in
        let same : have_same_names a b ≡ true = ap (λ x. x && bytes_eq a.instance b.instance) (bytes_turned b.job a.job both.0) ∙ bytes_turned b.instance a.instance both.1 in
        absurd (true≢false (sym same ∙ e))

-- the first of some targets has other names than those before it, and so have the others
repeated_step : (n : ℕ) (earlier : List Scraped) (t : Scraped) (ts : List Scraped) → first_repeated n earlier (t ∷ ts) ≡ None
    → (is_named_in earlier t ≡ false) × (first_repeated (n + 1) (earlier ++ t ∷ []) ts ≡ None)
repeated_step n earlier t ts e =
    let both = option_or-none (when_true (is_named_in earlier t) n) (first_repeated (n + 1) (earlier ++ t ∷ []) ts) e in
    (when_true-none _ n both.0, both.1)

-- none has the names of one of those before
all_new : (n : ℕ) (earlier ts : List Scraped) → first_repeated n earlier ts ≡ None → AllByRecursion (λ t. is_named_in earlier t ≡ false) ts
all_new n earlier [] e = tt
all_new n earlier (t ∷ ts) e =
    let both = repeated_step n earlier t ts e in
    (both.0, weaken ts (all_new (n + 1) (earlier ++ t ∷ []) ts both.1))
  where
    weaken : (us : List Scraped) → AllByRecursion (λ u. is_named_in (earlier ++ t ∷ []) u ≡ false) us → AllByRecursion (λ u. is_named_in earlier u ≡ false) us
    weaken [] all = tt
    weaken (u ∷ us) all = ((or_parts (is_named_in earlier u) (is_named_in (t ∷ []) u) (sym (list_any-append (have_same_names u) earlier (t ∷ [])) ∙ all.0)).0, weaken us all.1)

-- none has the names of one that stands right before
other_names : (earlier : List Scraped) (t : Scraped) (us : List Scraped) → AllByRecursion (λ u. is_named_in (earlier ++ t ∷ []) u ≡ false) us → AllByRecursion (λ u. have_same_names t u ≡ false) us
other_names earlier t [] all = tt
other_names earlier t (u ∷ us) all =
    let last = (or_parts (is_named_in earlier u) (is_named_in (t ∷ []) u) (sym (list_any-append (have_same_names u) earlier (t ∷ [])) ∙ all.0)).1 in
    (names_turned u t (or_parts (have_same_names u t) false last).0, other_names earlier t us all.1)

distinct : (n : ℕ) (earlier ts : List Scraped) → first_repeated n earlier ts ≡ None → IsDistinct have_same_names ts
unfolding IsDistinct
distinct n earlier [] e = tt
distinct n earlier (t ∷ ts) e =
    let both = repeated_step n earlier t ts e in
    (other_names earlier t ts (all_new (n + 1) (earlier ++ t ∷ []) ts both.1), distinct (n + 1) (earlier ++ t ∷ []) ts both.1)

-- ---- the whole

-- there are few targets
pub config_few : (d : Members) → key_fault d ≡ None → length (config_of d).targets ≤ 256
unfolding config_of
config_few d e = (few_targets (table_target (key_truth d honor_key)) d e).1

config_right : (d : Members) → config_fault d ≡ None → IsRightConfig (config_of d)
unfolding config_of
config_right d e =
    let f = whole_faultless d e in
    let honor = key_truth d honor_key in
    let few = few_targets (table_target honor) d f.keys in
    record {
      numbers = numbers_right d e;
      products = products_right (config_of d) f.products;
      collector = found_collector d f.collector;
      door = door_right d;
      some_door = some_door d f.keys;
      some_target = few.0;
      few_targets = few.1;
      targets = targets_right honor (target_tables d) f.targets (jobs_right d f.keys);
      names = distinct 1 [] (config_of d).targets f.names;
    }

pub configs_are_right : ConfigsAreRight
configs_are_right bytes config is = subst IsRightConfig (sym is.says) (config_right is.document is.without_fault)
