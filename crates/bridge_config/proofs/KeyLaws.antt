-- The numbers of a document whose keys have no fault, and its targets.
use Rattle.std.proofs.Common.{◌≡◌, ℕ, suc, ◌+◌, ◌≤◌, true, false, not, List, [], ◌∷◌, length, map, Option, Some, None, unwrap_or, is_none, is_some, codes, refl, sym, ap, subst, ◌∙◌}
use Rattle.std.specs.Int.{is_in_range}
use Rattle.std.specs.List.{AllByRecursion}
use Rattle.std.proofs.lemmas.Bool.{true≢false, not-false, and_parts}
use Rattle.std.proofs.lemmas.Option.{none-some}
use Rattle.label_sets.specs.Lists.{◌>>=◌, some_passes}
use Rattle.label_sets.proofs.Laws.{option_or-none, option_map-none, when_true-none}
use Rattle.plain_words.proofs.Laws.{in_range}
use Rattle.toml.specs.Data.{Data, Items, no_items, item, Members, get_member, as_array, as_table}
use Rattle.bridge_config.specs.declared.key.Form.TheVariants.{Whole}
use Rattle.bridge_config.specs.declared.key_class.KeyClass.{KeyClass}
use Rattle.bridge_config.specs.declared.key_class.KeyClass.TheVariants.{Kind, Missing, Range}
use Rattle.bridge_config.specs.ConfigKeys.{all_keys, job_word, natural_in, is_table, are_tables, item_count, is_whole_in, are_few}
use Rattle.bridge_config.specs.Configurations.{key_number, text_at, with_table, numbered_tables, target_items, target_tables}
use Rattle.bridge_config.specs.KeyFaults.{is_faulty, faulty_key, top_key, is_job, key_within, target_name, target_key_in, key_among, fault_at, class_fault, key_classes, key_fault}
use Rattle.bridge_config.specs.RightConfigs.{AreRightKeys}
use Rattle.bridge_config.specs.Makings.{HaveJobs}
use Rattle.bridge_config.proofs.NoneLaws.{first_none, all_none}

-- ---- classes

-- a class without fault has none at the top and none in targets
class_none : (which : KeyClass) (d : Members) → class_fault which d ≡ None → (top_key which d ≡ None) × (key_among which (target_tables d) ≡ None)
unfolding class_fault
class_none which d e = option_or-none (top_key which d) (key_among which (target_tables d)) (option_map-none (fault_at which) _ e)

-- no key has a fault of this class
abbrev NoKey : KeyClass → Members → Type 0
NoKey which d = AllByRecursion (λ key. faulty_key which d key ≡ None) all_keys

-- a document without fault in its keys has none of any class
pub record AreFaultless (d : Members) : Type 0 where
  pub kinds : NoKey Kind d
  pub missing : NoKey Missing d
  pub ranges : NoKey Range d
  pub jobs : key_among Range (target_tables d) ≡ None

pub faultless : (d : Members) → key_fault d ≡ None → AreFaultless d
unfolding key_fault top_key
faultless d e =
    let all = all_none (λ which. class_fault which d) key_classes e in
    record {
      kinds = all_none (faulty_key Kind d) all_keys (class_none Kind d all.1.0).0;
      missing = all_none (faulty_key Missing d) all_keys (class_none Missing d all.1.1.0).0;
      ranges = all_none (faulty_key Range d) all_keys (class_none Range d all.1.1.1.0).0;
      jobs = (class_none Range d all.1.1.1.0).1;
    }

-- ---- numbers

-- a number that is there and in a range is in it
passed_range : (least most : ℕ) (o : Option ℕ) (fallback : ℕ) → some_passes (is_in_range least most) o ≡ true → is_in_range least most (unwrap_or o fallback) ≡ true
passed_range least most None fallback e = absurd (true≢false (sym e))
passed_range least most (Some n) fallback e = e

-- a key's number is in its range
in_key : (d : Members) (word : List ℕ) (least most : ℕ) (default : Option ℕ) → some_passes (λ v. not (is_whole_in least most v)) (get_member word d) ≡ false
    → (get_member word d ≡ None → is_in_range least most (unwrap_or default 0) ≡ true)
    → is_in_range least most (key_number d (record { word = word; form = Whole least most default })) ≡ true
unfolding key_number
in_key d word least most default range missing = go (get_member word d) refl
  where
    go : (o : Option Data) → get_member word d ≡ o → is_in_range least most (unwrap_or (get_member word d >>= natural_in) (unwrap_or default 0)) ≡ true
    go None e = ap (λ o. is_in_range least most (unwrap_or (o >>= natural_in) (unwrap_or default 0))) e ∙ missing e
    go (Some v) e =
        let fits : not (is_whole_in least most v) ≡ false = sym (ap (λ o. some_passes (λ x. not (is_whole_in least most x)) o) e) ∙ range in
        ap (λ o. is_in_range least most (unwrap_or (o >>= natural_in) (unwrap_or default 0))) e
        ∙ passed_range least most (natural_in v) (unwrap_or default 0) (not-false (is_whole_in least most v) fits)

-- a needed key is there
needed_there : (o : Option Data) → is_none o ≡ false → o ≡ None → ⊥
needed_there None e none = true≢false e
needed_there (Some v) e none = none-some v (sym none)

pub keys_right : (d : Members) → key_fault d ≡ None → AreRightKeys d
unfolding is_faulty
keys_right d e =
    let f = faultless d e in
    let r = f.ranges in
    let needed : is_none (get_member (codes "rounds") d) ≡ false = when_true-none _ _ f.missing.1.0 in
    let interval = in_key d (codes "interval_ms") 0 86400000 (Some 15000) (when_true-none _ _ r.1.1.1.1.1.1.1.0) (λ _. refl) in
    let pages = in_key d (codes "pages") 0 1000 (Some 0) (when_true-none _ _ r.1.1.1.1.1.1.1.1.1.1.0) (λ _. refl) in
    record {
      keep = in_key d (codes "keep") 0 4 (Some 2) (when_true-none _ _ r.1.1.1.0) (λ _. refl);
      tries = in_key d (codes "tries") 1 8 (Some 3) (when_true-none _ _ r.1.1.1.1.0) (λ _. refl);
      limit = in_key d (codes "sample_limit") 1 200000 (Some 20000) (when_true-none _ _ r.1.1.1.1.1.1.0) (λ _. refl);
      max_page = in_key d (codes "max_page") 1024 67108864 (Some 16777216) (when_true-none _ _ r.1.1.1.1.1.0) (λ _. refl);
      interval = (in_range 0 86400000 _ interval).1;
      rounds = in_key d (codes "rounds") 1 1000000 None (when_true-none _ _ r.1.0) (λ none. absurd (needed_there _ needed none));
      scrapers = in_key d (codes "scrapers") 1 4 (Some 4) (when_true-none _ _ r.1.1.0) (λ _. refl);
      pages = (in_range 0 1000 _ pages).1;
    }

-- ---- targets

-- tables without a fault in their ranges have jobs
have_jobs : (tables : List (ℕ × Members)) → key_among Range tables ≡ None → HaveJobs tables
unfolding key_within
have_jobs [] e = tt
have_jobs (t ∷ ts) e =
    let both = first_none (target_key_in Range) t ts e in
    let fits : not (is_job (text_at t.1 job_word)) ≡ false = when_true-none _ job_word (option_map-none (target_name t.0) _ both.0) in
    (not-false (is_job (text_at t.1 job_word)) fits, have_jobs ts both.1)

pub jobs_right : (d : Members) → key_fault d ≡ None → HaveJobs (target_tables d)
jobs_right d e = have_jobs (target_tables d) (faultless d e).jobs

-- where each element is a table, there are as many tables
counted : {A : Type 0} (f : ℕ × Members → A) (n : ℕ) (items : Items) → are_tables items ≡ true → length (map f (numbered_tables n items)) ≡ item_count items
counted f n no_items e = refl
counted f n (item d ds) e =
    let both = and_parts (is_table d) (are_tables ds) e in
    go (as_table d) both.0 (counted f (n + 1) ds both.1)
  where
    go : (o : Option Members) → is_some o ≡ true → length (map f (numbered_tables (n + 1) ds)) ≡ item_count ds
        → length (map f (with_table n o (numbered_tables (n + 1) ds))) ≡ suc (item_count ds)
    go None is rest = absurd (true≢false (sym is))
    go (Some ms) is rest = ap suc rest

-- an array whose elements are 1 to 256 tables
abbrev AreFewTables : Items → Type 0
AreFewTables items = (are_tables items ≡ true) × (is_in_range 1 256 (item_count items) ≡ true)

few_items : (o : Option Items) → some_passes are_tables o ≡ true → some_passes (λ items. is_in_range 1 256 (item_count items)) o ≡ true → AreFewTables (unwrap_or o no_items)
few_items None e f = absurd (true≢false (sym e))
few_items (Some items) e f = (e, f)

few_found : (o : Option Data) → is_none o ≡ false → some_passes (λ v. not (some_passes are_tables (as_array v))) o ≡ false → some_passes (λ v. not (are_few v)) o ≡ false
    → AreFewTables (unwrap_or (o >>= as_array) no_items)
few_found None e kind range = absurd (true≢false e)
few_found (Some v) e kind range = few_items (as_array v) (not-false (some_passes are_tables (as_array v)) kind) (not-false (are_few v) range)

pub few_targets : {A : Type 0} (f : ℕ × Members → A) (d : Members) → key_fault d ≡ None → (1 ≤ length (map f (target_tables d))) × (length (map f (target_tables d)) ≤ 256)
unfolding is_faulty target_tables
few_targets f d e =
    let none = faultless d e in
    let missing : is_none (get_member (codes "target") d) ≡ false = when_true-none _ _ none.missing.1.1.1.1.1.1.1.1.1.1.1.0 in
    let few : AreFewTables (target_items d) = few_found (get_member (codes "target") d) missing
    (when_true-none _ _ none.kinds.1.1.1.1.1.1.1.1.1.1.1.0) (when_true-none _ _ none.ranges.1.1.1.1.1.1.1.1.1.1.1.0) in
    let count = in_range 1 256 (item_count (target_items d)) few.1 in
    let same = counted f 1 (target_items d) few.0 in
    (subst (λ n. 1 ≤ n) (sym same) count.0, subst (λ n. n ≤ 256) (sym same) count.1)
