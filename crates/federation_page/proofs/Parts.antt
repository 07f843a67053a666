-- What each target gives a family of the page.
use Rattle.std.proofs.Common.{◌≡◌, ℕ, ◌+◌, ◌≤◌, Bool, true, false, cond, List, [], ◌∷◌, ◌++◌, map, filter, filter_map, length, codes, Option, Some, None, refl, sym, ap, subst, ◌∙◌, arith, append-nil}
use Rattle.std.specs.Prelude.{unwrap_or, if◌then◌else◌}
use Rattle.std.specs.List.{flat_map, cons_option, AllByRecursion, IsDistinct}
use Rattle.std.specs.Str.{bytes_eq, is_utf8}
use Rattle.std.specs.Cmp.Lexicographic.{bytes_decides}
use Rattle.std.proofs.lemmas.List.{length-append}
use Rattle.std.proofs.lemmas.List.Elements.{recursion_from_All}
use Rattle.label_sets.specs.declared.kind.Kind.{Kind}
use Rattle.label_sets.specs.declared.label_set.LabelSet.{LabelSet}
use Rattle.label_sets.specs.Names.{is_metric_name}
use Rattle.label_sets.specs.Labels.{label_sets_eq}
use Rattle.label_sets.proofs.Laws.{all-front, all-behind, filter-passes}
use Rattle.page_model.specs.declared.format.Format.{Format}
use Rattle.page_model.specs.declared.format.Format.TheVariants.{OpenMetrics}
use Rattle.page_model.specs.declared.format.Treatment.TheVariants.{Scraped, Written}
use Rattle.page_model.specs.declared.item.Item.{Item}
use Rattle.page_model.specs.declared.item.Item.TheVariants as items
use Rattle.page_model.specs.declared.item.Sample.{Sample}
use Rattle.page_model.specs.declared.page.Reading.{Reading}
use Rattle.page_model.specs.declared.page.Family.{Family}
use Rattle.page_model.specs.declared.event.Shown.{Shown}
use Rattle.page_model.specs.Written.{line_limit}
use Rattle.page_model.specs.OpenItems.{kind_word}
use Rattle.page_model.specs.Owners.{group_of}
use Rattle.page_model.specs.Readings.{key_name}
use Rattle.page_model.specs.Rules.{is_unit}
use Rattle.open_writing.specs.Writing.{reading_samples, family_samples, item_unless_empty, family_items, item_text, sample_text, escaped}
use Rattle.open_writing.specs.FamilyKeys.{FamilyKey, family_key, is_one_family}
use Rattle.open_writing.specs.Forms.{IsFormedReading, IsFormedFamily, is_unit_of, label_sets_of, stand_together}
use Rattle.open_writing.specs.OpenForms.{IsBareReading}
use Rattle.writing_laws.specs.WritingLaws.{most_scraped_line}
use Rattle.writing_laws.proofs.Laws.{kind_length}
use Rattle.federation_page.specs.Candidates.{with_target, federated_kind, federated_name, federated_reading, renamed_family, candidate_of, stays, is_left_out}
use Rattle.federation_page.specs.Gathering.{IsTargetName}
use Rattle.federation_page.proofs.Steps.{one_key}
use Rattle.federation_page.proofs.TargetLabels.{AreOwn}
use Rattle.federation_page.proofs.FederatedNames.{federated_metric, federated_unit, name_shorter, one_source}
use Rattle.federation_page.proofs.FederatedReadings.{most_target_bytes}
use Rattle.federation_page.proofs.FormedReadings.{formed_reading, bare_reading, short_reading, not_empty}
use Rattle.federation_page.proofs.Groups.{together_made, distinct_made, own_group, target_group, federated_group, target_once}

abbrev pub IsShort : ℕ → Item → Type 0
IsShort most item = length (item_text item) ≤ most

-- ---- what a target gives

-- a reading of this target, in a family of this kind, name and unit
pub record IsOfTarget (kind : Kind) (name unit : List ℕ) (s : Shown) (r : Reading) : Type 0 where
  pub formed : IsFormedReading OpenMetrics Written kind name unit r
  pub bare : IsBareReading r
  pub own : LabelSet
  pub are_own : AreOwn own
  pub group : group_of kind name r.key.labels ≡ with_target s.job s.instance own
  pub short : AllByRecursion (λ (t : Sample). length (sample_text t) ≤ most_scraped_line + most_target_bytes) (reading_samples kind name r)

-- readings of this target, as a family has them
pub record AreOfTarget (kind : Kind) (name unit : List ℕ) (s : Shown) (rs : List Reading) : Type 0 where
  pub each : AllByRecursion (IsOfTarget kind name unit s) rs
  pub distinct : IsDistinct label_sets_eq (label_sets_of rs)
  pub together : stand_together (map (group_of kind name) (label_sets_of rs)) ≡ true

-- the lines of a family in front of its samples, and what they say
pub record IsHead (g : Family) : Type 0 where
  pub name : is_metric_name g.name ≡ true
  pub help : is_utf8 g.help ≡ true
  pub unit : is_unit_of g.kind g.name g.unit ≡ true
  pub kind_line : IsShort (line_limit Written) (items.KindOf g.name g.kind)
  pub unit_line : AllByRecursion (IsShort (line_limit Written)) (item_unless_empty (items.Unit g.name) g.unit)
  pub help_line : AllByRecursion (IsShort (line_limit Written)) (item_unless_empty (items.Help g.name) g.help)

-- a family with the readings that stay
abbrev pub kept_family : Family → Family
kept_family f = record f { readings = filter (stays f.kind) f.readings }

-- a family of a scraped page of this format, with the readings that stay
pub record IsSource (form : Format) (f : Family) : Type 0 where
  pub formed : IsFormedFamily form Scraped (kept_family f)
  pub lines : AllByRecursion (IsShort most_scraped_line) (family_items (kept_family f))

-- the family under this key name, with these readings
abbrev named : Shown → Family → List ℕ → List Reading → Family
named s f key rs = record { name = federated_name f.kind key; kind = federated_kind f.kind key; help = f.help; unit = f.unit; readings = map (federated_reading s (federated_kind f.kind key) (federated_name f.kind key)) rs }

-- ---- heads

kind_bytes : (name : List ℕ) (kind : Kind) → length (item_text (items.KindOf name kind)) ≡ length name + length (kind_word kind) + 8
unfolding item_text
kind_bytes name kind =
    let a = length-append (codes "# TYPE " ++ name ++ codes " ") (kind_word kind) in let b = length-append (codes "# TYPE " ++ name) (codes " ") in let c = length-append (codes "# TYPE ") name in omega (arith, a, b, c)

unit_bytes : (name unit : List ℕ) → length (item_text (items.Unit name unit)) ≡ length name + length unit + 8
unfolding item_text
unit_bytes name unit =
    let a = length-append (codes "# UNIT " ++ name ++ codes " ") unit in let b = length-append (codes "# UNIT " ++ name) (codes " ") in let c = length-append (codes "# UNIT ") name in omega (arith, a, b, c)

help_bytes : (name text : List ℕ) → length (item_text (items.Help name text)) ≡ length name + length (escaped text) + 8
unfolding item_text
help_bytes name text =
    let a = length-append (codes "# HELP " ++ name ++ codes " ") (escaped text) in let b = length-append (codes "# HELP " ++ name) (codes " ") in let c = length-append (codes "# HELP ") name in omega (arith, a, b, c)

unless_empty : (make other : List ℕ → Item) (text : List ℕ) → (length (item_text (make text)) ≤ most_scraped_line → length (item_text (other text)) ≤ line_limit Written)
    → AllByRecursion (IsShort most_scraped_line) (item_unless_empty make text) → AllByRecursion (IsShort (line_limit Written)) (item_unless_empty other text)
unless_empty make other text carry h = go (is_unit text) h
  where
    go : (b : Bool) → AllByRecursion (IsShort most_scraped_line) (if b then make text ∷ [] else []) → AllByRecursion (IsShort (line_limit Written)) (if b then other text ∷ [] else [])
    go true k = (carry k.0, tt)
    go false k = tt

module _ (s : Shown) (job : IsTargetName 256 s.job) (instance : IsTargetName 262 s.instance) (form : Format) (f : Family) (source : IsSource form f) (out : is_left_out f.kind f.name ≡ false) where
  abbrev key : List ℕ
  key = key_name form f.kind f.name

  abbrev new_kind : Kind
  new_kind = federated_kind f.kind key

  abbrev new_name : List ℕ
  new_name = federated_name f.kind key

  -- the lines behind TYPE: those in front of the samples, and the samples
  abbrev samples_of_kept : List Item
  samples_of_kept = map items.Sample (family_samples (kept_family f))

  behind_type : AllByRecursion (IsShort most_scraped_line) (item_unless_empty (items.Unit f.name) f.unit ++ (item_unless_empty (items.Help f.name) f.help ++ samples_of_kept))
  unfolding family_items
  behind_type = source.lines.1

  type_line : length (item_text (items.KindOf f.name f.kind)) ≤ most_scraped_line
  unfolding family_items
  type_line = source.lines.0

  behind_unit : AllByRecursion (IsShort most_scraped_line) (item_unless_empty (items.Help f.name) f.help ++ samples_of_kept)
  behind_unit = all-behind (IsShort most_scraped_line) (item_unless_empty (items.Unit f.name) f.unit) (item_unless_empty (items.Help f.name) f.help ++ samples_of_kept) behind_type

  shorter : length new_name ≤ length f.name
  shorter = name_shorter form f.kind f.name source.formed.name source.formed.kind

  head_of : (rs : List Reading) → IsHead (named s f key rs)
  head_of rs = record {
    name = federated_metric form f.kind f.name source.formed.name source.formed.kind;
    help = source.formed.help;
    unit = federated_unit form f.kind f.name f.unit source.formed.name source.formed.unit_in_format source.formed.unit;
    kind_line =
        let now = kind_bytes new_name new_kind in let before = kind_bytes f.name f.kind in let word = kind_length new_kind in let le = shorter in let short = type_line in
        let most : length (item_text (items.KindOf new_name new_kind)) ≤ 262144 = omega (arith, now, before, word, le, short) in most;
    unit_line = unless_empty (items.Unit f.name) (items.Unit new_name) f.unit
        (λ h. let now = unit_bytes new_name f.unit in let before = unit_bytes f.name f.unit in let le = shorter in let most : length (item_text (items.Unit new_name f.unit)) ≤ 262144 = omega (arith, now, before, le, h) in most)
        (all-front (IsShort most_scraped_line) (item_unless_empty (items.Unit f.name) f.unit) (item_unless_empty (items.Help f.name) f.help ++ samples_of_kept) behind_type);
    help_line = unless_empty (items.Help f.name) (items.Help new_name) f.help
        (λ h. let now = help_bytes new_name f.help in let before = help_bytes f.name f.help in let le = shorter in let most : length (item_text (items.Help new_name f.help)) ≤ 262144 = omega (arith, now, before, le, h) in most)
        (all-front (IsShort most_scraped_line) (item_unless_empty (items.Help f.name) f.help) samples_of_kept behind_unit);
  }

  -- ---- readings

  sample_lines_short : (ts : List Sample) → AllByRecursion (IsShort most_scraped_line) (map items.Sample ts) → AllByRecursion (λ (t : Sample). length (sample_text t) ≤ most_scraped_line) ts
  unfolding item_text
  sample_lines_short [] h = tt
  sample_lines_short (t ∷ ts) h = (h.0, sample_lines_short ts h.1)

  each_of : (rs : List Reading) → AllByRecursion (IsFormedReading form Scraped f.kind f.name f.unit) rs → AllByRecursion (λ r. stays f.kind r ≡ true) rs
      → AllByRecursion (λ (t : Sample). length (sample_text t) ≤ most_scraped_line) (flat_map (reading_samples f.kind f.name) rs)
      → AllByRecursion (IsOfTarget new_kind new_name f.unit s) (map (federated_reading s new_kind new_name) rs)
  unfolding federated_reading
  each_of [] formed stay short = tt
  each_of (r ∷ rs) formed stay short = (
    record {
      formed = formed_reading s job instance form f.kind f.name f.unit source.formed.name source.formed.kind out r formed.0 stay.0;
      bare = bare_reading s job instance form f.kind f.name f.unit source.formed.name source.formed.kind out r;
      own = group_of f.kind f.name r.key.labels;
      are_own = own_group f.kind f.name r.key.labels formed.0.own_labels;
      group = federated_group form f.kind f.name (with_target s.job s.instance r.key.labels)
          ∙ target_group s.job s.instance f.kind f.name r.key.labels out (not_empty 256 s.job job) formed.0.label_set formed.0.own_labels;
      short = short_reading s job instance form f.kind f.name f.unit source.formed.name source.formed.kind out most_scraped_line r (all-front (λ (t : Sample). length (sample_text t) ≤ most_scraped_line) (reading_samples f.kind f.name r) (flat_map (reading_samples f.kind f.name) rs) short);
    },
    each_of rs formed.1 stay.1 (all-behind (λ (t : Sample). length (sample_text t) ≤ most_scraped_line) (reading_samples f.kind f.name r) (flat_map (reading_samples f.kind f.name) rs) short),
  )

  own_sets : (rs : List Reading) → AllByRecursion (IsFormedReading form Scraped f.kind f.name f.unit) rs → AllByRecursion AreOwn (label_sets_of rs)
  own_sets [] h = tt
  own_sets (r ∷ rs) h = (h.0.own_labels, own_sets rs h.1)

  own_groups : (rs : List Reading) → AllByRecursion (IsFormedReading form Scraped f.kind f.name f.unit) rs → AllByRecursion AreOwn (map (group_of f.kind f.name) (label_sets_of rs))
  own_groups [] h = tt
  own_groups (r ∷ rs) h = (own_group f.kind f.name r.key.labels h.0.own_labels, own_groups rs h.1)

  sets_made : (rs : List Reading) → label_sets_of (map (federated_reading s new_kind new_name) rs) ≡ map (with_target s.job s.instance) (label_sets_of rs)
  unfolding federated_reading
  sets_made [] = refl
  sets_made (r ∷ rs) = ap (λ ls. with_target s.job s.instance r.key.labels ∷ ls) (sets_made rs)

  groups_made : (rs : List Reading) → AllByRecursion (IsFormedReading form Scraped f.kind f.name f.unit) rs
      → map (group_of new_kind new_name) (label_sets_of (map (federated_reading s new_kind new_name) rs)) ≡ map (with_target s.job s.instance) (map (group_of f.kind f.name) (label_sets_of rs))
  unfolding federated_reading
  groups_made [] h = refl
  groups_made (r ∷ rs) h =
      ap (λ (g : LabelSet). g ∷ map (group_of new_kind new_name) (label_sets_of (map (federated_reading s new_kind new_name) rs)))
      (federated_group form f.kind f.name (with_target s.job s.instance r.key.labels) ∙ target_group s.job s.instance f.kind f.name r.key.labels out (not_empty 256 s.job job) h.0.label_set h.0.own_labels)
      ∙ ap (λ gs. with_target s.job s.instance (group_of f.kind f.name r.key.labels) ∷ gs) (groups_made rs h.1)

  abbrev kept : List Reading
  kept = filter (stays f.kind) f.readings

  formed_kept : AllByRecursion (IsFormedReading form Scraped f.kind f.name f.unit) kept
  formed_kept = recursion_from_All (IsFormedReading form Scraped f.kind f.name f.unit) kept source.formed.readings

  short_kept : AllByRecursion (λ (t : Sample). length (sample_text t) ≤ most_scraped_line) (flat_map (reading_samples f.kind f.name) kept)
  unfolding family_samples
  short_kept = sample_lines_short (flat_map (reading_samples f.kind f.name) kept) (all-behind (IsShort most_scraped_line) (item_unless_empty (items.Help f.name) f.help) samples_of_kept behind_unit)

  readings_of_target : AreOfTarget new_kind new_name f.unit s (map (federated_reading s new_kind new_name) kept)
  readings_of_target = record {
    each = each_of kept formed_kept (filter-passes (stays f.kind) f.readings) short_kept;
    distinct = subst (IsDistinct label_sets_eq) (sym (sets_made kept)) (distinct_made (with_target s.job s.instance) AreOwn (λ x y p q. target_once s.job s.instance x y p q) (label_sets_of kept) (own_sets kept formed_kept) source.formed.distinct);
    together = ap stand_together (groups_made kept formed_kept) ∙ together_made (with_target s.job s.instance) AreOwn (λ x y p q. target_once s.job s.instance x y p q) (map (group_of f.kind f.name) (label_sets_of kept)) (own_groups kept formed_kept) ∙ source.formed.together;
  }

-- ---- candidates

some_is : (g h : Family) → ◌≡◌ {A = Option Family} (Some g) (Some h) → g ≡ h
some_is g h e = ap (λ (o : Option Family). unwrap_or o h) e

-- a candidate is the family that was left in, under its key name
pub candidate_is : (s : Shown) (form : Format) (f g : Family) → IsSource form f → candidate_of s f ≡ Some g → (is_left_out f.kind f.name ≡ false) × (g ≡ named s f (key_name form f.kind f.name) (filter (stays f.kind) f.readings))
unfolding candidate_of
candidate_is s form f g source h = go (is_left_out f.kind f.name) refl (filter (stays f.kind) f.readings) refl h
  where
    key_of : (r : Reading) (rs : List Reading) → filter (stays f.kind) f.readings ≡ r ∷ rs → r.key.name ≡ key_name form f.kind f.name
    key_of r rs e = ap (λ k. k.name) (subst (AllByRecursion (IsFormedReading form Scraped f.kind f.name f.unit)) e (recursion_from_All (IsFormedReading form Scraped f.kind f.name f.unit) (filter (stays f.kind) f.readings) source.formed.readings)).0.key

    go : (b : Bool) → is_left_out f.kind f.name ≡ b → (rs : List Reading) → filter (stays f.kind) f.readings ≡ rs → (if b then None else renamed_family s f rs) ≡ Some g
        → (is_left_out f.kind f.name ≡ false) × (g ≡ named s f (key_name form f.kind f.name) (filter (stays f.kind) f.readings))
    go true e rs d k = absurd cc
    go false e [] d k = absurd cc
    go false e (r ∷ rs) d k = (e, sym (some_is (named s f r.key.name (r ∷ rs)) g k) ∙ ap (λ key. named s f key (r ∷ rs)) (key_of r rs d) ∙ ap (named s f (key_name form f.kind f.name)) (sym d))

module _ (s : Shown) (job : IsTargetName 256 s.job) (instance : IsTargetName 262 s.instance) (form : Format) where
  pub candidate_head : (f g : Family) → IsSource form f → candidate_of s f ≡ Some g → IsHead g
  candidate_head f g source e = let is = candidate_is s form f g source e in subst IsHead (sym is.1) (head_of s job instance form f source is.0 (filter (stays f.kind) f.readings))

  pub candidate_readings : (f g : Family) → IsSource form f → candidate_of s f ≡ Some g → AreOfTarget g.kind g.name g.unit s g.readings
  candidate_readings f g source e = let is = candidate_is s form f g source e in subst (λ (h : Family). AreOfTarget h.kind h.name h.unit s h.readings) (sym is.1) (readings_of_target s job instance form f source is.0)

  pub all_heads : (fs : List Family) → AllByRecursion (IsSource form) fs → AllByRecursion IsHead (filter_map (candidate_of s) fs)
  all_heads [] h = tt
  all_heads (f ∷ fs) h = go (candidate_of s f) refl (all_heads fs h.1)
    where
      go : (o : Option Family) → candidate_of s f ≡ o → AllByRecursion IsHead (filter_map (candidate_of s) fs) → AllByRecursion IsHead (cons_option o (filter_map (candidate_of s) fs))
      go None e ih = ih
      go (Some g) e ih = (candidate_head f g h.0 e, ih)

  -- ---- one candidate of a target at most is one with a family

  abbrev one_with : Family → Family → Bool
  one_with x y = is_one_family (family_key x) (family_key y)

  none_other : (x f g : Family) → IsSource form f → candidate_of s f ≡ Some g → one_with x g ≡ true → (fs : List Family) → AllByRecursion (IsSource form) fs → AllByRecursion (λ name. bytes_eq f.name name ≡ false) (map (λ (h : Family). h.name) fs)
      → filter (one_with x) (filter_map (candidate_of s) fs) ≡ []
  none_other x f g source e one [] sources names = refl
  none_other x f g source e one (h ∷ hs) sources names = go (candidate_of s h) refl (none_other x f g source e one hs sources.1 names.1)
    where
      differs : (k : Family) → candidate_of s h ≡ Some k → (b : Bool) → one_with x k ≡ b → b ≡ false
      differs k d false o = refl
      differs k d true o =
          let first = candidate_is s form f g source e in let second = candidate_is s form h k sources.0 d in
          let keys : family_key g ≡ family_key k = sym (one_key (family_key x) (family_key g) one) ∙ one_key (family_key x) (family_key k) o in
          let kinds : federated_kind f.kind (key_name form f.kind f.name) ≡ federated_kind h.kind (key_name form h.kind h.name) = sym (ap (λ (y : Family). y.kind) first.1) ∙ ap (λ (y : FamilyKey). y.kind) keys ∙ ap (λ (y : Family). y.kind) second.1 in
          let names' : federated_name f.kind (key_name form f.kind f.name) ≡ federated_name h.kind (key_name form h.kind h.name) = sym (ap (λ (y : Family). y.name) first.1) ∙ ap (λ (y : FamilyKey). y.name) keys ∙ ap (λ (y : Family). y.name) second.1 in
          let same : f.name ≡ h.name = one_source form f.kind h.kind f.name h.name source.formed.name sources.0.formed.name source.formed.kind sources.0.formed.kind kinds names' in
          absurd (let here : bytes_eq f.name h.name ≡ true = (bytes_decides f.name h.name).1 same in let bad : true ≡ false = sym here ∙ names.0 in cc)

      go : (o : Option Family) → candidate_of s h ≡ o → filter (one_with x) (filter_map (candidate_of s) hs) ≡ [] → filter (one_with x) (cons_option o (filter_map (candidate_of s) hs)) ≡ []
      go None d ih = ih
      go (Some k) d ih = ap (λ b. cond b (k ∷ filter (one_with x) (filter_map (candidate_of s) hs)) (filter (one_with x) (filter_map (candidate_of s) hs))) (differs k d (one_with x k) refl) ∙ ih

  none_given : (x : Family) → AreOfTarget x.kind x.name x.unit s []
  unfolding stand_together IsDistinct
  none_given x = record { each = tt; distinct = tt; together = refl }

  -- what a target gives the family x
  pub given : (x : Family) (fs : List Family) → AllByRecursion (IsSource form) fs → IsDistinct bytes_eq (map (λ (f : Family). f.name) fs)
      → AreOfTarget x.kind x.name x.unit s (flat_map (λ (g : Family). g.readings) (filter (one_with x) (filter_map (candidate_of s) fs)))
  unfolding IsDistinct
  given x [] sources names = none_given x
  given x (f ∷ fs) sources names = go (candidate_of s f) refl (given x fs sources.1 names.1)
    where
      here : (g : Family) → candidate_of s f ≡ Some g → (b : Bool) → one_with x g ≡ b → AreOfTarget x.kind x.name x.unit s (flat_map (λ (h : Family). h.readings) (filter (one_with x) (filter_map (candidate_of s) fs)))
          → AreOfTarget x.kind x.name x.unit s (flat_map (λ (h : Family). h.readings) (cond b (g ∷ filter (one_with x) (filter_map (candidate_of s) fs)) (filter (one_with x) (filter_map (candidate_of s) fs))))
      here g e false o ih = ih
      here g e true o ih =
          let keys : family_key g ≡ family_key x = sym (one_key (family_key x) (family_key g) o) in
          let own : AreOfTarget x.kind x.name x.unit s g.readings = subst (λ (k : FamilyKey). AreOfTarget k.kind k.name k.unit s g.readings) keys (candidate_readings f g sources.0 e) in
          subst (AreOfTarget x.kind x.name x.unit s) (sym (ap (λ hs. g.readings ++ flat_map (λ (h : Family). h.readings) hs) (none_other x f g sources.0 e o fs sources.1 names.0) ∙ append-nil g.readings)) own

      go : (o : Option Family) → candidate_of s f ≡ o → AreOfTarget x.kind x.name x.unit s (flat_map (λ (h : Family). h.readings) (filter (one_with x) (filter_map (candidate_of s) fs)))
          → AreOfTarget x.kind x.name x.unit s (flat_map (λ (h : Family). h.readings) (filter (one_with x) (cons_option o (filter_map (candidate_of s) fs))))
      go None e ih = ih
      go (Some g) e ih = here g e (one_with x g) refl ih
