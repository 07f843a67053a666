-- Families that can be written, one behind the other, break no rule.
use Rattle.std.proofs.Common.{◌≡◌, ℕ, ◌+◌, ◌≤◌, Bool, true, false, not, cond, ◌&&◌, ◌||◌, List, [], ◌∷◌, ◌++◌, map, length, length-append, codes, Some, None, refl, sym, ap, subst, ◌∙◌, arith, All}
use Rattle.std.specs.Prelude.{count_by}
use Rattle.std.specs.List.{list_any, list_all, flat_map, AllByRecursion, IsDistinct}
use Rattle.std.specs.Str.{bytes_eq}
use Rattle.std.specs.Cmp.Lexicographic.{bytes_decides}
use Rattle.std.proofs.lemmas.Bool.{and_parts, not-true, or_from, and_left}
use Rattle.std.proofs.lemmas.List.Elements.{recursion_from_All}
use Rattle.std.proofs.lemmas.Str.{IsUtf8-from_is_utf8}
use Rattle.label_sets.specs.declared.kind.Kind.{Kind}
use Rattle.label_sets.specs.declared.label_set.LabelSet.{LabelSet}
use Rattle.label_sets.specs.Lists.{some_passes}
use Rattle.label_sets.specs.Names.{is_metric_char}
use Rattle.label_sets.proofs.Laws.{all-append, all-weaker, any-map}
use Rattle.exact_decimal.specs.Numbers.{number_of}
use Rattle.page_model.specs.declared.format.Format.TheVariants.{OpenMetrics}
use Rattle.page_model.specs.declared.format.Treatment.TheVariants as treatments
use Rattle.page_model.specs.declared.item.Item.{Item}
use Rattle.page_model.specs.declared.item.Item.TheVariants as items
use Rattle.page_model.specs.declared.item.Sample.{Sample}
use Rattle.page_model.specs.declared.page.Value.{Value}
use Rattle.page_model.specs.declared.page.Value.TheVariants as values
use Rattle.page_model.specs.declared.page.Reading.{Reading}
use Rattle.page_model.specs.declared.page.Family.{Family}
use Rattle.page_model.specs.Written.{Setting, open_setting}
use Rattle.page_model.specs.Suffixes.{suffixes, is_sample_name}
use Rattle.page_model.specs.Items.{is_eof, is_sample, sample_of_line}
use Rattle.page_model.specs.Owners.{Owned, is_of, owned_lines, group_of}
use Rattle.page_model.specs.Rules.{is_duplicate, is_same_series, leaves_incomplete, is_unit, is_foreign_unit, is_info_or_state_set, is_without_eof}
use Rattle.page_model.specs.Faults.{item_breaks, item_fault, end_breaks, end_fault}
use Rattle.page_model.specs.Pages.{AreFaultless}
use Rattle.page_model.specs.Readings.{key_name}
use Rattle.open_writing.specs.Writing.{bare_sample, number_sample, bucket_sample, quantile_sample, value_samples, reading_samples, item_unless_empty, family_samples, family_items, page_items, item_text}
use Rattle.open_writing.specs.FamilyKeys.{FamilyKey, family_key, sample_names, share_sample_name, clash, AreApart}
use Rattle.open_writing.specs.Forms.{rise_to_infinity, IsFormedValue, IsFormedReading, IsFormedFamily, label_sets_of, stand_together}
use Rattle.writing_laws.proofs.Turned.{turn, turn-append, turn-map, turn-mapped, any-turn, all-map, all-of, all-turn, all-flat, all-both, none-append, Pairs, Each, each-pairs, map-append}
use Rattle.writing_laws.proofs.Spelled.{IsWritableItem}
use Rattle.writing_laws.proofs.LineRules.{HasText, HasLabelSet}
use Rattle.writing_laws.proofs.TextOfItems.{IsWritableLine, AreWritableLines}
use Rattle.writing_laws.proofs.Blocks.{own, block, MayBegin, not_behind_eof}
use Rattle.writing_laws.proofs.FamilyBlocks.{no_eof_behind, samples_are_free}
use Rattle.writing_laws.proofs.FairParts.{IsFair}
use Rattle.writing_laws.proofs.Fair.{fair_reading}
use Rattle.writing_laws.proofs.Together.{NotBack, IsRun, samples_together}
use Rattle.writing_laws.proofs.Apart.{IsApart, family_pairs}
use Rattle.writing_laws.proofs.FamilyFree.{samples_counted, HasFair, grp, fit_fair, samples_here, family_free}
use Rattle.writing_laws.proofs.Complete.{leaves_whole}
use Rattle.writing_laws.proofs.Heads.{descriptors, family_parts, family_turned, IsHead, head_is}

-- ---- readings have samples

pub record IsFilled (ss : List Sample) : Type 0 where
  pub first : Sample
  pub others : List Sample
  pub is : ss ≡ first ∷ others

value_filled : (kind : Kind) (family : List ℕ) (labels : LabelSet) (value : Value) (rest : List Sample) → IsFormedValue OpenMetrics treatments.Written kind family labels value → IsFilled (value_samples kind family labels value ++ rest)
unfolding value_samples rise_to_infinity
value_filled kind family labels (values.Plain n) rest h = record { first = bare_sample (key_name OpenMetrics kind family) labels n; others = rest; is = refl }
value_filled kind family labels (values.Buckets [] sum) rest h = absurd (let k : false ≡ true = h.1 in cc)
value_filled kind family labels (values.Buckets (b ∷ bs) sum) rest h = record { first = bucket_sample family labels b; others = _; is = refl }
value_filled kind family labels (values.Quantiles (q ∷ qs) count sum) rest h = record { first = quantile_sample family labels q; others = _; is = refl }
value_filled kind family labels (values.Quantiles [] (Some n) sum) rest h = record { first = bare_sample (family ++ codes "_count") labels (number_of n); others = _; is = refl }
value_filled kind family labels (values.Quantiles [] None (Some n)) rest h = record { first = bare_sample (family ++ codes "_sum") labels n; others = _; is = refl }
value_filled kind family labels (values.Quantiles [] None None) rest h = absurd (let k : false ≡ true = h.5 in cc)

pub reading_filled : (kind : Kind) (family unit : List ℕ) (r : Reading) → IsFormedReading OpenMetrics treatments.Written kind family unit r → IsFilled (reading_samples kind family r)
unfolding reading_samples
reading_filled kind family unit r h = value_filled kind family r.key.labels r.value (number_sample (family ++ codes "_created") r.key.labels r.created) h.value

-- ---- names of two families

some_of : (q : List ℕ → Bool) (m : List ℕ) (js : List (List ℕ)) → list_any (bytes_eq m) js ≡ true → q m ≡ true → list_any q js ≡ true
some_of q m [] e f = absurd (let k : false ≡ true = e in cc)
some_of q m (j ∷ js) e f = go (bytes_eq m j) refl e (λ k. some_of q m js k f)
  where
    go : (b : Bool) → bytes_eq m j ≡ b → (b || list_any (bytes_eq m) js) ≡ true → (list_any (bytes_eq m) js ≡ true → list_any q js ≡ true) → list_any q (j ∷ js) ≡ true
    go true g k ih = rw (ap q (sym ((bytes_decides m j).0 g)) ∙ f) refl
    go false g k ih = later (q j) (ih k)
      where
        later : (b : Bool) → list_any q js ≡ true → (b || list_any q js) ≡ true
        later true l = refl
        later false l = l

names_apart : (j k : FamilyKey) (m n : List ℕ) → share_sample_name j k ≡ false → list_any (bytes_eq m) (sample_names j) ≡ true → list_any (bytes_eq n) (sample_names k) ≡ true → bytes_eq m n ≡ false
unfolding share_sample_name
names_apart j k m n h e f = go (bytes_eq m n) refl
  where
    go : (b : Bool) → bytes_eq m n ≡ b → bytes_eq m n ≡ false
    go false g = g
    go true g =
        let here : list_any (bytes_eq m) (sample_names k) ≡ true = ap (λ x. list_any (bytes_eq x) (sample_names k)) ((bytes_decides m n).0 g) ∙ f in
        let shared : list_any (λ name. list_any (bytes_eq name) (sample_names k)) (sample_names j) ≡ true = some_of (λ name. list_any (bytes_eq name) (sample_names k)) m (sample_names j) e here in
        absurd (let l : false ≡ true = sym h ∙ shared in cc)

-- two families that differ in name and don't clash
pub record AreSeparate (f g : Family) : Type 0 where
  pub names : bytes_eq f.name g.name ≡ false
  pub keys : clash (family_key f) (family_key g) ≡ false

pub separate : (fs : List Family) → IsDistinct bytes_eq (map (λ (f : Family). f.name) fs) → AreApart fs → Pairs AreSeparate fs
unfolding IsDistinct
separate [] d a = tt
separate (f ∷ fs) d a = (firsts fs d.0 a.0, separate fs d.1 a.1)
  where
    firsts : (gs : List Family) → AllByRecursion (λ y. bytes_eq f.name y ≡ false) (map (λ (g : Family). g.name) gs) → AllByRecursion (λ y. clash (family_key f) y ≡ false) (map family_key gs) → AllByRecursion (AreSeparate f) gs
    firsts [] h k = tt
    firsts (g ∷ gs) h k = (record { names = h.0; keys = k.0 }, firsts gs h.1 k.1)

shared_parts : (j k : FamilyKey) → clash j k ≡ false → share_sample_name j k ≡ false
unfolding clash
shared_parts j k e = go (bytes_eq j.name k.name) (share_sample_name j k) e
  where
    go : (a b : Bool) → (a || b) ≡ false → b ≡ false
    go false b h = h
    go true b h = absurd (let g : true ≡ false = h in cc)

not_own : (family other : List ℕ) (is : List Item) → bytes_eq family other ≡ false → list_any (is_of other) (own family is) ≡ false
not_own family other [] e = refl
not_own family other (i ∷ is) e = or_from _ _ e (not_own family other is e)

module _ (limit : ℕ) where
  -- how the page is read
  abbrev st : Setting
  st = open_setting treatments.Written limit

  -- the form of a family
  abbrev pub Formed : Family → Type 0
  Formed f = IsFormedFamily OpenMetrics treatments.Written f

  -- ---- one family

  formed_readings : (f : Family) → Formed f → AllByRecursion (λ r. IsFormedReading OpenMetrics treatments.Written f.kind f.name f.unit r) f.readings
  formed_readings f h = recursion_from_All (λ r. IsFormedReading OpenMetrics treatments.Written f.kind f.name f.unit r) f.readings h.readings

  pub fair_family : (f : Family) → Formed f → AllByRecursion (HasFair limit f.name f.kind) (family_samples f)
  unfolding family_samples
  fair_family f h =
      all-flat (HasFair limit f.name f.kind) (reading_samples f.kind f.name) f.readings
      (all-weaker (λ r. IsFormedReading OpenMetrics treatments.Written f.kind f.name f.unit r) (λ r. AllByRecursion (HasFair limit f.name f.kind) (reading_samples f.kind f.name r))
      (λ r g. all-weaker (IsFair limit f.kind f.name r.key.labels) (HasFair limit f.name f.kind) (λ s k. (r.key.labels, k)) (reading_samples f.kind f.name r) (fair_reading limit f.name f.kind f.unit r h.name g)) f.readings (formed_readings f h))

  run_of : (family : List ℕ) (kind : Kind) (labels : LabelSet) (ss : List Sample) → IsFilled ss → AllByRecursion (IsFair limit kind family labels) ss → IsRun (grp limit family kind) (group_of kind family labels) ss
  run_of family kind labels ss filled fair = record {
    first = filled.first;
    others = filled.others;
    is = filled.is;
    all = all-weaker (IsFair limit kind family labels) (λ s. grp limit family kind s ≡ group_of kind family labels) (λ s h. h.group) (filled.first ∷ filled.others) (subst (AllByRecursion (IsFair limit kind family labels)) filled.is fair);
  }

  groups_mapped : (kind : Kind) (family : List ℕ) (rs : List Reading) → map (group_of kind family) (label_sets_of rs) ≡ map (λ (r : Reading). group_of kind family r.key.labels) rs
  groups_mapped kind family [] = refl
  groups_mapped kind family (r ∷ rs) = ap (λ gs. group_of kind family r.key.labels ∷ gs) (groups_mapped kind family rs)

  stays_together : (f : Family) → Formed f → Each (λ a s. NotBack (map (grp limit f.name f.kind) a) (grp limit f.name f.kind s)) [] (family_samples f)
  unfolding family_samples
  stays_together f h =
      samples_together (grp limit f.name f.kind) (λ (r : Reading). group_of f.kind f.name r.key.labels) (reading_samples f.kind f.name) f.readings (ap stand_together (sym (groups_mapped f.kind f.name f.readings)) ∙ h.together)
      (all-weaker (λ r. IsFormedReading OpenMetrics treatments.Written f.kind f.name f.unit r) (λ r. IsRun (grp limit f.name f.kind) (group_of f.kind f.name r.key.labels) (reading_samples f.kind f.name r))
      (λ r g. run_of f.name f.kind r.key.labels (reading_samples f.kind f.name r) (reading_filled f.kind f.name f.unit r g) (fair_reading limit f.name f.kind f.unit r h.name g)) f.readings (formed_readings f h))

  stays_apart : (f : Family) → Formed f → Each (λ a s. AllByRecursion (λ t. IsApart limit f.name f.kind t s) a) [] (family_samples f)
  unfolding family_samples
  stays_apart f h = each-pairs (IsApart limit f.name f.kind) [] (flat_map (reading_samples f.kind f.name) f.readings) tt (family_pairs limit f.name f.kind f.unit h.name f.readings (formed_readings f h) h.distinct)

  -- ---- families behind others

  -- no line of the family and none of its series stands among these
  pub record IsClear (earlier : List Item) (g : Family) : Type 0 where
    pub new : list_any (is_of g.name) (owned_lines OpenMetrics earlier) ≡ false
    pub samples : AllByRecursion (λ s. is_duplicate st (owned_lines OpenMetrics earlier) s ≡ false) (family_samples g)

  -- families may follow these items
  pub record MayFollow (earlier : List Item) (fs : List Family) : Type 0 where
    pub faultless : AreFaultless st earlier
    pub no_eof : list_any is_eof earlier ≡ false
    pub complete : leaves_incomplete st (owned_lines OpenMetrics earlier) None ≡ false
    pub clear : AllByRecursion (IsClear earlier) fs
    pub few : count_by is_sample earlier + length (flat_map family_samples fs) ≤ limit

  named_so : (kind : Kind) (family name : List ℕ) (unit : List ℕ) → is_sample_name OpenMetrics kind family name ≡ true → list_any (bytes_eq name) (sample_names (record { name = family; kind = kind; unit = unit })) ≡ true
  named_so kind family name unit e = any-map (bytes_eq name) (λ suffix. family ++ suffix) (suffixes OpenMetrics kind) ∙ e

  -- a sample of a separate family is no duplicate of one of these
  not_of_others : (f g : Family) (s : Sample) (above : List Sample) → AreSeparate f g → HasFair limit g.name g.kind s → AllByRecursion (HasFair limit f.name f.kind) above
      → list_any (λ o. some_passes (is_same_series st s) (sample_of_line o.item)) (own f.name (map items.Sample above)) ≡ false
  not_of_others f g s [] sep fs fa = refl
  not_of_others f g s (t ∷ above) sep fs fa =
      or_from _ _
      (and_left _ _ (names_apart (family_key f) (family_key g) t.name s.name (shared_parts (family_key f) (family_key g) sep.keys) (named_so f.kind f.name t.name f.unit fa.0.1.named) (named_so g.kind g.name s.name g.unit fs.1.named)))
      (not_of_others f g s above sep fs fa.1)

  no_series : (family : List ℕ) (s : Sample) (ds : List Item) → AllByRecursion (λ item. sample_of_line item ≡ None) ds → list_any (λ o. some_passes (is_same_series st s) (sample_of_line o.item)) (own family ds) ≡ false
  no_series family s [] h = refl
  no_series family s (d ∷ ds) h = rw (h.0) (no_series family s ds h.1)

  clear_then : (f g : Family) (earlier : List Item) (above : List Sample) (ds : List Item) (os : List Owned) → AreSeparate f g → Formed g → AllByRecursion (HasFair limit f.name f.kind) above → AllByRecursion (λ item. sample_of_line item ≡ None) ds
      → os ≡ own f.name (map items.Sample above) ++ turn (own f.name ds) (owned_lines OpenMetrics earlier) → IsClear earlier g
      → (list_any (is_of g.name) os ≡ false) × AllByRecursion (λ s. is_duplicate st os s ≡ false) (family_samples g)
  unfolding is_duplicate
  clear_then f g earlier above ds os sep form fa plain is clear = (
    ap (list_any (is_of g.name)) is ∙ none-append (is_of g.name) (own f.name (map items.Sample above)) (turn (own f.name ds) (owned_lines OpenMetrics earlier)) (not_own f.name g.name (map items.Sample above) sep.names)
        (any-turn (is_of g.name) (own f.name ds) (owned_lines OpenMetrics earlier) (not_own f.name g.name ds sep.names) clear.new),
    each (family_samples g) (fair_family g form) clear.samples,
  )
    where
      each : (ss : List Sample) → AllByRecursion (HasFair limit g.name g.kind) ss → AllByRecursion (λ s. list_any (λ o. some_passes (is_same_series st s) (sample_of_line o.item)) (owned_lines OpenMetrics earlier) ≡ false) ss
          → AllByRecursion (λ s. list_any (λ o. some_passes (is_same_series st s) (sample_of_line o.item)) os ≡ false) ss
      each [] fair old = tt
      each (s ∷ ss) fair old = (
        ap (list_any (λ o. some_passes (is_same_series st s) (sample_of_line o.item))) is
            ∙ none-append _ (own f.name (map items.Sample above)) (turn (own f.name ds) (owned_lines OpenMetrics earlier)) (not_of_others f g s above sep fair.0 fa)
            (any-turn _ (own f.name ds) (owned_lines OpenMetrics earlier) (no_series f.name s ds plain) old.0),
        each ss fair.1 old.1,
      )

  unit_facts : (f : Family) → Formed f → (is_foreign_unit f.name f.unit ≡ false) × ((is_info_or_state_set f.kind && is_unit f.unit) ≡ false) × (list_all is_metric_char f.unit ≡ true)
  unit_facts f h =
      let first = and_parts (list_all is_metric_char f.unit && not (is_foreign_unit f.name f.unit)) (not (is_info_or_state_set f.kind && is_unit f.unit)) h.unit in
      let both = and_parts (list_all is_metric_char f.unit) (not (is_foreign_unit f.name f.unit)) first.0 in
      (not-true _ both.1, not-true _ first.1, both.0)

  length-turn : (ss above : List Sample) → length (turn ss above) ≡ length ss + length above
  length-turn [] above = omega arith
  length-turn (s ∷ ss) above = let ih = length-turn ss (s ∷ above) in omega (arith, ih)

  -- the owned lines of a family behind others
  pub owned_family : (f : Family) (earlier : List Item) → IsHead st earlier f.name f.kind (descriptors f) → AllByRecursion (HasFair limit f.name f.kind) (turn (family_samples f) [])
      → owned_lines OpenMetrics (map items.Sample (turn (family_samples f) []) ++ turn (descriptors f) earlier) ≡ own f.name (map items.Sample (turn (family_samples f) [])) ++ turn (own f.name (descriptors f)) (owned_lines OpenMetrics earlier)
  owned_family f earlier head fair =
      (block OpenMetrics f.name f.kind (turn (family_samples f) []) (turn (descriptors f) earlier) (fit_fair limit f.name f.kind (turn (family_samples f) []) fair) head.stands.goes).0
      ∙ ap (λ os. own f.name (map items.Sample (turn (family_samples f) [])) ++ os) head.owned

  behind_head : (f : Family) (earlier : List Item) → IsHead st earlier f.name f.kind (descriptors f) → (s : Sample) → is_duplicate st (owned_lines OpenMetrics earlier) s ≡ false → is_duplicate st (owned_lines OpenMetrics (turn (descriptors f) earlier)) s ≡ false
  unfolding is_duplicate
  behind_head f earlier head s e =
      ap (list_any (λ o. some_passes (is_same_series st s) (sample_of_line o.item))) head.owned
      ∙ any-turn (λ o. some_passes (is_same_series st s) (sample_of_line o.item)) (own f.name (descriptors f)) (owned_lines OpenMetrics earlier) (no_series f.name s (descriptors f) head.plain) e

  new_behind : (f : Family) (earlier : List Item) → IsHead st earlier f.name f.kind (descriptors f) → AllByRecursion (λ s. is_duplicate st (owned_lines OpenMetrics earlier) s ≡ false) (family_samples f)
      → AllByRecursion (λ s. is_duplicate st (owned_lines OpenMetrics (turn (descriptors f) earlier)) s ≡ false) (family_samples f)
  new_behind f earlier head old = all-weaker (λ s. is_duplicate st (owned_lines OpenMetrics earlier) s ≡ false) (λ s. is_duplicate st (owned_lines OpenMetrics (turn (descriptors f) earlier)) s ≡ false) (behind_head f earlier head) (family_samples f) old

  clears : (f : Family) (gs : List Family) (earlier : List Item) (above : List Sample) → AllByRecursion Formed gs → AllByRecursion (AreSeparate f) gs → AllByRecursion (HasFair limit f.name f.kind) above → IsHead st earlier f.name f.kind (descriptors f)
      → owned_lines OpenMetrics (map items.Sample above ++ turn (descriptors f) earlier) ≡ own f.name (map items.Sample above) ++ turn (own f.name (descriptors f)) (owned_lines OpenMetrics earlier)
      → AllByRecursion (IsClear earlier) gs → AllByRecursion (IsClear (map items.Sample above ++ turn (descriptors f) earlier)) gs
  clears f [] earlier above forms seps fa head owned clear = tt
  clears f (g ∷ gs) earlier above forms seps fa head owned clear =
      let both = clear_then f g earlier above (descriptors f) (owned_lines OpenMetrics (map items.Sample above ++ turn (descriptors f) earlier)) seps.0 forms.0 fa head.plain owned clear.0 in
      (record { new = both.0; samples = both.1 }, clears f gs earlier above forms.1 seps.1 fa head owned clear.1)

  -- a family behind items that it may follow: the others may follow it
  one_more_family : (f : Family) (fs : List Family) (earlier : List Item) → Formed f → AllByRecursion Formed fs → AllByRecursion (AreSeparate f) fs → MayFollow earlier (f ∷ fs)
      → MayFollow (map items.Sample (turn (family_samples f) []) ++ turn (descriptors f) earlier) fs
      × (owned_lines OpenMetrics (map items.Sample (turn (family_samples f) []) ++ turn (descriptors f) earlier) ≡ own f.name (map items.Sample (turn (family_samples f) [])) ++ turn (own f.name (descriptors f)) (owned_lines OpenMetrics earlier))
  unfolding family_samples
  one_more_family f fs earlier form forms seps may =
      let ss = family_samples f in
      let above = turn ss [] in
      let unit = unit_facts f form in
      let begin : MayBegin st earlier f.name = record { no_eof = may.no_eof; new = may.clear.0.new; complete = may.complete } in
      let head = head_is limit earlier f may.faultless begin unit.0 unit.1 in
      let fair = fair_family f form in
      let fair_above = all-turn (HasFair limit f.name f.kind) ss [] fair tt in
      let owned = owned_family f earlier head fair_above in
      let sizes = length-append ss (flat_map family_samples fs) in
      let count_head = head.stands.count in
      let few_here : count_by is_sample (turn (descriptors f) earlier) + length {A = Sample} [] + length ss ≤ limit = omega (arith, may.few, sizes, count_head) in
      let new_here = new_behind f earlier head may.clear.0.samples in
      let free = family_free limit f.name f.kind (turn (descriptors f) earlier) head.stands.none head.stands.goes [] ss tt tt fair (stays_together f form) (stays_apart f form) new_here few_here in
      let counted = samples_counted above (turn (descriptors f) earlier) in
      let turned = length-turn ss [] in
      let goes = (block OpenMetrics f.name f.kind above (turn (descriptors f) earlier) (fit_fair limit f.name f.kind above fair_above) head.stands.goes).1 in
      let here = samples_here limit f.name f.kind (turn (descriptors f) earlier) head.stands.none head.stands.goes above (fit_fair limit f.name f.kind above fair_above) in (
        record {
          faultless = samples_are_free st (turn (descriptors f) earlier) f.name f.kind above head.stands.no_eof head.stands.goes head.stands.faultless free;
          no_eof = no_eof_behind above (turn (descriptors f) earlier) head.stands.no_eof;
          complete = leaves_whole limit f.name f.kind f.unit f.readings (owned_lines OpenMetrics (map items.Sample above ++ turn (descriptors f) earlier)) form.name (formed_readings f form) form.distinct goes here;
          clear = clears f fs earlier above forms seps fair_above head owned may.clear.1;
          few = omega (arith, may.few, sizes, count_head, counted, turned);
        },
        owned,
      )

  -- ---- all families

  -- the lines of families with their owners
  abbrev pub owned_page : List Family → List Owned
  owned_page fs = flat_map (λ (f : Family). own f.name (family_items f)) fs

  -- those of one family, the last first
  owned_turned : (f : Family) (above : List Owned) → own f.name (map items.Sample (turn (family_samples f) [])) ++ turn (own f.name (descriptors f)) above ≡ turn (own f.name (family_items f)) above
  owned_turned f above =
      let mark : Item → Owned = λ item. record { family = f.name; item = item } in
      let ss = family_samples f in
      sym (
      ap (λ is. turn (map mark is) above) (family_parts f)
      ∙ ap (λ os. turn os above) (map-append mark (descriptors f) (map items.Sample ss))
      ∙ turn-append (map mark (descriptors f)) (map mark (map items.Sample ss)) above
      ∙ turn-map mark (map items.Sample ss) [] (turn (map mark (descriptors f)) above)
      ∙ ap (λ is. map mark is ++ turn (map mark (descriptors f)) above) (turn-mapped items.Sample ss [])
      )

  pub families_follow : (fs : List Family) (earlier : List Item) → AllByRecursion Formed fs → Pairs AreSeparate fs → MayFollow earlier fs
      → MayFollow (turn (flat_map family_items fs) earlier) [] × (owned_lines OpenMetrics (turn (flat_map family_items fs) earlier) ≡ turn (owned_page fs) (owned_lines OpenMetrics earlier))
  families_follow [] earlier forms seps may = (may, refl)
  families_follow (f ∷ fs) earlier forms seps may =
      let step = one_more_family f fs earlier forms.0 forms.1 seps.0 may in
      let mine : List Item = turn (family_items f) earlier in
      let here = family_turned f earlier in
      let then : MayFollow mine fs = subst (λ is. MayFollow is fs) (sym here) step.0 in
      let owned : owned_lines OpenMetrics mine ≡ turn (own f.name (family_items f)) (owned_lines OpenMetrics earlier) = ap (owned_lines OpenMetrics) here ∙ step.1 ∙ owned_turned f (owned_lines OpenMetrics earlier) in
      let rest = families_follow fs mine forms.1 seps.1 then in
      let all : turn (flat_map family_items (f ∷ fs)) earlier ≡ turn (flat_map family_items fs) mine = turn-append (family_items f) (flat_map family_items fs) earlier in (
        subst (λ is. MayFollow is []) (sym all) rest.0,
        ap (owned_lines OpenMetrics) all ∙ rest.1 ∙ ap (turn (owned_page fs)) owned ∙ sym (turn-append (own f.name (family_items f)) (owned_page fs) (owned_lines OpenMetrics earlier)),
      )

  -- nothing stands above the first
  pub nothing_above : (fs : List Family) → length (flat_map family_samples fs) ≤ limit → MayFollow [] fs
  unfolding owned_lines leaves_incomplete is_duplicate
  nothing_above fs few = record {
    faultless = tt;
    no_eof = refl;
    complete = refl;
    clear = all-of (IsClear []) (λ g. record { new = refl; samples = all-of _ (λ s. refl) (family_samples g) }) fs;
    few = omega (arith, few);
  }

  -- `# EOF` behind all families, and the end behind it
  pub eof_free : (earlier : List Item) → MayFollow earlier [] → item_fault st earlier items.Eof ≡ None
  unfolding item_fault item_breaks
  eof_free earlier may = rw (not_behind_eof st earlier may.no_eof, may.complete) refl

  pub end_free : (earlier : List Item) → MayFollow earlier [] → end_fault st (items.Eof ∷ earlier) true ≡ None
  unfolding end_fault end_breaks is_without_eof owned_lines
  end_free earlier may = rw (may.complete) refl

  -- ---- lines

  -- what is asked of an item that is written, but for its length
  abbrev CanBe : Item → Type 0
  CanBe item = IsWritableItem item × HasText item × HasLabelSet item

  unless_empty : (make : List ℕ → Item) (text : List ℕ) → CanBe (make text) → AllByRecursion CanBe (item_unless_empty make text)
  unless_empty make text h = go (is_unit text)
    where
      go : (b : Bool) → AllByRecursion CanBe (cond b (make text ∷ []) [])
      go true = (h, tt)
      go false = tt

  samples_can : (f : Family) → Formed f → AllByRecursion CanBe (map items.Sample (family_samples f))
  unfolding family_samples
  samples_can f h = all-map CanBe items.Sample (flat_map (reading_samples f.kind f.name) f.readings)
      (all-flat (λ s. CanBe (items.Sample s)) (reading_samples f.kind f.name) f.readings
      (all-weaker (λ r. IsFormedReading OpenMetrics treatments.Written f.kind f.name f.unit r) (λ r. AllByRecursion (λ s. CanBe (items.Sample s)) (reading_samples f.kind f.name r))
      (λ r g. all-weaker (λ s. IsFair limit f.kind f.name r.key.labels s × (length s.labels ≤ 66)) (λ s. CanBe (items.Sample s)) (λ s k. (k.0.can, tt, (k.0.set, k.1))) (reading_samples f.kind f.name r)
      (all-both (IsFair limit f.kind f.name r.key.labels) (λ (s : Sample). length s.labels ≤ 66) (reading_samples f.kind f.name r) (fair_reading limit f.name f.kind f.unit r h.name g)
      (recursion_from_All (λ (s : Sample). length s.labels ≤ 66) (reading_samples f.kind f.name r) g.few_labels)))
      f.readings (formed_readings f h)))

  family_can : (f : Family) → Formed f → AllByRecursion CanBe (family_items f)
  unfolding family_items
  family_can f h = (
    (h.name, tt, tt),
    all-append CanBe (item_unless_empty (items.Unit f.name) f.unit) _ (unless_empty (items.Unit f.name) f.unit ((h.name, (unit_facts f h).2), tt, tt))
        (all-append CanBe (item_unless_empty (items.Help f.name) f.help) (map items.Sample (family_samples f)) (unless_empty (items.Help f.name) f.help (h.name, IsUtf8-from_is_utf8 f.help h.help, tt)) (samples_can f h)),
  )

  pub page_can : (fs : List Family) → AllByRecursion Formed fs → AllByRecursion CanBe (page_items fs)
  unfolding page_items
  page_can fs forms = all-append CanBe (flat_map family_items fs) (items.Eof ∷ []) (all-flat CanBe family_items fs (all-weaker Formed (λ f. AllByRecursion CanBe (family_items f)) family_can fs forms)) ((tt, tt, tt), tt)

  are_lines : (is : List Item) → AllByRecursion IsWritableLine is → AreWritableLines is
  are_lines [] h = tt
  are_lines (i ∷ is) h = (h.0, are_lines is h.1)

  pub page_lines : (fs : List Family) → AllByRecursion Formed fs → All (λ (item : Item). length (item_text item) ≤ 262144) (page_items fs) → AreWritableLines (turn (page_items fs) [])
  page_lines fs forms short =
      are_lines (turn (page_items fs) []) (all-turn IsWritableLine (page_items fs) []
      (all-weaker (λ i. CanBe i × (length (item_text i) ≤ 262144)) IsWritableLine (λ i h. record { can = h.0.0; text = h.0.1; labels = h.0.2; short = h.1 }) (page_items fs)
      (all-both CanBe (λ (item : Item). length (item_text item) ≤ 262144) (page_items fs) (page_can fs forms) (recursion_from_All (λ (item : Item). length (item_text item) ≤ 262144) (page_items fs) short))) tt)
