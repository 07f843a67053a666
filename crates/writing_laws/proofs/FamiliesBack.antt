-- The page of what is written of families: their lines say the families themselves.
use Rattle.std.proofs.Common.{◌≡◌, ℕ, ◌+◌, Bool, true, false, cond, List, [], ◌∷◌, ◌++◌, map, filter, filter_map, length, length-append, reverse, codes, Option, Some, None, option_map, refl, sym, ap, subst, ◌∙◌, arith, All}
use Rattle.std.specs.Prelude.{count_by, unwrap_or}
use Rattle.std.specs.List.{flat_map, AllByRecursion, IsDistinct, cons_option}
use Rattle.std.specs.Option.{option_or}
use Rattle.std.specs.Str.{bytes_eq}
use Rattle.std.proofs.lemmas.List.Elements.{recursion_from_All}
use Rattle.std.proofs.lemmas.List.Sums.{sum_by-cons}
use Rattle.std.specs.Cmp.Lexicographic.{bytes_decides}
use Rattle.label_sets.specs.declared.kind.Kind.{Kind}
use Rattle.label_sets.specs.declared.kind.Kind.TheVariants.{Unknown}
use Rattle.label_sets.specs.declared.label_set.LabelSet.{LabelSet}
use Rattle.label_sets.specs.Lists.{first_of_each, first_some}
use Rattle.label_sets.specs.Names.{is_metric_name}
use Rattle.label_sets.specs.Labels.{label_sets_eq}
use Rattle.label_sets.proofs.Laws.{all-weaker}
use Rattle.page_model.specs.declared.format.Format.TheVariants.{OpenMetrics}
use Rattle.page_model.specs.declared.format.Treatment.TheVariants as treatments
use Rattle.page_model.specs.declared.item.Item.{Item}
use Rattle.page_model.specs.declared.item.Item.TheVariants as items
use Rattle.page_model.specs.declared.item.Sample.{Sample}
use Rattle.page_model.specs.declared.page.Value.{Value}
use Rattle.page_model.specs.declared.page.Reading.{Reading}
use Rattle.page_model.specs.declared.page.Family.{Family}
use Rattle.page_model.specs.Written.{Setting, open_setting}
use Rattle.page_model.specs.Items.{is_sample, kind_of_line, help_of_line, unit_of_line, sample_of_line}
use Rattle.page_model.specs.Owners.{Owned, declared_kind, kind_of, owned_lines, sample_in, samples_of}
use Rattle.page_model.specs.Rules.{is_unit}
use Rattle.page_model.specs.Readings.{key_name, reading_labels, value_with, value_of, stamp_of, exemplars_of, reading_of, readings_of, help_in, unit_in, family_of, families_of, page_of}
use Rattle.open_writing.specs.Writing.{value_samples, reading_samples, item_unless_empty, family_samples, family_items, sample_lines, page_with, number_sample}
use Rattle.open_writing.specs.Forms.{IsFormedReading, IsFormedFamily, label_sets_of}
use Rattle.open_writing.specs.OpenForms.{IsBareReading}
use Rattle.writing_laws.proofs.Among.{all_among}
use Rattle.writing_laws.proofs.Turned.{turn, reverse-turn}
use Rattle.writing_laws.proofs.BlocksBack as lines
use Rattle.writing_laws.proofs.BlocksBack.{Lines, owned_of, lines_in, names_back, said_back}
use Rattle.writing_laws.proofs.ReadingsBack as parts
use Rattle.writing_laws.proofs.ReadingsBack.{Part, samples_in, samples_of_all, AllShare, labels_back, own_back, GiveReadings, readings_back}
use Rattle.writing_laws.proofs.FairParts.{IsFair}
use Rattle.writing_laws.proofs.Fair.{fair_reading}
use Rattle.writing_laws.proofs.ValuesRead.{value_back}
use Rattle.writing_laws.proofs.PagesFree.{reading_filled, owned_page}
use Rattle.writing_laws.proofs.Heads.{descriptors, family_parts, one_more}
use Rattle.page_model.proofs.Laws.{label_sets_decide, no_stamp, none_given}

module _ (limit : ℕ) where
  -- how the page is read
  abbrev st : Setting
  st = open_setting treatments.Written limit

  -- ---- the readings of a family

  module _ (kind : Kind) (family unit : List ℕ) (name : is_metric_name family ≡ true) where
    -- the form of a reading of this family
    abbrev pub Formed : Reading → Type 0
    Formed r = IsFormedReading OpenMetrics treatments.Written kind family unit r

    -- the samples of readings, in parts
    abbrev parts_of : (rs : List Reading) → AllByRecursion Formed rs → List Part
    parts_of [] f = []
    parts_of (r ∷ rs) f = record { labels = r.key.labels; first = (reading_filled kind family unit r f.0).first; others = (reading_filled kind family unit r f.0).others } ∷ parts_of rs f.1

    parts_samples : (rs : List Reading) (f : AllByRecursion Formed rs) → samples_of_all (parts_of rs f) ≡ flat_map (reading_samples kind family) rs
    parts_samples [] f = refl
    parts_samples (r ∷ rs) f =
        ap (λ t. t ++ samples_of_all (parts_of rs f.1)) (sym (reading_filled kind family unit r f.0).is) ∙ ap (λ t. reading_samples kind family r ++ t) (parts_samples rs f.1)

    parts_labels : (rs : List Reading) (f : AllByRecursion Formed rs) → map (λ (p : Part). p.labels) (parts_of rs f) ≡ label_sets_of rs
    parts_labels [] f = refl
    parts_labels (r ∷ rs) f = ap (λ ls. r.key.labels ∷ ls) (parts_labels rs f.1)

    parts_share : (rs : List Reading) (f : AllByRecursion Formed rs) → AllShare st kind family (parts_of rs f)
    parts_share [] f = tt
    parts_share (r ∷ rs) f = (
      subst (AllByRecursion (λ s. reading_labels st kind family s ≡ r.key.labels)) (reading_filled kind family unit r f.0).is
          (all-weaker (IsFair limit kind family r.key.labels) (λ s. reading_labels st kind family s ≡ r.key.labels) (λ s h. h.of) (reading_samples kind family r) (fair_reading limit family kind unit r name f.0)),
      parts_share rs f.1,
    )

    parts_apart : (l : LabelSet) (rs : List Reading) (f : AllByRecursion Formed rs) → AllByRecursion (λ y. label_sets_eq l y ≡ false) (label_sets_of rs) → parts.Apart l (parts_of rs f)
    parts_apart l [] f h = tt
    parts_apart l (r ∷ rs) f h = (h.0, parts_apart l rs f.1 h.1)

    parts_distinct : (rs : List Reading) (f : AllByRecursion Formed rs) → IsDistinct label_sets_eq (label_sets_of rs) → parts.Distinct (parts_of rs f)
    unfolding IsDistinct
    parts_distinct [] f d = tt
    parts_distinct (r ∷ rs) f d = (parts_apart r.key.labels rs f.1 d.0, parts_distinct rs f.1 d.1)

    -- the samples of one of them are a reading
    one_reading : (samples : List Sample) (r : Reading) → Formed r → IsBareReading r → filter (λ s. label_sets_eq (reading_labels st kind family s) r.key.labels) samples ≡ reading_samples kind family r
        → reading_of st kind family unit samples r.key.labels ≡ Some r
    unfolding reading_of reading_samples
    one_reading samples r f bare e =
        let made : List Sample → Option Reading = λ own. option_map (λ value. record {
          key = record { name = key_name OpenMetrics kind family; kind = kind; unit = unit; labels = r.key.labels };
          value = value;
          created = value_with family (codes "_created") own;
          stamp = stamp_of OpenMetrics family own;
          exemplars = exemplars_of kind family own;
        }) (value_of OpenMetrics kind family own) in
        let said = value_back family r.key.labels kind r.value r.created f.value f.created in
        let all : List Sample = value_samples kind family r.key.labels r.value ++ number_sample (family ++ codes "_created") r.key.labels r.created in
        let fair : AllByRecursion (IsFair limit kind family r.key.labels) all = fair_reading limit family kind unit r name f in
        let stamp : stamp_of OpenMetrics family all ≡ None =
        no_stamp OpenMetrics family all (all-weaker (IsFair limit kind family r.key.labels) (λ s. s.stamp ≡ None) (λ s h. h.can.no_stamp) all fair) in
        let exemplars : exemplars_of kind family all ≡ [] =
        none_given kind family all (all-weaker (IsFair limit kind family r.key.labels) (λ s. s.exemplar ≡ None) (λ s h. h.can.no_exemplar) all fair) in
        ap made e
        ∙ ap (option_map (λ (value : Value). record {
          key = record { name = key_name OpenMetrics kind family; kind = kind; unit = unit; labels = r.key.labels };
          value = value;
          created = value_with family (codes "_created") all;
          stamp = stamp_of OpenMetrics family all;
          exemplars = exemplars_of kind family all;
        })) said.0
        ∙ (λ i. Some (record { key = sym f.key i; value = r.value; created = said.1 i; stamp = (stamp ∙ sym bare.no_stamp) i; exemplars = (exemplars ∙ sym bare.no_exemplars) i }))

    gives : (samples : List Sample) (rs : List Reading) (f : AllByRecursion Formed rs) → AllByRecursion IsBareReading rs
        → AllByRecursion (λ p. filter (λ s. label_sets_eq (reading_labels st kind family s) p.labels) samples ≡ samples_in p) (parts_of rs f) → GiveReadings (reading_of st kind family unit samples) rs
    gives samples [] f bare h = tt
    gives samples (r ∷ rs) f bare h = (one_reading samples r f.0 bare.0 (h.0 ∙ sym (reading_filled kind family unit r f.0).is), gives samples rs f.1 bare.1 h.1)

    -- the readings of a family's samples are its readings
    pub readings_are : (rs : List Reading) → AllByRecursion Formed rs → AllByRecursion IsBareReading rs → IsDistinct label_sets_eq (label_sets_of rs) → readings_of st kind family unit (flat_map (reading_samples kind family) rs) ≡ rs
    unfolding readings_of
    readings_are rs f bare d =
        let ps = parts_of rs f in
        let samples = flat_map (reading_samples kind family) rs in
        let joined : samples_of_all ps ≡ samples = parts_samples rs f in
        let distinct = parts_distinct rs f d in
        let share = parts_share rs f in
        let labels : first_of_each label_sets_eq (map (reading_labels st kind family) samples) ≡ label_sets_of rs
        = ap (λ ss. first_of_each label_sets_eq (map (reading_labels st kind family) ss)) (sym joined) ∙ labels_back st kind family ps share distinct ∙ parts_labels rs f in
        let own : AllByRecursion (λ p. filter (λ s. label_sets_eq (reading_labels st kind family s) p.labels) samples ≡ samples_in p) ps
        = all-weaker (λ p. parts.IsAmong p ps) (λ p. filter (λ s. label_sets_eq (reading_labels st kind family s) p.labels) samples ≡ samples_in p)
        (λ p among. ap (filter (λ s. label_sets_eq (reading_labels st kind family s) p.labels)) (sym joined) ∙ own_back st kind family p ps share among) ps (all_among label_sets_eq label_sets_decide (λ (p : Part). p.labels) ps distinct) in
        ap (filter_map (reading_of st kind family unit samples)) labels ∙ readings_back (reading_of st kind family unit samples) rs (gives samples rs f bare own)

  -- ---- what the lines of a family say

  -- the first of a list
  abbrev first_of : {A : Type 0} → List A → Option A
  first_of [] = None
  first_of (x ∷ xs) = Some x

  first_is : {A B : Type 0} (f : A → Option B) (xs : List A) → first_some f xs ≡ first_of (filter_map f xs)
  first_is f [] = refl
  first_is f (x ∷ xs) = go (f x) (first_is f xs)
    where
      go : (o : Option _) → first_some f xs ≡ first_of (filter_map f xs) → option_or o (first_some f xs) ≡ first_of (cons_option o (filter_map f xs))
      go None ih = ih
      go (Some y) ih = refl

  empty_text : (text : List ℕ) → is_unit text ≡ false → [] ≡ text
  empty_text [] e = refl
  empty_text (c ∷ cs) e = absurd (let k : true ≡ false = e in cc)

  no_helps : (ss : List Sample) → filter_map help_of_line (map items.Sample ss) ≡ []
  no_helps [] = refl
  no_helps (s ∷ ss) = no_helps ss

  no_units : (ss : List Sample) → filter_map unit_of_line (map items.Sample ss) ≡ []
  no_units [] = refl
  no_units (s ∷ ss) = no_units ss

  all_samples : (ss : List Sample) → filter_map sample_of_line (map items.Sample ss) ≡ ss
  all_samples [] = refl
  all_samples (s ∷ ss) = ap (λ t. s ∷ t) (all_samples ss)

  -- the lines of a family
  abbrev block_of : Family → Lines
  block_of f = record { name = f.name; first = items.KindOf f.name f.kind; others = item_unless_empty (items.Unit f.name) f.unit ++ (item_unless_empty (items.Help f.name) f.help ++ map items.Sample (family_samples f)) }

  help_said : (f : Family) → unwrap_or (first_of (filter_map help_of_line ((block_of f).first ∷ (block_of f).others))) [] ≡ f.help
  help_said f = go (is_unit f.unit) (is_unit f.help) refl
    where
      go : (a b : Bool) → is_unit f.help ≡ b
          → unwrap_or (first_of (filter_map help_of_line (items.KindOf f.name f.kind ∷ (cond a (items.Unit f.name f.unit ∷ []) [] ++ (cond b (items.Help f.name f.help ∷ []) [] ++ map items.Sample (family_samples f)))))) [] ≡ f.help
      go true true e = refl
      go false true e = refl
      go true false e = ap (λ hs. unwrap_or (first_of hs) []) (no_helps (family_samples f)) ∙ empty_text f.help e
      go false false e = ap (λ hs. unwrap_or (first_of hs) []) (no_helps (family_samples f)) ∙ empty_text f.help e

  unit_said : (f : Family) → unwrap_or (first_of (filter_map unit_of_line ((block_of f).first ∷ (block_of f).others))) [] ≡ f.unit
  unit_said f = go (is_unit f.unit) (is_unit f.help) refl
    where
      go : (a b : Bool) → is_unit f.unit ≡ a
          → unwrap_or (first_of (filter_map unit_of_line (items.KindOf f.name f.kind ∷ (cond a (items.Unit f.name f.unit ∷ []) [] ++ (cond b (items.Help f.name f.help ∷ []) [] ++ map items.Sample (family_samples f)))))) [] ≡ f.unit
      go true b e = refl
      go false true e = ap (λ hs. unwrap_or (first_of hs) []) (no_units (family_samples f)) ∙ empty_text f.unit e
      go false false e = ap (λ hs. unwrap_or (first_of hs) []) (no_units (family_samples f)) ∙ empty_text f.unit e

  samples_said : (f : Family) → filter_map sample_of_line ((block_of f).first ∷ (block_of f).others) ≡ family_samples f
  samples_said f = go (is_unit f.unit) (is_unit f.help)
    where
      go : (a b : Bool) → filter_map sample_of_line (items.KindOf f.name f.kind ∷ (cond a (items.Unit f.name f.unit ∷ []) [] ++ (cond b (items.Help f.name f.help ∷ []) [] ++ map items.Sample (family_samples f)))) ≡ family_samples f
      go true true = all_samples (family_samples f)
      go true false = all_samples (family_samples f)
      go false true = all_samples (family_samples f)
      go false false = all_samples (family_samples f)

  -- ---- families

  -- the form of a family
  abbrev FormedFamily : Family → Type 0
  FormedFamily f = IsFormedFamily OpenMetrics treatments.Written f

  family_back : (f : Family) (bs : List Lines) → lines.IsAmong (block_of f) bs → FormedFamily f → All IsBareReading f.readings → family_of st (lines_in bs) f.name ≡ f
  unfolding family_of kind_of samples_of family_samples
  family_back f bs among form bare =
      let os = lines_in bs in
      let kind : unwrap_or (first_some (declared_kind f.name) os) Unknown ≡ f.kind
      = ap (λ o. unwrap_or o Unknown) (first_is (declared_kind f.name) os ∙ ap first_of (said_back kind_of_line (block_of f) bs among)) in
      let help : unwrap_or (first_some (help_in f.name) os) [] ≡ f.help
      = ap (λ o. unwrap_or o []) (first_is (help_in f.name) os ∙ ap first_of (said_back help_of_line (block_of f) bs among)) ∙ help_said f in
      let unit : unwrap_or (first_some (unit_in f.name) os) [] ≡ f.unit
      = ap (λ o. unwrap_or o []) (first_is (unit_in f.name) os ∙ ap first_of (said_back unit_of_line (block_of f) bs among)) ∙ unit_said f in
      let samples : filter_map (sample_in f.name) os ≡ flat_map (reading_samples f.kind f.name) f.readings = said_back sample_of_line (block_of f) bs among ∙ samples_said f in
      let readings : readings_of st (unwrap_or (first_some (declared_kind f.name) os) Unknown) f.name (unwrap_or (first_some (unit_in f.name) os) []) (filter_map (sample_in f.name) os) ≡ f.readings
      = ap (λ k. readings_of st k f.name (unwrap_or (first_some (unit_in f.name) os) []) (filter_map (sample_in f.name) os)) kind
      ∙ ap (λ u. readings_of st f.kind f.name u (filter_map (sample_in f.name) os)) unit
      ∙ ap (readings_of st f.kind f.name f.unit) samples
      ∙ readings_are f.kind f.name f.unit form.name f.readings (recursion_from_All _ f.readings form.readings) (recursion_from_All IsBareReading f.readings bare) form.distinct in
      λ i. record { name = f.name; kind = kind i; help = help i; unit = unit i; readings = readings i }

  families_back : (fs : List Family) (bs : List Lines) → AllByRecursion (λ b. lines.IsAmong b bs) (map block_of fs) → AllByRecursion FormedFamily fs → AllByRecursion (λ (f : Family). All IsBareReading f.readings) fs
      → map (family_of st (lines_in bs)) (map (λ (b : Lines). b.name) (map block_of fs)) ≡ fs
  families_back [] bs among form bare = refl
  families_back (f ∷ fs) bs among form bare =
      ap (λ g. g ∷ map (family_of st (lines_in bs)) (map (λ (b : Lines). b.name) (map block_of fs))) (family_back f bs among.0 form.0 bare.0) ∙ ap (λ gs. f ∷ gs) (families_back fs bs among.1 form.1 bare.1)

  blocks_apart : (name : List ℕ) (fs : List Family) → AllByRecursion (λ y. bytes_eq name y ≡ false) (map (λ (f : Family). f.name) fs) → lines.Apart name (map block_of fs)
  blocks_apart name [] h = tt
  blocks_apart name (f ∷ fs) h = (h.0, blocks_apart name fs h.1)

  blocks_distinct : (fs : List Family) → IsDistinct bytes_eq (map (λ (f : Family). f.name) fs) → lines.Distinct (map block_of fs)
  unfolding IsDistinct
  blocks_distinct [] d = tt
  blocks_distinct (f ∷ fs) d = (blocks_apart f.name fs d.0, blocks_distinct fs d.1)

  page_blocks : (fs : List Family) → owned_page limit fs ≡ lines_in (map block_of fs)
  unfolding family_items
  page_blocks [] = refl
  page_blocks (f ∷ fs) = ap (λ os. owned_of (block_of f) ++ os) (page_blocks fs)

  -- ---- how many samples

  counted-append : (xs ys : List Item) → count_by is_sample (xs ++ ys) ≡ count_by is_sample xs + count_by is_sample ys
  counted-append [] ys = omega arith
  counted-append (x ∷ xs) ys =
      let left : count_by is_sample (x ∷ (xs ++ ys)) ≡ cond (is_sample x) 1 0 + count_by is_sample (xs ++ ys) = sum_by-cons (λ i. cond (is_sample i) 1 0) x (xs ++ ys) in
      let right : count_by is_sample (x ∷ xs) ≡ cond (is_sample x) 1 0 + count_by is_sample xs = sum_by-cons (λ i. cond (is_sample i) 1 0) x xs in
      let ih = counted-append xs ys in
      omega (arith, left, right, ih)

  counted-turn : (xs ys : List Item) → count_by is_sample (turn xs ys) ≡ count_by is_sample xs + count_by is_sample ys
  counted-turn [] ys = omega arith
  counted-turn (x ∷ xs) ys =
      let left : count_by is_sample (x ∷ ys) ≡ cond (is_sample x) 1 0 + count_by is_sample ys = sum_by-cons (λ i. cond (is_sample i) 1 0) x ys in
      let right : count_by is_sample (x ∷ xs) ≡ cond (is_sample x) 1 0 + count_by is_sample xs = sum_by-cons (λ i. cond (is_sample i) 1 0) x xs in
      let ih = counted-turn xs (x ∷ ys) in
      omega (arith, left, right, ih)

  counted-samples : (ss : List Sample) → count_by is_sample (map items.Sample ss) ≡ length ss
  counted-samples [] = refl
  counted-samples (s ∷ ss) =
      let one : count_by is_sample (items.Sample s ∷ map items.Sample ss) ≡ 1 + count_by is_sample (map items.Sample ss) = sum_by-cons (λ i. cond (is_sample i) 1 0) (items.Sample s) (map items.Sample ss) in
      let ih = counted-samples ss in
      omega (arith, one, ih)

  counted-descriptors : (f : Family) → count_by is_sample (descriptors f) ≡ 0
  counted-descriptors f = go (is_unit f.unit) (is_unit f.help)
    where
      go : (a b : Bool) → count_by is_sample (items.KindOf f.name f.kind ∷ (cond a (items.Unit f.name f.unit ∷ []) [] ++ cond b (items.Help f.name f.help ∷ []) [])) ≡ 0
      go false false = refl
      go true false = refl
      go false true = refl
      go true true = refl

  counted-family : (f : Family) → count_by is_sample (family_items f) ≡ length (family_samples f)
  counted-family f =
      let parts = ap (count_by is_sample) (family_parts f) in
      let both = counted-append (descriptors f) (map items.Sample (family_samples f)) in
      let none = counted-descriptors f in
      let own = counted-samples (family_samples f) in
      omega (arith, parts, both, none, own)

  counted-families : (fs : List Family) → count_by is_sample (flat_map family_items fs) ≡ length (flat_map family_samples fs)
  counted-families [] = refl
  counted-families (f ∷ fs) =
      let both = counted-append (family_items f) (flat_map family_items fs) in
      let own = counted-family f in
      let ih = counted-families fs in
      let sizes = length-append (family_samples f) (flat_map family_samples fs) in
      omega (arith, both, own, ih, sizes)

  -- the page of the items of families that can be written is their page
  pub page_back : (fs : List Family) → AllByRecursion FormedFamily fs → AllByRecursion (λ (f : Family). All IsBareReading f.readings) fs → IsDistinct bytes_eq (map (λ (f : Family). f.name) fs)
      → owned_lines OpenMetrics (turn (flat_map family_items fs) []) ≡ turn (owned_page limit fs) []
      → page_of st (items.Eof ∷ turn (flat_map family_items fs) []) ≡ page_with fs
  unfolding page_of families_of owned_lines sample_lines
  page_back fs forms bare distinct owned =
      let bs = map block_of fs in
      let all : reverse (owned_lines OpenMetrics (turn (flat_map family_items fs) [])) ≡ lines_in bs = ap reverse owned ∙ reverse-turn (owned_page limit fs) [] ∙ page_blocks fs in
      let blocks = blocks_distinct fs distinct in
      let families : map (family_of st (lines_in bs)) (first_of_each bytes_eq (map (λ (o : Owned). o.family) (lines_in bs))) ≡ fs
      = ap (map (family_of st (lines_in bs))) (names_back bs blocks) ∙ families_back fs bs (all_among bytes_eq bytes_decides (λ (b : Lines). b.name) bs blocks) forms bare in
      let count : count_by is_sample (items.Eof ∷ turn (flat_map family_items fs) []) ≡ length (flat_map family_samples fs)
      = one_more items.Eof (turn (flat_map family_items fs) []) refl ∙ (let turned = counted-turn (flat_map family_items fs) [] in let own = counted-families fs in omega (arith, turned, own)) in
      let read : map (family_of st (reverse (owned_lines OpenMetrics (turn (flat_map family_items fs) [])))) (first_of_each bytes_eq (map (λ (o : Owned). o.family) (reverse (owned_lines OpenMetrics (turn (flat_map family_items fs) []))))) ≡ fs
      = ap (λ os. map (family_of st os) (first_of_each bytes_eq (map (λ (o : Owned). o.family) os))) all ∙ families in
      λ i. record { families = read i; samples = count i }
