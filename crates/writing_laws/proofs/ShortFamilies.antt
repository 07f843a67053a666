-- Each line that is written of a page of a target has at most twice as many bytes as a line of it may have, and 2,048 more.
use Rattle.std.proofs.Common.{◌≡◌, ℕ, ◌+◌, ◌*◌, ◌≤◌, Bool, true, false, cond, not, ◌||◌, List, [], ◌∷◌, ◌++◌, map, filter_map, reverse, length, codes, Some, None, refl, sym, ap, subst, arith, inl, IfSome}
use Rattle.std.specs.Prelude.{⊤, unwrap_or, nat_lt}
use Rattle.std.specs.List.{list_any, fold, flat_map, AllByRecursion}
use Rattle.std.specs.Str.{bytes_eq}
use Rattle.std.specs.Cmp.Lexicographic.{bytes_decides}
use Rattle.std.proofs.lemmas.Bool.{false_from_ne_true, not-false}
use Rattle.std.proofs.lemmas.Bool.Decides.{nat_tests}
use Rattle.std.proofs.lemmas.List.Elements.{All-from_recursion, recursion_from_All}
use Rattle.label_sets.specs.declared.kind.Kind.{Kind}
use Rattle.label_sets.specs.declared.kind.Kind.TheVariants.{Counter, Histogram, GaugeHistogram, Summary}
use Rattle.label_sets.specs.declared.label_set.LabelSet.{LabelSet}
use Rattle.label_sets.specs.Lists.{first_of_each, first_some}
use Rattle.label_sets.specs.Labels.{label_sets_eq}
use Rattle.label_sets.proofs.Laws.{all-append, all-weaker, all-reverse}
use Rattle.page_model.specs.declared.format.Format.{Format}
use Rattle.page_model.specs.declared.format.Treatment.{Treatment}
use Rattle.page_model.specs.declared.format.Treatment.TheVariants as treatments
use Rattle.page_model.specs.declared.item.Item.{Item}
use Rattle.page_model.specs.declared.item.Item.TheVariants as items
use Rattle.page_model.specs.declared.item.Sample.{Sample}
use Rattle.page_model.specs.declared.page.Reading.{Reading}
use Rattle.page_model.specs.declared.page.Family.{Family}
use Rattle.page_model.specs.declared.page.Page.{Page}
use Rattle.page_model.specs.declared.rule.Rule.TheVariants as rules
use Rattle.page_model.specs.OpenItems.{kind_word}
use Rattle.page_model.specs.Written.{Written, Setting, line_limit, label_limit, item_of}
use Rattle.page_model.specs.Items.{sample_of_line, help_of_line, unit_of_line}
use Rattle.page_model.specs.Suffixes.{suffixes, is_sample_name}
use Rattle.page_model.specs.Owners.{Owned, is_of, kind_of, sample_owner, owner_of, with_owner, owned_lines, samples_of, kept_labels}
use Rattle.page_model.specs.Rules.{has_wrong_suffix}
use Rattle.page_model.specs.Faults.{Line, line_breaks, line_rules, own_fault, with_line, fault_from}
use Rattle.page_model.specs.Readings.{reading_labels, reading_of, readings_of, help_in, unit_in, family_of, families_of, page_of}
use Rattle.page_model.specs.Pages.{Spells, AreLines, AreFaultless, items_of, IsPageOf}
use Rattle.page_model.proofs.Laws.{none_found, kind_of_page}
use Rattle.sample_groups.specs.Sound.{AreSound}
use Rattle.family_rules.proofs.Laws.{fit_lines, sound_samples, reversed_samples, free_lines}
use Rattle.open_writing.specs.Writing.{reading_samples, family_samples, item_unless_empty, family_items, page_items, escaped, sample_text, item_text}
use Rattle.open_writing.specs.Forms.{label_sets_of, IsFormedReading, IsFormedFamily}
use Rattle.writing_laws.specs.WritingLaws.{most_scraped_line, WritesShortLines}
use Rattle.writing_laws.proofs.Turned.{all-map, all-flat}
use Rattle.writing_laws.proofs.ThinnerPages.{some_all, thin_lines}
use Rattle.writing_laws.proofs.ReadItems.{IsFormedSample, IsFormedItem, IsFormedOwned, formed_lines, formed_owned, said_lines}
use Rattle.writing_laws.proofs.ReadFamilies.{sampled, first_holds, samples_hold}
use Rattle.writing_laws.proofs.ReadParts.{kept_reading}
use Rattle.writing_laws.proofs.ReadPages.{firsts_some, some_labels, page_formed}
use Rattle.writing_laws.proofs.ShortLines.{labels_size, IsShortItem, short_written, two, four}
use Rattle.writing_laws.proofs.ShortPages.{labels_weight, kept_weight, without_weight, escaped_length, short_reading}

-- ---- the items of lines

short_line : (st : Setting) (l : Line) (w : Written) → l.says ≡ Some w → Spells st.format l.bytes w → own_fault st l ≡ None → IsShortItem (line_limit st.treatment) (item_of st.format w)
unfolding own_fault line_breaks
short_line st l w says spelled none =
    let long : nat_lt (line_limit st.treatment) (length l.bytes) ≡ false = false_from_ne_true (nat_lt (line_limit st.treatment) (length l.bytes)) (λ e. none_found (line_breaks st l) line_rules none rules.TooLong (inl refl) e) in
    let within : length l.bytes ≤ line_limit st.treatment = grind (arith, nat_tests) in
    short_written st.format (line_limit st.treatment) l.bytes w within spelled

short_lines : (ls : List Line) (pieces : List (List ℕ)) (st : Setting) (earlier : List Item) (n : ℕ) (clean : Bool) → AreLines st.format pieces ls → fault_from st earlier n ls clean ≡ None
    → AllByRecursion (IsShortItem (line_limit st.treatment)) earlier → AllByRecursion (IsShortItem (line_limit st.treatment)) (fold (λ above l. with_line st.format l above) earlier ls)
short_lines ls pieces st = said_lines st (IsShortItem (line_limit st.treatment)) (short_line st) ls pieces

-- ---- owned lines

-- an item of a family, by its texts and the family's name
abbrev IsShortOf : ℕ → List ℕ → Item → Type 0
IsShortOf most family (items.Help name text) = length family + length text ≤ most
IsShortOf most family (items.Unit name unit) = length family + length unit ≤ most
IsShortOf most family (items.Sample s) = length s.name + labels_size s.labels ≤ most
IsShortOf most family (items.KindOf name kind) = ⊤
IsShortOf most family items.Blank = ⊤
IsShortOf most family items.Comment = ⊤
IsShortOf most family items.Eof = ⊤

abbrev IsShortOwned : ℕ → Owned → Type 0
IsShortOwned most o = (length o.family ≤ most) × IsShortOf most o.family o.item

short_owner : (most : ℕ) (f : Format) (above : List Owned) (name : List ℕ) → AllByRecursion (IsShortOwned most) above → length name ≤ most → length (sample_owner f above name) ≤ most
unfolding sample_owner
short_owner most f [] name h short = short
short_owner most f (nearest ∷ above) name h short = go (is_sample_name f (kind_of (nearest ∷ above) nearest.family) nearest.family name)
  where
    go : (b : Bool) → length (cond b nearest.family name) ≤ most
    go true = h.0.0
    go false = short

short_owned : (most : ℕ) (f : Format) (is : List Item) → AllByRecursion (IsShortItem most) is → AllByRecursion (IsShortOwned most) (owned_lines f is)
unfolding owned_lines
short_owned most f [] h = tt
short_owned most f (i ∷ is) h = by i h.0 (short_owned most f is h.1)
  where
    by : (item : Item) → IsShortItem most item → AllByRecursion (IsShortOwned most) (owned_lines f is) → AllByRecursion (IsShortOwned most) (with_owner (owner_of f (owned_lines f is) item) item (owned_lines f is))
    by items.Blank g above = above
    by items.Comment g above = above
    by items.Eof g above = above
    by (items.Help name text) g above = ((omega (arith, g), g), above)
    by (items.KindOf name kind) g above = ((g, tt), above)
    by (items.Unit name unit) g above = ((omega (arith, g), g), above)
    by (items.Sample s) g above = ((short_owner most f (owned_lines f is) s.name above (omega (arith, g)), g), above)

-- ---- families

-- what an item of a family says is short
record SaysShortly (most : ℕ) (family : List ℕ) (item : Item) : Type 0 where
  pub help : IfSome (help_of_line item) (λ text. length family + length text ≤ most)
  pub unit : IfSome (unit_of_line item) (λ text. length family + length text ≤ most)
  pub sample : IfSome (sample_of_line item) (λ s. length s.name + labels_size s.labels ≤ most)

said_shortly : (most : ℕ) (family : List ℕ) (item : Item) → IsShortOf most family item → SaysShortly most family item
said_shortly most family (items.Help name text) g = record { help = g; unit = tt; sample = tt }
said_shortly most family (items.Unit name unit) g = record { help = tt; unit = g; sample = tt }
said_shortly most family (items.Sample s) g = record { help = tt; unit = tt; sample = g }
said_shortly most family _ g = record { help = tt; unit = tt; sample = tt }

module _ (most : ℕ) (family : List ℕ) (named : length family ≤ most) where
  none_short : length family + 0 ≤ most
  none_short = omega (arith, named)

  -- so it is of each line of the family
  each_line : (P : Item → Type 0) → ((item : Item) → SaysShortly most family item → P item) → (lines : List Owned) → AllByRecursion (IsShortOwned most) lines → AllByRecursion (λ o. is_of family o ≡ true → P o.item) lines
  each_line P of lines h =
      all-weaker (IsShortOwned most) (λ o. is_of family o ≡ true → P o.item)
      (λ o g e. of o.item (said_shortly most family o.item (subst (λ n. IsShortOf most n o.item) ((bytes_decides o.family family).0 e) g.1))) lines h

  short_help : (lines : List Owned) → AllByRecursion (IsShortOwned most) lines → length family + length (unwrap_or (first_some (help_in family) lines) []) ≤ most
  short_help lines h =
      first_holds help_of_line family (λ text. length family + length text ≤ most) [] none_short lines
      (each_line (λ item. IfSome (help_of_line item) (λ text. length family + length text ≤ most)) (λ item said. said.help) lines h)

  short_unit : (lines : List Owned) → AllByRecursion (IsShortOwned most) lines → length family + length (unwrap_or (first_some (unit_in family) lines) []) ≤ most
  short_unit lines h =
      first_holds unit_of_line family (λ text. length family + length text ≤ most) [] none_short lines
      (each_line (λ item. IfSome (unit_of_line item) (λ text. length family + length text ≤ most)) (λ item said. said.unit) lines h)

  -- a sample line's name and labels
  abbrev IsShortSample : Sample → Type 0
  IsShortSample s = length s.name + labels_size s.labels ≤ most

  short_samples : (lines : List Owned) → AllByRecursion (IsShortOwned most) lines → AllByRecursion IsShortSample (samples_of lines family)
  short_samples lines h = samples_hold family IsShortSample lines (each_line (λ item. IfSome (sample_of_line item) IsShortSample) (λ item said. said.sample) lines h)

-- ---- readings

-- the labels of a reading are few and short
abbrev HasShortLabels : ℕ → List ℕ → LabelSet → Type 0
HasShortLabels most family labels = (length family + labels_weight labels ≤ 2 * most + 1152) × (length labels ≤ 64)

-- a sample's name begins with its family's
within_name : (family : List ℕ) (s : Sample) (others : List (List ℕ)) → list_any (λ x. bytes_eq s.name (family ++ x)) others ≡ true → length family ≤ length s.name
within_name family s [] h = absurd cc
within_name family s (x ∷ others) h = go (bytes_eq s.name (family ++ x)) refl h (within_name family s others)
  where
    go : (b : Bool) → bytes_eq s.name (family ++ x) ≡ b → (b || list_any (λ x. bytes_eq s.name (family ++ x)) others) ≡ true → (list_any (λ x. bytes_eq s.name (family ++ x)) others ≡ true → length family ≤ length s.name) → length family ≤ length s.name
    go true e k ih = let same = ap length ((bytes_decides s.name (family ++ x)).0 e) in let parts = two family x in omega (arith, same, parts)
    go false e k ih = ih k

labels_within : (st : Setting) (kind : Kind) (family : List ℕ) (s : Sample) → labels_weight (reading_labels st kind family s) ≤ labels_weight (kept_labels st.treatment s.labels)
labels_within st Histogram family s = without_weight (codes "le") (kept_labels st.treatment s.labels)
labels_within st GaugeHistogram family s = without_weight (codes "le") (kept_labels st.treatment s.labels)
labels_within st Summary family s = without_weight (codes "quantile") (kept_labels st.treatment s.labels)
labels_within st _ family s = omega arith

short_labels : (st : Setting) (kind : Kind) (family : List ℕ) (most : ℕ) → label_limit st.treatment ≡ 64 → (ss : List Sample) → AllByRecursion (IsFormedSample st.treatment) ss → AllByRecursion (λ (s : Sample). length s.name + labels_size s.labels ≤ most) ss → AreSound st kind family ss
    → AllByRecursion (λ (s : Sample). HasShortLabels most family (reading_labels st kind family s)) ss
unfolding has_wrong_suffix
short_labels st kind family most scraped [] formed short sound = tt
short_labels st kind family most scraped (s ∷ ss) formed short sound =
    let few = formed.0.few in
    let here = short.0 in
    let weight = kept_weight st.treatment s.labels formed.0.set (omega (arith, few, scraped)) in
    let left = labels_within st kind family s in
    let name = within_name family s (suffixes st.format kind) (not-false (is_sample_name st.format kind family s.name) sound.0.named) in
    let most_labels = (kept_reading st kind family s formed.0).few in
    ((omega (arith, here, weight, left, name), omega (arith, most_labels, scraped)), short_labels st kind family most scraped ss formed.1 short.1 sound.1)

readings_labelled : (P : LabelSet → Type 0) (rs : List Reading) → AllByRecursion P (label_sets_of rs) → AllByRecursion (λ (r : Reading). P r.key.labels) rs
readings_labelled P [] h = tt
readings_labelled P (r ∷ rs) h = (h.0, readings_labelled P rs h.1)

short_readings : (st : Setting) (kind : Kind) (family unit : List ℕ) (most : ℕ) (samples : List Sample) → AllByRecursion (λ (s : Sample). HasShortLabels most family (reading_labels st kind family s)) samples
    → AllByRecursion (λ (r : Reading). HasShortLabels most family r.key.labels) (readings_of st kind family unit samples)
unfolding readings_of
short_readings st kind family unit most samples h =
    let labels : List LabelSet = map (reading_labels st kind family) samples in
    let firsts : List LabelSet = first_of_each label_sets_eq labels in
    let all : AllByRecursion (HasShortLabels most family) labels = all-map (HasShortLabels most family) (reading_labels st kind family) samples h in
    readings_labelled (HasShortLabels most family) (filter_map (reading_of st kind family unit samples) firsts)
    (some_all (HasShortLabels most family) firsts (label_sets_of (filter_map (reading_of st kind family unit samples) firsts)) (some_labels st kind family unit samples firsts)
    (some_all (HasShortLabels most family) labels firsts (firsts_some label_sets_eq labels) all))

-- the names, texts and labels of a family are short
record IsShortFamily (most : ℕ) (f : Family) : Type 0 where
  name : length f.name ≤ most
  help : length f.name + length f.help ≤ most
  unit : length f.name + length f.unit ≤ most
  readings : AllByRecursion (λ (r : Reading). HasShortLabels most f.name r.key.labels) f.readings

short_family : (st : Setting) (earlier : List Item) → label_limit st.treatment ≡ 64 → AllByRecursion (IsFormedItem st.format st.treatment) earlier → AllByRecursion (IsShortItem (line_limit st.treatment)) earlier → AreFaultless st earlier
    → (family : List ℕ) → length family ≤ line_limit st.treatment → IsShortFamily (line_limit st.treatment) (family_of st (reverse (owned_lines st.format earlier)) family)
unfolding family_of
short_family st earlier scraped formed short free family named =
    let most : ℕ = line_limit st.treatment in
    let above : List Owned = owned_lines st.format earlier in
    let lines : List Owned = reverse above in
    let owned : AllByRecursion (IsFormedOwned st.format st.treatment) above = formed_owned st.format st.treatment earlier formed in
    let small : AllByRecursion (IsShortOwned most) above = short_owned most st.format earlier short in
    let turned : AllByRecursion (IsShortOwned most) lines = all-reverse (IsShortOwned most) above small in
    let unit : List ℕ = unwrap_or (first_some (unit_in family) lines) [] in
    let kind_is : kind_of lines family ≡ kind_of above family = kind_of_page st earlier family free in
    let samples_are : samples_of lines family ≡ reverse (samples_of above family) = reversed_samples above family in
    let labels : AllByRecursion (λ (s : Sample). HasShortLabels most family (reading_labels st (kind_of above family) family s)) (samples_of above family) =
    short_labels st (kind_of above family) family most scraped (samples_of above family) (sampled st.format st.treatment family above owned) (short_samples most family named above small) (sound_samples st above family (fit_lines st earlier free)) in
    let rs : AllByRecursion (λ (r : Reading). HasShortLabels most family r.key.labels) (readings_of st (kind_of above family) family unit (reverse (samples_of above family))) =
    short_readings st (kind_of above family) family unit most (reverse (samples_of above family)) (all-reverse (λ (s : Sample). HasShortLabels most family (reading_labels st (kind_of above family) family s)) (samples_of above family) labels) in
    record {
      name = named;
      help = short_help most family named lines turned;
      unit = short_unit most family named lines turned;
      readings = subst (λ (k : Kind). AllByRecursion (λ (r : Reading). HasShortLabels most family r.key.labels) (readings_of st k family unit (samples_of lines family))) (sym kind_is)
          (subst (λ (l : List Sample). AllByRecursion (λ (r : Reading). HasShortLabels most family r.key.labels) (readings_of st (kind_of above family) family unit l)) (sym samples_are) rs);
    }

-- ---- what is written of a family

pub kind_length : (kind : Kind) → length (kind_word kind) ≤ 14
kind_length Counter = omega arith
kind_length _ = omega arith

-- a line of so many bytes at most
abbrev IsShortLine : ℕ → Item → Type 0
IsShortLine most item = length (item_text item) ≤ 2 * most + 2048

type_short : (most : ℕ) (name : List ℕ) (kind : Kind) → length name ≤ most → IsShortLine most (items.KindOf name kind)
unfolding item_text
type_short most name kind h =
    let parts = four (codes "# TYPE ") name (codes " ") (kind_word kind) in
    let front : length (codes "# TYPE ") ≡ 7 = refl in
    let space : length (codes " ") ≡ 1 = refl in
    let word = kind_length kind in
    omega (arith, parts, front, space, word, h)

unit_short : (most : ℕ) (name unit : List ℕ) → length name + length unit ≤ most → AllByRecursion (IsShortLine most) (item_unless_empty (items.Unit name) unit)
unfolding item_text
unit_short most name unit h = go (bytes_eq unit [])
  where
    go : (b : Bool) → AllByRecursion (IsShortLine most) (cond (not b) (items.Unit name unit ∷ []) [])
    go true = tt
    go false =
        let parts = four (codes "# UNIT ") name (codes " ") unit in
        let front : length (codes "# UNIT ") ≡ 7 = refl in
        let space : length (codes " ") ≡ 1 = refl in
        (omega (arith, parts, front, space, h), tt)

help_short : (most : ℕ) (name text : List ℕ) → length name + length text ≤ most → AllByRecursion (IsShortLine most) (item_unless_empty (items.Help name) text)
unfolding item_text
help_short most name text h = go (bytes_eq text [])
  where
    go : (b : Bool) → AllByRecursion (IsShortLine most) (cond (not b) (items.Help name text ∷ []) [])
    go true = tt
    go false =
        let parts = four (codes "# HELP ") name (codes " ") (escaped text) in
        let front : length (codes "# HELP ") ≡ 7 = refl in
        let space : length (codes " ") ≡ 1 = refl in
        let doubled = escaped_length text in
        (omega (arith, parts, front, space, doubled, h), tt)

lines_of_samples : (most : ℕ) (ss : List Sample) → AllByRecursion (λ (s : Sample). length (sample_text s) ≤ 2 * most + 2048) ss → AllByRecursion (IsShortLine most) (map items.Sample ss)
unfolding item_text
lines_of_samples most [] h = tt
lines_of_samples most (s ∷ ss) h = (h.0, lines_of_samples most ss h.1)

samples_short : (most : ℕ) (f : Format) (t : Treatment) (kind : Kind) (family unit : List ℕ) (rs : List Reading) → AllByRecursion (IsFormedReading f t kind family unit) rs → AllByRecursion (λ (r : Reading). HasShortLabels most family r.key.labels) rs
    → AllByRecursion (λ (r : Reading). AllByRecursion (λ (s : Sample). length (sample_text s) ≤ 2 * most + 2048) (reading_samples kind family r)) rs
samples_short most f t kind family unit [] formed short = tt
samples_short most f t kind family unit (r ∷ rs) formed short = (short_reading most f t kind family unit r formed.0 short.0.0 short.0.1, samples_short most f t kind family unit rs formed.1 short.1)

family_short : (most : ℕ) (f : Format) (t : Treatment) (fam : Family) → IsFormedFamily f t fam → IsShortFamily most fam → AllByRecursion (IsShortLine most) (family_items fam)
unfolding family_items family_samples
family_short most f t fam formed short = (
  type_short most fam.name fam.kind short.name,
  all-append (IsShortLine most) (item_unless_empty (items.Unit fam.name) fam.unit) _ (unit_short most fam.name fam.unit short.unit)
      (all-append (IsShortLine most) (item_unless_empty (items.Help fam.name) fam.help) _ (help_short most fam.name fam.help short.help)
      (lines_of_samples most (flat_map (reading_samples fam.kind fam.name) fam.readings)
      (all-flat (λ (s : Sample). length (sample_text s) ≤ 2 * most + 2048) (reading_samples fam.kind fam.name) fam.readings
      (samples_short most f t fam.kind fam.name fam.unit fam.readings (recursion_from_All (IsFormedReading f t fam.kind fam.name fam.unit) fam.readings formed.readings) short.readings)))),
)

families_short : (most : ℕ) (f : Format) (t : Treatment) (fs : List Family) → AllByRecursion (IsFormedFamily f t) fs → AllByRecursion (IsShortFamily most) fs → AllByRecursion (IsShortLine most) (flat_map family_items fs)
families_short most f t [] formed short = tt
families_short most f t (fam ∷ fs) formed short = all-append (IsShortLine most) (family_items fam) (flat_map family_items fs) (family_short most f t fam formed.0 short.0) (families_short most f t fs formed.1 short.1)

-- ---- pages

short_named : (st : Setting) (earlier : List Item) → label_limit st.treatment ≡ 64 → AllByRecursion (IsFormedItem st.format st.treatment) earlier → AllByRecursion (IsShortItem (line_limit st.treatment)) earlier → AreFaultless st earlier
    → (names : List (List ℕ)) → AllByRecursion (λ name. length name ≤ line_limit st.treatment) names → AllByRecursion (IsShortFamily (line_limit st.treatment)) (map (family_of st (reverse (owned_lines st.format earlier))) names)
short_named st earlier scraped formed short free [] h = tt
short_named st earlier scraped formed short free (name ∷ names) h = (short_family st earlier scraped formed short free name h.0, short_named st earlier scraped formed short free names h.1)

short_page : (st : Setting) (earlier : List Item) → label_limit st.treatment ≡ 64 → AllByRecursion (IsFormedItem st.format st.treatment) earlier → AllByRecursion (IsShortItem (line_limit st.treatment)) earlier → AreFaultless st earlier
    → AllByRecursion (IsShortFamily (line_limit st.treatment)) (page_of st earlier).families
unfolding page_of families_of
short_page st earlier scraped formed short free =
    let most : ℕ = line_limit st.treatment in
    let above : List Owned = owned_lines st.format earlier in
    let lines : List Owned = reverse above in
    let all_names : List (List ℕ) = map (λ (o : Owned). o.family) lines in
    let turned : AllByRecursion (IsShortOwned most) lines = all-reverse (IsShortOwned most) above (short_owned most st.format earlier short) in
    short_named st earlier scraped formed short free (first_of_each bytes_eq all_names)
    (some_all (λ name. length name ≤ most) all_names (first_of_each bytes_eq all_names) (firsts_some bytes_eq all_names)
    (all-map (λ name. length name ≤ most) (λ (o : Owned). o.family) lines (all-weaker (IsShortOwned most) (λ (o : Owned). length o.family ≤ most) (λ o h. h.0) lines turned)))

scraped_labels : (t : Treatment) → t ≡ treatments.Scraped → label_limit t ≡ 64
scraped_labels t e = ap label_limit e

scraped_lines : (t : Treatment) → t ≡ treatments.Scraped → line_limit t ≡ 65536
scraped_lines t e = ap line_limit e

-- the lines of the page of a text
whole_short : (st : Setting) (bytes : List ℕ) (page : Page) → st.treatment ≡ treatments.Scraped → IsPageOf st bytes page → AllByRecursion (IsShortLine (line_limit st.treatment)) (flat_map family_items page.families)
whole_short st bytes page scraped is =
    let free = free_lines is.lines st [] 1 _ is.without_fault tt in
    let formed = formed_lines is.lines _ st [] 1 _ is.are_lines is.without_fault tt in
    let short = short_lines is.lines _ st [] 1 _ is.are_lines is.without_fault tt in
    let families : AllByRecursion (IsShortFamily (line_limit st.treatment)) page.families =
    subst (λ (p : Page). AllByRecursion (IsShortFamily (line_limit st.treatment)) p.families) (sym is.page_is) (short_page st (items_of st.format is.lines) (scraped_labels st.treatment scraped) formed short free.0) in
    families_short (line_limit st.treatment) st.format st.treatment page.families (recursion_from_All (IsFormedFamily st.format st.treatment) page.families (page_formed st bytes page is).each) families

end_short : (most : ℕ) → IsShortLine most items.Eof
unfolding item_text
end_short most = let text : length (codes "# EOF") ≡ 5 = refl in omega (arith, text)

pub writes_short_lines : WritesShortLines
unfolding page_items
writes_short_lines st page scraped read =
    let most : ℕ = line_limit st.treatment in
    let limit = scraped_lines st.treatment scraped in
    let whole = whole_short st read.text read.whole scraped read.read in
    let lines = thin_lines (IsShortLine most) read.whole.families page.families read.families whole in
    let all = all-append (IsShortLine most) (flat_map family_items page.families) (items.Eof ∷ []) lines (end_short most, tt) in
    All-from_recursion (λ (item : Item). length (item_text item) ≤ most_scraped_line) (page_items page.families)
    (all-weaker (IsShortLine most) (λ (item : Item). length (item_text item) ≤ most_scraped_line) (λ item h. omega (arith, h, limit)) (page_items page.families) all)
