-- What is gathered of pages that texts say can be written.
use Rattle.std.proofs.Common.{◌≡◌, ◌+◌, ◌≤◌, Bool, true, false, cond, List, [], ◌∷◌, ◌++◌, map, filter, reverse, length, codes, refl, sym, ap, subst, ◌∙◌, arith, All, inl, inr}
use Rattle.std.specs.List.{list_any, flat_map, AllByRecursion, IsDistinct}
use Rattle.std.specs.Str.{bytes_eq}
use Rattle.std.proofs.lemmas.Bool.{or_from}
use Rattle.std.proofs.lemmas.List.{map-append}
use Rattle.std.proofs.lemmas.List.Elements.{All-from_recursion, recursion_from_All, filter-append}
use Rattle.std.proofs.lemmas.Grind.{flat_map-append}
use Rattle.label_sets.specs.declared.label_set.LabelSet.{LabelSet}
use Rattle.label_sets.specs.Labels.{label_sets_eq, name_before}
use Rattle.label_sets.proofs.Laws.{sets_decide, all-append, all-front, all-behind, all-reverse, all-weaker}
use Rattle.page_model.specs.declared.format.Format.{Format}
use Rattle.page_model.specs.declared.format.Format.TheVariants.{OpenMetrics}
use Rattle.page_model.specs.declared.format.Treatment.TheVariants.{Scraped, Written}
use Rattle.page_model.specs.declared.item.Item.{Item}
use Rattle.page_model.specs.declared.item.Item.TheVariants as items
use Rattle.page_model.specs.declared.item.Sample.{Sample}
use Rattle.page_model.specs.declared.page.Reading.{Reading}
use Rattle.page_model.specs.declared.page.Family.{Family}
use Rattle.page_model.specs.declared.event.Shown.{Shown}
use Rattle.page_model.specs.PageValues.{PageValue}
use Rattle.page_model.specs.Written.{Setting, line_limit}
use Rattle.page_model.specs.Owners.{group_of}
use Rattle.page_model.specs.Pages.{IsThinnerReading, AreThinnerFamilies, IsPageRead}
use Rattle.page_model.proofs.Laws.{some_filtered}
use Rattle.open_writing.specs.Writing.{reading_samples, family_samples, item_unless_empty, family_items, page_items, item_text, sample_text}
use Rattle.open_writing.specs.FamilyKeys.{family_key, clash, is_one_family}
use Rattle.open_writing.specs.Forms.{IsFormedReading, IsFormedFamily, AreFormed, label_sets_of, stand_together}
use Rattle.open_writing.specs.OpenForms.{IsBareReading, AreWritable}
use Rattle.writing_laws.specs.WritingLaws.{most_scraped_line}
use Rattle.writing_laws.proofs.Laws.{read_pages, reads_back, writables_are_open_forms, kind_in_open, writes_short_lines}
use Rattle.federation_page.specs.Candidates.{with_target, candidates_of, stays}
use Rattle.federation_page.specs.Conflicts.{founders, placed_by_name, sorted_by_name, gathered_by}
use Rattle.federation_page.specs.Gathering.{with_readings_of, gathered_families, federated_page, is_one_target, IsTargetName, IsShowable}
use Rattle.federation_page.specs.Laws.{GatheredAreWritable, GatheredAreOpenForms, GatheredReadBack}
use Rattle.federation_page.proofs.Founders.{gathered_apart, names_apart}
use Rattle.federation_page.proofs.FederatedReadings.{most_target_bytes}
use Rattle.federation_page.proofs.Groups.{together_joined, distinct_joined, targets_differ}
use Rattle.federation_page.proofs.Parts.{IsShort, IsOfTarget, AreOfTarget, IsHead, IsSource, kept_family, all_heads, given}

-- ---- readings of several targets

-- a target whose page is that of a scraped text
pub record IsGoodTarget (s : Shown) : Type 0 where
  pub job : IsTargetName 256 s.job
  pub instance : IsTargetName 262 s.instance
  pub form : Format
  pub sources : AllByRecursion (IsSource form) s.page.families
  pub names : IsDistinct bytes_eq (map (λ (f : Family). f.name) s.page.families)

module _ (x : Family) where
  abbrev one : Family → Bool
  one y = is_one_family (family_key x) (family_key y)

  -- what a target gives the family
  abbrev from_target : Shown → List Reading
  from_target s = flat_map (λ (g : Family). g.readings) (filter one (candidates_of s))

  abbrev Of : Shown → Reading → Type 0
  Of s r = IsOfTarget x.kind x.name x.unit s r

  -- a reading of some target that is another than this
  abbrev OfAnother : Shown → Reading → Type 0
  OfAnother s r = (t : Shown) × (is_one_target s t ≡ false) × Of t r

  abbrev group : LabelSet → LabelSet
  group = group_of x.kind x.name

  given_here : (s : Shown) → IsGoodTarget s → AreOfTarget x.kind x.name x.unit s (from_target s)
  unfolding candidates_of
  given_here s good = given s good.job good.instance good.form x s.page.families good.sources good.names

  given_elsewhere : (s : Shown) (ts : List Shown) → AllByRecursion (λ t. is_one_target s t ≡ false) ts → AllByRecursion IsGoodTarget ts → AllByRecursion (OfAnother s) (flat_map from_target ts)
  given_elsewhere s [] others good = tt
  given_elsewhere s (t ∷ ts) others good =
      all-append (OfAnother s) (from_target t) (flat_map from_target ts) (all-weaker (Of t) (OfAnother s) (λ r h. (t, others.0, h)) (from_target t) (given_here t good.0).each) (given_elsewhere s ts others.1 good.1)

  groups_differ : (s : Shown) (r q : Reading) → Of s r → OfAnother s q → label_sets_eq (group r.key.labels) (group q.key.labels) ≡ false
  groups_differ s r q h k =
      let t : Shown = k.0 in
      ap (λ g. label_sets_eq g (group q.key.labels)) h.group ∙ ap (label_sets_eq (with_target s.job s.instance h.own)) k.2.group
      ∙ targets_differ s.job t.job s.instance t.instance h.own k.2.own k.1 h.are_own k.2.are_own

  sets_differ : (s : Shown) (r q : Reading) → Of s r → OfAnother s q → label_sets_eq r.key.labels q.key.labels ≡ false
  sets_differ s r q h k = go (label_sets_eq r.key.labels q.key.labels) refl
    where
      go : (b : Bool) → label_sets_eq r.key.labels q.key.labels ≡ b → b ≡ false
      go false e = refl
      go true e = absurd (let same : label_sets_eq (group r.key.labels) (group q.key.labels) ≡ true = (sets_decide (group r.key.labels) (group q.key.labels)).1 (ap group ((sets_decide r.key.labels q.key.labels).0 e)) in
          let bad : true ≡ false = sym same ∙ groups_differ s r q h k in cc)

  no_group : (s : Shown) (r : Reading) → Of s r → (qs : List Reading) → AllByRecursion (OfAnother s) qs → list_any (label_sets_eq (group r.key.labels)) (map group (label_sets_of qs)) ≡ false
  no_group s r h [] k = refl
  no_group s r h (q ∷ qs) k = or_from (label_sets_eq (group r.key.labels) (group q.key.labels)) (list_any (label_sets_eq (group r.key.labels)) (map group (label_sets_of qs))) (groups_differ s r q h k.0) (no_group s r h qs k.1)

  no_set : (s : Shown) (r : Reading) → Of s r → (qs : List Reading) → AllByRecursion (OfAnother s) qs → list_any (label_sets_eq r.key.labels) (label_sets_of qs) ≡ false
  no_set s r h [] k = refl
  no_set s r h (q ∷ qs) k = or_from (label_sets_eq r.key.labels q.key.labels) (list_any (label_sets_eq r.key.labels) (label_sets_of qs)) (sets_differ s r q h k.0) (no_set s r h qs k.1)

  no_groups : (s : Shown) (rs qs : List Reading) → AllByRecursion (Of s) rs → AllByRecursion (OfAnother s) qs → AllByRecursion (λ g. list_any (label_sets_eq g) (map group (label_sets_of qs)) ≡ false) (map group (label_sets_of rs))
  no_groups s [] qs h k = tt
  no_groups s (r ∷ rs) qs h k = (no_group s r h.0 qs k, no_groups s rs qs h.1 k)

  no_sets : (s : Shown) (rs qs : List Reading) → AllByRecursion (Of s) rs → AllByRecursion (OfAnother s) qs → AllByRecursion (λ ls. list_any (label_sets_eq ls) (label_sets_of qs) ≡ false) (label_sets_of rs)
  no_sets s [] qs h k = tt
  no_sets s (r ∷ rs) qs h k = (no_set s r h.0 qs k, no_sets s rs qs h.1 k)

  -- what all readings of the family are
  record AreGathered (rs : List Reading) : Type 0 where
    formed : AllByRecursion (IsFormedReading OpenMetrics Written x.kind x.name x.unit) rs
    bare : AllByRecursion IsBareReading rs
    short : AllByRecursion (λ r. AllByRecursion (λ (t : Sample). length (sample_text t) ≤ most_scraped_line + most_target_bytes) (reading_samples x.kind x.name r)) rs
    distinct : IsDistinct label_sets_eq (label_sets_of rs)
    together : stand_together (map group (label_sets_of rs)) ≡ true

  gathered : (shown : List Shown) → IsDistinct is_one_target shown → AllByRecursion IsGoodTarget shown → AreGathered (flat_map from_target shown)
  unfolding IsDistinct stand_together
  gathered [] distinct good = record { formed = tt; bare = tt; short = tt; distinct = tt; together = refl }
  gathered (s ∷ ts) distinct good =
      let here = given_here s good.0 in
      let there = given_elsewhere s ts distinct.0 good.1 in
      let rest = gathered ts distinct.1 good.1 in
      let mine : List Reading = from_target s in
      let theirs : List Reading = flat_map from_target ts in
      record {
        formed = all-append (IsFormedReading OpenMetrics Written x.kind x.name x.unit) mine theirs (all-weaker (Of s) (IsFormedReading OpenMetrics Written x.kind x.name x.unit) (λ r h. h.formed) mine here.each) rest.formed;
        bare = all-append IsBareReading mine theirs (all-weaker (Of s) IsBareReading (λ r h. h.bare) mine here.each) rest.bare;
        short = all-append (λ r. AllByRecursion (λ (t : Sample). length (sample_text t) ≤ most_scraped_line + most_target_bytes) (reading_samples x.kind x.name r)) mine theirs
            (all-weaker (Of s) (λ r. AllByRecursion (λ (t : Sample). length (sample_text t) ≤ most_scraped_line + most_target_bytes) (reading_samples x.kind x.name r)) (λ r h. h.short) mine here.each) rest.short;
        distinct = subst (IsDistinct label_sets_eq) (sym (map-append (λ (r : Reading). r.key.labels) mine theirs)) (distinct_joined label_sets_eq (label_sets_of mine) (label_sets_of theirs) here.distinct rest.distinct (no_sets s mine theirs here.each there));
        together = ap (λ ls. stand_together (map group ls)) (map-append (λ (r : Reading). r.key.labels) mine theirs) ∙ ap stand_together (map-append group (label_sets_of mine) (label_sets_of theirs))
            ∙ together_joined (map group (label_sets_of mine)) (map group (label_sets_of theirs)) here.together rest.together (no_groups s mine theirs here.each there);
      }

  -- the readings of all candidates that are one with it, target by target
  by_targets : (shown : List Shown) → flat_map (λ (g : Family). g.readings) (filter one (flat_map candidates_of shown)) ≡ flat_map from_target shown
  by_targets [] = refl
  by_targets (s ∷ ts) =
      ap (flat_map (λ (g : Family). g.readings)) (filter-append one (candidates_of s) (flat_map candidates_of ts))
      ∙ flat_map-append (λ (g : Family). g.readings) (filter one (candidates_of s)) (filter one (flat_map candidates_of ts))
      ∙ ap (λ rs. from_target s ++ rs) (by_targets ts)

  -- ---- the family

  formed_family : (rs : List Reading) → IsHead x → AreGathered rs → IsFormedFamily OpenMetrics Written (record x { readings = rs })
  formed_family rs head are = record {
    name = head.name;
    kind = kind_in_open x.kind;
    help = head.help;
    unit = head.unit;
    unit_in_format = refl;
    readings = All-from_recursion (IsFormedReading OpenMetrics Written x.kind x.name x.unit) rs are.formed;
    distinct = are.distinct;
    together = are.together;
  }

  short_samples : (ts : List Sample) → AllByRecursion (λ (t : Sample). length (sample_text t) ≤ most_scraped_line + most_target_bytes) ts → AllByRecursion (IsShort (line_limit Written)) (map items.Sample ts)
  unfolding item_text
  short_samples [] h = tt
  short_samples (t ∷ ts) h = (let short = h.0 in let most : length (sample_text t) ≤ 262144 = omega (arith, short) in most, short_samples ts h.1)

  all_samples : (rs : List Reading) → AllByRecursion (λ r. AllByRecursion (λ (t : Sample). length (sample_text t) ≤ most_scraped_line + most_target_bytes) (reading_samples x.kind x.name r)) rs
      → AllByRecursion (λ (t : Sample). length (sample_text t) ≤ most_scraped_line + most_target_bytes) (flat_map (reading_samples x.kind x.name) rs)
  all_samples [] h = tt
  all_samples (r ∷ rs) h = all-append (λ (t : Sample). length (sample_text t) ≤ most_scraped_line + most_target_bytes) (reading_samples x.kind x.name r) (flat_map (reading_samples x.kind x.name) rs) h.0 (all_samples rs h.1)

  short_family : (rs : List Reading) → IsHead x → AreGathered rs → AllByRecursion (IsShort (line_limit Written)) (family_items (record x { readings = rs }))
  unfolding family_items family_samples
  short_family rs head are =
      let samples : List Item = map items.Sample (flat_map (reading_samples x.kind x.name) rs) in (
        head.kind_line,
        all-append (IsShort (line_limit Written)) (item_unless_empty (items.Unit x.name) x.unit) (item_unless_empty (items.Help x.name) x.help ++ samples) head.unit_line
            (all-append (IsShort (line_limit Written)) (item_unless_empty (items.Help x.name) x.help) samples head.help_line (short_samples (flat_map (reading_samples x.kind x.name) rs) (all_samples rs are.short))),
      )

-- ---- all families

all_founders : (P : Family → Type 0) (xs : List Family) → AllByRecursion P xs → AllByRecursion P (founders family_key xs)
unfolding founders
all_founders P [] h = tt
all_founders P (x ∷ xs) h = go (list_any (λ y. clash (family_key y) (family_key x)) (founders family_key xs)) (all_founders P xs h.1)
  where
    go : (b : Bool) → AllByRecursion P (founders family_key xs) → AllByRecursion P (cond b (founders family_key xs) (x ∷ founders family_key xs))
    go true ih = ih
    go false ih = (h.0, ih)

pub all_placed : (P : Family → Type 0) (x : Family) (ys : List Family) → P x → AllByRecursion P ys → AllByRecursion P (placed_by_name family_key x ys)
all_placed P x [] p h = (p, tt)
all_placed P x (y ∷ ys) p h = go (name_before x.name y.name) (all_placed P x ys p h.1)
  where
    go : (b : Bool) → AllByRecursion P (placed_by_name family_key x ys) → AllByRecursion P (cond b (x ∷ y ∷ ys) (y ∷ placed_by_name family_key x ys))
    go true ih = (p, h)
    go false ih = (h.0, ih)

all_sorted : (P : Family → Type 0) (xs : List Family) → AllByRecursion P xs → AllByRecursion P (sorted_by_name family_key xs)
all_sorted P [] h = tt
all_sorted P (x ∷ xs) h = all_placed P x (sorted_by_name family_key xs) h.0 (all_sorted P xs h.1)

module _ (shown : List Shown) (distinct : IsDistinct is_one_target shown) (good : AllByRecursion IsGoodTarget shown) where
  candidate_heads : (ts : List Shown) → AllByRecursion IsGoodTarget ts → AllByRecursion IsHead (flat_map candidates_of ts)
  unfolding candidates_of
  candidate_heads [] h = tt
  candidate_heads (s ∷ ts) h = all-append IsHead (candidates_of s) (flat_map candidates_of ts) (all_heads s h.0.job h.0.instance h.0.form s.page.families h.0.sources) (candidate_heads ts h.1)

  abbrev candidates : List Family
  candidates = flat_map candidates_of shown

  abbrev heads : List Family
  heads = sorted_by_name family_key (founders family_key (reverse candidates))

  abbrev whole : Family → Family
  whole x = with_readings_of x (filter (λ y. is_one_family (family_key x) (family_key y)) candidates)

  are_heads : AllByRecursion IsHead heads
  are_heads = all_sorted IsHead (founders family_key (reverse candidates)) (all_founders IsHead (reverse candidates) (all-reverse IsHead candidates (candidate_heads shown good)))

  readings_gathered : (x : Family) → AreGathered x (whole x).readings
  readings_gathered x = subst (AreGathered x) (sym (by_targets x shown)) (gathered x shown distinct good)

  each_formed : (xs : List Family) → AllByRecursion IsHead xs → AllByRecursion (IsFormedFamily OpenMetrics Written) (map whole xs)
  each_formed [] h = tt
  each_formed (x ∷ xs) h = (formed_family x (whole x).readings h.0 (readings_gathered x), each_formed xs h.1)

  each_bare : (xs : List Family) → AllByRecursion (λ (f : Family). All IsBareReading f.readings) (map whole xs)
  each_bare [] = tt
  each_bare (x ∷ xs) = (All-from_recursion IsBareReading (whole x).readings (readings_gathered x).bare, each_bare xs)

  each_short : (xs : List Family) → AllByRecursion IsHead xs → AllByRecursion (IsShort (line_limit Written)) (flat_map family_items (map whole xs))
  each_short [] h = tt
  each_short (x ∷ xs) h = all-append (IsShort (line_limit Written)) (family_items (whole x)) (flat_map family_items (map whole xs)) (short_family x (whole x).readings h.0 (readings_gathered x)) (each_short xs h.1)

  end_short : AllByRecursion (IsShort (line_limit Written)) (items.Eof ∷ [])
  unfolding item_text
  end_short = (let most : length (codes "# EOF") ≤ 262144 = omega arith in most, tt)

  pub writable_families : AreWritable (gathered_families candidates)
  unfolding gathered_families gathered_by page_items
  writable_families = record {
    formed = record {
      each = All-from_recursion (IsFormedFamily OpenMetrics Written) (map whole heads) (each_formed heads are_heads);
      names = names_apart (gathered_families candidates) (gathered_apart candidates);
    };
    bare = All-from_recursion (λ (f : Family). All IsBareReading f.readings) (map whole heads) (each_bare heads);
    apart = gathered_apart candidates;
    short_lines = All-from_recursion (IsShort (line_limit Written)) (flat_map family_items (map whole heads) ++ items.Eof ∷ [])
        (all-append (IsShort (line_limit Written)) (flat_map family_items (map whole heads)) (items.Eof ∷ []) (each_short heads are_heads) end_short);
  }

-- ---- showable targets

thinner_left : (fs gs : List Family) → AreThinnerFamilies fs gs → AreThinnerFamilies fs (map kept_family gs)
thinner_left [] [] h = tt
thinner_left [] (g ∷ gs) h = absurd h
thinner_left (f ∷ fs) [] h = thinner_left fs [] h
thinner_left (f ∷ fs) (g ∷ gs) (inl h) =
    inl (record { name = h.0.name; kind = h.0.kind; help = h.0.help; unit = h.0.unit; readings = some_filtered IsThinnerReading (stays g.kind) f.readings g.readings h.0.readings }, thinner_left fs gs h.1)
thinner_left (f ∷ fs) (g ∷ gs) (inr h) = inr (thinner_left fs (g ∷ gs) h)

sources_of : (form : Format) (fs : List Family) → AllByRecursion (IsFormedFamily form Scraped) (map kept_family fs) → AllByRecursion (IsShort most_scraped_line) (flat_map family_items (map kept_family fs)) → AllByRecursion (IsSource form) fs
sources_of form [] h k = tt
sources_of form (f ∷ fs) h k = (
  record { formed = h.0; lines = all-front (IsShort most_scraped_line) (family_items (kept_family f)) (flat_map family_items (map kept_family fs)) k },
  sources_of form fs h.1 (all-behind (IsShort most_scraped_line) (family_items (kept_family f)) (flat_map family_items (map kept_family fs)) k),
)

lines_of : (fs : List Family) → All (IsShort most_scraped_line) (page_items fs) → AllByRecursion (IsShort most_scraped_line) (flat_map family_items fs)
unfolding page_items
lines_of fs h = all-front (IsShort most_scraped_line) (flat_map family_items fs) (items.Eof ∷ []) (recursion_from_All (IsShort most_scraped_line) (flat_map family_items fs ++ items.Eof ∷ []) h)

good_target : (s : Shown) → IsShowable s → IsGoodTarget s
good_target s able =
    let st : Setting = able.page.0 in
    let scraped : st.treatment ≡ Scraped = able.page.1 in
    let read : IsPageRead st s.page = able.page.2 in
    let left : PageValue = record { families = map kept_family s.page.families; samples = s.page.samples } in
    let read_left : IsPageRead st left = record { text = read.text; whole = read.whole; read = read.read; families = thinner_left read.whole.families s.page.families read.families; samples = read.samples } in
    let forms : AreFormed st.format Scraped left.families = subst (λ t. AreFormed st.format t left.families) scraped (read_pages st left read_left) in
    record {
      job = able.job;
      instance = able.instance;
      form = st.format;
      sources = sources_of st.format s.page.families (recursion_from_All (IsFormedFamily st.format Scraped) left.families forms.each) (lines_of left.families (writes_short_lines st left scraped read_left));
      names = (read_pages st s.page read).names;
    }

good_targets : (shown : List Shown) → AllByRecursion IsShowable shown → AllByRecursion IsGoodTarget shown
good_targets [] h = tt
good_targets (s ∷ shown) h = (good_target s h.0, good_targets shown h.1)

pub gathered_writable : GatheredAreWritable
unfolding federated_page
gathered_writable shown able = writable_families shown able.distinct (good_targets shown (recursion_from_All IsShowable shown able.each))

-- so some text says it
pub gathered_forms : GatheredAreOpenForms
unfolding federated_page
gathered_forms shown able = writables_are_open_forms (federated_page shown).families (gathered_writable shown able)

-- and its own text reads back as the page
pub gathered_back : GatheredReadBack
unfolding federated_page
gathered_back shown limit able few = reads_back (federated_page shown).families limit (gathered_writable shown able) few
