-- The fault of an item, by the rules that an item of its sort can break, and what the lines above keep.
use Rattle.std.proofs.Common.{◌≡◌, ℕ, Bool, true, false, cond, not, ◌&&◌, ◌||◌, List, [], ◌∷◌, Option, Some, None, refl, sym, ap, subst, ◌∙◌, IfSome, inl}
use Rattle.std.specs.Prelude.{unwrap_or, find, ⊤}
use Rattle.std.specs.List.{list_any, cons_option}
use Rattle.std.specs.Option.{option_or}
use Rattle.std.specs.Str.{bytes_eq}
use Rattle.std.specs.Cmp.Lexicographic.{bytes_decides}
use Rattle.std.proofs.lemmas.Bool.{or_parts}
use Rattle.label_sets.specs.declared.kind.Kind.{Kind}
use Rattle.label_sets.specs.declared.kind.Kind.TheVariants.{Unknown}
use Rattle.label_sets.specs.Lists.{first_some, some_passes}
use Rattle.page_model.specs.declared.item.Item.{Item}
use Rattle.page_model.specs.declared.item.Item.TheVariants as items
use Rattle.page_model.specs.declared.item.Sample.{Sample}
use Rattle.page_model.specs.declared.rule.Rule.{Rule}
use Rattle.page_model.specs.declared.rule.Rule.TheVariants as rules
use Rattle.page_model.specs.Written.{Setting}
use Rattle.page_model.specs.Items.{is_sample, sample_of_line, kind_of_line, unit_of_line, are_one_sort, is_descriptor}
use Rattle.page_model.specs.Owners.{Owned, is_of, declared_kind, kind_of, sample_owner, owner_of, with_owner, owned_lines, samples_of}
use Rattle.page_model.specs.Rules.{is_after_eof, is_late_descriptor, is_split, is_foreign_unit, has_forbidden_unit, is_bad_unit, is_bad_exemplar, is_interleaved, has_wrong_suffix, is_duplicate, has_bad_value, has_bad_threshold, is_out_of_order, is_past_limit, leaves_incomplete}
use Rattle.page_model.specs.Pages.{AreFaultless}
use Rattle.page_model.specs.Faults.{sample_breaks, owned_breaks, item_breaks, item_rules, item_fault}
use Rattle.page_model.proofs.Laws.{none_found}
use Rattle.sample_groups.specs.Sound.{IsSoundSample, AreSound}
use Rattle.family_rules.specs.declared.family.Descriptor.{Descriptor}
use Rattle.family_rules.specs.declared.family.Descriptor.TheVariants as sorts
use Rattle.family_rules.specs.Steps.{line_of}
use Rattle.family_rules.proofs.Lists.{cond_none, bytes_same}

-- ---- what the lines above keep

-- what the lines above keep of a line that breaks no rule
pub record Fits (st : Setting) (above : List Owned) (o : Owned) : Type 0 where
  pub descriptor : is_late_descriptor above o ≡ false
  pub together : is_split above o ≡ false
  pub single : some_passes (is_duplicate st above) (sample_of_line o.item) ≡ false
  pub grouped : IfSome (sample_of_line o.item) (λ s. is_interleaved st (kind_of above o.family) o.family (samples_of above o.family) s ≡ false)
  pub sound : IfSome (sample_of_line o.item) (IsSoundSample st (kind_of above o.family) o.family (samples_of above o.family))
  pub unit : is_bad_unit above o ≡ false

-- each of the owned lines breaks no rule under those above it
abbrev pub AreFit : Setting → List Owned → Type 0
AreFit st [] = ⊤
AreFit st (o ∷ above) = Fits st above o × AreFit st above

-- a family with a sample has no descriptor below it
pub none_above : (above : List Owned) (F : List ℕ) (item : Item) → is_descriptor item ≡ true → is_late_descriptor above (record { family = F; item = item }) ≡ false → samples_of above F ≡ []
unfolding is_late_descriptor samples_of
none_above above F item d h = each above (sym (ap (λ b. b && list_any (λ o. is_of F o && (are_one_sort item o.item || is_sample o.item)) above) d) ∙ h)
  where
    no_sample : (p a : Bool) (other : Item) → (p && (a || is_sample other)) ≡ false → cond p (sample_of_line other) None ≡ None
    no_sample false a other e = refl
    no_sample true true other e = absurd (let f : true ≡ false = e in cc)
    no_sample true false (items.Sample s) e = absurd (let f : true ≡ false = e in cc)
    no_sample true false items.Blank e = refl
    no_sample true false items.Comment e = refl
    no_sample true false items.Eof e = refl
    no_sample true false (items.Help n t) e = refl
    no_sample true false (items.KindOf n k) e = refl
    no_sample true false (items.Unit n u) e = refl

    each : (above : List Owned) → list_any (λ o. is_of F o && (are_one_sort item o.item || is_sample o.item)) above ≡ false → samples_of above F ≡ []
    each [] e = refl
    each (o ∷ above) e =
        let parts = or_parts (is_of F o && (are_one_sort item o.item || is_sample o.item)) (list_any (λ o. is_of F o && (are_one_sort item o.item || is_sample o.item)) above) e in
        ap (λ x. cons_option x (samples_of above F)) (no_sample (is_of F o) (are_one_sort item o.item) o.item parts.0) ∙ each above parts.1

-- what holds of the sample of each fit line, by the kind that its family had then, holds of a family's samples by the
-- kind that it has now: a family with a sample has no descriptor below it
module _ (st : Setting) (Holds : Kind → List ℕ → List Sample → Sample → Type 0) (All : Kind → List ℕ → List Sample → Type 0) (none : (kind : Kind) (F : List ℕ) → All kind F [])
    (more : (kind : Kind) (F : List ℕ) (above : List Sample) (s : Sample) → Holds kind F above s → All kind F above → All kind F (s ∷ above))
    (holds : (above : List Owned) (o : Owned) → Fits st above o → IfSome (sample_of_line o.item) (Holds (kind_of above o.family) o.family (samples_of above o.family))) where
  samples_hold : (above : List Owned) (F : List ℕ) → AreFit st above → All (kind_of above F) F (samples_of above F)
  unfolding kind_of samples_of
  samples_hold [] F fit = none Unknown F
  samples_hold (o ∷ above) F fit = by (is_of F o) o.item refl refl (samples_hold above F fit.1)
    where
      by : (b : Bool) (item : Item) → is_of F o ≡ b → o.item ≡ item → All (kind_of above F) F (samples_of above F)
          → All (unwrap_or (option_or (cond b (kind_of_line item) None) (first_some (declared_kind F) above)) Unknown) F (cons_option (cond b (sample_of_line item) None) (samples_of above F))
      by false item e same ih = ih
      by true items.Blank e same ih = ih
      by true items.Comment e same ih = ih
      by true items.Eof e same ih = ih
      by true (items.Help n t) e same ih = ih
      by true (items.Unit n u) e same ih = ih
      by true (items.KindOf n k) e same ih =
          let late : is_late_descriptor above (record { family = o.family; item = items.KindOf n k }) ≡ false = ap (λ i. is_late_descriptor above (record { family = o.family; item = i })) (sym same) ∙ fit.0.descriptor in
          let no_samples : samples_of above F ≡ [] = ap (samples_of above) (sym ((bytes_decides o.family F).0 e)) ∙ none_above above o.family (items.KindOf n k) refl late in
          subst (All k F) (sym no_samples) (none k F)
      by true (items.Sample s) e same ih =
          let own : IfSome (sample_of_line (items.Sample s)) (Holds (kind_of above o.family) o.family (samples_of above o.family)) =
          subst (λ i. IfSome (sample_of_line i) (Holds (kind_of above o.family) o.family (samples_of above o.family))) same (holds above o fit.0) in
          more (kind_of above F) F (samples_of above F) s (subst (λ G. Holds (kind_of above G) G (samples_of above G) s) ((bytes_decides o.family F).0 e) own) ih

-- the samples of a family break no rule on names, values, thresholds or their order, by the kind that the family has now
pub sound_samples : (st : Setting) (above : List Owned) (F : List ℕ) → AreFit st above → AreSound st (kind_of above F) F (samples_of above F)
sound_samples st = samples_hold st (IsSoundSample st) (AreSound st) (λ kind F. tt) (λ kind F above s h all. (h, all)) (λ above o fits. fits.sound)

-- no sample of these goes back to its group, under those above it
abbrev pub AreTogether : Setting → Kind → List ℕ → List Sample → Type 0
AreTogether st kind family [] = ⊤
AreTogether st kind family (s ∷ above) = (is_interleaved st kind family above s ≡ false) × AreTogether st kind family above

-- nor does one of a family, by the kind that the family has now
pub together_samples : (st : Setting) (above : List Owned) (F : List ℕ) → AreFit st above → AreTogether st (kind_of above F) F (samples_of above F)
together_samples st =
    samples_hold st (λ kind F above s. is_interleaved st kind F above s ≡ false) (AreTogether st) (λ kind F. tt) (λ kind F above s h all. (h, all)) (λ above o fits. fits.grouped)

-- ---- units

-- no family of these lines has a unit that its kind forbids
pub no_forbidden : (st : Setting) (above : List Owned) (F : List ℕ) → AreFit st above → has_forbidden_unit above F ≡ false
unfolding has_forbidden_unit kind_of is_bad_unit
no_forbidden st [] F fit = refl
no_forbidden st (o ∷ above) F fit = by (bytes_eq o.family F) refl (no_forbidden st above F fit.1)
  where
    silent : (item : Item) → is_descriptor item ≡ false → (kind_of_line item ≡ None) × (unit_of_line item ≡ None)
    silent (items.Help n t) h = absurd (let f : true ≡ false = h in cc)
    silent (items.KindOf n t) h = absurd (let f : true ≡ false = h in cc)
    silent (items.Unit n t) h = absurd (let f : true ≡ false = h in cc)
    silent _ h = (refl, refl)

    other : (d g : Bool) → (d && g && not false) ≡ false → d ≡ true → g ≡ false
    other true true h e = absurd (let f : true ≡ false = h in cc)
    other true false h e = refl
    other false g h e = absurd (let f : false ≡ true = e in cc)

    here : (d : Bool) → is_descriptor o.item ≡ d → has_forbidden_unit above o.family ≡ false → has_forbidden_unit (o ∷ above) o.family ≡ false
    here false e ih = let none = silent o.item e in rw (bytes_same o.family, none.0, none.1) ih
    here true e ih =
        let bad = or_parts (some_passes (is_foreign_unit o.family) (unit_of_line o.item)) (is_descriptor o.item && has_forbidden_unit (o ∷ above) o.family && not (has_forbidden_unit above o.family)) fit.0.unit in
        other (is_descriptor o.item) (has_forbidden_unit (o ∷ above) o.family) (rw ih at bad.1) e

    by : (b : Bool) → bytes_eq o.family F ≡ b → has_forbidden_unit above F ≡ false → has_forbidden_unit (o ∷ above) F ≡ false
    by false e ih = rw e ih
    by true e ih =
        let same : o.family ≡ F = (bytes_decides o.family F).0 e in
        subst (λ G. has_forbidden_unit (o ∷ above) G ≡ false) same (here (is_descriptor o.item) refl (subst (λ G. has_forbidden_unit above G ≡ false) (sym same) ih))

-- ---- the fault of an item

-- Value, Threshold or Order, under the samples of the family above it
abbrev pub measure_fault : Setting → Kind → List ℕ → List Sample → Sample → Option Rule
measure_fault st k F samples s = cond (has_bad_value st.format k F s) (Some rules.Value) (cond (has_bad_threshold k F s) (Some rules.Threshold) (cond (is_out_of_order st k F samples s) (Some rules.Order) None))

-- Incomplete
abbrev pub left_fault : Setting → List Owned → Option (List ℕ) → Option Rule
left_fault st above owner = cond (leaves_incomplete st above owner) (Some rules.Incomplete) None

-- Descriptor, Split or Incomplete
abbrev pub place_fault : Setting → List Owned → Owned → Option Rule
place_fault st above line = cond (is_late_descriptor above line) (Some rules.Descriptor) (cond (is_split above line) (Some rules.Split) (left_fault st above (Some line.family)))

-- Unit
abbrev pub unit_fault : List Owned → Owned → Option Rule
unit_fault above line = cond (is_bad_unit above line) (Some rules.Unit) None

-- the rules of a sample of an allowed name
abbrev pub rest_fault : Setting → List Item → List ℕ → Sample → Option Rule
rest_fault st earlier F s = let above = owned_lines st.format earlier in
    cond (is_duplicate st above s) (Some rules.Duplicate)
    (option_or (option_or (measure_fault st (kind_of above F) F (samples_of above F) s) (left_fault st above (Some F))) (cond (is_past_limit st earlier) (Some rules.TooMany) None))

-- the rules of the rest, one behind the other and in three parts
chain : (v t o l p : Bool) → cond v (Some rules.Value) (cond t (Some rules.Threshold) (cond o (Some rules.Order) (cond l (Some rules.Incomplete) (cond p (Some rules.TooMany) None))))
    ≡ option_or (option_or (cond v (Some rules.Value) (cond t (Some rules.Threshold) (cond o (Some rules.Order) None))) (cond l (Some rules.Incomplete) None)) (cond p (Some rules.TooMany) None)
chain true t o l p = refl
chain false true o l p = refl
chain false false true l p = refl
chain false false false true p = refl
chain false false false false p = refl

-- the rules of a place and what stands behind them
chain_unit : (a b c : Bool) (rest : Option Rule) → cond a (Some rules.Descriptor) (cond b (Some rules.Split) (cond c (Some rules.Incomplete) rest)) ≡ option_or (cond a (Some rules.Descriptor) (cond b (Some rules.Split) (cond c (Some rules.Incomplete) None))) rest
chain_unit true b c rest = refl
chain_unit false true c rest = refl
chain_unit false false true rest = refl
chain_unit false false false rest = refl

module _ (st : Setting) (earlier : List Item) (before : is_after_eof st earlier ≡ false) where
  abbrev lines : List Owned
  lines = owned_lines st.format earlier

  all_three : (line : Owned) → cond (is_late_descriptor lines line) (Some rules.Descriptor) (cond (is_split lines line) (Some rules.Split) (cond (leaves_incomplete st lines (Some line.family)) (Some rules.Incomplete) (unit_fault lines line)))
      ≡ option_or (place_fault st lines line) (unit_fault lines line)
  all_three line = chain_unit (is_late_descriptor lines line) (is_split lines line) (leaves_incomplete st lines (Some line.family)) (unit_fault lines line)

  pub described_fault : (F : List ℕ) (d : Descriptor)
      → item_fault st earlier (line_of F d) ≡ option_or (place_fault st lines (record { family = F; item = line_of F d })) (unit_fault lines (record { family = F; item = line_of F d }))
  unfolding item_fault item_breaks owned_breaks
  described_fault F (sorts.Help text) = rw before (all_three (record { family = F; item = items.Help F text }))
  described_fault F (sorts.Type kind) = rw before (all_three (record { family = F; item = items.KindOf F kind }))
  described_fault F (sorts.Unit unit) = rw before (all_three (record { family = F; item = items.Unit F unit }))

  pub sample_fault : (s : Sample) (F : List ℕ) → sample_owner st.format lines s.name ≡ F
      → item_fault st earlier (items.Sample s)
      ≡ cond (is_bad_exemplar (kind_of lines F) F s) (Some rules.Exemplar) (cond (is_split lines (record { family = F; item = items.Sample s })) (Some rules.Split)
      (cond (is_interleaved st (kind_of lines F) F (samples_of lines F) s) (Some rules.Interleaved) (cond (has_wrong_suffix st (kind_of lines F) F s) (Some rules.Suffix) (rest_fault st earlier F s))))
  unfolding item_fault item_breaks owned_breaks sample_breaks is_late_descriptor is_bad_unit
  sample_fault s F owner =
      rw (owner, before)
      (ap (λ r. cond (is_bad_exemplar (kind_of lines F) F s) (Some rules.Exemplar) (cond (is_split lines (record { family = F; item = items.Sample s })) (Some rules.Split)
      (cond (is_interleaved st (kind_of lines F) F (samples_of lines F) s) (Some rules.Interleaved) (cond (has_wrong_suffix st (kind_of lines F) F s) (Some rules.Suffix) (cond (is_duplicate st lines s) (Some rules.Duplicate) r)))))
      (chain (has_bad_value st.format (kind_of lines F) F s) (has_bad_threshold (kind_of lines F) F s) (is_out_of_order st (kind_of lines F) F (samples_of lines F) s)
      (leaves_incomplete st lines (Some F)) (is_past_limit st earlier)))

  pub comment_fault : item_fault st earlier items.Comment ≡ None
  unfolding item_fault item_breaks
  comment_fault = rw before refl

  pub blank_fault : item_fault st earlier items.Blank ≡ None
  unfolding item_fault item_breaks
  blank_fault = rw before refl

  pub eof_fault : item_fault st earlier items.Eof ≡ left_fault st lines None
  unfolding item_fault item_breaks
  eof_fault = rw before refl

-- ---- lines without a fault

after_eof : (st : Setting) (earlier : List Item) (item : Item) → item_breaks st earlier item rules.AfterEof ≡ is_after_eof st earlier
unfolding item_breaks
after_eof st earlier items.Blank = refl
after_eof st earlier _ = refl

-- the rules behind that one
abbrev behind_end : List Rule
behind_end = rules.Descriptor ∷ rules.Exemplar ∷ rules.Split ∷ rules.Interleaved ∷ rules.Suffix ∷ rules.Duplicate ∷ rules.Value ∷ rules.Threshold ∷ rules.Order ∷ rules.Incomplete ∷ rules.Unit ∷ rules.TooMany ∷ []

-- a line behind the end
pub ended_fault : (st : Setting) (earlier : List Item) (item : Item) → is_after_eof st earlier ≡ true → item_fault st earlier item ≡ Some rules.AfterEof
unfolding item_fault
ended_fault st earlier item h = ap (λ b. cond b (Some rules.AfterEof) (find (item_breaks st earlier item) behind_end)) (after_eof st earlier item ∙ h)

-- a line without a fault stands in front of the end
pub goes_on : (st : Setting) (earlier : List Item) (item : Item) → item_fault st earlier item ≡ None → is_after_eof st earlier ≡ false
unfolding item_fault
goes_on st earlier item none = by (is_after_eof st earlier) refl
  where
    first : (item : Item) → item_breaks st earlier item rules.AfterEof ≡ is_after_eof st earlier
    first item = after_eof st earlier item

    by : (b : Bool) → is_after_eof st earlier ≡ b → b ≡ false
    by false e = refl
    by true e = absurd (none_found (item_breaks st earlier item) item_rules none rules.AfterEof (inl refl) (first item ∙ e))

late_sample : (above : List Owned) (F : List ℕ) (s : Sample) → is_late_descriptor above (record { family = F; item = items.Sample s }) ≡ false
unfolding is_late_descriptor
late_sample above F s = refl

option_none : (a b : Option Rule) → option_or a b ≡ None → (a ≡ None) × (b ≡ None)
option_none None b h = (refl, h)
option_none (Some r) b h = absurd (let f : Some r ≡ None = h in cc)

module _ (st : Setting) (earlier : List Item) (before : is_after_eof st earlier ≡ false) (fit : AreFit st (owned_lines st.format earlier)) where
  abbrev above : List Owned
  above = owned_lines st.format earlier

  -- a descriptor without a fault
  fit_described : (F : List ℕ) (d : Descriptor) → item_fault st earlier (line_of F d) ≡ None → Fits st above (record { family = F; item = line_of F d })
  fit_described F d none =
      let line : Owned = record { family = F; item = line_of F d } in
      let faults = option_none (place_fault st above line) (unit_fault above line) (sym (described_fault st earlier before F d) ∙ none) in
      let late = cond_none (is_late_descriptor above line) rules.Descriptor (cond (is_split above line) (Some rules.Split) (left_fault st above (Some F))) faults.0 in
      let split = cond_none (is_split above line) rules.Split (left_fault st above (Some F)) late.1 in
      let unit = cond_none (is_bad_unit above line) rules.Unit None faults.1 in
      by d late.0 split.0 unit.0
    where
      by : (d : Descriptor) → is_late_descriptor above (record { family = F; item = line_of F d }) ≡ false → is_split above (record { family = F; item = line_of F d }) ≡ false
          → is_bad_unit above (record { family = F; item = line_of F d }) ≡ false → Fits st above (record { family = F; item = line_of F d })
      by (sorts.Help t) late split unit = record { descriptor = late; together = split; single = refl; grouped = tt; sound = tt; unit = unit }
      by (sorts.Type k) late split unit = record { descriptor = late; together = split; single = refl; grouped = tt; sound = tt; unit = unit }
      by (sorts.Unit u) late split unit = record { descriptor = late; together = split; single = refl; grouped = tt; sound = tt; unit = unit }

  fit_sample : (s : Sample) (F : List ℕ) → sample_owner st.format above s.name ≡ F → item_fault st earlier (items.Sample s) ≡ None → Fits st above (record { family = F; item = items.Sample s })
  unfolding is_bad_unit
  fit_sample s F owner none =
      let o : Owned = record { family = F; item = items.Sample s } in
      let k : Kind = kind_of above F in
      let exemplar = cond_none (is_bad_exemplar k F s) rules.Exemplar _ (sym (sample_fault st earlier before s F owner) ∙ none) in
      let split = cond_none (is_split above o) rules.Split _ exemplar.1 in
      let back = cond_none (is_interleaved st k F (samples_of above F) s) rules.Interleaved _ split.1 in
      let suffix = cond_none (has_wrong_suffix st k F s) rules.Suffix _ back.1 in
      let double = cond_none (is_duplicate st above s) rules.Duplicate _ suffix.1 in
      let rest = option_none (option_or (measure_fault st k F (samples_of above F) s) (left_fault st above (Some F))) _ double.1 in
      let measure = option_none (measure_fault st k F (samples_of above F) s) (left_fault st above (Some F)) rest.0 in
      let value = cond_none (has_bad_value st.format k F s) rules.Value _ measure.0 in
      let place = cond_none (has_bad_threshold k F s) rules.Threshold _ value.1 in
      let order = cond_none (is_out_of_order st k F (samples_of above F) s) rules.Order _ place.1 in
      record {
        descriptor = late_sample above F s;
        together = split.0;
        single = double.0;
        grouped = back.0;
        sound = record { named = suffix.0; valued = value.0; placed = place.0; ordered = order.0 };
        unit = refl;
      }

  fit_item : (item : Item) → item_fault st earlier item ≡ None → AreFit st (with_owner (owner_of st.format (owned_lines st.format earlier) item) item (owned_lines st.format earlier))
  fit_item (items.Help F t) none = (fit_described F (sorts.Help t) none, fit)
  fit_item (items.KindOf F k) none = (fit_described F (sorts.Type k) none, fit)
  fit_item (items.Unit F u) none = (fit_described F (sorts.Unit u) none, fit)
  fit_item (items.Sample s) none = (fit_sample s (sample_owner st.format (owned_lines st.format earlier) s.name) refl none, fit)
  fit_item _ none = fit

pub fit_lines : (st : Setting) (earlier : List Item) → AreFaultless st earlier → AreFit st (owned_lines st.format earlier)
unfolding owned_lines
fit_lines st [] h = tt
fit_lines st (item ∷ earlier) h = fit_item st earlier (goes_on st earlier item h.0) (fit_lines st earlier h.1) item h.0
