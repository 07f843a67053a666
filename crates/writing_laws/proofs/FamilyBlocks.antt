-- All lines of one family behind any others break no rule, where each of its samples keeps the rules on samples.
use Rattle.std.proofs.Common.{◌≡◌, ℕ, Bool, true, false, not, ◌&&◌, ◌||◌, List, [], ◌∷◌, ◌++◌, map, Some, None, refl, ap, ◌∙◌}
use Rattle.std.specs.Prelude.{⊤, nat_le, count_by}
use Rattle.std.specs.List.{list_any}
use Rattle.label_sets.specs.declared.kind.Kind.{Kind}
use Rattle.page_model.specs.declared.item.Item.{Item}
use Rattle.page_model.specs.declared.item.Item.TheVariants as items
use Rattle.page_model.specs.declared.item.Sample.{Sample}
use Rattle.page_model.specs.Written.{Setting}
use Rattle.page_model.specs.Items.{is_eof, is_sample, are_one_sort}
use Rattle.page_model.specs.Suffixes.{is_sample_name}
use Rattle.page_model.specs.Owners.{Owned, is_of, kind_of, sample_owner, owned_lines, samples_of}
use Rattle.page_model.specs.Rules.{is_after_eof, is_late_descriptor, is_split, is_bad_unit, has_forbidden_unit, leaves_incomplete, is_unit, is_foreign_unit, is_info_or_state_set, is_bad_exemplar, is_interleaved, has_wrong_suffix, is_duplicate, has_bad_value, has_bad_threshold, is_out_of_order, is_past_limit}
use Rattle.page_model.specs.Faults.{sample_breaks, owned_breaks, item_breaks, item_fault}
use Rattle.page_model.specs.Pages.{AreFaultless}
use Rattle.writing_laws.proofs.Blocks.{own_name, GoesOn, owned_here, Fit, block, MayBegin, none_owned, not_behind_eof, no_unit_yet}

-- ---- a sample

-- what the rules on samples ask of a sample of a family of this kind, behind the lines above; its exemplar is none
pub record IsFree (st : Setting) (earlier : List Item) (family : List ℕ) (kind : Kind) (s : Sample) : Type 0 where
  pub named : is_sample_name st.format kind family s.name ≡ true
  pub no_exemplar : s.exemplar ≡ None
  pub together : is_interleaved st kind family (samples_of (owned_lines st.format earlier) family) s ≡ false
  pub new : is_duplicate st (owned_lines st.format earlier) s ≡ false
  pub value : has_bad_value st.format kind family s ≡ false
  pub threshold : has_bad_threshold kind family s ≡ false
  pub order : is_out_of_order st kind family (samples_of (owned_lines st.format earlier) family) s ≡ false
  pub few : nat_le st.limit (count_by is_sample earlier) ≡ false

no_bad_exemplar : (kind : Kind) (family : List ℕ) (s : Sample) → s.exemplar ≡ None → is_bad_exemplar kind family s ≡ false
unfolding is_bad_exemplar
no_bad_exemplar kind family s e = rw e refl

right_suffix : (st : Setting) (kind : Kind) (family : List ℕ) (s : Sample) → is_sample_name st.format kind family s.name ≡ true → has_wrong_suffix st kind family s ≡ false
unfolding has_wrong_suffix
right_suffix st kind family s e = rw e refl

pub within_limit : (st : Setting) (earlier : List Item) → nat_le st.limit (count_by is_sample earlier) ≡ false → is_past_limit st earlier ≡ false
unfolding is_past_limit
within_limit st earlier e = e

pub stays_in : (family : List ℕ) (item nearest : Item) (others : List Owned) → is_split (record { family = family; item = nearest } ∷ others) (record { family = family; item = item }) ≡ false
unfolding is_split
stays_in family item nearest others = rw (own_name family) refl

pub leaves_nothing : (st : Setting) (family : List ℕ) (nearest : Item) (others : List Owned) → leaves_incomplete st (record { family = family; item = nearest } ∷ others) (Some family) ≡ false
unfolding leaves_incomplete
leaves_nothing st family nearest others = rw (own_name family) refl

no_unit_line : (above : List Owned) (family : List ℕ) (s : Sample) → is_bad_unit above (record { family = family; item = items.Sample s }) ≡ false
unfolding is_bad_unit
no_unit_line above family s = refl

no_descriptor : (above : List Owned) (family : List ℕ) (s : Sample) → is_late_descriptor above (record { family = family; item = items.Sample s }) ≡ false
unfolding is_late_descriptor
no_descriptor above family s = refl

-- a sample with which its family goes on breaks no rule
pub sample_is_free : (st : Setting) (earlier : List Item) (family : List ℕ) (kind : Kind) (s : Sample) → list_any is_eof earlier ≡ false → GoesOn family kind (owned_lines st.format earlier) → IsFree st earlier family kind s
    → item_fault st earlier (items.Sample s) ≡ None
unfolding item_fault item_breaks owned_breaks sample_breaks
sample_is_free st earlier family kind s no_eof g free =
    let above = owned_lines st.format earlier in
    let owner : sample_owner st.format above s.name ≡ family = owned_here st.format family kind above s.name g free.named in
    let split : is_split above (record { family = family; item = items.Sample s }) ≡ false = ap (λ a. is_split a (record { family = family; item = items.Sample s })) g.is ∙ stays_in family (items.Sample s) g.nearest g.others in
    let left : leaves_incomplete st above (Some family) ≡ false = ap (λ a. leaves_incomplete st a (Some family)) g.is ∙ leaves_nothing st family g.nearest g.others in
    rw (not_behind_eof st earlier no_eof, owner, g.kind_is, no_descriptor above family s, no_bad_exemplar kind family s free.no_exemplar, split, free.together, right_suffix st kind family s free.named, free.new, free.value, free.threshold, free.order, left, no_unit_line above family s, within_limit st earlier free.few) refl

-- ---- samples one behind the other

-- each keeps the rules behind those above it, the nearest first
abbrev pub AreFree : Setting → List Item → List ℕ → Kind → List Sample → Type 0
AreFree st earlier family kind [] = ⊤
AreFree st earlier family kind (s ∷ ss) = IsFree st (map items.Sample ss ++ earlier) family kind s × AreFree st earlier family kind ss

pub fit_of : (st : Setting) (earlier : List Item) (family : List ℕ) (kind : Kind) (ss : List Sample) → AreFree st earlier family kind ss → Fit st.format family kind ss
fit_of st earlier family kind [] h = tt
fit_of st earlier family kind (s ∷ ss) h = (h.0.named, fit_of st earlier family kind ss h.1)

pub no_eof_behind : (ss : List Sample) (earlier : List Item) → list_any is_eof earlier ≡ false → list_any is_eof (map items.Sample ss ++ earlier) ≡ false
no_eof_behind [] earlier h = h
no_eof_behind (s ∷ ss) earlier h = no_eof_behind ss earlier h

-- the samples of a family behind lines without a fault
pub samples_are_free : (st : Setting) (earlier : List Item) (family : List ℕ) (kind : Kind) (ss : List Sample) → list_any is_eof earlier ≡ false → GoesOn family kind (owned_lines st.format earlier)
    → AreFaultless st earlier → AreFree st earlier family kind ss → AreFaultless st (map items.Sample ss ++ earlier)
samples_are_free st earlier family kind [] no_eof g f h = f
samples_are_free st earlier family kind (s ∷ ss) no_eof g f h =
    let before = block st.format family kind ss earlier (fit_of st earlier family kind ss h.1) g in
    (sample_is_free st (map items.Sample ss ++ earlier) family kind s (no_eof_behind ss earlier no_eof) before.1 h.0, samples_are_free st earlier family kind ss no_eof g f h.1)

-- ---- UNIT and HELP

-- the TYPE line of a family behind the others
abbrev pub with_type : List ℕ → Kind → List Item → List Item
with_type family kind earlier = items.KindOf family kind ∷ earlier

-- the unit is one that the family's kind allows and that its name ends with
pub unit_is_right : (family unit : List ℕ) (kind : Kind) (above : List Owned) → list_any (is_of family) above ≡ false → is_foreign_unit family unit ≡ false → (is_info_or_state_set kind && is_unit unit) ≡ false
    → is_bad_unit (record { family = family; item = items.KindOf family kind } ∷ above) (record { family = family; item = items.Unit family unit }) ≡ false
unfolding is_bad_unit has_forbidden_unit kind_of
unit_is_right family unit kind above h foreign allowed =
    rw (own_name family, foreign, no_unit_yet family above h) (by (is_info_or_state_set kind) (is_unit unit) allowed)
  where
    by : (a b : Bool) → (a && b) ≡ false → (a && (b || false) && not (a && false)) ≡ false
    by true true e = absurd cc
    by true false e = refl
    by false b e = refl

pub unit_is_free : (st : Setting) (earlier : List Item) (family unit : List ℕ) (kind : Kind) → MayBegin st earlier family → is_foreign_unit family unit ≡ false → (is_info_or_state_set kind && is_unit unit) ≡ false
    → item_fault st (with_type family kind earlier) (items.Unit family unit) ≡ None
unfolding item_fault item_breaks owned_breaks is_late_descriptor owned_lines
unit_is_free st earlier family unit kind m foreign allowed =
    let above = owned_lines st.format earlier in
    let late : list_any (λ o. is_of family o && (are_one_sort (items.Unit family unit) o.item || is_sample o.item)) above ≡ false = none_owned family (λ o. are_one_sort (items.Unit family unit) o.item || is_sample o.item) above m.new in
    let no_eof : is_after_eof st (with_type family kind earlier) ≡ false = not_behind_eof st (with_type family kind earlier) m.no_eof in
    rw (no_eof, own_name family, late, stays_in family (items.Unit family unit) (items.KindOf family kind) above, leaves_nothing st family (items.KindOf family kind) above, unit_is_right family unit kind above m.new foreign allowed) refl

help_after : (family text : List ℕ) (kind : Kind) (above : List Owned) → list_any (is_of family) above ≡ false
    → is_late_descriptor (record { family = family; item = items.KindOf family kind } ∷ above) (record { family = family; item = items.Help family text }) ≡ false
unfolding is_late_descriptor
help_after family text kind above h = rw (own_name family, none_owned family (λ o. are_one_sort (items.Help family text) o.item || is_sample o.item) above h) refl

no_unit_in_help : (family text : List ℕ) (kind : Kind) (above : List Owned) → list_any (is_of family) above ≡ false
    → is_bad_unit (record { family = family; item = items.KindOf family kind } ∷ above) (record { family = family; item = items.Help family text }) ≡ false
unfolding is_bad_unit has_forbidden_unit
no_unit_in_help family text kind above h = rw (own_name family, no_unit_yet family above h) (none (is_info_or_state_set _) (is_info_or_state_set _))
  where
    none : (a b : Bool) → (a && false && not (b && false)) ≡ false
    none true b = refl
    none false b = refl

-- HELP behind TYPE, where there is no UNIT
pub help_is_free : (st : Setting) (earlier : List Item) (family text : List ℕ) (kind : Kind) → MayBegin st earlier family → item_fault st (with_type family kind earlier) (items.Help family text) ≡ None
unfolding item_fault item_breaks owned_breaks owned_lines
help_is_free st earlier family text kind m =
    let above = owned_lines st.format earlier in
    let no_eof : is_after_eof st (with_type family kind earlier) ≡ false = not_behind_eof st (with_type family kind earlier) m.no_eof in
    rw (no_eof, help_after family text kind above m.new, stays_in family (items.Help family text) (items.KindOf family kind) above, leaves_nothing st family (items.KindOf family kind) above, no_unit_in_help family text kind above m.new) refl
