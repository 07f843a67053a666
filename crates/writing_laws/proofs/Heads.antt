-- The descriptors of a written family behind other families break no rule, and its samples may follow.
use Rattle.std.proofs.Common.{◌≡◌, ℕ, ◌+◌, Bool, true, false, not, cond, ◌&&◌, ◌||◌, List, [], ◌∷◌, ◌++◌, map, None, refl, sym, ap, ◌∙◌, append_assoc, arith, subst}
use Rattle.std.specs.Prelude.{count_by}
use Rattle.std.specs.List.{list_any, AllByRecursion}
use Rattle.std.proofs.lemmas.Bool.{or_from}
use Rattle.std.proofs.lemmas.List.Sums.{sum_by-cons}
use Rattle.label_sets.specs.declared.kind.Kind.{Kind}
use Rattle.page_model.specs.declared.format.Format.TheVariants.{OpenMetrics}
use Rattle.page_model.specs.declared.format.Treatment.TheVariants as treatments
use Rattle.page_model.specs.declared.item.Item.{Item}
use Rattle.page_model.specs.declared.item.Item.TheVariants as items
use Rattle.page_model.specs.declared.page.Family.{Family}
use Rattle.page_model.specs.Written.{Setting, open_setting}
use Rattle.page_model.specs.Items.{is_eof, is_sample, are_one_sort, sample_of_line, kind_of_line}
use Rattle.page_model.specs.Owners.{Owned, is_of, kind_of, owned_lines, samples_of}
use Rattle.page_model.specs.Rules.{is_after_eof, is_late_descriptor, is_bad_unit, has_forbidden_unit, is_unit, is_foreign_unit, gives_unit, is_info_or_state_set}
use Rattle.page_model.specs.Faults.{owned_breaks, item_breaks, item_fault}
use Rattle.page_model.specs.Pages.{AreFaultless}
use Rattle.open_writing.specs.Writing.{item_unless_empty, family_samples, family_items}
use Rattle.writing_laws.proofs.Turned.{turn, turn-append, turn-map}
use Rattle.writing_laws.proofs.Blocks.{own, own_name, GoesOn, kind_kept, goes_further, begins, MayBegin, type_is_free, none_owned, not_behind_eof}
use Rattle.writing_laws.proofs.FamilyBlocks.{stays_in, leaves_nothing, with_type, unit_is_free, help_is_free}

and_not : (b : Bool) → (b && not b) ≡ false
and_not true = refl
and_not false = refl

-- a HELP line says nothing of units
help_no_unit : (family text : List ℕ) (above : List Owned) → is_bad_unit above (record { family = family; item = items.Help family text }) ≡ false
unfolding is_bad_unit has_forbidden_unit
help_no_unit family text above =
    let kind = kind_kept family (items.Help family text) above refl in
    rw (kind, own_name family) (and_not (is_info_or_state_set (kind_of above family) && list_any (gives_unit family) above))

help_after_unit : (family unit text : List ℕ) (kind : Kind) (above : List Owned) → list_any (is_of family) above ≡ false
    → is_late_descriptor (record { family = family; item = items.Unit family unit } ∷ record { family = family; item = items.KindOf family kind } ∷ above) (record { family = family; item = items.Help family text }) ≡ false
unfolding is_late_descriptor
help_after_unit family unit text kind above h = rw (own_name family, none_owned family (λ o. are_one_sort (items.Help family text) o.item || is_sample o.item) above h) refl

-- HELP behind TYPE and UNIT
help_behind_unit : (st : Setting) (earlier : List Item) (family unit text : List ℕ) (kind : Kind) → MayBegin st earlier family → item_fault st (items.Unit family unit ∷ with_type family kind earlier) (items.Help family text) ≡ None
unfolding item_fault item_breaks owned_breaks owned_lines
help_behind_unit st earlier family unit text kind m =
    let above = owned_lines st.format earlier in
    let typed : List Owned = record { family = family; item = items.KindOf family kind } ∷ above in
    let no_eof : is_after_eof st (items.Unit family unit ∷ with_type family kind earlier) ≡ false = not_behind_eof st (items.Unit family unit ∷ with_type family kind earlier) m.no_eof in
    rw (no_eof, help_after_unit family unit text kind above m.new, stays_in family (items.Help family text) (items.Unit family unit) typed, leaves_nothing st family (items.Unit family unit) typed, help_no_unit family text (record { family = family; item = items.Unit family unit } ∷ typed)) refl

-- ---- the lines above the samples

-- a family's TYPE, UNIT and HELP
abbrev pub descriptors : Family → List Item
descriptors f = items.KindOf f.name f.kind ∷ (item_unless_empty (items.Unit f.name) f.unit ++ item_unless_empty (items.Help f.name) f.help)

pub family_parts : (f : Family) → family_items f ≡ descriptors f ++ map items.Sample (family_samples f)
unfolding family_items
family_parts f = ap (λ t. items.KindOf f.name f.kind ∷ t) (sym (append_assoc (item_unless_empty (items.Unit f.name) f.unit) (item_unless_empty (items.Help f.name) f.help) (map items.Sample (family_samples f))))

-- a family's items behind others are its samples, the last first, behind its descriptors
pub family_turned : (f : Family) (earlier : List Item) → turn (family_items f) earlier ≡ map items.Sample (turn (family_samples f) []) ++ turn (descriptors f) earlier
family_turned f earlier =
    ap (λ t. turn t earlier) (family_parts f) ∙ turn-append (descriptors f) (map items.Sample (family_samples f)) earlier ∙ turn-map items.Sample (family_samples f) [] (turn (descriptors f) earlier)

-- how it stands behind descriptors of a family, of which there is no sample yet
pub record Stands (st : Setting) (earlier : List Item) (family : List ℕ) (kind : Kind) (above : List Item) : Type 0 where
  pub faultless : AreFaultless st above
  pub no_eof : list_any is_eof above ≡ false
  pub goes : GoesOn family kind (owned_lines st.format above)
  pub none : samples_of (owned_lines st.format above) family ≡ []
  pub count : count_by is_sample above ≡ count_by is_sample earlier

-- the lines above a family's samples, the last first
pub record IsHead (st : Setting) (earlier : List Item) (family : List ℕ) (kind : Kind) (ds : List Item) : Type 0 where
  pub stands : Stands st earlier family kind (turn ds earlier)
  pub owned : owned_lines st.format (turn ds earlier) ≡ turn (own family ds) (owned_lines st.format earlier)
  pub plain : AllByRecursion (λ item. sample_of_line item ≡ None) ds

-- a family that may begin has no samples yet
no_samples : (family : List ℕ) (above : List Owned) → list_any (is_of family) above ≡ false → samples_of above family ≡ []
unfolding samples_of
no_samples family [] h = refl
no_samples family (o ∷ above) h = go (is_of family o) refl h (no_samples family above)
  where
    go : (b : Bool) → is_of family o ≡ b → (b || list_any (is_of family) above) ≡ false → (list_any (is_of family) above ≡ false → samples_of above family ≡ []) → samples_of (o ∷ above) family ≡ []
    go true e k ih = absurd (let g : true ≡ false = k in cc)
    go false e k ih = rw e (ih k)

no_sample : (family : List ℕ) (item : Item) (above : List Owned) → sample_of_line item ≡ None → samples_of above family ≡ [] → samples_of (record { family = family; item = item } ∷ above) family ≡ []
unfolding samples_of
no_sample family item above e h = rw (own_name family, e) h

pub one_more : (item : Item) (earlier : List Item) → is_sample item ≡ false → count_by is_sample (item ∷ earlier) ≡ count_by is_sample earlier
one_more item earlier e =
    let step : count_by is_sample (item ∷ earlier) ≡ cond (is_sample item) 1 0 + count_by is_sample earlier = sum_by-cons (λ x. cond (is_sample x) 1 0) item earlier in
    let zero : ◌≡◌ {A = ℕ} (cond (is_sample item) 1 0) 0 = rw e refl in
    omega (arith, step, zero)

-- one descriptor more
stands_more : (st : Setting) (earlier : List Item) (family : List ℕ) (kind : Kind) (item : Item) (above : List Item) → item_fault st above item ≡ None
    → is_eof item ≡ false → is_sample item ≡ false → kind_of_line item ≡ None → sample_of_line item ≡ None → owned_lines st.format (item ∷ above) ≡ record { family = family; item = item } ∷ owned_lines st.format above
    → Stands st earlier family kind above → Stands st earlier family kind (item ∷ above)
stands_more st earlier family kind item above free goes_on other no_kind nothing owned s = record {
  faultless = (free, s.faultless);
  no_eof = or_from (is_eof item) (list_any is_eof above) goes_on s.no_eof;
  goes = subst (GoesOn family kind) (sym owned) (goes_further family kind item (owned_lines st.format above) no_kind s.goes);
  none = ap (λ ls. samples_of ls family) owned ∙ no_sample family item (owned_lines st.format above) nothing s.none;
  count = one_more item above other ∙ s.count;
}

module _ (limit : ℕ) (earlier : List Item) (f : Family) (free : AreFaultless (open_setting treatments.Written limit) earlier) (m : MayBegin (open_setting treatments.Written limit) earlier f.name)
    (foreign : is_foreign_unit f.name f.unit ≡ false) (allowed : (is_info_or_state_set f.kind && is_unit f.unit) ≡ false) where
  -- how the page is read
  abbrev st : Setting
  st = open_setting treatments.Written limit

  typed : Stands st earlier f.name f.kind (with_type f.name f.kind earlier)
  unfolding owned_lines
  typed = record {
    faultless = (type_is_free st earlier f.name f.kind m, free);
    no_eof = m.no_eof;
    goes = begins f.name f.kind (owned_lines OpenMetrics earlier);
    none = no_sample f.name (items.KindOf f.name f.kind) (owned_lines OpenMetrics earlier) refl (no_samples f.name (owned_lines OpenMetrics earlier) m.new);
    count = one_more (items.KindOf f.name f.kind) earlier refl;
  }

  united : Stands st earlier f.name f.kind (items.Unit f.name f.unit ∷ with_type f.name f.kind earlier)
  unfolding owned_lines
  united = stands_more st earlier f.name f.kind (items.Unit f.name f.unit) (with_type f.name f.kind earlier) (unit_is_free st earlier f.name f.unit f.kind m foreign allowed) refl refl refl refl refl typed

  helped : (above : List Item) → item_fault st above (items.Help f.name f.help) ≡ None → Stands st earlier f.name f.kind above → Stands st earlier f.name f.kind (items.Help f.name f.help ∷ above)
  unfolding owned_lines
  helped above none s = stands_more st earlier f.name f.kind (items.Help f.name f.help) above none refl refl refl refl refl s

  pub head_is : IsHead st earlier f.name f.kind (descriptors f)
  unfolding owned_lines
  head_is = go (is_unit f.unit) (is_unit f.help)
    where
      go : (a b : Bool) → IsHead st earlier f.name f.kind (items.KindOf f.name f.kind ∷ (cond a (items.Unit f.name f.unit ∷ []) [] ++ cond b (items.Help f.name f.help ∷ []) []))
      go false false = record { stands = typed; owned = refl; plain = (refl, tt) }
      go true false = record { stands = united; owned = refl; plain = (refl, (refl, tt)) }
      go false true = record { stands = helped (with_type f.name f.kind earlier) (help_is_free st earlier f.name f.help f.kind m) typed; owned = refl; plain = (refl, (refl, tt)) }
      go true true = record {
        stands = helped (items.Unit f.name f.unit ∷ with_type f.name f.kind earlier) (help_behind_unit st earlier f.name f.unit f.help f.kind m) united;
        owned = refl;
        plain = (refl, (refl, (refl, tt)));
      }
