-- The lines of one family behind any others: the family owns them, and its descriptors break no rule.
use Rattle.std.proofs.Common.{◌≡◌, ℕ, Bool, true, false, not, ◌&&◌, ◌||◌, List, [], ◌∷◌, ◌++◌, map, Some, None, refl, sym, ap, subst, ◌∙◌}
use Rattle.std.specs.Prelude.{⊤}
use Rattle.std.specs.List.{list_any}
use Rattle.std.specs.Str.{bytes_eq}
use Rattle.std.specs.Cmp.Lexicographic.{bytes_decides}
use Rattle.std.proofs.Math.Bool.{and-false}
use Rattle.label_sets.specs.declared.kind.Kind.{Kind}
use Rattle.page_model.specs.declared.format.Format.{Format}
use Rattle.page_model.specs.declared.item.Item.{Item}
use Rattle.page_model.specs.declared.item.Item.TheVariants as items
use Rattle.page_model.specs.declared.item.Sample.{Sample}
use Rattle.page_model.specs.Written.{Setting}
use Rattle.page_model.specs.Items.{is_eof, is_sample, kind_of_line, are_one_sort}
use Rattle.page_model.specs.Suffixes.{is_sample_name}
use Rattle.page_model.specs.Owners.{Owned, is_of, kind_of, sample_owner, with_owner, owned_lines}
use Rattle.page_model.specs.Rules.{is_open_metrics, is_after_eof, is_late_descriptor, is_split, is_bad_unit, has_forbidden_unit, leaves_incomplete, gives_unit, is_info_or_state_set}
use Rattle.page_model.specs.Faults.{owned_breaks, item_breaks, item_fault}

-- a name is itself
pub own_name : (name : List ℕ) → bytes_eq name name ≡ true
own_name name = (bytes_decides name name).1 refl

-- items as lines of this family
abbrev pub own : List ℕ → List Item → List Owned
own family items = map (λ item. record { family = family; item = item }) items

-- ---- a family that goes on

-- the nearest line is of the family, whose kind is this one
pub record GoesOn (family : List ℕ) (kind : Kind) (above : List Owned) : Type 0 where
  pub nearest : Item
  pub others : List Owned
  pub is : above ≡ record { family = family; item = nearest } ∷ others
  pub kind_is : kind_of above family ≡ kind

-- a sample whose name the kind allows is then of the family
pub owned_here : (f : Format) (family : List ℕ) (kind : Kind) (above : List Owned) (name : List ℕ) → GoesOn family kind above → is_sample_name f kind family name ≡ true
    → sample_owner f above name ≡ family
unfolding sample_owner
owned_here f family kind above name g h =
    let at : Owned = record { family = family; item = g.nearest } in
    let fits : is_sample_name f (kind_of (at ∷ g.others) family) family name ≡ true = ap (λ k. is_sample_name f k family name) (ap (λ a. kind_of a family) (sym g.is) ∙ g.kind_is) ∙ h in
    ap (λ a. sample_owner f a name) g.is ∙ rw fits refl

-- no line of the family that declares no kind changes its kind
pub kind_kept : (family : List ℕ) (item : Item) (above : List Owned) → kind_of_line item ≡ None → kind_of (record { family = family; item = item } ∷ above) family ≡ kind_of above family
unfolding kind_of
kind_kept family item above e = rw (own_name family, e) refl

-- and behind such a line it goes on
pub goes_further : (family : List ℕ) (kind : Kind) (item : Item) (above : List Owned) → kind_of_line item ≡ None → GoesOn family kind above → GoesOn family kind (record { family = family; item = item } ∷ above)
goes_further family kind item above e g = record { nearest = item; others = above; is = refl; kind_is = kind_kept family item above e ∙ g.kind_is }

-- a TYPE line begins it
pub begins : (family : List ℕ) (kind : Kind) (above : List Owned) → GoesOn family kind (record { family = family; item = items.KindOf family kind } ∷ above)
unfolding kind_of
begins family kind above = record { nearest = items.KindOf family kind; others = above; is = refl; kind_is = rw (own_name family) refl }

-- ---- its samples

-- each has a name that the kind allows
abbrev pub Fit : Format → List ℕ → Kind → List Sample → Type 0
Fit f family kind [] = ⊤
Fit f family kind (s ∷ ss) = (is_sample_name f kind family s.name ≡ true) × Fit f family kind ss

-- samples of the family, the nearest first, behind lines with which it goes on
pub block : (f : Format) (family : List ℕ) (kind : Kind) (ss : List Sample) (earlier : List Item) → Fit f family kind ss → GoesOn family kind (owned_lines f earlier)
    → (owned_lines f (map items.Sample ss ++ earlier) ≡ own family (map items.Sample ss) ++ owned_lines f earlier) × GoesOn family kind (owned_lines f (map items.Sample ss ++ earlier))
unfolding owned_lines
block f family kind [] earlier fit g = (refl, g)
block f family kind (s ∷ ss) earlier fit g =
    let ih = block f family kind ss earlier fit.1 g in
    let above = owned_lines f (map items.Sample ss ++ earlier) in
    let owner : sample_owner f above s.name ≡ family = owned_here f family kind above s.name ih.1 fit.0 in
    let here : owned_lines f (items.Sample s ∷ (map items.Sample ss ++ earlier)) ≡ record { family = family; item = items.Sample s } ∷ above
    = ap (λ name. with_owner (Some name) (items.Sample s) above) owner in (
      here ∙ ap (λ a. record { family = family; item = items.Sample s } ∷ a) ih.0,
      subst (GoesOn family kind) (sym here) (goes_further family kind (items.Sample s) above refl ih.1),
    )

-- ---- its descriptors

-- a family of this name may begin behind these items
pub record MayBegin (st : Setting) (earlier : List Item) (family : List ℕ) : Type 0 where
  pub no_eof : list_any is_eof earlier ≡ false
  pub new : list_any (is_of family) (owned_lines st.format earlier) ≡ false
  pub complete : leaves_incomplete st (owned_lines st.format earlier) None ≡ false

-- without a line of the family, none of them passes a test
pub none_owned : (family : List ℕ) (test : Owned → Bool) (above : List Owned) → list_any (is_of family) above ≡ false → list_any (λ o. is_of family o && test o) above ≡ false
none_owned family test [] h = refl
none_owned family test (o ∷ above) h = go (is_of family o) h (none_owned family test above)
  where
    go : (b : Bool) → (b || list_any (is_of family) above) ≡ false → (list_any (is_of family) above ≡ false → list_any (λ p. is_of family p && test p) above ≡ false)
        → ((b && test o) || list_any (λ p. is_of family p && test p) above) ≡ false
    go true e ih = absurd cc
    go false e ih = ih e

pub not_behind_eof : (st : Setting) (earlier : List Item) → list_any is_eof earlier ≡ false → is_after_eof st earlier ≡ false
unfolding is_after_eof
not_behind_eof st earlier h = rw h (and-false (is_open_metrics st.format))

not_split : (family : List ℕ) (item : Item) (above : List Owned) → list_any (is_of family) above ≡ false → is_split above (record { family = family; item = item }) ≡ false
unfolding is_split
not_split family item [] h = refl
not_split family item (nearest ∷ above) h = go (is_of family nearest) (list_any (is_of family) above) h
  where
    go : (b c : Bool) → (b || c) ≡ false → (not b && c) ≡ false
    go true c e = refl
    go false c e = e

leaves_whole : (st : Setting) (above : List Owned) (family : List ℕ) → leaves_incomplete st above None ≡ false → leaves_incomplete st above (Some family) ≡ false
unfolding leaves_incomplete
leaves_whole st [] family h = refl
leaves_whole st (nearest ∷ above) family h = rw h (and-false (not (is_of family nearest)))

pub no_unit_yet : (family : List ℕ) (above : List Owned) → list_any (is_of family) above ≡ false → list_any (gives_unit family) above ≡ false
no_unit_yet family above h = none_owned family _ above h

type_unit : (family : List ℕ) (kind : Kind) (above : List Owned) → list_any (is_of family) above ≡ false → is_bad_unit above (record { family = family; item = items.KindOf family kind }) ≡ false
unfolding is_bad_unit has_forbidden_unit
type_unit family kind above h =
    let none : list_any (gives_unit family) (record { family = family; item = items.KindOf family kind } ∷ above) ≡ false = rw (own_name family) (no_unit_yet family above h) in
    rw none (rw (and-false (is_info_or_state_set (kind_of (record { family = family; item = items.KindOf family kind } ∷ above) family))) refl)

-- its TYPE line breaks no rule
pub type_is_free : (st : Setting) (earlier : List Item) (family : List ℕ) (kind : Kind) → MayBegin st earlier family → item_fault st earlier (items.KindOf family kind) ≡ None
unfolding item_fault item_breaks owned_breaks is_late_descriptor
type_is_free st earlier family kind m =
    let above = owned_lines st.format earlier in
    let late : list_any (λ o. is_of family o && (are_one_sort (items.KindOf family kind) o.item || is_sample o.item)) above ≡ false = none_owned family (λ o. are_one_sort (items.KindOf family kind) o.item || is_sample o.item) above m.new in
    rw (not_behind_eof st earlier m.no_eof, late, not_split family (items.KindOf family kind) above m.new, leaves_whole st above family m.complete, type_unit family kind above m.new) refl
