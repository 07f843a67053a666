-- A family has one descriptor of a sort, so what one line says of it is said by no other line.
use Rattle.std.proofs.Common.{◌≡◌, ℕ, Bool, true, false, cond, ◌&&◌, ◌||◌, List, [], ◌∷◌, Option, Some, None, refl, sym, ap, subst, ◌∙◌, reverse, is_some}
use Rattle.std.specs.List.{list_any}
use Rattle.std.specs.Option.{option_or}
use Rattle.std.specs.Cmp.Lexicographic.{bytes_decides}
use Rattle.std.proofs.lemmas.Bool.{or_parts}
use Rattle.label_sets.specs.Lists.{first_some}
use Rattle.page_model.specs.declared.item.Item.{Item}
use Rattle.page_model.specs.declared.item.Item.TheVariants as items
use Rattle.page_model.specs.Written.{Setting}
use Rattle.page_model.specs.Items.{is_sample, kind_of_line, help_of_line, unit_of_line, are_one_sort, is_descriptor}
use Rattle.page_model.specs.Owners.{Owned, is_of}
use Rattle.page_model.specs.Rules.{is_late_descriptor}
use Rattle.family_rules.proofs.Lists.{first_some-append}
use Rattle.family_rules.proofs.Faults.{AreFit}
use mathlib.Core.List.{reverse-cons}

-- lines that say something are descriptors of one sort
abbrev pub IsOfOneSort : {A : Type 0} → (Item → Option A) → Type 0
IsOfOneSort of_line = (item other : Item) → is_some (of_line item) ≡ true → (is_descriptor item ≡ true) × (are_one_sort item other ≡ is_some (of_line other))

pub help_sort : IsOfOneSort help_of_line
help_sort (items.Help n t) (items.Help m u) some = (refl, refl)
help_sort (items.Help n t) _ some = (refl, refl)
help_sort _ _ some = absurd (let f : false ≡ true = some in cc)

pub kind_sort : IsOfOneSort kind_of_line
kind_sort (items.KindOf n t) (items.KindOf m u) some = (refl, refl)
kind_sort (items.KindOf n t) _ some = (refl, refl)
kind_sort _ _ some = absurd (let f : false ≡ true = some in cc)

pub unit_sort : IsOfOneSort unit_of_line
unit_sort (items.Unit n t) (items.Unit m u) some = (refl, refl)
unit_sort (items.Unit n t) _ some = (refl, refl)
unit_sort _ _ some = absurd (let f : false ≡ true = some in cc)

module _ {A : Type 0} (of_line : Item → Option A) (sort : IsOfOneSort of_line) where
  -- what a line says of a family
  abbrev pub said : List ℕ → Owned → Option A
  said F o = cond (is_of F o) (of_line o.item) None

  -- a descriptor that is not late is the first that says this of its family
  pub said_first : (above : List Owned) (o : Owned) → is_some (of_line o.item) ≡ true → is_late_descriptor above o ≡ false → first_some (said o.family) above ≡ None
  unfolding is_late_descriptor
  said_first above o some late = each above (sym (ap (λ b. b && list_any (λ n. is_of o.family n && (are_one_sort o.item n.item || is_sample n.item)) above) (sort o.item o.item some).0) ∙ late)
    where
      silent : (b s a : Bool) (x : Option A) → s ≡ is_some x → (b && (s || a)) ≡ false → cond b x None ≡ None
      silent false s a x e h = refl
      silent true s a None e h = refl
      silent true s a (Some x) e h = absurd (let f : true ≡ false = ap (λ c. c || a) (sym e) ∙ h in cc)

      each : (above : List Owned) → list_any (λ n. is_of o.family n && (are_one_sort o.item n.item || is_sample n.item)) above ≡ false → first_some (said o.family) above ≡ None
      each [] h = refl
      each (n ∷ above) h =
          let parts = or_parts (is_of o.family n && (are_one_sort o.item n.item || is_sample n.item)) (list_any (λ n. is_of o.family n && (are_one_sort o.item n.item || is_sample n.item)) above) h in
          ap (λ x. option_or x (first_some (said o.family) above)) (silent (is_of o.family n) (are_one_sort o.item n.item) (is_sample n.item) (of_line n.item) (sort o.item n.item some).1 parts.0) ∙ each above parts.1

  -- what is said first from below is said first from above
  pub said_once : (st : Setting) (above : List Owned) (F : List ℕ) → AreFit st above → first_some (said F) (reverse above) ≡ first_some (said F) above
  said_once st [] F fit = refl
  said_once st (o ∷ above) F fit =
      ap (first_some (said F)) (reverse-cons o above) ∙ first_some-append (said F) (reverse above) (o ∷ [])
      ∙ ap (λ r. option_or r (option_or (said F o) None)) (said_once st above F fit.1)
      ∙ join (is_of F o) (of_line o.item) (first_some (said F) above)
      (λ own some. subst (λ G. first_some (said G) above ≡ None) ((bytes_decides o.family F).0 own) (said_first above o some fit.0.descriptor))
    where
      join : (b : Bool) (x rest : Option A) → (b ≡ true → is_some x ≡ true → rest ≡ None) → option_or rest (option_or (cond b x None) None) ≡ option_or (cond b x None) rest
      join false None None h = refl
      join false x None h = refl
      join false x (Some y) h = refl
      join true None None h = refl
      join true None (Some y) h = refl
      join true (Some x) rest h = ap (λ r. option_or r (Some x)) (h refl refl) ∙ sym (ap (λ r. option_or (Some x) r) (h refl refl))
