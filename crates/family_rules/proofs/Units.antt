-- What is kept of a family answers rule Unit.
use Rattle.std.proofs.Common.{◌≡◌, ℕ, Bool, true, false, cond, not, ◌&&◌, ◌||◌, List, [], ◌∷◌, Option, Some, None, refl, sym, ap, subst, ◌∙◌, is_some}
use Rattle.std.specs.List.{list_any}
use Rattle.std.specs.Option.{option_or}
use Rattle.std.specs.Str.{bytes_eq}
use Rattle.std.specs.Cmp.Lexicographic.{bytes_decides}
use Rattle.std.proofs.Math.Bool.{or-false}
use Rattle.label_sets.specs.Lists.{first_some, some_passes}
use Rattle.page_model.specs.Written.{Setting}
use Rattle.page_model.specs.Items.{unit_of_line}
use Rattle.page_model.specs.Readings.{unit_in}
use Rattle.page_model.specs.Owners.{Owned, kind_of}
use Rattle.page_model.specs.Rules.{is_info_or_state_set, is_unit, is_foreign_unit, gives_unit, has_forbidden_unit, is_bad_unit}
use Rattle.family_rules.specs.declared.family.Descriptor.{Descriptor}
use Rattle.family_rules.specs.declared.family.Descriptor.TheVariants as sorts
use Rattle.family_rules.specs.Checking.{so_far}
use Rattle.family_rules.specs.Steps.{line_of, is_bad_unit_in}
use Rattle.family_rules.proofs.Lists.{bytes_same}
use Rattle.family_rules.proofs.Faults.{AreFit, no_forbidden}
use Rattle.family_rules.proofs.Once.{unit_sort, said_first}

-- whether lines give a family a unit that isn't empty, by the unit that is kept
given_unit : (st : Setting) (above : List Owned) (F : List ℕ) → AreFit st above → list_any (gives_unit F) above ≡ some_passes is_unit (first_some (unit_in F) above)
given_unit st [] F fit = refl
given_unit st (o ∷ above) F fit = by (bytes_eq o.family F) (unit_of_line o.item) refl refl (given_unit st above F fit.1)
  where
    by : (b : Bool) (u : Option (List ℕ)) → bytes_eq o.family F ≡ b → unit_of_line o.item ≡ u → list_any (gives_unit F) above ≡ some_passes is_unit (first_some (unit_in F) above)
        → ((b && some_passes is_unit u) || list_any (gives_unit F) above) ≡ some_passes is_unit (option_or (cond b u None) (first_some (unit_in F) above))
    by false u e says ih = ih
    by true None e says ih = ih
    by true (Some unit) e says ih =
        let first : first_some (unit_in o.family) above ≡ None = said_first unit_of_line unit_sort above o (ap is_some says) fit.0.descriptor in
        let none : first_some (unit_in F) above ≡ None = subst (λ G. first_some (unit_in G) above ≡ None) ((bytes_decides o.family F).0 e) first in
        ap (λ b. is_unit unit || b) (ih ∙ ap (some_passes is_unit) none) ∙ or-false (is_unit unit)

-- Unit, by what is known of the family
pub bad_unit_above : (st : Setting) (above : List Owned) (F : List ℕ) (d : Descriptor) → AreFit st above
    → is_bad_unit_in (record { name = F; family = so_far st above F }) d ≡ is_bad_unit above (record { family = F; item = line_of F d })
unfolding is_bad_unit is_bad_unit_in has_forbidden_unit so_far kind_of
bad_unit_above st above F d fit = by d (no_forbidden st above F fit) (given_unit st above F fit)
  where
    known : Bool
    known = list_any (gives_unit F) above

    kept : (g : Bool) → g ≡ false → false ≡ (g && not g)
    kept true h = absurd (let f : true ≡ false = h in cc)
    kept false h = refl

    forbidden : (k g h : Bool) → h ≡ false → g ≡ known → (k && g) ≡ ((k && known) && not h)
    forbidden true true true e f = absurd (let f : true ≡ false = e in cc)
    forbidden k g true e f = absurd (let f : true ≡ false = e in cc)
    forbidden true g false e f = f ∙ both known
      where
        both : (b : Bool) → b ≡ (b && true)
        both true = refl
        both false = refl
    forbidden false g false e f = refl

    given : (a k u g : Bool) → (k && g) ≡ false → (a || (k && u)) ≡ (a || ((k && (u || g)) && not (k && g)))
    given true k u g h = refl
    given false false u g h = refl
    given false true true false h = refl
    given false true false false h = refl
    given false true u true h = absurd (let f : true ≡ false = h in cc)

    by : (d : Descriptor) → has_forbidden_unit above F ≡ false → list_any (gives_unit F) above ≡ some_passes is_unit (first_some (unit_in F) above)
        → is_bad_unit_in (record { name = F; family = so_far st above F }) d ≡ is_bad_unit above (record { family = F; item = line_of F d })
    by (sorts.Help t) none unit = rw (bytes_same F) (kept (has_forbidden_unit above F) none)
    by (sorts.Type k) none unit = rw (bytes_same F) (forbidden (is_info_or_state_set k) (some_passes is_unit (first_some (unit_in F) above)) (has_forbidden_unit above F) none (sym unit))
    by (sorts.Unit u) none unit = rw (bytes_same F) (given (is_foreign_unit F u) (is_info_or_state_set (kind_of above F)) (is_unit u) known none)
