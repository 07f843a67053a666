-- Families of lines without a fault: their kinds, texts and units are in form, and the groups of their samples stand together.
use Rattle.std.proofs.Common.{◌≡◌, ℕ, Bool, true, false, cond, not, ◌&&◌, List, [], ◌∷◌, ◌++◌, map, filter_map, reverse, Option, Some, None, refl, sym, ap, subst, ◌∙◌, IfSome}
use Rattle.std.specs.Prelude.{⊤, unwrap_or}
use Rattle.std.specs.List.{list_any, list_all, cons_option, AllByRecursion}
use Rattle.std.specs.Option.{option_or}
use Rattle.std.specs.Str.{is_utf8}
use Rattle.std.specs.Cmp.Lexicographic.{bytes_decides}
use Rattle.std.proofs.lemmas.Bool.{and_from, or_parts, or_left, or_right, false_from_ne_true, not_from_false}
use Rattle.std.proofs.lemmas.List.{reverse-append}
use Rattle.std.proofs.lemmas.Str.{IsUtf8-nil, is_utf8-from_IsUtf8}
use Rattle.label_sets.specs.declared.kind.Kind.{Kind}
use Rattle.label_sets.specs.declared.kind.Kind.TheVariants.{Unknown}
use Rattle.label_sets.specs.declared.label_set.LabelSet.{LabelSet}
use Rattle.label_sets.specs.Lists.{first_some, some_passes, rest_while}
use Rattle.label_sets.specs.Labels.{label_sets_eq}
use Rattle.label_sets.specs.Names.{is_metric_char}
use Rattle.label_sets.proofs.Laws.{all-weaker, all-reverse, rest-passed, rest-stopped}
use Rattle.page_model.specs.declared.format.Format.{Format}
use Rattle.page_model.specs.declared.format.Format.TheVariants.{Text, OpenMetrics}
use Rattle.page_model.specs.declared.format.Treatment.{Treatment}
use Rattle.page_model.specs.declared.item.Item.{Item}
use Rattle.page_model.specs.declared.item.Item.TheVariants as items
use Rattle.page_model.specs.declared.item.Sample.{Sample}
use Rattle.page_model.specs.Written.{Setting}
use Rattle.page_model.specs.Items.{sample_of_line, kind_of_line, help_of_line, unit_of_line}
use Rattle.page_model.specs.Owners.{Owned, is_of, kind_of, sample_in, samples_of}
use Rattle.page_model.specs.Rules.{is_open_metrics, is_info_or_state_set, is_unit, is_foreign_unit, gives_unit, has_forbidden_unit, is_bad_unit, is_interleaved, in_one_group, sample_group}
use Rattle.page_model.specs.Readings.{help_in, unit_in}
use Rattle.page_model.proofs.Laws.{label_sets_decide}
use Rattle.family_rules.proofs.Laws.{AreFit, no_forbidden, AreTogether}
use Rattle.open_writing.specs.Forms.{is_kind_in, may_have_unit, stand_together}
use Rattle.writing_laws.proofs.Turned.{all-of, any-none, none-any, Pairs, pairs-append, map-append}
use Rattle.writing_laws.proofs.ReadItems.{IsFormedSample, IsFormedItem, IsFormedOwned}

-- ---- lists that are turned

pub pairs-reverse : {A : Type 0} (R : A → A → Type 0) (xs : List A) → Pairs (λ x y. R y x) xs → Pairs R (reverse xs)
pairs-reverse R [] p = tt
pairs-reverse R (x ∷ xs) p =
    subst (Pairs R) (sym (reverse-append (x ∷ []) xs))
    (pairs-append R (reverse xs) (x ∷ []) (pairs-reverse R xs p.1) (tt, tt)
    (all-weaker (λ y. R y x) (λ y. AllByRecursion (R y) (x ∷ [])) (λ y h. (h, tt)) (reverse xs) (all-reverse (λ y. R y x) xs p.0)))

-- ---- kind, help, unit and samples

-- what holds of each value that the lines of a family say, and of the one where none does, holds of the first of them
pub first_holds : {X : Type 0} (said : Item → Option X) (family : List ℕ) (P : X → Type 0) (none : X) → P none → (lines : List Owned)
    → AllByRecursion (λ o. is_of family o ≡ true → IfSome (said o.item) P) lines → P (unwrap_or (first_some (λ o. cond (is_of family o) (said o.item) None) lines) none)
first_holds said family P none h [] holds = h
first_holds {X = X} said family P none h (o ∷ lines) holds = by (is_of family o) (said o.item) holds.0 (first_holds said family P none h lines holds.1)
  where
    by : (b : Bool) (x : Option X) → (b ≡ true → IfSome x P) → P (unwrap_or (first_some (λ o. cond (is_of family o) (said o.item) None) lines) none)
        → P (unwrap_or (option_or (cond b x None) (first_some (λ o. cond (is_of family o) (said o.item) None) lines)) none)
    by false x f ih = ih
    by true None f ih = ih
    by true (Some x) f ih = f refl

-- what holds of each sample of its lines holds of all samples of a family
pub samples_hold : (family : List ℕ) (P : Sample → Type 0) (lines : List Owned) → AllByRecursion (λ o. is_of family o ≡ true → IfSome (sample_of_line o.item) P) lines → AllByRecursion P (samples_of lines family)
unfolding samples_of
samples_hold family P [] holds = tt
samples_hold family P (o ∷ lines) holds = by (is_of family o) (sample_of_line o.item) holds.0 (samples_hold family P lines holds.1)
  where
    by : (b : Bool) (x : Option Sample) → (b ≡ true → IfSome x P) → AllByRecursion P (filter_map (sample_in family) lines) → AllByRecursion P (cons_option (cond b x None) (filter_map (sample_in family) lines))
    by false x f ih = ih
    by true None f ih = ih
    by true (Some s) f ih = (f refl, ih)

-- where the value, if there is one, fails a test, it is one that fails it
some_fails : {X : Type 0} (p : X → Bool) (o : Option X) → some_passes p o ≡ false → IfSome o (λ x. p x ≡ false)
some_fails p None e = tt
some_fails p (Some x) e = e

-- what an item says is in form
record SaysInForm (f : Format) (t : Treatment) (item : Item) : Type 0 where
  pub kind : IfSome (kind_of_line item) (λ k. is_kind_in f k ≡ true)
  pub help : IfSome (help_of_line item) (λ h. is_utf8 h ≡ true)
  pub unit : IfSome (unit_of_line item) (λ u. list_all is_metric_char u ≡ true)
  pub fits : IfSome (unit_of_line item) (λ u. may_have_unit f u ≡ true)
  pub sample : IfSome (sample_of_line item) (IsFormedSample t)

module _ (f : Format) (t : Treatment) (family : List ℕ) where
  unknown_in : (g : Format) → is_kind_in g Unknown ≡ true
  unknown_in Text = refl
  unknown_in OpenMetrics = refl

  -- so does an item in form
  said_in_form : (item : Item) → IsFormedItem f t item → SaysInForm f t item
  said_in_form (items.Help name text) g = record { kind = tt; help = g.1; unit = tt; fits = tt; sample = tt }
  said_in_form (items.KindOf name kind) g = record { kind = g.1; help = tt; unit = tt; fits = tt; sample = tt }
  said_in_form (items.Unit name unit) g = record { kind = tt; help = tt; unit = g.1; fits = or_left (is_open_metrics f) (not (is_unit unit)) g.2; sample = tt }
  said_in_form (items.Sample s) g = record { kind = tt; help = tt; unit = tt; fits = tt; sample = g }
  said_in_form _ g = record { kind = tt; help = tt; unit = tt; fits = tt; sample = tt }

  -- so it is of each line of the family
  each_line : (P : Item → Type 0) → ((item : Item) → SaysInForm f t item → P item) → (lines : List Owned) → AllByRecursion (IsFormedOwned f t) lines → AllByRecursion (λ o. is_of family o ≡ true → P o.item) lines
  each_line P of lines h = all-weaker (IsFormedOwned f t) (λ o. is_of family o ≡ true → P o.item) (λ o g e. of o.item (said_in_form o.item g.1)) lines h

  pub formed_kind : (lines : List Owned) → AllByRecursion (IsFormedOwned f t) lines → is_kind_in f (kind_of lines family) ≡ true
  unfolding kind_of
  formed_kind lines h = first_holds kind_of_line family (λ k. is_kind_in f k ≡ true) Unknown (unknown_in f) lines (each_line (λ item. IfSome (kind_of_line item) (λ k. is_kind_in f k ≡ true)) (λ item said. said.kind) lines h)

  pub formed_help : (lines : List Owned) → AllByRecursion (IsFormedOwned f t) lines → is_utf8 (unwrap_or (first_some (help_in family) lines) []) ≡ true
  formed_help lines h =
      first_holds help_of_line family (λ text. is_utf8 text ≡ true) [] (is_utf8-from_IsUtf8 [] IsUtf8-nil) lines (each_line (λ item. IfSome (help_of_line item) (λ text. is_utf8 text ≡ true)) (λ item said. said.help) lines h)

  pub formed_unit : (lines : List Owned) → AllByRecursion (IsFormedOwned f t) lines → list_all is_metric_char (unwrap_or (first_some (unit_in family) lines) []) ≡ true
  formed_unit lines h =
      first_holds unit_of_line family (λ u. list_all is_metric_char u ≡ true) [] refl lines (each_line (λ item. IfSome (unit_of_line item) (λ u. list_all is_metric_char u ≡ true)) (λ item said. said.unit) lines h)

  pub format_unit : (lines : List Owned) → AllByRecursion (IsFormedOwned f t) lines → may_have_unit f (unwrap_or (first_some (unit_in family) lines) []) ≡ true
  format_unit lines h =
      first_holds unit_of_line family (λ u. may_have_unit f u ≡ true) [] (or_right (is_open_metrics f) (not (is_unit [])) refl) lines
      (each_line (λ item. IfSome (unit_of_line item) (λ u. may_have_unit f u ≡ true)) (λ item said. said.fits) lines h)

  pub sampled : (lines : List Owned) → AllByRecursion (IsFormedOwned f t) lines → AllByRecursion (IsFormedSample t) (samples_of lines family)
  sampled lines h = samples_hold family (IsFormedSample t) lines (each_line (λ item. IfSome (sample_of_line item) (IsFormedSample t)) (λ item said. said.sample) lines h)

  -- ---- units by the rules

  own_units : (st : Setting) (above : List Owned) → AreFit st above → AllByRecursion (λ o. some_passes (is_foreign_unit o.family) (unit_of_line o.item) ≡ false) above
  unfolding is_bad_unit
  own_units st [] fit = tt
  own_units st (o ∷ above) fit = ((or_parts (some_passes (is_foreign_unit o.family) (unit_of_line o.item)) _ fit.0.unit).0, own_units st above fit.1)

  pub own_unit : (st : Setting) (above : List Owned) → AreFit st above → is_foreign_unit family (unwrap_or (first_some (unit_in family) (reverse above)) []) ≡ false
  own_unit st above fit =
      first_holds unit_of_line family (λ u. is_foreign_unit family u ≡ false) [] refl (reverse above)
      (all-reverse (λ o. is_of family o ≡ true → IfSome (unit_of_line o.item) (λ u. is_foreign_unit family u ≡ false)) above
      (all-weaker (λ o. some_passes (is_foreign_unit o.family) (unit_of_line o.item) ≡ false) (λ o. is_of family o ≡ true → IfSome (unit_of_line o.item) (λ u. is_foreign_unit family u ≡ false))
      (λ o g e. subst (λ name. IfSome (unit_of_line o.item) (λ u. is_foreign_unit name u ≡ false)) ((bytes_decides o.family family).0 e) (some_fails (is_foreign_unit o.family) (unit_of_line o.item) g)) above (own_units st above fit)))

  pub allowed_unit : (st : Setting) (above : List Owned) → AreFit st above → (is_info_or_state_set (kind_of above family) && is_unit (unwrap_or (first_some (unit_in family) (reverse above)) [])) ≡ false
  unfolding has_forbidden_unit
  allowed_unit st above fit = by (is_info_or_state_set (kind_of above family)) (no_forbidden st above family fit)
    where
      none_given : list_any (gives_unit family) above ≡ false → is_unit (unwrap_or (first_some (unit_in family) (reverse above)) []) ≡ false
      none_given e =
          first_holds unit_of_line family (λ u. is_unit u ≡ false) [] refl (reverse above)
          (all-reverse (λ o. is_of family o ≡ true → IfSome (unit_of_line o.item) (λ u. is_unit u ≡ false)) above
          (all-weaker (λ o. gives_unit family o ≡ false) (λ o. is_of family o ≡ true → IfSome (unit_of_line o.item) (λ u. is_unit u ≡ false))
          (λ o g is. some_fails is_unit (unit_of_line o.item) (ap (λ b. b && some_passes is_unit (unit_of_line o.item)) (sym is) ∙ g)) above (any-none (gives_unit family) above e)))

      by : (b : Bool) → (b && list_any (gives_unit family) above) ≡ false → (b && is_unit (unwrap_or (first_some (unit_in family) (reverse above)) [])) ≡ false
      by false e = refl
      by true e = none_given e

-- ---- groups that stand together

pairs-none : {A : Type 0} (p : A → Bool) (xs : List A) → AllByRecursion (λ x. p x ≡ false) xs → Pairs (λ b a. p a ≡ true → p b ≡ true) xs
pairs-none p [] h = tt
pairs-none p (x ∷ xs) h = (all-weaker (λ a. p a ≡ false) (λ a. p a ≡ true → p x ≡ true) (λ a e f. absurd cc) xs h.1, pairs-none p xs h.1)

-- each element has its like between it and the next like it
abbrev Between : List LabelSet → Type 0
Between [] = ⊤
Between (g ∷ gs) = Pairs (λ y z. label_sets_eq g z ≡ true → label_sets_eq g y ≡ true) gs × Between gs

none_behind : (g : LabelSet) (gs : List LabelSet) → Pairs (λ y z. label_sets_eq g z ≡ true → label_sets_eq g y ≡ true) gs → list_any (label_sets_eq g) (rest_while (label_sets_eq g) gs) ≡ false
none_behind g [] p = refl
none_behind g (y ∷ ys) p = go (label_sets_eq g y) refl (none_behind g ys p.1)
  where
    go : (b : Bool) → label_sets_eq g y ≡ b → list_any (label_sets_eq g) (rest_while (label_sets_eq g) ys) ≡ false → list_any (label_sets_eq g) (rest_while (label_sets_eq g) (y ∷ ys)) ≡ false
    go true e ih = ap (list_any (label_sets_eq g)) (rest-passed (label_sets_eq g) y ys e) ∙ ih
    go false e ih =
        ap (list_any (label_sets_eq g)) (rest-stopped (label_sets_eq g) y ys e)
        ∙ none-any (label_sets_eq g) (y ∷ ys) (
          e,
          all-weaker (λ z. label_sets_eq g z ≡ true → label_sets_eq g y ≡ true) (λ z. label_sets_eq g z ≡ false)
              (λ z h. false_from_ne_true (label_sets_eq g z) (λ k. let no : true ≡ false = sym (h k) ∙ e in cc)) ys p.0,
        )

between_together : (gs : List LabelSet) → Between gs → stand_together gs ≡ true
unfolding stand_together
between_together [] h = refl
between_together (g ∷ gs) h = and_from (not (list_any (label_sets_eq g) (rest_while (label_sets_eq g) gs))) (stand_together gs) (not_from_false _ (none_behind g gs h.0)) (between_together gs h.1)

between_snoc : (xs : List LabelSet) (y : LabelSet) → Between xs → Pairs (λ a b. label_sets_eq a y ≡ true → label_sets_eq b y ≡ true) xs → Between (xs ++ y ∷ [])
between_snoc [] y h p = (tt, tt)
between_snoc (x ∷ xs) y h p = (
  pairs-append (λ v w. label_sets_eq x w ≡ true → label_sets_eq x v ≡ true) xs (y ∷ []) h.0 (tt, tt)
      (all-weaker (λ b. label_sets_eq x y ≡ true → label_sets_eq b y ≡ true) (λ z. AllByRecursion (λ w. label_sets_eq x w ≡ true → label_sets_eq x z ≡ true) (y ∷ [])) (λ z k. (one z k, tt)) xs p.0),
  between_snoc xs y h.1 p.1,
)
  where
    one : (z : LabelSet) → (label_sets_eq x y ≡ true → label_sets_eq z y ≡ true) → label_sets_eq x y ≡ true → label_sets_eq x z ≡ true
    one z k e = (label_sets_decide x z).1 ((label_sets_decide x y).0 e ∙ sym ((label_sets_decide z y).0 (k e)))

module _ (st : Setting) (kind : Kind) (family : List ℕ) (open_format : is_open_metrics st.format ≡ true) where
  near : (ss : List Sample) (s : Sample) → AreTogether st kind family ss → is_interleaved st kind family ss s ≡ false → Pairs (λ b a. in_one_group st kind family a s ≡ true → in_one_group st kind family b s ≡ true) ss
  unfolding is_interleaved
  near [] s runs h = tt
  near (n ∷ ss) s runs h = go (in_one_group st kind family n s) refl (ap (λ b. b && not (in_one_group st kind family n s) && list_any (λ t. in_one_group st kind family t s) ss) (sym open_format) ∙ h) (near ss n runs.1 runs.0)
    where
      go : (b : Bool) → in_one_group st kind family n s ≡ b → (not (in_one_group st kind family n s) && list_any (λ t. in_one_group st kind family t s) ss) ≡ false
          → Pairs (λ b a. in_one_group st kind family a n ≡ true → in_one_group st kind family b n ≡ true) ss
          → Pairs (λ b a. in_one_group st kind family a s ≡ true → in_one_group st kind family b s ≡ true) (n ∷ ss)
      go true e k ih =
          let same : sample_group st kind family n ≡ sample_group st kind family s = (label_sets_decide (sample_group st kind family n) (sample_group st kind family s)).0 e in (
            all-of (λ a. in_one_group st kind family a s ≡ true → in_one_group st kind family n s ≡ true) (λ a f. e) ss,
            subst (λ g. Pairs (λ b a. label_sets_eq (sample_group st kind family a) g ≡ true → label_sets_eq (sample_group st kind family b) g ≡ true) ss) same ih,
          )
      go false e k ih =
          let none : list_any (λ t. in_one_group st kind family t s) ss ≡ false = ap (λ b. not b && list_any (λ t. in_one_group st kind family t s) ss) (sym e) ∙ k in
          let all = any-none (λ t. in_one_group st kind family t s) ss none in
          (all-weaker (λ a. in_one_group st kind family a s ≡ false) (λ a. in_one_group st kind family a s ≡ true → in_one_group st kind family n s ≡ true) (λ a f g. absurd cc) ss all, pairs-none (λ t. in_one_group st kind family t s) ss all)

  pairs-groups : (ss : List Sample) (s : Sample) → Pairs (λ a b. in_one_group st kind family a s ≡ true → in_one_group st kind family b s ≡ true) ss
      → Pairs (λ a b. label_sets_eq a (sample_group st kind family s) ≡ true → label_sets_eq b (sample_group st kind family s) ≡ true) (map (sample_group st kind family) ss)
  pairs-groups [] s p = tt
  pairs-groups (x ∷ ss) s p = (heads ss p.0, pairs-groups ss s p.1)
    where
      heads : (ys : List Sample) → AllByRecursion (λ b. in_one_group st kind family x s ≡ true → in_one_group st kind family b s ≡ true) ys
          → AllByRecursion (λ b. label_sets_eq (sample_group st kind family x) (sample_group st kind family s) ≡ true → label_sets_eq b (sample_group st kind family s) ≡ true) (map (sample_group st kind family) ys)
      heads [] h = tt
      heads (y ∷ ys) h = (h.0, heads ys h.1)

  between_samples : (ss : List Sample) → AreTogether st kind family ss → Between (map (sample_group st kind family) (reverse ss))
  between_samples [] runs = tt
  between_samples (s ∷ ss) runs =
      let front = map (sample_group st kind family) (reverse ss) in
      let turned : map (sample_group st kind family) (reverse (s ∷ ss)) ≡ front ++ sample_group st kind family s ∷ [] =
      ap (map (sample_group st kind family)) (reverse-append (s ∷ []) ss) ∙ map-append (sample_group st kind family) (reverse ss) (s ∷ []) in
      subst Between (sym turned)
      (between_snoc front (sample_group st kind family s) (between_samples ss runs.1)
      (pairs-groups (reverse ss) s (pairs-reverse (λ a b. in_one_group st kind family a s ≡ true → in_one_group st kind family b s ≡ true) ss (near ss s runs.1 runs.0))))

  -- the groups of samples stand together, in page order
  pub samples_together : (ss : List Sample) → AreTogether st kind family ss → stand_together (map (sample_group st kind family) (reverse ss)) ≡ true
  samples_together ss runs = between_together (map (sample_group st kind family) (reverse ss)) (between_samples ss runs)
