-- What is known of each family, and which families were left, once a line is added.
use Rattle.std.proofs.Common.{◌≡◌, ◌+◌, ℕ, suc, arith, Bool, true, false, cond, not, ◌&&◌, ◌||◌, List, [], ◌∷◌, ◌++◌, map, length, length-append, Option, Some, None, refl, sym, ap, subst, ◌∙◌, reverse, is_some}
use Rattle.std.specs.Prelude.{◌==◌}
use Rattle.std.specs.List.{list_any, cons_option}
use Rattle.std.specs.Option.{option_or, option_to_list}
use Rattle.std.specs.Str.{bytes_eq}
use Rattle.std.specs.Cmp.Lexicographic.{bytes_decides}
use Rattle.std.proofs.lemmas.List.{append-nil, map-append}
use Rattle.std.proofs.lemmas.List.Elements.{filter_map-append}
use Rattle.std.proofs.lemmas.List.Folds.{list_any-append}
use Rattle.std.proofs.Math.Bool.{or-false}
use Rattle.label_sets.specs.declared.kind.Kind.{Kind}
use Rattle.label_sets.specs.declared.label_set.LabelSet.{LabelSet}
use Rattle.label_sets.specs.Lists.{first_of_each}
use Rattle.label_sets.proofs.Laws.{bytes_eq-swap, any-map, any-reverse}
use Rattle.page_model.specs.declared.item.Item.{Item}
use Rattle.page_model.specs.declared.item.Item.TheVariants as items
use Rattle.page_model.specs.declared.item.Sample.{Sample}
use Rattle.page_model.specs.Written.{Setting}
use Rattle.page_model.specs.Items.{is_sample, sample_of_line, kind_of_line, help_of_line, unit_of_line, are_one_sort, is_descriptor}
use Rattle.page_model.specs.Owners.{Owned, is_of, kind_of, samples_of, sample_in}
use Rattle.page_model.specs.Rules.{is_late_descriptor, is_split, sample_group}
use Rattle.page_model.specs.Readings.{families_of}
use Rattle.sample_groups.specs.Groups.{Gathered, groups_from, with_part}
use Rattle.sample_groups.specs.Parts.{is_grouped, entry_of, member_of}
use Rattle.sample_groups.proofs.Laws.{one_part_more}
use Rattle.family_rules.specs.declared.family.FamilySoFar.{FamilySoFar}
use Rattle.family_rules.specs.declared.family.Descriptor.{Descriptor}
use Rattle.family_rules.specs.declared.family.Descriptor.TheVariants as sorts
use Rattle.family_rules.specs.Checking.{groups_so_far, so_far, no_lines, left_before, has_samples}
use Rattle.family_rules.specs.Steps.{has, line_of, family_with}
use Rattle.family_rules.proofs.Lists.{or_comm, bytes_same, first_of_each-snoc}
use Rattle.family_rules.proofs.Faults.{AreFit}
use mathlib.Core.List.{reverse-cons}

-- ---- which families were left

-- the families that were left and the nearest one are those of the lines
pub known_lines : (q F : List ℕ) (above : List Owned) → (list_any (bytes_eq q) (left_before F above) || bytes_eq F q) ≡ (bytes_eq F q || list_any (is_of q) above)
unfolding left_before
known_lines q F [] = sym (or-false (bytes_eq F q))
known_lines q F (n ∷ above) = by (bytes_eq n.family F) refl
    (known_lines q n.family above)
  where
    idempotent : (a b c : Bool) → a ≡ b → (a || c) ≡ (b || (a || c))
    idempotent true b c e = sym (ap (λ x. x || true) (sym e))
    idempotent false b c e = ap (λ x. x || c) e

    commuted : (a b c d : Bool) → (a || b) ≡ (b || c) → ((a || (b || false)) || d) ≡ (d || (b || c))
    commuted true true c true e = refl
    commuted true true c false e = refl
    commuted true false c true e = refl
    commuted true false c false e = e
    commuted false true c true e = refl
    commuted false true c false e = refl
    commuted false false c true e = refl
    commuted false false c false e = e

    by : (b : Bool) → bytes_eq n.family F ≡ b → (list_any (bytes_eq q) (left_before n.family above) || bytes_eq n.family q) ≡ (bytes_eq n.family q || list_any (is_of q) above)
        → (list_any (bytes_eq q) (cond b (left_before n.family above) (left_before n.family above ++ n.family ∷ [])) || bytes_eq F q)
        ≡ (bytes_eq F q || (bytes_eq n.family q || list_any (is_of q) above))
    by true e ih =
        let same : n.family ≡ F = (bytes_decides n.family F).0 e in
        let test : bytes_eq n.family q ≡ bytes_eq F q = ap (λ x. bytes_eq x q) same in
        ap (λ x. list_any (bytes_eq q) (left_before n.family above) || x) (sym test) ∙ ih ∙ idempotent (bytes_eq n.family q) (bytes_eq F q) (list_any (is_of q) above) test
    by false e ih =
        ap (λ x. x || bytes_eq F q) (list_any-append (bytes_eq q) (left_before n.family above) (n.family ∷ [])
        ∙ ap (λ x. list_any (bytes_eq q) (left_before n.family above) || (x || false)) (bytes_eq-swap q n.family))
        ∙ commuted (list_any (bytes_eq q) (left_before n.family above)) (bytes_eq n.family q) (list_any (is_of q) above) (bytes_eq F q) ih

-- a family that isn't split off was not left
pub fresh : (st : Setting) (F : List ℕ) (item : Item) (above : List Owned) → AreFit st above → is_split above (record { family = F; item = item }) ≡ false → list_any (bytes_eq F) (left_before F above) ≡ false
unfolding left_before is_split
fresh st F item [] fit h = refl
fresh st F item (n ∷ above) fit h = by (bytes_eq n.family F) refl h (fresh st n.family n.item above fit.1 fit.0.together)
  where
    by : (b : Bool) → bytes_eq n.family F ≡ b → (not b && list_any (is_of F) above) ≡ false → list_any (bytes_eq n.family) (left_before n.family above) ≡ false
        → list_any (bytes_eq F) (cond b (left_before n.family above) (left_before n.family above ++ n.family ∷ [])) ≡ false
    by true e none ih = let same : n.family ≡ F = (bytes_decides n.family F).0 e in subst (λ G. list_any (bytes_eq G) (left_before n.family above) ≡ false) same ih
    by false e none ih =
        let known : (list_any (bytes_eq F) (left_before n.family above) || false) ≡ list_any (is_of F) above = rw e at (known_lines F n.family above) in
        list_any-append (bytes_eq F) (left_before n.family above) (n.family ∷ [])
        ∙ ap (λ x. list_any (bytes_eq F) (left_before n.family above) || (x || false)) (bytes_eq-swap F n.family ∙ e) ∙ known ∙ none

-- the families in the order of their first lines are those that were left and the nearest one
pub families_of-reverse : (st : Setting) (o : Owned) (above : List Owned) → AreFit st (o ∷ above) → families_of (reverse (o ∷ above)) ≡ left_before o.family above ++ o.family ∷ []
unfolding families_of left_before is_split
families_of-reverse st o [] fit = refl
families_of-reverse st o (n ∷ above) fit =
    ap (λ l. first_of_each bytes_eq (map (λ (x : Owned). x.family) l)) (reverse-cons o (n ∷ above))
    ∙ ap (first_of_each bytes_eq) (map-append (λ (x : Owned). x.family) (reverse (n ∷ above)) (o ∷ []))
    ∙ first_of_each-snoc bytes_eq (map (λ (x : Owned). x.family) (reverse (n ∷ above))) o.family
    ∙ ap (λ b. cond b (families_of (reverse (n ∷ above))) (families_of (reverse (n ∷ above)) ++ o.family ∷ []))
    (any-map (λ x. bytes_eq x o.family) (λ (x : Owned). x.family) (reverse (n ∷ above)) ∙ any-reverse (is_of o.family) (n ∷ above))
    ∙ by (bytes_eq n.family o.family) refl fit.0.together (families_of-reverse st n above fit.1)
  where
    by : (b : Bool) → bytes_eq n.family o.family ≡ b → (not b && list_any (is_of o.family) above) ≡ false
        → families_of (reverse (n ∷ above)) ≡ left_before n.family above ++ n.family ∷ []
        → cond (b || list_any (is_of o.family) above) (families_of (reverse (n ∷ above))) (families_of (reverse (n ∷ above)) ++ o.family ∷ [])
        ≡ cond b (left_before n.family above) (left_before n.family above ++ n.family ∷ []) ++ o.family ∷ []
    by true e none ih = ih ∙ ap (λ F. left_before n.family above ++ F ∷ []) ((bytes_decides n.family o.family).0 e)
    by false e none ih = rw none (ap (λ l. l ++ o.family ∷ []) ih)

-- ---- what is known of a family

samples_of-snoc : (lines : List Owned) (o : Owned) (G : List ℕ) → samples_of (lines ++ o ∷ []) G ≡ samples_of lines G ++ samples_of (o ∷ []) G
unfolding samples_of
samples_of-snoc lines o G = filter_map-append (sample_in G) lines (o ∷ [])

pub samples_of-reverse : (o : Owned) (above : List Owned) (G : List ℕ) → samples_of (reverse (o ∷ above)) G ≡ samples_of (reverse above) G ++ samples_of (o ∷ []) G
samples_of-reverse o above G = ap (λ l. samples_of l G) (reverse-cons o above) ∙ samples_of-snoc (reverse above) o G

pub none_of_other : (o : Owned) (G : List ℕ) → bytes_eq o.family G ≡ false → samples_of (o ∷ []) G ≡ []
unfolding samples_of
none_of_other o G e = rw e refl

pub reversed_samples : (above : List Owned) (F : List ℕ) → samples_of (reverse above) F ≡ reverse (samples_of above F)
unfolding samples_of
reversed_samples [] F = refl
reversed_samples (o ∷ above) F = samples_of-reverse o above F ∙ ap (λ l. l ++ samples_of (o ∷ []) F) (reversed_samples above F) ∙ by (sample_in F o)
  where
    by : (s : Option Sample) → reverse (samples_of above F) ++ cons_option s [] ≡ reverse (cons_option s (samples_of above F))
    by None = append-nil (reverse (samples_of above F))
    by (Some t) = sym (reverse-cons t (samples_of above F))

one_option : {A : Type 0} (o : Option A) → cons_option o [] ≡ option_to_list o
one_option None = refl
one_option (Some x) = refl

own_line : (F : List ℕ) (item : Item) → samples_of (record { family = F; item = item } ∷ []) F ≡ option_to_list (sample_of_line item)
unfolding samples_of
own_line F item = rw (bytes_same F) (one_option (sample_of_line item))

pub own_samples : (F : List ℕ) (item : Item) (above : List Owned)
    → samples_of (reverse (record { family = F; item = item } ∷ above)) F ≡ samples_of (reverse above) F ++ option_to_list (sample_of_line item)
own_samples F item above = samples_of-reverse (record { family = F; item = item }) above F ∙ ap (λ l. samples_of (reverse above) F ++ l) (own_line F item)

-- ---- groups

-- no samples make no groups
no_groups : (st : Setting) (k : Kind) (F : List ℕ) → groups_so_far st k F [] ≡ []
unfolding groups_so_far groups_from
no_groups st k F = by (is_grouped st.format k)
  where
    by : (b : Bool) → cond {A = List (LabelSet × Gathered)} b [] [] ≡ []
    by true = refl
    by false = refl

-- the groups of a kind with one sample more
abbrev pub grown : Setting → Kind → List ℕ → Sample → List (LabelSet × Gathered) → List (LabelSet × Gathered)
grown st k F s groups = cond (is_grouped st.format k) (with_part groups (sample_group st k F s) (member_of st.format F s)) []

groups_more : (st : Setting) (k : Kind) (F : List ℕ) (samples : List Sample) (s : Sample) → groups_so_far st k F (samples ++ s ∷ []) ≡ grown st k F s (groups_so_far st k F samples)
unfolding groups_so_far
groups_more st k F samples s = by (is_grouped st.format k)
  where
    by : (b : Bool) → cond b (groups_from (map (entry_of st k F) (samples ++ s ∷ []))) []
        ≡ cond b (with_part (cond b (groups_from (map (entry_of st k F) samples)) []) (sample_group st k F s) (member_of st.format F s)) []
    by true = ap groups_from (map-append (entry_of st k F) samples (s ∷ [])) ∙ one_part_more (map (entry_of st k F) samples) (entry_of st k F s)
    by false = refl

-- ---- one line more

module _ (st : Setting) where
  -- a line of another family changes nothing
  pub so_far-other : (o : Owned) (above : List Owned) (G : List ℕ) → bytes_eq o.family G ≡ false → so_far st (o ∷ above) G ≡ so_far st above G
  unfolding so_far kind_of
  so_far-other o above G e =
      let values : samples_of (reverse (o ∷ above)) G ≡ samples_of (reverse above) G =
      samples_of-reverse o above G ∙ ap (λ l. samples_of (reverse above) G ++ l) (none_of_other o G e) ∙ append-nil (samples_of (reverse above) G) in
      rw (e, values) refl

  -- a TYPE line stands above all samples
  pub so_far-descriptor : (F : List ℕ) (d : Descriptor) (above : List Owned) → samples_of (reverse above) F ≡ []
      → so_far st (record { family = F; item = line_of F d } ∷ above) F ≡ family_with d (so_far st above F)
  unfolding so_far kind_of
  so_far-descriptor F (sorts.Help text) above none =
      let values = own_samples F (items.Help F text) above ∙ append-nil (samples_of (reverse above) F) in
      rw (bytes_same F, values) refl
  so_far-descriptor F (sorts.Type kind) above none =
      let values = own_samples F (items.KindOf F kind) above ∙ append-nil (samples_of (reverse above) F) in
      let groups : groups_so_far st kind F (samples_of (reverse above) F) ≡ groups_so_far st (kind_of above F) F (samples_of (reverse above) F) =
      ap (groups_so_far st kind F) none ∙ no_groups st kind F ∙ sym (ap (groups_so_far st (kind_of above F) F) none ∙ no_groups st (kind_of above F) F) in
      rw (bytes_same F, values, groups) refl
  so_far-descriptor F (sorts.Unit unit) above none =
      let values = own_samples F (items.Unit F unit) above ∙ append-nil (samples_of (reverse above) F) in
      rw (bytes_same F, values) refl

  pub so_far-sample : (F : List ℕ) (s : Sample) (above : List Owned)
      → so_far st (record { family = F; item = items.Sample s } ∷ above) F
      ≡ record (so_far st above F) { samples = (so_far st above F).samples + 1; groups = grown st (kind_of above F) F s (so_far st above F).groups }
  unfolding so_far kind_of
  so_far-sample F s above =
      let samples = own_samples F (items.Sample s) above in
      let more : length (samples_of (reverse above) F ++ s ∷ []) ≡ length (samples_of (reverse above) F) + 1 = length-append (samples_of (reverse above) F) (s ∷ []) in
      let groups = groups_more st (kind_of above F) F (samples_of (reverse above) F) s in
      rw (bytes_same F, samples, more, groups) refl

  -- nothing is known of a family without lines
  pub so_far-none : (above : List Owned) (F : List ℕ) → list_any (is_of F) above ≡ false → so_far st above F ≡ no_lines
  unfolding so_far samples_of kind_of groups_so_far
  so_far-none [] F none = refl
  so_far-none (o ∷ above) F none = by (bytes_eq o.family F) refl none (so_far-none above F)
    where
      by : (b : Bool) → bytes_eq o.family F ≡ b → (b || list_any (is_of F) above) ≡ false → (list_any (is_of F) above ≡ false → so_far st above F ≡ no_lines) → so_far st (o ∷ above) F ≡ no_lines
      by true e h ih = absurd (let f : true ≡ false = h in cc)
      by false e h ih = so_far-other o above F e ∙ ih h

-- a family without lines has no samples
pub no_samples : (above : List Owned) (F : List ℕ) → list_any (is_of F) above ≡ false → samples_of above F ≡ []
unfolding samples_of
no_samples [] F none = refl
no_samples (o ∷ above) F none = by (bytes_eq o.family F) none (no_samples above F)
  where
    by : (b : Bool) → (b || list_any (is_of F) above) ≡ false → (list_any (is_of F) above ≡ false → samples_of above F ≡ []) → cons_option (cond b (sample_of_line o.item) None) (samples_of above F) ≡ []
    by true h more = absurd (let f : true ≡ false = h in cc)
    by false h more = more h

-- ---- descriptors

suc_zero : (n : ℕ) → (suc n == 0) ≡ false
suc_zero n = grind arith

not_zero-append : {A : Type 0} (xs ys : List A) → not (length (xs ++ ys) == 0) ≡ (not (length xs == 0) || not (length ys == 0))
not_zero-append [] ys = refl
not_zero-append (x ∷ xs) ys = rw (suc_zero (length (xs ++ ys)), suc_zero (length xs)) refl

some_value : (b : Bool) (item : Item) → not (length (cons_option (cond b (sample_of_line item) None) []) == 0) ≡ (b && is_sample item)
some_value false item = refl
some_value true (items.Sample s) = refl
some_value true _ = refl

some_sample : (st : Setting) (above : List Owned) (F : List ℕ) → has_samples (so_far st above F) ≡ list_any (λ o. is_of F o && is_sample o.item) above
unfolding so_far samples_of
some_sample st [] F = refl
some_sample st (o ∷ above) F =
    ap (λ l. not (length l == 0)) (samples_of-reverse o above F)
    ∙ not_zero-append (samples_of (reverse above) F) (samples_of (o ∷ []) F)
    ∙ or_comm (has_samples (so_far st above F)) (not (length (samples_of (o ∷ []) F) == 0))
    ∙ ap (λ b. b || has_samples (so_far st above F)) (some_value (is_of F o) o.item)
    ∙ ap (λ b. (is_of F o && is_sample o.item) || b) (some_sample st above F)

-- a descriptor of the same sort, by the sorts
sort_step : (F : List ℕ) (d : Descriptor) (other : Item) (b : Bool) (f : FamilySoFar)
    → has d (record f {
      help = option_or (cond b (help_of_line other) None) f.help;
      kind = option_or (cond b (kind_of_line other) None) f.kind;
      unit = option_or (cond b (unit_of_line other) None) f.unit;
    }) ≡ ((b && are_one_sort (line_of F d) other) || has d f)
sort_step F (sorts.Help t) other false f = refl
sort_step F (sorts.Type t) other false f = refl
sort_step F (sorts.Unit t) other false f = refl
sort_step F (sorts.Help t) (items.Help m u) true f = refl
sort_step F (sorts.Type t) (items.KindOf m u) true f = refl
sort_step F (sorts.Unit t) (items.Unit m u) true f = refl
sort_step F _ _ true f = refl

sort_alike : (d : Descriptor) (f g : FamilySoFar) → f.help ≡ g.help → f.kind ≡ g.kind → f.unit ≡ g.unit → has d f ≡ has d g
sort_alike (sorts.Help t) f g h k u = ap is_some h
sort_alike (sorts.Type t) f g h k u = ap is_some k
sort_alike (sorts.Unit t) f g h k u = ap is_some u

same_sort : (st : Setting) (above : List Owned) (F : List ℕ) (d : Descriptor) → has d (so_far st above F) ≡ list_any (λ o. is_of F o && are_one_sort (line_of F d) o.item) above
unfolding so_far
same_sort st [] F (sorts.Help t) = refl
same_sort st [] F (sorts.Type t) = refl
same_sort st [] F (sorts.Unit t) = refl
same_sort st (o ∷ above) F d =
    sort_alike d (so_far st (o ∷ above) F) (record (so_far st above F) {
      help = option_or (cond (is_of F o) (help_of_line o.item) None) (so_far st above F).help;
      kind = option_or (cond (is_of F o) (kind_of_line o.item) None) (so_far st above F).kind;
      unit = option_or (cond (is_of F o) (unit_of_line o.item) None) (so_far st above F).unit;
    }) refl refl refl
    ∙ sort_step F d o.item (is_of F o) (so_far st above F)
    ∙ ap (λ b. (is_of F o && are_one_sort (line_of F d) o.item) || b) (same_sort st above F d)

any_split : {A : Type 0} (p a b : A → Bool) (xs : List A) → list_any (λ x. p x && (a x || b x)) xs ≡ (list_any (λ x. p x && a x) xs || list_any (λ x. p x && b x) xs)
any_split p a b [] = refl
any_split p a b (x ∷ xs) = ap (λ c. (p x && (a x || b x)) || c) (any_split p a b xs) ∙ by (p x) (a x) (b x) (list_any (λ x. p x && a x) xs) (list_any (λ x. p x && b x) xs)
  where
    by : (p a b c d : Bool) → ((p && (a || b)) || (c || d)) ≡ (((p && a) || c) || ((p && b) || d))
    by false a b c d = refl
    by true true b c d = refl
    by true false true true d = refl
    by true false true false d = refl
    by true false false c d = refl

pub is_one : (F : List ℕ) (d : Descriptor) → is_descriptor (line_of F d) ≡ true
is_one F (sorts.Help t) = refl
is_one F (sorts.Type t) = refl
is_one F (sorts.Unit t) = refl

-- a late descriptor, by what is known of its family
pub late_known : (st : Setting) (above : List Owned) (F : List ℕ) (d : Descriptor)
    → is_late_descriptor above (record { family = F; item = line_of F d }) ≡ (has d (so_far st above F) || has_samples (so_far st above F))
unfolding is_late_descriptor
late_known st above F d =
    ap (λ b. b && list_any (λ o. is_of F o && (are_one_sort (line_of F d) o.item || is_sample o.item)) above) (is_one F d)
    ∙ any_split (is_of F) (λ o. are_one_sort (line_of F d) o.item) (λ o. is_sample o.item) above
    ∙ ap (λ b. b || list_any (λ o. is_of F o && is_sample o.item) above) (sym (same_sort st above F d))
    ∙ ap (λ b. has d (so_far st above F) || b) (sym (some_sample st above F))
