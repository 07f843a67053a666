-- The groups that are kept answer rule Interleaved, and a sample more keeps them.
use Rattle.std.proofs.Common.{◌≡◌, ℕ, Bool, true, false, cond, not, ◌&&◌, ◌||◌, List, [], ◌∷◌, ◌++◌, map, reverse, Some, refl, sym, ap, ◌∙◌}
use Rattle.std.specs.List.{list_any}
use Rattle.std.specs.Str.{bytes_eq}
use Rattle.std.specs.Cmp.Lexicographic.{bytes_decides}
use Rattle.std.proofs.lemmas.List.{map-append}
use Rattle.std.proofs.lemmas.Bool.{and_parts}
use Rattle.label_sets.specs.declared.kind.Kind.{Kind}
use Rattle.label_sets.specs.declared.label_set.LabelSet.{LabelSet}
use Rattle.label_sets.specs.Labels.{label_sets_eq}
use Rattle.label_sets.specs.Lists.{first_of_each}
use Rattle.label_sets.proofs.Laws.{bytes_eq-swap, any-map, any-reverse}
use Rattle.packed_keys.specs.declared.sample_key.SampleKey.{SampleKey}
use Rattle.packed_keys.specs.Packing.{sample_key_eq}
use Rattle.page_model.specs.declared.item.Item.TheVariants as items
use Rattle.page_model.specs.declared.item.Sample.{Sample}
use Rattle.page_model.specs.Written.{Setting}
use Rattle.page_model.specs.Owners.{Owned, kind_of, samples_of}
use Rattle.page_model.specs.Rules.{is_open_metrics, sample_group, in_one_group, is_interleaved}
use Rattle.page_model.proofs.Laws.{label_sets_decide}
use Rattle.family_rules.specs.GroupRuns.{Runs, no_runs, has_own_runs, has_runs, group_key, runs_from, runs_of, goes_back, with_group}
use Rattle.family_rules.proofs.Lists.{bytes_same, label_sets_swap, any_firsts, first_of_each-snoc}
use mathlib.Core.List.{reverse-cons}

-- ---- keys

key_is : (x y : SampleKey) → sample_key_eq x y ≡ true → x ≡ y
key_is x y h =
    let parts = and_parts (bytes_eq x.name y.name) (label_sets_eq x.labels y.labels) h in
    let name : x.name ≡ y.name = (bytes_decides x.name y.name).0 parts.0 in
    let labels : x.labels ≡ y.labels = (label_sets_decide x.labels y.labels).0 parts.1 in
    λ i. record { name = name i; labels = labels i }

key_swap : (x y : SampleKey) → sample_key_eq x y ≡ sample_key_eq y x
key_swap x y = ap (λ b. b && label_sets_eq x.labels y.labels) (bytes_eq-swap x.name y.name) ∙ ap (λ b. bytes_eq y.name x.name && b) (label_sets_swap x.labels y.labels)

-- ---- the groups of samples

module _ (st : Setting) (k : Kind) (F : List ℕ) where
  abbrev group : Sample → LabelSet
  group s = sample_group st k F s

  abbrev key : Sample → SampleKey
  key s = group_key F (group s)

  begun_any : (p : SampleKey → Bool) (samples : List Sample) → list_any p (first_of_each sample_key_eq (map key (reverse samples))) ≡ list_any (λ t. p (key t)) samples
  begun_any p samples = any_firsts sample_key_eq p (λ x y h. ap p (key_is x y h)) (map key (reverse samples)) ∙ any-map p key (reverse samples) ∙ any-reverse (λ t. p (key t)) samples

  one_key : (s t : Sample) → sample_key_eq (key s) (key t) ≡ label_sets_eq (group t) (group s)
  one_key s t = ap (λ b. b && label_sets_eq (group s) (group t)) (bytes_same F) ∙ label_sets_swap (group s) (group t)

  begun_before : (s : Sample) (samples : List Sample) → list_any (sample_key_eq (key s)) (first_of_each sample_key_eq (map key (reverse samples))) ≡ list_any (λ t. in_one_group st k F t s) samples
  begun_before s samples = begun_any (sample_key_eq (key s)) samples ∙ (λ i. list_any (λ t. one_key s t i) samples)

  -- Interleaved, by the groups
  pub interleaved_runs : (samples : List Sample) (s : Sample) → (is_open_metrics st.format && goes_back (runs_from st k F samples) (key s)) ≡ is_interleaved st k F samples s
  unfolding runs_from is_interleaved
  interleaved_runs [] s = none (is_open_metrics st.format)
    where
      none : (a : Bool) → (a && false) ≡ false
      none true = refl
      none false = refl
  interleaved_runs (n ∷ samples) s =
      ap (λ b. is_open_metrics st.format && (not (in_one_group st k F n s) && b)) (begun_before s (n ∷ samples)) ∙ others (is_open_metrics st.format) (in_one_group st k F n s) (list_any (λ t. in_one_group st k F t s) samples)
    where
      others : (f a b : Bool) → (f && (not a && (a || b))) ≡ (f && not a && b)
      others false a b = refl
      others true true b = refl
      others true false b = refl

  -- a sample more
  pub runs_more : (samples : List Sample) (s : Sample) → runs_from st k F (s ∷ samples) ≡ with_group (runs_from st k F samples) (key s)
  unfolding runs_from
  runs_more [] s = refl
  runs_more (n ∷ samples) s = by (label_sets_eq (group n) (group s)) refl
    where
      all : List SampleKey
      all = map key (reverse (n ∷ samples))

      firsts : List SampleKey
      firsts = first_of_each sample_key_eq all

      begun_is : first_of_each sample_key_eq (map key (reverse (s ∷ n ∷ samples))) ≡ cond (list_any (sample_key_eq (key s)) firsts) firsts (firsts ++ key s ∷ [])
      begun_is =
          let swapped : list_any (λ x. sample_key_eq x (key s)) all ≡ list_any (sample_key_eq (key s)) all = λ i. list_any (λ x. key_swap x (key s) i) all in
          ap (λ l. first_of_each sample_key_eq (map key l)) (reverse-cons s (n ∷ samples))
          ∙ ap (first_of_each sample_key_eq) (map-append key (reverse (n ∷ samples)) (s ∷ []))
          ∙ first_of_each-snoc sample_key_eq all (key s)
          ∙ ap (λ b. cond b firsts (firsts ++ key s ∷ [])) (swapped ∙ sym (any_firsts sample_key_eq (sample_key_eq (key s)) (λ x y h. ap (sample_key_eq (key s)) (key_is x y h)) all))

      by : (b : Bool) → label_sets_eq (group n) (group s) ≡ b
          → ◌≡◌ {A = Runs} (record { begun = first_of_each sample_key_eq (map key (reverse (s ∷ n ∷ samples))); nearest = Some (group s) })
          (cond b (record { begun = firsts; nearest = Some (group n) }) (record { begun = cond (list_any (sample_key_eq (key s)) firsts) firsts (firsts ++ key s ∷ []); nearest = Some (group s) }))
      by true e =
          let known : list_any (sample_key_eq (key s)) firsts ≡ true = begun_before s (n ∷ samples) ∙ ap (λ b. b || list_any (λ t. in_one_group st k F t s) samples) e in
          let begun : first_of_each sample_key_eq (map key (reverse (s ∷ n ∷ samples))) ≡ firsts = begun_is ∙ ap (λ b. cond b firsts (firsts ++ key s ∷ [])) known in
          let same : group s ≡ group n = sym ((label_sets_decide (group n) (group s)).0 e) in
          λ i. record { begun = begun i; nearest = Some (same i) }
      by false e = λ i. record { begun = begun_is i; nearest = Some (group s) }

-- ---- the groups of a family

pub no_samples_no_runs : (st : Setting) (above : List Owned) (F : List ℕ) → samples_of above F ≡ [] → runs_of st above F ≡ no_runs
unfolding runs_of runs_from
no_samples_no_runs st above F none = ap (λ l. cond (has_runs st.format (kind_of above F)) (runs_from st (kind_of above F) F l) no_runs) none ∙ by (has_runs st.format (kind_of above F))
  where
    by : (b : Bool) → cond b no_runs no_runs ≡ no_runs
    by true = refl
    by false = refl

-- a sample of the family more
pub runs_sample : (st : Setting) (F : List ℕ) (s : Sample) (above : List Owned)
    → runs_of st (record { family = F; item = items.Sample s } ∷ above) F
    ≡ cond (has_runs st.format (kind_of above F)) (with_group (runs_of st above F) (group_key F (sample_group st (kind_of above F) F s))) (runs_of st above F)
unfolding runs_of kind_of samples_of
runs_sample st F s above = rw (bytes_same F) (by (has_runs st.format k))
  where
    k : Kind
    k = kind_of above F

    by : (b : Bool) → cond b (runs_from st k F (s ∷ samples_of above F)) no_runs
        ≡ cond b (with_group (cond b (runs_from st k F (samples_of above F)) no_runs) (group_key F (sample_group st k F s))) (cond b (runs_from st k F (samples_of above F)) no_runs)
    by true = runs_more st k F (samples_of above F) s
    by false = refl

-- the groups that are kept answer the rule where they are kept
kept_or_none : (b : Bool) (r : Runs) (own : SampleKey) → (b && goes_back (cond b r no_runs) own) ≡ (b && goes_back r own)
kept_or_none true r own = refl
kept_or_none false r own = refl

-- Interleaved, by the groups of the family, where they are kept
pub interleaved_kept : (st : Setting) (above : List Owned) (F : List ℕ) (s : Sample)
    → (has_runs st.format (kind_of above F) && goes_back (runs_of st above F) (group_key F (sample_group st (kind_of above F) F s)))
    ≡ (has_own_runs (kind_of above F) && is_interleaved st (kind_of above F) F (samples_of above F) s)
unfolding runs_of
interleaved_kept st above F s = by (has_own_runs (kind_of above F))
  where
    r : Runs
    r = runs_from st (kind_of above F) F (samples_of above F)

    own : SampleKey
    own = group_key F (sample_group st (kind_of above F) F s)

    by : (a : Bool) → (cond a (is_open_metrics st.format) false && goes_back (cond (cond a (is_open_metrics st.format) false) r no_runs) own) ≡ (a && is_interleaved st (kind_of above F) F (samples_of above F) s)
    by false = refl
    by true = kept_or_none (is_open_metrics st.format) r own ∙ interleaved_runs st (kind_of above F) F (samples_of above F) s
