-- A sample goes back to its group where that is overtaken among the groups of its family: the samples of each group stand together.
use Rattle.std.proofs.Common.{◌≡◌, ℕ, suc, Bool, true, false, cond, not, ◌&&◌, ◌||◌, List, [], ◌∷◌, ◌++◌, map, reverse, length, refl, sym, ap, subst, ◌∙◌, arith}
use Rattle.std.specs.Prelude.{nat_lt}
use Rattle.std.specs.List.{list_any}
use Rattle.std.proofs.lemmas.List.{map-append}
use Rattle.std.proofs.lemmas.Bool.Decides.{nat_tests}
use Rattle.std.proofs.Math.Bool.{or-false}
use Rattle.label_sets.specs.declared.kind.Kind.{Kind}
use Rattle.label_sets.specs.declared.kind.Kind.TheVariants.{Counter, StateSet}
use Rattle.label_sets.specs.declared.label_set.LabelSet.{LabelSet}
use Rattle.label_sets.specs.Labels.{label_sets_eq}
use Rattle.label_sets.specs.Lists.{first_of_each}
use Rattle.label_sets.proofs.Laws.{any-map, any-reverse}
use Rattle.page_model.specs.declared.format.Format.{Format}
use Rattle.page_model.specs.declared.item.Sample.{Sample}
use Rattle.page_model.specs.Written.{Setting}
use Rattle.page_model.specs.Rules.{is_open_metrics, sample_group, in_one_group, is_interleaved}
use Rattle.page_model.proofs.Laws.{label_sets_decide}
use Rattle.sample_groups.specs.Members.{Member}
use Rattle.sample_groups.specs.Groups.{Gathered, groups_from, group_from, members_in, is_overtaken}
use Rattle.sample_groups.specs.Parts.{is_grouped, entry_of}
use Rattle.family_rules.specs.GroupRuns.{is_alone, has_own_runs}
use Rattle.family_rules.proofs.Lists.{label_sets_swap, any_firsts, first_of_each-snoc}
use Rattle.family_rules.proofs.Faults.{AreTogether}
use mathlib.Core.List.{reverse-cons}

-- ---- label sets with others behind them

abbrev has_later : List LabelSet → LabelSet → Bool
has_later [] x = false
has_later (y ∷ ys) x = cond (label_sets_eq x y) (nat_lt 0 (length ys)) (has_later ys x)

some_length : (n : ℕ) → nat_lt 0 (suc n) ≡ true
some_length n = grind (arith, nat_tests)

no_length : nat_lt 0 0 ≡ false
no_length = grind (arith, nat_tests)

pairs_length : (g : LabelSet → Gathered) (ls : List LabelSet) → length {A = LabelSet × Gathered} (map (λ l. (l, g l)) ls) ≡ length ls
pairs_length g [] = refl
pairs_length g (l ∷ ls) = ap suc (pairs_length g ls)

overtaken_labels : (g : LabelSet → Gathered) (ls : List LabelSet) (x : LabelSet) → is_overtaken (map (λ l. (l, g l)) ls) x ≡ has_later ls x
overtaken_labels g [] x = refl
overtaken_labels g (l ∷ ls) x = λ i. cond (label_sets_eq x l) (nat_lt 0 (pairs_length g ls i)) (overtaken_labels g ls x i)

later_snoc : (front : List LabelSet) (g x : LabelSet) → has_later (front ++ g ∷ []) x ≡ list_any (label_sets_eq x) front
later_snoc [] g x = by (label_sets_eq x g)
  where
    by : (b : Bool) → cond b (nat_lt 0 0) false ≡ false
    by true = no_length
    by false = refl
later_snoc (y ∷ front) g x = by (label_sets_eq x y) (later_snoc front g x)
  where
    some_more : (l : List LabelSet) → nat_lt 0 (length (l ++ g ∷ [])) ≡ true
    some_more [] = some_length 0
    some_more (z ∷ l) = some_length (length (l ++ g ∷ []))

    by : (b : Bool) → has_later (front ++ g ∷ []) x ≡ list_any (label_sets_eq x) front → cond b (nat_lt 0 (length (front ++ g ∷ []))) (has_later (front ++ g ∷ []) x) ≡ (b || list_any (label_sets_eq x) front)
    by true e = some_more front
    by false e = e

any_snoc : (p : LabelSet → Bool) (xs : List LabelSet) (y : LabelSet) → p y ≡ false → list_any p (xs ++ y ∷ []) ≡ list_any p xs
any_snoc p [] y e = ap (λ b. b || false) e
any_snoc p (x ∷ xs) y e = ap (λ b. p x || b) (any_snoc p xs y e)

-- the label set stands at the end, and nowhere else
record EndsWith (ls : List LabelSet) (g : LabelSet) : Type 0 where
  front : List LabelSet
  is : ls ≡ front ++ g ∷ []
  new : list_any (label_sets_eq g) front ≡ false

-- ---- the groups of samples that stand together

module _ (st : Setting) (K : Kind) (F : List ℕ) where
  abbrev group : Sample → LabelSet
  group s = sample_group st K F s

  abbrev firsts : List Sample → List LabelSet
  firsts samples = first_of_each label_sets_eq (map group (reverse samples))

  firsts_more : (n : Sample) (rest : List Sample) → firsts (n ∷ rest) ≡ cond (list_any (λ t. label_sets_eq (group t) (group n)) rest) (firsts rest) (firsts rest ++ group n ∷ [])
  firsts_more n rest =
      ap (λ l. first_of_each label_sets_eq (map group l)) (reverse-cons n rest)
      ∙ ap (first_of_each label_sets_eq) (map-append group (reverse rest) (n ∷ []))
      ∙ first_of_each-snoc label_sets_eq (map group (reverse rest)) (group n)
      ∙ ap (λ b. cond b (firsts rest) (firsts rest ++ group n ∷ []))
      (any-map (λ x. label_sets_eq x (group n)) group (reverse rest) ∙ any-reverse (λ t. label_sets_eq (group t) (group n)) rest)

  any_first : (x : LabelSet) (rest : List Sample) → list_any (label_sets_eq x) (firsts rest) ≡ list_any (λ t. label_sets_eq (group t) x) rest
  any_first x rest =
      any_firsts label_sets_eq (label_sets_eq x) (λ a b h. ap (label_sets_eq x) ((label_sets_decide a b).0 h)) (map group (reverse rest))
      ∙ any-map (label_sets_eq x) group (reverse rest) ∙ any-reverse (λ t. label_sets_eq x (group t)) rest
      ∙ (λ i. list_any (λ t. label_sets_swap x (group t) i) rest)

  module _ (open_format : is_open_metrics st.format ≡ true) where
    interleaved_is : (m : Sample) (rest : List Sample) (n : Sample) (a b : Bool) → label_sets_eq (group m) (group n) ≡ a → list_any (λ t. label_sets_eq (group t) (group n)) rest ≡ b
        → is_interleaved st K F (m ∷ rest) n ≡ (not a && b)
    unfolding is_interleaved
    interleaved_is m rest n a b e f = λ i. open_format i && not (e i) && f i

    ends : (n : Sample) (rest : List Sample) → AreTogether st K F (n ∷ rest) → EndsWith (firsts (n ∷ rest)) (group n)
    ends n [] h = record { front = []; is = firsts_more n []; new = refl }
    ends n (m ∷ rest) h = by (label_sets_eq (group m) (group n)) (list_any (λ t. label_sets_eq (group t) (group n)) rest) refl refl (ends m rest h.1)
      where
        by : (a b : Bool) → label_sets_eq (group m) (group n) ≡ a → list_any (λ t. label_sets_eq (group t) (group n)) rest ≡ b → EndsWith (firsts (m ∷ rest)) (group m) → EndsWith (firsts (n ∷ m ∷ rest)) (group n)
        by true b e f last =
            subst (EndsWith (firsts (n ∷ m ∷ rest))) ((label_sets_decide (group m) (group n)).0 e) (record {
              front = last.front;
              is = firsts_more n (m ∷ rest) ∙ ap (λ c. cond (c || list_any (λ t. label_sets_eq (group t) (group n)) rest) (firsts (m ∷ rest)) (firsts (m ∷ rest) ++ group n ∷ [])) e ∙ last.is;
              new = last.new;
            })
        by false false e f last = record {
          front = firsts (m ∷ rest);
          is = firsts_more n (m ∷ rest) ∙ (λ i. cond (e i || f i) (firsts (m ∷ rest)) (firsts (m ∷ rest) ++ group n ∷ []));
          new = any_first (group n) (m ∷ rest) ∙ (λ i. e i || f i);
        }
        by false true e f last = absurd (let no : true ≡ false = sym (interleaved_is m rest n false true e f) ∙ h.0 in cc)

    later_kept : (samples : List Sample) → AreTogether st K F samples → (s : Sample) → has_later (firsts samples) (group s) ≡ is_interleaved st K F samples s
    unfolding is_interleaved
    later_kept [] h s = refl
    later_kept (n ∷ rest) h s = later_last (ends n rest h)
      where
        later_last : EndsWith (firsts (n ∷ rest)) (group n) → has_later (firsts (n ∷ rest)) (group s) ≡ is_interleaved st K F (n ∷ rest) s
        later_last last = ap (λ l. has_later l (group s)) last.is ∙ later_snoc last.front (group n) (group s) ∙ by (label_sets_eq (group n) (group s)) refl
          where
            by : (a : Bool) → label_sets_eq (group n) (group s) ≡ a → list_any (label_sets_eq (group s)) last.front ≡ is_interleaved st K F (n ∷ rest) s
            by true e = ap (λ g. list_any (label_sets_eq g) last.front) (sym ((label_sets_decide (group n) (group s)).0 e)) ∙ last.new
                ∙ sym (interleaved_is n rest s true (list_any (λ t. label_sets_eq (group t) (group s)) rest) e refl)
            by false e = sym (any_snoc (label_sets_eq (group s)) last.front (group n) (label_sets_swap (group s) (group n) ∙ e)) ∙ ap (list_any (label_sets_eq (group s))) (sym last.is)
                ∙ any_first (group s) (n ∷ rest) ∙ ap (λ b. b || list_any (λ t. label_sets_eq (group t) (group s)) rest) e
                ∙ sym (interleaved_is n rest s false (list_any (λ t. label_sets_eq (group t) (group s)) rest) e refl)

    -- Interleaved, by the groups that are kept
    pub overtaken_kept : (samples : List Sample) → AreTogether st K F samples → (s : Sample) → is_overtaken (groups_from (map (entry_of st K F) (reverse samples))) (group s) ≡ is_interleaved st K F samples s
    unfolding groups_from
    overtaken_kept samples h s =
        overtaken_labels (λ l. group_from (members_in l (map (entry_of st K F) (reverse samples)))) (first_of_each label_sets_eq (map (λ (e : LabelSet × Member). e.0) (map (entry_of st K F) (reverse samples)))) (group s)
        ∙ ap (λ l. has_later (first_of_each label_sets_eq l) (group s)) (labels_are (reverse samples)) ∙ later_kept samples h s
      where
        labels_are : (ss : List Sample) → map (λ (e : LabelSet × Member). e.0) (map (entry_of st K F) ss) ≡ map group ss
        labels_are [] = refl
        labels_are (t ∷ ss) = ap (λ l. group t ∷ l) (labels_are ss)

-- a format without the rule
pub never_back : (st : Setting) (K : Kind) (F : List ℕ) (samples : List Sample) (s : Sample) → is_open_metrics st.format ≡ false → is_interleaved st K F samples s ≡ false
unfolding is_interleaved
never_back st K F [] s e = refl
never_back st K F (n ∷ samples) s e = ap (λ b. b && not (in_one_group st K F n s) && list_any (λ t. in_one_group st K F t s) samples) e

-- ---- what tells of each kind

-- the groups that are kept, or those of the readings, tell of each kind but of those whose samples are alone
pub back_by_kind : (f : Format) (K : Kind) (back : Bool) → (is_open_metrics f ≡ false → back ≡ false) → ((has_own_runs K && back) || (is_grouped f K && back)) ≡ (not (is_alone K) && back)
back_by_kind f StateSet back h = or-false back
back_by_kind f Counter back h = by (is_open_metrics f) h
  where
    by : (o : Bool) → (o ≡ false → back ≡ false) → (o && back) ≡ back
    by true e = refl
    by false e = sym (e refl)
back_by_kind f _ back h = refl
