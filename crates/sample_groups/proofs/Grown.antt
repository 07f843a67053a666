-- A group that has one member more, and what it is asked.
use Rattle.std.proofs.Common.{◌≡◌, ℕ, Bool, true, false, cond, not, ◌&&◌, ◌||◌, ◌==◌, List, [], ◌∷◌, ◌++◌, filter_map, Option, Some, None, Result, Ok, Err, refl, sym, ap, subst, ◌∙◌}
use Rattle.std.specs.Prelude.{OnOk}
use Rattle.std.specs.List.{last_or, list_all, list_any, cons_option}
use Rattle.std.specs.Option.{option_or, option_flatten}
use Rattle.std.proofs.lemmas.List.{append-nil}
use Rattle.std.proofs.lemmas.List.Folds.{list_any-append}
use Rattle.std.proofs.Math.Bool.{or-false}
use Rattle.label_sets.specs.declared.kind.Kind.{Kind}
use Rattle.label_sets.specs.declared.kind.Kind.TheVariants.{Counter, Summary}
use Rattle.label_sets.specs.Lists.{some_passes, when_true}
use Rattle.exact_decimal.specs.Decimals.{DecimalValue}
use Rattle.page_model.specs.declared.item.Exemplar.{Exemplar}
use Rattle.page_model.specs.declared.page.Bucket.{Bucket}
use Rattle.page_model.specs.declared.page.Quantile.{Quantile}
use Rattle.page_model.specs.Rules.{is_up}
use Rattle.sample_groups.specs.Members.{Member}
use Rattle.sample_groups.specs.declared.part.Part.{Part}
use Rattle.sample_groups.specs.declared.part.Part.TheVariants as parts
use Rattle.sample_groups.specs.Groups.{Gathered, bucket_in, quantile_in, count_in, is_measure, time_in, exemplar_in, group_of_parts, with_one, breaks_last, breaks_order, ends_with, is_whole_group, group_value}
use Rattle.sample_groups.specs.ExtraValues.{ExtraValue, with_exemplar, first_time, group_kept}
use Rattle.sample_groups.specs.Kept.{KnowsPlaces, AddsPlace, AddsTime, AddsMember}
use Rattle.sample_groups.proofs.Members.{first_some-head}
use Rattle.sample_groups.proofs.Steps.{group_of_parts-snoc, none_more, some_more}
use Rattle.sample_groups.proofs.Whole.{counts_are}

-- what two clauses say of an answer
pub both_ok : {T E : Type 0} (P Q R : Type 0) (r : Result T E) → (P → Q → R) → OnOk r P → OnOk r Q → OnOk r R
both_ok P Q R (Ok x) f p q = f p q
both_ok P Q R (Err e) f p q = tt

-- ---- the places of one part more

-- those of a quantile more
knows_with : (o : Option (List DecimalValue)) (ps : List Part) (p : Part) (q : Quantile) → Some q ≡ quantile_in p → KnowsPlaces o (filter_map quantile_in ps ++ q ∷ []) → KnowsPlaces o (filter_map quantile_in (ps ++ p ∷ []))
knows_with o ps p q is knows = subst (KnowsPlaces o) (sym (some_more ps p quantile_in q (sym is))) knows

-- no place is new with a part that is no quantile
knows_without : (o : Option (List DecimalValue)) (ps : List Part) (p : Part) → None ≡ quantile_in p → KnowsPlaces o (filter_map quantile_in ps) → KnowsPlaces o (filter_map quantile_in (ps ++ p ∷ []))
knows_without o ps p none knows = subst (KnowsPlaces o) (sym (none_more ps p quantile_in (sym none))) knows

pub place_added : (old new : ExtraValue) (ps : List Part) (p : Part) (q : Quantile) → Some q ≡ quantile_in p → KnowsPlaces new.places (filter_map quantile_in ps ++ q ∷ []) → new ≡ record old { places = new.places } → AddsPlace old ps p new
place_added old new ps p q is knows rest = record { places = knows_with new.places ps p q is knows; rest = rest }

pub place_same : (x : ExtraValue) (ps : List Part) (p : Part) → None ≡ quantile_in p → KnowsPlaces x.places (filter_map quantile_in ps) → AddsPlace x ps p x
place_same x ps p none knows = record { places = knows_without x.places ps p none knows; rest = refl }

-- ---- the time of one member more

measured : (ps : List Part) (p : Part) → list_any is_measure (ps ++ p ∷ []) ≡ (list_any is_measure ps || is_measure p)
measured ps p = list_any-append is_measure ps (p ∷ []) ∙ ap (λ b. list_any is_measure ps || b) (or-false (is_measure p))

-- a member that isn't the first that is more than a created time leaves it
pub time_same : (x : ExtraValue) (ps : List Part) (m : Member) → (is_measure m.part && not (list_any is_measure ps)) ≡ false → AddsTime x ps m x
time_same x ps m other = record {
  first = ap (λ b. when_true b x.time) (measured ps m.part) ∙ by (list_any is_measure ps) (is_measure m.part) other;
  rest = refl;
}
  where
    by : (a b : Bool) → (b && not a) ≡ false → when_true (a || b) x.time ≡ option_or (when_true a x.time) (when_true b m.time)
    by true b e = refl
    by false true e = absurd (let no : true ≡ false = e in cc)
    by false false e = refl

-- the first one's is the group's
pub time_comes : (x y : ExtraValue) (ps : List Part) (m : Member) → (is_measure m.part && not (list_any is_measure ps)) ≡ true → y ≡ record x { time = m.time } → AddsTime x ps m y
time_comes x y ps m own put = record {
  first = ap (λ (v : ExtraValue). first_time (ps ++ m.part ∷ []) v.time) put ∙ ap (λ b. when_true b m.time) (measured ps m.part) ∙ by (list_any is_measure ps) (is_measure m.part) own;
  rest = put ∙ ap (λ (t : Option ℕ). record x { time = t }) (sym (ap (λ (v : ExtraValue). v.time) put));
}
  where
    by : (a b : Bool) → (b && not a) ≡ true → when_true (a || b) m.time ≡ option_or (when_true a x.time) (when_true b m.time)
    by true true e = absurd (let no : false ≡ true = e in cc)
    by true false e = absurd (let no : false ≡ true = e in cc)
    by false true e = refl
    by false false e = absurd (let no : false ≡ true = e in cc)

-- ---- the exemplar of one member more

pub no_exemplar : (x : ExtraValue) (o : Option Exemplar) → o ≡ None → x ≡ with_exemplar x o
no_exemplar x o none = sym (ap (with_exemplar x) none ∙ ap (λ (es : List Exemplar). record x { exemplars = es }) (append-nil x.exemplars))

-- ---- one member more

pub all_added : (a b c d : ExtraValue) (ps : List Part) (m : Member) → AddsPlace a ps m.part b → AddsTime b ps m c → d ≡ with_exemplar c (exemplar_in m) → AddsMember a ps m d
all_added a b c d ps m place time exemplar =
    let places : d.places ≡ b.places = ap (λ (v : ExtraValue). v.places) exemplar ∙ ap (λ (v : ExtraValue). v.places) time.rest in
    let same : d.time ≡ c.time = ap (λ (v : ExtraValue). v.time) exemplar in
    let before : b.time ≡ a.time = ap (λ (v : ExtraValue). v.time) place.rest in
    let others : c.exemplars ≡ a.exemplars = ap (λ (v : ExtraValue). v.exemplars) time.rest ∙ ap (λ (v : ExtraValue). v.exemplars) place.rest in
    record {
      places = subst (λ (o : Option (List DecimalValue)). KnowsPlaces o (filter_map quantile_in (ps ++ m.part ∷ []))) (sym places) place.places;
      first = ap (first_time (ps ++ m.part ∷ [])) same ∙ time.first ∙ ap (λ (t : Option ℕ). option_or (first_time ps t) (time_in m)) before;
      exemplars = ap (λ (v : ExtraValue). v.exemplars) exemplar ∙ ap (λ (es : List Exemplar). es ++ cons_option (exemplar_in m) []) others;
    }

pub with_more : (ps new : List Part) (x y : ExtraValue) (m : Member) (g : Gathered) → new ≡ ps ++ m.part ∷ [] → AddsMember x ps m y → group_kept ps x ≡ g → group_kept new y ≡ with_one g m
with_more ps new x y m g more adds is =
    ap (λ (l : List Part). group_of_parts l (first_time l y.time) y.exemplars) more
    ∙ (λ i. group_of_parts (ps ++ m.part ∷ []) (adds.first i) (adds.exemplars i))
    ∙ group_of_parts-snoc ps (first_time ps x.time) x.exemplars m
    ∙ ap (λ h. with_one h m) is

-- the same of what was taken out of the group
pub added_kept : (x taken y : ExtraValue) (ps slice : List Part) (m : Member) → taken ≡ x → slice ≡ ps → AddsMember taken slice m y → AddsMember x ps m y
added_kept x taken y ps slice m same parts adds = subst (λ (v : ExtraValue). AddsMember v ps m y) same (subst (λ (l : List Part). AddsMember taken l m y) parts adds)

pub knows_kept : (x taken : ExtraValue) (ps slice : List Part) → taken ≡ x → slice ≡ ps → KnowsPlaces x.places (filter_map quantile_in ps) → KnowsPlaces taken.places (filter_map quantile_in slice)
knows_kept x taken ps slice same parts knows =
    subst (λ (v : ExtraValue). KnowsPlaces v.places (filter_map quantile_in slice)) (sym same) (subst (λ (l : List Part). KnowsPlaces x.places (filter_map quantile_in l)) (sym parts) knows)

pub knows_more : (y : ExtraValue) (ps new : List Part) (p : Part) → new ≡ ps ++ p ∷ [] → KnowsPlaces y.places (filter_map quantile_in (ps ++ p ∷ [])) → KnowsPlaces y.places (filter_map quantile_in new)
knows_more y ps new p more knows = subst (λ (l : List Part). KnowsPlaces y.places (filter_map quantile_in l)) (sym more) knows

-- ---- what it is asked

pub breaks_bucket : (ps slice : List Part) (x : ExtraValue) (g : Gathered) (b : Bucket) (last : Option Bucket) (breaks : Bool) → slice ≡ ps → group_kept ps x ≡ g → last ≡ last_or None (filter_map bucket_in slice) → breaks ≡ breaks_last last b
    → breaks ≡ breaks_order g (parts.Bucket b)
unfolding group_of_parts
breaks_bucket ps slice x g b last breaks same is found answer =
    answer ∙ ap (λ l. breaks_last l b) (found ∙ ap (λ l. last_or None (filter_map bucket_in l)) same) ∙ ap (λ (h : Gathered). breaks_order h (parts.Bucket b)) is

-- the last bucket and the counts decide whether a group is whole
pub whole_by : (ps slice : List Part) (x : ExtraValue) (g : Gathered) (b : Bucket) (up counts : Bool) → slice ≡ ps → group_kept ps x ≡ g → Some b ≡ last_or None (filter_map bucket_in slice)
    → up ≡ is_up b.le → counts ≡ list_all (λ n. n == b.count) (filter_map count_in slice) → (up && counts) ≡ is_whole_group g
unfolding group_of_parts
whole_by ps slice x g b up counts same is last up_is counts_is =
    (λ i. up_is i && (counts_is ∙ ap (λ l. list_all (λ n. n == b.count) (filter_map count_in l)) same) i)
    ∙ ap (λ c. is_up b.le && c) (sym (counts_are (filter_map count_in ps) b.count)) ∙ regrouped (is_up b.le) _ _
    ∙ ap (λ o. is_up b.le && (group_kept ps x).counts_agree && not (some_passes (λ n. not (n == b.count)) o)) (sym (first_some-head count_in ps))
    ∙ ap (λ l. ends_with l (group_kept ps x)) (last ∙ ap (λ l. last_or None (filter_map bucket_in l)) same)
    ∙ ap is_whole_group is
  where
    regrouped : (a b c : Bool) → (a && (b && c)) ≡ ((a && b) && c)
    regrouped true b c = refl
    regrouped false b c = refl

pub never_whole : (ps slice : List Part) (x : ExtraValue) (g : Gathered) → slice ≡ ps → group_kept ps x ≡ g → None ≡ last_or None (filter_map bucket_in slice) → false ≡ is_whole_group g
unfolding group_of_parts
never_whole ps slice x g same is none = ap (λ l. ends_with l (group_kept ps x)) (none ∙ ap (λ l. last_or None (filter_map bucket_in l)) same) ∙ ap is_whole_group is

-- its time is what is kept, where a part is more than a created time
pub time_kept : (ps slice : List Part) (x : ExtraValue) (g : Gathered) (any : Bool) → slice ≡ ps → group_kept ps x ≡ g → any ≡ list_any is_measure slice → cond any x.time None ≡ option_flatten g.first
unfolding group_of_parts
time_kept ps slice x g any same is told =
    ap (λ b. cond b x.time None) (told ∙ ap (list_any is_measure) same) ∙ flat (list_any is_measure ps) ∙ ap (λ (h : Gathered). option_flatten h.first) is
  where
    flat : (b : Bool) → cond b x.time None ≡ option_flatten (when_true b x.time)
    flat true = refl
    flat false = refl

-- its value is that of its parts
pub value_kept : (kind : Kind) (ps slice : List Part) (x : ExtraValue) (g : Gathered) → slice ≡ ps → group_kept ps x ≡ g → group_value kind (group_of_parts slice None []) ≡ group_value kind g
unfolding group_of_parts
value_kept kind ps slice x g same is = ap (λ (l : List Part). group_value kind (group_of_parts l None [])) same ∙ by kind ∙ ap (group_value kind) is
  where
    by : (k : Kind) → group_value k (group_of_parts ps None []) ≡ group_value k (group_kept ps x)
    by Counter = refl
    by Summary = refl
    by _ = refl
