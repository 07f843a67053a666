-- Groups that stand together: behind the groups above it, the nearest first, none comes back.
use Rattle.std.proofs.Common.{◌≡◌, Bool, true, false, not, ◌||◌, List, [], ◌∷◌, map, refl, sym, ap, subst, ◌∙◌, inl, inr, ◌⊎◌}
use Rattle.std.specs.Prelude.{⊤}
use Rattle.std.specs.List.{list_any, flat_map, AllByRecursion}
use Rattle.std.proofs.lemmas.Bool.{and_parts, not-true, or_parts, or_from}
use Rattle.label_sets.specs.declared.label_set.LabelSet.{LabelSet}
use Rattle.label_sets.specs.Lists.{rest_while}
use Rattle.label_sets.specs.Labels.{label_sets_eq}
use Rattle.page_model.proofs.Laws.{label_sets_decide}
use Rattle.open_writing.specs.Forms.{stand_together}
use Rattle.writing_laws.proofs.Turned.{turn, Each, all-map, turn-mapped, each-mapped, each-append, map-append}

-- the nearest group is this one, or no other above it is
abbrev pub NotBack : List LabelSet → LabelSet → Type 0
NotBack [] g = ⊤
NotBack (n ∷ above) g = (label_sets_eq n g ≡ true) ⊎ (list_any (λ m. label_sets_eq m g) above ≡ false)

either : (b : Bool) → (b ≡ true) ⊎ (b ≡ false)
either true = inl refl
either false = inr refl

pub same_set : (a b : LabelSet) → label_sets_eq a b ≡ true → a ≡ b
same_set a b e = (label_sets_decide a b).0 e

-- a group that isn't at the front of those to come is among what is left
rest_other : (n g : LabelSet) (gs : List LabelSet) → label_sets_eq n g ≡ false → rest_while (label_sets_eq n) (g ∷ gs) ≡ g ∷ gs
rest_other n g gs e = rw e refl

-- one of those above: it is the nearest, or none of those to come is it
abbrev IsDone : LabelSet → List LabelSet → LabelSet → Type 0
IsDone n gs a = (a ≡ n) ⊎ (list_any (label_sets_eq a) gs ≡ false)

-- what is known of the groups above: none but the nearest comes again, and the nearest not behind another
record IsPast (n : LabelSet) (rest gs : List LabelSet) : Type 0 where
  others : AllByRecursion (IsDone n gs) rest
  nearest : list_any (label_sets_eq n) (rest_while (label_sets_eq n) gs) ≡ false

-- the nearest, behind one more
nearest_done : (n g : LabelSet) (gs : List LabelSet) → list_any (label_sets_eq n) (rest_while (label_sets_eq n) (g ∷ gs)) ≡ false → IsDone g gs n
nearest_done n g gs h = go (either (label_sets_eq n g))
  where
    go : ((label_sets_eq n g ≡ true) ⊎ (label_sets_eq n g ≡ false)) → IsDone g gs n
    go (inl e) = inl (same_set n g e)
    go (inr e) =
        let k : (label_sets_eq n g || list_any (label_sets_eq n) gs) ≡ false = ap (list_any (label_sets_eq n)) (sym (rest_other n g gs e)) ∙ h in
        inr (or_parts (label_sets_eq n g) (list_any (label_sets_eq n) gs) k).1

-- the others, behind one more
others_done : (n g : LabelSet) (rest gs : List LabelSet) → AllByRecursion (IsDone n (g ∷ gs)) rest → IsDone g gs n → AllByRecursion (IsDone g gs) rest
others_done n g [] gs h d = tt
others_done n g (a ∷ rest) gs h d = (one h.0, others_done n g rest gs h.1 d)
  where
    one : IsDone n (g ∷ gs) a → IsDone g gs a
    one (inl e) = subst (IsDone g gs) (sym e) d
    one (inr e) = inr (or_parts (label_sets_eq a g) (list_any (label_sets_eq a) gs) e).1

-- none of the others is one that is not the nearest
not_among : (n g : LabelSet) (rest gs : List LabelSet) → AllByRecursion (IsDone n (g ∷ gs)) rest → label_sets_eq n g ≡ false → list_any (λ m. label_sets_eq m g) rest ≡ false
not_among n g [] gs h e = refl
not_among n g (a ∷ rest) gs h e = or_from (label_sets_eq a g) _ (one h.0) (not_among n g rest gs h.1 e)
  where
    one : IsDone n (g ∷ gs) a → label_sets_eq a g ≡ false
    one (inl f) = ap (λ x. label_sets_eq x g) f ∙ e
    one (inr f) = (or_parts (label_sets_eq a g) (list_any (label_sets_eq a) gs) f).0

behind_others : (n : LabelSet) (rest gs : List LabelSet) → IsPast n rest gs → stand_together gs ≡ true → Each NotBack (n ∷ rest) gs
unfolding stand_together
behind_others n rest [] past h = tt
behind_others n rest (g ∷ gs) past h =
    let both = and_parts (not (list_any (label_sets_eq g) (rest_while (label_sets_eq g) gs))) (stand_together gs) h in
    let done = nearest_done n g gs past.nearest in
    let more : IsPast g (n ∷ rest) gs = record { others = (done, others_done n g rest gs past.others done); nearest = not-true _ both.0 } in
    (here (either (label_sets_eq n g)), behind_others g (n ∷ rest) gs more both.1)
  where
    here : ((label_sets_eq n g ≡ true) ⊎ (label_sets_eq n g ≡ false)) → NotBack (n ∷ rest) g
    here (inl e) = inl e
    here (inr e) = inr (not_among n g rest gs past.others e)

-- groups that stand together don't come back
pub together_each : (gs : List LabelSet) → stand_together gs ≡ true → Each NotBack [] gs
unfolding stand_together
together_each [] h = tt
together_each (g ∷ gs) h =
    let both = and_parts (not (list_any (label_sets_eq g) (rest_while (label_sets_eq g) gs))) (stand_together gs) h in
    (tt, behind_others g [] gs (record { others = tt; nearest = not-true _ both.0 }) both.1)

-- ---- groups that come several times each

-- the groups of parts above, and the groups of their elements: they begin alike, and no group is among the second that isn't among the first
record IsTied (parts elements : List LabelSet) : Type 0 where
  first : (g : LabelSet) → NotBack parts g → NotBack elements g
  none : (g : LabelSet) → list_any (λ m. label_sets_eq m g) parts ≡ false → list_any (λ m. label_sets_eq m g) elements ≡ false

-- one more of the nearest group
run : (h : LabelSet) (above : List LabelSet) (gs : List LabelSet) → AllByRecursion (λ g. g ≡ h) gs → Each NotBack (h ∷ above) gs
run h above [] all = tt
run h above (g ∷ gs) all =
    let e : label_sets_eq h g ≡ true = (label_sets_decide h g).1 (sym all.0) in
    (inl e, subst (λ x. Each NotBack (x ∷ h ∷ above) gs) (sym all.0) (run h (h ∷ above) gs all.1))

-- the elements of a part, of which there is one at least
run_all : (h : LabelSet) (above : List LabelSet) (g : LabelSet) (gs : List LabelSet) → NotBack above h → AllByRecursion (λ x. x ≡ h) (g ∷ gs) → Each NotBack above (g ∷ gs)
run_all h above g gs back all = (subst (NotBack above) (sym all.0) back, subst (λ x. Each NotBack (x ∷ above) gs) (sym all.0) (run h above gs all.1))

-- behind the part
turned_run : (h : LabelSet) (above gs : List LabelSet) → AllByRecursion (λ g. g ≡ h) gs → (g : LabelSet) → list_any (λ m. label_sets_eq m g) (h ∷ above) ≡ false → list_any (λ m. label_sets_eq m g) (turn gs (h ∷ above)) ≡ false
turned_run h above [] all g e = e
turned_run h above (x ∷ gs) all g e =
    let both = or_parts (label_sets_eq h g) (list_any (λ m. label_sets_eq m g) above) e in
    subst (λ y. list_any (λ m. label_sets_eq m g) (turn gs (y ∷ h ∷ above)) ≡ false) (sym all.0) (turned_run h (h ∷ above) gs all.1 g (or_from (label_sets_eq h g) _ both.0 e))

-- the nearest behind the part is of its group
record IsFrontOf (h : LabelSet) (above : List LabelSet) : Type 0 where
  others : List LabelSet
  is : above ≡ h ∷ others

front_of : (h : LabelSet) (above gs : List LabelSet) → AllByRecursion (λ g. g ≡ h) gs → IsFrontOf h (turn gs (h ∷ above))
front_of h above [] all = record { others = above; is = refl }
front_of h above (x ∷ gs) all = subst (λ y. IsFrontOf h (turn gs (y ∷ h ∷ above))) (sym all.0) (front_of h (h ∷ above) gs all.1)

tied_more : (h : LabelSet) (parts elements : List LabelSet) (x : LabelSet) (gs : List LabelSet) → IsTied parts elements → AllByRecursion (λ g. g ≡ h) (x ∷ gs) → IsTied (h ∷ parts) (turn (x ∷ gs) elements)
tied_more h parts elements x gs tied all =
    let start : turn (x ∷ gs) elements ≡ turn gs (h ∷ elements) = ap (λ y. turn gs (y ∷ elements)) all.0 in
    let front = front_of h elements gs all.1 in
    let absent : (g : LabelSet) → list_any (λ m. label_sets_eq m g) (h ∷ parts) ≡ false → list_any (λ m. label_sets_eq m g) (turn gs (h ∷ elements)) ≡ false
    = λ g e. let both = or_parts (label_sets_eq h g) (list_any (λ m. label_sets_eq m g) parts) e in
    turned_run h elements gs all.1 g (or_from (label_sets_eq h g) _ both.0 (tied.none g both.1)) in
    record {
      first = λ g back. subst (λ t. NotBack t g) (sym start) (subst (λ t. NotBack t g) (sym front.is) (begins g front.others (absent g) front.is back));
      none = λ g e. ap (list_any (λ m. label_sets_eq m g)) start ∙ absent g e;
    }
  where
    begins : (g : LabelSet) (others : List LabelSet) → (list_any (λ m. label_sets_eq m g) (h ∷ parts) ≡ false → list_any (λ m. label_sets_eq m g) (turn gs (h ∷ elements)) ≡ false)
        → turn gs (h ∷ elements) ≡ h ∷ others → NotBack (h ∷ parts) g → NotBack (h ∷ others) g
    begins g others absent is (inl e) = inl e
    begins g others absent is (inr e) = go (either (label_sets_eq h g))
      where
        go : ((label_sets_eq h g ≡ true) ⊎ (label_sets_eq h g ≡ false)) → NotBack (h ∷ others) g
        go (inl f) = inl f
        go (inr f) =
            let k : (label_sets_eq h g || list_any (λ m. label_sets_eq m g) others) ≡ false = ap (list_any (λ m. label_sets_eq m g)) (sym is) ∙ absent (or_from (label_sets_eq h g) _ f e) in
            inr (or_parts (label_sets_eq h g) _ k).1

-- the groups of a part's elements, of which there is one at least
pub record IsRun {A : Type 0} (group : A → LabelSet) (h : LabelSet) (xs : List A) : Type 0 where
  pub first : A
  pub others : List A
  pub is : xs ≡ first ∷ others
  pub all : AllByRecursion (λ x. group x ≡ h) (first ∷ others)

-- elements of parts whose groups stand together
all_together : {R A : Type 0} (group : A → LabelSet) (h : R → LabelSet) (f : R → List A) (rs : List R) (above : List A) (parts : List LabelSet) → IsTied parts (map group above)
    → Each NotBack parts (map h rs) → AllByRecursion (λ r. IsRun group (h r) (f r)) rs → Each NotBack (map group above) (map group (flat_map f rs))
all_together group h f [] above parts tied each runs = tt
all_together group h f (r ∷ rs) above parts tied each runs =
    let run = runs.0 in
    let groups : AllByRecursion (λ g. g ≡ h r) (group run.first ∷ map group run.others) = (run.all.0, all-map (λ g. g ≡ h r) group run.others run.all.1) in
    let own : Each NotBack (map group above) (map group (f r)) = subst (λ xs. Each NotBack (map group above) (map group xs)) (sym run.is) (run_all (h r) (map group above) (group run.first) (map group run.others) (tied.first (h r) each.0) groups) in
    let tied_then : IsTied (h r ∷ parts) (turn (map group (f r)) (map group above)) = subst (λ xs. IsTied (h r ∷ parts) (turn (map group xs) (map group above))) (sym run.is) (tied_more (h r) parts (map group above) (group run.first) (map group run.others) tied groups) in
    let mapped = turn-mapped group (f r) above in
    let rest = all_together group h f rs (turn (f r) above) (h r ∷ parts) (subst (IsTied (h r ∷ parts)) mapped tied_then) each.1 runs.1 in
    subst (Each NotBack (map group above)) (sym (map-append group (f r) (flat_map f rs)))
    (each-append NotBack (map group above) (map group (f r)) (map group (flat_map f rs)) own (subst (λ a. Each NotBack a (map group (flat_map f rs))) (sym mapped) rest))

nothing_tied : IsTied [] []
nothing_tied = record { first = λ g back. tt; none = λ g e. refl }

-- so none of them comes back
pub samples_together : {R A : Type 0} (group : A → LabelSet) (h : R → LabelSet) (f : R → List A) (rs : List R) → stand_together (map h rs) ≡ true → AllByRecursion (λ r. IsRun group (h r) (f r)) rs
    → Each (λ a x. NotBack (map group a) (group x)) [] (flat_map f rs)
samples_together group h f rs together runs = each-mapped NotBack group [] (flat_map f rs) (all_together group h f rs [] [] nothing_tied (together_each (map h rs) together) runs)
