-- Families that can be written can be written without some of their readings, and without some of the families.
use Rattle.std.proofs.Common.{◌≡◌, ℕ, ◌≤◌, Bool, true, false, not, ◌||◌, List, [], ◌∷◌, ◌++◌, map, length, codes, None, refl, sym, ap, subst, ◌∙◌, inl, inr, ◌⊎◌, All}
use Rattle.std.specs.Prelude.{IsTrue}
use Rattle.std.specs.List.{list_any, list_all, flat_map, AllByRecursion, IsDistinct}
use Rattle.std.specs.Str.{bytes_eq}
use Rattle.std.proofs.lemmas.Bool.{and_parts, and_from, not-true}
use Rattle.std.proofs.lemmas.List.Elements.{All-from_recursion, recursion_from_All}
use Rattle.label_sets.specs.declared.kind.Kind.{Kind}
use Rattle.label_sets.specs.declared.label_set.LabelSet.{LabelSet}
use Rattle.label_sets.specs.Lists.{rest_while}
use Rattle.label_sets.specs.Labels.{label_sets_eq}
use Rattle.page_model.specs.declared.format.Format.{Format}
use Rattle.page_model.specs.declared.format.Format.TheVariants.{OpenMetrics}
use Rattle.page_model.specs.declared.format.Treatment.{Treatment}
use Rattle.page_model.specs.declared.format.Treatment.TheVariants as treatments
use Rattle.page_model.specs.declared.item.Exemplar.{Exemplar}
use Rattle.page_model.specs.declared.item.Item.{Item}
use Rattle.page_model.specs.declared.item.Item.TheVariants as items
use Rattle.page_model.specs.declared.item.Sample.{Sample}
use Rattle.page_model.specs.declared.page.Reading.{Reading}
use Rattle.page_model.specs.declared.page.Family.{Family}
use Rattle.page_model.specs.Written.{label_limit, line_limit}
use Rattle.page_model.specs.Readings.{key_name}
use Rattle.label_sets.specs.Sets.{IsLabelSet}
use Rattle.label_sets.proofs.Laws.{all-append, all-front, all-behind, rest-passed, rest-stopped, rest-none}
use Rattle.page_model.specs.Owners.{group_of}
use Rattle.page_model.specs.Pages.{AreSomeOf, IsThinnerReading, IsThinnerFamily, AreThinnerFamilies}
use Rattle.page_model.proofs.Laws.{whole_family}
use Rattle.open_writing.specs.Writing.{number_sample, value_samples, reading_samples, item_unless_empty, family_samples, family_items, page_items, item_text}
use Rattle.open_writing.specs.FamilyKeys.{family_key, clash}
use Rattle.open_writing.specs.Forms.{IsFormedValue, IsFormedTime, is_text_label, is_own_label, IsFormedReading, IsFormedFamily, label_sets_of, stand_together}
use Rattle.open_writing.specs.OpenForms.{IsBareReading}
use Rattle.writing_laws.specs.WritingLaws.{ThinnerAreWritable, FewerAreWritable}
use Rattle.writing_laws.proofs.Turned.{map-append}

-- ---- what some of a list keep

-- what holds of all holds of some of them, as far as the relation carries it
some_hold : {A : Type 0} (R : A → A → Type 0) (P : A → Type 0) → ((x y : A) → R x y → P x → P y) → (xs ys : List A) → AreSomeOf R xs ys → AllByRecursion P xs → AllByRecursion P ys
some_hold R P carry [] [] s h = tt
some_hold R P carry [] (y ∷ ys) s h = absurd s
some_hold R P carry (x ∷ xs) [] s h = tt
some_hold R P carry (x ∷ xs) (y ∷ ys) (inl s) h = (carry x y s.0 h.0, some_hold R P carry xs ys s.1 h.1)
some_hold R P carry (x ∷ xs) (y ∷ ys) (inr s) h = some_hold R P carry xs (y ∷ ys) s h.1

-- some of what they come to are some of what all come to
pub some_mapped : {A B : Type 0} (R : A → A → Type 0) (f : A → B) → ((x y : A) → R x y → f y ≡ f x) → (xs ys : List A) → AreSomeOf R xs ys → AreSomeOf (λ a b. b ≡ a) (map f xs) (map f ys)
some_mapped R f same [] [] s = tt
some_mapped R f same [] (y ∷ ys) s = s
some_mapped R f same (x ∷ xs) [] s = some_mapped R f same xs [] s
some_mapped R f same (x ∷ xs) (y ∷ ys) (inl s) = inl (same x y s.0, some_mapped R f same xs ys s.1)
some_mapped R f same (x ∷ xs) (y ∷ ys) (inr s) = inr (some_mapped R f same xs (y ∷ ys) s)

pub some_all : {A : Type 0} (P : A → Type 0) (xs ys : List A) → AreSomeOf (λ a b. b ≡ a) xs ys → AllByRecursion P xs → AllByRecursion P ys
some_all P xs ys s h = some_hold (λ a b. b ≡ a) P (λ x y e p. subst P (sym e) p) xs ys s h

-- elements that differ still do
pub some_distinct : {A : Type 0} (eq : A → A → Bool) (xs ys : List A) → AreSomeOf (λ a b. b ≡ a) xs ys → IsDistinct eq xs → IsDistinct eq ys
unfolding IsDistinct
some_distinct eq [] [] s d = tt
some_distinct eq [] (y ∷ ys) s d = absurd s
some_distinct eq (x ∷ xs) [] s d = tt
some_distinct eq (x ∷ xs) (y ∷ ys) (inl s) d = (subst (λ z. AllByRecursion (λ w. eq z w ≡ false) ys) (sym s.0) (some_all (λ w. eq x w ≡ false) xs ys s.1 d.0), some_distinct eq xs ys s.1 d.1)
some_distinct eq (x ∷ xs) (y ∷ ys) (inr s) d = some_distinct eq xs (y ∷ ys) s d.1

-- ---- groups that stand together

none_left : {A : Type 0} (p : A → Bool) (xs ys : List A) → AreSomeOf (λ a b. b ≡ a) xs ys → list_any p xs ≡ false → list_any p ys ≡ false
none_left p [] [] s e = refl
none_left p [] (y ∷ ys) s e = absurd s
none_left p (x ∷ xs) [] s e = refl
none_left p (x ∷ xs) (y ∷ ys) (inl s) e = go (p x) refl e (none_left p xs ys s.1)
  where
    go : (b : Bool) → p x ≡ b → (b || list_any p xs) ≡ false → (list_any p xs ≡ false → list_any p ys ≡ false) → list_any p (y ∷ ys) ≡ false
    go true f k ih = absurd (let g : true ≡ false = k in cc)
    go false f k ih = rw (ap p s.0 ∙ f) (ih k)
none_left p (x ∷ xs) (y ∷ ys) (inr s) e = go (p x) e (none_left p xs (y ∷ ys) s)
  where
    go : (b : Bool) → (b || list_any p xs) ≡ false → (list_any p xs ≡ false → list_any p (y ∷ ys) ≡ false) → list_any p (y ∷ ys) ≡ false
    go true k ih = absurd (let g : true ≡ false = k in cc)
    go false k ih = ih k

-- where none passes behind the front that does, none does so among some of them
rest_left : {A : Type 0} (p : A → Bool) (xs ys : List A) → AreSomeOf (λ a b. b ≡ a) xs ys → list_any p (rest_while p xs) ≡ false → list_any p (rest_while p ys) ≡ false
rest_left p [] [] s e = refl
rest_left p [] (y ∷ ys) s e = absurd s
rest_left p (x ∷ xs) [] s e = refl
rest_left p (x ∷ xs) (y ∷ ys) (inl s) e = go (p x) refl (rest_left p xs ys s.1)
  where
    go : (b : Bool) → p x ≡ b → (list_any p (rest_while p xs) ≡ false → list_any p (rest_while p ys) ≡ false) → list_any p (rest_while p (y ∷ ys)) ≡ false
    go true f ih = ap (list_any p) (rest-passed p y ys (ap p s.0 ∙ f)) ∙ ih (ap (list_any p) (sym (rest-passed p x xs f)) ∙ e)
    go false f ih = rest-none p (y ∷ ys) (none_left p (x ∷ xs) (y ∷ ys) (inl s) (ap (list_any p) (sym (rest-stopped p x xs f)) ∙ e))
rest_left p (x ∷ xs) (y ∷ ys) (inr s) e = go (p x) refl (rest_left p xs (y ∷ ys) s)
  where
    go : (b : Bool) → p x ≡ b → (list_any p (rest_while p xs) ≡ false → list_any p (rest_while p (y ∷ ys)) ≡ false) → list_any p (rest_while p (y ∷ ys)) ≡ false
    go true f ih = ih (ap (list_any p) (sym (rest-passed p x xs f)) ∙ e)
    go false f ih = rest-none p (y ∷ ys) (none_left p (x ∷ xs) (y ∷ ys) (inr s) (ap (list_any p) (sym (rest-stopped p x xs f)) ∙ e))

pub some_together : (gs hs : List LabelSet) → AreSomeOf (λ a b. b ≡ a) gs hs → stand_together gs ≡ true → stand_together hs ≡ true
unfolding stand_together
some_together [] [] s h = refl
some_together [] (y ∷ ys) s h = absurd s
some_together (g ∷ gs) [] s h = refl
some_together (g ∷ gs) (y ∷ ys) (inl s) h =
    let both = and_parts (not (list_any (label_sets_eq g) (rest_while (label_sets_eq g) gs))) (stand_together gs) h in
    let none : list_any (label_sets_eq g) (rest_while (label_sets_eq g) ys) ≡ false = rest_left (label_sets_eq g) gs ys s.1 (not-true _ both.0) in
    let mine : list_any (label_sets_eq y) (rest_while (label_sets_eq y) ys) ≡ false = subst (λ z. list_any (label_sets_eq z) (rest_while (label_sets_eq z) ys) ≡ false) (sym s.0) none in
    and_from (not (list_any (label_sets_eq y) (rest_while (label_sets_eq y) ys))) (stand_together ys) (ap not mine) (some_together gs ys s.1 both.1)
some_together (g ∷ gs) (y ∷ ys) (inr s) h =
    let both = and_parts (not (list_any (label_sets_eq g) (rest_while (label_sets_eq g) gs))) (stand_together gs) h in
    some_together gs (y ∷ ys) s both.1

-- ---- thinner readings

-- the samples of a reading are told from its labels, its value and its created time
samples_same : (kind : Kind) (family : List ℕ) (r q : Reading) → IsThinnerReading r q → reading_samples kind family q ≡ reading_samples kind family r
unfolding reading_samples
samples_same kind family r q t = λ i. value_samples kind family (t.key i).labels (t.value i) ++ number_sample (family ++ codes "_created") (t.key i).labels (t.created i)

no_exemplars : (whole thin : List Exemplar) → AreSomeOf (λ a b. b ≡ a) whole thin → whole ≡ [] → thin ≡ []
no_exemplars whole [] s e = refl
no_exemplars whole (x ∷ thin) s e = absurd (subst (λ w. AreSomeOf (λ a b. b ≡ a) w (x ∷ thin)) e s)

bare_thinner : (r q : Reading) → IsThinnerReading r q → IsBareReading r → IsBareReading q
bare_thinner r q t b = record { no_stamp = go t.stamp; no_exemplars = no_exemplars r.exemplars q.exemplars t.exemplars b.no_exemplars }
  where
    go : (q.stamp ≡ r.stamp) ⊎ (q.stamp ≡ None) → q.stamp ≡ None
    go (inl e) = e ∙ b.no_stamp
    go (inr e) = e

-- a formed reading, by its parts
of_parts : (form : Format) (treatment : Treatment) (kind : Kind) (family unit : List ℕ) (r q : Reading) → IsFormedReading form treatment kind family unit r → q.key ≡ r.key → q.value ≡ r.value → q.created ≡ r.created → reading_samples kind family q ≡ reading_samples kind family r
    → IsFormedReading form treatment kind family unit q
of_parts form treatment kind family unit r q f key value created samples = record {
  key = subst (λ k. k ≡ record { name = key_name form kind family; kind = kind; unit = unit; labels = k.labels }) (sym key) f.key;
  label_set = subst (λ k. IsLabelSet k.labels) (sym key) f.label_set;
  labels = subst (λ k. IsTrue (list_all is_text_label k.labels)) (sym key) f.labels;
  own_labels = subst (λ k. IsTrue (list_all (is_own_label treatment) k.labels)) (sym key) f.own_labels;
  few_labels = subst (λ ss. All (λ (s : Sample). length s.labels ≤ label_limit treatment) ss) (sym samples) f.few_labels;
  value = subst (λ k. IsFormedValue form treatment kind family k.labels q.value) (sym key) (subst (IsFormedValue form treatment kind family r.key.labels) (sym value) f.value);
  created = subst (IsFormedTime form kind) (sym created) f.created;
}

formed_thinner : (form : Format) (treatment : Treatment) (kind : Kind) (family unit : List ℕ) (r q : Reading) → IsThinnerReading r q → IsFormedReading form treatment kind family unit r → IsFormedReading form treatment kind family unit q
formed_thinner form treatment kind family unit r q t f = of_parts form treatment kind family unit r q f t.key t.value t.created (samples_same kind family r q t)

-- ---- thinner families

-- a formed family with some of its readings
with_some : (form : Format) (treatment : Treatment) (f : Family) (rs : List Reading) → AreSomeOf IsThinnerReading f.readings rs → IsFormedFamily form treatment f
    → IsFormedFamily form treatment (record { name = f.name; kind = f.kind; help = f.help; unit = f.unit; readings = rs })
with_some form treatment f rs s h =
    let labels = some_mapped IsThinnerReading (λ (r : Reading). r.key.labels) (λ r q t. ap (λ k. k.labels) t.key) f.readings rs s in
    record {
      name = h.name;
      kind = h.kind;
      help = h.help;
      unit = h.unit;
      unit_in_format = h.unit_in_format;
      readings = All-from_recursion _ rs (some_hold IsThinnerReading (IsFormedReading form treatment f.kind f.name f.unit) (formed_thinner form treatment f.kind f.name f.unit) f.readings rs s (recursion_from_All _ f.readings h.readings));
      distinct = some_distinct label_sets_eq (label_sets_of f.readings) (label_sets_of rs) labels h.distinct;
      together = some_together (map (group_of f.kind f.name) (label_sets_of f.readings)) (map (group_of f.kind f.name) (label_sets_of rs))
          (some_mapped (λ a b. b ≡ a) (group_of f.kind f.name) (λ a b e. ap (group_of f.kind f.name) e) (label_sets_of f.readings) (label_sets_of rs) labels) h.together;
    }

-- a thinner family is the family with some of its readings
with_readings : (f g : Family) → IsThinnerFamily f g → record { name = f.name; kind = f.kind; help = f.help; unit = f.unit; readings = g.readings } ≡ g
with_readings f g t = λ i. record { name = sym t.name i; kind = sym t.kind i; help = sym t.help i; unit = sym t.unit i; readings = g.readings }

-- what holds of each line that is written holds of those of some readings
some_samples : (P : Item → Type 0) (kind : Kind) (family : List ℕ) (rs qs : List Reading) → AreSomeOf IsThinnerReading rs qs
    → AllByRecursion P (map items.Sample (flat_map (reading_samples kind family) rs)) → AllByRecursion P (map items.Sample (flat_map (reading_samples kind family) qs))
some_samples P kind family [] [] s h = tt
some_samples P kind family [] (q ∷ qs) s h = absurd s
some_samples P kind family (r ∷ rs) [] s h = tt
some_samples P kind family (r ∷ rs) (q ∷ qs) (inl s) h =
    let parted = subst (AllByRecursion P) (map-append items.Sample (reading_samples kind family r) (flat_map (reading_samples kind family) rs)) h in
    subst (AllByRecursion P) (sym (map-append items.Sample (reading_samples kind family q) (flat_map (reading_samples kind family) qs)))
    (all-append P (map items.Sample (reading_samples kind family q)) (map items.Sample (flat_map (reading_samples kind family) qs))
    (subst (λ ss. AllByRecursion P (map items.Sample ss)) (sym (samples_same kind family r q s.0)) (all-front P (map items.Sample (reading_samples kind family r)) (map items.Sample (flat_map (reading_samples kind family) rs)) parted))
    (some_samples P kind family rs qs s.1 (all-behind P (map items.Sample (reading_samples kind family r)) (map items.Sample (flat_map (reading_samples kind family) rs)) parted)))
some_samples P kind family (r ∷ rs) (q ∷ qs) (inr s) h =
    let parted = subst (AllByRecursion P) (map-append items.Sample (reading_samples kind family r) (flat_map (reading_samples kind family) rs)) h in
    some_samples P kind family rs (q ∷ qs) s (all-behind P (map items.Sample (reading_samples kind family r)) (map items.Sample (flat_map (reading_samples kind family) rs)) parted)

family_lines_kept : (P : Item → Type 0) (f : Family) (rs : List Reading) → AreSomeOf IsThinnerReading f.readings rs → AllByRecursion P (family_items f)
    → AllByRecursion P (family_items (record { name = f.name; kind = f.kind; help = f.help; unit = f.unit; readings = rs }))
unfolding family_items family_samples
family_lines_kept P f rs s h =
    let units = item_unless_empty (items.Unit f.name) f.unit in
    let helps = item_unless_empty (items.Help f.name) f.help in
    let samples = map items.Sample (flat_map (reading_samples f.kind f.name) f.readings) in
    let behind = all-behind P units (helps ++ samples) h.1 in (
      h.0,
      all-append P units _ (all-front P units (helps ++ samples) h.1)
          (all-append P helps _ (all-front P helps samples behind) (some_samples P f.kind f.name f.readings rs s (all-behind P helps samples behind))),
    )

-- ---- pages

-- a thinner family has the form, and bare readings
formed_left : (form : Format) (treatment : Treatment) (f g : Family) → IsThinnerFamily f g → IsFormedFamily form treatment f → IsFormedFamily form treatment g
formed_left form treatment f g t h = subst (IsFormedFamily form treatment) (with_readings f g t) (with_some form treatment f g.readings t.readings h)

pub thin_forms : (form : Format) (treatment : Treatment) (fs gs : List Family) → AreThinnerFamilies fs gs → AllByRecursion (IsFormedFamily form treatment) fs → AllByRecursion (IsFormedFamily form treatment) gs
thin_forms form treatment fs gs t h = some_hold IsThinnerFamily (IsFormedFamily form treatment) (formed_left form treatment) fs gs t h

-- the readings of a family are bare
abbrev Bare : Family → Type 0
Bare f = All IsBareReading f.readings

bare_left : (f g : Family) → IsThinnerFamily f g → Bare f → Bare g
bare_left f g t h = All-from_recursion IsBareReading g.readings (some_hold IsThinnerReading IsBareReading bare_thinner f.readings g.readings t.readings (recursion_from_All IsBareReading f.readings h))

-- what tells families apart still does, where those that are left have it too
pub thin_distinct : {B : Type 0} (eq : B → B → Bool) (p : Family → B) → ((f g : Family) → IsThinnerFamily f g → p g ≡ p f) → (fs gs : List Family) → AreThinnerFamilies fs gs → IsDistinct eq (map p fs) → IsDistinct eq (map p gs)
thin_distinct eq p same fs gs t d = some_distinct eq (map p fs) (map p gs) (some_mapped IsThinnerFamily p same fs gs t) d

pub thin_lines : (P : Item → Type 0) (fs gs : List Family) → AreThinnerFamilies fs gs → AllByRecursion P (flat_map family_items fs) → AllByRecursion P (flat_map family_items gs)
thin_lines P [] [] t h = tt
thin_lines P [] (g ∷ gs) t h = absurd t
thin_lines P (f ∷ fs) [] t h = tt
thin_lines P (f ∷ fs) (g ∷ gs) (inl t) h =
    all-append P (family_items g) (flat_map family_items gs)
    (subst (λ x. AllByRecursion P (family_items x)) (with_readings f g t.0) (family_lines_kept P f g.readings t.0.readings (all-front P (family_items f) (flat_map family_items fs) h)))
    (thin_lines P fs gs t.1 (all-behind P (family_items f) (flat_map family_items fs) h))
thin_lines P (f ∷ fs) (g ∷ gs) (inr t) h = thin_lines P fs (g ∷ gs) t (all-behind P (family_items f) (flat_map family_items fs) h)

key_same : (f g : Family) → IsThinnerFamily f g → family_key g ≡ family_key f
key_same f g t = λ i. record { name = t.name i; kind = t.kind i; unit = t.unit i }

pub short_kept : (P : Item → Type 0) (fs gs : List Family) → (AllByRecursion P (flat_map family_items fs) → AllByRecursion P (flat_map family_items gs)) → All P (page_items fs) → All P (page_items gs)
unfolding page_items
short_kept P fs gs keep h =
    let all = recursion_from_All P (flat_map family_items fs ++ items.Eof ∷ []) h in
    All-from_recursion P (flat_map family_items gs ++ items.Eof ∷ []) (all-append P (flat_map family_items gs) (items.Eof ∷ []) (keep (all-front P (flat_map family_items fs) (items.Eof ∷ []) all)) (all-behind P (flat_map family_items fs) (items.Eof ∷ []) all))

pub thinner : ThinnerAreWritable
thinner fs gs w t = record {
  formed = record {
    each = All-from_recursion _ gs (thin_forms OpenMetrics treatments.Written fs gs t (recursion_from_All _ fs w.formed.each));
    names = thin_distinct bytes_eq (λ (f : Family). f.name) (λ f g h. h.name) fs gs t w.formed.names;
  };
  bare = All-from_recursion Bare gs (some_hold IsThinnerFamily Bare bare_left fs gs t (recursion_from_All Bare fs w.bare));
  apart = thin_distinct clash family_key key_same fs gs t w.apart;
  short_lines = short_kept (λ (item : Item). length (item_text item) ≤ line_limit treatments.Written) fs gs (thin_lines _ fs gs t) w.short_lines;
}

-- families that are left as they are
fewer_thin : (fs gs : List Family) → AreSomeOf (λ f g. g ≡ f) fs gs → AreThinnerFamilies fs gs
fewer_thin [] [] s = tt
fewer_thin [] (g ∷ gs) s = absurd s
fewer_thin (f ∷ fs) [] s = fewer_thin fs [] s
fewer_thin (f ∷ fs) (g ∷ gs) (inl s) = inl (subst (IsThinnerFamily f) (sym s.0) (whole_family f), fewer_thin fs gs s.1)
fewer_thin (f ∷ fs) (g ∷ gs) (inr s) = inr (fewer_thin fs (g ∷ gs) s)

pub fewer : FewerAreWritable
fewer fs gs w s = thinner fs gs w (fewer_thin fs gs s)
