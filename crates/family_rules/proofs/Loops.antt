-- The loops that build readings and families.
use Rattle.std.proofs.Common.{◌≡◌, ◌+◌, ℕ, zero, suc, arith, ◌≤◌, Bool, true, cond, List, [], ◌∷◌, ◌++◌, drop, length, Option, Some, None, refl, sym, ap, ◌∙◌}
use Rattle.std.specs.Prelude.{◌||◌, slice_get}
use Rattle.std.specs.List.{list_any, zip}
use Rattle.std.specs.Vec.Iter.{into_iter_items, into_iter_steps}
use Rattle.std.specs.declared.vec.IntoIter.{IntoIter}
use Rattle.std.specs.declared.alloc.Global.{Global}
use Rattle.std.proofs.lemmas.List.{append-nil, append_assoc, drop-drop, nil_from_length}
use Rattle.family_rules.specs.LeftFamilies.{named}
use Rattle.label_sets.specs.declared.kind.Kind.{Kind}
use Rattle.page_model.specs.declared.format.Format.{Format}
use Rattle.page_model.specs.declared.page.Family.{Family}
use Rattle.page_model.specs.declared.page.Reading.{Reading}
use Rattle.family_rules.specs.declared.family.FamilySoFar.{FamilySoFar}
use Rattle.exact_decimal.specs.declared.number.Number.{Number}
use Rattle.packed_keys.specs.declared.sample_key.SampleKey.{SampleKey}
use Rattle.packed_keys.specs.Packing.{sample_key_eq}
use Rattle.family_rules.specs.declared.timed_values.TimedValue.{TimedValue}
use Rattle.family_rules.specs.KeyedValues.{is_key_of}
use Rattle.family_rules.specs.TimedValues.{timed_values, with_time, ComesNext}
use Rattle.family_rules.specs.Made.{plain_reading, readings_at, family_at, families_at}
use Rattle.family_rules.proofs.Timed.{timed-length, timed-snoc}

-- one family more
pub families_step : (format : Format) (it next : List (List ℕ × FamilySoFar)) (name : List ℕ) (known : FamilySoFar) (keys rest : List (SampleKey × TimedValue)) (f : Family) (fs new whole : List Family)
    → it ≡ (name, known) ∷ next → f ≡ family_at format name known keys → rest ≡ drop known.samples keys → new ≡ fs ++ f ∷ [] → fs ++ families_at format it keys ≡ whole
    → new ++ families_at format next rest ≡ whole
unfolding families_at
families_step format it next name known keys rest f fs new whole items family_is rest_is new_is h =
    ap (λ l. l ++ families_at format next rest) new_is ∙ append_assoc fs (f ∷ []) (families_at format next rest)
    ∙ (λ i. fs ++ (family_is i ∷ families_at format next (rest_is i)))
    ∙ ap (λ es. fs ++ families_at format es keys) (sym items) ∙ h

pub families_end : (format : Format) (it : List (List ℕ × FamilySoFar)) (keys : List (SampleKey × TimedValue)) (fs whole : List Family) → it ≡ [] → fs ++ families_at format it keys ≡ whole → fs ≡ whole
unfolding families_at
families_end format it keys fs whole none h = sym (append-nil fs) ∙ ap (λ es. fs ++ families_at format es keys) (sym none) ∙ h

-- each family that is kept is one of the page
pub families_count : (format : Format) (es : List (List ℕ × FamilySoFar)) (keys : List (SampleKey × TimedValue)) → length (families_at format es keys) ≡ length es
unfolding families_at
families_count format [] keys = refl
families_count format (e ∷ es) keys = ap suc (families_count format es (drop e.1.samples keys))

-- the next of the values that are to come has the next of the names
pub next_named : {V : Type 0} (names : List (List ℕ)) (at : ℕ) (name : List ℕ) (v : V) (values : List V) → slice_get names at ≡ Some name
    → named (drop at names) (v ∷ values) ≡ (name, v) ∷ named (drop (suc at) names) values
next_named [] at name v values h = absurd (let e : None ≡ Some name = h in cc)
next_named (n ∷ ns) zero name v values h = let same : n ≡ name = let e : Some n ≡ Some name = h in cc in λ i. (same i, v) ∷ named ns values
next_named (n ∷ ns) (suc at) name v values h = next_named ns at name v values h

pub none_left : {A : Type 0} (o : Option A) (old new : List A) → o ≡ None → ComesNext o old new → old ≡ []
none_left None old new e h = h.0
none_left (Some x) old new e h = absurd (let f : Some x ≡ None = e in cc)

pub one_left : {A : Type 0} (o : Option A) (x : A) (old new : List A) → o ≡ Some x → ComesNext o old new → old ≡ x ∷ new
one_left None x old new e h = absurd (let f : None ≡ Some x = e in cc)
one_left (Some y) x old new e h = let same : y ≡ x = let f : Some y ≡ Some x = e in cc in h ∙ ap (λ z. z ∷ new) same

-- one item more is passed over
pub passed_one : {A : Type 0} (s t : IntoIter A Global) (o : Option A) (n : ℕ) (whole : List A) → into_iter_steps s o t → into_iter_items s ≡ drop n whole → into_iter_items t ≡ drop (n + 1) whole
passed_one s t None n whole step h =
    let before : into_iter_items s ≡ [] = nil_from_length (into_iter_items s) (omega (arith, s.rest.ok, step.0)) in
    let after : into_iter_items t ≡ [] = nil_from_length (into_iter_items t) (omega (arith, t.rest.ok, step.1)) in
    after ∙ (sym (ap (drop 1) before) ∙ (ap (drop 1) h ∙ drop-drop 1 n whole))
passed_one s t (Some x) n whole step h = sym (ap (drop 1) step.0) ∙ (ap (drop 1) h ∙ drop-drop 1 n whole)

-- no values leave no pairs
pub zip-none : {K V : Type 0} (ks : List K) (vs : List V) → vs ≡ [] → zip ks vs ≡ []
zip-none [] vs h = refl
zip-none (k ∷ ks) [] h = refl
zip-none (k ∷ ks) (v ∷ vs) h = absurd (let f : v ∷ vs ≡ [] = h in cc)

-- what is passed over in both lists is passed over in the pairs
pub zip-drop : {K V : Type 0} (n : ℕ) (ks : List K) (vs : List V) → zip (drop n ks) (drop n vs) ≡ drop n (zip ks vs)
zip-drop zero ks vs = refl
zip-drop (suc n) [] vs = refl
zip-drop (suc n) (k ∷ ks) [] = zip-none (drop n ks) [] refl
zip-drop (suc n) (k ∷ ks) (v ∷ vs) = zip-drop n ks vs

-- as many pairs as values
pub zip-length : {K V : Type 0} (ks : List K) (vs : List V) → length vs ≡ length ks → length (zip ks vs) ≡ length vs
zip-length [] [] h = refl
zip-length [] (v ∷ vs) h = absurd (omega (arith, h))
zip-length (k ∷ ks) [] h = refl
zip-length (k ∷ ks) (v ∷ vs) h = ap suc (zip-length ks vs (omega (arith, h)))

-- one pair more at the end
pub zip-more : {K V : Type 0} (ks : List K) (vs : List V) (k : K) (v : V) → length vs ≡ length ks → zip (ks ++ k ∷ []) (vs ++ v ∷ []) ≡ zip ks vs ++ (k, v) ∷ []
zip-more [] [] k v h = refl
zip-more [] (w ∷ vs) k v h = absurd (omega (arith, h))
zip-more (l ∷ ks) [] k v h = absurd (omega (arith, h))
zip-more (l ∷ ks) (w ∷ vs) k v h = ap (λ es. (l, w) ∷ es) (zip-more ks vs k v (omega (arith, h)))

-- a key of the pairs is one of the keys
pub key_in_zip : (key : SampleKey) (ks : List SampleKey) (vs : List TimedValue) → length vs ≡ length ks → is_key_of key (zip ks vs) ≡ list_any (sample_key_eq key) ks
key_in_zip key [] vs h = refl
key_in_zip key (k ∷ ks) [] h = absurd (omega (arith, h))
key_in_zip key (k ∷ ks) (v ∷ vs) h = ap (λ b. sample_key_eq key k || b) (key_in_zip key ks vs (omega (arith, h)))

-- one reading more
pub readings_step : (kind : Kind) (unit : List ℕ) (n m : ℕ) (it next : List (SampleKey × TimedValue)) (key : SampleKey) (value : TimedValue) (rs new whole : List Reading)
    → n ≡ suc m → it ≡ (key, value) ∷ next → new ≡ rs ++ plain_reading kind unit key value ∷ [] → rs ++ readings_at kind unit n it ≡ whole
    → new ++ readings_at kind unit m next ≡ whole
readings_step kind unit n m it next key value rs new whole count items new_is h =
    ap (λ l. l ++ readings_at kind unit m next) new_is ∙ append_assoc rs (plain_reading kind unit key value ∷ []) (readings_at kind unit m next)
    ∙ sym (λ i. rs ++ readings_at kind unit (count i) (items i)) ∙ h

-- one sample more is passed over
pub rest_step : {A : Type 0} (n m : ℕ) (it next whole : List A) (x : A) → n ≡ suc m → it ≡ x ∷ next → drop n it ≡ whole → drop m next ≡ whole
rest_step n m it next whole x count items h = sym (λ i. drop (count i) (items i)) ∙ h

-- a value with its time for each key
pub timed_each : (vs : List Number) (ts : List (Option ℕ)) (ks : List SampleKey) → length vs ≡ length ks → length ts ≤ length vs → length (timed_values vs ts) ≡ length ks
timed_each vs ts ks each few = timed-length vs ts few ∙ each

-- a sample that was added stands behind the others
pub sample_more : (key : SampleKey) (value : TimedValue) (ks new : List SampleKey) (vs more : List Number) (ts later : List (Option ℕ)) (now : List (SampleKey × TimedValue)) (added : Bool)
    → zip ks (timed_values vs ts) ≡ now → length vs ≡ length ks → length ts ≤ length vs → added ≡ true → new ≡ cond added (ks ++ key ∷ []) ks → more ≡ vs ++ value.value ∷ [] → later ≡ with_time ts value.time
    → zip new (timed_values more later) ≡ now ++ (key, value) ∷ []
sample_more key value ks new vs more ts later now added view each few h keys values times =
    let new_is : new ≡ ks ++ key ∷ [] = keys ∙ ap (λ b. cond b (ks ++ key ∷ []) ks) h in
    let timed : timed_values more later ≡ timed_values vs ts ++ value ∷ [] = (λ i. timed_values (values i) (times i)) ∙ timed-snoc vs ts value few in
    (λ i. zip (new_is i) (timed i)) ∙ zip-more ks (timed_values vs ts) key value (timed_each vs ts ks each few) ∙ ap (λ l. l ++ (key, value) ∷ []) view

-- no values come any more
pub values_done : {A : Type 0} (s t : IntoIter A Global) (o : Option A) → o ≡ None → into_iter_steps s o t → (into_iter_items s ≡ []) × (into_iter_items t ≡ [])
values_done s t None e step = (nil_from_length (into_iter_items s) (omega (arith, s.rest.ok, step.0)), nil_from_length (into_iter_items t) (omega (arith, t.rest.ok, step.1)))
values_done s t (Some x) e step = absurd (let f : Some x ≡ None = e in cc)

-- nothing comes any more
pub nothing_left : {A : Type 0} (o : Option A) (old new : List A) → o ≡ None → ComesNext o old new → (old ≡ []) × (new ≡ [])
nothing_left None old new e h = h
nothing_left (Some x) old new e h = absurd (let f : Some x ≡ None = e in cc)
