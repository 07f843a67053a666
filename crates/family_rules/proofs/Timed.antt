-- Values beside their times: one more at the end, and the next ones.
use Rattle.std.proofs.Common.{◌≡◌, ◌+◌, ◌-◌, ◌<◌, ◌≤◌, ◌||◌, ◌==◌, ℕ, zero, suc, arith, Bool, true, false, cond, not, List, [], ◌∷◌, ◌++◌, drop, length, length-append, Option, Some, None, is_some, refl, sym, ap, subst, ◌∙◌, append_assoc}
use Rattle.std.specs.Vec.Iter.{into_iter_items, into_iter_steps}
use Rattle.std.specs.declared.vec.IntoIter.{IntoIter}
use Rattle.std.specs.declared.alloc.Global.{Global}
use Rattle.std.proofs.lemmas.List.{append-nil, length-replicate, replicate_more, nil_from_length}
use Rattle.exact_decimal.specs.declared.number.Number.{Number}
use Rattle.family_rules.specs.declared.timed_values.TimedValue.{TimedValue}
use Rattle.family_rules.specs.TimedValues.{paired, bare_times, behind_bare, timed_values, keeps_time, with_time, times_to_come, ComesNext}

-- ---- as many as values

paired-length : (vs : List Number) (ts : List (Option ℕ)) → length vs ≡ length ts → length (paired vs ts) ≡ length vs
paired-length [] ts h = refl
paired-length (v ∷ vs) [] h = absurd (omega (arith, h))
paired-length (v ∷ vs) (t ∷ ts) h = ap suc (paired-length vs ts (omega (arith, h)))

bare-length : (vs : List Number) (ts : List (Option ℕ)) → length ts ≤ length vs → length (behind_bare (length vs - length ts) ts) ≡ length vs
bare-length vs ts few =
    let count : ℕ = length vs - length ts in
    let whole : length (bare_times count ++ ts) ≡ length (bare_times count) + length ts = length-append (bare_times count) ts in
    let front : length (bare_times count) ≡ length vs - length ts = length-replicate count None in
    omega (arith, whole, front, few)

pub timed-length : (vs : List Number) (ts : List (Option ℕ)) → length ts ≤ length vs → length (timed_values vs ts) ≡ length vs
timed-length vs ts few = paired-length vs (behind_bare (length vs - length ts) ts) (sym (bare-length vs ts few))

-- ---- one more at the end

paired-snoc : (vs : List Number) (ts : List (Option ℕ)) (v : Number) (t : Option ℕ) → length vs ≡ length ts → paired (vs ++ v ∷ []) (ts ++ t ∷ []) ≡ paired vs ts ++ record { value = v; time = t } ∷ []
paired-snoc [] [] v t h = refl
paired-snoc [] (u ∷ ts) v t h = absurd (omega (arith, h))
paired-snoc (w ∷ vs) [] v t h = absurd (omega (arith, h))
paired-snoc (w ∷ vs) (u ∷ ts) v t h = ap (λ (l : List TimedValue). record { value = w; time = u } ∷ l) (paired-snoc vs ts v t (omega (arith, h)))

-- its time is kept
kept_more : (vs : List Number) (ts : List (Option ℕ)) (v : Number) (t : Option ℕ) → length ts ≤ length vs → timed_values (vs ++ v ∷ []) (ts ++ t ∷ []) ≡ timed_values vs ts ++ record { value = v; time = t } ∷ []
kept_more vs ts v t few =
    let values : length (vs ++ v ∷ []) ≡ length vs + 1 = length-append vs (v ∷ []) in
    let times : length (ts ++ t ∷ []) ≡ length ts + 1 = length-append ts (t ∷ []) in
    let count : length (vs ++ v ∷ []) - length (ts ++ t ∷ []) ≡ length vs - length ts = omega (arith, values, times) in
    ap (λ (n : ℕ). paired (vs ++ v ∷ []) (bare_times n ++ (ts ++ t ∷ []))) count
    ∙ ap (paired (vs ++ v ∷ [])) (sym (append_assoc (bare_times (length vs - length ts)) ts (t ∷ [])))
    ∙ paired-snoc vs (behind_bare (length vs - length ts) ts) v t (sym (bare-length vs ts few))

-- it has no time, and none is kept
bare_more : (vs : List Number) (v : Number) → timed_values (vs ++ v ∷ []) [] ≡ timed_values vs [] ++ record { value = v; time = None } ∷ []
bare_more vs v =
    let count : ℕ = length vs - length {A = Option ℕ} [] in
    let values : length (vs ++ v ∷ []) ≡ length vs + 1 = length-append vs (v ∷ []) in
    let more : length (vs ++ v ∷ []) - length {A = Option ℕ} [] ≡ count + 1 = omega (arith, values) in
    let times : behind_bare (count + 1) [] ≡ behind_bare count [] ++ None ∷ [] =
    append-nil (bare_times (count + 1)) ∙ sym (replicate_more count None) ∙ ap (λ (l : List (Option ℕ)). l ++ None ∷ []) (sym (append-nil (bare_times count))) in
    ap (λ (n : ℕ). paired (vs ++ v ∷ []) (behind_bare n [])) more
    ∙ ap (paired (vs ++ v ∷ [])) times
    ∙ paired-snoc vs (behind_bare count []) v None (sym (bare-length vs [] (omega arith)))

suc_zero : (n : ℕ) → (suc n == 0) ≡ false
suc_zero n = grind arith

none_kept : (ts : List (Option ℕ)) (t : Option ℕ) → keeps_time ts t ≡ false → (ts ≡ []) × (t ≡ None)
none_kept [] None e = (refl, refl)
none_kept [] (Some n) e = absurd (let no : true ≡ false = e in cc)
none_kept (u ∷ ts) t e = absurd (let no : true ≡ false = sym (ap (λ b. not b || is_some t) (suc_zero (length ts))) ∙ e in cc)

pub timed-snoc : (vs : List Number) (ts : List (Option ℕ)) (value : TimedValue) → length ts ≤ length vs → timed_values (vs ++ value.value ∷ []) (with_time ts value.time) ≡ timed_values vs ts ++ value ∷ []
timed-snoc vs ts value few = by (keeps_time ts value.time) refl
  where
    by : (b : Bool) → keeps_time ts value.time ≡ b → timed_values (vs ++ value.value ∷ []) (cond b (ts ++ value.time ∷ []) ts) ≡ timed_values vs ts ++ value ∷ []
    by true e = kept_more vs ts value.value value.time few
    by false e =
        let none = none_kept ts value.time e in
        ap (timed_values (vs ++ value.value ∷ [])) none.0 ∙ bare_more vs value.value
        ∙ (λ i. timed_values vs (sym none.0 i) ++ record { value = value.value; time = sym none.1 i } ∷ [])

-- ---- the next ones

pub paired-none : (vs : List Number) (ts : List (Option ℕ)) → vs ≡ [] → paired vs ts ≡ []
paired-none [] ts h = refl
paired-none (v ∷ vs) ts h = absurd (let f : v ∷ vs ≡ [] = h in cc)

pub paired-untimed : (vs : List Number) (ts : List (Option ℕ)) → ts ≡ [] → paired vs ts ≡ []
paired-untimed [] ts h = refl
paired-untimed (v ∷ vs) [] h = refl
paired-untimed (v ∷ vs) (t ∷ ts) h = absurd (let f : t ∷ ts ≡ [] = h in cc)

pub paired-drop : (n : ℕ) (vs : List Number) (ts : List (Option ℕ)) → paired (drop n vs) (drop n ts) ≡ drop n (paired vs ts)
paired-drop zero vs ts = refl
paired-drop (suc n) [] ts = refl
paired-drop (suc n) (v ∷ vs) [] = paired-untimed (drop n vs) [] refl
paired-drop (suc n) (v ∷ vs) (t ∷ ts) = paired-drop n vs ts

-- the first of times of which some are absent
pub bare_step : (n : ℕ) (ts : List (Option ℕ)) → 0 < n → behind_bare n ts ≡ None ∷ behind_bare (n - 1) ts
bare_step zero ts h = absurd (omega (arith, h))
bare_step (suc n) ts h = let less : n ≡ suc n - 1 = omega arith in ap (λ (m : ℕ). None ∷ behind_bare m ts) less

-- where none are absent it is that of the others
pub times_next : (n : ℕ) (s t : IntoIter (Option ℕ) Global) (o : Option (Option ℕ)) → n ≡ 0 → into_iter_steps s o t → ComesNext o (times_to_come n s) (times_to_come n t)
times_next n s t o none step = subst (λ (m : ℕ). ComesNext o (times_to_come m s) (times_to_come m t)) (sym none) (by o step)
  where
    by : (o : Option (Option ℕ)) → into_iter_steps s o t → ComesNext o (times_to_come 0 s) (times_to_come 0 t)
    by None step = (nil_from_length (into_iter_items s) (omega (arith, s.rest.ok, step.0)), nil_from_length (into_iter_items t) (omega (arith, t.rest.ok, step.1)))
    by (Some x) step = step.0

-- some are passed over
pub drop_bare : (n bare : ℕ) (ts : List (Option ℕ)) → behind_bare (bare - n) (drop (n - bare) ts) ≡ drop n (behind_bare bare ts)
drop_bare zero bare ts =
    let all : bare - 0 ≡ bare = omega arith in
    let none : 0 - bare ≡ 0 = omega arith in
    λ i. behind_bare (all i) (drop (none i) ts)
drop_bare (suc n) zero ts =
    let none : 0 - suc n ≡ 0 = omega arith in
    let all : suc n - 0 ≡ suc n = omega arith in
    λ i. behind_bare (none i) (drop (all i) ts)
drop_bare (suc n) (suc bare) ts =
    let left : suc bare - suc n ≡ bare - n = omega arith in
    let rest : suc n - suc bare ≡ n - bare = omega arith in
    (λ i. behind_bare (left i) (drop (rest i) ts)) ∙ drop_bare n bare ts
