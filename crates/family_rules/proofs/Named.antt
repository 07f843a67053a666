-- Families that were left, looked up and put in by their names.
use Rattle.std.proofs.Common.{◌≡◌, ◌<◌, ◌+◌, ℕ, suc, zero, arith, Bool, true, false, cond, ◌||◌, List, [], ◌∷◌, ◌++◌, length, Option, Some, None, refl, sym, ap, subst, ◌∙◌, is_some}
use Rattle.std.specs.Prelude.{slice_get, slice_set, MatchOption}
use Rattle.std.specs.List.{list_any}
use Rattle.std.specs.Map.{lookup}
use Rattle.std.specs.Str.{bytes_eq}
use Rattle.std.specs.Cmp.Lexicographic.{bytes_decides}
use Rattle.std.proofs.lemmas.List.{length-append}
use Rattle.std.proofs.lemmas.Option.{slice_get_within}
use Rattle.std.proofs.lemmas.List.Folds.{list_any-append}
use Rattle.indexmap.specs.IndexMap.{insert_entry}
use Rattle.label_sets.proofs.Laws.{bytes_eq-swap}
use Rattle.family_rules.specs.LeftFamilies.{named, AreDistinct, AreNamed}
use Rattle.family_rules.proofs.Lists.{bytes_same}

-- a name that is not there has no value
pub named_none : {V : Type 0} (q : List ℕ) (names : List (List ℕ)) (values : List V) → list_any (bytes_eq q) names ≡ false → lookup (bytes_eq q) (named names values) ≡ None
named_none q [] values none = refl
named_none q (n ∷ ns) [] none = refl
named_none {V = V} q (n ∷ ns) (v ∷ vs) none = by (bytes_eq q n) none (named_none q ns vs)
  where
    by : (b : Bool) → (b || list_any (bytes_eq q) ns) ≡ false → (list_any (bytes_eq q) ns ≡ false → lookup (bytes_eq q) (named ns vs) ≡ None)
        → cond b (Some v) (lookup (bytes_eq q) (named ns vs)) ≡ None
    by true e more = absurd (let f : true ≡ false = e in cc)
    by false e more = more e

-- a name stands among those that have it at a place
found_any : (q : List ℕ) (names : List (List ℕ)) (at : ℕ) → slice_get names at ≡ Some q → list_any (bytes_eq q) names ≡ true
found_any q [] at h = absurd (let e : None ≡ Some q = h in cc)
found_any q (n ∷ ns) zero h =
    let same : n ≡ q = let e : Some n ≡ Some q = h in cc in
    ap (λ b. b || list_any (bytes_eq q) ns) (ap (bytes_eq q) same ∙ bytes_same q)
found_any q (n ∷ ns) (suc at) h = by (bytes_eq q n) (found_any q ns at h)
  where
    by : (b : Bool) → list_any (bytes_eq q) ns ≡ true → (b || list_any (bytes_eq q) ns) ≡ true
    by true e = refl
    by false e = e

-- behind the first of distinct names stands another one
other_name : (q n : List ℕ) (ns : List (List ℕ)) (at : ℕ) → list_any (bytes_eq n) ns ≡ false → slice_get ns at ≡ Some q → bytes_eq q n ≡ false
other_name q n ns at fresh h = by (bytes_eq q n) refl
  where
    by : (b : Bool) → bytes_eq q n ≡ b → b ≡ false
    by false e = refl
    by true e =
        let same : q ≡ n = (bytes_decides q n).0 e in
        let here : list_any (bytes_eq n) ns ≡ true = subst (λ m. list_any (bytes_eq m) ns ≡ true) same (found_any q ns at h) in
        absurd (let f : true ≡ false = sym here ∙ fresh in cc)

-- the value of a name is the one at its place
pub named_at : {V : Type 0} (q : List ℕ) (names : List (List ℕ)) (values : List V) (at : ℕ) → AreDistinct names → length values ≡ length names → slice_get names at ≡ Some q
    → lookup (bytes_eq q) (named names values) ≡ slice_get values at
named_at q [] values at d l h = absurd (let e : None ≡ Some q = h in cc)
named_at q (n ∷ ns) [] at d l h = absurd (omega arith)
named_at q (n ∷ ns) (v ∷ vs) zero d l h =
    let same : n ≡ q = let e : Some n ≡ Some q = h in cc in
    ap (λ b. cond b (Some v) (lookup (bytes_eq q) (named ns vs))) (ap (bytes_eq q) same ∙ bytes_same q)
named_at q (n ∷ ns) (v ∷ vs) (suc at) d l h =
    ap (λ b. cond b (Some v) (lookup (bytes_eq q) (named ns vs))) (other_name q n ns at d.0 h) ∙ named_at q ns vs at d.1 (omega (arith, l)) h

-- a new name goes last
pub put_new : {V : Type 0} (q : List ℕ) (names : List (List ℕ)) (values : List V) (v : V) → length values ≡ length names → list_any (bytes_eq q) names ≡ false
    → insert_entry bytes_eq (named names values) q v ≡ named (names ++ q ∷ []) (values ++ v ∷ [])
put_new q [] [] v l none = refl
put_new q [] (w ∷ ws) v l none = absurd (omega arith)
put_new q (n ∷ ns) [] v l none = absurd (omega arith)
put_new {V = V} q (n ∷ ns) (w ∷ ws) v l none = by (bytes_eq q n) none (put_new q ns ws v (omega (arith, l)))
  where
    by : (b : Bool) → (b || list_any (bytes_eq q) ns) ≡ false → (list_any (bytes_eq q) ns ≡ false → insert_entry bytes_eq (named ns ws) q v ≡ named (ns ++ q ∷ []) (ws ++ v ∷ []))
        → cond b ((n, v) ∷ named ns ws) ((n, w) ∷ insert_entry bytes_eq (named ns ws) q v) ≡ (n, w) ∷ named (ns ++ q ∷ []) (ws ++ v ∷ [])
    by true e more = absurd (let f : true ≡ false = e in cc)
    by false e more = ap (λ l. (n, w) ∷ l) (more e)

-- a known name gets another value
pub put_known : {V : Type 0} (q : List ℕ) (names : List (List ℕ)) (values : List V) (at : ℕ) (v : V) → AreDistinct names → length values ≡ length names → slice_get names at ≡ Some q
    → insert_entry bytes_eq (named names values) q v ≡ named names (slice_set values at v)
put_known q [] values at v d l h = absurd (let e : None ≡ Some q = h in cc)
put_known q (n ∷ ns) [] at v d l h = absurd (omega arith)
put_known q (n ∷ ns) (w ∷ ws) zero v d l h =
    let same : n ≡ q = let e : Some n ≡ Some q = h in cc in
    ap (λ b. cond b ((n, v) ∷ named ns ws) ((n, w) ∷ insert_entry bytes_eq (named ns ws) q v)) (ap (bytes_eq q) same ∙ bytes_same q)
put_known q (n ∷ ns) (w ∷ ws) (suc at) v d l h =
    ap (λ b. cond b ((n, v) ∷ named ns ws) ((n, w) ∷ insert_entry bytes_eq (named ns ws) q v)) (other_name q n ns at d.0 h)
    ∙ ap (λ l. (n, w) ∷ l) (put_known q ns ws at v d.1 (omega (arith, l)) h)

-- with a new name they are still distinct
pub still_distinct : (q : List ℕ) (names : List (List ℕ)) → AreDistinct names → list_any (bytes_eq q) names ≡ false → AreDistinct (names ++ q ∷ [])
still_distinct q [] d none = (refl, tt)
still_distinct q (n ∷ ns) d none = by (bytes_eq q n) refl none (still_distinct q ns d.1)
  where
    by : (b : Bool) → bytes_eq q n ≡ b → (b || list_any (bytes_eq q) ns) ≡ false → (list_any (bytes_eq q) ns ≡ false → AreDistinct (ns ++ q ∷ []))
        → (list_any (bytes_eq n) (ns ++ q ∷ []) ≡ false) × AreDistinct (ns ++ q ∷ [])
    by true e h more = absurd (let f : true ≡ false = h in cc)
    by false e h more = (list_any-append (bytes_eq n) ns (q ∷ []) ∙ (λ i. d.0 i || ((bytes_eq-swap n q ∙ e) i || false)), more h)

-- how many there are
pub named_length : {V : Type 0} (names : List (List ℕ)) (values : List V) → length values ≡ length names → length (named names values) ≡ length values
named_length [] [] l = refl
named_length [] (v ∷ vs) l = absurd (omega arith)
named_length (n ∷ ns) [] l = absurd (omega arith)
named_length (n ∷ ns) (v ∷ vs) l = ap suc (named_length ns vs (omega (arith, l)))

-- there is a value at the place of a name
value_at : {V : Type 0} (q : List ℕ) (names : List (List ℕ)) (values : List V) (at : ℕ) → length values ≡ length names → slice_get names at ≡ Some q → is_some (slice_get values at) ≡ true
value_at q [] values at l h = absurd (let e : None ≡ Some q = h in cc)
value_at q (n ∷ ns) [] at l h = absurd (omega arith)
value_at q (n ∷ ns) (v ∷ vs) zero l h = refl
value_at q (n ∷ ns) (v ∷ vs) (suc at) l h = value_at q ns vs at (omega (arith, l)) h

-- where a name was looked for: nowhere, or at its place
abbrev pub Found : List ℕ → List (List ℕ) → Option ℕ → Type 0
Found q names found = MatchOption found (list_any (bytes_eq q) names ≡ false) (λ at. slice_get names at ≡ Some q)

-- there is a value where the name was found
pub has_named : {V : Type 0} (q : List ℕ) (names : List (List ℕ)) (values : List V) (found : Option ℕ) → AreNamed names values → Found q names found
    → is_some found ≡ is_some (lookup (bytes_eq q) (named names values))
has_named q names values None a h = sym (ap is_some (named_none q names values h))
has_named q names values (Some at) a h = sym (ap is_some (named_at q names values at a.distinct a.each h) ∙ value_at q names values at a.each h)

-- a name without a value was not found
pub unknown_name : {V : Type 0} (q : List ℕ) (names : List (List ℕ)) (values : List V) → length values ≡ length names → lookup (bytes_eq q) (named names values) ≡ None → list_any (bytes_eq q) names ≡ false
unknown_name q [] values l h = refl
unknown_name q (n ∷ ns) [] l h = absurd (omega arith)
unknown_name {V = V} q (n ∷ ns) (v ∷ vs) l h = by (bytes_eq q n) h (unknown_name q ns vs (omega (arith, l)))
  where
    by : (b : Bool) → cond b (Some v) (lookup (bytes_eq q) (named ns vs)) ≡ None → (lookup (bytes_eq q) (named ns vs) ≡ None → list_any (bytes_eq q) ns ≡ false) → (b || list_any (bytes_eq q) ns) ≡ false
    by true e more = absurd (let f : Some v ≡ None = e in cc)
    by false e more = more e

-- a name that was put in as new stands behind the others
pub put_last : (q : List ℕ) (old new : List (List ℕ)) (found : Option ℕ) → list_any (bytes_eq q) old ≡ false → Found q old found → MatchOption found (new ≡ old ++ q ∷ []) (λ at. new ≡ old)
    → new ≡ old ++ q ∷ []
put_last q old new None none h put = put
put_last q old new (Some at) none h put = absurd (let f : true ≡ false = sym (found_any q old at h) ∙ none in cc)

-- with one name and its value more
pub named_more : {V : Type 0} (q : List ℕ) (old new : List (List ℕ)) (values more : List V) (v : V) → AreNamed old values → list_any (bytes_eq q) old ≡ false → new ≡ old ++ q ∷ [] → more ≡ values ++ v ∷ []
    → AreNamed new more × (named new more ≡ insert_entry bytes_eq (named old values) q v)
named_more q old new values more v a none new_is more_is =
    let each : length (values ++ v ∷ []) ≡ length (old ++ q ∷ []) = length-append values (v ∷ []) ∙ (ap (λ n. n + 1) a.each ∙ sym (length-append old (q ∷ []))) in (
      record {
        each = ap length more_is ∙ each ∙ sym (ap length new_is);
        distinct = subst AreDistinct (sym new_is) (still_distinct q old a.distinct none);
      },
      (λ i. named (new_is i) (more_is i)) ∙ sym (put_new q old values v a.each none),
    )

-- the place of a name is within the values
pub within_values : {V : Type 0} (q : List ℕ) (names : List (List ℕ)) (values : List V) (at : ℕ) → AreNamed names values → slice_get names at ≡ Some q → at < length values
within_values q names values at a h = omega (arith, slice_get_within names at q h, a.each)
