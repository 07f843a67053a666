-- The first pair whose name an earlier one has.
use Rattle.std.proofs.Common.{◌≡◌, ℕ, suc, ◌+◌, ◌<◌, Bool, true, false, ◌||◌, List, [], ◌∷◌, ◌++◌, length, Option, Some, None, refl, sym, ap, ◌∙◌, arith, add-zero, zero-add}
use Rattle.std.specs.List.{AllByRecursion, IsDistinct}
use Rattle.std.specs.Prelude.{is_none}
use Rattle.std.specs.Str.{bytes_eq}
use Rattle.std.proofs.lemmas.Bool.{or_from, or_parts}
use Rattle.std.proofs.lemmas.Map.Text.{is_eq-slice_cmp}
use Rattle.label_sets.specs.declared.label.Label.{Label}
use Rattle.label_sets.specs.Building.{same_name}
use Rattle.label_sets.specs.Labels.{has_name, has_distinct_names, repeated_at}

-- no label has a name that is taken
abbrev AreFresh : List Label → List Label → Type 0
AreFresh taken ls = AllByRecursion (λ (l : Label). has_name taken l.name ≡ false) ls

pub same_bytes : (x y : Label) → same_name x y ≡ bytes_eq x.name y.name
same_bytes x y = is_eq-slice_cmp x.name y.name

fresh_more : (x : Label) (taken xs : List Label) → AllByRecursion (λ y. same_name x y ≡ false) xs → AreFresh taken xs → AreFresh (x ∷ taken) xs
fresh_more x taken [] d f = tt
fresh_more x taken (y ∷ ys) d f = (or_from (bytes_eq x.name y.name) (has_name taken y.name) (sym (same_bytes x y) ∙ d.0) f.0, fresh_more x taken ys d.1 f.1)

fresh_less : (x : Label) (taken xs : List Label) → AreFresh (x ∷ taken) xs → AllByRecursion (λ y. same_name x y ≡ false) xs × AreFresh taken xs
fresh_less x taken [] f = (tt, tt)
fresh_less x taken (y ∷ ys) f =
    let first = or_parts (bytes_eq x.name y.name) (has_name taken y.name) f.0 in
    let rest = fresh_less x taken ys f.1 in
    ((same_bytes x y ∙ first.0, rest.0), (first.1, rest.1))

none_repeated : (taken : List Label) (n : ℕ) (xs : List Label) → AreFresh taken xs → IsDistinct same_name xs → repeated_at taken n xs ≡ None
unfolding IsDistinct
none_repeated taken n [] f d = refl
none_repeated taken n (x ∷ xs) f d = rw f.0 (none_repeated (x ∷ taken) (suc n) xs (fresh_more x taken xs d.0 f.1) d.1)

nothing_taken : (xs : List Label) → AreFresh [] xs
nothing_taken [] = tt
nothing_taken (x ∷ xs) = (refl, nothing_taken xs)

-- distinct names have no repeat, and the way back
pub repeated_at-distinct : (xs : List Label) → IsDistinct same_name xs → repeated_at [] 0 xs ≡ None
repeated_at-distinct xs d = none_repeated [] 0 xs (nothing_taken xs) d

distinct_from_none : (taken : List Label) (n : ℕ) (xs : List Label) → repeated_at taken n xs ≡ None → AreFresh taken xs × IsDistinct same_name xs
unfolding IsDistinct
distinct_from_none taken n [] h = (tt, tt)
distinct_from_none taken n (x ∷ xs) h = go (has_name taken x.name) refl (λ k. distinct_from_none (x ∷ taken) (suc n) xs k)
  where
    go : (b : Bool) → has_name taken x.name ≡ b → (repeated_at (x ∷ taken) (suc n) xs ≡ None → AreFresh (x ∷ taken) xs × IsDistinct same_name xs) → AreFresh taken (x ∷ xs) × IsDistinct same_name (x ∷ xs)
    go true e ih = absurd (let f : Some n ≡ None = rw e at h in cc)
    go false e ih =
        let k : repeated_at (x ∷ taken) (suc n) xs ≡ None = rw e at h in
        let rest = ih k in
        let parts = fresh_less x taken xs rest.0 in
        ((e, parts.1), (parts.0, rest.1))

pub distinct_from_repeated_at : (xs : List Label) → repeated_at [] 0 xs ≡ None → IsDistinct same_name xs
distinct_from_repeated_at xs h = (distinct_from_none [] 0 xs h).1

in_front : (t b x : Bool) → (t || (b || x)) ≡ true → ((b || t) || x) ≡ true
in_front true true x h = refl
in_front true false x h = refl
in_front false true x h = refl
in_front false false x h = h

or_nothing : (t : Bool) → (t || false) ≡ true → t ≡ true
or_nothing true h = refl
or_nothing false h = h

repeated_behind : (taken : List Label) (n : ℕ) (xs : List Label) (y : Label) (ys : List Label) → AreFresh taken xs → IsDistinct same_name xs → (has_name taken y.name || has_name xs y.name) ≡ true → repeated_at taken n (xs ++ y ∷ ys) ≡ Some (n + length xs)
unfolding IsDistinct
repeated_behind taken n [] y ys f d h = rw (or_nothing (has_name taken y.name) h, add-zero) refl
repeated_behind taken n (x ∷ xs) y ys f d h =
    let later : repeated_at (x ∷ taken) (suc n) (xs ++ y ∷ ys) ≡ Some (suc n + length xs) =
    repeated_behind (x ∷ taken) (suc n) xs y ys (fresh_more x taken xs d.0 f.1) d.1 (in_front (has_name taken y.name) (bytes_eq x.name y.name) (has_name xs y.name) h) in
    let same : suc n + length xs ≡ n + suc (length xs) = omega arith in
    rw f.0 (later ∙ ap Some same)

-- behind distinct names, the label whose name one of them has is the first repeat
pub repeated_at-append : (xs : List Label) (y : Label) (ys : List Label) → IsDistinct same_name xs → has_name xs y.name ≡ true → repeated_at [] 0 (xs ++ y ∷ ys) ≡ Some (length xs)
repeated_at-append xs y ys d h = repeated_behind [] 0 xs y ys (nothing_taken xs) d h ∙ ap Some (zero-add (length xs))

within : (taken : List Label) (n : ℕ) (xs : List Label) (i : ℕ) → repeated_at taken n xs ≡ Some i → i < n + length xs
within taken n [] i h = absurd cc
within taken n (x ∷ xs) i h = go (has_name taken x.name) refl (λ k. within (x ∷ taken) (suc n) xs i k)
  where
    go : (b : Bool) → has_name taken x.name ≡ b → (repeated_at (x ∷ taken) (suc n) xs ≡ Some i → i < suc n + length xs) → i < n + suc (length xs)
    go true e ih = let f : Some n ≡ Some i = rw e at h in let g : n ≡ i = cc in omega arith
    go false e ih =
        let k : repeated_at (x ∷ taken) (suc n) xs ≡ Some i = rw e at h in
        let lt = ih k in
        omega arith

-- the repeat is one of the labels
pub repeated_at-within : (xs : List Label) (i : ℕ) → repeated_at [] 0 xs ≡ Some i → i < length xs
repeated_at-within xs i h = let lt : i < 0 + length xs = within [] 0 xs i h in omega arith

pub distinct_names : (pairs : List Label) → has_distinct_names pairs ≡ true → IsDistinct same_name pairs
distinct_names pairs h = distinct_from_repeated_at pairs (is_None (repeated_at [] 0 pairs) h)
  where
    is_None : (r : Option ℕ) → is_none r ≡ true → r ≡ None
    is_None None e = refl
    is_None (Some i) e = absurd cc
