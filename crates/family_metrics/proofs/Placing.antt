-- What a function gives of the values of a list, one after the other.
use Rattle.std.proofs.Common.{rules, ◌≡◌, ℕ, ◌+◌, ◌<◌, ap, sym, ◌∙◌, List, [], ◌∷◌, ◌++◌, Option, Some, None, option_and_then, length, take, get_or, add-one, ◌⊎◌, inl, inr}
use Rattle.std.specs.List.{filter_map, cons_option, zip}
use Rattle.std.proofs.Math.Seq.{take-suc}
use Rattle.std.proofs.lemmas.List.{append-nil, append_assoc}
use Rattle.std.proofs.lemmas.List.Elements.{filter_map-append}

-- a value that has an image is placed behind the others
placed : {X Y : Type 0} (h : X → Option Y) (xs : List X) (x : X) (y : Y) → h x ≡ Some y → filter_map h (xs ++ x ∷ []) ≡ filter_map h xs ++ y ∷ []
placed h xs x y is = filter_map-append h xs (x ∷ []) ∙ ap (λ o. filter_map h xs ++ cons_option o []) is

-- a value without an image is passed over
passed_over : {X Y : Type 0} (h : X → Option Y) (xs : List X) (x : X) → h x ≡ None → filter_map h (xs ++ x ∷ []) ≡ filter_map h xs
passed_over h xs x is = filter_map-append h xs (x ∷ []) ∙ ap (λ o. filter_map h xs ++ cons_option o []) is ∙ search rules

-- one value more from the front
pub one_more : {X : Type 0} (xs : List X) (i : ℕ) (x : X) → i < length xs → x ≡ get_or xs i x → take (i + 1) xs ≡ take i xs ++ x ∷ []
one_more xs i x within read = ap (λ n. take n xs) (add-one i) ∙ take-suc xs i x within ∙ ap (λ y. take i xs ++ y ∷ []) (sym read)

-- the same two for the value at a place of a list
pub placed_at : {X Y : Type 0} (h : X → Option Y) (xs : List X) (i : ℕ) (x : X) (y : Y) → i < length xs → x ≡ get_or xs i x → h x ≡ Some y
    → filter_map h (take (i + 1) xs) ≡ filter_map h (take i xs) ++ y ∷ []
placed_at h xs i x y within read is = ap (filter_map h) (one_more xs i x within read) ∙ placed h (take i xs) x y is

pub passed_at : {X Y : Type 0} (h : X → Option Y) (xs : List X) (i : ℕ) (x : X) → i < length xs → x ≡ get_or xs i x → h x ≡ None
    → filter_map h (take (i + 1) xs) ≡ filter_map h (take i xs)
passed_at h xs i x within read is = ap (filter_map h) (one_more xs i x within read) ∙ passed_over h (take i xs) x is

-- what a function gives of what another one gives
pub filter_map-filter_map : {W X Y : Type 0} (h : X → Option Y) (f : W → Option X) (ws : List W) → filter_map h (filter_map f ws) ≡ filter_map (λ w. option_and_then h (f w)) ws
filter_map-filter_map h f [] = search rules
filter_map-filter_map {W} {X} {Y} h f (w ∷ ws) = by (f w) (filter_map-filter_map h f ws)
  where
    by : (o : Option X) → filter_map h (filter_map f ws) ≡ filter_map (λ w. option_and_then h (f w)) ws
        → filter_map h (cons_option o (filter_map f ws)) ≡ cons_option (option_and_then h o) (filter_map (λ w. option_and_then h (f w)) ws)
    by None rest = rest
    by (Some x) rest = ap (cons_option (h x)) rest

-- ---- pairs of two lists, from their fronts on

module _ {A B Y : Type 0} (h : A × B → Option Y) where
  pub pair_placed : (ys more zs : List Y) (ks ls : List A) (vs ws : List B) (k : A) (v : B) (y : Y) → more ≡ ys ++ y ∷ [] → ks ≡ k ∷ ls → vs ≡ v ∷ ws → h (k, v) ≡ Some y → ys ++ filter_map h (zip ks vs) ≡ zs
      → more ++ filter_map h (zip ls ws) ≡ zs
  pair_placed ys more zs ks ls vs ws k v y push e f is all =
      ap (λ l. l ++ filter_map h (zip ls ws)) push ∙ append_assoc ys (y ∷ []) (filter_map h (zip ls ws)) ∙ ap (λ o. ys ++ cons_option o (filter_map h (zip ls ws))) (sym is)
      ∙ (λ i. ys ++ filter_map h (zip (sym e i) (sym f i))) ∙ all

  pub pair_passed : (ys zs : List Y) (ks ls : List A) (vs ws : List B) (k : A) (v : B) → ks ≡ k ∷ ls → vs ≡ v ∷ ws → h (k, v) ≡ None → ys ++ filter_map h (zip ks vs) ≡ zs → ys ++ filter_map h (zip ls ws) ≡ zs
  pair_passed ys zs ks ls vs ws k v e f is all = ap (λ o. ys ++ cons_option o (filter_map h (zip ls ws))) (sym is) ∙ (λ i. ys ++ filter_map h (zip (sym e i) (sym f i))) ∙ all

  zip_none : (ks : List A) → ◌≡◌ {A = List (A × B)} (zip ks []) []
  zip_none [] = search rules
  zip_none (k ∷ ks) = search rules

  pub pairs_end : (ys zs : List Y) (ks : List A) (vs : List B) → (ks ≡ []) ⊎ (vs ≡ []) → ys ++ filter_map h (zip ks vs) ≡ zs → ys ≡ zs
  pairs_end ys zs ks vs (inl e) all = sym (append-nil ys) ∙ ap (λ l. ys ++ filter_map h (zip l vs)) (sym e) ∙ all
  pairs_end ys zs ks vs (inr e) all = sym (append-nil ys) ∙ ap (λ l. ys ++ filter_map h l) (sym (zip_none ks)) ∙ ap (λ l. ys ++ filter_map h (zip ks l)) (sym e) ∙ all
