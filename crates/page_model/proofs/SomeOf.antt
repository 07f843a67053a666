-- What is left of a list once some elements are taken out.
use Rattle.std.proofs.Common.{Bool, true, false, cond, List, [], ◌∷◌, filter, inl, inr}
use Rattle.page_model.specs.Pages.{AreSomeOf}

-- nothing is taken out
pub all_of : {A : Type 0} (IsLeft : A → A → Type 0) → ((x : A) → IsLeft x x) → (xs : List A) → AreSomeOf IsLeft xs xs
all_of IsLeft same [] = tt
all_of IsLeft same (x ∷ xs) = inl (same x, all_of IsLeft same xs)

-- all are taken out
pub none_of : {A : Type 0} (IsLeft : A → A → Type 0) (xs : List A) → AreSomeOf IsLeft xs []
none_of IsLeft [] = tt
none_of IsLeft (x ∷ xs) = none_of IsLeft xs

-- one more is taken out
pub some_skipped : {A : Type 0} (IsLeft : A → A → Type 0) (x : A) (xs ys : List A) → AreSomeOf IsLeft xs ys → AreSomeOf IsLeft (x ∷ xs) ys
some_skipped IsLeft x xs [] h = h
some_skipped IsLeft x xs (y ∷ ys) h = inr h

-- and those that fail a test
pub some_filtered : {A : Type 0} (IsLeft : A → A → Type 0) (p : A → Bool) (xs ys : List A) → AreSomeOf IsLeft xs ys → AreSomeOf IsLeft xs (filter p ys)
some_filtered IsLeft p [] [] h = tt
some_filtered IsLeft p [] (y ∷ ys) h = absurd h
some_filtered IsLeft p (x ∷ xs) [] h = h
some_filtered IsLeft p (x ∷ xs) (y ∷ ys) (inl h) = go (p y) (some_filtered IsLeft p xs ys h.1)
  where
    go : (b : Bool) → AreSomeOf IsLeft xs (filter p ys) → AreSomeOf IsLeft (x ∷ xs) (cond b (y ∷ filter p ys) (filter p ys))
    go true ih = inl (h.0, ih)
    go false ih = some_skipped IsLeft x xs (filter p ys) ih
some_filtered IsLeft p (x ∷ xs) (y ∷ ys) (inr h) = some_skipped IsLeft x xs (filter p (y ∷ ys)) (some_filtered IsLeft p xs (y ∷ ys) h)
