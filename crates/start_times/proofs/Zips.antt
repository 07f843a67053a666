-- Two lists of one length, side by side.
use Rattle.std.proofs.Common.{◌≡◌, min, List, [], ◌∷◌, ◌++◌, zip, length, refl, ap, arith}
use Rattle.std.proofs.lemmas.Slice.Zip.{length-zip}

pub zip_length : {A B : Type 0} (xs : List A) (ys : List B) → length xs ≡ length ys → length (zip xs ys) ≡ length ys
zip_length xs ys even = let both : length (zip xs ys) ≡ min (length xs) (length ys) = length-zip xs ys in omega arith

pub zip_push : {A B : Type 0} (xs : List A) (ys : List B) (x : A) (y : B) → length xs ≡ length ys → zip (xs ++ x ∷ []) (ys ++ y ∷ []) ≡ zip xs ys ++ (x, y) ∷ []
zip_push [] [] x y even = refl
zip_push [] (z ∷ ys) x y even = absurd (omega arith)
zip_push (w ∷ xs) [] x y even = absurd (omega arith)
zip_push {A} {B} (w ∷ xs) (z ∷ ys) x y even = ap (λ (ps : List (A × B)). (w, z) ∷ ps) (zip_push xs ys x y (omega arith))
