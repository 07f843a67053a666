-- The last of a list, by its place.
use Rattle.std.proofs.Common.{◌≡◌, ◌-◌, List, [], ◌∷◌, length, Some, refl, ◌∙◌, arith}
use Rattle.std.proofs.lemmas.Grind.{common_steps}
use Rattle.std.specs.List.{last_or, slice_get}
use Rattle.page_model.specs.declared.page.Bucket.{Bucket}
use Rattle.open_writing.specs.Writing.{observations}

last_of_more : {A : Type 0} (x : A) (xs : List A) → last_or (Some x) xs ≡ slice_get (x ∷ xs) (length xs)
last_of_more x [] = grind (arith, common_steps)
last_of_more x (y ∷ ys) = last_of_more y ys ∙ grind (arith, common_steps)

-- the count of the last bucket
pub last_count : (buckets : List Bucket) (b : Bucket) → Some b ≡ slice_get buckets (length buckets - 1) → b.count ≡ observations buckets
last_count [] b e = absurd (grind (arith, common_steps))
last_count (c ∷ cs) b e =
    let there : last_or (Some c) cs ≡ Some b = grind (arith, common_steps, last_of_more c cs, e) in
    rw there refl
