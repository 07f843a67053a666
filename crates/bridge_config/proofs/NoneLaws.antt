-- First values that aren't there.
use Rattle.std.proofs.Common.{◌≡◌, List, [], ◌∷◌, Option, None}
use Rattle.std.specs.List.{AllByRecursion}
use Rattle.label_sets.specs.Lists.{first_some}
use Rattle.label_sets.proofs.Laws.{option_or-none}

-- where no first value is there, the first element gives none and the rest give none
pub first_none : {A B : Type 0} (f : A → Option B) (x : A) (xs : List A) → first_some f (x ∷ xs) ≡ None → (f x ≡ None) × (first_some f xs ≡ None)
first_none f x xs e = option_or-none (f x) (first_some f xs) e

-- none of a list gives a value
pub all_none : {A B : Type 0} (f : A → Option B) (xs : List A) → first_some f xs ≡ None → AllByRecursion (λ x. f x ≡ None) xs
all_none f [] e = tt
all_none f (x ∷ xs) e = let both = first_none f x xs e in (both.0, all_none f xs both.1)
