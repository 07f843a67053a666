-- Lists turned round onto others, and what is asked of each element behind those above it, the nearest first.
use Rattle.std.proofs.Common.{◌≡◌, Bool, true, false, cond, ◌||◌, List, [], ◌∷◌, ◌++◌, map, filter, reverse, refl, sym, ap, ◌∙◌, append_assoc}
use Rattle.std.specs.Prelude.{⊤}
use Rattle.std.specs.List.{list_any, flat_map, AllByRecursion}
use Rattle.std.proofs.lemmas.List.{append-nil, reverse-append}
use Rattle.label_sets.proofs.Laws.{all-append, all-weaker}

-- the elements in front of others, the last first
abbrev pub turn : {A : Type 0} → List A → List A → List A
turn [] above = above
turn (x ∷ xs) above = turn xs (x ∷ above)

pub turn-append : {A : Type 0} (xs ys above : List A) → turn (xs ++ ys) above ≡ turn ys (turn xs above)
turn-append [] ys above = refl
turn-append (x ∷ xs) ys above = turn-append xs ys (x ∷ above)

pub turn-map : {A B : Type 0} (f : A → B) (xs above : List A) (rest : List B) → turn (map f xs) (map f above ++ rest) ≡ map f (turn xs above) ++ rest
turn-map f [] above rest = refl
turn-map f (x ∷ xs) above rest = turn-map f xs (x ∷ above) rest

pub reverse-turn : {A : Type 0} (xs above : List A) → reverse (turn xs above) ≡ reverse above ++ xs
reverse-turn [] above = sym (append-nil (reverse above))
reverse-turn (x ∷ xs) above = reverse-turn xs (x ∷ above) ∙ ap (λ t. t ++ xs) (reverse-append (x ∷ []) above) ∙ append_assoc (reverse above) (x ∷ []) xs

pub any-turn : {A : Type 0} (p : A → Bool) (xs above : List A) → list_any p xs ≡ false → list_any p above ≡ false → list_any p (turn xs above) ≡ false
any-turn p [] above none e = e
any-turn p (x ∷ xs) above none e = go (p x) refl none (any-turn p xs (x ∷ above))
  where
    go : (b : Bool) → p x ≡ b → (b || list_any p xs) ≡ false → (list_any p xs ≡ false → list_any p (x ∷ above) ≡ false → list_any p (turn xs (x ∷ above)) ≡ false) → list_any p (turn xs (x ∷ above)) ≡ false
    go true f h ih = absurd (let k : true ≡ false = h in cc)
    go false f h ih = ih h (rw f e)

-- ---- each of a list

pub all-map : {A B : Type 0} (P : B → Type 0) (f : A → B) (xs : List A) → AllByRecursion (λ x. P (f x)) xs → AllByRecursion P (map f xs)
all-map P f [] h = tt
all-map P f (x ∷ xs) h = (h.0, all-map P f xs h.1)

pub all-of : {A : Type 0} (P : A → Type 0) → ((x : A) → P x) → (xs : List A) → AllByRecursion P xs
all-of P every [] = tt
all-of P every (x ∷ xs) = (every x, all-of P every xs)

pub all-both : {A : Type 0} (P Q : A → Type 0) (xs : List A) → AllByRecursion P xs → AllByRecursion Q xs → AllByRecursion (λ x. P x × Q x) xs
all-both P Q [] h k = tt
all-both P Q (x ∷ xs) h k = ((h.0, k.0), all-both P Q xs h.1 k.1)

pub all-turn : {A : Type 0} (P : A → Type 0) (xs above : List A) → AllByRecursion P xs → AllByRecursion P above → AllByRecursion P (turn xs above)
all-turn P [] above h k = k
all-turn P (x ∷ xs) above h k = all-turn P xs (x ∷ above) h.1 (h.0, k)

pub all-flat : {A B : Type 0} (P : B → Type 0) (f : A → List B) (xs : List A) → AllByRecursion (λ x. AllByRecursion P (f x)) xs → AllByRecursion P (flat_map f xs)
all-flat P f [] h = tt
all-flat P f (x ∷ xs) h = all-append P (f x) (flat_map f xs) h.0 (all-flat P f xs h.1)

pub none-any : {A : Type 0} (p : A → Bool) (xs : List A) → AllByRecursion (λ x. p x ≡ false) xs → list_any p xs ≡ false
none-any p [] h = refl
none-any p (x ∷ xs) h = rw (h.0) (none-any p xs h.1)

pub any-none : {A : Type 0} (p : A → Bool) (xs : List A) → list_any p xs ≡ false → AllByRecursion (λ x. p x ≡ false) xs
any-none p [] h = tt
any-none p (x ∷ xs) h = go (p x) refl h (any-none p xs)
  where
    go : (b : Bool) → p x ≡ b → (b || list_any p xs) ≡ false → (list_any p xs ≡ false → AllByRecursion (λ y. p y ≡ false) xs) → AllByRecursion (λ y. p y ≡ false) (x ∷ xs)
    go true f k ih = absurd (let g : true ≡ false = k in cc)
    go false f k ih = (f, ih k)

-- what was kept once is kept again
pub filter-twice : {A : Type 0} (p : A → Bool) (xs : List A) → filter p (filter p xs) ≡ filter p xs
filter-twice p [] = refl
filter-twice p (x ∷ xs) = go (p x) refl (filter-twice p xs)
  where
    go : (b : Bool) → p x ≡ b → filter p (filter p xs) ≡ filter p xs → filter p (cond b (x ∷ filter p xs) (filter p xs)) ≡ cond b (x ∷ filter p xs) (filter p xs)
    go true e ih = rw e (ap (λ ys. x ∷ ys) ih)
    go false e ih = ih

-- ---- pairs of elements, the first of which stands in front of the second

abbrev pub Pairs : {A : Type 0} → (A → A → Type 0) → List A → Type 0
Pairs R [] = ⊤
Pairs R (x ∷ xs) = AllByRecursion (R x) xs × Pairs R xs

pub pairs-append : {A : Type 0} (R : A → A → Type 0) (xs ys : List A) → Pairs R xs → Pairs R ys → AllByRecursion (λ x. AllByRecursion (R x) ys) xs → Pairs R (xs ++ ys)
pairs-append R [] ys h k c = k
pairs-append R (x ∷ xs) ys h k c = (all-append (R x) xs ys h.0 c.0, pairs-append R xs ys h.1 k c.1)

pub pairs-map : {A B : Type 0} (R : B → B → Type 0) (f : A → B) (xs : List A) → Pairs (λ x y. R (f x) (f y)) xs → Pairs R (map f xs)
pairs-map R f [] h = tt
pairs-map R f (x ∷ xs) h = (all-map (R (f x)) f xs h.0, pairs-map R f xs h.1)

pub pairs-weaker : {A : Type 0} (R S : A → A → Type 0) → ((x y : A) → R x y → S x y) → (xs : List A) → Pairs R xs → Pairs S xs
pairs-weaker R S more [] h = tt
pairs-weaker R S more (x ∷ xs) h = (all-weaker (R x) (S x) (more x) xs h.0, pairs-weaker R S more xs h.1)

-- lists made of lists: pairs in one, and pairs over two
pub pairs-flat : {A B : Type 0} (R : B → B → Type 0) (f : A → List B) (xs : List A) → AllByRecursion (λ x. Pairs R (f x)) xs
    → Pairs (λ x y. AllByRecursion (λ s. AllByRecursion (R s) (f y)) (f x)) xs → Pairs R (flat_map f xs)
pairs-flat R f [] h k = tt
pairs-flat R f (x ∷ xs) h k = pairs-append R (f x) (flat_map f xs) h.0 (pairs-flat R f xs h.1 k.1) (crossed (f x) xs k.0)
  where
    crossed : (ss : List _) (ys : List _) → AllByRecursion (λ y. AllByRecursion (λ s. AllByRecursion (R s) (f y)) ss) ys → AllByRecursion (λ s. AllByRecursion (R s) (flat_map f ys)) ss
    crossed [] ys c = tt
    crossed (s ∷ ss) ys c = (all-flat (R s) f ys (firsts ys c), crossed ss ys (rests ys c))
      where
        firsts : (ys : List _) → AllByRecursion (λ y. AllByRecursion (λ s. AllByRecursion (R s) (f y)) (s ∷ ss)) ys → AllByRecursion (λ y. AllByRecursion (R s) (f y)) ys
        firsts [] c = tt
        firsts (y ∷ ys) c = (c.0.0, firsts ys c.1)

        rests : (ys : List _) → AllByRecursion (λ y. AllByRecursion (λ s. AllByRecursion (R s) (f y)) (s ∷ ss)) ys → AllByRecursion (λ y. AllByRecursion (λ s. AllByRecursion (R s) (f y)) ss) ys
        rests [] c = tt
        rests (y ∷ ys) c = (c.0.1, rests ys c.1)

-- ---- each element behind those above it

abbrev pub Each : {A : Type 0} → (List A → A → Type 0) → List A → List A → Type 0
Each P above [] = ⊤
Each P above (x ∷ xs) = P above x × Each P (x ∷ above) xs

-- what holds of each pair holds of each element behind those above it
pub each-pairs : {A : Type 0} (R : A → A → Type 0) (above xs : List A) → AllByRecursion (λ t. AllByRecursion (R t) xs) above → Pairs R xs → Each (λ a x. AllByRecursion (λ t. R t x) a) above xs
each-pairs R above [] h p = tt
each-pairs R above (x ∷ xs) h p = (heads above h, each-pairs R (x ∷ above) xs (p.0, tails above h) p.1)
  where
    heads : (a : List _) → AllByRecursion (λ t. AllByRecursion (R t) (x ∷ xs)) a → AllByRecursion (λ t. R t x) a
    heads [] h = tt
    heads (t ∷ a) h = (h.0.0, heads a h.1)

    tails : (a : List _) → AllByRecursion (λ t. AllByRecursion (R t) (x ∷ xs)) a → AllByRecursion (λ t. AllByRecursion (R t) xs) a
    tails [] h = tt
    tails (t ∷ a) h = (h.0.1, tails a h.1)

pub each-append : {A : Type 0} (P : List A → A → Type 0) (above xs ys : List A) → Each P above xs → Each P (turn xs above) ys → Each P above (xs ++ ys)
each-append P above [] ys h k = k
each-append P above (x ∷ xs) ys h k = (h.0, each-append P (x ∷ above) xs ys h.1 k)

pub turn-mapped : {A B : Type 0} (f : A → B) (xs above : List A) → turn (map f xs) (map f above) ≡ map f (turn xs above)
turn-mapped f [] above = refl
turn-mapped f (x ∷ xs) above = turn-mapped f xs (x ∷ above)

-- of what the elements come to, and of the elements
pub each-mapped : {A B : Type 0} (P : List B → B → Type 0) (f : A → B) (above xs : List A) → Each P (map f above) (map f xs) → Each (λ a x. P (map f a) (f x)) above xs
each-mapped P f above [] h = tt
each-mapped P f above (x ∷ xs) h = (h.0, each-mapped P f (x ∷ above) xs h.1)

pub map-append : {A B : Type 0} (f : A → B) (xs ys : List A) → map f (xs ++ ys) ≡ map f xs ++ map f ys
map-append f [] ys = refl
map-append f (x ∷ xs) ys = ap (λ zs. f x ∷ zs) (map-append f xs ys)

pub any-front : {A : Type 0} (p : A → Bool) (xs ys : List A) → list_any p xs ≡ true → list_any p (xs ++ ys) ≡ true
any-front p [] ys e = absurd cc
any-front p (x ∷ xs) ys e = go (p x) e (any-front p xs ys)
  where
    go : (b : Bool) → (b || list_any p xs) ≡ true → (list_any p xs ≡ true → list_any p (xs ++ ys) ≡ true) → (b || list_any p (xs ++ ys)) ≡ true
    go true f ih = refl
    go false f ih = ih f

pub any-behind : {A : Type 0} (p : A → Bool) (xs ys : List A) → list_any p ys ≡ true → list_any p (xs ++ ys) ≡ true
any-behind p [] ys e = e
any-behind p (x ∷ xs) ys e = go (p x) (any-behind p xs ys e)
  where
    go : (b : Bool) → list_any p (xs ++ ys) ≡ true → (b || list_any p (xs ++ ys)) ≡ true
    go true f = refl
    go false f = f

pub none-append : {A : Type 0} (p : A → Bool) (xs ys : List A) → list_any p xs ≡ false → list_any p ys ≡ false → list_any p (xs ++ ys) ≡ false
none-append p [] ys e f = f
none-append p (x ∷ xs) ys e f = go (p x) e (λ h. none-append p xs ys h f)
  where
    go : (b : Bool) → (b || list_any p xs) ≡ false → (list_any p xs ≡ false → list_any p (xs ++ ys) ≡ false) → (b || list_any p (xs ++ ys)) ≡ false
    go true g ih = absurd (let k : true ≡ false = g in cc)
    go false g ih = ih g

kept-turn : {A : Type 0} (p : A → Bool) (xs above : List A) → list_any p above ≡ true → list_any p (turn xs above) ≡ true
kept-turn p [] above e = e
kept-turn p (x ∷ xs) above e = kept-turn p xs (x ∷ above) (any-behind p (x ∷ []) above e)

pub some-turn : {A : Type 0} (p : A → Bool) (xs above : List A) → list_any p xs ≡ true → list_any p (turn xs above) ≡ true
some-turn p [] above e = absurd cc
some-turn p (x ∷ xs) above e = go (p x) refl e (some-turn p xs (x ∷ above)) (kept-turn p xs (x ∷ above))
  where
    go : (b : Bool) → p x ≡ b → (b || list_any p xs) ≡ true → (list_any p xs ≡ true → list_any p (turn xs (x ∷ above)) ≡ true) → (list_any p (x ∷ above) ≡ true → list_any p (turn xs (x ∷ above)) ≡ true)
        → list_any p (turn xs (x ∷ above)) ≡ true
    go true f g ih old = old (rw f refl)
    go false f g ih old = ih g

-- each pair, in either order, and each element with itself
pub square : {A : Type 0} (R : A → A → Type 0) (xs : List A) → Pairs (λ x y. R x y × R y x) xs → AllByRecursion (λ x. R x x) xs → AllByRecursion (λ x. AllByRecursion (R x) xs) xs
square R [] p d = tt
square R (x ∷ xs) p d = ((d.0, all-weaker (λ y. R x y × R y x) (R x) (λ y h. h.0) xs p.0), rows xs p.0 (square R xs p.1 d.1))
  where
    rows : (ys : List _) → AllByRecursion (λ y. R x y × R y x) ys → AllByRecursion (λ y. AllByRecursion (R y) xs) ys → AllByRecursion (λ y. AllByRecursion (R y) (x ∷ xs)) ys
    rows [] h k = tt
    rows (y ∷ ys) h k = ((h.0.1, k.0), rows ys h.1 k.1)

-- what one of the lists has, all of them together have
pub any-flat : {A B : Type 0} (f : A → List B) (xs : List A) → AllByRecursion (λ x. (p : B → Bool) → list_any p (f x) ≡ true → list_any p (flat_map f xs) ≡ true) xs
any-flat f [] = tt
any-flat f (x ∷ xs) = (λ p e. any-front p (f x) (flat_map f xs) e, all-weaker _ (λ y. (p : _ → Bool) → list_any p (f y) ≡ true → list_any p (flat_map f (x ∷ xs)) ≡ true) (λ y h p e. any-behind p (f x) (flat_map f xs) (h p e)) xs (any-flat f xs))
