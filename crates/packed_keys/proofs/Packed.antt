-- Packed keys are read back, so that no two have the same bytes.
use Rattle.std.proofs.Common.{◌≡◌, ℕ, zero, suc, ◌+◌, ◌-◌, ◌*◌, ◌/◌, ◌%◌, ◌<◌, ◌≤◌, false, List, [], ◌∷◌, ◌++◌, length, take, drop, replicate, refl, sym, ap, ◌∙◌, arith, append_assoc, ◌==◌}
use Rattle.std.specs.Bool.{Decides}
use Rattle.std.specs.List.{flat_map}
use Rattle.std.specs.Str.{bytes_eq}
use Rattle.std.specs.Cmp.Lexicographic.{bytes_decides}
use Rattle.std.proofs.lemmas.List.{take_at, drop_at}
use Rattle.std.proofs.lemmas.Bool.Decides.{nat_tests, Decides-and}
use Rattle.label_sets.specs.declared.label.Label.{Label}
use Rattle.label_sets.specs.Labels.{label_sets_eq}
use Rattle.label_sets.proofs.Laws.{sets_decide, same_tests}
use Rattle.packed_keys.specs.declared.sample_key.SampleKey.{SampleKey}
use Rattle.packed_keys.specs.Packing.{length_code, part_bytes, label_bytes, labels_bytes, key_bytes, length_at, part_at, packed_label_at, packed_labels_at, labels_in, key_at, sample_key_eq}

-- a number and what stands behind it
abbrev counted : List ℕ → ℕ → ℕ × List ℕ
counted xs n = (n, xs)

abbrev paired : List ℕ → List ℕ → List ℕ × List ℕ
paired a b = (a, b)

-- what is cut off at a number, and what stands behind it
abbrev cut_at : ℕ × List ℕ → List ℕ × List ℕ
cut_at p = (take p.0 p.1, drop p.0 p.1)

-- ---- lengths

pub code_short : (n : ℕ) → n < 255 → length_code n ≡ n ∷ []
unfolding length_code
code_short n h =
    let q : n / 255 ≡ 0 = omega arith in
    let r : n % 255 ≡ n = omega arith in
    rw (q, r) refl

pub code_long : (n : ℕ) → 255 ≤ n → length_code n ≡ 255 ∷ length_code (n - 255)
unfolding length_code
code_long n h =
    let q : n / 255 ≡ suc ((n - 255) / 255) = omega arith in
    let r : n % 255 ≡ (n - 255) % 255 = omega arith in
    rw (q, r) refl

code_at : (q r : ℕ) (xs : List ℕ) → r < 255 → length_at (replicate q 255 ++ r ∷ xs) ≡ (255 * q + r, xs)
unfolding length_at
code_at zero r xs h = let e : (r == 255) ≡ false = grind (arith, nat_tests) in let z : r ≡ 255 * 0 + r = omega arith in rw e (ap (counted xs) z)
code_at (suc q) r xs h =
    let ih = code_at q r xs h in
    let n : 255 + (255 * q + r) ≡ 255 * suc q + r = omega arith in
    rw ih (ap (counted xs) n)

-- a length is read back
pub length_back : (n : ℕ) (xs : List ℕ) → length_at (length_code n ++ xs) ≡ (n, xs)
unfolding length_code
length_back n xs =
    let e : (replicate (n / 255) 255 ++ (n % 255) ∷ []) ++ xs ≡ replicate (n / 255) 255 ++ (n % 255) ∷ xs = append_assoc (replicate (n / 255) 255) ((n % 255) ∷ []) xs in
    let small : n % 255 < 255 = omega arith in
    let n_is : 255 * (n / 255) + n % 255 ≡ n = omega arith in
    ap length_at e ∙ (code_at (n / 255) (n % 255) xs small ∙ ap (counted xs) n_is)

-- ---- parts, labels, keys

-- a part is read back
pub part_back : (bs xs : List ℕ) → part_at (part_bytes bs ++ xs) ≡ (bs, xs)
unfolding part_at part_bytes
part_back bs xs =
    let e : length_at (length_code (length bs) ++ bs ++ xs) ≡ (length bs, bs ++ xs) = ap length_at (append_assoc (length_code (length bs)) bs xs) ∙ length_back (length bs) (bs ++ xs) in
    ap cut_at e ∙ both (take_at bs xs (length bs) refl) (drop_at bs xs (length bs) refl)
  where
    both : {a b x y : List ℕ} → a ≡ b → x ≡ y → paired a x ≡ paired b y
    both p q = cc

-- a label of its name and what stands behind that
abbrev named : List ℕ × List ℕ → Label × List ℕ
named p = (record { name = p.0; value = (part_at p.1).0 }, (part_at p.1).1)

-- a label is read back
pub label_back : (l : Label) (xs : List ℕ) → packed_label_at (label_bytes l ++ xs) ≡ (l, xs)
unfolding packed_label_at label_bytes
label_back l xs =
    let e : part_at (part_bytes l.name ++ part_bytes l.value ++ xs) ≡ (l.name, part_bytes l.value ++ xs) = ap part_at (append_assoc (part_bytes l.name) (part_bytes l.value) xs) ∙ part_back l.name (part_bytes l.value ++ xs) in
    let f = part_back l.value xs in
    made (part_at (part_bytes l.name ++ part_bytes l.value ++ xs)) e
  where
    made : (p : List ℕ × List ℕ) → p ≡ (l.name, part_bytes l.value ++ xs) → named p ≡ (l, xs)
    made p e = rw e (rw (part_back l.value xs) refl)

-- labels are read back
pub labels_back : (ls : List Label) → packed_labels_at (length ls) (flat_map label_bytes ls) ≡ ls
unfolding packed_labels_at
labels_back [] = refl
labels_back (l ∷ ls) = rw (label_back l (flat_map label_bytes ls)) (ap (λ (ms : List Label). l ∷ ms) (labels_back ls))

-- the labels of their own bytes
pub set_back : (ls : List Label) → labels_in (labels_bytes ls) ≡ ls
unfolding labels_in labels_bytes
set_back ls = rw (length_back (length ls) (flat_map label_bytes ls)) (labels_back ls)

-- a key is read back
pub key_back : (key : SampleKey) → key_at (key_bytes key) ≡ key
unfolding key_at key_bytes
key_back key = rw (part_back key.name (labels_bytes key.labels)) (rw (set_back key.labels) refl)

-- ---- equality

pub key_decides : (a b : SampleKey) → Decides (sample_key_eq a b) (a ≡ b)
key_decides a b =
    let both = Decides-and (bytes_eq a.name b.name) (label_sets_eq a.labels b.labels) (bytes_decides a.name b.name) (sets_decide a.labels b.labels) in
    (λ e i. record { name = (both.0 e).0 i; labels = (both.0 e).1 i }, λ e. both.1 (ap (λ (k : SampleKey). k.name) e, ap (λ (k : SampleKey). k.labels) e))

-- a string that is a key's is the bytes of a key just where it is that key
pub same_key : (key : SampleKey) (string : List ℕ) → key_bytes (key_at string) ≡ string → bytes_eq (key_bytes key) string ≡ sample_key_eq key (key_at string)
same_key key string packed = same_tests (bytes_eq (key_bytes key) string) (sample_key_eq key (key_at string))
    (λ t. (key_decides key (key_at string)).1 (sym (key_back key) ∙ ap key_at ((bytes_decides (key_bytes key) string).0 t)))
    (λ t. (bytes_decides (key_bytes key) string).1 (ap key_bytes ((key_decides key (key_at string)).0 t) ∙ packed))

-- a string that is a set's is the bytes of a set just where it is that set
pub same_set : (ls : List Label) (string : List ℕ) → labels_bytes (labels_in string) ≡ string → bytes_eq (labels_bytes ls) string ≡ label_sets_eq ls (labels_in string)
same_set ls string packed = same_tests (bytes_eq (labels_bytes ls) string) (label_sets_eq ls (labels_in string))
    (λ t. (sets_decide ls (labels_in string)).1 (sym (set_back ls) ∙ ap labels_in ((bytes_decides (labels_bytes ls) string).0 t)))
    (λ t. (bytes_decides (labels_bytes ls) string).1 (ap labels_bytes ((sets_decide ls (labels_in string)).0 t) ∙ packed))
