-- What is read from the front of packed bytes.
use Rattle.std.proofs.Common.{◌≡◌, ℕ, zero, suc, ◌+◌, ◌-◌, ◌^◌, ◌<◌, ◌≤◌, ◌==◌, min, false, List, [], ◌∷◌, ◌++◌, length, take, drop, refl, sym, ap, subst, append_assoc, ◌∙◌, lit≤, arith}
use Rattle.std.specs.List.{flat_map, All}
use Rattle.std.proofs.lemmas.List.{nil_from_length, take_min, drop_min, append-nil, length-append, get_or_at}
use Rattle.std.proofs.lemmas.Bool.Decides.{nat_tests}
use Rattle.label_sets.specs.declared.label.Label.{Label}
use Rattle.packed_keys.specs.Packing.{length_code, part_bytes, label_bytes, labels_bytes, length_at, part_at, packed_label_at, packed_labels_at, labels_in}
use Rattle.packed_keys.specs.Texts.{IsTextLabel}

-- ---- lengths

-- on the way through a length: what was read and what is left make up the whole, as far as a number holds it
pub record IsReading (bytes left : List ℕ) (read : ℕ) : Type 0 where
  pub fits : read ≤ 2 ^ 64 - 1
  pub whole : min (length_at bytes).0 (2 ^ 64 - 1) ≡ min (read + (length_at left).0) (2 ^ 64 - 1)
  pub rest : (length_at bytes).1 ≡ (length_at left).1

length_more : (b : ℕ) (bs : List ℕ) → b ≡ 255 → length_at (b ∷ bs) ≡ (255 + (length_at bs).0, (length_at bs).1)
unfolding length_at
length_more b bs e = rw e refl

length_last : (b : ℕ) (bs : List ℕ) → (b ≡ 255 → ⊥) → length_at (b ∷ bs) ≡ (b, bs)
unfolding length_at
length_last b bs n = let t : (b == 255) ≡ false = grind (arith, nat_tests) in rw t refl

no_length : length_at [] ≡ (0, [])
unfolding length_at
no_length = refl

pub reading_begins : (bytes : List ℕ) → IsReading bytes bytes 0
reading_begins bytes = record { fits = lit≤ tt; whole = let z : 0 + (length_at bytes).0 ≡ (length_at bytes).0 = omega arith in ap (λ (n : ℕ). min n (2 ^ 64 - 1)) (sym z); rest = refl }

-- a byte of 255 says that more follow
pub reading_goes_on : (bytes left rest : List ℕ) (read read' b : ℕ) → IsReading bytes left read → left ≡ b ∷ rest → b ≡ 255 → read' ≡ min (read + b) (2 ^ 64 - 1) → IsReading bytes rest read'
reading_goes_on bytes left rest read read' b is e f r =
    let at : length_at left ≡ (255 + (length_at rest).0, (length_at rest).1) = ap length_at e ∙ length_more b rest f in
    let whole : min (length_at bytes).0 (2 ^ 64 - 1) ≡ min (read + (255 + (length_at rest).0)) (2 ^ 64 - 1) = rw at at is.whole in
    record { fits = omega arith; whole = omega arith; rest = rw at at is.rest }

-- another byte ends the length
pub reading_ends : (bytes left rest : List ℕ) (read read' b : ℕ) → IsReading bytes left read → left ≡ b ∷ rest → (b ≡ 255 → ⊥) → read' ≡ min (read + b) (2 ^ 64 - 1)
    → (read' ≡ min (length_at bytes).0 (2 ^ 64 - 1)) × (rest ≡ (length_at bytes).1)
reading_ends bytes left rest read read' b is e n r =
    let at : length_at left ≡ (b, rest) = ap length_at e ∙ length_last b rest n in
    let whole : min (length_at bytes).0 (2 ^ 64 - 1) ≡ min (read + b) (2 ^ 64 - 1) = rw at at is.whole in
    let behind : (length_at bytes).1 ≡ rest = rw at at is.rest in
    (omega arith, sym behind)

-- and so does the end of the bytes
pub reading_stops : (bytes left : List ℕ) (read : ℕ) → IsReading bytes left read → length left ≡ 0 → (read ≡ min (length_at bytes).0 (2 ^ 64 - 1)) × (left ≡ (length_at bytes).1)
reading_stops bytes left read is none =
    let e : left ≡ [] = nil_from_length left none in
    let at : length_at left ≡ (0, []) = ap length_at e ∙ no_length in
    let fits : read ≤ 2 ^ 64 - 1 = is.fits in
    let whole : min (length_at bytes).0 (2 ^ 64 - 1) ≡ min (read + 0) (2 ^ 64 - 1) = rw at at is.whole in
    let behind : (length_at bytes).1 ≡ [] = rw at at is.rest in
    (omega arith, e ∙ sym behind)

-- ---- parts

-- as many bytes as the length says, or all where there are fewer
pub part_is : (bytes rest front back : List ℕ) (count n : ℕ) → rest ≡ (length_at bytes).1 → count ≡ min (length_at bytes).0 (2 ^ 64 - 1) → length rest ≤ 2 ^ 64 - 1 → n ≡ min count (length rest)
    → front ≡ take n rest → back ≡ drop n rest → (front ≡ (part_at bytes).0) × (back ≡ (part_at bytes).1)
unfolding part_at
part_is bytes rest front back count n r k fits m f b =
    let long : ℕ = (length_at bytes).0 in
    let same : n ≡ min long (length rest) = omega arith in (
      f ∙ (ap (λ (x : ℕ). take x rest) same ∙ (take_min long rest ∙ ap (take long) r)),
      b ∙ (ap (λ (x : ℕ). drop x rest) same ∙ (drop_min long rest ∙ ap (drop long) r)),
    )

-- ---- labels

length-packed_labels_at : (n : ℕ) (bs : List ℕ) → length (packed_labels_at n bs) ≡ n
unfolding packed_labels_at
length-packed_labels_at zero bs = refl
length-packed_labels_at (suc n) bs = let ih : length (packed_labels_at n (packed_label_at bs).1) ≡ n = length-packed_labels_at n (packed_label_at bs).1 in omega arith

some_byte : (l : Label) → 1 ≤ length (label_bytes l)
unfolding label_bytes part_bytes length_code
some_byte l = simp length-append (omega arith)

few_labels : (ls : List Label) → length ls ≤ length (flat_map label_bytes ls)
few_labels [] = omega arith
few_labels (l ∷ ls) =
    let ih : length ls ≤ length (flat_map label_bytes ls) = few_labels ls in
    let one : 1 ≤ length (label_bytes l) = some_byte l in
    let both : length (label_bytes l ++ flat_map label_bytes ls) ≡ length (label_bytes l) + length (flat_map label_bytes ls) = length-append (label_bytes l) (flat_map label_bytes ls) in
    omega arith

-- a set has no more labels than its bytes
pub count_within : (bytes : List ℕ) → labels_bytes (labels_in bytes) ≡ bytes → (length_at bytes).0 ≤ length bytes
unfolding labels_in labels_bytes
count_within bytes packed =
    let ls = packed_labels_at (length_at bytes).0 (length_at bytes).1 in
    let count : length ls ≡ (length_at bytes).0 = length-packed_labels_at (length_at bytes).0 (length_at bytes).1 in
    let few : length ls ≤ length (flat_map label_bytes ls) = few_labels ls in
    let both : length (length_code (length ls) ++ flat_map label_bytes ls) ≡ length (length_code (length ls)) + length (flat_map label_bytes ls) = length-append (length_code (length ls)) (flat_map label_bytes ls) in
    let all : length (length_code (length ls) ++ flat_map label_bytes ls) ≡ length bytes = ap length packed in
    omega arith

-- on the way through a set: these labels were read, and so many are left in these bytes
pub record IsReadTo (bytes : List ℕ) (count : ℕ) (labels : List Label) (left : List ℕ) : Type 0 where
  pub within : length labels ≤ count
  pub whole : labels ++ packed_labels_at (count - length labels) left ≡ labels_in bytes

pub labels_begin : (bytes left : List ℕ) (count : ℕ) → labels_bytes (labels_in bytes) ≡ bytes → length bytes ≤ 2 ^ 64 - 1 → count ≡ min (length_at bytes).0 (2 ^ 64 - 1) → left ≡ (length_at bytes).1 → IsReadTo bytes count [] left
unfolding labels_in
labels_begin bytes left count packed fits k e =
    let few : (length_at bytes).0 ≤ length bytes = count_within bytes packed in
    let all : count - 0 ≡ (length_at bytes).0 = omega arith in
    record { within = omega arith; whole = rw (all, e) refl }

next_label : (bytes left : List ℕ) (count : ℕ) (labels : List Label) → IsReadTo bytes count labels left → length labels < count
    → labels ++ (packed_label_at left).0 ∷ packed_labels_at (count - (length labels + 1)) (packed_label_at left).1 ≡ labels_in bytes
unfolding packed_labels_at
next_label bytes left count labels is lt =
    let more : count - length labels ≡ suc (count - (length labels + 1)) = omega arith in
    rw more at is.whole

-- the label at the front is a text's
pub next_text : (bytes left : List ℕ) (count : ℕ) (labels : List Label) → IsReadTo bytes count labels left → length labels < count → All IsTextLabel (labels_in bytes) → IsTextLabel (packed_label_at left).0
next_text bytes left count labels is lt texts =
    let l = (packed_label_at left).0 in
    let ls = labels ++ l ∷ packed_labels_at (count - (length labels + 1)) (packed_label_at left).1 in
    let all : All IsTextLabel ls = subst (All IsTextLabel) (sym (next_label bytes left count labels is lt)) texts in
    let long : length ls ≡ length labels + length (l ∷ packed_labels_at (count - (length labels + 1)) (packed_label_at left).1) = length-append labels (l ∷ packed_labels_at (count - (length labels + 1)) (packed_label_at left).1) in
    subst IsTextLabel (get_or_at labels l (packed_labels_at (count - (length labels + 1)) (packed_label_at left).1) l (length labels) refl) (all (length labels) l (omega arith))

pub labels_go_on : (bytes left left' : List ℕ) (count : ℕ) (labels labels' : List Label) → IsReadTo bytes count labels left → length labels < count → labels' ≡ labels ++ (packed_label_at left).0 ∷ [] → left' ≡ (packed_label_at left).1
    → IsReadTo bytes count labels' left'
labels_go_on bytes left left' count labels labels' is lt m e =
    let long : length (labels ++ (packed_label_at left).0 ∷ []) ≡ length labels + 1 = length-append labels ((packed_label_at left).0 ∷ []) in
    rw (m, e) (record {
      within = omega arith;
      whole = rw long (append_assoc labels ((packed_label_at left).0 ∷ []) (packed_labels_at (count - (length labels + 1)) (packed_label_at left).1) ∙ next_label bytes left count labels is lt);
    })

pub labels_end : (bytes left : List ℕ) (count : ℕ) (labels : List Label) → IsReadTo bytes count labels left → count ≤ length labels → labels ≡ labels_in bytes
unfolding packed_labels_at
labels_end bytes left count labels is le =
    let none : count - length labels ≡ 0 = omega arith in
    let whole : labels ++ packed_labels_at 0 left ≡ labels_in bytes = rw none at is.whole in
    sym (append-nil labels) ∙ whole

-- the label that two parts make
pub label_is : (bytes name middle value rest : List ℕ) → name ≡ (part_at bytes).0 → middle ≡ (part_at bytes).1 → value ≡ (part_at middle).0 → rest ≡ (part_at middle).1
    → (record { name = name; value = value } ≡ (packed_label_at bytes).0) × (rest ≡ (packed_label_at bytes).1)
unfolding packed_label_at
label_is bytes name middle value rest n m v r = rw (n, v, r, m) (refl, refl)
