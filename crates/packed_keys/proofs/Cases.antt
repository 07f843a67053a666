-- Packed keys computed at cases that were worked by hand.
use Rattle.std.proofs.Common.{◌≡◌, ℕ, true, false, List, [], ◌∷◌, refl}
use Rattle.std.specs.Prelude.{codes}
use Rattle.label_sets.specs.declared.label.Label.{Label}
use Rattle.packed_keys.specs.declared.sample_key.SampleKey.{SampleKey}
use Rattle.packed_keys.specs.Packing.{length_code, part_bytes, label_bytes, labels_bytes, key_bytes, length_at, part_at, packed_label_at, packed_labels_at, labels_in, key_at, sample_key_eq}

abbrev label : List ℕ → List ℕ → Label
label name value = record { name = name; value = value }

abbrev key : List ℕ → List Label → SampleKey
key name labels = record { name = name; labels = labels }

no_length : length_code 0 ≡ 0 ∷ []
unfolding length_code
no_length = refl

last_short : length_code 254 ≡ 254 ∷ []
unfolding length_code
last_short = refl

first_long : length_code 255 ≡ 255 ∷ 0 ∷ []
unfolding length_code
first_long = refl

second_long : length_code 256 ≡ 255 ∷ 1 ∷ []
unfolding length_code
second_long = refl

twice_long : length_code 510 ≡ 255 ∷ 255 ∷ 0 ∷ []
unfolding length_code
twice_long = refl

long_back : length_at (255 ∷ 255 ∷ 3 ∷ 97 ∷ []) ≡ (513, 97 ∷ [])
unfolding length_at
long_back = refl

part : part_bytes (codes "up") ≡ 2 ∷ 117 ∷ 112 ∷ []
unfolding part_bytes length_code
part = refl

empty_part : part_bytes [] ≡ 0 ∷ []
unfolding part_bytes length_code
empty_part = refl

part_read : part_at (2 ∷ 117 ∷ 112 ∷ 1 ∷ 120 ∷ []) ≡ (codes "up", 1 ∷ 120 ∷ [])
unfolding part_at length_at
part_read = refl

no_labels : key_bytes (key (codes "up") []) ≡ 2 ∷ 117 ∷ 112 ∷ 0 ∷ []
unfolding key_bytes labels_bytes part_bytes length_code
no_labels = refl

one_label : key_bytes (key (codes "a") (label (codes "b") (codes "1") ∷ [])) ≡ 1 ∷ 97 ∷ 1 ∷ 1 ∷ 98 ∷ 1 ∷ 49 ∷ []
unfolding key_bytes labels_bytes label_bytes part_bytes length_code
one_label = refl

-- the bytes of names and values alone would be the same for both
moved_border : key_bytes (key (codes "a") (label (codes "bc") (codes "d") ∷ [])) ≡ 1 ∷ 97 ∷ 1 ∷ 2 ∷ 98 ∷ 99 ∷ 1 ∷ 100 ∷ []
unfolding key_bytes labels_bytes label_bytes part_bytes length_code
moved_border = refl

other_border : key_bytes (key (codes "a") (label (codes "b") (codes "cd") ∷ [])) ≡ 1 ∷ 97 ∷ 1 ∷ 1 ∷ 98 ∷ 2 ∷ 99 ∷ 100 ∷ []
unfolding key_bytes labels_bytes label_bytes part_bytes length_code
other_border = refl

-- a quote, a backslash and a line feed are bytes as any other
marks : key_bytes (key (codes "a") (label (codes "b") (34 ∷ 92 ∷ 10 ∷ []) ∷ [])) ≡ 1 ∷ 97 ∷ 1 ∷ 1 ∷ 98 ∷ 3 ∷ 34 ∷ 92 ∷ 10 ∷ []
unfolding key_bytes labels_bytes label_bytes part_bytes length_code
marks = refl

key_read : key_at (1 ∷ 97 ∷ 2 ∷ 1 ∷ 98 ∷ 2 ∷ 99 ∷ 100 ∷ 1 ∷ 101 ∷ 1 ∷ 102 ∷ []) ≡ key (codes "a") (label (codes "b") (codes "cd") ∷ label (codes "e") (codes "f") ∷ [])
unfolding key_at part_at labels_in packed_labels_at length_at packed_label_at
key_read = refl

same_keys : sample_key_eq (key (codes "a") (label (codes "b") (codes "1") ∷ [])) (key (codes "a") (label (codes "b") (codes "1") ∷ [])) ≡ true
same_keys = refl

other_name : sample_key_eq (key (codes "a") []) (key (codes "b") []) ≡ false
other_name = refl
