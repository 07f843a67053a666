-- Packed keys and sets put into a table.
use Rattle.std.proofs.Common.{◌≡◌, ℕ, zero, suc, ◌+◌, ◌<◌, Bool, true, false, not, ◌||◌, List, [], ◌∷◌, ◌++◌, length, map, drop, get_or, refl, sym, ap, ◌∙◌, subst, arith, add-one, drop-cons, Bor}
use Rattle.std.specs.Prelude.{IsUtf8, Result, Ok, Err, IfOk, OnErr, MatchOption, Option, Some, None, slice_get, is_none, unwrap_or, option_map, if◌then◌else◌}
use Rattle.std.specs.List.{list_any, All, AllByRecursion}
use Rattle.std.specs.Option.{option_eq, option_copied}
use Rattle.std.specs.Str.{bytes_eq}
use Rattle.std.specs.Cmp.Lexicographic.{bytes_decides}
use Rattle.std.proofs.lemmas.List.{map-append, length-map, get_or-map}
use Rattle.std.proofs.lemmas.List.Elements.{All-push, recursion_from_All}
use Rattle.std.proofs.lemmas.Option.{slice_get-map, slice_get-get_or}
use Rattle.label_sets.specs.declared.label.Label.{Label}
use Rattle.label_sets.specs.Labels.{label_sets_eq}
use Rattle.byte_table.proofs.Laws.{among, place_new}
use Rattle.packed_keys.specs.declared.sample_key.SampleKey.{SampleKey}
use Rattle.packed_keys.specs.Packing.{labels_bytes, labels_in, key_bytes, key_at, sample_key_eq, part_at, with_set}
use Rattle.packed_keys.specs.Texts.{IsTextSet, IsTextKey, IsPackedSet, IsPackedKey}
use Rattle.packed_keys.proofs.Packed.{part_back, key_back, set_back, same_key, same_set}

-- the string is put in, or stands there already
abbrev pub Put : (old new : List (List ℕ)) (string : List ℕ) → Option ℕ → Type 0
Put old new string found =
    MatchOption found (list_any (bytes_eq string) old ≡ false) (λ at. slice_get old at ≡ Some string)
    × MatchOption found (new ≡ old ++ string ∷ []) (λ at. new ≡ old)

-- what was packed in a room that was emptied
pub in_room : (slice room cleared bytes : List ℕ) → slice ≡ room → room ≡ cleared ++ bytes → cleared ≡ [] → slice ≡ bytes
in_room slice room cleared bytes is added none = is ∙ (added ∙ ap (λ (l : List ℕ). l ++ bytes) none)

-- what was packed is put in
pub put_packed : (old new : List (List ℕ)) (slice bytes : List ℕ) (found : Option ℕ) → slice ≡ bytes → Put old new slice found → Put old new bytes found
put_packed old new slice bytes found e put = subst (λ (s : List ℕ). Put old new s found) e put

-- what holds of each string holds still
pub still : (P : List ℕ → Type 0) (old new : List (List ℕ)) (string : List ℕ) (found : Option ℕ) → All P old → P string → Put old new string found → All P new
still P old new string None is own put = subst (All P) (sym put.1) (All-push P old string is own)
still P old new string (Some at) is own put = subst (All P) (sym put.1) is

-- and so it does whether or not there was memory
pub still_any : {E : Type 0} (P : List ℕ → Type 0) (old new : List (List ℕ)) (string : List ℕ) (r : Result (Option ℕ) E) → All P old → P string
    → IfOk r (λ found. MatchOption found (list_any (bytes_eq string) old ≡ false) (λ at. slice_get old at ≡ Some string)) → IfOk r (λ found. MatchOption found (new ≡ old ++ string ∷ []) (λ at. new ≡ old)) → OnErr r (new ≡ old) → All P new
still_any P old new string (Ok found) is own at added same = still P old new string found is own (at, added)
still_any P old new string (Err e) is own at added same = subst (All P) (sym same) is

-- the string that was read, as the answer
pub name_at : {E : Type 0} (strings : List (List ℕ)) (at : ℕ) (string : List ℕ) (r : Result (List ℕ) E) → at < length strings → string ≡ get_or strings at [] → IfOk r (λ name. name ≡ string) → IfOk r (λ name. slice_get strings at ≡ Some name)
name_at strings at string (Ok name) lt e is = slice_get-get_or strings at [] lt ∙ ap Some (sym e ∙ sym is)
name_at strings at string (Err e) lt f is = tt

-- ---- keys

-- the bytes of a key of texts
pub key_packed : (key : SampleKey) → IsTextKey key → IsPackedKey (key_bytes key)
key_packed key text = record { packed = ap key_bytes (key_back key); text = subst IsTextKey (sym (key_back key)) text }

-- a key was seen just where its bytes were
same_seen : (key : SampleKey) (strings : List (List ℕ)) → AllByRecursion IsPackedKey strings → list_any (bytes_eq (key_bytes key)) strings ≡ list_any (sample_key_eq key) (map key_at strings)
same_seen key [] h = refl
same_seen key (s ∷ ss) h = rw (same_key key s h.0.packed) (ap (λ (b : Bool). sample_key_eq key (key_at s) || b) (same_seen key ss h.1))

-- it is new just where no earlier key is equal
pub is_new : (old new : List (List ℕ)) (key : SampleKey) (found : Option ℕ) → All IsPackedKey old → Put old new (key_bytes key) found → is_none found ≡ not (list_any (sample_key_eq key) (map key_at old))
is_new old new key None is put = ap not (sym put.0 ∙ same_seen key old (recursion_from_All IsPackedKey old is))
is_new old new key (Some at) is put = ap not (sym (among old (key_bytes key) at put.0) ∙ same_seen key old (recursion_from_All IsPackedKey old is))

-- the keys with it, where it is new
pub keys_are : (old new : List (List ℕ)) (key : SampleKey) (found : Option ℕ) → Put old new (key_bytes key) found → map key_at new ≡ (if is_none found then map key_at old ++ key ∷ [] else map key_at old)
keys_are old new key None put = ap (map key_at) put.1 ∙ (map-append key_at old (key_bytes key ∷ []) ∙ ap (λ (k : SampleKey). map key_at old ++ k ∷ []) (key_back key))
keys_are old new key (Some at) put = ap (map key_at) put.1

-- the labels of a packed key are packed behind its name
pub labels_packed : (string : List ℕ) → IsPackedKey string → IsPackedSet (part_at string).1
unfolding key_at key_bytes
labels_packed string is =
    let key = key_at string in
    let behind : (part_at string).1 ≡ labels_bytes (labels_in (part_at string).1) = ap (λ (bs : List ℕ). (part_at bs).1) (sym is.packed) ∙ ap (λ (p : List ℕ × List ℕ). p.1) (part_back (part_at string).0 (labels_bytes (labels_in (part_at string).1))) in
    record { packed = sym behind; text = is.text.labels }

-- its name is a text
pub name_text : (string : List ℕ) → IsPackedKey string → IsUtf8 (part_at string).0
unfolding key_at
name_text string is = is.text.name

-- name and labels that were read make up the key
pub key_read : (string : List ℕ) (key : SampleKey) → key.name ≡ (part_at string).0 → key.labels ≡ labels_in (part_at string).1 → key ≡ key_at string
unfolding key_at
key_read string key n l = λ i. record { name = n i; labels = l i }

-- the next key, and those behind it
pub next_key : (strings : List (List ℕ)) (at : ℕ) (key : SampleKey) → at < length strings → key ≡ key_at (get_or strings at []) → drop at (map key_at strings) ≡ key ∷ drop (at + 1) (map key_at strings)
next_key strings at key lt e =
    let long : length (map key_at strings) ≡ length strings = length-map strings key_at in
    let within : at < length (map key_at strings) = omega arith in
    let here : get_or (map key_at strings) at key ≡ key = get_or-map key_at strings at [] key lt ∙ sym e in
    rw add-one (drop-cons (map key_at strings) at key within ∙ ap (λ (k : SampleKey). k ∷ drop (suc at) (map key_at strings)) here)

-- ---- sets

-- the bytes of a set of texts
pub set_packed : (ls : List Label) → IsTextSet ls → IsPackedSet (labels_bytes ls)
set_packed ls text = record { packed = ap labels_bytes (set_back ls); text = subst IsTextSet (sym (set_back ls)) text }

same_sets : (ls : List Label) (strings : List (List ℕ)) → AllByRecursion IsPackedSet strings → list_any (bytes_eq (labels_bytes ls)) strings ≡ list_any (label_sets_eq ls) (map labels_in strings)
same_sets ls [] h = refl
same_sets ls (s ∷ ss) h = rw (same_set ls s h.0.packed) (ap (λ (b : Bool). label_sets_eq ls (labels_in s) || b) (same_sets ls ss h.1))

-- a set stands where its bytes do
pub set_at : (strings : List (List ℕ)) (string : List ℕ) (at : ℕ) → slice_get strings at ≡ Some string → slice_get (map labels_in strings) at ≡ Some (labels_in string)
set_at strings string at e = slice_get-map labels_in strings at ∙ ap (option_map labels_in) e

-- the place of the answer
pub set_placed : (old new : List (List ℕ)) (string : List ℕ) (found : Option ℕ) (count : ℕ) → count ≡ length old → Put old new string found → slice_get (map labels_in new) (unwrap_or found count) ≡ Some (labels_in string)
set_placed old new string None count k put = set_at new string count (rw (put.1, k) (place_new old string))
set_placed old new string (Some at) count k put = set_at new string at (rw put.1 put.0)

-- the sets with it, where it is new
pub sets_are : (old new : List (List ℕ)) (string : List ℕ) (found : Option ℕ) → All IsPackedSet old → IsPackedSet string → Put old new string found
    → map labels_in new ≡ with_set (map labels_in old) (labels_in string)
sets_are old new string found is own put =
    by found put (ap (λ (s : List ℕ). list_any (bytes_eq s) old) (sym own.packed) ∙ same_sets (labels_in string) old (recursion_from_All IsPackedSet old is))
  where
    by : (o : Option ℕ) → Put old new string o → list_any (bytes_eq string) old ≡ list_any (label_sets_eq (labels_in string)) (map labels_in old) → map labels_in new ≡ with_set (map labels_in old) (labels_in string)
    by None put same = rw (sym same ∙ put.0) (ap (map labels_in) put.1 ∙ map-append labels_in old (string ∷ []))
    by (Some at) put same = rw (sym same ∙ among old string at put.0) (ap (map labels_in) put.1)

read_equal : (read : Option (Bor (List ℕ))) (string : Bor (List ℕ)) → option_eq (λ (a b : Bor (List ℕ)). bytes_eq a.now b.now) read (Some string) ≡ true → option_copied read ≡ Some string.now
read_equal None string e = absurd cc
read_equal (Some read) string e = ap Some ((bytes_decides read.now string.now).0 e)

-- nothing is put in where what was read is found equal
pub stays_there : (old : List (List ℕ)) (at : ℕ) (read : Option (Bor (List ℕ))) (string : Bor (List ℕ)) → All IsPackedSet old → IsPackedSet string.now → option_copied read ≡ slice_get old at
    → option_eq (λ (a b : Bor (List ℕ)). bytes_eq a.now b.now) read (Some string) ≡ true
    → (slice_get (map labels_in old) at ≡ Some (labels_in string.now)) × (map labels_in old ≡ with_set (map labels_in old) (labels_in string.now))
stays_there old at read string is own got same =
    let there : slice_get old at ≡ Some string.now = sym got ∙ read_equal read string same in
    (set_at old string.now at there, sets_are old old string.now (Some at) is own (there, refl))

-- the key at a place, by its bytes
pub key_here : (strings : List (List ℕ)) (at : ℕ) (key : SampleKey) → slice_get (map key_at strings) at ≡ Some key → key_at (get_or strings at []) ≡ key
key_here [] at key e = absurd (let no : None ≡ Some key = e in cc)
key_here (b ∷ bs) zero key e = let is : Some (key_at b) ≡ Some key = e in let same : key_at b ≡ key = cc in same
key_here (b ∷ bs) (suc i) key e = key_here bs i key e

-- and its labels
pub labels_here : (bytes : List ℕ) (key : SampleKey) → key_at bytes ≡ key → labels_in (part_at bytes).1 ≡ key.labels
unfolding key_at
labels_here bytes key is = ap (λ (k : SampleKey). k.labels) is
