-- Where the first and the last byte of a kind stand, and that words are read as they are written.
use Rattle.std.proofs.Common.{◌≡◌, ◌≢◌, ℕ, zero, suc, ◌+◌, ◌-◌, ◌^◌, ◌<◌, ◌≤◌, Bool, true, false, not, ◌&&◌, ◌||◌, List, [], ◌∷◌, length, get_or, take, drop, Option, Some, None, Result, Ok, Err, refl, sym, ap, subst, ◌∙◌, arith}
use Rattle.std.specs.Prelude.{IsUtf8, IfSome, IfNone, option_map, ◌==◌}
use Rattle.std.specs.Fmt.{decimal}
use Rattle.std.specs.List.{list_any, before_first, after_first, before_last, after_last, position_or_len, suffix_len}
use Rattle.std.specs.Str.{bytes_eq}
use Rattle.std.specs.Str.Parse.{ParsesUnsigned}
use Rattle.std.proofs.lemmas.Bool.{not-true, true≢false}
use Rattle.std.proofs.lemmas.Option.{none-some}
use Rattle.std.proofs.lemmas.Fmt.{parse-decimal, IsAscii-decimal}
use Rattle.std.proofs.lemmas.Str.{IsUtf8-from_ascii}
use Rattle.std.proofs.lemmas.List.{take_rest}
use Rattle.std.proofs.lemmas.List.Sums.{suffix_len_is, position_or_len_is}
use Rattle.std.proofs.lemmas.Slice.Eq.{bytes_eq-Decides}
use Rattle.std.proofs.Math.Bool.{or-true}
use Rattle.memchr.specs.Find.{NoneBefore, NoneAfter, Nowhere, Passes, is_byte}
use Rattle.label_sets.specs.Lists.{◌>>=◌, when_true}
use Rattle.plain_words.specs.WholeNumbers.{number_in}
use Rattle.plain_words.specs.Places.{is_visible_word, is_port, most_port, is_colon, IsHostAndPort, place_in}
use Rattle.plain_words.specs.HeadLines.{cut_first}
use Rattle.plain_words.proofs.WordLaws.{number_found, number_spelled, place_found, place_spelled}

-- ---- numbers

-- bytes that are no UTF-8 are no number's
pub no_text : (bs : List ℕ) → ¬ IsUtf8 bs → (n : ℕ) → n < 2 ^ 64 → bs ≢ decimal n
no_text bs other n small e = other (subst IsUtf8 (sym e) (IsUtf8-from_ascii (decimal n) (IsAscii-decimal n small)))

-- a text that isn't read as a number is no number's
pub unread : {E : Type 0} (bs : List ℕ) (r : Result ℕ E) (fault : E) → ParsesUnsigned 64 10 bs r → r ≡ Err fault → (most : ℕ) → most < 2 ^ 64 → (n : ℕ) → n ≤ most → bs ≢ decimal n
unread bs r fault h is most bound n small e = let ok = parse-decimal 64 n bs r (omega arith) (omega arith) e h in cc

-- the number that is read is the only one
pub read_number : {E : Type 0} (bs : List ℕ) (r : Result ℕ E) (m : ℕ) → ParsesUnsigned 64 10 bs r → r ≡ Ok m → (most : ℕ) → most < 2 ^ 64 → (n : ℕ) → n ≤ most → bs ≡ decimal n → m ≡ n
read_number bs r m h is most bound n small e = let ok = parse-decimal 64 n bs r (omega arith) (omega arith) e h in cc

-- texts that compare as different are
pub differ : (a b : List ℕ) (different : Bool) → different ≡ not (bytes_eq a b) → different ≡ true → a ≢ b
differ a b different e is same = true≢false (sym ((bytes_eq-Decides a b).1 same) ∙ not-true _ (sym e ∙ is))

-- what is written is what is read
pub number_only : (most : ℕ) (word : List ℕ) (r : Option ℕ) → most < 2 ^ 64 → IfSome r (λ n. (word ≡ decimal n) × (n ≤ most)) → IfNone r ((n : ℕ) → n ≤ most → word ≢ decimal n)
    → r ≡ number_in most word
number_only most word (Some n) small found none = sym (ap (number_in most) found.0 ∙ number_found most n found.1 (omega (arith, found.1, small)))
number_only most word None small found none = go (number_in most word) refl
  where
    go : (o : Option ℕ) → number_in most word ≡ o → None ≡ number_in most word
    go None e = sym e
    go (Some n) e = let s = number_spelled most word n e in absurd (none n s.1 s.0)

-- ---- places of bytes

-- an element that passes is one of the list
pub any_at : (p : ℕ → Bool) (xs : List ℕ) (k : ℕ) → k < length xs → p (get_or xs k 0) ≡ true → list_any p xs ≡ true
any_at p [] k inside e = absurd (omega arith)
any_at p (x ∷ xs) zero inside e = ap (λ b. b || list_any p xs) e
any_at p (x ∷ xs) (suc k) inside e = ap (λ b. p x || b) (any_at p xs k (omega (arith, inside)) e) ∙ or-true (p x)

-- where no element passes, none of the list does
pub any_none : (p : ℕ → Bool) (xs : List ℕ) → ((k : ℕ) → k < length xs → p (get_or xs k 0) ≡ false) → list_any p xs ≡ false
any_none p [] none = refl
any_none p (x ∷ xs) none = ap (λ b. b || list_any p xs) (none 0 (omega arith)) ∙ any_none p xs (λ k inside. none (suc k) (omega (arith, inside)))

-- what doesn't pass fails
fails : (b : Bool) → ¬ (b ≡ true) → b ≡ false
fails true other = absurd (other refl)
fails false other = refl

-- the parts on both sides of the first such byte
pub first_parts : (byte : ℕ) (text : List ℕ) (at : ℕ) → NoneBefore (Passes (is_byte byte) text) 0 (length text) at × Passes (is_byte byte) text at
    → cut_first byte text ≡ Some (take at text, drop (at + 1) text)
unfolding cut_first
first_parts byte text at is =
    let place : position_or_len (λ c. c == byte) text ≡ at =
    position_or_len_is (λ c. c == byte) text at 0 (omega (arith, is.0.high)) (λ k less. fails _ (is.0.before k (omega arith) less)) (λ inside. is.1) in
    let some : list_any (λ c. c == byte) text ≡ true = any_at (λ c. c == byte) text at is.0.high is.1 in
    let front : before_first (λ c. c == byte) text ≡ take at text = ap (λ k. take k text) place in
    let rest : after_first (λ c. c == byte) text ≡ drop (at + 1) text = ap (λ k. drop (k + 1) text) place in
    rw (some, front, rest) refl

-- there is no such byte
pub no_parts : (byte : ℕ) (text : List ℕ) → Nowhere (Passes (is_byte byte) text) 0 (length text) → cut_first byte text ≡ None
unfolding cut_first
no_parts byte text none =
    let no : list_any (λ c. c == byte) text ≡ false = any_none (λ c. c == byte) text (λ k inside. fails _ (none k (omega arith) inside)) in
    rw no refl

-- ---- places of hosts

-- the last colon parts a place
pub parted_at : (most : ℕ) (word : List ℕ) (colon : ℕ) → NoneAfter (Passes (is_byte 58) word) 0 (length word) colon × Passes (is_byte 58) word colon
    → place_in most word ≡ (number_in most_port (drop (colon + 1) word) >>= λ port. when_true (is_visible_word most (take colon word) && is_port port) (take colon word, port))
unfolding place_in
parted_at most word colon is =
    let suffix : suffix_len (λ c. not (is_colon c)) word ≡ length word - (colon + 1) =
    suffix_len_is (λ c. not (is_colon c)) word (colon + 1) 0 (omega (arith, is.0.high))
    (λ k low high. ap not (fails _ (is.0.after k low high)))
    (λ some. let here : colon + 1 - 1 ≡ colon = omega arith in ap (λ k. not (is_colon (get_or word k 0))) here ∙ ap not is.1) in
    let some : list_any is_colon word ≡ true = any_at is_colon word colon is.0.high is.1 in
    let before : length word - suffix_len (λ c. not (is_colon c)) word - 1 ≡ colon = omega (arith, suffix, is.0.high) in
    let behind : length word - suffix_len (λ c. not (is_colon c)) word ≡ colon + 1 = omega (arith, suffix, is.0.high) in
    let host : before_last is_colon word ≡ take colon word = ap (λ k. take k word) before in
    let rest : after_last is_colon word ≡ drop (colon + 1) word = ap (λ k. drop k word) behind in
    rw (some, host, rest) refl

-- the same, where the number behind the colon is known
pub parted_with : (most : ℕ) (word : List ℕ) (colon : ℕ) (read : Option ℕ) → NoneAfter (Passes (is_byte 58) word) 0 (length word) colon × Passes (is_byte 58) word colon
    → read ≡ number_in most_port (take (length word - (colon + 1)) (drop (colon + 1) word))
    → place_in most word ≡ (read >>= λ port. when_true (is_visible_word most (take colon word) && is_port port) (take colon word, port))
parted_with most word colon read is number =
    parted_at most word colon is ∙ ap (λ o. o >>= λ port. when_true (is_visible_word most (take colon word) && is_port port) (take colon word, port))
    (sym (number ∙ ap (number_in most_port) (take_rest word (colon + 1))))

-- a word without a colon is no place
pub no_place : (most : ℕ) (word : List ℕ) → Nowhere (Passes (is_byte 58) word) 0 (length word) → place_in most word ≡ None
unfolding place_in
no_place most word none =
    let no : list_any is_colon word ≡ false = any_none is_colon word (λ k inside. fails _ (none k (omega arith) inside)) in
    rw no refl

-- what is read as a place is one
pub place_is : {A : Type 0} (host : A → List ℕ) (port : A → ℕ) (most : ℕ) (word : List ℕ) (r : Option A) → option_map (λ p. (host p, port p)) r ≡ place_in most word → IfSome r (λ p. IsHostAndPort most word (host p) (port p))
place_is host port most word (Some p) e = let s = place_spelled most word (host p, port p) (sym e) in record { spelled = s.0; host_word = s.1; port_number = s.2 }
place_is host port most word None e = tt

-- what isn't read as a place is none
pub is_no_place : {A : Type 0} (host : A → List ℕ) (port : A → ℕ) (most : ℕ) (word : List ℕ) (r : Option A) → option_map (λ p. (host p, port p)) r ≡ place_in most word
    → IfNone r ((h : List ℕ) (n : ℕ) → ¬ IsHostAndPort most word h n)
is_no_place host port most word (Some p) e = tt
is_no_place host port most word None e = λ h n is. none-some (h, n) (e ∙ ap (place_in most) is.spelled ∙ place_found most h n is.host_word is.port_number)
