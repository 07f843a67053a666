-- Numbers and places: what is read is what is written.
use Rattle.std.proofs.Common.{◌≡◌, ◌≢◌, ℕ, zero, suc, ◌+◌, ◌-◌, ◌^◌, ◌<◌, ◌≤◌, Bool, true, false, not, ◌&&◌, ◌||◌, List, [], ◌∷◌, ◌++◌, length, get_or, take, drop, Option, Some, refl, sym, ap, subst, ◌∙◌, arith, length-append, bytes_eq, codes, nat_le}
use Rattle.std.specs.Fmt.{decimal}
use Rattle.std.specs.Int.{is_in_range}
use Rattle.std.specs.Str.{IsAscii}
use Rattle.std.specs.List.{list_all, list_any, before_last, after_last, suffix_len}
use Rattle.std.specs.Str.Parse.{digits_value}
use Rattle.std.proofs.lemmas.Bool.{eqb-true, eq-eqb, ne_eqb, and_parts, leb-true, le-leb, true≢false, or_parts}
use Rattle.std.proofs.lemmas.Fmt.{decimal_is_IsNumeral}
use Rattle.std.proofs.lemmas.Str.Parse.{digit_at}
use Rattle.std.proofs.lemmas.List.{get_or-append-add, get_or_at, take_at, drop_at, drop-drop}
use Rattle.std.proofs.lemmas.List.Sums.{suffix_len_is}
use Rattle.std.proofs.lemmas.List.Folds.{list_any-append}
use Rattle.std.proofs.lemmas.Slice.Eq.{bytes_eq-Decides}
use Rattle.std.proofs.Math.Bool.{or-true}
use Rattle.label_sets.specs.Lists.{◌>>=◌, when_true}
use Rattle.plain_words.specs.WholeNumbers.{number_in}
use Rattle.plain_words.specs.Places.{is_visible, is_visible_word, is_port, most_port, is_colon, place_in}
use Rattle.plain_words.proofs.Steps.{bind_some, when_some, or_first}

-- the number of a printed number
pub number_found : (most n : ℕ) → n ≤ most → n < 2 ^ 64 → number_in most (decimal n) ≡ Some n
unfolding number_in
number_found most n few small =
    let value : digits_value 10 (decimal n) ≡ n = (decimal_is_IsNumeral n small).1 in
    let same : bytes_eq (decimal n) (decimal n) ≡ true = (bytes_eq-Decides (decimal n) (decimal n)).1 refl in
    let less : nat_le n most ≡ true = le-leb n most few in
    rw (value, same, less) refl

-- a word with a number is that number printed
pub number_spelled : (most : ℕ) (word : List ℕ) (n : ℕ) → number_in most word ≡ Some n → (word ≡ decimal n) × (n ≤ most)
unfolding number_in
number_spelled most word n e =
    let value = digits_value 10 word in
    let both = when_some (bytes_eq (decimal value) word && nat_le value most) value n e in
    let parts = and_parts (bytes_eq (decimal value) word) (nat_le value most) both.0 in
    (sym ((bytes_eq-Decides (decimal value) word).0 parts.0) ∙ ap decimal both.1, subst (λ k. k ≤ most) both.1 (leb-true value most parts.1))

-- ---- the last colon of a place

-- no colon stands in a text
abbrev HasNoColon : List ℕ → Type 0
HasNoColon cs = (k : ℕ) → k < length cs → get_or cs k 0 ≢ 58

-- a decimal number holds no colon
decimal_colon : (n : ℕ) → n < 2 ^ 64 → HasNoColon (decimal n)
decimal_colon n small k inside colon = let digit = digit_at (decimal n) k (decimal_is_IsNumeral n small).0.1 inside in omega (arith, digit.0, digit.1)

-- behind the last colon stands none
behind_colon : (host rest : List ℕ) (i : ℕ) → HasNoColon rest → length host < i → i < length (host ++ 58 ∷ rest) → get_or (host ++ 58 ∷ rest) i 0 ≢ 58
behind_colon host rest i none behind inside is =
    let k = i - length host - 1 in
    let at : i ≡ length host + suc k = omega arith in
    let same : get_or (host ++ 58 ∷ rest) i 0 ≡ get_or rest k 0 =
    ap (λ j. get_or (host ++ 58 ∷ rest) j 0) at ∙ get_or-append-add host (58 ∷ rest) (suc k) 0 in
    none k (omega (arith, length-append host (58 ∷ rest))) (sym same ∙ is)

-- how much stands behind the last colon
rest_length : (host rest : List ℕ) → HasNoColon rest → suffix_len (λ c. not (is_colon c)) (host ++ 58 ∷ rest) ≡ length (host ++ 58 ∷ rest) - (length host + 1)
rest_length host rest none = suffix_len_is (λ c. not (is_colon c)) (host ++ 58 ∷ rest) (length host + 1) 0
    (omega (arith, length-append host (58 ∷ rest)))
    (λ k low high. ap not (ne_eqb (get_or (host ++ 58 ∷ rest) k 0) 58 (behind_colon host rest k none (omega arith) high)))
    (λ some. let at : length host + 1 - 1 ≡ length host = omega arith in
    ap (λ k. not (is_colon (get_or (host ++ 58 ∷ rest) k 0))) at ∙ ap (λ c. not (is_colon c)) (get_or_at host 58 rest 0 (length host) refl))

-- what stands behind the last colon
rest_behind : (host rest : List ℕ) → HasNoColon rest → after_last is_colon (host ++ 58 ∷ rest) ≡ rest
rest_behind host rest none =
    let text = host ++ 58 ∷ rest in
    let len = length-append host (58 ∷ rest) in
    let at : length text - suffix_len (λ c. not (is_colon c)) text ≡ length host + 1 = omega (arith, rest_length host rest none, len) in
    ap (λ k. drop k text) at ∙ sym (drop-drop 1 (length host) text) ∙ ap (drop 1) (drop_at host (58 ∷ rest) (length host) refl)

-- what stands before the last colon
host_before : (host rest : List ℕ) → HasNoColon rest → before_last is_colon (host ++ 58 ∷ rest) ≡ host
host_before host rest none =
    let text = host ++ 58 ∷ rest in
    let len = length-append host (58 ∷ rest) in
    let at : length text - suffix_len (λ c. not (is_colon c)) text - 1 ≡ length host = omega (arith, rest_length host rest none, len) in
    ap (λ k. take k text) at ∙ take_at host (58 ∷ rest) (length host) refl

-- a place has a colon
has_colon : (host rest : List ℕ) → list_any is_colon (host ++ 58 ∷ rest) ≡ true
has_colon host rest = list_any-append is_colon host (58 ∷ rest) ∙ or-true (list_any is_colon host)

-- a text without a colon
no_colon : (cs : List ℕ) → list_any is_colon cs ≡ false → HasNoColon cs
no_colon [] none k inside is = omega arith
no_colon (c ∷ cs) none zero inside is = true≢false (sym (ap (λ b. b || list_any is_colon cs) (eq-eqb c 58 is)) ∙ none)
no_colon (c ∷ cs) none (suc k) inside is = no_colon cs (or_parts (is_colon c) (list_any is_colon cs) none).1 k (omega arith) is

-- a text with a colon has a last one
last_colon : (cs : List ℕ) → list_any is_colon cs ≡ true → (host rest : List ℕ) × (cs ≡ host ++ 58 ∷ rest) × HasNoColon rest
last_colon [] some = absurd (true≢false (sym some))
last_colon (c ∷ cs) some = go (list_any is_colon cs) refl (last_colon cs)
  where
    go : (b : Bool) → list_any is_colon cs ≡ b → (list_any is_colon cs ≡ true → (host rest : List ℕ) × (cs ≡ host ++ 58 ∷ rest) × HasNoColon rest)
        → (host rest : List ℕ) × (c ∷ cs ≡ host ++ 58 ∷ rest) × HasNoColon rest
    go true e more = let found = more e in (c ∷ found.0, found.1, ap (λ t. c ∷ t) found.2, found.3)
    go false e more = ([], cs, ap (λ d. d ∷ cs) (eqb-true c 58 (or_first (is_colon c) (list_any is_colon cs) some e)), no_colon cs e)

-- a number in a range is between its ends
pub in_range : (low high n : ℕ) → is_in_range low high n ≡ true → (low ≤ n) × (n ≤ high)
in_range low high n e = let both = and_parts (nat_le low n) (nat_le n high) e in (leb-true low n both.0, leb-true n high both.1)

-- a port is a small number
pub port_small : (port : ℕ) → is_port port ≡ true → port < 2 ^ 64
port_small port e = let both = in_range 1 65535 port e in omega (arith, both.1)

-- visible words are ASCII
visible_ascii : (word : List ℕ) → list_all is_visible word ≡ true → IsAscii word
visible_ascii [] e i = omega arith
visible_ascii (c ∷ word) e zero = (let h = and_parts (is_visible c) (list_all is_visible word) e in let r = and_parts (nat_le 0x21 c) (nat_le c 0x7E) h.0 in omega (arith, leb-true c 0x7E r.1))
visible_ascii (c ∷ word) e (suc i) = visible_ascii word (and_parts (is_visible c) (list_all is_visible word) e).1 i

-- the parts of a visible word
pub word_parts : (most : ℕ) (word : List ℕ) → is_visible_word most word ≡ true → (1 ≤ length word) × (length word ≤ most) × IsAscii word
word_parts most word e =
    let a = and_parts (nat_le 1 (length word) && nat_le (length word) most) (list_all is_visible word) e in
    let b = and_parts (nat_le 1 (length word)) (nat_le (length word) most) a.0 in
    (leb-true 1 (length word) b.0, leb-true (length word) most b.1, visible_ascii word a.1)

-- the host and the port of a place
pub place_found : (most : ℕ) (host : List ℕ) (port : ℕ) → is_visible_word most host ≡ true → is_port port ≡ true → place_in most (host ++ (codes ":" ++ decimal port)) ≡ Some (host, port)
unfolding place_in
place_found most host port word right =
    let none = decimal_colon port (port_small port right) in
    rw (has_colon host (decimal port), rest_behind host (decimal port) none, number_found most_port port (in_range 1 most_port port right).1 (port_small port right), host_before host (decimal port) none, word, right) refl

-- what stands on both sides of the last colon
around_last : (text : List ℕ) → list_any is_colon text ≡ true → text ≡ before_last is_colon text ++ 58 ∷ after_last is_colon text
around_last text some =
    let found = last_colon text some in
    found.2 ∙ sym (ap (λ t. before_last is_colon t ++ 58 ∷ after_last is_colon t) found.2
    ∙ ap (λ h. h ++ 58 ∷ after_last is_colon (found.0 ++ 58 ∷ found.1)) (host_before found.0 found.1 found.3) ∙ ap (λ r. found.0 ++ 58 ∷ r) (rest_behind found.0 found.1 found.3))

-- a text that is read as a place is that place
pub place_spelled : (most : ℕ) (text : List ℕ) (found : List ℕ × ℕ) → place_in most text ≡ Some found
    → (text ≡ found.0 ++ (codes ":" ++ decimal found.1)) × (is_visible_word most found.0 ≡ true) × (is_port found.1 ≡ true)
unfolding place_in
place_spelled most text found e =
    let host = before_last is_colon text in
    let made : ℕ → Option (List ℕ × ℕ) = λ port. when_true (is_visible_word most host && is_port port) (host, port) in
    let a = bind_some (when_true (list_any is_colon text) text) (λ _. number_in most_port (after_last is_colon text) >>= made) found e in
    let b = bind_some (number_in most_port (after_last is_colon text)) made found a.2 in
    let c = when_some (is_visible_word most host && is_port b.0) (host, b.0) found b.2 in
    let colon = (when_some (list_any is_colon text) text a.0 a.1).0 in
    let parts = and_parts (is_visible_word most host) (is_port b.0) c.0 in
    let spelled : text ≡ host ++ (codes ":" ++ decimal b.0) = around_last text colon ∙ ap (λ ds. host ++ 58 ∷ ds) ((number_spelled most_port (after_last is_colon text) b.0 b.1).0) in
    subst (λ (f : List ℕ × ℕ). (text ≡ f.0 ++ (codes ":" ++ decimal f.1)) × (is_visible_word most f.0 ≡ true) × (is_port f.1 ≡ true)) c.1 (spelled, parts.0, parts.1)
