-- Which characters a number token has.
use Rattle.std.proofs.Common.{◌≡◌, ℕ, ◌≤◌, Bool, true, false, cond, not, ◌&&◌, ◌||◌, leb, eqb, List, [], ◌∷◌, map, refl, sym, ap, ◌∙◌, subst, inl, inr, arith, codes}
use Rattle.std.specs.List.{list_all, list_any, before_first, after_first}
use Rattle.std.specs.Char.{is_ascii_digit, is_ascii_alphabetic, to_ascii_lowercase}
use Rattle.std.specs.Str.{bytes_eq, str_to_ascii_lowercase}
use Rattle.std.specs.Cmp.Lexicographic.{bytes_decides}
use Rattle.std.proofs.lemmas.Bool.{and_from, and_parts, or_left, or_right, or_cases, or_parts, not-true, eqb-true, leb-true, le-leb, lt-ltb, le-ltb, cases_lt}
use Rattle.std.proofs.lemmas.List.Folds.{list_all-append, list_all-map}
use Rattle.exact_decimal.specs.Tokens.{is_sign, unsigned, is_point, is_exponent_mark, mantissa, whole_part, fraction_part, digits_part, has_exponent, exponent_part, is_digits, is_real, is_infinity, is_nan_token, is_number_token, is_token_char}
use Rattle.exact_decimal.proofs.Parts.{before-cons, after-cons}

-- what a letter in lower case is
is_small : ℕ → Bool
is_small c = leb 97 c && leb c 122

pub all_mono : (p q : ℕ → Bool) → ((c : ℕ) → p c ≡ true → q c ≡ true) → (cs : List ℕ) → list_all p cs ≡ true → list_all q cs ≡ true
all_mono p q f [] h = refl
all_mono p q f (c ∷ cs) h = let both = and_parts (p c) (list_all p cs) h in and_from (q c) (list_all q cs) (f c both.0) (all_mono p q f cs both.1)

-- what passes on both sides of a first element, and at each element like it, passes everywhere
all_round : (p q : ℕ → Bool) → ((c : ℕ) → p c ≡ true → q c ≡ true) → (cs : List ℕ) → list_all q (before_first p cs) ≡ true → list_all q (after_first p cs) ≡ true → list_all q cs ≡ true
all_round p q f [] b a = refl
all_round p q f (c ∷ cs) b a = go (p c) refl (all_round p q f cs)
  where
    go : (r : Bool) → p c ≡ r → (list_all q (before_first p cs) ≡ true → list_all q (after_first p cs) ≡ true → list_all q cs ≡ true) → list_all q (c ∷ cs) ≡ true
    go true e ih = and_from (q c) (list_all q cs) (f c e) (ap (list_all q) (sym (after-cons p c cs ∙ ap (λ r. cond r cs (after_first p cs)) e)) ∙ a)
    go false e ih =
        let front = ap (list_all q) (sym (before-cons p c cs ∙ ap (λ r. cond r [] (c ∷ before_first p cs)) e)) ∙ b in
        let both = and_parts (q c) (list_all q (before_first p cs)) front in
        and_from (q c) (list_all q cs) both.0 (ih both.1 (ap (list_all q) (sym (after-cons p c cs ∙ ap (λ r. cond r cs (after_first p cs)) e)) ∙ a))

-- behind a mark that isn't there stands nothing
nothing_behind : (p : ℕ → Bool) (cs : List ℕ) → list_any p cs ≡ false → after_first p cs ≡ []
nothing_behind p [] h = refl
nothing_behind p (c ∷ cs) h =
    let both = or_parts (p c) (list_any p cs) h in
    after-cons p c cs ∙ ap (λ r. cond r cs (after_first p cs)) both.0 ∙ nothing_behind p cs both.1

-- ---- characters

pub from_digit : (c : ℕ) → is_ascii_digit c ≡ true → is_token_char c ≡ true
from_digit c e = or_left (is_ascii_digit c || is_sign c || is_point c) (is_ascii_alphabetic c) (or_left (is_ascii_digit c || is_sign c) (is_point c) (or_left (is_ascii_digit c) (is_sign c) e))

pub from_sign : (c : ℕ) → is_sign c ≡ true → is_token_char c ≡ true
from_sign c e = or_left (is_ascii_digit c || is_sign c || is_point c) (is_ascii_alphabetic c) (or_left (is_ascii_digit c || is_sign c) (is_point c) (or_right (is_ascii_digit c) (is_sign c) e))

from_point : (c : ℕ) → is_point c ≡ true → is_token_char c ≡ true
from_point c e = or_left (is_ascii_digit c || is_sign c || is_point c) (is_ascii_alphabetic c) (or_right (is_ascii_digit c || is_sign c) (is_point c) e)

from_letter : (c : ℕ) → is_ascii_alphabetic c ≡ true → is_token_char c ≡ true
from_letter c e = or_right (is_ascii_digit c || is_sign c || is_point c) (is_ascii_alphabetic c) e

from_mark : (c : ℕ) → is_exponent_mark c ≡ true → is_token_char c ≡ true
from_mark c e = elim (or_cases (eqb c 101) (eqb c 69) e) [
  | inl h ↦ subst (λ x. is_token_char x ≡ true) (sym (eqb-true c 101 h)) refl
  | inr h ↦ subst (λ x. is_token_char x ≡ true) (sym (eqb-true c 69 h)) refl
]

upper : (c : ℕ) → 65 ≤ c → c ≤ 90 → is_ascii_alphabetic c ≡ true
upper c low high = or_left (leb 65 c && leb c 90) (leb 97 c && leb c 122) (and_from (leb 65 c) (leb c 90) (le-leb 65 c low) (le-leb c 90 high))

lower : (c : ℕ) → 97 ≤ c → c ≤ 122 → is_ascii_alphabetic c ≡ true
lower c low high = or_right (leb 65 c && leb c 90) (leb 97 c && leb c 122) (and_from (leb 97 c) (leb c 122) (le-leb 97 c low) (le-leb c 122 high))

small_range : (c : ℕ) → is_small c ≡ true → (97 ≤ c) × (c ≤ 122)
unfolding is_small
small_range c e = let both = and_parts (leb 97 c) (leb c 122) e in (leb-true 97 c both.0, leb-true c 122 both.1)

from_small : (c : ℕ) → is_small (to_ascii_lowercase c) ≡ true → is_token_char c ≡ true
from_small c e =
    let range = small_range (to_ascii_lowercase c) e in
    elim (cases_lt c 65) [
      | inl below ↦ let same : to_ascii_lowercase c ≡ c = rw (lt-ltb c 65 below) refl in absurd (omega arith)
      | inr above ↦ elim (cases_lt c 91) [
        | inl big ↦ from_letter c (upper c above (omega arith))
        | inr other ↦ let same : to_ascii_lowercase c ≡ c = rw (le-ltb c 65 above, le-ltb c 91 other) refl in from_letter c (lower c (omega arith) (omega arith))
      ]
    ]

-- ---- tokens

digits_pass : (cs : List ℕ) → is_digits cs ≡ true → list_all is_token_char cs ≡ true
unfolding is_digits
digits_pass cs h = all_mono is_ascii_digit is_token_char from_digit cs (and_parts (not (bytes_eq cs [])) (list_all is_ascii_digit cs) h).1

-- a sign may stand in front
sign_passes : (cs : List ℕ) → list_all is_token_char (unsigned cs) ≡ true → list_all is_token_char cs ≡ true
unfolding unsigned
sign_passes [] h = refl
sign_passes (c ∷ cs) h = go (is_sign c) refl h
  where
    go : (b : Bool) → is_sign c ≡ b → list_all is_token_char (cond b cs (c ∷ cs)) ≡ true → list_all is_token_char (c ∷ cs) ≡ true
    go true e k = and_from (is_token_char c) (list_all is_token_char cs) (from_sign c e) k
    go false e k = k

pub real_passes : (token : List ℕ) → is_real token ≡ true → list_all is_token_char token ≡ true
unfolding is_real whole_part fraction_part mantissa has_exponent exponent_part
real_passes token h =
    let both = and_parts (is_digits (digits_part token)) (not (has_exponent token) || is_digits (unsigned (exponent_part token))) h in
    let parts = and_parts (list_all is_token_char (whole_part token)) (list_all is_token_char (fraction_part token)) (sym (list_all-append is_token_char (whole_part token) (fraction_part token)) ∙ digits_pass (digits_part token) both.0) in
    let front : list_all is_token_char (mantissa token) ≡ true = all_round is_point is_token_char from_point (mantissa token) parts.0 parts.1 in
    let behind : list_all is_token_char (exponent_part token) ≡ true = elim (or_cases (not (has_exponent token)) (is_digits (unsigned (exponent_part token))) both.1) [
      | inl k ↦ ap (list_all is_token_char) (nothing_behind is_exponent_mark (unsigned token) (not-true (has_exponent token) k))
      | inr k ↦ sign_passes (exponent_part token) (digits_pass (unsigned (exponent_part token)) k)
    ] in
    sign_passes token (all_round is_exponent_mark is_token_char from_mark (unsigned token) front behind)

-- a word in any case of letters
word_passes : (cs word : List ℕ) → list_all is_small word ≡ true → bytes_eq (str_to_ascii_lowercase cs) word ≡ true → list_all is_token_char cs ≡ true
word_passes cs word letters h =
    let same : map to_ascii_lowercase cs ≡ word = (bytes_decides (str_to_ascii_lowercase cs) word).0 h in
    all_mono (λ c. is_small (to_ascii_lowercase c)) is_token_char from_small cs (sym (list_all-map is_small to_ascii_lowercase cs) ∙ ap (list_all is_small) same ∙ letters)

pub token_passes : (token : List ℕ) → is_number_token token ≡ true → list_all is_token_char token ≡ true
unfolding is_number_token is_infinity is_nan_token is_small
token_passes token h = elim (or_cases (is_real token || is_infinity token) (is_nan_token token) h) [
  | inl k ↦ elim (or_cases (is_real token) (is_infinity token) k) [
    | inl m ↦ real_passes token m
    | inr m ↦ sign_passes token (elim (or_cases (bytes_eq (str_to_ascii_lowercase (unsigned token)) (codes "inf")) (bytes_eq (str_to_ascii_lowercase (unsigned token)) (codes "infinity")) m) [
      | inl n ↦ word_passes (unsigned token) (codes "inf") refl n
      | inr n ↦ word_passes (unsigned token) (codes "infinity") refl n
    ])
  ]
  | inr k ↦ word_passes token (codes "nan") refl k
]
