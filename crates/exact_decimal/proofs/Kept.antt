-- What the digits without their outer zeros are, one digit after the other.
use Rattle.std.proofs.Common.{◌≡◌, ◌≢◌, ℕ, ◌+◌, ◌-◌, ◌*◌, ◌^◌, ◌<◌, ◌≤◌, Bool, true, false, cond, leb, List, [], ◌∷◌, ◌++◌, length, take, drop, get_or, refl, sym, ap, ◌∙◌, subst, inl, inr, arith, append_assoc}
use Rattle.std.specs.List.{list_all, prefix_len}
use Rattle.std.specs.Char.{is_ascii_digit, digit_value}
use Rattle.std.specs.Str.Parse.{digits_value, AllDigits}
use Rattle.std.proofs.Math.Numerals.{one-add}
use Rattle.std.proofs.Math.Nat.{zero-mul}
use Rattle.std.proofs.lemmas.Bool.{eqb-true, leb-true, ne_eqb, eq-eqb, and_parts, and_from, cases_eq, le-leb}
use Rattle.std.proofs.lemmas.Bool.Decides.{nat_tests}
use Rattle.std.proofs.lemmas.List.{reverse-append, take-append-drop, take_more, length-drop, take-append-le, take_all, length_push, append-nil, nil_from_length}
use Rattle.std.proofs.lemmas.List.Folds.{list_all-append}
use Rattle.std.proofs.lemmas.Int.Digits.{digits_value_push}
use Rattle.exact_decimal.specs.Tokens.{is_zero_digit, without_leading_zeros, trailing_zeros, without_trailing_zeros, significant_digits}
use Rattle.exact_decimal.specs.Scans.{AreDigits, Keeps}
use Rattle.exact_decimal.proofs.Powers.{times_zeros, low_push, high_push, last_push}

-- ---- a digit

pub digit_is : (c : ℕ) → is_ascii_digit c ≡ true → (48 ≤ c) × (c ≤ 57) × (digit_value c ≡ c - 48)
digit_is c h =
    let both = and_parts (leb 48 c) (leb c 57) h in
    let low : 48 ≤ c = leb-true 48 c both.0 in
    let high : c ≤ 57 = leb-true c 57 both.1 in
    (low, high, grind (arith, nat_tests))

pub digit_from : (c : ℕ) → digit_value c < 10 → is_ascii_digit c ≡ true
digit_from c h =
    let low : 48 ≤ c = grind (arith, nat_tests) in
    let high : c ≤ 57 = grind (arith, nat_tests) in
    and_from (leb 48 c) (leb c 57) (le-leb 48 c low) (le-leb c 57 high)

-- digits in std's word are digits
pub digits_from : (ds : List ℕ) → AllDigits 10 ds → AreDigits ds
digits_from [] h = refl
digits_from (d ∷ ds) h = and_from (is_ascii_digit d) (list_all is_ascii_digit ds) (digit_from d h.0) (digits_from ds h.1)

-- ---- zeros at the front

leading-nil : without_leading_zeros [] ≡ []
unfolding without_leading_zeros
leading-nil = refl

leading-zero : (c : ℕ) (cs : List ℕ) → is_zero_digit c ≡ true → without_leading_zeros (c ∷ cs) ≡ without_leading_zeros cs
unfolding without_leading_zeros
leading-zero c cs h = rw (h, one-add) refl

leading-other : (c : ℕ) (cs : List ℕ) → is_zero_digit c ≡ false → without_leading_zeros (c ∷ cs) ≡ c ∷ cs
unfolding without_leading_zeros
leading-other c cs h = rw h refl

-- a digit behind a list that has one that isn't 0
leading-push : (ds : List ℕ) (d : ℕ) → 0 < length (without_leading_zeros ds) → without_leading_zeros (ds ++ d ∷ []) ≡ without_leading_zeros ds ++ d ∷ []
leading-push [] d h = absurd (let e : length (without_leading_zeros []) ≡ 0 = ap length leading-nil in omega arith)
leading-push (c ∷ cs) d h = go (is_zero_digit c) refl (leading-push cs d)
  where
    go : (b : Bool) → is_zero_digit c ≡ b → (0 < length (without_leading_zeros cs) → without_leading_zeros (cs ++ d ∷ []) ≡ without_leading_zeros cs ++ d ∷ []) → without_leading_zeros (c ∷ (cs ++ d ∷ [])) ≡ without_leading_zeros (c ∷ cs) ++ d ∷ []
    go true e ih =
        let same = leading-zero c cs e in
        let some : 0 < length (without_leading_zeros cs) = omega (arith, ap length same) in
        leading-zero c (cs ++ d ∷ []) e ∙ ih some ∙ ap (λ (xs : List ℕ). xs ++ d ∷ []) (sym same)
    go false e ih = leading-other c (cs ++ d ∷ []) e ∙ ap (λ (xs : List ℕ). xs ++ d ∷ []) (sym (leading-other c cs e))

-- a digit behind zeros alone
leading_zeros-push : (ds : List ℕ) (d : ℕ) → length (without_leading_zeros ds) ≡ 0 → without_leading_zeros (ds ++ d ∷ []) ≡ without_leading_zeros (d ∷ [])
leading_zeros-push [] d h = refl
leading_zeros-push (c ∷ cs) d h = go (is_zero_digit c) refl (leading_zeros-push cs d)
  where
    go : (b : Bool) → is_zero_digit c ≡ b → (length (without_leading_zeros cs) ≡ 0 → without_leading_zeros (cs ++ d ∷ []) ≡ without_leading_zeros (d ∷ [])) → without_leading_zeros (c ∷ (cs ++ d ∷ [])) ≡ without_leading_zeros (d ∷ [])
    go true e ih = leading-zero c (cs ++ d ∷ []) e ∙ ih (sym (ap length (leading-zero c cs e)) ∙ h)
    go false e ih = absurd (omega (arith, h, ap length (leading-other c cs e)))

leading_value : (ds : List ℕ) → digits_value 10 (without_leading_zeros ds) ≡ digits_value 10 ds
leading_value [] = ap (digits_value 10) leading-nil
leading_value (c ∷ cs) = go (is_zero_digit c) refl (leading_value cs)
  where
    go : (b : Bool) → is_zero_digit c ≡ b → digits_value 10 (without_leading_zeros cs) ≡ digits_value 10 cs → digits_value 10 (without_leading_zeros (c ∷ cs)) ≡ digits_value 10 (c ∷ cs)
    go true e ih =
        let zero_digit : c ≡ 48 = eqb-true c 48 e in
        ap (digits_value 10) (leading-zero c cs e) ∙ ih ∙ ap (λ n. digits_value 10 (n ∷ cs)) (sym zero_digit)
    go false e ih = ap (digits_value 10) (leading-other c cs e)

-- ---- zeros at the end

trailing-push : (ds : List ℕ) (d : ℕ) → trailing_zeros (ds ++ d ∷ []) ≡ cond (is_zero_digit d) (1 + trailing_zeros ds) 0
unfolding trailing_zeros
trailing-push ds d = ap (prefix_len is_zero_digit) (reverse-append ds (d ∷ []))

trailing-zero : (ds : List ℕ) (d : ℕ) → is_zero_digit d ≡ true → trailing_zeros (ds ++ d ∷ []) ≡ trailing_zeros ds + 1
trailing-zero ds d h = trailing-push ds d ∙ rw h (omega arith)

trailing-other : (ds : List ℕ) (d : ℕ) → is_zero_digit d ≡ false → trailing_zeros (ds ++ d ∷ []) ≡ 0
trailing-other ds d h = trailing-push ds d ∙ rw h refl

-- a zero at the end is left out
without_zero : (ds : List ℕ) (d : ℕ) → is_zero_digit d ≡ true → without_trailing_zeros (ds ++ d ∷ []) ≡ without_trailing_zeros ds
unfolding without_trailing_zeros
without_zero ds d h =
    let cut : length (ds ++ d ∷ []) - trailing_zeros (ds ++ d ∷ []) ≡ length ds - trailing_zeros ds = omega (arith, length_push ds d, trailing-zero ds d h) in
    let low : length ds - trailing_zeros ds ≤ length ds = omega arith in
    ap (λ n. take n (ds ++ d ∷ [])) cut ∙ take-append-le (length ds - trailing_zeros ds) ds (d ∷ []) low

-- where the last digit isn't 0, all are kept
with_last : (ds : List ℕ) (d : ℕ) → is_zero_digit d ≡ false → without_trailing_zeros (ds ++ d ∷ []) ≡ ds ++ d ∷ []
unfolding without_trailing_zeros
with_last ds d h = take_all (length (ds ++ d ∷ []) - trailing_zeros (ds ++ d ∷ [])) (ds ++ d ∷ []) (omega (arith, trailing-other ds d h))

-- ---- one digit more

-- digits that aren't zeros alone go on with any digit, and digits go on with any that isn't 0
leading-more : (ds : List ℕ) (c : ℕ) → is_zero_digit c ≡ false → without_leading_zeros (ds ++ c ∷ []) ≡ without_leading_zeros ds ++ c ∷ []
leading-more ds c h = elim (cases_eq (length (without_leading_zeros ds)) 0) [
  | inl e ↦ leading_zeros-push ds c e ∙ leading-other c [] h ∙ ap (λ (xs : List ℕ). xs ++ c ∷ []) (sym (nil_from_length (without_leading_zeros ds) e))
  | inr e ↦ leading-push ds c (omega arith)
]

significant_are : (ds xs : List ℕ) → without_leading_zeros ds ≡ xs → significant_digits ds ≡ without_trailing_zeros xs
unfolding significant_digits
significant_are ds xs e = ap without_trailing_zeros e

next_value : (ds : List ℕ) (c n : ℕ) → digits_value 10 ds ≡ n → digits_value 10 (ds ++ c ∷ []) ≡ n * 10 + digit_value c
next_value ds c n e = digits_value_push 10 ds c ∙ ap (λ m. m * 10 + digit_value c) e

ten_more : (n z : ℕ) → n * 10 ^ z * 10 ≡ n * 10 ^ (z + 1)
ten_more n z = times_zeros n z 1

pub Keeps-nil : Keeps [] 0 0 0
unfolding without_leading_zeros significant_digits without_trailing_zeros trailing_zeros
Keeps-nil = record {
  digits_are = refl;
  places_are = refl;
  zeros_are = λ h. refl;
  nothing = λ h. refl;
  length_is = refl;
  value = refl;
  low = λ h. absurd (omega arith);
  high = omega arith;
  last = λ h. absurd (omega arith);
}

-- a zero before any other digit
pub Keeps-leading : (ds : List ℕ) (c n z p : ℕ) → Keeps ds n z p → c ≡ 48 → p ≡ 0 → Keeps (ds ++ c ∷ []) n z p
Keeps-leading ds c n z p k d h =
    let is_zero : is_zero_digit c ≡ true = eq-eqb c 48 d in
    let none : length (without_leading_zeros ds) ≡ 0 = omega (arith, k.length_is, k.nothing h) in
    let same : without_leading_zeros (ds ++ c ∷ []) ≡ without_leading_zeros ds = leading_zeros-push ds c none ∙ leading-zero c [] is_zero ∙ leading-nil ∙ sym (nil_from_length (without_leading_zeros ds) none) in
    let kept : significant_digits (ds ++ c ∷ []) ≡ significant_digits ds = significant_are (ds ++ c ∷ []) (without_leading_zeros ds) same ∙ sym (significant_are ds (without_leading_zeros ds) refl) in
    let no_digits : n ≡ 0 = let one : 10 ^ p ≡ 1 = ap (λ x. 10 ^ x) h in omega (arith, k.high) in
    let before : digits_value 10 ds ≡ 0 = k.value ∙ ap (λ x. x * 10 ^ z) no_digits ∙ zero-mul (10 ^ z) in
    let value : digits_value 10 (ds ++ c ∷ []) ≡ 0 = next_value ds c 0 before ∙ ap (λ x. 0 * 10 + digit_value x) d in
    record {
      digits_are = k.digits_are ∙ ap (digits_value 10) (sym kept);
      places_are = k.places_are ∙ ap (λ (xs : List ℕ). length xs) (sym kept);
      zeros_are = λ some. absurd (omega arith);
      nothing = k.nothing;
      length_is = ap (λ (xs : List ℕ). length xs) same ∙ k.length_is;
      value = value ∙ sym (ap (λ x. x * 10 ^ z) no_digits ∙ zero-mul (10 ^ z));
      low = k.low;
      high = k.high;
      last = k.last;
    }

-- a zero behind one
pub Keeps-zero : (ds : List ℕ) (c n z p : ℕ) → Keeps ds n z p → c ≡ 48 → 0 < p → Keeps (ds ++ c ∷ []) n (z + 1) p
Keeps-zero ds c n z p k d h =
    let is_zero : is_zero_digit c ≡ true = eq-eqb c 48 d in
    let some : 0 < length (without_leading_zeros ds) = omega (arith, k.length_is) in
    let next : without_leading_zeros (ds ++ c ∷ []) ≡ without_leading_zeros ds ++ c ∷ [] = leading-push ds c some in
    let kept : significant_digits (ds ++ c ∷ []) ≡ significant_digits ds =
    significant_are (ds ++ c ∷ []) (without_leading_zeros ds ++ c ∷ []) next ∙ without_zero (without_leading_zeros ds) c is_zero ∙ sym (significant_are ds (without_leading_zeros ds) refl) in
    let none : digit_value c ≡ 0 = ap digit_value d in
    let value : digits_value 10 (ds ++ c ∷ []) ≡ n * 10 ^ z * 10 + digit_value c = next_value ds c (n * 10 ^ z) k.value in
    record {
      digits_are = k.digits_are ∙ ap (digits_value 10) (sym kept);
      places_are = k.places_are ∙ ap (λ (xs : List ℕ). length xs) (sym kept);
      zeros_are = λ g. ap (λ x. x + 1) (k.zeros_are h) ∙ sym (trailing-zero ds c is_zero);
      nothing = λ g. absurd (omega arith);
      length_is = omega (arith, ap (λ (xs : List ℕ). length xs) next, length_push (without_leading_zeros ds) c, k.length_is);
      value = omega (arith, value, none, ten_more n z);
      low = k.low;
      high = k.high;
      last = k.last;
    }

-- another digit
pub Keeps-other : (ds : List ℕ) (c n z p : ℕ) → Keeps ds n z p → is_ascii_digit c ≡ true → c ≢ 48 → Keeps (ds ++ c ∷ []) (n * 10 ^ (z + 1) + (c - 48)) 0 (p + z + 1)
Keeps-other ds c n z p k d h =
    let digit = digit_is c d in
    let value_is : digit_value c ≡ c - 48 = digit.2 in
    let other : is_zero_digit c ≡ false = ne_eqb c 48 h in
    let next : without_leading_zeros (ds ++ c ∷ []) ≡ without_leading_zeros ds ++ c ∷ [] = leading-more ds c other in
    let kept : significant_digits (ds ++ c ∷ []) ≡ without_leading_zeros ds ++ c ∷ [] =
    significant_are (ds ++ c ∷ []) (without_leading_zeros ds ++ c ∷ []) next ∙ with_last (without_leading_zeros ds) c other in
    let all : digits_value 10 (without_leading_zeros ds ++ c ∷ []) ≡ n * 10 ^ z * 10 + digit_value c = next_value (without_leading_zeros ds) c (n * 10 ^ z) (leading_value ds ∙ k.value) in
    let value : digits_value 10 (ds ++ c ∷ []) ≡ n * 10 ^ z * 10 + digit_value c = next_value ds c (n * 10 ^ z) k.value in
    let longer : length (without_leading_zeros ds ++ c ∷ []) ≡ p + z + 1 = omega (arith, length_push (without_leading_zeros ds) c, k.length_is) in
    let ten = ten_more n z in
    record {
      digits_are = omega (arith, all, value_is, ten, ap (digits_value 10) kept);
      places_are = sym longer ∙ ap (λ (xs : List ℕ). length xs) (sym kept);
      zeros_are = λ g. sym (trailing-other ds c other);
      nothing = λ g. refl;
      length_is = omega (arith, ap (λ (xs : List ℕ). length xs) next, longer);
      value = omega (arith, value, value_is, ten);
      low = λ g. low_push (c - 48) n z p k.low k.nothing (omega arith);
      high = high_push (c - 48) n z p k.high (omega arith);
      last = λ g. last_push (c - 48) n z (omega arith) (omega arith);
    }

-- some number of digits is kept of ds, with no fewer places than some
pub record IsKept (ds : List ℕ) (some : ℕ) : Type 0 where
  pub digits : ℕ
  pub zeros : ℕ
  pub places : ℕ
  pub grows : some ≤ places
  pub keeps : Keeps ds digits zeros places

-- any digit
Keeps-next : (ds : List ℕ) (c n z p : ℕ) → Keeps ds n z p → is_ascii_digit c ≡ true → IsKept (ds ++ c ∷ []) p
Keeps-next ds c n z p k h = elim (cases_eq c 48) [
  | inl e ↦ elim (cases_eq p 0) [
    | inl f ↦ record { digits = n; zeros = z; places = p; grows = omega arith; keeps = Keeps-leading ds c n z p k e f }
    | inr f ↦ record { digits = n; zeros = z + 1; places = p; grows = omega arith; keeps = Keeps-zero ds c n z p k e (omega arith) }
  ]
  | inr e ↦ record { digits = n * 10 ^ (z + 1) + (c - 48); zeros = 0; places = p + z + 1; grows = omega arith; keeps = Keeps-other ds c n z p k h e }
]

-- any digits, one after the other
Keeps-more : (ds cs : List ℕ) (n z p some : ℕ) → some ≤ p → Keeps ds n z p → AreDigits cs → IsKept (ds ++ cs) some
Keeps-more ds [] n z p some g k h = record { digits = n; zeros = z; places = p; grows = g; keeps = subst (λ (xs : List ℕ). Keeps xs n z p) (sym (append-nil ds)) k }
Keeps-more ds (c ∷ cs) n z p some g k h =
    let both = and_parts (is_ascii_digit c) (list_all is_ascii_digit cs) h in
    let next = Keeps-next ds c n z p k both.0 in
    subst (λ (xs : List ℕ). IsKept xs some) (append_assoc ds (c ∷ []) cs)
    (Keeps-more (ds ++ c ∷ []) cs next.digits next.zeros next.places some (omega (arith, next.grows)) next.keeps both.1)

-- of each list of digits a number is kept
pub Keeps-exists : (ds : List ℕ) → AreDigits ds → IsKept ds 0
Keeps-exists ds h = Keeps-more [] ds 0 0 0 0 (omega arith) Keeps-nil h

pub are_digits_parts : (ds cs : List ℕ) → AreDigits (ds ++ cs) → AreDigits ds × AreDigits cs
are_digits_parts ds cs h = and_parts (list_all is_ascii_digit ds) (list_all is_ascii_digit cs) (sym (list_all-append is_ascii_digit ds cs) ∙ h)

-- the front of digits has no more significant ones than the whole
pub significant_grow : (ds cs : List ℕ) → AreDigits (ds ++ cs) → length (significant_digits ds) ≤ length (significant_digits (ds ++ cs))
significant_grow ds cs h =
    let both = are_digits_parts ds cs h in
    let front = Keeps-exists ds both.0 in
    let whole = Keeps-more ds cs front.digits front.zeros front.places front.places (omega arith) front.keeps both.1 in
    omega (arith, front.keeps.places_are, whole.keeps.places_are, whole.grows)

pub are_digits_both : (ds cs : List ℕ) → AreDigits ds → AreDigits cs → AreDigits (ds ++ cs)
are_digits_both ds cs h k = list_all-append is_ascii_digit ds cs ∙ and_from (list_all is_ascii_digit ds) (list_all is_ascii_digit cs) h k

-- too many digits at a place are too many in all
pub too_many_at : (ds xs : List ℕ) (i : ℕ) → i < length xs → AreDigits ds → AreDigits xs → 38 < length (significant_digits ((ds ++ take i xs) ++ get_or xs i 0 ∷ [])) → 38 < length (significant_digits (ds ++ xs))
too_many_at ds xs i within h k many =
    let front : (ds ++ take i xs) ++ get_or xs i 0 ∷ [] ≡ ds ++ take (i + 1) xs =
    append_assoc ds (take i xs) (get_or xs i 0 ∷ []) ∙ ap (λ (ys : List ℕ). ds ++ ys) (sym (take_more xs i 0 within)) in
    let whole : (ds ++ take (i + 1) xs) ++ drop (i + 1) xs ≡ ds ++ xs = append_assoc ds (take (i + 1) xs) (drop (i + 1) xs) ∙ ap (λ (ys : List ℕ). ds ++ ys) (take-append-drop (i + 1) xs) in
    let grow = significant_grow (ds ++ take (i + 1) xs) (drop (i + 1) xs) (subst AreDigits (sym whole) (are_digits_both ds xs h k)) in
    let first : length (significant_digits ((ds ++ take i xs) ++ get_or xs i 0 ∷ [])) ≡ length (significant_digits (ds ++ take (i + 1) xs)) = ap (λ (ys : List ℕ). length (significant_digits ys)) front in
    let last : length (significant_digits ((ds ++ take (i + 1) xs) ++ drop (i + 1) xs)) ≡ length (significant_digits (ds ++ xs)) = ap (λ (ys : List ℕ). length (significant_digits ys)) whole in
    omega arith

pub leading_le : (ds : List ℕ) → length (without_leading_zeros ds) ≤ length ds
unfolding without_leading_zeros
leading_le ds = omega (arith, length-drop (prefix_len is_zero_digit ds) ds)
