-- A decimal's literal is read as the decimal.
use Rattle.std.proofs.Common.{◌≡◌, ◌≢◌, ℕ, ◌+◌, ◌-◌, ◌*◌, ◌^◌, ◌<◌, ◌≤◌, Bool, true, false, inl, inr, List, [], ◌∷◌, ◌++◌, length, length-append, leb, None, Ok, refl, sym, ◌∙◌, ap, arith}
use Rattle.std.proofs.lemmas.Bool.{cases_eq, and_from, and_parts, le-leb}
use Rattle.std.proofs.lemmas.Bool.Decides.{nat_tests}
use Rattle.std.proofs.lemmas.List.{append-nil}
use Rattle.std.proofs.lemmas.Fmt.{decimal_is_IsNumeral_wide}
use Rattle.std.specs.Char.{is_ascii_digit, digit_value}
use Rattle.std.specs.Fmt.{decimal}
use Rattle.std.specs.List.{list_all, prefix_len}
use Rattle.std.specs.Str.Parse.{digits_value, digits_value_after}
use Rattle.std.specs.declared.cmp.Ordering.TheVariants.{Equal}
use Rattle.exact_decimal.specs.declared.number.Number.TheVariants.{Finite}
use Rattle.exact_decimal.specs.Decimals.{DecimalValue, IsNormal, size_beside, decimal_cmp}
use Rattle.exact_decimal.specs.Literals.{sign_text, size_text, decimal_text}
use Rattle.exact_decimal.specs.Numbers.{number_read}
use Rattle.exact_decimal.specs.Scans.{AreDigits, IsRun, pointed, pointless, behind_point, is_tail, tail_text}
use Rattle.exact_decimal.specs.Tokens.{unsigned, has_minus, is_real, is_in_limits, decimal_of, one_form, is_within, multiplies_by, divides_by, whole_part, fraction_part, exponent_part, digits_part, power_up, power_down}
use Rattle.exact_decimal.proofs.Kept.{Keeps-exists, are_digits_parts, digits_from}
use Rattle.exact_decimal.proofs.OneForm.{IsInLimits, within, within_none, no_value, one_form_normal}
use Rattle.exact_decimal.proofs.OrderLaws.{decimal_cmp_total}
use Rattle.exact_decimal.proofs.Parts.{IsSplit, split}
use Rattle.exact_decimal.proofs.Runs.{some_digits}
use Rattle.exact_decimal.proofs.Shown.{IsPointed, no_point, point, IsPower, no_power, raised, lowered, decimal_shown}
use Rattle.exact_decimal.proofs.Powers.{one_split, ten_up, times_low, times_high, times_zeros}
use Rattle.exact_decimal.proofs.Tens.{times-le, below_from_powers}
use Rattle.exact_decimal.proofs.Texts.{length-decimal_text}
use Rattle.exact_decimal.proofs.Values.{one_form_denotes, normal_once, same_size}

-- ---- the sign

-- a digit is no sign
sign_before : (negative : Bool) (c : ℕ) (cs : List ℕ) → is_ascii_digit c ≡ true → (unsigned (sign_text negative ++ (c ∷ cs)) ≡ c ∷ cs) × (has_minus (sign_text negative ++ (c ∷ cs)) ≡ negative)
unfolding unsigned has_minus sign_text
sign_before true c cs h = (refl, refl)
sign_before false c cs h = (grind (arith, nat_tests), grind (arith, nat_tests))

-- so is none in front of digits
sign_of : (negative : Bool) (ds rest : List ℕ) → AreDigits ds → 0 < length ds → (unsigned (sign_text negative ++ (ds ++ rest)) ≡ ds ++ rest) × (has_minus (sign_text negative ++ (ds ++ rest)) ≡ negative)
sign_of negative [] rest h some = absurd (omega arith)
sign_of negative (c ∷ cs) rest h some = sign_before negative c (cs ++ rest) (first c cs h)
  where
    first : (c : ℕ) (cs : List ℕ) → AreDigits (c ∷ cs) → is_ascii_digit c ≡ true
    first c cs h = (and_parts (is_ascii_digit c) (list_all is_ascii_digit cs) h).0

-- ---- the power

-- what a tail is read as
record IsTail (tail : List ℕ) (times over : ℕ) : Type 0 where
  is_one : is_tail tail ≡ true
  times_is : multiplies_by (tail_text tail) ≡ times
  over_is : divides_by (tail_text tail) ≡ over
  stops : prefix_len is_ascii_digit tail ≡ 0
  no_dot : behind_point tail ≡ None

-- the digits of a number that an exponent has
record IsExponentText (n : ℕ) (text : List ℕ) : Type 0 where
  are : AreDigits text
  some : 0 < length text
  value : digits_value 10 text ≡ n

exponent_text_of : (n : ℕ) → n < 1000 → IsExponentText n (decimal n)
exponent_text_of n small =
    let numeral = decimal_is_IsNumeral_wide n (omega arith) in
    record { are = digits_from (decimal n) numeral.0.1; some = numeral.0.0; value = numeral.1 }

-- digits have no sign in front
unsigned_digits : (ds : List ℕ) → AreDigits ds → 0 < length ds → (unsigned ds ≡ ds) × (has_minus ds ≡ false)
unfolding sign_text
unsigned_digits ds are some = let s = sign_of false ds [] are some in rw append-nil at s

-- no tail
tail_none : IsTail [] 0 0
unfolding is_tail tail_text multiplies_by divides_by behind_point has_minus unsigned
tail_none = record { is_one = refl; times_is = refl; over_is = refl; stops = refl; no_dot = refl }

-- a tail that multiplies
tail_raised : (n : ℕ) → n < 1000 → IsTail (101 ∷ decimal n) n 0
unfolding is_tail tail_text multiplies_by divides_by behind_point
tail_raised n small =
    let t = exponent_text_of n small in
    let u = unsigned_digits (decimal n) t.are t.some in
    record {
      is_one = rw u.0 (some_digits (decimal n) t.some t.are);
      times_is = rw (u.1, u.0) t.value;
      over_is = rw u.1 refl;
      stops = refl;
      no_dot = refl;
    }

-- a tail that divides
tail_lowered : (n : ℕ) → n < 1000 → IsTail (101 ∷ (45 ∷ decimal n)) 0 n
unfolding is_tail tail_text multiplies_by divides_by behind_point has_minus unsigned
tail_lowered n small =
    let t = exponent_text_of n small in
    record {
      is_one = some_digits (decimal n) t.some t.are;
      times_is = refl;
      over_is = t.value;
      stops = refl;
      no_dot = refl;
    }

-- each tail that a literal has
tail_of : (tail : List ℕ) (times over : ℕ) → IsPower tail times over → IsTail tail times over
tail_of _ _ _ no_power = tail_none
tail_of _ _ _ (raised n small) = tail_raised n small
tail_of _ _ _ (lowered n some small) = tail_lowered n small

-- ---- the parts

-- digits that go on from a value make it no smaller
after_grows : (ds : List ℕ) (n : ℕ) → n ≤ digits_value_after 10 n ds
after_grows [] n = omega arith
after_grows (c ∷ cs) n = let h : n * 10 + digit_value c ≤ digits_value_after 10 (n * 10 + digit_value c) cs = after_grows cs (n * 10 + digit_value c) in omega arith

-- a token is split
record HasSplit (token whole fraction tail : List ℕ) : Type 0 where
  value : ℕ
  parts : IsSplit token whole fraction tail value

split_of : (token whole dot fraction tail : List ℕ) (times over : ℕ) → unsigned token ≡ whole ++ (dot ++ (fraction ++ tail)) → AreDigits (whole ++ fraction) → IsPointed dot fraction → IsTail tail times over → HasSplit token whole fraction tail
unfolding behind_point
split_of token whole _ _ tail times over e are no_point t =
    let first : ℕ = digits_value_after 10 0 whole in
    let run : IsRun (whole ++ tail) 0 whole tail first = record { text = refl; are_digits = (are_digits_parts whole [] are).0; stops = t.stops; exact = λ _. refl; grows = after_grows whole 0 } in
    record { value = first; parts = split token (whole ++ tail) whole tail [] tail first first (sym e) run (pointless t.no_dot) }
split_of token whole _ _ tail times over e are (point fraction) t =
    let first : ℕ = digits_value_after 10 0 whole in
    let last : ℕ = digits_value_after 10 first fraction in
    let both = are_digits_parts whole fraction are in
    let run : IsRun (whole ++ (46 ∷ (fraction ++ tail))) 0 whole (46 ∷ (fraction ++ tail)) first = record { text = refl; are_digits = both.0; stops = refl; exact = λ _. refl; grows = after_grows whole 0 } in
    let more : IsRun (fraction ++ tail) first fraction tail last = record { text = refl; are_digits = both.1; stops = t.stops; exact = λ _. refl; grows = after_grows fraction first } in
    record { value = last; parts = split token (whole ++ (46 ∷ (fraction ++ tail))) whole (46 ∷ (fraction ++ tail)) fraction tail first last (sym e) run (pointed {more = fraction ++ tail} refl more) }

-- ---- the limits and the value

-- the digits that are shown keep the limits
shown_within : (d : DecimalValue) (ds : List ℕ) (times over behind : ℕ) → IsNormal d → AreDigits ds
    → digits_value 10 ds * 10 ^ (times + d.down) ≡ d.digits * 10 ^ (d.up + (over + behind)) → is_within ds times (over + behind) ≡ true
shown_within d ds times over behind n are e =
    let kept = Keeps-exists ds are in
    let k = kept.keeps in
    let digits : ℕ = kept.digits in
    let z : ℕ = kept.zeros in
    let p : ℕ = kept.places in
    elim (cases_eq p 0) [
      | inl none ↦ within_none ds times (over + behind) (no_value ds digits z p k none)
      | inr more ↦
          let some : 0 < p = omega arith in
          let low : 10 ^ (p - 1) ≤ digits = k.low some in
          let one : 1 ≤ 10 ^ (p - 1) = ten_up 0 (p - 1) (omega arith) in
          let value : digits * 10 ^ z * 10 ^ (times + d.down) ≡ d.digits * 10 ^ (d.up + (over + behind)) = rw k.value at e in
          let same : digits * 10 ^ (z + (times + d.down)) ≡ d.digits * 10 ^ (d.up + (over + behind)) = sym (times_zeros digits z (times + d.down)) ∙ value in
          let grown : digits ≤ digits * 10 ^ (z + (times + d.down)) = times-le digits (z + (times + d.down)) in
          let nonzero : d.digits ≢ 0 = λ (zero : d.digits ≡ 0). let none : d.digits * 10 ^ (d.up + (over + behind)) ≡ 0 * 10 ^ (d.up + (over + behind)) = ap (λ (x : ℕ). x * 10 ^ (d.up + (over + behind))) zero in omega arith in
          let parts = one_split digits d.digits (z + (times + d.down)) (d.up + (over + behind)) (k.last some) (n.last nonzero) same in
          let is_digits : digits ≡ d.digits = parts.0 in
          let powers : z + (times + d.down) ≡ d.up + (over + behind) = parts.1 in
          let few : d.digits < 10 ^ 38 = n.few in
          let high : digits < 10 ^ p = k.high in
          let places : p - 1 < 38 = below_from_powers (p - 1) 38 (omega arith) in
          let above : d.digits * 10 ^ (d.up + 400) < 10 ^ (p + (d.up + 400)) = times_high p (d.up + 400) d.digits (omega arith) in
          let least : 10 ^ d.down ≤ d.digits * 10 ^ (d.up + 400) = n.low nonzero in
          let lowest : d.down < p + (d.up + 400) = below_from_powers d.down (p + (d.up + 400)) (omega arith) in
          let under : 10 ^ (p - 1 + d.up) ≤ d.digits * 10 ^ d.up = times_low (p - 1) d.up d.digits (omega arith) in
          let most : d.digits * 10 ^ d.up < 10 ^ (309 + d.down) = n.high in
          let highest : p - 1 + d.up < 309 + d.down = below_from_powers (p - 1 + d.up) (309 + d.down) (omega arith) in
          let limits : IsInLimits z p times (over + behind) = record { few = omega arith; low = omega arith; high = omega arith } in
          within ds times (over + behind) digits z p k limits
    ]

-- the one form of what is shown is the decimal
shown_once : (d : DecimalValue) (ds : List ℕ) (times over behind : ℕ) → IsNormal d → AreDigits ds
    → digits_value 10 ds * 10 ^ (times + d.down) ≡ d.digits * 10 ^ (d.up + (over + behind)) → one_form d.negative ds times (over + behind) ≡ d
unfolding decimal_cmp
shown_once d ds times over behind n are e =
    let w : DecimalValue = record { negative = d.negative; digits = digits_value 10 ds; up = times; down = over + behind } in
    let form : DecimalValue = one_form d.negative ds times (over + behind) in
    let equal : decimal_cmp w d ≡ Equal = same_size d.negative (size_beside w d) (size_beside d w) e in
    normal_once form d (one_form_normal d.negative ds times (over + behind) are (shown_within d ds times over behind n are e)) n
    (decimal_cmp_total.congr form w d (one_form_denotes d.negative ds times (over + behind) are) ∙ equal)

-- ---- the law

-- what the parts of a token of a decimal are
record IsToken (token : List ℕ) (d : DecimalValue) : Type 0 where
  ds : List ℕ
  times : ℕ
  over : ℕ
  behind : ℕ
  real : is_real token ≡ true
  short : length token ≤ 128
  minus : has_minus token ≡ d.negative
  digits : digits_part token ≡ ds
  up : power_up token ≡ times
  down : power_down token ≡ over + behind
  are : AreDigits ds
  value : digits_value 10 ds * 10 ^ (times + d.down) ≡ d.digits * 10 ^ (d.up + (over + behind))

-- it keeps the limits
token_limits : (token : List ℕ) (d : DecimalValue) → IsNormal d → IsToken token d → is_in_limits token ≡ true
unfolding is_in_limits
token_limits token d n t =
    and_from (leb (length token) 128) _ (le-leb (length token) 128 t.short)
    (rw (t.digits, t.up, t.down) (shown_within d t.ds t.times t.over t.behind n t.are t.value))

-- it is the decimal's
token_decimal : (token : List ℕ) (d : DecimalValue) → IsNormal d → IsToken token d → decimal_of token ≡ d
unfolding decimal_of
token_decimal token d n t = rw (t.minus, t.digits, t.up, t.down) (shown_once d t.ds t.times t.over t.behind n t.are t.value)

-- the literal's parts
literal_token : (d : DecimalValue) → IsNormal d → IsToken (decimal_text d) d
unfolding decimal_text
literal_token d n =
    let s = decimal_shown d n in
    let token : List ℕ = sign_text d.negative ++ size_text (decimal d.digits) d.up d.down in
    let digits = are_digits_parts s.whole s.fraction s.are_digits in
    let signs = sign_of d.negative s.whole (s.dot ++ (s.fraction ++ s.tail)) digits.0 s.some in
    let text : token ≡ sign_text d.negative ++ (s.whole ++ (s.dot ++ (s.fraction ++ s.tail))) = ap (λ (xs : List ℕ). sign_text d.negative ++ xs) s.text in
    let t = tail_of s.tail s.times s.over s.is_power in
    let body : unsigned token ≡ s.whole ++ (s.dot ++ (s.fraction ++ s.tail)) = rw text signs.0 in
    let p = (split_of token s.whole s.dot s.fraction s.tail s.times s.over body s.are_digits s.is_pointed t).parts.parts in
    let whole : whole_part token ≡ s.whole = sym (p.whole_is t.is_one) in
    let fraction : fraction_part token ≡ s.fraction = sym (p.fraction_is t.is_one) in
    let exponent : exponent_part token ≡ tail_text s.tail = sym (p.exponent_is t.is_one) in
    let some : 0 < length (s.whole ++ s.fraction) = rw length-append (omega (arith, s.some)) in
    record {
      ds = s.whole ++ s.fraction;
      times = s.times;
      over = s.over;
      behind = length s.fraction;
      real = rw (p.real, some_digits (s.whole ++ s.fraction) some s.are_digits, t.is_one) refl;
      short = let l : length token ≤ 45 = length-decimal_text d n in omega arith;
      minus = rw text signs.1;
      digits = rw (whole, fraction) refl;
      up = rw exponent t.times_is;
      down = rw (exponent, fraction, t.over_is) refl;
      are = s.are_digits;
      value = s.value;
    }

-- a literal is read as its decimal
pub read_back : (d : DecimalValue) → IsNormal d → number_read (decimal_text d) ≡ Ok (Finite d)
unfolding number_read
read_back d n =
    let t = literal_token d n in
    rw (t.real, token_limits (decimal_text d) d n t, token_decimal (decimal_text d) d n t) refl
