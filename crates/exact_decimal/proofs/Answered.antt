-- What is read, and which faults come when.
use Rattle.std.proofs.Common.{◌≡◌, ℕ, ◌+◌, ◌-◌, ◌^◌, ◌<◌, ◌≤◌, Bool, true, false, cond, not, ◌||◌, leb, ◌↔◌, List, [], length, Result, Ok, Err, refl, ap, ◌∙◌, subst, inl, inr, arith, lit≤}
use Rattle.std.specs.Fmt.{decimal}
use Rattle.std.specs.List.{list_all}
use Rattle.std.specs.Char.{is_ascii_digit}
use Rattle.std.specs.Str.{bytes_eq}
use Rattle.std.proofs.lemmas.Bool.{and_parts, cases_eq}
use Rattle.std.proofs.lemmas.Fmt.{length-decimal-le, decimal_nonempty}
use Rattle.std.proofs.lemmas.List.{append-nil}
use Rattle.exact_decimal.specs.declared.number.Number.{Number}
use Rattle.exact_decimal.specs.declared.number.Number.TheVariants.{Finite, Up, Down, NotANumber}
use Rattle.exact_decimal.specs.declared.number.NumberFault.{NumberFault}
use Rattle.exact_decimal.specs.declared.number.NumberFault.TheVariants as faults
use Rattle.exact_decimal.specs.Decimals.{DecimalValue, IsNormal, SameValue}
use Rattle.exact_decimal.specs.Tokens.{has_minus, digits_part, has_exponent, exponent_part, unsigned, is_digits, is_real, is_infinity, is_nan_token, is_number_token, power_up, power_down, one_form, is_within, decimal_of, is_in_limits, written_decimal}
use Rattle.exact_decimal.specs.Numbers.{number_read, number_of}
use Rattle.exact_decimal.specs.Scans.{AreDigits, within_limits}
use Rattle.exact_decimal.proofs.Kept.{Keeps-exists, leading_le}
use Rattle.exact_decimal.proofs.Parts.{digits_scanned}
use Rattle.exact_decimal.proofs.Reading.{read_scanned}
use Rattle.exact_decimal.proofs.OneForm.{one_form_normal, within, within_none, no_value}
use Rattle.exact_decimal.proofs.Values.{one_form_denotes}
use Rattle.exact_decimal.proofs.WholeNumbers.{decimal_digits, decimal_value}

-- ---- the four answers, by the four tests

-- what is read where a token is a real, within the limits, an infinity, and NaN
abbrev answer : Bool → Bool → Bool → Bool → Bool → DecimalValue → Result Number NumberFault
answer real limits infinity nan minus d =
    cond real (cond limits (Ok (Finite d)) (Err faults.OutOfRange)) (cond infinity (Ok (cond minus Down Up)) (cond nan (Ok NotANumber) (Err faults.NotANumber)))

no_number : (r l i n m : Bool) (d : DecimalValue) → (answer r l i n m d ≡ Err faults.NotANumber) ↔ ((r || i || n) ≡ false)
no_number true true i n m d = (λ h. absurd cc, λ h. absurd cc)
no_number true false i n m d = (λ h. absurd cc, λ h. absurd cc)
no_number false l true n true d = (λ h. absurd cc, λ h. absurd cc)
no_number false l true n false d = (λ h. absurd cc, λ h. absurd cc)
no_number false l false true m d = (λ h. absurd cc, λ h. absurd cc)
no_number false l false false m d = (λ h. refl, λ h. refl)

no_limits : (r l i n m : Bool) (d : DecimalValue) → (answer r l i n m d ≡ Err faults.OutOfRange) ↔ ((r ≡ true) × (l ≡ false))
no_limits true true i n m d = (λ h. absurd cc, λ h. absurd (let e : true ≡ false = h.1 in cc))
no_limits true false i n m d = (λ h. (refl, refl), λ h. refl)
no_limits false l true n true d = (λ h. absurd cc, λ h. absurd (let e : false ≡ true = h.0 in cc))
no_limits false l true n false d = (λ h. absurd cc, λ h. absurd (let e : false ≡ true = h.0 in cc))
no_limits false l false true m d = (λ h. absurd cc, λ h. absurd (let e : false ≡ true = h.0 in cc))
no_limits false l false false m d = (λ h. absurd cc, λ h. absurd (let e : false ≡ true = h.0 in cc))

finite_when : (r l i n m : Bool) (d e : DecimalValue) → answer r l i n m d ≡ Ok (Finite e) → (r ≡ true) × (l ≡ true) × (d ≡ e)
finite_when true true i n m d e h = (refl, refl, cc)
finite_when true false i n m d e h = absurd cc
finite_when false l true n true d e h = absurd cc
finite_when false l true n false d e h = absurd cc
finite_when false l false true m d e h = absurd cc
finite_when false l false false m d e h = absurd cc

-- ---- the laws

pub not_a_number : (token : List ℕ) → (number_read token ≡ Err faults.NotANumber) ↔ (is_number_token token ≡ false)
unfolding number_read is_number_token
not_a_number token = no_number (is_real token) (is_in_limits token) (is_infinity token) (is_nan_token token) (has_minus token) (decimal_of token)

pub out_of_range : (token : List ℕ) → (number_read token ≡ Err faults.OutOfRange) ↔ ((is_real token ≡ true) × (is_in_limits token ≡ false))
unfolding number_read
out_of_range token = no_limits (is_real token) (is_in_limits token) (is_infinity token) (is_nan_token token) (has_minus token) (decimal_of token)

read_finite : (token : List ℕ) (d : DecimalValue) → number_read token ≡ Ok (Finite d) → (is_real token ≡ true) × (is_in_limits token ≡ true) × (decimal_of token ≡ d)
unfolding number_read
read_finite token d h = finite_when (is_real token) (is_in_limits token) (is_infinity token) (is_nan_token token) (has_minus token) (decimal_of token) d h

real_digits : (token : List ℕ) → is_real token ≡ true → AreDigits (digits_part token)
unfolding is_real is_digits
real_digits token h =
    let both = and_parts (is_digits (digits_part token)) (not (has_exponent token) || is_digits (unsigned (exponent_part token))) h in
    (and_parts (not (bytes_eq (digits_part token) [])) (list_all is_ascii_digit (digits_part token)) both.0).1

pub read_value : (token : List ℕ) (d : DecimalValue) → number_read token ≡ Ok (Finite d) → SameValue d (written_decimal token)
unfolding decimal_of written_decimal
read_value token d h =
    let r = read_finite token d h in
    subst (λ x. SameValue x (written_decimal token)) r.2 (one_form_denotes (has_minus token) (digits_part token) (power_up token) (power_down token) (real_digits token r.0))

pub read_form : (token : List ℕ) (d : DecimalValue) → number_read token ≡ Ok (Finite d) → IsNormal d
unfolding decimal_of is_in_limits
read_form token d h =
    let r = read_finite token d h in
    let both = and_parts (leb (length token) 128) (is_within (digits_part token) (power_up token) (power_down token)) r.1 in
    subst IsNormal r.2 (one_form_normal (has_minus token) (digits_part token) (power_up token) (power_down token) (real_digits token r.0) both.1)

-- a whole number is within the limits
whole_within : (n : ℕ) → n < 2 ^ 64 → is_within (decimal n) 0 0 ≡ true
whole_within n small =
    let kept = Keeps-exists (decimal n) (decimal_digits n small) in
    let k = kept.keeps in
    let room : 2 ^ 64 ≤ 10 ^ 20 = lit≤ tt in
    let few = length-decimal-le 20 n (omega arith) (omega arith) small in
    let size : kept.places + kept.zeros ≤ 20 = omega (arith, k.length_is, leading_le (decimal n)) in
    elim (cases_eq kept.places 0) [
      | inl none ↦ within_none (decimal n) 0 0 (no_value (decimal n) kept.digits kept.zeros kept.places k none)
      | inr some ↦ within (decimal n) 0 0 kept.digits kept.zeros kept.places k (record { few = omega arith; low = omega arith; high = omega arith })
    ]

pub whole_value : (n : ℕ) → n < 2 ^ 64 → (d : DecimalValue) × (number_of n ≡ Finite d) × IsNormal d × SameValue d (record { negative = false; digits = n; up = 0; down = 0 })
unfolding number_of
whole_value n small =
    let digits = decimal_digits n small in (
      one_form false (decimal n) 0 0,
      refl,
      one_form_normal false (decimal n) 0 0 digits (whole_within n small),
      subst (λ x. SameValue (one_form false (decimal n) 0 0) (record { negative = false; digits = x; up = 0; down = 0 })) (decimal_value n small) (one_form_denotes false (decimal n) 0 0 digits),
    )

pub whole_digits : (n : ℕ) → n < 2 ^ 64 → number_read (decimal n) ≡ Ok (number_of n)
unfolding within_limits number_of
whole_digits n small =
    let ds = decimal n in
    let room : 2 ^ 64 ≤ 10 ^ 20 = lit≤ tt in
    let few = length-decimal-le 20 n (omega arith) (omega arith) small in
    read_scanned ds false ds [] (2 ^ 64 - 1) 0 0 (digits_scanned ds (decimal_digits n small) (decimal_nonempty n small)) (omega arith)
    ∙ ap (λ (xs : List ℕ). within_limits false xs 0 0) (append-nil ds) ∙ rw (whole_within n small) refl
