-- Whole numbers behind a minus.
use Rattle.std.proofs.Common.{◌≡◌, ℕ, ◌-◌, ◌+◌, ◌^◌, ◌<◌, ◌≤◌, Bool, true, false, List, [], ◌∷◌, length, None, Ok, refl, sym, ap, ◌∙◌, arith, lit≤}
use Rattle.std.specs.Fmt.{decimal}
use Rattle.std.specs.Str.Parse.{digits_value}
use Rattle.std.proofs.lemmas.Fmt.{length-decimal-le, decimal_nonempty}
use Rattle.std.proofs.lemmas.List.{append-nil}
use Rattle.exact_decimal.specs.Decimals.{DecimalValue}
use Rattle.exact_decimal.specs.declared.number.Number.TheVariants.{Finite}
use Rattle.exact_decimal.specs.Tokens.{unsigned, has_minus}
use Rattle.exact_decimal.specs.Numbers.{number_read, number}
use Rattle.exact_decimal.specs.Scans.{AreDigits, IsRun, pointless, behind_point, IsScanned, within_limits}
use Rattle.exact_decimal.specs.WholeTokens.{whole_token}
use Rattle.exact_decimal.proofs.Parts.{split, scanned, digits_scanned, no_tail}
use Rattle.exact_decimal.proofs.Reading.{read_scanned}
use Rattle.exact_decimal.proofs.WholeNumbers.{decimal_digits, decimal_value}

unsigned_minus : (ds : List ℕ) → ds ≡ unsigned (45 ∷ ds)
unfolding unsigned
unsigned_minus ds = refl

minus_minus : (ds : List ℕ) → true ≡ has_minus (45 ∷ ds)
unfolding has_minus
minus_minus ds = refl

nothing_pointed : behind_point [] ≡ None
unfolding behind_point
nothing_pointed = refl

-- digits behind a minus are a real with no fraction and no exponent
minus_scanned : (ds : List ℕ) → AreDigits ds → 0 < length ds → IsScanned (45 ∷ ds) true ds [] (2 ^ 64 - 1) 0 0
minus_scanned ds h some =
    let run : IsRun ds 0 ds [] (2 ^ 64 - 1) = record { text = sym (append-nil ds); are_digits = h; stops = refl; exact = λ e. absurd (omega arith); grows = omega arith } in
    scanned (45 ∷ ds) ds [] [] (2 ^ 64 - 1) 0 0 true (split (45 ∷ ds) ds ds [] [] [] (2 ^ 64 - 1) (2 ^ 64 - 1) (unsigned_minus ds) run (pointless nothing_pointed)) (minus_minus ds) (omega arith) (no_tail [] refl)

whole_scanned : (negative : Bool) (n : ℕ) → n < 2 ^ 64 → IsScanned (whole_token negative n) negative (decimal n) [] (2 ^ 64 - 1) 0 0
whole_scanned true n small = minus_scanned (decimal n) (decimal_digits n small) (decimal_nonempty n small)
whole_scanned false n small = digits_scanned (decimal n) (decimal_digits n small) (decimal_nonempty n small)

token_length : (negative : Bool) (n : ℕ) → length (whole_token negative n) ≤ 1 + length (decimal n)
token_length true n = omega arith
token_length false n = omega arith

-- a decimal that is made of a sign and a whole number's digits is the number of its token
pub signed_number : (negative : Bool) (n : ℕ) (d : DecimalValue) → n < 2 ^ 64 → ((ds : List ℕ) → AreDigits ds → digits_value 10 ds ≡ n → within_limits negative ds 0 0 ≡ Ok (Finite d)) → Finite d ≡ number (whole_token negative n)
signed_number negative n d small made =
    let room : 2 ^ 64 ≤ 10 ^ 20 = lit≤ tt in
    let few = length-decimal-le 20 n (omega arith) (omega arith) small in
    let read : number_read (whole_token negative n) ≡ Ok (Finite d) =
    read_scanned (whole_token negative n) negative (decimal n) [] (2 ^ 64 - 1) 0 0 (whole_scanned negative n small) (omega (arith, token_length negative n))
    ∙ ap (λ (xs : List ℕ). within_limits negative xs 0 0) (append-nil (decimal n)) ∙ made (decimal n) (decimal_digits n small) (decimal_value n small) in
    sym (rw read refl)
