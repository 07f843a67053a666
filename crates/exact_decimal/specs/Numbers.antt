-- Numbers as they are read from tokens.
-- OpenMetrics 1.0, "Numbers" and "NaN": infinities and NaN beside reals. That negative zero is zero, and the limits,
-- are the bridge's own.
use Rattle.std.specs.Prelude.{ℕ, Bool, true, false, List, Result, Ok, Err, if◌then◌else◌}
use Rattle.std.specs.Fmt.{decimal}
use Rattle.exact_decimal.specs.declared.number.Number.{Number}
use Rattle.exact_decimal.specs.declared.number.Number.TheVariants.{Finite, Up, Down, NotANumber}
use Rattle.exact_decimal.specs.declared.number.NumberFault.{NumberFault}
use Rattle.exact_decimal.specs.declared.number.NumberFault.TheVariants as faults
use Rattle.exact_decimal.specs.Tokens.{is_real, is_infinity, is_nan_token, has_minus, is_in_limits, decimal_of, one_form}

-- what a token of bytes is read as
unfoldable pub number_read : List ℕ → Result Number NumberFault
number_read token =
    if is_real token then (if is_in_limits token then Ok (Finite (decimal_of token)) else Err faults.OutOfRange) else
    (if is_infinity token then Ok (if has_minus token then Down else Up) else
    (if is_nan_token token then Ok NotANumber else Err faults.NotANumber))

-- a whole number as a number
unfoldable pub number_of : ℕ → Number
number_of n = Finite (one_form false (decimal n) 0 0)

-- the number of a token that is read; a token that isn't reads as not a number
abbrev pub number_or_nan : Result Number NumberFault → Number
number_or_nan (Ok n) = n
number_or_nan (Err e) = NotANumber

-- the number of a token
abbrev pub number : List ℕ → Number
number token = number_or_nan (number_read token)

-- the token is of the grammar and breaks a limit
abbrev pub is_out_of_range : Result Number NumberFault → Bool
is_out_of_range (Ok n) = false
is_out_of_range (Err faults.OutOfRange) = true
is_out_of_range (Err faults.NotANumber) = false
