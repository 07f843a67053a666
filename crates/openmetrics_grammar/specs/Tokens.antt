-- Number tokens and timestamps of a line, and what they say.
-- OpenMetrics 1.0, "ABNF" (number, timestamp). That a token out of range says NaN is the bridge's own; its line is refused.
use Rattle.std.specs.Prelude.{◌≡◌, ℕ, Bool, not, ◌&&◌, List, codes, Option, Some, option_map, take_while, IsUtf8}
use Rattle.label_sets.specs.Lists.{◌>>=◌, when_true, rest_while, behind, some_passes}
use Rattle.exact_decimal.specs.Order.{is_finite}
use Rattle.exact_decimal.specs.Tokens.{is_real}
use Rattle.exact_decimal.specs.Numbers.{number}
use Rattle.page_model.specs.Written.{token_out_of_range}
use Rattle.page_model.specs.OpenReading.{is_not_space, value_at}
use Rattle.openmetrics_grammar.specs.declared.numbers.TokenRead.{TokenRead}
use Rattle.openmetrics_grammar.specs.declared.numbers.ValueAt.{ValueAt}
use Rattle.openmetrics_grammar.specs.declared.numbers.StampAt.{StampAt}

-- an infinity or NaN
abbrev pub is_no_real : TokenRead → Bool
is_no_real read = read.in_range && not (is_finite read.number)

-- what a token says
abbrev pub token_read : List ℕ → TokenRead
token_read token = record { number = number token; in_range = not (token_out_of_range token) }

-- what stands between a space and the next, and what from there on
unfoldable pub token_at : List ℕ → Option (List ℕ × List ℕ)
token_at cs = behind (codes " ") cs >>= λ text. Some (take_while is_not_space text, rest_while is_not_space text)

-- a space and seconds, and what stands behind them
abbrev pub written_stamp_at : List ℕ → Option (Option (List ℕ) × List ℕ)
written_stamp_at cs = token_at cs >>= λ x. when_true (is_real x.0) (Some x.0, x.1)

-- this number is at the front of bytes, and this stands behind it
pub record IsValueAt (bytes : List ℕ) (v : ValueAt) : Type 0 where
  pub token : List ℕ
  pub found : value_at bytes ≡ Some (token, v.rest.now)
  pub value : v.value ≡ number token
  pub in_range : v.in_range ≡ not (token_out_of_range token)
  pub utf8_rest : IsUtf8 bytes → IsUtf8 v.rest.now

-- this timestamp, or none, was found at the front of bytes, and this stands behind it
pub record IsStampAt (found : Option (Option (List ℕ) × List ℕ)) (bytes : List ℕ) (s : StampAt) : Type 0 where
  pub token : Option (List ℕ)
  pub found_is : found ≡ Some (token, s.rest.now)
  pub stamp : s.stamp ≡ option_map number token
  pub in_range : s.in_range ≡ not (some_passes token_out_of_range token)
  pub utf8_rest : IsUtf8 bytes → IsUtf8 s.rest.now
