-- Number tokens and timestamps, step by step.
use Rattle.std.proofs.Common.{◌≡◌, ℕ, ◌<◌, Bool, true, false, not, ◌&&◌, List, [], ◌∷◌, length, get_or, Option, Some, None, Ok, Err, refl, subst, ◌∙◌, arith, IsUtf8, codes, inl, inr}
use Rattle.std.specs.Prelude.{take_while}
use Rattle.std.specs.List.{prefix_len}
use Rattle.std.proofs.Math.Numerals.{one-add}
use Rattle.std.proofs.lemmas.Bool.{cases_lt}
use Rattle.std.proofs.lemmas.Bool.Decides.{nat_tests}
use Rattle.std.proofs.lemmas.Grind.{common_steps}
use Rattle.std.proofs.lemmas.Str.{IsUtf8-nil, IsUtf8-drop, IsCharBoundary-before_ascii}
use Rattle.label_sets.specs.Lists.{◌>>=◌, when_true, rest_while, behind}
use Rattle.exact_decimal.specs.declared.number.Number.{Number}
use Rattle.exact_decimal.specs.declared.number.Number.TheVariants.{NotANumber}
use Rattle.exact_decimal.specs.declared.number.NumberFault.TheVariants as faults
use Rattle.exact_decimal.specs.Tokens.{is_number_token, is_real, is_infinity, is_nan_token, is_in_limits, has_minus}
use Rattle.exact_decimal.specs.Order.{is_finite}
use Rattle.exact_decimal.specs.Numbers.{number_read, number}
use Rattle.exact_decimal.proofs.Laws.{not_a_number}
use Rattle.page_model.specs.Written.{token_out_of_range}
use Rattle.page_model.specs.OpenReading.{is_not_space, value_at, stamp_at}
use Rattle.openmetrics_grammar.specs.declared.numbers.TokenRead.{TokenRead}
use Rattle.openmetrics_grammar.specs.Tokens.{token_read, token_at, written_stamp_at}

-- ---- up to a space

stop_step : (p : ℕ → Bool) (c : ℕ) (cs : List ℕ) → (prefix_len p cs < length cs → p (get_or cs (prefix_len p cs) 0) ≡ false) → (b : Bool) → p c ≡ b → prefix_len p (c ∷ cs) < length (c ∷ cs)
    → p (get_or (c ∷ cs) (prefix_len p (c ∷ cs)) 0) ≡ false
stop_step p c cs on true e h = rw (e, one-add) (on (let k = rw e at h in omega (arith, k)))
stop_step p c cs on false e h = rw e e

stops : (p : ℕ → Bool) (cs : List ℕ) → prefix_len p cs < length cs → p (get_or cs (prefix_len p cs) 0) ≡ false
stops p [] h = absurd (omega arith)
stops p (c ∷ cs) h = stop_step p c cs (stops p cs) (p c) refl h

space_small : (c : ℕ) → is_not_space c ≡ false → c < 128
space_small c e = grind (arith, nat_tests)

-- what begins with a space is no part of a character
pub utf8_from_space : (cs : List ℕ) → IsUtf8 cs → IsUtf8 (rest_while is_not_space cs)
utf8_from_space cs u = elim (cases_lt (prefix_len is_not_space cs) (length cs)) [
  | inl within ↦ IsUtf8-drop cs (prefix_len is_not_space cs) u (IsCharBoundary-before_ascii cs (prefix_len is_not_space cs) within (space_small (get_or cs (prefix_len is_not_space cs) 0) (stops is_not_space cs within)))
  | inr all ↦ (let e : rest_while is_not_space cs ≡ [] = grind (arith, common_steps) in rw e IsUtf8-nil)
]

-- ---- what tokens say

number_token_is : (t : List ℕ) → (number_read t ≡ Err faults.NotANumber → ⊥) → is_number_token t ≡ true
number_token_is t h = go (is_number_token t) refl
  where
    go : (b : Bool) → is_number_token t ≡ b → is_number_token t ≡ true
    go true e = e
    go false e = absurd (h ((not_a_number t).1 e))

pub token-in_range : (t : List ℕ) (n : Number) → number_read t ≡ Ok n → when_true (is_number_token t) (token_read t) ≡ Some (record { number = n; in_range = true })
token-in_range t n e = rw (number_token_is t (λ h. absurd cc), e) refl

pub token-out_of_range : (t : List ℕ) → number_read t ≡ Err faults.OutOfRange → when_true (is_number_token t) (token_read t) ≡ Some (record { number = NotANumber; in_range = false })
token-out_of_range t e = rw (number_token_is t (λ h. absurd cc), e) refl

pub token-none : (t : List ℕ) → number_read t ≡ Err faults.NotANumber → when_true (is_number_token t) (token_read t) ≡ None
token-none t e = rw ((not_a_number t).0 e) refl

-- a number token is a real where it is out of range or finite
pub real_is : (t : List ℕ) → is_real t ≡ (is_number_token t && not (not (token_out_of_range t) && not (is_finite (number t))))
unfolding number_read is_number_token
real_is t = real (is_real t) refl
  where
    limits : (b : Bool) → is_real t ≡ true → is_in_limits t ≡ b → is_real t ≡ (is_number_token t && not (not (token_out_of_range t) && not (is_finite (number t))))
    limits true r e = rw (r, e) refl
    limits false r e = rw (r, e) refl

    word : (a b c : Bool) → is_real t ≡ false → is_infinity t ≡ a → has_minus t ≡ b → is_nan_token t ≡ c → is_real t ≡ (is_number_token t && not (not (token_out_of_range t) && not (is_finite (number t))))
    word true true c r e f g = rw (r, e, f) refl
    word true false c r e f g = rw (r, e, f) refl
    word false b true r e f g = rw (r, e, g) refl
    word false b false r e f g = rw (r, e, g) refl

    real : (b : Bool) → is_real t ≡ b → is_real t ≡ (is_number_token t && not (not (token_out_of_range t) && not (is_finite (number t))))
    real true r = limits (is_in_limits t) r refl
    real false r = word (is_infinity t) (has_minus t) (is_nan_token t) r refl refl refl

is_said : (b : Bool) (t : List ℕ) (x : TokenRead) → Some x ≡ when_true b (token_read t) → (b ≡ true) × (x ≡ token_read t)
is_said true t x h = (refl, cc)
is_said false t x h = absurd cc

not_said : (b : Bool) (t : List ℕ) → None ≡ when_true b (token_read t) → b ≡ false
not_said true t h = absurd cc
not_said false t h = refl

pub real-no_number : (t : List ℕ) → None ≡ when_true (is_number_token t) (token_read t) → when_true (is_real t) (token_read t) ≡ None
real-no_number t h = rw (real_is t, not_said (is_number_token t) t h) refl

pub real-not_finite : (t : List ℕ) (x : TokenRead) → Some x ≡ when_true (is_number_token t) (token_read t) → (x.in_range && not (is_finite x.number)) ≡ true → when_true (is_real t) (token_read t) ≡ None
real-not_finite t x h other =
    let s = is_said (is_number_token t) t x h in
    let e : (not (token_out_of_range t) && not (is_finite (number t))) ≡ true = subst (λ (y : TokenRead). (y.in_range && not (is_finite y.number)) ≡ true) s.1 other in
    rw (real_is t, s.0, e) refl

pub real-found : (t : List ℕ) (x : TokenRead) → Some x ≡ when_true (is_number_token t) (token_read t) → (x.in_range && not (is_finite x.number)) ≡ false → when_true (is_real t) (token_read t) ≡ Some x
real-found t x h other =
    let s = is_said (is_number_token t) t x h in
    let e : (not (token_out_of_range t) && not (is_finite (number t))) ≡ false = subst (λ (y : TokenRead). (y.in_range && not (is_finite y.number)) ≡ false) s.1 other in
    rw (real_is t, s.0, e, s.1) refl

-- ---- values

pub token-behind : (cs text : List ℕ) → Some text ≡ behind (32 ∷ []) cs → token_at cs ≡ Some (take_while is_not_space text, rest_while is_not_space text)
unfolding token_at
token-behind cs text h = rw (← h) refl

pub token-nothing : (cs : List ℕ) → None ≡ behind (32 ∷ []) cs → token_at cs ≡ None
unfolding token_at
token-nothing cs h = rw (← h) refl

abbrev number_at : List ℕ × List ℕ → Option (List ℕ × List ℕ)
number_at x = when_true (is_number_token x.0) (x.0, x.1)

abbrev real_at : List ℕ × List ℕ → Option (Option (List ℕ) × List ℕ)
real_at x = when_true (is_real x.0) (Some x.0, x.1)

abbrev cut_at : List ℕ → Option (List ℕ × List ℕ)
cut_at text = Some (take_while is_not_space text, rest_while is_not_space text)

abbrev number_in : List ℕ → Option (List ℕ × List ℕ)
number_in text = number_at (take_while is_not_space text, rest_while is_not_space text)

abbrev real_in : List ℕ → Option (Option (List ℕ) × List ℕ)
real_in text = real_at (take_while is_not_space text, rest_while is_not_space text)

value_is : (cs : List ℕ) → value_at cs ≡ (token_at cs >>= number_at)
unfolding value_at token_at
value_is cs = go (behind (codes " ") cs)
  where
    go : (o : Option (List ℕ)) → (o >>= number_in) ≡ (o >>= cut_at >>= number_at)
    go None = refl
    go (Some text) = refl

pub value-no_token : (cs : List ℕ) → None ≡ token_at cs → value_at cs ≡ None
value-no_token cs h = value_is cs ∙ rw (← h) refl

module _ (cs w r : List ℕ) (h : Some (w, r) ≡ token_at cs) where
  pub value-no_number : None ≡ when_true (is_number_token w) (token_read w) → value_at cs ≡ None
  value-no_number g = value_is cs ∙ rw (← h, not_said (is_number_token w) w g) refl

  pub value-found : (x : TokenRead) → Some x ≡ when_true (is_number_token w) (token_read w) → value_at cs ≡ Some (w, r)
  value-found x g = value_is cs ∙ rw (← h, (is_said (is_number_token w) w x g).0) refl

  pub stamp-no_real : None ≡ when_true (is_real w) (token_read w) → written_stamp_at cs ≡ None
  stamp-no_real g = rw (← h, not_said (is_real w) w g) refl

  pub stamp-written : (x : TokenRead) → Some x ≡ when_true (is_real w) (token_read w) → written_stamp_at cs ≡ Some (Some w, r)
  stamp-written x g = rw (← h, (is_said (is_real w) w x g).0) refl

pub stamp-no_token : (cs : List ℕ) → None ≡ token_at cs → written_stamp_at cs ≡ None
stamp-no_token cs h = rw (← h) refl

-- what a token of a number or of a real says
pub said : (b : Bool) (t : List ℕ) (x : TokenRead) → Some x ≡ when_true b (token_read t) → x ≡ token_read t
said b t x h = (is_said b t x h).1

-- ---- timestamps

pub stamp-at_end : (cs : List ℕ) → length cs ≡ 0 → stamp_at cs ≡ Some (None, cs)
unfolding stamp_at
stamp-at_end [] h = refl
stamp-at_end (c ∷ cs) h = absurd (omega arith)

pub stamp-in_front : (cs rest : List ℕ) → Some rest ≡ behind (codes " # ") cs → stamp_at cs ≡ Some (None, cs)
unfolding stamp_at
stamp-in_front [] rest h = refl
stamp-in_front (c ∷ cs) rest h = rw (← h) refl

pub stamp-here : (cs : List ℕ) → 0 < length cs → None ≡ behind (codes " # ") cs → stamp_at cs ≡ written_stamp_at cs
unfolding stamp_at token_at
stamp-here [] some h = absurd (omega arith)
stamp-here (c ∷ cs) some h = rw (← h) (go (behind (codes " ") (c ∷ cs)))
  where
    go : (o : Option (List ℕ)) → (o >>= real_in) ≡ (o >>= cut_at >>= real_at)
    go None = refl
    go (Some text) = refl
