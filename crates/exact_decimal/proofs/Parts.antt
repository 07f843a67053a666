-- The parts of a real as one pass finds them.
use Rattle.std.proofs.Common.{◌≡◌, ℕ, suc, ◌+◌, ◌-◌, ◌^◌, ◌<◌, ◌≤◌, min, Bool, true, false, cond, not, ◌&&◌, ◌||◌, eqb, List, [], ◌∷◌, ◌++◌, length, take, drop, Some, None, refl, sym, ap, ◌∙◌, subst, arith, append_assoc}
use Rattle.std.specs.List.{list_all, list_any, prefix_len, before_first, after_first}
use Rattle.std.specs.Char.{is_ascii_digit}
use Rattle.std.specs.Str.{bytes_eq}
use Rattle.std.specs.Str.Parse.{digits_value, digits_value_after}
use Rattle.std.proofs.Math.Numerals.{one-add, add-one}
use Rattle.std.proofs.lemmas.Bool.{and_from, and_parts, and_left, and_right, eqb-true, ne_eqb, or_from, or_parts, or_left, cond_both}
use Rattle.std.proofs.lemmas.List.{append-nil, nil_from_length, length-append}
use Rattle.std.proofs.lemmas.List.Folds.{list_all-append, list_any-append}
use Rattle.exact_decimal.specs.Tokens.{is_sign, unsigned, has_minus, is_point, is_exponent_mark, mantissa, whole_part, fraction_part, has_exponent, exponent_part, is_digits, is_real, multiplies_by, divides_by}
use Rattle.exact_decimal.specs.Scans.{AreDigits, IsRun, IsFraction, pointed, pointless, behind_point, behind_mark, is_tail, tail_text, IsCapped, IsExponent, IsScanned}
use Rattle.exact_decimal.proofs.Kept.{digit_is}
use Rattle.exact_decimal.proofs.Runs.{value_append, some_digits, no_digits}

-- ---- the tail

pub no_tail : (tail : List ℕ) → length tail ≡ 0 → IsExponent tail 0 0
unfolding is_tail tail_text multiplies_by divides_by has_minus unsigned
no_tail [] h = record { tail_is = refl; up_is = refl; down_is = refl }
no_tail (c ∷ cs) h = absurd (omega arith)

pub unmarked : (tail : List ℕ) → 0 < length tail → None ≡ behind_mark tail → is_tail tail ≡ false
unfolding is_tail behind_mark
unmarked [] some h = absurd (omega arith)
unmarked (c ∷ cs) some h = go (is_exponent_mark c) h
  where
    go : (b : Bool) → None ≡ cond b (Some cs) None → (b && is_digits (unsigned cs)) ≡ false
    go true e = absurd cc
    go false e = refl

marked : (tail behind : List ℕ) → Some behind ≡ behind_mark tail → (c : ℕ) × (tail ≡ c ∷ behind) × (is_exponent_mark c ≡ true)
unfolding behind_mark
marked [] behind h = absurd cc
marked (c ∷ cs) behind h = go (is_exponent_mark c) refl h
  where
    go : (b : Bool) → is_exponent_mark c ≡ b → Some behind ≡ cond b (Some cs) None → (x : ℕ) × (c ∷ cs ≡ x ∷ behind) × (is_exponent_mark x ≡ true)
    go true e f = let same : behind ≡ cs = cc in (c, ap (λ (xs : List ℕ). c ∷ xs) (sym same), e)
    go false e f = absurd cc

pub no_power : (tail behind : List ℕ) → Some behind ≡ behind_mark tail → is_digits (unsigned behind) ≡ false → is_tail tail ≡ false
unfolding is_tail
no_power tail behind h d = let m = marked tail behind h in ap is_tail m.1 ∙ and_right (is_exponent_mark m.0) (is_digits (unsigned behind)) d

with_power : (tail behind : List ℕ) → Some behind ≡ behind_mark tail → is_digits (unsigned behind) ≡ true → (is_tail tail ≡ true) × (tail_text tail ≡ behind)
unfolding is_tail tail_text
with_power tail behind h d = let m = marked tail behind h in (ap is_tail m.1 ∙ and_from (is_exponent_mark m.0) (is_digits (unsigned behind)) m.2 d, ap tail_text m.1)

pub power_divides : (tail behind : List ℕ) (value : ℕ) → Some behind ≡ behind_mark tail → has_minus behind ≡ true → IsCapped (unsigned behind) value → IsExponent tail 0 value
unfolding multiplies_by divides_by
power_divides tail behind value h s k =
    let t = with_power tail behind h k.digits in
    record {
      tail_is = t.0;
      up_is = rw (t.1, s) refl;
      down_is = rw (t.1, s) k.capped;
    }

pub power_multiplies : (tail behind : List ℕ) (value : ℕ) → Some behind ≡ behind_mark tail → has_minus behind ≡ false → IsCapped (unsigned behind) value → IsExponent tail value 0
unfolding multiplies_by divides_by
power_multiplies tail behind value h s k =
    let t = with_power tail behind h k.digits in
    record {
      tail_is = t.0;
      up_is = rw (t.1, s) k.capped;
      down_is = rw (t.1, s) refl;
    }

-- ---- the first place at which a test passes

module _ (p : ℕ → Bool) where
  pub before-cons : (c : ℕ) (cs : List ℕ) → before_first p (c ∷ cs) ≡ cond (p c) [] (c ∷ before_first p cs)
  before-cons c cs = elim (p c) as (λ b. take (cond (not b) (1 + prefix_len (λ x. not (p x)) cs) 0) (c ∷ cs) ≡ cond b [] (c ∷ before_first p cs)) [
    | true ↦ refl
    | false ↦ rw one-add refl
  ]

  pub after-cons : (c : ℕ) (cs : List ℕ) → after_first p (c ∷ cs) ≡ cond (p c) cs (after_first p cs)
  after-cons c cs = elim (p c) as (λ b. drop (cond (not b) (1 + prefix_len (λ x. not (p x)) cs) 0 + 1) (c ∷ cs) ≡ cond b cs (after_first p cs)) [
    | true ↦ refl
    | false ↦ rw (one-add, add-one) (rw add-one refl)
  ]

  -- none of the elements passes
  abbrev Pass_none : List ℕ → Type 0
  Pass_none cs = list_any p cs ≡ false

  before-append : (cs ds : List ℕ) → Pass_none cs → before_first p (cs ++ ds) ≡ cs ++ before_first p ds
  before-append [] ds h = refl
  before-append (c ∷ cs) ds h =
      let both = or_parts (p c) (list_any p cs) h in
      before-cons c (cs ++ ds) ∙ ap (λ b. cond b [] (c ∷ before_first p (cs ++ ds))) both.0 ∙ ap (λ (xs : List ℕ). c ∷ xs) (before-append cs ds both.1)

  after-append : (cs ds : List ℕ) → Pass_none cs → after_first p (cs ++ ds) ≡ after_first p ds
  after-append [] ds h = refl
  after-append (c ∷ cs) ds h =
      let both = or_parts (p c) (list_any p cs) h in
      after-cons c (cs ++ ds) ∙ ap (λ b. cond b (cs ++ ds) (after_first p (cs ++ ds))) both.0 ∙ after-append cs ds both.1

  any-append : (cs ds : List ℕ) → Pass_none cs → list_any p (cs ++ ds) ≡ list_any p ds
  any-append cs ds h = list_any-append p cs ds ∙ ap (λ b. b || list_any p ds) h

  -- digits fail each test that a digit fails
  digits_fail : (fails : (c : ℕ) → is_ascii_digit c ≡ true → p c ≡ false) (ds : List ℕ) → AreDigits ds → Pass_none ds
  digits_fail fails [] h = refl
  digits_fail fails (d ∷ ds) h =
      let both = and_parts (is_ascii_digit d) (list_all is_ascii_digit ds) h in
      or_from (p d) (list_any p ds) (fails d both.0) (digits_fail fails ds both.1)

no_point : (c : ℕ) → is_ascii_digit c ≡ true → is_point c ≡ false
no_point c h = let d = digit_is c h in ne_eqb c 46 (λ e. omega (arith, d.0))

no_mark : (c : ℕ) → is_ascii_digit c ≡ true → is_exponent_mark c ≡ false
no_mark c h = let d = digit_is c h in or_from (eqb c 101) (eqb c 69) (ne_eqb c 101 (λ e. omega (arith, d.1))) (ne_eqb c 69 (λ e. omega (arith, d.1)))

not_all_digits : (cs ds : List ℕ) (c : ℕ) → is_ascii_digit c ≡ false → is_digits (cs ++ c ∷ ds) ≡ false
unfolding is_digits
not_all_digits cs ds c h =
    and_right (not (bytes_eq (cs ++ c ∷ ds) [])) (list_all is_ascii_digit (cs ++ c ∷ ds))
    (list_all-append is_ascii_digit cs (c ∷ ds) ∙ and_right (list_all is_ascii_digit cs) (list_all is_ascii_digit (c ∷ ds)) (and_left (is_ascii_digit c) (list_all is_ascii_digit ds) h))

-- a token's front up to its tail, with the digits on both sides of its point
record IsFront (front whole fraction tail : List ℕ) : Type 0 where
  marks : list_any is_exponent_mark front ≡ false
  before : before_first is_point front ≡ whole
  after : after_first is_point front ≡ fraction
  -- where the mantissa goes on into the tail, it isn't digits
  more : (c : ℕ) (cs ds : List ℕ) → tail ≡ c ∷ cs → is_ascii_digit c ≡ false → is_digits (before_first is_point (front ++ c ∷ ds) ++ after_first is_point (front ++ c ∷ ds)) ≡ false

at_point : (bytes more : List ℕ) → behind_point bytes ≡ Some more → bytes ≡ 46 ∷ more
unfolding behind_point
at_point [] more h = absurd cc
at_point (c ∷ cs) more h = go (is_point c) refl h
  where
    go : (b : Bool) → is_point c ≡ b → cond b (Some cs) None ≡ Some more → c ∷ cs ≡ 46 ∷ more
    go true e f = let same : cs ≡ more = cc in let point : c ≡ 46 = eqb-true c 46 e in cc
    go false e f = absurd cc

not_at_point : (c : ℕ) (cs : List ℕ) → behind_point (c ∷ cs) ≡ None → is_point c ≡ false
unfolding behind_point
not_at_point c cs h = go (is_point c) refl h
  where
    go : (b : Bool) → is_point c ≡ b → cond b (Some cs) None ≡ None → is_point c ≡ false
    go true e f = absurd cc
    go false e f = e

pointed_front : (whole fraction tail : List ℕ) → AreDigits whole → AreDigits fraction → IsFront (whole ++ 46 ∷ fraction) whole fraction tail
pointed_front whole fraction tail w f = record {
  marks = any-append is_exponent_mark whole (46 ∷ fraction) (digits_fail is_exponent_mark no_mark whole w) ∙ digits_fail is_exponent_mark no_mark fraction f;
  before = up_to fraction ∙ append-nil whole;
  after = behind fraction;
  more = λ c cs ds e d.
      let g : whole ++ 46 ∷ (fraction ++ c ∷ ds) ≡ (whole ++ 46 ∷ fraction) ++ c ∷ ds = sym (append_assoc whole (46 ∷ fraction) (c ∷ ds)) in
      subst (λ (xs : List ℕ). is_digits (before_first is_point xs ++ after_first is_point xs) ≡ false) g
      (rw (up_to (fraction ++ c ∷ ds), behind (fraction ++ c ∷ ds)) (ap is_digits (sym (append_assoc (whole ++ []) fraction (c ∷ ds))) ∙ not_all_digits ((whole ++ []) ++ fraction) ds c d));
}
  where
    up_to : (ds : List ℕ) → before_first is_point (whole ++ 46 ∷ ds) ≡ whole ++ []
    up_to ds = before-append is_point whole (46 ∷ ds) (digits_fail is_point no_point whole w)

    behind : (ds : List ℕ) → after_first is_point (whole ++ 46 ∷ ds) ≡ ds
    behind ds = after-append is_point whole (46 ∷ ds) (digits_fail is_point no_point whole w)

pointless_front : (whole tail : List ℕ) → AreDigits whole → behind_point tail ≡ None → IsFront whole whole [] tail
pointless_front whole tail w n = record {
  marks = digits_fail is_exponent_mark no_mark whole w;
  before = ap (before_first is_point) (sym (append-nil whole)) ∙ before-append is_point whole [] none ∙ append-nil whole;
  after = ap (after_first is_point) (sym (append-nil whole)) ∙ after-append is_point whole [] none;
  more = λ c cs ds e d.
      let point : is_point c ≡ false = not_at_point c cs (ap behind_point (sym e) ∙ n) in
      let front : before_first is_point (whole ++ c ∷ ds) ≡ whole ++ c ∷ before_first is_point ds =
      before-append is_point whole (c ∷ ds) none ∙ ap (λ (xs : List ℕ). whole ++ xs) (before-cons is_point c ds ∙ ap (λ b. cond b [] (c ∷ before_first is_point ds)) point) in
      rw front (ap is_digits (append_assoc whole (c ∷ before_first is_point ds) (after_first is_point (whole ++ c ∷ ds)))
      ∙ not_all_digits whole (before_first is_point ds ++ after_first is_point (whole ++ c ∷ ds)) c d);
}
  where
    none : list_any is_point whole ≡ false
    none = digits_fail is_point no_point whole w

no_digit_first : (c : ℕ) (cs : List ℕ) → prefix_len is_ascii_digit (c ∷ cs) ≡ 0 → is_ascii_digit c ≡ false
no_digit_first c cs h = go (is_ascii_digit c) refl h
  where
    go : (b : Bool) → is_ascii_digit c ≡ b → cond b (1 + prefix_len is_ascii_digit cs) 0 ≡ 0 → is_ascii_digit c ≡ false
    go true e f = absurd (omega arith)
    go false e f = e

-- what the parts say of the token
pub record IsParted (token whole fraction tail : List ℕ) : Type 0 where
  pub real : is_real token ≡ (is_digits (whole ++ fraction) && is_tail tail)
  pub whole_is : is_tail tail ≡ true → whole ≡ whole_part token
  pub fraction_is : is_tail tail ≡ true → fraction ≡ fraction_part token
  pub exponent_is : is_tail tail ≡ true → tail_text tail ≡ exponent_part token

module _ (token front tail : List ℕ) (e : unsigned token ≡ front ++ tail) (marks : list_any is_exponent_mark front ≡ false) where
  mantissa_is : mantissa token ≡ front ++ before_first is_exponent_mark tail
  unfolding mantissa
  mantissa_is = ap (before_first is_exponent_mark) e ∙ before-append is_exponent_mark front tail marks

  has_exponent_is : has_exponent token ≡ list_any is_exponent_mark tail
  unfolding has_exponent
  has_exponent_is = ap (list_any is_exponent_mark) e ∙ any-append is_exponent_mark front tail marks

  exponent_part_is : exponent_part token ≡ after_first is_exponent_mark tail
  unfolding exponent_part
  exponent_part_is = ap (after_first is_exponent_mark) e ∙ after-append is_exponent_mark front tail marks

whole_from : (token m : List ℕ) → mantissa token ≡ m → whole_part token ≡ before_first is_point m
unfolding whole_part
whole_from token m e = ap (before_first is_point) e

fraction_from : (token m : List ℕ) → mantissa token ≡ m → fraction_part token ≡ after_first is_point m
unfolding fraction_part
fraction_from token m e = ap (after_first is_point) e

real_from : (token m x : List ℕ) (h : Bool) → mantissa token ≡ m → has_exponent token ≡ h → exponent_part token ≡ x
    → is_real token ≡ (is_digits (before_first is_point m ++ after_first is_point m) && (not h || is_digits (unsigned x)))
unfolding is_real
real_from token m x h e f g = rw (whole_from token m e, fraction_from token m e, f, g) refl

parted : (token front whole fraction tail : List ℕ) → unsigned token ≡ front ++ tail → IsFront front whole fraction tail → prefix_len is_ascii_digit tail ≡ 0 → IsParted token whole fraction tail
unfolding is_tail tail_text
parted token front whole fraction [] e f s = record {
  real = real_from token front [] false m (has_exponent_is token front [] e f.marks) x ∙ rw (f.before, f.after) refl;
  whole_is = λ t. sym (whole_from token front m ∙ f.before);
  fraction_is = λ t. sym (fraction_from token front m ∙ f.after);
  exponent_is = λ t. sym x;
}
  where
    m : mantissa token ≡ front
    m = mantissa_is token front [] e f.marks ∙ append-nil front

    x : exponent_part token ≡ []
    x = exponent_part_is token front [] e f.marks
parted token front whole fraction (c ∷ cs) e f s = go (is_exponent_mark c) refl
  where
    go : (b : Bool) → is_exponent_mark c ≡ b → IsParted token whole fraction (c ∷ cs)
    go true mark = record {
      real = real_from token front cs true m (has_exponent_is token front (c ∷ cs) e f.marks ∙ or_left (is_exponent_mark c) (list_any is_exponent_mark cs) mark) x ∙ rw (f.before, f.after, mark) refl;
      whole_is = λ t. sym (whole_from token front m ∙ f.before);
      fraction_is = λ t. sym (fraction_from token front m ∙ f.after);
      exponent_is = λ t. sym x;
    }
      where
        m : mantissa token ≡ front
        m = mantissa_is token front (c ∷ cs) e f.marks ∙ ap (λ (xs : List ℕ). front ++ xs) (before-cons is_exponent_mark c cs ∙ ap (λ b. cond b [] (c ∷ before_first is_exponent_mark cs)) mark) ∙ append-nil front

        x : exponent_part token ≡ cs
        x = exponent_part_is token front (c ∷ cs) e f.marks ∙ after-cons is_exponent_mark c cs ∙ ap (λ b. cond b cs (after_first is_exponent_mark cs)) mark
    go false mark = record {
      real = real_from token _ _ _ m refl refl ∙ and_left _ _ (f.more c cs (before_first is_exponent_mark cs) refl (no_digit_first c cs s)) ∙ sym (and_right (is_digits (whole ++ fraction)) (is_exponent_mark c && is_digits (unsigned cs)) none);
      whole_is = λ t. absurd (let h : false ≡ true = sym none ∙ t in cc);
      fraction_is = λ t. absurd (let h : false ≡ true = sym none ∙ t in cc);
      exponent_is = λ t. absurd (let h : false ≡ true = sym none ∙ t in cc);
    }
      where
        m : mantissa token ≡ front ++ c ∷ before_first is_exponent_mark cs
        m = mantissa_is token front (c ∷ cs) e f.marks ∙ ap (λ (xs : List ℕ). front ++ xs) (before-cons is_exponent_mark c cs ∙ ap (λ b. cond b [] (c ∷ before_first is_exponent_mark cs)) mark)

        none : (is_exponent_mark c && is_digits (unsigned cs)) ≡ false
        none = and_left (is_exponent_mark c) (is_digits (unsigned cs)) mark

unsigned_le : (token : List ℕ) → length (unsigned token) ≤ length token
unfolding unsigned
unsigned_le [] = omega arith
unsigned_le (c ∷ cs) = cond_both (is_sign c) cs (c ∷ cs) (λ (xs : List ℕ). length xs ≤ length (c ∷ cs)) (λ e. omega arith) (λ e. omega arith)

-- what the pass over the digits finds
pub record IsSplit (token whole fraction tail : List ℕ) (value : ℕ) : Type 0 where
  pub are_digits : AreDigits (whole ++ fraction)
  pub fits : length whole + length fraction ≤ length token
  pub exact : value < 2 ^ 64 - 1 → value ≡ digits_value 10 (whole ++ fraction)
  pub parts : IsParted token whole fraction tail

pub split : (token digits whole rest fraction tail : List ℕ) (value last : ℕ) → digits ≡ unsigned token → IsRun digits 0 whole rest value → IsFraction rest value fraction tail last → IsSplit token whole fraction tail last
split token digits whole rest fraction tail value last e w (pointed {more = more} p run) =
    let text : unsigned token ≡ (whole ++ 46 ∷ fraction) ++ tail =
    sym e ∙ w.text ∙ ap (λ (xs : List ℕ). whole ++ xs) (at_point rest more p ∙ ap (λ (xs : List ℕ). 46 ∷ xs) run.text) ∙ sym (append_assoc whole (46 ∷ fraction) tail) in
    let size : length (unsigned token) ≡ length whole + suc (length fraction) + length tail =
    ap (λ (xs : List ℕ). length xs) text ∙ length-append (whole ++ 46 ∷ fraction) tail ∙ ap (λ n. n + length tail) (length-append whole (46 ∷ fraction)) in
    record {
      fits = omega (arith, unsigned_le token);
      are_digits = list_all-append is_ascii_digit whole fraction ∙ and_from (list_all is_ascii_digit whole) (list_all is_ascii_digit fraction) w.are_digits run.are_digits;
      exact = λ h.
          let first : value ≡ digits_value 10 whole = w.exact (omega (arith, run.grows)) in
          run.exact h ∙ ap (λ n. digits_value_after 10 n fraction) first ∙ sym (value_append whole fraction 0);
      parts = parted token (whole ++ 46 ∷ fraction) whole fraction tail text (pointed_front whole fraction tail w.are_digits run.are_digits) run.stops;
    }
split token digits whole rest fraction tail value last e w (pointless n) =
    let text : unsigned token ≡ whole ++ tail = sym e ∙ w.text in
    let same : whole ++ [] ≡ whole = append-nil whole in
    let size : length (unsigned token) ≡ length whole + length tail = ap (λ (xs : List ℕ). length xs) text ∙ length-append whole tail in
    record {
      fits = omega (arith, unsigned_le token);
      are_digits = ap (list_all is_ascii_digit) same ∙ w.are_digits;
      exact = λ h. w.exact h ∙ ap (digits_value 10) (sym same);
      parts = parted token whole whole [] tail text (pointless_front whole tail w.are_digits n) w.stops;
    }

-- ---- the answers of the pass

pub not_real_empty : (token whole fraction tail : List ℕ) (value : ℕ) → IsSplit token whole fraction tail value → length whole ≡ 0 → length fraction ≡ 0 → is_real token ≡ false
not_real_empty token whole fraction tail value s w f =
    let none : whole ++ fraction ≡ [] = nil_from_length (whole ++ fraction) (omega (arith, length-append whole fraction)) in
    s.parts.real ∙ ap (λ (xs : List ℕ). is_digits xs && is_tail tail) none ∙ and_left (is_digits []) (is_tail tail) (no_digits [] refl)

pub not_real_tail : (token whole fraction tail : List ℕ) (value : ℕ) → IsSplit token whole fraction tail value → is_tail tail ≡ false → is_real token ≡ false
not_real_tail token whole fraction tail value s t = s.parts.real ∙ and_right (is_digits (whole ++ fraction)) (is_tail tail) t

pub scanned : (token whole fraction tail : List ℕ) (value up down : ℕ) (negative : Bool) → IsSplit token whole fraction tail value → negative ≡ has_minus token → 0 < length whole + length fraction → IsExponent tail up down → IsScanned token negative whole fraction value up down
scanned token whole fraction tail value up down negative s m some x =
    let t = x.tail_is in
    let exponent = s.parts.exponent_is t in
    record {
      real = s.parts.real ∙ and_from (is_digits (whole ++ fraction)) (is_tail tail) (some_digits (whole ++ fraction) (omega (arith, length-append whole fraction)) s.are_digits) t;
      sign = m;
      whole_is = s.parts.whole_is t;
      fraction_is = s.parts.fraction_is t;
      are_digits = s.are_digits;
      fits = s.fits;
      exact = s.exact;
      up_is = x.up_is ∙ ap (λ (xs : List ℕ). min (multiplies_by xs) 10000) exponent;
      down_is = x.down_is ∙ ap (λ (xs : List ℕ). min (divides_by xs) 10000) exponent;
    }

-- ---- digits alone

digits_unsigned : (ds : List ℕ) → AreDigits ds → (unsigned ds ≡ ds) × (has_minus ds ≡ false)
unfolding unsigned has_minus
digits_unsigned [] h = (refl, refl)
digits_unsigned (c ∷ cs) h =
    let both = and_parts (is_ascii_digit c) (list_all is_ascii_digit cs) h in
    let digit = digit_is c both.0 in
    let minus : eqb c 45 ≡ false = ne_eqb c 45 (λ e. omega (arith, digit.0)) in
    let sign : is_sign c ≡ false = or_from (eqb c 43) (eqb c 45) (ne_eqb c 43 (λ e. omega (arith, digit.0))) minus in
    (ap (λ b. cond b cs (c ∷ cs)) sign, minus)

at_no_point : behind_point [] ≡ None
unfolding behind_point
at_no_point = refl

-- digits alone are a real with no fraction and no exponent
pub digits_scanned : (ds : List ℕ) → AreDigits ds → 0 < length ds → IsScanned ds false ds [] (2 ^ 64 - 1) 0 0
digits_scanned ds h some =
    let plain = digits_unsigned ds h in
    scanned ds ds [] [] (2 ^ 64 - 1) 0 0 false
    (record {
      are_digits = ap (list_all is_ascii_digit) (append-nil ds) ∙ h;
      fits = omega arith;
      exact = λ e. absurd (omega arith);
      parts = parted ds ds ds [] [] (plain.0 ∙ sym (append-nil ds)) (pointless_front ds [] h at_no_point) refl;
    }) (sym plain.1) (omega arith) (no_tail [] refl)
