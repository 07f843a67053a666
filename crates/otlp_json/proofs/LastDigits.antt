-- Numbers in hexadecimal digits with zeros in front, from the last digit on.
use Rattle.std.proofs.Common.{◌≡◌, ℕ, zero, suc, ◌+◌, ◌-◌, ◌*◌, ◌/◌, ◌%◌, ◌^◌, ◌<◌, ◌≤◌, ◌==◌, false, List, [], ◌∷◌, ◌++◌, length, drop, set, sym, ap, ◌∙◌, refl, append_assoc, append-nil, drop_of_length-le, pow-suc, arith}
use Rattle.std.proofs.lemmas.Bool.{cond_both, eqb-true, eqb-false}
use Rattle.std.proofs.lemmas.Grind.{common_steps, drop-set_at}
use Rattle.std.specs.List.{repeat}
use Rattle.std.specs.Fmt.{digits, digits_onto, digit_glyph}
use Rattle.otlp_json.specs.Texts.{hex_text}

-- so many digits of a number, its last ones
unfoldable pub last_digits : ℕ → ℕ → List ℕ
last_digits zero n = []
last_digits (suc k) n = last_digits k (n / 16) ++ digit_glyph false (n % 16) ∷ []

-- a zero in front of zeros is a zero behind them
zero_behind : (k : ℕ) (text : List ℕ) → repeat k (48 ∷ []) ++ 48 ∷ text ≡ 48 ∷ (repeat k (48 ∷ []) ++ text)
zero_behind zero text = refl
zero_behind (suc k) text = ap (λ (l : List ℕ). 48 ∷ l) (zero_behind k text)

-- the digits of nothing
zeros : (k : ℕ) (text : List ℕ) → last_digits k 0 ++ text ≡ repeat k (48 ∷ []) ++ text
unfolding last_digits
zeros zero text = refl
zeros (suc k) text = append_assoc (last_digits k 0) (48 ∷ []) text ∙ zeros k (48 ∷ text) ∙ zero_behind k text

-- a text with zeros in front, up to so many places more than there are behind it
abbrev with_zeros : ℕ → List ℕ → List ℕ → List ℕ
with_zeros places behind text = repeat (places + length behind - length text) (48 ∷ []) ++ text

-- the first digit, and zeros in front
first_digit : (places n d : ℕ) (behind : List ℕ) → n ≡ 0 → with_zeros (suc places) behind (d ∷ behind) ≡ (last_digits places n ++ d ∷ []) ++ behind
first_digit places n d behind none =
    let left : suc places + length behind - length (d ∷ behind) ≡ places = grind (arith, common_steps) in
    ap (λ (k : ℕ). repeat k (48 ∷ []) ++ d ∷ behind) left
    ∙ sym (zeros places (d ∷ behind))
    ∙ ap (λ (m : ℕ). last_digits places m ++ d ∷ behind) (sym none)
    ∙ sym (append_assoc (last_digits places n) (d ∷ []) behind)

-- a digit that is not the first
next_digit : (places n d : ℕ) (behind text : List ℕ) → with_zeros places (d ∷ behind) text ≡ last_digits places n ++ d ∷ behind → with_zeros (suc places) behind text ≡ (last_digits places n ++ d ∷ []) ++ behind
next_digit places n d behind text rest =
    let same : suc places + length behind ≡ places + length (d ∷ behind) = grind (arith, common_steps) in
    ap (λ (k : ℕ). repeat (k - length text) (48 ∷ []) ++ text) same
    ∙ rest
    ∙ sym (append_assoc (last_digits places n) (d ∷ []) behind)

-- a number that is not 0 has a place
has_place : (places n : ℕ) → n < 16 ^ places → (n ≡ 0 → ⊥) → 0 < places
has_place zero n small some = absurd (some (omega arith))
has_place (suc k) n small some = omega arith

-- a number has one digit less without its last
shorter : (places n : ℕ) → n < 16 ^ suc places → n / 16 < 16 ^ places
shorter places n small = let e : 16 ^ suc places ≡ 16 ^ places * 16 = pow-suc 16 places in omega arith

-- digits in front of a text
digits_in_front : (most places n : ℕ) (behind : List ℕ) → 0 < places → places ≤ most → n < 16 ^ places → with_zeros places behind (digits_onto most 16 false n behind) ≡ last_digits places n ++ behind
unfolding last_digits
digits_in_front zero places n behind some fits small = absurd (omega arith)
digits_in_front (suc k) zero n behind some fits small = absurd (omega arith)
digits_in_front (suc k) (suc p) n behind some fits small =
    let d = digit_glyph false (n % 16) in
    cond_both (n / 16 == 0) (d ∷ behind) (digits_onto k 16 false (n / 16) (d ∷ behind))
    (λ (text : List ℕ). with_zeros (suc p) behind text ≡ (last_digits p (n / 16) ++ d ∷ []) ++ behind)
    (λ none. first_digit p (n / 16) d behind (eqb-true (n / 16) 0 none))
    (λ more. next_digit p (n / 16) d behind (digits_onto k 16 false (n / 16) (d ∷ behind))
    (digits_in_front k p (n / 16) (d ∷ behind) (has_place p (n / 16) (shorter p n small) (eqb-false (n / 16) 0 more)) (omega arith) (shorter p n small)))

-- a number in so many digits
pub hex_written : (places n : ℕ) → 0 < places → places ≤ 64 → n < 16 ^ places → hex_text places n ≡ last_digits places n
unfolding hex_text digits
hex_written places n some fits small =
    let text = digits_onto 64 16 false n [] in
    let same : places ≡ places + 0 = omega arith in
    ap (λ (k : ℕ). repeat (k - length text) (48 ∷ []) ++ text) same
    ∙ digits_in_front 64 places n [] some fits small
    ∙ append-nil (last_digits places n)

-- no digit stands yet
pub none_put : (ds : List ℕ) (places n : ℕ) → length ds ≡ places → last_digits (places - 0) n ++ drop (places - 0) ds ≡ last_digits places n
none_put ds places n long =
    let same : places - 0 ≡ places = omega arith in
    ap (λ (i : ℕ). last_digits i n ++ drop i ds) same
    ∙ ap (λ (l : List ℕ). last_digits places n ++ l) (drop_of_length-le ds {i = places} (omega arith))
    ∙ append-nil (last_digits places n)

-- all digits stand
pub all_put : (ds all : List ℕ) (places count n : ℕ) → places ≤ count → last_digits (places - count) n ++ drop (places - count) ds ≡ all → ds ≡ all
unfolding last_digits
all_put ds all places count n done stands =
    let none : 0 ≡ places - count = omega arith in
    ap (λ (i : ℕ). last_digits i n ++ drop i ds) none ∙ stands

-- a digit in front of those that stand
pub digit_put : (ds all : List ℕ) (places count n d : ℕ) → count < places → length ds ≡ places → d ≡ digit_glyph false (n % 16) → last_digits (places - count) n ++ drop (places - count) ds ≡ all → last_digits (places - (count + 1)) (n / 16) ++ drop (places - (count + 1)) (set ds (places - 1 - count) d) ≡ all
unfolding last_digits
digit_put ds all places count n d below long is stands =
    let k = places - (count + 1) in
    let here : suc k ≡ places - count = omega arith in
    let behind : places - 1 - count + 1 ≡ suc k = omega arith in
    ap (λ (l : List ℕ). last_digits k (n / 16) ++ l) (drop-set_at ds (places - 1 - count) k d (omega arith) (omega arith))
    ∙ ap (λ (i : ℕ). last_digits k (n / 16) ++ d ∷ drop i ds) behind
    ∙ ap (λ (g : ℕ). last_digits k (n / 16) ++ g ∷ drop (suc k) ds) is
    ∙ sym (append_assoc (last_digits k (n / 16)) (digit_glyph false (n % 16) ∷ []) (drop (suc k) ds))
    ∙ ap (λ (i : ℕ). last_digits i n ++ drop i ds) here
    ∙ stands
