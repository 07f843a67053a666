-- Which parts of a UTF-8 text are UTF-8.
use Rattle.std.proofs.Common.{◌≡◌, ℕ, suc, ◌+◌, ◌-◌, ◌<◌, ◌≤◌, Bool, true, false, List, [], ◌∷◌, ◌++◌, length, take, drop, get_or, append_assoc, Option, Some, None, refl, sym, ap, subst, ◌∙◌, arith, IsUtf8, inl, inr}
use Rattle.std.proofs.lemmas.Bool.{and_parts, cases_lt, cases_eq}
use Rattle.std.proofs.lemmas.Bool.Decides.{nat_tests}
use Rattle.std.proofs.lemmas.Grind.{common_steps}
use Rattle.std.proofs.Math.Numerals.{one-add}
use Rattle.std.proofs.lemmas.List.{append-nil, length-take}
use Rattle.line_scan.specs.declared.quoted.Escapes.{Escapes}
use Rattle.line_scan.specs.declared.quoted.Escapes.TheVariants.{Help, Quoted}
use Rattle.line_scan.specs.Marks.{escape_of}
use Rattle.line_scan.proofs.Quotes.{other_byte}
use Rattle.label_sets.specs.Names.{is_blank}
use Rattle.label_sets.specs.Escapes.{help_escape, quote_escape, unescaped, is_backslash}
use Rattle.std.proofs.lemmas.Str.{IsUtf8-append, IsUtf8-nil, IsUtf8-encode, IsUtf8-past_char, IsUtf8-take, IsUtf8-drop, IsCharBoundary-after_ascii, IsCharBoundary-before_ascii, encode_ascii, inside_one, len_utf8_bounds, length-encode}
use lib.Utf8.{scalar, scalars, encode, encodes, low_scalar}
use Rattle.std.specs.List.{prefix_len}
use Rattle.label_sets.specs.Lists.{rest_while}

-- behind an ASCII character
pub utf8_tail : (c : ℕ) (cs : List ℕ) → c < 128 → IsUtf8 (c ∷ cs) → IsUtf8 cs
utf8_tail c cs small u = IsUtf8-past_char (c ∷ cs) cs c u (rw (encode_ascii c small) refl)

pub utf8_cons : (c : ℕ) (cs : List ℕ) → c < 128 → IsUtf8 cs → IsUtf8 (c ∷ cs)
utf8_cons c cs small u = IsUtf8-append (c ∷ []) cs (subst IsUtf8 (encode_ascii c small) (IsUtf8-encode c (low_scalar c (omega arith)))) u

utf8_chars : (cs rest : List ℕ) → scalars cs ≡ true → IsUtf8 (encodes cs ++ rest) → IsUtf8 rest
utf8_chars [] rest h u = u
utf8_chars (c ∷ cs) rest h u =
    let p = and_parts (scalar c) (scalars cs) h in
    utf8_chars cs rest p.1 (IsUtf8-past_char (encodes (c ∷ cs) ++ rest) (encodes cs ++ rest) c u (append_assoc (encode c) (encodes cs) rest))

-- behind a text
pub utf8_behind : (front rest : List ℕ) → IsUtf8 front → IsUtf8 (front ++ rest) → IsUtf8 rest
utf8_behind front rest f u = utf8_chars f.0 rest f.1.0 (subst (λ (l : List ℕ). IsUtf8 (l ++ rest)) (sym f.1.1) u)

-- all characters that pass this test are ASCII
abbrev pub PassesAscii : (ℕ → Bool) → Type 0
PassesAscii p = (c : ℕ) → p c ≡ true → c < 128

-- behind the ASCII characters at the front
rest_step : (p : ℕ → Bool) → PassesAscii p → (c : ℕ) (cs : List ℕ) → (IsUtf8 cs → IsUtf8 (rest_while p cs)) → IsUtf8 (c ∷ cs) → IsUtf8 (rest_while p (c ∷ cs))
rest_step p small c cs rest u = go (p c) refl
  where
    go : (b : Bool) → p c ≡ b → IsUtf8 (rest_while p (c ∷ cs))
    go true e = rw (e, one-add) (rest (utf8_tail c cs (small c e) u))
    go false e = rw e u

pub utf8_rest : (p : ℕ → Bool) → PassesAscii p → (cs : List ℕ) → IsUtf8 cs → IsUtf8 (rest_while p cs)
utf8_rest p small [] u = u
utf8_rest p small (c ∷ cs) u = rest_step p small c cs (utf8_rest p small cs) u

-- those characters alone
front_step : (p : ℕ → Bool) → PassesAscii p → (c : ℕ) (cs : List ℕ) → IsUtf8 (take (prefix_len p cs) cs) → IsUtf8 (take (prefix_len p (c ∷ cs)) (c ∷ cs))
front_step p small c cs front = go (p c) refl
  where
    go : (b : Bool) → p c ≡ b → IsUtf8 (take (prefix_len p (c ∷ cs)) (c ∷ cs))
    go true e = rw (e, one-add) (utf8_cons c (take (prefix_len p cs) cs) (small c e) front)
    go false e = rw e IsUtf8-nil

pub utf8_front : (p : ℕ → Bool) → PassesAscii p → (cs : List ℕ) → IsUtf8 (take (prefix_len p cs) cs)
utf8_front p small [] = IsUtf8-nil
utf8_front p small (c ∷ cs) = front_step p small c cs (utf8_front p small cs)

-- in front of an ASCII byte
pub utf8_take : (bs : List ℕ) (n : ℕ) → n < length bs → get_or bs n 0 < 128 → IsUtf8 bs → IsUtf8 (take n bs)
utf8_take bs n within small u = IsUtf8-take bs n u (IsCharBoundary-before_ascii bs n within small)

-- and behind it
pub utf8_drop : (bs : List ℕ) (n : ℕ) → n < length bs → get_or bs n 0 < 128 → IsUtf8 bs → IsUtf8 (drop (n + 1) bs)
utf8_drop bs n within small u = IsUtf8-drop bs (n + 1) u (IsCharBoundary-after_ascii bs n u within small)

-- without an ASCII byte at the end
pub utf8_shorter : (bs : List ℕ) (n : ℕ) → 0 < n → n ≤ length bs → get_or bs (n - 1) 0 < 128 → IsUtf8 (take n bs) → IsUtf8 (take (n - 1) bs)
utf8_shorter bs n some within small u =
    let e : take (n - 1) (take n bs) ≡ take (n - 1) bs = grind (arith, common_steps) in
    let at : get_or (take n bs) (n - 1) 0 ≡ get_or bs (n - 1) 0 = grind (arith, common_steps) in
    subst IsUtf8 e (utf8_take (take n bs) (n - 1) (omega (arith, length-take n bs)) (rw at small) u)

-- ---- the characters of the format

pub blank_small : (c : ℕ) → is_blank c ≡ true → c < 128
blank_small c e = grind (arith, nat_tests)

pub blanks_ascii : PassesAscii is_blank
blanks_ascii = blank_small

-- ---- unescaped texts

-- an escape is of an ASCII character and stands for one
pub record IsAsciiEscape (escape : ℕ → Option ℕ) : Type 0 where
  pub small : (c e : ℕ) → escape c ≡ Some e → (c < 128) × (e < 128)

small_help : (c e : ℕ) → help_escape c ≡ Some e → (c < 128) × (e < 128)
small_help c e h = elim (cases_eq c 92) [
  | inl is ↦ let g = rw is at h in (omega arith, let k : 92 ≡ e = cc in omega arith)
  | inr other ↦ elim (cases_eq c 110) [
    | inl is ↦ let g = rw is at h in (omega arith, let k : 10 ≡ e = cc in omega arith)
    | inr apart ↦ let g = rw (other_byte c 92 other, other_byte c 110 apart) at h in absurd cc
  ]
]

small_quote : (c e : ℕ) → quote_escape c ≡ Some e → (c < 128) × (e < 128)
small_quote c e h = elim (cases_eq c 34) [
  | inl is ↦ let g = rw is at h in (omega arith, let k : 34 ≡ e = cc in omega arith)
  | inr other ↦ small_help c e (rw (other_byte c 34 other) at h)
]

pub help_ascii : IsAsciiEscape help_escape
help_ascii = record { small = λ c e h. small_help c e h }

pub quote_ascii : IsAsciiEscape quote_escape
quote_ascii = record { small = λ c e h. small_quote c e h }

-- a byte that is no backslash stands for itself
plain_byte : (escape : ℕ → Option ℕ) (c : ℕ) (xs : List ℕ) → is_backslash c ≡ false → unescaped escape (c ∷ xs) ≡ c ∷ unescaped escape xs
plain_byte escape c [] h = refl
plain_byte escape c (x ∷ xs) h = rw h refl

-- so do bytes that are not ASCII
high_bytes : (escape : ℕ → Option ℕ) (xs ys : List ℕ) → ((k : ℕ) → k < length xs → 128 ≤ get_or xs k 0) → unescaped escape (xs ++ ys) ≡ xs ++ unescaped escape ys
high_bytes escape [] ys h = refl
high_bytes escape (x ∷ xs) ys h =
    let high : 128 ≤ x = h 0 (omega arith) in
    plain_byte escape x (xs ++ ys) (other_byte x 92 (λ e. omega arith)) ∙ ap (λ (l : List ℕ). x ∷ l) (high_bytes escape xs ys (λ k below. h (suc k) (omega arith)))

encoded_high : (c : ℕ) → 128 ≤ c → (k : ℕ) → k < length (encode c) → 128 ≤ get_or (encode c) k 0
encoded_high c big k below = elim (cases_lt (get_or (encode c) k 0) 128) [
  | inl low ↦ absurd (omega (arith, inside_one c [] (encode c) k (sym (append-nil _)) below low))
  | inr h ↦ h
]

-- a character that is no backslash stands for itself
plain_char : (escape : ℕ → Option ℕ) (c : ℕ) (xs : List ℕ) → is_backslash c ≡ false → unescaped escape (encode c ++ xs) ≡ encode c ++ unescaped escape xs
plain_char escape c xs h = elim (cases_lt c 128) [
  | inl small ↦ rw (encode_ascii c small) (plain_byte escape c xs h)
  | inr big ↦ high_bytes escape (encode c) xs (encoded_high c big)
]

-- a backslash in front of what it doesn't escape stands for itself
lone_backslash : (escape : ℕ → Option ℕ) (x : ℕ) (xs : List ℕ) → escape x ≡ None → unescaped escape (92 ∷ x ∷ xs) ≡ 92 ∷ unescaped escape (x ∷ xs)
lone_backslash escape x xs h = rw h refl

escaped_pair : (escape : ℕ → Option ℕ) (x e : ℕ) (xs : List ℕ) → escape x ≡ Some e → unescaped escape (92 ∷ x ∷ xs) ≡ e ∷ unescaped escape xs
escaped_pair escape x e xs h = rw h refl

-- a backslash, a character and a rest
behind_backslash : (escape : ℕ → Option ℕ) → IsAsciiEscape escape → (d : ℕ) (xs : List ℕ) → scalar d ≡ true → IsUtf8 (unescaped escape xs) → IsUtf8 (unescaped escape (encode d ++ xs)) → IsUtf8 (unescaped escape (92 ∷ encode d ++ xs))
behind_backslash escape ascii d xs ok rest from_next = elim (cases_lt d 128) [
  | inl small ↦ let one = encode_ascii d small in rw one (go (escape d) refl (rw one at from_next))
  | inr big ↦ high big (encode d) refl
]
  where
    go : (o : Option ℕ) → escape d ≡ o → IsUtf8 (unescaped escape (d ∷ xs)) → IsUtf8 (unescaped escape (92 ∷ d ∷ xs))
    go None e next = rw (lone_backslash escape d xs e) (utf8_cons 92 _ (omega arith) next)
    go (Some y) e next = rw (escaped_pair escape d y xs e) (utf8_cons y _ (ascii.small d y e).1 rest)

    none : (x : ℕ) (o : Option ℕ) → 128 ≤ x → escape x ≡ o → escape x ≡ None
    none x None big e = e
    none x (Some y) big e = absurd (let p = (ascii.small x y e).0 in omega arith)

    high : 128 ≤ d → (bs : List ℕ) → encode d ≡ bs → IsUtf8 (unescaped escape (92 ∷ encode d ++ xs))
    high big [] e = absurd (omega (arith, length-encode d, (len_utf8_bounds d).0, ap length e))
    high big (x ∷ bs) e =
        let first : 128 ≤ x = subst (λ (l : List ℕ). 128 ≤ get_or l 0 0) e (encoded_high d big 0 (omega (arith, length-encode d, (len_utf8_bounds d).0))) in
        let next = rw e at from_next in
        rw (e, lone_backslash escape x (bs ++ xs) (none x (escape x) first refl)) (utf8_cons 92 _ (omega arith) next)

all_unescaped : (escape : ℕ → Option ℕ) → IsAsciiEscape escape → (cs : List ℕ) → scalars cs ≡ true → IsUtf8 (unescaped escape (encodes cs))
all_unescaped escape ascii [] h = IsUtf8-nil
all_unescaped escape ascii (c ∷ []) h = elim (cases_eq c 92) [
  | inl is ↦ rw (is, encode_ascii 92 (omega arith)) (utf8_cons 92 [] (omega arith) IsUtf8-nil)
  | inr other ↦ rw (plain_char escape c [] (other_byte c 92 other)) (IsUtf8-append (encode c) [] (IsUtf8-encode c (and_parts _ _ h).0) IsUtf8-nil)
]
all_unescaped escape ascii (c ∷ d ∷ cs) h =
    let p = and_parts (scalar c) (scalars (d ∷ cs)) h in
    let q = and_parts (scalar d) (scalars cs) p.1 in
    let from_next = all_unescaped escape ascii (d ∷ cs) p.1 in
    elim (cases_eq c 92) [
      | inl is ↦ rw (is, encode_ascii 92 (omega arith)) (behind_backslash escape ascii d (encodes cs) q.0 (all_unescaped escape ascii cs q.1) from_next)
      | inr other ↦ rw (plain_char escape c (encodes (d ∷ cs)) (other_byte c 92 other)) (IsUtf8-append (encode c) _ (IsUtf8-encode c p.0) from_next)
    ]

-- the unescaped bytes of a UTF-8 text are one
pub utf8_unescaped : (escape : ℕ → Option ℕ) → IsAsciiEscape escape → (bs : List ℕ) → IsUtf8 bs → IsUtf8 (unescaped escape bs)
utf8_unescaped escape ascii bs u = subst (λ l. IsUtf8 (unescaped escape l)) u.1.1 (all_unescaped escape ascii u.0 u.1.0)

pub escape_ascii : (e : Escapes) → IsAsciiEscape (escape_of e)
escape_ascii Help = help_ascii
escape_ascii Quoted = quote_ascii
