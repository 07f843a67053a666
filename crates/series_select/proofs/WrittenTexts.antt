-- Bytes whose escapes stand for a text are a text.
use Rattle.std.proofs.Common.{◌≡◌, ℕ, suc, ◌<◌, ◌≤◌, Bool, true, false, List, [], ◌∷◌, ◌++◌, length, get_or, Option, Some, None, refl, sym, ap, subst, ◌∙◌, ◌⊎◌, arith, IsUtf8, inl, inr}
use Rattle.std.proofs.lemmas.Bool.{and_parts, cases_lt, eqb-true}
use Rattle.std.proofs.lemmas.List.{append-nil}
use Rattle.std.specs.Str.{is_utf8}
use Rattle.std.proofs.lemmas.Str.{IsUtf8-from_is_utf8, IsUtf8-append, IsUtf8-nil, IsUtf8-encode, encode_ascii, inside_one}
use lib.Utf8.{scalar, scalars, encode, encodes, low_scalar}
use Rattle.label_sets.specs.Escapes.{quote_escape, unescaped, is_backslash}
use Rattle.line_scan.proofs.Laws.{quote_ascii}

-- in front of a text an ASCII character
utf8_cons : (c : ℕ) (cs : List ℕ) → c < 128 → IsUtf8 cs → IsUtf8 (c ∷ cs)
utf8_cons c cs small u = IsUtf8-append (c ∷ []) cs (subst IsUtf8 (encode_ascii c small) (IsUtf8-encode c (low_scalar c (omega arith)))) u

-- ---- one step back

nothing_back : (q : List ℕ) → unescaped quote_escape q ≡ [] → q ≡ []
nothing_back [] e = refl
nothing_back (c ∷ []) e = absurd (let f : c ∷ [] ≡ [] = e in cc)
nothing_back (c ∷ d ∷ q) e = absurd (by (is_backslash c) refl (quote_escape d) refl)
  where
    by : (b : Bool) → is_backslash c ≡ b → (o : Option ℕ) → quote_escape d ≡ o → ⊥
    by false h o k = let f : c ∷ unescaped quote_escape (d ∷ q) ≡ [] = rw h at e in cc
    by true h None k = let f : c ∷ unescaped quote_escape (d ∷ q) ≡ [] = rw (h, k) at e in cc
    by true h (Some y) k = let f : y ∷ unescaped quote_escape q ≡ [] = rw (h, k) at e in cc

-- the first byte stands for itself, or for an escape of two ASCII characters, which is one
abbrev IsFirstBack : ℕ → List ℕ → List ℕ → Type 0
IsFirstBack x xs q = ((r : List ℕ) × (q ≡ x ∷ r) × (xs ≡ unescaped quote_escape r))
    ⊎ ((d : ℕ) × (r : List ℕ) × (q ≡ 92 ∷ d ∷ r) × (x < 128) × (d < 128) × (xs ≡ unescaped quote_escape r))

first_back : (x : ℕ) (xs q : List ℕ) → unescaped quote_escape q ≡ x ∷ xs → IsFirstBack x xs q
first_back x xs [] e = absurd (let f : [] ≡ x ∷ xs = e in cc)
first_back x xs (c ∷ []) e = let f : c ∷ [] ≡ x ∷ xs = e in inl ([], cc, cc)
first_back x xs (c ∷ d ∷ q) e = by (is_backslash c) refl (quote_escape d) refl
  where
    by : (b : Bool) → is_backslash c ≡ b → (o : Option ℕ) → quote_escape d ≡ o → IsFirstBack x xs (c ∷ d ∷ q)
    by false h o k = let f : c ∷ unescaped quote_escape (d ∷ q) ≡ x ∷ xs = rw h at e in inl (d ∷ q, cc, cc)
    by true h None k = let f : c ∷ unescaped quote_escape (d ∷ q) ≡ x ∷ xs = rw (h, k) at e in inl (d ∷ q, cc, cc)
    by true h (Some y) k =
        let f : y ∷ unescaped quote_escape q ≡ x ∷ xs = rw (h, k) at e in
        let same : y ≡ x = cc in
        let small = quote_ascii.small d y k in
        inr (d, q, ap (λ n. n ∷ d ∷ q) (eqb-true c 92 h), subst (λ n. n < 128) same small.1, small.0, cc)

-- ---- characters back

-- bytes that are not ASCII stand for themselves
high_back : (xs ys q : List ℕ) → ((k : ℕ) → k < length xs → 128 ≤ get_or xs k 0) → xs ++ ys ≡ unescaped quote_escape q → (r : List ℕ) × (q ≡ xs ++ r) × (ys ≡ unescaped quote_escape r)
high_back [] ys q h e = (q, refl, e)
high_back (x ∷ xs) ys q h e = go (first_back x (xs ++ ys) q (sym e)) (λ r f. high_back xs ys r (λ k below. h (suc k) (omega arith)) f)
  where
    go : IsFirstBack x (xs ++ ys) q → ((r : List ℕ) → xs ++ ys ≡ unescaped quote_escape r → (s : List ℕ) × (r ≡ xs ++ s) × (ys ≡ unescaped quote_escape s))
        → (s : List ℕ) × (q ≡ (x ∷ xs) ++ s) × (ys ≡ unescaped quote_escape s)
    go (inl f) ih = let t = ih f.0 f.2 in (t.0, f.1 ∙ ap (λ (l : List ℕ). x ∷ l) t.1, t.2)
    go (inr f) ih = absurd (let big : 128 ≤ x = h 0 (omega arith) in let small : x < 128 = f.3 in omega arith)

encoded_high : (c : ℕ) → 128 ≤ c → (k : ℕ) → k < length (encode c) → 128 ≤ get_or (encode c) k 0
encoded_high c big k below = elim (cases_lt (get_or (encode c) k 0) 128) [
  | inl low ↦ absurd (omega (arith, inside_one c [] (encode c) k (sym (append-nil _)) below low))
  | inr h ↦ h
]

-- behind an ASCII character, or an escape that stands for one
low_back : (x : ℕ) (xs q : List ℕ) → x < 128 → ((r : List ℕ) → xs ≡ unescaped quote_escape r → IsUtf8 r) → IsFirstBack x xs q → IsUtf8 q
low_back x xs q small ih (inl f) = subst IsUtf8 (sym f.1) (utf8_cons x f.0 small (ih f.0 f.2))
low_back x xs q small ih (inr f) = subst IsUtf8 (sym f.2) (utf8_cons 92 (f.0 ∷ f.1) (omega arith) (utf8_cons f.0 f.1 f.4 (ih f.1 f.5)))

char_back : (x : ℕ) (xs q : List ℕ) → scalar x ≡ true → encode x ++ xs ≡ unescaped quote_escape q → ((r : List ℕ) → xs ≡ unescaped quote_escape r → IsUtf8 r) → IsUtf8 q
char_back x xs q ok e ih = elim (cases_lt x 128) [
  | inl small ↦ low_back x xs q small ih (first_back x xs q (sym (subst (λ (l : List ℕ). l ++ xs ≡ unescaped quote_escape q) (encode_ascii x small) e)))
  | inr big ↦
      let t = high_back (encode x) xs q (encoded_high x big) e in
      subst IsUtf8 (sym t.1) (IsUtf8-append (encode x) t.0 (IsUtf8-encode x ok) (ih t.0 t.2))
]

written_back : (cs : List ℕ) → scalars cs ≡ true → (q : List ℕ) → encodes cs ≡ unescaped quote_escape q → IsUtf8 q
written_back [] ok q e = subst IsUtf8 (sym (nothing_back q (sym e))) IsUtf8-nil
written_back (x ∷ cs) ok q e =
    let p = and_parts (scalar x) (scalars cs) ok in
    char_back x (encodes cs) q p.0 e (λ r f. written_back cs p.1 r f)

-- what escaped bytes stand for is UTF-8 only where they are
pub utf8_written : (q : List ℕ) → IsUtf8 (unescaped quote_escape q) → IsUtf8 q
utf8_written q u = written_back u.0 u.1.0 q u.1.1

-- bytes that are no text fail its test
pub not_utf8 : (bs : List ℕ) → (IsUtf8 bs → ⊥) → is_utf8 bs ≡ false
not_utf8 bs h = go (is_utf8 bs) refl
  where
    go : (b : Bool) → is_utf8 bs ≡ b → is_utf8 bs ≡ false
    go true e = absurd (h (IsUtf8-from_is_utf8 bs e))
    go false e = e
