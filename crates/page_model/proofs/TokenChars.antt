-- The characters of names; a number token and a timestamp have no blank in them, and neither is empty.
use Rattle.std.proofs.Common.{◌≡◌, ℕ, Bool, true, false, not, ◌&&◌, List, [], ◌∷◌, refl, sym, subst, ◌∙◌, eqb, None, codes, ◌++◌}
use Rattle.std.specs.List.{list_all}
use Rattle.std.specs.Char.{is_ascii_digit}
use Rattle.std.specs.Str.{bytes_eq}
use Rattle.std.proofs.lemmas.Bool.{and_from, and_parts, eqb-true}
use Rattle.label_sets.specs.Names.{is_metric_name, is_metric_start, is_metric_char, is_label_name, is_label_start, is_label_char}
use Rattle.exact_decimal.specs.Tokens.{is_sign, unsigned, mantissa, whole_part, fraction_part, is_digits, is_real, is_infinity, is_nan_token, is_number_token, is_token_char}
use Rattle.exact_decimal.proofs.Laws.{all_mono, from_digit, from_sign}
use Rattle.page_model.specs.TextItems.{is_integer_token}
use Rattle.label_sets.specs.Lists.{behind}

-- the characters of a metric name
pub metric_chars : (name : List ℕ) → is_metric_name name ≡ true → list_all is_metric_char name ≡ true
metric_chars [] h = refl
metric_chars (c ∷ cs) h = let both = and_parts (is_metric_start c) (list_all is_metric_char cs) h in rw (both.0, both.1) refl

-- the characters of a label name
pub label_chars : (name : List ℕ) → is_label_name name ≡ true → list_all is_label_char name ≡ true
label_chars [] h = refl
label_chars (c ∷ cs) h = let both = and_parts (is_label_start c) (list_all is_label_char cs) h in rw (both.0, both.1) refl

-- a whole number with a sign has only such characters
pub integer_passes : (token : List ℕ) → is_integer_token token ≡ true → list_all is_token_char token ≡ true
unfolding is_integer_token unsigned is_digits
integer_passes [] h = refl
integer_passes (c ∷ cs) h = go (is_sign c) refl
  where
    digits : (ds : List ℕ) → (not (bytes_eq ds []) && list_all is_ascii_digit ds) ≡ true → list_all is_token_char ds ≡ true
    digits ds k = all_mono is_ascii_digit is_token_char from_digit ds (and_parts (not (bytes_eq ds [])) (list_all is_ascii_digit ds) k).1

    go : (b : Bool) → is_sign c ≡ b → list_all is_token_char (c ∷ cs) ≡ true
    go true e = and_from (is_token_char c) (list_all is_token_char cs) (from_sign c e) (digits cs (rw e at h))
    go false e = digits (c ∷ cs) (rw e at h)

-- what passes a test is no number that fails it
pub differs : (p : ℕ → Bool) (n c : ℕ) → p n ≡ false → p c ≡ true → eqb n c ≡ false
differs p n c without with_it = go (eqb n c) refl
  where
    go : (b : Bool) → eqb n c ≡ b → eqb n c ≡ false
    go false e = e
    go true e = absurd (let same : n ≡ c = eqb-true n c e in let h : p n ≡ true = subst (λ x. p x ≡ true) (sym same) with_it in let k : true ≡ false = sym h ∙ without in cc)

-- what begins with another byte
pub first_differs : (n c : ℕ) (front cs : List ℕ) → eqb n c ≡ false → behind (n ∷ front) (c ∷ cs) ≡ None
first_differs n c front cs e = rw e refl

-- a label begins with no brace
pub no_brace : (name rest : List ℕ) → is_label_name name ≡ true → behind (codes "}") (name ++ rest) ≡ None
no_brace [] rest h = absurd (let e : false ≡ true = h in cc)
no_brace (c ∷ cs) rest h = first_differs 125 c [] (cs ++ rest) (differs is_label_start 125 c refl (and_parts (is_label_start c) (list_all is_label_char cs) h).0)

-- no element is one at which a test fails that each element passes
pub other_than : (p : ℕ → Bool) (n : ℕ) → p n ≡ false → (c : ℕ) → p c ≡ true → not (eqb c n) ≡ true
other_than p n without c with_it = go (eqb c n) refl
  where
    go : (b : Bool) → eqb c n ≡ b → not (eqb c n) ≡ true
    go true e = absurd (let same : c ≡ n = eqb-true c n e in let h : p n ≡ true = subst (λ x. p x ≡ true) same with_it in let k : true ≡ false = sym h ∙ without in cc)
    go false e = rw e refl

-- no token is empty
pub no_empty_token : is_number_token [] ≡ true → ⊥
unfolding unsigned mantissa whole_part fraction_part is_digits is_real is_infinity is_nan_token is_number_token
no_empty_token h = let e : false ≡ true = h in cc

-- nor is a real
pub no_empty_real : is_real [] ≡ true → ⊥
unfolding unsigned mantissa whole_part fraction_part is_digits is_real
no_empty_real h = let e : false ≡ true = h in cc
