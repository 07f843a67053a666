-- What the words of reading from the front say of a text, both ways.
use Rattle.std.proofs.Common.{◌≡◌, ℕ, suc, Bool, true, false, cond, not, ◌||◌, List, [], ◌∷◌, ◌++◌, length, take, drop, Option, Some, None, refl, sym, ap, subst, ◌∙◌, ◌⊎◌, inl, inr, eqb}
use Rattle.std.specs.Prelude.{take_while, ◌==◌}
use Rattle.std.specs.List.{list_all, prefix_len}
use Rattle.std.specs.Option.{option_or}
use Rattle.std.proofs.Math.Numerals.{one-add}
use Rattle.std.proofs.Math.Seq.{take-append_seam, drop-append_seam}
use Rattle.std.proofs.lemmas.Bool.{eqb-true, and_parts, or_from}
use Rattle.std.proofs.lemmas.Option.{cond_some, none-some, same_Some}
use Rattle.label_sets.specs.Lists.{◌>>=◌, when_true, rest_while, behind}
use Rattle.label_sets.specs.Names.{is_metric_name, is_metric_start, is_metric_char, is_label_name, is_label_start, is_label_char, is_blank}
use Rattle.label_sets.specs.Escapes.{is_quote, is_backslash, is_quotable, quoted_at}
use Rattle.page_model.specs.TextItems.{AreBlanks, without_leading_blanks}
use Rattle.page_model.proofs.Laws.{while_parts, behind_parts}

-- ---- what is read

-- a step whose outcome is there was given a value
pub bind_some : {A B : Type 0} (o : Option A) (f : A → Option B) (y : B) → (o >>= f) ≡ Some y → (x : A) × (o ≡ Some x) × (f x ≡ Some y)
bind_some None f y e = absurd (none-some y e)
bind_some (Some x) f y e = (x, refl, e)

pub when_some : {A : Type 0} (b : Bool) (x y : A) → when_true b x ≡ Some y → (b ≡ true) × (x ≡ y)
when_some b x y e = cond_some b x y e

-- which way a choice went
pub chosen : {A : Type 0} (b : Bool) (x y z : A) → cond b x y ≡ z → ((b ≡ true) × (x ≡ z)) ⊎ ((b ≡ false) × (y ≡ z))
chosen true x y z e = inl (refl, e)
chosen false x y z e = inr (refl, e)

-- which of two readings gave the value
pub either_some : {A : Type 0} (o p : Option A) (x : A) → option_or o p ≡ Some x → (o ≡ Some x) ⊎ (p ≡ Some x)
either_some None p x e = inr e
either_some (Some y) p x e = inl e

-- blanks, a front and the rest
pub behind_blanks : (front cs rest : List ℕ) → behind front (without_leading_blanks cs) ≡ Some rest → cs ≡ take_while is_blank cs ++ (front ++ rest)
behind_blanks front cs rest e = while_parts is_blank cs ∙ ap (λ (x : List ℕ). take_while is_blank cs ++ x) (behind_parts front (without_leading_blanks cs) rest e)

-- ---- quoted texts

quotable-cons : (c : ℕ) (q : List ℕ) → is_quote c ≡ false → is_backslash c ≡ false → is_quotable q ≡ true → is_quotable (c ∷ q) ≡ true
quotable-cons c [] no_quote no_backslash h = rw (no_quote, no_backslash) refl
quotable-cons c (d ∷ q) no_quote no_backslash h = rw (no_quote, no_backslash) h

-- a text that is read from between two quotes may stand there, and the second quote follows it
abbrev pub QuotedParts : List ℕ → List ℕ × List ℕ → Type 0
QuotedParts cs x = (is_quotable x.0 ≡ true) × (cs ≡ x.0 ++ 34 ∷ x.1)

-- what `quoted_at` gives behind an escaped character, and behind one that is plain
abbrev escaped_read : ℕ → ℕ → List ℕ → Option (List ℕ × List ℕ)
escaped_read c d cs = quoted_at cs >>= λ x. Some (c ∷ d ∷ x.0, x.1)

abbrev plain_read : ℕ → ℕ → List ℕ → Option (List ℕ × List ℕ)
plain_read c d cs = quoted_at (d ∷ cs) >>= λ x. Some (c ∷ x.0, x.1)

pub quoted_parts : (cs : List ℕ) (x : List ℕ × List ℕ) → quoted_at cs ≡ Some x → QuotedParts cs x
quoted_parts [] x e = absurd (none-some x e)
quoted_parts (c ∷ []) x e =
    let both = when_some (is_quote c) ([], []) x e in
    let quote : c ≡ 34 = eqb-true c 34 both.0 in
    subst (λ (y : List ℕ × List ℕ). QuotedParts (c ∷ []) y) both.1 (refl, ap (λ n. n ∷ []) quote)
quoted_parts (c ∷ d ∷ cs) x e = by_quote (λ y f. quoted_parts cs y f) (λ y f. quoted_parts (d ∷ cs) y f)
  where
    by_quote : ((y : List ℕ × List ℕ) → quoted_at cs ≡ Some y → QuotedParts cs y)
        → ((y : List ℕ × List ℕ) → quoted_at (d ∷ cs) ≡ Some y → QuotedParts (d ∷ cs) y) → QuotedParts (c ∷ d ∷ cs) x
    by_quote ih1 ih2 = elim (chosen (is_quote c) (Some ([], d ∷ cs)) (cond (is_backslash c) (escaped_read c d cs) (plain_read c d cs)) (Some x) e) [
      | inl h ↦ subst (λ (y : List ℕ × List ℕ). QuotedParts (c ∷ d ∷ cs) y) (same_Some ([], d ∷ cs) x h.1) (refl, ap (λ n. n ∷ d ∷ cs) (eqb-true c 34 h.0))
      | inr h ↦ elim (chosen (is_backslash c) (escaped_read c d cs) (plain_read c d cs) (Some x) h.1) [
        | inl k ↦
            let y = bind_some (quoted_at cs) (λ x. Some (c ∷ d ∷ x.0, x.1)) x k.1 in
            let p = ih1 y.0 y.1 in
            subst (λ (z : List ℕ × List ℕ). QuotedParts (c ∷ d ∷ cs) z) (same_Some (c ∷ d ∷ y.0.0, y.0.1) x y.2) (rw (h.0, k.0) p.0, ap (λ ds. c ∷ d ∷ ds) p.1)
        | inr k ↦
            let y = bind_some (quoted_at (d ∷ cs)) (λ x. Some (c ∷ x.0, x.1)) x k.1 in
            let p = ih2 y.0 y.1 in
            subst (λ (z : List ℕ × List ℕ). QuotedParts (c ∷ d ∷ cs) z) (same_Some (c ∷ y.0.0, y.0.1) x y.2) (quotable-cons c y.0.0 h.0 k.0 p.0, ap (λ ds. c ∷ ds) p.1)
      ]
    ]

not_or : (a b : Bool) → not (a || b) ≡ true → (a ≡ false) × (b ≡ false)
not_or true b e = absurd cc
not_or false true e = absurd cc
not_or false false e = (refl, refl)

quoted_end : (rest : List ℕ) → quoted_at (34 ∷ rest) ≡ Some ([], rest)
quoted_end [] = refl
quoted_end (d ∷ rest) = refl

pub quoted-append : (q rest : List ℕ) → is_quotable q ≡ true → quoted_at (q ++ 34 ∷ rest) ≡ Some (q, rest)
quoted-append [] rest h = quoted_end rest
quoted-append (c ∷ []) rest h =
    let both = not_or (is_quote c) (is_backslash c) h in
    rw (both.0, both.1, quoted_end rest) refl
quoted-append (c ∷ d ∷ q) rest h = go (λ k. quoted-append q rest k) (λ k. quoted-append (d ∷ q) rest k)
  where
    go : (is_quotable q ≡ true → quoted_at (q ++ 34 ∷ rest) ≡ Some (q, rest)) → (is_quotable (d ∷ q) ≡ true → quoted_at (d ∷ q ++ 34 ∷ rest) ≡ Some (d ∷ q, rest))
        → quoted_at (c ∷ d ∷ q ++ 34 ∷ rest) ≡ Some (c ∷ d ∷ q, rest)
    go ih1 ih2 = elim (chosen (is_quote c) false (cond (is_backslash c) (is_quotable q) (is_quotable (d ∷ q))) true h) [
      | inl k ↦ absurd (let e : false ≡ true = k.1 in cc)
      | inr k ↦ elim (chosen (is_backslash c) (is_quotable q) (is_quotable (d ∷ q)) true k.1) [
        | inl m ↦ rw (k.0, m.0, ih1 m.1) refl
        | inr m ↦ rw (k.0, m.0, ih2 m.1) refl
      ]
    ]

-- ---- what is written is read

-- the text is empty or begins with an element that fails the test
abbrev pub Stops : {A : Type 0} → (A → Bool) → List A → Type 0
Stops test [] = Unit {0}
Stops test (x ∷ xs) = test x ≡ false

prefix_passed : {A : Type 0} (test : A → Bool) (xs ys : List A) → list_all test xs ≡ true → Stops test ys → prefix_len test (xs ++ ys) ≡ length xs
prefix_passed test [] [] h s = refl
prefix_passed test [] (y ∷ ys) h s = rw s refl
prefix_passed test (x ∷ xs) ys h s =
    let both = and_parts (test x) (list_all test xs) h in
    rw (both.0, one-add) (ap suc (prefix_passed test xs ys both.1 s))

pub take_while-append : {A : Type 0} (test : A → Bool) (xs ys : List A) → list_all test xs ≡ true → Stops test ys → take_while test (xs ++ ys) ≡ xs
take_while-append test xs ys h s = ap (λ n. take n (xs ++ ys)) (prefix_passed test xs ys h s) ∙ take-append_seam xs ys

pub rest_while-append : {A : Type 0} (test : A → Bool) (xs ys : List A) → list_all test xs ≡ true → Stops test ys → rest_while test (xs ++ ys) ≡ ys
rest_while-append test xs ys h s = ap (λ n. drop n (xs ++ ys)) (prefix_passed test xs ys h s) ∙ drop-append_seam xs ys

-- what stands behind the front that passes doesn't go on with it
pub rest_stops : {A : Type 0} (test : A → Bool) (xs : List A) → Stops test (rest_while test xs)
rest_stops test [] = tt
rest_stops test (x ∷ xs) = go (test x) refl (rest_stops test xs)
  where
    go : (b : Bool) → test x ≡ b → Stops test (rest_while test xs) → Stops test (rest_while test (x ∷ xs))
    go true e ih = rw (e, one-add) ih
    go false e ih = rw e e

-- ---- names and blanks

-- the characters of a metric name
pub metric_chars : (name : List ℕ) → is_metric_name name ≡ true → list_all is_metric_char name ≡ true
metric_chars [] h = refl
metric_chars (c ∷ cs) h = let both = and_parts (is_metric_start c) (list_all is_metric_char cs) h in rw (both.0, both.1) refl

-- the characters of a label name
pub label_chars : (name : List ℕ) → is_label_name name ≡ true → list_all is_label_char name ≡ true
label_chars [] h = refl
label_chars (c ∷ cs) h = let both = and_parts (is_label_start c) (list_all is_label_char cs) h in rw (both.0, both.1) refl

-- what passes a test is no number that fails it
pub differs_from : (p : ℕ → Bool) (n c : ℕ) → p n ≡ false → p c ≡ true → eqb n c ≡ false
differs_from p n c without with_it = go (eqb n c) refl
  where
    go : (b : Bool) → eqb n c ≡ b → eqb n c ≡ false
    go false e = e
    go true e = absurd (let same : n ≡ c = eqb-true n c e in let h : p n ≡ true = subst (λ x. p x ≡ true) (sym same) with_it in let k : true ≡ false = sym h ∙ without in cc)

-- nor does such a number equal it
other_than : (p : ℕ → Bool) (n c : ℕ) → p n ≡ false → p c ≡ true → eqb c n ≡ false
other_than p n c without with_it = go (eqb c n) refl
  where
    go : (b : Bool) → eqb c n ≡ b → eqb c n ≡ false
    go false e = e
    go true e = absurd (let same : c ≡ n = eqb-true c n e in let h : p n ≡ true = subst (λ x. p x ≡ true) same with_it in let k : true ≡ false = sym h ∙ without in cc)

-- what passes a test that no blank passes is no blank
pub not_blank : (p : ℕ → Bool) → p 32 ≡ false → p 9 ≡ false → (c : ℕ) → p c ≡ true → is_blank c ≡ false
not_blank p space tab c h = or_from (c == 32) (c == 9) (other_than p 32 c space h) (other_than p 9 c tab h)

-- and a blank fails it
blank_fails : (p : ℕ → Bool) → p 32 ≡ false → p 9 ≡ false → (c : ℕ) → is_blank c ≡ true → p c ≡ false
blank_fails p space tab c h = go (p c) refl
  where
    go : (b : Bool) → p c ≡ b → p c ≡ false
    go false e = e
    go true e = absurd (let k : false ≡ true = sym (not_blank p space tab c e) ∙ h in cc)

pub blanks_stop : (p : ℕ → Bool) → p 32 ≡ false → p 9 ≡ false → (bs tail : List ℕ) → AreBlanks bs → Stops p tail → Stops p (bs ++ tail)
blanks_stop p space tab [] tail h s = s
blanks_stop p space tab (b ∷ bs) tail h s = blank_fails p space tab b (and_parts (is_blank b) (list_all is_blank bs) h).0

pub blanks_dropped : (bs tail : List ℕ) → AreBlanks bs → Stops is_blank tail → without_leading_blanks (bs ++ tail) ≡ tail
blanks_dropped bs tail h s = rest_while-append is_blank bs tail h s
