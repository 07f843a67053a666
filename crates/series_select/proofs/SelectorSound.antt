-- What is read of a text is what the text spells.
use Rattle.std.proofs.Common.{◌≡◌, ℕ, zero, suc, Bool, true, false, List, [], ◌∷◌, ◌++◌, length, Option, Some, None, refl, sym, subst, ◌∙◌, append_assoc, codes, inl, inr}
use Rattle.std.specs.Prelude.{take_while, ◌==◌}
use Rattle.std.specs.List.{list_all}
use Rattle.std.specs.Option.{option_or}
use Rattle.std.specs.Str.{is_utf8}
use Rattle.std.proofs.lemmas.Bool.{eqb-true}
use Rattle.std.proofs.lemmas.List.{append-nil, nil_from_length}
use Rattle.std.proofs.lemmas.Option.{none-some, same_Some}
use Rattle.std.proofs.lemmas.Str.{IsUtf8-from_is_utf8, is_utf8-from_IsUtf8}
use Rattle.label_sets.specs.Lists.{◌>>=◌, when_true, rest_while, behind}
use Rattle.label_sets.specs.Names.{is_metric_name, is_metric_char, is_label_name, is_label_char, is_blank}
use Rattle.label_sets.specs.Escapes.{quote_escape, unescaped, quoted_at}
use Rattle.page_model.specs.TextItems.{without_leading_blanks}
use Rattle.page_model.proofs.Laws.{while_parts, while_passes, behind_parts}
use Rattle.line_scan.proofs.Laws.{utf8_unescaped, quote_ascii}
use Rattle.series_select.specs.declared.selector.Matcher.{Matcher}
use Rattle.series_select.specs.declared.selector.Selector.{Selector}
use Rattle.series_select.specs.Selectors.{sign_of, SpellsMatcher, SpellsMatchers, SpellsList, SpellsRest, SpellsSelector}
use Rattle.series_select.specs.SelectorReading.{sign_at, matcher_at, matchers_at, braced, rest_of, with_name, without_name, bare_selector, selector_in}
use Rattle.series_select.proofs.FrontLaws.{bind_some, when_some, chosen, either_some, behind_blanks, quoted_parts}

-- ---- a matcher

-- a sign stands in front of what is behind it
sign_parts : (cs : List ℕ) (x : Bool × List ℕ) → sign_at cs ≡ Some x → cs ≡ sign_of x.0 ++ x.1
unfolding sign_at
sign_parts cs x e =
    let other : List ℕ → Option (Bool × List ℕ) = λ rest. Some (true, rest) in
    let same : List ℕ → Option (Bool × List ℕ) = λ rest. Some (false, rest) in
    elim (either_some (behind (codes "!=") cs >>= other) (behind (codes "=") cs >>= same) x e) [
      | inl h ↦
          let a = bind_some (behind (codes "!=") cs) other x h in
          subst (λ (y : Bool × List ℕ). cs ≡ sign_of y.0 ++ y.1) (same_Some (true, a.0) x a.2) (behind_parts (codes "!=") cs a.0 a.1)
      | inr h ↦
          let a = bind_some (behind (codes "=") cs) same x h in
          subst (λ (y : Bool × List ℕ). cs ≡ sign_of y.0 ++ y.1) (same_Some (false, a.0) x a.2) (behind_parts (codes "=") cs a.0 a.1)
    ]

matcher_whole : (cs b0 base name rest signed sign value opened quoted tail b1 b2 b3 after : List ℕ) → cs ≡ b0 ++ base → base ≡ name ++ rest → rest ≡ b1 ++ signed → signed ≡ sign ++ value → value ≡ b2 ++ 34 ∷ opened → opened ≡ quoted ++ 34 ∷ tail → tail ≡ b3 ++ after
    → cs ≡ (b0 ++ name ++ b1 ++ sign ++ b2 ++ codes "\"" ++ quoted ++ codes "\"" ++ b3) ++ after
matcher_whole cs b0 base name rest signed sign value opened quoted tail b1 b2 b3 after a0 a b s c d f = rw (a0, a, b, s, c, d, f) (simp append_assoc refl)

abbrev MatcherFront : List ℕ → Matcher × List ℕ → Type 0
MatcherFront cs x = (front : List ℕ) × SpellsMatcher front x.0 × (cs ≡ front ++ x.1)

matcher_front : (cs : List ℕ) (x : Matcher × List ℕ) → matcher_at (without_leading_blanks cs) ≡ Some x → MatcherFront cs x
unfolding matcher_at
matcher_front cs x e =
    let base = without_leading_blanks cs in
    let name = take_while is_label_char base in
    let rest = rest_while is_label_char base in
    let made : Bool → List ℕ × List ℕ → Option (Matcher × List ℕ) = λ differs quoted. when_true (is_utf8 quoted.0) (record { name = name; differs = differs; value = unescaped quote_escape quoted.0 }, without_leading_blanks quoted.1) in
    let opened : Bool → List ℕ → Option (Matcher × List ℕ) = λ differs open_quote. quoted_at open_quote >>= made differs in
    let signed : Bool × List ℕ → Option (Matcher × List ℕ) = λ sign. behind (codes "\"") (without_leading_blanks sign.1) >>= opened sign.0 in
    let a = bind_some (when_true (is_label_name name) name) (λ _. sign_at (without_leading_blanks rest) >>= signed) x e in
    let b = bind_some (sign_at (without_leading_blanks rest)) signed x a.2 in
    let c = bind_some (behind (codes "\"") (without_leading_blanks b.0.1)) (opened b.0.0) x b.2 in
    let d = bind_some (quoted_at c.0) (made b.0.0) x c.2 in
    let named_so = when_some (is_label_name name) name a.0 a.1 in
    let q = quoted_parts c.0 d.0 d.1 in
    let text = when_some (is_utf8 d.0.0) (record { name = name; differs = b.0.0; value = unescaped quote_escape d.0.0 }, without_leading_blanks d.0.1) x d.2 in
    let b0 = take_while is_blank cs in
    let b1 = take_while is_blank rest in
    let b2 = take_while is_blank b.0.1 in
    let b3 = take_while is_blank d.0.1 in
    subst (MatcherFront cs) text.1 (
      b0 ++ name ++ b1 ++ sign_of b.0.0 ++ b2 ++ codes "\"" ++ d.0.0 ++ codes "\"" ++ b3,
      record {
        first = b0;
        second = b1;
        third = b2;
        quoted = d.0.0;
        last = b3;
        blanks = (while_passes is_blank cs, while_passes is_blank rest, while_passes is_blank b.0.1, while_passes is_blank d.0.1);
        label_name = named_so.0;
        quotable = q.0;
        value = refl;
        value_text = is_utf8-from_IsUtf8 _ (utf8_unescaped quote_escape quote_ascii d.0.0 (IsUtf8-from_is_utf8 d.0.0 text.0));
        whole = refl;
      },
      matcher_whole cs b0 base name rest (without_leading_blanks rest) (sign_of b.0.0) b.0.1 c.0 d.0.0 d.0.1 b1 b2 b3 (without_leading_blanks d.0.1) (while_parts is_blank cs) (while_parts is_label_char base)
          (while_parts is_blank rest) (sign_parts (without_leading_blanks rest) b.0 b.1) (behind_blanks (codes "\"") b.0.1 c.0 c.1) q.1 (while_parts is_blank d.0.1),
    )

-- ---- matchers

last_whole : (cs front mid tail : List ℕ) → cs ≡ front ++ mid → mid ≡ 125 ∷ tail → cs ≡ (front ++ []) ++ 125 ∷ tail
last_whole cs front mid tail a b = rw (a, b) (simp append-nil refl)

more_whole : (cs front mid more text tail : List ℕ) → cs ≡ front ++ mid → mid ≡ 44 ∷ more → more ≡ text ++ 125 ∷ tail → cs ≡ (front ++ 44 ∷ text) ++ 125 ∷ tail
more_whole cs front mid more text tail a b c = rw (a, b, c) (simp append_assoc refl)

abbrev MatchersFront : List ℕ → List Matcher × List ℕ → Type 0
MatchersFront cs y = (text : List ℕ) × SpellsMatchers text y.0 × (cs ≡ text ++ 125 ∷ y.1)

matchers_front : (n : ℕ) (cs : List ℕ) (x : List Matcher × List ℕ) → matchers_at n cs ≡ Some x → MatchersFront cs x
unfolding matchers_at
matchers_front zero cs x e = absurd (none-some x e)
matchers_front (suc n) cs x e = go (λ ds y f. matchers_front n ds y f)
  where
    go : ((ds : List ℕ) (y : List Matcher × List ℕ) → matchers_at n ds ≡ Some y → MatchersFront ds y) → MatchersFront cs x
    go ih =
        let base = without_leading_blanks cs in
        let closed : List ℕ → Option (List Matcher × List ℕ) = λ rest. Some ([], rest) in
        let closed_behind : Matcher → List ℕ → Option (List Matcher × List ℕ) = λ m rest. Some (m ∷ [], rest) in
        let joined : Matcher → List Matcher × List ℕ → Option (List Matcher × List ℕ) = λ m y. Some (m ∷ y.0, y.1) in
        let further : Matcher × List ℕ → Option (List Matcher × List ℕ) = λ m. option_or (behind (codes "}") m.1 >>= closed_behind m.0) (behind (codes ",") m.1 >>= matchers_at n >>= joined m.0) in
        elim (either_some (behind (codes "}") base >>= closed) (matcher_at base >>= further) x e) [
          | inl h ↦
              let a = bind_some (behind (codes "}") base) closed x h in
              subst (MatchersFront cs) (same_Some ([], a.0) x a.2) (take_while is_blank cs, while_passes is_blank cs, behind_blanks (codes "}") cs a.0 a.1)
          | inr h ↦
              let a = bind_some (matcher_at base) further x h in
              let l = matcher_front cs a.0 a.1 in
              elim (either_some (behind (codes "}") a.0.1 >>= closed_behind a.0.0) (behind (codes ",") a.0.1 >>= matchers_at n >>= joined a.0.0) x a.2) [
                | inl k ↦
                    let b = bind_some (behind (codes "}") a.0.1) (closed_behind a.0.0) x k in
                    subst (MatchersFront cs) (same_Some (a.0.0 ∷ [], b.0) x b.2)
                    (l.0 ++ [], (l.0, [], refl, l.1, inl (refl, refl)), last_whole cs l.0 a.0.1 b.0 l.2 (behind_parts (codes "}") a.0.1 b.0 b.1))
                | inr k ↦
                    let b = bind_some (behind (codes ",") a.0.1 >>= matchers_at n) (joined a.0.0) x k in
                    let c = bind_some (behind (codes ",") a.0.1) (matchers_at n) b.0 b.1 in
                    let m = ih c.0 b.0 c.2 in
                    subst (MatchersFront cs) (same_Some (a.0.0 ∷ b.0.0, b.0.1) x b.2)
                    (l.0 ++ 44 ∷ m.0, (l.0, 44 ∷ m.0, refl, l.1, inr (m.0, refl, m.1)), more_whole cs l.0 a.0.1 c.0 m.0 b.0.1 l.2 (behind_parts (codes ",") a.0.1 c.0 c.1) m.2)
              ]
        ]

-- ---- what stands behind a name

braces_whole : (cs b0 inner text tail : List ℕ) → cs ≡ b0 ++ 123 ∷ inner → inner ≡ text ++ 125 ∷ tail → cs ≡ b0 ++ codes "{" ++ text ++ codes "}" ++ tail
braces_whole cs b0 inner text tail a b = rw (a, b) (simp append_assoc refl)

-- a text of which nothing is left behind the blanks at its front is blank
blank_whole : (cs : List ℕ) → without_leading_blanks cs ≡ [] → cs ≡ take_while is_blank cs
blank_whole cs e = while_parts is_blank cs ∙ rw e (append-nil (take_while is_blank cs))

list_sound : (cs inner : List ℕ) (ms : List Matcher) → behind (codes "{") (without_leading_blanks cs) ≡ Some inner → braced inner ≡ Some ms → SpellsList cs ms
unfolding braced
list_sound cs inner ms o e =
    let read : List Matcher × List ℕ → Option (List Matcher) = λ list. when_true (length (without_leading_blanks list.1) == 0) list.0 in
    let a = bind_some (matchers_at (length inner) inner) read ms e in
    let w = when_some (length (without_leading_blanks a.0.1) == 0) a.0.0 ms a.2 in
    let l = matchers_front (length inner) inner a.0 a.1 in
    let nothing : without_leading_blanks a.0.1 ≡ [] = nil_from_length (without_leading_blanks a.0.1) (eqb-true _ 0 w.0) in
    subst (SpellsList cs) w.1 (record {
      before = take_while is_blank cs;
      inner = l.0;
      after = a.0.1;
      blanks = (while_passes is_blank cs, subst (λ (t : List ℕ). list_all is_blank t ≡ true) (sym (blank_whole a.0.1 nothing)) (while_passes is_blank a.0.1));
      matchers = l.1;
      whole = braces_whole cs (take_while is_blank cs) inner l.0 a.0.1 (behind_blanks (codes "{") cs inner o) l.2;
    })

rest_sound : (cs : List ℕ) (ms : List Matcher) → rest_of (without_leading_blanks cs) ≡ Some ms → SpellsRest cs ms
unfolding rest_of
rest_sound cs ms e = elim (chosen (length (without_leading_blanks cs) == 0) (Some []) (behind (codes "{") (without_leading_blanks cs) >>= braced) (Some ms) e) [
  | inl h ↦
      let nothing : without_leading_blanks cs ≡ [] = nil_from_length (without_leading_blanks cs) (eqb-true _ 0 h.0) in
      inl (subst (λ (t : List ℕ). list_all is_blank t ≡ true) (sym (blank_whole cs nothing)) (while_passes is_blank cs), sym (same_Some [] ms h.1))
  | inr h ↦
      let a = bind_some (behind (codes "{") (without_leading_blanks cs)) braced ms h.1 in
      inr (list_sound cs a.0 ms a.1 a.2)
]

-- ---- selectors

-- matchers without a name are in braces
unnamed_sound : (text : List ℕ) (o : Option (List Matcher)) (s : Selector) → without_name o ≡ Some s → ((ms : List Matcher) → o ≡ Some ms → SpellsRest text ms) → SpellsSelector text s
unnamed_sound text None s e rest = absurd (none-some s e)
unnamed_sound text (Some []) s e rest = absurd (none-some s e)
unnamed_sound text (Some (m ∷ ms)) s e rest = subst (SpellsSelector text) (same_Some (record { name = None; matchers = m ∷ ms }) s e) (go (rest (m ∷ ms) refl), λ f. cc)
  where
    go : SpellsRest text (m ∷ ms) → SpellsList text (m ∷ ms)
    go (inl h) = absurd (let f : m ∷ ms ≡ [] = h.1 in cc)
    go (inr list) = list

named_whole : (text b0 base name rest : List ℕ) → text ≡ b0 ++ base → base ≡ name ++ rest → text ≡ b0 ++ name ++ rest
named_whole text b0 base name rest a b = rw (a, b) (simp append_assoc refl)

-- what the reader gives is what the text spells
pub selector_sound : (text : List ℕ) (s : Selector) → selector_in text ≡ Some s → SpellsSelector text s
unfolding selector_in bare_selector
selector_sound text s e =
    let base = without_leading_blanks text in
    let name = take_while is_metric_char base in
    let rest = rest_while is_metric_char base in
    elim (chosen (is_metric_name name) (with_name name (rest_of (without_leading_blanks rest))) (without_name (rest_of base)) (Some s) e) [
      | inl h ↦
          let made : List Matcher → Option Selector = λ matchers. Some (record { name = Some name; matchers = matchers }) in
          let a = bind_some (rest_of (without_leading_blanks rest)) made s h.1 in
          subst (SpellsSelector text) (same_Some (record { name = Some name; matchers = a.0 }) s a.2) (record {
            first = take_while is_blank text;
            rest = rest;
            blanks = while_passes is_blank text;
            metric_name = h.0;
            list = rest_sound rest a.0 a.1;
            whole = named_whole text (take_while is_blank text) base name rest (while_parts is_blank text) (while_parts is_metric_char base);
          })
      | inr h ↦ unnamed_sound text (rest_of base) s h.1 (λ ms f. rest_sound text ms f)
    ]
