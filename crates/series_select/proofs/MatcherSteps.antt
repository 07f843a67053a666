-- Selectors, step by step.
use Rattle.std.proofs.Common.{◌≡◌, ℕ, suc, Bool, true, false, List, [], ◌∷◌, ◌++◌, length, Option, Some, None, refl, sym, ap, ◌∙◌, append_assoc}
use Rattle.std.specs.Option.{option_or}
use Rattle.std.specs.Prelude.{take_while, option_map, ◌==◌}
use Rattle.std.specs.Str.{is_utf8}
use Rattle.std.proofs.lemmas.List.{append-nil}
use Rattle.label_sets.specs.Lists.{◌>>=◌, when_true, behind}
use Rattle.label_sets.specs.Names.{is_metric_name, is_metric_char, is_label_name, is_label_char}
use Rattle.label_sets.specs.Escapes.{quote_escape, unescaped, quoted_at}
use Rattle.page_model.specs.TextItems.{without_leading_blanks}
use Rattle.line_scan.specs.declared.scan.Cut.{Cut}
use Rattle.line_scan.specs.declared.labels.AfterLabel.{AfterLabel}
use Rattle.line_scan.specs.declared.labels.AfterLabel.TheVariants.{End, More, Broken}
use Rattle.line_scan.specs.LabelReading.{IsAfter}
use Rattle.line_scan.specs.Cuts.{IsNamed}
use Rattle.series_select.specs.declared.selector.Matcher.{Matcher}
use Rattle.series_select.specs.SelectorReading.{sign_at, matcher_at, matchers_at, braced, rest_of, with_name, without_name, bare_selector}
use Rattle.series_select.specs.SelectorSteps.{behind_matchers, IsNextMatcher}

-- ---- a matcher

pub matcher-no_name : (cs : List ℕ) → is_label_name (take_while is_label_char cs) ≡ false → matcher_at cs ≡ None
unfolding matcher_at
matcher-no_name cs h = rw h refl

module _ (cs : List ℕ) (cut : Cut) (n : IsNamed is_label_name is_label_char cs cut) (w : List ℕ) (bare : w ≡ without_leading_blanks cut.rest.now) where
  pub matcher-no_sign : None ≡ sign_at w → matcher_at cs ≡ None
  unfolding matcher_at
  matcher-no_sign h = rw (n.named, ← n.rest, ← bare, ← h) refl

  module _ (differs : Bool) (value v : List ℕ) (sign : Some (differs, value) ≡ sign_at w) (bare_value : v ≡ without_leading_blanks value) where
    pub matcher-no_opening : None ≡ behind (34 ∷ []) v → matcher_at cs ≡ None
    unfolding matcher_at
    matcher-no_opening h = rw (n.named, ← n.rest, ← bare, ← sign, ← bare_value, ← h) refl

    module _ (opened : List ℕ) (opening : Some opened ≡ behind (34 ∷ []) v) where
      pub matcher-no_end : None ≡ quoted_at opened → matcher_at cs ≡ None
      unfolding matcher_at
      matcher-no_end h = rw (n.named, ← n.rest, ← bare, ← sign, ← bare_value, ← opening, ← h) refl

      module _ (written behind_quote : List ℕ) (quoted : Some (written, behind_quote) ≡ quoted_at opened) where
        pub matcher-no_text : is_utf8 written ≡ false → matcher_at cs ≡ None
        unfolding matcher_at
        matcher-no_text h = rw (n.named, ← n.rest, ← bare, ← sign, ← bare_value, ← opening, ← quoted, h) refl

        pub matcher-found : (rest : List ℕ) → is_utf8 written ≡ true → rest ≡ without_leading_blanks behind_quote
            → matcher_at cs ≡ Some (record { name = cut.front.now; differs = differs; value = unescaped quote_escape written }, rest)
        unfolding matcher_at
        matcher-found rest h e = rw (n.named, ← n.rest, ← bare, ← sign, ← bare_value, ← opening, ← quoted, h, e, n.front) refl

-- ---- matchers

matchers_after : (cs : List ℕ) (x : Matcher × List ℕ) → behind (125 ∷ []) cs ≡ None → matcher_at cs ≡ Some x → (more : ℕ) → (w : List ℕ) → cs ≡ without_leading_blanks w
    → matchers_at (suc more) w ≡ option_or (behind (125 ∷ []) x.1 >>= λ rest. Some (x.0 ∷ [], rest)) (behind (44 ∷ []) x.1 >>= matchers_at more >>= λ y. Some (x.0 ∷ y.0, y.1))
unfolding matchers_at
matchers_after cs x none found more w e = rw (← e, none, found) refl

pub next-end : (w cs rest : List ℕ) (before : List Matcher) → cs ≡ without_leading_blanks w → Some rest ≡ behind (125 ∷ []) cs → (more : ℕ) → behind_matchers before (matchers_at (suc more) w) ≡ Some (before, rest)
unfolding matchers_at
next-end w cs rest before e h more = rw (← e, ← h, append-nil) refl

pub next-broken : (w cs : List ℕ) → cs ≡ without_leading_blanks w → None ≡ behind (125 ∷ []) cs → matcher_at cs ≡ None → (more : ℕ) → matchers_at (suc more) w ≡ None
unfolding matchers_at
next-broken w cs e h none more = rw (← e, ← h, none) refl

grown_matchers : (before : List Matcher) (m : Matcher) (o : Option (List Matcher × List ℕ)) → behind_matchers before (o >>= λ y. Some (m ∷ y.0, y.1)) ≡ behind_matchers (before ++ m ∷ []) o
grown_matchers before m None = refl
grown_matchers before m (Some y) = ap (λ (ms : List Matcher). Some (ms, y.1)) (sym (append_assoc before (m ∷ []) y.0))

-- behind a matcher
pub next-matcher : (w cs rest : List ℕ) (before after : List Matcher) (m : Matcher) (next : AfterLabel) → cs ≡ without_leading_blanks w → None ≡ behind (125 ∷ []) cs → matcher_at cs ≡ Some (m, rest)
    → after ≡ before ++ m ∷ [] → IsAfter rest next → IsNextMatcher w before after next
next-matcher w cs rest before after m (End r) e none found grown h =
    λ more. ap (behind_matchers before) (matchers_after cs (m, rest) (sym none) found more w e) ∙ rw (h.0, grown) refl
next-matcher w cs rest before after m (More r) e none found grown h =
    λ more. ap (behind_matchers before) (matchers_after cs (m, rest) (sym none) found more w e) ∙ rw (h.0, h.1, grown) (grown_matchers before m (matchers_at more r.now))
next-matcher w cs rest before after m Broken e none found grown h =
    λ more. matchers_after cs (m, rest) (sym none) found more w e ∙ rw (h.0, h.1) refl

-- in front of what is read nothing was read
pub behind_nothing : (o : Option (List Matcher × List ℕ)) → behind_matchers [] o ≡ o
behind_nothing None = refl
behind_nothing (Some x) = refl

-- ---- what stands behind a name

abbrev pair_with : List Matcher → List ℕ → List Matcher × List ℕ
pair_with ms cs = (ms, cs)

module _ (cs : List ℕ) (ms : List Matcher) where
  pub rest-nothing : (length cs == 0) ≡ true → ms ≡ [] → Some ms ≡ rest_of cs
  unfolding rest_of
  rest-nothing h none = rw (h, none) refl

  pub rest-no_brace : (length cs == 0) ≡ false → None ≡ behind (123 ∷ []) cs → None ≡ rest_of cs
  unfolding rest_of
  rest-no_brace h e = rw (h, ← e) refl

  module _ (before : List Matcher) (inner : List ℕ) (some : (length cs == 0) ≡ false) (brace : Some inner ≡ behind (123 ∷ []) cs) (none : before ≡ []) (found : Option (List ℕ))
      (read : option_map (λ r. pair_with ms r) found ≡ behind_matchers before (matchers_at (length inner) inner)) where
    matchers_are : option_map (λ r. pair_with ms r) found ≡ matchers_at (length inner) inner
    matchers_are = read ∙ ap (λ (b : List Matcher). behind_matchers b (matchers_at (length inner) inner)) none ∙ behind_nothing (matchers_at (length inner) inner)

    pub rest-broken : found ≡ None → None ≡ rest_of cs
    unfolding rest_of braced
    rest-broken e = let list = rw e at matchers_are in rw (some, ← brace, ← list) refl

    pub rest-read : (rest bare : List ℕ) (whole : Bool) → found ≡ Some rest → bare ≡ without_leading_blanks rest → whole ≡ (length bare == 0) → when_true whole ms ≡ rest_of cs
    unfolding rest_of braced
    rest-read rest bare whole e is h = let list = rw e at matchers_are in rw (some, ← brace, ← list, ← is, ← h) refl

-- ---- selectors

pub bare-named : (cs : List ℕ) (cut : Cut) → IsNamed is_metric_name is_metric_char cs cut → with_name cut.front.now (rest_of (without_leading_blanks cut.rest.now)) ≡ bare_selector cs
unfolding bare_selector
bare-named cs cut n = rw (n.named, ← n.rest, n.front) refl

pub bare-unnamed : (cs : List ℕ) → is_metric_name (take_while is_metric_char cs) ≡ false → without_name (rest_of cs) ≡ bare_selector cs
unfolding bare_selector
bare-unnamed cs h = rw h refl
