-- The selector that a text is, found from left to right: what the reader gives.
-- The bridge's own way to find it; that it agrees with `SpellsSelector` is proved.
use Rattle.std.specs.Prelude.{ℕ, zero, suc, Bool, true, false, List, [], ◌∷◌, length, codes, Option, Some, None, take_while, ◌==◌, if◌then◌else◌}
use Rattle.std.specs.Option.{option_or}
use Rattle.std.specs.Str.{is_utf8}
use Rattle.label_sets.specs.Lists.{◌>>=◌, when_true, rest_while, behind}
use Rattle.label_sets.specs.Names.{is_metric_name, is_metric_char, is_label_name, is_label_char}
use Rattle.label_sets.specs.Escapes.{quote_escape, unescaped, quoted_at}
use Rattle.page_model.specs.TextItems.{without_leading_blanks}
use Rattle.series_select.specs.declared.selector.Selector.{Selector}
use Rattle.series_select.specs.declared.selector.Matcher.{Matcher}

-- a sign at the front, and what stands behind it
unfoldable pub sign_at : List ℕ → Option (Bool × List ℕ)
sign_at cs = option_or (behind (codes "!=") cs >>= λ rest. Some (true, rest)) (behind (codes "=") cs >>= λ rest. Some (false, rest))

-- a matcher at the front, and what stands behind it and its blanks
unfoldable pub matcher_at : List ℕ → Option (Matcher × List ℕ)
matcher_at cs =
    let name = take_while is_label_char cs in
    do
      _ ← when_true (is_label_name name) name
      sign ← sign_at (without_leading_blanks (rest_while is_label_char cs))
      opened ← behind (codes "\"") (without_leading_blanks sign.1)
      quoted ← quoted_at opened
      when_true (is_utf8 quoted.0) (record { name = name; differs = sign.0; value = unescaped quote_escape quoted.0 }, without_leading_blanks quoted.1)

-- matchers up to the closing brace, and what stands behind it; the number bounds how many
unfoldable pub matchers_at : ℕ → List ℕ → Option (List Matcher × List ℕ)
matchers_at zero cs = None
matchers_at (suc more) cs = option_or (behind (codes "}") (without_leading_blanks cs) >>= λ rest. Some ([], rest))
    (matcher_at (without_leading_blanks cs) >>= λ x.
    option_or (behind (codes "}") x.1 >>= λ rest. Some (x.0 ∷ [], rest))
    (behind (codes ",") x.1 >>= matchers_at more >>= λ y. Some (x.0 ∷ y.0, y.1)))

-- the matchers behind an opening brace, where nothing but blanks stands behind the closing one
unfoldable pub braced : List ℕ → Option (List Matcher)
braced inner = matchers_at (length inner) inner >>= λ list. when_true (length (without_leading_blanks list.1) == 0) list.0

-- no matchers where nothing is left, else those of a list that is all that is left
unfoldable pub rest_of : List ℕ → Option (List Matcher)
rest_of cs = if length cs == 0 then Some [] else (behind (codes "{") cs >>= braced)

-- a name and the matchers behind it
abbrev pub with_name : List ℕ → Option (List Matcher) → Option Selector
with_name name rest = rest >>= λ matchers. Some (record { name = Some name; matchers = matchers })

-- matchers without a name, of which there is one at least
abbrev pub without_name : Option (List Matcher) → Option Selector
without_name None = None
without_name (Some []) = None
without_name (Some (m ∷ ms)) = Some (record { name = None; matchers = m ∷ ms })

-- the selector that a text without leading blanks is
unfoldable pub bare_selector : List ℕ → Option Selector
bare_selector cs =
    let name = take_while is_metric_char cs in
    (if is_metric_name name then with_name name (rest_of (without_leading_blanks (rest_while is_metric_char cs))) else without_name (rest_of cs))

-- the selector that a text is
unfoldable pub selector_in : List ℕ → Option Selector
selector_in text = bare_selector (without_leading_blanks text)
