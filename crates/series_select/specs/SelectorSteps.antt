-- What the steps of the reader of a selector give: words of this crate's own functions.
-- The bridge's own.
use Rattle.std.specs.Prelude.{◌≡◌, ℕ, suc, Bool, List, ◌++◌, Option, Some, None, option_map, IsUtf8}
use Rattle.std.specs.List.{list_any}
use Rattle.label_sets.specs.Lists.{◌>>=◌}
use Rattle.label_sets.specs.Escapes.{is_backslash, quote_escape, unescaped}
use Rattle.line_scan.specs.declared.labels.AfterLabel.{AfterLabel}
use Rattle.line_scan.specs.declared.labels.AfterLabel.TheVariants.{End, More, Broken}
use Rattle.series_select.specs.declared.parsing.Sign.{Sign}
use Rattle.series_select.specs.declared.parsing.MatcherParts.{MatcherParts}
use Rattle.series_select.specs.declared.selector.Matcher.{Matcher}
use Rattle.series_select.specs.SelectorReading.{matchers_at}

-- what a sign says, and what stands behind it
abbrev pub sign_told : Sign → Bool × List ℕ
sign_told sign = (sign.differs, sign.rest.now)

-- the matcher that written parts make
abbrev pub matcher_of : MatcherParts → Matcher
matcher_of parts = record { name = parts.name.now; differs = parts.differs; value = unescaped quote_escape parts.written.now }

-- the parts are those of the matcher that was found
pub record IsMatcherFound (found : Option (Matcher × List ℕ)) (parts : MatcherParts) : Type 0 where
  pub matcher : found ≡ Some (matcher_of parts, parts.rest.now)
  pub backslash : parts.has_backslash ≡ list_any is_backslash parts.written.now
  pub utf8_name : IsUtf8 parts.name.now
  pub utf8_written : IsUtf8 parts.written.now

-- matchers read before, in front of those that are read
abbrev pub behind_matchers : List Matcher → Option (List Matcher × List ℕ) → Option (List Matcher × List ℕ)
behind_matchers before found = found >>= λ x. Some (before ++ x.0, x.1)

-- one step through a list: the matchers are all read, go on behind those that are read, or are none
abbrev pub IsNextMatcher : List ℕ → List Matcher → List Matcher → AfterLabel → Type 0
IsNextMatcher bytes before after (End rest) = (more : ℕ) → behind_matchers before (matchers_at (suc more) bytes) ≡ Some (after, rest.now)
IsNextMatcher bytes before after (More rest) = (more : ℕ) → behind_matchers before (matchers_at (suc more) bytes) ≡ behind_matchers after (matchers_at more rest.now)
IsNextMatcher bytes before after Broken = (more : ℕ) → matchers_at (suc more) bytes ≡ None

-- what stands behind the closing brace of the matchers at the front; the number bounds how many
abbrev pub behind_list : ℕ → List ℕ → Option (List ℕ)
behind_list most cs = option_map (λ (x : List Matcher × List ℕ). x.1) (matchers_at most cs)

-- one step through a list of which no matcher is made: it ends, goes on behind a matcher, or is none
abbrev pub IsNextEnd : List ℕ → AfterLabel → Type 0
IsNextEnd bytes (End rest) = (more : ℕ) → behind_list (suc more) bytes ≡ Some rest.now
IsNextEnd bytes (More rest) = (more : ℕ) → behind_list (suc more) bytes ≡ behind_list more rest.now
IsNextEnd bytes Broken = (more : ℕ) → behind_list (suc more) bytes ≡ None
