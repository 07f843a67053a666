-- Selectors and queries, by computation. What each is was told by a model in another language.
use Rattle.std.proofs.Common.{◌≡◌, ℕ, Bool, true, false, List, [], ◌∷◌, ◌++◌, map, Option, Some, None, codes, refl}
use Rattle.std.specs.Str.{is_utf8, chars}
use Rattle.std.specs.Char.{encode_utf8}
use Rattle.std.specs.Str.Lossy.{utf8_valid_len, utf8_error_len, utf8_lossy}
use Rattle.percent_encoding.specs.Percent.{percent_decode}
use Rattle.form_urlencoded.specs.Form.{split, raw_pairs}
use Rattle.series_select.specs.declared.selector.Selector.{Selector}
use Rattle.series_select.specs.declared.selector.Matcher.{Matcher}
use Rattle.series_select.specs.Selectors.{match_values}
use Rattle.series_select.specs.SelectorReading.{sign_at, matcher_at, matchers_at, braced, rest_of, bare_selector, selector_in}

-- ---- selectors

abbrev matcher : List ℕ → Bool → List ℕ → Matcher
matcher name differs value = record { name = name; differs = differs; value = value }

abbrev selector : Option (List ℕ) → List Matcher → Selector
selector name matchers = record { name = name; matchers = matchers }

-- a text, and the selector that it is
record Parsing : Type 0 where
  text : List ℕ
  is : Option Selector

abbrev parsing : List ℕ → Option Selector → Parsing
parsing text is = record { text = text; is = is }

abbrev selectors : List Parsing
selectors =
    -- a name
    parsing (codes "x") (Some (selector (Some (codes "x")) ([]))) ∷
    -- blanks round a name
    parsing (codes " \tx ") (Some (selector (Some (codes "x")) ([]))) ∷
    -- a name with colons
    parsing (codes ":a:1") (Some (selector (Some (codes ":a:1")) ([]))) ∷
    -- a name and no matchers
    parsing (codes "x{}") (Some (selector (Some (codes "x")) ([]))) ∷
    -- no name and no matchers
    parsing (codes "{}") None ∷
    -- nothing
    parsing ([]) None ∷
    -- blanks alone
    parsing (codes "  ") None ∷
    -- a matcher alone
    parsing (codes "{a=\"b\"}") (Some (selector None (matcher (codes "a") false (codes "b") ∷ []))) ∷
    -- a name and a matcher
    parsing (codes "x{a=\"b\"}") (Some (selector (Some (codes "x")) (matcher (codes "a") false (codes "b") ∷ []))) ∷
    -- another value
    parsing (codes "x{a!=\"b\"}") (Some (selector (Some (codes "x")) (matcher (codes "a") true (codes "b") ∷ []))) ∷
    -- a comma behind
    parsing (codes "x{a=\"b\",}") (Some (selector (Some (codes "x")) (matcher (codes "a") false (codes "b") ∷ []))) ∷
    -- two commas behind
    parsing (codes "x{a=\"b\",,}") None ∷
    -- a comma alone
    parsing (codes "x{,}") None ∷
    -- two matchers in their order
    parsing (codes "{b=\"2\",a=\"1\"}") (Some (selector None (matcher (codes "b") false (codes "2") ∷ matcher (codes "a") false (codes "1") ∷ []))) ∷
    -- the same name twice
    parsing (codes "{a=\"1\",a!=\"2\"}") (Some (selector None (matcher (codes "a") false (codes "1") ∷ matcher (codes "a") true (codes "2") ∷ []))) ∷
    -- blanks between all tokens
    parsing (codes " x { a = \"b\" , c != \"d\" , } ") (Some (selector (Some (codes "x")) (matcher (codes "a") false (codes "b") ∷ matcher (codes "c") true (codes "d") ∷ []))) ∷
    -- blanks within a sign
    parsing (codes "{a! =\"b\"}") None ∷
    -- escapes
    parsing (codes "{a=\"\\\\\\\"\\n\\q\"}") (Some (selector None (matcher (codes "a") false (codes "\\\"\n\\q") ∷ []))) ∷
    -- a name of labels with a colon
    parsing (codes "{a:b=\"c\"}") None ∷
    -- a name that begins with a digit
    parsing (codes "1x") None ∷
    -- a regular expression
    parsing (codes "{a=~\"b\"}") None ∷
    -- single quotes
    parsing (codes "{a='b'}") None ∷
    -- no closing brace
    parsing (codes "{a=\"b\"") None ∷
    -- something behind
    parsing (codes "x{a=\"b\"}y") None ∷
    -- two names
    parsing (codes "x y") None ∷
    -- a quote that stays open
    parsing (codes "{a=\"b}") None ∷
    -- a matcher on the name
    parsing (codes "{__name__=\"x\"}") (Some (selector None (matcher (codes "__name__") false (codes "x") ∷ []))) ∷
    -- an offset
    parsing (codes "x offset") None ∷
    -- a letter of two bytes
    parsing (codes "{a=\"" ++ (195 ∷ 169 ∷ []) ++ codes "\"}") (Some (selector None (matcher (codes "a") false ((195 ∷ 169 ∷ [])) ∷ []))) ∷
    -- a line feed
    parsing (codes "x\n") None ∷
    -- an empty value
    parsing (codes "x{a=\"\"}") (Some (selector (Some (codes "x")) (matcher (codes "a") false ([]) ∷ []))) ∷ []

selectors_are_so : map (λ (c : Parsing). selector_in c.text) selectors ≡ map (λ (c : Parsing). c.is) selectors
unfolding is_utf8 chars encode_utf8 sign_at matcher_at matchers_at braced rest_of bare_selector selector_in
selectors_are_so = refl

-- ---- queries

-- a query, and for each of its values the selector that it is
record Asking : Type 0 where
  query : List ℕ
  are : List (Option Selector)

abbrev asking : List ℕ → List (Option Selector) → Asking
asking query are = record { query = query; are = are }

abbrev queries : List Asking
queries =
    -- no query
    asking ([]) ([]) ∷
    -- one selector
    asking (codes "match[]=x") (Some (selector (Some (codes "x")) ([])) ∷ []) ∷
    -- encoded brackets and braces
    asking (codes "match%5B%5D=%7B") (None ∷ []) ∷
    -- a list
    asking (codes "match%5B%5D=%7Ba%3D%22b%22%7D") (Some (selector None (matcher (codes "a") false (codes "b") ∷ [])) ∷ []) ∷
    -- two selectors, other pairs between
    asking (codes "match[]=x&a=b&&match[]=y%7B%7D") (Some (selector (Some (codes "x")) ([])) ∷ Some (selector (Some (codes "y")) ([])) ∷ []) ∷
    -- the second is none
    asking (codes "match[]=x&match[]=&match[]=%7B") (Some (selector (Some (codes "x")) ([])) ∷ None ∷ None ∷ []) ∷
    -- a plus is a space
    asking (codes "match[]=+x+") (Some (selector (Some (codes "x")) ([])) ∷ []) ∷
    -- another name
    asking (codes "match=x") ([]) ∷
    -- no value
    asking (codes "match[]") (None ∷ []) ∷
    -- bytes that are no text
    asking (codes "match[]=%FF") (None ∷ []) ∷
    -- a value that is no text
    asking (codes "match[]=%7Ba=%22%FFb%C3%22%7D") (Some (selector None (matcher (codes "a") false ((239 ∷ 191 ∷ 189 ∷ []) ++ codes "b" ++ (239 ∷ 191 ∷ 189 ∷ [])) ∷ [])) ∷ []) ∷
    -- a name that is no text
    asking (codes "match[]%FF=x") ([]) ∷ []

queries_are_so : map (λ (c : Asking). map selector_in (match_values c.query)) queries ≡ map (λ (c : Asking). c.are) queries
unfolding is_utf8 chars encode_utf8 sign_at matcher_at matchers_at braced rest_of bare_selector selector_in split raw_pairs percent_decode utf8_valid_len utf8_error_len utf8_lossy
queries_are_so = refl
