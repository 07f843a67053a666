-- Selectors of series, and the query that carries them.
-- Prometheus, "Querying: Time series selectors" (instant vector selectors, without regular expressions), "Federation" (`match[]`); URL Standard, section 5.
-- Which of the forms are taken is the bridge's own.
use Rattle.std.specs.Prelude.{◌≡◌, ◌≢◌, ℕ, ◌+◌, ◌⊎◌, Bool, true, false, IsTrue, ⊤, List, [], ◌∷◌, ◌++◌, codes, Option, Some, None, map, filter, length}
use Rattle.std.specs.Str.{bytes_eq, is_utf8}
use Rattle.std.specs.Str.Lossy.{utf8_lossy}
use Rattle.label_sets.specs.Names.{is_metric_name, is_label_name}
use Rattle.label_sets.specs.Escapes.{quote_escape, unescaped, is_quotable}
use Rattle.page_model.specs.TextItems.{AreBlanks}
use Rattle.form_urlencoded.specs.Form.{raw_pairs, decode}
use Rattle.series_select.specs.declared.fault.SelectFault.{SelectFault}
use Rattle.series_select.specs.declared.fault.SelectFault.TheVariants as select_faults
use Rattle.series_select.specs.declared.fault.QueryFault.{QueryFault}
use Rattle.series_select.specs.declared.fault.QueryFault.TheVariants as query_faults
use Rattle.series_select.specs.declared.selector.Selector.{Selector}
use Rattle.series_select.specs.declared.selector.Matcher.{Matcher}

-- ---- selectors

-- `!=` or `=`
abbrev pub sign_of : Bool → List ℕ
sign_of true = codes "!="
sign_of false = codes "="

-- a matcher: a label name, a sign and a quoted value that is a text, with blanks before each and behind the last
pub record SpellsMatcher (text : List ℕ) (m : Matcher) : Type 0 where
  pub first : List ℕ
  pub second : List ℕ
  pub third : List ℕ
  pub quoted : List ℕ
  pub last : List ℕ
  pub blanks : AreBlanks first × AreBlanks second × AreBlanks third × AreBlanks last
  pub label_name : IsTrue (is_label_name m.name)
  pub quotable : IsTrue (is_quotable quoted)
  pub value : m.value ≡ unescaped quote_escape quoted
  pub value_text : IsTrue (is_utf8 m.value)
  pub whole : text ≡ first ++ m.name ++ second ++ sign_of m.differs ++ third ++ codes "\"" ++ quoted ++ codes "\"" ++ last

-- matchers with a comma between each two, and one behind the last or none
abbrev pub SpellsMatchers : List ℕ → List Matcher → Type 0
SpellsMatchers text [] = AreBlanks text
SpellsMatchers text (m ∷ ms) = (front rest : List ℕ) × (text ≡ front ++ rest) × SpellsMatcher front m
    × (((rest ≡ []) × (ms ≡ [])) ⊎ ((more : List ℕ) × (rest ≡ 44 ∷ more) × SpellsMatchers more ms))

-- matchers in braces, with blanks round them
pub record SpellsList (text : List ℕ) (ms : List Matcher) : Type 0 where
  pub before : List ℕ
  pub inner : List ℕ
  pub after : List ℕ
  pub blanks : AreBlanks before × AreBlanks after
  pub matchers : SpellsMatchers inner ms
  pub whole : text ≡ before ++ codes "{" ++ inner ++ codes "}" ++ after

-- what stands behind the name: nothing but blanks, or a list
abbrev pub SpellsRest : List ℕ → List Matcher → Type 0
SpellsRest text ms = (AreBlanks text × (ms ≡ [])) ⊎ SpellsList text ms

-- a name with a list or none, with blanks before it
pub record SpellsNamed (text : List ℕ) (name : List ℕ) (ms : List Matcher) : Type 0 where
  pub first : List ℕ
  pub rest : List ℕ
  pub blanks : AreBlanks first
  pub metric_name : IsTrue (is_metric_name name)
  pub list : SpellsRest rest ms
  pub whole : text ≡ first ++ name ++ rest

-- a name with a list or none, or a list with a matcher at least
abbrev pub SpellsParts : List ℕ → Option (List ℕ) → List Matcher → Type 0
SpellsParts text None ms = SpellsList text ms × (ms ≢ [])
SpellsParts text (Some name) ms = SpellsNamed text name ms

-- the text is the selector
abbrev pub SpellsSelector : List ℕ → Selector → Type 0
SpellsSelector text s = SpellsParts text s.name s.matchers

-- the text is a selector
abbrev pub IsSelector : List ℕ → Type 0
IsSelector text = (s : Selector) × SpellsSelector text s

-- the text is no selector
abbrev pub IsNoSelector : List ℕ → Type 0
IsNoSelector text = (s : Selector) → ¬ SpellsSelector text s

-- why a text is not read as a selector: it is none, unless memory is wanting
abbrev pub IsSelectFault : List ℕ → SelectFault → Type 0
IsSelectFault text select_faults.Form = IsNoSelector text
IsSelectFault text select_faults.Memory = ⊤

-- ---- queries

-- the text that bytes of a query stand for, with U+FFFD for each sequence that is no character
abbrev pub text_of : List ℕ → List ℕ
text_of bytes = utf8_lossy (decode bytes)

-- the name of the values that are selectors
abbrev pub is_match : List ℕ → Bool
is_match name = bytes_eq name (codes "match[]")

-- the values of `match[]` among pairs, as texts in their order
abbrev pub selector_texts : List (List ℕ × List ℕ) → List (List ℕ)
selector_texts pairs = map (λ (pair : List ℕ × List ℕ). text_of pair.1) (filter (λ (pair : List ℕ × List ℕ). is_match (text_of pair.0)) pairs)

-- the values of `match[]` in a query
abbrev pub match_values : List ℕ → List (List ℕ)
match_values query = selector_texts (raw_pairs query)

-- the texts are these selectors, in their order
abbrev pub SpellEach : List (List ℕ) → List Selector → Type 0
SpellEach [] [] = ⊤
SpellEach [] (s ∷ ss) = ⊥
SpellEach (text ∷ texts) [] = ⊥
SpellEach (text ∷ texts) (s ∷ ss) = SpellsSelector text s × SpellEach texts ss

-- the text of this number, counted from 1, is the first that is no selector
pub record IsFirstOther (texts : List (List ℕ)) (number : ℕ) : Type 0 where
  pub front : List (List ℕ)
  pub text : List ℕ
  pub rest : List (List ℕ)
  pub whole : texts ≡ front ++ text ∷ rest
  pub count : number ≡ length front + 1
  pub selectors : (ss : List Selector) × SpellEach front ss
  pub other : IsNoSelector text

-- why a query is not read: one of the texts is the first that is no selector, unless memory is wanting
abbrev pub HasOther : List (List ℕ) → QueryFault → Type 0
HasOther texts (query_faults.Selector number) = IsFirstOther texts number
HasOther texts query_faults.Memory = ⊤
