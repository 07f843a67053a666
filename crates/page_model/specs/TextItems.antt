-- What a line of the Prometheus text format 0.0.4 spells.
-- Prometheus text format 0.0.4, "Text format details": "Line format", "Comments, help text, and type information".
use Rattle.std.specs.Prelude.{◌≡◌, ◌≢◌, ℕ, ◌-◌, Bool, not, ◌⊎◌, IsTrue, List, [], ◌∷◌, ◌++◌, length, take, codes, Option, Some, None, take_while}
use Rattle.std.specs.List.{list_all, suffix_len}
use Rattle.label_sets.specs.declared.kind.Kind.{Kind}
use Rattle.label_sets.specs.declared.kind.Kind.TheVariants.{Counter, Gauge, Histogram, Summary, Unknown}
use Rattle.label_sets.specs.declared.label.Label.{Label}
use Rattle.label_sets.specs.Lists.{rest_while}
use Rattle.label_sets.specs.Names.{is_metric_name, is_label_name, is_blank}
use Rattle.label_sets.specs.Escapes.{help_escape, quote_escape, unescaped, is_quotable}
use Rattle.exact_decimal.specs.Tokens.{is_number_token, is_digits, unsigned}
use Rattle.page_model.specs.Written.{Written, WrittenSample, blank, comment, eof, help, type_line, unit_line, sample}

-- ---- blanks

-- without the blanks at the front
abbrev pub without_leading_blanks : List ℕ → List ℕ
without_leading_blanks cs = rest_while is_blank cs

-- without the blanks at both ends
unfoldable pub trimmed : List ℕ → List ℕ
trimmed line = let cs = without_leading_blanks line in take (length cs - suffix_len is_blank cs) cs

-- any number of blanks
abbrev pub AreBlanks : List ℕ → Type 0
AreBlanks cs = IsTrue (list_all is_blank cs)

-- one blank or more
abbrev pub IsGap : List ℕ → Type 0
IsGap cs = AreBlanks cs × (cs ≢ [])

-- ---- descriptors, of a trimmed line

-- neither a space nor a tab
abbrev pub is_not_blank : ℕ → Bool
is_not_blank c = not (is_blank c)

-- the first word behind the `#` of a line
abbrev pub word_behind_mark : List ℕ → List ℕ
word_behind_mark [] = []
word_behind_mark (mark ∷ cs) = take_while is_not_blank (without_leading_blanks cs)

-- a `#`, and a first word other than HELP and TYPE
pub record SpellsComment (line : List ℕ) : Type 0 where
  pub mark : (cs : List ℕ) × (line ≡ 35 ∷ cs)
  pub no_help : word_behind_mark line ≢ codes "HELP"
  pub no_type : word_behind_mark line ≢ codes "TYPE"

-- what stands behind the name of a HELP line: nothing, or blanks and the text
abbrev pub SpellsHelpText : List ℕ → List ℕ → Type 0
SpellsHelpText rest text = ((rest ≡ []) × (text ≡ []))
    ⊎ ((gap written : List ℕ) × IsGap gap × (without_leading_blanks written ≡ written) × (rest ≡ gap ++ written) × (text ≡ unescaped help_escape written))

-- `#`, HELP, a metric name and a text
pub record SpellsHelp (line name text : List ℕ) : Type 0 where
  pub first : List ℕ
  pub second : List ℕ
  pub rest : List ℕ
  pub blanks : AreBlanks first
  pub gap : IsGap second
  pub metric_name : IsTrue (is_metric_name name)
  pub help_text : SpellsHelpText rest text
  pub whole : line ≡ 35 ∷ first ++ codes "HELP" ++ second ++ name ++ rest

-- the word of a kind, where the format has it
abbrev pub text_kind_word : Kind → Option (List ℕ)
text_kind_word Counter = Some (codes "counter")
text_kind_word Gauge = Some (codes "gauge")
text_kind_word Histogram = Some (codes "histogram")
text_kind_word Summary = Some (codes "summary")
text_kind_word Unknown = Some (codes "untyped")
text_kind_word _ = None

-- `#`, TYPE, a metric name and the word of a kind
pub record SpellsType (line name : List ℕ) (kind : Kind) : Type 0 where
  pub first : List ℕ
  pub second : List ℕ
  pub third : List ℕ
  pub word : List ℕ
  pub blanks : AreBlanks first
  pub gap : IsGap second
  pub metric_name : IsTrue (is_metric_name name)
  pub other_gap : IsGap third
  pub kind_word : text_kind_word kind ≡ Some word
  pub whole : line ≡ 35 ∷ first ++ codes "TYPE" ++ second ++ name ++ third ++ word

-- ---- samples, of a trimmed line

-- a label: name, `=` and a quoted value, with blanks before each and behind the last
pub record SpellsLabel (text : List ℕ) (l : Label) : Type 0 where
  pub first : List ℕ
  pub second : List ℕ
  pub third : List ℕ
  pub quoted : List ℕ
  pub last : List ℕ
  pub blanks : AreBlanks first × AreBlanks second × AreBlanks third × AreBlanks last
  pub label_name : IsTrue (is_label_name l.name)
  pub quotable : IsTrue (is_quotable quoted)
  pub value : l.value ≡ unescaped quote_escape quoted
  pub whole : text ≡ first ++ l.name ++ second ++ codes "=" ++ third ++ codes "\"" ++ quoted ++ codes "\"" ++ last

-- labels with a comma between each two, and one behind the last or none
abbrev pub SpellsLabels : List ℕ → List Label → Type 0
SpellsLabels text [] = AreBlanks text
SpellsLabels text (l ∷ ls) = (front rest : List ℕ) × (text ≡ front ++ rest) × SpellsLabel front l
    × (((rest ≡ []) × (ls ≡ [])) ⊎ ((more : List ℕ) × (rest ≡ 44 ∷ more) × SpellsLabels more ls))

-- labels in braces, with blanks round them
pub record SpellsLabelList (text : List ℕ) (ls : List Label) : Type 0 where
  pub before : List ℕ
  pub inner : List ℕ
  pub after : List ℕ
  pub blanks : AreBlanks before × AreBlanks after
  pub labels : SpellsLabels inner ls
  pub whole : text ≡ before ++ codes "{" ++ inner ++ codes "}" ++ after

-- what stands between the name and the value: blanks, or a label list
abbrev pub SpellsMiddle : List ℕ → List Label → Type 0
SpellsMiddle text ls = (IsGap text × (ls ≡ [])) ⊎ SpellsLabelList text ls

-- a whole number with an optional sign
unfoldable pub is_integer_token : List ℕ → Bool
is_integer_token token = is_digits (unsigned token)

-- what stands behind the value: nothing, or blanks and whole milliseconds
abbrev pub SpellsStamp : List ℕ → Option (List ℕ) → Type 0
SpellsStamp text None = text ≡ []
SpellsStamp text (Some stamp) = (gap : List ℕ) × IsGap gap × IsTrue (is_integer_token stamp) × (text ≡ gap ++ stamp)

-- a metric name, labels, a number and a timestamp
pub record SpellsSample (line : List ℕ) (s : WrittenSample) : Type 0 where
  pub middle : List ℕ
  pub rest : List ℕ
  pub metric_name : IsTrue (is_metric_name s.name)
  pub labels : SpellsMiddle middle s.labels
  pub value : IsTrue (is_number_token s.value)
  pub stamp : SpellsStamp rest s.stamp
  pub no_exemplar : s.exemplar ≡ None
  pub whole : line ≡ s.name ++ middle ++ s.value ++ rest

-- ---- lines

-- what a trimmed line spells
abbrev pub SpellsTrimmed : List ℕ → Written → Type 0
SpellsTrimmed line blank = line ≡ []
SpellsTrimmed line comment = SpellsComment line
SpellsTrimmed line (help name text) = SpellsHelp line name text
SpellsTrimmed line (type_line name kind) = SpellsType line name kind
SpellsTrimmed line (sample s) = SpellsSample line s
-- this format has no UNIT and no EOF
SpellsTrimmed line (unit_line name unit) = ⊥
SpellsTrimmed line eof = ⊥

-- what a line of the text format spells
abbrev pub SpellsText : List ℕ → Written → Type 0
SpellsText line w = SpellsTrimmed (trimmed line) w
