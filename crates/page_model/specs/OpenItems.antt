-- What a line of OpenMetrics 1.0 spells.
-- OpenMetrics 1.0, "Text Format", "ABNF" (exposition, metric-descriptor, sample, labels, exemplar).
use Rattle.std.specs.Prelude.{◌≡◌, ℕ, ◌⊎◌, IsTrue, List, [], ◌∷◌, ◌++◌, codes, Option, Some, None}
use Rattle.std.specs.List.{list_all}
use Rattle.label_sets.specs.declared.kind.Kind.{Kind}
use Rattle.label_sets.specs.declared.kind.Kind.TheVariants.{Counter, Gauge, Histogram, GaugeHistogram, StateSet, Info, Summary, Unknown}
use Rattle.label_sets.specs.declared.label.Label.{Label}
use Rattle.label_sets.specs.Names.{is_metric_name, is_metric_char, is_label_name}
use Rattle.label_sets.specs.Escapes.{quote_escape, unescaped, is_quotable}
use Rattle.exact_decimal.specs.Tokens.{is_number_token, is_real}
use Rattle.page_model.specs.Written.{Written, WrittenSample, WrittenExemplar, blank, comment, eof, help, type_line, unit_line, sample}

-- the word of a kind
abbrev pub kind_word : Kind → List ℕ
kind_word Counter = codes "counter"
kind_word Gauge = codes "gauge"
kind_word Histogram = codes "histogram"
kind_word GaugeHistogram = codes "gaugehistogram"
kind_word StateSet = codes "stateset"
kind_word Info = codes "info"
kind_word Summary = codes "summary"
kind_word Unknown = codes "unknown"

-- `# TYPE`, a metric name and the word of a kind
abbrev pub SpellsOpenType : List ℕ → List ℕ → Kind → Type 0
SpellsOpenType line name kind = IsTrue (is_metric_name name) × (line ≡ codes "# TYPE " ++ name ++ codes " " ++ kind_word kind)

-- `# HELP`, a metric name and an escaped text, which may be empty
abbrev pub SpellsOpenHelp : List ℕ → List ℕ → List ℕ → Type 0
SpellsOpenHelp line name text = (written : List ℕ) × IsTrue (is_metric_name name) × (text ≡ unescaped quote_escape written)
    × (line ≡ codes "# HELP " ++ name ++ codes " " ++ written)

-- `# UNIT`, a metric name and a unit, which may be empty
abbrev pub SpellsOpenUnit : List ℕ → List ℕ → List ℕ → Type 0
SpellsOpenUnit line name unit = IsTrue (is_metric_name name) × IsTrue (list_all is_metric_char unit)
    × (line ≡ codes "# UNIT " ++ name ++ codes " " ++ unit)

-- a label: name, `=` and a quoted value
abbrev pub SpellsOpenLabel : List ℕ → Label → Type 0
SpellsOpenLabel text l = (quoted : List ℕ) × IsTrue (is_label_name l.name) × IsTrue (is_quotable quoted) × (l.value ≡ unescaped quote_escape quoted)
    × (text ≡ l.name ++ codes "=\"" ++ quoted ++ codes "\"")

-- the labels behind the first, each behind a comma
abbrev pub SpellsMoreLabels : List ℕ → List Label → Type 0
SpellsMoreLabels text [] = text ≡ []
SpellsMoreLabels text (l ∷ ls) = (front rest : List ℕ) × SpellsOpenLabel front l × SpellsMoreLabels rest ls × (text ≡ 44 ∷ front ++ rest)

-- labels with a comma between each two
abbrev pub SpellsOpenLabels : List ℕ → List Label → Type 0
SpellsOpenLabels text [] = text ≡ []
SpellsOpenLabels text (l ∷ ls) = (front rest : List ℕ) × SpellsOpenLabel front l × SpellsMoreLabels rest ls × (text ≡ front ++ rest)

-- labels in braces
abbrev pub SpellsOpenList : List ℕ → List Label → Type 0
SpellsOpenList text ls = (inner : List ℕ) × SpellsOpenLabels inner ls × (text ≡ codes "{" ++ inner ++ codes "}")

-- a label list, or nothing
abbrev pub SpellsOptionalList : List ℕ → List Label → Type 0
SpellsOptionalList text ls = ((text ≡ []) × (ls ≡ [])) ⊎ SpellsOpenList text ls

-- a space and seconds, or nothing
abbrev pub SpellsOpenStamp : List ℕ → Option (List ℕ) → Type 0
SpellsOpenStamp text None = text ≡ []
SpellsOpenStamp text (Some stamp) = IsTrue (is_real stamp) × (text ≡ 32 ∷ stamp)

-- ` # `, a label list, a number and a timestamp, or nothing
abbrev pub SpellsExemplar : List ℕ → Option WrittenExemplar → Type 0
SpellsExemplar text None = text ≡ []
SpellsExemplar text (Some e) = (labels stamp : List ℕ) × SpellsOpenList labels e.labels × IsTrue (is_number_token e.value) × SpellsOpenStamp stamp e.stamp
    × (text ≡ codes " # " ++ labels ++ codes " " ++ e.value ++ stamp)

-- a metric name, labels, a number, a timestamp and an exemplar
abbrev pub SpellsOpenSample : List ℕ → WrittenSample → Type 0
SpellsOpenSample line s = (labels stamp exemplar : List ℕ) × IsTrue (is_metric_name s.name) × SpellsOptionalList labels s.labels × IsTrue (is_number_token s.value)
    × SpellsOpenStamp stamp s.stamp × SpellsExemplar exemplar s.exemplar
    × (line ≡ s.name ++ labels ++ codes " " ++ s.value ++ stamp ++ exemplar)

-- what a line of OpenMetrics spells
abbrev pub SpellsOpen : List ℕ → Written → Type 0
SpellsOpen line eof = line ≡ codes "# EOF"
SpellsOpen line (type_line name kind) = SpellsOpenType line name kind
SpellsOpen line (help name text) = SpellsOpenHelp line name text
SpellsOpen line (unit_line name unit) = SpellsOpenUnit line name unit
SpellsOpen line (sample s) = SpellsOpenSample line s
-- this format has no empty lines and no comments
SpellsOpen line blank = ⊥
SpellsOpen line comment = ⊥
