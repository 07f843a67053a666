-- The one item that a line of OpenMetrics spells, found from left to right: what a reader of one line gives.
-- The bridge's own way to find it; that it agrees with `SpellsOpen` is proved.
use Rattle.std.specs.Prelude.{ℕ, zero, suc, Bool, not, List, [], ◌∷◌, length, codes, Option, Some, None, take_while, ◌==◌, if◌then◌else◌}
use Rattle.std.specs.List.{list_all}
use Rattle.std.specs.Option.{option_or}
use Rattle.std.specs.Str.{bytes_eq}
use Rattle.label_sets.specs.declared.kind.Kind.{Kind}
use Rattle.label_sets.specs.declared.kind.Kind.TheVariants.{Counter, Gauge, Histogram, GaugeHistogram, StateSet, Info, Summary, Unknown}
use Rattle.label_sets.specs.declared.label.Label.{Label}
use Rattle.label_sets.specs.Lists.{◌>>=◌, when_true, first_some, rest_while, behind}
use Rattle.label_sets.specs.Names.{is_metric_name, is_metric_char, is_label_name, is_label_char}
use Rattle.label_sets.specs.Escapes.{quote_escape, unescaped, quoted_at}
use Rattle.exact_decimal.specs.Tokens.{is_number_token, is_real}
use Rattle.page_model.specs.Written.{Written, WrittenExemplar, eof, help, type_line, unit_line, sample}
use Rattle.page_model.specs.OpenItems.{kind_word}

-- no space
abbrev pub is_not_space : ℕ → Bool
is_not_space c = not (c == 32)

-- a label at the front, and what stands behind it
unfoldable pub label_at : List ℕ → Option (Label × List ℕ)
label_at cs =
    let name = take_while is_label_char cs in
    do
      _ ← when_true (is_label_name name) name
      value ← behind (codes "=\"") (rest_while is_label_char cs)
      quoted ← quoted_at value
      Some (record { name = name; value = unescaped quote_escape quoted.0 }, quoted.1)

-- labels up to the closing brace, from behind the first; the number bounds how many
unfoldable pub more_labels_at : ℕ → List ℕ → Option (List Label × List ℕ)
more_labels_at zero cs = None
more_labels_at (suc more) cs = option_or (behind (codes "}") cs >>= λ rest. Some ([], rest))
    (behind (codes ",") cs >>= label_at >>= λ x. more_labels_at more x.1 >>= λ y. Some (x.0 ∷ y.0, y.1))

-- a label list, and what stands behind it
unfoldable pub list_at : List ℕ → Option (List Label × List ℕ)
list_at cs = behind (codes "{") cs >>= λ inner.
    option_or (behind (codes "}") inner >>= λ rest. Some ([], rest))
    (label_at inner >>= λ x. more_labels_at (length inner) x.1 >>= λ y. Some (x.0 ∷ y.0, y.1))

-- a label list or none, and what stands behind
unfoldable pub optional_list_at : List ℕ → Option (List Label × List ℕ)
optional_list_at [] = Some ([], [])
optional_list_at (c ∷ cs) = if c == 123 then list_at (c ∷ cs) else Some ([], c ∷ cs)

-- a space and a number, and what stands behind them
unfoldable pub value_at : List ℕ → Option (List ℕ × List ℕ)
value_at cs = behind (codes " ") cs >>= λ text.
    let value = take_while is_not_space text in
    when_true (is_number_token value) (value, rest_while is_not_space text)

-- a space and seconds or nothing, and what stands behind; ` # ` begins an exemplar
unfoldable pub stamp_at : List ℕ → Option (Option (List ℕ) × List ℕ)
stamp_at [] = Some (None, [])
stamp_at (c ∷ cs) = option_or (behind (codes " # ") (c ∷ cs) >>= λ rest. Some (None, c ∷ cs)) (behind (codes " ") (c ∷ cs) >>= λ text.
    let stamp = take_while is_not_space text in
    when_true (is_real stamp) (Some stamp, rest_while is_not_space text))

-- an exemplar that is all that is left, or nothing
unfoldable pub exemplar_of : List ℕ → Option (Option WrittenExemplar)
exemplar_of [] = Some None
exemplar_of (c ∷ cs) = do
  body ← behind (codes " # ") (c ∷ cs)
  labels ← list_at body
  value ← value_at labels.1
  stamp ← stamp_at value.1
  when_true (bytes_eq stamp.1 []) (Some (record { labels = labels.0; value = value.0; stamp = stamp.0 }))

-- a sample line
unfoldable pub sample_of : List ℕ → Option Written
sample_of cs =
    let name = take_while is_metric_char cs in
    do
      _ ← when_true (is_metric_name name) name
      labels ← optional_list_at (rest_while is_metric_char cs)
      value ← value_at labels.1
      stamp ← stamp_at value.1
      exemplar ← exemplar_of stamp.1
      Some (sample (record { name = name; labels = labels.0; value = value.0; stamp = stamp.0; exemplar = exemplar }))

-- the kinds in the order of the enum
abbrev pub kinds : List Kind
kinds = Counter ∷ Gauge ∷ Histogram ∷ GaugeHistogram ∷ StateSet ∷ Info ∷ Summary ∷ Unknown ∷ []

-- the kind of a word
unfoldable pub kind_named : List ℕ → Option Kind
kind_named word = first_some (λ kind. when_true (bytes_eq word (kind_word kind)) kind) kinds

-- a metric name and a space, and what stands behind them
unfoldable pub named_at : List ℕ → Option (List ℕ × List ℕ)
named_at cs =
    let name = take_while is_metric_char cs in
    do
      _ ← when_true (is_metric_name name) name
      rest ← behind (codes " ") (rest_while is_metric_char cs)
      Some (name, rest)

-- a line that begins with `#`
unfoldable pub descriptor_of : List ℕ → Option Written
descriptor_of line = option_or (behind (codes "# TYPE ") line >>= named_at >>= λ x. kind_named x.1 >>= λ kind. Some (type_line x.0 kind))
    (option_or (behind (codes "# HELP ") line >>= named_at >>= λ x. Some (help x.0 (unescaped quote_escape x.1)))
    (option_or (behind (codes "# UNIT ") line >>= named_at >>= λ x. when_true (list_all is_metric_char x.1) (unit_line x.0 x.1))
    (when_true (bytes_eq line (codes "# EOF")) eof)))

-- what the line spells, where it spells something
unfoldable pub open_line_of : List ℕ → Option Written
open_line_of [] = None
open_line_of (c ∷ cs) = if c == 35 then descriptor_of (c ∷ cs) else sample_of (c ∷ cs)
