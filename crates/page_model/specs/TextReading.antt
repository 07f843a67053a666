-- The one item that a line of the text format spells, found from left to right: what a reader of one line gives.
-- The bridge's own way to find it; that it agrees with `SpellsText` is proved.
use Rattle.std.specs.Prelude.{ℕ, zero, suc, Bool, true, false, ◌&&◌, List, [], ◌∷◌, length, codes, Option, Some, None, take_while, ◌==◌, if◌then◌else◌}
use Rattle.std.specs.Option.{option_or}
use Rattle.std.specs.Str.{bytes_eq}
use Rattle.label_sets.specs.declared.kind.Kind.{Kind}
use Rattle.label_sets.specs.declared.kind.Kind.TheVariants.{Counter, Gauge, Histogram, Summary, Unknown}
use Rattle.label_sets.specs.declared.label.Label.{Label}
use Rattle.label_sets.specs.Lists.{◌>>=◌, when_true, rest_while, behind, first_some, some_passes}
use Rattle.label_sets.specs.Names.{is_metric_name, is_metric_char, is_label_name, is_label_char, is_blank}
use Rattle.label_sets.specs.Escapes.{help_escape, quote_escape, unescaped, quoted_at}
use Rattle.exact_decimal.specs.Tokens.{is_number_token}
use Rattle.page_model.specs.Written.{Written, blank, comment, help, type_line, sample}
use Rattle.page_model.specs.TextItems.{is_integer_token, trimmed, without_leading_blanks, is_not_blank, text_kind_word}

-- the text begins with a blank
abbrev pub begins_blank : List ℕ → Bool
begins_blank [] = false
begins_blank (c ∷ cs) = is_blank c

-- the text is empty or begins with a blank
abbrev pub at_blank : List ℕ → Bool
at_blank [] = true
at_blank (c ∷ cs) = is_blank c

-- a label at the front, and what stands behind it
unfoldable pub label_at : List ℕ → Option (Label × List ℕ)
label_at cs =
    let name = take_while is_label_char cs in
    do
      _ ← when_true (is_label_name name) name
      value ← behind (codes "=") (without_leading_blanks (rest_while is_label_char cs))
      open_quote ← behind (codes "\"") (without_leading_blanks value)
      quoted ← quoted_at open_quote
      Some (record { name = name; value = unescaped quote_escape quoted.0 }, without_leading_blanks quoted.1)

-- labels up to the closing brace, and what stands behind it; the number bounds how many
unfoldable pub labels_at : ℕ → List ℕ → Option (List Label × List ℕ)
labels_at zero cs = None
labels_at (suc more) cs = option_or (behind (codes "}") (without_leading_blanks cs) >>= λ rest. Some ([], rest))
    (label_at (without_leading_blanks cs) >>= λ x.
    option_or (behind (codes "}") x.1 >>= λ rest. Some (x.0 ∷ [], rest))
    (behind (codes ",") x.1 >>= labels_at more >>= λ y. Some (x.0 ∷ y.0, y.1)))

-- the labels behind an opening brace or, without one, none behind blanks
unfoldable pub middle_from : Option (List ℕ) → Option (List Label × List ℕ) → Option (List Label × List ℕ)
middle_from None blanks = blanks
middle_from (Some inner) blanks = labels_at (length inner) inner >>= λ x. Some (x.0, without_leading_blanks x.1)

-- the labels between a name and a value, and what stands behind them
unfoldable pub middle_at : List ℕ → Option (List Label × List ℕ)
middle_at cs = middle_from (behind (codes "{") (without_leading_blanks cs)) (when_true (begins_blank cs) ([], without_leading_blanks cs))

-- a timestamp behind blanks that is all that is left, or nothing
unfoldable pub stamp_of : List ℕ → Option (Option (List ℕ))
stamp_of [] = Some None
stamp_of (c ∷ cs) = let stamp = without_leading_blanks (c ∷ cs) in when_true (is_integer_token stamp) (Some stamp)

-- a sample line
unfoldable pub sample_of : List ℕ → Option Written
sample_of cs =
    let name = take_while is_metric_char cs in
    do
      _ ← when_true (is_metric_name name) name
      labels ← middle_at (rest_while is_metric_char cs)
      let value = take_while is_not_blank labels.1
      _ ← when_true (is_number_token value) value
      stamp ← stamp_of (rest_while is_not_blank labels.1)
      Some (sample (record { name = name; labels = labels.0; value = value; stamp = stamp; exemplar = None }))

-- the kind of a word
unfoldable pub kind_named : List ℕ → Option Kind
kind_named word = first_some (λ kind. when_true (some_passes (bytes_eq word) (text_kind_word kind)) kind) (Counter ∷ Gauge ∷ Histogram ∷ Summary ∷ Unknown ∷ [])

-- what stands behind the word of a descriptor: a metric name, and what stands behind the blanks that follow it
unfoldable pub named_at : List ℕ → Option (List ℕ × List ℕ)
named_at cs =
    let name = take_while is_metric_char (without_leading_blanks cs) in
    let rest = rest_while is_metric_char (without_leading_blanks cs) in
    when_true (is_metric_name name && at_blank rest) (name, without_leading_blanks rest)

-- a line that begins with `#`, from behind that
unfoldable pub marked_of : List ℕ → Option Written
marked_of cs =
    let body = without_leading_blanks cs in
    let word = take_while is_not_blank body in
    let rest = rest_while is_not_blank body in
    (if bytes_eq word (codes "HELP") then (named_at rest >>= λ x. Some (help x.0 (unescaped help_escape x.1))) else
    (if bytes_eq word (codes "TYPE") then (named_at rest >>= λ x. kind_named x.1 >>= λ kind. Some (type_line x.0 kind)) else
    Some comment))

-- a line without the blanks at its ends
unfoldable pub trimmed_of : List ℕ → Option Written
trimmed_of [] = Some blank
trimmed_of (c ∷ cs) = if c == 35 then marked_of cs else sample_of (c ∷ cs)

-- what the line spells, where it spells something
unfoldable pub text_line_of : List ℕ → Option Written
text_line_of line = trimmed_of (trimmed line)
