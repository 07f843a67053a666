-- What a line says before its numbers are read and its label sets are built, and the item that it becomes.
-- Prometheus text format 0.0.4, "Text format details"; OpenMetrics 1.0, "Text Format".
use Rattle.std.specs.Prelude.{ℕ, ◌^◌, Bool, false, not, ◌&&◌, ◌||◌, List, ◌∷◌, length, Option, option_map, nat_le, nat_lt, if◌then◌else◌}
use Rattle.std.specs.Fmt.{decimal}
use Rattle.std.specs.Str.Parse.{digits_value}
use Rattle.label_sets.specs.declared.kind.Kind.{Kind}
use Rattle.label_sets.specs.Lists.{some_passes}
use Rattle.label_sets.specs.declared.label.Label.{Label}
use Rattle.label_sets.specs.Labels.{label_set, has_distinct_names}
use Rattle.exact_decimal.specs.declared.number.Number.{Number}
use Rattle.exact_decimal.specs.Tokens.{unsigned, has_minus}
use Rattle.exact_decimal.specs.Numbers.{number_read, number, is_out_of_range}
use Rattle.page_model.specs.declared.format.Format.{Format}
use Rattle.page_model.specs.declared.format.Format.TheVariants.{Text, OpenMetrics}
use Rattle.page_model.specs.declared.format.Treatment.{Treatment}
use Rattle.page_model.specs.declared.format.Treatment.TheVariants as treatments
use Rattle.page_model.specs.declared.item.Exemplar.{Exemplar}
use Rattle.page_model.specs.declared.item.Item.{Item}
use Rattle.page_model.specs.declared.item.Item.TheVariants as items

-- an exemplar as written: labels in their order, and tokens
pub record WrittenExemplar : Type 0 where
  pub labels : List Label
  pub value : List ℕ
  pub stamp : Option (List ℕ)

-- a sample line as written
pub record WrittenSample : Type 0 where
  pub name : List ℕ
  pub labels : List Label
  pub value : List ℕ
  pub stamp : Option (List ℕ)
  pub exemplar : Option WrittenExemplar

-- what a line says
pub data Written : Type 0 where
  blank comment eof : Written
  help : (name text : List ℕ) → Written
  type_line : (name : List ℕ) → Kind → Written
  unit_line : (name unit : List ℕ) → Written
  sample : WrittenSample → Written

-- how a page is read: its format, whose it is, and how many samples it may have
pub record Setting : Type 0 where
  pub format : Format
  pub treatment : Treatment
  pub limit : ℕ

-- how a page of the text format is read
abbrev pub text_setting : Treatment → ℕ → Setting
text_setting treatment limit = record { format = Text; treatment = treatment; limit = limit }

-- how an OpenMetrics page is read
abbrev pub open_setting : Treatment → ℕ → Setting
open_setting treatment limit = record { format = OpenMetrics; treatment = treatment; limit = limit }

-- the most bytes of a line
abbrev pub line_limit : Treatment → ℕ
line_limit treatments.Scraped = 65536
line_limit treatments.Written = 262144

-- the most labels of a list
abbrev pub label_limit : Treatment → ℕ
label_limit treatments.Scraped = 64
label_limit treatments.Written = 66

-- ---- numbers of tokens

-- a number token breaks a limit
abbrev pub token_out_of_range : List ℕ → Bool
token_out_of_range token = is_out_of_range (number_read token)

-- the size of a whole number with an optional sign
abbrev pub size_of : List ℕ → ℕ
size_of token = digits_value 10 (unsigned token)

-- a whole number that a signed 64-bit number does not hold
abbrev pub is_out_of_i64 : List ℕ → Bool
is_out_of_i64 token = if has_minus token then nat_lt (2 ^ 63) (size_of token) else nat_le (2 ^ 63) (size_of token)

-- a whole number's token without leading zeros and plus sign
abbrev pub short_token : List ℕ → List ℕ
short_token token = if has_minus token then 45 ∷ decimal (size_of token) else decimal (size_of token)

-- the number of a timestamp; that of the text format is no number token, so it may have any number of zeros in front
abbrev pub stamp_number : Format → List ℕ → Number
stamp_number Text token = number (short_token token)
stamp_number OpenMetrics token = number token

-- ---- what may be wrong with what is written

-- a timestamp that can't be held: text counts milliseconds, OpenMetrics writes seconds as a real
abbrev pub stamp_out_of_range : Format → List ℕ → Bool
stamp_out_of_range Text token = is_out_of_i64 token
stamp_out_of_range OpenMetrics token = token_out_of_range token

-- an exemplar's number or timestamp breaks a limit
abbrev pub exemplar_out_of_range : Format → WrittenExemplar → Bool
exemplar_out_of_range f e = token_out_of_range e.value || some_passes (stamp_out_of_range f) e.stamp

-- a number token of the line breaks a limit
abbrev pub has_out_of_range : Format → Written → Bool
has_out_of_range f (sample s) = token_out_of_range s.value || some_passes (stamp_out_of_range f) s.stamp || some_passes (exemplar_out_of_range f) s.exemplar
has_out_of_range f _ = false

-- a list that names no label twice and has no more labels than the treatment allows
abbrev pub is_label_list : Treatment → List Label → Bool
is_label_list t ls = has_distinct_names ls && nat_le (length ls) (label_limit t)

-- a label list of the line names a label twice or has too many labels
abbrev pub has_bad_labels : Treatment → Written → Bool
has_bad_labels t (sample s) = not (is_label_list t s.labels) || some_passes (λ (e : WrittenExemplar). not (is_label_list t e.labels)) s.exemplar
has_bad_labels t _ = false

-- ---- the item of a line

-- an exemplar with its numbers read and its label set built
abbrev pub exemplar_of : Format → WrittenExemplar → Exemplar
exemplar_of f e = record { labels = label_set e.labels; value = number e.value; stamp = option_map (stamp_number f) e.stamp }

-- the item with its numbers read and its label sets built
abbrev pub item_of : Format → Written → Item
item_of f blank = items.Blank
item_of f comment = items.Comment
item_of f eof = items.Eof
item_of f (help name text) = items.Help name text
item_of f (type_line name kind) = items.KindOf name kind
item_of f (unit_line name unit) = items.Unit name unit
item_of f (sample s) = items.Sample (record {
  name = s.name;
  labels = label_set s.labels;
  value = number s.value;
  stamp = option_map (stamp_number f) s.stamp;
  exemplar = option_map (exemplar_of f) s.exemplar;
})
