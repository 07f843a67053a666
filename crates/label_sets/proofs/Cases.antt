-- The definitions computed at cases whose answers stand in the formats' texts or were worked by hand.
use Rattle.std.proofs.Common.{◌≡◌, ℕ, true, false, Some, None, List, [], ◌∷◌, ◌++◌, refl}
use Rattle.std.specs.Prelude.{codes}
use Rattle.std.specs.declared.cmp.Ordering.TheVariants.{Less, Greater}
use Rattle.label_sets.specs.declared.label.Label.{Label}
use Rattle.label_sets.specs.declared.series_key.SeriesKey.{SeriesKey}
use Rattle.label_sets.specs.declared.kind.Kind.TheVariants.{Counter, Gauge}
use Rattle.label_sets.specs.Escapes.{unescaped, help_escape, quote_escape, is_quotable, quoted_at}
use Rattle.label_sets.specs.Names.{is_metric_name, is_label_name}
use Rattle.label_sets.specs.Labels.{label_set, repeated_at, renamed, label_value, without_label}
use Rattle.label_sets.specs.Keys.{key_cmp}

abbrev label : List ℕ → List ℕ → Label
label name value = record { name = name; value = value }

-- p, a line feed, a quote, two backslashes, q and the two bytes of é
value_of_the_page : unescaped quote_escape (codes "p\\n\\\"\\\\\\q" ++ 195 ∷ 169 ∷ []) ≡ 112 ∷ 10 ∷ 34 ∷ 92 ∷ 92 ∷ 113 ∷ 195 ∷ 169 ∷ []
value_of_the_page = refl

-- in a HELP text a quote isn't escaped, and a backslash at the end stands for itself
help_text : unescaped help_escape (codes "a\\\"\\\\\\n\\") ≡ codes "a\\\"\\" ++ 10 ∷ 92 ∷ []
help_text = refl

quotable : is_quotable (codes "a\\\"b") ≡ true
quotable = refl

not_quotable : is_quotable (codes "a\\") ≡ false
not_quotable = refl

first_quote : quoted_at (codes "a\\\"b\" c") ≡ Some (codes "a\\\"b", codes " c")
first_quote = refl

metric_names : is_metric_name (codes ":a_1") ≡ true
metric_names = refl

no_label_name : is_label_name (codes "a:b") ≡ false
no_label_name = refl

-- the sets of the two lines are the same
first_line : label_set (label (codes "b") (codes "1") ∷ label (codes "a") (codes "2") ∷ []) ≡ label (codes "a") (codes "2") ∷ label (codes "b") (codes "1") ∷ []
first_line = refl

second_line : label_set (label (codes "a") (codes "2") ∷ label (codes "b") (codes "1") ∷ label (codes "c") [] ∷ []) ≡ label (codes "a") (codes "2") ∷ label (codes "b") (codes "1") ∷ []
second_line = refl

-- an empty value counts
named_twice : repeated_at [] 0 (label (codes "a") [] ∷ label (codes "b") [] ∷ label (codes "a") (codes "2") ∷ label (codes "b") [] ∷ []) ≡ Some 2
named_twice = refl

named_once : repeated_at [] 0 (label (codes "a") [] ∷ label (codes "b") [] ∷ []) ≡ None
named_once = refl

-- both lines are the same set once they are renamed
one_job : renamed (label (codes "job") (codes "a") ∷ []) ≡ label (codes "exported_job") (codes "a") ∷ []
one_job = refl

exported_already : renamed (label (codes "exported_job") (codes "a") ∷ []) ≡ label (codes "exported_job") (codes "a") ∷ []
exported_already = refl

renamed_twice : renamed (label (codes "exported_job") (codes "b") ∷ label (codes "job") (codes "a") ∷ []) ≡ label (codes "exported_exported_job") (codes "a") ∷ label (codes "exported_job") (codes "b") ∷ []
renamed_twice = refl

renamed_thrice : renamed (label (codes "exported_exported_job") (codes "c") ∷ label (codes "exported_job") (codes "b") ∷ label (codes "job") (codes "a") ∷ [])
    ≡ label (codes "exported_exported_exported_job") (codes "a") ∷ label (codes "exported_exported_job") (codes "c") ∷ label (codes "exported_job") (codes "b") ∷ []
renamed_thrice = refl

value_there : label_value (codes "b") (label (codes "a") (codes "2") ∷ label (codes "b") (codes "1") ∷ []) ≡ Some (codes "1")
value_there = refl

label_gone : without_label (codes "a") (label (codes "a") (codes "2") ∷ label (codes "b") (codes "1") ∷ []) ≡ label (codes "b") (codes "1") ∷ []
label_gone = refl

abbrev key : List ℕ → List ℕ → SeriesKey
key name unit = record { name = name; kind = Gauge; unit = unit; labels = [] }

units_in_order : key_cmp (key (codes "a") (codes "seconds")) (key (codes "a") (codes "bytes")) ≡ Greater
units_in_order = refl

kind_before_unit : key_cmp (record { name = codes "a"; kind = Counter; unit = codes "seconds"; labels = [] }) (key (codes "a") (codes "bytes")) ≡ Less
kind_before_unit = refl
