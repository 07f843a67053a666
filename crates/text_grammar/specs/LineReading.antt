-- What the parts of a line say.
-- Prometheus text format 0.0.4, "Text format details"; the rules are the bridge's own profile of it.
use Rattle.std.specs.Prelude.{◌≡◌, ℕ, true, false, List, Option, Some, None, IsUtf8}
use Rattle.label_sets.specs.declared.label.Label.{Label}
use Rattle.label_sets.specs.Lists.{◌>>=◌, when_true}
use Rattle.label_sets.specs.Labels.{label_set}
use Rattle.label_sets.specs.Escapes.{help_escape, unescaped}
use Rattle.exact_decimal.specs.declared.number.Number.{Number}
use Rattle.exact_decimal.specs.Tokens.{is_number_token}
use Rattle.page_model.specs.declared.format.Treatment.{Treatment}
use Rattle.page_model.specs.declared.item.Item.TheVariants as items
use Rattle.page_model.specs.declared.rule.Rule.TheVariants as rules
use Rattle.page_model.specs.Written.{Written, help, type_line, sample, is_label_list}
use Rattle.page_model.specs.TextReading.{kind_named, named_at}
use Rattle.line_scan.specs.declared.scan.Cut.{Cut}
use Rattle.line_scan.specs.declared.line.LineRead.{LineRead}
use Rattle.line_scan.specs.declared.line.LineRead.TheVariants as reads

-- ---- descriptors

-- the name of a descriptor, and what stands behind it and blanks
pub record IsNamedAt (bytes : List ℕ) (cut : Cut) : Type 0 where
  pub found : named_at bytes ≡ Some (cut.front.now, cut.rest.now)
  pub utf8_front : IsUtf8 cut.front.now
  pub utf8_rest : IsUtf8 bytes → IsUtf8 cut.rest.now

-- what a HELP line says, from behind its word
abbrev pub help_of : List ℕ → Option Written
help_of cs = named_at cs >>= λ x. Some (help x.0 (unescaped help_escape x.1))

-- what a TYPE line says, from behind its word
abbrev pub type_of : List ℕ → Option Written
type_of cs = named_at cs >>= λ x. kind_named x.1 >>= λ kind. Some (type_line x.0 kind)

-- ---- samples

-- a sample line of these parts
abbrev pub written_sample : List ℕ → List Label → List ℕ → Option (List ℕ) → Written
written_sample name labels value stamp = sample (record { name = name; labels = labels; value = value; stamp = stamp; exemplar = None })

-- what a sample line of these parts says, where its value is a number
abbrev pub valued_sample : List ℕ → List Label → List ℕ → Option (List ℕ) → Option Written
valued_sample name labels value stamp = when_true (is_number_token value) (written_sample name labels value stamp)

-- the sample of a name, labels and numbers, unless the labels break a rule
abbrev pub Makes : Treatment → List ℕ → List Label → Number → Option Number → LineRead → Type 0
Makes t name labels value stamp (reads.Item item) = (is_label_list t labels ≡ true)
    × (item ≡ items.Sample (record { name = name; labels = label_set labels; value = value; stamp = stamp; exemplar = None }))
Makes t name labels value stamp (reads.Refused rule) = (is_label_list t labels ≡ false) × (rule ≡ rules.Labels)
