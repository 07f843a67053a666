-- The page that one target shows can be written, by its form: a page of that form is there.
use Rattle.std.proofs.Common.{◌≡◌, ◌≤◌, false, [], ◌∷◌, ◌≢◌, length, None, codes, refl, sym, subst, ◌∙◌, arith, All}
use Rattle.std.specs.List.{IsDistinct}
use Rattle.std.specs.List.Sorted.{IsStrictlySortedBy}
use Rattle.std.specs.Fmt.{digits}
use Rattle.std.specs.Str.{is_utf8, chars}
use Rattle.std.specs.Char.{encode_utf8}
use Rattle.std.proofs.lemmas.List.Elements.{All-from_recursion}
use Rattle.label_sets.specs.declared.kind.Kind.TheVariants as kinds
use Rattle.label_sets.specs.declared.label.Label.{Label}
use Rattle.label_sets.specs.declared.label_set.LabelSet.{LabelSet}
use Rattle.label_sets.specs.Sets.{IsLabelSet}
use Rattle.exact_decimal.specs.declared.decimal.Decimal.{Decimal}
use Rattle.exact_decimal.specs.declared.number.Number.TheVariants.{Finite}
use Rattle.exact_decimal.specs.Decimals.{IsNormal}
use Rattle.exact_decimal.specs.Literals.{sign_text, pointed, plain_text, difference_text, exponent_text, is_plain, size_text, decimal_text, number_text}
use Rattle.exact_decimal.specs.Numbers.{number_of}
use Rattle.exact_decimal.specs.Tokens.{one_form, without_leading_zeros, trailing_zeros, without_trailing_zeros, significant_digits}
use Rattle.exact_decimal.proofs.Laws.{whole_value}
use Rattle.page_model.specs.declared.format.Format.TheVariants.{OpenMetrics}
use Rattle.page_model.specs.declared.format.Treatment.TheVariants.{Written}
use Rattle.page_model.specs.declared.item.Item.{Item}
use Rattle.page_model.specs.declared.item.Sample.{Sample}
use Rattle.page_model.specs.declared.page.Family.{Family}
use Rattle.page_model.specs.declared.page.Reading.{Reading}
use Rattle.page_model.specs.declared.page.Value.TheVariants as values
use Rattle.open_writing.specs.Writing.{value_samples, reading_samples, family_samples, family_items, page_items, escaped, open_label_text, more_labels_text, labels_text, sample_text, item_text}
use Rattle.open_writing.specs.Forms.{IsFormedReading, IsFormedFamily, is_plain_value, is_taken_name, stand_together}
use Rattle.open_writing.specs.OpenForms.{IsBareReading, AreWritable}

-- its labels
abbrev labels : LabelSet
labels = record { name = codes "instance"; value = codes "h:1" } ∷ record { name = codes "job"; value = codes "j" } ∷ []

-- one
abbrev one : Decimal
one = record { negative = false; digits = 1; up = 0; down = 0 }

-- its one reading
abbrev reading : Reading
reading = record {
  key = record { name = codes "x"; kind = kinds.Unknown; unit = []; labels = labels };
  value = values.Plain (Finite one);
  created = None;
  stamp = None;
  exemplars = [];
}

-- its one family
abbrev family : Family
family = record { name = codes "x"; kind = kinds.Unknown; help = []; unit = []; readings = reading ∷ [] }

one_is : number_of 1 ≡ Finite one
unfolding number_of digits one_form without_leading_zeros trailing_zeros without_trailing_zeros significant_digits
one_is = refl

one_normal : IsNormal one
one_normal =
    let value = whole_value 1 (omega arith) in
    let same : Finite value.0 ≡ Finite one = sym value.1 ∙ one_is in
    let decimal : value.0 ≡ one = cc in
    subst IsNormal decimal value.2

a_set : IsLabelSet labels
unfolding IsStrictlySortedBy
a_set = record { ascending = ((refl, tt), (tt, tt)); valued = All-from_recursion (λ (l : Label). l.value ≢ []) labels ((λ e. cc), ((λ e. cc), tt)) }

formed_reading : IsFormedReading OpenMetrics Written kinds.Unknown (codes "x") [] reading
unfolding value_samples reading_samples is_plain_value is_taken_name is_utf8 chars encode_utf8
formed_reading = record {
  key = refl;
  label_set = a_set;
  labels = refl;
  own_labels = refl;
  few_labels = All-from_recursion (λ (s : Sample). length s.labels ≤ 66) (reading_samples kinds.Unknown (codes "x") reading) (omega arith, tt);
  value = (one_normal, refl);
  created = tt;
}

formed_family : IsFormedFamily OpenMetrics Written family
unfolding IsDistinct is_utf8 chars encode_utf8 stand_together
formed_family = record {
  name = refl;
  kind = refl;
  help = refl;
  unit = refl;
  unit_in_format = refl;
  readings = All-from_recursion (IsFormedReading OpenMetrics Written kinds.Unknown (codes "x") []) (reading ∷ []) (formed_reading, tt);
  distinct = (tt, tt);
  together = refl;
}

writable : AreWritable (family ∷ [])
unfolding IsDistinct value_samples reading_samples family_samples family_items page_items escaped open_label_text more_labels_text labels_text sample_text item_text sign_text pointed plain_text difference_text exponent_text is_plain size_text decimal_text number_text digits
writable = record {
  formed = record { each = All-from_recursion (IsFormedFamily OpenMetrics Written) (family ∷ []) (formed_family, tt); names = (tt, tt) };
  bare = All-from_recursion (λ (f : Family). All IsBareReading f.readings) (family ∷ []) (All-from_recursion IsBareReading (reading ∷ []) (record { no_stamp = refl; no_exemplars = refl }, tt), tt);
  apart = (tt, tt);
  short_lines = All-from_recursion (λ (item : Item). length (item_text item) ≤ 262144) (page_items (family ∷ [])) (omega arith, (omega arith, (omega arith, tt)));
}
