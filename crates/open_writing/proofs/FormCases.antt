-- The small tests behind the forms and the conflicts of families, by computation.
use Rattle.std.proofs.Common.{◌≡◌, ℕ, true, false, List, [], ◌∷◌, map, codes, refl}
use Rattle.std.specs.Prelude.{◌^◌}
use Rattle.std.specs.Fmt.{digits}
use Rattle.label_sets.specs.declared.kind.Kind.TheVariants as kinds
use Rattle.label_sets.specs.declared.label_set.LabelSet.{LabelSet}
use Rattle.exact_decimal.specs.declared.number.Number.{Number}
use Rattle.exact_decimal.specs.declared.number.Number.TheVariants.{Finite, Up, Down, NotANumber}
use Rattle.exact_decimal.specs.Decimals.{decimal_cmp}
use Rattle.exact_decimal.specs.Tokens.{without_leading_zeros, trailing_zeros, without_trailing_zeros, significant_digits, one_form}
use Rattle.exact_decimal.specs.Numbers.{number_of}
use Rattle.exact_decimal.specs.Order.{less, same}
use Rattle.page_model.specs.declared.format.Format.TheVariants.{Text, OpenMetrics}
use Rattle.page_model.specs.declared.format.Treatment.TheVariants.{Scraped, Written}
use Rattle.page_model.specs.declared.page.Bucket.{Bucket}
use Rattle.open_writing.specs.Writing.{escaped}
use Rattle.open_writing.specs.FamilyKeys.{FamilyKey, share_sample_name, clash}
use Rattle.open_writing.specs.Forms.{is_plain_value, is_taken_name, rise_to_infinity, is_unit_of, stand_together}

-- a whole number
abbrev whole_number : ℕ → Number
whole_number n = Finite (record { negative = false; digits = n; up = 0; down = 0 })

-- a bucket
abbrev bucket : Number → ℕ → Bucket
bucket le count = record { le = le; count = count }

-- a set of one label
abbrev one : List ℕ → List ℕ → LabelSet
one name value = record { name = name; value = value } ∷ []

-- bounds rise to plus infinity, and counts don't fall
bounds : map rise_to_infinity (
    [] ∷
    (bucket Up 0 ∷ []) ∷
    (bucket (whole_number 1) 2 ∷ []) ∷
    (bucket Down 1 ∷ bucket Up 1 ∷ []) ∷
    (bucket NotANumber 1 ∷ bucket Up 1 ∷ []) ∷
    (bucket (whole_number 1) 2 ∷ bucket (whole_number 2) 2 ∷ bucket Up 3 ∷ []) ∷
    (bucket (whole_number 2) 2 ∷ bucket (whole_number 1) 2 ∷ bucket Up 3 ∷ []) ∷
    (bucket (whole_number 1) 2 ∷ bucket Up 1 ∷ []) ∷
    (bucket Up 1 ∷ bucket Up 1 ∷ []) ∷
    (bucket Up (2 ^ 64) ∷ []) ∷ []) ≡ false ∷ true ∷ false ∷ false ∷ false ∷ true ∷ false ∷ false ∷ false ∷ false ∷ []
unfolding rise_to_infinity less decimal_cmp
bounds = refl

-- one sample of each kind
values_allowed : (is_plain_value Text Scraped kinds.Counter (codes "c") [] NotANumber
    ∷ is_plain_value OpenMetrics Scraped kinds.Counter (codes "c") [] NotANumber
    ∷ is_plain_value OpenMetrics Written kinds.Counter (codes "c") [] Down
    ∷ is_plain_value OpenMetrics Written kinds.Counter (codes "c") [] Up
    ∷ is_plain_value OpenMetrics Written kinds.Info (codes "i") [] (whole_number 1)
    ∷ is_plain_value OpenMetrics Written kinds.Info (codes "i") [] (whole_number 2)
    ∷ is_plain_value OpenMetrics Written kinds.StateSet (codes "s") (one (codes "s") (codes "a")) (whole_number 1)
    ∷ is_plain_value OpenMetrics Written kinds.StateSet (codes "s") (one (codes "t") (codes "a")) (whole_number 1)
    ∷ is_plain_value OpenMetrics Scraped kinds.StateSet (codes "job") (one (codes "exported_job") (codes "a")) (whole_number 1)
    ∷ is_plain_value OpenMetrics Written kinds.StateSet (codes "job") (one (codes "exported_job") (codes "a")) (whole_number 1)
    ∷ is_plain_value OpenMetrics Written kinds.Histogram (codes "h") [] (whole_number 1) ∷ [])
    ≡ true ∷ false ∷ false ∷ true ∷ true ∷ false ∷ true ∷ false ∷ true ∷ false ∷ false ∷ []
unfolding is_plain_value is_taken_name less same decimal_cmp number_of one_form digits without_leading_zeros trailing_zeros without_trailing_zeros significant_digits
values_allowed = refl

-- units
units : (is_unit_of kinds.Gauge (codes "x") []
    ∷ is_unit_of kinds.Gauge (codes "x_s") (codes "s")
    ∷ is_unit_of kinds.Gauge (codes "xs") (codes "s")
    ∷ is_unit_of kinds.Info (codes "x_s") (codes "s")
    ∷ is_unit_of kinds.StateSet (codes "x") []
    ∷ is_unit_of kinds.Gauge (codes "x_a-b") (codes "a-b") ∷ []) ≡ true ∷ true ∷ false ∷ false ∷ true ∷ false ∷ []
units = refl

-- groups that stand together
groups : map stand_together (
    [] ∷
    (one (codes "a") (codes "1") ∷ one (codes "a") (codes "1") ∷ one (codes "a") (codes "2") ∷ []) ∷
    (one (codes "a") (codes "1") ∷ one (codes "a") (codes "2") ∷ one (codes "a") (codes "1") ∷ []) ∷ []) ≡ true ∷ true ∷ false ∷ []
unfolding stand_together
groups = refl

-- a family's key
abbrev key : List ℕ → FamilyKey
key name = record { name = name; kind = kinds.Gauge; unit = [] }

-- families that clash: by a name, by a sample name, or not at all
clashes : (clash (key (codes "x")) (key (codes "x"))
    ∷ clash (key (codes "x")) (key (codes "y"))
    ∷ clash (record { name = codes "c"; kind = kinds.Counter; unit = [] }) (key (codes "c"))
    ∷ clash (record { name = codes "c"; kind = kinds.Counter; unit = [] }) (key (codes "c_total"))
    ∷ clash (record { name = codes "c"; kind = kinds.Counter; unit = [] }) (key (codes "c_created"))
    ∷ clash (record { name = codes "c"; kind = kinds.Counter; unit = [] }) (key (codes "c_sum"))
    ∷ clash (record { name = codes "s"; kind = kinds.Summary; unit = [] }) (record { name = codes "s_count"; kind = kinds.Summary; unit = [] })
    ∷ clash (record { name = codes "i"; kind = kinds.Info; unit = [] }) (key (codes "i_info"))
    ∷ clash (record { name = codes "g"; kind = kinds.GaugeHistogram; unit = [] }) (key (codes "g_sum")) ∷ [])
    ≡ true ∷ false ∷ true ∷ true ∷ true ∷ false ∷ true ∷ true ∷ false ∷ []
unfolding clash share_sample_name
clashes = refl

-- escapes
escapes : escaped (codes "a\"b\\c\nd") ≡ codes "a\\\"b\\\\c\\nd"
unfolding escaped
escapes = refl
