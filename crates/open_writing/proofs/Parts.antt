-- Labels, families and pages in the order in which they are written.
use Rattle.std.proofs.Common.{◌≡◌, ℕ, ◌-◌, ◌<◌, ◌≤◌, List, [], ◌∷◌, ◌++◌, codes, map, length, take, drop, get_or, Option, refl, sym, ap, ◌∙◌, append_assoc, append-nil, arith}
use Rattle.std.specs.Prelude.{option_map}
use Rattle.std.proofs.lemmas.Grind.{common_steps, flat_map-append}
use Rattle.std.proofs.lemmas.List.Folds.{flat_map-map}
use Rattle.std.specs.List.{flat_map}
use Rattle.label_sets.specs.declared.kind.Kind.{Kind}
use Rattle.label_sets.specs.declared.label.Label.{Label}
use Rattle.label_sets.specs.declared.label_set.LabelSet.{LabelSet}
use Rattle.exact_decimal.specs.declared.number.Number.{Number}
use Rattle.exact_decimal.specs.Numbers.{number_of}
use Rattle.exact_decimal.specs.Literals.{number_text}
use Rattle.page_model.specs.declared.item.Item.TheVariants as items
use Rattle.page_model.specs.declared.page.Bucket.{Bucket}
use Rattle.page_model.specs.declared.page.Quantile.{Quantile}
use Rattle.page_model.specs.declared.page.Value.TheVariants as values
use Rattle.page_model.specs.declared.page.Reading.{Reading}
use Rattle.page_model.specs.declared.page.Family.{Family}
use Rattle.page_model.specs.declared.format.Format.TheVariants.{OpenMetrics}
use Rattle.page_model.specs.Readings.{key_name}
use Rattle.open_writing.specs.Pieces.{unclosed_label, label_then_comma, next_unclosed, labels_then_space, sample_line, samples_text, buckets_text, quantiles_text, type_text, unit_text, help_line_text, readings_text, family_text}
use Rattle.open_writing.specs.Writing.{bare_sample, number_sample, bucket_sample, quantile_sample, total_samples, value_samples, escaped, open_label_text, more_labels_text, labels_text, sample_text, item_text, line_text, item_unless_empty, reading_samples, family_samples, family_items, page_items}

-- a list that has an element is that and the rest
first_and_rest : {A : Type 0} (xs : List A) (x : A) → 1 ≤ length xs → x ≡ get_or xs 0 x → xs ≡ x ∷ take (length xs - 1) (drop 1 xs)
first_and_rest [] x some is = absurd (omega arith)
first_and_rest (y ∷ ys) x some is = grind (arith, common_steps)

-- no labels
pub no_labels : (ls : List Label) → length ls < 1 → labels_then_space ls ≡ codes " "
unfolding labels_then_space labels_text
no_labels [] none = refl
no_labels (l ∷ ls) none = absurd (omega arith)

-- the quote of a label moves behind those that follow
quote_moved : (ls : List Label) → 34 ∷ more_labels_text ls ≡ flat_map next_unclosed ls ++ 34 ∷ []
unfolding more_labels_text open_label_text next_unclosed unclosed_label
quote_moved [] = refl
quote_moved (l ∷ ls) =
    let text : List ℕ = l.name ++ codes "=\"" ++ escaped l.value in
    let more : List ℕ = flat_map next_unclosed ls in
    ap (λ (t : List ℕ). 34 ∷ 44 ∷ t) (append_assoc text (34 ∷ []) (more_labels_text ls) ∙ ap (λ (t : List ℕ). text ++ t) (quote_moved ls) ∙ sym (append_assoc text more (34 ∷ [])))

-- a quote, a brace and a space
ends_joined : (xs : List ℕ) → xs ++ 34 ∷ [] ++ codes "}" ++ codes " " ≡ xs ++ codes "\"} "
ends_joined [] = refl
ends_joined (x ∷ xs) = ap (λ (t : List ℕ). x ∷ t) (ends_joined xs)

-- a label and those behind it, and the end of the braces
closed : (xs : List ℕ) (l : Label) (ls : List Label)
    → xs ++ open_label_text l ++ more_labels_text ls ++ codes "}" ++ codes " " ≡ xs ++ unclosed_label l ++ flat_map next_unclosed ls ++ codes "\"} "
unfolding open_label_text unclosed_label
closed xs l ls =
    let text : List ℕ = l.name ++ codes "=\"" ++ escaped l.value in
    let more : List ℕ = flat_map next_unclosed ls in
    let moved : xs ++ (text ++ 34 ∷ []) ++ more_labels_text ls ≡ xs ++ text ++ more ++ 34 ∷ [] =
    ap (λ (t : List ℕ). t ++ more_labels_text ls) (sym (append_assoc xs text (34 ∷ []))) ∙ append_assoc (xs ++ text) (34 ∷ []) (more_labels_text ls)
    ∙ ap (λ (t : List ℕ). xs ++ text ++ t) (quote_moved ls) ∙ sym (append_assoc (xs ++ text) more (34 ∷ []))
    in
    ap (λ (t : List ℕ). t ++ codes "}" ++ codes " ") moved ∙ ends_joined (xs ++ text ++ more)

-- labels of which there is a first
pub labels_written : (ls : List Label) (l : Label) → 1 ≤ length ls → l ≡ get_or ls 0 l
    → labels_then_space ls ≡ codes "{" ++ unclosed_label l ++ flat_map next_unclosed (take (length ls - 1) (drop 1 ls)) ++ codes "\"} "
unfolding labels_then_space labels_text
labels_written ls l some is = ap labels_then_space (first_and_rest ls l some is) ∙ closed (codes "{") l (take (length ls - 1) (drop 1 ls))

-- a label in front of another
comma_joined : (l : Label) (text : List ℕ) → open_label_text l ++ 44 ∷ text ≡ label_then_comma l ++ text
unfolding open_label_text label_then_comma unclosed_label
comma_joined l text =
    let front : List ℕ = l.name ++ codes "=\"" ++ escaped l.value in
    append_assoc front (34 ∷ []) (44 ∷ text) ∙ sym (append_assoc front (codes "\",") text)

-- labels in front of another, and those behind it
fronts_joined : (m : Label) (ms : List Label) (l : Label) (back : List Label)
    → open_label_text m ++ more_labels_text (ms ++ l ∷ back) ≡ flat_map label_then_comma (m ∷ ms) ++ open_label_text l ++ more_labels_text back
unfolding more_labels_text
fronts_joined m [] l back =
    comma_joined m (open_label_text l ++ more_labels_text back) ∙ sym (append_assoc (label_then_comma m) (open_label_text l) (more_labels_text back))
    ∙ ap (λ (t : List ℕ). t ++ open_label_text l ++ more_labels_text back) (sym (append-nil (label_then_comma m)))
fronts_joined m (n ∷ ns) l back =
    let front : List ℕ = flat_map label_then_comma (n ∷ ns) in
    ap (λ (t : List ℕ). open_label_text m ++ 44 ∷ t) (fronts_joined n ns l back) ∙ comma_joined m (front ++ open_label_text l ++ more_labels_text back)
    ∙ sym (append_assoc (label_then_comma m) (front ++ open_label_text l) (more_labels_text back))
    ∙ ap (λ (t : List ℕ). t ++ more_labels_text back) (sym (append_assoc (label_then_comma m) front (open_label_text l)))

-- labels of which one is known: those in front, it, and those behind
labels_around : (front : List Label) (l : Label) (back : List Label)
    → labels_text (front ++ l ∷ back) ≡ codes "{" ++ flat_map label_then_comma front ++ open_label_text l ++ more_labels_text back ++ codes "}"
unfolding labels_text
labels_around [] l back = refl
labels_around (m ∷ ms) l back = ap (λ (t : List ℕ). codes "{" ++ t ++ codes "}") (fronts_joined m ms l back)

-- the same with a space behind them
pub spaced_around : (front : List Label) (l : Label) (back : List Label)
    → labels_then_space (front ++ l ∷ back) ≡ codes "{" ++ flat_map label_then_comma front ++ unclosed_label l ++ flat_map next_unclosed back ++ codes "\"} "
unfolding labels_then_space
spaced_around front l back = ap (λ (t : List ℕ). t ++ codes " ") (labels_around front l back) ∙ closed (codes "{" ++ flat_map label_then_comma front) l back

-- a sample, whose name has this suffix
pub sample_written : (family suffix : List ℕ) (labels : LabelSet) (n : Number)
    → sample_line (bare_sample (family ++ suffix) labels n) ≡ family ++ suffix ++ labels_then_space labels ++ number_text n ++ codes "\n"
unfolding sample_line sample_text labels_then_space
sample_written family suffix labels n = ap (λ (t : List ℕ). t ++ number_text n ++ codes "\n") (append_assoc (family ++ suffix) (labels_text labels) (codes " "))

-- lists made of lists, made of lists
flat_map_twice : {A B C : Type 0} (g : B → List C) (f : A → List B) (xs : List A) → flat_map g (flat_map f xs) ≡ flat_map (λ x. flat_map g (f x)) xs
flat_map_twice g f [] = refl
flat_map_twice g f (x ∷ xs) = flat_map-append g (f x) (flat_map f xs) ∙ ap (λ t. flat_map g (f x) ++ t) (flat_map_twice g f xs)

-- the samples of a family, as items and as lines
samples_written : (f : Family) → flat_map line_text (map items.Sample (family_samples f)) ≡ readings_text f.kind f.name f.readings
unfolding item_text sample_line samples_text readings_text family_samples
samples_written f = flat_map-map line_text items.Sample (family_samples f) ∙ flat_map_twice (λ s. sample_text s ++ codes "\n") (reading_samples f.kind f.name) f.readings

-- one sample
plain_written : (kind : Kind) (family : List ℕ) (labels : LabelSet) (n : Number)
    → samples_text (value_samples kind family labels (values.Plain n)) ≡ sample_line (bare_sample (key_name OpenMetrics kind family) labels n)
unfolding samples_text value_samples
plain_written kind family labels n = append-nil (sample_line (bare_sample (key_name OpenMetrics kind family) labels n))

-- the one sample of a reading, whose name ends in this suffix
pub plain_named : (kind : Kind) (family suffix : List ℕ) (labels : LabelSet) (n : Number) → family ++ suffix ≡ key_name OpenMetrics kind family
    → samples_text (value_samples kind family labels (values.Plain n)) ≡ sample_line (bare_sample (family ++ suffix) labels n)
plain_named kind family suffix labels n e = plain_written kind family labels n ∙ ap (λ name. sample_line (bare_sample name labels n)) (sym e)

-- buckets, and what stands behind them
pub buckets_written : (kind : Kind) (family : List ℕ) (labels : LabelSet) (buckets : List Bucket) (sum : Option Number)
    → samples_text (value_samples kind family labels (values.Buckets buckets sum)) ≡ buckets_text family labels buckets ++ samples_text (total_samples kind family labels buckets sum)
unfolding samples_text value_samples buckets_text
buckets_written kind family labels buckets sum =
    flat_map-append sample_line (map (bucket_sample family labels) buckets) (total_samples kind family labels buckets sum)
    ∙ ap (λ t. t ++ flat_map sample_line (total_samples kind family labels buckets sum)) (flat_map-map sample_line (bucket_sample family labels) buckets)

-- quantiles, and what stands behind them
pub quantiles_written : (kind : Kind) (family : List ℕ) (labels : LabelSet) (quantiles : List Quantile) (count : Option ℕ) (sum : Option Number)
    → samples_text (value_samples kind family labels (values.Quantiles quantiles count sum))
    ≡ quantiles_text family labels quantiles ++ samples_text (number_sample (family ++ codes "_count") labels (option_map number_of count))
    ++ samples_text (number_sample (family ++ codes "_sum") labels sum)
unfolding samples_text value_samples quantiles_text
quantiles_written kind family labels quantiles count sum =
    let counts = number_sample (family ++ codes "_count") labels (option_map number_of count) in
    let sums = number_sample (family ++ codes "_sum") labels sum in
    flat_map-append sample_line (map (quantile_sample family labels) quantiles) (counts ++ sums)
    ∙ ap (λ t. t ++ flat_map sample_line (counts ++ sums)) (flat_map-map sample_line (quantile_sample family labels) quantiles)
    ∙ ap (λ t. flat_map (λ q. sample_line (quantile_sample family labels q)) quantiles ++ t) (flat_map-append sample_line counts sums)
    ∙ sym (append_assoc (flat_map (λ q. sample_line (quantile_sample family labels q)) quantiles) (flat_map sample_line counts) (flat_map sample_line sums))

-- a reading: its value, and the time of its creation
pub reading_written : (kind : Kind) (family : List ℕ) (r : Reading)
    → samples_text (reading_samples kind family r) ≡ samples_text (value_samples kind family r.key.labels r.value) ++ samples_text (number_sample (family ++ codes "_created") r.key.labels r.created)
unfolding samples_text reading_samples
reading_written kind family r = flat_map-append sample_line (value_samples kind family r.key.labels r.value) (number_sample (family ++ codes "_created") r.key.labels r.created)

-- a family: its TYPE line, its unit, its text and its samples
pub family_written : (f : Family) → family_text f ≡ type_text f.name f.kind ++ unit_text f.name f.unit ++ help_line_text f.name f.help ++ readings_text f.kind f.name f.readings
unfolding family_text family_items type_text unit_text help_line_text
family_written f =
    let units = item_unless_empty (items.Unit f.name) f.unit in
    let helps = item_unless_empty (items.Help f.name) f.help in
    let samples = map items.Sample (family_samples f) in
    let front : List ℕ = line_text (items.KindOf f.name f.kind) in
    ap (λ t. front ++ t) (
    flat_map-append line_text units (helps ++ samples)
    ∙ ap (λ t. flat_map line_text units ++ t) (flat_map-append line_text helps samples ∙ ap (λ t. flat_map line_text helps ++ t) (samples_written f))
    ) ∙ simp append_assoc

-- a page: its families, and its end
pub page_written : (fs : List Family) → flat_map line_text (page_items fs) ≡ flat_map family_text fs ++ codes "# EOF\n"
unfolding page_items item_text family_text
page_written fs = flat_map-append line_text (flat_map family_items fs) (items.Eof ∷ []) ∙ ap (λ t. t ++ codes "# EOF\n") (flat_map_twice line_text family_items fs)
