-- A line that is written is the line of its item, and breaks no rule that looks at it alone.
use Rattle.std.proofs.Common.{◌≡◌, ◌≢◌, ℕ, ◌≤◌, Bool, true, false, not, List, [], ◌∷◌, ◌++◌, length, filter, Some, None, codes, refl, sym, ap, ◌∙◌, arith, IsUtf8, All}
use Rattle.std.specs.Prelude.{nat_lt, nat_le, ⊤, is_none}
use Rattle.std.specs.List.{list_all, AllByRecursion}
use Rattle.std.specs.Str.{is_utf8, bytes_eq}
use Rattle.std.proofs.lemmas.Bool.{and_parts}
use Rattle.std.proofs.lemmas.Bool.Decides.{nat_tests}
use Rattle.std.proofs.lemmas.Str.{IsUtf8-from_is_utf8, is_utf8-from_IsUtf8}
use Rattle.std.proofs.lemmas.List.Elements.{All-from_recursion, All-head, All-tail}
use Rattle.std.proofs.lemmas.List.Sorted.{IsPermutation-refl}
use Rattle.label_sets.specs.declared.label.Label.{Label}
use Rattle.label_sets.specs.Names.{is_label_name}
use Rattle.label_sets.specs.Labels.{has_value, label_set, labels_sorted, has_distinct_names}
use Rattle.label_sets.specs.Sets.{IsLabelSet}
use Rattle.label_sets.proofs.Laws.{sorted_itself, distinct_before, repeated_at-distinct}
use Rattle.exact_decimal.specs.declared.number.Number.{Number}
use Rattle.exact_decimal.specs.Numbers.{number, number_or_nan, is_out_of_range}
use Rattle.exact_decimal.specs.Literals.{number_text}
use Rattle.page_lines.specs.Lines.{is_line_feed}
use Rattle.page_model.specs.declared.format.Format.TheVariants.{OpenMetrics}
use Rattle.page_model.specs.declared.format.Treatment.TheVariants as treatments
use Rattle.page_model.specs.declared.item.Item.{Item}
use Rattle.page_model.specs.declared.item.Item.TheVariants as items
use Rattle.page_model.specs.Written.{Written, Setting, open_setting, line_limit, token_out_of_range, has_out_of_range, has_bad_labels, item_of}
use Rattle.page_model.specs.Faults.{line_breaks, own_fault}
use Rattle.page_model.specs.Pages.{IsItemOfLine}
use Rattle.open_writing.specs.Writing.{open_label_text, more_labels_text, labels_text, sample_text, item_text}
use Rattle.open_writing.specs.Forms.{IsFormedNumber, is_text_label}
use Rattle.writing_laws.proofs.Spelled.{number_text_read, written_form, IsWritableItem, item_spelled}
use Rattle.writing_laws.proofs.LineBytes.{IsLineText, line_append, fine_line, metric_name_line, label_name_line, unit_line, number_line, kind_line, escaped_line}

-- ---- the bytes

label_line : (l : Label) → is_text_label l ≡ true → IsLineText (open_label_text l)
unfolding open_label_text
label_line l h =
    let both = and_parts (is_label_name l.name) (is_utf8 l.value) h in
    line_append _ _ (line_append _ _ (line_append _ _ (label_name_line l.name both.0) (fine_line (codes "=\"") refl)) (escaped_line l.value (IsUtf8-from_is_utf8 l.value both.1))) (fine_line (codes "\"") refl)

more_line : (ls : List Label) → list_all is_text_label ls ≡ true → IsLineText (more_labels_text ls)
unfolding more_labels_text
more_line [] h = fine_line [] refl
more_line (l ∷ ls) h =
    let both = and_parts (is_text_label l) (list_all is_text_label ls) h in
    line_append (44 ∷ open_label_text l) _ (line_append (44 ∷ []) (open_label_text l) (fine_line (44 ∷ []) refl) (label_line l both.0)) (more_line ls both.1)

labels_line : (ls : List Label) → list_all is_text_label ls ≡ true → IsLineText (labels_text ls)
unfolding labels_text
labels_line [] h = fine_line [] refl
labels_line (l ∷ ls) h =
    let both = and_parts (is_text_label l) (list_all is_text_label ls) h in
    line_append _ _ (line_append (codes "{") (open_label_text l ++ more_labels_text ls) (fine_line (codes "{") refl) (line_append (open_label_text l) (more_labels_text ls) (label_line l both.0) (more_line ls both.1))) (fine_line (codes "}") refl)

-- the text of a HELP line is UTF-8
abbrev pub HasText : Item → Type 0
HasText (items.Help name text) = IsUtf8 text
HasText _ = ⊤

pub item_line : (item : Item) → IsWritableItem item → HasText item → IsLineText (item_text item)
unfolding item_text sample_text
item_line items.Blank h u = absurd h
item_line items.Comment h u = absurd h
item_line items.Eof h u = fine_line (codes "# EOF") refl
item_line (items.Help name text) h u = line_append _ _ (line_append _ _ (line_append _ _ (fine_line (codes "# HELP ") refl) (metric_name_line name h)) (fine_line (codes " ") refl)) (escaped_line text u)
item_line (items.KindOf name kind) h u = line_append _ _ (line_append _ _ (line_append _ _ (fine_line (codes "# TYPE ") refl) (metric_name_line name h)) (fine_line (codes " ") refl)) (kind_line kind)
item_line (items.Unit name unit) h u = line_append _ _ (line_append _ _ (line_append _ _ (fine_line (codes "# UNIT ") refl) (metric_name_line name h.0)) (fine_line (codes " ") refl)) (unit_line unit h.1)
item_line (items.Sample s) h u = line_append _ _ (line_append _ _ (line_append _ _ (metric_name_line s.name h.name) (labels_line s.labels h.labels)) (fine_line (codes " ") refl)) (number_line s.value h.value)

-- ---- the item

-- the labels of a sample are a set of no more labels than the treatment allows
abbrev pub HasLabelSet : Item → Type 0
HasLabelSet (items.Sample s) = IsLabelSet s.labels × (length s.labels ≤ 66)
HasLabelSet _ = ⊤

number_back : (n : Number) → IsFormedNumber n → number (number_text n) ≡ n
number_back n h = ap number_or_nan (number_text_read n h)

in_range : (n : Number) → IsFormedNumber n → token_out_of_range (number_text n) ≡ false
in_range n h = ap is_out_of_range (number_text_read n h)

keeps_all : (ls : List Label) → AllByRecursion (λ (l : Label). l.value ≢ []) ls → filter has_value ls ≡ ls
keeps_all [] h = refl
keeps_all (l ∷ ls) h = by (has_value l) refl (keeps_all ls h.1)
  where
    empty_value : (v : List ℕ) → not (bytes_eq v []) ≡ false → v ≡ []
    empty_value [] e = refl
    empty_value (c ∷ cs) e = absurd (let k : true ≡ false = e in cc)

    by : (b : Bool) → has_value l ≡ b → filter has_value ls ≡ ls → filter has_value (l ∷ ls) ≡ l ∷ ls
    by true e ih = rw e (ap (λ ms. l ∷ ms) ih)
    by false e ih = absurd (h.0 (empty_value l.value e))

-- a set is the set of its labels
pub set_itself : (ls : List Label) → IsLabelSet ls → label_set ls ≡ ls
set_itself ls h = ap labels_sorted (keeps_all ls (recursion ls h.valued)) ∙ sorted_itself ls h.ascending
  where
    recursion : (ms : List Label) → All (λ (l : Label). l.value ≢ []) ms → AllByRecursion (λ (l : Label). l.value ≢ []) ms
    recursion [] a = tt
    recursion (m ∷ ms) a = (All-head (λ (l : Label). l.value ≢ []) m ms a, recursion ms (All-tail (λ (l : Label). l.value ≢ []) m ms a))

-- and names no label twice
distinct_set : (ls : List Label) → IsLabelSet ls → has_distinct_names ls ≡ true
distinct_set ls h = ap is_none (repeated_at-distinct ls (distinct_before ls ls (IsPermutation-refl ls) h.ascending))

-- the item of its line is the item
pub item_again : (item : Item) → IsWritableItem item → HasLabelSet item → item ≡ item_of OpenMetrics (written_form item)
unfolding written_form
item_again items.Blank h l = absurd h
item_again items.Comment h l = absurd h
item_again (items.Sample s) h l = ap items.Sample (
    let set = set_itself s.labels l.0 in
    let value = number_back s.value h.value in
    let same : record { name = s.name; labels = s.labels; value = s.value; stamp = s.stamp; exemplar = s.exemplar } ≡ record { name = s.name; labels = label_set s.labels; value = number (number_text s.value); stamp = None; exemplar = None }
    = λ i. record { name = s.name; labels = sym set i; value = sym value i; stamp = h.no_stamp i; exemplar = h.no_exemplar i } in
    same)
item_again _ h l = refl

-- ---- its own rules

none_broken : (st : Setting) (bytes : List ℕ) (w : Written) → nat_lt (line_limit st.treatment) (length bytes) ≡ false → is_utf8 bytes ≡ true → has_out_of_range st.format w ≡ false → has_bad_labels st.treatment w ≡ false
    → own_fault st (record { bytes = bytes; says = Some w }) ≡ None
unfolding own_fault line_breaks
none_broken st bytes w long utf8 range labels = rw (long, utf8, range, labels) refl

range_kept : (item : Item) → IsWritableItem item → has_out_of_range OpenMetrics (written_form item) ≡ false
unfolding written_form
range_kept (items.Sample s) h = rw (in_range s.value h.value) refl
range_kept _ h = refl

labels_kept : (item : Item) → HasLabelSet item → has_bad_labels treatments.Written (written_form item) ≡ false
unfolding written_form
labels_kept items.Blank l = refl
labels_kept items.Comment l = refl
labels_kept items.Eof l = refl
labels_kept (items.Help name text) l = refl
labels_kept (items.KindOf name kind) l = refl
labels_kept (items.Unit name unit) l = refl
labels_kept (items.Sample s) l =
    let few : nat_le (length s.labels) 66 ≡ true = grind (arith, nat_tests, l.1) in
    rw (distinct_set s.labels l.0, few) refl

-- the line of a written item is one that spells it and breaks no rule of its own
pub written_line : (limit : ℕ) (item : Item) → IsWritableItem item → HasText item → HasLabelSet item → length (item_text item) ≤ 262144 → (i : IsItemOfLine (open_setting treatments.Written limit) item) × (i.line ≡ item_text item)
written_line limit item h u l short =
    let text = item_line item h u in
    let fits : nat_lt 262144 (length (item_text item)) ≡ false = grind (arith, nat_tests) in (
      record {
        line = item_text item;
        written = written_form item;
        one_line = All-from_recursion (λ c. is_line_feed c ≡ false) (item_text item) text.plain;
        spelled = item_spelled item h;
        without_fault = none_broken (open_setting treatments.Written limit) (item_text item) (written_form item) fits (is_utf8-from_IsUtf8 (item_text item) text.utf8) (range_kept item h) (labels_kept item l);
        item_is = item_again item h l;
      },
      refl,
    )
