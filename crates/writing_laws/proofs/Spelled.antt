-- Each line that is written spells its item: escapes, labels, numbers.
use Rattle.std.proofs.Common.{◌≡◌, ℕ, Bool, true, false, List, [], ◌∷◌, ◌++◌, None, Ok, Err, codes, refl, sym, ap, subst, ◌∙◌, arith, inl, inr, ◌⊎◌}
use Rattle.std.specs.Prelude.{◌==◌, ⊤}
use Rattle.std.specs.List.{flat_map, list_all}
use Rattle.std.proofs.lemmas.Bool.{and_parts}
use Rattle.std.proofs.lemmas.List.{append-nil}
use Rattle.std.proofs.lemmas.Bool.Decides.{nat_tests}
use Rattle.label_sets.specs.declared.label.Label.{Label}
use Rattle.label_sets.specs.Names.{is_metric_name, is_metric_char, is_label_name}
use Rattle.label_sets.specs.Escapes.{quote_escape, unescaped, is_quotable, is_quote, is_backslash}
use Rattle.exact_decimal.specs.declared.number.Number.{Number}
use Rattle.exact_decimal.specs.declared.number.Number.TheVariants.{Finite, Up, Down, NotANumber}
use Rattle.exact_decimal.specs.declared.number.NumberFault.TheVariants as faults
use Rattle.exact_decimal.specs.Tokens.{unsigned, has_minus, mantissa, whole_part, fraction_part, has_exponent, exponent_part, is_digits, is_real, is_infinity, is_nan_token, is_number_token}
use Rattle.exact_decimal.specs.Numbers.{number_read}
use Rattle.exact_decimal.specs.Literals.{number_text}
use Rattle.exact_decimal.proofs.Laws.{read_back, not_a_number}
use Rattle.page_model.specs.declared.item.Item.{Item}
use Rattle.page_model.specs.declared.item.Item.TheVariants as items
use Rattle.page_model.specs.declared.item.Sample.{Sample}
use Rattle.page_model.specs.Written.{Written, blank, comment, eof, help, type_line, unit_line, sample}
use Rattle.page_model.specs.OpenItems.{SpellsOpen, SpellsOpenLabel, SpellsMoreLabels, SpellsOptionalList}
use Rattle.open_writing.specs.Writing.{escaped_char, escaped, open_label_text, more_labels_text, labels_text, sample_text, item_text}
use Rattle.open_writing.specs.Forms.{IsFormedNumber, is_text_label}

-- ---- escapes

-- what a character comes to: itself, where it is none of the three that are escaped
plain_first : (c : ℕ) (cs : List ℕ) → is_backslash c ≡ false → unescaped quote_escape (c ∷ cs) ≡ c ∷ unescaped quote_escape cs
plain_first c [] e = refl
plain_first c (d ∷ cs) e = rw e refl

plain_quotable : (c : ℕ) (cs : List ℕ) → is_quote c ≡ false → is_backslash c ≡ false → is_quotable cs ≡ true → is_quotable (c ∷ cs) ≡ true
plain_quotable c [] q b h = rw (q, b) refl
plain_quotable c (d ∷ cs) q b h = rw (q, b) h

-- which of the three a character is
data Sort (c : ℕ) : Type 0 where
  mark : ((c ≡ 92) ⊎ (c ≡ 34)) → Sort c
  feed : c ≡ 10 → Sort c
  other : (c == 92) ≡ false → (c == 34) ≡ false → (c == 10) ≡ false → Sort c

sort_of : (c : ℕ) → Sort c
sort_of c = go (c == 92) (c == 34) (c == 10) refl refl refl
  where
    go : (a b d : Bool) → (c == 92) ≡ a → (c == 34) ≡ b → (c == 10) ≡ d → Sort c
    go true b d e f g = mark (inl (grind (arith, nat_tests)))
    go false true d e f g = mark (inr (grind (arith, nat_tests)))
    go false false true e f g = feed (grind (arith, nat_tests))
    go false false false e f g = other e f g

-- an escaped text stands for the text
pub unescaped_escaped : (text : List ℕ) → unescaped quote_escape (escaped text) ≡ text
unfolding escaped
unescaped_escaped [] = refl
unescaped_escaped (c ∷ cs) = go (unescaped_escaped cs) (sort_of c)
  where
    go : unescaped quote_escape (flat_map escaped_char cs) ≡ cs → Sort c → unescaped quote_escape (flat_map escaped_char (c ∷ cs)) ≡ c ∷ cs
    go ih (mark (inl e)) = subst (λ d. unescaped quote_escape (flat_map escaped_char (d ∷ cs)) ≡ d ∷ cs) (sym e) (ap (λ t. 92 ∷ t) ih)
    go ih (mark (inr e)) = subst (λ d. unescaped quote_escape (flat_map escaped_char (d ∷ cs)) ≡ d ∷ cs) (sym e) (ap (λ t. 34 ∷ t) ih)
    go ih (feed e) = subst (λ d. unescaped quote_escape (flat_map escaped_char (d ∷ cs)) ≡ d ∷ cs) (sym e) (ap (λ t. 10 ∷ t) ih)
    go ih (other e f g) = rw (e, f, g) (plain_first c (flat_map escaped_char cs) e ∙ ap (λ t. c ∷ t) ih)

-- and may stand between two quotes
pub quotable_escaped : (text : List ℕ) → is_quotable (escaped text) ≡ true
unfolding escaped
quotable_escaped [] = refl
quotable_escaped (c ∷ cs) = go (quotable_escaped cs) (sort_of c)
  where
    go : is_quotable (flat_map escaped_char cs) ≡ true → Sort c → is_quotable (flat_map escaped_char (c ∷ cs)) ≡ true
    go ih (mark (inl e)) = subst (λ d. is_quotable (flat_map escaped_char (d ∷ cs)) ≡ true) (sym e) ih
    go ih (mark (inr e)) = subst (λ d. is_quotable (flat_map escaped_char (d ∷ cs)) ≡ true) (sym e) ih
    go ih (feed e) = subst (λ d. is_quotable (flat_map escaped_char (d ∷ cs)) ≡ true) (sym e) ih
    go ih (other e f g) = rw (e, f, g) (plain_quotable c (flat_map escaped_char cs) f e ih)

-- ---- numbers

token_read : (token : List ℕ) (n : Number) → number_read token ≡ Ok n → is_number_token token ≡ true
token_read token n e = go (is_number_token token) refl
  where
    go : (b : Bool) → is_number_token token ≡ b → is_number_token token ≡ true
    go true f = f
    go false f = absurd (let h : Err faults.NotANumber ≡ Ok n = sym ((not_a_number token).1 f) ∙ e in cc)

up_read : number_read (codes "+Inf") ≡ Ok Up
unfolding number_read unsigned has_minus mantissa whole_part fraction_part has_exponent exponent_part is_digits is_real is_infinity is_nan_token
up_read = refl

down_read : number_read (codes "-Inf") ≡ Ok Down
unfolding number_read unsigned has_minus mantissa whole_part fraction_part has_exponent exponent_part is_digits is_real is_infinity is_nan_token
down_read = refl

nan_read : number_read (codes "NaN") ≡ Ok NotANumber
unfolding number_read unsigned has_minus mantissa whole_part fraction_part has_exponent exponent_part is_digits is_real is_infinity is_nan_token
nan_read = refl

-- the text of a number in its one form is read as the number
pub number_text_read : (n : Number) → IsFormedNumber n → number_read (number_text n) ≡ Ok n
unfolding number_text
number_text_read (Finite d) h = read_back d h
number_text_read Up h = up_read
number_text_read Down h = down_read
number_text_read NotANumber h = nan_read

-- so it is a token
pub number_text_token : (n : Number) → IsFormedNumber n → is_number_token (number_text n) ≡ true
number_text_token n h = token_read (number_text n) n (number_text_read n h)

-- ---- labels

pub label_spelled : (l : Label) → is_label_name l.name ≡ true → SpellsOpenLabel (open_label_text l) l
unfolding open_label_text
label_spelled l h = (escaped l.value, h, quotable_escaped l.value, sym (unescaped_escaped l.value), refl)

name_of : (l : Label) → is_text_label l ≡ true → is_label_name l.name ≡ true
name_of l h = (and_parts (is_label_name l.name) _ h).0

more_spelled : (ls : List Label) → list_all is_text_label ls ≡ true → SpellsMoreLabels (more_labels_text ls) ls
unfolding more_labels_text
more_spelled [] h = refl
more_spelled (l ∷ ls) h =
    let both = and_parts (is_text_label l) (list_all is_text_label ls) h in
    (open_label_text l, flat_map (λ m. 44 ∷ open_label_text m) ls, label_spelled l (name_of l both.0), more_spelled ls both.1, refl)

pub labels_spelled : (ls : List Label) → list_all is_text_label ls ≡ true → SpellsOptionalList (labels_text ls) ls
unfolding labels_text
labels_spelled [] h = inl (refl, refl)
labels_spelled (l ∷ ls) h =
    let both = and_parts (is_text_label l) (list_all is_text_label ls) h in
    inr (open_label_text l ++ more_labels_text ls, (open_label_text l, more_labels_text ls, label_spelled l (name_of l both.0), more_spelled ls both.1, refl), refl)

-- ---- items

-- what the line of an item says
unfoldable pub written_form : Item → Written
written_form items.Blank = blank
written_form items.Comment = comment
written_form items.Eof = eof
written_form (items.Help name text) = help name text
written_form (items.KindOf name kind) = type_line name kind
written_form (items.Unit name unit) = unit_line name unit
written_form (items.Sample s) = sample (record { name = s.name; labels = s.labels; value = number_text s.value; stamp = None; exemplar = None })

-- a sample that can be written
pub record IsWritableSample (s : Sample) : Type 0 where
  pub name : is_metric_name s.name ≡ true
  pub labels : list_all is_text_label s.labels ≡ true
  pub value : IsFormedNumber s.value
  pub no_stamp : s.stamp ≡ None
  pub no_exemplar : s.exemplar ≡ None

-- an item that can be written
abbrev pub IsWritableItem : Item → Type 0
IsWritableItem items.Blank = ⊥
IsWritableItem items.Comment = ⊥
IsWritableItem items.Eof = ⊤
IsWritableItem (items.Help name text) = is_metric_name name ≡ true
IsWritableItem (items.KindOf name kind) = is_metric_name name ≡ true
IsWritableItem (items.Unit name unit) = (is_metric_name name ≡ true) × (list_all is_metric_char unit ≡ true)
IsWritableItem (items.Sample s) = IsWritableSample s

-- the text of an item spells what its line says
pub item_spelled : (item : Item) → IsWritableItem item → SpellsOpen (item_text item) (written_form item)
unfolding written_form item_text sample_text
item_spelled items.Blank h = h
item_spelled items.Comment h = h
item_spelled items.Eof h = refl
item_spelled (items.Help name text) h = (escaped text, h, sym (unescaped_escaped text), refl)
item_spelled (items.KindOf name kind) h = (h, refl)
item_spelled (items.Unit name unit) h = (h.0, h.1, refl)
item_spelled (items.Sample s) h = (
  labels_text s.labels,
  [],
  [],
  h.name,
  labels_spelled s.labels h.labels,
  number_text_token s.value h.value,
  refl,
  refl,
  sym (append-nil _ ∙ append-nil _),
)
