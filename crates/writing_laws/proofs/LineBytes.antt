-- The bytes of a line that is written: UTF-8, and without a line feed.
use Rattle.std.proofs.Common.{◌≡◌, ℕ, suc, ◌<◌, ◌≤◌, Bool, true, false, not, ◌&&◌, ◌||◌, cond, List, [], ◌∷◌, ◌++◌, length, get_or, codes, refl, sym, ap, subst, arith, IsUtf8, inl, inr}
use Rattle.std.specs.Prelude.{◌==◌, nat_lt}
use Rattle.std.specs.List.{flat_map, list_all, AllByRecursion}
use Rattle.std.proofs.lemmas.Bool.{and_parts, and_from, cases_lt}
use Rattle.std.proofs.lemmas.Bool.Decides.{nat_tests}
use Rattle.std.proofs.lemmas.List.{append-nil}
use Rattle.std.proofs.lemmas.Grind.{flat_map-append}
use Rattle.std.proofs.lemmas.Str.{IsUtf8-append, IsUtf8-nil, IsUtf8-encode, encode_ascii, inside_one}
use lib.Utf8.{scalar, scalars, encode, encodes, low_scalar}
use Rattle.label_sets.specs.declared.kind.Kind.{Kind}
use Rattle.label_sets.specs.declared.kind.Kind.TheVariants.{Counter, Gauge, Histogram, GaugeHistogram, StateSet, Info, Summary, Unknown}
use Rattle.label_sets.specs.Names.{is_metric_name, is_metric_start, is_metric_char, is_label_name, is_label_start, is_label_char}
use Rattle.exact_decimal.specs.declared.number.Number.{Number}
use Rattle.exact_decimal.specs.Tokens.{is_token_char}
use Rattle.exact_decimal.specs.Literals.{number_text}
use Rattle.exact_decimal.proofs.Laws.{token_passes}
use Rattle.page_lines.specs.Lines.{is_line_feed}
use Rattle.page_model.specs.OpenItems.{kind_word}
use Rattle.open_writing.specs.Writing.{escaped_char, escaped}
use Rattle.open_writing.specs.Forms.{IsFormedNumber}
use Rattle.writing_laws.proofs.Spelled.{number_text_token}

-- UTF-8 without a line feed
pub record IsLineText (bytes : List ℕ) : Type 0 where
  pub utf8 : IsUtf8 bytes
  pub plain : AllByRecursion (λ c. is_line_feed c ≡ false) bytes

plain_append : (a b : List ℕ) → AllByRecursion (λ c. is_line_feed c ≡ false) a → AllByRecursion (λ c. is_line_feed c ≡ false) b → AllByRecursion (λ c. is_line_feed c ≡ false) (a ++ b)
plain_append [] b p q = q
plain_append (c ∷ a) b p q = (p.0, plain_append a b p.1 q)

pub line_append : (a b : List ℕ) → IsLineText a → IsLineText b → IsLineText (a ++ b)
line_append a b p q = record { utf8 = IsUtf8-append a b p.utf8 q.utf8; plain = plain_append a b p.plain q.plain }

-- an ASCII character that is no line feed
abbrev is_fine : ℕ → Bool
is_fine c = nat_lt c 128 && not (c == 10)

pub fine_line : (bytes : List ℕ) → list_all is_fine bytes ≡ true → IsLineText bytes
fine_line [] h = record { utf8 = IsUtf8-nil; plain = tt }
fine_line (c ∷ cs) h =
    let both = and_parts (is_fine c) (list_all is_fine cs) h in
    let rest = fine_line cs both.1 in
    let small : c < 128 = grind (arith, nat_tests) in
    let plain : is_line_feed c ≡ false = grind (arith, nat_tests) in
    record { utf8 = IsUtf8-append (c ∷ []) cs (subst IsUtf8 (encode_ascii c small) (IsUtf8-encode c (low_scalar c (omega (arith, small))))) rest.utf8; plain = (plain, rest.plain) }

pub all_more : (p q : ℕ → Bool) → ((c : ℕ) → p c ≡ true → q c ≡ true) → (cs : List ℕ) → list_all p cs ≡ true → list_all q cs ≡ true
all_more p q more [] h = refl
all_more p q more (c ∷ cs) h = let both = and_parts (p c) (list_all p cs) h in and_from (q c) (list_all q cs) (more c both.0) (all_more p q more cs both.1)

metric_fine : (c : ℕ) → is_metric_char c ≡ true → is_fine c ≡ true
metric_fine c h = grind (arith, nat_tests)

label_fine : (c : ℕ) → is_label_char c ≡ true → is_fine c ≡ true
label_fine c h = grind (arith, nat_tests)

token_fine : (c : ℕ) → is_token_char c ≡ true → is_fine c ≡ true
token_fine c h = grind (arith, nat_tests)

-- all characters of a name are of one sort, where the first may be fewer of them
all_from : (start char : ℕ → Bool) → ((c : ℕ) → start c ≡ true → char c ≡ true) → (c : ℕ) (cs : List ℕ) → (start c && list_all char cs) ≡ true → list_all char (c ∷ cs) ≡ true
all_from start char is c cs h = let both = and_parts (start c) (list_all char cs) h in and_from (char c) (list_all char cs) (is c both.0) both.1

metric_starts : (c : ℕ) → is_metric_start c ≡ true → is_metric_char c ≡ true
metric_starts c h = grind (arith, nat_tests)

label_starts : (c : ℕ) → is_label_start c ≡ true → is_label_char c ≡ true
label_starts c h = grind (arith, nat_tests)

pub metric_chars : (name : List ℕ) → is_metric_name name ≡ true → list_all is_metric_char name ≡ true
metric_chars [] h = absurd cc
metric_chars (c ∷ cs) h = all_from is_metric_start is_metric_char metric_starts c cs h

pub label_chars : (name : List ℕ) → is_label_name name ≡ true → list_all is_label_char name ≡ true
label_chars [] h = absurd cc
label_chars (c ∷ cs) h = all_from is_label_start is_label_char label_starts c cs h

pub metric_name_line : (name : List ℕ) → is_metric_name name ≡ true → IsLineText name
metric_name_line name h = fine_line name (all_more is_metric_char is_fine metric_fine name (metric_chars name h))

pub label_name_line : (name : List ℕ) → is_label_name name ≡ true → IsLineText name
label_name_line name h = fine_line name (all_more is_label_char is_fine label_fine name (label_chars name h))

pub unit_line : (unit : List ℕ) → list_all is_metric_char unit ≡ true → IsLineText unit
unit_line unit h = fine_line unit (all_more is_metric_char is_fine metric_fine unit h)

pub number_line : (n : Number) → IsFormedNumber n → IsLineText (number_text n)
number_line n h = fine_line (number_text n) (all_more is_token_char is_fine token_fine (number_text n) (token_passes (number_text n) (number_text_token n h)))

pub kind_line : (kind : Kind) → IsLineText (kind_word kind)
kind_line Counter = fine_line (kind_word Counter) refl
kind_line Gauge = fine_line (kind_word Gauge) refl
kind_line Histogram = fine_line (kind_word Histogram) refl
kind_line GaugeHistogram = fine_line (kind_word GaugeHistogram) refl
kind_line StateSet = fine_line (kind_word StateSet) refl
kind_line Info = fine_line (kind_word Info) refl
kind_line Summary = fine_line (kind_word Summary) refl
kind_line Unknown = fine_line (kind_word Unknown) refl

-- ---- escaped texts

no_feed : (c : ℕ) → AllByRecursion (λ d. is_line_feed d ≡ false) (escaped_char c)
no_feed c = go (c == 92 || c == 34) (c == 10) refl refl
  where
    go : (a b : Bool) → (c == 92 || c == 34) ≡ a → (c == 10) ≡ b → AllByRecursion (λ d. is_line_feed d ≡ false) (cond a (92 ∷ c ∷ []) (cond b (codes "\\n") (c ∷ [])))
    go true true e f = absurd (let h : ⊥ = grind (arith, nat_tests) in h)
    go true false e f = (refl, (f, tt))
    go false true e f = (refl, (refl, tt))
    go false false e f = (f, tt)

pub escaped_plain : (text : List ℕ) → AllByRecursion (λ c. is_line_feed c ≡ false) (escaped text)
unfolding escaped
escaped_plain [] = tt
escaped_plain (c ∷ cs) = plain_append (escaped_char c) (flat_map escaped_char cs) (no_feed c) (escaped_plain cs)

-- an ASCII character's escape is ASCII
small_escape : (c : ℕ) → c < 128 → IsUtf8 (escaped_char c)
small_escape c small = go (c == 92 || c == 34) (c == 10)
  where
    one : (d : ℕ) → d < 128 → IsUtf8 (d ∷ [])
    one d h = subst IsUtf8 (encode_ascii d h) (IsUtf8-encode d (low_scalar d (omega (arith, h))))

    go : (a b : Bool) → IsUtf8 (cond a (92 ∷ c ∷ []) (cond b (codes "\\n") (c ∷ [])))
    go true b = IsUtf8-append (92 ∷ []) (c ∷ []) (one 92 (omega arith)) (one c small)
    go false true = IsUtf8-append (92 ∷ []) (110 ∷ []) (one 92 (omega arith)) (one 110 (omega arith))
    go false false = one c small

-- bytes that are not ASCII stand for themselves
high_escape : (bytes : List ℕ) → ((k : ℕ) → k < length bytes → 128 ≤ get_or bytes k 0) → flat_map escaped_char bytes ≡ bytes
high_escape [] h = refl
high_escape (c ∷ cs) h =
    let high : 128 ≤ c = h 0 (omega arith) in
    let mark : (c == 92 || c == 34) ≡ false = grind (arith, nat_tests) in
    let feed : (c == 10) ≡ false = grind (arith, nat_tests) in
    rw (mark, feed) (ap (λ ds. c ∷ ds) (high_escape cs (λ k below. h (suc k) (omega arith))))

high_bytes : (c : ℕ) → 128 ≤ c → (k : ℕ) → k < length (encode c) → 128 ≤ get_or (encode c) k 0
high_bytes c big k below = elim (cases_lt (get_or (encode c) k 0) 128) [
  | inl low ↦ absurd (omega (arith, inside_one c [] (encode c) k (sym (append-nil _)) below low))
  | inr h ↦ h
]

char_escape : (c : ℕ) → scalar c ≡ true → IsUtf8 (flat_map escaped_char (encode c))
char_escape c ok = elim (cases_lt c 128) [
  | inl small ↦ rw (encode_ascii c small) (IsUtf8-append (escaped_char c) [] (small_escape c small) IsUtf8-nil)
  | inr big ↦ subst IsUtf8 (sym (high_escape (encode c) (high_bytes c big))) (IsUtf8-encode c ok)
]

all_escaped : (cs : List ℕ) → scalars cs ≡ true → IsUtf8 (flat_map escaped_char (encodes cs))
all_escaped [] h = IsUtf8-nil
all_escaped (c ∷ cs) h =
    let both = and_parts (scalar c) (scalars cs) h in
    subst IsUtf8 (sym (flat_map-append escaped_char (encode c) (encodes cs))) (IsUtf8-append _ _ (char_escape c both.0) (all_escaped cs both.1))

pub escaped_utf8 : (text : List ℕ) → IsUtf8 text → IsUtf8 (escaped text)
unfolding escaped
escaped_utf8 text u = subst (λ t. IsUtf8 (flat_map escaped_char t)) u.1.1 (all_escaped u.0 u.1.0)

pub escaped_line : (text : List ℕ) → IsUtf8 text → IsLineText (escaped text)
escaped_line text u = record { utf8 = escaped_utf8 text u; plain = escaped_plain text }
