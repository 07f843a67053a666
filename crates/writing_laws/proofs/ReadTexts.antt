-- What is read of a line in UTF-8 is UTF-8: the texts of HELP lines and the values of labels.
use Rattle.std.proofs.Common.{◌≡◌, ℕ, zero, suc, ◌-◌, ◌<◌, ◌≤◌, Bool, true, List, [], ◌∷◌, ◌++◌, length, take, get_or, reverse, codes, append_assoc, refl, sym, ap, subst, ◌∙◌, arith, IsUtf8, inl, inr, ◌⊎◌}
use Rattle.std.specs.Prelude.{nat_lt}
use Rattle.std.specs.List.{list_all, suffix_len}
use Rattle.std.specs.Str.{is_utf8}
use Rattle.std.proofs.lemmas.Bool.{and_parts, and_from}
use Rattle.std.proofs.lemmas.Bool.Decides.{nat_tests}
use Rattle.std.proofs.lemmas.Grind.{common_steps}
use Rattle.std.proofs.Math.Seq.{get_or-append_seam}
use Rattle.std.proofs.lemmas.List.{length-append, length-reverse, get_or-reverse}
use Rattle.std.proofs.lemmas.List.Folds.{list_all-append}
use Rattle.std.proofs.lemmas.List.Sums.{prefix_len_passes, suffix_len-le-length}
use Rattle.std.proofs.lemmas.Str.{IsUtf8-take, IsUtf8-nil, IsCharBoundary-before_ascii, is_utf8-from_IsUtf8}
use Rattle.writing_laws.proofs.LineBytes.{metric_chars, label_chars, all_more}
use Rattle.label_sets.specs.declared.label.Label.{Label}
use Rattle.label_sets.specs.Names.{is_metric_name, is_metric_char, is_label_name, is_label_char, is_blank}
use Rattle.label_sets.specs.Escapes.{help_escape, quote_escape, unescaped}
use Rattle.line_scan.proofs.Laws.{utf8_tail, utf8_rest, utf8_shorter, blank_small, blanks_ascii, utf8_behind, utf8_unescaped, help_ascii, quote_ascii}
use Rattle.page_model.specs.Written.{WrittenSample}
use Rattle.page_model.specs.TextItems.{AreBlanks, SpellsHelpText, SpellsHelp, SpellsLabel, SpellsLabels, SpellsMiddle, SpellsSample, trimmed, without_leading_blanks}
use Rattle.page_model.specs.OpenItems.{SpellsOpenHelp, SpellsOpenLabel, SpellsMoreLabels, SpellsOpenLabels, SpellsOptionalList, SpellsOpenSample}
use Rattle.open_writing.specs.Forms.{is_text_label}

-- ---- ASCII characters

-- an ASCII character
abbrev is_low : ℕ → Bool
is_low c = nat_lt c 128

low_append : (a b : List ℕ) → list_all is_low a ≡ true → list_all is_low b ≡ true → list_all is_low (a ++ b) ≡ true
low_append a b h k = list_all-append is_low a b ∙ and_from (list_all is_low a) (list_all is_low b) h k

low_metric : (c : ℕ) → is_metric_char c ≡ true → is_low c ≡ true
low_metric c h = grind (arith, nat_tests)

low_label : (c : ℕ) → is_label_char c ≡ true → is_low c ≡ true
low_label c h = grind (arith, nat_tests)

low_blank : (c : ℕ) → is_blank c ≡ true → is_low c ≡ true
low_blank c h = grind (arith, nat_tests)

low_metric_name : (name : List ℕ) → is_metric_name name ≡ true → list_all is_low name ≡ true
low_metric_name name h = all_more is_metric_char is_low low_metric name (metric_chars name h)

low_label_name : (name : List ℕ) → is_label_name name ≡ true → list_all is_low name ≡ true
low_label_name name h = all_more is_label_char is_low low_label name (label_chars name h)

low_blanks : (cs : List ℕ) → AreBlanks cs → list_all is_low cs ≡ true
low_blanks cs h = all_more is_blank is_low low_blank cs h

-- behind ASCII characters
utf8_past : (front rest : List ℕ) → list_all is_low front ≡ true → IsUtf8 (front ++ rest) → IsUtf8 rest
utf8_past [] rest h u = u
utf8_past (c ∷ cs) rest h u =
    let both = and_parts (is_low c) (list_all is_low cs) h in
    let small : c < 128 = grind (arith, nat_tests) in
    utf8_past cs rest both.1 (utf8_tail c (cs ++ rest) small u)

-- in front of one
utf8_before : (xs : List ℕ) (c : ℕ) (ys : List ℕ) → c < 128 → IsUtf8 (xs ++ c ∷ ys) → IsUtf8 xs
utf8_before xs c ys small u =
    let at : get_or (xs ++ c ∷ ys) (length xs) 0 ≡ c = get_or-append_seam xs c ys 0 in
    let within : length xs < length (xs ++ c ∷ ys) = omega (arith, length-append xs (c ∷ ys)) in
    let low : get_or (xs ++ c ∷ ys) (length xs) 0 < 128 = omega (arith, at) in
    let front : take (length xs) (xs ++ c ∷ ys) ≡ xs = grind (arith, common_steps) in
    subst IsUtf8 front (IsUtf8-take (xs ++ c ∷ ys) (length xs) u (IsCharBoundary-before_ascii (xs ++ c ∷ ys) (length xs) within low))

-- a quoted text behind such characters, and what stands behind its quote
quoted_parts : (front quoted rest : List ℕ) → list_all is_low front ≡ true → IsUtf8 (front ++ (quoted ++ 34 ∷ rest)) → IsUtf8 quoted × IsUtf8 rest
quoted_parts front quoted rest low u =
    let inside = utf8_past front (quoted ++ 34 ∷ rest) low u in
    let own = utf8_before quoted 34 rest (omega arith) inside in
    (own, utf8_tail 34 rest (omega arith) (utf8_behind quoted (34 ∷ rest) own inside))

-- a label of a name and an unescaped value
text_label : (l : Label) (quoted : List ℕ) → is_label_name l.name ≡ true → l.value ≡ unescaped quote_escape quoted → IsUtf8 quoted → is_text_label l ≡ true
text_label l quoted named value u =
    and_from (is_label_name l.name) (is_utf8 l.value) named (is_utf8-from_IsUtf8 l.value (subst IsUtf8 (sym value) (utf8_unescaped quote_escape quote_ascii quoted u)))

-- ---- OpenMetrics

open_label : (text rest : List ℕ) (l : Label) → SpellsOpenLabel text l → IsUtf8 (text ++ rest) → (is_text_label l ≡ true) × IsUtf8 rest
open_label text rest l s u =
    let front : List ℕ = l.name ++ codes "=\"" in
    let whole : text ++ rest ≡ front ++ (s.0 ++ 34 ∷ rest) = ap (λ t. t ++ rest) s.4 ∙ append_assoc (front ++ s.0) (codes "\"") rest ∙ append_assoc front s.0 (34 ∷ rest) in
    let parts = quoted_parts front s.0 rest (low_append l.name (codes "=\"") (low_label_name l.name s.1) refl) (subst IsUtf8 whole u) in
    (text_label l s.0 s.1 s.3 parts.0, parts.1)

more_open : (text rest : List ℕ) (ls : List Label) → SpellsMoreLabels text ls → IsUtf8 (text ++ rest) → list_all is_text_label ls ≡ true
more_open text rest [] s u = refl
more_open text rest (l ∷ ls) s u =
    let whole : text ++ rest ≡ 44 ∷ (s.0 ++ (s.1 ++ rest)) = ap (λ t. t ++ rest) s.4 ∙ append_assoc (44 ∷ s.0) s.1 rest in
    let first = open_label s.0 (s.1 ++ rest) l s.2 (utf8_tail 44 (s.0 ++ (s.1 ++ rest)) (omega arith) (subst IsUtf8 whole u)) in
    and_from (is_text_label l) (list_all is_text_label ls) first.0 (more_open s.1 rest ls s.3 first.1)

open_labels : (text rest : List ℕ) (ls : List Label) → SpellsOpenLabels text ls → IsUtf8 (text ++ rest) → list_all is_text_label ls ≡ true
open_labels text rest [] s u = refl
open_labels text rest (l ∷ ls) s u =
    let whole : text ++ rest ≡ s.0 ++ (s.1 ++ rest) = ap (λ t. t ++ rest) s.4 ∙ append_assoc s.0 s.1 rest in
    let first = open_label s.0 (s.1 ++ rest) l s.2 (subst IsUtf8 whole u) in
    and_from (is_text_label l) (list_all is_text_label ls) first.0 (more_open s.1 rest ls s.3 first.1)

open_optional : (text rest : List ℕ) (ls : List Label) → SpellsOptionalList text ls → IsUtf8 (text ++ rest) → list_all is_text_label ls ≡ true
open_optional text rest ls (inl s) u = subst (λ ms. list_all is_text_label ms ≡ true) (sym s.1) refl
open_optional text rest ls (inr s) u =
    let whole : text ++ rest ≡ 123 ∷ (s.0 ++ 125 ∷ rest) = ap (λ t. t ++ rest) s.2 ∙ append_assoc (123 ∷ s.0) (codes "}") rest in
    open_labels s.0 (125 ∷ rest) ls s.1 (utf8_tail 123 (s.0 ++ 125 ∷ rest) (omega arith) (subst IsUtf8 whole u))

six_parts : (a b c d e f : List ℕ) → a ++ b ++ c ++ d ++ e ++ f ≡ a ++ (b ++ (c ++ (d ++ (e ++ f))))
six_parts a b c d e f = append_assoc (a ++ b ++ c ++ d) e f ∙ append_assoc (a ++ b ++ c) d (e ++ f) ∙ append_assoc (a ++ b) c (d ++ (e ++ f)) ∙ append_assoc a b (c ++ (d ++ (e ++ f)))

-- the labels of a sample line of OpenMetrics
pub open_sample_labels : (line : List ℕ) (s : WrittenSample) → SpellsOpenSample line s → IsUtf8 line → list_all is_text_label s.labels ≡ true
open_sample_labels line w s u =
    let whole : line ≡ w.name ++ (s.0 ++ (codes " " ++ (w.value ++ (s.1 ++ s.2)))) = s.8 ∙ six_parts w.name s.0 (codes " ") w.value s.1 s.2 in
    open_optional s.0 (codes " " ++ (w.value ++ (s.1 ++ s.2))) w.labels s.4 (utf8_past w.name _ (low_metric_name w.name s.3) (subst IsUtf8 whole u))

-- the text of a HELP line of OpenMetrics
pub open_help_text : (line name text : List ℕ) → SpellsOpenHelp line name text → IsUtf8 line → is_utf8 text ≡ true
open_help_text line name text s u =
    let front : List ℕ = codes "# HELP " ++ name ++ codes " " in
    let low : list_all is_low front ≡ true = low_append (codes "# HELP " ++ name) (codes " ") (low_append (codes "# HELP ") name refl (low_metric_name name s.1)) refl in
    let written = utf8_past front s.0 low (subst IsUtf8 s.3 u) in
    is_utf8-from_IsUtf8 text (subst IsUtf8 (sym s.2) (utf8_unescaped quote_escape quote_ascii s.0 written))

-- ---- the text format

-- without blanks at the end, so many of them
utf8_ended : (cs : List ℕ) → IsUtf8 cs → (k : ℕ) → k ≤ suffix_len is_blank cs → IsUtf8 (take (length cs - k) cs)
utf8_ended cs u zero h = let all : take (length cs - 0) cs ≡ cs = grind (arith, common_steps) in subst IsUtf8 (sym all) u
utf8_ended cs u (suc k) h =
    let most = suffix_len-le-length is_blank cs in
    let turned = length-reverse cs in
    let blank : is_blank (get_or cs (length cs - 1 - k) 0) ≡ true = ap is_blank (sym (get_or-reverse cs k 0 (omega (arith, most)))) ∙ prefix_len_passes is_blank (reverse cs) k 0 (omega (arith, h)) in
    let small = blank_small (get_or cs (length cs - 1 - k) 0) blank in
    let at : length cs - k - 1 ≡ length cs - 1 - k = omega arith in
    let end : length cs - k - 1 ≡ length cs - suc k = omega arith in
    subst (λ n. IsUtf8 (take n cs)) end
    (utf8_shorter cs (length cs - k) (omega (arith, most)) (omega arith) (subst (λ n. get_or cs n 0 < 128) (sym at) small) (utf8_ended cs u k (omega (arith, h))))

pub utf8_trimmed : (line : List ℕ) → IsUtf8 line → IsUtf8 (trimmed line)
unfolding trimmed
utf8_trimmed line u =
    let cs : List ℕ = without_leading_blanks line in
    utf8_ended cs (utf8_rest is_blank blanks_ascii line u) (suffix_len is_blank cs) (omega arith)

-- a label with blanks around its parts
plain_label : (text rest : List ℕ) (l : Label) → SpellsLabel text l → IsUtf8 (text ++ rest) → (is_text_label l ≡ true) × IsUtf8 rest
plain_label text rest l s u =
    let front : List ℕ = s.first ++ l.name ++ s.second ++ codes "=" ++ s.third ++ codes "\"" in
    let low : list_all is_low front ≡ true =
    low_append (s.first ++ l.name ++ s.second ++ codes "=" ++ s.third) (codes "\"") (low_append (s.first ++ l.name ++ s.second ++ codes "=") s.third
    (low_append (s.first ++ l.name ++ s.second) (codes "=") (low_append (s.first ++ l.name) s.second (low_append s.first l.name (low_blanks s.first s.blanks.0) (low_label_name l.name s.label_name))
    (low_blanks s.second s.blanks.1)) refl) (low_blanks s.third s.blanks.2)) refl in
    let whole : text ++ rest ≡ front ++ (s.quoted ++ 34 ∷ (s.last ++ rest)) =
    ap (λ t. t ++ rest) s.whole ∙ append_assoc (front ++ s.quoted ++ codes "\"") s.last rest ∙ append_assoc (front ++ s.quoted) (codes "\"") (s.last ++ rest) ∙ append_assoc front s.quoted (34 ∷ (s.last ++ rest)) in
    let parts = quoted_parts front s.quoted (s.last ++ rest) low (subst IsUtf8 whole u) in
    (text_label l s.quoted s.label_name s.value parts.0, utf8_past s.last rest (low_blanks s.last s.blanks.3) parts.1)

plain_labels : (ls : List Label) (text rest : List ℕ) → SpellsLabels text ls → IsUtf8 (text ++ rest) → list_all is_text_label ls ≡ true
plain_labels [] text rest s u = refl
plain_labels (l ∷ ls) text rest s u =
    let whole : text ++ rest ≡ s.0 ++ (s.1 ++ rest) = ap (λ t. t ++ rest) s.2 ∙ append_assoc s.0 s.1 rest in
    let first = plain_label s.0 (s.1 ++ rest) l s.3 (subst IsUtf8 whole u) in
    and_from (is_text_label l) (list_all is_text_label ls) first.0 (behind s.4 first.1 (λ more k v. plain_labels ls more rest k v))
  where
    behind : (((s.1 ≡ []) × (ls ≡ [])) ⊎ ((more : List ℕ) × (s.1 ≡ 44 ∷ more) × SpellsLabels more ls)) → IsUtf8 (s.1 ++ rest)
        → ((more : List ℕ) → SpellsLabels more ls → IsUtf8 (more ++ rest) → list_all is_text_label ls ≡ true) → list_all is_text_label ls ≡ true
    behind (inl e) v ih = subst (λ ms. list_all is_text_label ms ≡ true) (sym e.1) refl
    behind (inr m) v ih = ih m.0 m.2 (utf8_tail 44 (m.0 ++ rest) (omega arith) (subst (λ t. IsUtf8 (t ++ rest)) m.1 v))

plain_middle : (text rest : List ℕ) (ls : List Label) → SpellsMiddle text ls → IsUtf8 (text ++ rest) → list_all is_text_label ls ≡ true
plain_middle text rest ls (inl s) u = subst (λ ms. list_all is_text_label ms ≡ true) (sym s.1) refl
plain_middle text rest ls (inr s) u =
    let front : List ℕ = s.before ++ codes "{" in
    let whole : text ++ rest ≡ front ++ (s.inner ++ 125 ∷ (s.after ++ rest)) =
    ap (λ t. t ++ rest) s.whole ∙ append_assoc (front ++ s.inner ++ codes "}") s.after rest ∙ append_assoc (front ++ s.inner) (codes "}") (s.after ++ rest) ∙ append_assoc front s.inner (125 ∷ (s.after ++ rest)) in
    plain_labels ls s.inner (125 ∷ (s.after ++ rest)) s.labels (utf8_past front _ (low_append s.before (codes "{") (low_blanks s.before s.blanks.0) refl) (subst IsUtf8 whole u))

-- the labels of a sample line of the text format
pub text_sample_labels : (line : List ℕ) (w : WrittenSample) → SpellsSample line w → IsUtf8 line → list_all is_text_label w.labels ≡ true
text_sample_labels line w s u =
    let whole : line ≡ w.name ++ (s.middle ++ (w.value ++ s.rest)) = s.whole ∙ append_assoc (w.name ++ s.middle) w.value s.rest ∙ append_assoc w.name s.middle (w.value ++ s.rest) in
    plain_middle s.middle (w.value ++ s.rest) w.labels s.labels (utf8_past w.name _ (low_metric_name w.name s.metric_name) (subst IsUtf8 whole u))

help_behind : (rest text : List ℕ) → SpellsHelpText rest text → IsUtf8 rest → is_utf8 text ≡ true
help_behind rest text (inl s) u = is_utf8-from_IsUtf8 text (subst IsUtf8 (sym s.1) IsUtf8-nil)
help_behind rest text (inr s) u =
    let written = utf8_past s.0 s.1 (low_blanks s.0 s.2.0) (subst IsUtf8 s.4 u) in
    is_utf8-from_IsUtf8 text (subst IsUtf8 (sym s.5) (utf8_unescaped help_escape help_ascii s.1 written))

-- the text of a HELP line of the text format
pub text_help_text : (line name text : List ℕ) → SpellsHelp line name text → IsUtf8 line → is_utf8 text ≡ true
text_help_text line name text s u =
    let front : List ℕ = 35 ∷ s.first ++ codes "HELP" ++ s.second ++ name in
    let low : list_all is_low front ≡ true =
    low_append (35 ∷ s.first ++ codes "HELP" ++ s.second) name (low_append (35 ∷ s.first ++ codes "HELP") s.second (low_append (35 ∷ s.first) (codes "HELP") (low_append (35 ∷ []) s.first refl (low_blanks s.first s.blanks)) refl)
    (low_blanks s.second s.gap.0)) (low_metric_name name s.metric_name) in
    help_behind s.rest text s.help_text (utf8_past front s.rest low (subst IsUtf8 s.whole u))
