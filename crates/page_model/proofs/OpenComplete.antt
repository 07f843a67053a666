-- What a line spells is what is read.
use Rattle.std.proofs.Common.{◌≡◌, ℕ, zero, suc, ◌≤◌, ◌<◌, Bool, true, false, List, [], ◌∷◌, ◌++◌, length, length-append, Option, Some, None, refl, sym, ap, subst, ◌∙◌, append_assoc, codes, inl, inr, arith, eqb}
use Rattle.std.specs.Prelude.{◌==◌}
use Rattle.std.specs.List.{list_all}
use Rattle.std.proofs.lemmas.List.{append-nil}
use Rattle.std.proofs.lemmas.Bool.{eqb-true, and_parts}
use Rattle.label_sets.specs.declared.kind.Kind.{Kind}
use Rattle.label_sets.specs.declared.kind.Kind.TheVariants.{Counter}
use Rattle.label_sets.specs.declared.label.Label.{Label}
use Rattle.label_sets.specs.Lists.{behind}
use Rattle.label_sets.specs.Names.{is_metric_name, is_metric_start, is_metric_char, is_label_name, is_label_char}
use Rattle.label_sets.specs.Escapes.{quote_escape, unescaped, is_quotable}
use Rattle.page_model.proofs.Fronts.{Stops, take_while-append, rest_while-append, quoted-append}
use Rattle.exact_decimal.specs.Tokens.{is_token_char, is_number_token, is_real}
use Rattle.exact_decimal.proofs.Laws.{all_mono, real_passes, token_passes}
use Rattle.page_model.proofs.TokenChars.{metric_chars, label_chars, differs, other_than, no_empty_real, no_brace}
use Rattle.page_model.specs.Written.{Written, WrittenSample, WrittenExemplar, blank, comment, eof, help, type_line, unit_line, sample}
use Rattle.page_model.specs.OpenItems.{kind_word, SpellsOpen, SpellsOpenLabel, SpellsMoreLabels, SpellsOpenLabels, SpellsOpenList, SpellsOptionalList, SpellsOpenStamp, SpellsExemplar, SpellsOpenSample}
use Rattle.page_model.specs.OpenReading.{label_at, more_labels_at, list_at, optional_list_at, value_at, is_not_space, stamp_at, exemplar_of, sample_of, kind_named, named_at, descriptor_of, open_line_of}

-- ---- names and tokens

number_chars : (token : List ℕ) → is_number_token token ≡ true → list_all is_not_space token ≡ true
number_chars token h = all_mono is_token_char is_not_space (other_than is_token_char 32 refl) token (token_passes token h)

real_chars : (token : List ℕ) → is_real token ≡ true → list_all is_not_space token ≡ true
real_chars token h = all_mono is_token_char is_not_space (other_than is_token_char 32 refl) token (real_passes token h)

-- ---- labels

label_read : (name quoted rest : List ℕ) → is_label_name name ≡ true → is_quotable quoted ≡ true
    → label_at (name ++ (61 ∷ 34 ∷ (quoted ++ 34 ∷ rest))) ≡ Some (record { name = name; value = unescaped quote_escape quoted }, rest)
unfolding label_at
label_read name quoted rest named quotable =
    let tail : List ℕ = (61 ∷ 34 ∷ (quoted ++ 34 ∷ rest)) in
    let front = take_while-append is_label_char name tail (label_chars name named) refl in
    let behind_name = rest_while-append is_label_char name tail (label_chars name named) refl in
    rw (front, behind_name, named, quoted-append quoted rest quotable) refl

label_again : (front rest : List ℕ) (l : Label) → SpellsOpenLabel front l → label_at (front ++ rest) ≡ Some (l, rest)
unfolding label_at
label_again front rest l s =
    let regrouped : front ++ rest ≡ l.name ++ (61 ∷ 34 ∷ (s.0 ++ 34 ∷ rest)) = rw s.4 (simp append_assoc refl) in
    ap label_at regrouped ∙ label_read l.name s.0 rest s.1 s.2 ∙ ap (λ (v : List ℕ). Some (record { name = l.name; value = v }, rest)) (sym s.3)

more_again : (n : ℕ) (text tail : List ℕ) (ls : List Label) → length ls < n → SpellsMoreLabels text ls → more_labels_at n (text ++ 125 ∷ tail) ≡ Some (ls, tail)
unfolding more_labels_at
more_again zero text tail ls few s = absurd (omega arith)
more_again (suc n) text tail [] few s = rw s refl
more_again (suc n) text tail (l ∷ ls) few s =
    let front = s.0 in
    let rest = s.1 in
    let regrouped : text ++ 125 ∷ tail ≡ 44 ∷ (front ++ (rest ++ 125 ∷ tail)) = rw s.4 (simp append_assoc refl) in
    let again = more_again n rest tail ls (omega arith) s.3 in
    ap (more_labels_at (suc n)) regrouped ∙ rw (label_again front (rest ++ 125 ∷ tail) l s.2, again) refl

-- ---- label lists

no_brace_at_label : (front rest : List ℕ) (l : Label) → SpellsOpenLabel front l → behind (codes "}") (front ++ rest) ≡ None
no_brace_at_label front rest l s =
    let regrouped : front ++ rest ≡ l.name ++ (61 ∷ 34 ∷ (s.0 ++ 34 ∷ rest)) = rw s.4 (simp append_assoc refl) in
    ap (behind (codes "}")) regrouped ∙ no_brace l.name (61 ∷ 34 ∷ (s.0 ++ 34 ∷ rest)) s.1

-- each label behind the first takes a character at least
few_labels : (text : List ℕ) (ls : List Label) → SpellsMoreLabels text ls → length ls ≤ length text
few_labels text [] s = omega arith
few_labels text (l ∷ ls) s =
    let rest = few_labels s.1 ls s.3 in
    let whole : length text ≡ suc (length (s.0 ++ s.1)) = ap length s.4 in
    let both = length-append s.0 s.1 in
    omega arith

inner_again : (inner tail : List ℕ) (ls : List Label) → SpellsOpenLabels inner ls → list_at (123 ∷ (inner ++ 125 ∷ tail)) ≡ Some (ls, tail)
unfolding list_at
inner_again inner tail [] s = rw s refl
inner_again inner tail (l ∷ ls) s =
    let front = s.0 in
    let rest = s.1 in
    let regrouped : inner ++ 125 ∷ tail ≡ front ++ (rest ++ 125 ∷ tail) = rw s.4 (simp append_assoc refl) in
    let enough : length ls < length (front ++ (rest ++ 125 ∷ tail)) =
    let few = few_labels rest ls s.3 in let a = length-append front (rest ++ 125 ∷ tail) in let b = length-append rest (125 ∷ tail) in omega arith in
    ap (λ (x : List ℕ). list_at (123 ∷ x)) regrouped
    ∙ rw (no_brace_at_label front (rest ++ 125 ∷ tail) l s.2, label_again front (rest ++ 125 ∷ tail) l s.2, more_again (length (front ++ (rest ++ 125 ∷ tail))) rest tail ls enough s.3) refl

list_again : (text tail : List ℕ) (ls : List Label) → SpellsOpenList text ls → list_at (text ++ tail) ≡ Some (ls, tail)
unfolding list_at
list_again text tail ls s =
    let regrouped : text ++ tail ≡ 123 ∷ (s.0 ++ 125 ∷ tail) = rw s.2 (simp append_assoc refl) in
    ap list_at regrouped ∙ inner_again s.0 tail ls s.1

-- ---- the parts of a sample

pub optional_again : (text tail : List ℕ) (ls : List Label) → SpellsOptionalList text ls → optional_list_at (text ++ 32 ∷ tail) ≡ Some (ls, 32 ∷ tail)
unfolding optional_list_at
optional_again text tail ls (inl s) = rw (s.0, s.1) refl
optional_again text tail ls (inr s) =
    let regrouped : text ++ 32 ∷ tail ≡ 123 ∷ (s.0 ++ 125 ∷ 32 ∷ tail) = rw s.2 (simp append_assoc refl) in
    ap optional_list_at regrouped ∙ inner_again s.0 (32 ∷ tail) ls s.1

value_again : (value tail : List ℕ) → is_number_token value ≡ true → Stops is_not_space tail → value_at (32 ∷ (value ++ tail)) ≡ Some (value, tail)
unfolding value_at
value_again value tail h stops =
    rw (take_while-append is_not_space value tail (number_chars value h) stops, rest_while-append is_not_space value tail (number_chars value h) stops, h) refl

exemplar_stops : (text : List ℕ) (e : Option WrittenExemplar) → SpellsExemplar text e → Stops is_not_space text
exemplar_stops text None s = rw s tt
exemplar_stops text (Some e) s = rw s.5 refl

no_mark : (stamp tail : List ℕ) → is_real stamp ≡ true → behind (codes " # ") (32 ∷ (stamp ++ tail)) ≡ None
no_mark [] tail h = absurd (no_empty_real h)
no_mark (c ∷ cs) tail h =
    let e : eqb 35 c ≡ false = differs is_token_char 35 c refl (and_parts (is_token_char c) (list_all is_token_char cs) (real_passes (c ∷ cs) h)).0 in
    rw e refl

stamp_again : (text rest : List ℕ) (stamp : Option (List ℕ)) (e : Option WrittenExemplar) → SpellsOpenStamp text stamp → SpellsExemplar rest e → stamp_at (text ++ rest) ≡ Some (stamp, rest)
unfolding stamp_at
stamp_again text rest None None s x = rw (s, x) refl
stamp_again text rest None (Some e) s x = rw (s, x.5) refl
stamp_again text rest (Some stamp) e s x =
    let stops = exemplar_stops rest e x in
    ap (λ (y : List ℕ). stamp_at (y ++ rest)) s.1
    ∙ rw (no_mark stamp rest s.0, take_while-append is_not_space stamp rest (real_chars stamp s.0) stops, rest_while-append is_not_space stamp rest (real_chars stamp s.0) stops, s.0) refl

stamp_stops : (text rest : List ℕ) (stamp : Option (List ℕ)) (e : Option WrittenExemplar) → SpellsOpenStamp text stamp → SpellsExemplar rest e → Stops is_not_space (text ++ rest)
stamp_stops text rest None e s x = rw s (exemplar_stops rest e x)
stamp_stops text rest (Some stamp) e s x = rw s.1 refl

exemplar_again : (text : List ℕ) (e : Option WrittenExemplar) → SpellsExemplar text e → exemplar_of text ≡ Some e
unfolding exemplar_of
exemplar_again text None s = rw s refl
exemplar_again text (Some e) s =
    let labels = s.0 in
    let stamp = s.1 in
    let regrouped : text ≡ 32 ∷ 35 ∷ 32 ∷ (labels ++ 32 ∷ (e.value ++ (stamp ++ []))) = rw s.5 (simp (append_assoc, append-nil) refl) in
    let stops = stamp_stops stamp [] e.stamp None s.4 refl in
    ap exemplar_of regrouped
    ∙ rw (list_again labels (32 ∷ (e.value ++ (stamp ++ []))) e.labels s.2, value_again e.value (stamp ++ []) s.3 stops, stamp_again stamp [] e.stamp None s.4 refl) refl

-- ---- samples and descriptors

pub labels_stop : (text tail : List ℕ) (ls : List Label) → SpellsOptionalList text ls → Stops is_metric_char (text ++ 32 ∷ tail)
labels_stop text tail ls (inl s) = rw s.0 refl
labels_stop text tail ls (inr s) = rw s.2 refl

-- a line that begins with a metric name is read as a sample
sample_first : (name rest : List ℕ) → is_metric_name name ≡ true → open_line_of (name ++ rest) ≡ sample_of (name ++ rest)
unfolding sample_of open_line_of
sample_first [] rest h = absurd (let e : false ≡ true = h in cc)
sample_first (c ∷ cs) rest h = go (c == 35) refl
  where
    starts : is_metric_start c ≡ true
    starts = (and_parts (is_metric_start c) (list_all is_metric_char cs) h).0

    go : (b : Bool) → (c == 35) ≡ b → open_line_of (c ∷ cs ++ rest) ≡ sample_of (c ∷ cs ++ rest)
    go true e = absurd (let same : c ≡ 35 = eqb-true c 35 e in let k : is_metric_start 35 ≡ true = subst (λ x. is_metric_start x ≡ true) same starts in let m : false ≡ true = k in cc)
    go false e = rw e refl

sample_again : (line : List ℕ) (s : WrittenSample) → SpellsOpenSample line s → open_line_of line ≡ Some (sample s)
unfolding sample_of open_line_of
sample_again line s p =
    let labels = p.0 in
    let stamp = p.1 in
    let exemplar = p.2 in
    let behind_value : List ℕ = stamp ++ exemplar in
    let behind_labels : List ℕ = 32 ∷ (s.value ++ behind_value) in
    let behind_name : List ℕ = labels ++ behind_labels in
    let regrouped : line ≡ s.name ++ behind_name = rw p.8 (simp append_assoc refl) in
    let stops = labels_stop labels (s.value ++ behind_value) s.labels p.4 in
    let front = take_while-append is_metric_char s.name behind_name (metric_chars s.name p.3) stops in
    let rest = rest_while-append is_metric_char s.name behind_name (metric_chars s.name p.3) stops in
    ap open_line_of regrouped ∙ sample_first s.name behind_name p.3
    ∙ rw (
      front,
      rest,
      p.3,
      optional_again labels (s.value ++ behind_value) s.labels p.4,
      value_again s.value behind_value p.5 (stamp_stops stamp exemplar s.stamp s.exemplar p.6 p.7),
      stamp_again stamp exemplar s.stamp s.exemplar p.6 p.7,
      exemplar_again exemplar s.exemplar p.7,
    ) refl

kind_again : (kind : Kind) → kind_named (kind_word kind) ≡ Some kind
unfolding kind_named
kind_again Counter = refl
kind_again _ = refl

named_again : (name rest : List ℕ) → is_metric_name name ≡ true → named_at (name ++ 32 ∷ rest) ≡ Some (name, rest)
unfolding named_at
named_again name rest h =
    rw (take_while-append is_metric_char name (32 ∷ rest) (metric_chars name h) refl, rest_while-append is_metric_char name (32 ∷ rest) (metric_chars name h) refl, h) refl

type_again : (name : List ℕ) (kind : Kind) → is_metric_name name ≡ true → open_line_of (codes "# TYPE " ++ (name ++ 32 ∷ kind_word kind)) ≡ Some (type_line name kind)
unfolding descriptor_of open_line_of
type_again name kind h = rw (named_again name (kind_word kind) h, kind_again kind) refl

help_again : (name written : List ℕ) → is_metric_name name ≡ true → open_line_of (codes "# HELP " ++ (name ++ 32 ∷ written)) ≡ Some (help name (unescaped quote_escape written))
unfolding descriptor_of open_line_of
help_again name written h = rw (named_again name written h) refl

unit_again : (name unit : List ℕ) → is_metric_name name ≡ true → list_all is_metric_char unit ≡ true → open_line_of (codes "# UNIT " ++ (name ++ 32 ∷ unit)) ≡ Some (unit_line name unit)
unfolding descriptor_of open_line_of
unit_again name unit h k = rw (named_again name unit h, k) refl

descriptor_regrouped : (line front name rest : List ℕ) → line ≡ front ++ name ++ codes " " ++ rest → line ≡ front ++ (name ++ 32 ∷ rest)
descriptor_regrouped line front name rest e = rw e (simp append_assoc refl)

-- what the line spells is what the reader of one line gives
pub open_line_complete : (line : List ℕ) (w : Written) → SpellsOpen line w → open_line_of line ≡ Some w
unfolding descriptor_of open_line_of
open_line_complete line (sample s) p = sample_again line s p
open_line_complete line (type_line name kind) p = ap open_line_of (descriptor_regrouped line (codes "# TYPE ") name (kind_word kind) p.1) ∙ type_again name kind p.0
open_line_complete line (help name text) p =
    ap open_line_of (descriptor_regrouped line (codes "# HELP ") name p.0 p.3) ∙ help_again name p.0 p.1 ∙ ap (λ (t : List ℕ). Some (help name t)) (sym p.2)
open_line_complete line (unit_line name unit) p = ap open_line_of (descriptor_regrouped line (codes "# UNIT ") name unit p.2) ∙ unit_again name unit p.0 p.1
open_line_complete line eof p = rw p refl
open_line_complete line blank p = absurd p
open_line_complete line comment p = absurd p
