-- What the items of a text without a fault are, each by itself, and the owners of its lines.
use Rattle.std.proofs.Common.{◌≡◌, ℕ, ◌+◌, ◌≤◌, Bool, true, false, cond, not, List, [], ◌∷◌, length, Option, Some, None, Result, Ok, Err, option_map, option_and_then, refl, sym, subst, arith, inl, inr, IsUtf8}
use Rattle.std.specs.Prelude.{⊤, nat_le}
use Rattle.std.specs.List.{list_all, fold, AllByRecursion}
use Rattle.std.specs.Option.{option_map_or}
use Rattle.std.specs.Str.{is_utf8}
use Rattle.std.proofs.lemmas.Bool.{and_parts, or_parts, false_from_ne_true, not-false}
use Rattle.std.proofs.lemmas.Bool.Decides.{nat_tests}
use Rattle.std.proofs.lemmas.Str.{IsUtf8-from_is_utf8}
use Rattle.label_sets.specs.declared.kind.Kind.{Kind}
use Rattle.label_sets.specs.declared.kind.Kind.TheVariants.{Counter, GaugeHistogram, StateSet, Info}
use Rattle.label_sets.specs.Lists.{some_passes}
use Rattle.label_sets.specs.Labels.{has_distinct_names}
use Rattle.label_sets.specs.Names.{is_metric_name, is_metric_char}
use Rattle.label_sets.specs.Sets.{IsLabelSet}
use Rattle.label_sets.proofs.Laws.{option_or-none, option_map-none}
use Rattle.exact_decimal.specs.declared.number.Number.{Number}
use Rattle.exact_decimal.specs.declared.number.Number.TheVariants.{Finite, Up, Down, NotANumber}
use Rattle.exact_decimal.specs.declared.number.NumberFault.{NumberFault}
use Rattle.exact_decimal.specs.Numbers.{number_read, number_or_nan, number}
use Rattle.exact_decimal.proofs.Laws.{read_form}
use Rattle.page_model.specs.declared.format.Format.{Format}
use Rattle.page_model.specs.declared.format.Format.TheVariants.{Text, OpenMetrics}
use Rattle.page_model.specs.declared.format.Treatment.{Treatment}
use Rattle.page_model.specs.declared.item.Item.{Item}
use Rattle.page_model.specs.declared.item.Item.TheVariants as items
use Rattle.page_model.specs.declared.item.Sample.{Sample}
use Rattle.page_model.specs.declared.rule.Rule.{Rule}
use Rattle.page_model.specs.declared.rule.Rule.TheVariants as rules
use Rattle.page_model.specs.TextItems.{SpellsText, trimmed, text_kind_word}
use Rattle.page_model.specs.OpenItems.{SpellsOpen}
use Rattle.page_model.specs.Written.{Written, WrittenSample, WrittenExemplar, Setting, blank, comment, eof, help, type_line, unit_line, sample, label_limit, is_label_list, has_bad_labels, item_of}
use Rattle.page_model.specs.Rules.{is_open_metrics}
use Rattle.page_model.specs.Suffixes.{is_sample_name}
use Rattle.page_model.specs.Owners.{Owned, kind_of, sample_owner, owner_of, with_owner, owned_lines}
use Rattle.page_model.specs.Faults.{Line, line_breaks, line_rules, own_fault, item_fault, line_fault, with_line, fault_from}
use Rattle.page_model.specs.Pages.{Spells, SaysWhatItSpells, AreLines}
use Rattle.page_model.proofs.Laws.{none_found}
use Rattle.open_writing.specs.Forms.{IsFormedNumber, is_text_label, is_kind_in}
use Rattle.writing_laws.proofs.ReadTexts.{utf8_trimmed, open_sample_labels, open_help_text, text_sample_labels, text_help_text}
use Rattle.writing_laws.proofs.ReadLabels.{read_set, read_labels, read_few}

-- ---- items

-- a sample whose name is one, whose labels are a set of few named texts, and whose number has its one form
pub record IsFormedSample (t : Treatment) (s : Sample) : Type 0 where
  pub name : is_metric_name s.name ≡ true
  pub set : IsLabelSet s.labels
  pub text : list_all is_text_label s.labels ≡ true
  pub few : length s.labels ≤ label_limit t
  pub value : IsFormedNumber s.value

-- an item of a line of this format
abbrev pub IsFormedItem : Format → Treatment → Item → Type 0
IsFormedItem f t (items.Help name text) = (is_metric_name name ≡ true) × (is_utf8 text ≡ true)
IsFormedItem f t (items.KindOf name kind) = (is_metric_name name ≡ true) × (is_kind_in f kind ≡ true)
IsFormedItem f t (items.Unit name unit) = (is_metric_name name ≡ true) × (list_all is_metric_char unit ≡ true) × (is_open_metrics f ≡ true)
IsFormedItem f t (items.Sample s) = IsFormedSample t s
IsFormedItem f t items.Blank = ⊤
IsFormedItem f t items.Comment = ⊤
IsFormedItem f t items.Eof = ⊤

pub read_number : (token : List ℕ) → IsFormedNumber (number token)
read_number token = go (number_read token) refl
  where
    go : (r : Result Number NumberFault) → number_read token ≡ r → IsFormedNumber (number_or_nan r)
    go (Ok (Finite d)) e = read_form token d e
    go (Ok Up) e = tt
    go (Ok Down) e = tt
    go (Ok NotANumber) e = tt
    go (Err x) e = tt

text_kind : (kind : Kind) (word : List ℕ) → text_kind_word kind ≡ Some word → is_kind_in Text kind ≡ true
text_kind GaugeHistogram word e = absurd cc
text_kind StateSet word e = absurd cc
text_kind Info word e = absurd cc
text_kind _ word e = refl

formed_sample : (f : Format) (t : Treatment) (name : List ℕ) (w : WrittenSample) (value : Number) → is_metric_name w.name ≡ true → list_all is_text_label w.labels ≡ true → has_bad_labels t (sample w) ≡ false → IsFormedItem f t (item_of f (sample w))
formed_sample f t name w value named text ok =
    let list : is_label_list t w.labels ≡ true = not-false (is_label_list t w.labels) (or_parts (not (is_label_list t w.labels)) (some_passes (λ (e : WrittenExemplar). not (is_label_list t e.labels)) w.exemplar) ok).0 in
    let both = and_parts (has_distinct_names w.labels) (nat_le (length w.labels) (label_limit t)) list in
    let short : length w.labels ≤ label_limit t = grind (arith, nat_tests) in
    let few = read_few w.labels in
    record { name = named; set = read_set w.labels both.0; text = read_labels w.labels text; few = omega (arith, few, short); value = read_number w.value }

formed_text : (t : Treatment) (bytes : List ℕ) (w : Written) → IsUtf8 bytes → has_bad_labels t w ≡ false → SpellsText bytes w → IsFormedItem Text t (item_of Text w)
formed_text t bytes blank u ok s = tt
formed_text t bytes comment u ok s = tt
formed_text t bytes eof u ok s = absurd s
formed_text t bytes (help name text) u ok s = (s.metric_name, text_help_text (trimmed bytes) name text s (utf8_trimmed bytes u))
formed_text t bytes (type_line name kind) u ok s = (s.metric_name, text_kind kind s.word s.kind_word)
formed_text t bytes (unit_line name unit) u ok s = absurd s
formed_text t bytes (sample w) u ok s = formed_sample Text t w.name w NotANumber s.metric_name (text_sample_labels (trimmed bytes) w s (utf8_trimmed bytes u)) ok

pub kind_in_open : (kind : Kind) → is_kind_in OpenMetrics kind ≡ true
kind_in_open Counter = refl
kind_in_open _ = refl

formed_open : (t : Treatment) (bytes : List ℕ) (w : Written) → IsUtf8 bytes → has_bad_labels t w ≡ false → SpellsOpen bytes w → IsFormedItem OpenMetrics t (item_of OpenMetrics w)
formed_open t bytes blank u ok s = absurd s
formed_open t bytes comment u ok s = absurd s
formed_open t bytes eof u ok s = tt
formed_open t bytes (help name text) u ok s = (s.1, open_help_text bytes name text s u)
formed_open t bytes (type_line name kind) u ok s = (s.0, kind_in_open kind)
formed_open t bytes (unit_line name unit) u ok s = (s.0, s.1, refl)
formed_open t bytes (sample w) u ok s = formed_sample OpenMetrics t w.name w NotANumber s.3 (open_sample_labels bytes w s u) ok

formed_written : (f : Format) (t : Treatment) (bytes : List ℕ) (w : Written) → IsUtf8 bytes → has_bad_labels t w ≡ false → Spells f bytes w → IsFormedItem f t (item_of f w)
formed_written Text t bytes w u ok s = formed_text t bytes w u ok s
formed_written OpenMetrics t bytes w u ok s = formed_open t bytes w u ok s

-- ---- the items of lines

formed_line : (st : Setting) (l : Line) (w : Written) → l.says ≡ Some w → Spells st.format l.bytes w → own_fault st l ≡ None → IsFormedItem st.format st.treatment (item_of st.format w)
unfolding own_fault line_breaks
formed_line st l w says spelled none =
    let utf8 : not (is_utf8 l.bytes) ≡ false = false_from_ne_true (not (is_utf8 l.bytes)) (λ e. none_found (line_breaks st l) line_rules none rules.Utf8 (inr (inl refl)) e) in
    let labels : some_passes (has_bad_labels st.treatment) l.says ≡ false = false_from_ne_true (some_passes (has_bad_labels st.treatment) l.says) (λ e. none_found (line_breaks st l) line_rules none rules.Labels (inr (inr (inr (inr (inl refl))))) e) in
    formed_written st.format st.treatment l.bytes w (IsUtf8-from_is_utf8 l.bytes (not-false (is_utf8 l.bytes) utf8)) (subst (λ s. some_passes (has_bad_labels st.treatment) s ≡ false) says labels) spelled

-- what holds of what each line without a fault says holds of the items of all, behind others
pub said_lines : (st : Setting) (P : Item → Type 0) → ((l : Line) (w : Written) → l.says ≡ Some w → Spells st.format l.bytes w → own_fault st l ≡ None → P (item_of st.format w)) → (ls : List Line) (pieces : List (List ℕ)) (earlier : List Item) (n : ℕ) (clean : Bool)
    → AreLines st.format pieces ls → fault_from st earlier n ls clean ≡ None → AllByRecursion P earlier → AllByRecursion P (fold (λ above l. with_line st.format l above) earlier ls)
unfolding fault_from line_fault
said_lines st P says [] pieces earlier n clean are none h = h
said_lines st P says (l ∷ ls) [] earlier n clean are none h = absurd are
said_lines st P says (l ∷ ls) (piece ∷ pieces) earlier n clean are none h =
    let both = option_or-none (option_map (λ (rule : Rule). (n, rule)) (line_fault st earlier l)) (fault_from st (with_line st.format l earlier) (n + 1) ls clean) none in
    let own = option_or-none (own_fault st l) (option_and_then (λ w. item_fault st earlier (item_of st.format w)) l.says) (option_map-none (λ (rule : Rule). (n, rule)) (line_fault st earlier l) both.0) in
    said_lines st P says ls pieces (with_line st.format l earlier) (n + 1) clean are.2 both.1 (by l.says refl own.0)
  where
    by : (said : Option Written) → l.says ≡ said → own_fault st l ≡ None → AllByRecursion P (option_map_or (λ w. item_of st.format w ∷ earlier) said earlier)
    by None e own = h
    by (Some w) e own = (says l w e (subst (λ b. Spells st.format b w) (sym are.0) (subst (SaysWhatItSpells st.format piece) e are.1)) own, h)

pub formed_lines : (ls : List Line) (pieces : List (List ℕ)) (st : Setting) (earlier : List Item) (n : ℕ) (clean : Bool) → AreLines st.format pieces ls → fault_from st earlier n ls clean ≡ None
    → AllByRecursion (IsFormedItem st.format st.treatment) earlier → AllByRecursion (IsFormedItem st.format st.treatment) (fold (λ above l. with_line st.format l above) earlier ls)
formed_lines ls pieces st = said_lines st (IsFormedItem st.format st.treatment) (formed_line st) ls pieces

-- ---- owners

-- an owned line whose family's name is one
abbrev pub IsFormedOwned : Format → Treatment → Owned → Type 0
IsFormedOwned f t o = (is_metric_name o.family ≡ true) × IsFormedItem f t o.item

named_owner : (f : Format) (t : Treatment) (above : List Owned) (name : List ℕ) → AllByRecursion (IsFormedOwned f t) above → is_metric_name name ≡ true → is_metric_name (sample_owner f above name) ≡ true
unfolding sample_owner
named_owner f t [] name h named = named
named_owner f t (nearest ∷ above) name h named = go (is_sample_name f (kind_of (nearest ∷ above) nearest.family) nearest.family name)
  where
    go : (b : Bool) → is_metric_name (cond b nearest.family name) ≡ true
    go true = h.0.0
    go false = named

pub formed_owned : (f : Format) (t : Treatment) (is : List Item) → AllByRecursion (IsFormedItem f t) is → AllByRecursion (IsFormedOwned f t) (owned_lines f is)
unfolding owned_lines
formed_owned f t [] h = tt
formed_owned f t (i ∷ is) h = by i h.0 (formed_owned f t is h.1)
  where
    by : (item : Item) → IsFormedItem f t item → AllByRecursion (IsFormedOwned f t) (owned_lines f is) → AllByRecursion (IsFormedOwned f t) (with_owner (owner_of f (owned_lines f is) item) item (owned_lines f is))
    by items.Blank g above = above
    by items.Comment g above = above
    by items.Eof g above = above
    by (items.Help name text) g above = ((g.0, g), above)
    by (items.KindOf name kind) g above = ((g.0, g), above)
    by (items.Unit name unit) g above = ((g.0, g), above)
    by (items.Sample s) g above = ((named_owner f t (owned_lines f is) s.name above g.name, g), above)
