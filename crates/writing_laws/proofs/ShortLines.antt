-- Each line that is written of a scraped page has at most twice as many bytes as a line of it may have, and 2,048 more.
use Rattle.std.proofs.Common.{◌≡◌, ℕ, suc, ◌+◌, ◌≤◌, Bool, true, false, cond, List, [], ◌∷◌, ◌++◌, filter, length, codes, Option, Some, None, refl, sym, ap, subst, ◌∙◌, arith, inl, inr, ◌⊎◌}
use Rattle.std.specs.Prelude.{⊤}
use Rattle.std.proofs.lemmas.Grind.{common_steps}
use Rattle.std.proofs.lemmas.List.{length-append}
use Rattle.label_sets.specs.declared.label.Label.{Label}
use Rattle.label_sets.specs.Escapes.{quote_escape, help_escape, unescaped, is_backslash}
use Rattle.label_sets.specs.Labels.{name_before, has_value, label_inserted, labels_sorted, label_set}
use Rattle.page_model.specs.declared.format.Format.{Format}
use Rattle.page_model.specs.declared.format.Format.TheVariants.{Text, OpenMetrics}
use Rattle.page_model.specs.declared.item.Item.{Item}
use Rattle.page_model.specs.declared.item.Item.TheVariants as items
use Rattle.page_model.specs.Written.{Written, WrittenSample, blank, comment, eof, help, type_line, unit_line, sample, item_of}
use Rattle.page_model.specs.TextItems.{SpellsTrimmed, SpellsHelpText, SpellsLabel, SpellsLabels, SpellsMiddle, trimmed}
use Rattle.page_model.specs.OpenItems.{SpellsOpen, SpellsOpenLabel, SpellsMoreLabels, SpellsOpenLabels, SpellsOptionalList, kind_word}
use Rattle.page_model.specs.Pages.{Spells}
use Rattle.writing_laws.proofs.FewLines.{total}

-- ---- sizes of labels

-- the bytes of a label's name and value
abbrev pub label_size : Label → ℕ
label_size l = length l.name + length l.value

-- those bytes of labels
abbrev pub labels_size : List Label → ℕ
labels_size ls = total label_size ls

-- an item whose names and texts have so many bytes at most
abbrev pub IsShortItem : ℕ → Item → Type 0
IsShortItem most (items.Help name text) = length name + length text ≤ most
IsShortItem most (items.KindOf name kind) = length name ≤ most
IsShortItem most (items.Unit name unit) = length name + length unit ≤ most
IsShortItem most (items.Sample s) = length s.name + labels_size s.labels ≤ most
IsShortItem most items.Blank = ⊤
IsShortItem most items.Comment = ⊤
IsShortItem most items.Eof = ⊤

-- ---- unescaped texts

length_unescaped : (escape : ℕ → Option ℕ) (cs : List ℕ) → length (unescaped escape cs) ≤ length cs
length_unescaped escape [] = omega arith
length_unescaped escape (c ∷ []) = omega arith
length_unescaped escape (c ∷ d ∷ cs) = go (is_backslash c) refl (escape d) refl (length_unescaped escape cs) (length_unescaped escape (d ∷ cs))
  where
    go : (b : Bool) → is_backslash c ≡ b → (o : Option ℕ) → escape d ≡ o → length (unescaped escape cs) ≤ length cs → length (unescaped escape (d ∷ cs)) ≤ suc (length cs) → length (unescaped escape (c ∷ d ∷ cs)) ≤ suc (suc (length cs))
    go true e None f ih next = rw (e, f) (omega (arith, next))
    go true e (Some y) f ih next = rw (e, f) (omega (arith, ih))
    go false e o f ih next = rw e (omega (arith, next))

-- ---- what a line spells is no longer than the line

pub two : (a b : List ℕ) → length (a ++ b) ≡ length a + length b
two a b = length-append a b

pub three : (a b c : List ℕ) → length (a ++ b ++ c) ≡ length a + length b + length c
three a b c = two (a ++ b) c ∙ ap (λ n. n + length c) (two a b)

pub four : (a b c d : List ℕ) → length (a ++ b ++ c ++ d) ≡ length a + length b + length c + length d
four a b c d = two (a ++ b ++ c) d ∙ ap (λ n. n + length d) (three a b c)

five : (a b c d e : List ℕ) → length (a ++ b ++ c ++ d ++ e) ≡ length a + length b + length c + length d + length e
five a b c d e = two (a ++ b ++ c ++ d) e ∙ ap (λ n. n + length e) (four a b c d)

six : (a b c d e f : List ℕ) → length (a ++ b ++ c ++ d ++ e ++ f) ≡ length a + length b + length c + length d + length e + length f
six a b c d e f = two (a ++ b ++ c ++ d ++ e) f ∙ ap (λ n. n + length f) (five a b c d e)

nine : (a b c d e f g h i : List ℕ) → length (a ++ b ++ c ++ d ++ e ++ f ++ g ++ h ++ i) ≡ length a + length b + length c + length d + length e + length f + length g + length h + length i
nine a b c d e f g h i =
    two (a ++ b ++ c ++ d ++ e ++ f ++ g ++ h) i ∙ ap (λ n. n + length i) (two (a ++ b ++ c ++ d ++ e ++ f ++ g) h) ∙ ap (λ n. n + length h + length i) (two (a ++ b ++ c ++ d ++ e ++ f) g)
    ∙ ap (λ n. n + length g + length h + length i) (six a b c d e f)

open_label_size : (text : List ℕ) (l : Label) → SpellsOpenLabel text l → label_size l ≤ length text
open_label_size text l s =
    let whole = ap length s.4 ∙ four l.name (codes "=\"") s.0 (codes "\"") in
    let value = ap length s.3 in
    let shorter = length_unescaped quote_escape s.0 in
    omega (arith, whole, value, shorter)

more_size : (text : List ℕ) (ls : List Label) → SpellsMoreLabels text ls → labels_size ls ≤ length text
more_size text [] s = omega arith
more_size text (l ∷ ls) s =
    let whole = ap length s.4 ∙ two (44 ∷ s.0) s.1 in
    let here = open_label_size s.0 l s.2 in
    let rest = more_size s.1 ls s.3 in
    omega (arith, whole, here, rest)

open_size : (text : List ℕ) (ls : List Label) → SpellsOpenLabels text ls → labels_size ls ≤ length text
open_size text [] s = omega arith
open_size text (l ∷ ls) s =
    let whole = ap length s.4 ∙ two s.0 s.1 in
    let here = open_label_size s.0 l s.2 in
    let rest = more_size s.1 ls s.3 in
    omega (arith, whole, here, rest)

optional_size : (text : List ℕ) (ls : List Label) → SpellsOptionalList text ls → labels_size ls ≤ length text
optional_size text ls (inl s) = subst (λ ms. labels_size ms ≤ length text) (sym s.1) (omega arith)
optional_size text ls (inr s) =
    let whole = ap length s.2 ∙ three (codes "{") s.0 (codes "}") in
    let inner = open_size s.0 ls s.1 in
    omega (arith, whole, inner)

plain_label_size : (text : List ℕ) (l : Label) → SpellsLabel text l → label_size l ≤ length text
plain_label_size text l s =
    let whole = ap length s.whole ∙ nine s.first l.name s.second (codes "=") s.third (codes "\"") s.quoted (codes "\"") s.last in
    let value = ap length s.value in
    let shorter = length_unescaped quote_escape s.quoted in
    omega (arith, whole, value, shorter)

plain_size : (ls : List Label) (text : List ℕ) → SpellsLabels text ls → labels_size ls ≤ length text
plain_size [] text s = omega arith
plain_size (l ∷ ls) text s = by s.4 (λ more k. plain_size ls more k)
  where
    by : (((s.1 ≡ []) × (ls ≡ [])) ⊎ ((more : List ℕ) × (s.1 ≡ 44 ∷ more) × SpellsLabels more ls)) → ((more : List ℕ) → SpellsLabels more ls → labels_size ls ≤ length more) → labels_size (l ∷ ls) ≤ length text
    by (inl e) ih =
        let whole = ap length s.2 ∙ two s.0 s.1 in
        let here = plain_label_size s.0 l s.3 in
        let none : labels_size ls ≡ 0 = ap labels_size e.1 in
        omega (arith, whole, here, none)
    by (inr m) ih =
        let whole = ap length s.2 ∙ two s.0 s.1 in
        let here = plain_label_size s.0 l s.3 in
        let behind = ap length m.1 in
        let rest = ih m.0 m.2 in
        omega (arith, whole, here, behind, rest)

middle_size : (text : List ℕ) (ls : List Label) → SpellsMiddle text ls → labels_size ls ≤ length text
middle_size text ls (inl s) = subst (λ ms. labels_size ms ≤ length text) (sym s.1) (omega arith)
middle_size text ls (inr s) =
    let whole = ap length s.whole ∙ five s.before (codes "{") s.inner (codes "}") s.after in
    let inner = plain_size ls s.inner s.labels in
    omega (arith, whole, inner)

-- ---- label sets

pub total_inserted : (f : Label → ℕ) (l : Label) (ls : List Label) → total f (label_inserted l ls) ≡ f l + total f ls
total_inserted f l [] = refl
total_inserted f l (m ∷ ms) = go (name_before l.name m.name) (total_inserted f l ms)
  where
    go : (b : Bool) → total f (label_inserted l ms) ≡ f l + total f ms → total f (cond b (l ∷ m ∷ ms) (m ∷ label_inserted l ms)) ≡ f l + (f m + total f ms)
    go true ih = refl
    go false ih = omega (arith, ih)

pub total_sorted : (f : Label → ℕ) (ls : List Label) → total f (labels_sorted ls) ≡ total f ls
total_sorted f [] = refl
total_sorted f (l ∷ ls) = total_inserted f l (labels_sorted ls) ∙ ap (λ n. f l + n) (total_sorted f ls)

pub total_filtered : {A : Type 0} (f : A → ℕ) (p : A → Bool) (xs : List A) → total f (filter p xs) ≤ total f xs
total_filtered f p [] = omega arith
total_filtered f p (x ∷ xs) = go (p x) (total_filtered f p xs)
  where
    go : (b : Bool) → total f (filter p xs) ≤ total f xs → total f (cond b (x ∷ filter p xs) (filter p xs)) ≤ f x + total f xs
    go true ih = omega (arith, ih)
    go false ih = omega (arith, ih)

set_size : (ls : List Label) → labels_size (label_set ls) ≤ labels_size ls
set_size ls = let sorted = total_sorted label_size (filter has_value ls) in let kept = total_filtered label_size has_value ls in omega (arith, sorted, kept)

-- ---- items

short_sample : (most : ℕ) (f : Format) (w : WrittenSample) → length w.name + labels_size w.labels ≤ most → IsShortItem most (item_of f (sample w))
short_sample most f w h = let set = set_size w.labels in omega (arith, set, h)

trimmed_length : (line : List ℕ) → length (trimmed line) ≤ length line
unfolding trimmed
trimmed_length line = grind (arith, common_steps)

help_size : (rest text : List ℕ) → SpellsHelpText rest text → length text ≤ length rest
help_size rest text (inl s) = let none = ap length s.1 in omega (arith, none)
help_size rest text (inr s) =
    let whole = ap length s.4 ∙ two s.0 s.1 in
    let value = ap length s.5 in
    let shorter = length_unescaped help_escape s.1 in
    omega (arith, whole, value, shorter)

short_trimmed : (most : ℕ) (line : List ℕ) (w : Written) → length line ≤ most → SpellsTrimmed line w → IsShortItem most (item_of Text w)
short_trimmed most line blank h s = tt
short_trimmed most line comment h s = tt
short_trimmed most line eof h s = absurd s
short_trimmed most line (help name text) h s =
    let whole = ap length s.whole ∙ five (35 ∷ s.first) (codes "HELP") s.second name s.rest in
    let written = help_size s.rest text s.help_text in
    omega (arith, whole, written, h)
short_trimmed most line (type_line name kind) h s = let whole = ap length s.whole ∙ six (35 ∷ s.first) (codes "TYPE") s.second name s.third s.word in omega (arith, whole, h)
short_trimmed most line (unit_line name unit) h s = absurd s
short_trimmed most line (sample w) h s =
    let whole = ap length s.whole ∙ four w.name s.middle w.value s.rest in
    let inner = middle_size s.middle w.labels s.labels in
    short_sample most Text w (omega (arith, whole, inner, h))

short_open : (most : ℕ) (line : List ℕ) (w : Written) → length line ≤ most → SpellsOpen line w → IsShortItem most (item_of OpenMetrics w)
short_open most line blank h s = absurd s
short_open most line comment h s = absurd s
short_open most line eof h s = tt
short_open most line (help name text) h s =
    let whole = ap length s.3 ∙ four (codes "# HELP ") name (codes " ") s.0 in
    let value = ap length s.2 in
    let shorter = length_unescaped quote_escape s.0 in
    omega (arith, whole, value, shorter, h)
short_open most line (type_line name kind) h s = let whole = ap length s.1 ∙ four (codes "# TYPE ") name (codes " ") (kind_word kind) in omega (arith, whole, h)
short_open most line (unit_line name unit) h s = let whole = ap length s.2 ∙ four (codes "# UNIT ") name (codes " ") unit in omega (arith, whole, h)
short_open most line (sample w) h s =
    let whole = ap length s.8 ∙ six w.name s.0 (codes " ") w.value s.1 s.2 in
    let inner = optional_size s.0 w.labels s.4 in
    short_sample most OpenMetrics w (omega (arith, whole, inner, h))

-- the item of a line of so many bytes at most
pub short_written : (f : Format) (most : ℕ) (line : List ℕ) (w : Written) → length line ≤ most → Spells f line w → IsShortItem most (item_of f w)
short_written Text most line w h s = let trimmed_short = trimmed_length line in short_trimmed most (trimmed line) w (omega (arith, trimmed_short, h)) s
short_written OpenMetrics most line w h s = short_open most line w h s
