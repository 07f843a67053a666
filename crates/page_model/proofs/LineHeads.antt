-- The head of a sample line stays, whatever value stands behind it.
use Rattle.std.proofs.Common.{◌≡◌, ℕ, Bool, true, false, not, List, [], ◌∷◌, ◌++◌, Option, Some, refl, sym, ap, subst, ◌∙◌, append_assoc}
use Rattle.std.specs.Prelude.{take_while, ◌==◌}
use Rattle.std.proofs.lemmas.Bool.{and_parts, eqb-true}
use Rattle.std.proofs.lemmas.Option.{same_Some}
use Rattle.label_sets.specs.declared.label.Label.{Label}
use Rattle.label_sets.specs.Lists.{◌>>=◌, when_true, rest_while}
use Rattle.label_sets.specs.Names.{is_metric_name, is_metric_char, is_blank}
use Rattle.page_model.specs.declared.format.Format.{Format}
use Rattle.page_model.specs.declared.format.Format.TheVariants.{Text, OpenMetrics}
use Rattle.page_model.specs.LineHeads.{LineHead, labels_behind, head_of, follows_head, HasFront}
use Rattle.page_model.specs.TextItems.{SpellsMiddle}
use Rattle.page_model.specs.OpenItems.{SpellsOptionalList}
use Rattle.page_model.specs.TextReading.{middle_at}
use Rattle.page_model.specs.OpenReading.{optional_list_at}
use Rattle.page_model.proofs.Fronts.{Stops, bind_some, when_some, while_parts, take_while-append, rest_while-append}
use Rattle.page_model.proofs.TokenChars.{metric_chars, first_differs}
use Rattle.page_model.proofs.TextComplete.{eqb_flip, middle_again, middle_stops}
use Rattle.page_model.proofs.TextSound.{middle_front}
use Rattle.page_model.proofs.OpenComplete.{optional_again, labels_stop}
use Rattle.page_model.proofs.OpenSound.{optional_front}

not_true : (b : Bool) → not b ≡ true → b ≡ false
not_true true e = absurd cc
not_true false e = refl

-- what stands in front of labels, the labels, and that they are read again in front of all that may go on behind them
abbrev StaysBehind : Format → List ℕ → List Label × List ℕ → Type 0
StaysBehind f cs x = (text : List ℕ) × (cs ≡ text ++ x.1)
    × ((rest : List ℕ) → follows_head f rest ≡ true → Stops is_metric_char (text ++ rest) × (labels_behind f (text ++ rest) ≡ Some (x.0, rest)))

text_stays : (cs : List ℕ) (x : List Label × List ℕ) → middle_at cs ≡ Some x → StaysBehind Text cs x
text_stays cs x e = let m = middle_front cs x e in (m.0, m.2, again m.0 m.1)
  where
    again : (text : List ℕ) → SpellsMiddle text x.0 → (rest : List ℕ) → follows_head Text rest ≡ true → Stops is_metric_char (text ++ rest) × (labels_behind Text (text ++ rest) ≡ Some (x.0, rest))
    again text s [] h = absurd (let k : false ≡ true = h in cc)
    again text s (c ∷ cs) h =
        let both = and_parts (not (is_blank c)) (not (c == 123)) h in
        (middle_stops text (c ∷ cs) x.0 s, middle_again text (c ∷ cs) x.0 (not_true (is_blank c) both.0) (first_differs 123 c [] cs (eqb_flip c 123 (not_true (c == 123) both.1))) s)

open_stays : (cs : List ℕ) (x : List Label × List ℕ) → optional_list_at cs ≡ Some x → StaysBehind OpenMetrics cs x
open_stays cs x e = let m = optional_front cs x e in (m.0, m.2, again m.0 m.1)
  where
    again : (text : List ℕ) → SpellsOptionalList text x.0 → (rest : List ℕ) → follows_head OpenMetrics rest ≡ true → Stops is_metric_char (text ++ rest) × (labels_behind OpenMetrics (text ++ rest) ≡ Some (x.0, rest))
    again text s [] h = absurd (let k : false ≡ true = h in cc)
    again text s (c ∷ cs) h = subst (λ d. Stops is_metric_char (text ++ d ∷ cs) × (optional_list_at (text ++ d ∷ cs) ≡ Some (x.0, d ∷ cs))) (sym (eqb-true c 32 h)) (labels_stop text cs x.0 s, optional_again text cs x.0 s)

labels_stay : (f : Format) (cs : List ℕ) (x : List Label × List ℕ) → labels_behind f cs ≡ Some x → StaysBehind f cs x
labels_stay Text cs x e = text_stays cs x e
labels_stay OpenMetrics cs x e = open_stays cs x e

-- a name, and labels behind it
pub head-read : (f : Format) (name behind rest : List ℕ) (labels : List Label) → is_metric_name name ≡ true → Stops is_metric_char behind → labels_behind f behind ≡ Some (labels, rest)
    → head_of f (name ++ behind) ≡ Some (record { name = name; labels = labels; rest = rest })
unfolding head_of
head-read f name behind rest labels named stops found =
    rw (take_while-append is_metric_char name behind (metric_chars name named) stops, rest_while-append is_metric_char name behind (metric_chars name named) stops, named, found) refl

-- the head of a line is the head of each line that has its front
pub head-stays : (f : Format) (cs : List ℕ) (h : LineHead) → head_of f cs ≡ Some h → HasFront f cs h
unfolding head_of
head-stays f cs h e =
    let name = take_while is_metric_char cs in
    let made : List Label × List ℕ → Option LineHead = λ labels. Some (record { name = name; labels = labels.0; rest = labels.1 }) in
    let a = bind_some (when_true (is_metric_name name) name) (λ _. labels_behind f (rest_while is_metric_char cs) >>= made) h e in
    let b = bind_some (labels_behind f (rest_while is_metric_char cs)) made h a.2 in
    let named = when_some (is_metric_name name) name a.0 a.1 in
    subst (HasFront f cs) (same_Some (record { name = name; labels = b.0.0; rest = b.0.1 }) h b.2) (front_of name (rest_while is_metric_char cs) b.0 refl named.0 (while_parts is_metric_char cs) (labels_stay f (rest_while is_metric_char cs) b.0 b.1))
  where
    front_of : (name behind : List ℕ) (x : List Label × List ℕ) → name ≡ take_while is_metric_char cs → is_metric_name name ≡ true → cs ≡ name ++ behind → StaysBehind f behind x → HasFront f cs (record { name = name; labels = x.0; rest = x.1 })
    front_of name behind x cut named parts s = record {
      cut = cut;
      front = name ++ s.0;
      middle = s.0;
      begins = refl;
      whole = parts ∙ rw s.1 (sym (append_assoc name s.0 x.1));
      stays = λ rest goes. let t = s.2 rest goes in ap (head_of f) (append_assoc name s.0 rest) ∙ head-read f name (s.0 ++ rest) rest x.0 named t.0 t.1;
    }
