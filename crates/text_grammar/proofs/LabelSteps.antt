-- Labels, step by step.
use Rattle.std.proofs.Common.{◌≡◌, ℕ, suc, Bool, true, false, List, [], ◌∷◌, ◌++◌, length, Option, Some, None, refl, sym, ap, ◌∙◌, append_assoc, IsUtf8}
use Rattle.std.specs.Option.{option_or}
use Rattle.std.specs.Prelude.{take_while, option_map}
use Rattle.std.proofs.lemmas.List.{append-nil}
use Rattle.label_sets.specs.declared.label.Label.{Label}
use Rattle.label_sets.specs.Lists.{◌>>=◌, when_true, rest_while, behind}
use Rattle.label_sets.specs.Names.{is_label_name, is_label_char}
use Rattle.label_sets.specs.Escapes.{quote_escape, unescaped, quoted_at}
use Rattle.page_model.specs.TextItems.{without_leading_blanks}
use Rattle.page_model.specs.TextReading.{label_at, labels_at, middle_at, middle_from, begins_blank}
use Rattle.line_scan.specs.declared.scan.Cut.{Cut}
use Rattle.line_scan.specs.declared.labels.AfterLabel.{AfterLabel}
use Rattle.line_scan.specs.declared.labels.AfterLabel.TheVariants.{End, More, Broken}
use Rattle.line_scan.specs.LabelReading.{behind_labels, IsAfter, IsNext}
use Rattle.line_scan.specs.Cuts.{IsNamed}
use Rattle.text_grammar.specs.LabelReading.{opened_at}

-- ---- a label

pub label-no_name : (cs : List ℕ) → is_label_name (take_while is_label_char cs) ≡ false → label_at cs ≡ None
unfolding label_at
label-no_name cs h = rw h refl

-- behind the name, one step after the other
label-steps : (cs : List ℕ) → is_label_name (take_while is_label_char cs) ≡ true
    → label_at cs ≡ (opened_at (rest_while is_label_char cs) >>= λ open_quote. quoted_at open_quote >>= λ quoted. Some (record { name = take_while is_label_char cs; value = unescaped quote_escape quoted.0 }, without_leading_blanks quoted.1))
unfolding label_at
label-steps cs named = rw named (go (behind (61 ∷ []) (without_leading_blanks (rest_while is_label_char cs))) (λ open_quote. quoted_at open_quote >>= λ quoted. Some (record { name = take_while is_label_char cs; value = unescaped quote_escape quoted.0 }, without_leading_blanks quoted.1)))
  where
    go : (o : Option (List ℕ)) (on : List ℕ → Option (Label × List ℕ)) → (o >>= λ value. behind (34 ∷ []) (without_leading_blanks value) >>= on) ≡ ((o >>= λ value. behind (34 ∷ []) (without_leading_blanks value)) >>= on)
    go None on = refl
    go (Some value) on = refl

module _ (cs : List ℕ) (cut : Cut) (n : IsNamed is_label_name is_label_char cs cut) where
  pub label-no_opening : None ≡ opened_at cut.rest.now → label_at cs ≡ None
  label-no_opening h = label-steps cs n.named ∙ rw (← n.rest, ← h) refl

  pub label-no_end : (o : List ℕ) → Some o ≡ opened_at cut.rest.now → None ≡ quoted_at o → label_at cs ≡ None
  label-no_end o ho h = label-steps cs n.named ∙ rw (← n.rest, ← ho, ← h) refl

  pub label-found : (o q r rest : List ℕ) → Some o ≡ opened_at cut.rest.now → Some (q, r) ≡ quoted_at o → rest ≡ without_leading_blanks r
      → label_at cs ≡ Some (record { name = cut.front.now; value = unescaped quote_escape q }, rest)
  label-found o q r rest ho hq e = label-steps cs n.named ∙ rw (← n.rest, ← ho, ← hq, e, n.front) refl

-- ---- labels

labels_after : (cs : List ℕ) (x : Label × List ℕ) → behind (125 ∷ []) cs ≡ None → label_at cs ≡ Some x → (more : ℕ) → (w : List ℕ) → cs ≡ without_leading_blanks w
    → labels_at (suc more) w ≡ option_or (behind (125 ∷ []) x.1 >>= λ rest. Some (x.0 ∷ [], rest)) (behind (44 ∷ []) x.1 >>= labels_at more >>= λ y. Some (x.0 ∷ y.0, y.1))
unfolding labels_at
labels_after cs x none found more w e = rw (← e, none, found) refl

pub next-end : (w cs rest : List ℕ) (before : List Label) → cs ≡ without_leading_blanks w → Some rest ≡ behind (125 ∷ []) cs → (more : ℕ) → behind_labels before (labels_at (suc more) w) ≡ Some (before, rest)
unfolding labels_at
next-end w cs rest before e h more = rw (← e, ← h, append-nil) refl

pub next-broken : (w cs : List ℕ) → cs ≡ without_leading_blanks w → None ≡ behind (125 ∷ []) cs → label_at cs ≡ None → (more : ℕ) → labels_at (suc more) w ≡ None
unfolding labels_at
next-broken w cs e h none more = rw (← e, ← h, none) refl

grown_labels : (before : List Label) (l : Label) (o : Option (List Label × List ℕ)) → behind_labels before (o >>= λ y. Some (l ∷ y.0, y.1)) ≡ behind_labels (before ++ l ∷ []) o
grown_labels before l None = refl
grown_labels before l (Some y) = ap (λ (ls : List Label). Some (ls, y.1)) (sym (append_assoc before (l ∷ []) y.0))

-- behind a label
pub next-label : (w cs rest : List ℕ) (before after : List Label) (l : Label) (next : AfterLabel) → cs ≡ without_leading_blanks w → None ≡ behind (125 ∷ []) cs → label_at cs ≡ Some (l, rest)
    → after ≡ before ++ l ∷ [] → IsUtf8 rest → IsAfter rest next → IsNext labels_at w before after next
next-label w cs rest before after l (End r) e none found grown u h = (
  h.1 u,
  λ more. ap (behind_labels before) (labels_after cs (l, rest) (sym none) found more w e) ∙ rw (h.0, grown) refl,
)
next-label w cs rest before after l (More r) e none found grown u h = (
  h.2 u,
  λ more. ap (behind_labels before) (labels_after cs (l, rest) (sym none) found more w e) ∙ rw (h.0, h.1, grown) (grown_labels before l (labels_at more r.now)),
)
next-label w cs rest before after l Broken e none found grown u h = λ more.
    labels_after cs (l, rest) (sym none) found more w e ∙ rw (h.0, h.1) refl

-- ---- what stands between a name and a value

pub middle-labels : (cs w inner : List ℕ) → w ≡ without_leading_blanks cs → Some inner ≡ behind (123 ∷ []) w → middle_at cs ≡ (labels_at (length inner) inner >>= λ x. Some (x.0, without_leading_blanks x.1))
unfolding middle_at middle_from
middle-labels cs w inner e h = rw (← e, ← h) refl

pub middle-blanks : (cs w : List ℕ) → w ≡ without_leading_blanks cs → None ≡ behind (123 ∷ []) w → middle_at cs ≡ when_true (begins_blank cs) ([], without_leading_blanks cs)
unfolding middle_at middle_from
middle-blanks cs w e h = rw (← e, ← h) refl

abbrev pair_with : List Label → List ℕ → List Label × List ℕ
pair_with ls cs = (ls, cs)

pub blanks_mapped : (b : Bool) (x : List ℕ) → option_map (λ cs. pair_with [] cs) (when_true b x) ≡ when_true b (pair_with [] x)
blanks_mapped true x = refl
blanks_mapped false x = refl
