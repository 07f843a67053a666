-- Labels, step by step.
use Rattle.std.proofs.Common.{◌≡◌, ℕ, suc, false, List, [], ◌∷◌, ◌++◌, length, Option, Some, None, refl, sym, ap, append_assoc, codes, inl, inr}
use Rattle.std.specs.Prelude.{take_while}
use Rattle.std.proofs.lemmas.Bool.{cases_eq}
use Rattle.std.proofs.lemmas.List.{append-nil}
use Rattle.label_sets.specs.declared.label.Label.{Label}
use Rattle.label_sets.specs.Lists.{◌>>=◌, behind}
use Rattle.label_sets.specs.Names.{is_label_name, is_label_char}
use Rattle.label_sets.specs.Escapes.{quote_escape, unescaped, quoted_at}
use Rattle.page_model.specs.OpenReading.{label_at, more_labels_at, list_at, optional_list_at}
use Rattle.page_model.proofs.Laws.{behind_parts, behind-append}
use Rattle.line_scan.specs.declared.scan.Cut.{Cut}
use Rattle.line_scan.specs.declared.labels.AfterLabel.{AfterLabel}
use Rattle.line_scan.specs.declared.labels.AfterLabel.TheVariants.{End, More, Broken}
use Rattle.line_scan.specs.Cuts.{IsNamed}
use Rattle.line_scan.specs.LabelReading.{behind_labels, IsNext}
use Rattle.line_scan.proofs.Laws.{other_byte}
use Rattle.openmetrics_grammar.specs.LabelLists.{IsTaken, IsBehindComma, braced_at}

-- ---- a label

pub label-no_name : (cs : List ℕ) → is_label_name (take_while is_label_char cs) ≡ false → label_at cs ≡ None
unfolding label_at
label-no_name cs h = rw h refl

module _ (cs : List ℕ) (cut : Cut) (n : IsNamed is_label_name is_label_char cs cut) where
  pub label-no_opening : None ≡ behind (codes "=\"") cut.rest.now → label_at cs ≡ None
  unfolding label_at
  label-no_opening h = rw (n.named, ← n.rest, ← h) refl

  pub label-no_end : (o : List ℕ) → Some o ≡ behind (codes "=\"") cut.rest.now → None ≡ quoted_at o → label_at cs ≡ None
  unfolding label_at
  label-no_end o ho h = rw (n.named, ← n.rest, ← ho, ← h) refl

  pub label-found : (o q r : List ℕ) → Some o ≡ behind (codes "=\"") cut.rest.now → Some (q, r) ≡ quoted_at o
      → label_at cs ≡ Some (record { name = cut.front.now; value = unescaped quote_escape q }, r)
  unfolding label_at
  label-found o q r ho hq = rw (n.named, ← n.rest, ← ho, ← hq, n.front) refl

-- ---- the labels behind the first

pub next-end : (bytes rest : List ℕ) (before : List Label) → behind (125 ∷ []) bytes ≡ Some rest → (more : ℕ) → behind_labels before (more_labels_at (suc more) bytes) ≡ Some (before, rest)
unfolding more_labels_at
next-end bytes rest before h more = rw (h, append-nil) refl

pub next-broken : (bytes : List ℕ) → behind (125 ∷ []) bytes ≡ None → behind (44 ∷ []) bytes ≡ None → (more : ℕ) → more_labels_at (suc more) bytes ≡ None
unfolding more_labels_at
next-broken bytes h g more = rw (h, g) refl

next-no_label : (bytes m : List ℕ) → behind (125 ∷ []) bytes ≡ None → behind (44 ∷ []) bytes ≡ Some m → label_at m ≡ None → (more : ℕ) → more_labels_at (suc more) bytes ≡ None
unfolding more_labels_at
next-no_label bytes m h g none more = rw (h, g, none) refl

grown_labels : (before : List Label) (l : Label) (o : Option (List Label × List ℕ)) → behind_labels before (o >>= λ y. Some (l ∷ y.0, y.1)) ≡ behind_labels (before ++ l ∷ []) o
grown_labels before l None = refl
grown_labels before l (Some y) = ap (λ (ls : List Label). Some (ls, y.1)) (sym (append_assoc before (l ∷ []) y.0))

next-label : (bytes m rest : List ℕ) (before after : List Label) → behind (125 ∷ []) bytes ≡ None → behind (44 ∷ []) bytes ≡ Some m → (t : IsTaken m before after rest)
    → (more : ℕ) → behind_labels before (more_labels_at (suc more) bytes) ≡ behind_labels after (more_labels_at more rest)
unfolding more_labels_at
next-label bytes m rest before after h g t more = rw (h, g, t.found, t.added) (grown_labels before t.label (more_labels_at more rest))

pub next-behind_comma : (bytes m : List ℕ) (before after : List Label) (next : AfterLabel) → behind (125 ∷ []) bytes ≡ None → behind (44 ∷ []) bytes ≡ Some m → IsBehindComma m before after next
    → IsNext more_labels_at bytes before after next
next-behind_comma bytes m before after (End rest) h g i = absurd i
next-behind_comma bytes m before after (More rest) h g i = (i.utf8_rest, next-label bytes m rest.now before after h g i)
next-behind_comma bytes m before after Broken h g i = next-no_label bytes m h g i

-- ---- a list

pub braced-end : (inner rest : List ℕ) → Some rest ≡ behind (125 ∷ []) inner → braced_at inner ≡ Some ([], rest)
unfolding braced_at
braced-end inner rest h = rw (← h) refl

pub braced-broken : (inner : List ℕ) → None ≡ behind (125 ∷ []) inner → label_at inner ≡ None → braced_at inner ≡ None
unfolding braced_at
braced-broken inner h none = rw (← h, none) refl

pub braced-more : (inner rest : List ℕ) (after : List Label) → None ≡ behind (125 ∷ []) inner → IsTaken inner [] after rest → braced_at inner ≡ behind_labels after (more_labels_at (length inner) rest)
unfolding braced_at
braced-more inner rest after h t = rw (← h, t.found, t.added) refl

pub list-none : (cs : List ℕ) → None ≡ behind (123 ∷ []) cs → list_at cs ≡ None
unfolding list_at
list-none cs h = rw (← h) refl

pub list-found : (cs inner : List ℕ) → Some inner ≡ behind (123 ∷ []) cs → list_at cs ≡ braced_at inner
unfolding list_at braced_at
list-found cs inner h = rw (← h) refl

pub optional-found : (cs inner : List ℕ) → Some inner ≡ behind (123 ∷ []) cs → optional_list_at cs ≡ braced_at inner
unfolding optional_list_at
optional-found cs inner h = rw (behind_parts (123 ∷ []) cs inner (sym h)) (list-found (123 ∷ inner) inner (sym (behind-append (123 ∷ []) inner)))

pub optional-none : (cs : List ℕ) → None ≡ behind (123 ∷ []) cs → optional_list_at cs ≡ Some ([], cs)
unfolding optional_list_at
optional-none [] h = refl
optional-none (c ∷ cs) h = elim (cases_eq c 123) [
  | inl is ↦ absurd (let g = behind-append (123 ∷ []) cs in let k = rw is at h in cc)
  | inr other ↦ rw (other_byte c 123 other) refl
]
