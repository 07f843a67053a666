-- What a line says, step by step.
use Rattle.std.proofs.Common.{◌≡◌, ℕ, ◌<◌, Bool, true, false, cond, List, [], ◌∷◌, ◌++◌, length, Option, Some, None, Ok, Err, refl, sym, ap, subst, ◌∙◌, arith, IsUtf8, codes, inl, inr}
use Rattle.std.specs.Prelude.{take_while, option_map}
use Rattle.std.specs.Str.{bytes_eq}
use Rattle.std.specs.Cmp.Lexicographic.{bytes_decides}
use Rattle.label_sets.specs.declared.label.Label.{Label}
use Rattle.label_sets.specs.Lists.{◌>>=◌, when_true, rest_while, behind, some_passes}
use Rattle.label_sets.specs.Names.{is_metric_name, is_metric_char}
use Rattle.exact_decimal.specs.declared.number.Number.{Number}
use Rattle.exact_decimal.specs.declared.number.NumberFault.TheVariants as faults
use Rattle.exact_decimal.specs.Tokens.{is_number_token}
use Rattle.exact_decimal.specs.Numbers.{number_read, number}
use Rattle.exact_decimal.proofs.Laws.{not_a_number}
use Rattle.page_model.specs.declared.format.Format.TheVariants.{Text}
use Rattle.page_model.specs.declared.format.Treatment.{Treatment}
use Rattle.page_model.specs.declared.rule.Rule.TheVariants as rules
use Rattle.page_model.specs.Written.{Written, blank, comment, is_out_of_i64, short_token}
use Rattle.page_model.specs.TextItems.{is_integer_token, without_leading_blanks, is_not_blank, trimmed}
use Rattle.page_model.specs.TextReading.{stamp_of, named_at, at_blank, marked_of, middle_at, sample_of, trimmed_of, text_line_of}
use Rattle.page_model.proofs.Laws.{while_parts, behind_parts, behind-append}
use Rattle.std.proofs.lemmas.Bool.{cases_eq}
use Rattle.line_scan.proofs.Laws.{other_byte, utf8_tail}
use Rattle.line_scan.specs.declared.scan.Cut.{Cut}
use Rattle.line_scan.specs.declared.head.Head.{Head}
use Rattle.line_scan.specs.LineHeads.{IsHead}
use Rattle.page_model.specs.LineHeads.{LineHead, head_of}
use Rattle.line_scan.specs.declared.line.LineRead.{LineRead}
use Rattle.line_scan.specs.declared.line.LineRead.TheVariants as reads
use Rattle.line_scan.specs.Cuts.{IsNamed}
use Rattle.line_scan.specs.LineReading.{says_fault, Reads}
use Rattle.text_grammar.specs.LineReading.{Makes, help_of, type_of, written_sample}

-- ---- timestamps

pub stamp-nothing : (cs : List ℕ) → length cs ≡ 0 → stamp_of cs ≡ Some None
unfolding stamp_of
stamp-nothing [] h = refl
stamp-nothing (c ∷ cs) h = absurd (omega arith)

pub stamp-none : (cs : List ℕ) → 0 < length cs → is_integer_token (without_leading_blanks cs) ≡ false → stamp_of cs ≡ None
unfolding stamp_of
stamp-none [] h e = absurd (omega arith)
stamp-none (c ∷ cs) h e = rw e refl

pub stamp-some : (cs : List ℕ) → 0 < length cs → is_integer_token (without_leading_blanks cs) ≡ true → stamp_of cs ≡ Some (Some (without_leading_blanks cs))
unfolding stamp_of
stamp-some [] h e = absurd (omega arith)
stamp-some (c ∷ cs) h e = rw e refl

-- ---- descriptors

pub named-none : (cs w : List ℕ) → w ≡ without_leading_blanks cs → is_metric_name (take_while is_metric_char w) ≡ false → named_at cs ≡ None
unfolding named_at
named-none cs w e h = rw (← e, h) refl

pub named-stuck : (cs w : List ℕ) (cut : Cut) → w ≡ without_leading_blanks cs → IsNamed is_metric_name is_metric_char w cut → at_blank cut.rest.now ≡ false → named_at cs ≡ None
unfolding named_at
named-stuck cs w cut e n h = rw (← e, n.named, ← n.rest, h) refl

pub named-found : (cs w : List ℕ) (cut : Cut) → w ≡ without_leading_blanks cs → IsNamed is_metric_name is_metric_char w cut → at_blank cut.rest.now ≡ true → named_at cs ≡ Some (cut.front.now, without_leading_blanks cut.rest.now)
unfolding named_at
named-found cs w cut e n h = rw (← e, n.named, ← n.rest, h, n.front) refl

module _ (cs b w r : List ℕ) (e : b ≡ without_leading_blanks cs) (word : w ≡ take_while is_not_blank b) (rest : r ≡ rest_while is_not_blank b) where
  pub marked-help : bytes_eq w (codes "HELP") ≡ true → marked_of cs ≡ help_of r
  unfolding marked_of
  marked-help h = rw (← e, ← word, ← rest, h) refl

  pub marked-type : bytes_eq w (codes "HELP") ≡ false → bytes_eq w (codes "TYPE") ≡ true → marked_of cs ≡ type_of r
  unfolding marked_of
  marked-type g h = rw (← e, ← word, ← rest, g, h) refl

  pub marked-comment : bytes_eq w (codes "HELP") ≡ false → bytes_eq w (codes "TYPE") ≡ false → marked_of cs ≡ Some comment
  unfolding marked_of
  marked-comment g h = rw (← e, ← word, ← rest, g, h) refl

  pub behind_help : bytes_eq w (codes "HELP") ≡ true → IsUtf8 b → IsUtf8 r
  behind_help h u =
      let same : w ≡ codes "HELP" = (bytes_decides w (codes "HELP")).0 h in
      let whole : b ≡ w ++ r = while_parts is_not_blank b ∙ rw (word, rest) refl in
      let v : IsUtf8 (codes "HELP" ++ r) = subst IsUtf8 (whole ∙ ap (λ (x : List ℕ). x ++ r) same) u in
      utf8_tail 80 r (omega arith) (utf8_tail 76 (80 ∷ r) (omega arith) (utf8_tail 69 (76 ∷ 80 ∷ r) (omega arith) (utf8_tail 72 (69 ∷ 76 ∷ 80 ∷ r) (omega arith) v)))

-- ---- samples

token_number : (v : List ℕ) → (number_read v ≡ Err faults.NotANumber → ⊥) → is_number_token v ≡ true
token_number v h = go (is_number_token v) refl
  where
    go : (b : Bool) → is_number_token v ≡ b → is_number_token v ≡ true
    go true e = e
    go false e = absurd (h ((not_a_number v).1 e))

module _ (t : Treatment) (name : List ℕ) (labels : List Label) (v : List ℕ) (stamp : Option (List ℕ)) where
  pub sample-no_number : number_read v ≡ Err faults.NotANumber → says_fault Text t (when_true (is_number_token v) (written_sample name labels v stamp)) ≡ Some rules.Syntax
  sample-no_number e = rw ((not_a_number v).0 e) refl

  pub sample-value_range : number_read v ≡ Err faults.OutOfRange → says_fault Text t (when_true (is_number_token v) (written_sample name labels v stamp)) ≡ Some rules.Range
  sample-value_range e = rw (token_number v (λ h. absurd cc), e) refl

  pub sample-stamp_range : (n : Number) → number_read v ≡ Ok n → some_passes is_out_of_i64 stamp ≡ true → says_fault Text t (when_true (is_number_token v) (written_sample name labels v stamp)) ≡ Some rules.Range
  sample-stamp_range n e h = rw (token_number v (λ g. absurd cc), e, h) refl

  pub sample-made : (n : Number) (read : LineRead) → number_read v ≡ Ok n → some_passes is_out_of_i64 stamp ≡ false
      → Makes t name labels n (option_map (λ token. number (short_token token)) stamp) read → Reads Text t (when_true (is_number_token v) (written_sample name labels v stamp)) read
  sample-made n (reads.Item item) e h m = (rw (token_number v (λ g. absurd cc), e, h, m.0) refl, rw (token_number v (λ g. absurd cc), e, m.1) refl)
  sample-made n (reads.Refused rule) e h m = rw (token_number v (λ g. absurd cc), e, h, m.0, m.1) refl

-- what a sample line says behind its head
abbrev behind_head : LineHead → Option Written
behind_head h =
    when_true (is_number_token (take_while is_not_blank h.rest)) (take_while is_not_blank h.rest) >>= λ value. stamp_of (rest_while is_not_blank h.rest) >>= λ stamp. Some (written_sample h.name h.labels (take_while is_not_blank h.rest) stamp)

abbrev head_with : List ℕ → List Label × List ℕ → LineHead
head_with name x = record { name = name; labels = x.0; rest = x.1 }

by_head : (cs : List ℕ) → sample_of cs ≡ (head_of Text cs >>= behind_head)
unfolding sample_of head_of
by_head cs = go (when_true (is_metric_name (take_while is_metric_char cs)) (take_while is_metric_char cs)) (middle_at (rest_while is_metric_char cs))
  where
    go : (o : Option (List ℕ)) (m : Option (List Label × List ℕ)) → (o >>= λ _. m >>= λ x. behind_head (head_with (take_while is_metric_char cs) x)) ≡ ((o >>= λ _. m >>= λ x. Some (head_with (take_while is_metric_char cs) x)) >>= behind_head)
    go None m = refl
    go (Some name) None = refl
    go (Some name) (Some x) = refl

pub sample-no_head : (cs : List ℕ) → head_of Text cs ≡ None → sample_of cs ≡ None
sample-no_head cs h = by_head cs ∙ rw h refl

module _ (cs : List ℕ) (labels : List Label) (head : Head) (i : IsHead Text cs labels head) (w r : List ℕ) (word : w ≡ take_while is_not_blank head.rest.now) (behind : r ≡ rest_while is_not_blank head.rest.now) where
  pub sample-no_stamp : None ≡ stamp_of r → sample_of cs ≡ None
  sample-no_stamp h = by_head cs ∙ rw (i.found, ← word, ← behind, ← h) (go (is_number_token w))
    where
      go : (b : Bool) → ◌≡◌ {A = Option Written} (when_true b w >>= λ _. None) None
      go true = refl
      go false = refl

  pub sample-parts : (stamp : Option (List ℕ)) → Some stamp ≡ stamp_of r → sample_of cs ≡ when_true (is_number_token w) (written_sample head.name.now labels w stamp)
  sample-parts stamp h = by_head cs ∙ rw (i.found, ← word, ← behind, ← h) (go (is_number_token w))
    where
      go : (b : Bool) → (when_true b w >>= λ _. Some (written_sample head.name.now labels w stamp)) ≡ when_true b (written_sample head.name.now labels w stamp)
      go true = refl
      go false = refl

-- ---- lines

pub trimmed-nothing : (line : List ℕ) → length line ≡ 0 → trimmed_of line ≡ Some blank
unfolding trimmed_of
trimmed-nothing [] h = refl
trimmed-nothing (c ∷ cs) h = absurd (omega arith)

pub trimmed-marked : (line rest : List ℕ) → Some rest ≡ behind (35 ∷ []) line → trimmed_of line ≡ marked_of rest
unfolding trimmed_of
trimmed-marked line rest h = rw (behind_parts (35 ∷ []) line rest (sym h)) refl

pub trimmed-sample : (line : List ℕ) → 0 < length line → None ≡ behind (35 ∷ []) line → trimmed_of line ≡ sample_of line
unfolding trimmed_of
trimmed-sample [] some h = absurd (omega arith)
trimmed-sample (c ∷ cs) some h = elim (cases_eq c 35) [
  | inl is ↦ absurd (let g = behind-append (35 ∷ []) cs in let k = rw is at h in cc)
  | inr other ↦ rw (other_byte c 35 other) refl
]

pub unread : {A : Type 0} (b : Bool) (x : A) → None ≡ cond b None (Some x) → b ≡ true
unread true x h = refl
unread false x h = absurd cc

pub reads_on : {A : Type 0} (b : Bool) (x y : A) → Some y ≡ cond b None (Some x) → (b ≡ false) × (y ≡ x)
reads_on true x y h = absurd cc
reads_on false x y h = (refl, cc)

pub line-trimmed : (t : Treatment) (line w : List ℕ) (read : LineRead) → w ≡ trimmed line → Reads Text t (trimmed_of w) read → Reads Text t (text_line_of line) read
unfolding text_line_of
line-trimmed t line w read e h = subst (λ (x : List ℕ). Reads Text t (trimmed_of x) read) e h
