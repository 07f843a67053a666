-- Descriptors, step by step.
use Rattle.std.proofs.Common.{◌≡◌, ℕ, true, false, List, [], ◌∷◌, Option, Some, None, refl, sym, ◌∙◌, codes, length, arith, ◌<◌, inl, inr}
use Rattle.std.specs.Prelude.{take_while}
use Rattle.std.specs.Option.{option_or}
use Rattle.std.specs.Str.{bytes_eq}
use Rattle.std.proofs.lemmas.Bool.{cases_eq}
use Rattle.label_sets.specs.Lists.{when_true, behind}
use Rattle.label_sets.specs.Names.{is_metric_name, is_metric_char}
use Rattle.page_model.specs.Written.{eof}
use Rattle.page_model.specs.OpenReading.{named_at, descriptor_of, open_line_of, sample_of}
use Rattle.page_model.proofs.Laws.{behind_parts, behind-append}
use Rattle.line_scan.proofs.Laws.{other_byte}
use Rattle.line_scan.specs.declared.scan.Cut.{Cut}
use Rattle.line_scan.specs.Cuts.{IsNamed}
use Rattle.openmetrics_grammar.specs.Descriptors.{open_help_of, open_type_of, open_unit_of}

pub named-none : (cs : List ℕ) → is_metric_name (take_while is_metric_char cs) ≡ false → named_at cs ≡ None
unfolding named_at
named-none cs h = rw h refl

module _ (cs : List ℕ) (cut : Cut) (n : IsNamed is_metric_name is_metric_char cs cut) where
  pub named-stuck : None ≡ behind (32 ∷ []) cut.rest.now → named_at cs ≡ None
  unfolding named_at
  named-stuck h = rw (n.named, ← n.rest, ← h) refl

  pub named-found : (rest : List ℕ) → Some rest ≡ behind (32 ∷ []) cut.rest.now → named_at cs ≡ Some (cut.front.now, rest)
  unfolding named_at
  named-found rest h = rw (n.named, ← n.rest, ← h, n.front) refl

-- ---- which descriptor it is

-- of these fronts a line has one at most
or_none : {A : Type 0} (o : Option A) → option_or o None ≡ o
or_none None = refl
or_none (Some x) = refl

module _ (line rest : List ℕ) where
  pub descriptor-type : Some rest ≡ behind (codes "# TYPE ") line → descriptor_of line ≡ open_type_of rest
  unfolding descriptor_of
  descriptor-type h = rw (behind_parts (codes "# TYPE ") line rest (sym h)) (or_none (open_type_of rest))

  pub descriptor-help : Some rest ≡ behind (codes "# HELP ") line → descriptor_of line ≡ open_help_of rest
  unfolding descriptor_of
  descriptor-help h = rw (behind_parts (codes "# HELP ") line rest (sym h)) (or_none (open_help_of rest))

  pub descriptor-unit : Some rest ≡ behind (codes "# UNIT ") line → descriptor_of line ≡ open_unit_of rest
  unfolding descriptor_of
  descriptor-unit h = rw (behind_parts (codes "# UNIT ") line rest (sym h)) (or_none (open_unit_of rest))

module _ (line : List ℕ) (f : None ≡ behind (codes "# TYPE ") line) (g : None ≡ behind (codes "# HELP ") line) (h : None ≡ behind (codes "# UNIT ") line) where
  descriptor_last : descriptor_of line ≡ when_true (bytes_eq line (codes "# EOF")) eof
  unfolding descriptor_of
  descriptor_last = rw (← f, ← g, ← h) refl

  pub descriptor-eof : bytes_eq line (codes "# EOF") ≡ true → descriptor_of line ≡ Some eof
  descriptor-eof e = descriptor_last ∙ rw e refl

  pub descriptor-none : bytes_eq line (codes "# EOF") ≡ false → descriptor_of line ≡ None
  descriptor-none e = descriptor_last ∙ rw e refl

-- ---- lines

pub line-descriptor : (line rest : List ℕ) → Some rest ≡ behind (35 ∷ []) line → open_line_of line ≡ descriptor_of line
unfolding open_line_of
line-descriptor line rest h = rw (behind_parts (35 ∷ []) line rest (sym h)) refl

pub line-sample : (line : List ℕ) → 0 < length line → None ≡ behind (35 ∷ []) line → open_line_of line ≡ sample_of line
unfolding open_line_of
line-sample [] some h = absurd (omega arith)
line-sample (c ∷ cs) some h = elim (cases_eq c 35) [
  | inl is ↦ absurd (let g = behind-append (35 ∷ []) cs in let k = rw is at h in cc)
  | inr other ↦ rw (other_byte c 35 other) refl
]

pub line-nothing : (line : List ℕ) → length line ≡ 0 → open_line_of line ≡ None
unfolding open_line_of
line-nothing [] h = refl
line-nothing (c ∷ cs) h = absurd (omega arith)
