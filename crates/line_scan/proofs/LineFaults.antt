-- Which rule a line breaks by itself, in either format.
use Rattle.std.proofs.Common.{◌≡◌, ℕ, ◌≤◌, Bool, true, false, nat_lt, List, length, Option, Some, None, refl, ◌∙◌, arith, IsUtf8}
use Rattle.std.specs.Prelude.{find}
use Rattle.std.specs.Str.{is_utf8}
use Rattle.std.proofs.lemmas.Bool.Decides.{nat_tests}
use Rattle.std.proofs.lemmas.Str.{IsUtf8-from_is_utf8, is_utf8-from_IsUtf8}
use Rattle.page_model.specs.declared.format.Format.{Format}
use Rattle.page_model.specs.declared.format.Treatment.{Treatment}
use Rattle.page_model.specs.declared.rule.Rule.TheVariants as rules
use Rattle.page_model.specs.Written.{Written, line_limit, has_out_of_range, has_bad_labels}
use Rattle.page_model.specs.Faults.{own_fault, line_breaks, line_rules}
use Rattle.page_model.specs.PageReading.{line_read, written_of}
use Rattle.line_scan.specs.declared.line.LineRead.{LineRead}
use Rattle.line_scan.specs.declared.line.LineRead.TheVariants as reads
use Rattle.line_scan.specs.LineReading.{setting_of, says_fault, Reads, IsRead}

not_utf8 : (bs : List ℕ) → (IsUtf8 bs → ⊥) → is_utf8 bs ≡ false
not_utf8 bs h = go (is_utf8 bs) refl
  where
    go : (b : Bool) → is_utf8 bs ≡ b → is_utf8 bs ≡ false
    go true e = absurd (h (IsUtf8-from_is_utf8 bs e))
    go false e = e

module _ (f : Format) (t : Treatment) (line : List ℕ) (short : length line ≤ line_limit t) where
  fits : nat_lt (line_limit t) (length line) ≡ false
  fits = grind (arith, nat_tests)

  -- a line that is no UTF-8 breaks no lesser rule
  pub line-not_utf8 : (IsUtf8 line → ⊥) → IsRead f t line (reads.Refused rules.Utf8)
  unfolding own_fault line_breaks
  line-not_utf8 h limit = rw (fits, not_utf8 line h) refl

  line-said : (limit : ℕ) → is_utf8 line ≡ true → (says : Option Written) → own_fault (setting_of f t limit) (record { bytes = line; says = says }) ≡ says_fault f t says
  unfolding own_fault line_breaks
  line-said limit u None = rw (fits, u) refl
  line-said limit u (Some written) = go (has_out_of_range f written) (has_bad_labels t written) refl refl
    where
      go : (a b : Bool) → has_out_of_range f written ≡ a → has_bad_labels t written ≡ b → find (line_breaks (setting_of f t limit) (record { bytes = line; says = Some written })) line_rules ≡ says_fault f t (Some written)
      go true b e g = rw (fits, u, e) refl
      go false true e g = rw (fits, u, e, g) refl
      go false false e g = rw (fits, u, e, g) refl

  line-says : (limit : ℕ) → IsUtf8 line → own_fault (setting_of f t limit) (line_read f line) ≡ says_fault f t (written_of f line)
  line-says limit u = line-said limit (is_utf8-from_IsUtf8 line u) (written_of f line)

  -- what is read of what a line of UTF-8 says is read of the line
  pub line-read : (read : LineRead) → IsUtf8 line → Reads f t (written_of f line) read → IsRead f t line read
  line-read (reads.Item item) u h = (λ limit. line-says limit u ∙ h.0, h.1)
  line-read (reads.Refused rule) u h = λ limit. line-says limit u ∙ h
