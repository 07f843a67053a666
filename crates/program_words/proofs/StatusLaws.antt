-- Statuses: which have a text, and that their codes tell them.
use Rattle.std.proofs.Common.{◌≡◌, ◌≢◌, ℕ, cond, refl, sym, ap, subst, ◌∙◌, ◌⊎◌, inl, inr, arith}
use Rattle.std.specs.Prelude.{nat_eq}
use Rattle.program_words.specs.declared.status.Status.{Status}
use Rattle.program_words.specs.declared.status.Status.TheVariants as statuses
use Rattle.program_words.specs.Statuses.{code_of, IsTold, IsUntold}

-- each status but that of a failed write has a text or none
pub told_or_not : (status : Status) → status ≢ statuses.WriteFailed → IsTold (code_of status) ⊎ IsUntold (code_of status)
told_or_not statuses.ReadFailed other = inr (inl refl)
told_or_not statuses.WriteFailed other = absurd (other refl)
told_or_not statuses.WantOfMemory other = inr (inr refl)
told_or_not _ other = inl (omega arith, omega arith, omega arith)

-- that of what is done has
pub done_told : (status : Status) → status ≡ statuses.Done → IsTold (code_of status)
done_told status e = subst (λ s. IsTold (code_of s)) (sym e) (omega arith, omega arith, omega arith)

-- the status with this code
abbrev status_with : ℕ → Status
status_with code =
    cond (nat_eq code 0) statuses.Done (cond (nat_eq code 1) statuses.Refused (cond (nat_eq code 2) statuses.NoForm (cond (nat_eq code 3) statuses.ReadFailed
    (cond (nat_eq code 4) statuses.WriteFailed (cond (nat_eq code 5) statuses.ConfigRefused (cond (nat_eq code 6) statuses.WantOfMemory (cond (nat_eq code 7) statuses.ScriptRefused statuses.TooLong)))))))

-- its code tells it
status_back : (s : Status) → status_with (code_of s) ≡ s
status_back statuses.Done = refl
status_back _ = refl

-- statuses with one code are one
pub same_code : (s t : Status) → code_of s ≡ code_of t → s ≡ t
same_code s t e = sym (status_back s) ∙ ap status_with e ∙ status_back t
