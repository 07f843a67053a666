-- The laws that have a line for each command over a page: no other command has its verb, how many words it has, and that they tell it.
use Rattle.std.proofs.Common.{◌≡◌, ◌⊎◌, ℕ, false, List, [], ◌∷◌, length, refl, ap, ◌∙◌, inl, inr, arith, sym}
use Rattle.std.specs.Prelude.{codes}
use Rattle.std.specs.Str.{bytes_eq}
use Rattle.std.specs.Str.Parse.{digits_value}
use Rattle.std.specs.Fmt.{decimal}
use Rattle.std.proofs.lemmas.Bool.{true≢false}
use Rattle.std.proofs.lemmas.Fmt.{decimal_is_IsNumeral}
use Rattle.std.proofs.lemmas.Slice.Eq.{bytes_eq-Decides}
use Rattle.program_words.specs.declared.words.PageCommand.{PageCommand}
use Rattle.program_words.specs.declared.words.PageCommand.TheVariants.{Check, Convert}
use Rattle.program_words.specs.CommandWords.{page_verb, page_arguments, PageLimits}
use Rattle.program_words.proofs.PlaceLaws.{target_of, told_target}

-- a verb of no other command with more words than one
pub record IsPageVerb (verb : List ℕ) : Type 0 where
  pub no_replay : bytes_eq verb (codes "replay") ≡ false
  pub no_load : bytes_eq verb (codes "load") ≡ false
  pub no_run : bytes_eq verb (codes "run") ≡ false

pub other_verb : (what : PageCommand) → IsPageVerb (page_verb what)
other_verb Check = record { no_replay = refl; no_load = refl; no_run = refl }
other_verb (Convert target nanos) = record { no_replay = refl; no_load = refl; no_run = refl }

-- behind its format stands nothing, or three words
pub arguments_number : (what : PageCommand) → (length (page_arguments what) ≡ 0) ⊎ (length (page_arguments what) ≡ 3)
arguments_number Check = inl refl
arguments_number (Convert target nanos) = inr refl

-- the command over a page of a verb, and of what stands behind the format
abbrev pub told_page_command : List ℕ → List (List ℕ) → PageCommand
told_page_command verb (job ∷ instance ∷ time ∷ []) = Convert (target_of job instance) (digits_value 10 time)
told_page_command verb _ = Check

pub page_command_told : (what : PageCommand) → PageLimits what → told_page_command (page_verb what) (page_arguments what) ≡ what
page_command_told Check limits = refl
page_command_told (Convert target nanos) limits =
    ap (λ t. Convert t (digits_value 10 (decimal nanos))) (told_target target limits.0) ∙ ap (Convert target) (decimal_is_IsNumeral nanos (omega (arith, limits.1))).1

-- words that begin in another way are others
pub unlike : (a b : List ℕ) (xs ys : List (List ℕ)) → a ∷ xs ≡ b ∷ ys → bytes_eq a b ≡ false → ⊥
unlike a b xs ys e other =
    let same : a ≡ b = cc in
    true≢false (sym ((bytes_eq-Decides a b).1 same) ∙ other)
