-- What `--help` and `--version` print, and what is printed where words fit no form. The bridge's own.
use Rattle.std.specs.Prelude.{◌≡◌, ℕ, List, codes}
use Rattle.program_words.specs.declared.usage.TheConstants.{HELP, VERSION}
use Rattle.program_words.specs.declared.status.Status.TheVariants.{Done}
use Rattle.program_words.specs.Statuses.{code_of}

-- the lines of `--help`
unfoldable pub help_text : List ℕ
help_text = HELP.now

-- the line of `--version`
unfoldable pub version_text : List ℕ
version_text = VERSION.now

-- the line of words that fit no form
unfoldable pub no_form_text : List ℕ
no_form_text = codes "words\n"

-- what a command that prints always the same answers
pub record IsFixedAnswer (fixed : List ℕ) (status : ℕ) (text : List ℕ) : Type 0 where
  pub done : status ≡ code_of Done
  pub says : text ≡ fixed
