use Rattle.std.proofs.Common.{◌≡◌, ◌≢◌, ℕ, List, subst}
use Rattle.std.specs.Prelude.{IfSome, IfNone}
use Rattle.page_model.specs.declared.format.Format.{Format}
use Rattle.replay_script.specs.ScriptParts.{format_word}
use Rattle.replay_script.proofs.Laws.{format_told, format_untold}
use Rattle.program_words.proofs.words.forms.format_named.Goals as goal

pub returns-clause-found : goal.returns-clause-found
returns-clause-found c =
    let Found : List ℕ → Type 0 = λ bytes. IfSome c.format_named.result (λ format. bytes ≡ format_word format) in
    subst Found c.as_bytes.ensures.value (format_told c.as_bytes.result.now c.format_named.result c.format_named.ensures)

pub returns-clause-none : goal.returns-clause-none
returns-clause-none c =
    let None_is : List ℕ → Type 0 = λ bytes. IfNone c.format_named.result ((format : Format) → bytes ≢ format_word format) in
    subst None_is c.as_bytes.ensures.value (format_untold c.as_bytes.result.now c.format_named.result c.format_named.ensures)
