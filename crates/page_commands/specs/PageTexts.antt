-- What each command over a page prints of it. The bridge's own.
use Rattle.std.specs.Prelude.{ℕ, List, ◌++◌, codes}
use Rattle.page_model.specs.declared.page.Page.{Page}
use Rattle.otlp_json.specs.Texts.{request_text}
use Rattle.program_words.specs.declared.words.PageCommand.{PageCommand}
use Rattle.program_words.specs.declared.words.PageCommand.TheVariants.{Check, Convert}
use Rattle.page_commands.specs.declared.commands.PageText.{PageText}
use Rattle.page_commands.specs.declared.commands.PageText.TheVariants.{Whole, Tree}
use Rattle.page_commands.specs.CheckTexts.{checked_text}
use Rattle.page_commands.specs.ConvertTexts.{converted_text}

-- the text that a command prints of a page without a fault
abbrev pub command_text : PageCommand → Page → List ℕ
command_text Check = checked_text
command_text (Convert target nanos) = converted_text target nanos

-- the text that is to be printed
abbrev pub text_in : PageText → List ℕ
text_in (Whole text) = text.items
text_in (Tree request) = request_text request ++ codes "\n"
