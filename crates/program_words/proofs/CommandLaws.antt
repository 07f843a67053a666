-- The laws that have a line for each command, and what follows: words ask for one command.
use Rattle.std.proofs.Common.{◌≡◌, ◌≢◌, ℕ, false, cond, List, [], ◌∷◌, ◌++◌, length, Option, Some, None, refl, sym, ap, ◌∙◌, inl, inr, arith}
use Rattle.std.specs.Prelude.{codes, bytes_eq}
use Rattle.std.specs.Fmt.{decimal}
use Rattle.std.specs.Str.Parse.{digits_value}
use Rattle.std.proofs.lemmas.Fmt.{decimal_is_IsNumeral}
use Rattle.page_model.specs.declared.format.Format.{Format}
use Rattle.page_model.specs.declared.format.Format.TheVariants.{Text, OpenMetrics}
use Rattle.program_words.specs.declared.words.Command.{Command}
use Rattle.program_words.specs.declared.words.Command.TheVariants.{Help, Version, OverPage, Replay, Run, Load}
use Rattle.program_words.specs.declared.words.PageCommand.{PageCommand}
use Rattle.replay_script.specs.ScriptParts.{format_word}
use Rattle.series_select.specs.declared.selector.Selector.{Selector}
use Rattle.series_select.specs.Selectors.{SpellEach}
use Rattle.series_select.specs.SelectorReading.{selector_in}
use Rattle.series_select.proofs.Laws.{selector_complete}
use Rattle.program_words.specs.CommandWords.{word_if, ArePageWords, AreScrapers, PageLimits, page_verb, page_arguments, page_words, IsCommand, command_row, takes_memory}
use Rattle.program_words.specs.WordSteps.{FitNoOther, is_replay}
use Rattle.std.proofs.lemmas.Bool.{true≢false}
use Rattle.program_words.proofs.WordLaws.{number_no_page}
use Rattle.program_words.proofs.PageWords.{other_verb, arguments_number, told_page_command, page_command_told}

-- the command of one word
abbrev lone_command : List ℕ → Command
lone_command word = cond (bytes_eq word (codes "--version")) Version Help

-- the format of a word
abbrev told_format : List ℕ → Format
told_format word = cond (bytes_eq word (codes "text")) Text OpenMetrics

-- the word of a format tells it
format_told : (format : Format) → told_format (format_word format) ≡ format
format_told Text = refl
format_told OpenMetrics = refl

-- ---- the words of a replay

-- a selector in front of others, where it is one
abbrev with_next : Option Selector → List Selector → List Selector
with_next None ss = ss
with_next (Some s) ss = s ∷ ss

-- the selectors of words
abbrev told_selectors : List (List ℕ) → List Selector
told_selectors [] = []
told_selectors (text ∷ texts) = with_next (selector_in text) (told_selectors texts)

selectors_told : (texts : List (List ℕ)) (ss : List Selector) → SpellEach texts ss → told_selectors texts ≡ ss
selectors_told [] [] h = refl
selectors_told [] (s ∷ ss) h = absurd h
selectors_told (t ∷ texts) [] h = absurd h
selectors_told (t ∷ texts) (s ∷ ss) h = ap (λ o. with_next o (told_selectors texts)) (selector_complete t s h.0) ∙ ap (λ xs. s ∷ xs) (selectors_told texts ss h.1)

-- the page of words
abbrev told_page : List (List ℕ) → Option (List Selector)
told_page [] = None
told_page (word ∷ texts) = Some (told_selectors texts)

page_told : (page : Option (List Selector)) (words : List (List ℕ)) → ArePageWords page words → told_page words ≡ page
page_told None words e = ap told_page e
page_told (Some list) words are = ap told_page are.1 ∙ ap (λ (ss : List Selector). Some ss) (selectors_told are.0 list are.2)

-- the replay of the words behind `replay`
abbrev told_replay : List (List ℕ) → Command
told_replay [] = Replay None None
told_replay (word ∷ words) = cond (bytes_eq word (codes "page")) (Replay None (told_page (word ∷ words))) (Replay (Some (digits_value 10 word)) (told_page words))

replay_told : (scrapers : Option ℕ) (page : Option (List Selector)) (behind : List (List ℕ)) → AreScrapers scrapers → ArePageWords page behind → told_replay (word_if scrapers ++ behind) ≡ Replay scrapers page
replay_told None None behind few e = ap told_replay e
replay_told None (Some list) behind few are = ap told_replay are.1 ∙ ap (λ (ss : List Selector). Replay None (Some ss)) (selectors_told are.0 list are.2)
replay_told (Some n) page behind few are =
    ap (λ same. cond same (Replay None (told_page (decimal n ∷ behind))) (Replay (Some (digits_value 10 (decimal n))) (told_page behind))) (number_no_page n few.1)
    ∙ ap (λ m. Replay (Some m) (told_page behind)) (decimal_is_IsNumeral n (omega (arith, few.1))).1 ∙ ap (Replay (Some n)) (page_told page behind are)

-- ---- the words of all commands

-- the load of the words behind `load`
abbrev told_load : List (List ℕ) → Command
told_load (number ∷ targets ∷ rounds ∷ []) = Load (digits_value 10 number) (digits_value 10 targets) (digits_value 10 rounds)
told_load _ = Help

-- the command of other words whose words these are, if they are those of one
abbrev told_other : List (List ℕ) → Command
told_other (verb ∷ word ∷ behind) = cond (bytes_eq verb (codes "run")) (Run word) (OverPage (told_format word) (told_page_command verb behind))
told_other (word ∷ []) = lone_command word
told_other [] = Help

-- the command whose words these are, if they are those of one
abbrev told_by : List (List ℕ) → Command
told_by [] = Help
told_by (verb ∷ words) = cond (bytes_eq verb (codes "replay")) (told_replay words) (cond (bytes_eq verb (codes "load")) (told_load words) (told_other (verb ∷ words)))

-- a command over a page is told by its words
over_page_told : (format : Format) (what : PageCommand) → PageLimits what → told_by (page_words format what) ≡ OverPage format what
over_page_told format what limits =
    let verb = page_verb what in
    let behind = format_word format ∷ page_arguments what in
    let other = other_verb what in
    ap (λ t. cond t (told_replay behind) (cond (bytes_eq verb (codes "load")) (told_load behind) (told_other (verb ∷ behind)))) other.no_replay
    ∙ ap (λ t. cond t (told_load behind) (told_other (verb ∷ behind))) other.no_load
    ∙ ap (λ t. cond t (Run (format_word format)) (OverPage (told_format (format_word format)) (told_page_command verb (page_arguments what)))) other.no_run
    ∙ ap (λ f. OverPage f (told_page_command verb (page_arguments what))) (format_told format) ∙ ap (OverPage format) (page_command_told what limits)

-- the words of a command tell it
told : (command : Command) (words : List (List ℕ)) → (command_row command).words words → (command_row command).limits → told_by words ≡ command
told Help words spelled limits = ap told_by spelled
told Version words spelled limits = ap told_by spelled
told (Run path) words spelled limits = ap told_by spelled
told (Replay scrapers page) words spelled limits = ap told_by spelled.1 ∙ replay_told scrapers page spelled.0 limits.0 spelled.2
told (Load number targets rounds) words spelled limits =
    let n = (decimal_is_IsNumeral number (omega (arith, limits.small))).1 in
    let t = (decimal_is_IsNumeral targets (omega (arith, limits.few_targets))).1 in
    let r = (decimal_is_IsNumeral rounds (omega (arith, limits.few_rounds))).1 in
    ap told_by spelled
    ∙ ap (λ m. Load m (digits_value 10 (decimal targets)) (digits_value 10 (decimal rounds))) n ∙ ap (λ m. Load number m (digits_value 10 (decimal rounds))) t ∙ ap (Load number targets) r
told (OverPage format what) words spelled limits = ap told_by spelled ∙ over_page_told format what limits

-- words of another number fit no form but, maybe, one of a replay
pub other_number : (words : List (List ℕ)) → length words ≢ 1 → length words ≢ 2 → length words ≢ 4 → length words ≢ 5 → FitNoOther words
other_number words one two four five command other asked = by command other asked.spelled
  where
    by : (command : Command) → is_replay command ≡ false → (command_row command).words words → ⊥
    by Help other spelled = one (ap (length {A = List ℕ}) spelled)
    by Version other spelled = one (ap (length {A = List ℕ}) spelled)
    by (Run path) other spelled = two (ap (length {A = List ℕ}) spelled)
    by (OverPage f what) other spelled = elim (arguments_number what) [
      | inl none ↦ two (omega (arith, ap (length {A = List ℕ}) spelled, none))
      | inr three ↦ five (omega (arith, ap (length {A = List ℕ}) spelled, three))
    ]
    by (Load n t r) other spelled = four (ap (length {A = List ℕ}) spelled)
    by (Replay s page) other spelled = true≢false other

-- words ask for one command
pub one_command : (words : List (List ℕ)) (c d : Command) → IsCommand words c → IsCommand words d → c ≡ d
one_command words c d a b = sym (told c words a.spelled a.limits) ∙ told d words b.spelled b.limits

-- what prints in pieces takes memory
pub pieces_take : (command : Command) → takes_memory command ≡ false → (command_row command).prints_pieces ≡ false
pieces_take (Replay scrapers page) e = absurd (true≢false e)
pieces_take (Run path) e = absurd (true≢false e)
pieces_take (Load number targets rounds) e = absurd (true≢false e)
pieces_take _ e = refl
