-- The words of the command line. The bridge's own.
use Rattle.std.specs.Prelude.{◌≡◌, ℕ, ◌≤◌, Bool, true, false, List, [], ◌∷◌, ◌++◌, length, codes, Option, Some, None, ⊤}
use Rattle.std.specs.Fmt.{decimal}
use Rattle.page_model.specs.declared.format.Format.{Format}
use Rattle.bridge_ports.specs.Targets.{Scraped, most_job_bytes}
use Rattle.plain_words.specs.Places.{IsHostAndPort}
use Rattle.replay_script.specs.ScriptParts.{format_word}
use Rattle.load_pages.specs.GeneratedScripts.{IsLoad}
use Rattle.series_select.specs.declared.selector.Selector.{Selector}
use Rattle.series_select.specs.Selectors.{SpellEach}
use Rattle.program_words.specs.declared.words.Command.{Command}
use Rattle.program_words.specs.declared.words.Command.TheVariants.{Help, Version, OverPage, Replay, Run, Load}
use Rattle.program_words.specs.declared.words.PageCommand.{PageCommand}
use Rattle.program_words.specs.declared.words.PageCommand.TheVariants.{Check, Convert}
use Rattle.program_words.specs.Limits.{most_page, most_script, most_config, most_nanos, most_instance_host, most_scrapers, most_selectors}

-- what is scraped of a host and a port: its metrics, whose times do not count
unfoldable pub place_target : List ℕ → List ℕ → List ℕ → ℕ → Scraped
place_target job instance host port = record { job = job; instance = instance; address = record { host = host; port = port; path = codes "/metrics" }; honor = false }

-- a job of 1 to 256 bytes, and an instance that is its host and port; its metrics are asked for, and their times do not count
pub record IsTarget (t : Scraped) : Type 0 where
  pub some_job : 1 ≤ length t.job
  pub short_job : length t.job ≤ most_job_bytes
  pub place : IsHostAndPort most_instance_host t.instance t.address.host t.address.port
  pub path : t.address.path ≡ codes "/metrics"
  pub honor : t.honor ≡ false

-- the word of a number that may be left out
abbrev pub word_if : Option ℕ → List (List ℕ)
word_if None = []
word_if (Some n) = decimal n ∷ []

-- the words that ask for the federation page, where it is asked for: `page`, and behind it a word for each of its selectors
abbrev pub ArePageWords : Option (List Selector) → List (List ℕ) → Type 0
ArePageWords None words = words ≡ []
ArePageWords (Some list) words = (texts : List (List ℕ)) × (words ≡ codes "page" ∷ texts) × SpellEach texts list

-- at most 16 selectors, where the page is asked for
abbrev pub AreFewSelectors : Option (List Selector) → Type 0
AreFewSelectors None = ⊤
AreFewSelectors (Some list) = length list ≤ most_selectors

-- 1 to 4 scrapers, where their number is said
abbrev pub AreScrapers : Option ℕ → Type 0
AreScrapers None = ⊤
AreScrapers (Some n) = (1 ≤ n) × (n ≤ most_scrapers)

-- the word says so many scrapers
pub record SaysScrapers (word : List ℕ) (n : ℕ) : Type 0 where
  pub spelled : word ≡ decimal n
  pub some : 1 ≤ n
  pub few : n ≤ most_scrapers

-- how many scrapers there are: 1 where their number isn't said
abbrev pub scrapers_asked : Option ℕ → ℕ
scrapers_asked None = 1
scrapers_asked (Some n) = n

-- ---- the table of the commands

-- what a command reads: nothing; the input, and at most so many bytes of it; or the file of a path of the world, and at most so many bytes of that
pub data Reading : Type 0 where
  of_nothing : Reading
  of_input : ℕ → Reading
  of_file : List ℕ → ℕ → Reading

-- what a command uses of the world: nothing; the shelf, on which it puts the wires of what it visited; or the file of a path, the wires of targets, and a door
pub data WorldUse : Type 0 where
  uses_nothing : WorldUse
  uses_shelf : WorldUse
  uses_wires : List ℕ → WorldUse

-- what is said of a command: the words that ask for it, in which numbers are decimal digits without a sign or a leading zero; the ranges of its arguments; what it reads; what it uses of the world; whether it takes memory; and whether it prints in pieces, as they are made, so that a part may be printed where memory was wanting
pub record CommandRow : Type 1 where
  pub words : List (List ℕ) → Type 0
  pub limits : Type 0
  pub reads : Reading
  pub uses : WorldUse
  pub takes_memory : Bool
  pub prints_pieces : Bool

-- the words of a replay: how many scrapers, and the page, where they are asked for
abbrev pub AreReplayWords : Option ℕ → Option (List Selector) → List (List ℕ) → Type 0
AreReplayWords scrapers page words = (behind : List (List ℕ)) × (words ≡ codes "replay" ∷ (word_if scrapers ++ behind)) × ArePageWords page behind

-- the word that a command over a page begins with
abbrev pub page_verb : PageCommand → List ℕ
page_verb Check = codes "check"
page_verb (Convert target nanos) = codes "convert"

-- its words behind the format
abbrev pub page_arguments : PageCommand → List (List ℕ)
page_arguments Check = []
page_arguments (Convert target nanos) = target.job ∷ target.instance ∷ decimal nanos ∷ []

-- the words of a command over a page
abbrev pub page_words : Format → PageCommand → List (List ℕ)
page_words format what = page_verb what ∷ format_word format ∷ page_arguments what

-- the ranges of the arguments of a command over a page
abbrev pub PageLimits : PageCommand → Type 0
PageLimits Check = ⊤
PageLimits (Convert target nanos) = IsTarget target × (nanos ≤ most_nanos)

-- the words of a load
abbrev pub load_words : ℕ → ℕ → ℕ → List (List ℕ)
load_words number targets rounds = codes "load" ∷ decimal number ∷ decimal targets ∷ decimal rounds ∷ []

-- a command that prints what is always the same
abbrev pub fixed_row : List ℕ → CommandRow
fixed_row word = record { words = λ words. words ≡ word ∷ []; limits = ⊤; reads = of_nothing; uses = uses_nothing; takes_memory = false; prints_pieces = false }

-- a command over the page on the input
abbrev pub page_row : Format → PageCommand → CommandRow
page_row format what = record { words = λ words. words ≡ page_words format what; limits = PageLimits what; reads = of_input most_page; uses = uses_nothing; takes_memory = true; prints_pieces = false }

-- the table of the commands
abbrev pub command_row : Command → CommandRow
command_row Help = fixed_row (codes "--help")
command_row Version = fixed_row (codes "--version")
command_row (OverPage format what) = page_row format what
command_row (Replay scrapers page) = record { words = AreReplayWords scrapers page; limits = AreScrapers scrapers × AreFewSelectors page; reads = of_input most_script; uses = uses_shelf; takes_memory = true; prints_pieces = true }
command_row (Run path) = record { words = λ words. words ≡ codes "run" ∷ path ∷ []; limits = ⊤; reads = of_file path most_config; uses = uses_wires path; takes_memory = true; prints_pieces = true }
command_row (Load number targets rounds) = record { words = λ words. words ≡ load_words number targets rounds; limits = IsLoad number targets rounds; reads = of_nothing; uses = uses_shelf; takes_memory = true; prints_pieces = true }

-- the command takes memory
abbrev pub takes_memory : Command → Bool
takes_memory command = (command_row command).takes_memory

-- ---- what words ask for

-- these words ask for this command
pub record IsCommand (words : List (List ℕ)) (command : Command) : Type 0 where
  pub spelled : (command_row command).words words
  pub limits : (command_row command).limits

-- the words fit no form of the command line
abbrev pub FitNoForm : List (List ℕ) → Type 0
FitNoForm words = (command : Command) → ¬ IsCommand words command

-- the words ask for a command that passes a test
abbrev pub AskFor : (Command → Bool) → List (List ℕ) → Type 0
AskFor test words = (command : Command) × IsCommand words command × (test command ≡ true)
