-- What the steps through the words tell: words of this crate's own functions. The bridge's own.
use Rattle.std.specs.Prelude.{◌≡◌, ◌≢◌, ℕ, Bool, true, false, ◌&&◌, nat_le, List, [], ◌∷◌, ◌++◌, length, codes, Option, None, is_some, ⊤}
use Rattle.std.specs.List.{list_all}
use Rattle.std.specs.Str.{bytes_eq}
use Rattle.series_select.specs.SelectorReading.{selector_in}
use Rattle.program_words.specs.declared.words.Command.{Command}
use Rattle.program_words.specs.declared.words.Command.TheVariants.{Replay}
use Rattle.program_words.specs.CommandWords.{IsCommand, AreScrapers, SaysScrapers, word_if}
use Rattle.program_words.specs.Limits.{most_selectors}

-- the command is a replay
abbrev pub is_replay : Command → Bool
is_replay (Replay scrapers page) = true
is_replay _ = false

-- the words fit no form but, maybe, one of a replay
abbrev pub FitNoOther : List (List ℕ) → Type 0
FitNoOther words = (command : Command) → is_replay command ≡ false → ¬ IsCommand words command

-- the words do not begin with `replay`
abbrev pub AskForNoReplay : List (List ℕ) → Type 0
AskForNoReplay words = (behind : List (List ℕ)) → words ≢ codes "replay" ∷ behind

-- the word is a selector
abbrev pub is_selector : List ℕ → Bool
is_selector word = is_some (selector_in word)

-- no words, or those of a page
abbrev pub are_page_words : List (List ℕ) → Bool
are_page_words [] = true
are_page_words (word ∷ texts) = bytes_eq word (codes "page") && (nat_le (length texts) most_selectors && list_all is_selector texts)

-- the words do not begin with a number of scrapers
abbrev pub SayNoScrapers : List (List ℕ) → Type 0
SayNoScrapers [] = ⊤
SayNoScrapers (word ∷ words) = (n : ℕ) → ¬ SaysScrapers word n

-- the words behind `replay` are a number of scrapers, where they begin with one, and the rest
pub record AreCutAt (words : List (List ℕ)) (scrapers : Option ℕ) (rest : List (List ℕ)) : Type 0 where
  pub spelled : words ≡ word_if scrapers ++ rest
  pub limits : AreScrapers scrapers
  pub no_more : scrapers ≡ None → SayNoScrapers rest
