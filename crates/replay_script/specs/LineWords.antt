-- The words of a line, of which a head line has two or four.
-- The bridge's own.
use Rattle.std.specs.Prelude.{◌≡◌, ◌≢◌, ℕ, List, [], ◌∷◌, length}
use Rattle.std.specs.List.{slice_split}
use Rattle.plain_words.specs.HeadLines.{is_space}
use Rattle.replay_script.specs.declared.words.Words.{Words}
use Rattle.replay_script.specs.declared.words.Words.TheVariants.{Two, Four, Other}

-- these are the words of a line
abbrev pub AreWordsOf : List ℕ → Words → Type 0
AreWordsOf line (Two a b) = slice_split is_space line ≡ a.now ∷ b.now ∷ []
AreWordsOf line (Four a b c d) = slice_split is_space line ≡ a.now ∷ b.now ∷ c.now ∷ d.now ∷ []
AreWordsOf line Other = (length (slice_split is_space line) ≢ 2) × (length (slice_split is_space line) ≢ 4)
