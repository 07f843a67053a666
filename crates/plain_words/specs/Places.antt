-- Visible words, and a host with a port.
-- RFC 3986, section 3.2 (host and port of an authority); the limits are the bridge's own.
use Rattle.std.specs.Prelude.{◌≡◌, ℕ, Bool, ◌&&◌, ◌==◌, IsTrue, List, ◌++◌, length, codes, Option, nat_le}
use Rattle.std.specs.List.{list_all, before_last, after_last, list_any}
use Rattle.std.specs.Int.{is_in_range}
use Rattle.std.specs.Fmt.{decimal}
use Rattle.label_sets.specs.Lists.{◌>>=◌, when_true}
use Rattle.plain_words.specs.WholeNumbers.{number_in}

-- a visible character of ASCII
abbrev pub is_visible : ℕ → Bool
is_visible c = is_in_range 0x21 0x7E c

-- a word of 1 to `most` visible characters
abbrev pub is_visible_word : ℕ → List ℕ → Bool
is_visible_word most word = nat_le 1 (length word) && nat_le (length word) most && list_all is_visible word

-- the greatest port
abbrev pub most_port : ℕ
most_port = 65535

-- a port that can be reached
abbrev pub is_port : ℕ → Bool
is_port port = is_in_range 1 most_port port

-- a host of 1 to `most` visible characters, a colon and a port
pub record IsHostAndPort (most : ℕ) (text host : List ℕ) (port : ℕ) : Type 0 where
  pub spelled : text ≡ host ++ (codes ":" ++ decimal port)
  pub host_word : IsTrue (is_visible_word most host)
  pub port_number : IsTrue (is_port port)

-- `:`
abbrev pub is_colon : ℕ → Bool
is_colon c = c == 58

-- the host and the port of a text that is a place: the last colon parts them
unfoldable pub place_in : ℕ → List ℕ → Option (List ℕ × ℕ)
place_in most text = do
  _ ← when_true (list_any is_colon text) text
  port ← number_in most_port (after_last is_colon text)
  when_true (is_visible_word most (before_last is_colon text) && is_port port) (before_last is_colon text, port)
