-- The keys of a configuration: the form of each, its range and its default.
-- TOML 1.1 (keys, strings, integers, arrays of tables); the keys and limits are the bridge's own.
use Rattle.std.specs.Prelude.{ℕ, suc, pos, negsuc, ℤ, Bool, true, ◌&&◌, List, [], ◌∷◌, codes, bytes_eq, Option, Some, None, is_some}
use Rattle.std.specs.List.{list_any}
use Rattle.std.specs.Int.{is_in_range}
use Rattle.label_sets.specs.Lists.{◌>>=◌, some_passes}
use Rattle.plain_words.specs.Places.{place_in}
use Rattle.bridge_ports.specs.Targets.{most_targets}
use Rattle.toml.specs.Data.{Data, Items, no_items, item, Members, no_members, member, as_str, as_integer, as_bool, as_array, as_table}
use Rattle.bridge_config.specs.declared.key.Key.{Key}
use Rattle.bridge_config.specs.declared.key.Key.TheVariants.{Collector, Rounds, Scrapers, Keep, Tries, MaxPage, SampleLimit, Interval, Honor, Listen, Pages, Target}
use Rattle.bridge_config.specs.declared.key.Form.{Form}
use Rattle.bridge_config.specs.declared.key.Form.TheVariants.{Url, Place, Tables, Truth, Whole}

-- a key's word, and the form of its value: a URL, a host and a port, a whole number with its range and default, a truth value, which is false where it is left out, or tables
pub record KeyRow : Type 0 where
  pub word : List ℕ
  pub form : Form

-- the URL that bodies are posted to
abbrev pub collector_key : KeyRow
collector_key = record { word = codes "collector"; form = Url }

-- how often each target is visited
abbrev pub rounds_key : KeyRow
rounds_key = record { word = codes "rounds"; form = Whole 1 1000000 None }

-- how many visits go side by side
abbrev pub scrapers_key : KeyRow
scrapers_key = record { word = codes "scrapers"; form = Whole 1 4 (Some 4) }

-- over how many scrapes a series keeps its start
abbrev pub keep_key : KeyRow
keep_key = record { word = codes "keep"; form = Whole 0 4 (Some 2) }

-- how often a body is tried
abbrev pub tries_key : KeyRow
tries_key = record { word = codes "tries"; form = Whole 1 8 (Some 3) }

-- the most bytes of a page
abbrev pub max_page_key : KeyRow
max_page_key = record { word = codes "max_page"; form = Whole 1024 67108864 (Some 16777216) }

-- the most samples of a page
abbrev pub sample_limit_key : KeyRow
sample_limit_key = record { word = codes "sample_limit"; form = Whole 1 200000 (Some 20000) }

-- the milliseconds from one visit to the next
abbrev pub interval_key : KeyRow
interval_key = record { word = codes "interval_ms"; form = Whole 0 86400000 (Some 15000) }

-- whether times of pages count
abbrev pub honor_key : KeyRow
honor_key = record { word = codes "honor_timestamps"; form = Truth }

-- where the federation page is served
abbrev pub listen_key : KeyRow
listen_key = record { word = codes "listen"; form = Place }

-- how many connections are served
abbrev pub pages_key : KeyRow
pages_key = record { word = codes "pages"; form = Whole 0 1000 (Some 0) }

-- the targets
abbrev pub target_key : KeyRow
target_key = record { word = codes "target"; form = Tables }

-- the row of a key
abbrev pub key_row : Key → KeyRow
key_row Collector = collector_key
key_row Rounds = rounds_key
key_row Scrapers = scrapers_key
key_row Keep = keep_key
key_row Tries = tries_key
key_row MaxPage = max_page_key
key_row SampleLimit = sample_limit_key
key_row Interval = interval_key
key_row Honor = honor_key
key_row Listen = listen_key
key_row Pages = pages_key
key_row Target = target_key

-- all keys, in the order of the table
abbrev pub all_keys : List Key
all_keys = Collector ∷ Rounds ∷ Scrapers ∷ Keep ∷ Tries ∷ MaxPage ∷ SampleLimit ∷ Interval ∷ Honor ∷ Listen ∷ Pages ∷ Target ∷ []

-- the job of a target
abbrev pub job_word : List ℕ
job_word = codes "job"

-- the URL of a target
abbrev pub url_word : List ℕ
url_word = codes "url"

-- the keys of a target
abbrev pub target_words : List (List ℕ)
target_words = job_word ∷ url_word ∷ []

-- the word is one of these
abbrev pub is_word_of : List (List ℕ) → List ℕ → Bool
is_word_of words word = list_any (bytes_eq word) words

-- ---- values

-- the keys of a table; they stand in byte order
abbrev pub member_keys : Members → List (List ℕ)
member_keys no_members = []
member_keys (member key d ms) = key ∷ member_keys ms

-- a table
abbrev pub is_table : Data → Bool
is_table d = is_some (as_table d)

-- a text
abbrev pub is_text : Data → Bool
is_text d = is_some (as_str d)

-- each element is a table
abbrev pub are_tables : Items → Bool
are_tables no_items = true
are_tables (item d ds) = is_table d && are_tables ds

-- how many elements there are
abbrev pub item_count : Items → ℕ
item_count no_items = 0
item_count (item d ds) = suc (item_count ds)

-- an integer that isn't negative
abbrev pub natural_of : ℤ → Option ℕ
natural_of (pos n) = Some n
natural_of (negsuc n) = None

-- the whole number of a value
abbrev pub natural_in : Data → Option ℕ
natural_in d = as_integer d >>= natural_of

-- the value has the key's form
abbrev pub has_form : Form → Data → Bool
has_form Url d = is_text d
has_form Place d = is_text d
has_form (Whole least most default) d = is_some (as_integer d)
has_form Truth d = is_some (as_bool d)
has_form Tables d = some_passes are_tables (as_array d)

-- a whole number of this range
abbrev pub is_whole_in : (least most : ℕ) → Data → Bool
is_whole_in least most d = some_passes (is_in_range least most) (natural_in d)

-- the most bytes of the host of the door
abbrev pub most_door_host : ℕ
most_door_host = 255

-- a host, a colon and a port
abbrev pub is_place : Data → Bool
is_place d = some_passes (λ text. is_some (place_in most_door_host text)) (as_str d)

-- 1 to 256 elements
abbrev pub are_few : Data → Bool
are_few d = some_passes (λ items. is_in_range 1 most_targets (item_count items)) (as_array d)

-- the value of the key's form is in the key's range; a URL is judged apart, and a truth value has none
abbrev pub is_in_form : Form → Data → Bool
is_in_form Url d = true
is_in_form Place d = is_place d
is_in_form (Whole least most default) d = is_whole_in least most d
is_in_form Truth d = true
is_in_form Tables d = are_few d
