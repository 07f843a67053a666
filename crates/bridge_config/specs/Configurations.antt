-- What a configuration says.
-- TOML 1.1; the keys are the bridge's own.
use Rattle.std.specs.Prelude.{◌≡◌, ℕ, ◌+◌, ◌*◌, ◌^◌, Bool, false, List, [], ◌∷◌, ◌++◌, map, codes, Option, Some, None, option_map, unwrap_or, IsUtf8}
use Rattle.std.specs.Fmt.{decimal}
use Rattle.label_sets.specs.Lists.{◌>>=◌}
use Rattle.plain_words.specs.Places.{place_in}
use Rattle.bridge_ports.specs.declared.talk.Address.{Address}
use Rattle.bridge_ports.specs.Targets.{Scraped}
use Rattle.toml.specs.Data.{Items, no_items, item, Members, get_member, as_str, as_bool, as_array, as_table}
use Rattle.toml.specs.Parse.{parse_document}
use Rattle.bridge_config.specs.declared.config.Config.{Config}
use Rattle.bridge_config.specs.declared.key.Form.{Form}
use Rattle.bridge_config.specs.declared.key.Form.TheVariants.{Whole}
use Rattle.bridge_config.specs.ConfigKeys.{KeyRow, collector_key, rounds_key, scrapers_key, keep_key, tries_key, max_page_key, sample_limit_key, interval_key, honor_key, listen_key, pages_key, target_key, job_word, url_word, natural_in, most_door_host}
use Rattle.bridge_config.specs.Addresses.{right_url, address_of, collector_of}

-- the bytes are this TOML document
pub record IsDocument (bytes : List ℕ) (document : Members) : Type 0 where
  pub utf8 : IsUtf8 bytes
  pub parsed : parse_document bytes ≡ Some document

-- ---- values of keys

-- the default of a key
abbrev pub default_of : Form → Option ℕ
default_of (Whole least most default) = default
default_of _ = None

-- the number of a key, or its default
unfoldable pub key_number : Members → KeyRow → ℕ
key_number document row = unwrap_or (get_member row.word document >>= natural_in) (unwrap_or (default_of row.form) 0)

-- the truth value of a key, false where it is left out
unfoldable pub key_truth : Members → KeyRow → Bool
key_truth document row = unwrap_or (get_member row.word document >>= as_bool) false

-- the text of a key
unfoldable pub text_at : Members → List ℕ → List ℕ
text_at ms word = unwrap_or (get_member word ms >>= as_str) []

-- an element with its number in front of others, where it is a table
abbrev pub with_table : ℕ → Option Members → List (ℕ × Members) → List (ℕ × Members)
with_table n (Some ms) others = (n, ms) ∷ others
with_table n None others = others

-- the elements that are tables, with their numbers
abbrev pub numbered_tables : ℕ → Items → List (ℕ × Members)
numbered_tables n no_items = []
numbered_tables n (item d ds) = with_table n (as_table d) (numbered_tables (n + 1) ds)

-- the array of `target`
abbrev pub found_items : Members → Option Items
found_items document = get_member target_key.word document >>= as_array

-- the elements of `target`
abbrev pub target_items : Members → Items
target_items document = unwrap_or (found_items document) no_items

-- the elements of `target` that are tables, with their numbers from 1
unfoldable pub target_tables : Members → List (ℕ × Members)
target_tables document = numbered_tables 1 (target_items document)

-- ---- what they say

-- no address
abbrev pub no_address : Address
no_address = record { host = []; port = 0; path = [] }

-- the address of a URL's text
abbrev pub address_in : List ℕ → Address
address_in text = unwrap_or (option_map address_of (right_url text)) no_address

-- where bodies are posted
abbrev pub collector_in : Members → Address
collector_in document = unwrap_or (option_map collector_of (right_url (text_at document collector_key.word))) no_address

-- the instance of an address
abbrev pub instance_of : Address → List ℕ
instance_of a = a.host ++ (codes ":" ++ decimal a.port)

-- the target of a job and an address, whose times of pages count or don't
abbrev pub target_at : Bool → List ℕ → Address → Scraped
target_at honor job address = record { job = job; instance = instance_of address; address = address; honor = honor }

-- the target of a table
abbrev pub table_target : Bool → ℕ × Members → Scraped
table_target honor found = target_at honor (text_at found.1 job_word) (address_in (text_at found.1 url_word))

-- the address of a host and a port
abbrev pub place_address : List ℕ × ℕ → Address
place_address found = record { host = found.0; port = found.1; path = [] }

-- the address at which the federation page is served, where there is one
unfoldable pub door_in : Members → Option Address
door_in document = option_map place_address (get_member listen_key.word document >>= as_str >>= place_in most_door_host)

-- the configuration of a document
unfoldable pub config_of : Members → Config
config_of document = record {
  settings = record {
    keep = key_number document keep_key;
    tries = key_number document tries_key;
    limit = key_number document sample_limit_key;
    max_page = key_number document max_page_key;
    interval = key_number document interval_key * 10 ^ 6;
  };
  rounds = key_number document rounds_key;
  scrapers = key_number document scrapers_key;
  collector = collector_in document;
  door = door_in document;
  pages = key_number document pages_key;
  targets = map (table_target (key_truth document honor_key)) (target_tables document);
}
