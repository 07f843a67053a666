-- Small configurations, by computation: what each says, or the line of its first fault.
use Rattle.std.specs.Prelude.{◌≡◌, ℕ, zero, suc, pos, Bool, true, false, List, [], ◌∷◌, Option, Some, None, Result, Ok, Err, codes, refl}
use Rattle.std.specs.Fmt.{digits}
use Rattle.toml.specs.Data.{Data, string, integer, array, table, Items, no_items, item, Members, no_members, member}
use Rattle.toml.specs.Parse.{parse_document}
use Rattle.toml.proofs.OnLiterals.{toml_on_literals}
use Rattle.url.proofs.OnLiterals.{url_on_literals}
use Rattle.plain_words.specs.WholeNumbers.{number_in}
use Rattle.plain_words.specs.Places.{place_in}
use Rattle.bridge_ports.specs.declared.talk.Address.{Address}
use Rattle.bridge_ports.specs.Targets.{Scraped}
use Rattle.bridge_ports.specs.declared.settings.Settings.{Settings}
use Rattle.bridge_config.specs.declared.config.Config.{Config}
use Rattle.bridge_config.specs.declared.fault.ConfigFault.{ConfigFault}
use Rattle.bridge_config.specs.declared.fault.ConfigFault.TheVariants.{Toml, Range}
use Rattle.bridge_config.specs.Addresses.{is_url_address, right_url}
use Rattle.bridge_config.specs.declared.key_class.KeyClass.TheVariants as class
use Rattle.bridge_config.specs.Configurations.{key_number, key_truth, text_at, target_tables, door_in, config_of}
use Rattle.bridge_config.specs.KeyFaults.{is_faulty, top_key, key_within, class_fault, key_fault}
use Rattle.bridge_config.specs.ConfigFaults.{address_fault, twice_fault, product_fault, limits_fault, config_fault}
use Rattle.bridge_config.specs.ConfigLines.{fault_words, config_line}

-- ---- words of the cases

-- the line of a fault, or the configuration
abbrev answer_from : Members → Option ConfigFault → Result Config (List ℕ)
answer_from document (Some fault) = Err (config_line fault)
answer_from document None = Ok (config_of document)

-- the same of a document, where there is one
abbrev answer_of : Option Members → Result Config (List ℕ)
answer_of None = Err (config_line Toml)
answer_of (Some document) = answer_from document (config_fault document)

-- what the bytes of a text say
abbrev config_read : List ℕ → Result Config (List ℕ)
config_read bytes = answer_of (parse_document bytes)

-- an address
abbrev address : List ℕ → ℕ → List ℕ → Address
address host port path = record { host = host; port = port; path = path }

-- a target, whose times of pages count or don't
abbrev any_target : Bool → List ℕ → List ℕ → Address → Scraped
any_target honor job instance at = record { job = job; instance = instance; address = at; honor = honor }

-- a target whose times of pages don't count
abbrev target : List ℕ → List ℕ → Address → Scraped
target = any_target false

-- how targets are followed
abbrev settings : ℕ → ℕ → ℕ → ℕ → ℕ → Settings
settings keep tries limit max_page interval = record { keep = keep; tries = tries; limit = limit; max_page = max_page; interval = interval }

-- a configuration
abbrev a_config : Settings → ℕ → ℕ → Address → Option Address → ℕ → List Scraped → Config
a_config how rounds scrapers collector door pages targets = record {
  settings = how;
  rounds = rounds;
  scrapers = scrapers;
  collector = collector;
  door = door;
  pages = pages;
  targets = targets;
}

-- ---- the cases

-- the valid configuration
case_1 : config_read (codes "collector = \"http://127.0.0.1:4318\"\nrounds = 10\nlisten = \"127.0.0.1:9464\"\n[[target]]\njob = \"node\"\nurl = \"http://127.0.0.1:9100/metrics\"\n") ≡ Ok (a_config (settings 2 3 20000 16777216 15000000000) 10 4 (address (codes "127.0.0.1") 4318 (codes "/v1/metrics")) (Some (address (codes "127.0.0.1") 9464 [])) 0 (target (codes "node") (codes "127.0.0.1:9100") (address (codes "127.0.0.1") 9100 (codes "/metrics")) ∷ []))
unfolding digits toml_on_literals url_on_literals number_in place_in is_url_address right_url config_of key_number key_truth text_at target_tables door_in is_faulty top_key key_within class_fault key_fault address_fault twice_fault product_fault limits_fault config_fault fault_words
case_1 = refl

-- an unknown key
case_2 : config_read (codes "colour = \"red\"\ncollector = \"http://127.0.0.1:4318\"\nrounds = 10\nlisten = \"127.0.0.1:9464\"\n[[target]]\njob = \"node\"\nurl = \"http://127.0.0.1:9100/metrics\"\n") ≡ Err (codes "config: unknown colour\n")
unfolding digits toml_on_literals url_on_literals number_in place_in is_url_address right_url config_of key_number key_truth text_at target_tables door_in is_faulty top_key key_within class_fault key_fault address_fault twice_fault product_fault limits_fault config_fault fault_words
case_2 = refl

-- no TOML document
case_3 : config_read (codes "collector = \nrounds = 10\n[[target]]\njob = \"node\"\nurl = \"http://127.0.0.1:9100/metrics\"\n") ≡ Err (codes "config: toml\n")
unfolding digits toml_on_literals url_on_literals number_in place_in is_url_address right_url config_of key_number key_truth text_at target_tables door_in is_faulty top_key key_within class_fault key_fault address_fault twice_fault product_fault limits_fault config_fault fault_words
case_3 = refl

-- a float of rounds
case_4 : config_read (codes "collector = \"http://127.0.0.1:4318\"\nrounds = 10.0\n[[target]]\njob = \"node\"\nurl = \"http://127.0.0.1:9100/metrics\"\n") ≡ Err (codes "config: kind rounds\n")
unfolding digits toml_on_literals url_on_literals number_in place_in is_url_address right_url config_of key_number key_truth text_at target_tables door_in is_faulty top_key key_within class_fault key_fault address_fault twice_fault product_fault limits_fault config_fault fault_words
case_4 = refl

-- no address to listen at, with pages
case_5 : config_read (codes "collector = \"http://127.0.0.1:4318\"\nrounds = 10\npages = 1\n[[target]]\njob = \"node\"\nurl = \"http://127.0.0.1:9100/metrics\"\n") ≡ Err (codes "config: missing listen\n")
unfolding digits toml_on_literals url_on_literals number_in place_in is_url_address right_url config_of key_number key_truth text_at target_tables door_in is_faulty top_key key_within class_fault key_fault address_fault twice_fault product_fault limits_fault config_fault fault_words
case_5 = refl

-- keep of 5
case_6 : config_read (codes "collector = \"http://127.0.0.1:4318\"\nrounds = 10\nkeep = 5\n[[target]]\njob = \"node\"\nurl = \"http://127.0.0.1:9100/metrics\"\n") ≡ Err (codes "config: range keep\n")
unfolding digits toml_on_literals url_on_literals number_in place_in is_url_address right_url config_of key_number key_truth text_at target_tables door_in is_faulty top_key key_within class_fault key_fault address_fault twice_fault product_fault limits_fault config_fault fault_words
case_6 = refl

-- an address without a port
case_7 : config_read (codes "collector = \"http://127.0.0.1:4318\"\nrounds = 10\nlisten = \"127.0.0.1:\"\n[[target]]\njob = \"node\"\nurl = \"http://127.0.0.1:9100/metrics\"\n") ≡ Err (codes "config: range listen\n")
unfolding digits toml_on_literals url_on_literals number_in place_in is_url_address right_url config_of key_number key_truth text_at target_tables door_in is_faulty top_key key_within class_fault key_fault address_fault twice_fault product_fault limits_fault config_fault fault_words
case_7 = refl

-- a collector with a path
case_8 : config_read (codes "collector = \"http://127.0.0.1:4318/in?a=b\"\nrounds = 10\n[[target]]\njob = \"node\"\nurl = \"http://127.0.0.1:9100/metrics\"\n") ≡ Ok (a_config (settings 2 3 20000 16777216 15000000000) 10 4 (address (codes "127.0.0.1") 4318 (codes "/in?a=b")) (None) 0 (target (codes "node") (codes "127.0.0.1:9100") (address (codes "127.0.0.1") 9100 (codes "/metrics")) ∷ []))
unfolding digits toml_on_literals url_on_literals number_in place_in is_url_address right_url config_of key_number key_truth text_at target_tables door_in is_faulty top_key key_within class_fault key_fault address_fault twice_fault product_fault limits_fault config_fault fault_words
case_8 = refl

-- a target with port 0
case_9 : config_read (codes "collector = \"http://127.0.0.1:4318\"\nrounds = 10\n[[target]]\njob = \"node\"\nurl = \"http://127.0.0.1:0/\"\n") ≡ Err (codes "config: address 1\n")
unfolding digits toml_on_literals url_on_literals number_in place_in is_url_address right_url config_of key_number key_truth text_at target_tables door_in is_faulty top_key key_within class_fault key_fault address_fault twice_fault product_fault limits_fault config_fault fault_words
case_9 = refl

-- a target with a query
case_10 : config_read (codes "collector = \"http://127.0.0.1:4318\"\nrounds = 10\n[[target]]\njob = \"node\"\nurl = \"http://127.0.0.1/m?a=1\"\n") ≡ Ok (a_config (settings 2 3 20000 16777216 15000000000) 10 4 (address (codes "127.0.0.1") 4318 (codes "/v1/metrics")) (None) 0 (target (codes "node") (codes "127.0.0.1:80") (address (codes "127.0.0.1") 80 (codes "/m?a=1")) ∷ []))
unfolding digits toml_on_literals url_on_literals number_in place_in is_url_address right_url config_of key_number key_truth text_at target_tables door_in is_faulty top_key key_within class_fault key_fault address_fault twice_fault product_fault limits_fault config_fault fault_words
case_10 = refl

-- one job and one instance twice
case_11 : config_read (codes "collector = \"http://127.0.0.1:4318\"\nrounds = 10\n[[target]]\njob = \"node\"\nurl = \"http://127.0.0.1:9100/metrics\"\n[[target]]\njob = \"node\"\nurl = \"http://127.0.0.1:9100/metrics\"\n") ≡ Err (codes "config: twice 2\n")
unfolding digits toml_on_literals url_on_literals number_in place_in is_url_address right_url config_of key_number key_truth text_at target_tables door_in is_faulty top_key key_within class_fault key_fault address_fault twice_fault product_fault limits_fault config_fault fault_words
case_11 = refl

-- two scrapers and the largest pages
case_12 : config_read (codes "collector = \"http://127.0.0.1:4318\"\nrounds = 10\nscrapers = 2\nmax_page = 67108864\n[[target]]\njob = \"node\"\nurl = \"http://127.0.0.1:9100/metrics\"\n") ≡ Ok (a_config (settings 2 3 20000 67108864 15000000000) 10 2 (address (codes "127.0.0.1") 4318 (codes "/v1/metrics")) (None) 0 (target (codes "node") (codes "127.0.0.1:9100") (address (codes "127.0.0.1") 9100 (codes "/metrics")) ∷ []))
unfolding digits toml_on_literals url_on_literals number_in place_in is_url_address right_url config_of key_number key_truth text_at target_tables door_in is_faulty top_key key_within class_fault key_fault address_fault twice_fault product_fault limits_fault config_fault fault_words
case_12 = refl

-- eleven targets and more samples than fit
case_13 : config_read (codes "collector = \"http://127.0.0.1:4318\"\nrounds = 10\nsample_limit = 181819\n[[target]]\njob = \"j\"\nurl = \"http://h:1/\"\n[[target]]\njob = \"j\"\nurl = \"http://h:2/\"\n[[target]]\njob = \"j\"\nurl = \"http://h:3/\"\n[[target]]\njob = \"j\"\nurl = \"http://h:4/\"\n[[target]]\njob = \"j\"\nurl = \"http://h:5/\"\n[[target]]\njob = \"j\"\nurl = \"http://h:6/\"\n[[target]]\njob = \"j\"\nurl = \"http://h:7/\"\n[[target]]\njob = \"j\"\nurl = \"http://h:8/\"\n[[target]]\njob = \"j\"\nurl = \"http://h:9/\"\n[[target]]\njob = \"j\"\nurl = \"http://h:10/\"\n[[target]]\njob = \"j\"\nurl = \"http://h:11/\"\n") ≡ Err (codes "config: product samples\n")
unfolding digits toml_on_literals url_on_literals number_in place_in is_url_address right_url config_of key_number key_truth text_at target_tables door_in is_faulty top_key key_within class_fault key_fault address_fault twice_fault product_fault limits_fault config_fault fault_words
case_13 = refl

-- eleven targets and as many samples as fit
case_14 : config_read (codes "collector = \"http://127.0.0.1:4318\"\nrounds = 10\nsample_limit = 181818\n[[target]]\njob = \"j\"\nurl = \"http://h:1/\"\n[[target]]\njob = \"j\"\nurl = \"http://h:2/\"\n[[target]]\njob = \"j\"\nurl = \"http://h:3/\"\n[[target]]\njob = \"j\"\nurl = \"http://h:4/\"\n[[target]]\njob = \"j\"\nurl = \"http://h:5/\"\n[[target]]\njob = \"j\"\nurl = \"http://h:6/\"\n[[target]]\njob = \"j\"\nurl = \"http://h:7/\"\n[[target]]\njob = \"j\"\nurl = \"http://h:8/\"\n[[target]]\njob = \"j\"\nurl = \"http://h:9/\"\n[[target]]\njob = \"j\"\nurl = \"http://h:10/\"\n[[target]]\njob = \"j\"\nurl = \"http://h:11/\"\n") ≡ Ok (a_config (settings 2 3 181818 16777216 15000000000) 10 4 (address (codes "127.0.0.1") 4318 (codes "/v1/metrics")) (None) 0 (target (codes "j") (codes "h:1") (address (codes "h") 1 (codes "/")) ∷ target (codes "j") (codes "h:2") (address (codes "h") 2 (codes "/")) ∷ target (codes "j") (codes "h:3") (address (codes "h") 3 (codes "/")) ∷ target (codes "j") (codes "h:4") (address (codes "h") 4 (codes "/")) ∷ target (codes "j") (codes "h:5") (address (codes "h") 5 (codes "/")) ∷ target (codes "j") (codes "h:6") (address (codes "h") 6 (codes "/")) ∷ target (codes "j") (codes "h:7") (address (codes "h") 7 (codes "/")) ∷ target (codes "j") (codes "h:8") (address (codes "h") 8 (codes "/")) ∷ target (codes "j") (codes "h:9") (address (codes "h") 9 (codes "/")) ∷ target (codes "j") (codes "h:10") (address (codes "h") 10 (codes "/")) ∷ target (codes "j") (codes "h:11") (address (codes "h") 11 (codes "/")) ∷ []))
unfolding digits toml_on_literals url_on_literals number_in place_in is_url_address right_url config_of key_number key_truth text_at target_tables door_in is_faulty top_key key_within class_fault key_fault address_fault twice_fault product_fault limits_fault config_fault fault_words
case_14 = refl

-- ---- times of pages

-- times of pages count
honored : config_read (codes "collector = \"http://127.0.0.1:4318\"\nrounds = 10\nhonor_timestamps = true\n[[target]]\njob = \"node\"\nurl = \"http://127.0.0.1:9100/metrics\"\n") ≡ Ok (a_config (settings 2 3 20000 16777216 15000000000) 10 4 (address (codes "127.0.0.1") 4318 (codes "/v1/metrics")) (None) 0 (any_target true (codes "node") (codes "127.0.0.1:9100") (address (codes "127.0.0.1") 9100 (codes "/metrics")) ∷ []))
unfolding digits toml_on_literals url_on_literals number_in place_in is_url_address right_url config_of key_number key_truth text_at target_tables door_in is_faulty top_key key_within class_fault key_fault address_fault twice_fault product_fault limits_fault config_fault fault_words
honored = refl

-- they don't
not_honored : config_read (codes "collector = \"http://127.0.0.1:4318\"\nrounds = 10\nhonor_timestamps = false\n[[target]]\njob = \"node\"\nurl = \"http://127.0.0.1:9100/metrics\"\n") ≡ Ok (a_config (settings 2 3 20000 16777216 15000000000) 10 4 (address (codes "127.0.0.1") 4318 (codes "/v1/metrics")) (None) 0 (any_target false (codes "node") (codes "127.0.0.1:9100") (address (codes "127.0.0.1") 9100 (codes "/metrics")) ∷ []))
unfolding digits toml_on_literals url_on_literals number_in place_in is_url_address right_url config_of key_number key_truth text_at target_tables door_in is_faulty top_key key_within class_fault key_fault address_fault twice_fault product_fault limits_fault config_fault fault_words
not_honored = refl

-- they count for each of two targets
honored_twice : config_read (codes "collector = \"http://127.0.0.1:4318\"\nrounds = 10\nhonor_timestamps = true\n[[target]]\njob = \"node\"\nurl = \"http://127.0.0.1:9100/metrics\"\n[[target]]\njob = \"node\"\nurl = \"http://127.0.0.1:9101/metrics\"\n") ≡ Ok (a_config (settings 2 3 20000 16777216 15000000000) 10 4 (address (codes "127.0.0.1") 4318 (codes "/v1/metrics")) (None) 0 (any_target true (codes "node") (codes "127.0.0.1:9100") (address (codes "127.0.0.1") 9100 (codes "/metrics")) ∷ any_target true (codes "node") (codes "127.0.0.1:9101") (address (codes "127.0.0.1") 9101 (codes "/metrics")) ∷ []))
unfolding digits toml_on_literals url_on_literals number_in place_in is_url_address right_url config_of key_number key_truth text_at target_tables door_in is_faulty top_key key_within class_fault key_fault address_fault twice_fault product_fault limits_fault config_fault fault_words
honored_twice = refl

-- a number is no truth value
honor_number : config_read (codes "collector = \"http://127.0.0.1:4318\"\nrounds = 10\nhonor_timestamps = 1\n[[target]]\njob = \"node\"\nurl = \"http://127.0.0.1:9100/metrics\"\n") ≡ Err (codes "config: kind honor_timestamps\n")
unfolding digits toml_on_literals url_on_literals number_in place_in is_url_address right_url config_of key_number key_truth text_at target_tables door_in is_faulty top_key key_within class_fault key_fault address_fault twice_fault product_fault limits_fault config_fault fault_words
honor_number = refl

-- nor is a text
honor_text : config_read (codes "collector = \"http://127.0.0.1:4318\"\nrounds = 10\nhonor_timestamps = \"true\"\n[[target]]\njob = \"node\"\nurl = \"http://127.0.0.1:9100/metrics\"\n") ≡ Err (codes "config: kind honor_timestamps\n")
unfolding digits toml_on_literals url_on_literals number_in place_in is_url_address right_url config_of key_number key_truth text_at target_tables door_in is_faulty top_key key_within class_fault key_fault address_fault twice_fault product_fault limits_fault config_fault fault_words
honor_text = refl

-- nor is an array
honor_array : config_read (codes "collector = \"http://127.0.0.1:4318\"\nrounds = 10\nhonor_timestamps = [true]\n[[target]]\njob = \"node\"\nurl = \"http://127.0.0.1:9100/metrics\"\n") ≡ Err (codes "config: kind honor_timestamps\n")
unfolding digits toml_on_literals url_on_literals number_in place_in is_url_address right_url config_of key_number key_truth text_at target_tables door_in is_faulty top_key key_within class_fault key_fault address_fault twice_fault product_fault limits_fault config_fault fault_words
honor_array = refl

-- behind the interval
honor_behind_interval : config_read (codes "collector = \"http://127.0.0.1:4318\"\nrounds = 10\nhonor_timestamps = 1\ninterval_ms = \"1\"\n[[target]]\njob = \"node\"\nurl = \"http://127.0.0.1:9100/metrics\"\n") ≡ Err (codes "config: kind interval_ms\n")
unfolding digits toml_on_literals url_on_literals number_in place_in is_url_address right_url config_of key_number key_truth text_at target_tables door_in is_faulty top_key key_within class_fault key_fault address_fault twice_fault product_fault limits_fault config_fault fault_words
honor_behind_interval = refl

-- before the address to listen at
honor_before_listen : config_read (codes "collector = \"http://127.0.0.1:4318\"\nrounds = 10\nlisten = 1\nhonor_timestamps = 1\n[[target]]\njob = \"node\"\nurl = \"http://127.0.0.1:9100/metrics\"\n") ≡ Err (codes "config: kind honor_timestamps\n")
unfolding digits toml_on_literals url_on_literals number_in place_in is_url_address right_url config_of key_number key_truth text_at target_tables door_in is_faulty top_key key_within class_fault key_fault address_fault twice_fault product_fault limits_fault config_fault fault_words
honor_before_listen = refl

-- a target has no such key
honor_of_a_target : config_read (codes "collector = \"http://127.0.0.1:4318\"\nrounds = 10\n[[target]]\njob = \"node\"\nurl = \"http://127.0.0.1:9100/metrics\"\nhonor_timestamps = true\n") ≡ Err (codes "config: unknown target 1 honor_timestamps\n")
unfolding digits toml_on_literals url_on_literals number_in place_in is_url_address right_url config_of key_number key_truth text_at target_tables door_in is_faulty top_key key_within class_fault key_fault address_fault twice_fault product_fault limits_fault config_fault fault_words
honor_of_a_target = refl

-- ---- many targets

-- so many times one element
abbrev copies : ℕ → Data → Items
copies zero d = no_items
copies (suc n) d = item d (copies n d)

-- a document with so many targets
abbrev large : ℕ → Members
large n = member (codes "collector") (string (codes "http://h/")) (member (codes "rounds") (integer (pos 1))
    (member (codes "target") (array (copies n (table (member (codes "job") (string (codes "j")) (member (codes "url") (string (codes "http://h:1/")) no_members))))) no_members))

-- 257 targets
many_1 : config_fault (large 257) ≡ Some (Range (codes "target"))
unfolding digits toml_on_literals url_on_literals number_in place_in is_url_address right_url config_of key_number key_truth text_at target_tables door_in is_faulty top_key key_within class_fault key_fault address_fault twice_fault product_fault limits_fault config_fault fault_words
many_1 = refl

-- 256 targets
many_2 : class_fault class.Range (large 256) ≡ None
unfolding digits toml_on_literals url_on_literals number_in place_in is_url_address right_url config_of key_number key_truth text_at target_tables door_in is_faulty top_key key_within class_fault key_fault address_fault twice_fault product_fault limits_fault config_fault fault_words
many_2 = refl
