-- The first fault in the keys of a configuration: the faults of one class go before those of the next, and within a class
-- the keys go in the order of their table, and then the targets.
-- The bridge's own.
use Rattle.std.specs.Prelude.{ℕ, ◌==◌, Bool, true, false, not, ◌&&◌, List, [], ◌∷◌, ◌++◌, map, length, codes, Option, is_none, option_map, nat_le}
use Rattle.std.specs.Fmt.{decimal}
use Rattle.std.specs.Option.{option_or}
use Rattle.label_sets.specs.Lists.{when_true, first_some, some_passes}
use Rattle.bridge_ports.specs.Targets.{most_job_bytes}
use Rattle.toml.specs.Data.{Data, Members, get_member, as_integer}
use Rattle.bridge_config.specs.declared.key.Key as Keys
use Rattle.bridge_config.specs.declared.key.Key.TheVariants.{Collector, Rounds, Listen, Target}
use Rattle.bridge_config.specs.declared.key_class.KeyClass.{KeyClass}
use Rattle.bridge_config.specs.declared.key.Level.{Level}
use Rattle.bridge_config.specs.declared.key.Level.TheVariants.{Top, InTarget}
use Rattle.bridge_config.specs.declared.key_class.KeyClass.TheVariants as class
use Rattle.bridge_config.specs.declared.fault.ConfigFault.{ConfigFault}
use Rattle.bridge_config.specs.declared.fault.ConfigFault.TheVariants.{Unknown, Kind, Missing, Range}
use Rattle.bridge_config.specs.ConfigKeys.{key_row, all_keys, pages_key, job_word, target_words, is_word_of, member_keys, is_text, natural_of, has_form, is_in_form}
use Rattle.bridge_config.specs.Configurations.{text_at, target_tables}

-- ---- keys of the table

-- an integer that isn't 0
abbrev pub is_not_zero : Data → Bool
is_not_zero d = some_passes (λ z. not (some_passes (λ n. n == 0) (natural_of z))) (as_integer d)

-- the key is needed; an address to serve at is needed where connections are to be served
abbrev pub is_needed : Members → Keys.Key → Bool
is_needed document Collector = true
is_needed document Rounds = true
is_needed document Target = true
is_needed document Listen = some_passes is_not_zero (get_member pages_key.word document)
is_needed document _ = false

-- the key has a fault of this class
unfoldable pub is_faulty : KeyClass → Members → Keys.Key → Bool
is_faulty class.Unknown document key = false
is_faulty class.Kind document key = some_passes (λ d. not (has_form (key_row key).form d)) (get_member (key_row key).word document)
is_faulty class.Missing document key = is_needed document key && is_none (get_member (key_row key).word document)
is_faulty class.Range document key = some_passes (λ d. not (is_in_form (key_row key).form d)) (get_member (key_row key).word document)

-- the word of the key, where it has a fault of this class
abbrev pub faulty_key : KeyClass → Members → Keys.Key → Option (List ℕ)
faulty_key which document key = when_true (is_faulty which document key) (key_row key).word

-- a key that is none of these words
abbrev pub unknown_among : List (List ℕ) → List ℕ → Option (List ℕ)
unknown_among words key = when_true (not (is_word_of words key)) key

-- the words of a table's keys
abbrev pub level_words : Level → List (List ℕ)
level_words Top = map (λ (key : Keys.Key). (key_row key).word) all_keys
level_words InTarget = target_words

-- the first key with a fault of this class
unfoldable pub top_key : KeyClass → Members → Option (List ℕ)
top_key class.Unknown document = first_some (unknown_among (level_words Top)) (member_keys document)
top_key class.Kind document = first_some (faulty_key class.Kind document) all_keys
top_key class.Missing document = first_some (faulty_key class.Missing document) all_keys
top_key class.Range document = first_some (faulty_key class.Range document) all_keys

-- ---- keys of a target

-- the value of the key is there and no text
abbrev pub is_other_than_text : Members → List ℕ → Bool
is_other_than_text found word = some_passes (λ d. not (is_text d)) (get_member word found)

-- the key, where its value is no text
abbrev pub other_than_text : Members → List ℕ → Option (List ℕ)
other_than_text found word = when_true (is_other_than_text found word) word

-- the key, where it is missing
abbrev pub absent : Members → List ℕ → Option (List ℕ)
absent found word = when_true (is_none (get_member word found)) word

-- a job of 1 to 256 bytes
abbrev pub is_job : List ℕ → Bool
is_job job = nat_le 1 (length job) && nat_le (length job) most_job_bytes

-- the first key of a target's table with a fault of this class
unfoldable pub key_within : KeyClass → Members → Option (List ℕ)
key_within class.Unknown found = first_some (unknown_among (level_words InTarget)) (member_keys found)
key_within class.Kind found = first_some (other_than_text found) target_words
key_within class.Missing found = first_some (absent found) target_words
key_within class.Range found = when_true (not (is_job (text_at found job_word))) job_word

-- a key of a target, as it is printed
abbrev pub target_name : ℕ → List ℕ → List ℕ
target_name n word = codes "target " ++ (decimal n ++ (codes " " ++ word))

-- the first key of a numbered target with a fault of this class
abbrev pub target_key_in : KeyClass → ℕ × Members → Option (List ℕ)
target_key_in which found = option_map (target_name found.0) (key_within which found.1)

-- the first key of some targets with a fault of this class
abbrev pub key_among : KeyClass → List (ℕ × Members) → Option (List ℕ)
key_among which tables = first_some (target_key_in which) tables

-- ---- the four classes

-- the fault of a key
abbrev pub fault_at : KeyClass → List ℕ → ConfigFault
fault_at class.Unknown = Unknown
fault_at class.Kind = Kind
fault_at class.Missing = Missing
fault_at class.Range = Range

-- the first fault of this class
unfoldable pub class_fault : KeyClass → Members → Option ConfigFault
class_fault which document = option_map (fault_at which) (option_or (top_key which document) (key_among which (target_tables document)))

-- the classes, in their order
abbrev pub key_classes : List KeyClass
key_classes = class.Unknown ∷ class.Kind ∷ class.Missing ∷ class.Range ∷ []

-- the first fault in the keys
unfoldable pub key_fault : Members → Option ConfigFault
key_fault document = first_some (λ which. class_fault which document) key_classes
