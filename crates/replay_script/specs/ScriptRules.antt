-- Which part may stand behind which, and where a script may end.
-- The bridge's own.
use Rattle.std.specs.Prelude.{◌≡◌, ℕ, ◌^◌, ◌*◌, Bool, true, false, not, ◌&&◌, ◌==◌, List, [], ◌∷◌, length, is_some, nat_lt, nat_eq, codes, ⊤}
use Rattle.std.specs.List.{list_any, starts_with}
use Rattle.plain_words.specs.Places.{is_visible_word, is_port}
use Rattle.bridge_ports.specs.Targets.{Scraped, have_same_names, most_targets}
use Rattle.replay_script.specs.declared.script.ScriptTarget.{ScriptTarget}
use Rattle.replay_script.specs.declared.header.HeaderLine.{HeaderLine}
use Rattle.replay_script.specs.declared.header.HeaderLine.TheVariants.{Tries, Rounds}
use Rattle.replay_script.specs.HeaderLines.{place_of, header_row, is_in_row}
use Rattle.replay_script.specs.declared.ending.Ending.{Ending}
use Rattle.replay_script.specs.declared.ending.Ending.TheVariants.{ConnectFails, WriteFails, ReadFails, PeerEnds}
use Rattle.replay_script.specs.ScriptParts.{TargetLine, Part, opening, header, target, page, scrape, post}
use Rattle.replay_script.specs.ScriptContents.{header_number, written_number, target_of, targets_of}

-- a header line stands behind the opening line or an earlier line of the header
abbrev pub is_next_line : HeaderLine → List Part → Bool
is_next_line line (opening ∷ earlier) = true
is_next_line line (header other n ∷ earlier) = nat_lt (place_of other) (place_of line)
is_next_line line _ = false

-- the header is whole
abbrev pub has_rounds : List Part → Bool
has_rounds earlier = is_some (written_number earlier Rounds)

-- the target has just one scrape for each round
abbrev pub has_all_scrapes : ℕ → ScriptTarget → Bool
has_all_scrapes rounds t = length t.scrapes == rounds

-- the last target, where there is one, has all its scrapes
abbrev pub is_last_whole : ℕ → List ScriptTarget → Bool
is_last_whole rounds [] = true
is_last_whole rounds (last ∷ others) = has_all_scrapes rounds last

-- the last target has room for one post more
abbrev pub has_room_for_post : ℕ → List ScriptTarget → Bool
has_room_for_post most [] = false
has_room_for_post most (last ∷ others) = nat_lt (length last.posts) most

-- the words of a target line: a job, a place, and a path that begins with a slash
abbrev pub is_target_line : TargetLine → Bool
is_target_line t = is_visible_word 256 t.job && is_visible_word 256 t.host && is_port t.port && is_visible_word 256 t.path && starts_with nat_eq t.path (codes "/")

-- some target has the job and the instance of this one
abbrev pub has_namesake : List ScriptTarget → Scraped → Bool
has_namesake targets t = list_any (λ (other : ScriptTarget). have_same_names t other.target) targets

-- some target above has this job and this instance
abbrev pub is_named_before : List Part → TargetLine → Bool
is_named_before earlier t = has_namesake (targets_of earlier) (target_of earlier t)

-- a record's time and length are in their ranges
abbrev pub is_record : ℕ → List ℕ → Bool
is_record at bytes = nat_lt at (2 ^ 64) && nat_lt (length bytes) (2 ^ 32)

-- a talk that fails before a byte comes has none
abbrev pub fits_ending : Ending → List ℕ → Bool
fits_ending ConnectFails bytes = nat_eq (length bytes) 0
fits_ending WriteFails bytes = nat_eq (length bytes) 0
fits_ending ReadFails bytes = true
fits_ending PeerEnds bytes = true

-- some target stands above
abbrev pub has_target : List ScriptTarget → Bool
has_target [] = false
has_target (last ∷ others) = true

-- the part may stand behind the earlier ones, of which the last comes first
unfoldable pub may_stand_behind : List Part → Part → Bool
may_stand_behind [] opening = true
may_stand_behind (p ∷ earlier) opening = false
may_stand_behind earlier (header line n) = is_next_line line earlier && is_in_row (header_row line) n
may_stand_behind earlier (target t) = has_rounds earlier && is_last_whole (header_number earlier Rounds) (targets_of earlier)
    && nat_lt (length (targets_of earlier)) most_targets && is_target_line t && not (is_named_before earlier t)
may_stand_behind earlier (page at format body) = has_target (targets_of earlier) && is_record at body
may_stand_behind earlier (scrape at ending bytes) = has_target (targets_of earlier) && is_record at bytes && fits_ending ending bytes
may_stand_behind earlier (post at ending bytes) = has_room_for_post (header_number earlier Rounds * header_number earlier Tries) (targets_of earlier)
    && is_record at bytes && fits_ending ending bytes

-- a script may end behind these parts
unfoldable pub may_end : List Part → Bool
may_end earlier = has_target (targets_of earlier) && is_last_whole (header_number earlier Rounds) (targets_of earlier)

-- each part may stand behind those before it
abbrev pub AreInOrder : List Part → Type 0
AreInOrder [] = ⊤
AreInOrder (p ∷ earlier) = (may_stand_behind earlier p ≡ true) × AreInOrder earlier
