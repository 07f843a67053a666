-- Small scripts with the line `honor`, by computation: what each says, or the line of its first fault.
use Rattle.std.specs.Prelude.{◌≡◌, ℕ, Bool, true, false, List, [], ◌∷◌, Ok, Err, codes, refl}
use Rattle.std.specs.Fmt.{digits}
use Rattle.plain_words.specs.WholeNumbers.{number_in}
use Rattle.plain_words.specs.Places.{place_in}
use Rattle.plain_words.specs.HeadLines.{words_at}
use Rattle.bridge_ports.specs.declared.talk.End.TheVariants.{Ended}
use Rattle.replay_script.specs.declared.script.ScriptTarget.{ScriptTarget}
use Rattle.replay_script.specs.declared.script.Script.{Script}
use Rattle.replay_script.specs.HeaderLines.{header_row}
use Rattle.replay_script.specs.ScriptParts.{part_words}
use Rattle.replay_script.specs.ScriptContents.{header_of, page_message}
use Rattle.replay_script.specs.ScriptRules.{may_stand_behind, may_end}
use Rattle.replay_script.specs.ScriptReading.{body_at, header_line_in, ending_in, format_in, header_in, target_in, record_in, record_at, target_or_record, part_with, front_part, next_part, parts_from, script_read}

-- ---- words of the cases

-- a target at a port of the host `h`, whose times of pages count or don't, with one page
abbrev page_target : Bool → List ℕ → ℕ → ScriptTarget
page_target honor instance port = record {
  target = record { job = codes "j"; instance = instance; address = record { host = codes "h"; port = port; path = codes "/m" }; honor = honor };
  scrapes = record { at = 10; got = codes "HTTP/1.1 200 OK\r\nContent-Type: text/plain; version=0.0.4\r\nContent-Length: 4\r\n\r\nx 1\n"; end = Ended } ∷ [];
  posts = [];
}

-- a script of one round
abbrev page_script : Bool → ℕ → List ScriptTarget → Script
page_script honor cut targets = record {
  header = record { keep = 2; tries = 3; limit = 20000; max_page = 16777216; cut = cut; honor = honor; rounds = 1 };
  targets = targets;
}

-- ---- the cases

-- times of pages count
honored : script_read (codes "bridge-script 1\nhonor 1\nrounds 1\ntarget j h:1 /m\npage 10 text 4\nx 1\n\n") ≡ Ok (page_script true 4096 (page_target true (codes "h:1") 1 ∷ []))
unfolding digits number_in place_in words_at header_row part_words header_of page_message may_stand_behind may_end body_at header_line_in ending_in format_in header_in target_in record_in record_at target_or_record part_with front_part next_part parts_from
honored = refl

-- they don't
not_honored : script_read (codes "bridge-script 1\nhonor 0\nrounds 1\ntarget j h:1 /m\npage 10 text 4\nx 1\n\n") ≡ Ok (page_script false 4096 (page_target false (codes "h:1") 1 ∷ []))
unfolding digits number_in place_in words_at header_row part_words header_of page_message may_stand_behind may_end body_at header_line_in ending_in format_in header_in target_in record_in record_at target_or_record part_with front_part next_part parts_from
not_honored = refl

-- nothing is said of them
honor_left_out : script_read (codes "bridge-script 1\nrounds 1\ntarget j h:1 /m\npage 10 text 4\nx 1\n\n") ≡ Ok (page_script false 4096 (page_target false (codes "h:1") 1 ∷ []))
unfolding digits number_in place_in words_at header_row part_words header_of page_message may_stand_behind may_end body_at header_line_in ending_in format_in header_in target_in record_in record_at target_or_record part_with front_part next_part parts_from
honor_left_out = refl

-- they count for each of two targets
honored_twice : script_read (codes "bridge-script 1\nhonor 1\nrounds 1\ntarget j h:1 /m\npage 10 text 4\nx 1\n\ntarget j h:2 /m\npage 10 text 4\nx 1\n\n") ≡ Ok (page_script true 4096 (page_target true (codes "h:1") 1 ∷ page_target true (codes "h:2") 2 ∷ []))
unfolding digits number_in place_in words_at header_row part_words header_of page_message may_stand_behind may_end body_at header_line_in ending_in format_in header_in target_in record_in record_at target_or_record part_with front_part next_part parts_from
honored_twice = refl

-- behind `cut`
honored_behind_cut : script_read (codes "bridge-script 1\ncut 7\nhonor 1\nrounds 1\ntarget j h:1 /m\npage 10 text 4\nx 1\n\n") ≡ Ok (page_script true 7 (page_target true (codes "h:1") 1 ∷ []))
unfolding digits number_in place_in words_at header_row part_words header_of page_message may_stand_behind may_end body_at header_line_in ending_in format_in header_in target_in record_in record_at target_or_record part_with front_part next_part parts_from
honored_behind_cut = refl

-- no flag
honor_of_two : script_read (codes "bridge-script 1\nhonor 2\nrounds 1\ntarget j h:1 /m\npage 10 text 4\nx 1\n\n") ≡ Err 2
unfolding digits number_in place_in words_at header_row part_words header_of page_message may_stand_behind may_end body_at header_line_in ending_in format_in header_in target_in record_in record_at target_or_record part_with front_part next_part parts_from
honor_of_two = refl

-- a word
honor_word : script_read (codes "bridge-script 1\nhonor true\nrounds 1\ntarget j h:1 /m\npage 10 text 4\nx 1\n\n") ≡ Err 2
unfolding digits number_in place_in words_at header_row part_words header_of page_message may_stand_behind may_end body_at header_line_in ending_in format_in header_in target_in record_in record_at target_or_record part_with front_part next_part parts_from
honor_word = refl

-- the line twice
honor_twice : script_read (codes "bridge-script 1\nhonor 1\nhonor 1\nrounds 1\ntarget j h:1 /m\npage 10 text 4\nx 1\n\n") ≡ Err 3
unfolding digits number_in place_in words_at header_row part_words header_of page_message may_stand_behind may_end body_at header_line_in ending_in format_in header_in target_in record_in record_at target_or_record part_with front_part next_part parts_from
honor_twice = refl

-- in front of `cut`
honor_before_cut : script_read (codes "bridge-script 1\nhonor 1\ncut 7\nrounds 1\ntarget j h:1 /m\npage 10 text 4\nx 1\n\n") ≡ Err 3
unfolding digits number_in place_in words_at header_row part_words header_of page_message may_stand_behind may_end body_at header_line_in ending_in format_in header_in target_in record_in record_at target_or_record part_with front_part next_part parts_from
honor_before_cut = refl

-- behind the rounds
honor_behind_rounds : script_read (codes "bridge-script 1\nrounds 1\nhonor 1\ntarget j h:1 /m\npage 10 text 4\nx 1\n\n") ≡ Err 3
unfolding digits number_in place_in words_at header_row part_words header_of page_message may_stand_behind may_end body_at header_line_in ending_in format_in header_in target_in record_in record_at target_or_record part_with front_part next_part parts_from
honor_behind_rounds = refl

-- behind a target
honor_behind_target : script_read (codes "bridge-script 1\nrounds 1\ntarget j h:1 /m\npage 10 text 4\nx 1\n\nhonor 1\n") ≡ Err 7
unfolding digits number_in place_in words_at header_row part_words header_of page_message may_stand_behind may_end body_at header_line_in ending_in format_in header_in target_in record_in record_at target_or_record part_with front_part next_part parts_from
honor_behind_target = refl

-- the line without a flag
honor_alone : script_read (codes "bridge-script 1\nhonor\nrounds 1\ntarget j h:1 /m\npage 10 text 4\nx 1\n\n") ≡ Err 2
unfolding digits number_in place_in words_at header_row part_words header_of page_message may_stand_behind may_end body_at header_line_in ending_in format_in header_in target_in record_in record_at target_or_record part_with front_part next_part parts_from
honor_alone = refl
