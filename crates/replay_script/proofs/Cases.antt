-- Small scripts, by computation: what each says, or the line of its first fault.
use Rattle.std.specs.Prelude.{◌≡◌, ℕ, false, List, [], ◌∷◌, ◌++◌, Ok, Err, codes, refl}
use Rattle.std.specs.Fmt.{digits}
use Rattle.plain_words.specs.WholeNumbers.{number_in}
use Rattle.plain_words.specs.Places.{place_in}
use Rattle.plain_words.specs.HeadLines.{words_at}
use Rattle.bridge_ports.specs.declared.talk.End.{End}
use Rattle.bridge_ports.specs.declared.talk.End.TheVariants.{ConnectFailed, WriteFailed, ReadFailed, Ended}
use Rattle.bridge_ports.specs.declared.talk.MemoryReply.{MemoryReply}
use Rattle.replay_script.specs.declared.script.ScriptTarget.{ScriptTarget}
use Rattle.replay_script.specs.declared.script.Script.{Script}
use Rattle.replay_script.specs.HeaderLines.{header_row}
use Rattle.replay_script.specs.ScriptParts.{part_words}
use Rattle.replay_script.specs.ScriptContents.{header_of, page_message}
use Rattle.replay_script.specs.ScriptRules.{may_stand_behind, may_end}
use Rattle.replay_script.specs.ScriptReading.{body_at, header_line_in, ending_in, format_in, header_in, target_in, record_in, record_at, target_or_record, part_with, front_part, next_part, parts_from, script_read}

-- ---- words of the cases

-- a reply
abbrev reply : ℕ → List ℕ → End → MemoryReply
reply at got end = record { at = at; got = got; end = end }

-- a target with its replies
abbrev one_target : List ℕ → List ℕ → List ℕ → ℕ → List ℕ → List MemoryReply → List MemoryReply → ScriptTarget
one_target job instance host port path scrapes posts = record {
  target = record { job = job; instance = instance; address = record { host = host; port = port; path = path }; honor = false };
  scrapes = scrapes;
  posts = posts;
}

-- a script
abbrev a_script : ℕ → ℕ → ℕ → ℕ → ℕ → ℕ → List ScriptTarget → Script
a_script keep tries limit max_page cut rounds targets = record {
  header = record { keep = keep; tries = tries; limit = limit; max_page = max_page; cut = cut; honor = false; rounds = rounds };
  targets = targets;
}

-- ---- the cases

-- the script with a counter that falls
case_1 : script_read (codes "bridge-script 1\nrounds 4\ntarget j h:1 /metrics\npage 10 text 21\n# TYPE c counter\nc 5\n\npage 20 text 21\n# TYPE c counter\nc 7\n\npage 30 text 21\n# TYPE c counter\nc 3\n\npage 40 text 21\n# TYPE c counter\nc 4\n\n") ≡ Ok (a_script 2 3 20000 16777216 4096 4 (one_target (codes "j") (codes "h:1") (codes "h") 1 (codes "/metrics") (reply 10 (codes "HTTP/1.1 200 OK\r\nContent-Type: text/plain; version=0.0.4\r\nContent-Length: 21\r\n\r\n# TYPE c counter\nc 5\n") Ended ∷ reply 20 (codes "HTTP/1.1 200 OK\r\nContent-Type: text/plain; version=0.0.4\r\nContent-Length: 21\r\n\r\n# TYPE c counter\nc 7\n") Ended ∷ reply 30 (codes "HTTP/1.1 200 OK\r\nContent-Type: text/plain; version=0.0.4\r\nContent-Length: 21\r\n\r\n# TYPE c counter\nc 3\n") Ended ∷ reply 40 (codes "HTTP/1.1 200 OK\r\nContent-Type: text/plain; version=0.0.4\r\nContent-Length: 21\r\n\r\n# TYPE c counter\nc 4\n") Ended ∷ []) ([]) ∷ []))
unfolding digits number_in place_in words_at header_row part_words header_of page_message may_stand_behind may_end body_at header_line_in ending_in format_in header_in target_in record_in record_at target_or_record part_with front_part next_part parts_from
case_1 = refl

-- no bytes
case_2 : script_read [] ≡ Err 1
unfolding digits number_in place_in words_at header_row part_words header_of page_message may_stand_behind may_end body_at header_line_in ending_in format_in header_in target_in record_in record_at target_or_record part_with front_part next_part parts_from
case_2 = refl

-- the opening line alone
case_3 : script_read (codes "bridge-script 1\n") ≡ Err 2
unfolding digits number_in place_in words_at header_row part_words header_of page_message may_stand_behind may_end body_at header_line_in ending_in format_in header_in target_in record_in record_at target_or_record part_with front_part next_part parts_from
case_3 = refl

-- a header without a target
case_4 : script_read (codes "bridge-script 1\nrounds 1\n") ≡ Err 3
unfolding digits number_in place_in words_at header_row part_words header_of page_message may_stand_behind may_end body_at header_line_in ending_in format_in header_in target_in record_in record_at target_or_record part_with front_part next_part parts_from
case_4 = refl

-- a target without its scrapes
case_5 : script_read (codes "bridge-script 1\nrounds 1\ntarget j h:1 /m\n") ≡ Err 4
unfolding digits number_in place_in words_at header_row part_words header_of page_message may_stand_behind may_end body_at header_line_in ending_in format_in header_in target_in record_in record_at target_or_record part_with front_part next_part parts_from
case_5 = refl

-- one target, one page
case_6 : script_read (codes "bridge-script 1\nrounds 1\ntarget j h:1 /m\npage 10 text 4\nx 1\n\n") ≡ Ok (a_script 2 3 20000 16777216 4096 1 (one_target (codes "j") (codes "h:1") (codes "h") 1 (codes "/m") (reply 10 (codes "HTTP/1.1 200 OK\r\nContent-Type: text/plain; version=0.0.4\r\nContent-Length: 4\r\n\r\nx 1\n") Ended ∷ []) ([]) ∷ []))
unfolding digits number_in place_in words_at header_row part_words header_of page_message may_stand_behind may_end body_at header_line_in ending_in format_in header_in target_in record_in record_at target_or_record part_with front_part next_part parts_from
case_6 = refl

-- an empty page
case_7 : script_read (codes "bridge-script 1\nrounds 1\ntarget j h:1 /m\npage 0 text 0\n\n") ≡ Ok (a_script 2 3 20000 16777216 4096 1 (one_target (codes "j") (codes "h:1") (codes "h") 1 (codes "/m") (reply 0 (codes "HTTP/1.1 200 OK\r\nContent-Type: text/plain; version=0.0.4\r\nContent-Length: 0\r\n\r\n") Ended ∷ []) ([]) ∷ []))
unfolding digits number_in place_in words_at header_row part_words header_of page_message may_stand_behind may_end body_at header_line_in ending_in format_in header_in target_in record_in record_at target_or_record part_with front_part next_part parts_from
case_7 = refl

-- an OpenMetrics page
case_8 : script_read (codes "bridge-script 1\nrounds 1\ntarget j h:1 /m\npage 7 openmetrics 6\n# EOF\n\n") ≡ Ok (a_script 2 3 20000 16777216 4096 1 (one_target (codes "j") (codes "h:1") (codes "h") 1 (codes "/m") (reply 7 (codes "HTTP/1.1 200 OK\r\nContent-Type: application/openmetrics-text; version=1.0.0; charset=utf-8\r\nContent-Length: 6\r\n\r\n# EOF\n") Ended ∷ []) ([]) ∷ []))
unfolding digits number_in place_in words_at header_row part_words header_of page_message may_stand_behind may_end body_at header_line_in ending_in format_in header_in target_in record_in record_at target_or_record part_with front_part next_part parts_from
case_8 = refl

-- raw replies of all endings
case_9 : script_read (codes "bridge-script 1\ntries 1\nrounds 4\ntarget j h:1 /m\nscrape 1 connect 0\n\nscrape 2 write 0\n\nscrape 3 read 3\nabc\nscrape 4 ended 2\n\r\n\n") ≡ Ok (a_script 2 1 20000 16777216 4096 4 (one_target (codes "j") (codes "h:1") (codes "h") 1 (codes "/m") (reply 1 [] ConnectFailed ∷ reply 2 [] WriteFailed ∷ reply 3 (codes "abc") ReadFailed ∷ reply 4 (codes "\r\n") Ended ∷ []) ([]) ∷ []))
unfolding digits number_in place_in words_at header_row part_words header_of page_message may_stand_behind may_end body_at header_line_in ending_in format_in header_in target_in record_in record_at target_or_record part_with front_part next_part parts_from
case_9 = refl

-- posts between scrapes
case_10 : script_read (codes "bridge-script 1\ntries 2\nrounds 1\ntarget j h:1 /m\npost 5 connect 0\n\npage 10 text 4\nx 1\n\npost 6 ended 1\nx\n") ≡ Ok (a_script 2 2 20000 16777216 4096 1 (one_target (codes "j") (codes "h:1") (codes "h") 1 (codes "/m") (reply 10 (codes "HTTP/1.1 200 OK\r\nContent-Type: text/plain; version=0.0.4\r\nContent-Length: 4\r\n\r\nx 1\n") Ended ∷ []) (reply 5 [] ConnectFailed ∷ reply 6 (codes "x") Ended ∷ []) ∷ []))
unfolding digits number_in place_in words_at header_row part_words header_of page_message may_stand_behind may_end body_at header_line_in ending_in format_in header_in target_in record_in record_at target_or_record part_with front_part next_part parts_from
case_10 = refl

-- all header lines
case_11 : script_read (codes "bridge-script 1\nkeep 0\ntries 8\nlimit 200000\nmaxpage 67108864\ncut 65536\nrounds 1\ntarget j h:1 /m\npage 10 text 4\nx 1\n\n") ≡ Ok (a_script 0 8 200000 67108864 65536 1 (one_target (codes "j") (codes "h:1") (codes "h") 1 (codes "/m") (reply 10 (codes "HTTP/1.1 200 OK\r\nContent-Type: text/plain; version=0.0.4\r\nContent-Length: 4\r\n\r\nx 1\n") Ended ∷ []) ([]) ∷ []))
unfolding digits number_in place_in words_at header_row part_words header_of page_message may_stand_behind may_end body_at header_line_in ending_in format_in header_in target_in record_in record_at target_or_record part_with front_part next_part parts_from
case_11 = refl

-- the least of all header lines
case_12 : script_read (codes "bridge-script 1\nkeep 4\ntries 1\nlimit 1\nmaxpage 1024\ncut 1\nrounds 1\ntarget j h:1 /m\npage 10 text 4\nx 1\n\n") ≡ Ok (a_script 4 1 1 1024 1 1 (one_target (codes "j") (codes "h:1") (codes "h") 1 (codes "/m") (reply 10 (codes "HTTP/1.1 200 OK\r\nContent-Type: text/plain; version=0.0.4\r\nContent-Length: 4\r\n\r\nx 1\n") Ended ∷ []) ([]) ∷ []))
unfolding digits number_in place_in words_at header_row part_words header_of page_message may_stand_behind may_end body_at header_line_in ending_in format_in header_in target_in record_in record_at target_or_record part_with front_part next_part parts_from
case_12 = refl

-- two targets in order
case_13 : script_read (codes "bridge-script 1\nrounds 1\ntarget j h:1 /m\npage 10 text 4\nx 1\n\ntarget j h:2 /m\npage 20 text 4\nx 1\n\n") ≡ Ok (a_script 2 3 20000 16777216 4096 1 (one_target (codes "j") (codes "h:1") (codes "h") 1 (codes "/m") (reply 10 (codes "HTTP/1.1 200 OK\r\nContent-Type: text/plain; version=0.0.4\r\nContent-Length: 4\r\n\r\nx 1\n") Ended ∷ []) ([]) ∷ one_target (codes "j") (codes "h:2") (codes "h") 2 (codes "/m") (reply 20 (codes "HTTP/1.1 200 OK\r\nContent-Type: text/plain; version=0.0.4\r\nContent-Length: 4\r\n\r\nx 1\n") Ended ∷ []) ([]) ∷ []))
unfolding digits number_in place_in words_at header_row part_words header_of page_message may_stand_behind may_end body_at header_line_in ending_in format_in header_in target_in record_in record_at target_or_record part_with front_part next_part parts_from
case_13 = refl

-- a host with colons
case_14 : script_read (codes "bridge-script 1\nrounds 1\ntarget j a:b:80 /\npage 10 text 4\nx 1\n\n") ≡ Ok (a_script 2 3 20000 16777216 4096 1 (one_target (codes "j") (codes "a:b:80") (codes "a:b") 80 (codes "/") (reply 10 (codes "HTTP/1.1 200 OK\r\nContent-Type: text/plain; version=0.0.4\r\nContent-Length: 4\r\n\r\nx 1\n") Ended ∷ []) ([]) ∷ []))
unfolding digits number_in place_in words_at header_row part_words header_of page_message may_stand_behind may_end body_at header_line_in ending_in format_in header_in target_in record_in record_at target_or_record part_with front_part next_part parts_from
case_14 = refl

-- a page of any bytes
case_15 : script_read (codes "bridge-script 1\nrounds 1\ntarget j h:1 /m\npage 1 text 2\n" ++ (0 ∷ []) ++ (255 ∷ []) ++ codes "\n") ≡ Ok (a_script 2 3 20000 16777216 4096 1 (one_target (codes "j") (codes "h:1") (codes "h") 1 (codes "/m") (reply 1 (codes "HTTP/1.1 200 OK\r\nContent-Type: text/plain; version=0.0.4\r\nContent-Length: 2\r\n\r\n" ++ (0 ∷ []) ++ (255 ∷ [])) Ended ∷ []) ([]) ∷ []))
unfolding digits number_in place_in words_at header_row part_words header_of page_message may_stand_behind may_end body_at header_line_in ending_in format_in header_in target_in record_in record_at target_or_record part_with front_part next_part parts_from
case_15 = refl

-- a page with more samples than the limit
case_16 : script_read (codes "bridge-script 1\nlimit 1\nrounds 1\ntarget j h:1 /metrics\npage 10 text 8\nx 1\ny 2\n\n") ≡ Ok (a_script 2 3 1 16777216 4096 1 (one_target (codes "j") (codes "h:1") (codes "h") 1 (codes "/metrics") (reply 10 (codes "HTTP/1.1 200 OK\r\nContent-Type: text/plain; version=0.0.4\r\nContent-Length: 8\r\n\r\nx 1\ny 2\n") Ended ∷ []) ([]) ∷ []))
unfolding digits number_in place_in words_at header_row part_words header_of page_message may_stand_behind may_end body_at header_line_in ending_in format_in header_in target_in record_in record_at target_or_record part_with front_part next_part parts_from
case_16 = refl

-- two scrapes that fail between two pages
case_17 : script_read (codes "bridge-script 1\nrounds 4\ntarget j h:1 /metrics\npage 10 text 33\n# TYPE c_total counter\nc_total 5\n\nscrape 20 connect 0\n\nscrape 30 connect 0\n\npage 40 text 33\n# TYPE c_total counter\nc_total 6\n\n") ≡ Ok (a_script 2 3 20000 16777216 4096 4 (one_target (codes "j") (codes "h:1") (codes "h") 1 (codes "/metrics") (reply 10 (codes "HTTP/1.1 200 OK\r\nContent-Type: text/plain; version=0.0.4\r\nContent-Length: 33\r\n\r\n# TYPE c_total counter\nc_total 5\n") Ended ∷ reply 20 [] ConnectFailed ∷ reply 30 [] ConnectFailed ∷ reply 40 (codes "HTTP/1.1 200 OK\r\nContent-Type: text/plain; version=0.0.4\r\nContent-Length: 33\r\n\r\n# TYPE c_total counter\nc_total 6\n") Ended ∷ []) ([]) ∷ []))
unfolding digits number_in place_in words_at header_row part_words header_of page_message may_stand_behind may_end body_at header_line_in ending_in format_in header_in target_in record_in record_at target_or_record part_with front_part next_part parts_from
case_17 = refl

-- a reply in chunks, and the front of one, byte by byte
case_18 : script_read (codes "bridge-script 1\ncut 1\nrounds 2\ntarget j h:1 /metrics\nscrape 10 ended 71\nHTTP/1.1 200 OK\r\nTransfer-Encoding: chunked\r\n\r\n4;a=b\r\nx 1\n\r\n0\r\nT: v\r\n\r\n\nscrape 20 ended 60\nHTTP/1.1 200 OK\r\nTransfer-Encoding: chunked\r\n\r\n4;a=b\r\nx 1\n\r\n\n") ≡ Ok (a_script 2 3 20000 16777216 1 2 (one_target (codes "j") (codes "h:1") (codes "h") 1 (codes "/metrics") (reply 10 (codes "HTTP/1.1 200 OK\r\nTransfer-Encoding: chunked\r\n\r\n4;a=b\r\nx 1\n\r\n0\r\nT: v\r\n\r\n") Ended ∷ reply 20 (codes "HTTP/1.1 200 OK\r\nTransfer-Encoding: chunked\r\n\r\n4;a=b\r\nx 1\n\r\n") Ended ∷ []) ([]) ∷ []))
unfolding digits number_in place_in words_at header_row part_words header_of page_message may_stand_behind may_end body_at header_line_in ending_in format_in header_in target_in record_in record_at target_or_record part_with front_part next_part parts_from
case_18 = refl

-- posts that are tried again
case_19 : script_read (codes "bridge-script 1\nrounds 1\ntarget j h:1 /metrics\npage 10 text 4\nx 1\n\npost 11 ended 18\nHTTP/1.1 503 X\r\n\r\n\npost 12 connect 0\n\npost 13 ended 19\nHTTP/1.1 200 OK\r\n\r\n\n") ≡ Ok (a_script 2 3 20000 16777216 4096 1 (one_target (codes "j") (codes "h:1") (codes "h") 1 (codes "/metrics") (reply 10 (codes "HTTP/1.1 200 OK\r\nContent-Type: text/plain; version=0.0.4\r\nContent-Length: 4\r\n\r\nx 1\n") Ended ∷ []) (reply 11 (codes "HTTP/1.1 503 X\r\n\r\n") Ended ∷ reply 12 [] ConnectFailed ∷ reply 13 (codes "HTTP/1.1 200 OK\r\n\r\n") Ended ∷ []) ∷ []))
unfolding digits number_in place_in words_at header_row part_words header_of page_message may_stand_behind may_end body_at header_line_in ending_in format_in header_in target_in record_in record_at target_or_record part_with front_part next_part parts_from
case_19 = refl

-- another opening line
case_20 : script_read (codes "bridge-script 2\nrounds 1\ntarget j h:1 /m\npage 10 text 4\nx 1\n\n") ≡ Err 1
unfolding digits number_in place_in words_at header_row part_words header_of page_message may_stand_behind may_end body_at header_line_in ending_in format_in header_in target_in record_in record_at target_or_record part_with front_part next_part parts_from
case_20 = refl

-- an opening line with a space more
case_21 : script_read (codes "bridge-script 1 \nrounds 1\ntarget j h:1 /m\npage 10 text 4\nx 1\n\n") ≡ Err 1
unfolding digits number_in place_in words_at header_row part_words header_of page_message may_stand_behind may_end body_at header_line_in ending_in format_in header_in target_in record_in record_at target_or_record part_with front_part next_part parts_from
case_21 = refl

-- an opening line without its line feed
case_22 : script_read (codes "bridge-script 1") ≡ Err 1
unfolding digits number_in place_in words_at header_row part_words header_of page_message may_stand_behind may_end body_at header_line_in ending_in format_in header_in target_in record_in record_at target_or_record part_with front_part next_part parts_from
case_22 = refl

-- a carriage return is no line end
case_23 : script_read (codes "bridge-script 1\r\nrounds 1\ntarget j h:1 /m\npage 10 text 4\nx 1\n\n") ≡ Err 1
unfolding digits number_in place_in words_at header_row part_words header_of page_message may_stand_behind may_end body_at header_line_in ending_in format_in header_in target_in record_in record_at target_or_record part_with front_part next_part parts_from
case_23 = refl

-- an opening line twice
case_24 : script_read (codes "bridge-script 1\nbridge-script 1\nrounds 1\ntarget j h:1 /m\npage 10 text 4\nx 1\n\n") ≡ Err 2
unfolding digits number_in place_in words_at header_row part_words header_of page_message may_stand_behind may_end body_at header_line_in ending_in format_in header_in target_in record_in record_at target_or_record part_with front_part next_part parts_from
case_24 = refl

-- a header line out of order
case_25 : script_read (codes "bridge-script 1\ntries 1\nkeep 1\nrounds 1\ntarget j h:1 /m\npage 10 text 4\nx 1\n\n") ≡ Err 3
unfolding digits number_in place_in words_at header_row part_words header_of page_message may_stand_behind may_end body_at header_line_in ending_in format_in header_in target_in record_in record_at target_or_record part_with front_part next_part parts_from
case_25 = refl

-- a header line twice
case_26 : script_read (codes "bridge-script 1\nkeep 1\nkeep 1\nrounds 1\ntarget j h:1 /m\npage 10 text 4\nx 1\n\n") ≡ Err 3
unfolding digits number_in place_in words_at header_row part_words header_of page_message may_stand_behind may_end body_at header_line_in ending_in format_in header_in target_in record_in record_at target_or_record part_with front_part next_part parts_from
case_26 = refl

-- a header line behind the rounds
case_27 : script_read (codes "bridge-script 1\nrounds 1\nkeep 1\ntarget j h:1 /m\npage 10 text 4\nx 1\n\n") ≡ Err 3
unfolding digits number_in place_in words_at header_row part_words header_of page_message may_stand_behind may_end body_at header_line_in ending_in format_in header_in target_in record_in record_at target_or_record part_with front_part next_part parts_from
case_27 = refl

-- no rounds: refused at the target
case_28 : script_read (codes "bridge-script 1\nkeep 1\ntarget j h:1 /m\npage 10 text 4\nx 1\n\n") ≡ Err 3
unfolding digits number_in place_in words_at header_row part_words header_of page_message may_stand_behind may_end body_at header_line_in ending_in format_in header_in target_in record_in record_at target_or_record part_with front_part next_part parts_from
case_28 = refl

-- a number with a leading zero
case_29 : script_read (codes "bridge-script 1\nrounds 01\ntarget j h:1 /m\npage 10 text 4\nx 1\n\n") ≡ Err 2
unfolding digits number_in place_in words_at header_row part_words header_of page_message may_stand_behind may_end body_at header_line_in ending_in format_in header_in target_in record_in record_at target_or_record part_with front_part next_part parts_from
case_29 = refl

-- a number with a sign
case_30 : script_read (codes "bridge-script 1\nkeep +1\nrounds 1\ntarget j h:1 /m\npage 10 text 4\nx 1\n\n") ≡ Err 2
unfolding digits number_in place_in words_at header_row part_words header_of page_message may_stand_behind may_end body_at header_line_in ending_in format_in header_in target_in record_in record_at target_or_record part_with front_part next_part parts_from
case_30 = refl

-- a number out of range
case_31 : script_read (codes "bridge-script 1\nkeep 5\nrounds 1\ntarget j h:1 /m\npage 10 text 4\nx 1\n\n") ≡ Err 2
unfolding digits number_in place_in words_at header_row part_words header_of page_message may_stand_behind may_end body_at header_line_in ending_in format_in header_in target_in record_in record_at target_or_record part_with front_part next_part parts_from
case_31 = refl

-- a number that is too small
case_32 : script_read (codes "bridge-script 1\nmaxpage 1023\nrounds 1\ntarget j h:1 /m\npage 10 text 4\nx 1\n\n") ≡ Err 2
unfolding digits number_in place_in words_at header_row part_words header_of page_message may_stand_behind may_end body_at header_line_in ending_in format_in header_in target_in record_in record_at target_or_record part_with front_part next_part parts_from
case_32 = refl

-- no rounds at all in the range
case_33 : script_read (codes "bridge-script 1\nrounds 0\ntarget j h:1 /m\n") ≡ Err 2
unfolding digits number_in place_in words_at header_row part_words header_of page_message may_stand_behind may_end body_at header_line_in ending_in format_in header_in target_in record_in record_at target_or_record part_with front_part next_part parts_from
case_33 = refl

-- an unknown header line
case_34 : script_read (codes "bridge-script 1\nspeed 1\nrounds 1\ntarget j h:1 /m\npage 10 text 4\nx 1\n\n") ≡ Err 2
unfolding digits number_in place_in words_at header_row part_words header_of page_message may_stand_behind may_end body_at header_line_in ending_in format_in header_in target_in record_in record_at target_or_record part_with front_part next_part parts_from
case_34 = refl

-- two spaces
case_35 : script_read (codes "bridge-script 1\nrounds  1\ntarget j h:1 /m\npage 10 text 4\nx 1\n\n") ≡ Err 2
unfolding digits number_in place_in words_at header_row part_words header_of page_message may_stand_behind may_end body_at header_line_in ending_in format_in header_in target_in record_in record_at target_or_record part_with front_part next_part parts_from
case_35 = refl

-- an empty line in the header
case_36 : script_read (codes "bridge-script 1\n\nrounds 1\ntarget j h:1 /m\npage 10 text 4\nx 1\n\n") ≡ Err 2
unfolding digits number_in place_in words_at header_row part_words header_of page_message may_stand_behind may_end body_at header_line_in ending_in format_in header_in target_in record_in record_at target_or_record part_with front_part next_part parts_from
case_36 = refl

-- a record before a target
case_37 : script_read (codes "bridge-script 1\nrounds 1\npage 10 text 4\nx 1\n\n") ≡ Err 3
unfolding digits number_in place_in words_at header_row part_words header_of page_message may_stand_behind may_end body_at header_line_in ending_in format_in header_in target_in record_in record_at target_or_record part_with front_part next_part parts_from
case_37 = refl

-- a target without a path
case_38 : script_read (codes "bridge-script 1\nrounds 1\ntarget j h:1\npage 10 text 4\nx 1\n\n") ≡ Err 3
unfolding digits number_in place_in words_at header_row part_words header_of page_message may_stand_behind may_end body_at header_line_in ending_in format_in header_in target_in record_in record_at target_or_record part_with front_part next_part parts_from
case_38 = refl

-- a path without a slash
case_39 : script_read (codes "bridge-script 1\nrounds 1\ntarget j h:1 m\npage 10 text 4\nx 1\n\n") ≡ Err 3
unfolding digits number_in place_in words_at header_row part_words header_of page_message may_stand_behind may_end body_at header_line_in ending_in format_in header_in target_in record_in record_at target_or_record part_with front_part next_part parts_from
case_39 = refl

-- a port of 0
case_40 : script_read (codes "bridge-script 1\nrounds 1\ntarget j h:0 /m\npage 10 text 4\nx 1\n\n") ≡ Err 3
unfolding digits number_in place_in words_at header_row part_words header_of page_message may_stand_behind may_end body_at header_line_in ending_in format_in header_in target_in record_in record_at target_or_record part_with front_part next_part parts_from
case_40 = refl

-- a port that is too great
case_41 : script_read (codes "bridge-script 1\nrounds 1\ntarget j h:65536 /m\npage 10 text 4\nx 1\n\n") ≡ Err 3
unfolding digits number_in place_in words_at header_row part_words header_of page_message may_stand_behind may_end body_at header_line_in ending_in format_in header_in target_in record_in record_at target_or_record part_with front_part next_part parts_from
case_41 = refl

-- a port with a leading zero
case_42 : script_read (codes "bridge-script 1\nrounds 1\ntarget j h:080 /m\npage 10 text 4\nx 1\n\n") ≡ Err 3
unfolding digits number_in place_in words_at header_row part_words header_of page_message may_stand_behind may_end body_at header_line_in ending_in format_in header_in target_in record_in record_at target_or_record part_with front_part next_part parts_from
case_42 = refl

-- no host
case_43 : script_read (codes "bridge-script 1\nrounds 1\ntarget j :1 /m\npage 10 text 4\nx 1\n\n") ≡ Err 3
unfolding digits number_in place_in words_at header_row part_words header_of page_message may_stand_behind may_end body_at header_line_in ending_in format_in header_in target_in record_in record_at target_or_record part_with front_part next_part parts_from
case_43 = refl

-- no colon
case_44 : script_read (codes "bridge-script 1\nrounds 1\ntarget j h /m\npage 10 text 4\nx 1\n\n") ≡ Err 3
unfolding digits number_in place_in words_at header_row part_words header_of page_message may_stand_behind may_end body_at header_line_in ending_in format_in header_in target_in record_in record_at target_or_record part_with front_part next_part parts_from
case_44 = refl

-- no job
case_45 : script_read (codes "bridge-script 1\nrounds 1\ntarget  h:1 /m\npage 10 text 4\nx 1\n\n") ≡ Err 3
unfolding digits number_in place_in words_at header_row part_words header_of page_message may_stand_behind may_end body_at header_line_in ending_in format_in header_in target_in record_in record_at target_or_record part_with front_part next_part parts_from
case_45 = refl

-- a tab in a job
case_46 : script_read (codes "bridge-script 1\nrounds 1\ntarget a\tb h:1 /m\npage 10 text 4\nx 1\n\n") ≡ Err 3
unfolding digits number_in place_in words_at header_row part_words header_of page_message may_stand_behind may_end body_at header_line_in ending_in format_in header_in target_in record_in record_at target_or_record part_with front_part next_part parts_from
case_46 = refl

-- a host of 256 bytes
case_47 : script_read (codes "bridge-script 1\nrounds 1\ntarget j hhhhhhhhhhhhhhhhhhhhhhhhhhhhhhhhhhhhhhhhhhhhhhhhhhhhhhhhhhhhhhhhhhhhhhhhhhhhhhhhhhhhhhhhhhhhhhhhhhhhhhhhhhhhhhhhhhhhhhhhhhhhhhhhhhhhhhhhhhhhhhhhhhhhhhhhhhhhhhhhhhhhhhhhhhhhhhhhhhhhhhhhhhhhhhhhhhhhhhhhhhhhhhhhhhhhhhhhhhhhhhhhhhhhhhhhhhhhhhhhhhhhhhhhhhhhhhhh:1 /m\npage 10 text 4\nx 1\n\n") ≡ Ok (a_script 2 3 20000 16777216 4096 1 (one_target (codes "j") (codes "hhhhhhhhhhhhhhhhhhhhhhhhhhhhhhhhhhhhhhhhhhhhhhhhhhhhhhhhhhhhhhhhhhhhhhhhhhhhhhhhhhhhhhhhhhhhhhhhhhhhhhhhhhhhhhhhhhhhhhhhhhhhhhhhhhhhhhhhhhhhhhhhhhhhhhhhhhhhhhhhhhhhhhhhhhhhhhhhhhhhhhhhhhhhhhhhhhhhhhhhhhhhhhhhhhhhhhhhhhhhhhhhhhhhhhhhhhhhhhhhhhhhhhhhhhhhhhhh:1") (codes "hhhhhhhhhhhhhhhhhhhhhhhhhhhhhhhhhhhhhhhhhhhhhhhhhhhhhhhhhhhhhhhhhhhhhhhhhhhhhhhhhhhhhhhhhhhhhhhhhhhhhhhhhhhhhhhhhhhhhhhhhhhhhhhhhhhhhhhhhhhhhhhhhhhhhhhhhhhhhhhhhhhhhhhhhhhhhhhhhhhhhhhhhhhhhhhhhhhhhhhhhhhhhhhhhhhhhhhhhhhhhhhhhhhhhhhhhhhhhhhhhhhhhhhhhhhhhhhh") 1 (codes "/m") (reply 10 (codes "HTTP/1.1 200 OK\r\nContent-Type: text/plain; version=0.0.4\r\nContent-Length: 4\r\n\r\nx 1\n") Ended ∷ []) ([]) ∷ []))
unfolding digits number_in place_in words_at header_row part_words header_of page_message may_stand_behind may_end body_at header_line_in ending_in format_in header_in target_in record_in record_at target_or_record part_with front_part next_part parts_from
case_47 = refl

-- a host of 257 bytes
case_48 : script_read (codes "bridge-script 1\nrounds 1\ntarget j hhhhhhhhhhhhhhhhhhhhhhhhhhhhhhhhhhhhhhhhhhhhhhhhhhhhhhhhhhhhhhhhhhhhhhhhhhhhhhhhhhhhhhhhhhhhhhhhhhhhhhhhhhhhhhhhhhhhhhhhhhhhhhhhhhhhhhhhhhhhhhhhhhhhhhhhhhhhhhhhhhhhhhhhhhhhhhhhhhhhhhhhhhhhhhhhhhhhhhhhhhhhhhhhhhhhhhhhhhhhhhhhhhhhhhhhhhhhhhhhhhhhhhhhhhhhhhhhh:1 /m\npage 10 text 4\nx 1\n\n") ≡ Err 3
unfolding digits number_in place_in words_at header_row part_words header_of page_message may_stand_behind may_end body_at header_line_in ending_in format_in header_in target_in record_in record_at target_or_record part_with front_part next_part parts_from
case_48 = refl

-- too few scrapes, seen at the next target
case_49 : script_read (codes "bridge-script 1\nrounds 2\ntarget j h:1 /m\npage 10 text 4\nx 1\n\ntarget k h:1 /m\npage 10 text 4\nx 1\n\n") ≡ Err 7
unfolding digits number_in place_in words_at header_row part_words header_of page_message may_stand_behind may_end body_at header_line_in ending_in format_in header_in target_in record_in record_at target_or_record part_with front_part next_part parts_from
case_49 = refl

-- too few scrapes, seen at the end
case_50 : script_read (codes "bridge-script 1\nrounds 2\ntarget j h:1 /m\npage 10 text 4\nx 1\n\n") ≡ Err 7
unfolding digits number_in place_in words_at header_row part_words header_of page_message may_stand_behind may_end body_at header_line_in ending_in format_in header_in target_in record_in record_at target_or_record part_with front_part next_part parts_from
case_50 = refl

-- too many scrapes, seen at the end
case_51 : script_read (codes "bridge-script 1\nrounds 1\ntarget j h:1 /m\npage 10 text 4\nx 1\n\npage 10 text 4\nx 1\n\n") ≡ Err 10
unfolding digits number_in place_in words_at header_row part_words header_of page_message may_stand_behind may_end body_at header_line_in ending_in format_in header_in target_in record_in record_at target_or_record part_with front_part next_part parts_from
case_51 = refl

-- too many scrapes, and a fault before that is seen
case_52 : script_read (codes "bridge-script 1\nrounds 1\ntarget j h:1 /m\npage 10 text 4\nx 1\n\npage 10 text 4\nx 1\n\npage 1 text x\n\n") ≡ Err 10
unfolding digits number_in place_in words_at header_row part_words header_of page_message may_stand_behind may_end body_at header_line_in ending_in format_in header_in target_in record_in record_at target_or_record part_with front_part next_part parts_from
case_52 = refl

-- a page of another format
case_53 : script_read (codes "bridge-script 1\nrounds 1\ntarget j h:1 /m\npage 10 json 4\nx 1\n\n") ≡ Err 4
unfolding digits number_in place_in words_at header_row part_words header_of page_message may_stand_behind may_end body_at header_line_in ending_in format_in header_in target_in record_in record_at target_or_record part_with front_part next_part parts_from
case_53 = refl

-- a time of 2^64
case_54 : script_read (codes "bridge-script 1\nrounds 1\ntarget j h:1 /m\npage 18446744073709551616 text 4\nx 1\n\n") ≡ Err 4
unfolding digits number_in place_in words_at header_row part_words header_of page_message may_stand_behind may_end body_at header_line_in ending_in format_in header_in target_in record_in record_at target_or_record part_with front_part next_part parts_from
case_54 = refl

-- a time of 2^64 - 1
case_55 : script_read (codes "bridge-script 1\nrounds 1\ntarget j h:1 /m\npage 18446744073709551615 text 4\nx 1\n\n") ≡ Ok (a_script 2 3 20000 16777216 4096 1 (one_target (codes "j") (codes "h:1") (codes "h") 1 (codes "/m") (reply 18446744073709551615 (codes "HTTP/1.1 200 OK\r\nContent-Type: text/plain; version=0.0.4\r\nContent-Length: 4\r\n\r\nx 1\n") Ended ∷ []) ([]) ∷ []))
unfolding digits number_in place_in words_at header_row part_words header_of page_message may_stand_behind may_end body_at header_line_in ending_in format_in header_in target_in record_in record_at target_or_record part_with front_part next_part parts_from
case_55 = refl

-- a length of 2^32
case_56 : script_read (codes "bridge-script 1\nrounds 1\ntarget j h:1 /m\npage 1 text 4294967296\nx 1\n\n") ≡ Err 4
unfolding digits number_in place_in words_at header_row part_words header_of page_message may_stand_behind may_end body_at header_line_in ending_in format_in header_in target_in record_in record_at target_or_record part_with front_part next_part parts_from
case_56 = refl

-- a body that is too short
case_57 : script_read (codes "bridge-script 1\nrounds 1\ntarget j h:1 /m\npage 10 text 6\nx 1\n\n") ≡ Err 4
unfolding digits number_in place_in words_at header_row part_words header_of page_message may_stand_behind may_end body_at header_line_in ending_in format_in header_in target_in record_in record_at target_or_record part_with front_part next_part parts_from
case_57 = refl

-- a body without the line feed behind it
case_58 : script_read (codes "bridge-script 1\nrounds 1\ntarget j h:1 /m\npage 10 text 4\nx 1\n") ≡ Err 4
unfolding digits number_in place_in words_at header_row part_words header_of page_message may_stand_behind may_end body_at header_line_in ending_in format_in header_in target_in record_in record_at target_or_record part_with front_part next_part parts_from
case_58 = refl

-- a length that is too small
case_59 : script_read (codes "bridge-script 1\nrounds 1\ntarget j h:1 /m\npage 10 text 3\nx 1\n\n") ≡ Err 6
unfolding digits number_in place_in words_at header_row part_words header_of page_message may_stand_behind may_end body_at header_line_in ending_in format_in header_in target_in record_in record_at target_or_record part_with front_part next_part parts_from
case_59 = refl

-- an ending with bytes that it can't have
case_60 : script_read (codes "bridge-script 1\nrounds 1\ntarget j h:1 /m\nscrape 1 connect 1\nx\n") ≡ Err 4
unfolding digits number_in place_in words_at header_row part_words header_of page_message may_stand_behind may_end body_at header_line_in ending_in format_in header_in target_in record_in record_at target_or_record part_with front_part next_part parts_from
case_60 = refl

-- an unknown ending
case_61 : script_read (codes "bridge-script 1\nrounds 1\ntarget j h:1 /m\nscrape 1 left 0\n\n") ≡ Err 4
unfolding digits number_in place_in words_at header_row part_words header_of page_message may_stand_behind may_end body_at header_line_in ending_in format_in header_in target_in record_in record_at target_or_record part_with front_part next_part parts_from
case_61 = refl

-- one post too many, refused at its line
case_62 : script_read (codes "bridge-script 1\ntries 1\nrounds 1\ntarget j h:1 /m\npost 1 ended 0\n\npost 1 ended 0\n\npage 10 text 4\nx 1\n\n") ≡ Err 7
unfolding digits number_in place_in words_at header_row part_words header_of page_message may_stand_behind may_end body_at header_line_in ending_in format_in header_in target_in record_in record_at target_or_record part_with front_part next_part parts_from
case_62 = refl

-- an unknown record
case_63 : script_read (codes "bridge-script 1\nrounds 1\ntarget j h:1 /m\npage 10 text 4\nx 1\n\nget 1 ended 0\n\n") ≡ Err 7
unfolding digits number_in place_in words_at header_row part_words header_of page_message may_stand_behind may_end body_at header_line_in ending_in format_in header_in target_in record_in record_at target_or_record part_with front_part next_part parts_from
case_63 = refl

-- a last line without its line feed
case_64 : script_read (codes "bridge-script 1\nrounds 1\ntarget j h:1 /m\npage 10 text 4\nx 1\n\ntarget") ≡ Err 7
unfolding digits number_in place_in words_at header_row part_words header_of page_message may_stand_behind may_end body_at header_line_in ending_in format_in header_in target_in record_in record_at target_or_record part_with front_part next_part parts_from
case_64 = refl

-- a blank line at the end
case_65 : script_read (codes "bridge-script 1\nrounds 1\ntarget j h:1 /m\npage 10 text 4\nx 1\n\n\n") ≡ Err 7
unfolding digits number_in place_in words_at header_row part_words header_of page_message may_stand_behind may_end body_at header_line_in ending_in format_in header_in target_in record_in record_at target_or_record part_with front_part next_part parts_from
case_65 = refl

-- a job of a byte above ASCII
case_66 : script_read (codes "bridge-script 1\nrounds 1\ntarget j" ++ (233 ∷ []) ++ codes " h:1 /m\npage 10 text 4\nx 1\n\n") ≡ Err 3
unfolding digits number_in place_in words_at header_row part_words header_of page_message may_stand_behind may_end body_at header_line_in ending_in format_in header_in target_in record_in record_at target_or_record part_with front_part next_part parts_from
case_66 = refl

-- a job of 257 bytes
case_67 : script_read (codes "bridge-script 1\nrounds 1\ntarget jjjjjjjjjjjjjjjjjjjjjjjjjjjjjjjjjjjjjjjjjjjjjjjjjjjjjjjjjjjjjjjjjjjjjjjjjjjjjjjjjjjjjjjjjjjjjjjjjjjjjjjjjjjjjjjjjjjjjjjjjjjjjjjjjjjjjjjjjjjjjjjjjjjjjjjjjjjjjjjjjjjjjjjjjjjjjjjjjjjjjjjjjjjjjjjjjjjjjjjjjjjjjjjjjjjjjjjjjjjjjjjjjjjjjjjjjjjjjjjjjjjjjjjjjjjjjjjjj h:1 /m\npage 10 text 4\nx 1\n\n") ≡ Err 3
unfolding digits number_in place_in words_at header_row part_words header_of page_message may_stand_behind may_end body_at header_line_in ending_in format_in header_in target_in record_in record_at target_or_record part_with front_part next_part parts_from
case_67 = refl

-- a path of 257 bytes
case_68 : script_read (codes "bridge-script 1\nrounds 1\ntarget j h:1 /mmmmmmmmmmmmmmmmmmmmmmmmmmmmmmmmmmmmmmmmmmmmmmmmmmmmmmmmmmmmmmmmmmmmmmmmmmmmmmmmmmmmmmmmmmmmmmmmmmmmmmmmmmmmmmmmmmmmmmmmmmmmmmmmmmmmmmmmmmmmmmmmmmmmmmmmmmmmmmmmmmmmmmmmmmmmmmmmmmmmmmmmmmmmmmmmmmmmmmmmmmmmmmmmmmmmmmmmmmmmmmmmmmmmmmmmmmmmmmmmmmmmmmmmmmmmmmmm\npage 10 text 4\nx 1\n\n") ≡ Err 3
unfolding digits number_in place_in words_at header_row part_words header_of page_message may_stand_behind may_end body_at header_line_in ending_in format_in header_in target_in record_in record_at target_or_record part_with front_part next_part parts_from
case_68 = refl

-- a path of 256 bytes
case_69 : script_read (codes "bridge-script 1\nrounds 1\ntarget j h:1 /mmmmmmmmmmmmmmmmmmmmmmmmmmmmmmmmmmmmmmmmmmmmmmmmmmmmmmmmmmmmmmmmmmmmmmmmmmmmmmmmmmmmmmmmmmmmmmmmmmmmmmmmmmmmmmmmmmmmmmmmmmmmmmmmmmmmmmmmmmmmmmmmmmmmmmmmmmmmmmmmmmmmmmmmmmmmmmmmmmmmmmmmmmmmmmmmmmmmmmmmmmmmmmmmmmmmmmmmmmmmmmmmmmmmmmmmmmmmmmmmmmmmmmmmmmmmmmm\npage 10 text 4\nx 1\n\n") ≡ Ok (a_script 2 3 20000 16777216 4096 1 (one_target (codes "j") (codes "h:1") (codes "h") 1 (codes "/mmmmmmmmmmmmmmmmmmmmmmmmmmmmmmmmmmmmmmmmmmmmmmmmmmmmmmmmmmmmmmmmmmmmmmmmmmmmmmmmmmmmmmmmmmmmmmmmmmmmmmmmmmmmmmmmmmmmmmmmmmmmmmmmmmmmmmmmmmmmmmmmmmmmmmmmmmmmmmmmmmmmmmmmmmmmmmmmmmmmmmmmmmmmmmmmmmmmmmmmmmmmmmmmmmmmmmmmmmmmmmmmmmmmmmmmmmmmmmmmmmmmmmmmmmmmmmm") (reply 10 (codes "HTTP/1.1 200 OK\r\nContent-Type: text/plain; version=0.0.4\r\nContent-Length: 4\r\n\r\nx 1\n") Ended ∷ []) ([]) ∷ []))
unfolding digits number_in place_in words_at header_row part_words header_of page_message may_stand_behind may_end body_at header_line_in ending_in format_in header_in target_in record_in record_at target_or_record part_with front_part next_part parts_from
case_69 = refl

-- a record with a word more
case_70 : script_read (codes "bridge-script 1\nrounds 1\ntarget j h:1 /m\npage 10 text 4 x\nx 1\n\n") ≡ Err 4
unfolding digits number_in place_in words_at header_row part_words header_of page_message may_stand_behind may_end body_at header_line_in ending_in format_in header_in target_in record_in record_at target_or_record part_with front_part next_part parts_from
case_70 = refl

-- a header line without a number
case_71 : script_read (codes "bridge-script 1\nrounds\ntarget j h:1 /m\npage 10 text 4\nx 1\n\n") ≡ Err 2
unfolding digits number_in place_in words_at header_row part_words header_of page_message may_stand_behind may_end body_at header_line_in ending_in format_in header_in target_in record_in record_at target_or_record part_with front_part next_part parts_from
case_71 = refl

-- a length with a leading zero
case_72 : script_read (codes "bridge-script 1\nrounds 1\ntarget j h:1 /m\npage 10 text 04\nx 1\n\n") ≡ Err 4
unfolding digits number_in place_in words_at header_row part_words header_of page_message may_stand_behind may_end body_at header_line_in ending_in format_in header_in target_in record_in record_at target_or_record part_with front_part next_part parts_from
case_72 = refl

-- a time that is no number
case_73 : script_read (codes "bridge-script 1\nrounds 1\ntarget j h:1 /m\npage now text 4\nx 1\n\n") ≡ Err 4
unfolding digits number_in place_in words_at header_row part_words header_of page_message may_stand_behind may_end body_at header_line_in ending_in format_in header_in target_in record_in record_at target_or_record part_with front_part next_part parts_from
case_73 = refl

-- a target line in place of the opening line
case_74 : script_read (codes "target j h:1 /m\npage 10 text 4\nx 1\n\n") ≡ Err 1
unfolding digits number_in place_in words_at header_row part_words header_of page_message may_stand_behind may_end body_at header_line_in ending_in format_in header_in target_in record_in record_at target_or_record part_with front_part next_part parts_from
case_74 = refl

-- an empty page without the line feed behind it
case_75 : script_read (codes "bridge-script 1\nrounds 1\ntarget j h:1 /m\npage 10 text 0\n") ≡ Err 4
unfolding digits number_in place_in words_at header_row part_words header_of page_message may_stand_behind may_end body_at header_line_in ending_in format_in header_in target_in record_in record_at target_or_record part_with front_part next_part parts_from
case_75 = refl

-- a head line inside a body is no head line
case_76 : script_read (codes "bridge-script 1\nrounds 1\ntarget j h:1 /m\npage 10 text 12\nrounds 1\nx 1\n") ≡ Ok (a_script 2 3 20000 16777216 4096 1 (one_target (codes "j") (codes "h:1") (codes "h") 1 (codes "/m") (reply 10 (codes "HTTP/1.1 200 OK\r\nContent-Type: text/plain; version=0.0.4\r\nContent-Length: 12\r\n\r\nrounds 1\nx 1") Ended ∷ []) ([]) ∷ []))
unfolding digits number_in place_in words_at header_row part_words header_of page_message may_stand_behind may_end body_at header_line_in ending_in format_in header_in target_in record_in record_at target_or_record part_with front_part next_part parts_from
case_76 = refl

-- a body with a head line, whole
case_77 : script_read (codes "bridge-script 1\nrounds 1\ntarget j h:1 /m\npage 10 text 13\nrounds 1\nx 1\n\n") ≡ Ok (a_script 2 3 20000 16777216 4096 1 (one_target (codes "j") (codes "h:1") (codes "h") 1 (codes "/m") (reply 10 (codes "HTTP/1.1 200 OK\r\nContent-Type: text/plain; version=0.0.4\r\nContent-Length: 13\r\n\r\nrounds 1\nx 1\n") Ended ∷ []) ([]) ∷ []))
unfolding digits number_in place_in words_at header_row part_words header_of page_message may_stand_behind may_end body_at header_line_in ending_in format_in header_in target_in record_in record_at target_or_record part_with front_part next_part parts_from
case_77 = refl

-- a write that fails, with bytes
case_78 : script_read (codes "bridge-script 1\nrounds 1\ntarget j h:1 /m\nscrape 1 write 1\nx\n") ≡ Err 4
unfolding digits number_in place_in words_at header_row part_words header_of page_message may_stand_behind may_end body_at header_line_in ending_in format_in header_in target_in record_in record_at target_or_record part_with front_part next_part parts_from
case_78 = refl

-- a header line among the records
case_79 : script_read (codes "bridge-script 1\nrounds 1\ntarget j h:1 /m\nkeep 1\npage 10 text 4\nx 1\n\n") ≡ Err 4
unfolding digits number_in place_in words_at header_row part_words header_of page_message may_stand_behind may_end body_at header_line_in ending_in format_in header_in target_in record_in record_at target_or_record part_with front_part next_part parts_from
case_79 = refl

-- a second target with the same job and instance
case_80 : script_read (codes "bridge-script 1\nrounds 1\ntarget j h:1 /m\npage 10 text 4\nx 1\n\ntarget j h:1 /m\npage 20 text 4\nx 1\n\n") ≡ Err 7
unfolding digits number_in place_in words_at header_row part_words header_of page_message may_stand_behind may_end body_at header_line_in ending_in format_in header_in target_in record_in record_at target_or_record part_with front_part next_part parts_from
case_80 = refl

-- the names of the first of three targets again
case_81 : script_read (codes "bridge-script 1\nrounds 1\ntarget j h:1 /m\npage 10 text 4\nx 1\n\ntarget j h:2 /m\npage 20 text 4\nx 1\n\ntarget j h:1 /m\npage 30 text 4\nx 1\n\n") ≡ Err 11
unfolding digits number_in place_in words_at header_row part_words header_of page_message may_stand_behind may_end body_at header_line_in ending_in format_in header_in target_in record_in record_at target_or_record part_with front_part next_part parts_from
case_81 = refl

-- two targets of two jobs with one instance
case_82 : script_read (codes "bridge-script 1\nrounds 1\ntarget j h:1 /m\npage 10 text 4\nx 1\n\ntarget k h:1 /m\npage 20 text 4\nx 1\n\n") ≡ Ok (a_script 2 3 20000 16777216 4096 1 (one_target (codes "j") (codes "h:1") (codes "h") 1 (codes "/m") (reply 10 (codes "HTTP/1.1 200 OK\r\nContent-Type: text/plain; version=0.0.4\r\nContent-Length: 4\r\n\r\nx 1\n") Ended ∷ []) ([]) ∷ one_target (codes "k") (codes "h:1") (codes "h") 1 (codes "/m") (reply 20 (codes "HTTP/1.1 200 OK\r\nContent-Type: text/plain; version=0.0.4\r\nContent-Length: 4\r\n\r\nx 1\n") Ended ∷ []) ([]) ∷ []))
unfolding digits number_in place_in words_at header_row part_words header_of page_message may_stand_behind may_end body_at header_line_in ending_in format_in header_in target_in record_in record_at target_or_record part_with front_part next_part parts_from
case_82 = refl

-- too many scrapes, seen at the next target
case_83 : script_read (codes "bridge-script 1\nrounds 1\ntarget j h:1 /m\npage 10 text 4\nx 1\n\npage 11 text 4\nx 1\n\ntarget j h:2 /m\npage 20 text 4\nx 1\n\n") ≡ Err 10
unfolding digits number_in place_in words_at header_row part_words header_of page_message may_stand_behind may_end body_at header_line_in ending_in format_in header_in target_in record_in record_at target_or_record part_with front_part next_part parts_from
case_83 = refl

-- the last of two targets without its scrapes
case_84 : script_read (codes "bridge-script 1\nrounds 1\ntarget j h:1 /m\npage 10 text 4\nx 1\n\ntarget j h:2 /m\n") ≡ Err 8
unfolding digits number_in place_in words_at header_row part_words header_of page_message may_stand_behind may_end body_at header_line_in ending_in format_in header_in target_in record_in record_at target_or_record part_with front_part next_part parts_from
case_84 = refl

-- each record belongs to the target above it
case_85 : script_read (codes "bridge-script 1\nrounds 1\ntarget j h:1 /m\npost 1 connect 0\n\nscrape 2 connect 0\n\ntarget j h:2 /m\nscrape 3 write 0\n\npost 4 write 0\n\n") ≡ Ok (a_script 2 3 20000 16777216 4096 1 (one_target (codes "j") (codes "h:1") (codes "h") 1 (codes "/m") (reply 2 [] ConnectFailed ∷ []) (reply 1 [] ConnectFailed ∷ []) ∷ one_target (codes "j") (codes "h:2") (codes "h") 2 (codes "/m") (reply 3 [] WriteFailed ∷ []) (reply 4 [] WriteFailed ∷ []) ∷ []))
unfolding digits number_in place_in words_at header_row part_words header_of page_message may_stand_behind may_end body_at header_line_in ending_in format_in header_in target_in record_in record_at target_or_record part_with front_part next_part parts_from
case_85 = refl

-- the posts of each target count by themselves
case_86 : script_read (codes "bridge-script 1\ntries 1\nrounds 1\ntarget j h:1 /m\npost 1 connect 0\n\nscrape 2 connect 0\n\ntarget j h:2 /m\npost 3 connect 0\n\npost 4 connect 0\n\n") ≡ Err 12
unfolding digits number_in place_in words_at header_row part_words header_of page_message may_stand_behind may_end body_at header_line_in ending_in format_in header_in target_in record_in record_at target_or_record part_with front_part next_part parts_from
case_86 = refl

-- a header line among the targets
case_87 : script_read (codes "bridge-script 1\nrounds 1\ntarget j h:1 /m\npage 10 text 4\nx 1\n\nkeep 1\n") ≡ Err 7
unfolding digits number_in place_in words_at header_row part_words header_of page_message may_stand_behind may_end body_at header_line_in ending_in format_in header_in target_in record_in record_at target_or_record part_with front_part next_part parts_from
case_87 = refl
