-- A part that may stand at a place is the one that is read there.
use Rattle.std.proofs.Common.{◌≡◌, ℕ, ◌+◌, ◌*◌, ◌^◌, ◌<◌, Bool, true, ◌&&◌, List, [], ◌∷◌, ◌++◌, length, take, drop, Some, refl, sym, ap, ◌∙◌, arith, append_assoc, codes, nat_le, nat_lt, nat_eq, slice_index}
use Rattle.std.specs.Fmt.{decimal}
use Rattle.std.specs.List.{list_all, starts_with}
use Rattle.std.proofs.lemmas.Bool.{and_parts, and_from, ltb-true, lt-ltb}
use Rattle.std.proofs.lemmas.List.{take_at, drop_at, drop-drop, get_or_at}
use Rattle.std.proofs.lemmas.List.Folds.{list_all-append}
use Rattle.page_model.specs.declared.format.Format.{Format}
use Rattle.page_model.specs.declared.format.Format.TheVariants as formats
use Rattle.plain_words.specs.Places.{is_visible, is_visible_word, is_port}
use Rattle.plain_words.specs.HeadLines.{head_line}
use Rattle.plain_words.proofs.Laws.{number_found, place_found, in_range, port_small, decimal_visible, are_visible, words_found}
use Rattle.replay_script.specs.declared.header.HeaderLine.{HeaderLine}
use Rattle.replay_script.specs.declared.header.HeaderLine.TheVariants.{Keep, Tries, Limit, MaxPage, Cut, Honor, Rounds}
use Rattle.replay_script.specs.HeaderLines.{header_row, is_in_row}
use Rattle.replay_script.specs.declared.ending.Ending.{Ending}
use Rattle.replay_script.specs.declared.ending.Ending.TheVariants.{ConnectFails}
use Rattle.replay_script.specs.ScriptParts.{ending_word, format_word, TargetLine, Part, opening, header, target, page, scrape, post, record_words, part_words, part_text}
use Rattle.replay_script.specs.ScriptRules.{may_stand_behind, is_next_line, is_target_line, is_record, fits_ending, has_target, has_room_for_post}
use Rattle.replay_script.specs.ScriptContents.{targets_of, header_number}
use Rattle.replay_script.specs.ScriptReading.{most_number, body_at, header_line_in, ending_in, format_in, header_in, target_in, record_in, record_at, target_or_record, part_with, front_part}

-- ---- what a part that may follow is made of

-- the words and numbers of a part are right, whatever stands before it
unfoldable pub is_well_formed : Part → Bool
is_well_formed opening = true
is_well_formed (header line n) = is_in_row (header_row line) n
is_well_formed (target t) = is_target_line t
is_well_formed (page at format body) = is_record at body
is_well_formed (scrape at ending bytes) = is_record at bytes
is_well_formed (post at ending bytes) = is_record at bytes

-- ---- the body behind a head line

-- a body that is there is found
body_found : (bytes more : List ℕ) → body_at (length bytes) ((bytes ++ 10 ∷ []) ++ more) ≡ Some (bytes, more)
unfolding body_at
body_found bytes more =
    let text : (bytes ++ 10 ∷ []) ++ more ≡ bytes ++ 10 ∷ more = append_assoc bytes (10 ∷ []) more in
    let long : nat_lt (length bytes) (length (bytes ++ 10 ∷ more)) ≡ true = lt-ltb (length bytes) (length (bytes ++ 10 ∷ more)) (omega (arith, Rattle.std.proofs.Common.length-append bytes (10 ∷ more))) in
    let feed : slice_index (bytes ++ 10 ∷ more) (length bytes) ≡ 10 = get_or_at bytes 10 more 0 (length bytes) refl in
    let front : take (length bytes) (bytes ++ 10 ∷ more) ≡ bytes = take_at bytes (10 ∷ more) (length bytes) refl in
    let rest : drop (length bytes + 1) (bytes ++ 10 ∷ more) ≡ more = sym (drop-drop 1 (length bytes) (bytes ++ 10 ∷ more)) ∙ ap (drop 1) (drop_at bytes (10 ∷ more) (length bytes) refl) in
    rw (text, long, feed, front, rest) refl

-- ---- words

-- the words of a header line are visible
header_visible : (line : HeaderLine) (n : ℕ) → n < 2 ^ 64 → are_visible (part_words (header line n)) ≡ true
unfolding part_words header_row
header_visible Keep n small = rw (decimal_visible n small) refl
header_visible _ n small = rw (decimal_visible n small) refl

-- a header line's number is small
header_small : (line : HeaderLine) (n : ℕ) → is_in_row (header_row line) n ≡ true → n < 2 ^ 64
unfolding header_row
header_small Keep n e = omega (arith, (in_range 0 4 n e).1)
header_small Tries n e = omega (arith, (in_range 1 8 n e).1)
header_small Limit n e = omega (arith, (in_range 1 200000 n e).1)
header_small MaxPage n e = omega (arith, (in_range 1024 67108864 n e).1)
header_small Cut n e = omega (arith, (in_range 1 65536 n e).1)
header_small Honor n e = omega (arith, (in_range 0 1 n e).1)
header_small Rounds n e = omega (arith, (in_range 1 1000000 n e).1)

-- a header line is read as itself
header_found : (line : HeaderLine) (n : ℕ) → n < 2 ^ 64 → header_in (header_row line).word (decimal n) ≡ Some (header line n)
unfolding header_row header_in header_line_in
header_found Keep n small = rw (number_found most_number n (omega (arith, small)) small) refl
header_found _ n small = rw (number_found most_number n (omega (arith, small)) small) refl

-- ---- target lines

-- the characters of a visible word
word_visible : (most : ℕ) (w : List ℕ) → is_visible_word most w ≡ true → list_all is_visible w ≡ true
word_visible most w e = (and_parts (nat_le 1 (length w) && nat_le (length w) most) (list_all is_visible w) e).1

-- the words of a target line
pub record TargetWords (t : TargetLine) : Type 0 where
  pub job : is_visible_word 256 t.job ≡ true
  pub host : is_visible_word 256 t.host ≡ true
  pub port : is_port t.port ≡ true
  pub path : is_visible_word 256 t.path ≡ true

pub target_words : (t : TargetLine) → is_target_line t ≡ true → TargetWords t
target_words t e =
    let a = and_parts (is_visible_word 256 t.job && is_visible_word 256 t.host && is_port t.port && is_visible_word 256 t.path) (starts_with nat_eq t.path (codes "/")) e in
    let b = and_parts (is_visible_word 256 t.job && is_visible_word 256 t.host && is_port t.port) (is_visible_word 256 t.path) a.0 in
    let c = and_parts (is_visible_word 256 t.job && is_visible_word 256 t.host) (is_port t.port) b.0 in
    let d = and_parts (is_visible_word 256 t.job) (is_visible_word 256 t.host) c.0 in
    record { job = d.0; host = d.1; port = c.1; path = b.1 }

target_visible : (t : TargetLine) → TargetWords t → are_visible (part_words (target t)) ≡ true
unfolding part_words
target_visible t w =
    let place : list_all is_visible (t.host ++ 58 ∷ decimal t.port) ≡ true =
    list_all-append is_visible t.host (58 ∷ decimal t.port) ∙ and_from (list_all is_visible t.host) (list_all is_visible (58 ∷ decimal t.port)) (word_visible 256 t.host w.host) (decimal_visible t.port (port_small t.port w.port)) in
    rw (word_visible 256 t.job w.job, place, word_visible 256 t.path w.path) refl

target_found : (t : TargetLine) → TargetWords t → target_in t.job (t.host ++ (codes ":" ++ decimal t.port)) t.path ≡ Some (target t)
unfolding target_in
target_found t w = rw (place_found 256 t.host t.port w.host w.port) refl

-- ---- records

-- the numbers of a record are small
record_small : (at : ℕ) (bytes : List ℕ) → is_record at bytes ≡ true → (at < 2 ^ 64) × (length bytes < 2 ^ 64)
record_small at bytes e =
    let both = and_parts (nat_lt at (2 ^ 64)) (nat_lt (length bytes) (2 ^ 32)) e in
    let len : length bytes < 2 ^ 32 = ltb-true (length bytes) (2 ^ 32) both.1 in
    (ltb-true at (2 ^ 64) both.0, omega (arith, len))

-- the words of a record are visible where its first and third are
record_visible : (sort form : List ℕ) (at : ℕ) (bytes : List ℕ) → list_all is_visible sort ≡ true → list_all is_visible form ≡ true → is_record at bytes ≡ true
    → are_visible (record_words sort at form bytes) ≡ true
record_visible sort form at bytes one three e =
    let small = record_small at bytes e in rw (one, decimal_visible at small.0, three, decimal_visible (length bytes) small.1) refl

-- a record is read as itself where its words are
record_found : (sort form : List ℕ) (at : ℕ) (bytes more : List ℕ) (p : Part) → is_record at bytes ≡ true → record_in sort at form bytes ≡ Some p
    → record_at sort (decimal at) form (decimal (length bytes)) ((bytes ++ 10 ∷ []) ++ more) ≡ Some (p, more)
unfolding record_at
record_found sort form at bytes more p e is =
    let small = record_small at bytes e in
    rw (number_found most_number at (omega (arith, small.0)) small.0, number_found most_number (length bytes) (omega (arith, small.1)) small.1, body_found bytes more, is) refl

page_in : (at : ℕ) (format : Format) (bytes : List ℕ) → record_in (codes "page") at (format_word format) bytes ≡ Some (page at format bytes)
unfolding record_in format_in
page_in at formats.Text bytes = refl
page_in at formats.OpenMetrics bytes = refl

scrape_in : (at : ℕ) (ending : Ending) (bytes : List ℕ) → record_in (codes "scrape") at (ending_word ending) bytes ≡ Some (scrape at ending bytes)
unfolding record_in ending_in
scrape_in at ConnectFails bytes = refl
scrape_in at _ bytes = refl

post_in : (at : ℕ) (ending : Ending) (bytes : List ℕ) → record_in (codes "post") at (ending_word ending) bytes ≡ Some (post at ending bytes)
unfolding record_in ending_in
post_in at ConnectFails bytes = refl
post_in at _ bytes = refl

format_visible : (format : Format) → list_all is_visible (format_word format) ≡ true
format_visible formats.Text = refl
format_visible formats.OpenMetrics = refl

ending_visible : (ending : Ending) → list_all is_visible (ending_word ending) ≡ true
ending_visible ConnectFails = refl
ending_visible _ = refl

-- ---- parts

-- a line with words and what stands behind it is read as the words say
line_found : (w : List ℕ) (ws : List (List ℕ)) (body more : List ℕ) (p : Part) → are_visible (w ∷ ws) ≡ true → part_with (w ∷ ws) (body ++ more) ≡ Some (p, more)
    → front_part ((head_line (w ∷ ws) ++ body) ++ more) ≡ Some (p, more)
unfolding front_part
line_found w ws body more p all is =
    let text : (head_line (w ∷ ws) ++ body) ++ more ≡ head_line (w ∷ ws) ++ (body ++ more) = append_assoc (head_line (w ∷ ws)) body more in
    rw (text, words_found w ws (body ++ more) all) is

-- a part with right words is read as itself
pub part_found : (p : Part) (more : List ℕ) → is_well_formed p ≡ true → front_part (part_text p ++ more) ≡ Some (p, more)
unfolding is_well_formed part_words part_with header_in target_or_record
part_found opening more e = line_found (codes "bridge-script") (codes "1" ∷ []) [] more opening refl refl
part_found (header line n) more e =
    let small = header_small line n e in
    line_found (header_row line).word (decimal n ∷ []) [] more (header line n) (header_visible line n small) (rw (header_found line n small) refl)
part_found (target t) more e =
    let w = target_words t e in
    line_found (codes "target") (t.job ∷ (t.host ++ (codes ":" ++ decimal t.port)) ∷ t.path ∷ []) [] more (target t) (target_visible t w) (rw (target_found t w) refl)
part_found (page at format bytes) more e =
    line_found (codes "page") (decimal at ∷ format_word format ∷ decimal (length bytes) ∷ []) (bytes ++ 10 ∷ []) more (page at format bytes)
    (record_visible (codes "page") (format_word format) at bytes refl (format_visible format) e)
    (record_found (codes "page") (format_word format) at bytes more (page at format bytes) e (page_in at format bytes))
part_found (scrape at ending bytes) more e =
    line_found (codes "scrape") (decimal at ∷ ending_word ending ∷ decimal (length bytes) ∷ []) (bytes ++ 10 ∷ []) more (scrape at ending bytes)
    (record_visible (codes "scrape") (ending_word ending) at bytes refl (ending_visible ending) e)
    (record_found (codes "scrape") (ending_word ending) at bytes more (scrape at ending bytes) e (scrape_in at ending bytes))
part_found (post at ending bytes) more e =
    line_found (codes "post") (decimal at ∷ ending_word ending ∷ decimal (length bytes) ∷ []) (bytes ++ 10 ∷ []) more (post at ending bytes)
    (record_visible (codes "post") (ending_word ending) at bytes refl (ending_visible ending) e)
    (record_found (codes "post") (ending_word ending) at bytes more (post at ending bytes) e (post_in at ending bytes))

-- ---- a part that may follow has right words

pub well_formed : (earlier : List Part) (p : Part) → may_stand_behind earlier p ≡ true → is_well_formed p ≡ true
unfolding may_stand_behind is_well_formed
well_formed earlier opening e = refl
well_formed earlier (header line n) e = (and_parts (is_next_line line earlier) (is_in_row (header_row line) n) e).1
well_formed earlier (target t) e = (and_parts _ (is_target_line t) (and_parts _ _ e).0).1
well_formed earlier (page at format body) e = (and_parts (has_target (targets_of earlier)) (is_record at body) e).1
well_formed earlier (scrape at ending bytes) e = (and_parts (has_target (targets_of earlier)) (is_record at bytes) (and_parts (has_target (targets_of earlier) && is_record at bytes) (fits_ending ending bytes) e).0).1
well_formed earlier (post at ending bytes) e =
    let room = has_room_for_post (header_number earlier Rounds * header_number earlier Tries) (targets_of earlier) in
    (and_parts room (is_record at bytes) (and_parts (room && is_record at bytes) (fits_ending ending bytes) e).0).1
