-- Every script keeps its ranges and counts.
use Rattle.std.proofs.Common.{◌≡◌, ◌⊎◌, inl, inr, ℕ, zero, suc, ◌*◌, ◌<◌, ◌≤◌, Bool, true, false, not, ◌&&◌, List, [], ◌∷◌, ◌++◌, length, reverse, map, Option, Some, None, is_some, unwrap_or, codes, bytes_eq, refl, sym, ap, subst, ◌∙◌, arith, nat_lt, nat_eq, length-append}
use Rattle.std.specs.List.{AllByRecursion, starts_with, IsDistinct, list_any}
use Rattle.std.specs.Fmt.{decimal}
use Rattle.std.specs.Option.{option_or}
use Rattle.std.proofs.lemmas.Bool.{and_parts, true≢false, eqb-true, ltb-true, not-true, or_parts}
use Rattle.std.proofs.lemmas.Option.{same_Some, none-some}
use Rattle.std.proofs.lemmas.List.{length-reverse}
use Rattle.std.proofs.lemmas.List.Sorted.{IsPermutation-reverse}
use Rattle.std.proofs.lemmas.Map.Keys.{IsDistinct-IsPermutation}
use mathlib.Core.List.{reverse-cons}
use Rattle.label_sets.specs.Lists.{when_true}
use Rattle.label_sets.proofs.Laws.{all-reverse, bytes_eq-swap, all-append}
use Rattle.plain_words.specs.Places.{is_visible_word, is_port}
use Rattle.replay_script.specs.declared.header.Header.{Header}
use Rattle.replay_script.specs.declared.script.ScriptTarget.{ScriptTarget}
use Rattle.bridge_ports.specs.declared.talk.MemoryReply.{MemoryReply}
use Rattle.bridge_ports.specs.declared.talk.End.TheVariants.{ConnectFailed, WriteFailed}
use Rattle.page_model.specs.declared.format.Format.{Format}
use Rattle.replay_script.specs.declared.ending.Ending.{Ending}
use Rattle.replay_script.specs.declared.ending.Ending.TheVariants.{ConnectFails, WriteFails, ReadFails, PeerEnds}
use Rattle.bridge_ports.specs.Targets.{Scraped, have_same_names, most_targets}
use Rattle.replay_script.specs.declared.header.HeaderLine.{HeaderLine}
use Rattle.replay_script.specs.declared.header.HeaderLine.TheVariants.{Keep, Tries, Limit, MaxPage, Cut, Honor, Rounds}
use Rattle.replay_script.specs.HeaderLines.{place_of, header_row, is_in_row}
use Rattle.replay_script.specs.ScriptParts.{TargetLine, Part, opening, header, target, page, scrape, post}
use Rattle.replay_script.specs.ScriptContents.{number_at, written_number, header_number, are_honored, header_of, page_reply, raw_reply, target_of, new_target, with_scrape, with_post, targets_of, script_of}
use Rattle.replay_script.specs.ScriptRules.{is_next_line, has_rounds, is_last_whole, is_target_line, is_record, fits_ending, has_target, has_room_for_post, is_named_before, may_stand_behind, may_end, AreInOrder}
use Rattle.replay_script.proofs.ScriptTargets.{script_target}
use Rattle.replay_script.specs.RightScripts.{IsOver, IsRightReply, IsRightHeader, IsRightTarget, IsRightScript, ScriptsAreRight}

-- ---- header lines

-- the line of a place
line_at : ℕ → HeaderLine
line_at zero = Keep
line_at (suc zero) = Keep
line_at (suc (suc zero)) = Tries
line_at (suc (suc (suc zero))) = Limit
line_at (suc (suc (suc (suc zero)))) = MaxPage
line_at (suc (suc (suc (suc (suc zero))))) = Cut
line_at (suc (suc (suc (suc (suc (suc zero)))))) = Honor
line_at (suc (suc (suc (suc (suc (suc (suc n))))))) = Rounds

at_place : (line : HeaderLine) → line_at (place_of line) ≡ line
unfolding line_at
at_place Keep = refl
at_place _ = refl

-- a place is that of one line
one_place : (a b : HeaderLine) → place_of a ≡ place_of b → a ≡ b
one_place a b e = sym (at_place a) ∙ ap line_at e ∙ at_place b

-- a number that stands among parts in order is in its range
pub in_row : (line : HeaderLine) (parts : List Part) (n : ℕ) → AreInOrder parts → written_number parts line ≡ Some n → is_in_row (header_row line) n ≡ true
unfolding may_stand_behind
in_row line [] n o e = absurd (none-some n e)
in_row line (header other m ∷ earlier) n o e = go (nat_eq (place_of line) (place_of other)) refl (in_row line earlier n o.1)
  where
    go : (b : Bool) → nat_eq (place_of line) (place_of other) ≡ b → (written_number earlier line ≡ Some n → is_in_row (header_row line) n ≡ true) → is_in_row (header_row line) n ≡ true
    go true same rest =
        let first : Some m ≡ Some n = sym (ap (λ b. option_or (when_true b m) (written_number earlier line)) same) ∙ e in
        let both = and_parts (is_next_line other earlier) (is_in_row (header_row other) m) o.0 in
        ap (λ l. is_in_row (header_row l) n) (one_place line other (eqb-true (place_of line) (place_of other) same)) ∙ ap (is_in_row (header_row other)) (sym (same_Some m n first)) ∙ both.1
    go false other_line rest = rest (sym (ap (λ b. option_or (when_true b m) (written_number earlier line)) other_line) ∙ e)
in_row line (opening ∷ earlier) n o e = in_row line earlier n o.1 e
in_row line (target t ∷ earlier) n o e = in_row line earlier n o.1 e
in_row line (page at format body ∷ earlier) n o e = in_row line earlier n o.1 e
in_row line (scrape at ending bytes ∷ earlier) n o e = in_row line earlier n o.1 e
in_row line (post at ending bytes ∷ earlier) n o e = in_row line earlier n o.1 e

-- a record under no target is none
with_scrape_target : (reply : MemoryReply) (ts : List ScriptTarget) → has_target (with_scrape reply ts) ≡ has_target ts
with_scrape_target reply [] = refl
with_scrape_target reply (t ∷ ts) = refl

with_post_target : (reply : MemoryReply) (ts : List ScriptTarget) → has_target (with_post reply ts) ≡ has_target ts
with_post_target reply [] = refl
with_post_target reply (t ∷ ts) = refl

-- a part that is no header line changes no number
or_some : (o p : Option ℕ) → is_some p ≡ true → is_some (option_or o p) ≡ true
or_some (Some n) p e = refl
or_some None p e = e

-- above a target stand the rounds
rounds_above : (parts : List Part) → AreInOrder parts → has_target (targets_of parts) ≡ true → has_rounds parts ≡ true
unfolding may_stand_behind
rounds_above [] o e = absurd (true≢false (sym e))
rounds_above (opening ∷ earlier) o e = rounds_above earlier o.1 e
rounds_above (header other m ∷ earlier) o e = or_some (number_at Rounds (header other m)) (written_number earlier Rounds) (rounds_above earlier o.1 e)
rounds_above (target t ∷ earlier) o e =
    let a = and_parts (has_rounds earlier && is_last_whole (header_number earlier Rounds) (targets_of earlier) && nat_lt (length (targets_of earlier)) most_targets && is_target_line t) (not (is_named_before earlier t)) o.0 in
    let b = and_parts (has_rounds earlier && is_last_whole (header_number earlier Rounds) (targets_of earlier) && nat_lt (length (targets_of earlier)) most_targets) (is_target_line t) a.0 in
    let c = and_parts (has_rounds earlier && is_last_whole (header_number earlier Rounds) (targets_of earlier)) (nat_lt (length (targets_of earlier)) most_targets) b.0 in
    (and_parts (has_rounds earlier) (is_last_whole (header_number earlier Rounds) (targets_of earlier)) c.0).0
rounds_above (page at format body ∷ earlier) o e = rounds_above earlier o.1 (sym (with_scrape_target (page_reply at format body) (targets_of earlier)) ∙ e)
rounds_above (scrape at ending bytes ∷ earlier) o e = rounds_above earlier o.1 (sym (with_scrape_target (raw_reply at ending bytes) (targets_of earlier)) ∙ e)
rounds_above (post at ending bytes ∷ earlier) o e = rounds_above earlier o.1 (sym (with_post_target (raw_reply at ending bytes) (targets_of earlier)) ∙ e)

-- the number of a line is in its range, where it stands there or has a default in range
number_right : (line : HeaderLine) (parts : List Part) → AreInOrder parts → (written_number parts line ≡ None → is_in_row (header_row line) (unwrap_or (header_row line).default 0) ≡ true)
    → is_in_row (header_row line) (header_number parts line) ≡ true
number_right line parts o default = go (written_number parts line) refl
  where
    go : (found : Option ℕ) → written_number parts line ≡ found → is_in_row (header_row line) (header_number parts line) ≡ true
    go (Some n) e = ap (λ f. is_in_row (header_row line) (unwrap_or f (unwrap_or (header_row line).default 0))) e ∙ in_row line parts n o e
    go None e = ap (λ f. is_in_row (header_row line) (unwrap_or f (unwrap_or (header_row line).default 0))) e ∙ default e

-- the header of parts that may end is right
pub header_right : (parts : List Part) → AreInOrder parts → may_end parts ≡ true → IsRightHeader (header_of parts)
unfolding header_of header_row may_end
header_right parts o ends =
    let some = rounds_above parts o (and_parts (has_target (targets_of parts)) (is_last_whole (header_number parts Rounds) (targets_of parts)) ends).0 in
    record {
      keep = number_right Keep parts o (λ _. refl);
      tries = number_right Tries parts o (λ _. refl);
      limit = number_right Limit parts o (λ _. refl);
      max_page = number_right MaxPage parts o (λ _. refl);
      cut = number_right Cut parts o (λ _. refl);
      rounds = number_right Rounds parts o (λ none. absurd (true≢false (sym some ∙ ap is_some none)));
    }

-- ---- how many targets

with_scrape_length : (reply : MemoryReply) (ts : List ScriptTarget) → length (with_scrape reply ts) ≡ length ts
with_scrape_length reply [] = refl
with_scrape_length reply (t ∷ ts) = refl

with_post_length : (reply : MemoryReply) (ts : List ScriptTarget) → length (with_post reply ts) ≡ length ts
with_post_length reply [] = refl
with_post_length reply (t ∷ ts) = refl

-- no more than there may be
pub few_targets : (parts : List Part) → AreInOrder parts → length (targets_of parts) ≤ most_targets
unfolding may_stand_behind
few_targets [] o = omega arith
few_targets (opening ∷ earlier) o = few_targets earlier o.1
few_targets (header line n ∷ earlier) o = few_targets earlier o.1
few_targets (target t ∷ earlier) o =
    let a = and_parts (has_rounds earlier && is_last_whole (header_number earlier Rounds) (targets_of earlier) && nat_lt (length (targets_of earlier)) most_targets && is_target_line t) (not (is_named_before earlier t)) o.0 in
    let b = and_parts (has_rounds earlier && is_last_whole (header_number earlier Rounds) (targets_of earlier) && nat_lt (length (targets_of earlier)) most_targets) (is_target_line t) a.0 in
    let c = and_parts (has_rounds earlier && is_last_whole (header_number earlier Rounds) (targets_of earlier)) (nat_lt (length (targets_of earlier)) most_targets) b.0 in
    let less : length (targets_of earlier) < most_targets = ltb-true (length (targets_of earlier)) most_targets c.1 in
    omega (arith, less)
few_targets (page at format body ∷ earlier) o = omega (arith, few_targets earlier o.1, with_scrape_length (page_reply at format body) (targets_of earlier))
few_targets (scrape at ending bytes ∷ earlier) o = omega (arith, few_targets earlier o.1, with_scrape_length (raw_reply at ending bytes) (targets_of earlier))
few_targets (post at ending bytes ∷ earlier) o = omega (arith, few_targets earlier o.1, with_post_length (raw_reply at ending bytes) (targets_of earlier))

-- ---- what each target keeps

-- how many posts a target may have
abbrev most_posts : List Part → ℕ
most_posts parts = header_number parts Rounds * header_number parts Tries

-- a target's words and replies are right, its times of pages count just where they are to, and it has no more posts than these
record IsSound (most : ℕ) (honored : Bool) (t : ScriptTarget) : Type 0 where
  instance : t.target.instance ≡ t.target.address.host ++ (codes ":" ++ decimal t.target.address.port)
  job : is_visible_word 256 t.target.job ≡ true
  host : is_visible_word 256 t.target.address.host ≡ true
  port : is_port t.target.address.port ≡ true
  path : is_visible_word 256 t.target.address.path ≡ true
  honor : t.target.honor ≡ honored
  replies : AllByRecursion IsRightReply t.scrapes
  posts : length t.posts ≤ most
  post_replies : AllByRecursion IsRightReply t.posts

-- no target stands above a header line
no_target_yet : (line : HeaderLine) (earlier : List Part) → is_next_line line earlier ≡ true → AreInOrder earlier → targets_of earlier ≡ []
unfolding may_stand_behind
no_target_yet line [] next o = refl
no_target_yet line (opening ∷ []) next o = refl
no_target_yet line (opening ∷ p ∷ earlier) next o = absurd (true≢false (sym o.0))
no_target_yet line (header other m ∷ earlier) next o = no_target_yet other earlier (and_parts (is_next_line other earlier) (is_in_row (header_row other) m) o.0).0 o.1
no_target_yet line (target t ∷ earlier) next o = absurd (true≢false (sym next))
no_target_yet line (page at format body ∷ earlier) next o = absurd (true≢false (sym next))
no_target_yet line (scrape at ending bytes ∷ earlier) next o = absurd (true≢false (sym next))
no_target_yet line (post at ending bytes ∷ earlier) next o = absurd (true≢false (sym next))

-- a new target is sound
new_sound : (most : ℕ) (earlier : List Part) (t : TargetLine) → is_target_line t ≡ true → IsSound most (are_honored earlier) (new_target earlier t)
new_sound most earlier t e =
    let a = and_parts (is_visible_word 256 t.job && is_visible_word 256 t.host && is_port t.port && is_visible_word 256 t.path) (starts_with nat_eq t.path (codes "/")) e in
    let b = and_parts (is_visible_word 256 t.job && is_visible_word 256 t.host && is_port t.port) (is_visible_word 256 t.path) a.0 in
    let c = and_parts (is_visible_word 256 t.job && is_visible_word 256 t.host) (is_port t.port) b.0 in
    let d = and_parts (is_visible_word 256 t.job) (is_visible_word 256 t.host) c.0 in
    record { instance = refl; job = d.0; host = d.1; port = c.1; path = b.1; honor = refl; replies = tt; posts = omega arith; post_replies = tt }

-- the replies of records end by themselves
page_over : (at : ℕ) (format : Format) (body : List ℕ) → IsOver (page_reply at format body)
page_over at format body e = absurd cc

raw_over : (at : ℕ) (ending : Ending) (bytes : List ℕ) → IsOver (raw_reply at ending bytes)
raw_over at ConnectFails bytes e = absurd cc
raw_over at _ bytes e = absurd cc

-- a list of no bytes
no_bytes : (bytes : List ℕ) → nat_eq (length bytes) 0 ≡ true → bytes ≡ []
no_bytes [] e = refl
no_bytes (b ∷ bytes) e = let none : length (b ∷ bytes) ≡ 0 = eqb-true (length (b ∷ bytes)) 0 e in absurd (omega (arith, none))

-- a reply that fails before a byte comes
abbrev IsSilent : MemoryReply → Type 0
IsSilent reply = (reply.end ≡ ConnectFailed) ⊎ (reply.end ≡ WriteFailed)

-- there it has no bytes
page_silent : (at : ℕ) (format : Format) (body : List ℕ) → IsSilent (page_reply at format body) → (page_reply at format body).got ≡ []
page_silent at format body (inl e) = absurd cc
page_silent at format body (inr e) = absurd cc

raw_silent : (at : ℕ) (ending : Ending) (bytes : List ℕ) → fits_ending ending bytes ≡ true → IsSilent (raw_reply at ending bytes) → bytes ≡ []
raw_silent at ConnectFails bytes fits e = no_bytes bytes fits
raw_silent at WriteFails bytes fits e = no_bytes bytes fits
raw_silent at ReadFails bytes fits (inl e) = absurd cc
raw_silent at ReadFails bytes fits (inr e) = absurd cc
raw_silent at PeerEnds bytes fits (inl e) = absurd cc
raw_silent at PeerEnds bytes fits (inr e) = absurd cc

-- the replies of records are right
pub page_right : (at : ℕ) (format : Format) (body : List ℕ) → IsRightReply (page_reply at format body)
page_right at format body = record { over = page_over at format body; silent = page_silent at format body }

pub raw_right : (at : ℕ) (ending : Ending) (bytes : List ℕ) → fits_ending ending bytes ≡ true → IsRightReply (raw_reply at ending bytes)
raw_right at ending bytes fits = record { over = raw_over at ending bytes; silent = raw_silent at ending bytes fits }

sound_scrape : (most : ℕ) (honored : Bool) (reply : MemoryReply) (ts : List ScriptTarget) → IsRightReply reply → AllByRecursion (IsSound most honored) ts
    → AllByRecursion (IsSound most honored) (with_scrape reply ts)
sound_scrape most honored reply [] is all = tt
sound_scrape most honored reply (t ∷ ts) is all =
    let h = all.0 in
    let replies = all-append IsRightReply t.scrapes (reply ∷ []) h.replies (is, tt) in
    (record { instance = h.instance; job = h.job; host = h.host; port = h.port; path = h.path; honor = h.honor; replies = replies; posts = h.posts; post_replies = h.post_replies }, all.1)

sound_post : (most : ℕ) (honored : Bool) (reply : MemoryReply) (ts : List ScriptTarget) → has_room_for_post most ts ≡ true → IsRightReply reply → AllByRecursion (IsSound most honored) ts
    → AllByRecursion (IsSound most honored) (with_post reply ts)
sound_post most honored reply [] room is all = tt
sound_post most honored reply (t ∷ ts) room is all =
    let h = all.0 in
    let less : length t.posts < most = ltb-true (length t.posts) most room in
    let post_replies = all-append IsRightReply t.posts (reply ∷ []) h.post_replies (is, tt) in
    let posts : length (t.posts ++ reply ∷ []) ≤ most = omega (arith, less, length-append t.posts (reply ∷ [])) in
    (record { instance = h.instance; job = h.job; host = h.host; port = h.port; path = h.path; honor = h.honor; replies = h.replies; posts = posts; post_replies = post_replies }, all.1)

-- the parts of what a target line needs
record TargetNeeds (earlier : List Part) (t : TargetLine) : Type 0 where
  rounds : has_rounds earlier ≡ true
  whole : is_last_whole (header_number earlier Rounds) (targets_of earlier) ≡ true
  few : nat_lt (length (targets_of earlier)) most_targets ≡ true
  words : is_target_line t ≡ true
  new : not (is_named_before earlier t) ≡ true

needs : (earlier : List Part) (t : TargetLine) → may_stand_behind earlier (target t) ≡ true → TargetNeeds earlier t
unfolding may_stand_behind
needs earlier t e =
    let a = and_parts (has_rounds earlier && is_last_whole (header_number earlier Rounds) (targets_of earlier) && nat_lt (length (targets_of earlier)) most_targets && is_target_line t) (not (is_named_before earlier t)) e in
    let b = and_parts (has_rounds earlier && is_last_whole (header_number earlier Rounds) (targets_of earlier) && nat_lt (length (targets_of earlier)) most_targets) (is_target_line t) a.0 in
    let c = and_parts (has_rounds earlier && is_last_whole (header_number earlier Rounds) (targets_of earlier)) (nat_lt (length (targets_of earlier)) most_targets) b.0 in
    let d = and_parts (has_rounds earlier) (is_last_whole (header_number earlier Rounds) (targets_of earlier)) c.0 in
    record { rounds = d.0; whole = d.1; few = c.1; words = b.1; new = a.1 }

-- all targets are sound
sound_targets : (parts : List Part) → AreInOrder parts → AllByRecursion (IsSound (most_posts parts) (are_honored parts)) (targets_of parts)
unfolding may_stand_behind
sound_targets [] o = tt
sound_targets (opening ∷ earlier) o = sound_targets earlier o.1
sound_targets (header line n ∷ earlier) o =
    let none = no_target_yet line earlier (and_parts (is_next_line line earlier) (is_in_row (header_row line) n) o.0).0 o.1 in
    subst (AllByRecursion (IsSound (most_posts (header line n ∷ earlier)) (are_honored (header line n ∷ earlier)))) (sym none) tt
sound_targets (target t ∷ earlier) o = (new_sound (most_posts earlier) earlier t (needs earlier t o.0).words, sound_targets earlier o.1)
sound_targets (page at format body ∷ earlier) o = sound_scrape (most_posts earlier) (are_honored earlier) (page_reply at format body) (targets_of earlier) (page_right at format body) (sound_targets earlier o.1)
sound_targets (scrape at ending bytes ∷ earlier) o =
    let fits = (and_parts (has_target (targets_of earlier) && is_record at bytes) (fits_ending ending bytes) o.0).1 in
    sound_scrape (most_posts earlier) (are_honored earlier) (raw_reply at ending bytes) (targets_of earlier) (raw_right at ending bytes fits) (sound_targets earlier o.1)
sound_targets (post at ending bytes ∷ earlier) o =
    let room = has_room_for_post (most_posts earlier) (targets_of earlier) in
    let both = and_parts (room && is_record at bytes) (fits_ending ending bytes) o.0 in
    let room_there : room ≡ true = (and_parts room (is_record at bytes) both.0).0 in
    sound_post (most_posts earlier) (are_honored earlier) (raw_reply at ending bytes) (targets_of earlier) room_there (raw_right at ending bytes both.1) (sound_targets earlier o.1)

-- a target with one scrape for each round
abbrev IsWhole : ℕ → ScriptTarget → Type 0
IsWhole rounds t = length t.scrapes ≡ rounds

-- all but the last
abbrev closed_targets : List ScriptTarget → List ScriptTarget
closed_targets [] = []
closed_targets (last ∷ others) = others

-- where the last target is whole too, all are
all_whole : (rounds : ℕ) (ts : List ScriptTarget) → is_last_whole rounds ts ≡ true → AllByRecursion (IsWhole rounds) (closed_targets ts) → AllByRecursion (IsWhole rounds) ts
all_whole rounds [] last others = tt
all_whole rounds (t ∷ ts) last others = (eqb-true (length t.scrapes) rounds last, others)

closed_scrape : (rounds : ℕ) (reply : MemoryReply) (ts : List ScriptTarget) → AllByRecursion (IsWhole rounds) (closed_targets ts) → AllByRecursion (IsWhole rounds) (closed_targets (with_scrape reply ts))
closed_scrape rounds reply [] all = tt
closed_scrape rounds reply (t ∷ ts) all = all

closed_post : (rounds : ℕ) (reply : MemoryReply) (ts : List ScriptTarget) → AllByRecursion (IsWhole rounds) (closed_targets ts) → AllByRecursion (IsWhole rounds) (closed_targets (with_post reply ts))
closed_post rounds reply [] all = tt
closed_post rounds reply (t ∷ ts) all = all

-- all targets but the last are whole
closed_whole : (parts : List Part) → AreInOrder parts → AllByRecursion (IsWhole (header_number parts Rounds)) (closed_targets (targets_of parts))
unfolding may_stand_behind
closed_whole [] o = tt
closed_whole (opening ∷ earlier) o = closed_whole earlier o.1
closed_whole (header line n ∷ earlier) o =
    let none = no_target_yet line earlier (and_parts (is_next_line line earlier) (is_in_row (header_row line) n) o.0).0 o.1 in
    subst (λ ts. AllByRecursion (IsWhole (header_number (header line n ∷ earlier) Rounds)) (closed_targets ts)) (sym none) tt
closed_whole (target t ∷ earlier) o = all_whole (header_number earlier Rounds) (targets_of earlier) (needs earlier t o.0).whole (closed_whole earlier o.1)
closed_whole (page at format body ∷ earlier) o = closed_scrape (header_number earlier Rounds) (page_reply at format body) (targets_of earlier) (closed_whole earlier o.1)
closed_whole (scrape at ending bytes ∷ earlier) o = closed_scrape (header_number earlier Rounds) (raw_reply at ending bytes) (targets_of earlier) (closed_whole earlier o.1)
closed_whole (post at ending bytes ∷ earlier) o = closed_post (header_number earlier Rounds) (raw_reply at ending bytes) (targets_of earlier) (closed_whole earlier o.1)

-- sound and whole targets are right
right_targets : (h : Header) (ts : List ScriptTarget) → AllByRecursion (IsSound (h.rounds * h.tries) h.honor) ts → AllByRecursion (IsWhole h.rounds) ts → AllByRecursion (IsRightTarget h) ts
right_targets h [] sound whole = tt
right_targets h (t ∷ ts) sound whole =
    let s = sound.0 in (record { scraped = script_target (t.target) s.instance s.job s.host s.port; job = s.job; host = s.host; port = s.port; path = s.path; honor = s.honor; scrapes = whole.0; replies = s.replies; posts = s.posts; post_replies = s.post_replies }, right_targets h ts sound.1 whole.1)

-- ---- names

-- the target of a script's target
abbrev target_in : ScriptTarget → Scraped
target_in t = t.target

names_flip : (a b : Scraped) → have_same_names a b ≡ have_same_names b a
names_flip a b = ap (λ x. x && bytes_eq a.instance b.instance) (bytes_eq-swap a.job b.job) ∙ ap (λ x. bytes_eq b.job a.job && x) (bytes_eq-swap a.instance b.instance)

-- none of the targets has the new one's names
none_named : (new : Scraped) (ts : List ScriptTarget) → list_any (λ (other : ScriptTarget). have_same_names new other.target) ts ≡ false → AllByRecursion (λ y. have_same_names new y ≡ false) (map target_in ts)
none_named new [] e = tt
none_named new (t ∷ ts) e = let both = or_parts (have_same_names new t.target) (list_any (λ (other : ScriptTarget). have_same_names new other.target) ts) e in (both.0, none_named new ts both.1)

scrape_names : (reply : MemoryReply) (ts : List ScriptTarget) → map target_in (with_scrape reply ts) ≡ map target_in ts
scrape_names reply [] = refl
scrape_names reply (t ∷ ts) = refl

post_names : (reply : MemoryReply) (ts : List ScriptTarget) → map target_in (with_post reply ts) ≡ map target_in ts
post_names reply [] = refl
post_names reply (t ∷ ts) = refl

-- no two targets have one job and one instance
distinct_names : (parts : List Part) → AreInOrder parts → IsDistinct have_same_names (map target_in (targets_of parts))
unfolding IsDistinct
distinct_names [] o = tt
distinct_names (opening ∷ earlier) o = distinct_names earlier o.1
distinct_names (header line n ∷ earlier) o = distinct_names earlier o.1
distinct_names (target t ∷ earlier) o = (none_named (target_of earlier t) (targets_of earlier) (not-true _ (needs earlier t o.0).new), distinct_names earlier o.1)
distinct_names (page at format body ∷ earlier) o = subst (IsDistinct have_same_names) (sym (scrape_names (page_reply at format body) (targets_of earlier))) (distinct_names earlier o.1)
distinct_names (scrape at ending bytes ∷ earlier) o = subst (IsDistinct have_same_names) (sym (scrape_names (raw_reply at ending bytes) (targets_of earlier))) (distinct_names earlier o.1)
distinct_names (post at ending bytes ∷ earlier) o = subst (IsDistinct have_same_names) (sym (post_names (raw_reply at ending bytes) (targets_of earlier))) (distinct_names earlier o.1)

map_append : (xs ys : List ScriptTarget) → map target_in (xs ++ ys) ≡ map target_in xs ++ map target_in ys
map_append [] ys = refl
map_append (x ∷ xs) ys = ap (λ t. target_in x ∷ t) (map_append xs ys)

map_reverse : (xs : List ScriptTarget) → map target_in (reverse xs) ≡ reverse (map target_in xs)
map_reverse [] = refl
map_reverse (x ∷ xs) = ap (map target_in) (reverse-cons x xs) ∙ map_append (reverse xs) (x ∷ []) ∙ ap (λ t. t ++ target_in x ∷ []) (map_reverse xs) ∙ sym (reverse-cons (target_in x) (map target_in xs))

-- ---- scripts

-- some target is one at least
some_length : (ts : List ScriptTarget) → has_target ts ≡ true → 1 ≤ length ts
some_length [] e = absurd (true≢false (sym e))
some_length (t ∷ ts) e = omega arith

-- what parts say is right where a script may end behind them
right_of_parts : (parts : List Part) → AreInOrder parts → may_end parts ≡ true → IsRightScript (script_of parts)
unfolding header_of may_end
right_of_parts parts o ends =
    let both = and_parts (has_target (targets_of parts)) (is_last_whole (header_number parts Rounds) (targets_of parts)) ends in
    let whole = all_whole (header_number parts Rounds) (targets_of parts) both.1 (closed_whole parts o) in
    let names = IsDistinct-IsPermutation have_same_names names_flip (map target_in (targets_of parts)) (reverse (map target_in (targets_of parts))) (IsPermutation-reverse (map target_in (targets_of parts))) (distinct_names parts o) in
    record {
      header = header_right parts o ends;
      some_target = omega (arith, some_length (targets_of parts) both.0, length-reverse (targets_of parts));
      few_targets = omega (arith, few_targets parts o, length-reverse (targets_of parts));
      targets = all-reverse (IsRightTarget (header_of parts)) (targets_of parts) (right_targets (header_of parts) (targets_of parts) (sound_targets parts o) whole);
      names = subst (IsDistinct have_same_names) (sym (map_reverse (targets_of parts))) names;
    }

-- every script is right
pub scripts_are_right : ScriptsAreRight
scripts_are_right bytes script is = subst IsRightScript (sym is.says) (right_of_parts is.parts is.in_order is.ends)
