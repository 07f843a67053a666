-- What is kept of the parts answers for the opening line, header lines and target lines: which may follow, and what they say.
use Rattle.std.proofs.Common.{◌≡◌, ◌≢◌, ℕ, ◌^◌, ◌<◌, ◌≤◌, Bool, true, false, not, ◌&&◌, List, [], ◌∷◌, ◌++◌, length, Option, Some, None, is_some, unwrap_or, reverse, refl, sym, ap, ◌∙◌, arith, nat_lt, nat_eq}
use Rattle.std.proofs.lemmas.Bool.{and_from, eq-eqb, ne_eqb, lt-ltb, le-ltb, true≢false}
use Rattle.std.proofs.lemmas.List.{length-reverse}
use Rattle.std.proofs.lemmas.List.Sorted.{IsPermutation-reverse, list_any-IsPermutation}
use Rattle.std.proofs.lemmas.Option.{none-some}
use Rattle.std.proofs.Math.Bool.{and-false}
use Rattle.plain_words.proofs.Laws.{in_range}
use Rattle.bridge_ports.specs.Targets.{Scraped, have_same_names, most_targets}
use Rattle.replay_script.specs.declared.header.Header.{Header}
use Rattle.replay_script.specs.declared.header.HeaderLine.{HeaderLine}
use Rattle.replay_script.specs.declared.header.HeaderLine.TheVariants.{Keep, Tries, Limit, MaxPage, Cut, Honor, Rounds}
use Rattle.bridge_ports.specs.declared.talk.MemoryReply.{MemoryReply}
use Rattle.replay_script.specs.declared.script.ScriptTarget.{ScriptTarget}
use Rattle.replay_script.specs.declared.progress.Progress.{Progress}
use Rattle.replay_script.specs.HeaderLines.{header_row, place_of, is_in_row}
use Rattle.replay_script.specs.ScriptParts.{TargetLine, Part, opening, header, target, page, scrape, post}
use Rattle.replay_script.specs.ScriptContents.{header_of, header_number, written_number, are_honored, line_target, target_of, new_target, targets_of}
use Rattle.replay_script.specs.ScriptRules.{may_stand_behind, is_next_line, has_rounds, is_last_whole, is_target_line, has_namesake, is_named_before, AreInOrder}
use Rattle.replay_script.specs.Progresses.{place_behind, with_header_number, target_read, targets_read, has_whole_target, Knows, IsClosed, TakesPart}
use Rattle.replay_script.proofs.RightLaws.{in_row}

-- ---- the opening line

-- it stands in front of all
opens : (earlier : List Part) → may_stand_behind earlier opening ≡ nat_eq (place_behind earlier) 8
unfolding may_stand_behind
opens [] = refl
opens (opening ∷ earlier) = refl
opens (header Keep n ∷ earlier) = refl
opens (header Tries n ∷ earlier) = refl
opens (header Limit n ∷ earlier) = refl
opens (header MaxPage n ∷ earlier) = refl
opens (header Cut n ∷ earlier) = refl
opens (header Honor n ∷ earlier) = refl
opens (header Rounds n ∷ earlier) = refl
opens (target t ∷ earlier) = refl
opens (page at format body ∷ earlier) = refl
opens (scrape at ending bytes ∷ earlier) = refl
opens (post at ending bytes ∷ earlier) = refl

-- a part that is refused
pub refused : (p : Part) (old new : Progress) → ((earlier : List Part) → AreInOrder earlier → Knows earlier old → may_stand_behind earlier p ≡ false) → TakesPart p old new false
refused p old new fails earlier o k = (sym (fails earlier o k), λ e. absurd (true≢false (sym e)))

pub opening_refused : (old new : Progress) → old.place ≢ 8 → TakesPart opening old new false
opening_refused old new other = refused opening old new (λ earlier o k. opens earlier ∙ ne_eqb (place_behind earlier) 8 (λ e. other (k.place ∙ e)))

-- what is kept of targets stays
same_read : (old new : Progress) → new.target ≡ old.target → new.scrapes.items ≡ old.scrapes.items → new.posts.items ≡ old.posts.items → new.finished.items ≡ old.finished.items
    → targets_read old ≡ targets_read new
same_read old new same_target same_scrapes same_posts same_finished =
    sym (ap (λ t. target_read t new.scrapes.items new.posts.items ++ reverse new.finished.items) same_target
    ∙ ap (λ rs. target_read old.target rs new.posts.items ++ reverse new.finished.items) same_scrapes
    ∙ ap (λ rs. target_read old.target old.scrapes.items rs ++ reverse new.finished.items) same_posts
    ∙ ap (λ ts. target_read old.target old.scrapes.items old.posts.items ++ reverse ts) same_finished)

-- the opening line has no number
header_opened : (earlier : List Part) → header_of earlier ≡ header_of (opening ∷ earlier)
unfolding header_of
header_opened earlier = refl

pub opening_taken : (old new : Progress) → old.place ≡ 8 → new.place ≡ 0 → new.header ≡ old.header → new.target ≡ old.target → new.scrapes.items ≡ old.scrapes.items → new.posts.items ≡ old.posts.items → new.finished.items ≡ old.finished.items → TakesPart opening old new true
opening_taken old new is place same_header same_target same_scrapes same_posts same_finished earlier o k = (
  sym (opens earlier ∙ eq-eqb (place_behind earlier) 8 (sym k.place ∙ is)),
  λ _. record {
    place = place;
    header = same_header ∙ k.header ∙ header_opened earlier;
    targets = k.targets ∙ same_read old new same_target same_scrapes same_posts same_finished;
    none_finished = λ none. same_finished ∙ k.none_finished (sym same_target ∙ none);
  },
)

-- ---- header lines

below_eight : (line : HeaderLine) → nat_lt 8 (place_of line) ≡ false
below_eight Keep = refl
below_eight _ = refl

below_seven : (line : HeaderLine) → nat_lt 7 (place_of line) ≡ false
below_seven Keep = refl
below_seven _ = refl

above_none : (line : HeaderLine) → nat_lt 0 (place_of line) ≡ true
above_none Keep = refl
above_none _ = refl

-- a line is next where its place is greater
next_is : (line : HeaderLine) (earlier : List Part) → is_next_line line earlier ≡ nat_lt (place_behind earlier) (place_of line)
next_is line [] = sym (below_eight line)
next_is line (opening ∷ earlier) = sym (above_none line)
next_is line (header other n ∷ earlier) = refl
next_is line (target t ∷ earlier) = sym (below_seven line)
next_is line (page at format body ∷ earlier) = sym (below_seven line)
next_is line (scrape at ending bytes ∷ earlier) = sym (below_seven line)
next_is line (post at ending bytes ∷ earlier) = sym (below_seven line)

pub not_next : (line : HeaderLine) (n : ℕ) (old new : Progress) → place_of line ≤ old.place → TakesPart (header line n) old new false
unfolding may_stand_behind
not_next line n old new less = refused (header line n) old new (λ earlier o k.
    ap (λ b. b && is_in_row (header_row line) n) (next_is line earlier ∙ ap (λ p. nat_lt p (place_of line)) (sym k.place) ∙ le-ltb old.place (place_of line) less))

pub not_in_row : (line : HeaderLine) (n : ℕ) (old new : Progress) → is_in_row (header_row line) n ≡ false → TakesPart (header line n) old new false
unfolding may_stand_behind
not_in_row line n old new fails = refused (header line n) old new (λ earlier o k. ap (λ b. is_next_line line earlier && b) fails ∙ and-false (is_next_line line earlier))

-- the header with the number of a line more
header_more : (line : HeaderLine) (n : ℕ) (earlier : List Part) → with_header_number line n (header_of earlier) ≡ header_of (header line n ∷ earlier)
unfolding header_of
header_more Keep n earlier = refl
header_more _ n earlier = refl

pub header_taken : (line : HeaderLine) (n : ℕ) (old new : Progress) → old.place < place_of line → is_in_row (header_row line) n ≡ true → new.place ≡ place_of line → new.header ≡ with_header_number line n old.header
    → new.target ≡ old.target → new.scrapes.items ≡ old.scrapes.items → new.posts.items ≡ old.posts.items → new.finished.items ≡ old.finished.items → TakesPart (header line n) old new true
unfolding may_stand_behind
header_taken line n old new less in_its_row place numbered same_target same_scrapes same_posts same_finished earlier o k = (
  sym (and_from (is_next_line line earlier) (is_in_row (header_row line) n) (next_is line earlier ∙ ap (λ p. nat_lt p (place_of line)) (sym k.place) ∙ lt-ltb old.place (place_of line) less) in_its_row),
  λ _. record {
    place = place;
    header = numbered ∙ ap (with_header_number line n) k.header ∙ header_more line n earlier;
    targets = k.targets ∙ same_read old new same_target same_scrapes same_posts same_finished;
    none_finished = λ none. same_finished ∙ k.none_finished (sym same_target ∙ none);
  },
)

-- a header line's number is small
pub row_small : (line : HeaderLine) (n : ℕ) → is_in_row (header_row line) n ≡ true → n < 2 ^ 32
unfolding header_row
row_small Keep n e = omega (arith, (in_range 0 4 n e).1)
row_small Tries n e = omega (arith, (in_range 1 8 n e).1)
row_small Limit n e = omega (arith, (in_range 1 200000 n e).1)
row_small MaxPage n e = omega (arith, (in_range 1024 67108864 n e).1)
row_small Cut n e = omega (arith, (in_range 1 65536 n e).1)
row_small Honor n e = omega (arith, (in_range 0 1 n e).1)
row_small Rounds n e = omega (arith, (in_range 1 1000000 n e).1)

-- ---- target lines

-- the number of rounds is 0 where it isn't written
rounds_of : (earlier : List Part) → (header_of earlier).rounds ≡ unwrap_or (written_number earlier Rounds) 0
unfolding header_of header_row
rounds_of earlier = refl

no_rounds : (earlier : List Part) → AreInOrder earlier → (header_of earlier).rounds ≡ 0 → has_rounds earlier ≡ false
unfolding header_row
no_rounds earlier o none = go (written_number earlier Rounds) refl
  where
    go : (found : Option ℕ) → written_number earlier Rounds ≡ found → has_rounds earlier ≡ false
    go None e = ap is_some e
    go (Some n) e =
        let zero_is : n ≡ 0 = sym (ap (λ f. unwrap_or f 0) e) ∙ sym (rounds_of earlier) ∙ none in
        let low : 1 ≤ n = (in_range 1 1000000 n (in_row Rounds earlier n o e)).0 in
        absurd (omega (arith, low, zero_is))

some_rounds : (earlier : List Part) → (header_of earlier).rounds ≢ 0 → has_rounds earlier ≡ true
some_rounds earlier some = go (written_number earlier Rounds) refl
  where
    go : (found : Option ℕ) → written_number earlier Rounds ≡ found → has_rounds earlier ≡ true
    go None e = absurd (some (rounds_of earlier ∙ ap (λ f. unwrap_or f 0) e))
    go (Some n) e = ap is_some e

false_and : (a b c d e : Bool) → a ≡ false → (a && b && c && d && e) ≡ false
false_and a b c d e fails = ap (λ x. x && b && c && d && e) fails

second_false : (a b c d e : Bool) → b ≡ false → (a && b && c && d && e) ≡ false
second_false a b c d e fails = ap (λ x. a && x && c && d && e) fails ∙ ap (λ x. x && c && d && e) (and-false a)

third_false : (a b c d e : Bool) → c ≡ false → (a && b && c && d && e) ≡ false
third_false a b c d e fails = ap (λ x. a && b && x && d && e) fails ∙ ap (λ x. x && d && e) (and-false (a && b))

fourth_false : (a b c d e : Bool) → d ≡ false → (a && b && c && d && e) ≡ false
fourth_false a b c d e fails = ap (λ x. a && b && c && x && e) fails ∙ ap (λ x. x && e) (and-false (a && b && c))

fifth_false : (a b c d e : Bool) → e ≡ false → (a && b && c && d && e) ≡ false
fifth_false a b c d e fails = ap (λ x. a && b && c && d && x) fails ∙ and-false (a && b && c && d)

all_five : (a b c d e : Bool) → a ≡ true → b ≡ true → c ≡ true → d ≡ true → e ≡ true → (a && b && c && d && e) ≡ true
all_five a b c d e v w x y z = and_from (a && b && c && d) e (and_from (a && b && c) d (and_from (a && b) c (and_from a b v w) x) y) z

pub no_rounds_yet : (t : TargetLine) (old new : Progress) → old.header.rounds ≡ 0 → TakesPart (target t) old new false
unfolding may_stand_behind
no_rounds_yet t old new none = refused (target t) old new (λ earlier o k.
    false_and (has_rounds earlier) _ _ _ _ (no_rounds earlier o (sym (ap (λ (h : Header). h.rounds) k.header) ∙ none)))

-- the rounds of the header
pub header_rounds : (parts : List Part) → (header_of parts).rounds ≡ header_number parts Rounds
unfolding header_of
header_rounds parts = refl

-- the last target is the one that records belong to
last_read : (rounds : ℕ) (o : Option Scraped) (scrapes posts : List MemoryReply) (ts : List ScriptTarget) → (o ≡ None → ts ≡ [])
    → is_last_whole rounds (target_read o scrapes posts ++ reverse ts) ≡ is_last_whole rounds (target_read o scrapes posts)
last_read rounds None scrapes posts ts none = ap (λ us. is_last_whole rounds (reverse us)) (none refl)
last_read rounds (Some t) scrapes posts ts none = refl

pub last_known : (earlier : List Part) (p : Progress) → Knows earlier p → is_last_whole (header_number earlier Rounds) (targets_of earlier) ≡ has_whole_target p
last_known earlier p k =
    ap (λ n. is_last_whole n (targets_of earlier)) (sym (ap (λ (h : Header). h.rounds) k.header ∙ header_rounds earlier)) ∙ ap (is_last_whole p.header.rounds) k.targets
    ∙ last_read p.header.rounds p.target p.scrapes.items p.posts.items p.finished.items k.none_finished

pub scrapes_missing : (t : TargetLine) (old new : Progress) → has_whole_target old ≡ false → TakesPart (target t) old new false
unfolding may_stand_behind
scrapes_missing t old new fails = refused (target t) old new (λ earlier o k. second_false (has_rounds earlier) _ _ _ _ (last_known earlier old k ∙ fails))

-- the targets above are those that are finished, once the last is closed
above_known : (earlier : List Part) (old closed : Progress) → Knows earlier old → IsClosed old closed → targets_of earlier ≡ reverse closed.finished.items
above_known earlier old closed k is = k.targets ∙ sym is.targets

pub too_many_targets : (t : TargetLine) (old closed : Progress) → IsClosed old closed → most_targets ≤ length closed.finished.items → TakesPart (target t) old closed false
unfolding may_stand_behind
too_many_targets t old closed is many = refused (target t) old closed (λ earlier o k.
    let count : length (targets_of earlier) ≡ length closed.finished.items = ap length (above_known earlier old closed k is) ∙ length-reverse closed.finished.items in
    third_false (has_rounds earlier) _ _ _ _ (ap (λ n. nat_lt n most_targets) count ∙ le-ltb (length closed.finished.items) most_targets many))

-- whether times of pages count
header_honor : (parts : List Part) → (header_of parts).honor ≡ are_honored parts
unfolding header_of
header_honor parts = refl

-- the target of a line is the one that is made by what is kept
target_known : (t : TargetLine) (earlier : List Part) (old closed : Progress) → Knows earlier old → IsClosed old closed → line_target closed.header.honor t ≡ target_of earlier t
target_known t earlier old closed k is = ap (λ b. line_target b t) (ap (λ (h : Header). h.honor) (is.header ∙ k.header) ∙ header_honor earlier)

-- the names of the targets above
named_known : (t : TargetLine) (earlier : List Part) (old closed : Progress) (named : Bool) → Knows earlier old → IsClosed old closed
    → has_namesake closed.finished.items (line_target closed.header.honor t) ≡ named → is_named_before earlier t ≡ named
named_known t earlier old closed named k is found =
    ap (λ ts. has_namesake ts (target_of earlier t)) (above_known earlier old closed k is)
    ∙ sym (list_any-IsPermutation (λ (other : ScriptTarget). have_same_names (target_of earlier t) other.target) closed.finished.items (reverse closed.finished.items) (IsPermutation-reverse closed.finished.items))
    ∙ ap (has_namesake closed.finished.items) (sym (target_known t earlier old closed k is)) ∙ found

pub named_before : (t : TargetLine) (old closed : Progress) → IsClosed old closed → has_namesake closed.finished.items (line_target closed.header.honor t) ≡ true → TakesPart (target t) old closed false
unfolding may_stand_behind
named_before t old closed is found = refused (target t) old closed (λ earlier o k. fifth_false (has_rounds earlier) _ _ _ _ (ap not (named_known t earlier old closed true k is found)))

pub no_target_line : (t : TargetLine) (old new : Progress) → is_target_line t ≡ false → TakesPart (target t) old new false
unfolding may_stand_behind
no_target_line t old new fails = refused (target t) old new (λ earlier o k. fourth_false (has_rounds earlier) _ _ _ _ fails)

target_header : (t : TargetLine) (earlier : List Part) → header_of earlier ≡ header_of (target t ∷ earlier)
unfolding header_of
target_header t earlier = refl

pub target_taken : (t : TargetLine) (old closed new : Progress) → old.header.rounds ≢ 0 → has_whole_target old ≡ true → is_target_line t ≡ true → IsClosed old closed
    → length closed.finished.items < most_targets → has_namesake closed.finished.items (line_target closed.header.honor t) ≡ false → new.place ≡ 7 → new.header ≡ closed.header
    → new.target ≡ Some (line_target closed.header.honor t) → new.scrapes.items ≡ closed.scrapes.items → new.posts.items ≡ closed.posts.items → new.finished.items ≡ closed.finished.items → TakesPart (target t) old new true
unfolding may_stand_behind
target_taken t old closed new some whole line is few other place same_header made same_scrapes same_posts same_finished earlier o k =
    let above = above_known earlier old closed k is in
    let count : length (targets_of earlier) ≡ length closed.finished.items = ap length above ∙ length-reverse closed.finished.items in
    let named : new.target ≡ Some (target_of earlier t) = made ∙ ap Some (target_known t earlier old closed k is) in
    let read : targets_read new ≡ new_target earlier t ∷ reverse closed.finished.items =
    ap (λ u. target_read u new.scrapes.items new.posts.items ++ reverse new.finished.items) named
    ∙ ap (λ rs. target_read (Some (target_of earlier t)) rs new.posts.items ++ reverse new.finished.items) (same_scrapes ∙ is.no_scrapes)
    ∙ ap (λ rs. target_read (Some (target_of earlier t)) [] rs ++ reverse new.finished.items) (same_posts ∙ is.no_posts)
    ∙ ap (λ ts. new_target earlier t ∷ reverse ts) same_finished in (
      sym (all_five (has_rounds earlier) (is_last_whole (header_number earlier Rounds) (targets_of earlier)) (nat_lt (length (targets_of earlier)) most_targets) (is_target_line t) (not (is_named_before earlier t))
          (some_rounds earlier (λ e. some (ap (λ (h : Header). h.rounds) k.header ∙ e))) (last_known earlier old k ∙ whole)
          (ap (λ n. nat_lt n most_targets) count ∙ lt-ltb (length closed.finished.items) most_targets few) line (ap not (named_known t earlier old closed false k is other))),
      λ _. record {
        place = place;
        header = same_header ∙ is.header ∙ k.header ∙ target_header t earlier;
        targets = ap (λ ts. new_target earlier t ∷ ts) above ∙ sym read;
        none_finished = λ none. absurd (none-some (target_of earlier t) (sym none ∙ named));
      },
    )
