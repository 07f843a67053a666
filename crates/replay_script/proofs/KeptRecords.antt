-- What is kept of the parts answers for records, and for the end: which may follow, and what they say.
use Rattle.std.proofs.Common.{◌≡◌, ◌≢◌, ℕ, ◌-◌, ◌*◌, ◌^◌, ◌<◌, Bool, true, false, ◌&&◌, List, [], ◌∷◌, ◌++◌, length, Option, Some, None, is_some, reverse, refl, sym, ap, ◌∙◌, arith, nat_lt}
use Rattle.std.proofs.lemmas.Bool.{and_from, lt-ltb, le-ltb, true≢false}
use Rattle.std.proofs.lemmas.List.{reverse-reverse}
use Rattle.std.proofs.Math.Bool.{and-false}
use Rattle.page_model.specs.declared.format.Format.{Format}
use Rattle.bridge_ports.specs.Targets.{Scraped}
use Rattle.bridge_ports.specs.declared.talk.MemoryReply.{MemoryReply}
use Rattle.replay_script.specs.declared.ending.Ending.{Ending}
use Rattle.replay_script.specs.declared.header.Header.{Header}
use Rattle.replay_script.specs.declared.header.HeaderLine.TheVariants.{Tries, Rounds}
use Rattle.replay_script.specs.declared.script.ScriptTarget.{ScriptTarget}
use Rattle.replay_script.specs.declared.script.Script.{Script}
use Rattle.replay_script.specs.declared.progress.Progress.{Progress}
use Rattle.replay_script.specs.ScriptParts.{Part, page, scrape, post}
use Rattle.replay_script.specs.ScriptContents.{header_of, header_number, page_reply, raw_reply, with_scrape, with_post, targets_of}
use Rattle.replay_script.specs.ScriptRules.{may_stand_behind, may_end, is_last_whole, is_record, fits_ending, has_target, has_room_for_post}
use Rattle.replay_script.specs.Progresses.{place_behind, target_read, targets_read, has_whole_target, Knows, IsClosed, TakesPart, Ends}
use Rattle.replay_script.proofs.Kept.{refused, header_rounds, last_known}

-- ---- tests in a row

first_fails : (a b c : Bool) → a ≡ false → (a && b && c) ≡ false
first_fails a b c fails = ap (λ x. x && b && c) fails

second_fails : (a b c : Bool) → b ≡ false → (a && b && c) ≡ false
second_fails a b c fails = ap (λ x. a && x && c) fails ∙ ap (λ x. x && c) (and-false a)

third_fails : (a b c : Bool) → c ≡ false → (a && b && c) ≡ false
third_fails a b c fails = ap (λ x. a && b && x) fails ∙ and-false (a && b)

all_pass : (a b c : Bool) → a ≡ true → b ≡ true → c ≡ true → (a && b && c) ≡ true
all_pass a b c x y z = and_from (a && b) c (and_from a b x y) z

-- ---- what the tests are

read_has : (o : Option Scraped) (scrapes posts : List MemoryReply) (ts : List ScriptTarget) → (o ≡ None → ts ≡ []) → has_target (target_read o scrapes posts ++ reverse ts) ≡ is_some o
read_has None scrapes posts ts none = ap (λ us. has_target (reverse us)) (none refl)
read_has (Some t) scrapes posts ts none = refl

-- a target stands above where one was read
has_read : (earlier : List Part) (p : Progress) → Knows earlier p → has_target (targets_of earlier) ≡ is_some p.target
has_read earlier p k = ap has_target k.targets ∙ read_has p.target p.scrapes.items p.posts.items p.finished.items k.none_finished

long_bytes : (at : ℕ) (bytes : List ℕ) → 2 ^ 32 - 1 < length bytes → is_record at bytes ≡ false
long_bytes at bytes long = ap (λ b. nat_lt at (2 ^ 64) && b) (le-ltb (length bytes) (2 ^ 32) (omega arith)) ∙ and-false (nat_lt at (2 ^ 64))

short_bytes : (at : ℕ) (bytes : List ℕ) → at < 2 ^ 64 → length bytes < 2 ^ 32 → is_record at bytes ≡ true
short_bytes at bytes early short = and_from (nat_lt at (2 ^ 64)) (nat_lt (length bytes) (2 ^ 32)) (lt-ltb at (2 ^ 64) early) (lt-ltb (length bytes) (2 ^ 32) short)

read_room : (most : ℕ) (o : Option Scraped) (scrapes posts : List MemoryReply) (ts : List ScriptTarget) → (o ≡ None → ts ≡ [])
    → has_room_for_post most (target_read o scrapes posts ++ reverse ts) ≡ (is_some o && nat_lt (length posts) most)
read_room most None scrapes posts ts none = ap (λ us. has_room_for_post most (reverse us)) (none refl)
read_room most (Some t) scrapes posts ts none = refl

-- the tries of the header
header_tries : (parts : List Part) → (header_of parts).tries ≡ header_number parts Tries
unfolding header_of
header_tries parts = refl

-- there is room for a post where fewer were read than there may be
has_room : (earlier : List Part) (p : Progress) → Knows earlier p
    → has_room_for_post (header_number earlier Rounds * header_number earlier Tries) (targets_of earlier) ≡ (is_some p.target && nat_lt (length p.posts.items) (p.header.rounds * p.header.tries))
has_room earlier p k =
    let rounds : header_number earlier Rounds ≡ p.header.rounds = sym (ap (λ (h : Header). h.rounds) k.header ∙ header_rounds earlier) in
    let tries : header_number earlier Tries ≡ p.header.tries = sym (ap (λ (h : Header). h.tries) k.header ∙ header_tries earlier) in
    ap (has_room_for_post (header_number earlier Rounds * header_number earlier Tries)) k.targets
    ∙ read_room (header_number earlier Rounds * header_number earlier Tries) p.target p.scrapes.items p.posts.items p.finished.items k.none_finished
    ∙ ap (λ n. is_some p.target && nat_lt (length p.posts.items) (n * header_number earlier Tries)) rounds ∙ ap (λ n. is_some p.target && nat_lt (length p.posts.items) (p.header.rounds * n)) tries

-- the target that was read
the_target : (o : Option Scraped) → is_some o ≡ true → (last : Scraped) × (o ≡ Some last)
the_target None e = absurd (true≢false (sym e))
the_target (Some t) e = (t, refl)

-- ---- a reply more

-- what is kept with a reply more of the last target, whose replies are then these
reply_known : (p : Part) (old new : Progress) (earlier : List Part) (scrapes posts : List MemoryReply) → Knows earlier old → is_some old.target ≡ true
    → place_behind (p ∷ earlier) ≡ 7 → header_of (p ∷ earlier) ≡ header_of earlier
    → ((last : Scraped) → targets_of earlier ≡ target_read (Some last) old.scrapes.items old.posts.items ++ reverse old.finished.items → targets_of (p ∷ earlier) ≡ target_read (Some last) scrapes posts ++ reverse old.finished.items)
    → new.place ≡ 7 → new.header ≡ old.header → new.target ≡ old.target → new.scrapes.items ≡ scrapes → new.posts.items ≡ posts → new.finished.items ≡ old.finished.items → Knows (p ∷ earlier) new
reply_known p old new earlier scrapes posts k some at_place its_header one_more place same_header same_target its_scrapes its_posts same_finished =
    let last = the_target old.target some in
    let TargetsWith : Option Scraped → List MemoryReply → List MemoryReply → List ScriptTarget → List ScriptTarget = λ u xs ys ts. target_read u xs ys ++ reverse ts in
    let kept : targets_of (p ∷ earlier) ≡ TargetsWith (Some last.0) scrapes posts old.finished.items = one_more last.0 (k.targets ∙ ap (λ u. TargetsWith u old.scrapes.items old.posts.items old.finished.items) last.1) in
    let read : targets_read new ≡ TargetsWith (Some last.0) scrapes posts old.finished.items =
    ap (λ u. TargetsWith u new.scrapes.items new.posts.items new.finished.items) (same_target ∙ last.1) ∙ ap (λ rs. TargetsWith (Some last.0) rs new.posts.items new.finished.items) its_scrapes
    ∙ ap (λ rs. TargetsWith (Some last.0) scrapes rs new.finished.items) its_posts ∙ ap (TargetsWith (Some last.0) scrapes posts) same_finished in
    let is_there : new.target ≢ None = λ none. true≢false (sym some ∙ ap is_some (sym same_target ∙ none)) in
    record {
      place = place ∙ sym at_place;
      header = same_header ∙ k.header ∙ sym its_header;
      targets = kept ∙ sym read;
      none_finished = λ none. absurd (is_there none);
    }

-- with a scrape more
scrape_known : (p : Part) (r : MemoryReply) (old new : Progress) (earlier : List Part) → Knows earlier old → is_some old.target ≡ true
    → place_behind (p ∷ earlier) ≡ 7 → header_of (p ∷ earlier) ≡ header_of earlier → targets_of (p ∷ earlier) ≡ with_scrape r (targets_of earlier)
    → new.place ≡ 7 → new.header ≡ old.header → new.target ≡ old.target → new.scrapes.items ≡ old.scrapes.items ++ r ∷ [] → new.posts.items ≡ old.posts.items
    → new.finished.items ≡ old.finished.items → Knows (p ∷ earlier) new
scrape_known p r old new earlier k some at_place its_header its_targets =
    reply_known p old new earlier (old.scrapes.items ++ r ∷ []) old.posts.items k some at_place its_header (λ last before. its_targets ∙ ap (with_scrape r) before)

-- with a post more
post_known : (p : Part) (r : MemoryReply) (old new : Progress) (earlier : List Part) → Knows earlier old → is_some old.target ≡ true
    → place_behind (p ∷ earlier) ≡ 7 → header_of (p ∷ earlier) ≡ header_of earlier → targets_of (p ∷ earlier) ≡ with_post r (targets_of earlier)
    → new.place ≡ 7 → new.header ≡ old.header → new.target ≡ old.target → new.scrapes.items ≡ old.scrapes.items → new.posts.items ≡ old.posts.items ++ r ∷ []
    → new.finished.items ≡ old.finished.items → Knows (p ∷ earlier) new
post_known p r old new earlier k some at_place its_header its_targets =
    reply_known p old new earlier old.scrapes.items (old.posts.items ++ r ∷ []) k some at_place its_header (λ last before. its_targets ∙ ap (with_post r) before)

-- ---- pages

pub no_target_above : (at : ℕ) (format : Format) (body : List ℕ) (old new : Progress) → is_some old.target ≡ false → TakesPart (page at format body) old new false
unfolding may_stand_behind
no_target_above at format body old new none = refused (page at format body) old new (λ earlier o k. ap (λ b. b && is_record at body) (has_read earlier old k ∙ none))

pub long_page : (at : ℕ) (format : Format) (body : List ℕ) (old new : Progress) → 2 ^ 32 - 1 < length body → TakesPart (page at format body) old new false
unfolding may_stand_behind
long_page at format body old new long = refused (page at format body) old new (λ earlier o k.
    ap (λ b. has_target (targets_of earlier) && b) (long_bytes at body long) ∙ and-false (has_target (targets_of earlier)))

page_header : (at : ℕ) (format : Format) (body : List ℕ) (earlier : List Part) → header_of (page at format body ∷ earlier) ≡ header_of earlier
unfolding header_of
page_header at format body earlier = refl

pub page_taken : (at : ℕ) (format : Format) (body : List ℕ) (old new : Progress) → is_some old.target ≡ true → at < 2 ^ 64 → length body < 2 ^ 32 → new.place ≡ 7 → new.header ≡ old.header → new.target ≡ old.target
    → new.scrapes.items ≡ old.scrapes.items ++ page_reply at format body ∷ [] → new.posts.items ≡ old.posts.items → new.finished.items ≡ old.finished.items → TakesPart (page at format body) old new true
unfolding may_stand_behind
page_taken at format body old new some early short place same_header same_target more same_posts same_finished earlier o k = (
  sym (and_from (has_target (targets_of earlier)) (is_record at body) (has_read earlier old k ∙ some) (short_bytes at body early short)),
  λ _. scrape_known (page at format body) (page_reply at format body) old new earlier k some refl (page_header at format body earlier) refl place same_header same_target more same_posts same_finished,
)

-- ---- scrapes

pub scrape_without : (at : ℕ) (ending : Ending) (bytes : List ℕ) (old new : Progress) → is_some old.target ≡ false → TakesPart (scrape at ending bytes) old new false
unfolding may_stand_behind
scrape_without at ending bytes old new none = refused (scrape at ending bytes) old new (λ earlier o k.
    first_fails (has_target (targets_of earlier)) (is_record at bytes) (fits_ending ending bytes) (has_read earlier old k ∙ none))

pub scrape_long : (at : ℕ) (ending : Ending) (bytes : List ℕ) (old new : Progress) → 2 ^ 32 - 1 < length bytes → TakesPart (scrape at ending bytes) old new false
unfolding may_stand_behind
scrape_long at ending bytes old new long = refused (scrape at ending bytes) old new (λ earlier o k.
    second_fails (has_target (targets_of earlier)) (is_record at bytes) (fits_ending ending bytes) (long_bytes at bytes long))

pub scrape_unfit : (at : ℕ) (ending : Ending) (bytes : List ℕ) (old new : Progress) → fits_ending ending bytes ≡ false → TakesPart (scrape at ending bytes) old new false
unfolding may_stand_behind
scrape_unfit at ending bytes old new unfit = refused (scrape at ending bytes) old new (λ earlier o k.
    third_fails (has_target (targets_of earlier)) (is_record at bytes) (fits_ending ending bytes) unfit)

scrape_header : (at : ℕ) (ending : Ending) (bytes : List ℕ) (earlier : List Part) → header_of (scrape at ending bytes ∷ earlier) ≡ header_of earlier
unfolding header_of
scrape_header at ending bytes earlier = refl

pub scrape_taken : (at : ℕ) (ending : Ending) (bytes : List ℕ) (old new : Progress) → is_some old.target ≡ true → at < 2 ^ 64 → length bytes < 2 ^ 32 → fits_ending ending bytes ≡ true
    → new.place ≡ 7 → new.header ≡ old.header → new.target ≡ old.target
    → new.scrapes.items ≡ old.scrapes.items ++ raw_reply at ending bytes ∷ [] → new.posts.items ≡ old.posts.items → new.finished.items ≡ old.finished.items → TakesPart (scrape at ending bytes) old new true
unfolding may_stand_behind
scrape_taken at ending bytes old new some early short fits place same_header same_target more same_posts same_finished earlier o k = (
  sym (all_pass (has_target (targets_of earlier)) (is_record at bytes) (fits_ending ending bytes) (has_read earlier old k ∙ some) (short_bytes at bytes early short) fits),
  λ _. scrape_known (scrape at ending bytes) (raw_reply at ending bytes) old new earlier k some refl (scrape_header at ending bytes earlier) refl place same_header same_target more same_posts same_finished,
)

-- ---- posts

-- whether there is room for a post, by what is kept
room_known : (earlier : List Part) (p : Progress) (some less : Bool) → Knows earlier p → is_some p.target ≡ some → nat_lt (length p.posts.items) (p.header.rounds * p.header.tries) ≡ less
    → has_room_for_post (header_number earlier Rounds * header_number earlier Tries) (targets_of earlier) ≡ (some && less)
room_known earlier p some less k there few = has_room earlier p k ∙ ap (λ b. b && nat_lt (length p.posts.items) (p.header.rounds * p.header.tries)) there ∙ ap (λ b. some && b) few

pub post_without : (at : ℕ) (ending : Ending) (bytes : List ℕ) (old new : Progress) → is_some old.target ≡ false → TakesPart (post at ending bytes) old new false
unfolding may_stand_behind
post_without at ending bytes old new none = refused (post at ending bytes) old new (λ earlier o k.
    first_fails _ (is_record at bytes) (fits_ending ending bytes) (room_known earlier old false _ k none refl))

pub posts_full : (at : ℕ) (ending : Ending) (bytes : List ℕ) (old new : Progress) → nat_lt (length old.posts.items) (old.header.rounds * old.header.tries) ≡ false → TakesPart (post at ending bytes) old new false
unfolding may_stand_behind
posts_full at ending bytes old new full = refused (post at ending bytes) old new (λ earlier o k.
    first_fails _ (is_record at bytes) (fits_ending ending bytes) (room_known earlier old (is_some old.target) false k refl full ∙ and-false (is_some old.target)))

pub post_long : (at : ℕ) (ending : Ending) (bytes : List ℕ) (old new : Progress) → 2 ^ 32 - 1 < length bytes → TakesPart (post at ending bytes) old new false
unfolding may_stand_behind
post_long at ending bytes old new long = refused (post at ending bytes) old new (λ earlier o k. second_fails _ (is_record at bytes) (fits_ending ending bytes) (long_bytes at bytes long))

pub post_unfit : (at : ℕ) (ending : Ending) (bytes : List ℕ) (old new : Progress) → fits_ending ending bytes ≡ false → TakesPart (post at ending bytes) old new false
unfolding may_stand_behind
post_unfit at ending bytes old new unfit = refused (post at ending bytes) old new (λ earlier o k. third_fails _ (is_record at bytes) (fits_ending ending bytes) unfit)

post_header : (at : ℕ) (ending : Ending) (bytes : List ℕ) (earlier : List Part) → header_of (post at ending bytes ∷ earlier) ≡ header_of earlier
unfolding header_of
post_header at ending bytes earlier = refl

pub post_taken : (at : ℕ) (ending : Ending) (bytes : List ℕ) (old new : Progress) → is_some old.target ≡ true → nat_lt (length old.posts.items) (old.header.rounds * old.header.tries) ≡ true → at < 2 ^ 64
    → length bytes < 2 ^ 32 → fits_ending ending bytes ≡ true → new.place ≡ 7 → new.header ≡ old.header → new.target ≡ old.target
    → new.scrapes.items ≡ old.scrapes.items → new.posts.items ≡ old.posts.items ++ raw_reply at ending bytes ∷ [] → new.finished.items ≡ old.finished.items → TakesPart (post at ending bytes) old new true
unfolding may_stand_behind
post_taken at ending bytes old new some few early short fits place same_header same_target same_scrapes more same_finished earlier o k = (
  sym (all_pass _ (is_record at bytes) (fits_ending ending bytes) (room_known earlier old true true k some few) (short_bytes at bytes early short) fits),
  λ _. post_known (post at ending bytes) (raw_reply at ending bytes) old new earlier k some refl (post_header at ending bytes earlier) refl place same_header same_target same_scrapes more same_finished,
)

-- ---- the end

pub no_target_read : (parts : List Part) (p : Progress) → Knows parts p → is_some p.target ≡ false → may_end parts ≡ false
unfolding may_end
no_target_read parts p k none = ap (λ b. b && is_last_whole (header_number parts Rounds) (targets_of parts)) (has_read parts p k ∙ none)

pub scrapes_left : (parts : List Part) (p : Progress) → Knows parts p → has_whole_target p ≡ false → may_end parts ≡ false
unfolding may_end
scrapes_left parts p k fails = ap (λ b. has_target (targets_of parts) && b) (last_known parts p k ∙ fails) ∙ and-false (has_target (targets_of parts))

-- a script ends where the last target is whole
ends_whole : (parts : List Part) (p : Progress) → Knows parts p → is_some p.target ≡ true → has_whole_target p ≡ true → may_end parts ≡ true
unfolding may_end
ends_whole parts p k some whole = and_from (has_target (targets_of parts)) (is_last_whole (header_number parts Rounds) (targets_of parts)) (has_read parts p k ∙ some) (last_known parts p k ∙ whole)

pub script_ended : (parts : List Part) (p closed : Progress) (h : Header) (ts : List ScriptTarget) → Knows parts p → is_some p.target ≡ true → has_whole_target p ≡ true → IsClosed p closed
    → h ≡ closed.header → ts ≡ closed.finished.items → Ends parts (Some (record { header = h; targets = ts }))
script_ended parts p closed h ts k some whole is same_header same_targets =
    let ScriptWith : Header → List ScriptTarget → Script = λ g us. record { header = g; targets = us } in
    let all : ts ≡ reverse (targets_of parts) = same_targets ∙ sym (reverse-reverse closed.finished.items) ∙ ap reverse (is.targets ∙ sym k.targets) in
    (ends_whole parts p k some whole, ap (λ g. ScriptWith g ts) (same_header ∙ is.header ∙ k.header) ∙ ap (ScriptWith (header_of parts)) all)
