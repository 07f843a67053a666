-- The scripts of loads: how they are made, that they are right, and that no reply is planned for a post.
use Rattle.std.proofs.Common.{◌≡◌, ℕ, zero, suc, ◌+◌, ◌<◌, ◌≤◌, Bool, true, false, ◌&&◌, List, [], ◌∷◌, ◌++◌, length, map, codes, bytes_eq, Result, Ok, Err, refl, sym, ap, ◌∙◌, arith, inl, inr, nat_le, nat_eq, append_assoc, append-nil}
use Rattle.std.specs.List.{AllByRecursion, IsDistinct, flat_map, range_with_len, list_all, starts_with}
use Rattle.std.specs.Fmt.{decimal, digits}
use Rattle.std.proofs.lemmas.Bool.{cases_lt, le-leb, and_from, and_parts}
use Rattle.std.proofs.lemmas.Fmt.{decimal_injective}
use Rattle.std.proofs.lemmas.Grind.{flat_map-append}
use Rattle.std.proofs.lemmas.List.{append_cancel_right, append_cancel_left}
use Rattle.std.proofs.lemmas.List.FromFn.{length-map-range_with_len, map-range_with_len_more}
use Rattle.std.proofs.lemmas.Slice.Eq.{bytes_eq-Decides}
use Rattle.std.specs.Prelude.{if◌then◌else◌, OnOk, is_ok}
use Rattle.page_model.specs.declared.format.Format.TheVariants.{OpenMetrics}
use Rattle.bridge_ports.specs.Targets.{IsScraped, have_same_names}
use Rattle.bridge_ports.specs.declared.talk.MemoryReply.{MemoryReply}
use Rattle.replay_script.specs.declared.ending.Ending.TheVariants.{ConnectFails}
use Rattle.replay_script.specs.ScriptContents.{page_reply, raw_reply}
use Rattle.plain_words.specs.Places.{is_visible_word, is_port}
use Rattle.replay_script.specs.declared.script.ScriptTarget.{ScriptTarget}
use Rattle.replay_script.specs.ScriptRules.{is_target_line}
use Rattle.replay_script.specs.RightScripts.{IsRightReply, IsRightHeader, IsRightTarget, IsRightScript}
use Rattle.replay_script.proofs.Laws.{script_target, page_right, raw_right}
use Rattle.load_pages.specs.GeneratedPages.{series_text, series_texts, generated_text}
use Rattle.load_pages.specs.GeneratedScripts.{IsLoad, TakesBodies, TakesAllBodies, fails_to_connect, round_time, generated_line, generated_scraped, generated_reply, generated_replies, generated_target, generated_targets, load_header, generated_script}

-- ---- texts in pieces

-- what holds of what follows holds where a call was done
pub on_ok : {T E : Type 0} (r : Result T E) (P Q : Type 0) → (P → Q) → OnOk r P → OnOk r Q
on_ok (Ok x) P Q f p = f p
on_ok (Err e) P Q f p = tt

-- the same of a last piece that is put where there is memory
pub put_last : {T E : Type 0} (r : Result T E) (old piece new : List ℕ) (Q : Type 0) → new ≡ (if is_ok r then old ++ piece else old) → (new ≡ old ++ piece → Q) → OnOk r Q
put_last (Ok x) old piece new Q is f = f is
put_last (Err e) old piece new Q is f = tt

-- two pieces behind a text, and three
pub two_more : (old a b mid new : List ℕ) → mid ≡ old ++ a → new ≡ mid ++ b → new ≡ old ++ (a ++ b)
two_more old a b mid new p q = q ∙ ap (λ m. m ++ b) p ∙ append_assoc old a b

pub three_more : (old a b c mid last new : List ℕ) → mid ≡ old ++ a → last ≡ mid ++ b → new ≡ last ++ c → new ≡ old ++ (a ++ b ++ c)
three_more old a b c mid last new p q r = two_more old (a ++ b) c last new (two_more old a b mid last p q) r

-- ---- how they are made

-- one number more
numbers_next : (a n : ℕ) → range_with_len a (suc n) ≡ range_with_len a n ++ (a + n) ∷ []
numbers_next a zero = let same : a ≡ a + 0 = omega arith in ap (λ b. b ∷ []) same
numbers_next a (suc n) = let same : a + 1 + n ≡ a + suc n = omega arith in ap (λ bs. a ∷ bs) (numbers_next (a + 1) n ∙ ap (λ b. range_with_len (a + 1) n ++ b ∷ []) same)

numbers_more : (a n : ℕ) → range_with_len a (n + 1) ≡ range_with_len a n ++ (a + n) ∷ []
numbers_more a n = let one : n + 1 ≡ suc n = omega arith in ap (range_with_len a) one ∙ numbers_next a n

-- the texts of one number more
texts_more : (text : ℕ → List ℕ) (a n j : ℕ) → a + n ≡ j → flat_map text (range_with_len a (n + 1)) ≡ flat_map text (range_with_len a n) ++ text j
texts_more text a n j is =
    ap (flat_map text) (numbers_more a n) ∙ flat_map-append text (range_with_len a n) ((a + n) ∷ []) ∙ ap (λ t. flat_map text (range_with_len a n) ++ t) (append-nil (text (a + n)) ∙ ap text is)

-- one series more behind a text
pub series_more : (number target round count : ℕ) (old now new : List ℕ) → now ≡ old ++ series_texts number target round count → new ≡ now ++ series_text number target round count
    → new ≡ old ++ series_texts number target round (count + 1)
series_more number target round count old now new was more =
    more ∙ ap (λ t. t ++ series_text number target round count) was ∙ append_assoc old (series_texts number target round count) (series_text number target round count)
    ∙ ap (λ t. old ++ t) (sym (texts_more (series_text number target round) 0 count count (omega arith)))

-- one reply more behind those of the rounds so far
pub reply_more : (number target round : ℕ) (old new : List MemoryReply) (r : MemoryReply) → old ≡ generated_replies number target round → new ≡ old ++ r ∷ [] → r ≡ generated_reply number target round
    → new ≡ generated_replies number target (round + 1)
reply_more number target round old new r was more is =
    more ∙ ap (λ rs. rs ++ r ∷ []) was ∙ ap (λ x. generated_replies number target round ++ x ∷ []) is ∙ sym (map-range_with_len_more (generated_reply number target) 0 round round (omega arith))

-- one target more behind those so far
pub target_more : (number rounds made : ℕ) (old new : List ScriptTarget) (t : ScriptTarget) → old ≡ generated_targets number rounds made → new ≡ old ++ t ∷ [] → t ≡ generated_target number rounds (made + 1)
    → new ≡ generated_targets number rounds (made + 1)
target_more number rounds made old new t was more is =
    more ∙ ap (λ ts. ts ++ t ∷ []) was ∙ ap (λ x. generated_targets number rounds made ++ x ∷ []) is ∙ sym (map-range_with_len_more (generated_target number rounds) 1 made (made + 1) (omega arith))

-- the script of these targets
pub script_is : (number targets rounds : ℕ) (ts : List ScriptTarget) → ts ≡ generated_targets number rounds targets
    → record { header = record { keep = 2; tries = 3; limit = 20000; max_page = 16777216; cut = 4096; honor = false; rounds = rounds }; targets = ts } ≡ generated_script number targets rounds
unfolding generated_script load_header
script_is number targets rounds ts same = λ i. record { header = record { keep = 2; tries = 3; limit = 20000; max_page = 16777216; cut = 4096; honor = false; rounds = rounds }; targets = same i }

-- the same, where the numbers were made from others
pub script_made : (number targets rounds n r t : ℕ) (ts : List ScriptTarget) → n ≡ number → r ≡ rounds → t ≡ targets → ts ≡ generated_targets n r t
    → record { header = record { keep = 2; tries = 3; limit = 20000; max_page = 16777216; cut = 4096; honor = false; rounds = rounds }; targets = ts } ≡ generated_script number targets rounds
script_made number targets rounds n r t ts a b c same =
    script_is number targets rounds ts (same ∙ ap (λ m. generated_targets m r t) a ∙ ap (λ m. generated_targets number m t) b ∙ ap (generated_targets number rounds) c)

-- ---- targets

-- what passes at each number of a range passes at this one
each_in : (test : ℕ → Bool) (a n t : ℕ) → list_all test (range_with_len a n) ≡ true → a ≤ t → t < a + n → test t ≡ true
each_in test a zero t all low high = absurd (omega (arith, low, high))
each_in test a (suc n) t all low high =
    let both = and_parts (test a) (list_all test (range_with_len (a + 1) n)) all in
    elim (cases_lt a t) [
      | inl less ↦ each_in test (a + 1) n t both.1 (omega (arith, less)) (omega (arith, high))
      | inr same ↦ let here : a ≡ t = omega (arith, same, low) in ap test (sym here) ∙ both.0
    ]

-- the host of each target is a visible word
abbrev has_visible_host : ℕ → Bool
has_visible_host t = is_visible_word 256 (codes "t" ++ decimal t)

hosts_visible : (t : ℕ) → t ≤ 64 → has_visible_host t ≡ true
unfolding digits
hosts_visible t few = each_in has_visible_host 0 65 t refl (omega arith) (omega (arith, few))

-- the words of a target are those of a target line
pub line_right : (t : ℕ) → t ≤ 64 → is_target_line (generated_line t) ≡ true
unfolding generated_line
line_right t few = ap (λ host. is_visible_word 256 (codes "load") && host && is_port 80 && is_visible_word 256 (codes "/metrics") && starts_with nat_eq (codes "/metrics") (codes "/")) (hosts_visible t few)

pub line_is : (t : ℕ) (host : List ℕ) → host ≡ codes "t" ++ decimal t → record { job = codes "load"; host = host; port = 80; path = codes "/metrics" } ≡ generated_line t
unfolding generated_line
line_is t host same = λ i. record { job = codes "load"; host = same i; port = 80; path = codes "/metrics" }

-- what is scraped is what the type of a target keeps
pub scraped_right : (t : ℕ) → t ≤ 64 → IsScraped (generated_scraped t)
unfolding generated_line
scraped_right t few = script_target (generated_scraped t) refl refl (hosts_visible t few) refl

-- the replies of a target are right
right_reply : (number t r : ℕ) → IsRightReply (generated_reply number t r)
unfolding generated_reply
right_reply number t r = by (fails_to_connect number t r)
  where
    by : (fails : Bool) → IsRightReply (if fails then raw_reply (round_time r) ConnectFails [] else page_reply (round_time r) OpenMetrics (generated_text number t r))
    by true = raw_right (round_time r) ConnectFails [] refl
    by false = page_right (round_time r) OpenMetrics (generated_text number t r)

right_replies : (number t a n : ℕ) → AllByRecursion IsRightReply (map (generated_reply number t) (range_with_len a n))
right_replies number t a zero = tt
right_replies number t a (suc n) = (right_reply number t a, right_replies number t (a + 1) n)

-- a target of a load is right
right_target : (number rounds t : ℕ) → t ≤ 64 → IsRightTarget (load_header rounds) (generated_target number rounds t)
unfolding generated_target generated_line load_header
right_target number rounds t few = record {
  scraped = scraped_right t few;
  job = refl;
  host = hosts_visible t few;
  port = refl;
  path = refl;
  honor = refl;
  scrapes = length-map-range_with_len (generated_reply number t) 0 rounds;
  replies = right_replies number t 0 rounds;
  posts = omega arith;
  post_replies = tt;
}

-- the targets from this one on
right_from : (number rounds a n : ℕ) → a + n ≤ 65 → AllByRecursion (IsRightTarget (load_header rounds)) (map (generated_target number rounds) (range_with_len a n))
right_from number rounds a zero few = tt
right_from number rounds a (suc n) few = (right_target number rounds a (omega (arith, few)), right_from number rounds (a + 1) n (omega (arith, few)))

-- ---- names

-- two targets have two instances
apart : (a b : ℕ) → a < b → b ≤ 64 → have_same_names (generated_scraped a) (generated_scraped b) ≡ false
unfolding generated_line
apart a b less few = by (bytes_eq (generated_scraped a).instance (generated_scraped b).instance) refl
  where
    by : (same : Bool) → bytes_eq (generated_scraped a).instance (generated_scraped b).instance ≡ same → bytes_eq (generated_scraped a).instance (generated_scraped b).instance ≡ false
    by false e = e
    by true e =
        let whole : (codes "t" ++ decimal a) ++ (codes ":" ++ decimal 80) ≡ (codes "t" ++ decimal b) ++ (codes ":" ++ decimal 80) = (bytes_eq-Decides (generated_scraped a).instance (generated_scraped b).instance).0 e in
        let hosts = append_cancel_right (codes "t" ++ decimal a) (codes "t" ++ decimal b) (codes ":" ++ decimal 80) whole in
        let numbers : a ≡ b = decimal_injective a b (omega (arith, less, few)) (omega (arith, few)) (append_cancel_left (codes "t") (decimal a) (decimal b) hosts) in
        absurd (omega (arith, numbers, less))

-- the targets from this one on have other names
others : (number rounds a b n : ℕ) → a < b → b + n ≤ 65 → AllByRecursion (λ y. have_same_names (generated_scraped a) y ≡ false) (map (λ (t : ScriptTarget). t.target) (map (generated_target number rounds) (range_with_len b n)))
unfolding generated_target
others number rounds a b zero less few = tt
others number rounds a b (suc n) less few = (apart a b less (omega (arith, few)), others number rounds a (b + 1) n (omega (arith, less)) (omega (arith, few)))

distinct_from : (number rounds a n : ℕ) → a + n ≤ 65 → IsDistinct have_same_names (map (λ (t : ScriptTarget). t.target) (map (generated_target number rounds) (range_with_len a n)))
unfolding IsDistinct generated_target
distinct_from number rounds a zero few = tt
distinct_from number rounds a (suc n) few = (others number rounds a (a + 1) n (omega arith) (omega (arith, few)), distinct_from number rounds (a + 1) n (omega (arith, few)))

-- ---- scripts

right_header : (rounds : ℕ) → 1 ≤ rounds → rounds ≤ 1000 → IsRightHeader (load_header rounds)
unfolding load_header
right_header rounds some few = record {
  keep = refl;
  tries = refl;
  limit = refl;
  max_page = refl;
  cut = refl;
  rounds = and_from (nat_le 1 rounds) (nat_le rounds 1000000) (le-leb 1 rounds some) (le-leb rounds 1000000 (omega (arith, few)));
}

pub right_load : (number targets rounds : ℕ) → IsLoad number targets rounds → IsRightScript (generated_script number targets rounds)
unfolding generated_script
right_load number targets rounds is =
    let many : length (generated_targets number rounds targets) ≡ targets = length-map-range_with_len (generated_target number rounds) 1 targets in
    record {
      header = right_header rounds is.some_rounds is.few_rounds;
      some_target = omega (arith, many, is.some_targets);
      few_targets = omega (arith, many, is.few_targets);
      targets = right_from number rounds 1 targets (omega (arith, is.few_targets));
      names = distinct_from number rounds 1 targets (omega (arith, is.few_targets));
    }

-- no reply is planned for a post of any of them
bodies_from : (number rounds a n : ℕ) → AllByRecursion TakesBodies (map (generated_target number rounds) (range_with_len a n))
unfolding generated_target
bodies_from number rounds a zero = tt
bodies_from number rounds a (suc n) = (refl, bodies_from number rounds (a + 1) n)

pub bodies_taken : (number targets rounds : ℕ) → TakesAllBodies (generated_script number targets rounds)
unfolding generated_script
bodies_taken number targets rounds = bodies_from number rounds 1 targets
