-- What targets show behind a script's events: that it is one, that it may be gathered, and how it is printed.
use Rattle.std.proofs.Common.{◌≡◌, ℕ, zero, suc, ◌+◌, ◌≤◌, true, false, ◌&&◌, bytes_eq, List, [], ◌∷◌, ◌++◌, length, map, take, Option, Some, None, is_some, Result, Ok, Err, refl, sym, ap, subst, ◌∙◌, inl, inr, arith, append-nil}
use Rattle.std.specs.Prelude.{slice_get, ⊤}
use Rattle.std.specs.Io.KnownBytes.{Appends}
use Rattle.std.specs.List.{IsDistinct, AllByRecursion}
use Rattle.std.proofs.lemmas.List.{take_all}
use Rattle.std.proofs.lemmas.Option.{same_Some, none-some}
use Rattle.std.proofs.lemmas.List.Elements.{All-from_recursion}
use Rattle.std.proofs.lemmas.Slice.Zip.{all_zipped_more, AllZip-long}
use Rattle.std.proofs.lemmas.Str.{IsUtf8-had, is_utf8-from_IsUtf8}
use Rattle.page_model.specs.declared.event.Event.{Event}
use Rattle.page_model.specs.declared.event.Outcome.{Outcome}
use Rattle.page_model.specs.declared.event.Outcome.TheVariants as outcomes
use Rattle.page_model.specs.declared.event.Shown.{Shown}
use Rattle.page_model.specs.declared.format.Format.{Format}
use Rattle.page_model.specs.declared.format.Treatment.TheVariants.{Scraped as OfTarget}
use Rattle.page_model.proofs.Laws.{text_is_right, nothing_is_right}
use Rattle.page_model.specs.Presence.{page_of_outcome, empty_page}
use Rattle.page_model.specs.Written.{text_setting}
use Rattle.bridge_ports.proofs.Laws.{appends_none, appends_twice, front_behind}
use Rattle.bridge_ports.specs.Targets.{Scraped, IsTextUpTo, have_same_names}
use Rattle.bridge_ports.specs.declared.talk.MemoryReply.{MemoryReply}
use Rattle.http_talk.specs.Replies.{scraped_setting, IsPageOutcome, HasOutcome}
use Rattle.start_times.specs.Scrapes.{scrape_after}
use Rattle.target_pages.specs.Thinned.{without_exemplars}
use Rattle.target_core.specs.Events.{latest_shown}
use Rattle.target_core.specs.States.{Following}
use Rattle.series_table.specs.Records.{IsScrapedWithin}
use Rattle.series_table.proofs.Laws.{shown_within}
use Rattle.federation_page.specs.Gathering.{is_one_target, IsTargetName, IsShowable, AreShowable, federated_page}
use Rattle.series_select.specs.declared.selector.Selector.{Selector}
use Rattle.series_select.specs.Selection.{selected_text}
use Rattle.replay_script.specs.declared.header.Header.{Header}
use Rattle.replay_script.specs.declared.script.ScriptTarget.{ScriptTarget}
use Rattle.replay_script.specs.declared.script.Script.{Script}
use Rattle.replay_script.specs.RightScripts.{IsRightHeader, IsRightTarget, IsRightScript}
use Rattle.plain_words.proofs.Laws.{in_range}
use Rattle.script_commands.specs.declared.replaying.Cut.{Cut}
use Rattle.script_commands.specs.declared.replaying.Cut.TheVariants as cuts
use Rattle.script_commands.specs.Replays.{script_tracking, reply_talk, AreEvents, AreTexts, joined_texts, IsReplay, IsReplayOfSome, IsLastShown, AreLastShown, IsReplayPage, IsReplayWith}
use Rattle.script_commands.specs.Printing.{CutsBodies, CutsText, PrintsText, CutsFirst, PrintsFirst, PrintsAll, CutsScript, PrintsScript, page_text, StandsForAll, ShowsLast, ShowsOneMore}
use Rattle.scrape_client.proofs.Laws.{few_samples}
use Rattle.script_commands.proofs.ReplayLaws.{events_once, replay_once, outcome_holds, some_text}

-- ---- one page

-- a target shows one thing behind its last event
shown_once : (h : Header) (t : ScriptTarget) (a b : Shown) → IsLastShown h t a → IsLastShown h t b → a ≡ b
shown_once h t a b x y = x.shows ∙ ap (latest_shown t.target) (events_once h t.scrapes x.events y.events (x.all ∙ sym y.all) x.are y.are) ∙ sym y.shows

all_shown_once : (h : Header) (ts : List ScriptTarget) (xs ys : List Shown) → AreLastShown h ts xs → AreLastShown h ts ys → xs ≡ ys
all_shown_once h [] [] [] a b = refl
all_shown_once h [] [] (y ∷ ys) a b = absurd b
all_shown_once h [] (x ∷ xs) ys a b = absurd a
all_shown_once h (t ∷ ts) [] ys a b = absurd a
all_shown_once h (t ∷ ts) (x ∷ xs) [] a b = absurd b
all_shown_once h (t ∷ ts) (x ∷ xs) (y ∷ ys) a b = ap (λ z. z ∷ xs) (shown_once h t x y a.0 b.0) ∙ ap (λ zs. y ∷ zs) (all_shown_once h ts xs ys a.1 b.1)

page_once : (list : List Selector) (s : Script) (a b : List ℕ) → IsReplayPage list s a → IsReplayPage list s b → a ≡ b
page_once list s a b x y = x.says ∙ ap (λ (shown : List Shown). selected_text list (federated_page shown)) (all_shown_once s.header s.targets x.shown y.shown x.are y.are) ∙ sym y.says

-- a script has one text, with its page or without it
pub replay_with_once : (page : Option (List Selector)) (s : Script) (a b : List ℕ) → IsReplayWith page s a → IsReplayWith page s b → a ≡ b
replay_with_once None s a b x y = replay_once s a b x y
replay_with_once (Some list) s a b x y =
    x.says ∙ ap (λ bodies. bodies ++ x.page) (replay_once s x.bodies y.bodies x.are_bodies y.are_bodies) ∙ ap (λ page. y.bodies ++ page) (page_once list s x.page y.page x.is_page y.is_page) ∙ sym y.says

-- ---- what is shown may be gathered

-- the page without families is within every limit
nothing_within : (limit : ℕ) → IsScrapedWithin limit empty_page
nothing_within limit = record { scraped = (text_setting OfTarget limit, refl, nothing_is_right OfTarget limit); few = omega arith }

-- what a body comes to is within the limit
body_within : (limit : ℕ) (f : Format) (body : List ℕ) (o : Outcome) → IsPageOutcome limit f body o → IsScrapedWithin limit (page_of_outcome o)
body_within limit f body (outcomes.Page page) is =
    let st = scraped_setting f limit in
    record { scraped = (st, refl, text_is_right st body page is); few = few_samples st body page is }
body_within limit f body (outcomes.Failed cause) is = nothing_within limit

-- so is what a reply comes to
reply_within : (h : Header) (r : MemoryReply) (o : Outcome) → HasOutcome h.limit h.max_page (reply_talk r) o → IsScrapedWithin h.limit (page_of_outcome o)
reply_within h r o has = outcome_holds (λ x. IsScrapedWithin h.limit (page_of_outcome x)) h r o (λ cause. nothing_within h.limit) (body_within h.limit) has

-- and what a target shows behind its events
latest_within : (h : Header) (replies : List MemoryReply) (target : Scraped) (events : List Event) → AreEvents h replies events
    → IsScrapedWithin h.limit (latest_shown target events).page
unfolding latest_shown without_exemplars scrape_after
latest_within h replies target [] are = nothing_within h.limit
latest_within h replies target (e ∷ earlier) are = shown_within h.limit (page_of_outcome e.outcome) (reply_within h are.0.reply e.outcome are.0.is.comes_to)

-- what is shown is of this job and instance
record IsNamedAs (target : Scraped) (s : Shown) : Type 0 where
  job : s.job ≡ target.job
  instance : s.instance ≡ target.instance

latest_named : (target : Scraped) (events : List Event) → IsNamedAs target (latest_shown target events)
unfolding latest_shown
latest_named target events = record { job = refl; instance = refl }

last_named : (h : Header) (t : ScriptTarget) (s : Shown) → IsLastShown h t s → IsNamedAs t.target s
last_named h t s is = subst (IsNamedAs t.target) (sym is.shows) (latest_named t.target is.events)

target_name : (most : ℕ) (name : List ℕ) → IsTextUpTo most name → IsTargetName most name
target_name most name t = record { text = is_utf8-from_IsUtf8 name (IsUtf8-had name t.text); some = t.some; short = t.short }

-- what a target of a right script shows
may_show : (h : Header) (t : ScriptTarget) (s : Shown) → IsRightHeader h → IsRightTarget h t → IsLastShown h t s → IsShowable s
may_show h t s header right is =
    let page : IsScrapedWithin h.limit s.page = subst (λ (x : Shown). IsScrapedWithin h.limit x.page) (sym is.shows) (latest_within h t.scrapes t.target is.events is.are) in
    let named = last_named h t s is in
    record {
      job = subst (IsTargetName 256) (sym named.job) (target_name 256 t.target.job right.scraped.job);
      instance = subst (IsTargetName 262) (sym named.instance) (target_name 262 t.target.instance right.scraped.instance);
      page = page.scraped;
      samples = omega (arith, page.few, (in_range 1 200000 h.limit header.limit).1);
    }

all_may_show : (h : Header) (ts : List ScriptTarget) (seen : List Shown) → IsRightHeader h → AllByRecursion (IsRightTarget h) ts → AreLastShown h ts seen → AllByRecursion IsShowable seen
all_may_show h [] [] header right are = tt
all_may_show h [] (s ∷ seen) header right are = absurd are
all_may_show h (t ∷ ts) [] header right are = absurd are
all_may_show h (t ∷ ts) (s ∷ seen) header right are = (may_show h t s header right.0 are.0, all_may_show h ts seen header right.1 are.1)

-- no two are of one job and instance
one_target : (t u : Scraped) (a b : Shown) → IsNamedAs t a → IsNamedAs u b → is_one_target a b ≡ have_same_names t u
one_target t u a b x y = λ i. bytes_eq (x.job i) (y.job i) && bytes_eq (x.instance i) (y.instance i)

apart_shown : (h : Header) (t : Scraped) (s : Shown) (ts : List ScriptTarget) (seen : List Shown) → IsNamedAs t s → AreLastShown h ts seen
    → AllByRecursion (λ y. have_same_names t y ≡ false) (map (λ (u : ScriptTarget). u.target) ts) → AllByRecursion (λ y. is_one_target s y ≡ false) seen
apart_shown h t s [] [] named are apart = tt
apart_shown h t s [] (y ∷ seen) named are apart = absurd are
apart_shown h t s (u ∷ ts) [] named are apart = absurd are
apart_shown h t s (u ∷ ts) (y ∷ seen) named are apart = (one_target t u.target s y named (last_named h u y are.0) ∙ apart.0, apart_shown h t s ts seen named are.1 apart.1)

distinct_shown : (h : Header) (ts : List ScriptTarget) (seen : List Shown) → AreLastShown h ts seen → IsDistinct have_same_names (map (λ (u : ScriptTarget). u.target) ts) → IsDistinct is_one_target seen
unfolding IsDistinct
distinct_shown h [] [] are apart = tt
distinct_shown h [] (s ∷ seen) are apart = absurd are
distinct_shown h (t ∷ ts) [] are apart = absurd are
distinct_shown h (t ∷ ts) (s ∷ seen) are apart = (apart_shown h t.target s ts seen (last_named h t s are.0) are.1 apart.0, distinct_shown h ts seen are.1 apart.1)

-- what the targets of a right script show may be gathered
pub showable : (s : Script) (shown : List Shown) → IsRightScript s → AreLastShown s.header s.targets shown → AreShowable shown
showable s shown right are = record {
  few = omega (arith, right.few_targets, AllZip-long (IsLastShown s.header) s.targets shown are);
  distinct = distinct_shown s.header s.targets shown are right.names;
  each = All-from_recursion IsShowable shown (all_may_show s.header s.targets shown right.header right.targets are);
}

-- ---- one target more

-- what a state shows behind all events
pub shows_one : (h : Header) (t : ScriptTarget) (state : Following) (before after : List Shown) → StandsForAll h t state → ShowsLast state before after → ShowsOneMore h t before after
shows_one h t state before after all kept = (kept.0, record { events = all.events; are = all.are; all = all.all; shows = kept.1 t.target (script_tracking h t.target) all.events all.stands }, kept.2)

taken_next : {A : Type 0} (xs : List A) (i : ℕ) (x : A) → slice_get xs i ≡ Some x → take (suc i) xs ≡ take i xs ++ x ∷ []
taken_next [] i x at = absurd (none-some x at)
taken_next (y ∷ ys) zero x at = ap (λ z. z ∷ []) (same_Some y x at)
taken_next (y ∷ ys) (suc i) x at = ap (λ zs. y ∷ zs) (taken_next ys i x at)

pub shown_more : (h : Header) (ts : List ScriptTarget) (at : ℕ) (t : ScriptTarget) (before after : List Shown) → slice_get ts at ≡ Some t → AreLastShown h (take at ts) before → ShowsOneMore h t before after
    → AreLastShown h (take (at + 1) ts) after
shown_more h ts at t before after stands are last =
    let next : at + 1 ≡ suc at = omega arith in
    let more = ap (λ n. take n ts) next ∙ taken_next ts at t stands in
    let one = all_zipped_more (IsLastShown h) (take at ts) before t last.0 are last.1 in
    subst (λ us. AreLastShown h us after) (sym more) (subst (AreLastShown h (take at ts ++ t ∷ [])) (sym last.2) one)

pub shown_all : (h : Header) (ts : List ScriptTarget) (at : ℕ) (shown : List Shown) → length ts ≤ at → AreLastShown h (take at ts) shown → AreLastShown h ts shown
shown_all h ts at shown through are = subst (λ us. AreLastShown h us shown) (take_all at ts through) are

-- ---- printing

-- the bodies of all targets are a part of what is printed
all_is_some : (s : Script) (text : List ℕ) → 1 ≤ length s.targets → IsReplay s text → IsReplayOfSome s text
all_is_some s text some is = by is.texts is.are is.all is.says
  where
    by : (texts : List (List ℕ)) → AreTexts s texts → length texts ≡ length s.targets → text ≡ joined_texts texts → IsReplayOfSome s text
    by [] are all says = absurd (omega (arith, some, all))
    by (last ∷ earlier) are all says =
        record { texts = earlier; are = are.1; target = are.0.target; stands = are.0.stands; part = last; is_part = some_text s.header are.0.target last are.0.is; says = says }

-- the whole text: the bodies, and the page behind them, where it is asked for
whole_text : (page : Option (List Selector)) (s : Script) (bodies : List ℕ) (shown : List Shown) → IsReplay s bodies → (is_some page ≡ true → AreLastShown s.header s.targets shown) → IsReplayWith page s (bodies ++ page_text page shown)
whole_text None s bodies shown is are = subst (IsReplay s) (sym (append-nil bodies)) is
whole_text (Some list) s bodies shown is are = record { bodies = bodies; page = selected_text list (federated_page shown); are_bodies = is; is_page = record { shown = shown; are = are refl; says = refl }; says = refl }

-- the page was printed behind the bodies, where it is asked for; or that was cut off, or what follows it
pub page_behind : (page : Option (List Selector)) (s : Script) (shown : List Shown) (a b c : Option (List ℕ)) (r : Result ⊤ Cut) → 1 ≤ length s.targets → (is_some page ≡ true → AreLastShown s.header s.targets shown) → PrintsAll s a b
    → PrintsFirst (page_text page shown) b c r → PrintsScript page s a c r
page_behind page s shown a b c (Ok done) some are bodies text =
    (bodies.0 ++ page_text page shown, whole_text page s bodies.0 shown bodies.1 are, appends_twice a b c bodies.0 (page_text page shown) bodies.2 text)
page_behind page s shown a b c (Err cuts.Write) some are bodies text =
    (bodies.0 ++ page_text page shown, inr (whole_text page s bodies.0 shown bodies.1 are), front_behind a b c bodies.0 (page_text page shown) bodies.2 text)
page_behind page s shown a b c (Err cuts.Memory) some are bodies (inl none) =
    let Grown : List ℕ → Type 0 = λ t. Appends a c t in (bodies.0, inl (all_is_some s bodies.0 some bodies.1), subst Grown (append-nil bodies.0) (appends_twice a b c bodies.0 [] bodies.2 none))
page_behind page s shown a b c (Err cuts.Memory) some are bodies (inr text) =
    (bodies.0 ++ page_text page shown, inr (whole_text page s bodies.0 shown bodies.1 are), appends_twice a b c bodies.0 (page_text page shown) bodies.2 text)

-- printing the bodies was cut off
pub bodies_cut : (page : Option (List Selector)) (s : Script) (a b : Option (List ℕ)) (cut : Cut) → CutsBodies s a b cut → CutsScript page s a b cut
bodies_cut page s a b cuts.Write text = (text.0, inl text.1, text.2)
bodies_cut page s a b cuts.Memory text = (text.0, inl text.1, text.2)

-- ---- texts, behind which something follows

-- a text that was cut off
pub text_cut : (text : List ℕ) (before after : Option (List ℕ)) (cut : Cut) → CutsText text before after cut → CutsFirst text before after cut
text_cut text before after cuts.Write front = front
text_cut text before after cuts.Memory none = inl none

-- no page was asked for
pub no_page : (page : Option (List Selector)) (shown : List Shown) (held : Option (List ℕ)) → page ≡ None → Appends held held (page_text page shown)
no_page page shown held e = subst (λ p. Appends held held (page_text p shown)) (sym e) (appends_none held)

-- the page was asked for
pub asked_page : {T : Type 0} (page : Option (List Selector)) (list : List Selector) (shown : List Shown) (before after : Option (List ℕ)) (r : Result T Cut) → page ≡ Some list
    → PrintsText (selected_text list (federated_page shown)) before after r → PrintsText (page_text page shown) before after r
asked_page page list shown before after r e printed = subst (λ p. PrintsText (page_text p shown) before after r) (sym e) printed

-- the page was printed of what is shown, as it was read
pub page_seen : (page : Option (List Selector)) (shown seen : List Shown) (before after : Option (List ℕ)) → seen ≡ shown → Appends before after (page_text page seen) → Appends before after (page_text page shown)
page_seen page shown seen before after same printed = subst (λ (s : List Shown). Appends before after (page_text page s)) same printed
