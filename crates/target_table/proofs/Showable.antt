-- What readers see may be gathered.
use Rattle.std.proofs.Common.{◌≡◌, ℕ, zero, suc, ◌+◌, ◌≤◌, false, ◌&&◌, bytes_eq, List, [], ◌∷◌, length, Option, Some, None, All, refl, sym, ap, subst, ◌∙◌, arith}
use Rattle.std.specs.Prelude.{⊤}
use Rattle.std.specs.List.{IsDistinct, AllByRecursion}
use Rattle.std.proofs.lemmas.Str.{IsUtf8-had, is_utf8-from_IsUtf8}
use Rattle.page_model.specs.declared.event.Shown.{Shown}
use Rattle.bridge_ports.specs.Targets.{IsTextUpTo, IsScraped}
use Rattle.series_table.specs.Talking.{Talking, Followed, AreInRange}
use Rattle.series_table.specs.Records.{Kept, IsShownOf}
use Rattle.federation_page.specs.Gathering.{is_one_target, IsTargetName, IsShowable, AreShowable}
use Rattle.target_table.specs.Runs.{Run, is_same_target}
use Rattle.target_table.specs.Tables.{Held, IsSlot, AreSlots, IsTable}

-- each page is one of the target at its place
abbrev AreShown : List Followed → List Shown → Type 0
AreShown [] [] = ⊤
AreShown (f ∷ fs) (s ∷ seen) = IsShownOf f s × AreShown fs seen
AreShown _ _ = ⊥

slot_shows : (w : Talking) (rounds : ℕ) (f : Followed) (place : ℕ) (books : List ℕ) (s : Shown) (slot : Option Kept) → IsSlot w rounds f place books s slot → IsShownOf f s
slot_shows w rounds f place books s None h = h.0
slot_shows w rounds f place books s (Some k) h = h.0

are_shown : (w : Talking) (rounds : ℕ) (books : List ℕ) (from : ℕ) (fs : List Followed) (slots : List (Option Kept)) (seen : List Shown) → AreSlots w rounds books from fs slots seen → AreShown fs seen
are_shown w rounds books from [] [] [] h = tt
are_shown w rounds books from (f ∷ fs) (slot ∷ slots) (s ∷ seen) h = (slot_shows w rounds f from books s slot h.0, are_shown w rounds books (from + 1) fs slots seen h.1)
are_shown w rounds books from [] (slot ∷ slots) seen h = absurd h
are_shown w rounds books from [] [] (s ∷ seen) h = absurd h
are_shown w rounds books from (f ∷ fs) [] seen h = absurd h
are_shown w rounds books from (f ∷ fs) (slot ∷ slots) [] h = absurd h

as_many_shown : (fs : List Followed) (seen : List Shown) → AreShown fs seen → length seen ≡ length fs
as_many_shown [] [] h = refl
as_many_shown (f ∷ fs) (s ∷ seen) h = ap suc (as_many_shown fs seen h.1)
as_many_shown [] (s ∷ seen) h = absurd h
as_many_shown (f ∷ fs) [] h = absurd h

-- ---- no two are of one job and instance

one_target : (f g : Followed) (s t : Shown) → IsShownOf f s → IsShownOf g t → is_one_target s t ≡ is_same_target f g
one_target f g s t a b = λ i. bytes_eq (a.job i) (b.job i) && bytes_eq (a.instance i) (b.instance i)

apart_shown : (f : Followed) (s : Shown) (fs : List Followed) (seen : List Shown) → IsShownOf f s → AreShown fs seen → AllByRecursion (λ g. is_same_target f g ≡ false) fs → AllByRecursion (λ t. is_one_target s t ≡ false) seen
apart_shown f s [] [] a h apart = tt
apart_shown f s (g ∷ fs) (t ∷ seen) a h apart = (one_target f g s t a h.0 ∙ apart.0, apart_shown f s fs seen a h.1 apart.1)
apart_shown f s [] (t ∷ seen) a h apart = absurd h
apart_shown f s (g ∷ fs) [] a h apart = absurd h

distinct_shown : (fs : List Followed) (seen : List Shown) → AreShown fs seen → IsDistinct is_same_target fs → IsDistinct is_one_target seen
unfolding IsDistinct
distinct_shown [] [] h apart = tt
distinct_shown (f ∷ fs) (s ∷ seen) h apart = (apart_shown f s fs seen h.0 h.1 apart.0, distinct_shown fs seen h.1 apart.1)
distinct_shown [] (s ∷ seen) h apart = absurd h
distinct_shown (f ∷ fs) [] h apart = absurd h

-- ---- each may be shown

target_name : (most : ℕ) (name : List ℕ) → IsTextUpTo most name → IsTargetName most name
target_name most name t = record { text = is_utf8-from_IsUtf8 name (IsUtf8-had name t.text); some = t.some; short = t.short }

may_show : (f : Followed) (s : Shown) → IsShownOf f s → IsScraped f.target → AreInRange f.settings → IsShowable s
may_show f s shows scraped ranges = record {
  job = subst (IsTargetName 256) (sym shows.job) (target_name 256 f.target.job scraped.job);
  instance = subst (IsTargetName 262) (sym shows.instance) (target_name 262 f.target.instance scraped.instance);
  page = shows.scraped.scraped;
  samples = (let few : s.page.samples ≤ f.settings.limit = shows.scraped.few in let most : f.settings.limit ≤ 200000 = ranges.limit.1 in omega arith);
}

all_may_show : (fs : List Followed) (seen : List Shown) → AreShown fs seen → All (λ (f : Followed). IsScraped f.target) fs → All (λ (f : Followed). AreInRange f.settings) fs → All IsShowable seen
all_may_show [] [] h scraped ranges i d within = absurd (omega arith)
all_may_show (f ∷ fs) (s ∷ seen) h scraped ranges zero d within = may_show f s h.0 (scraped 0 f (omega arith)) (ranges 0 f (omega arith))
all_may_show (f ∷ fs) (s ∷ seen) h scraped ranges (suc i) d within = all_may_show fs seen h.1 (λ j g l. scraped (suc j) g (omega arith)) (λ j g l. ranges (suc j) g (omega arith)) i d (omega arith)
all_may_show [] (s ∷ seen) h scraped ranges i d within = absurd h
all_may_show (f ∷ fs) [] h scraped ranges i d within = absurd h

-- what the readers of a table see
pub showable : (w : Talking) (run : Run) (h : Held) → IsTable w run h → AreShowable h.seen
showable w run h table =
    let shown : AreShown run.targets h.seen = are_shown w run.rounds h.books 0 run.targets h.slots h.seen table.targets in
    let same : length h.seen ≡ length run.targets = as_many_shown run.targets h.seen shown in
    let few : length run.targets ≤ 256 = table.run_is.few in
    record {
      few = omega arith;
      distinct = distinct_shown run.targets h.seen shown table.run_is.distinct;
      each = all_may_show run.targets h.seen shown table.run_is.scraped table.run_is.settings;
    }
