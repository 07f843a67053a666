-- The words of a replay: when they fit its form, and what they then ask for.
use Rattle.std.proofs.Common.{◌≡◌, ℕ, suc, ◌+◌, ◌≤◌, ◌<◌, true, false, List, [], ◌∷◌, ◌++◌, map, take, get_or, length, Option, Some, None, refl, sym, ap, subst, ◌∙◌, arith}
use Rattle.std.specs.Prelude.{zero, codes, ◌&&◌, nat_le, IfNone}
use Rattle.std.specs.Fmt.{decimal}
use Rattle.std.specs.List.{list_all}
use Rattle.std.specs.Str.{bytes_eq}
use Rattle.std.proofs.lemmas.Bool.{and_parts, true≢false}
use Rattle.std.proofs.lemmas.Bool.Decides.{nat_tests}
use Rattle.std.proofs.lemmas.Slice.Eq.{bytes_eq-Decides}
use Rattle.series_select.specs.declared.selector.Selector.{Selector}
use Rattle.series_select.specs.Selectors.{SpellsSelector, IsNoSelector, SpellEach}
use Rattle.series_select.proofs.Laws.{selector_told, selector_complete, spelled_length, spelled-more}
use Rattle.program_words.specs.declared.words.Command.{Command}
use Rattle.program_words.specs.declared.words.Command.TheVariants.{OverPage, Replay}
use Rattle.program_words.specs.CommandWords.{word_if, ArePageWords, AreFewSelectors, command_row, IsCommand, FitNoForm, AskFor, takes_memory}
use Rattle.program_words.specs.WordSteps.{FitNoOther, AskForNoReplay, is_selector, are_page_words, AreCutAt, SayNoScrapers}
use Rattle.program_words.proofs.PageWords.{other_verb, unlike}
use Rattle.program_words.proofs.WordLaws.{number_no_page}

-- ---- words that are selectors

each_is : (texts : List (List ℕ)) (ss : List Selector) → SpellEach texts ss → list_all is_selector texts ≡ true
each_is [] [] h = refl
each_is [] (s ∷ ss) h = absurd h
each_is (t ∷ texts) [] h = absurd h
each_is (t ∷ texts) (s ∷ ss) h = rw (selector_complete t s h.0, each_is texts ss h.1) refl

each_told : (texts : List (List ℕ)) → list_all is_selector texts ≡ true → (ss : List Selector) × SpellEach texts ss
each_told [] h = ([], tt)
each_told (t ∷ texts) h =
    let parts = and_parts (is_selector t) (list_all is_selector texts) h in
    let one = selector_told t parts.0 in
    let rest = each_told texts parts.1 in
    (one.0 ∷ rest.0, (one.1, rest.1))

is_selector_at : {A : Type 0} (bytes : A → List ℕ) (words : List A) (i : ℕ) (word : A) (text : List ℕ) → list_all is_selector (map bytes words) ≡ true → i < length words → word ≡ get_or words i word → text ≡ bytes word
    → is_selector text ≡ true
is_selector_at bytes [] i word text each within at is = absurd (omega (arith, within))
is_selector_at bytes (w ∷ words) zero word text each within at is =
    let parts = and_parts (is_selector (bytes w)) (list_all is_selector (map bytes words)) each in ap is_selector (is ∙ ap bytes at) ∙ parts.0
is_selector_at bytes (w ∷ words) (suc i) word text each within at is =
    let parts = and_parts (is_selector (bytes w)) (list_all is_selector (map bytes words)) each in is_selector_at bytes words i word text parts.1 (omega (arith, within)) at is

taken_suc : {A : Type 0} (bytes : A → List ℕ) (words : List A) (i : ℕ) (word : A) → i < length words → word ≡ get_or words i word → map bytes (take (suc i) words) ≡ map bytes (take i words) ++ bytes word ∷ []
taken_suc bytes [] i word within at = absurd (omega (arith, within))
taken_suc bytes (w ∷ words) zero word within at = ap (λ x. x ∷ []) (ap bytes (sym at))
taken_suc bytes (w ∷ words) (suc i) word within at = ap (λ xs. bytes w ∷ xs) (taken_suc bytes words i word (omega (arith, within)) at)

taken_more : {A : Type 0} (bytes : A → List ℕ) (words : List A) (i : ℕ) (word : A) → i < length words → word ≡ get_or words i word → map bytes (take (i + 1) words) ≡ map bytes (take i words) ++ bytes word ∷ []
taken_more bytes words i word within at = let next : i + 1 ≡ suc i = omega arith in ap (λ n. map bytes (take n words)) next ∙ taken_suc bytes words i word within at

-- a word at a place, as it is read
module _ {A : Type 0} (bytes : A → List ℕ) (words : List A) (i : ℕ) (word : A) (text : List ℕ) where
  -- one of words that are selectors is one
  pub selector_here : list_all is_selector (map bytes words) ≡ true → i < length words → word ≡ get_or words i word → text ≡ bytes word → IsNoSelector text → ⊥
  selector_here each within at is none =
      let one = selector_told text (is_selector_at bytes words i word text each within at is) in none one.0 one.1

  pub one_more_here : (ss after : List Selector) (s : Selector) → i < length words → word ≡ get_or words i word → text ≡ bytes word → SpellEach (map bytes (take i words)) ss → SpellsSelector text s → after ≡ ss ++ s ∷ []
      → SpellEach (map bytes (take (i + 1) words)) after
  one_more_here ss after s within at is spelled one more =
      subst (SpellEach (map bytes (take (i + 1) words))) (sym more)
      (subst (λ ts. SpellEach ts (ss ++ s ∷ [])) (sym (taken_more bytes words i word within at))
      (spelled-more (map bytes (take i words)) ss (bytes word) s spelled (subst (λ t. SpellsSelector t s) is one)))

-- ---- words of a page

page_fits : (page : Option (List Selector)) (words : List (List ℕ)) → ArePageWords page words → AreFewSelectors page → are_page_words words ≡ true
page_fits None words e few = ap are_page_words e
page_fits (Some list) words are few =
    let as_many = spelled_length are.0 list are.2 in
    let short : nat_le (length are.0) 16 ≡ true = grind (arith, nat_tests, as_many, few) in
    ap are_page_words are.1 ∙ rw (short, each_is are.0 list are.2) refl

page_parts : (word : List ℕ) (texts : List (List ℕ)) → are_page_words (word ∷ texts) ≡ true → (word ≡ codes "page") × (length texts ≤ 16) × (list_all is_selector texts ≡ true)
page_parts word texts h =
    let first = and_parts (bytes_eq word (codes "page")) (nat_le (length texts) 16 && list_all is_selector texts) h in
    let rest = and_parts (nat_le (length texts) 16) (list_all is_selector texts) first.1 in
    let short : length texts ≤ 16 = grind (arith, nat_tests, rest.0) in
    ((bytes_eq-Decides word (codes "page")).0 first.0, short, rest.1)

-- the page of words that are those of one
fitting_page : (words : List (List ℕ)) → are_page_words words ≡ true → (page : Option (List Selector)) × ArePageWords page words × AreFewSelectors page
fitting_page [] h = (None, refl, tt)
fitting_page (word ∷ texts) h =
    let parts = page_parts word texts h in
    let told = each_told texts parts.2 in
    let few : length told.0 ≤ 16 = omega (arith, parts.1, spelled_length texts told.0 told.1) in
    (Some told.0, (texts, ap (λ w. w ∷ texts) parts.0, told.1), few)

-- what is found of such words has few selectors
found_few : (page : Option (List Selector)) (words : List (List ℕ)) → are_page_words words ≡ true → ArePageWords page words → AreFewSelectors page
found_few None words h are = tt
found_few (Some list) words h are =
    let fits : are_page_words (codes "page" ∷ are.0) ≡ true = ap are_page_words (sym are.1) ∙ h in
    omega (arith, (page_parts (codes "page") are.0 fits).1, spelled_length are.0 list are.2)

-- ---- the words of a replay

pub replay_found : (words rest : List (List ℕ)) (scrapers : Option ℕ) (page : Option (List Selector)) → AreCutAt words scrapers rest → are_page_words rest ≡ true → ArePageWords page rest → IsCommand (codes "replay" ∷ words) (Replay scrapers page)
replay_found words rest scrapers page cut fits are = record {
  spelled = (rest, ap (λ ws. codes "replay" ∷ ws) cut.spelled, are);
  limits = (cut.limits, found_few page rest fits are);
}

pub replay_asked : (words rest : List (List ℕ)) (scrapers : Option ℕ) → AreCutAt words scrapers rest → are_page_words rest ≡ true → AskFor takes_memory (codes "replay" ∷ words)
replay_asked words rest scrapers cut fits =
    let page = fitting_page rest fits in
    (Replay scrapers page.0, replay_found words rest scrapers page.0 cut fits page.1, refl)

-- what follows a number of scrapers is told by the words
same_rest : (s t : Option ℕ) (rest behind : List (List ℕ)) (page : Option (List Selector)) → word_if s ++ rest ≡ word_if t ++ behind → (s ≡ None → SayNoScrapers rest) → (command_row (Replay s None)).limits → (command_row (Replay t page)).limits
    → ArePageWords page behind → rest ≡ behind
same_rest None None rest behind page e no_more few limits are = e
same_rest (Some n) (Some m) rest behind page e no_more few limits are = cc
same_rest None (Some m) rest behind page e no_more few limits are =
    absurd (let says : SayNoScrapers (decimal m ∷ behind) = subst SayNoScrapers e (no_more refl) in says m (record { spelled = refl; some = limits.0.0; few = limits.0.1 }))
same_rest (Some n) None rest behind None e no_more few limits are = absurd (let none : decimal n ∷ rest ≡ [] = e ∙ are in cc)
same_rest (Some n) None rest behind (Some list) e no_more few limits are =
    let both : decimal n ∷ rest ≡ codes "page" ∷ are.0 = e ∙ are.1 in
    let named : decimal n ≡ codes "page" = cc in
    absurd (true≢false (sym ((bytes_eq-Decides (decimal n) (codes "page")).1 named) ∙ number_no_page n few.0.1))

pub no_replay : (words rest : List (List ℕ)) (scrapers : Option ℕ) → AreCutAt words scrapers rest → are_page_words rest ≡ false → FitNoForm (codes "replay" ∷ words)
no_replay words rest scrapers cut none command asked = by command asked.spelled asked.limits
  where
    by : (command : Command) → (command_row command).words (codes "replay" ∷ words) → (command_row command).limits → ⊥
    by (Replay s page) spelled limits =
        let behind = spelled.0 in
        let same : words ≡ word_if s ++ behind = cc in
        let rest_is : rest ≡ behind = same_rest scrapers s rest behind page (sym cut.spelled ∙ same) cut.no_more (cut.limits, tt) limits spelled.2 in
        true≢false (sym (page_fits page behind spelled.2 limits.1) ∙ ap are_page_words (sym rest_is) ∙ none)
    by (OverPage f what) spelled limits = unlike _ (codes "replay") _ words (sym spelled) (other_verb what).no_replay
    by _ spelled limits = unlike (codes "replay") _ words _ spelled refl

-- ---- the words of all commands

-- words that do not begin with `replay` fit no form, where they fit no other
no_other_form : (words : List (List ℕ)) → FitNoOther words → AskForNoReplay words → FitNoForm words
no_other_form words none no_replay command asked = by command asked
  where
    by : (command : Command) → IsCommand words command → ⊥
    by (Replay s page) asked = no_replay (word_if s ++ asked.spelled.0) asked.spelled.1
    by _ asked = none _ refl asked

-- what is not found among the others is not found at all
pub none_at_all : (words : List (List ℕ)) (found : Option Command) → IfNone found (FitNoOther words) → AskForNoReplay words → IfNone found (FitNoForm words)
none_at_all words None none no_replay = no_other_form words none no_replay
none_at_all words (Some command) none no_replay = tt
