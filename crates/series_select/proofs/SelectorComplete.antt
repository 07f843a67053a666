-- What a text spells is what is read, so it is at most one selector.
use Rattle.std.proofs.Common.{◌≡◌, ◌≢◌, ℕ, zero, suc, ◌≤◌, ◌<◌, Bool, true, false, List, [], ◌∷◌, ◌++◌, length, length-append, Option, Some, None, refl, sym, ap, subst, ◌∙◌, append_assoc, codes, ◌⊎◌, inl, inr, arith}
use Rattle.std.specs.Prelude.{◌==◌}
use Rattle.std.specs.List.{list_all}
use Rattle.std.specs.Str.{is_utf8}
use Rattle.std.proofs.lemmas.Bool.{and_parts}
use Rattle.std.proofs.lemmas.List.{append-nil}
use Rattle.std.proofs.lemmas.Option.{same_Some}
use Rattle.std.proofs.lemmas.Str.{IsUtf8-from_is_utf8, is_utf8-from_IsUtf8}
use Rattle.label_sets.specs.Lists.{behind}
use Rattle.label_sets.specs.Names.{is_metric_name, is_metric_start, is_metric_char, is_label_name, is_label_start, is_label_char, is_blank}
use Rattle.label_sets.specs.Escapes.{quote_escape, unescaped, is_quotable}
use Rattle.page_model.specs.TextItems.{without_leading_blanks, AreBlanks}
use Rattle.series_select.specs.declared.selector.Matcher.{Matcher}
use Rattle.series_select.specs.declared.selector.Selector.{Selector}
use Rattle.series_select.specs.Selectors.{sign_of, SpellsMatcher, SpellsMatchers, SpellsList, SpellsRest, SpellsNamed, SpellsParts, SpellsSelector}
use Rattle.series_select.specs.SelectorReading.{sign_at, matcher_at, matchers_at, braced, rest_of, without_name, bare_selector, selector_in}
use Rattle.series_select.specs.Laws.{SelectorOnce}
use Rattle.series_select.proofs.FrontLaws.{Stops, take_while-append, rest_while-append, quoted-append, metric_chars, label_chars, differs_from, not_blank, blanks_stop, blanks_dropped}
use Rattle.series_select.proofs.WrittenTexts.{utf8_written}

-- ---- a matcher

metric_starts : (name tail : List ℕ) → is_metric_name name ≡ true → Stops is_blank (name ++ tail)
metric_starts [] tail h = absurd (let e : false ≡ true = h in cc)
metric_starts (c ∷ cs) tail h = not_blank is_metric_start refl refl c (and_parts (is_metric_start c) (list_all is_metric_char cs) h).0

label_starts : (name tail : List ℕ) → is_label_name name ≡ true → Stops is_blank (name ++ tail)
label_starts [] tail h = absurd (let e : false ≡ true = h in cc)
label_starts (c ∷ cs) tail h = not_blank is_label_start refl refl c (and_parts (is_label_start c) (list_all is_label_char cs) h).0

-- a label begins with no brace
no_brace : (name rest : List ℕ) → is_label_name name ≡ true → behind (codes "}") (name ++ rest) ≡ None
no_brace [] rest h = absurd (let e : false ≡ true = h in cc)
no_brace (c ∷ cs) rest h = rw (differs_from is_label_start 125 c refl (and_parts (is_label_start c) (list_all is_label_char cs) h).0) refl

-- a sign is no blank, and no character of a name
sign_stops : (p : ℕ → Bool) → p 33 ≡ false → p 61 ≡ false → (differs : Bool) (rest : List ℕ) → Stops p (sign_of differs ++ rest)
sign_stops p other same true rest = other
sign_stops p other same false rest = same

sign_again : (differs : Bool) (rest : List ℕ) → sign_at (sign_of differs ++ rest) ≡ Some (differs, rest)
unfolding sign_at
sign_again true rest = refl
sign_again false rest = refl

-- a matcher from its name on, in front of what follows it
abbrev from_name : (front rest : List ℕ) (m : Matcher) → SpellsMatcher front m → List ℕ
from_name front rest m s = m.name ++ (s.second ++ (sign_of m.differs ++ (s.third ++ 34 ∷ (s.quoted ++ 34 ∷ (s.last ++ rest)))))

matcher_base : (front rest : List ℕ) (m : Matcher) (s : SpellsMatcher front m) → without_leading_blanks (front ++ rest) ≡ from_name front rest m s
matcher_base front rest m s =
    let behind_name : List ℕ = s.second ++ (sign_of m.differs ++ (s.third ++ 34 ∷ (s.quoted ++ 34 ∷ (s.last ++ rest)))) in
    let regrouped : front ++ rest ≡ s.first ++ from_name front rest m s = rw s.whole (simp append_assoc refl) in
    ap without_leading_blanks regrouped ∙ blanks_dropped s.first (from_name front rest m s) s.blanks.0 (label_starts m.name behind_name s.label_name)

matcher_read : (name second third quoted last rest : List ℕ) (differs : Bool) → is_label_name name ≡ true → is_quotable quoted ≡ true → is_utf8 quoted ≡ true → AreBlanks second → AreBlanks third → AreBlanks last → Stops is_blank rest
    → matcher_at (name ++ (second ++ (sign_of differs ++ (third ++ 34 ∷ (quoted ++ 34 ∷ (last ++ rest)))))) ≡ Some (record { name = name; differs = differs; value = unescaped quote_escape quoted }, rest)
unfolding matcher_at
matcher_read name second third quoted last rest differs named_so quotable text b1 b2 b3 stops =
    let behind_quote : List ℕ = quoted ++ 34 ∷ (last ++ rest) in
    let behind_sign : List ℕ = third ++ 34 ∷ behind_quote in
    let behind_name : List ℕ = second ++ (sign_of differs ++ behind_sign) in
    let name_stops = blanks_stop is_label_char refl refl second (sign_of differs ++ behind_sign) b1 (sign_stops is_label_char refl refl differs behind_sign) in
    rw (
      take_while-append is_label_char name behind_name (label_chars name named_so) name_stops,
      rest_while-append is_label_char name behind_name (label_chars name named_so) name_stops,
      named_so,
      blanks_dropped second (sign_of differs ++ behind_sign) b1 (sign_stops is_blank refl refl differs behind_sign),
      sign_again differs behind_sign,
      blanks_dropped third (34 ∷ behind_quote) b2 refl,
      quoted-append quoted (last ++ rest) quotable,
      text,
      blanks_dropped last rest b3 stops,
    ) refl

matcher_again : (front rest : List ℕ) (m : Matcher) (s : SpellsMatcher front m) → Stops is_blank rest → matcher_at (from_name front rest m s) ≡ Some (m, rest)
matcher_again front rest m s stops =
    let text : is_utf8 s.quoted ≡ true = is_utf8-from_IsUtf8 s.quoted (utf8_written s.quoted (IsUtf8-from_is_utf8 _ (subst (λ (v : List ℕ). is_utf8 v ≡ true) s.value s.value_text))) in
    matcher_read m.name s.second s.third s.quoted s.last rest m.differs s.label_name s.quotable text s.blanks.1 s.blanks.2 s.blanks.3 stops
    ∙ ap (λ (v : List ℕ). Some (record { name = m.name; differs = m.differs; value = v }, rest)) (sym s.value)

-- ---- matchers

-- one matcher up to the closing brace
one_again : (n : ℕ) (front tail : List ℕ) (m : Matcher) → SpellsMatcher front m → matchers_at (suc n) (front ++ 125 ∷ tail) ≡ Some (m ∷ [], tail)
unfolding matchers_at
one_again n front tail m s =
    rw (
      matcher_base front (125 ∷ tail) m s,
      no_brace m.name (s.second ++ (sign_of m.differs ++ (s.third ++ 34 ∷ (s.quoted ++ 34 ∷ (s.last ++ 125 ∷ tail))))) s.label_name,
      matcher_again front (125 ∷ tail) m s refl,
    ) refl

-- a matcher, a comma and what follows it
comma_again : (n : ℕ) (front more tail : List ℕ) (m : Matcher) (ms : List Matcher) → SpellsMatcher front m → matchers_at n (more ++ 125 ∷ tail) ≡ Some (ms, tail)
    → matchers_at (suc n) (front ++ 44 ∷ (more ++ 125 ∷ tail)) ≡ Some (m ∷ ms, tail)
unfolding matchers_at
comma_again n front more tail m ms s again =
    rw (
      matcher_base front (44 ∷ (more ++ 125 ∷ tail)) m s,
      no_brace m.name (s.second ++ (sign_of m.differs ++ (s.third ++ 34 ∷ (s.quoted ++ 34 ∷ (s.last ++ 44 ∷ (more ++ 125 ∷ tail)))))) s.label_name,
      matcher_again front (44 ∷ (more ++ 125 ∷ tail)) m s refl,
      again,
    ) refl

regroup_one : (text front rest tail : List ℕ) → text ≡ front ++ rest → rest ≡ [] → text ++ 125 ∷ tail ≡ front ++ 125 ∷ tail
regroup_one text front rest tail a b = rw (a, b) (simp append-nil refl)

regroup_comma : (text front rest more tail : List ℕ) → text ≡ front ++ rest → rest ≡ 44 ∷ more → text ++ 125 ∷ tail ≡ front ++ 44 ∷ (more ++ 125 ∷ tail)
regroup_comma text front rest more tail a b = rw (a, b) (simp append_assoc refl)

matchers_again : (n : ℕ) (text tail : List ℕ) (ms : List Matcher) → length ms < n → SpellsMatchers text ms → matchers_at n (text ++ 125 ∷ tail) ≡ Some (ms, tail)
unfolding matchers_at
matchers_again zero text tail ms few s = absurd (omega arith)
matchers_again (suc n) text tail [] few s = rw (blanks_dropped text (125 ∷ tail) s refl) refl
matchers_again (suc n) text tail (m ∷ ms) few s = go s.4 (λ more f. matchers_again n more tail ms (omega arith) f)
  where
    go : ((s.1 ≡ []) × (ms ≡ [])) ⊎ ((more : List ℕ) × (s.1 ≡ 44 ∷ more) × SpellsMatchers more ms) → ((more : List ℕ) → SpellsMatchers more ms → matchers_at n (more ++ 125 ∷ tail) ≡ Some (ms, tail))
        → matchers_at (suc n) (text ++ 125 ∷ tail) ≡ Some (m ∷ ms, tail)
    go (inl h) ih = ap (matchers_at (suc n)) (regroup_one text s.0 s.1 tail s.2 h.0) ∙ one_again n s.0 tail m s.3 ∙ ap (λ (x : List Matcher). Some (m ∷ x, tail)) (sym h.1)
    go (inr h) ih = ap (matchers_at (suc n)) (regroup_comma text s.0 s.1 h.0 tail s.2 h.1) ∙ comma_again n s.0 h.0 tail m ms s.3 (ih h.0 h.2)

-- each matcher takes a character at least
matcher_long : (front : List ℕ) (m : Matcher) → SpellsMatcher front m → 1 ≤ length front
matcher_long front m s =
    let parts : length front ≡ length ((s.first ++ m.name ++ s.second ++ sign_of m.differs ++ s.third ++ codes "\"" ++ s.quoted ++ codes "\"") ++ s.last) = ap length s.whole in
    let a = length-append (s.first ++ m.name ++ s.second ++ sign_of m.differs ++ s.third ++ codes "\"" ++ s.quoted ++ codes "\"") s.last in
    let b = length-append (s.first ++ m.name ++ s.second ++ sign_of m.differs ++ s.third ++ codes "\"" ++ s.quoted) (codes "\"") in
    let c : length (codes "\"") ≡ 1 = refl in
    omega arith

few_matchers : (text : List ℕ) (ms : List Matcher) → SpellsMatchers text ms → length ms ≤ length text
few_matchers text [] s = omega arith
few_matchers text (m ∷ ms) s = go s.4 (λ more f. few_matchers more ms f)
  where
    go : ((s.1 ≡ []) × (ms ≡ [])) ⊎ ((more : List ℕ) × (s.1 ≡ 44 ∷ more) × SpellsMatchers more ms) → ((more : List ℕ) → SpellsMatchers more ms → length ms ≤ length more) → suc (length ms) ≤ length text
    go (inl h) ih =
        let a : length text ≡ length (s.0 ++ s.1) = ap length s.2 in
        let b = length-append s.0 s.1 in
        let c = matcher_long s.0 m s.3 in
        let d : length ms ≡ 0 = ap length h.1 in
        omega arith
    go (inr h) ih =
        let a : length text ≡ length (s.0 ++ s.1) = ap length s.2 in
        let b = length-append s.0 s.1 in
        let c = ih h.0 h.2 in
        let d : length s.1 ≡ suc (length h.0) = ap length h.1 in
        let e = matcher_long s.0 m s.3 in
        omega arith

-- ---- what stands behind a name

-- blanks alone are dropped
blanks_gone : (bs : List ℕ) → AreBlanks bs → without_leading_blanks bs ≡ []
blanks_gone bs h = ap without_leading_blanks (sym (append-nil bs)) ∙ blanks_dropped bs [] h tt

-- a list from its brace on
abbrev from_brace : (text : List ℕ) (ms : List Matcher) → SpellsList text ms → List ℕ
from_brace text ms s = 123 ∷ (s.inner ++ 125 ∷ s.after)

list_base : (text : List ℕ) (ms : List Matcher) (s : SpellsList text ms) → without_leading_blanks text ≡ from_brace text ms s
list_base text ms s =
    let regrouped : text ≡ s.before ++ from_brace text ms s = rw s.whole (simp append_assoc refl) in
    ap without_leading_blanks regrouped ∙ blanks_dropped s.before (from_brace text ms s) s.blanks.0 refl

list_again : (inner after : List ℕ) (ms : List Matcher) → SpellsMatchers inner ms → AreBlanks after → rest_of (123 ∷ (inner ++ 125 ∷ after)) ≡ Some ms
unfolding rest_of braced
list_again inner after ms s b =
    let some : (length (123 ∷ (inner ++ 125 ∷ after)) == 0) ≡ false = grind arith in
    let enough : length ms < length (inner ++ 125 ∷ after) = let few = few_matchers inner ms s in let a = length-append inner (125 ∷ after) in omega arith in
    rw (some, matchers_again (length (inner ++ 125 ∷ after)) inner after ms enough s, blanks_gone after b) refl

rest_again : (text : List ℕ) (ms : List Matcher) → SpellsRest text ms → rest_of (without_leading_blanks text) ≡ Some ms
unfolding rest_of
rest_again text ms (inl s) = rw (blanks_gone text s.0, s.1) refl
rest_again text ms (inr s) = ap rest_of (list_base text ms s) ∙ list_again s.inner s.after ms s.matchers s.blanks.1

-- what stands behind a name does not go on with it
rest_apart : (text : List ℕ) (ms : List Matcher) → SpellsRest text ms → Stops is_metric_char text
rest_apart text ms (inl s) = subst (Stops is_metric_char) (append-nil text) (blanks_stop is_metric_char refl refl text [] s.0 tt)
rest_apart text ms (inr s) =
    let regrouped : text ≡ s.before ++ from_brace text ms s = rw s.whole (simp append_assoc refl) in
    subst (Stops is_metric_char) (sym regrouped) (blanks_stop is_metric_char refl refl s.before (from_brace text ms s) s.blanks.0 refl)

-- ---- selectors

-- a text that begins with a brace begins with no name
brace_read : (cs : List ℕ) → bare_selector (123 ∷ cs) ≡ without_name (rest_of (123 ∷ cs))
unfolding bare_selector
brace_read cs = refl

some_read : (ms : List Matcher) → ms ≢ [] → without_name (Some ms) ≡ Some (record { name = None; matchers = ms })
some_read [] h = absurd (h refl)
some_read (m ∷ ms) h = refl

unnamed_again : (text : List ℕ) (ms : List Matcher) → SpellsList text ms → ms ≢ [] → selector_in text ≡ Some (record { name = None; matchers = ms })
unfolding selector_in
unnamed_again text ms s some =
    ap bare_selector (list_base text ms s) ∙ brace_read (s.inner ++ 125 ∷ s.after) ∙ ap without_name (list_again s.inner s.after ms s.matchers s.blanks.1) ∙ some_read ms some

name_read : (name rest : List ℕ) (ms : List Matcher) → is_metric_name name ≡ true → SpellsRest rest ms → bare_selector (name ++ rest) ≡ Some (record { name = Some name; matchers = ms })
unfolding bare_selector
name_read name rest ms h s =
    let stops = rest_apart rest ms s in
    rw (take_while-append is_metric_char name rest (metric_chars name h) stops, rest_while-append is_metric_char name rest (metric_chars name h) stops, h, rest_again rest ms s) refl

named_again : (text name : List ℕ) (ms : List Matcher) → SpellsNamed text name ms → selector_in text ≡ Some (record { name = Some name; matchers = ms })
unfolding selector_in
named_again text name ms s =
    let regrouped : text ≡ s.first ++ (name ++ s.rest) = rw s.whole (simp append_assoc refl) in
    ap (λ (t : List ℕ). bare_selector (without_leading_blanks t)) regrouped
    ∙ ap bare_selector (blanks_dropped s.first (name ++ s.rest) s.blanks (metric_starts name s.rest s.metric_name))
    ∙ name_read name s.rest ms s.metric_name s.list

parts_again : (text : List ℕ) (name : Option (List ℕ)) (ms : List Matcher) → SpellsParts text name ms → selector_in text ≡ Some (record { name = name; matchers = ms })
parts_again text None ms s = unnamed_again text ms s.0 s.1
parts_again text (Some name) ms s = named_again text name ms s

-- what the text spells is what the reader gives
pub selector_complete : (text : List ℕ) (s : Selector) → SpellsSelector text s → selector_in text ≡ Some s
selector_complete text s p = parts_again text s.name s.matchers p

pub selector_once : SelectorOnce
selector_once text s t p q = same_Some s t (sym (selector_complete text s p) ∙ selector_complete text t q)
