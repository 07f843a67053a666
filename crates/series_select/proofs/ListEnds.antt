-- Whether a text is a selector, by where its list of matchers ends.
use Rattle.std.proofs.Common.{◌≡◌, ℕ, zero, suc, Bool, true, false, List, [], ◌∷◌, length, Option, Some, None, refl, sym, ap, ◌∙◌, arith}
use Rattle.std.specs.Prelude.{option_map, is_some, ◌==◌}
use Rattle.std.specs.Option.{option_or}
use Rattle.std.proofs.lemmas.Bool.{true≢false}
use Rattle.label_sets.specs.Lists.{◌>>=◌, when_true, behind}
use Rattle.page_model.specs.TextItems.{without_leading_blanks}
use Rattle.line_scan.specs.declared.labels.AfterLabel.{AfterLabel}
use Rattle.line_scan.specs.declared.labels.AfterLabel.TheVariants.{End, More, Broken}
use Rattle.series_select.specs.declared.selector.Matcher.{Matcher}
use Rattle.series_select.specs.declared.selector.Selector.{Selector}
use Rattle.series_select.specs.Selectors.{IsSelector, IsNoSelector}
use Rattle.series_select.specs.SelectorReading.{matcher_at, matchers_at, braced, rest_of, with_name, without_name, selector_in}
use Rattle.series_select.specs.SelectorSteps.{behind_matchers, IsNextMatcher, behind_list, IsNextEnd}
use Rattle.series_select.proofs.SelectorSound.{selector_sound}
use Rattle.series_select.proofs.SelectorComplete.{selector_complete}

-- matchers, and what stands behind them
abbrev Read : Type 0
Read = List Matcher × List ℕ

abbrev end_of : Option Read → Option (List ℕ)
end_of found = option_map (λ (x : Read). x.1) found

-- ---- where a list ends

end_kept : (before : List Matcher) (found : Option Read) → end_of (behind_matchers before found) ≡ end_of found
end_kept before None = refl
end_kept before (Some x) = refl

-- what a step through matchers tells of its end
pub end_told : (bytes : List ℕ) (before after : List Matcher) (next : AfterLabel) → IsNextMatcher bytes before after next → IsNextEnd bytes next
end_told bytes before after (End rest) h = λ more. sym (end_kept before (matchers_at (suc more) bytes)) ∙ ap end_of (h more)
end_told bytes before after (More rest) h = λ more. sym (end_kept before (matchers_at (suc more) bytes)) ∙ ap end_of (h more) ∙ end_kept after (matchers_at more rest.now)
end_told bytes before after Broken h = λ more. ap end_of (h more)

-- ---- whether a list is all

-- the matchers, where nothing but blanks stands behind them
abbrev whole : Option Read → Option (List Matcher)
whole found = found >>= λ list. when_true (length (without_leading_blanks list.1) == 0) list.0

some_when : {A : Type 0} (b : Bool) (x : A) → is_some (when_true b x) ≡ b
some_when true x = refl
some_when false x = refl

end_whole : (found : Option Read) (rest bare : List ℕ) (all : Bool) → Some rest ≡ end_of found → bare ≡ without_leading_blanks rest → all ≡ (length bare == 0) → all ≡ is_some (whole found)
end_whole None rest bare all at is e = absurd (let f : Some rest ≡ None = at in cc)
end_whole (Some x) rest bare all at is e =
    let same : rest ≡ x.1 = cc in
    e ∙ ap (λ (cs : List ℕ). length cs == 0) (is ∙ ap without_leading_blanks same) ∙ sym (some_when (length (without_leading_blanks x.1) == 0) x.0)

no_end : (found : Option Read) → None ≡ end_of found → false ≡ is_some (whole found)
no_end None at = refl
no_end (Some x) at = absurd (let f : None ≡ Some x.1 = at in cc)

pub braced_told : (inner rest bare : List ℕ) (all : Bool) → Some rest ≡ behind_list (length inner) inner → bare ≡ without_leading_blanks rest → all ≡ (length bare == 0) → all ≡ is_some (braced inner)
unfolding braced
braced_told inner rest bare all at is e = end_whole (matchers_at (length inner) inner) rest bare all at is e

pub not_braced : (inner : List ℕ) → None ≡ behind_list (length inner) inner → false ≡ is_some (braced inner)
unfolding braced
not_braced inner at = no_end (matchers_at (length inner) inner) at

-- ---- what stands behind a name

some_byte : (n : ℕ) → (suc n == 0) ≡ false
some_byte n = grind arith

pub no_rest_left : (cs : List ℕ) → (length cs == 0) ≡ true → true ≡ is_some (rest_of cs)
unfolding rest_of
no_rest_left cs h = rw h refl

pub list_left : (cs inner : List ℕ) → Some inner ≡ behind (123 ∷ []) cs → rest_of cs ≡ braced inner
unfolding rest_of
list_left [] inner h = absurd (let f : Some inner ≡ None = h in cc)
list_left (c ∷ cs) inner h = rw (some_byte (length cs), ← h) refl

pub other_left : (cs : List ℕ) → (length cs == 0) ≡ false → None ≡ behind (123 ∷ []) cs → false ≡ is_some (rest_of cs)
unfolding rest_of
other_left cs some h = rw (some, ← h) refl

-- ---- a list alone

pub no_list : (cs : List ℕ) → None ≡ behind (123 ∷ []) cs → false ≡ is_some (without_name (rest_of cs))
unfolding rest_of
no_list [] h = refl
no_list (c ∷ cs) h = rw (some_byte (length cs), ← h) refl

none_named : (b : Bool) → false ≡ is_some (without_name (when_true b []))
none_named true = refl
none_named false = refl

-- the closing brace behind the opening one leaves no matcher
pub no_matchers : (cs inner bare rest : List ℕ) → Some inner ≡ behind (123 ∷ []) cs → bare ≡ without_leading_blanks inner → Some rest ≡ behind (125 ∷ []) bare → false ≡ is_some (without_name (rest_of cs))
unfolding braced matchers_at
no_matchers cs [] bare rest h is closes = absurd (let f : Some rest ≡ None = closes ∙ ap (behind (125 ∷ [])) is in cc)
no_matchers cs (b ∷ inner) bare rest h is closes =
    let list = list_left cs (b ∷ inner) h in
    rw (list, ← is, ← closes) (none_named (length (without_leading_blanks rest) == 0))

-- matchers that are found are some
abbrev AreSome : Option Read → Type 0
AreSome found = is_some (whole found) ≡ is_some (without_name (whole found))

one_named : (b : Bool) (m : Matcher) (ms : List Matcher) → is_some (when_true b (m ∷ ms)) ≡ is_some (without_name (when_true b (m ∷ ms)))
one_named true m ms = refl
one_named false m ms = refl

some_of : (m : Matcher) (closed : Option (List ℕ)) (more : Option Read) → AreSome (option_or (closed >>= λ rest. Some (m ∷ [], rest)) (more >>= λ y. Some (m ∷ y.0, y.1)))
some_of m (Some rest) more = one_named (length (without_leading_blanks rest) == 0) m []
some_of m None (Some y) = one_named (length (without_leading_blanks y.1) == 0) m y.0
some_of m None None = refl

some_behind : (more : ℕ) (first : Option (Matcher × List ℕ)) → AreSome (first >>= λ x. option_or (behind (125 ∷ []) x.1 >>= λ rest. Some (x.0 ∷ [], rest)) (behind (44 ∷ []) x.1 >>= matchers_at more >>= λ y. Some (x.0 ∷ y.0, y.1)))
some_behind more None = refl
some_behind more (Some x) = some_of x.0 (behind (125 ∷ []) x.1) (behind (44 ∷ []) x.1 >>= matchers_at more)

some_matchers : (most : ℕ) (cs : List ℕ) → None ≡ behind (125 ∷ []) (without_leading_blanks cs) → AreSome (matchers_at most cs)
unfolding matchers_at
some_matchers zero cs open_brace = refl
some_matchers (suc more) cs open_brace = rw (← open_brace) (some_behind more (matcher_at (without_leading_blanks cs)))

pub matchers_left : (cs inner bare : List ℕ) → Some inner ≡ behind (123 ∷ []) cs → bare ≡ without_leading_blanks inner → None ≡ behind (125 ∷ []) bare → is_some (braced inner) ≡ is_some (without_name (rest_of cs))
unfolding braced
matchers_left cs inner bare h is none =
    some_matchers (length inner) inner (none ∙ ap (behind (125 ∷ [])) is) ∙ ap (λ (o : Option (List Matcher)). is_some (without_name o)) (sym (list_left cs inner h))

-- ---- selectors

pub named_some : (name : List ℕ) (rest : Option (List Matcher)) → is_some (with_name name rest) ≡ is_some rest
named_some name None = refl
named_some name (Some ms) = refl

pub selector_told : (text : List ℕ) → is_some (selector_in text) ≡ true → IsSelector text
selector_told text h = by (selector_in text) refl h
  where
    by : (found : Option Selector) → selector_in text ≡ found → is_some found ≡ true → IsSelector text
    by None e some = absurd (true≢false (sym some))
    by (Some s) e some = (s, selector_sound text s e)

pub none_told : (text : List ℕ) → is_some (selector_in text) ≡ false → IsNoSelector text
none_told text h = λ s spelled. absurd (true≢false (sym (ap (λ (o : Option Selector). is_some o) (selector_complete text s spelled)) ∙ h))
