-- One head, one thing known, one verdict, one outcome.
use Rattle.std.proofs.Common.{◌≡◌, ℕ, ◌-◌, ◌≤◌, List, [], ◌∷◌, ◌++◌, length, take, refl, sym, ap, ◌∙◌, subst, arith, inl, inr}
use Rattle.std.specs.Prelude.{◌⊎◌, zero, suc}
use Rattle.httparse.specs.Grammar.{ResponseHead, ReadsResponse, print_response, NeverHasResponse}
use Rattle.httparse.proofs.GrammarLemmas.{response_unique}
use Rattle.bridge_ports.specs.declared.talk.Talk.{Talk}
use Rattle.bridge_ports.specs.declared.talk.End.{End}
use Rattle.bridge_ports.specs.declared.talk.End.TheVariants as ends
use Rattle.page_model.specs.declared.format.Format.{Format}
use Rattle.page_model.specs.declared.event.Cause.{Cause}
use Rattle.page_model.specs.declared.event.Cause.TheVariants as causes
use Rattle.page_model.specs.declared.event.Outcome.{Outcome}
use Rattle.page_model.specs.declared.event.Outcome.TheVariants as outcomes
use Rattle.page_model.specs.Faults.{Fault}
use Rattle.page_model.specs.Pages.{FirstFault}
use Rattle.page_model.proofs.Laws.{first_fault_once, page_of_once, fault_or_page}
use Rattle.http_talk.specs.declared.seen.HeadSeen.{HeadSeen}
use Rattle.http_talk.specs.Heads.{HeadRead, unfinished, missing, found, HeadIs, head_seen, Shows}
use Rattle.http_talk.specs.Replies.{Judged, waits, goes_on, decided, refused, whole, judged, IsJudged, Verdict, HasVerdict, HasOutcome, IsOutcomeOf, IsOutcomeBy, IsVerdictOutcome, IsEndOutcome, IsPageOutcome, scraped_setting}

-- more elements of a list than its first part has are that part and elements of the second
pub take_past : (head rest : List ℕ) (n : ℕ) → length head ≤ n → take n (head ++ rest) ≡ head ++ take (n - length head) rest
take_past [] rest n short = ap (λ k. take k rest) (omega arith)
take_past (x ∷ head) rest zero short = absurd (omega (arith, short))
take_past (x ∷ head) rest (suc n) short =
    let e : suc n - length (x ∷ head) ≡ n - length head = omega arith in
    rw e (ap (λ xs. x ∷ xs) (take_past head rest n (omega (arith, short))))

-- a head at the front that is short enough is a head of the front bytes
pub in_front : (n : ℕ) (got : List ℕ) (h : ResponseHead) (rest : List ℕ) → ReadsResponse got h rest
    → length (print_response h) ≤ n → ReadsResponse (take n got) h (take (n - length (print_response h)) rest)
in_front n got h rest reads short = (reads.0, rw reads.1 (take_past (print_response h) rest n short))

-- a head that is under way is not missing
not_missing : (got : List ℕ) → HeadIs got unfinished → HeadIs got missing → ⊥
not_missing got x y = apart got x y.1
  where
    apart : (got : List ℕ) → HeadIs got unfinished → ((16384 ≤ length got) ⊎ NeverHasResponse got) → ⊥
    apart got x (inl long) = omega (arith, x.0, long)
    apart got x (inr never) = never x.2.0 x.2.1 [] x.2.2

pub head_once : (got : List ℕ) (a b : HeadRead) → HeadIs got a → HeadIs got b → a ≡ b
head_once got unfinished unfinished x y = refl
head_once got unfinished missing x y = absurd (not_missing got x y)
head_once got unfinished (found h rest) x y = absurd (x.1 h rest y.0)
head_once got missing unfinished x y = absurd (not_missing got y x)
head_once got missing missing x y = refl
head_once got missing (found h rest) x y = absurd (x.0 h _ (in_front 16384 got h rest y.0 y.1))
head_once got (found h rest) unfinished x y = absurd (y.1 h rest x.0)
head_once got (found h rest) missing x y = absurd (y.0 h _ (in_front 16384 got h rest x.0 x.1))
head_once got (found h rest) (found k tail) x y =
    let same = response_unique got h k rest tail x.0 y.0 in cc (same.0, same.1)

pub shows_once : (got : List ℕ) (a b : HeadSeen) → Shows got a → Shows got b → a ≡ b
shows_once got a b x y = x.what_is ∙ ap head_seen (head_once got x.head y.head x.head_is y.head_is) ∙ sym y.what_is

pub known_once : (most : ℕ) (got : List ℕ) (a b : Judged) → IsJudged most got a → IsJudged most got b → a ≡ b
known_once most got a b x y = x.known_is ∙ ap (judged most) (head_once got x.head y.head x.head_is y.head_is) ∙ sym y.known_is

pub verdict_once : (most : ℕ) (got : List ℕ) (a b : Verdict) → HasVerdict most got a → HasVerdict most got b → a ≡ b
verdict_once most got a b x y = let same = known_once most got (decided a) (decided b) x y in cc same

-- a page outcome that is no page is the body's first fault
page_fault : (limit : ℕ) (format : Format) (body : List ℕ) (c : Cause) → IsPageOutcome limit format body (outcomes.Failed c)
    → (fault : Fault) × (c ≡ causes.Page fault.0 fault.1) × FirstFault (scraped_setting format limit) body fault
page_fault limit format body (causes.Page line rule) x = ((line, rule), refl, x)
page_fault limit format body c x = absurd x

page_outcome_once : (limit : ℕ) (format : Format) (body : List ℕ) (a b : Outcome) → IsPageOutcome limit format body a → IsPageOutcome limit format body b → a ≡ b
page_outcome_once limit format body (outcomes.Page p) (outcomes.Page q) x y = ap outcomes.Page (page_of_once _ body p q x y)
page_outcome_once limit format body (outcomes.Page p) (outcomes.Failed c) x y =
    let f = page_fault limit format body c y in absurd (fault_or_page _ body f.0 p f.2 x)
page_outcome_once limit format body (outcomes.Failed c) (outcomes.Page q) x y =
    let f = page_fault limit format body c x in absurd (fault_or_page _ body f.0 q f.2 y)
page_outcome_once limit format body (outcomes.Failed c) (outcomes.Failed d) x y =
    let f = page_fault limit format body c x in
    let g = page_fault limit format body d y in
    let same = first_fault_once _ body f.0 g.0 f.2 g.2 in
    ap outcomes.Failed (f.1 ∙ ap (λ (e : Fault). causes.Page e.0 e.1) same ∙ sym g.1)

verdict_outcome_once : (limit : ℕ) (v : Verdict) (a b : Outcome) → IsVerdictOutcome limit v a → IsVerdictOutcome limit v b → a ≡ b
verdict_outcome_once limit (refused cause) a b x y = x ∙ sym y
verdict_outcome_once limit (whole format body) a b x y = page_outcome_once limit format body a b x y

end_outcome_once : (limit : ℕ) (known : Judged) (a b : Outcome) → IsEndOutcome limit known a → IsEndOutcome limit known b → a ≡ b
end_outcome_once limit waits a b x y = x ∙ sym y
end_outcome_once limit (goes_on format body) a b x y = page_outcome_once limit format body a b x y
end_outcome_once limit (decided v) a b x y = verdict_outcome_once limit v a b x y

outcome_by_once : (end : End) (limit : ℕ) (known : Judged) (a b : Outcome) → IsOutcomeBy end limit known a → IsOutcomeBy end limit known b → a ≡ b
outcome_by_once ends.Ended limit known a b x y = end_outcome_once limit known a b x y
outcome_by_once ends.Left limit known a b x y = absurd x
outcome_by_once _ limit known a b x y = x ∙ sym y

outcome_of_once : (end : End) (limit : ℕ) (known : Judged) (a b : Outcome) → IsOutcomeOf end limit known a → IsOutcomeOf end limit known b → a ≡ b
outcome_of_once end limit (decided v) a b x y = verdict_outcome_once limit v a b x y
outcome_of_once end limit waits a b x y = outcome_by_once end limit waits a b x y
outcome_of_once end limit (goes_on format body) a b x y = outcome_by_once end limit (goes_on format body) a b x y

pub outcome_once : (limit most : ℕ) (talk : Talk) (a b : Outcome) → HasOutcome limit most talk a → HasOutcome limit most talk b → a ≡ b
outcome_once limit most talk a b x y =
    let same = known_once most talk.got x.known y.known x.judged_so y.judged_so in
    outcome_of_once talk.end limit y.known a b (subst (λ known. IsOutcomeOf talk.end limit known a) same x.outcome_is) y.outcome_is
