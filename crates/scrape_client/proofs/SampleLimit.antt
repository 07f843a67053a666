-- A page without a fault has no more samples than it may have.
use Rattle.std.proofs.Common.{◌≡◌, ℕ, ◌+◌, ◌≤◌, ◌<◌, Bool, true, false, List, [], ◌∷◌, cond, Option, Some, None, option_map, refl, sym, subst, inl, inr, arith}
use Rattle.std.specs.Prelude.{nat_le, option_and_then}
use Rattle.std.specs.Option.{option_or, option_map_or}
use Rattle.std.specs.List.{fold, count_by}
use Rattle.std.proofs.lemmas.Bool.{leb-false}
use Rattle.std.proofs.lemmas.List.Sums.{sum_by-cons}
use Rattle.page_lines.specs.Lines.{ends_clean}
use Rattle.page_model.specs.declared.format.Format.{Format}
use Rattle.page_model.specs.declared.item.Item.{Item}
use Rattle.page_model.specs.declared.item.Item.TheVariants as items
use Rattle.page_model.specs.declared.item.Sample.{Sample}
use Rattle.page_model.specs.declared.rule.Rule.TheVariants as rules
use Rattle.page_model.specs.declared.page.Page.{Page}
use Rattle.page_model.specs.declared.event.Outcome.{Outcome}
use Rattle.page_model.specs.declared.event.Outcome.TheVariants as outcomes
use Rattle.page_model.specs.Written.{Written, Setting, item_of}
use Rattle.page_model.specs.Items.{is_sample}
use Rattle.page_model.specs.Rules.{is_past_limit}
use Rattle.page_model.specs.Faults.{Line, item_breaks, item_rules, item_fault, line_fault, own_fault, fault_from, with_line}
use Rattle.page_model.specs.Readings.{page_of}
use Rattle.page_model.specs.Pages.{IsPageOf}
use Rattle.page_model.proofs.Laws.{none_found, text_is_right}
use Rattle.bridge_ports.specs.declared.talk.End.{End}
use Rattle.bridge_ports.specs.declared.talk.End.TheVariants as ends
use Rattle.http_talk.specs.Replies.{Judged, waits, goes_on, decided, refused, whole, IsOutcomeOf, IsPageOutcome, scraped_setting}
use Rattle.scrape_client.specs.Scraping.{IsWithinLimit}
use Rattle.label_sets.proofs.Laws.{option_map-none}

-- a sample without a fault stands behind fewer than the limit
not_past : (st : Setting) (earlier : List Item) (s : Sample) → item_fault st earlier (items.Sample s) ≡ None → nat_le st.limit (count_by is_sample earlier) ≡ true → ⊥
unfolding item_fault item_breaks is_past_limit
not_past st earlier s free past =
    none_found (item_breaks st earlier (items.Sample s)) item_rules free rules.TooMany
    (inr (inr (inr (inr (inr (inr (inr (inr (inr (inr (inr (inr (inl refl))))))))))))) past

few_before : (limit count : ℕ) (b : Bool) → nat_le limit count ≡ b → (nat_le limit count ≡ true → ⊥) → count < limit
few_before limit count true past never = absurd (never past)
few_before limit count false past never = omega (arith, leb-false _ _ past)

-- one more item without a fault
one_more_item : (st : Setting) (earlier : List Item) (item : Item) → item_fault st earlier item ≡ None → count_by is_sample earlier ≤ st.limit → count_by is_sample (item ∷ earlier) ≤ st.limit
one_more_item st earlier (items.Sample s) free few =
    let fewer = few_before st.limit (count_by is_sample earlier) (nat_le st.limit (count_by is_sample earlier)) refl (not_past st earlier s free) in
    omega (arith, sum_by-cons (λ (x : Item). cond (is_sample x) 1 0) (items.Sample s) earlier)
one_more_item st earlier item free few = omega (arith, sum_by-cons (λ (x : Item). cond (is_sample x) 1 0) item earlier)

no_first : {A : Type 0} (a b : Option A) → option_or a b ≡ None → a ≡ None
no_first None b e = refl
no_first (Some x) b e = absurd (cc e)

no_second : {A : Type 0} (a b : Option A) → option_or a b ≡ None → b ≡ None
no_second None b e = e
no_second (Some x) b e = absurd (cc e)

one_more_says : (st : Setting) (earlier : List Item) (says : Option Written) → option_and_then (λ w. item_fault st earlier (item_of st.format w)) says ≡ None
    → count_by is_sample earlier ≤ st.limit → count_by is_sample (option_map_or (λ w. item_of st.format w ∷ earlier) says earlier) ≤ st.limit
one_more_says st earlier None free few = few
one_more_says st earlier (Some w) free few = one_more_item st earlier (item_of st.format w) free few

-- one more line without a fault
one_more_line : (st : Setting) (l : Line) (earlier : List Item) → line_fault st earlier l ≡ None → count_by is_sample earlier ≤ st.limit → count_by is_sample (with_line st.format l earlier) ≤ st.limit
unfolding line_fault
one_more_line st l earlier free few =
    one_more_says st earlier l.says (no_second (own_fault st l) (option_and_then (λ w. item_fault st earlier (item_of st.format w)) l.says) free) few

-- all lines of a page without a fault
all_lines : (ls : List Line) (st : Setting) (earlier : List Item) (n : ℕ) (clean : Bool) → fault_from st earlier n ls clean ≡ None → count_by is_sample earlier ≤ st.limit
    → count_by is_sample (fold (λ above l. with_line st.format l above) earlier ls) ≤ st.limit
unfolding fault_from
all_lines [] st earlier n clean free few = few
all_lines (l ∷ ls) st earlier n clean free few =
    all_lines ls st (with_line st.format l earlier) (n + 1) clean
    (no_second (option_map (λ rule. (n, rule)) (line_fault st earlier l)) (fault_from st (with_line st.format l earlier) (n + 1) ls clean) free)
    (one_more_line st l earlier (option_map-none (λ rule. (n, rule)) (line_fault st earlier l) (no_first (option_map (λ rule. (n, rule)) (line_fault st earlier l)) (fault_from st (with_line st.format l earlier) (n + 1) ls clean) free)) few)

-- the page of a text has no more samples than it may have
pub few_samples : (st : Setting) (bytes : List ℕ) (page : Page) → IsPageOf st bytes page → page.samples ≤ st.limit
unfolding page_of
few_samples st bytes page x =
    subst (λ (p : Page). p.samples ≤ st.limit) (sym x.page_is) (all_lines x.lines st [] 1 (ends_clean bytes) x.without_fault (omega arith))

-- what a body comes to is within the limit
pub within_limit : (limit : ℕ) (format : Format) (body : List ℕ) (outcome : Outcome) → IsPageOutcome limit format body outcome → IsWithinLimit limit outcome
within_limit limit format body (outcomes.Page page) x =
    let st = scraped_setting format limit in
    ((st, refl, text_is_right st body page x), few_samples st body page x)
within_limit limit format body (outcomes.Failed cause) x = tt

-- what a talk comes to is within the limit
pub outcome_within : (end : End) (limit : ℕ) (known : Judged) (outcome : Outcome) → IsOutcomeOf end limit known outcome → IsWithinLimit limit outcome
outcome_within end limit (decided (refused cause)) outcome x = subst (IsWithinLimit limit) (sym x) tt
outcome_within end limit (decided (whole format body)) outcome x = within_limit limit format body outcome x
outcome_within ends.ConnectFailed limit waits outcome x = subst (IsWithinLimit limit) (sym x) tt
outcome_within ends.WriteFailed limit waits outcome x = subst (IsWithinLimit limit) (sym x) tt
outcome_within ends.ReadFailed limit waits outcome x = subst (IsWithinLimit limit) (sym x) tt
outcome_within ends.Ended limit waits outcome x = subst (IsWithinLimit limit) (sym x) tt
outcome_within ends.Left limit waits outcome x = absurd x
outcome_within ends.ConnectFailed limit (goes_on format body) outcome x = subst (IsWithinLimit limit) (sym x) tt
outcome_within ends.WriteFailed limit (goes_on format body) outcome x = subst (IsWithinLimit limit) (sym x) tt
outcome_within ends.ReadFailed limit (goes_on format body) outcome x = subst (IsWithinLimit limit) (sym x) tt
outcome_within ends.Ended limit (goes_on format body) outcome x = within_limit limit format body outcome x
outcome_within ends.Left limit (goes_on format body) outcome x = absurd x
