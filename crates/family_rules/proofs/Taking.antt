-- What the functions of a checker prove of an item, from what each of their steps did.
use Rattle.std.proofs.lemmas.Bool.{le-leb}
use Rattle.std.proofs.lemmas.Bool.Decides.{nat_tests}
use Rattle.std.proofs.Common.{◌≡◌, ◌≤◌, ◌<◌, ◌⊎◌, arith, ℕ, Bool, true, false, cond, not, ◌&&◌, ◌||◌, List, [], ◌∷◌, ◌++◌, Option, Some, None, Result, Ok, Err, refl, sym, ap, subst, ◌∙◌, inl, inr, ◌+◌, is_some, count_by}
use Rattle.std.specs.Prelude.{OnOk, IfOk, IfSome, nat_le}
use Rattle.std.specs.Option.{option_or}
use Rattle.label_sets.specs.Lists.{when_true}
use Rattle.page_model.specs.declared.item.Item.{Item}
use Rattle.page_model.specs.declared.item.Item.TheVariants as items
use Rattle.page_model.specs.declared.rule.Rule.{Rule}
use Rattle.page_model.specs.declared.rule.Rule.TheVariants as rules
use Rattle.page_model.specs.Written.{Setting}
use Rattle.page_model.specs.Items.{is_eof, is_sample}
use Rattle.page_model.specs.Owners.{Owned, owned_lines}
use Rattle.page_model.specs.Rules.{is_open_metrics, is_after_eof, is_late_descriptor, is_split}
use Rattle.page_model.specs.Faults.{item_fault}
use Rattle.family_rules.specs.declared.family.Descriptor.{Descriptor}
use Rattle.family_rules.specs.declared.timed_values.TimedValue.{TimedValue}
use Rattle.packed_keys.specs.declared.sample_key.SampleKey.{SampleKey}
use Rattle.family_rules.specs.KeyedValues.{is_key_of, samples_at_end, is_passed}
use Rattle.family_rules.specs.GroupRuns.{nearest_runs}
use Rattle.family_rules.specs.Checking.{Checking, so_far, left_families, current_family, seen_above, Stands}
use Rattle.family_rules.specs.Steps.{line_of, is_current_family, begun, reached, with_descriptor, left_stop, place_stop, unit_stop, has_ended, Takes, TakesAny, IsReady}
use Rattle.family_rules.specs.LeastRule.{lesser, least}
use Rattle.family_rules.specs.Samples.{with_counted, with_sample, known_stop, limit_stop, sample_stop}
use Rattle.family_rules.proofs.Lists.{pairs}
use Rattle.family_rules.proofs.Faults.{ended_fault, described_fault, unit_fault, left_fault, blank_fault, comment_fault, eof_fault}
use Rattle.family_rules.proofs.Joined.{many_last, many_behind}
use Rattle.family_rules.proofs.Standing.{ready_reached, stands_described, unit_kept, place_kept, left_at_end}

pub on_ok : {T E : Type 0} (P Q : Type 0) (r : Result T E) → (P → Q) → OnOk r P → OnOk r Q
on_ok P Q (Ok x) f h = f h
on_ok P Q (Err e) f h = tt

pub if_ok_both : {T E : Type 0} (P Q R : T → Type 0) (r : Result T E) → ((x : T) → P x → Q x → R x) → IfOk r P → IfOk r Q → IfOk r R
if_ok_both P Q R (Ok x) f h k = f x h k
if_ok_both P Q R (Err e) f h k = tt

-- a refused item leaves nothing to say of the checker
pub refused : (item : Item) (c d : Checking) (rule : Rule) → ((st : Setting) (earlier : List Item) → Stands st c earlier → is_after_eof st earlier ≡ false → Some rule ≡ item_fault st earlier item) → Takes item c d (Some rule)
refused item c d rule h = record { broken_is = h; stands = λ st earlier s text none. absurd cc }

-- ---- the current family

pub reached_same : (c : Checking) (F : List ℕ) → is_current_family c.current F ≡ true → c ≡ reached c F
unfolding reached
reached_same c F e = rw e refl

pub reached_other : (c d : Checking) (F : List ℕ) → is_current_family c.current F ≡ false → d ≡ begun c F → d ≡ reached c F
unfolding reached
reached_other c d F e h = rw e h

-- ---- descriptors

-- a rule that is broken goes before the others
some_first : (a rest broken : Option Rule) → is_some broken ≡ true → broken ≡ a → broken ≡ option_or a rest
some_first a rest None some h = absurd (let f : false ≡ true = some in cc)
some_first a rest (Some rule) some h = ap (λ o. option_or o rest) h

-- what a line is refused with
answered : (item : Item) (c d : Checking) (broken : Option Rule) → is_some broken ≡ true
    → ((st : Setting) (earlier : List Item) → Stands st c earlier → is_after_eof st earlier ≡ false → broken ≡ item_fault st earlier item) → Takes item c d broken
answered item c d None some h = absurd (let f : false ≡ true = some in cc)
answered item c d (Some rule) some h = refused item c d rule h

-- a place without a fault
placed : (late split : Bool) (left : Option Rule) → None ≡ cond late (Some rules.Descriptor) (cond split (Some rules.Split) left) → (late ≡ false) × (split ≡ false)
placed true split left h = absurd (let e : None ≡ Some rules.Descriptor = h in cc)
placed false true left h = absurd (let e : None ≡ Some rules.Split = h in cc)
placed false false left h = (refl, refl)

module _ (c : Checking) (F : List ℕ) (d : Descriptor) (after : Checking) where
  abbrev line : Owned
  line = record { family = F; item = line_of F d }

  -- the rule of its place goes first
  place_first : (st : Setting) (earlier : List Item) → Stands st c earlier → is_after_eof st earlier ≡ false → item_fault st earlier (line_of F d) ≡ option_or (place_stop c F d) (unit_fault (owned_lines st.format earlier) line)
  place_first st earlier s before = described_fault st earlier before F d
      ∙ ap (λ o. option_or o (unit_fault (owned_lines st.format earlier) line)) (sym (place_kept st c earlier s F d))

  pub place_refused : (broken : Option Rule) → is_some broken ≡ true → broken ≡ place_stop c F d → Takes (line_of F d) c after broken
  place_refused broken some told = answered (line_of F d) c after broken some (λ st earlier s t.
      some_first (place_stop c F d) (unit_fault (owned_lines st.format earlier) line) broken some told ∙ sym (place_first st earlier s t))

  module _ (free : None ≡ place_stop c F d) where
    fits_place : (st : Setting) (earlier : List Item) → Stands st c earlier → (is_late_descriptor (owned_lines st.format earlier) line ≡ false) × (is_split (owned_lines st.format earlier) line ≡ false)
    fits_place st earlier s = let above : List Owned = owned_lines st.format earlier in
        placed (is_late_descriptor above line) (is_split above line) (left_fault st above (Some F)) (free ∙ place_kept st c earlier s F d)

    ready_here : (st : Setting) (earlier : List Item) → Stands st c earlier → IsReady st (reached c F) earlier F
    ready_here st earlier s = ready_reached st c earlier s F (line_of F d) (fits_place st earlier s).1

    -- what is left of the rules behind those of its place
    unit_first : (st : Setting) (earlier : List Item) → Stands st c earlier → is_after_eof st earlier ≡ false → unit_stop (reached c F).current d ≡ item_fault st earlier (line_of F d)
    unit_first st earlier s before = unit_kept st (reached c F) earlier F (ready_here st earlier s) d
        ∙ ap (λ o. option_or o (unit_fault (owned_lines st.format earlier) line)) free ∙ sym (place_first st earlier s before)

    pub unit_refused : (broken : Option Rule) → is_some broken ≡ true → broken ≡ unit_stop (reached c F).current d → Takes (line_of F d) c after broken
    unit_refused broken some told = answered (line_of F d) c after broken some (λ st earlier s t. told ∙ unit_first st earlier s t)

    pub descriptor_taken : None ≡ unit_stop (reached c F).current d → after ≡ with_descriptor (reached c F) d → Takes (line_of F d) c after None
    descriptor_taken told step = record {
      broken_is = λ st earlier s t. told ∙ unit_first st earlier s t;
      stands = λ st earlier s t none. subst (λ e. Stands st e (line_of F d ∷ earlier)) (sym step)
          (stands_described st (reached c F) earlier F (ready_here st earlier s) d (sym (told ∙ unit_first st earlier s t)) (fits_place st earlier s).0);
    }

-- ---- what a sample may break last

pub negated : (a b : Bool) → a ≡ not b → a ≡ false → b ≡ true
negated a true h e = refl
negated a false h e = absurd (let f : false ≡ true = sym e ∙ h in cc)

pub negated_true : (a b : Bool) → a ≡ not b → a ≡ true → b ≡ false
negated_true a false h e = refl
negated_true a true h e = absurd (let f : true ≡ false = sym e ∙ h in cc)

pub stop_seen : (c : Checking) (own : ℕ) (key : SampleKey) (broken : Option Rule) → is_key_of key c.seen ≡ true → (rule : Option Rule) → rule ≡ known_stop own key.labels c.seen → least rule broken ≡ sample_stop c own key broken
unfolding sample_stop
stop_seen c own key broken h rule told =
    ap (λ o. least o broken) told ∙ by (is_passed key.labels (samples_at_end own c.seen))
    ∙ sym (ap (λ b. least (cond b (known_stop own key.labels c.seen) None) (least broken (limit_stop c))) h)
  where
    by : (p : Bool) → least (least (when_true p rules.Interleaved) (Some rules.Duplicate)) broken ≡ least (least (when_true p rules.Interleaved) (Some rules.Duplicate)) (least broken (limit_stop c))
    by true = many_behind (lesser rules.Interleaved rules.Duplicate) broken (nat_le c.setting.limit c.samples)
    by false = many_behind rules.Duplicate broken (nat_le c.setting.limit c.samples)

pub stop_broken : (c : Checking) (own : ℕ) (key : SampleKey) (broken : Option Rule) → is_key_of key c.seen ≡ false → is_some broken ≡ true → broken ≡ sample_stop c own key broken
unfolding sample_stop
stop_broken c own key None h some = absurd (let f : false ≡ true = some in cc)
stop_broken c own key (Some rule) h some = sym (ap (λ b. least (cond b (known_stop own key.labels c.seen) None) (least (Some rule) (limit_stop c))) h ∙ many_last (Some rule) (nat_le c.setting.limit c.samples))

pub stop_many : (c : Checking) (own : ℕ) (key : SampleKey) (broken : Option Rule) → is_key_of key c.seen ≡ false → is_some broken ≡ false → c.setting.limit ≤ c.samples → Some rules.TooMany ≡ sample_stop c own key broken
unfolding sample_stop
stop_many c own key (Some rule) h some many = absurd (let f : true ≡ false = some in cc)
stop_many c own key None h some many = rw (h, le-leb c.setting.limit c.samples many) refl

pub stop_none : (c : Checking) (own : ℕ) (key : SampleKey) (broken : Option Rule) → is_key_of key c.seen ≡ false → is_some broken ≡ false → c.samples < c.setting.limit → None ≡ sample_stop c own key broken
unfolding sample_stop
stop_none c own key (Some rule) h some few = absurd (let f : true ≡ false = some in cc)
stop_none c own key None h some few = let past : nat_le c.setting.limit c.samples ≡ false = grind (arith, nat_tests) in rw (h, past) refl

-- ---- lines without an owner

module _ (c : Checking) where
  -- an item that owns nothing changes nothing but that the page may end
  same_lines : (item : Item) (d : Checking) → d.ended ≡ (is_eof item || c.ended) → d ≡ record c { ended = d.ended } → (st : Setting) (earlier : List Item) → Stands st c earlier → owned_lines st.format (item ∷ earlier) ≡ owned_lines st.format earlier
      → count_by is_sample earlier ≡ count_by is_sample (item ∷ earlier) → item_fault st earlier item ≡ None → Stands st d (item ∷ earlier)
  same_lines item d ended same st earlier s lines samples none = subst (λ e. Stands st e (item ∷ earlier)) (sym same) (record {
    setting = s.setting;
    left = s.left ∙ ap (λ l. pairs (so_far st l) (left_families l)) (sym lines);
    current = s.current ∙ ap (current_family st) (sym lines);
    runs = s.runs ∙ ap (nearest_runs st) (sym lines);
    seen = s.seen ∙ ap (seen_above st) (sym lines);
    samples = s.samples ∙ samples;
    ended = ended ∙ ap (λ b. is_eof item || b) s.ended;
    working = s.working;
    faultless = (none, s.faultless);
  })

  pub quiet_taken : (item : Item) → (item ≡ items.Blank) ⊎ (item ≡ items.Comment) → Takes item c c None
  unfolding owned_lines
  quiet_taken item (inl e) = subst (λ i. Takes i c c None) (sym e) (record {
    broken_is = λ st earlier s t. sym (blank_fault st earlier t);
    stands = λ st earlier s t none. same_lines items.Blank c refl refl st earlier s refl refl (blank_fault st earlier t);
  })
  quiet_taken item (inr e) = subst (λ i. Takes i c c None) (sym e) (record {
    broken_is = λ st earlier s t. sym (comment_fault st earlier t);
    stands = λ st earlier s t none. same_lines items.Comment c refl refl st earlier s refl refl (comment_fault st earlier t);
  })

  -- the end leaves the current family
  pub end_taken : (d : Checking) (broken : Option Rule) → d ≡ record c { ended = true } → broken ≡ left_stop c.current → Takes items.Eof c d broken
  unfolding owned_lines
  end_taken d broken step told = record {
    broken_is = λ st earlier s t. told ∙ left_at_end st c earlier s ∙ sym (eof_fault st earlier t);
    stands = λ st earlier s t none. subst (λ e. Stands st e (items.Eof ∷ earlier)) (sym step) (same_lines items.Eof (record c { ended = true }) refl refl st earlier s refl refl
        (eof_fault st earlier t ∙ sym (left_at_end st c earlier s) ∙ sym told ∙ none));
  }

  ended_kept : (st : Setting) (earlier : List Item) → Stands st c earlier → has_ended c ≡ is_after_eof st earlier
  unfolding is_after_eof
  ended_kept st earlier s = λ i. is_open_metrics (s.setting i).format && s.ended i

  -- a line behind the end
  pub any_ended : (item : Item) (d : Checking) → has_ended c ≡ true → TakesAny item c d (Some rules.AfterEof)
  any_ended item d h = record {
    broken_is = λ st earlier s. sym (ended_fault st earlier item (sym (ended_kept st earlier s) ∙ h));
    stands = λ st earlier s none. absurd (let f : Some rules.AfterEof ≡ None = none in cc);
  }

  pub any_open : (item : Item) (d : Checking) (broken : Option Rule) → has_ended c ≡ false → Takes item c d broken → TakesAny item c d broken
  any_open item d broken h takes = record {
    broken_is = λ st earlier s. takes.broken_is st earlier s (sym (ended_kept st earlier s) ∙ h);
    stands = λ st earlier s none. takes.stands st earlier s (sym (ended_kept st earlier s) ∙ h) none;
  }

-- the value of an option, by what is said of it
pub some_is : {A : Type 0} (o : Option A) (x y : A) → o ≡ Some x → IfSome o (λ z. z ≡ y) → x ≡ y
some_is None x y e h = absurd (let f : None ≡ Some x = e in cc)
some_is (Some z) x y e h = let same : z ≡ x = let f : Some z ≡ Some x = e in cc in sym same ∙ h

-- a sample that was added stands behind the others
pub put_new : {A : Type 0} (seen : List A) (x : A) (known : Bool) → known ≡ false → cond known seen (seen ++ x ∷ []) ≡ seen ++ x ∷ []
put_new seen x known h = ap (λ b. cond b seen (seen ++ x ∷ [])) h

-- an answer that is none
pub is_no_rule : (broken : Option Rule) → is_some broken ≡ false → broken ≡ None
is_no_rule None h = refl
is_no_rule (Some rule) h = absurd (let f : true ≡ false = h in cc)

-- the sample is added where it breaks no rule
pub sample_added : (c d e : Checking) (key : SampleKey) (value : TimedValue) (seen : List (SampleKey × TimedValue)) → d ≡ record c { seen = seen; samples = c.samples + 1 } → seen ≡ c.seen ++ (key, value) ∷ []
    → e ≡ with_counted d → e ≡ with_sample c key value
unfolding with_sample
sample_added c d e key value seen step new counted =
    counted ∙ ap with_counted step ∙ ap (λ l. with_counted (record c { seen = l; samples = c.samples + 1 })) new
