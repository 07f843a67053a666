-- Rules that are joined by the least number are those told one behind the other.
use Rattle.std.proofs.lemmas.Bool.Decides.{nat_tests}
use Rattle.std.proofs.Common.{◌≡◌, arith, ℕ, Bool, true, false, cond, not, List, Option, Some, None, Result, refl, sym, ap, ◌∙◌}
use Rattle.std.specs.Prelude.{IfSome, nat_le}
use Rattle.std.specs.Option.{option_or}
use Rattle.label_sets.specs.declared.kind.Kind.{Kind}
use Rattle.label_sets.specs.declared.label_set.LabelSet.{LabelSet}
use Rattle.label_sets.specs.Lists.{when_true}
use Rattle.page_model.specs.declared.rule.Rule.{Rule}
use Rattle.page_model.specs.declared.rule.Rule.TheVariants as rules
use Rattle.page_model.specs.RuleNames.{rule_number}
use Rattle.packed_keys.specs.declared.sample_key.SampleKey.{SampleKey}
use Rattle.sample_groups.specs.declared.part.Part.{Part}
use Rattle.family_rules.specs.declared.timed_values.TimedValue.{TimedValue}
use Rattle.family_rules.specs.LeastRule.{lesser, least}
use Rattle.family_rules.specs.KeyedValues.{is_key_of, samples_at_end, is_passed}
use Rattle.family_rules.specs.Checking.{Checking}
use Rattle.family_rules.specs.Samples.{own_samples, is_back, is_told_back, measure_stop, passed_stop, known_stop, seen_stop, limit_stop, sample_stop, key_stop}

-- ---- the least of two

-- where none is the least, none is broken
pub least_none : (a b : Option Rule) → least a b ≡ None → (a ≡ None) × (b ≡ None)
least_none None b h = (refl, h)
least_none (Some a) None h = absurd (let f : Some a ≡ None = h in cc)
least_none (Some a) (Some b) h = absurd (let f : Some (lesser a b) ≡ None = h in cc)

-- beside a rule that is told, some rule is the least
pub least_some : (a : Option Rule) (rule : Rule) → least a (Some rule) ≡ None → ⊥
least_some a rule h = let told : Some rule ≡ None = (least_none a (Some rule) h).1 in cc

-- a rule that isn't told isn't broken
pub none_told : (b : Bool) (rule : Rule) → when_true b rule ≡ None → b ≡ false
none_told false rule h = refl
none_told true rule h = absurd (let f : Some rule ≡ None = h in cc)

-- what doesn't break the order fits
pub fitting : (fits : Bool) → not fits ≡ false → fits ≡ true
fitting true h = refl
fitting false h = absurd (let f : true ≡ false = h in cc)

-- ---- the order of the numbers

-- no rule has a greater number than TooMany
last_number : (rule : Rule) → nat_le (rule_number rule) (rule_number rules.TooMany) ≡ true
unfolding rule_number
last_number rules.TooLong = refl
last_number rules.Utf8 = refl
last_number rules.NoNewline = refl
last_number rules.Syntax = refl
last_number rules.Range = refl
last_number rules.Labels = refl
last_number rules.AfterEof = refl
last_number rules.NoEof = refl
last_number rules.Descriptor = refl
last_number rules.Exemplar = refl
last_number rules.Split = refl
last_number rules.Interleaved = refl
last_number rules.Suffix = refl
last_number rules.Duplicate = refl
last_number rules.Value = refl
last_number rules.Threshold = refl
last_number rules.Order = refl
last_number rules.Incomplete = refl
last_number rules.Unit = refl
last_number rules.TooMany = refl

pub many_last : (a : Option Rule) (l : Bool) → least a (when_true l rules.TooMany) ≡ option_or a (when_true l rules.TooMany)
many_last None l = refl
many_last (Some a) false = refl
many_last (Some a) true = ap (λ b. Some (cond b a rules.TooMany)) (last_number a)

-- where a rule is told, TooMany changes nothing
pub many_behind : (rule : Rule) (b : Option Rule) (l : Bool) → least (Some rule) b ≡ least (Some rule) (least b (when_true l rules.TooMany))
many_behind rule None l = sym (many_last (Some rule) l)
many_behind rule (Some x) l = sym (ap (least (Some rule)) (many_last (Some x) l))

-- it comes behind Duplicate
abbrev pub IsLate : Option Rule → Type 0
IsLate o = IfSome o (λ rule. nat_le (rule_number rules.Duplicate) (rule_number rule) ≡ true)

smaller : (n : ℕ) → nat_le 14 n ≡ true → nat_le 12 n ≡ true
smaller n h = grind (arith, nat_tests)

back_late : (o : Option Rule) → IsLate o → least (Some rules.Interleaved) o ≡ Some rules.Interleaved
unfolding rule_number
back_late None h = refl
back_late (Some rule) h = ap (λ b. Some (cond b rules.Interleaved rule)) (smaller (rule_number rule) h)

double_late : (o : Option Rule) → IsLate o → least (Some rules.Duplicate) o ≡ Some rules.Duplicate
double_late None h = refl
double_late (Some rule) h = ap (λ b. Some (cond b rules.Duplicate rule)) h

late_more : (o : Option Rule) (l : Bool) → IsLate o → IsLate (option_or o (when_true l rules.TooMany))
unfolding rule_number
late_more None true h = refl
late_more None false h = tt
late_more (Some rule) l h = h

pub late_measure : (v t o : Bool) → IsLate (cond v (Some rules.Value) (cond t (Some rules.Threshold) (cond o (Some rules.Order) None)))
unfolding rule_number
late_measure true t o = refl
late_measure false true o = refl
late_measure false false true = refl
late_measure false false false = tt

pub late_left : (b : Bool) → IsLate (cond b (Some rules.Incomplete) None)
unfolding rule_number
late_left true = refl
late_left false = tt

pub suffix_joined : (b : Bool) → least (when_true b rules.Interleaved) (Some rules.Suffix) ≡ Some (cond b rules.Interleaved rules.Suffix)
unfolding rule_number
suffix_joined true = refl
suffix_joined false = refl

-- ---- the rules of a sample

-- Interleaved or Duplicate, of a key that was seen or not
abbrev seen_of : Bool → Bool → Option Rule
seen_of d p = cond d (least (when_true p rules.Interleaved) (Some rules.Duplicate)) None

backs : (b t : Bool) (m : Option Rule) → IsLate m
    → least (when_true b rules.Interleaved) (least (when_true t rules.Interleaved) m) ≡ cond b (Some rules.Interleaved) (cond t (Some rules.Interleaved) m)
unfolding rule_number
backs false false m h = refl
backs false true m h = back_late m h
backs true false m h = back_late m h
backs true true m h = ap (least (Some rules.Interleaved)) (back_late m h)

seen_first : (d p : Bool) (w : Option Rule) → IsLate w → least (seen_of d p) w ≡ cond d (Some (cond p rules.Interleaved rules.Duplicate)) w
unfolding rule_number
seen_first false p w h = refl
seen_first true false w h = double_late w h
seen_first true true w h = back_late w h

seen_back : (d p : Bool) → least (seen_of d p) (Some rules.Interleaved) ≡ Some rules.Interleaved
unfolding rule_number
seen_back false p = refl
seen_back true false = refl
seen_back true true = refl

chain : (b t d p l : Bool) (m : Option Rule) → IsLate m
    → least (seen_of d p) (least (least (when_true b rules.Interleaved) (least (when_true t rules.Interleaved) m)) (when_true l rules.TooMany))
    ≡ cond b (Some rules.Interleaved) (cond t (Some rules.Interleaved) (cond d (Some (cond p rules.Interleaved rules.Duplicate)) (option_or m (when_true l rules.TooMany))))
chain b t d p l m h =
    ap (λ o. least (seen_of d p) (least o (when_true l rules.TooMany))) (backs b t m h)
    ∙ ap (least (seen_of d p)) (many_last (cond b (Some rules.Interleaved) (cond t (Some rules.Interleaved) m)) l) ∙ by b t
  where
    by : (b t : Bool) → least (seen_of d p) (option_or (cond b (Some rules.Interleaved) (cond t (Some rules.Interleaved) m)) (when_true l rules.TooMany))
        ≡ cond b (Some rules.Interleaved) (cond t (Some rules.Interleaved) (cond d (Some (cond p rules.Interleaved rules.Duplicate)) (option_or m (when_true l rules.TooMany))))
    by true t = seen_back d p
    by false true = seen_back d p
    by false false = seen_first d p (option_or m (when_true l rules.TooMany)) (late_more m l h)

-- the order of a counter's group is asked where its key is new, and kept there
pub first_joined : (b d p l f : Bool) → (d ≡ false → when_true (not f) rules.Order ≡ None)
    → least (when_true b rules.Interleaved) (least (seen_of d p) (when_true l rules.TooMany))
    ≡ least (seen_of d p) (least (least (when_true b rules.Interleaved) (when_true (not f) rules.Order)) (when_true l rules.TooMany))
unfolding rule_number
first_joined true false p l true free = refl
first_joined false false p l true free = refl
first_joined b false p l false free = absurd (let f : Some rules.Order ≡ None = free refl in cc)
first_joined true true true true true free = refl
first_joined true true true true false free = refl
first_joined true true true false true free = refl
first_joined true true true false false free = refl
first_joined true true false true true free = refl
first_joined true true false true false free = refl
first_joined true true false false true free = refl
first_joined true true false false false free = refl
first_joined false true true true true free = refl
first_joined false true true true false free = refl
first_joined false true true false true free = refl
first_joined false true true false false free = refl
first_joined false true false true true free = refl
first_joined false true false true false free = refl
first_joined false true false false true free = refl
first_joined false true false false false free = refl

-- Interleaved or Duplicate, of a key that was seen: it goes back to one of so many samples at the end, or not
abbrev pub seen_rule : ℕ → LabelSet → List (SampleKey × TimedValue) → Rule
seen_rule own labels seen = cond (is_passed labels (samples_at_end own seen)) rules.Interleaved rules.Duplicate

-- Interleaved or Duplicate, then what else is broken, then TooMany
abbrev pub plain_stop : Checking → ℕ → SampleKey → Option Rule → Option Rule
plain_stop c own key broken = cond (is_key_of key c.seen) (Some (seen_rule own key.labels c.seen)) (option_or broken (limit_stop c))

-- all that a sample with a key breaks, one rule behind the other
pub key_plain : (c : Checking) (k : Kind) (key : SampleKey) (told : Result (Option Part) Rule) → IsLate (measure_stop k key.labels told c.current)
    → key_stop c k key told ≡ cond (is_back c k key.labels) (Some rules.Interleaved) (cond (is_told_back c.setting.format k key.labels told c.current) (Some rules.Interleaved)
    (plain_stop c (own_samples c k) key (measure_stop k key.labels told c.current)))
unfolding sample_stop
key_plain c k key told h =
    chain (is_back c k key.labels) (is_told_back c.setting.format k key.labels told c.current) (is_key_of key c.seen) (is_passed key.labels (samples_at_end (own_samples c k) c.seen))
    (nat_le c.setting.limit c.samples) (measure_stop k key.labels told c.current) h

-- what is broken by the group is broken
pub stop_free : (c : Checking) (own : ℕ) (key : SampleKey) (broken : Option Rule) → sample_stop c own key broken ≡ None → broken ≡ None
unfolding sample_stop
stop_free c own key broken h = (least_none broken (limit_stop c) (least_none (seen_stop own key c.seen) (least broken (limit_stop c)) h).1).0

-- a key that was seen breaks a rule
pub known_never : (own : ℕ) (labels : LabelSet) (seen : List (SampleKey × TimedValue)) (broken : Option Rule) → least (known_stop own labels seen) broken ≡ None → ⊥
known_never own labels seen broken h = least_some (passed_stop own labels seen) rules.Duplicate (least_none (known_stop own labels seen) broken h).0
