-- Keys that tell which groups of a family are new.
use Rattle.std.proofs.Common.{◌≡◌, ℕ, Bool, true, false, cond, not, ◌&&◌, ◌||◌, ◌+◌, List, [], ◌∷◌, ◌++◌, Option, Some, None, refl, sym, ap, subst, ◌∙◌, map, ◌-◌, arith, length-append}
use Rattle.std.specs.Prelude.{nat_le, nat_lt, Ok, length, slice_get, option_map}
use Rattle.std.specs.Cmp.Lexicographic.{bytes_decides}
use Rattle.std.specs.List.{zip}
use Rattle.std.proofs.lemmas.List.{map-append}
use Rattle.std.proofs.lemmas.List.Folds.{list_any-append}
use Rattle.label_sets.specs.declared.kind.Kind.TheVariants.{Counter}
use Rattle.label_sets.specs.declared.label_set.LabelSet.{LabelSet}
use Rattle.label_sets.specs.Labels.{label_sets_eq}
use Rattle.label_sets.specs.Lists.{when_true}
use Rattle.label_sets.proofs.Laws.{sets_decide}
use Rattle.packed_keys.specs.declared.sample_key.SampleKey.{SampleKey}
use Rattle.packed_keys.specs.Packing.{sample_key_eq}
use Rattle.page_model.specs.declared.format.Format.{Format}
use Rattle.page_model.specs.declared.format.Format.TheVariants as formats
use Rattle.page_model.specs.declared.rule.Rule.{Rule}
use Rattle.page_model.specs.declared.rule.Rule.TheVariants as rules
use Rattle.page_model.specs.Rules.{is_open_metrics}
use Rattle.sample_groups.specs.Members.{Member}
use Rattle.sample_groups.specs.Groups.{Gathered, known_group, or_empty, put_group, with_one, with_part, breaks_order, is_overtaken}
use Rattle.sample_groups.specs.LastSeen.{EndsWith}
use Rattle.sample_groups.proofs.Laws.{first_fits}
use Rattle.family_rules.specs.declared.family.Current.{Current}
use Rattle.family_rules.specs.declared.group_keys.GroupKeys.TheVariants as told
use Rattle.family_rules.specs.declared.timed_values.TimedValue.{TimedValue}
use Rattle.family_rules.specs.GroupRuns.{group_key}
use Rattle.family_rules.specs.LeastRule.{least}
use Rattle.family_rules.specs.KeyedValues.{is_key_of, samples_at_end, is_passed}
use Rattle.family_rules.specs.GroupKeys.{IsNewGroup, NameTells, TellTrue}
use Rattle.family_rules.specs.Checking.{Checking}
use Rattle.family_rules.specs.Steps.{current_with}
use Rattle.family_rules.specs.Samples.{family_with_sample, current_samples, runs_with, with_sample, with_part_in, with_part_at, with_key, own_samples, passed_stop, known_stop, seen_stop, limit_stop, sample_stop, fits_order, order_stop, is_overtaken_in, is_back_in_groups, is_told_back, part_stop, key_stop}
use Rattle.family_rules.proofs.Joined.{least_none, first_joined}

-- ---- a sample more

key_in_front : (key : SampleKey) (seen more : List (SampleKey × TimedValue)) → is_key_of key (seen ++ more) ≡ false → is_key_of key seen ≡ false
key_in_front key seen more h = by (is_key_of key seen) (sym (list_any-append (λ (e : SampleKey × TimedValue). sample_key_eq key e.0) seen more) ∙ h)
  where
    by : (b : Bool) → (b || is_key_of key more) ≡ false → b ≡ false
    by true e = e
    by false e = refl

keys_same : (key : SampleKey) → sample_key_eq key key ≡ true
keys_same key = rw ((bytes_decides key.name key.name).1 refl, (sets_decide key.labels key.labels).1 refl) refl

-- the key of the last sample is seen
pub last_seen : (key : SampleKey) (seen : List (SampleKey × TimedValue)) (value : TimedValue) → is_key_of key (seen ++ (key, value) ∷ []) ≡ true
last_seen key seen value = list_any-append (λ (e : SampleKey × TimedValue). sample_key_eq key e.0) seen ((key, value) ∷ []) ∙ ap (λ b. is_key_of key seen || (b || false)) (keys_same key) ∙ by (is_key_of key seen)
  where
    by : (b : Bool) → (b || true) ≡ true
    by true = refl
    by false = refl

last_at : {A : Type 0} (xs : List A) (y : A) → slice_get (xs ++ y ∷ []) (length (xs ++ y ∷ []) - 1) ≡ Some y
last_at {A = A} xs y =
    let more : length (xs ++ y ∷ []) ≡ length xs + 1 = length-append xs (y ∷ []) in
    let at : length (xs ++ y ∷ []) - 1 ≡ length xs = omega (arith, more) in
    ap (slice_get (xs ++ y ∷ [])) at ∙ here xs
  where
    here : (zs : List A) → slice_get (zs ++ y ∷ []) (length zs) ≡ Some y
    here [] = refl
    here (z ∷ zs) = here zs

-- and it is the last one
pub last_labels : (key : SampleKey) (seen : List (SampleKey × TimedValue)) (value : TimedValue) → EndsWith (map (λ (e : SampleKey × TimedValue). e.0) (seen ++ (key, value) ∷ [])) key.labels
last_labels key seen value =
    let keys : List SampleKey = map (λ (e : SampleKey × TimedValue). e.0) seen in
    ap (λ (l : List SampleKey). option_map (λ (k : SampleKey). k.labels) (slice_get l (length l - 1))) (map-append (λ (e : SampleKey × TimedValue). e.0) seen ((key, value) ∷ []))
    ∙ ap (option_map (λ (k : SampleKey). k.labels)) (last_at keys key)

-- the keys of keys and values
pub zipped_keys : (keys : List SampleKey) (values : List TimedValue) → length values ≡ length keys → map (λ (e : SampleKey × TimedValue). e.0) (zip keys values) ≡ keys
zipped_keys [] values e = refl
zipped_keys (k ∷ keys) [] e = absurd (omega arith)
zipped_keys (k ∷ keys) (v ∷ values) e = ap (λ (l : List SampleKey). k ∷ l) (zipped_keys keys values (omega (arith, e)))

-- a sample more tells no less
pub more_tells : (name : List ℕ) (current : Option Current) (seen more : List (SampleKey × TimedValue)) → NameTells name current seen → NameTells name (current_with family_with_sample current) (seen ++ more)
more_tells name None seen more old labels unseen = tt
more_tells name (Some k) seen more old labels unseen = old labels (key_in_front (group_key name labels) seen more unseen)

pub still_new : (current : Option Current) (labels : LabelSet) → IsNewGroup current labels → IsNewGroup (current_with family_with_sample current) labels
still_new None labels h = tt
still_new (Some k) labels h = h

-- ---- a group that begins

-- other labels are still those of no group
known_put : (es : List (LabelSet × Gathered)) (labels other : LabelSet) (g : Gathered) → label_sets_eq other labels ≡ false → known_group es other ≡ None → known_group (put_group es labels g) other ≡ None
known_put [] labels other g apart h = rw apart refl
known_put (e ∷ es) labels other g apart h = by (label_sets_eq labels e.0) (label_sets_eq other e.0) refl h (known_put es labels other g apart)
  where
    by : (b c : Bool) → label_sets_eq other e.0 ≡ c → cond c (Some e.1) (known_group es other) ≡ None → (known_group es other ≡ None → known_group (put_group es labels g) other ≡ None)
        → known_group (cond b ((e.0, g) ∷ es) (e ∷ put_group es labels g)) other ≡ None
    by b true at h more = absurd (let f : Some e.1 ≡ None = h in cc)
    by true false at h more = rw at h
    by false false at h more = rw at (more h)

-- labels of no sample are not those of one
apart_labels : (key : SampleKey) (labels : LabelSet) (seen : List (SampleKey × TimedValue)) → is_key_of key seen ≡ true → is_key_of (group_key key.name labels) seen ≡ false → label_sets_eq labels key.labels ≡ false
apart_labels key labels seen here unseen = by (label_sets_eq labels key.labels) refl
  where
    by : (b : Bool) → label_sets_eq labels key.labels ≡ b → b ≡ false
    by false e = refl
    by true e =
        let same : labels ≡ key.labels = (sets_decide labels key.labels).0 e in
        sym here ∙ sym (ap (λ l. is_key_of (group_key key.name l) seen) same) ∙ unseen

begun_in : (key : SampleKey) (member : Member) (current : Option Current) (seen : List (SampleKey × TimedValue)) → is_key_of key seen ≡ true → NameTells key.name current seen
    → NameTells key.name (current_with (with_part_in Counter key.labels member) current) seen
unfolding with_part
begun_in key member None seen here old labels unseen = tt
begun_in key member (Some k) seen here old labels unseen =
    known_put k.family.groups key.labels labels (with_one (or_empty (known_group k.family.groups key.labels)) member) (apart_labels key labels seen here unseen) (old labels unseen)

pub begun_tells : (key : SampleKey) (member : Member) (current grown : Option Current) (seen : List (SampleKey × TimedValue)) → is_key_of key seen ≡ true → NameTells key.name current seen
    → grown ≡ current_with (with_part_in Counter key.labels member) current → TellTrue (told.Of key.name) grown seen
begun_tells key member current grown seen here old is name t =
    subst (λ n. NameTells n grown seen) ((bytes_decides key.name name).0 t) (subst (λ (o : Option Current). NameTells key.name o seen) (sym is) (begun_in key member current seen here old))

-- ---- what a key answers that tells whether its group is new

new_fits : (current : Option Current) (labels : LabelSet) (member : Member) → IsNewGroup current labels → order_stop Counter labels member.part current ≡ None
new_fits None labels member h = refl
new_fits (Some k) labels member h = ap (λ b. when_true (not (not b)) rules.Order) (ap (λ g. breaks_order (or_empty g) member.part) h ∙ first_fits member.part)

not_overtaken : (es : List (LabelSet × Gathered)) (labels : LabelSet) → known_group es labels ≡ None → is_overtaken es labels ≡ false
not_overtaken [] labels h = refl
not_overtaken (e ∷ es) labels h = by (label_sets_eq labels e.0) h (not_overtaken es labels)
  where
    by : (b : Bool) → cond b (Some e.1) (known_group es labels) ≡ None → (known_group es labels ≡ None → is_overtaken es labels ≡ false) → cond b (nat_lt 0 (length es)) (is_overtaken es labels) ≡ false
    by true h more = absurd (let f : Some e.1 ≡ None = h in cc)
    by false h more = more h

new_stays : (current : Option Current) (labels : LabelSet) → IsNewGroup current labels → is_overtaken_in Counter labels current ≡ false
new_stays None labels h = refl
new_stays (Some k) labels h = not_overtaken k.family.groups labels h

-- no samples are asked of a counter
none_own : (c : Checking) → own_samples c Counter ≡ 0
none_own c = by (is_open_metrics c.setting.format)
  where
    by : (b : Bool) → cond (b && false) (current_samples c.current) 0 ≡ 0
    by true = refl
    by false = refl

-- a counter's sample goes back to its group by the groups of its family, where the format has the rule
back_in : (f : Format) (labels : LabelSet) (member : Member) (current : Option Current) → is_back_in_groups f Counter labels current ≡ is_told_back f Counter labels (Ok (Some member.part)) current
back_in formats.Text labels member current = refl
back_in formats.OpenMetrics labels member current = refl

-- it goes back, or answers what its key does
pub first_stop : (c : Checking) (key : SampleKey) (member : Member) (back : Bool) → NameTells key.name c.current c.seen → back ≡ is_back_in_groups c.setting.format Counter key.labels c.current
    → least (when_true back rules.Interleaved) (sample_stop c 0 key None) ≡ key_stop c Counter key (Ok (Some member.part))
unfolding sample_stop
first_stop c key member back old told =
    ap (λ b. least (when_true b rules.Interleaved) (least (seen_stop 0 key c.seen) (limit_stop c))) (told ∙ back_in c.setting.format key.labels member c.current)
    ∙ first_joined (is_told_back c.setting.format Counter key.labels (Ok (Some member.part)) c.current) (is_key_of key c.seen) (is_passed key.labels (samples_at_end 0 c.seen))
    (nat_le c.setting.limit c.samples) (fits_order Counter key.labels member.part c.current) (λ unseen. new_fits c.current key.labels member (old key.labels unseen))
    ∙ ap (λ n. least (seen_stop n key c.seen) (least (part_stop c.setting.format Counter key.labels (Ok (Some member.part)) c.current) (limit_stop c))) (sym (none_own c))

-- a key that breaks no rule is new
unseen_here : (c : Checking) (key : SampleKey) → sample_stop c 0 key None ≡ None → is_key_of key c.seen ≡ false
unfolding sample_stop
unseen_here c key h = by (is_key_of key c.seen) (least_none (seen_stop 0 key c.seen) (limit_stop c) h).0
  where
    by : (b : Bool) → cond b (known_stop 0 key.labels c.seen) None ≡ None → b ≡ false
    by true e = absurd (let f : Some rules.Duplicate ≡ None = (least_none (passed_stop 0 key.labels c.seen) (Some rules.Duplicate) e).1 in cc)
    by false e = refl

module _ (c mid : Checking) (key : SampleKey) (value : TimedValue) (member : Member) (old : NameTells key.name c.current c.seen) (stop : None ≡ sample_stop c 0 key None) (step : mid ≡ with_sample c key value) where
  unseen : is_key_of key c.seen ≡ false
  unseen = unseen_here c key (sym stop)

  pub group_new : IsNewGroup mid.current key.labels
  unfolding with_sample
  group_new = subst (λ (m : Checking). IsNewGroup m.current key.labels) (sym step) (still_new c.current key.labels (old key.labels unseen))

  pub key_seen : is_key_of key mid.seen ≡ true
  unfolding with_sample
  key_seen = ap (λ (m : Checking). is_key_of key m.seen) step ∙ last_seen key c.seen value

  pub key_last : EndsWith (map (λ (e : SampleKey × TimedValue). e.0) mid.seen) key.labels
  unfolding with_sample
  key_last = subst (λ (m : Checking). EndsWith (map (λ (e : SampleKey × TimedValue). e.0) m.seen) key.labels) (sym step) (last_labels key c.seen value)

  pub name_tells : NameTells key.name mid.current mid.seen
  unfolding with_sample
  name_tells = subst (λ (m : Checking). NameTells key.name m.current m.seen) (sym step) (more_tells key.name c.current c.seen ((key, value) ∷ []) old)

  pub first_none : None ≡ key_stop c Counter key (Ok (Some member.part))
  first_none = stop ∙ first_stop c key member false old (sym (back_in c.setting.format key.labels member c.current
      ∙ ap (λ b. is_open_metrics c.setting.format && b) (new_stays c.current key.labels (old key.labels unseen)) ∙ never (is_open_metrics c.setting.format)))
    where
      never : (b : Bool) → (b && false) ≡ false
      never true = refl
      never false = refl

  pub first_added : (d : Checking) → d ≡ with_part_at mid Counter key.labels member → d ≡ with_key c Counter key value (Ok (Some member))
  unfolding with_sample
  first_added d grown = grown ∙ ap (λ (m : Checking). with_part_at m Counter key.labels member) step ∙ (λ i. record {
    setting = c.setting;
    left = c.left;
    current = swapped c.current i;
    runs = c.runs;
    seen = c.seen ++ (key, value) ∷ [];
    samples = c.samples + 1;
    ended = c.ended;
    stopped = c.stopped;
  }) ∙ ap (λ r. with_sample (record c { runs = r; current = current_with (with_part_in Counter key.labels member) c.current }) key value) (sym (same_runs c.current))
    where
      swapped : (o : Option Current) → current_with (with_part_in Counter key.labels member) (current_with family_with_sample o) ≡ current_with family_with_sample (current_with (with_part_in Counter key.labels member) o)
      swapped None = refl
      swapped (Some k) = refl

      same_runs : (o : Option Current) → runs_with c.setting.format o Counter key.labels c.runs ≡ c.runs
      same_runs None = refl
      same_runs (Some k) = refl
