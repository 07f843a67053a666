-- What the functions of a checker prove of a sample, from what each of their steps did.
use Rattle.std.proofs.Common.{◌≡◌, ℕ, Bool, true, false, cond, not, ◌&&◌, ◌||◌, List, [], ◌∷◌, ◌++◌, map, reverse, codes, Option, Some, None, Result, Ok, Err, refl, sym, ap, subst, ◌∙◌, is_some}
use Rattle.std.specs.Prelude.{nat_lt}
use Rattle.std.specs.Map.{lookup}
use Rattle.std.specs.Str.{bytes_eq}
use Rattle.std.proofs.lemmas.List.{append-nil}
use Rattle.label_sets.specs.declared.kind.Kind.{Kind}
use Rattle.label_sets.specs.declared.kind.Kind.TheVariants.{Counter, Histogram, GaugeHistogram, Unknown}
use Rattle.label_sets.specs.declared.label_set.LabelSet.{LabelSet}
use Rattle.label_sets.specs.Lists.{some_passes, when_true}
use Rattle.page_model.specs.declared.item.Exemplar.{Exemplar}
use Rattle.page_model.specs.declared.item.Item.{Item}
use Rattle.page_model.specs.declared.item.Item.TheVariants as items
use Rattle.page_model.specs.declared.item.Sample.{Sample}
use Rattle.page_model.specs.declared.rule.Rule.{Rule}
use Rattle.page_model.specs.declared.rule.Rule.TheVariants as rules
use Rattle.page_model.specs.Written.{Setting}
use Rattle.page_model.specs.Suffixes.{is_sample_name}
use Rattle.page_model.specs.Owners.{Owned, kind_of, sample_owner, owned_lines, samples_of, kept_labels}
use Rattle.page_model.specs.Rules.{is_open_metrics, is_after_eof, is_split, is_interleaved, has_suffix, may_have_exemplar, exemplar_characters, is_bad_exemplar, has_wrong_suffix, has_bad_value, has_bad_threshold, is_out_of_order, is_duplicate, sample_group}
use Rattle.page_model.specs.Faults.{item_fault}
use Rattle.sample_groups.specs.Members.{Member}
use Rattle.sample_groups.specs.declared.part.Part.{Part}
use Rattle.sample_groups.specs.Groups.{groups_from, known_group, or_empty, breaks_order, is_overtaken, shared_labels}
use Rattle.sample_groups.specs.Parts.{is_grouped, entry_of, part_of, sample_time, member_of}
use Rattle.sample_groups.proofs.Laws.{shared_group, order_kept}
use Rattle.family_rules.specs.declared.family.Current.{Current}
use Rattle.family_rules.specs.declared.timed_values.TimedValue.{TimedValue}
use Rattle.family_rules.specs.KeyedValues.{samples_at_end, is_passed}
use Rattle.packed_keys.specs.declared.sample_key.SampleKey.{SampleKey}
use Rattle.family_rules.specs.GroupRuns.{is_alone, has_own_runs, has_runs, goes_back}
use Rattle.family_rules.specs.Checking.{Checking, groups_so_far, so_far, key_of, timed, Stands}
use Rattle.family_rules.specs.LeastRule.{least}
use Rattle.family_rules.specs.Steps.{is_current_family, current_kind, with_current, begun, has_incomplete, left_stop, Takes, IsReady}
use Rattle.family_rules.specs.Samples.{is_current_sample, TellsPart, told_part, with_member, told_member, told_left, has_bad_exemplar, is_bad_plain_value, current_samples, own_samples, key_in, is_overtaken_in, is_back_in_groups, is_told_back, is_back, is_any_back, with_runs, entered_by, measure_stop, part_stop, order_stop, with_told, with_sample, with_key, with_added, sample_stop, key_stop, add_stop, name_stop}
use Rattle.family_rules.proofs.Lists.{bytes_same}
use Rattle.family_rules.proofs.LastRules.{or_none, stop_some, last_fault, rest_kept, back_first, either_refuses, no_own, not_wrong, member_told}
use Rattle.family_rules.proofs.Joined.{least_none, none_told, stop_free, IsLate, late_measure, late_left, suffix_joined, plain_stop, key_plain}
use Rattle.family_rules.proofs.Faults.{fit_lines, together_samples, sound_samples, left_fault, measure_fault, rest_fault, sample_fault}
use Rattle.family_rules.proofs.Plain.{suffix_is, plain_value, plain_threshold, plain_order}
use Rattle.family_rules.proofs.RunLaws.{interleaved_kept}
use Rattle.family_rules.proofs.GroupedBack.{overtaken_kept, never_back, back_by_kind}
use Rattle.family_rules.proofs.Passed.{last_none, back_seen, interleaved_passed}
use Rattle.family_rules.proofs.Kept.{reversed_samples}
use Rattle.family_rules.proofs.Standing.{ready_reached, ready_kind, stands_sample, split_left, split_own, left_kept, stays, own_owner, current_owner, ready_current_owner}
use Rattle.family_rules.proofs.Taking.{refused, reached_same, reached_other}

-- ---- what the steps of one sample did

module _ (c mid after : Checking) (k : Kind) (key : SampleKey) (told : Result (Option Part) Rule) (back : Bool) (grouped broken : Option Rule) (joined : broken ≡ least (when_true back rules.Interleaved) grouped) where
  pub added_stop : mid ≡ with_runs c mid.runs → after ≡ with_current mid after.current → (own : ℕ) → own ≡ own_samples c k → back ≡ is_back c k key.labels
      → grouped ≡ part_stop mid.setting.format k key.labels told mid.current → (answer : Option Rule) → answer ≡ sample_stop after own key broken → answer ≡ key_stop c k key told
  unfolding sample_stop
  added_stop runs rest own own_is back_is grouped_is answer stop =
      stop ∙ ap (λ (x : Checking). sample_stop x own key broken) (rest ∙ ap (λ (m : Checking). with_current m after.current) runs)
      ∙ (λ i. sample_stop c (own_is i) key ((joined ∙ (λ j. least (when_true (back_is j) rules.Interleaved) (here j))) i))
    where
      here : grouped ≡ part_stop c.setting.format k key.labels told c.current
      here = grouped_is ∙ ap (λ (m : Checking). part_stop m.setting.format k key.labels told m.current) runs

  pub added_more : (given : Result (Option Member) Rule) → (back ≡ false → mid ≡ entered_by c k key.labels) → (grouped ≡ None → after ≡ with_told mid k key.labels given) → (own : ℕ) (d : Checking) (value : TimedValue)
      → (answer : Option Rule) → answer ≡ sample_stop after own key broken → (answer ≡ None → d ≡ with_sample after key value) → answer ≡ None → d ≡ with_key c k key value given
  added_more given entered taken own d value answer stop step none =
      let free = least_none (when_true back rules.Interleaved) grouped (sym joined ∙ stop_free after own key broken (sym stop ∙ none)) in
      step none ∙ (λ i. with_sample ((taken free.1 ∙ ap (λ (m : Checking). with_told m k key.labels given) (entered (none_told back rules.Interleaved free.0))) i) key value)

-- ---- a checker that is ready for a sample of this family

module _ (st : Setting) (c : Checking) (earlier : List Item) (F : List ℕ) (r : IsReady st c earlier F) (s : Sample) (k : Kind) (kind : k ≡ kind_of (owned_lines st.format earlier) F) where
  abbrev above : List Owned
  above = owned_lines st.format earlier

  abbrev labels : LabelSet
  labels = kept_labels c.setting.treatment s.labels

  -- Interleaved, by the samples that were seen, where each has a group of its own
  passed_here : is_split above (record { family = F; item = items.Sample s }) ≡ false
      → is_passed labels (samples_at_end (own_samples c k) c.seen) ≡ (is_alone (kind_of above F) && is_interleaved st (kind_of above F) F (samples_of above F) s)
  unfolding so_far
  passed_here free =
      (λ i. is_passed (kept_labels (r.setting i).treatment s.labels) (samples_at_end (cond (is_open_metrics (r.setting i).format && is_alone (kind i)) (current_samples (r.current i)) 0) (r.seen i)))
      ∙ interleaved_passed st above F s (fit_lines st earlier r.faultless) free

  -- Interleaved, by the groups that have begun
  back_here : is_back c k labels ≡ (has_own_runs (kind_of above F) && is_interleaved st (kind_of above F) F (samples_of above F) s)
  back_here = (λ i. has_runs (r.setting i).format (kind i) && some_passes (λ x. goes_back (r.runs i) (key_in x (kind i) (kept_labels (r.setting i).treatment s.labels))) (r.current i)) ∙ interleaved_kept st above F s

  -- Interleaved, by the groups of the family, where its kind has some
  grouped_here : is_back_in_groups c.setting.format k labels c.current ≡ (is_grouped st.format (kind_of above F) && is_interleaved st (kind_of above F) F (samples_of above F) s)
  unfolding so_far groups_so_far
  grouped_here =
      (λ i. is_back_in_groups (r.setting i).format (kind i) (kept_labels (r.setting i).treatment s.labels) (r.current i))
      ∙ by (is_grouped st.format (kind_of above F)) (is_open_metrics st.format) refl refl
    where
      K : Kind
      K = kind_of above F

      by : (g o : Bool) → is_grouped st.format K ≡ g → is_open_metrics st.format ≡ o
          → (g && o && is_overtaken (cond g (groups_from (map (entry_of st K F) (samples_of (reverse above) F))) []) (shared_labels K (kept_labels st.treatment s.labels))) ≡ (g && is_interleaved st K F (samples_of above F) s)
      by false o here format_is = refl
      by true false here format_is = sym (never_back st K F (samples_of above F) s format_is)
      by true true here format_is =
          (λ i. is_overtaken (groups_from (map (entry_of st K F) (reversed_samples above F i))) (sym (shared_group st K F s here) i))
          ∙ overtaken_kept st K F format_is (samples_of above F) (together_samples st above F (fit_lines st earlier r.faultless)) s

  -- the same, where something is told of the sample
  told_back_here : is_told_back c.setting.format k labels (told_part st (kind_of above F) F s) c.current ≡ (is_grouped st.format (kind_of above F) && is_interleaved st (kind_of above F) F (samples_of above F) s)
  told_back_here = by (has_bad_value st.format (kind_of above F) F s) (has_bad_threshold (kind_of above F) F s) (is_grouped st.format (kind_of above F)) refl
    where
      I : Bool
      I = is_interleaved st (kind_of above F) F (samples_of above F) s

      grouped_told : is_grouped st.format (kind_of above F) ≡ true → (is_open_metrics c.setting.format && is_overtaken_in k labels c.current) ≡ I
      grouped_told here =
          ap (λ b. b && is_open_metrics c.setting.format && is_overtaken_in k labels c.current) (sym ((λ i. is_grouped (r.setting i).format (kind i)) ∙ here))
          ∙ grouped_here ∙ ap (λ b. b && I) here

      by : (v t g : Bool) → is_grouped st.format (kind_of above F) ≡ g
          → is_told_back c.setting.format k labels (cond v (Err rules.Value) (cond t (Err rules.Threshold) (Ok (cond g (Some (part_of F s)) None)))) c.current ≡ (g && I)
      by true t g here = grouped_here ∙ ap (λ b. b && I) here
      by false true g here = grouped_here ∙ ap (λ b. b && I) here
      by false false true here = grouped_told here
      by false false false here = refl

  -- both together
  either_here : (has_own_runs (kind_of above F) && is_interleaved st (kind_of above F) F (samples_of above F) s || (is_grouped st.format (kind_of above F) && is_interleaved st (kind_of above F) F (samples_of above F) s))
      ≡ (not (is_alone (kind_of above F)) && is_interleaved st (kind_of above F) F (samples_of above F) s)
  either_here = back_by_kind st.format (kind_of above F) (is_interleaved st (kind_of above F) F (samples_of above F) s) (never_back st (kind_of above F) F (samples_of above F) s)

  -- Order, by the groups that are kept
  order_here : is_grouped st.format k ≡ true → has_wrong_suffix st (kind_of above F) F s ≡ false → has_bad_value st.format (kind_of above F) F s ≡ false → has_bad_threshold (kind_of above F) F s ≡ false
      → order_stop k labels (part_of F s) c.current ≡ cond (is_out_of_order st (kind_of above F) F (samples_of above F) s) (Some rules.Order) None
  unfolding so_far groups_so_far
  order_here grouped named valued placed =
      let K : Kind = kind_of above F in
      let here : is_grouped st.format K ≡ true = ap (is_grouped st.format) (sym kind) ∙ grouped in
      let groups : (so_far st above F).groups ≡ groups_from (map (entry_of st K F) (reverse (samples_of above F))) =
      ap (λ b. cond b (groups_from (map (entry_of st K F) (samples_of (reverse above) F))) []) here ∙ ap (λ l. groups_from (map (entry_of st K F) l)) (reversed_samples above F) in
      let label_is : shared_labels k labels ≡ sample_group st K F s = (λ i. shared_labels (kind i) (kept_labels (r.setting i).treatment s.labels)) ∙ sym (shared_group st K F s here) in
      let order = order_kept st K F (samples_of above F) s here (sound_samples st above F (fit_lines st earlier r.faultless)) named valued placed in
      ap (order_stop k labels (part_of F s)) r.current
      ∙ (λ i. when_true (not (not (breaks_order (or_empty (known_group (groups i) (label_is i))) (part_of F s)))) rules.Order)
      ∙ flip (breaks_order (or_empty (known_group (groups_from (map (entry_of st K F) (reverse (samples_of above F)))) (sample_group st K F s))) (part_of F s))
      ∙ ap (λ b. cond b (Some rules.Order) None) (sym order)
    where
      flip : (b : Bool) → when_true (not (not b)) rules.Order ≡ cond b (Some rules.Order) None
      flip true = refl
      flip false = refl

  -- Value, Threshold or Order, by what was told
  measure_here : has_wrong_suffix st (kind_of above F) F s ≡ false → measure_stop k labels (told_part st (kind_of above F) F s) c.current ≡ measure_fault st (kind_of above F) F (samples_of above F) s
  measure_here named = by (has_bad_value st.format (kind_of above F) F s) (has_bad_threshold (kind_of above F) F s) (is_grouped st.format (kind_of above F)) refl refl refl
    where
      by : (v t g : Bool) → has_bad_value st.format (kind_of above F) F s ≡ v → has_bad_threshold (kind_of above F) F s ≡ t → is_grouped st.format (kind_of above F) ≡ g
          → measure_stop k labels (cond v (Err rules.Value) (cond t (Err rules.Threshold) (Ok (cond g (Some (part_of F s)) None)))) c.current
          ≡ cond v (Some rules.Value) (cond t (Some rules.Threshold) (cond (is_out_of_order st (kind_of above F) F (samples_of above F) s) (Some rules.Order) None))
      by true t g e f h = refl
      by false true g e f h = refl
      by false false false e f h = sym (ap (λ b. cond b (Some rules.Order) None) (plain_order st (kind_of above F) F (samples_of above F) s h))
      by false false true e f h = order_here (ap (is_grouped st.format) kind ∙ h) named e f

-- ---- a sample of the current family

module _ (s : Sample) (c : Checking) (d : Checking) (own : is_current_sample c.setting.format c.current s.name ≡ true)
    (k : Kind) (kind_is : k ≡ current_kind c.current) where
  module _ (st : Setting) (earlier : List Item) (stands : Stands st c earlier) where
    abbrev lines : List Owned
    lines = owned_lines st.format earlier

    abbrev owner : List ℕ
    owner = sample_owner st.format lines s.name

    abbrev kind_here : Kind
    kind_here = kind_of lines owner

    own_ready : IsReady st c earlier owner
    own_ready = ready_current_owner st c earlier stands s.name own

    own_kind : k ≡ kind_here
    own_kind = kind_is ∙ ready_kind st c earlier owner own_ready

    own_named : has_wrong_suffix st kind_here owner s ≡ false
    own_named = not_wrong st kind_here owner s (current_owner st c earlier stands s.name own).fits

    own_exemplar_kept : has_bad_exemplar c.current s ≡ is_bad_exemplar kind_here owner s
    unfolding so_far kind_of
    own_exemplar_kept = ap (λ x. has_bad_exemplar x s) own_ready.current

    -- no rule on places and names is broken
    own_fault : is_after_eof st earlier ≡ false → item_fault st earlier (items.Sample s)
        ≡ cond (has_bad_exemplar c.current s) (Some rules.Exemplar) (cond (is_interleaved st kind_here owner (samples_of lines owner) s) (Some rules.Interleaved) (rest_fault st earlier owner s))
    own_fault before = sample_fault st earlier before s owner refl
        ∙ (λ i. cond (sym own_exemplar_kept i) (Some rules.Exemplar) (cond ((current_owner st c earlier stands s.name own).together (items.Sample s) i) (Some rules.Split)
        (cond (is_interleaved st kind_here owner (samples_of lines owner) s) (Some rules.Interleaved) (cond (own_named i) (Some rules.Suffix) (rest_fault st earlier owner s)))))

  pub own_exemplar : has_bad_exemplar c.current s ≡ true → Takes (items.Sample s) c d (Some rules.Exemplar)
  own_exemplar bad = refused (items.Sample s) c d rules.Exemplar (λ st earlier stands before. sym (own_fault st earlier stands before
      ∙ ap (λ b. cond b (Some rules.Exemplar) (cond (is_interleaved st (kind_here st earlier stands) (owner st earlier stands) (samples_of (lines st earlier stands) (owner st earlier stands)) s) (Some rules.Interleaved) (rest_fault st earlier (owner st earlier stands) s))) bad))

  module _ (good : has_bad_exemplar c.current s ≡ false) (told : Result (Option Part) Rule) (tells : TellsPart c k s told) where
    -- what the sample gives its group, where nothing is told against it
    abbrev given : Result (Option Member) Rule
    given = with_member (sample_time c.setting.format s) s.exemplar told

    -- what a call told of the sample
    told_here : (st : Setting) (earlier : List Item) (stands : Stands st c earlier) → told ≡ told_part st (kind_here st earlier stands) (owner st earlier stands) s
    told_here st earlier stands =
        let F : List ℕ = owner st earlier stands in
        let kind = own_kind st earlier stands in
        let named : has_wrong_suffix st k F s ≡ false = ap (λ k. has_wrong_suffix st k F s) kind ∙ own_named st earlier stands in
        tells F (so_far st (owned_lines st.format earlier) F) (own_ready st earlier stands).current st (ap (λ (x : Setting). x.format) (sym stands.setting)) named ∙ ap (λ k. told_part st k F s) kind

    given_here : (st : Setting) (earlier : List Item) (stands : Stands st c earlier) → given ≡ told_member st (kind_here st earlier stands) (owner st earlier stands) s
    given_here st earlier stands = (λ i. with_member (sample_time (stands.setting i).format s) s.exemplar (told_here st earlier stands i))
        ∙ member_told st (kind_here st earlier stands) (owner st earlier stands) s

    stop_here : (st : Setting) (earlier : List Item) (stands : Stands st c earlier) → is_after_eof st earlier ≡ false → add_stop c k s told ≡ item_fault st earlier (items.Sample s)
    stop_here st earlier stands before =
        let F : List ℕ = owner st earlier stands in
        let K : Kind = kind_here st earlier stands in
        let above : List Owned = owned_lines st.format earlier in
        let ready = own_ready st earlier stands in
        let kind = own_kind st earlier stands in
        let measure : measure_stop k (kept_labels c.setting.treatment s.labels) told c.current ≡ measure_fault st K F (samples_of above F) s =
        ap (λ t. measure_stop k (kept_labels c.setting.treatment s.labels) t c.current) (told_here st earlier stands) ∙ measure_here st c earlier F ready s k kind (own_named st earlier stands) in
        let left : None ≡ left_fault st above (Some F) = sym (ap (λ b. cond b (Some rules.Incomplete) None) (stays st c earlier stands F (ap (λ k. is_current_family k F) stands.current ∙ (current_owner st c earlier stands s.name own).current))) in
        let back : Bool = is_interleaved st K F (samples_of above F) s in
        let passed : is_passed (kept_labels c.setting.treatment s.labels) (samples_at_end (own_samples c k) c.seen) ≡ (is_alone K && back) =
        passed_here st c earlier F ready s k kind ((current_owner st c earlier stands s.name own).together (items.Sample s)) in
        let rest : plain_stop c (own_samples c k) (key_of c.setting s) (measure_stop k (kept_labels c.setting.treatment s.labels) told c.current)
        ≡ cond (is_duplicate st above s) (Some (cond (is_alone K && back) rules.Interleaved rules.Duplicate)) (last_fault st earlier F s) =
        ap (plain_stop c (own_samples c k) (key_of c.setting s)) (measure ∙ sym (or_none (measure_fault st K F (samples_of above F) s)))
        ∙ rest_kept st c earlier s F (own_samples c k) (is_alone K && back) (measure_fault st K F (samples_of above F) s) None stands passed refl left in
        let told_back : is_told_back c.setting.format k (kept_labels c.setting.treatment s.labels) told c.current ≡ (is_grouped st.format K && back) =
        ap (λ t. is_told_back c.setting.format k (kept_labels c.setting.treatment s.labels) t c.current) (told_here st earlier stands) ∙ told_back_here st c earlier F ready s k kind in
        let last : Option Rule = cond (is_duplicate st above s) (Some (cond (is_alone K && back) rules.Interleaved rules.Duplicate)) (last_fault st earlier F s) in
        let late : IsLate (measure_stop k (kept_labels c.setting.treatment s.labels) told c.current) =
        subst IsLate (sym measure) (late_measure (has_bad_value st.format K F s) (has_bad_threshold K F s) (is_out_of_order st K F (samples_of above F) s)) in
        key_plain c k (key_of c.setting s) told late
        ∙ (λ i. cond (back_here st c earlier F ready s k kind i) (Some rules.Interleaved) (cond (told_back i) (Some rules.Interleaved) (rest i)))
        ∙ either_refuses (has_own_runs K && back) (is_grouped st.format K && back) (Some rules.Interleaved) last
        ∙ ap (λ b. cond b (Some rules.Interleaved) last) (either_here st c earlier F ready s k kind)
        ∙ back_first (is_alone K) back (is_duplicate st above s) (last_fault st earlier F s) (back_seen st above F s (fit_lines st earlier stands.faultless) (own_named st earlier stands))
        ∙ sym (own_fault st earlier stands before ∙ ap (λ b. cond b (Some rules.Exemplar) (cond (is_interleaved st K F (samples_of above F) s) (Some rules.Interleaved) (rest_fault st earlier F s))) good)

    pub own_added : (answer : Option Rule) → answer ≡ add_stop c k s told → (answer ≡ None → d ≡ with_added c k s told) → Takes (items.Sample s) c d answer
    unfolding owned_lines
    own_added answer stop step = record {
      broken_is = λ st earlier stands before. stop ∙ stop_here st earlier stands before;
      stands = λ st earlier stands before none. more st earlier stands (sym (stop ∙ stop_here st earlier stands before) ∙ none) none;
    }
      where
        more : (st : Setting) (earlier : List Item) (stands : Stands st c earlier) → item_fault st earlier (items.Sample s) ≡ None → answer ≡ None → Stands st d (items.Sample s ∷ earlier)
        more st earlier stands free none =
            let F : List ℕ = owner st earlier stands in
            let K : Kind = kind_here st earlier stands in
            let kind = own_kind st earlier stands in
            let sound = (fit_lines st (items.Sample s ∷ earlier) (free, stands.faultless)).0.sound in
            let told_is : given ≡ Ok (cond (is_grouped st.format k) (Some (member_of st.format F s)) None) = given_here st earlier stands
            ∙ (λ i. cond (sound.valued i) (Err rules.Value) (cond (sound.placed i) (Err rules.Threshold) (Ok (cond (is_grouped st.format (sym kind i)) (Some (member_of st.format F s)) None)))) in
            let after : d ≡ with_sample (with_told (entered_by c k (kept_labels st.treatment s.labels)) k (kept_labels st.treatment s.labels) (Ok (cond (is_grouped st.format k) (Some (member_of st.format F s)) None))) (key_of st s) (timed st s) =
            step none ∙ (λ i. with_sample (with_told (entered_by c k (kept_labels (stands.setting i).treatment s.labels)) k (kept_labels (stands.setting i).treatment s.labels) (told_is i)) (key_of (stands.setting i) s) (timed (stands.setting i) s)) in
            subst (λ e. Stands st e (items.Sample s ∷ earlier)) (sym after)
            (stands_sample st c earlier F (own_ready st earlier stands) s refl free k kind (is_grouped st.format k) refl)

-- ---- a sample of the family of its own name

-- it may have no exemplar
own_name_exemplar : (k : Kind) (s : Sample) → is_bad_exemplar k s.name s ≡ is_some s.exemplar
unfolding is_bad_exemplar
own_name_exemplar k s = ap (λ m. some_passes (λ e. not m || nat_lt 128 (exemplar_characters e)) s.exemplar) (never k) ∙ by s.exemplar
  where
    nothing : (suffix : List ℕ) → has_suffix s.name suffix s ≡ bytes_eq [] suffix
    nothing suffix = suffix_is s.name [] suffix s (sym (append-nil s.name))

    never : (k : Kind) → may_have_exemplar k s.name s ≡ false
    never Counter = nothing (codes "_total")
    never Histogram = nothing (codes "_bucket")
    never GaugeHistogram = nothing (codes "_bucket")
    never _ = refl

    by : (e : Option Exemplar) → some_passes (λ x. not false || nat_lt 128 (exemplar_characters x)) e ≡ is_some e
    by None = refl
    by (Some x) = refl

module _ (s : Sample) (c : Checking) (d : Checking) (other : is_current_sample c.setting.format c.current s.name ≡ false) where
  other_owner : (st : Setting) (earlier : List Item) → Stands st c earlier → sample_owner st.format (owned_lines st.format earlier) s.name ≡ s.name
  other_owner st earlier stands = own_owner st c earlier stands s.name other

  other_fault : (st : Setting) (earlier : List Item) → Stands st c earlier → is_after_eof st earlier ≡ false → (exemplar split back wrong : Bool)
      → is_some s.exemplar ≡ exemplar
      → is_split (owned_lines st.format earlier) (record { family = s.name; item = items.Sample s }) ≡ split
      → is_interleaved st (kind_of (owned_lines st.format earlier) s.name) s.name (samples_of (owned_lines st.format earlier) s.name) s ≡ back
      → has_wrong_suffix st (kind_of (owned_lines st.format earlier) s.name) s.name s ≡ wrong
      → item_fault st earlier (items.Sample s)
      ≡ cond exemplar (Some rules.Exemplar) (cond split (Some rules.Split) (cond back (Some rules.Interleaved) (cond wrong (Some rules.Suffix) (rest_fault st earlier s.name s))))
  other_fault st earlier stands before exemplar split back wrong x h b k =
      sample_fault st earlier before s s.name (other_owner st earlier stands)
      ∙ (λ i. cond ((own_name_exemplar (kind_of (owned_lines st.format earlier) s.name) s ∙ x) i) (Some rules.Exemplar) (cond (h i) (Some rules.Split) (cond (b i) (Some rules.Interleaved) (cond (k i) (Some rules.Suffix) (rest_fault st earlier s.name s)))))

  pub other_exemplar : is_some s.exemplar ≡ true → Takes (items.Sample s) c d (Some rules.Exemplar)
  other_exemplar x = refused (items.Sample s) c d rules.Exemplar (λ st earlier stands before. let above : List Owned = owned_lines st.format earlier in
      sym (other_fault st earlier stands before true (is_split above (record { family = s.name; item = items.Sample s })) (is_interleaved st (kind_of above s.name) s.name (samples_of above s.name) s)
      (has_wrong_suffix st (kind_of above s.name) s.name s) x refl refl refl))

  module _ (x : is_some s.exemplar ≡ false) where
    -- the family of its name is the current one, whose kind doesn't allow the name
    pub other_named : is_current_family c.current s.name ≡ true → (rule : Option Rule) → rule ≡ name_stop c s → Takes (items.Sample s) c d rule
    unfolding has_wrong_suffix
    other_named h rule told =
        let any : Bool = is_any_back c (current_kind c.current) (kept_labels c.setting.treatment s.labels) in
        subst (λ o. Takes (items.Sample s) c d o) (sym (told ∙ suffix_joined any)) (refused (items.Sample s) c d (cond any rules.Interleaved rules.Suffix) (λ st earlier stands before.
        let above : List Owned = owned_lines st.format earlier in
        let K : Kind = kind_of above s.name in
        let back : Bool = is_interleaved st K s.name (samples_of above s.name) s in
        let here : IsReady st c earlier s.name = ready st earlier stands in
        let kind = ready_kind st c earlier s.name here in
        let passed = passed_here st c earlier s.name here s (current_kind c.current) kind (split_own st c earlier stands s.name (items.Sample s) h) in
        ap (λ b. Some (cond b rules.Interleaved rules.Suffix)) (
        (λ i. back_here st c earlier s.name here s (current_kind c.current) kind i || grouped_here st c earlier s.name here s (current_kind c.current) kind i || passed i)
        ∙ ap (λ b. b || (is_alone K && back)) (either_here st c earlier s.name here s (current_kind c.current) kind)
        ∙ either_way (is_alone K) back
        )
        ∙ either back
        ∙ sym (other_fault st earlier stands before false false back true x (split_own st c earlier stands s.name (items.Sample s) h) refl (ap not (name_here st earlier stands)))))
      where
        either_way : (alone back : Bool) → ((not alone && back) || (alone && back)) ≡ back
        either_way true back = refl
        either_way false true = refl
        either_way false false = refl

        either : (b : Bool) → Some (cond b rules.Interleaved rules.Suffix) ≡ cond b (Some rules.Interleaved) (Some rules.Suffix)
        either true = refl
        either false = refl

        ready : (st : Setting) (earlier : List Item) → Stands st c earlier → IsReady st c earlier s.name
        ready st earlier stands = subst (λ x. IsReady st x earlier s.name) (sym (reached_same c s.name h))
            (ready_reached st c earlier stands s.name (items.Sample s) (split_own st c earlier stands s.name (items.Sample s) h))

        by_current : (st : Setting) (earlier : List Item) → IsReady st c earlier s.name → is_sample_name c.setting.format (current_kind c.current) s.name s.name ≡ is_current_sample c.setting.format c.current s.name
        by_current st earlier here = rw here.current refl

        name_here : (st : Setting) (earlier : List Item) → Stands st c earlier → is_sample_name st.format (kind_of (owned_lines st.format earlier) s.name) s.name s.name ≡ false
        name_here st earlier stands =
            let here : IsReady st c earlier s.name = ready st earlier stands in
            (λ i. is_sample_name (sym stands.setting i).format (sym (ready_kind st c earlier s.name here) i) s.name s.name) ∙ by_current st earlier here ∙ other

    pub other_split : is_current_family c.current s.name ≡ false → is_some (lookup (bytes_eq s.name) c.left) ≡ true → Takes (items.Sample s) c d (Some rules.Split)
    other_split h left = refused (items.Sample s) c d rules.Split (λ st earlier stands before. let above : List Owned = owned_lines st.format earlier in
        sym (other_fault st earlier stands before false true (is_interleaved st (kind_of above s.name) s.name (samples_of above s.name) s) (has_wrong_suffix st (kind_of above s.name) s.name s)
        x (sym (split_left st c earlier stands s.name (items.Sample s) h) ∙ left) refl refl))

    -- it begins the family of its name
    module _ (h : is_current_family c.current s.name ≡ false) (left : is_some (lookup (bytes_eq s.name) c.left) ≡ false) where
      together : (st : Setting) (earlier : List Item) → Stands st c earlier → is_split (owned_lines st.format earlier) (record { family = s.name; item = items.Sample s }) ≡ false
      together st earlier stands = sym (split_left st c earlier stands s.name (items.Sample s) h) ∙ left

      begins : (st : Setting) (earlier : List Item) → Stands st c earlier → IsReady st (begun c s.name) earlier s.name
      begins st earlier stands = subst (λ x. IsReady st x earlier s.name) (sym (reached_other c (begun c s.name) s.name h refl)) (ready_reached st c earlier stands s.name (items.Sample s) (together st earlier stands))

      unknown : (st : Setting) (earlier : List Item) → Stands st c earlier → Unknown ≡ kind_of (owned_lines st.format earlier) s.name
      unknown st earlier stands = ready_kind st (begun c s.name) earlier s.name (begins st earlier stands)

      own_name : (name : List ℕ) → (bytes_eq name (name ++ []) || false) ≡ true
      own_name name = rw (append-nil name, bytes_same name) refl

      named : (st : Setting) (earlier : List Item) → Stands st c earlier → has_wrong_suffix st (kind_of (owned_lines st.format earlier) s.name) s.name s ≡ false
      named st earlier stands = not_wrong st (kind_of (owned_lines st.format earlier) s.name) s.name s
          (ap (λ k. is_sample_name st.format k s.name s.name) (sym (unknown st earlier stands)) ∙ own_name s.name)

      first_group : is_passed (kept_labels c.setting.treatment s.labels) (samples_at_end 0 c.seen) ≡ false
      first_group = ap (is_passed (kept_labels c.setting.treatment s.labels)) (last_none c.seen)

      unmeasured : (st : Setting) (earlier : List Item) → Stands st c earlier
          → None ≡ measure_fault st (kind_of (owned_lines st.format earlier) s.name) s.name (samples_of (owned_lines st.format earlier) s.name) s
      unfolding is_bad_plain_value
      unmeasured st earlier stands =
          let samples : List Sample = samples_of (owned_lines st.format earlier) s.name in
          let value : has_bad_value st.format Unknown s.name s ≡ false = plain_value st Unknown s.name s refl (sym (append-nil s.name)) in
          sym (ap (λ k. measure_fault st k s.name samples s) (sym (unknown st earlier stands))
          ∙ (λ i. cond (value i) (Some rules.Value) (cond (plain_threshold st.format Unknown s.name s refl i) (Some rules.Threshold) (cond (plain_order st Unknown s.name samples s refl i) (Some rules.Order) None))))

      -- what is told of the sample is the rule of the family that is left
      told_back : (o : Option Rule) (labels : LabelSet) → measure_stop Unknown labels (told_left o) (begun c s.name).current ≡ o
      told_back None _ = refl
      told_back (Some rule) _ = refl

      -- nor does it go back
      unmet : (o : Option Rule) (labels : LabelSet) → is_told_back c.setting.format Unknown labels (told_left o) (begun c s.name).current ≡ false
      unmet None _ = refl
      unmet (Some rule) _ = refl

      late : (o : Option Current) (labels : LabelSet) → IsLate (measure_stop Unknown labels (told_left (left_stop o)) (begun c s.name).current)
      late None labels = tt
      late (Some k) labels = subst IsLate (sym (told_back (left_stop (Some k)) labels)) (late_left (has_incomplete k.family))

      begin_stop : add_stop (begun c s.name) Unknown s (told_left (left_stop c.current)) ≡ plain_stop c 0 (key_of c.setting s) (left_stop c.current)
      begin_stop =
          key_plain (begun c s.name) Unknown (key_of c.setting s) (told_left (left_stop c.current)) (late c.current (kept_labels c.setting.treatment s.labels))
          ∙ ap (λ b. cond b (Some rules.Interleaved) (plain_stop (begun c s.name) (own_samples (begun c s.name) Unknown) (key_of c.setting s) (measure_stop Unknown (kept_labels c.setting.treatment s.labels) (told_left (left_stop c.current)) (begun c s.name).current)))
          (unmet (left_stop c.current) (kept_labels c.setting.treatment s.labels))
          ∙ (λ i. plain_stop c (no_own (is_open_metrics c.setting.format && true) i) (key_of c.setting s) (told_back (left_stop c.current) (kept_labels c.setting.treatment s.labels) i))

      pub other_begins : (answer : Option Rule) → answer ≡ add_stop (begun c s.name) Unknown s (told_left (left_stop c.current))
          → (answer ≡ None → d ≡ with_added (begun c s.name) Unknown s (told_left (left_stop c.current))) → Takes (items.Sample s) c d answer
      other_begins answer stop step = record {
        broken_is = fault;
        stands = λ st earlier stands before none.
            let after : d ≡ with_sample (with_told (entered_by (begun c s.name) Unknown (kept_labels st.treatment s.labels)) Unknown (kept_labels st.treatment s.labels) (Ok None)) (key_of st s) (timed st s) =
            step none ∙ (λ i. with_sample (with_told (entered_by (begun c s.name) Unknown (kept_labels (stands.setting i).treatment s.labels)) Unknown (kept_labels (stands.setting i).treatment s.labels) (with_member (sample_time (stands.setting i).format s) s.exemplar (told_left (nothing none i)))) (key_of (stands.setting i) s) (timed (stands.setting i) s)) in
            subst (λ e. Stands st e (items.Sample s ∷ earlier)) (sym after)
            (stands_sample st (begun c s.name) earlier s.name (begins st earlier stands) s (other_owner st earlier stands) (sym (fault st earlier stands before) ∙ none) Unknown (unknown st earlier stands) false refl);
      }
        where
          nothing : answer ≡ None → left_stop c.current ≡ None
          nothing none = by (left_stop c.current) refl
            where
              by : (o : Option Rule) → left_stop c.current ≡ o → o ≡ None
              by None e = refl
              by (Some rule) e = absurd (stop_some c 0 (key_of c.setting s) rule (ap (plain_stop c 0 (key_of c.setting s)) (sym e) ∙ sym begin_stop ∙ sym stop ∙ none))

          fault : (st : Setting) (earlier : List Item) → Stands st c earlier → is_after_eof st earlier ≡ false → answer ≡ item_fault st earlier (items.Sample s)
          fault st earlier stands before =
              let above : List Owned = owned_lines st.format earlier in
              let back : Bool = is_interleaved st (kind_of above s.name) s.name (samples_of above s.name) s in
              let passed = passed_here st (begun c s.name) earlier s.name (begins st earlier stands) s Unknown (unknown st earlier stands) (together st earlier stands) in
              let interleaved : back ≡ false = ap (λ k. is_alone k && back) (unknown st earlier stands) ∙ sym passed
              ∙ (λ i. is_passed (kept_labels c.setting.treatment s.labels) (samples_at_end (no_own (is_open_metrics c.setting.format && true) i) c.seen)) ∙ first_group in
              stop ∙ begin_stop ∙ rest_kept st c earlier s s.name 0 false None (left_stop c.current) stands first_group (unmeasured st earlier stands) (left_kept st c earlier stands s.name h)
              ∙ sym (other_fault st earlier stands before false false false false x (together st earlier stands) interleaved (named st earlier stands))
