-- What a checker keeps answers the rules, and each step keeps what it stands for.
use Rattle.std.proofs.Common.{◌≡◌, ℕ, ◌+◌, arith, Bool, true, false, cond, not, ◌&&◌, ◌||◌, List, [], ◌∷◌, ◌++◌, map, reverse, Option, Some, None, refl, sym, ap, subst, ◌∙◌, is_some, count_by, Ok}
use Rattle.std.specs.Prelude.{option_map}
use Rattle.std.specs.List.{list_any, list_all, cons_option}
use Rattle.std.specs.Option.{option_to_list}
use Rattle.std.specs.Str.{bytes_eq}
use Rattle.std.specs.Map.{lookup}
use Rattle.std.specs.Cmp.Lexicographic.{bytes_decides}
use Rattle.std.proofs.lemmas.List.{append-nil, map-append}
use Rattle.std.proofs.lemmas.List.Sums.{sum_by-cons}
use Rattle.std.proofs.Math.Bool.{or-false}
use Rattle.indexmap.specs.IndexMap.{insert_entry}
use Rattle.label_sets.specs.declared.kind.Kind.{Kind}
use Rattle.label_sets.specs.declared.label_set.LabelSet.{LabelSet}
use Rattle.label_sets.specs.Lists.{some_passes}
use Rattle.page_model.specs.declared.item.Item.{Item}
use Rattle.page_model.specs.declared.item.Item.TheVariants as items
use Rattle.page_model.specs.declared.item.Sample.{Sample}
use Rattle.page_model.specs.Written.{Setting}
use Rattle.page_model.specs.declared.rule.Rule.TheVariants as rules
use Rattle.page_model.specs.Items.{is_eof, is_sample, sample_of_line}
use Rattle.page_model.specs.Suffixes.{is_sample_name}
use Rattle.page_model.specs.Owners.{Owned, is_of, kind_of, sample_owner, owner_of, with_owner, owned_lines, samples_of, kept_labels}
use Rattle.page_model.specs.Rules.{is_histogram, is_late_descriptor, is_split, is_complete_at, is_incomplete, leaves_incomplete, sample_group}
use Rattle.page_model.specs.Faults.{item_fault}
use Rattle.sample_groups.specs.Groups.{Gathered, groups_from, shared_labels, with_part, is_whole_group}
use Rattle.sample_groups.specs.Parts.{is_grouped, entry_of, member_of}
use Rattle.sample_groups.specs.Sound.{AreSound}
use Rattle.sample_groups.proofs.Laws.{shared_group, whole_kept}
use Rattle.family_rules.specs.declared.family.Current.{Current}
use Rattle.family_rules.specs.declared.family.Descriptor.{Descriptor}
use Rattle.family_rules.specs.declared.family.Descriptor.TheVariants as sorts
use Rattle.family_rules.specs.declared.family.FamilySoFar.{FamilySoFar}
use Rattle.family_rules.specs.Checking.{Checking, no_lines, has_samples, groups_so_far, so_far, left_before, left_families, current_family, key_of, timed, keyed, seen_above, Stands}
use Rattle.family_rules.specs.Steps.{has, line_of, unit_stop, family_with, with_descriptor, is_late_in, current_kind, is_current_family, known_in, has_incomplete, left_stop, place_stop, with_left, begun, reached, current_with, IsReady}
use Rattle.family_rules.specs.Samples.{is_current_sample, family_with_sample, with_part_in, with_part_at, with_told, runs_with, entered_by, with_sample}
use Rattle.family_rules.specs.GroupRuns.{no_runs, runs_of, nearest_runs}
use Rattle.family_rules.proofs.RunLaws.{no_samples_no_runs, runs_sample}
use Rattle.family_rules.proofs.Lists.{bytes_same, pairs, lookup-map, map-pairs, insert_entry-last}
use Rattle.family_rules.proofs.Faults.{AreFit, fit_lines, sound_samples, none_above, left_fault, place_fault, unit_fault}
use Rattle.family_rules.proofs.Units.{bad_unit_above}
use Rattle.family_rules.proofs.Kept.{known_lines, fresh, reversed_samples, grown, is_one, so_far-other, so_far-descriptor, so_far-sample, so_far-none, no_samples, late_known}

-- ---- what is known

module _ (st : Setting) where
  -- the pairs of the left families
  abbrev pub left_pairs : List Owned → List (List ℕ × FamilySoFar)
  left_pairs above = pairs (so_far st above) (left_families above)

  known_above : (above : List Owned) (F : List ℕ) → known_in (left_pairs above) (current_family st above) F ≡ cond (list_any (is_of F) above) (Some (so_far st above F)) None
  unfolding left_families current_family
  known_above [] F = refl
  known_above (n ∷ above) F = by (bytes_eq n.family F) refl
    where
      by : (b : Bool) → bytes_eq n.family F ≡ b
          → cond b (Some (so_far st (n ∷ above) n.family)) (lookup (bytes_eq F) (pairs (so_far st (n ∷ above)) (left_before n.family above)))
          ≡ cond (b || list_any (is_of F) above) (Some (so_far st (n ∷ above) F)) None
      by true e = ap (λ G. Some (so_far st (n ∷ above) G)) ((bytes_decides n.family F).0 e)
      by false e =
          let known : (list_any (bytes_eq F) (left_before n.family above) || false) ≡ list_any (is_of F) above = rw e at (known_lines F n.family above) in
          lookup-map (so_far st (n ∷ above)) F (left_before n.family above)
          ∙ ap (λ b. cond b (Some (so_far st (n ∷ above) F)) None) (sym (or-false (list_any (bytes_eq F) (left_before n.family above))) ∙ known)

  split_above : (above : List Owned) (F : List ℕ) (item : Item)
      → is_split above (record { family = F; item = item }) ≡ (not (is_current_family (current_family st above) F) && is_some (lookup (bytes_eq F) (left_pairs above)))
  unfolding is_split left_families current_family
  split_above [] F item = refl
  split_above (n ∷ above) F item = by (bytes_eq n.family F) refl
    where
      some_cond : (b : Bool) (f : FamilySoFar) → is_some (cond b (Some f) None) ≡ b
      some_cond true f = refl
      some_cond false f = refl

      by : (b : Bool) → bytes_eq n.family F ≡ b
          → (not b && list_any (is_of F) above) ≡ (not b && is_some (lookup (bytes_eq F) (pairs (so_far st (n ∷ above)) (left_before n.family above))))
      by true e = refl
      by false e =
          let known : (list_any (bytes_eq F) (left_before n.family above) || false) ≡ list_any (is_of F) above = rw e at (known_lines F n.family above) in
          sym (ap is_some (lookup-map (so_far st (n ∷ above)) F (left_before n.family above)) ∙ some_cond (list_any (bytes_eq F) (left_before n.family above)) (so_far st (n ∷ above) F)
          ∙ sym (or-false (list_any (bytes_eq F) (left_before n.family above))) ∙ known)

  late_above : (above : List Owned) (F : List ℕ) (d : Descriptor)
      → is_late_descriptor above (record { family = F; item = line_of F d }) ≡ is_late_in d (known_in (left_pairs above) (current_family st above) F)
  late_above above F d = late_known st above F d ∙ by (list_any (is_of F) above) refl ∙ sym (ap (is_late_in d) (known_above above F))
    where
      nothing : (d : Descriptor) → (has d no_lines || has_samples no_lines) ≡ false
      nothing (sorts.Help t) = refl
      nothing (sorts.Type k) = refl
      nothing (sorts.Unit u) = refl

      by : (b : Bool) → list_any (is_of F) above ≡ b → (has d (so_far st above F) || has_samples (so_far st above F)) ≡ is_late_in d (cond b (Some (so_far st above F)) None)
      by true e = refl
      by false e = ap (λ f. has d f || has_samples f) (so_far-none st above F e) ∙ nothing d

  -- ---- a family that is left

  -- a histogram that isn't complete, by its groups
  incomplete_groups : (k : Kind) (F : List ℕ) (samples : List Sample) → AreSound st k F samples
      → (is_histogram k && not (list_all (is_complete_at st k F samples) samples)) ≡ (is_histogram k && not (list_all (λ (g : LabelSet × Gathered). is_whole_group g.1) (groups_so_far st k F (reverse samples))))
  unfolding groups_so_far
  incomplete_groups k F samples sound = by (is_histogram k) refl
    where
      by : (b : Bool) → is_histogram k ≡ b
          → (b && not (list_all (is_complete_at st k F samples) samples)) ≡ (b && not (list_all (λ (g : LabelSet × Gathered). is_whole_group g.1) (groups_so_far st k F (reverse samples))))
      by false e = refl
      by true e = ap not (whole_kept st k F samples e sound
          ∙ ap (λ b. list_all (λ (g : LabelSet × Gathered). is_whole_group g.1) (cond b (groups_from (map (entry_of st k F) (reverse samples))) [])) (sym (grouped e)))
        where
          grouped : is_histogram k ≡ true → is_grouped st.format k ≡ true
          grouped e = rw e refl

  incomplete_above : (above : List Owned) (F : List ℕ) → AreFit st above → is_incomplete st above F ≡ has_incomplete (so_far st above F)
  unfolding is_incomplete so_far kind_of
  incomplete_above above F fit =
      incomplete_groups (kind_of above F) F (samples_of above F) (sound_samples st above F fit)
      ∙ ap (λ l. is_histogram (kind_of above F) && not (list_all (λ (g : LabelSet × Gathered). is_whole_group g.1) (groups_so_far st (kind_of above F) F l))) (sym (reversed_samples above F))

  -- Incomplete, at a line of another family or of none
  left_other : (above : List Owned) (owner : Option (List ℕ)) → AreFit st above → some_passes (λ F. is_current_family (current_family st above) F) owner ≡ false
      → left_stop (current_family st above) ≡ left_fault st above owner
  unfolding leaves_incomplete current_family
  left_other [] owner fit h = refl
  left_other (n ∷ above) owner fit h =
      rw h (ap (λ b. cond b (Some rules.Incomplete) None) (sym (incomplete_above (n ∷ above) n.family fit)))

  -- no line leaves its own family
  left_own : (above : List Owned) (F : List ℕ) → is_current_family (current_family st above) F ≡ true → leaves_incomplete st above (Some F) ≡ false
  unfolding leaves_incomplete current_family
  left_own [] F h = refl
  left_own (n ∷ above) F h = rw h refl

-- ---- ready for a line

-- a family that no line above has, or is the current one
ready_left : (st : Setting) (F : List ℕ) (item : Item) (above : List Owned) → AreFit st above → is_split above (record { family = F; item = item }) ≡ false
    → cond (is_current_family (current_family st above) F) (left_pairs st above) (with_left (left_pairs st above) (current_family st above)) ≡ pairs (so_far st above) (left_before F above)
unfolding left_families current_family left_before
ready_left st F item [] fit h = refl
ready_left st F item (n ∷ above) fit h = by (bytes_eq n.family F) refl
  where
    last : lookup (bytes_eq n.family) (pairs (so_far st (n ∷ above)) (left_before n.family above)) ≡ None
    last = lookup-map (so_far st (n ∷ above)) n.family (left_before n.family above)
        ∙ ap (λ b. cond b (Some (so_far st (n ∷ above) n.family)) None) (fresh st n.family n.item above fit.1 fit.0.together)

    by : (b : Bool) → bytes_eq n.family F ≡ b
        → cond b (pairs (so_far st (n ∷ above)) (left_before n.family above)) (insert_entry bytes_eq (pairs (so_far st (n ∷ above)) (left_before n.family above)) n.family (so_far st (n ∷ above) n.family))
        ≡ pairs (so_far st (n ∷ above)) (cond b (left_before n.family above) (left_before n.family above ++ n.family ∷ []))
    by true e = refl
    by false e = insert_entry-last (pairs (so_far st (n ∷ above)) (left_before n.family above)) n.family (so_far st (n ∷ above) n.family) last
        ∙ sym (map-append (λ name. (name, so_far st (n ∷ above) name)) (left_before n.family above) (n.family ∷ []))

-- a family that begins
abbrev first_line : List ℕ → Option Current
first_line F = Some (record { name = F; family = no_lines })

ready_current : (st : Setting) (F : List ℕ) (item : Item) (above : List Owned) → is_split above (record { family = F; item = item }) ≡ false
    → cond (is_current_family (current_family st above) F) (current_family st above) (first_line F) ≡ Some (record { name = F; family = so_far st above F })
unfolding is_split current_family
ready_current st F item [] h = ap (λ f. Some (record { name = F; family = f })) (sym (so_far-none st [] F refl))
ready_current st F item (n ∷ above) h = by (bytes_eq n.family F) refl h
  where
    by : (b : Bool) → bytes_eq n.family F ≡ b → (not b && list_any (is_of F) above) ≡ false
        → cond b (current_family st (n ∷ above)) (first_line F) ≡ Some (record { name = F; family = so_far st (n ∷ above) F })
    by true e none = ap (λ G. Some (record { name = G; family = so_far st (n ∷ above) G })) ((bytes_decides n.family F).0 e)
    by false e none = ap (λ f. Some (record { name = F; family = f })) (sym (so_far-none st (n ∷ above) F (rw e none)))

ready_runs : (st : Setting) (F : List ℕ) (item : Item) (above : List Owned) → is_split above (record { family = F; item = item }) ≡ false
    → cond (is_current_family (current_family st above) F) (nearest_runs st above) no_runs ≡ runs_of st above F
unfolding is_split current_family nearest_runs
ready_runs st F item [] h = sym (no_samples_no_runs st [] F (no_samples [] F refl))
ready_runs st F item (n ∷ above) h = by (bytes_eq n.family F) refl h
  where
    by : (b : Bool) → bytes_eq n.family F ≡ b → (not b && list_any (is_of F) above) ≡ false → cond b (runs_of st (n ∷ above) n.family) no_runs ≡ runs_of st (n ∷ above) F
    by true e none = ap (runs_of st (n ∷ above)) ((bytes_decides n.family F).0 e)
    by false e none = sym (no_samples_no_runs st (n ∷ above) F (no_samples (n ∷ above) F (rw e none)))

module _ (st : Setting) (c : Checking) (earlier : List Item) (s : Stands st c earlier) where
  abbrev lines : List Owned
  lines = owned_lines st.format earlier

  fit : AreFit st lines
  fit = fit_lines st earlier s.faultless

  -- Split, by what is kept
  split_kept : (F : List ℕ) (item : Item) → (not (is_current_family c.current F) && is_some (lookup (bytes_eq F) c.left)) ≡ is_split lines (record { family = F; item = item })
  split_kept F item = sym (rw (s.left, s.current) (split_above st lines F item))

  pub split_left : (F : List ℕ) (item : Item) → is_current_family c.current F ≡ false → is_some (lookup (bytes_eq F) c.left) ≡ is_split lines (record { family = F; item = item })
  split_left F item h = ap (λ b. not b && is_some (lookup (bytes_eq F) c.left)) (sym h) ∙ split_kept F item

  pub split_own : (F : List ℕ) (item : Item) → is_current_family c.current F ≡ true → is_split lines (record { family = F; item = item }) ≡ false
  split_own F item h = sym (split_kept F item) ∙ ap (λ b. not b && is_some (lookup (bytes_eq F) c.left)) h

  -- Descriptor, by what is kept
  late_kept : (F : List ℕ) (d : Descriptor) → is_late_in d (known_in c.left c.current F) ≡ is_late_descriptor lines (record { family = F; item = line_of F d })
  late_kept F d = sym (rw (s.left, s.current) (late_above st lines F d))

  -- Incomplete, by what is kept
  pub left_kept : (F : List ℕ) → is_current_family c.current F ≡ false → left_stop c.current ≡ left_fault st lines (Some F)
  left_kept F h = ap left_stop s.current ∙ left_other st lines (Some F) fit (ap (λ k. is_current_family k F) (sym s.current) ∙ h)

  pub left_at_end : left_stop c.current ≡ left_fault st lines None
  left_at_end = ap left_stop s.current ∙ left_other st lines None fit refl

  pub stays : (F : List ℕ) → is_current_family c.current F ≡ true → leaves_incomplete st lines (Some F) ≡ false
  stays F h = left_own st lines F (ap (λ k. is_current_family k F) (sym s.current) ∙ h)

  -- ready for a line that doesn't split its family
  pub ready_reached : (F : List ℕ) (item : Item) → is_split lines (record { family = F; item = item }) ≡ false → IsReady st (reached c F) earlier F
  unfolding reached
  ready_reached F item h = by (is_current_family c.current F) refl
    where
      left : cond (is_current_family c.current F) c.left (with_left c.left c.current) ≡ pairs (so_far st lines) (left_before F lines)
      left = rw (s.left, s.current) (ready_left st F item lines fit h)

      current : cond (is_current_family c.current F) c.current (first_line F) ≡ Some (record { name = F; family = so_far st lines F })
      current = rw s.current (ready_current st F item lines h)

      runs : cond (is_current_family c.current F) c.runs no_runs ≡ runs_of st lines F
      runs = rw (s.runs, s.current) (ready_runs st F item lines h)

      -- the same checker but for its families
      ready_for : (d : Checking) → d.setting ≡ c.setting → d.seen ≡ c.seen → d.samples ≡ c.samples → d.ended ≡ c.ended → d.stopped ≡ c.stopped
          → d.runs ≡ cond (is_current_family c.current F) c.runs no_runs → d.left ≡ cond (is_current_family c.current F) c.left (with_left c.left c.current) → d.current ≡ cond (is_current_family c.current F) c.current (first_line F) → IsReady st d earlier F
      ready_for d setting seen samples ended stopped runs_is left_is current_is = record {
        setting = setting ∙ s.setting;
        left = left_is ∙ left;
        current = current_is ∙ current;
        runs = runs_is ∙ runs;
        seen = seen ∙ s.seen;
        samples = samples ∙ s.samples;
        ended = ended ∙ s.ended;
        working = stopped ∙ s.working;
        faultless = s.faultless;
      }

      by : (b : Bool) → is_current_family c.current F ≡ b
          → IsReady st (cond b c (begun c F)) earlier F
      by true e = ready_for c refl refl refl refl refl (ap (λ b. cond b c.runs no_runs) (sym e)) (ap (λ b. cond b c.left (with_left c.left c.current)) (sym e)) (ap (λ b. cond b c.current (first_line F)) (sym e))
      by false e = ready_for (begun c F) refl refl refl refl refl (ap (λ b. cond b c.runs no_runs) (sym e)) (ap (λ b. cond b c.left (with_left c.left c.current)) (sym e)) (ap (λ b. cond b c.current (first_line F)) (sym e))

-- ---- a line more

module _ (st : Setting) (c : Checking) (earlier : List Item) (F : List ℕ) (r : IsReady st c earlier F) where
  -- another checker, in which only the current family, the seen samples and their number have changed
  stands_with : (item : Item) → item_fault st earlier item ≡ None → is_eof item ≡ false → owner_of st.format (owned_lines st.format earlier) item ≡ Some F
      → (d : Checking) → d.setting ≡ c.setting → d.left ≡ c.left → d.current ≡ Some (record { name = F; family = so_far st (record { family = F; item = item } ∷ owned_lines st.format earlier) F })
      → d.runs ≡ runs_of st (record { family = F; item = item } ∷ owned_lines st.format earlier) F
      → d.seen ≡ seen_above st (record { family = F; item = item } ∷ owned_lines st.format earlier) → d.samples ≡ count_by is_sample (item ∷ earlier) → d.ended ≡ c.ended → d.stopped ≡ c.stopped
      → Stands st d (item ∷ earlier)
  unfolding left_families current_family nearest_runs owned_lines
  stands_with item none more owner d setting left current runs seen samples ended stopped =
      let above : List Owned = owned_lines st.format earlier in
      let o : Owned = record { family = F; item = item } in
      let lines : owned_lines st.format (item ∷ earlier) ≡ o ∷ above = ap (λ w. with_owner w item above) owner in
      let fit : AreFit st (o ∷ above) = subst (AreFit st) lines (fit_lines st (item ∷ earlier) (none, r.faultless)) in
      let pairs_same : pairs (so_far st above) (left_before F above) ≡ pairs (so_far st (o ∷ above)) (left_before F above) =
      map-pairs (so_far st above) (so_far st (o ∷ above)) F (left_before F above) (fresh st F item above fit.1 fit.0.together) (λ name e. sym (so_far-other st o above name e)) in
      let placed : Stands st d (item ∷ earlier) = record {
        setting = setting ∙ r.setting;
        left = left ∙ r.left ∙ pairs_same ∙ ap (λ l. pairs (so_far st l) (left_families l)) (sym lines);
        current = current ∙ ap (current_family st) (sym lines);
        runs = runs ∙ ap (nearest_runs st) (sym lines);
        seen = seen ∙ ap (seen_above st) (sym lines);
        samples = samples;
        ended = ended ∙ r.ended ∙ ap (λ b. b || list_any is_eof earlier) (sym more);
        working = stopped ∙ r.working;
        faultless = (none, r.faultless);
      } in placed

  unseen : (item : Item) → sample_of_line item ≡ None → c.seen ≡ seen_above st (record { family = F; item = item } ∷ owned_lines st.format earlier)
  unfolding seen_above
  unseen item e = r.seen ∙ sym (append-nil (seen_above st (owned_lines st.format earlier))) ∙ ap (λ o. seen_above st (owned_lines st.format earlier) ++ option_to_list (option_map (keyed st) o)) (sym e)

  changed : (change : FamilySoFar → FamilySoFar) (f : FamilySoFar) → f ≡ change (so_far st (owned_lines st.format earlier) F) → current_with change c.current ≡ Some (record { name = F; family = f })
  changed change f e = ap (current_with change) r.current ∙ ap (λ g. Some (record { name = F; family = g })) (sym e)

  -- the kind of the current family
  pub ready_kind : current_kind c.current ≡ kind_of (owned_lines st.format earlier) F
  unfolding so_far kind_of
  ready_kind = ap current_kind r.current

  -- a descriptor more
  pub stands_described : (d : Descriptor) → item_fault st earlier (line_of F d) ≡ None
      → is_late_descriptor (owned_lines st.format earlier) (record { family = F; item = line_of F d }) ≡ false
      → Stands st (with_descriptor c d) (line_of F d ∷ earlier)
  unfolding samples_of
  stands_described d none late =
      let above : List Owned = owned_lines st.format earlier in
      let o : Owned = record { family = F; item = line_of F d } in
      let unsampled : samples_of above F ≡ [] = none_above above F (line_of F d) (is_one F d) late in
      let first : samples_of (reverse above) F ≡ [] = reversed_samples above F ∙ ap reverse unsampled in
      let still : samples_of (o ∷ above) F ≡ [] = (λ i. cons_option (cond (bytes_same F i) (no_sample d i) None) (samples_of above F)) ∙ unsampled in
      let runs : runs_of st above F ≡ runs_of st (o ∷ above) F = no_samples_no_runs st above F unsampled ∙ sym (no_samples_no_runs st (o ∷ above) F still) in
      stands_with (line_of F d) none (more d) (owner d) (with_descriptor c d) refl refl
      (changed (family_with d) (so_far st (o ∷ above) F) (so_far-descriptor st F d above first))
      (r.runs ∙ runs) (unseen (line_of F d) (no_sample d)) (r.samples ∙ uncounted d) refl refl
    where
      owner : (d : Descriptor) → owner_of st.format (owned_lines st.format earlier) (line_of F d) ≡ Some F
      owner (sorts.Help t) = refl
      owner (sorts.Type k) = refl
      owner (sorts.Unit u) = refl

      more : (d : Descriptor) → is_eof (line_of F d) ≡ false
      more (sorts.Help t) = refl
      more (sorts.Type k) = refl
      more (sorts.Unit u) = refl

      no_sample : (d : Descriptor) → sample_of_line (line_of F d) ≡ None
      no_sample (sorts.Help t) = refl
      no_sample (sorts.Type k) = refl
      no_sample (sorts.Unit u) = refl

      uncounted : (d : Descriptor) → count_by is_sample earlier ≡ count_by is_sample (line_of F d ∷ earlier)
      uncounted (sorts.Help t) = refl
      uncounted (sorts.Type k) = refl
      uncounted (sorts.Unit u) = refl

  -- Unit, by what is kept
  pub unit_kept : (d : Descriptor) → unit_stop c.current d ≡ unit_fault (owned_lines st.format earlier) (record { family = F; item = line_of F d })
  unit_kept d = ap (λ k. unit_stop k d) r.current
      ∙ ap (λ b. cond b (Some rules.Unit) None) (bad_unit_above st (owned_lines st.format earlier) F d (fit_lines st earlier r.faultless))

  -- a sample more, whose groups are these
  sampled : (s : Sample) (groups : List (LabelSet × Gathered)) → sample_owner st.format (owned_lines st.format earlier) s.name ≡ F → item_fault st earlier (items.Sample s) ≡ None
      → (d : Checking) → d.setting ≡ c.setting → d.left ≡ c.left → d.seen ≡ c.seen → d.samples ≡ c.samples → d.ended ≡ c.ended → d.stopped ≡ c.stopped
      → d.runs ≡ runs_of st (record { family = F; item = items.Sample s } ∷ owned_lines st.format earlier) F
      → d.current ≡ current_with (λ f. record f { groups = groups }) c.current
      → groups ≡ grown st (kind_of (owned_lines st.format earlier) F) F s (so_far st (owned_lines st.format earlier) F).groups
      → Stands st (with_sample d (key_of st s) (timed st s)) (items.Sample s ∷ earlier)
  unfolding with_sample seen_above
  sampled s groups owner none d setting left seen samples ended stopped runs current groups_are =
      let above : List Owned = owned_lines st.format earlier in
      let change : FamilySoFar → FamilySoFar = λ f. record f { samples = f.samples + 1; groups = groups } in
      let more : count_by is_sample (items.Sample s ∷ earlier) ≡ 1 + count_by is_sample earlier = sum_by-cons (λ x. cond (is_sample x) 1 0) (items.Sample s) earlier in
      let counted : c.samples ≡ count_by is_sample earlier = r.samples in
      stands_with (items.Sample s) none refl (ap Some owner) (with_sample d (key_of st s) (timed st s)) setting left
      (ap (current_with family_with_sample) current ∙ twice c.current
      ∙ changed change (so_far st (record { family = F; item = items.Sample s } ∷ above) F)
      (so_far-sample st F s above ∙ ap (λ g. record (so_far st above F) { samples = (so_far st above F).samples + 1; groups = g }) (sym groups_are)))
      runs (ap (λ l. l ++ keyed st s ∷ []) (seen ∙ r.seen)) (omega (arith, samples, counted, more)) ended stopped
    where
      twice : (k : Option Current) → current_with family_with_sample (current_with (λ f. record f { groups = groups }) k)
          ≡ current_with (λ f. record f { samples = f.samples + 1; groups = groups }) k
      twice None = refl
      twice (Some k) = refl

  -- the groups that have begun, with a sample more
  entered_runs : (s : Sample) (k : Kind) → k ≡ kind_of (owned_lines st.format earlier) F
      → runs_with c.setting.format c.current k (kept_labels st.treatment s.labels) c.runs ≡ runs_of st (record { family = F; item = items.Sample s } ∷ owned_lines st.format earlier) F
  entered_runs s k kind =
      let above : List Owned = owned_lines st.format earlier in
      (λ i. runs_with (r.setting i).format (r.current i) (kind i) (kept_labels st.treatment s.labels) (r.runs i)) ∙ sym (runs_sample st F s above)

  -- a sample more, in its group where its kind has groups
  pub stands_sample : (s : Sample) → sample_owner st.format (owned_lines st.format earlier) s.name ≡ F → item_fault st earlier (items.Sample s) ≡ None
      → (k : Kind) → k ≡ kind_of (owned_lines st.format earlier) F → (b : Bool) → is_grouped st.format k ≡ b
      → Stands st (with_sample (with_told (entered_by c k (kept_labels st.treatment s.labels)) k (kept_labels st.treatment s.labels) (Ok (cond b (Some (member_of st.format F s)) None))) (key_of st s) (timed st s)) (items.Sample s ∷ earlier)
  unfolding so_far groups_so_far
  stands_sample s owner none k kind false plain =
      let above : List Owned = owned_lines st.format earlier in
      let ungrouped : is_grouped st.format (kind_of above F) ≡ false = ap (is_grouped st.format) (sym kind) ∙ plain in
      let groups : (so_far st above F).groups ≡ grown st (kind_of above F) F s (so_far st above F).groups = rw ungrouped refl in
      let same : c.current ≡ current_with (λ f. record f { groups = (so_far st above F).groups }) c.current = r.current ∙ sym (ap (current_with (λ f. record f { groups = (so_far st above F).groups })) r.current) in
      sampled s (so_far st above F).groups owner none (entered_by c k (kept_labels st.treatment s.labels)) refl refl refl refl refl refl (entered_runs s k kind) same groups
  stands_sample s owner none k kind true grouped =
      let above : List Owned = owned_lines st.format earlier in
      let labels : LabelSet = kept_labels st.treatment s.labels in
      let f : FamilySoFar = so_far st above F in
      let groups : List (LabelSet × Gathered) = with_part f.groups (shared_labels k labels) (member_of st.format F s) in
      let here : is_grouped st.format (kind_of above F) ≡ true = ap (is_grouped st.format) (sym kind) ∙ grouped in
      let label_is : shared_labels k labels ≡ sample_group st (kind_of above F) F s = ap (λ k. shared_labels k labels) kind ∙ sym (shared_group st (kind_of above F) F s here) in
      let groups_are : groups ≡ grown st (kind_of above F) F s f.groups = (λ i. with_part f.groups (label_is i) (member_of st.format F s))
      ∙ ap (λ b. cond b (with_part f.groups (sample_group st (kind_of above F) F s) (member_of st.format F s)) []) (sym here) in
      let current : current_with (with_part_in k labels (member_of st.format F s)) c.current ≡ current_with (λ f. record f { groups = groups }) c.current =
      ap (current_with (with_part_in k labels (member_of st.format F s))) r.current ∙ sym (ap (current_with (λ f. record f { groups = groups })) r.current) in
      sampled s groups owner none (with_part_at (entered_by c k labels) k labels (member_of st.format F s)) refl refl refl refl refl refl (entered_runs s k kind) current groups_are

-- ---- the place of a descriptor

-- Descriptor, Split or Incomplete, by what is kept
pub place_kept : (st : Setting) (c : Checking) (earlier : List Item) → Stands st c earlier → (F : List ℕ) (d : Descriptor)
    → place_stop c F d ≡ place_fault st (owned_lines st.format earlier) (record { family = F; item = line_of F d })
unfolding place_stop
place_kept st c earlier s F d =
    let line : Owned = record { family = F; item = line_of F d } in
    ap (λ b. cond b (Some rules.Descriptor) (cond (is_current_family c.current F) None (cond (is_some (lookup (bytes_eq F) c.left)) (Some rules.Split) (left_stop c.current)))) (late_kept st c earlier s F d)
    ∙ ap (cond (is_late_descriptor (owned_lines st.format earlier) line) (Some rules.Descriptor)) (by (is_current_family c.current F) refl)
  where
    by : (b : Bool) → is_current_family c.current F ≡ b
        → cond b None (cond (is_some (lookup (bytes_eq F) c.left)) (Some rules.Split) (left_stop c.current))
        ≡ cond (is_split (owned_lines st.format earlier) (record { family = F; item = line_of F d })) (Some rules.Split) (left_fault st (owned_lines st.format earlier) (Some F))
    by true e = sym (rw (split_own st c earlier s F (line_of F d) e, stays st c earlier s F e) refl)
    by false e = λ i. cond (split_left st c earlier s F (line_of F d) e i) (Some rules.Split) (left_kept st c earlier s F e i)

-- ---- the owner of a sample

-- the current family owns it: it is its owner, and no rule on places and names is broken
pub record OwnedByCurrent (st : Setting) (above : List Owned) (name owner : List ℕ) : Type 0 where
  pub current : is_current_family (current_family st above) owner ≡ true
  pub together : (item : Item) → is_split above (record { family = owner; item = item }) ≡ false
  pub fits : is_sample_name st.format (kind_of above owner) owner name ≡ true

owner_current : (st : Setting) (above : List Owned) (name : List ℕ) → is_current_sample st.format (current_family st above) name ≡ true
    → OwnedByCurrent st above name (sample_owner st.format above name)
unfolding current_family sample_owner is_split so_far kind_of
owner_current st [] name h = absurd (let e : false ≡ true = h in cc)
owner_current st (n ∷ above) name h =
    let owner : cond (is_sample_name st.format (kind_of (n ∷ above) n.family) n.family name) n.family name ≡ n.family = ap (λ b. cond b n.family name) h in
    subst (λ F. OwnedByCurrent st (n ∷ above) name F) (sym owner) (record {
      current = bytes_same n.family;
      together = λ item. rw (bytes_same n.family) refl;
      fits = h;
    })

owner_own : (st : Setting) (above : List Owned) (name : List ℕ) → is_current_sample st.format (current_family st above) name ≡ false → sample_owner st.format above name ≡ name
unfolding current_family sample_owner so_far kind_of
owner_own st [] name h = refl
owner_own st (n ∷ above) name h = ap (λ b. cond b n.family name) h

-- ---- a sample by its name

module _ (st : Setting) (c : Checking) (earlier : List Item) (s : Stands st c earlier) where
  current_here : (name : List ℕ) (b : Bool) → is_current_sample c.setting.format c.current name ≡ b → is_current_sample st.format (current_family st (owned_lines st.format earlier)) name ≡ b
  current_here name b h = ap (λ (t : Setting). is_current_sample t.format (current_family st (owned_lines st.format earlier)) name) (sym s.setting)
      ∙ ap (λ k. is_current_sample c.setting.format k name) (sym s.current) ∙ h

  pub own_owner : (name : List ℕ) → is_current_sample c.setting.format c.current name ≡ false → sample_owner st.format (owned_lines st.format earlier) name ≡ name
  own_owner name h = owner_own st (owned_lines st.format earlier) name (current_here name false h)

  pub current_owner : (name : List ℕ) → is_current_sample c.setting.format c.current name ≡ true
      → OwnedByCurrent st (owned_lines st.format earlier) name (sample_owner st.format (owned_lines st.format earlier) name)
  current_owner name h = owner_current st (owned_lines st.format earlier) name (current_here name true h)

  -- the checker is ready for its current family
  pub ready_current_owner : (name : List ℕ) → is_current_sample c.setting.format c.current name ≡ true → IsReady st c earlier (sample_owner st.format (owned_lines st.format earlier) name)
  unfolding reached
  ready_current_owner name h =
      let owner : List ℕ = sample_owner st.format (owned_lines st.format earlier) name in
      let owned = current_owner name h in
      let current : is_current_family c.current owner ≡ true = ap (λ k. is_current_family k owner) s.current ∙ owned.current in
      let same : reached c owner ≡ c = ap (λ b. cond b c (begun c owner)) current in
      subst (λ d. IsReady st d earlier owner) same (ready_reached st c earlier s owner items.Blank (owned.together items.Blank))
