-- Samples and exemplars, step by step.
use Rattle.std.proofs.Common.{◌≡◌, ℕ, ◌<◌, Bool, true, false, not, ◌&&◌, ◌||◌, List, [], ◌∷◌, length, Option, Some, None, refl, sym, ap, ◌∙◌, arith, codes}
use Rattle.std.specs.Prelude.{take_while, option_map, if◌then◌else◌}
use Rattle.std.specs.Str.{bytes_eq}
use Rattle.label_sets.specs.declared.label.Label.{Label}
use Rattle.label_sets.specs.declared.label_set.LabelSet.{LabelSet}
use Rattle.label_sets.specs.Lists.{◌>>=◌, when_true, rest_while, behind, some_passes}
use Rattle.label_sets.specs.Labels.{label_set}
use Rattle.label_sets.specs.Names.{is_metric_name, is_metric_char}
use Rattle.exact_decimal.specs.Numbers.{number}
use Rattle.page_model.specs.declared.format.Format.TheVariants.{OpenMetrics}
use Rattle.page_model.specs.declared.format.Treatment.{Treatment}
use Rattle.page_model.specs.declared.item.Exemplar.{Exemplar}
use Rattle.page_model.specs.declared.item.Item.TheVariants as items
use Rattle.page_model.specs.declared.item.Sample.{Sample}
use Rattle.page_model.specs.declared.rule.Rule.TheVariants as rules
use Rattle.page_model.specs.Written.{Written, WrittenExemplar, WrittenSample, sample, exemplar_of, token_out_of_range, stamp_out_of_range, stamp_number, exemplar_out_of_range, has_out_of_range, is_label_list}
use Rattle.page_model.specs.OpenReading.{list_at, optional_list_at, value_at, stamp_at, sample_of}
use Rattle.page_model.specs.OpenReading as reading
use Rattle.line_scan.specs.declared.line.LineRead.TheVariants as reads
use Rattle.line_scan.specs.declared.head.Head.{Head}
use Rattle.line_scan.specs.declared.line_room.LineRoom.{LineRoom}
use Rattle.line_scan.specs.LineHeads.{IsHead}
use Rattle.page_model.specs.LineHeads.{LineHead, head_of}
use Rattle.line_scan.specs.LineReading.{says_fault, Reads}
use Rattle.page_model.proofs.Laws.{behind_parts, behind-append}
use Rattle.openmetrics_grammar.specs.declared.exemplar.ExemplarRead.{ExemplarRead}
use Rattle.openmetrics_grammar.specs.declared.sample.SampleRead.{SampleRead}
use Rattle.openmetrics_grammar.proofs.LabelSteps.{list-none, list-found}
use Rattle.openmetrics_grammar.specs.LabelLists.{braced_at}
use Rattle.openmetrics_grammar.specs.Samples.{IsMaybeExemplarOf, IsMaybeExemplarIn, IsExemplarIn, IsSampleOf, exemplar_behind, maybe_in_range, has_bad_exemplar_labels, exemplar_made, no_exemplar, an_exemplar}

-- ---- an exemplar

pub no_exemplar_at : (cs : List ℕ) → length cs ≡ 0 → IsMaybeExemplarIn (reading.exemplar_of cs) None
unfolding reading.exemplar_of
no_exemplar_at [] h = record { written = None; found_is = refl; read = no_exemplar }
no_exemplar_at (c ∷ cs) h = absurd (omega arith)

exemplar-no_mark : (cs : List ℕ) → 0 < length cs → None ≡ behind (codes " # ") cs → reading.exemplar_of cs ≡ None
unfolding reading.exemplar_of
exemplar-no_mark [] some h = absurd (omega arith)
exemplar-no_mark (c ∷ cs) some h = rw (← h) refl

abbrev some_exemplar : WrittenExemplar → Option (Option WrittenExemplar)
some_exemplar w = Some (Some w)

abbrev exemplar_with : List Label → List ℕ → Option (List ℕ) → WrittenExemplar
exemplar_with labels value stamp = record { labels = labels; value = value; stamp = stamp }

-- an exemplar that may be there is the one behind its mark, step by step
marked_end : (b : Bool) (w : WrittenExemplar) → when_true b (Some w) ≡ (when_true b w >>= some_exemplar)
marked_end true w = refl
marked_end false w = refl

module _ (labels : List Label) where
  abbrev stamped : List ℕ → Option (List ℕ) × List ℕ → Option (Option WrittenExemplar)
  stamped value s = when_true (bytes_eq s.1 []) (Some (exemplar_with labels value s.0))

  abbrev stamped_alone : List ℕ → Option (List ℕ) × List ℕ → Option WrittenExemplar
  stamped_alone value s = when_true (bytes_eq s.1 []) (exemplar_with labels value s.0)

  marked_stamp : (value : List ℕ) (o : Option (Option (List ℕ) × List ℕ)) → (o >>= stamped value) ≡ (o >>= stamped_alone value >>= some_exemplar)
  marked_stamp value None = refl
  marked_stamp value (Some s) = marked_end (bytes_eq s.1 []) (exemplar_with labels value s.0)

  abbrev valued : List ℕ × List ℕ → Option (Option WrittenExemplar)
  valued v = stamp_at v.1 >>= stamped v.0

  abbrev valued_alone : List ℕ × List ℕ → Option WrittenExemplar
  valued_alone v = stamp_at v.1 >>= stamped_alone v.0

  marked_value : (o : Option (List ℕ × List ℕ)) → (o >>= valued) ≡ (o >>= valued_alone >>= some_exemplar)
  marked_value None = refl
  marked_value (Some v) = marked_stamp v.0 (stamp_at v.1)

abbrev labelled : List Label × List ℕ → Option (Option WrittenExemplar)
labelled l = value_at l.1 >>= valued l.0

abbrev labelled_alone : List Label × List ℕ → Option WrittenExemplar
labelled_alone l = value_at l.1 >>= valued_alone l.0

marked_list : (o : Option (List Label × List ℕ)) → (o >>= labelled) ≡ (o >>= labelled_alone >>= some_exemplar)
marked_list None = refl
marked_list (Some l) = marked_value l.0 (value_at l.1)

-- the exemplar behind a mark, whose labels are these, if any
exemplar_at : (cs body : List ℕ) (labels : Option (List Label × List ℕ)) → 0 < length cs → Some body ≡ behind (codes " # ") cs → list_at body ≡ labels → reading.exemplar_of cs ≡ (labels >>= labelled)
unfolding reading.exemplar_of
exemplar_at [] body labels some h l = absurd (omega arith)
exemplar_at (c ∷ cs) body labels some h l = rw (← h, l) refl

-- a mark and an opening brace are a mark, behind which an opening brace stands
mark_cut : (cs inner : List ℕ) → Some inner ≡ behind (codes " # {") cs → Some (123 ∷ inner) ≡ behind (codes " # ") cs
mark_cut cs inner h =
    let e : cs ≡ 32 ∷ 35 ∷ 32 ∷ 123 ∷ inner = behind_parts (codes " # {") cs inner (sym h) in
    rw e (sym (behind-append (codes " # ") (123 ∷ inner)))

mark_joined : (cs body inner : List ℕ) → behind (codes " # ") cs ≡ Some body → behind (123 ∷ []) body ≡ Some inner → behind (codes " # {") cs ≡ Some inner
mark_joined cs body inner h g =
    let e : cs ≡ 32 ∷ 35 ∷ 32 ∷ body = behind_parts (codes " # ") cs body h in
    let f : body ≡ 123 ∷ inner = behind_parts (123 ∷ []) body inner g in
    rw (e, f) (behind-append (codes " # {") inner)

exemplar_marked : (cs inner : List ℕ) → 0 < length cs → Some inner ≡ behind (codes " # {") cs → reading.exemplar_of cs ≡ (exemplar_behind inner >>= some_exemplar)
exemplar_marked cs inner some h =
    let l : list_at (123 ∷ inner) ≡ braced_at inner = list-found (123 ∷ inner) inner (sym (behind-append (123 ∷ []) inner)) in
    exemplar_at cs (123 ∷ inner) (braced_at inner) some (mark_cut cs inner h) l ∙ marked_list (braced_at inner)

pub exemplar-no_list : (cs : List ℕ) → 0 < length cs → None ≡ behind (codes " # {") cs → reading.exemplar_of cs ≡ None
exemplar-no_list cs some h = marked (behind (codes " # ") cs) refl
  where
    opened : (body : List ℕ) (o : Option (List ℕ)) → behind (codes " # ") cs ≡ Some body → behind (123 ∷ []) body ≡ o → reading.exemplar_of cs ≡ None
    opened body None e g = exemplar_at cs body None some (sym e) (list-none body (sym g))
    opened body (Some inner) e g = absurd (let k : behind (codes " # {") cs ≡ Some inner = mark_joined cs body inner e g in cc)

    marked : (o : Option (List ℕ)) → behind (codes " # ") cs ≡ o → reading.exemplar_of cs ≡ None
    marked None e = exemplar-no_mark cs some (sym e)
    marked (Some body) e = opened body (behind (123 ∷ []) body) e refl

module _ (cs inner : List ℕ) (some : 0 < length cs) (mark : Some inner ≡ behind (codes " # {") cs) where
  pub marked-none : exemplar_behind inner ≡ None → reading.exemplar_of cs ≡ None
  marked-none h = exemplar_marked cs inner some mark ∙ rw h refl

  pub marked-found : (e : ExemplarRead) → IsExemplarIn (exemplar_behind inner) e → IsMaybeExemplarIn (reading.exemplar_of cs) (Some e)
  marked-found e i = record {
    written = Some i.written;
    found_is = exemplar_marked cs inner some mark ∙ rw i.found_is refl;
    read = an_exemplar i.written e i.read;
  }

-- ---- a sample

-- what a sample line says behind its head
abbrev behind_head : LineHead → Option Written
behind_head h = value_at h.rest >>= λ value. stamp_at value.1 >>= λ stamp. reading.exemplar_of stamp.1 >>= λ exemplar.
    Some (sample (record { name = h.name; labels = h.labels; value = value.0; stamp = stamp.0; exemplar = exemplar }))

abbrev head_with : List ℕ → List Label × List ℕ → LineHead
head_with name x = record { name = name; labels = x.0; rest = x.1 }

by_head : (cs : List ℕ) → sample_of cs ≡ (head_of OpenMetrics cs >>= behind_head)
unfolding sample_of head_of
by_head cs = go (when_true (is_metric_name (take_while is_metric_char cs)) (take_while is_metric_char cs)) (optional_list_at (rest_while is_metric_char cs))
  where
    go : (o : Option (List ℕ)) (m : Option (List Label × List ℕ)) → (o >>= λ _. m >>= λ x. behind_head (head_with (take_while is_metric_char cs) x)) ≡ ((o >>= λ _. m >>= λ x. Some (head_with (take_while is_metric_char cs) x)) >>= behind_head)
    go None m = refl
    go (Some name) None = refl
    go (Some name) (Some x) = refl

pub sample-no_head : (cs : List ℕ) → head_of OpenMetrics cs ≡ None → sample_of cs ≡ None
sample-no_head cs h = by_head cs ∙ rw h refl

module _ (cs : List ℕ) (labels : List Label) (head : Head) (i : IsHead OpenMetrics cs labels head) where
  pub sample-no_value : value_at head.rest.now ≡ None → sample_of cs ≡ None
  sample-no_value h = by_head cs ∙ rw (i.found, h) refl

  module _ (value behind_value : List ℕ) (v : value_at head.rest.now ≡ Some (value, behind_value)) where
    pub sample-no_stamp : stamp_at behind_value ≡ None → sample_of cs ≡ None
    sample-no_stamp h = by_head cs ∙ rw (i.found, v, h) refl

    module _ (stamp : Option (List ℕ)) (left : List ℕ) (s : stamp_at behind_value ≡ Some (stamp, left)) where
      pub sample-no_exemplar : reading.exemplar_of left ≡ None → sample_of cs ≡ None
      sample-no_exemplar h = by_head cs ∙ rw (i.found, v, s, h) refl

      pub sample-found : (exemplar : Option WrittenExemplar) → reading.exemplar_of left ≡ Some exemplar
          → sample_of cs ≡ Some (sample (record { name = head.name.now; labels = labels; value = value; stamp = stamp; exemplar = exemplar }))
      sample-found exemplar h = by_head cs ∙ rw (i.found, v, s, h) refl

maybe_range : (w : Option WrittenExemplar) (e : Option ExemplarRead) → IsMaybeExemplarOf w e → maybe_in_range e ≡ not (some_passes (exemplar_out_of_range OpenMetrics) w)
maybe_range _ _ no_exemplar = refl
maybe_range _ _ (an_exemplar w e i) = i.in_range

-- the numbers of a sample are in range where all of them are
pub sample_range : (w : WrittenSample) (a b : Bool) (e : Option ExemplarRead) → a ≡ not (token_out_of_range w.value) → b ≡ not (some_passes token_out_of_range w.stamp) → IsMaybeExemplarOf w.exemplar e
    → (a && b && maybe_in_range e) ≡ not (has_out_of_range OpenMetrics (sample w))
sample_range w a b e x y i = rw (x, y, maybe_range w.exemplar e i) (go (token_out_of_range w.value) w.stamp (some_passes (exemplar_out_of_range OpenMetrics) w.exemplar))
  where
    go : (v : Bool) (o : Option (List ℕ)) (u : Bool) → (not v && not (some_passes token_out_of_range o) && not u) ≡ not (v || some_passes (stamp_out_of_range OpenMetrics) o || u)
    go true o u = refl
    go false None u = refl
    go false (Some token) u = go_on (token_out_of_range token)
      where
        go_on : (b : Bool) → (not b && not u) ≡ not (b || u)
        go_on true = refl
        go_on false = refl

-- ---- what is made of what is read

same_stamp : (o : Option (List ℕ)) → option_map number o ≡ option_map (stamp_number OpenMetrics) o
same_stamp None = refl
same_stamp (Some token) = refl

-- ---- the item of a sample

not_both : (a b : Bool) → a ≡ not b → b ≡ not a
not_both a true e = ap not (sym e)
not_both a false e = ap not (sym e)

a_set : (b : Bool) (x set : LabelSet) → Some x ≡ when_true b set → (b ≡ true) × (x ≡ set)
a_set true x set h = (refl, cc)
a_set false x set h = absurd cc

no_set : (b : Bool) (set : LabelSet) → None ≡ when_true b set → b ≡ false
no_set true set h = absurd cc
no_set false set h = refl

no_made : (b : Bool) (o : Option Exemplar) → None ≡ (if b then None else Some o) → b ≡ true
no_made true o h = refl
no_made false o h = absurd cc

a_made : (b : Bool) (x o : Option Exemplar) → Some x ≡ (if b then None else Some o) → (b ≡ false) × (x ≡ o)
a_made true x o h = absurd cc
a_made false x o h = (refl, cc)

module _ (t : Treatment) (w : WrittenSample) where
  fault_of : (a b c : Bool) → has_out_of_range OpenMetrics (sample w) ≡ a → is_label_list t w.labels ≡ b → has_bad_exemplar_labels t w.exemplar ≡ c
      → says_fault OpenMetrics t (Some (sample w)) ≡ (if a then Some rules.Range else (if not b || c then Some rules.Labels else None))
  fault_of a b c e f g = rw (e, f, g) refl

  module _ (room : LineRoom) (s : SampleRead) (i : IsSampleOf w room s) where
    module _ (e : s.in_range ≡ true) where
      ranged : has_out_of_range OpenMetrics (sample w) ≡ false
      ranged = not_both s.in_range (has_out_of_range OpenMetrics (sample w)) i.in_range ∙ ap not e

      pub said-labels : None ≡ when_true (is_label_list t w.labels) (label_set w.labels) → says_fault OpenMetrics t (Some (sample w)) ≡ Some rules.Labels
      said-labels h = fault_of false false (has_bad_exemplar_labels t w.exemplar) ranged (no_set (is_label_list t w.labels) (label_set w.labels) h) refl

      module _ (set : LabelSet) (h : Some set ≡ when_true (is_label_list t w.labels) (label_set w.labels)) where
        good_set : (is_label_list t w.labels ≡ true) × (set ≡ label_set w.labels)
        good_set = a_set (is_label_list t w.labels) set (label_set w.labels) h

        listed : is_label_list t w.labels ≡ true
        listed = good_set.0

        pub said-exemplar : None ≡ exemplar_made t w.exemplar → says_fault OpenMetrics t (Some (sample w)) ≡ Some rules.Labels
        said-exemplar g = fault_of false true true ranged listed (no_made (has_bad_exemplar_labels t w.exemplar) (option_map (exemplar_of OpenMetrics) w.exemplar) g)

        pub said-sample : (exemplar : Option Exemplar) → Some exemplar ≡ exemplar_made t w.exemplar → (name : List ℕ) → name ≡ s.head.name.now
            → Reads OpenMetrics t (Some (sample w)) (reads.Item (items.Sample (record { name = name; labels = set; value = s.value; stamp = s.stamp; exemplar = exemplar })))
        said-sample exemplar g name n =
            let made = a_made (has_bad_exemplar_labels t w.exemplar) exemplar (option_map (exemplar_of OpenMetrics) w.exemplar) g in (
              fault_of false true false ranged listed made.0,
              ap (λ (x : Sample). Some (items.Sample x)) (sym (same_sample name set exemplar n good_set.1 made.1)),
            )
          where
            same_sample : (nm : List ℕ) (st : LabelSet) (ex : Option Exemplar) → nm ≡ s.head.name.now → st ≡ label_set w.labels → ex ≡ option_map (exemplar_of OpenMetrics) w.exemplar
                → ◌≡◌ {A = Sample} (record { name = nm; labels = st; value = s.value; stamp = s.stamp; exemplar = ex })
                (record { name = w.name; labels = label_set w.labels; value = number w.value; stamp = option_map (stamp_number OpenMetrics) w.stamp; exemplar = option_map (exemplar_of OpenMetrics) w.exemplar })
            same_sample nm st ex a b c = rw (a ∙ i.name, b, i.value, i.stamp ∙ same_stamp w.stamp, c) refl
