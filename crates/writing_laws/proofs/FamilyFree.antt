-- All samples of a written family, one behind the other behind its descriptors, break no rule.
use Rattle.std.proofs.Common.{◌≡◌, ℕ, ◌+◌, ◌<◌, ◌≤◌, false, not, List, [], ◌∷◌, ◌++◌, map, length, refl, sym, ap, ◌∙◌, arith, inl, inr}
use Rattle.std.specs.Prelude.{nat_le, count_by, cond}
use Rattle.std.specs.List.{AllByRecursion}
use Rattle.std.proofs.lemmas.Bool.Decides.{nat_tests}
use Rattle.std.proofs.lemmas.Bool.{or_from, and_left, and_right}
use Rattle.std.proofs.lemmas.List.{append-nil}
use Rattle.std.proofs.lemmas.List.Sums.{sum_by-cons}
use Rattle.label_sets.specs.declared.kind.Kind.{Kind}
use Rattle.label_sets.specs.declared.label_set.LabelSet.{LabelSet}
use Rattle.label_sets.specs.Labels.{label_sets_eq}
use Rattle.label_sets.proofs.Laws.{all-weaker, any-map}
use Rattle.page_model.specs.declared.format.Format.TheVariants.{OpenMetrics}
use Rattle.page_model.specs.declared.format.Treatment.TheVariants as treatments
use Rattle.page_model.specs.declared.item.Item.{Item}
use Rattle.page_model.specs.declared.item.Item.TheVariants as items
use Rattle.page_model.specs.declared.item.Sample.{Sample}
use Rattle.page_model.specs.Written.{Setting, open_setting}
use Rattle.page_model.specs.Items.{is_sample}
use Rattle.page_model.specs.Owners.{Owned, owned_lines, samples_of, group_of}
use Rattle.page_model.specs.Rules.{is_interleaved, is_duplicate, is_out_of_order}
use Rattle.writing_laws.proofs.Turned.{turn, Each}
use Rattle.writing_laws.proofs.Blocks.{own, own_name, GoesOn, Fit, block}
use Rattle.writing_laws.proofs.FamilyBlocks.{IsFree, AreFree}
use Rattle.writing_laws.proofs.FairParts.{IsFair}
use Rattle.writing_laws.proofs.Together.{NotBack}
use Rattle.writing_laws.proofs.Apart.{IsApart, OrderOf, Differ, in_order}

-- the samples of a family's lines are its samples, in front of those above
pub samples_back : (family : List ℕ) (ss : List Sample) (above : List Owned) → samples_of (own family (map items.Sample ss) ++ above) family ≡ ss ++ samples_of above family
unfolding samples_of
samples_back family [] above = refl
samples_back family (s ∷ ss) above = rw (own_name family) (ap (λ ts. s ∷ ts) (samples_back family ss above))

-- how many samples stand among items
pub samples_counted : (above : List Sample) (head : List Item) → count_by is_sample (map items.Sample above ++ head) ≡ length above + count_by is_sample head
samples_counted [] head = omega arith
samples_counted (s ∷ above) head =
    let one : count_by is_sample (items.Sample s ∷ (map items.Sample above ++ head)) ≡ 1 + count_by is_sample (map items.Sample above ++ head) = sum_by-cons (λ x. cond (is_sample x) 1 0) (items.Sample s) (map items.Sample above ++ head) in
    let ih = samples_counted above head in
    omega (arith, one, ih)

not_past : (limit n : ℕ) → n < limit → nat_le limit n ≡ false
not_past limit n h = grind (arith, nat_tests)

module _ (limit : ℕ) (family : List ℕ) (kind : Kind) where
  -- how the page is read
  abbrev st : Setting
  st = open_setting treatments.Written limit

  -- the group of a sample
  abbrev pub grp : Sample → LabelSet
  grp s = group_of kind family s.labels

  -- a sample that is fair for some reading
  abbrev pub HasFair : Sample → Type 0
  HasFair s = (labels : LabelSet) × IsFair limit kind family labels s

  pub fit_fair : (ss : List Sample) → AllByRecursion HasFair ss → Fit OpenMetrics family kind ss
  fit_fair [] h = tt
  fit_fair (s ∷ ss) h = (h.0.1.named, fit_fair ss h.1)

  not_together : (above : List Sample) (s : Sample) → NotBack (map grp above) (grp s) → is_interleaved st kind family above s ≡ false
  unfolding is_interleaved
  not_together [] s h = refl
  not_together (n ∷ above) s (inl e) = and_left _ _ (ap not e)
  not_together (n ∷ above) s (inr e) = and_right _ _ (sym (any-map (λ m. label_sets_eq m (grp s)) grp above) ∙ e)

  not_duplicate : (above : List Sample) (s : Sample) (others : List Owned) → AllByRecursion (λ t. Differ limit family t s) above → is_duplicate st others s ≡ false → is_duplicate st (own family (map items.Sample above) ++ others) s ≡ false
  unfolding is_duplicate
  not_duplicate [] s others h e = e
  not_duplicate (t ∷ above) s others h e = or_from _ _ h.0 (not_duplicate above s others h.1 e)

  module _ (head : List Item) (none : samples_of (owned_lines OpenMetrics head) family ≡ []) (goes : GoesOn family kind (owned_lines OpenMetrics head)) where
    pub samples_here : (above : List Sample) → Fit OpenMetrics family kind above → samples_of (owned_lines OpenMetrics (map items.Sample above ++ head)) family ≡ above
    samples_here above fit =
        ap (λ a. samples_of a family) (block OpenMetrics family kind above head fit goes).0 ∙ samples_back family above (owned_lines OpenMetrics head) ∙ ap (λ ts. above ++ ts) none ∙ append-nil above

    -- samples behind others that are free
    pub family_free : (above ss : List Sample) → AreFree st head family kind above → AllByRecursion HasFair above → AllByRecursion HasFair ss
        → Each (λ a s. NotBack (map grp a) (grp s)) above ss → Each (λ a s. AllByRecursion (λ t. IsApart limit family kind t s) a) above ss
        → AllByRecursion (λ s. is_duplicate st (owned_lines OpenMetrics head) s ≡ false) ss → count_by is_sample head + length above + length ss ≤ limit
        → AreFree st head family kind (turn ss above)
    family_free above [] free fa fs back apart new few = free
    family_free above (s ∷ ss) free fa fs back apart new few =
        let fit = fit_fair above fa in
        let lines = block OpenMetrics family kind above head fit goes in
        let here = samples_here above fit in
        let count = samples_counted above head in
        let one : IsFree st (map items.Sample above ++ head) family kind s = record {
          named = fs.0.1.named;
          no_exemplar = fs.0.1.can.no_exemplar;
          together = ap (λ ts. is_interleaved st kind family ts s) here ∙ not_together above s back.0;
          new = ap (λ os. is_duplicate st os s) lines.0 ∙ not_duplicate above s (owned_lines OpenMetrics head) (all-weaker (λ t. IsApart limit family kind t s) (λ t. Differ limit family t s) (λ t h. h.0) above apart.0) new.0;
          value = fs.0.1.value;
          threshold = fs.0.1.threshold;
          order = ap (λ ts. is_out_of_order st kind family ts s) here ∙ in_order limit family kind above s (all-weaker (λ t. IsApart limit family kind t s) (λ t. OrderOf limit family kind t s) (λ t h. h.1) above apart.0);
          few = not_past limit (count_by is_sample (map items.Sample above ++ head)) (omega (arith, count, few));
        } in
        family_free (s ∷ above) ss (one, free) (fs.0, fa) fs.1 back.1 apart.1 new.1 (omega (arith, few))
