-- The tests of equality decide equality, and the order of keys ties just equal keys.
use Rattle.std.proofs.Common.{◌≡◌, ℕ, cond, ◌&&◌, List, [], ◌∷◌, arith, refl, sym, ap, subst, ◌∙◌, ◌==◌}
use Rattle.std.specs.Bool.{Decides}
use Rattle.std.specs.Cmp.{IsTotalOrder}
use Rattle.std.specs.Cmp.Lexicographic.{slice_cmp, bytes_decides}
use Rattle.std.specs.Ordering.{nat_cmp, is_eq, ordering_then}
use Rattle.std.specs.Str.{bytes_eq}
use Rattle.std.specs.declared.cmp.Ordering.{Ordering}
use Rattle.std.specs.declared.cmp.Ordering.TheVariants.{Less, Equal, Greater}
use Rattle.std.proofs.lemmas.Bool.Decides.{Decides-and, Decides-eqb, nat_tests}
use Rattle.std.proofs.lemmas.Cmp.{then_total, on_total, lists_total, nat_list_cmp_total, nat_cmp_total, tied_itself}
use Rattle.std.proofs.lemmas.Slice.Eq.{slice_eq-Decides}
use Rattle.std.proofs.lemmas.Map.Text.{is_eq-slice_cmp}
use Rattle.label_sets.specs.declared.label.Label.{Label}
use Rattle.label_sets.specs.declared.kind.Kind.{Kind}
use Rattle.label_sets.specs.declared.kind.Kind.TheVariants.{Counter, Gauge, Histogram, GaugeHistogram, StateSet, Info, Summary, Unknown}
use Rattle.label_sets.specs.declared.series_key.SeriesKey.{SeriesKey}
use Rattle.label_sets.specs.Labels.{label_eq, label_sets_eq}
use Rattle.label_sets.specs.Keys.{kind_place, kind_eq, key_eq, label_cmp, key_cmp}

pub label_decides : (a b : Label) → Decides (label_eq a b) (a ≡ b)
label_decides a b =
    let both = Decides-and (bytes_eq a.name b.name) (bytes_eq a.value b.value) (bytes_decides a.name b.name) (bytes_decides a.value b.value) in
    (λ e i. record { name = (both.0 e).0 i; value = (both.0 e).1 i }, λ e. both.1 (ap (λ (l : Label). l.name) e, ap (λ (l : Label). l.value) e))

pub sets_decide : (a b : List Label) → Decides (label_sets_eq a b) (a ≡ b)
sets_decide a b = slice_eq-Decides label_decides a b (label_sets_eq a b) refl

kind_at : ℕ → Kind
kind_at n = cond (n == 0) Counter (cond (n == 1) Gauge (cond (n == 2) Histogram (cond (n == 3) GaugeHistogram (cond (n == 4) StateSet (cond (n == 5) Info (cond (n == 6) Summary Unknown))))))

kind_at-kind_place : (k : Kind) → kind_at (kind_place k) ≡ k
unfolding kind_at
kind_at-kind_place Counter = refl
kind_at-kind_place _ = refl

same_kind : (a b : Kind) → kind_place a ≡ kind_place b → a ≡ b
same_kind a b e = sym (kind_at-kind_place a) ∙ (ap kind_at e ∙ kind_at-kind_place b)

pub kind_decides : (a b : Kind) → Decides (kind_eq a b) (a ≡ b)
kind_decides a b = let d = Decides-eqb (kind_place a) (kind_place b) in (λ e. same_kind a b (d.0 e), λ e. d.1 (ap kind_place e))

pub key_decides : (a b : SeriesKey) → Decides (key_eq a b) (a ≡ b)
key_decides a b =
    let name = bytes_decides a.name b.name in
    let unit = bytes_decides a.unit b.unit in
    let first = Decides-and (bytes_eq a.name b.name) (kind_eq a.kind b.kind) name (kind_decides a.kind b.kind) in
    let second = Decides-and (bytes_eq a.name b.name && kind_eq a.kind b.kind) (bytes_eq a.unit b.unit) first unit in
    let all = Decides-and (bytes_eq a.name b.name && kind_eq a.kind b.kind && bytes_eq a.unit b.unit) (label_sets_eq a.labels b.labels) second (sets_decide a.labels b.labels) in (
      λ e. (let h = all.0 e in λ i. record { name = h.0.0.0 i; kind = h.0.0.1 i; unit = h.0.1 i; labels = h.1 i }),
      λ e. all.1 (((ap (λ (k : SeriesKey). k.name) e, ap (λ (k : SeriesKey). k.kind) e), ap (λ (k : SeriesKey). k.unit) e), ap (λ (k : SeriesKey). k.labels) e),
    )

label_cmp-total : IsTotalOrder label_cmp
label_cmp-total = then_total (on_total (λ (l : Label). l.name) nat_list_cmp_total) (on_total (λ (l : Label). l.value) nat_list_cmp_total)

pub key_cmp-total : IsTotalOrder key_cmp
key_cmp-total = then_total (on_total (λ (k : SeriesKey). k.name) nat_list_cmp_total) (then_total (on_total (λ (k : SeriesKey). kind_place k.kind) nat_cmp_total)
    (then_total (on_total (λ (k : SeriesKey). k.unit) nat_list_cmp_total) (on_total (λ (k : SeriesKey). k.labels) (lists_total label_cmp-total))))

both_tie : (o p : Ordering) → ordering_then o p ≡ Equal → (o ≡ Equal) × (p ≡ Equal)
both_tie Less p e = absurd cc
both_tie Equal p e = (refl, e)
both_tie Greater p e = absurd cc

bytes_tie : (a b : List ℕ) → slice_cmp nat_cmp a b ≡ Equal → a ≡ b
bytes_tie a b e = (bytes_decides a b).0 (sym (is_eq-slice_cmp a b) ∙ ap is_eq e)

numbers_tie : (a b : ℕ) → nat_cmp a b ≡ Equal → a ≡ b
numbers_tie a b e = grind (arith, nat_tests)

labels_tie : (a b : List Label) → slice_cmp label_cmp a b ≡ Equal → a ≡ b
labels_tie [] [] e = refl
labels_tie [] (y ∷ ys) e = absurd cc
labels_tie (x ∷ xs) [] e = absurd cc
labels_tie (x ∷ xs) (y ∷ ys) e =
    let both = both_tie (label_cmp x y) (slice_cmp label_cmp xs ys) e in
    let parts = both_tie (slice_cmp nat_cmp x.name y.name) (slice_cmp nat_cmp x.value y.value) both.0 in
    let rest = labels_tie xs ys both.1 in
    λ i. record { name = bytes_tie x.name y.name parts.0 i; value = bytes_tie x.value y.value parts.1 i } ∷ rest i

keys_tie : (a b : SeriesKey) → key_cmp a b ≡ Equal → a ≡ b
keys_tie a b e =
    let first = both_tie (slice_cmp nat_cmp a.name b.name) _ e in
    let second = both_tie (nat_cmp (kind_place a.kind) (kind_place b.kind)) _ first.1 in
    let third = both_tie (slice_cmp nat_cmp a.unit b.unit) _ second.1 in
    λ i. record { name = bytes_tie a.name b.name first.0 i; kind = same_kind a.kind b.kind (numbers_tie (kind_place a.kind) (kind_place b.kind) second.0) i; unit = bytes_tie a.unit b.unit third.0 i; labels = labels_tie a.labels b.labels third.1 i }

pub key_cmp-Equal : (a b : SeriesKey) → (key_cmp a b ≡ Equal → a ≡ b) × (a ≡ b → key_cmp a b ≡ Equal)
key_cmp-Equal a b = (keys_tie a b, λ e. subst (λ (k : SeriesKey). key_cmp a k ≡ Equal) e (tied_itself key_cmp-total a))
