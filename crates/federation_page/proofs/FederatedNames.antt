-- Names and kinds under which the families of a page are federated.
use Rattle.std.proofs.Common.{◌≡◌, ℕ, ◌-◌, ◌≤◌, Bool, true, false, not, ◌&&◌, List, [], ◌∷◌, ◌++◌, length, take, codes, Option, Some, None, refl, sym, ap, subst, ◌∙◌, arith, append-nil}
use Rattle.std.specs.Prelude.{◌==◌, unwrap_or}
use Rattle.std.specs.List.{ends_with, list_all}
use Rattle.std.specs.Str.{bytes_eq}
use Rattle.std.specs.Cmp.Lexicographic.{bytes_decides}
use Rattle.std.proofs.lemmas.Bool.{and_parts, and_from}
use Rattle.std.proofs.lemmas.List.{length-append, take_at}
use Rattle.std.proofs.lemmas.Slice.Eq.{ends_is}
use Rattle.std.proofs.lemmas.Bool.Decides.{Decides-eqb}
use Rattle.label_sets.specs.declared.kind.Kind.{Kind}
use Rattle.label_sets.specs.declared.kind.Kind.TheVariants as kinds
use Rattle.label_sets.specs.Names.{is_metric_name, is_metric_char, is_metric_start}
use Rattle.label_sets.specs.Lists.{when_true}
use Rattle.page_model.specs.declared.format.Format.{Format}
use Rattle.page_model.specs.declared.format.Format.TheVariants.{Text, OpenMetrics}
use Rattle.page_model.specs.Readings.{key_name}
use Rattle.page_model.specs.Rules.{is_info_or_state_set}
use Rattle.open_writing.specs.Forms.{is_kind_in, is_unit_of, may_have_unit}
use Rattle.federation_page.specs.Candidates.{in_front_of, federated_kind, federated_name}
use Rattle.federation_page.proofs.Ends.{front_is}

-- ---- fronts

pub front_found : (end key front : List ℕ) → in_front_of end key ≡ Some front → (key ≡ front ++ end) × (bytes_eq front [] ≡ false)
unfolding in_front_of
front_found end key front h = go (ends_with ◌==◌ key end) (bytes_eq (take (length key - length end) key) []) refl refl h
  where
    go : (b c : Bool) → ends_with ◌==◌ key end ≡ b → bytes_eq (take (length key - length end) key) [] ≡ c → when_true (b && not c) (take (length key - length end) key) ≡ Some front → (key ≡ front ++ end) × (bytes_eq front [] ≡ false)
    go true true e d k = absurd cc
    go true false e d k =
        let same : take (length key - length end) key ≡ front = ap (λ o. unwrap_or o []) k in
        ((ends_is Decides-eqb key end _ refl).0 e ∙ ap (λ f. f ++ end) same, subst (λ f. bytes_eq f [] ≡ false) same d)
    go false c e d k = absurd cc

pub front_there : (end name : List ℕ) → bytes_eq name [] ≡ false → in_front_of end (name ++ end) ≡ Some name
front_there end name some =
    let count : length (name ++ end) - length end ≡ length name = omega (arith, length-append name end) in
    let front : take (length (name ++ end) - length end) (name ++ end) ≡ name = take_at name end (length (name ++ end) - length end) (sym count) in
    sym (sym (ap (λ b. when_true (not b) name) some) ∙ front_is end (name ++ end) name (length end) refl (sym (ap (λ f. f ++ end) front)) (sym front))

metric_some : (n : List ℕ) → is_metric_name n ≡ true → bytes_eq n [] ≡ false
metric_some [] h = absurd (let bad : false ≡ true = h in cc)
metric_some (c ∷ cs) h = refl

-- ---- the names that the kinds leave

counter_keeps : (key : List ℕ) → key_name OpenMetrics (federated_kind kinds.Counter key) (federated_name kinds.Counter key) ≡ key
unfolding federated_kind federated_name
counter_keeps key = go (in_front_of (codes "_total") key) refl
  where
    go : (o : Option (List ℕ)) → in_front_of (codes "_total") key ≡ o → key_name OpenMetrics (federated_kind kinds.Counter key) (federated_name kinds.Counter key) ≡ key
    go (Some front) e = rw e (sym (front_found (codes "_total") key front e).0)
    go None e = rw e refl

info_keeps : (name : List ℕ) → is_metric_name name ≡ true → federated_name kinds.Info (name ++ codes "_info") ≡ name
unfolding federated_name
info_keeps name m = ap (λ o. unwrap_or o (name ++ codes "_info")) (front_there (codes "_info") name (metric_some name m))

counter_kind : (name : List ℕ) → is_metric_name name ≡ true → federated_kind kinds.Counter (name ++ codes "_total") ≡ kinds.Counter
unfolding federated_kind
counter_kind name m = rw (front_there (codes "_total") name (metric_some name m)) refl

counter_name : (name : List ℕ) → is_metric_name name ≡ true → federated_name kinds.Counter (name ++ codes "_total") ≡ name
unfolding federated_name
counter_name name m = ap (λ o. unwrap_or o (name ++ codes "_total")) (front_there (codes "_total") name (metric_some name m))

-- the series of a family keep their key name
pub keeps_name : (f : Format) (kind : Kind) (name : List ℕ) → is_metric_name name ≡ true → is_kind_in f kind ≡ true
    → key_name OpenMetrics (federated_kind kind (key_name f kind name)) (federated_name kind (key_name f kind name)) ≡ key_name f kind name
unfolding federated_kind federated_name
keeps_name f kinds.Counter name m k = counter_keeps (key_name f kinds.Counter name)
keeps_name Text kinds.Info name m k = absurd (let bad : false ≡ true = k in cc)
keeps_name OpenMetrics kinds.Info name m k = ap (λ n. n ++ codes "_info") (info_keeps name m)
keeps_name f kinds.Gauge name m k = refl
keeps_name f kinds.Histogram name m k = refl
keeps_name f kinds.GaugeHistogram name m k = refl
keeps_name f kinds.StateSet name m k = refl
keeps_name f kinds.Summary name m k = refl
keeps_name f kinds.Unknown name m k = refl

-- a family of OpenMetrics keeps its kind and name
pub open_kind : (kind : Kind) (name : List ℕ) → is_metric_name name ≡ true → federated_kind kind (key_name OpenMetrics kind name) ≡ kind
unfolding federated_kind
open_kind kinds.Counter name m = counter_kind name m
open_kind _ name m = refl

pub open_name : (kind : Kind) (name : List ℕ) → is_metric_name name ≡ true → federated_name kind (key_name OpenMetrics kind name) ≡ name
unfolding federated_name
open_name kinds.Counter name m = counter_name name m
open_name kinds.Info name m = info_keeps name m
open_name _ name m = refl

-- the key names of a text page are its families'
pub text_key : (kind : Kind) (name : List ℕ) → is_kind_in Text kind ≡ true → key_name Text kind name ≡ name
text_key kinds.Counter name k = append-nil name
text_key kinds.Info name k = absurd (let bad : false ≡ true = k in cc)
text_key _ name k = refl

-- of families of one page, those with one federated kind and name have one name
pub one_source : (f : Format) (j k : Kind) (m n : List ℕ) → is_metric_name m ≡ true → is_metric_name n ≡ true → is_kind_in f j ≡ true → is_kind_in f k ≡ true
    → federated_kind j (key_name f j m) ≡ federated_kind k (key_name f k n) → federated_name j (key_name f j m) ≡ federated_name k (key_name f k n) → m ≡ n
one_source Text j k m n mm nn jj kk kind name =
    sym (text_key j m jj) ∙ sym (keeps_name Text j m mm jj) ∙ ap (λ g. key_name OpenMetrics g (federated_name j (key_name Text j m))) kind ∙ ap (key_name OpenMetrics (federated_kind k (key_name Text k n))) name
    ∙ keeps_name Text k n nn kk ∙ text_key k n kk
one_source OpenMetrics j k m n mm nn jj kk kind name = sym (open_name j m mm) ∙ name ∙ open_name k n nn

-- ---- they are names

metric_front : (front end : List ℕ) → bytes_eq front [] ≡ false → is_metric_name (front ++ end) ≡ true → is_metric_name front ≡ true
metric_front [] end some h = absurd (let bad : true ≡ false = some in cc)
metric_front (c ∷ cs) end some h = let both = and_parts (is_metric_start c) (list_all is_metric_char (cs ++ end)) h in and_from (is_metric_start c) (list_all is_metric_char cs) both.0 (front_of cs both.1)
  where
    front_of : (xs : List ℕ) → list_all is_metric_char (xs ++ end) ≡ true → list_all is_metric_char xs ≡ true
    front_of [] k = refl
    front_of (x ∷ xs) k = let both = and_parts (is_metric_char x) (list_all is_metric_char (xs ++ end)) k in and_from (is_metric_char x) (list_all is_metric_char xs) both.0 (front_of xs both.1)

counter_metric : (key : List ℕ) → is_metric_name key ≡ true → is_metric_name (federated_name kinds.Counter key) ≡ true
unfolding federated_name
counter_metric key m = go (in_front_of (codes "_total") key) refl
  where
    go : (o : Option (List ℕ)) → in_front_of (codes "_total") key ≡ o → is_metric_name (unwrap_or o key) ≡ true
    go (Some front) e = let found = front_found (codes "_total") key front e in metric_front front (codes "_total") found.1 (subst (λ k. is_metric_name k ≡ true) found.0 m)
    go None e = m

pub federated_metric : (f : Format) (kind : Kind) (name : List ℕ) → is_metric_name name ≡ true → is_kind_in f kind ≡ true → is_metric_name (federated_name kind (key_name f kind name)) ≡ true
unfolding federated_name
federated_metric Text kinds.Counter name m k = counter_metric (name ++ []) (subst (λ n. is_metric_name n ≡ true) (sym (append-nil name)) m)
federated_metric OpenMetrics kinds.Counter name m k = subst (λ n. is_metric_name n ≡ true) (sym (counter_name name m)) m
federated_metric Text kinds.Info name m k = absurd (let bad : false ≡ true = k in cc)
federated_metric OpenMetrics kinds.Info name m k = subst (λ n. is_metric_name n ≡ true) (sym (info_keeps name m)) m
federated_metric f kinds.Gauge name m k = m
federated_metric f kinds.Histogram name m k = m
federated_metric f kinds.GaugeHistogram name m k = m
federated_metric f kinds.StateSet name m k = m
federated_metric f kinds.Summary name m k = m
federated_metric f kinds.Unknown name m k = m

-- ---- and no longer

counter_shorter : (key : List ℕ) → length (federated_name kinds.Counter key) ≤ length key
unfolding federated_name
counter_shorter key = go (in_front_of (codes "_total") key) refl
  where
    go : (o : Option (List ℕ)) → in_front_of (codes "_total") key ≡ o → length (unwrap_or o key) ≤ length key
    go (Some front) e = let whole = ap length (front_found (codes "_total") key front e).0 ∙ length-append front (codes "_total") in omega (arith, whole)
    go None e = omega arith

pub name_shorter : (f : Format) (kind : Kind) (name : List ℕ) → is_metric_name name ≡ true → is_kind_in f kind ≡ true → length (federated_name kind (key_name f kind name)) ≤ length name
unfolding federated_name
name_shorter Text kinds.Counter name m k = let shorter = counter_shorter (name ++ []) in let same = ap length (append-nil name) in omega (arith, shorter, same)
name_shorter OpenMetrics kinds.Counter name m k = let same = ap length (counter_name name m) in omega (arith, same)
name_shorter Text kinds.Info name m k = absurd (let bad : false ≡ true = k in cc)
name_shorter OpenMetrics kinds.Info name m k = let same = ap length (info_keeps name m) in omega (arith, same)
name_shorter f kinds.Gauge name m k = omega arith
name_shorter f kinds.Histogram name m k = omega arith
name_shorter f kinds.GaugeHistogram name m k = omega arith
name_shorter f kinds.StateSet name m k = omega arith
name_shorter f kinds.Summary name m k = omega arith
name_shorter f kinds.Unknown name m k = omega arith

pub key_shorter : (f : Format) (kind : Kind) (name : List ℕ) → length (key_name f kind name) ≤ length (key_name OpenMetrics kind name)
key_shorter Text kinds.Counter name = let a = length-append name (codes "_total") in let b = ap length (append-nil name) in omega (arith, a, b)
key_shorter OpenMetrics kinds.Counter name = omega arith
key_shorter f kinds.Info name = omega arith
key_shorter f kinds.Gauge name = omega arith
key_shorter f kinds.Histogram name = omega arith
key_shorter f kinds.GaugeHistogram name = omega arith
key_shorter f kinds.StateSet name = omega arith
key_shorter f kinds.Summary name = omega arith
key_shorter f kinds.Unknown name = omega arith

-- ---- units

no_unit : (kind : Kind) (name : List ℕ) → is_unit_of kind name [] ≡ true
no_unit kind name = by (is_info_or_state_set kind)
  where
    by : (b : Bool) → not (b && false) ≡ true
    by true = refl
    by false = refl

pub federated_unit : (f : Format) (kind : Kind) (name unit : List ℕ) → is_metric_name name ≡ true → may_have_unit f unit ≡ true → is_unit_of kind name unit ≡ true
    → is_unit_of (federated_kind kind (key_name f kind name)) (federated_name kind (key_name f kind name)) unit ≡ true
federated_unit Text kind name unit m may h =
    let none : unit ≡ [] = (bytes_decides unit []).0 (twice (bytes_eq unit []) may) in
    subst (λ u. is_unit_of (federated_kind kind (key_name Text kind name)) (federated_name kind (key_name Text kind name)) u ≡ true) (sym none) (no_unit (federated_kind kind (key_name Text kind name)) (federated_name kind (key_name Text kind name)))
  where
    twice : (b : Bool) → not (not b) ≡ true → b ≡ true
    twice true e = refl
    twice false e = absurd (let bad : false ≡ true = e in cc)
federated_unit OpenMetrics kind name unit m may h =
    subst (λ k. is_unit_of k (federated_name kind (key_name OpenMetrics kind name)) unit ≡ true) (sym (open_kind kind name m)) (subst (λ n. is_unit_of kind n unit ≡ true) (sym (open_name kind name m)) h)
