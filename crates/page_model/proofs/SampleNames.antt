-- The suffix of a sample's name, as one of the suffixes by its bytes.
use Rattle.std.proofs.Common.{find, ◌≡◌, ℕ, Bool, true, false, ◌&&◌, ◌||◌, List, [], ◌∷◌, ◌++◌, take, drop, length, Option, None, Some, IfSome, refl, sym, ap, ◌∙◌, if◌then◌else◌}
use Rattle.std.specs.Prelude.{◌==◌}
use Rattle.std.specs.List.{list_any}
use Rattle.std.specs.Str.{bytes_eq}
use Rattle.std.specs.Cmp.Lexicographic.{bytes_decides}
use Rattle.std.proofs.lemmas.Bool.{and_parts}
use Rattle.label_sets.specs.declared.kind.Kind.{Kind}
use Rattle.label_sets.specs.declared.kind.Kind.TheVariants as kinds
use Rattle.page_model.specs.declared.format.Format.{Format}
use Rattle.page_model.specs.declared.format.Format.TheVariants.{Text, OpenMetrics}
use Rattle.page_model.specs.declared.suffix.Suffix.{Suffix}
use Rattle.page_model.specs.declared.suffix.Suffix.TheVariants.{Own, Bucket, Count, GaugeCount, Sum, GaugeSum, Total, Created, Info}
use Rattle.page_model.specs.Suffixes.{is_sample_name}
use Rattle.page_model.specs.SuffixNames.{suffix_bytes, all_suffixes, suffix_named}

-- ---- a suffix and its bytes

named_among : (bytes : List ℕ) (xs : List Suffix) → IfSome (find (λ suffix. bytes_eq bytes (suffix_bytes suffix)) xs) (λ suffix. bytes ≡ suffix_bytes suffix)
named_among bytes [] = tt
named_among bytes (x ∷ xs) = by (bytes_eq bytes (suffix_bytes x)) (bytes_decides bytes (suffix_bytes x)).0 (named_among bytes xs)
  where
    by : (b : Bool) → (b ≡ true → bytes ≡ suffix_bytes x) → IfSome (find (λ suffix. bytes_eq bytes (suffix_bytes suffix)) xs) (λ suffix. bytes ≡ suffix_bytes suffix)
        → IfSome (if b then Some x else find (λ suffix. bytes_eq bytes (suffix_bytes suffix)) xs) (λ suffix. bytes ≡ suffix_bytes suffix)
    by true same more = same refl
    by false same more = more

named_is : (bytes : List ℕ) → IfSome (suffix_named bytes) (λ suffix. bytes ≡ suffix_bytes suffix)
unfolding suffix_named
named_is bytes = named_among bytes all_suffixes

named_back : (suffix : Suffix) → suffix_named (suffix_bytes suffix) ≡ Some suffix
unfolding suffix_named
named_back Own = refl
named_back _ = refl

-- ---- a name that is a front and an ending

-- behind the front that it has, the ending decides
ending_decides : (front name ending : List ℕ) → bytes_eq (take (length front) name) front ≡ true → bytes_eq (drop (length front) name) ending ≡ bytes_eq name (front ++ ending)
ending_decides [] [] ending h = refl
ending_decides [] (x ∷ xs) ending h = refl
ending_decides (f ∷ fs) [] ending h = absurd (let e : false ≡ true = h in cc)
ending_decides (f ∷ fs) (x ∷ xs) ending h =
    let parts = and_parts (x == f) (bytes_eq (take (length fs) xs) fs) h in
    rw parts.0 (ending_decides fs xs ending parts.1)

-- without the front it isn't
other_front : (front name ending : List ℕ) → bytes_eq (take (length front) name) front ≡ false → bytes_eq name (front ++ ending) ≡ false
other_front [] [] ending h = absurd (let e : true ≡ false = h in cc)
other_front [] (x ∷ xs) ending h = absurd (let e : true ≡ false = h in cc)
other_front (f ∷ fs) [] ending h = refl
other_front (f ∷ fs) (x ∷ xs) ending h = by (x == f) h (other_front fs xs ending)
  where
    by : (b : Bool) → (b && bytes_eq (take (length fs) xs) fs) ≡ false → (bytes_eq (take (length fs) xs) fs ≡ false → bytes_eq xs (fs ++ ending) ≡ false) → (b && bytes_eq xs (fs ++ ending)) ≡ false
    by true e more = more e
    by false e more = refl

module _ (family name : List ℕ) where
  -- behind the family's name, the suffix is the name's
  pub suffix_found : (rest : List ℕ) (found : Option Suffix) → bytes_eq (take (length family) name) family ≡ true → rest ≡ drop (length family) name → found ≡ suffix_named rest → IfSome found (λ suffix. name ≡ family ++ suffix_bytes suffix)
  suffix_found rest found front behind is = by found (sym is) (named_is rest)
    where
      by : (o : Option Suffix) → suffix_named rest ≡ o → IfSome (suffix_named rest) (λ suffix. rest ≡ suffix_bytes suffix) → IfSome o (λ suffix. name ≡ family ++ suffix_bytes suffix)
      by None e told = tt
      by (Some suffix) e told =
          let same : rest ≡ suffix_bytes suffix = rw e at told in
          let ending = (bytes_decides (drop (length family) name) (suffix_bytes suffix)).1 (sym behind ∙ same) in
          (bytes_decides name (family ++ suffix_bytes suffix)).0 (sym (ending_decides family name (suffix_bytes suffix) front) ∙ ending)

  -- and the name has no other
  pub suffix_only : (rest : List ℕ) → bytes_eq (take (length family) name) family ≡ true → rest ≡ drop (length family) name → (suffix : Suffix) → name ≡ family ++ suffix_bytes suffix → suffix_named rest ≡ Some suffix
  suffix_only rest front behind suffix is =
      let ending = ending_decides family name (suffix_bytes suffix) front ∙ (bytes_decides name (family ++ suffix_bytes suffix)).1 is in
      ap suffix_named (behind ∙ (bytes_decides (drop (length family) name) (suffix_bytes suffix)).0 ending) ∙ named_back suffix

  -- a name without the family's in front has no suffix
  pub no_suffix : bytes_eq (take (length family) name) family ≡ false → (suffix : Suffix) → name ≡ family ++ suffix_bytes suffix → None ≡ Some suffix
  no_suffix other suffix is = absurd (let no : true ≡ false = sym ((bytes_decides name (family ++ suffix_bytes suffix)).1 is) ∙ other_front family name (suffix_bytes suffix) other in cc)

  -- ---- the suffixes of a kind

  -- the suffix decides whether a kind allows the name
  pub allowed_by : (suffix : Suffix) (allowed : List (List ℕ)) → name ≡ family ++ suffix_bytes suffix → list_any (bytes_eq (suffix_bytes suffix)) allowed ≡ list_any (λ x. bytes_eq name (family ++ x)) allowed
  allowed_by suffix [] is = refl
  allowed_by suffix (x ∷ xs) is =
      let first : bytes_eq (suffix_bytes suffix) x ≡ bytes_eq name (family ++ x) = sym (ap (λ n. bytes_eq n (family ++ x)) is ∙ behind_front family (suffix_bytes suffix) x) in
      let rest = allowed_by suffix xs is in
      λ i. first i || rest i
    where
      behind_front : (front a b : List ℕ) → bytes_eq (front ++ a) (front ++ b) ≡ bytes_eq a b
      behind_front [] a b = refl
      behind_front (c ∷ cs) a b = rw (and_parts (c == c) true ((bytes_decides (c ∷ []) (c ∷ [])).1 refl)).0 (behind_front cs a b)

  -- a name without a suffix is allowed to no kind
  pub none_allowed : (format : Format) (kind : Kind) → ((suffix : Suffix) → name ≡ family ++ suffix_bytes suffix → None ≡ Some suffix) → false ≡ is_sample_name format kind family name
  none_allowed format kind none = sym (by format kind)
    where
      no : (suffix : Suffix) → bytes_eq name (family ++ suffix_bytes suffix) ≡ false
      no suffix = other (bytes_eq name (family ++ suffix_bytes suffix)) refl
        where
          other : (b : Bool) → bytes_eq name (family ++ suffix_bytes suffix) ≡ b → b ≡ false
          other true e = absurd (let is : None ≡ Some suffix = none suffix ((bytes_decides name (family ++ suffix_bytes suffix)).0 e) in cc)
          other false e = refl

      by : (f : Format) (k : Kind) → is_sample_name f k family name ≡ false
      by f kinds.Gauge = rw (no Own) refl
      by f kinds.Unknown = rw (no Own) refl
      by f kinds.StateSet = rw (no Own) refl
      by f kinds.Info = rw (no Info) refl
      by f kinds.GaugeHistogram = rw (no Bucket, no GaugeCount, no GaugeSum) refl
      by Text kinds.Counter = rw (no Own) refl
      by Text kinds.Histogram = rw (no Bucket, no Sum, no Count) refl
      by Text kinds.Summary = rw (no Own, no Sum, no Count) refl
      by OpenMetrics kinds.Counter = rw (no Total, no Created) refl
      by OpenMetrics kinds.Histogram = rw (no Bucket, no Count, no Sum, no Created) refl
      by OpenMetrics kinds.Summary = rw (no Own, no Count, no Sum, no Created) refl
