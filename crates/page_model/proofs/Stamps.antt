-- What a reader has to keep for time stamps and exemplars, and that a time is within its bound.
use Rattle.std.proofs.Common.{◌≡◌, ℕ, ◌≤◌, Bool, true, false, List, [], ◌∷◌, find, Option, Some, None, refl, subst}
use Rattle.std.specs.Prelude.{nat_le}
use Rattle.std.specs.List.{AllByRecursion}
use Rattle.std.specs.Option.{option_flatten}
use Rattle.std.proofs.lemmas.Option.{none-some, same_Some}
use Rattle.std.proofs.lemmas.Bool.{leb-true}
use Rattle.label_sets.specs.declared.kind.Kind.{Kind}
use Rattle.label_sets.specs.Lists.{first_some, ◌>>=◌, when_true}
use Rattle.page_model.specs.declared.format.Format.{Format}
use Rattle.page_model.specs.declared.item.Sample.{Sample}
use Rattle.page_model.specs.Rules.{may_have_exemplar}
use Rattle.page_model.specs.Readings.{is_measured, latest_time, stamp_nanos, within_time, stamp_of, exemplars_of}

-- the time that a sample gives its reading, present or not; nothing where the sample is a created time
abbrev pub stamp_in : Format → List ℕ → Sample → Option (Option ℕ)
stamp_in f family s = when_true (is_measured family s) (s.stamp >>= stamp_nanos f >>= within_time)

-- the first of these is the reading's time: one value for each group is all that is kept
pub stamp_kept : (f : Format) (family : List ℕ) (samples : List Sample) → stamp_of f family samples ≡ option_flatten (first_some (stamp_in f family) samples)
unfolding stamp_of
stamp_kept f family [] = refl
stamp_kept f family (s ∷ samples) = go (is_measured family s) refl (stamp_kept f family samples)
  where
    go : (b : Bool) → is_measured family s ≡ b → stamp_of f family samples ≡ option_flatten (first_some (stamp_in f family) samples) → stamp_of f family (s ∷ samples) ≡ option_flatten (first_some (stamp_in f family) (s ∷ samples))
    go true h rest = rw h refl
    go false h rest = rw h rest

-- a reading's time is within the bound
within : (o : Option ℕ) (n : ℕ) → (o >>= within_time) ≡ Some n → n ≤ latest_time
within None n e = absurd (none-some n e)
within (Some m) n e = go (nat_le m latest_time) refl
  where
    go : (b : Bool) → nat_le m latest_time ≡ b → n ≤ latest_time
    go true h = subst (λ k. k ≤ latest_time) (same_Some m n (rw h at e)) (leb-true m latest_time h)
    go false h = absurd (none-some n (rw h at e))

pub stamp_is_within : (f : Format) (family : List ℕ) (samples : List Sample) (n : ℕ) → stamp_of f family samples ≡ Some n → n ≤ latest_time
unfolding stamp_of
stamp_is_within f family samples n e = go (find (is_measured family) samples) refl
  where
    go : (o : Option Sample) → find (is_measured family) samples ≡ o → n ≤ latest_time
    go None h = absurd (none-some n (rw h at e))
    go (Some s) h = within (s.stamp >>= stamp_nanos f) n (rw h at e)

-- samples without exemplars give none
pub none_given : (kind : Kind) (family : List ℕ) (samples : List Sample) → AllByRecursion (λ (s : Sample). s.exemplar ≡ None) samples → exemplars_of kind family samples ≡ []
unfolding exemplars_of
none_given kind family [] all = refl
none_given kind family (s ∷ samples) all = go (may_have_exemplar kind family s) refl (none_given kind family samples all.1)
  where
    go : (b : Bool) → may_have_exemplar kind family s ≡ b → exemplars_of kind family samples ≡ [] → exemplars_of kind family (s ∷ samples) ≡ []
    go true h rest = rw (h, all.0) rest
    go false h rest = rw h rest

-- samples without time stamps give none
pub no_stamp : (f : Format) (family : List ℕ) (samples : List Sample) → AllByRecursion (λ (s : Sample). s.stamp ≡ None) samples → stamp_of f family samples ≡ None
unfolding stamp_of
no_stamp f family [] all = refl
no_stamp f family (s ∷ samples) all = go (is_measured family s) refl (no_stamp f family samples all.1)
  where
    go : (b : Bool) → is_measured family s ≡ b → stamp_of f family samples ≡ None → stamp_of f family (s ∷ samples) ≡ None
    go true h rest = rw (h, all.0) refl
    go false h rest = rw h rest
