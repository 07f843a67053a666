-- Names in front of an end.
use Rattle.std.proofs.Common.{◌≡◌, ◌≢◌, ℕ, ◌-◌, Bool, true, false, not, ◌&&◌, List, [], ◌++◌, take, length, Option, None, refl, sym, ap, ◌∙◌}
use Rattle.std.specs.Prelude.{◌==◌}
use Rattle.std.specs.List.{ends_with}
use Rattle.std.specs.Str.{bytes_eq}
use Rattle.std.proofs.lemmas.Slice.Eq.{ends_is}
use Rattle.std.proofs.lemmas.Bool.Decides.{Decides-eqb}
use Rattle.label_sets.specs.Lists.{when_true}
use Rattle.federation_page.specs.Candidates.{in_front_of}

pub front_is : (end name front : List ℕ) (n : ℕ) → n ≡ length end → name ≡ take (length name - n) name ++ end → front ≡ take (length name - n) name → when_true (not (bytes_eq front [])) front ≡ in_front_of end name
unfolding in_front_of
front_is end name front n k whole is =
    let rest : List ℕ = take (length name - length end) name in
    let f : front ≡ rest = is ∙ ap (λ (m : ℕ). take (length name - m) name) k in
    let t : ends_with ◌==◌ name end ≡ true = (ends_is Decides-eqb name end _ refl).1 _ whole in
    ap (λ (y : List ℕ). when_true (not (bytes_eq y [])) y) f ∙ sym (ap (λ (b : Bool). when_true (b && not (bytes_eq rest [])) rest) t)

pub no_front : (end name : List ℕ) → ((front : List ℕ) → name ≢ front ++ end) → ◌≡◌ {A = Option (List ℕ)} None (in_front_of end name)
unfolding in_front_of
no_front end name none = go (ends_with ◌==◌ name end) refl
  where
    go : (b : Bool) → ends_with ◌==◌ name end ≡ b → ◌≡◌ {A = Option (List ℕ)} None (when_true (ends_with ◌==◌ name end && not (bytes_eq (take (length name - length end) name) [])) (take (length name - length end) name))
    go true e = absurd (none _ ((ends_is Decides-eqb name end _ refl).0 e))
    go false e = sym (ap (λ (b : Bool). when_true (b && not (bytes_eq (take (length name - length end) name) [])) (take (length name - length end) name)) e)
