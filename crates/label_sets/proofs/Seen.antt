-- The names that were seen so far, in an ordered map.
use Rattle.std.proofs.Common.{◌≡◌, ℕ, suc, ◌+◌, ◌<◌, ◌≤◌, Bool, true, false, cond, ◌||◌, List, [], ◌∷◌, ◌++◌, length, take, drop, get_or, Option, Some, None, refl, sym, ap, subst, ◌∙◌, arith, drop-cons, BTreeMap}
use Rattle.std.specs.Prelude.{is_some}
use Rattle.std.specs.BTreeMap.{get_by, UpdatesBy, IsEmpty}
use Rattle.std.specs.List.{IsDistinct, list_any}
use Rattle.std.specs.Cmp.Lexicographic.{slice_cmp}
use Rattle.std.specs.Str.{bytes_eq}
use Rattle.std.specs.Ordering.{nat_cmp}
use Rattle.std.proofs.lemmas.Bool.{or_from, or_parts}
use Rattle.std.proofs.lemmas.Map.Text.{btree_map_updates_str}
use Rattle.std.proofs.lemmas.Map.Keys.{IsDistinct-push}
use Rattle.std.proofs.lemmas.Cmp.{eq_by_cmp_equiv}
use Rattle.std.proofs.lemmas.List.{take-append-drop, length-take-le, take_more}
use Rattle.std.proofs.lemmas.List.Folds.{list_any_more}
use denote.Ref.{Bor}
use Rattle.label_sets.specs.declared.label.Label.{Label}
use Rattle.label_sets.specs.Building.{same_name}
use Rattle.label_sets.specs.Labels.{has_name, repeated_at}
use Rattle.label_sets.proofs.Order.{same_name_turned, by_name_total}
use Rattle.label_sets.proofs.Repeats.{repeated_at-distinct, repeated_at-append, same_bytes}
use Rattle.label_sets.proofs.Places.{all_of}

-- whether the map has a name
abbrev pub has_seen : BTreeMap (Bor (List ℕ)) (Unit {0}) → List ℕ → Bool
has_seen seen q = is_some (get_by (λ k. slice_cmp nat_cmp q k.now) seen)

-- the names of the first labels are distinct, and the map has just them
pub record SeenFront (ls : List Label) (at : ℕ) (seen : BTreeMap (Bor (List ℕ)) (Unit {0})) : Type 0 where
  pub distinct : IsDistinct same_name (take at ls)
  pub names : (q : List ℕ) → has_seen seen q ≡ has_name (take at ls) q

pub seen_none : (ls : List Label) (seen : BTreeMap (Bor (List ℕ)) (Unit {0})) → IsEmpty seen → SeenFront ls 0 seen
unfolding IsDistinct
seen_none ls seen e = record { distinct = tt; names = λ q. rw e refl }

pub seen_all : (ls : List Label) (at : ℕ) (seen : BTreeMap (Bor (List ℕ)) (Unit {0})) → SeenFront ls at seen → length ls ≤ at → repeated_at [] 0 ls ≡ None
seen_all ls at seen f le = repeated_at-distinct ls (subst (IsDistinct same_name) (all_of ls at le) f.distinct)

pub seen_twice : (ls : List Label) (at : ℕ) (seen : BTreeMap (Bor (List ℕ)) (Unit {0})) (d : Label) (name : List ℕ) → SeenFront ls at seen → at < length ls → name ≡ (get_or ls at d).name → has_seen seen name ≡ true → repeated_at [] 0 ls ≡ Some at
seen_twice ls at seen d name f lt is old =
    let h : has_seen seen (get_or ls at d).name ≡ true = subst (λ (n : List ℕ). has_seen seen n ≡ true) is old in
    let whole : take at ls ++ get_or ls at d ∷ drop (suc at) ls ≡ ls = subst (λ (xs : List Label). take at ls ++ xs ≡ ls) (drop-cons ls at d lt) (take-append-drop at ls) in
    let found = repeated_at-append (take at ls) (get_or ls at d) (drop (suc at) ls) f.distinct (sym (f.names (get_or ls at d).name) ∙ h) in
    ap (repeated_at [] 0) (sym whole) ∙ (found ∙ ap Some (length-take-le at ls (omega arith)))

none_same : (m : Label) (xs : List Label) → has_name xs m.name ≡ false → list_any (same_name m) xs ≡ false
none_same m [] h = refl
none_same m (x ∷ xs) h =
    let both = or_parts (bytes_eq x.name m.name) (has_name xs m.name) h in
    or_from (same_name m x) (list_any (same_name m) xs) (same_name_turned m x ∙ (same_bytes x m ∙ both.0)) (none_same m xs both.1)

one_more : (b x : Bool) (old : Option (Unit {0})) → is_some old ≡ x → is_some (cond b (Some tt) old) ≡ (x || b)
one_more true true old h = refl
one_more true false old h = refl
one_more false true old h = h
one_more false false old h = h

pub seen_more : (ls : List Label) (at : ℕ) (seen new : BTreeMap (Bor (List ℕ)) (Unit {0})) (d : Label) (name : List ℕ) → SeenFront ls at seen → at < length ls → name ≡ (get_or ls at d).name
    → has_seen seen name ≡ false
    → UpdatesBy (λ x y. slice_cmp nat_cmp x.now y.now) (λ k. slice_cmp nat_cmp name k.now) seen new (Some tt) → SeenFront ls (at + 1) new
seen_more ls at seen new d name f lt is new_name updates = let fresh : has_seen seen (get_or ls at d).name ≡ false = subst (λ (n : List ℕ). has_seen seen n ≡ false) is new_name in record {
  distinct = subst (IsDistinct same_name) (sym (take_more ls at d lt)) (IsDistinct-push (eq_by_cmp_equiv by_name_total) (take at ls) (get_or ls at d) f.distinct (none_same (get_or ls at d) (take at ls) (sym (f.names (get_or ls at d).name) ∙ fresh)));
  names = λ q. ap is_some (btree_map_updates_str name seen new (Some tt) updates q)
      ∙ (ap (λ (n : List ℕ). is_some (cond (bytes_eq n q) (Some tt) (get_by (λ k. slice_cmp nat_cmp q k.now) seen))) is ∙ one_more (bytes_eq (get_or ls at d).name q) (has_name (take at ls) q) (get_by (λ k. slice_cmp nat_cmp q k.now) seen) (f.names q) ∙ sym (list_any_more (λ (l : Label). bytes_eq l.name q) ls at d lt));
}
