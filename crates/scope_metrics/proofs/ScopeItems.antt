-- Readings and markers by their scopes: one more of them.
use Rattle.std.proofs.Common.{◌≡◌, ℕ, Bool, true, false, cond, ◌&&◌, List, [], ◌∷◌, ◌++◌, map, filter, length, get_or, set, Some, refl, sym, ap, ◌∙◌}
use Rattle.std.specs.Prelude.{slice_get, if◌then◌else◌}
use Rattle.std.specs.List.{fold, list_any}
use Rattle.std.specs.Str.{bytes_eq}
use Rattle.std.specs.Cmp.Lexicographic.{bytes_decides, nat_list_eq_equiv}
use Rattle.std.proofs.Math.Bool.{and-true}
use Rattle.std.proofs.Math.Seq.{map-set_same}
use Rattle.std.proofs.lemmas.Bool.{or_parts}
use Rattle.std.proofs.lemmas.List.{map-append}
use Rattle.std.proofs.lemmas.List.Elements.{filter-append}
use Rattle.std.proofs.lemmas.List.Sums.{fold-append}
use Rattle.byte_table.proofs.Laws.{among}
use Rattle.label_sets.specs.declared.kind.Kind.TheVariants.{Unknown}
use Rattle.label_sets.specs.declared.label_set.LabelSet.{LabelSet}
use Rattle.label_sets.specs.Lists.{first_of_each}
use Rattle.label_sets.proofs.Laws.{any-map}
use Rattle.family_metrics.specs.Scopes.{Scope, scope_eq, scope_of, scope_name, bridge_scope}
use Rattle.scope_metrics.specs.ScopeParts.{OfScope, no_series, is_last, part_started, part_with_last, reading_behind, marker_behind, Item, of_reading, of_marker, item_scope, item_behind, items_in_scope, items_by_scope, scope_bytes, part_identity, IsPartFor}
use Rattle.family_metrics.proofs.Laws.{by_bytes, firsts, firsts-snoc, any_first, any_turned, own_none, one_changed, firsts_distinct}

-- two scopes are one just where their bytes are
scopes_by_bytes : (a b : Scope) → scope_eq a b ≡ bytes_eq (scope_bytes a) (scope_bytes b)
scopes_by_bytes a b = ap (λ c. c && bytes_eq a.version b.version) (sym (and-true (bytes_eq a.name b.name))) ∙ by_bytes a.name b.name Unknown Unknown a.version b.version

scopes_by : (cs : List Scope) → first_of_each scope_eq cs ≡ firsts scope_bytes cs
scopes_by cs = λ i. first_of_each (λ (a b : Scope). scopes_by_bytes a b i) cs

-- ---- one more of a scope

abbrev pub is_of : Scope → Item → Bool
is_of s x = scope_eq s (item_scope x)

part_more : (items : List Item) (x : Item) (s : Scope) → items_in_scope (items ++ x ∷ []) s ≡ cond (is_of s x) (item_behind (items_in_scope items s) x) (items_in_scope items s)
unfolding items_in_scope
part_more items x s =
    ap (fold item_behind (no_series s)) (filter-append (is_of s) items (x ∷ []))
    ∙ fold-append item_behind (no_series s) (filter (is_of s) items) (cond (is_of s x) (x ∷ []) [])
    ∙ by (is_of s x)
  where
    by : (b : Bool) → fold item_behind (fold item_behind (no_series s) (filter (is_of s) items)) (cond b (x ∷ []) [])
        ≡ cond b (item_behind (fold item_behind (no_series s) (filter (is_of s) items)) x) (fold item_behind (no_series s) (filter (is_of s) items))
    by true = refl
    by false = refl

part_kept : (items : List Item) (x : Item) (s : Scope) → bytes_eq (scope_bytes (item_scope x)) (scope_bytes s) ≡ false → items_in_scope (items ++ x ∷ []) s ≡ items_in_scope items s
part_kept items x s e = part_more items x s
    ∙ ap (λ b. cond b (item_behind (items_in_scope items s) x) (items_in_scope items s)) (scopes_by_bytes s (item_scope x) ∙ nat_list_eq_equiv.symm (scope_bytes s) (scope_bytes (item_scope x)) ∙ e)

part_grown : (items : List Item) (x : Item) (s : Scope) → scope_bytes s ≡ scope_bytes (item_scope x) → items_in_scope (items ++ x ∷ []) s ≡ item_behind (items_in_scope items s) x
part_grown items x s e = part_more items x s
    ∙ ap (λ b. cond b (item_behind (items_in_scope items s) x) (items_in_scope items s)) (scopes_by_bytes s (item_scope x) ∙ (bytes_decides (scope_bytes s) (scope_bytes (item_scope x))).1 e)

-- ---- the scope of a part

scope_behind : (q : OfScope) (x : Item) → (item_behind q x).scope ≡ q.scope
unfolding part_with_last reading_behind marker_behind
scope_behind q (of_reading n f r p) = by (is_last n q.last)
  where
    by : (b : Bool) → (cond b q (part_started n f q)).scope ≡ q.scope
    by true = refl
    by false = refl
scope_behind q (of_marker m) = refl

fold_scope : (xs : List Item) (q : OfScope) → (fold item_behind q xs).scope ≡ q.scope
fold_scope [] q = refl
fold_scope (x ∷ xs) q = fold_scope xs (item_behind q x) ∙ scope_behind q x

part_scope : (items : List Item) (s : Scope) → (items_in_scope items s).scope ≡ s
unfolding items_in_scope
part_scope items s = fold_scope (filter (is_of s) items) (no_series s)

bytes_in : (items : List Item) (ss : List Scope) → map part_identity (map (items_in_scope items) ss) ≡ map scope_bytes ss
bytes_in items [] = refl
bytes_in items (s ∷ ss) = ap (λ c. scope_bytes c ∷ map part_identity (map (items_in_scope items) ss)) (part_scope items s) ∙ ap (λ l. scope_bytes s ∷ l) (bytes_in items ss)

-- ---- the part of a scope, which is part_with_last where there was none

-- a scope of none of these has no series
none_yet : (items : List Item) (c : Scope) → list_any (λ x. bytes_eq (scope_bytes c) (scope_bytes x)) (bridge_scope ∷ map item_scope items) ≡ false → items_in_scope items c ≡ no_series c
unfolding items_in_scope
none_yet items c e =
    let others = or_parts (bytes_eq (scope_bytes c) (scope_bytes bridge_scope)) (list_any (λ x. bytes_eq (scope_bytes c) (scope_bytes x)) (map item_scope items)) e in
    let none : list_any (λ (x : Item). bytes_eq (scope_bytes c) (scope_bytes (item_scope x))) items ≡ false = sym (any-map (λ x. bytes_eq (scope_bytes c) (scope_bytes x)) item_scope items) ∙ others.1 in
    ap (fold item_behind (no_series c)) ((λ i. filter (λ (x : Item). scopes_by_bytes c (item_scope x) i) items)
    ∙ own_none (λ (x : Item). scope_bytes (item_scope x)) (scope_bytes c) items none)

with_scope : (items : List Item) (c : Scope) (old new : List OfScope) (at : ℕ) → old ≡ items_by_scope items → IsPartFor c old new at
    → new ≡ map (items_in_scope items) (firsts scope_bytes (bridge_scope ∷ map item_scope items ++ c ∷ []))
unfolding items_by_scope
with_scope items c old new at is there = there.parts_are ∙ go (list_any (bytes_eq (scope_bytes c)) (map part_identity old)) refl
  where
    cs : List Scope
    cs = bridge_scope ∷ map item_scope items

    by : old ≡ map (items_in_scope items) (firsts scope_bytes (bridge_scope ∷ map item_scope items))
    by = is ∙ ap (map (items_in_scope items)) (scopes_by (bridge_scope ∷ map item_scope items))

    asked : list_any (bytes_eq (scope_bytes c)) (map part_identity old) ≡ list_any (λ x. bytes_eq (scope_bytes c) (scope_bytes x)) (bridge_scope ∷ map item_scope items)
    asked = ap (list_any (bytes_eq (scope_bytes c))) (ap (map part_identity) (is ∙ ap (map (items_in_scope items)) (scopes_by (bridge_scope ∷ map item_scope items)))
        ∙ bytes_in items (firsts scope_bytes (bridge_scope ∷ map item_scope items)))
        ∙ any_first scope_bytes (scope_bytes c) (bridge_scope ∷ map item_scope items)

    more : (b : Bool) → list_any (λ x. bytes_eq (scope_bytes c) (scope_bytes x)) (bridge_scope ∷ map item_scope items) ≡ b
        → firsts scope_bytes (bridge_scope ∷ map item_scope items ++ c ∷ [])
        ≡ cond b (firsts scope_bytes (bridge_scope ∷ map item_scope items)) (firsts scope_bytes (bridge_scope ∷ map item_scope items) ++ c ∷ [])
    more b e = firsts-snoc scope_bytes (bridge_scope ∷ map item_scope items) c
        ∙ ap (λ t. cond t (firsts scope_bytes (bridge_scope ∷ map item_scope items)) (firsts scope_bytes (bridge_scope ∷ map item_scope items) ++ c ∷ []))
        (any_turned scope_bytes c (bridge_scope ∷ map item_scope items) ∙ e)

    go : (b : Bool) → list_any (bytes_eq (scope_bytes c)) (map part_identity old) ≡ b
        → (if list_any (bytes_eq (scope_bytes c)) (map part_identity old) then old else old ++ no_series c ∷ [])
        ≡ map (items_in_scope items) (firsts scope_bytes (bridge_scope ∷ map item_scope items ++ c ∷ []))
    go true e = ap (λ t. if t then old else old ++ no_series c ∷ []) e ∙ by ∙ ap (map (items_in_scope items)) (sym (more true (sym asked ∙ e)))
    go false e = ap (λ t. if t then old else old ++ no_series c ∷ []) e
        ∙ (λ i. by i ++ sym (none_yet items c (sym asked ∙ e)) i ∷ [])
        ∙ sym (map-append (items_in_scope items) (firsts scope_bytes (bridge_scope ∷ map item_scope items)) (c ∷ []))
        ∙ ap (map (items_in_scope items)) (sym (more false (sym asked ∙ e)))

-- the part of a scope, with one more
pub put_in : (items : List Item) (x : Item) (old new after : List OfScope) (at : ℕ) (q more : OfScope) → old ≡ items_by_scope items → IsPartFor (item_scope x) old new at
    → q ≡ get_or new at q → more ≡ item_behind q x → after ≡ set new at more → after ≡ items_by_scope (items ++ x ∷ [])
unfolding items_by_scope
put_in items x old new after at q more is there here last_grown put =
    let cs : List Scope = bridge_scope ∷ map item_scope items ++ item_scope x ∷ [] in
    let now : new ≡ map (items_in_scope items) (firsts scope_bytes cs) = with_scope items (item_scope x) old new at is there in
    let found : slice_get (map scope_bytes (firsts scope_bytes cs)) at ≡ Some (scope_bytes (item_scope x)) =
    sym (ap (λ l. slice_get l at) (ap (map part_identity) now ∙ bytes_in items (firsts scope_bytes cs))) ∙ there.at_is in
    put ∙ ap (set new at) (last_grown ∙ ap (λ y. item_behind y x) here)
    ∙ ap (λ l. set l at (item_behind (get_or l at q) x)) now
    ∙ sym (one_changed scope_bytes (items_in_scope items) (items_in_scope (items ++ x ∷ [])) (λ y. item_behind y x) (scope_bytes (item_scope x)) (part_kept items x)
    (firsts scope_bytes cs) at q (part_grown items x) (firsts_distinct scope_bytes cs) found)
    ∙ ap (map (items_in_scope (items ++ x ∷ []))) (sym (scopes_by cs) ∙ ap (λ l. first_of_each scope_eq (bridge_scope ∷ l)) (sym (map-append item_scope items (x ∷ []))))

-- none of them
pub none_of_them : (labels : LabelSet) (old new : List OfScope) (at : ℕ) → labels ≡ [] → old ≡ [] → IsPartFor (scope_of labels) old new at → new ≡ items_by_scope []
unfolding scope_name items_in_scope items_by_scope
none_of_them labels old new at no_label none there = there.parts_are
    ∙ (λ i. if list_any (bytes_eq (scope_bytes (scope_of (no_label i)))) (map part_identity (none i)) then none i else none i ++ no_series (scope_of (no_label i)) ∷ [])

-- ---- a part by its bytes

pub found_part : (s : Scope) (old new : List OfScope) (strings : List (List ℕ)) (bytes : List ℕ) (at : ℕ)
    → bytes ≡ scope_bytes s → strings ≡ map part_identity old → slice_get strings at ≡ Some bytes → new ≡ old → IsPartFor s old new at
found_part s old new strings bytes at b names e same =
    let found : slice_get (map part_identity old) at ≡ Some (scope_bytes s) = ap (λ l. slice_get l at) (sym names) ∙ e ∙ ap Some b in
    record {
      parts_are = same ∙ sym (ap (λ t. if t then old else old ++ no_series s ∷ []) (among (map part_identity old) (scope_bytes s) at found));
      at_is = ap (λ l. slice_get (map part_identity l) at) same ∙ found;
    }

last_got : {A : Type 0} (xs : List A) (y : A) → slice_get (xs ++ y ∷ []) (length xs) ≡ Some y
last_got [] y = refl
last_got (x ∷ xs) y = last_got xs y

pub new_part : (s : Scope) (old new : List OfScope) (strings : List (List ℕ)) (bytes : List ℕ) (at : ℕ) (part : OfScope)
    → bytes ≡ scope_bytes s → strings ≡ map part_identity old → list_any (bytes_eq bytes) strings ≡ false → at ≡ length strings → part ≡ no_series s → new ≡ old ++ part ∷ [] → IsPartFor s old new at
new_part s old new strings bytes at part b names none count own put =
    let now : new ≡ old ++ no_series s ∷ [] = put ∙ ap (λ q. old ++ q ∷ []) own in
    let no : list_any (bytes_eq (scope_bytes s)) (map part_identity old) ≡ false = (λ i. list_any (bytes_eq (sym b i)) (sym names i)) ∙ none in
    record {
      parts_are = now ∙ sym (ap (λ t. if t then old else old ++ no_series s ∷ []) no);
      at_is = ap (λ l. slice_get (map part_identity l) at) now ∙ ap (λ l. slice_get l at) (map-append part_identity old (no_series s ∷ []))
          ∙ ap (slice_get (map part_identity old ++ scope_bytes s ∷ [])) (count ∙ ap length names) ∙ last_got (map part_identity old) (scope_bytes s);
    }

-- parts of which one was replaced by another of its scope
pub bytes_set : (parts : List OfScope) (at : ℕ) (q d : OfScope) → q.scope ≡ (get_or parts at d).scope → map part_identity (set parts at q) ≡ map part_identity parts
bytes_set parts at q d e = map-set_same part_identity parts at q d (ap scope_bytes e)
