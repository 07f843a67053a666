-- Lines in blocks of distinct families: the families of a page, and what each of its lines says.
use Rattle.std.proofs.Common.{◌≡◌, ℕ, false, not, cond, List, [], ◌∷◌, ◌++◌, map, filter, filter_map, Option, None, refl, sym, ap, ◌∙◌, append_assoc}
use Rattle.std.proofs.lemmas.List.{append-nil}
use Rattle.std.proofs.lemmas.List.Elements.{filter_map-append}
use Rattle.std.specs.List.{flat_map, cons_option}
use Rattle.std.specs.Str.{bytes_eq}
use Rattle.std.specs.Cmp.Lexicographic.{bytes_decides}
use Rattle.label_sets.specs.Lists.{first_of_each}
use Rattle.page_model.specs.declared.item.Item.{Item}
use Rattle.page_model.specs.Owners.{Owned, is_of}
use Rattle.writing_laws.proofs.Among as by_key
use Rattle.writing_laws.proofs.Blocks.{own, own_name}
use Rattle.writing_laws.proofs.Turned.{filter-twice}

-- a family's name and its lines, of which there is one at least
pub record Lines : Type 0 where
  pub name : List ℕ
  pub first : Item
  pub others : List Item

-- the lines of a family as the family owns them
abbrev pub owned_of : Lines → List Owned
owned_of b = own b.name (b.first ∷ b.others)

-- the lines of families one behind the other
abbrev pub lines_in : List Lines → List Owned
lines_in bs = flat_map owned_of bs

-- none of the families has this name
abbrev pub Apart : List ℕ → List Lines → Type 0
Apart name bs = by_key.Apart bytes_eq bytes_decides (λ (b : Lines). b.name) name bs

-- no two families have one name
abbrev pub Distinct : List Lines → Type 0
Distinct bs = by_key.Distinct bytes_eq bytes_decides (λ (b : Lines). b.name) bs

-- the block that stands among others
abbrev pub IsAmong : Lines → List Lines → Type 0
IsAmong b bs = by_key.IsAmong bytes_eq bytes_decides (λ (b : Lines). b.name) b bs

-- ---- names

-- the names of lines
abbrev names_of : List Owned → List (List ℕ)
names_of os = map (λ (o : Owned). o.family) os

-- the names of one family's lines are one name, whatever follows
one_name : (name : List ℕ) (first : Item) (others : List Item) (rest : List (List ℕ)) → first_of_each bytes_eq (names_of (own name (first ∷ others)) ++ rest) ≡ name ∷ filter (λ n. not (bytes_eq name n)) (first_of_each bytes_eq rest)
one_name name first [] rest = refl
one_name name first (item ∷ others) rest = ap (λ ns. name ∷ filter (λ n. not (bytes_eq name n)) ns) (one_name name item others rest)
    ∙ ap (λ ns. name ∷ ns) (rw (own_name name) (filter-twice (λ n. not (bytes_eq name n)) (first_of_each bytes_eq rest)))

names_append : (os ps : List Owned) → names_of (os ++ ps) ≡ names_of os ++ names_of ps
names_append [] ps = refl
names_append (o ∷ os) ps = ap (λ ns. o.family ∷ ns) (names_append os ps)

-- the families of the lines are those of the blocks
pub names_back : (bs : List Lines) → Distinct bs → first_of_each bytes_eq (names_of (lines_in bs)) ≡ map (λ (b : Lines). b.name) bs
names_back [] d = refl
names_back (b ∷ bs) d =
    ap (first_of_each bytes_eq) (names_append (owned_of b) (lines_in bs)) ∙ one_name b.name b.first b.others (names_of (lines_in bs))
    ∙ ap (λ ns. b.name ∷ filter (λ n. not (bytes_eq b.name n)) ns) (names_back bs d.1) ∙ ap (λ ns. b.name ∷ ns) (by_key.apart_kept bytes_eq bytes_decides (λ (b : Lines). b.name) b.name bs d.0)

-- ---- what the lines of one family say

-- what a line says, where it is one of the family
abbrev pub said_by : {B : Type 0} → List ℕ → (Item → Option B) → Owned → Option B
said_by name h o = cond (is_of name o) (h o.item) None

own_said : {B : Type 0} (name : List ℕ) (h : Item → Option B) (is : List Item) → filter_map (said_by name h) (own name is) ≡ filter_map h is
own_said name h [] = refl
own_said name h (i ∷ is) = rw (own_name name) (ap (cons_option (h i)) (own_said name h is))

other_said : {B : Type 0} (name other : List ℕ) (h : Item → Option B) (is : List Item) → bytes_eq other name ≡ false → filter_map (said_by name h) (own other is) ≡ []
other_said name other h [] e = refl
other_said name other h (i ∷ is) e = rw e (other_said name other h is e)

none_said : {B : Type 0} (name : List ℕ) (h : Item → Option B) (bs : List Lines) → Apart name bs → filter_map (said_by name h) (lines_in bs) ≡ []
none_said name h [] a = refl
none_said name h (b ∷ bs) a = filter_map-append (said_by name h) (owned_of b) (lines_in bs)
    ∙ ap (λ zs. zs ++ filter_map (said_by name h) (lines_in bs)) (other_said name b.name h (b.first ∷ b.others) (by_key.turned bytes_eq bytes_decides name b.name a.0)) ∙ none_said name h bs a.1

lines_append : (bs cs : List Lines) → lines_in (bs ++ cs) ≡ lines_in bs ++ lines_in cs
lines_append [] cs = refl
lines_append (b ∷ bs) cs = ap (λ os. owned_of b ++ os) (lines_append bs cs) ∙ sym (append_assoc (owned_of b) (lines_in bs) (lines_in cs))

-- all that the lines of a page say of one family is what its own lines say
pub said_back : {B : Type 0} (h : Item → Option B) (b : Lines) (bs : List Lines) → IsAmong b bs → filter_map (said_by b.name h) (lines_in bs) ≡ filter_map h (b.first ∷ b.others)
said_back h b bs among =
    ap (λ cs. filter_map (said_by b.name h) (lines_in cs)) among.is ∙ ap (filter_map (said_by b.name h)) (lines_append among.before (b ∷ among.behind))
    ∙ filter_map-append (said_by b.name h) (lines_in among.before) (lines_in (b ∷ among.behind))
    ∙ ap (λ zs. zs ++ filter_map (said_by b.name h) (lines_in (b ∷ among.behind))) (none_said b.name h among.before among.first)
    ∙ filter_map-append (said_by b.name h) (owned_of b) (lines_in among.behind)
    ∙ ap (λ zs. zs ++ filter_map (said_by b.name h) (lines_in among.behind)) (own_said b.name h (b.first ∷ b.others))
    ∙ ap (λ zs. filter_map h (b.first ∷ b.others) ++ zs) (none_said b.name h among.behind among.last) ∙ append-nil (filter_map h (b.first ∷ b.others))
