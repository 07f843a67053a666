-- What is read is what the line spells.
use Rattle.std.proofs.Common.{◌≡◌, ℕ, zero, suc, true, List, [], ◌∷◌, ◌++◌, length, Option, Some, None, refl, ap, subst, ◌∙◌, append_assoc, codes, inl, inr}
use Rattle.std.specs.Prelude.{take_while, ◌==◌}
use Rattle.std.specs.Option.{option_or}
use Rattle.std.specs.List.{list_all}
use Rattle.std.specs.Str.{bytes_eq}
use Rattle.std.specs.Cmp.Lexicographic.{bytes_decides}
use Rattle.std.proofs.lemmas.List.{append-nil}
use Rattle.std.proofs.lemmas.Option.{none-some, same_Some}
use Rattle.label_sets.specs.declared.kind.Kind.{Kind}
use Rattle.label_sets.specs.declared.label.Label.{Label}
use Rattle.label_sets.specs.Lists.{◌>>=◌, when_true, rest_while, behind}
use Rattle.label_sets.specs.Names.{is_metric_name, is_metric_char, is_label_name, is_label_char}
use Rattle.label_sets.specs.Escapes.{quote_escape, unescaped, quoted_at}
use Rattle.page_model.proofs.Fronts.{bind_some, when_some, while_parts, behind_parts, quoted_parts, chosen, either_some, first_gives}
use Rattle.exact_decimal.specs.Tokens.{is_number_token, is_real}
use Rattle.page_model.specs.Written.{Written, WrittenExemplar, eof, help, type_line, unit_line, sample}
use Rattle.page_model.specs.OpenItems.{kind_word, SpellsOpen, SpellsOpenLabel, SpellsMoreLabels, SpellsOpenList, SpellsOptionalList, SpellsOpenStamp, SpellsExemplar}
use Rattle.page_model.specs.OpenReading.{label_at, more_labels_at, list_at, optional_list_at, value_at, is_not_space, stamp_at, exemplar_of, sample_of, kinds, kind_named, named_at, descriptor_of, open_line_of}

label_whole : (cs name rest value quoted tail : List ℕ) → cs ≡ name ++ rest → rest ≡ codes "=\"" ++ value → value ≡ quoted ++ 34 ∷ tail
    → cs ≡ (name ++ codes "=\"" ++ quoted ++ codes "\"") ++ tail
label_whole cs name rest value quoted tail a b c = rw (a, b, c) (simp append_assoc refl)

label_front : (cs : List ℕ) (x : Label × List ℕ) → label_at cs ≡ Some x → (front : List ℕ) × SpellsOpenLabel front x.0 × (cs ≡ front ++ x.1)
unfolding label_at
label_front cs x e =
    let name = take_while is_label_char cs in
    let made : List ℕ × List ℕ → Option (Label × List ℕ) = λ quoted. Some (record { name = name; value = unescaped quote_escape quoted.0 }, quoted.1) in
    let a = bind_some (when_true (is_label_name name) name) (λ _. behind (codes "=\"") (rest_while is_label_char cs) >>= λ value. quoted_at value >>= made) x e in
    let b = bind_some (behind (codes "=\"") (rest_while is_label_char cs)) (λ value. quoted_at value >>= made) x a.2 in
    let c = bind_some (quoted_at b.0) made x b.2 in
    let named = when_some (is_label_name name) name a.0 a.1 in
    let at_value = behind_parts (codes "=\"") (rest_while is_label_char cs) b.0 b.1 in
    let q = quoted_parts b.0 c.0 c.1 in
    subst (λ (y : Label × List ℕ). (front : List ℕ) × SpellsOpenLabel front y.0 × (cs ≡ front ++ y.1)) (same_Some (record { name = name; value = unescaped quote_escape c.0.0 }, c.0.1) x c.2)
    (name ++ codes "=\"" ++ c.0.0 ++ codes "\"", (c.0.0, named.0, q.0, refl, refl), label_whole cs name (rest_while is_label_char cs) b.0 c.0.0 c.0.1 (while_parts is_label_char cs) at_value q.1)

comma_whole : (cs ds front mid text tail : List ℕ) → cs ≡ 44 ∷ ds → ds ≡ front ++ mid → mid ≡ text ++ 125 ∷ tail → cs ≡ (44 ∷ front ++ text) ++ 125 ∷ tail
comma_whole cs ds front mid text tail a b c = rw (a, b, c) (simp append_assoc refl)

-- labels behind the first, up to the closing brace
more_front : (n : ℕ) (cs : List ℕ) (x : List Label × List ℕ) → more_labels_at n cs ≡ Some x → (text : List ℕ) × SpellsMoreLabels text x.0 × (cs ≡ text ++ 125 ∷ x.1)
unfolding label_at more_labels_at
more_front zero cs x e = absurd (none-some x e)
more_front (suc n) cs x e = go (λ ds y f. more_front n ds y f)
  where
    Front : List ℕ → List Label × List ℕ → Type 0
    Front ds y = (text : List ℕ) × SpellsMoreLabels text y.0 × (ds ≡ text ++ 125 ∷ y.1)

    go : ((ds : List ℕ) (y : List Label × List ℕ) → more_labels_at n ds ≡ Some y → Front ds y) → Front cs x
    go ih =
        let closed : List ℕ → Option (List Label × List ℕ) = λ rest. Some ([], rest) in
        let further : Label × List ℕ → Option (List Label × List ℕ) = λ l. more_labels_at n l.1 >>= λ y. Some (l.0 ∷ y.0, y.1) in
        elim (either_some (behind (codes "}") cs >>= closed) (behind (codes ",") cs >>= label_at >>= further) x e) [
          | inl h ↦
              let a = bind_some (behind (codes "}") cs) closed x h in
              subst (Front cs) (same_Some ([], a.0) x a.2) ([], refl, behind_parts (codes "}") cs a.0 a.1)
          | inr h ↦
              let a = bind_some (behind (codes ",") cs >>= label_at) further x h in
              let b = bind_some (behind (codes ",") cs) label_at a.0 a.1 in
              let c = bind_some (more_labels_at n a.0.1) (λ y. Some (a.0.0 ∷ y.0, y.1)) x a.2 in
              let comma = behind_parts (codes ",") cs b.0 b.1 in
              let l = label_front b.0 a.0 b.2 in
              let rest = ih a.0.1 c.0 c.1 in
              subst (Front cs) (same_Some (a.0.0 ∷ c.0.0, c.0.1) x c.2)
              (44 ∷ l.0 ++ rest.0, (l.0, rest.0, l.1, rest.1, refl), comma_whole cs b.0 l.0 a.0.1 rest.0 c.0.1 comma l.2 rest.2)
        ]

brace_whole : (cs ds inner tail : List ℕ) → cs ≡ 123 ∷ ds → ds ≡ inner ++ 125 ∷ tail → cs ≡ (codes "{" ++ inner ++ codes "}") ++ tail
brace_whole cs ds inner tail a b = rw (a, b) (simp append_assoc refl)

front_whole : (cs front mid text tail : List ℕ) → cs ≡ front ++ mid → mid ≡ text ++ 125 ∷ tail → cs ≡ (front ++ text) ++ 125 ∷ tail
front_whole cs front mid text tail a b = rw (a, b) (simp append_assoc refl)

abbrev ListFront : List ℕ → List Label × List ℕ → Type 0
ListFront cs y = (text : List ℕ) × SpellsOpenList text y.0 × (cs ≡ text ++ y.1)

list_front : (cs : List ℕ) (x : List Label × List ℕ) → list_at cs ≡ Some x → ListFront cs x
unfolding label_at more_labels_at list_at
list_front cs x e =
    let closed : List ℕ → Option (List Label × List ℕ) = λ rest. Some ([], rest) in
    let further : List ℕ → Label × List ℕ → Option (List Label × List ℕ) = λ inner l. more_labels_at (length inner) l.1 >>= λ y. Some (l.0 ∷ y.0, y.1) in
    let a = bind_some (behind (codes "{") cs) (λ inner. option_or (behind (codes "}") inner >>= closed) (label_at inner >>= further inner)) x e in
    let opened = behind_parts (codes "{") cs a.0 a.1 in
    elim (either_some (behind (codes "}") a.0 >>= closed) (label_at a.0 >>= further a.0) x a.2) [
      | inl h ↦
          let b = bind_some (behind (codes "}") a.0) closed x h in
          subst (λ (y : List Label × List ℕ). (text : List ℕ) × SpellsOpenList text y.0 × (cs ≡ text ++ y.1)) (same_Some ([], b.0) x b.2)
          (codes "{" ++ [] ++ codes "}", ([], refl, refl), brace_whole cs a.0 [] b.0 opened (behind_parts (codes "}") a.0 b.0 b.1))
      | inr h ↦
          let b = bind_some (label_at a.0) (further a.0) x h in
          let c = bind_some (more_labels_at (length a.0) b.0.1) (λ y. Some (b.0.0 ∷ y.0, y.1)) x b.2 in
          let l = label_front a.0 b.0 b.1 in
          let m = more_front (length a.0) b.0.1 c.0 c.1 in
          subst (λ (y : List Label × List ℕ). (text : List ℕ) × SpellsOpenList text y.0 × (cs ≡ text ++ y.1)) (same_Some (b.0.0 ∷ c.0.0, c.0.1) x c.2)
          (codes "{" ++ (l.0 ++ m.0) ++ codes "}", (l.0 ++ m.0, (l.0, m.0, l.1, m.1, refl), refl), brace_whole cs a.0 (l.0 ++ m.0) c.0.1 opened (front_whole a.0 l.0 b.0.1 m.0 c.0.1 l.2 m.2))
    ]

pub optional_front : (cs : List ℕ) (x : List Label × List ℕ) → optional_list_at cs ≡ Some x → (text : List ℕ) × SpellsOptionalList text x.0 × (cs ≡ text ++ x.1)
unfolding list_at optional_list_at
optional_front [] x e = subst (λ (y : List Label × List ℕ). (text : List ℕ) × SpellsOptionalList text y.0 × ([] ≡ text ++ y.1)) (same_Some ([], []) x e) ([], inl (refl, refl), refl)
optional_front (c ∷ cs) x e = elim (chosen (c == 123) (list_at (c ∷ cs)) (Some ([], c ∷ cs)) (Some x) e) [
  | inl h ↦ from_list (list_front (c ∷ cs) x h.1)
  | inr h ↦ subst (λ (y : List Label × List ℕ). (text : List ℕ) × SpellsOptionalList text y.0 × (c ∷ cs ≡ text ++ y.1)) (same_Some ([], c ∷ cs) x h.1) ([], inl (refl, refl), refl)
]
  where
    from_list : ListFront (c ∷ cs) x → (text : List ℕ) × SpellsOptionalList text x.0 × (c ∷ cs ≡ text ++ x.1)
    from_list l = (l.0, inr l.1, l.2)

-- a space and a token up to the next space
token_whole : (cs ds token tail : List ℕ) → cs ≡ 32 ∷ ds → ds ≡ token ++ tail → cs ≡ (32 ∷ token) ++ tail
token_whole cs ds token tail a b = rw (a, b) refl

value_front : (cs : List ℕ) (x : List ℕ × List ℕ) → value_at cs ≡ Some x → (is_number_token x.0 ≡ true) × (cs ≡ (32 ∷ x.0) ++ x.1)
unfolding value_at
value_front cs x e =
    let read : List ℕ → Option (List ℕ × List ℕ) = λ text. when_true (is_number_token (take_while is_not_space text)) (take_while is_not_space text, rest_while is_not_space text) in
    let a = bind_some (behind (codes " ") cs) read x e in
    let b = when_some (is_number_token (take_while is_not_space a.0)) (take_while is_not_space a.0, rest_while is_not_space a.0) x a.2 in
    subst (λ (y : List ℕ × List ℕ). (is_number_token y.0 ≡ true) × (cs ≡ (32 ∷ y.0) ++ y.1)) b.1
    (b.0, token_whole cs a.0 (take_while is_not_space a.0) (rest_while is_not_space a.0) (behind_parts (codes " ") cs a.0 a.1) (while_parts is_not_space a.0))

stamp_front : (cs : List ℕ) (x : Option (List ℕ) × List ℕ) → stamp_at cs ≡ Some x → (text : List ℕ) × SpellsOpenStamp text x.0 × (cs ≡ text ++ x.1)
unfolding stamp_at
stamp_front [] x e = subst (λ (y : Option (List ℕ) × List ℕ). (text : List ℕ) × SpellsOpenStamp text y.0 × ([] ≡ text ++ y.1)) (same_Some (None, []) x e) ([], refl, refl)
stamp_front (c ∷ cs) x e =
    let read : List ℕ → Option (Option (List ℕ) × List ℕ) = λ text. when_true (is_real (take_while is_not_space text)) (Some (take_while is_not_space text), rest_while is_not_space text) in
    elim (either_some (behind (codes " # ") (c ∷ cs) >>= λ rest. Some (None, c ∷ cs)) (behind (codes " ") (c ∷ cs) >>= read) x e) [
      | inl h ↦
          let a = bind_some (behind (codes " # ") (c ∷ cs)) (λ rest. Some (None, c ∷ cs)) x h in
          subst (λ (y : Option (List ℕ) × List ℕ). (text : List ℕ) × SpellsOpenStamp text y.0 × (c ∷ cs ≡ text ++ y.1)) (same_Some (None, c ∷ cs) x a.2) ([], refl, refl)
      | inr h ↦
          let a = bind_some (behind (codes " ") (c ∷ cs)) read x h in
          let b = when_some (is_real (take_while is_not_space a.0)) (Some (take_while is_not_space a.0), rest_while is_not_space a.0) x a.2 in
          subst (λ (y : Option (List ℕ) × List ℕ). (text : List ℕ) × SpellsOpenStamp text y.0 × (c ∷ cs ≡ text ++ y.1)) b.1
          (32 ∷ take_while is_not_space a.0, (b.0, refl), token_whole (c ∷ cs) a.0 (take_while is_not_space a.0) (rest_while is_not_space a.0) (behind_parts (codes " ") (c ∷ cs) a.0 a.1) (while_parts is_not_space a.0))
    ]

exemplar_whole : (cs ds labels mid value rest stamp tail : List ℕ) → cs ≡ codes " # " ++ ds → ds ≡ labels ++ mid → mid ≡ (32 ∷ value) ++ rest → rest ≡ stamp ++ tail → tail ≡ []
    → cs ≡ codes " # " ++ labels ++ codes " " ++ value ++ stamp
exemplar_whole cs ds labels mid value rest stamp tail a b c d f = rw (a, b, c, d, f) (simp (append_assoc, append-nil) refl)

exemplar_front : (cs : List ℕ) (x : Option WrittenExemplar) → exemplar_of cs ≡ Some x → SpellsExemplar cs x
unfolding list_at value_at stamp_at exemplar_of
exemplar_front [] x e = subst (λ (y : Option WrittenExemplar). SpellsExemplar [] y) (same_Some None x e) refl
exemplar_front (c ∷ cs) x e =
    let made : List Label → List ℕ → Option (List ℕ) × List ℕ → Option (Option WrittenExemplar) =
    λ labels value stamp. when_true (bytes_eq stamp.1 []) (Some (record { labels = labels; value = value; stamp = stamp.0 })) in
    let with_value : List Label → List ℕ × List ℕ → Option (Option WrittenExemplar) = λ labels value. stamp_at value.1 >>= made labels value.0 in
    let with_labels : List Label × List ℕ → Option (Option WrittenExemplar) = λ labels. value_at labels.1 >>= with_value labels.0 in
    let a = bind_some (behind (codes " # ") (c ∷ cs)) (λ body. list_at body >>= with_labels) x e in
    let b = bind_some (list_at a.0) with_labels x a.2 in
    let d = bind_some (value_at b.0.1) (with_value b.0.0) x b.2 in
    let f = bind_some (stamp_at d.0.1) (made b.0.0 d.0.0) x d.2 in
    let g = when_some (bytes_eq f.0.1 []) (Some (record { labels = b.0.0; value = d.0.0; stamp = f.0.0 })) x f.2 in
    let l = list_front a.0 b.0 b.1 in
    let v = value_front b.0.1 d.0 d.1 in
    let s = stamp_front d.0.1 f.0 f.1 in
    subst (λ (y : Option WrittenExemplar). SpellsExemplar (c ∷ cs) y) g.1
    (l.0, s.0, l.1, v.0, s.1, exemplar_whole (c ∷ cs) a.0 l.0 b.0.1 d.0.0 d.0.1 s.0 f.0.1 (behind_parts (codes " # ") (c ∷ cs) a.0 a.1) l.2 v.1 s.2 ((bytes_decides f.0.1 []).0 g.0))

sample_whole : (cs name rest labels mid value last stamp tail : List ℕ) → cs ≡ name ++ rest → rest ≡ labels ++ mid → mid ≡ (32 ∷ value) ++ last → last ≡ stamp ++ tail
    → cs ≡ name ++ labels ++ codes " " ++ value ++ stamp ++ tail
sample_whole cs name rest labels mid value last stamp tail a b c d = rw (a, b, c, d) (simp append_assoc refl)

sample_sound : (cs : List ℕ) (x : Written) → sample_of cs ≡ Some x → SpellsOpen cs x
unfolding optional_list_at value_at stamp_at exemplar_of sample_of
sample_sound cs x e =
    let name = take_while is_metric_char cs in
    let made : List Label → List ℕ → Option (List ℕ) → Option WrittenExemplar → Option Written =
    λ labels value stamp exemplar. Some (sample (record { name = name; labels = labels; value = value; stamp = stamp; exemplar = exemplar })) in
    let with_stamp : List Label → List ℕ → Option (List ℕ) × List ℕ → Option Written = λ labels value stamp. exemplar_of stamp.1 >>= made labels value stamp.0 in
    let with_value : List Label → List ℕ × List ℕ → Option Written = λ labels value. stamp_at value.1 >>= with_stamp labels value.0 in
    let with_labels : List Label × List ℕ → Option Written = λ labels. value_at labels.1 >>= with_value labels.0 in
    let a = bind_some (when_true (is_metric_name name) name) (λ _. optional_list_at (rest_while is_metric_char cs) >>= with_labels) x e in
    let b = bind_some (optional_list_at (rest_while is_metric_char cs)) with_labels x a.2 in
    let d = bind_some (value_at b.0.1) (with_value b.0.0) x b.2 in
    let f = bind_some (stamp_at d.0.1) (with_stamp b.0.0 d.0.0) x d.2 in
    let g = bind_some (exemplar_of f.0.1) (made b.0.0 d.0.0 f.0.0) x f.2 in
    let named = when_some (is_metric_name name) name a.0 a.1 in
    let l = optional_front (rest_while is_metric_char cs) b.0 b.1 in
    let v = value_front b.0.1 d.0 d.1 in
    let s = stamp_front d.0.1 f.0 f.1 in
    subst (λ (y : Written). SpellsOpen cs y) (same_Some (sample (record { name = name; labels = b.0.0; value = d.0.0; stamp = f.0.0; exemplar = g.0 })) x g.2) (
      l.0,
      s.0,
      f.0.1,
      named.0,
      l.1,
      v.0,
      s.1,
      exemplar_front f.0.1 g.0 g.1,
      sample_whole cs name (rest_while is_metric_char cs) l.0 b.0.1 d.0.0 d.0.1 s.0 f.0.1 (while_parts is_metric_char cs) l.2 v.1 s.2,
    )

kind_sound : (word : List ℕ) (kind : Kind) → kind_named word ≡ Some kind → word ≡ kind_word kind
unfolding kind_named
kind_sound word kind e =
    let found = first_gives (λ k. when_true (bytes_eq word (kind_word k)) k) kinds kind e in
    let both = when_some (bytes_eq word (kind_word found.0)) found.0 kind found.1 in
    subst (λ (k : Kind). word ≡ kind_word k) both.1 ((bytes_decides word (kind_word found.0)).0 both.0)

-- a metric name, a space and the rest
named_front : (cs : List ℕ) (x : List ℕ × List ℕ) → named_at cs ≡ Some x → (is_metric_name x.0 ≡ true) × (cs ≡ x.0 ++ codes " " ++ x.1)
unfolding named_at
named_front cs x e =
    let name = take_while is_metric_char cs in
    let made : List ℕ → Option (List ℕ × List ℕ) = λ rest. Some (name, rest) in
    let a = bind_some (when_true (is_metric_name name) name) (λ _. behind (codes " ") (rest_while is_metric_char cs) >>= made) x e in
    let b = bind_some (behind (codes " ") (rest_while is_metric_char cs)) made x a.2 in
    let named = when_some (is_metric_name name) name a.0 a.1 in
    subst (λ (y : List ℕ × List ℕ). (is_metric_name y.0 ≡ true) × (cs ≡ y.0 ++ codes " " ++ y.1)) (same_Some (name, b.0) x b.2)
    (named.0, named_whole cs name (rest_while is_metric_char cs) b.0 (while_parts is_metric_char cs) (behind_parts (codes " ") (rest_while is_metric_char cs) b.0 b.1))
  where
    named_whole : (cs name rest tail : List ℕ) → cs ≡ name ++ rest → rest ≡ 32 ∷ tail → cs ≡ name ++ codes " " ++ tail
    named_whole cs name rest tail a b = rw (a, b) (simp append_assoc refl)

descriptor_whole : (front cs ds name rest : List ℕ) → cs ≡ front ++ ds → ds ≡ name ++ codes " " ++ rest → cs ≡ front ++ name ++ codes " " ++ rest
descriptor_whole front cs ds name rest a b = rw (a, b) (simp append_assoc refl)

descriptor_sound : (cs : List ℕ) (x : Written) → descriptor_of cs ≡ Some x → SpellsOpen cs x
unfolding kind_named named_at descriptor_of
descriptor_sound cs x e =
    let typed : List ℕ × List ℕ → Option Written = λ n. kind_named n.1 >>= λ kind. Some (type_line n.0 kind) in
    let helped : List ℕ × List ℕ → Option Written = λ n. Some (help n.0 (unescaped quote_escape n.1)) in
    let united : List ℕ × List ℕ → Option Written = λ n. when_true (list_all is_metric_char n.1) (unit_line n.0 n.1) in
    let type_read = behind (codes "# TYPE ") cs >>= named_at >>= typed in
    let help_read = behind (codes "# HELP ") cs >>= named_at >>= helped in
    let unit_read = behind (codes "# UNIT ") cs >>= named_at >>= united in
    let end_read = when_true (bytes_eq cs (codes "# EOF")) eof in
    elim (either_some type_read (option_or help_read (option_or unit_read end_read)) x e) [
      | inl h ↦
          let a = bind_some (behind (codes "# TYPE ") cs >>= named_at) typed x h in
          let b = bind_some (behind (codes "# TYPE ") cs) named_at a.0 a.1 in
          let c = bind_some (kind_named a.0.1) (λ kind. Some (type_line a.0.0 kind)) x a.2 in
          let n = named_front b.0 a.0 b.2 in
          let word = kind_sound a.0.1 c.0 c.1 in
          let whole = descriptor_whole (codes "# TYPE ") cs b.0 a.0.0 a.0.1 (behind_parts (codes "# TYPE ") cs b.0 b.1) n.1 in
          subst (λ (y : Written). SpellsOpen cs y) (same_Some (type_line a.0.0 c.0) x c.2)
          (n.0, whole ∙ ap (λ (w : List ℕ). codes "# TYPE " ++ a.0.0 ++ codes " " ++ w) word)
      | inr h ↦ elim (either_some help_read (option_or unit_read end_read) x h) [
        | inl k ↦
            let a = bind_some (behind (codes "# HELP ") cs >>= named_at) helped x k in
            let b = bind_some (behind (codes "# HELP ") cs) named_at a.0 a.1 in
            let n = named_front b.0 a.0 b.2 in
            subst (λ (y : Written). SpellsOpen cs y) (same_Some (help a.0.0 (unescaped quote_escape a.0.1)) x a.2)
            (a.0.1, n.0, refl, descriptor_whole (codes "# HELP ") cs b.0 a.0.0 a.0.1 (behind_parts (codes "# HELP ") cs b.0 b.1) n.1)
        | inr k ↦ elim (either_some unit_read end_read x k) [
          | inl m ↦
              let a = bind_some (behind (codes "# UNIT ") cs >>= named_at) united x m in
              let b = bind_some (behind (codes "# UNIT ") cs) named_at a.0 a.1 in
              let u = when_some (list_all is_metric_char a.0.1) (unit_line a.0.0 a.0.1) x a.2 in
              let n = named_front b.0 a.0 b.2 in
              subst (λ (y : Written). SpellsOpen cs y) u.1
              (n.0, u.0, descriptor_whole (codes "# UNIT ") cs b.0 a.0.0 a.0.1 (behind_parts (codes "# UNIT ") cs b.0 b.1) n.1)
          | inr m ↦
              let u = when_some (bytes_eq cs (codes "# EOF")) eof x m in
              subst (λ (y : Written). SpellsOpen cs y) u.1 ((bytes_decides cs (codes "# EOF")).0 u.0)
        ]
      ]
    ]

-- what the reader of one line gives is what the line spells
pub open_line_sound : (line : List ℕ) (w : Written) → open_line_of line ≡ Some w → SpellsOpen line w
unfolding sample_of descriptor_of open_line_of
open_line_sound [] w e = absurd (none-some w e)
open_line_sound (c ∷ cs) w e = elim (chosen (c == 35) (descriptor_of (c ∷ cs)) (sample_of (c ∷ cs)) (Some w) e) [
  | inl h ↦ descriptor_sound (c ∷ cs) w h.1
  | inr h ↦ sample_sound (c ∷ cs) w h.1
]
