-- What is read is what the line spells.
use Rattle.std.proofs.Common.{◌≡◌, ◌≢◌, ℕ, zero, suc, Bool, true, false, cond, not, ◌&&◌, List, [], ◌∷◌, ◌++◌, length, Option, Some, None, refl, sym, ap, subst, ◌∙◌, append_assoc, codes, inl, inr}
use Rattle.std.specs.Prelude.{take_while, ◌==◌}
use Rattle.std.specs.Option.{option_or}
use Rattle.std.specs.Str.{bytes_eq}
use Rattle.std.specs.Cmp.Lexicographic.{bytes_decides}
use Rattle.std.proofs.Math.Numerals.{one-add}
use Rattle.std.proofs.lemmas.List.{append-nil}
use Rattle.std.proofs.lemmas.Bool.{eqb-true, and_parts}
use Rattle.std.proofs.lemmas.Option.{none-some, same_Some}
use Rattle.label_sets.specs.declared.kind.Kind.{Kind}
use Rattle.label_sets.specs.declared.kind.Kind.TheVariants.{Counter, Gauge, Histogram, Summary, Unknown}
use Rattle.label_sets.specs.declared.label.Label.{Label}
use Rattle.label_sets.specs.Lists.{◌>>=◌, when_true, rest_while, behind, some_passes}
use Rattle.label_sets.specs.Names.{is_metric_name, is_metric_char, is_label_name, is_label_char, is_blank}
use Rattle.label_sets.specs.Escapes.{help_escape, quote_escape, unescaped, quoted_at}
use Rattle.page_model.proofs.Fronts.{Stops, rest_stops, bind_some, when_some, while_parts, while_passes, behind_parts, quoted_parts, chosen, either_some, first_gives}
use Rattle.exact_decimal.specs.Tokens.{is_number_token}
use Rattle.page_model.specs.Written.{Written, blank, comment, help, type_line, sample}
use Rattle.page_model.specs.TextItems.{is_integer_token, without_leading_blanks, trimmed, IsGap, is_not_blank, SpellsHelpText, text_kind_word, SpellsLabel, SpellsLabels, SpellsMiddle, SpellsStamp, SpellsTrimmed, SpellsText}
use Rattle.page_model.specs.TextReading.{begins_blank, at_blank, label_at, labels_at, middle_from, middle_at, stamp_of, sample_of, kind_named, named_at, marked_of, trimmed_of, text_line_of}

-- ---- labels

label_whole : (cs b0 base name rest value opened quoted tail b1 b2 b3 after : List ℕ) → cs ≡ b0 ++ base → base ≡ name ++ rest → rest ≡ b1 ++ 61 ∷ value → value ≡ b2 ++ 34 ∷ opened → opened ≡ quoted ++ 34 ∷ tail → tail ≡ b3 ++ after
    → cs ≡ (b0 ++ name ++ b1 ++ codes "=" ++ b2 ++ codes "\"" ++ quoted ++ codes "\"" ++ b3) ++ after
label_whole cs b0 base name rest value opened quoted tail b1 b2 b3 after a0 a b c d f = rw (a0, a, b, c, d, f) (simp append_assoc refl)

-- blanks, a character and the rest
behind_blanks : (front cs rest : List ℕ) → behind front (without_leading_blanks cs) ≡ Some rest → cs ≡ take_while is_blank cs ++ (front ++ rest)
behind_blanks front cs rest e = while_parts is_blank cs ∙ ap (λ (x : List ℕ). take_while is_blank cs ++ x) (behind_parts front (without_leading_blanks cs) rest e)

label_front : (cs : List ℕ) (x : Label × List ℕ) → label_at (without_leading_blanks cs) ≡ Some x → (front : List ℕ) × SpellsLabel front x.0 × (cs ≡ front ++ x.1)
unfolding label_at
label_front cs x e =
    let base = without_leading_blanks cs in
    let name = take_while is_label_char base in
    let rest = rest_while is_label_char base in
    let made : List ℕ × List ℕ → Option (Label × List ℕ) = λ quoted. Some (record { name = name; value = unescaped quote_escape quoted.0 }, without_leading_blanks quoted.1) in
    let opened : List ℕ → Option (Label × List ℕ) = λ open_quote. quoted_at open_quote >>= made in
    let valued : List ℕ → Option (Label × List ℕ) = λ value. behind (codes "\"") (without_leading_blanks value) >>= opened in
    let a = bind_some (when_true (is_label_name name) name) (λ _. behind (codes "=") (without_leading_blanks rest) >>= valued) x e in
    let b = bind_some (behind (codes "=") (without_leading_blanks rest)) valued x a.2 in
    let c = bind_some (behind (codes "\"") (without_leading_blanks b.0)) opened x b.2 in
    let d = bind_some (quoted_at c.0) made x c.2 in
    let named = when_some (is_label_name name) name a.0 a.1 in
    let q = quoted_parts c.0 d.0 d.1 in
    let b0 = take_while is_blank cs in
    let b1 = take_while is_blank rest in
    let b2 = take_while is_blank b.0 in
    let b3 = take_while is_blank d.0.1 in
    subst (λ (y : Label × List ℕ). (front : List ℕ) × SpellsLabel front y.0 × (cs ≡ front ++ y.1)) (same_Some (record { name = name; value = unescaped quote_escape d.0.0 }, without_leading_blanks d.0.1) x d.2) (
      b0 ++ name ++ b1 ++ codes "=" ++ b2 ++ codes "\"" ++ d.0.0 ++ codes "\"" ++ b3,
      record {
        first = b0;
        second = b1;
        third = b2;
        quoted = d.0.0;
        last = b3;
        blanks = (while_passes is_blank cs, while_passes is_blank rest, while_passes is_blank b.0, while_passes is_blank d.0.1);
        label_name = named.0;
        quotable = q.0;
        value = refl;
        whole = refl;
      },
      label_whole cs b0 base name rest b.0 c.0 d.0.0 d.0.1 b1 b2 b3 (without_leading_blanks d.0.1) (while_parts is_blank cs) (while_parts is_label_char base)
          (behind_blanks (codes "=") rest b.0 b.1) (behind_blanks (codes "\"") b.0 c.0 c.1) q.1 (while_parts is_blank d.0.1),
    )

last_whole : (cs front mid tail : List ℕ) → cs ≡ front ++ mid → mid ≡ 125 ∷ tail → cs ≡ (front ++ []) ++ 125 ∷ tail
last_whole cs front mid tail a b = rw (a, b) (simp append-nil refl)

more_whole : (cs front mid more text tail : List ℕ) → cs ≡ front ++ mid → mid ≡ 44 ∷ more → more ≡ text ++ 125 ∷ tail → cs ≡ (front ++ 44 ∷ text) ++ 125 ∷ tail
more_whole cs front mid more text tail a b c = rw (a, b, c) (simp append_assoc refl)

abbrev LabelsFront : List ℕ → List Label × List ℕ → Type 0
LabelsFront cs y = (text : List ℕ) × SpellsLabels text y.0 × (cs ≡ text ++ 125 ∷ y.1)

labels_front : (n : ℕ) (cs : List ℕ) (x : List Label × List ℕ) → labels_at n cs ≡ Some x → LabelsFront cs x
unfolding label_at labels_at
labels_front zero cs x e = absurd (none-some x e)
labels_front (suc n) cs x e = go (λ ds y f. labels_front n ds y f)
  where
    go : ((ds : List ℕ) (y : List Label × List ℕ) → labels_at n ds ≡ Some y → LabelsFront ds y) → LabelsFront cs x
    go ih =
        let base = without_leading_blanks cs in
        let closed : List ℕ → Option (List Label × List ℕ) = λ rest. Some ([], rest) in
        let closed_behind : Label → List ℕ → Option (List Label × List ℕ) = λ l rest. Some (l ∷ [], rest) in
        let joined : Label → List Label × List ℕ → Option (List Label × List ℕ) = λ l y. Some (l ∷ y.0, y.1) in
        let further : Label × List ℕ → Option (List Label × List ℕ) = λ l. option_or (behind (codes "}") l.1 >>= closed_behind l.0) (behind (codes ",") l.1 >>= labels_at n >>= joined l.0) in
        elim (either_some (behind (codes "}") base >>= closed) (label_at base >>= further) x e) [
          | inl h ↦
              let a = bind_some (behind (codes "}") base) closed x h in
              subst (LabelsFront cs) (same_Some ([], a.0) x a.2) (take_while is_blank cs, while_passes is_blank cs, behind_blanks (codes "}") cs a.0 a.1)
          | inr h ↦
              let a = bind_some (label_at base) further x h in
              let l = label_front cs a.0 a.1 in
              elim (either_some (behind (codes "}") a.0.1 >>= closed_behind a.0.0) (behind (codes ",") a.0.1 >>= labels_at n >>= joined a.0.0) x a.2) [
                | inl k ↦
                    let b = bind_some (behind (codes "}") a.0.1) (closed_behind a.0.0) x k in
                    subst (LabelsFront cs) (same_Some (a.0.0 ∷ [], b.0) x b.2)
                    (l.0 ++ [], (l.0, [], refl, l.1, inl (refl, refl)), last_whole cs l.0 a.0.1 b.0 l.2 (behind_parts (codes "}") a.0.1 b.0 b.1))
                | inr k ↦
                    let b = bind_some (behind (codes ",") a.0.1 >>= labels_at n) (joined a.0.0) x k in
                    let c = bind_some (behind (codes ",") a.0.1) (labels_at n) b.0 b.1 in
                    let m = ih c.0 b.0 c.2 in
                    subst (LabelsFront cs) (same_Some (a.0.0 ∷ b.0.0, b.0.1) x b.2)
                    (l.0 ++ 44 ∷ m.0, (l.0, 44 ∷ m.0, refl, l.1, inr (m.0, refl, m.1)), more_whole cs l.0 a.0.1 c.0 m.0 b.0.1 l.2 (behind_parts (codes ",") a.0.1 c.0 c.1) m.2)
              ]
        ]

-- ---- the parts of a sample

begins_gap : (cs : List ℕ) → begins_blank cs ≡ true → take_while is_blank cs ≢ []
begins_gap [] h = absurd (let e : false ≡ true = h in cc)
begins_gap (c ∷ cs) h = rw (h, one-add) (λ e. cc)

stops_blank : (c : ℕ) → is_not_blank c ≡ false → is_blank c ≡ true
stops_blank c h = go (is_blank c) h
  where
    go : (b : Bool) → not b ≡ false → b ≡ true
    go true e = refl
    go false e = absurd cc

braces_whole : (cs b0 inner text tail b1 after : List ℕ) → cs ≡ b0 ++ 123 ∷ inner → inner ≡ text ++ 125 ∷ tail → tail ≡ b1 ++ after → cs ≡ (b0 ++ codes "{" ++ text ++ codes "}" ++ b1) ++ after
braces_whole cs b0 inner text tail b1 after a b c = rw (a, b, c) (simp append_assoc refl)

pub middle_front : (cs : List ℕ) (x : List Label × List ℕ) → middle_at cs ≡ Some x → (text : List ℕ) × SpellsMiddle text x.0 × (cs ≡ text ++ x.1)
unfolding labels_at middle_from middle_at
middle_front cs x e = go (behind (codes "{") (without_leading_blanks cs)) refl e
  where
    go : (o : Option (List ℕ)) → behind (codes "{") (without_leading_blanks cs) ≡ o → middle_from o (when_true (begins_blank cs) ([], without_leading_blanks cs)) ≡ Some x
        → (text : List ℕ) × SpellsMiddle text x.0 × (cs ≡ text ++ x.1)
    go None o e =
        let a = when_some (begins_blank cs) ([], without_leading_blanks cs) x e in
        subst (λ (y : List Label × List ℕ). (text : List ℕ) × SpellsMiddle text y.0 × (cs ≡ text ++ y.1)) a.1
        (take_while is_blank cs, inl ((while_passes is_blank cs, begins_gap cs a.0), refl), while_parts is_blank cs)
    go (Some inner) o e =
        let a = bind_some (labels_at (length inner) inner) (λ y. Some (y.0, without_leading_blanks y.1)) x e in
        let l = labels_front (length inner) inner a.0 a.1 in
        let b0 = take_while is_blank cs in
        let b1 = take_while is_blank a.0.1 in
        subst (λ (y : List Label × List ℕ). (text : List ℕ) × SpellsMiddle text y.0 × (cs ≡ text ++ y.1)) (same_Some (a.0.0, without_leading_blanks a.0.1) x a.2) (
          b0 ++ codes "{" ++ l.0 ++ codes "}" ++ b1,
          inr (record { before = b0; inner = l.0; after = b1; blanks = (while_passes is_blank cs, while_passes is_blank a.0.1); labels = l.1; whole = refl }),
          braces_whole cs b0 inner l.0 a.0.1 b1 (without_leading_blanks a.0.1) (behind_blanks (codes "{") cs inner o) l.2 (while_parts is_blank a.0.1),
        )

stamp_sound : (rest : List ℕ) (x : Option (List ℕ)) → Stops is_not_blank rest → stamp_of rest ≡ Some x → SpellsStamp rest x
unfolding stamp_of
stamp_sound [] x stops e = subst (SpellsStamp []) (same_Some None x e) refl
stamp_sound (c ∷ cs) x stops e =
    let stamp = without_leading_blanks (c ∷ cs) in
    let a = when_some (is_integer_token stamp) (Some stamp) x e in
    subst (SpellsStamp (c ∷ cs)) a.1
    (take_while is_blank (c ∷ cs), (while_passes is_blank (c ∷ cs), begins_gap (c ∷ cs) (stops_blank c stops)), a.0, while_parts is_blank (c ∷ cs))

sample_whole : (cs name rest middle mid value last : List ℕ) → cs ≡ name ++ rest → rest ≡ middle ++ mid → mid ≡ value ++ last → cs ≡ name ++ middle ++ value ++ last
sample_whole cs name rest middle mid value last a b c = rw (a, b, c) (simp append_assoc refl)

sample_sound : (cs : List ℕ) (x : Written) → sample_of cs ≡ Some x → SpellsTrimmed cs x
unfolding middle_at stamp_of sample_of
sample_sound cs x e =
    let name = take_while is_metric_char cs in
    let made : List Label → List ℕ → Option (List ℕ) → Option Written = λ labels value stamp. Some (sample (record { name = name; labels = labels; value = value; stamp = stamp; exemplar = None })) in
    let with_labels : List Label × List ℕ → Option Written = λ labels.
    when_true (is_number_token (take_while is_not_blank labels.1)) (take_while is_not_blank labels.1) >>= λ _. stamp_of (rest_while is_not_blank labels.1) >>= made labels.0 (take_while is_not_blank labels.1) in
    let a = bind_some (when_true (is_metric_name name) name) (λ _. middle_at (rest_while is_metric_char cs) >>= with_labels) x e in
    let b = bind_some (middle_at (rest_while is_metric_char cs)) with_labels x a.2 in
    let value = take_while is_not_blank b.0.1 in
    let rest = rest_while is_not_blank b.0.1 in
    let c = bind_some (when_true (is_number_token value) value) (λ _. stamp_of rest >>= made b.0.0 value) x b.2 in
    let d = bind_some (stamp_of rest) (made b.0.0 value) x c.2 in
    let named = when_some (is_metric_name name) name a.0 a.1 in
    let valued = when_some (is_number_token value) value c.0 c.1 in
    let m = middle_front (rest_while is_metric_char cs) b.0 b.1 in
    subst (SpellsTrimmed cs) (same_Some (sample (record { name = name; labels = b.0.0; value = value; stamp = d.0; exemplar = None })) x d.2)
    (record {
      middle = m.0;
      rest = rest;
      metric_name = named.0;
      labels = m.1;
      value = valued.0;
      stamp = stamp_sound rest d.0 (rest_stops is_not_blank b.0.1) d.1;
      no_exemplar = refl;
      whole = sample_whole cs name (rest_while is_metric_char cs) m.0 b.0.1 value rest (while_parts is_metric_char cs) m.2 (while_parts is_not_blank b.0.1);
    })

-- ---- descriptors

stops_rest : (test : ℕ → Bool) (ys : List ℕ) → Stops test ys → rest_while test ys ≡ ys
stops_rest test [] s = refl
stops_rest test (y ∷ ys) s = rw s refl

-- blanks stand in front of a name that is read behind them
name_gap : (rest : List ℕ) → Stops is_not_blank rest → is_metric_name (take_while is_metric_char (without_leading_blanks rest)) ≡ true → IsGap (take_while is_blank rest)
name_gap [] stops h = absurd (let e : false ≡ true = h in cc)
name_gap (c ∷ cs) stops h = (while_passes is_blank (c ∷ cs), begins_gap (c ∷ cs) (stops_blank c stops))

help_text_sound : (rest : List ℕ) → at_blank rest ≡ true → SpellsHelpText rest (unescaped help_escape (without_leading_blanks rest))
help_text_sound [] h = inl (refl, refl)
help_text_sound (c ∷ cs) h = inr (
  take_while is_blank (c ∷ cs),
  without_leading_blanks (c ∷ cs),
  (while_passes is_blank (c ∷ cs), begins_gap (c ∷ cs) h),
  stops_rest is_blank (without_leading_blanks (c ∷ cs)) (rest_stops is_blank (c ∷ cs)),
  while_parts is_blank (c ∷ cs),
  refl,
)

passes_is : (word : List ℕ) (o : Option (List ℕ)) → some_passes (bytes_eq word) o ≡ true → o ≡ Some word
passes_is word None h = absurd (let e : false ≡ true = h in cc)
passes_is word (Some w) h = ap Some (sym ((bytes_decides word w).0 h))

kind_sound : (word : List ℕ) (kind : Kind) → kind_named word ≡ Some kind → text_kind_word kind ≡ Some word
unfolding kind_named
kind_sound word kind e =
    let found = first_gives (λ k. when_true (some_passes (bytes_eq word) (text_kind_word k)) k) (Counter ∷ Gauge ∷ Histogram ∷ Summary ∷ Unknown ∷ []) kind e in
    let both = when_some (some_passes (bytes_eq word) (text_kind_word found.0)) found.0 kind found.1 in
    subst (λ (k : Kind). text_kind_word k ≡ Some word) both.1 (passes_is word (text_kind_word found.0) both.0)

no_empty_kind : (kind : Kind) → text_kind_word kind ≡ Some [] → ⊥
no_empty_kind Counter e = let h : codes "counter" ≡ [] = same_Some (codes "counter") [] e in cc
no_empty_kind Gauge e = let h : codes "gauge" ≡ [] = same_Some (codes "gauge") [] e in cc
no_empty_kind Histogram e = let h : codes "histogram" ≡ [] = same_Some (codes "histogram") [] e in cc
no_empty_kind Summary e = let h : codes "summary" ≡ [] = same_Some (codes "summary") [] e in cc
no_empty_kind Unknown e = let h : codes "untyped" ≡ [] = same_Some (codes "untyped") [] e in cc
no_empty_kind _ e = none-some [] e

kind_gap : (rest : List ℕ) (kind : Kind) → at_blank rest ≡ true → text_kind_word kind ≡ Some (without_leading_blanks rest) → IsGap (take_while is_blank rest)
kind_gap [] kind h e = absurd (no_empty_kind kind e)
kind_gap (c ∷ cs) kind h e = (while_passes is_blank (c ∷ cs), begins_gap (c ∷ cs) h)

marked_whole : (cs b0 body keyword word rest b1 base name tail : List ℕ) → cs ≡ b0 ++ body → body ≡ word ++ rest → word ≡ keyword → rest ≡ b1 ++ base → base ≡ name ++ tail
    → 35 ∷ cs ≡ 35 ∷ b0 ++ keyword ++ b1 ++ name ++ tail
marked_whole cs b0 body keyword word rest b1 base name tail a b c d e = rw (a, b, c, d, e) (simp append_assoc refl)

not_that : (word keyword : List ℕ) → bytes_eq word keyword ≡ false → word ≢ keyword
not_that word keyword h e = let k : true ≡ false = sym ((bytes_decides word keyword).1 e) ∙ h in cc

marked_sound : (cs : List ℕ) (x : Written) → marked_of cs ≡ Some x → SpellsTrimmed (35 ∷ cs) x
unfolding kind_named named_at marked_of
marked_sound cs x e =
    let b0 = take_while is_blank cs in
    let body = without_leading_blanks cs in
    let word = take_while is_not_blank body in
    let rest = rest_while is_not_blank body in
    let b1 = take_while is_blank rest in
    let base = without_leading_blanks rest in
    let name = take_while is_metric_char base in
    let tail = rest_while is_metric_char base in
    let helped : List ℕ × List ℕ → Option Written = λ n. Some (help n.0 (unescaped help_escape n.1)) in
    let typed : List ℕ × List ℕ → Option Written = λ n. kind_named n.1 >>= λ kind. Some (type_line n.0 kind) in
    let parts = while_parts is_blank cs in
    elim (chosen (bytes_eq word (codes "HELP")) (named_at rest >>= helped) (cond (bytes_eq word (codes "TYPE")) (named_at rest >>= typed) (Some comment)) (Some x) e) [
      | inl h ↦
          let a = bind_some (named_at rest) helped x h.1 in
          let b = when_some (is_metric_name name && at_blank tail) (name, without_leading_blanks tail) a.0 a.1 in
          let c = and_parts (is_metric_name name) (at_blank tail) b.0 in
          subst (SpellsTrimmed (35 ∷ cs)) (ap (λ (n : List ℕ × List ℕ). help n.0 (unescaped help_escape n.1)) b.1 ∙ same_Some (help a.0.0 (unescaped help_escape a.0.1)) x a.2)
          (record {
            first = b0;
            second = b1;
            rest = tail;
            blanks = while_passes is_blank cs;
            gap = name_gap rest (rest_stops is_not_blank body) c.0;
            metric_name = c.0;
            help_text = help_text_sound tail c.1;
            whole = marked_whole cs b0 body (codes "HELP") word rest b1 base name tail parts (while_parts is_not_blank body) ((bytes_decides word (codes "HELP")).0 h.0) (while_parts is_blank rest) (while_parts is_metric_char base);
          })
      | inr h ↦ elim (chosen (bytes_eq word (codes "TYPE")) (named_at rest >>= typed) (Some comment) (Some x) h.1) [
        | inl k ↦
            let a = bind_some (named_at rest) typed x k.1 in
            let b = when_some (is_metric_name name && at_blank tail) (name, without_leading_blanks tail) a.0 a.1 in
            let c = and_parts (is_metric_name name) (at_blank tail) b.0 in
            let typed_by : List ℕ × List ℕ → Option Written = λ n. kind_named n.1 >>= λ kind. Some (type_line n.0 kind) in
            let again : typed_by (name, without_leading_blanks tail) ≡ Some x = ap typed_by b.1 ∙ a.2 in
            let d = bind_some (kind_named (without_leading_blanks tail)) (λ kind. Some (type_line name kind)) x again in
            let w = kind_sound (without_leading_blanks tail) d.0 d.1 in
            let front = marked_whole cs b0 body (codes "TYPE") word rest b1 base name tail parts (while_parts is_not_blank body) ((bytes_decides word (codes "TYPE")).0 k.0) (while_parts is_blank rest) (while_parts is_metric_char base) in
            subst (SpellsTrimmed (35 ∷ cs)) (same_Some (type_line name d.0) x d.2)
            (record {
              first = b0;
              second = b1;
              third = take_while is_blank tail;
              word = without_leading_blanks tail;
              blanks = while_passes is_blank cs;
              gap = name_gap rest (rest_stops is_not_blank body) c.0;
              metric_name = c.0;
              other_gap = kind_gap tail d.0 c.1 w;
              kind_word = w;
              whole = type_whole cs b0 b1 name tail (take_while is_blank tail) (without_leading_blanks tail) front (while_parts is_blank tail);
            })
        | inr k ↦ subst (SpellsTrimmed (35 ∷ cs)) (same_Some comment x k.1)
            (record { mark = (cs, refl); no_help = not_that word (codes "HELP") h.0; no_type = not_that word (codes "TYPE") k.0 })
      ]
    ]
  where
    type_whole : (cs b0 b1 name tail b2 word : List ℕ) → 35 ∷ cs ≡ 35 ∷ b0 ++ codes "TYPE" ++ b1 ++ name ++ tail → tail ≡ b2 ++ word → 35 ∷ cs ≡ 35 ∷ b0 ++ codes "TYPE" ++ b1 ++ name ++ b2 ++ word
    type_whole cs b0 b1 name tail b2 word a b = a ∙ ap (λ (t : List ℕ). 35 ∷ b0 ++ codes "TYPE" ++ b1 ++ name ++ t) b ∙ simp append_assoc refl

trimmed_sound : (line : List ℕ) (w : Written) → trimmed_of line ≡ Some w → SpellsTrimmed line w
unfolding sample_of marked_of trimmed_of
trimmed_sound [] w e = subst (SpellsTrimmed []) (same_Some blank w e) refl
trimmed_sound (c ∷ cs) w e = elim (chosen (c == 35) (marked_of cs) (sample_of (c ∷ cs)) (Some w) e) [
  | inl h ↦ subst (λ n. SpellsTrimmed (n ∷ cs) w) (sym (eqb-true c 35 h.0)) (marked_sound cs w h.1)
  | inr h ↦ sample_sound (c ∷ cs) w h.1
]

-- what the reader of one line gives is what the line spells
pub text_line_sound : (line : List ℕ) (w : Written) → text_line_of line ≡ Some w → SpellsText line w
unfolding trimmed text_line_of
text_line_sound line w e = trimmed_sound (trimmed line) w e
