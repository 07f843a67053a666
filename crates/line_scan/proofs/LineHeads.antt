-- The head of a sample line, cut off.
use Rattle.std.proofs.Common.{◌≡◌, ℕ, ◌-◌, ◌≤◌, true, false, List, ◌++◌, length, length-append, take, drop, Some, None, refl, sym, ap, subst, ◌∙◌, arith, IsUtf8}
use Rattle.std.specs.Prelude.{take_while}
use Rattle.std.proofs.Math.Seq.{take-append_seam}
use Rattle.std.proofs.lemmas.List.{take-append-drop, take-append-le}
use Rattle.std.proofs.lemmas.Bool.Decides.{nat_tests}
use Rattle.label_sets.specs.declared.label.Label.{Label}
use Rattle.label_sets.specs.Lists.{behind}
use Rattle.label_sets.specs.Names.{is_metric_name, is_metric_char}
use Rattle.page_model.specs.declared.format.Format.{Format}
use Rattle.page_model.specs.LineHeads.{labels_behind, head_of, follows_head, IsFront, HasFront}
use Rattle.page_model.proofs.Laws.{behind_parts, head-stays}
use Rattle.line_scan.specs.declared.head.Head.{Head}
use Rattle.line_scan.specs.declared.scan.Cut.{Cut}
use Rattle.line_scan.specs.Cuts.{IsNamed}
use Rattle.line_scan.specs.LineHeads.{IsHead, KnownHead, IsKnown, IsKnownIn}
use Rattle.line_scan.proofs.Utf8.{PassesAscii, utf8_front}

pub head-no_name : (f : Format) (cs : List ℕ) → is_metric_name (take_while is_metric_char cs) ≡ false → head_of f cs ≡ None
unfolding head_of
head-no_name f cs h = rw h refl

module _ (f : Format) (cs : List ℕ) (cut : Cut) (n : IsNamed is_metric_name is_metric_char cs cut) where
  pub head-no_labels : None ≡ labels_behind f cut.rest.now → head_of f cs ≡ None
  unfolding head_of
  head-no_labels h = rw (n.named, ← n.rest, ← h) refl

  module _ (labels : List Label) (rest : List ℕ) (l : Some (labels, rest) ≡ labels_behind f cut.rest.now) where
    head-found : head_of f cs ≡ Some (record { name = cut.front.now; labels = labels; rest = rest })
    unfolding head_of
    head-found = rw (n.named, ← n.rest, ← l, n.front) refl

    has_front : HasFront f cs (record { name = cut.front.now; labels = labels; rest = rest })
    has_front = head-stays f cs (record { name = cut.front.now; labels = labels; rest = rest }) head-found

    pub rest-within : length rest ≤ length cs
    rest-within =
        let whole : length cs ≡ length (has_front.front ++ rest) = ap length has_front.whole in
        let both = length-append has_front.front rest in
        omega arith

    front-cut : take (length cs - length rest) cs ≡ has_front.front
    front-cut =
        let whole : length cs ≡ length (has_front.front ++ rest) = ap length has_front.whole in
        let both = length-append has_front.front rest in
        let count : length cs - length rest ≡ length has_front.front = omega arith in
        ap (λ k. take k cs) count ∙ ap (take (length has_front.front)) has_front.whole ∙ take-append_seam has_front.front rest

    -- the parts of a line that was read
    pub head-read : (head : Head) → head.name.now ≡ cut.front.now → head.front.now ≡ take (length cs - length rest) cs → head.rest.now ≡ rest → IsUtf8 rest → IsHead f cs labels head
    head-read head a b c u = record {
      found = rw (a, c) head-found;
      front = record {
        middle = has_front.middle;
        begins = rw (b, a, front-cut) has_front.begins;
        stays = rw (b, a, front-cut) has_front.stays;
      };
      utf8_name = subst IsUtf8 (sym a) n.utf8_front;
      utf8_rest = λ _. subst IsUtf8 (sym c) u;
    }

metric_ascii : PassesAscii is_metric_char
metric_ascii c h = grind (arith, nat_tests)

-- a line that begins with a known front, in front of what may follow a head
module _ (f : Format) (bytes : List ℕ) (k : KnownHead) (i : IsKnown k) (same : k.format ≡ f) (rest : List ℕ) (at_front : Some rest ≡ behind k.front bytes) (goes : follows_head f rest ≡ true) where
  abbrev known_name : List ℕ
  known_name = take k.name_len k.front

  whole : bytes ≡ k.front ++ rest
  whole = behind_parts k.front bytes rest (sym at_front)

  stays : IsFront f k.front known_name i.labels
  stays = subst (λ (g : Format). IsFront g k.front known_name i.labels) same i.stays

  found : head_of f bytes ≡ Some (record { name = known_name; labels = i.labels; rest = rest })
  found = ap (head_of f) whole ∙ stays rest goes

  name-cut : take k.name_len bytes ≡ known_name
  name-cut = ap (take k.name_len) whole ∙ take-append-le k.name_len k.front rest i.short

  pub known-head : (head : Head) → head.name.now ≡ take k.name_len bytes → head.front.now ≡ take (length k.front) bytes → head.rest.now ≡ rest → (IsUtf8 bytes → IsUtf8 rest) → IsKnownIn f bytes k.set head
  known-head head a b c u =
      let name : head.name.now ≡ known_name = a ∙ name-cut in
      let front : head.front.now ≡ k.front = b ∙ ap (take (length k.front)) whole ∙ take-append_seam k.front rest in
      let cut : known_name ≡ take_while is_metric_char bytes = (head-stays f bytes (record { name = known_name; labels = i.labels; rest = rest }) found).cut in
      record {
        labels = i.labels;
        is_head = record {
          found = rw (name, c) found;
          front = record {
            middle = drop k.name_len k.front;
            begins = rw (front, name) (sym (take-append-drop k.name_len k.front));
            stays = rw (front, name) stays;
          };
          utf8_name = subst IsUtf8 (sym (name ∙ cut)) (utf8_front is_metric_char metric_ascii bytes);
          utf8_rest = λ v. subst IsUtf8 (sym c) (u v);
        };
        held = (i.always, i.set_is);
      }
