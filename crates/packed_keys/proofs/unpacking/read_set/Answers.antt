use Rattle.std.proofs.Common.{◌≤◌, ◌<◌, ◌-◌, ◌^◌, sym, ap, subst, ◌∙◌, length, ◌++◌, ◌∷◌, [], List, ℕ, IsUtf8, rules}
use Rattle.label_sets.specs.declared.label.Label.{Label}
use Rattle.label_sets.specs.Sets.{IsLabelSet}
use Rattle.packed_keys.specs.Packing.{packed_label_at, part_at}
use Rattle.packed_keys.specs.Texts.{IsTextLabel}
use Rattle.packed_keys.proofs.Read.{labels_begin, labels_go_on, labels_end, next_text, label_is}
use Rattle.packed_keys.proofs.unpacking.read_set.Goals as goal

pub loop-left-init : goal.loop-left-init
loop-left-init c =
    let fits : length c.args.bytes.now ≤ 2 ^ 64 - 1 = search rules in
    rw c.in_ok-labels.ensures.items (labels_begin c.args.bytes.now c.read_length-count.result.1.now c.read_length-count.result.0 c.requires.packed fits c.read_length-count.ensures.length c.read_length-count.ensures.rest)

pub from_utf8-requires : goal.from_utf8-requires
unfolding packed_label_at
from_utf8-requires c =
    let lt : length c.loop-left.labels.items < c.read_length-count.result.0 = search rules in
    let text : IsTextLabel (packed_label_at c.loop-left.left.now).0 = next_text c.args.bytes.now c.loop-left.left.now c.read_length-count.result.0 c.loop-left.labels.items c.loop-left.invariant lt c.requires.text.texts in
    subst IsUtf8 (sym c.read_part.ensures.part) text.name

pub from_utf8-requires-in-loop-left : goal.from_utf8-requires-in-loop-left
unfolding packed_label_at
from_utf8-requires-in-loop-left c =
    let lt : length c.loop-left.labels.items < c.read_length-count.result.0 = search rules in
    let text : IsTextLabel (packed_label_at c.loop-left.left.now).0 = next_text c.args.bytes.now c.loop-left.left.now c.read_length-count.result.0 c.loop-left.labels.items c.loop-left.invariant lt c.requires.text.texts in
    subst IsUtf8 (sym (c.read_part-in-loop-left.ensures.part ∙ ap (λ (bs : List ℕ). (part_at bs).0) c.read_part.ensures.rest)) text.value

pub loop-left-preserved : goal.loop-left-preserved
loop-left-preserved c =
    let lt : length c.loop-left.labels.items < c.read_length-count.result.0 = search rules in
    let is = label_is c.loop-left.left.now c.in_ok-name.name c.read_part.result.1.now c.in_ok-value.value c.read_part-in-loop-left.result.1.now (c.in_ok-name.ensures ∙ c.read_part.ensures.part) c.read_part.ensures.rest (c.in_ok-value.ensures ∙ c.read_part-in-loop-left.ensures.part) c.read_part-in-loop-left.ensures.rest in
    labels_go_on c.args.bytes.now c.loop-left.left.now c.read_part-in-loop-left.result.1.now c.read_length-count.result.0 c.loop-left.labels.items c.push.new.self.items c.loop-left.invariant lt
    (c.in_ok-push.ensures.items ∙ ap (λ (l : Label). c.loop-left.labels.items ++ l ∷ []) is.0) is.1

pub from_sorted-requires : goal.from_sorted-requires
from_sorted-requires c =
    let le : c.read_length-count.result.0 ≤ length c.loop-left.labels.items = search rules in
    subst IsLabelSet (sym (labels_end c.args.bytes.now c.loop-left.left.now c.read_length-count.result.0 c.loop-left.labels.items c.loop-left.invariant le)) c.requires.text.set

pub returns : goal.returns
returns c =
    let le : c.read_length-count.result.0 ≤ length c.loop-left.labels.items = search rules in
    rw (← labels_end c.args.bytes.now c.loop-left.left.now c.read_length-count.result.0 c.loop-left.labels.items c.loop-left.invariant le) c.from_sorted.ensures
