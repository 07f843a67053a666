use Rattle.std.proofs.Common.{◌≡◌, sym, subst}
use Rattle.std.specs.Prelude.{List}
use Rattle.std.specs.List.{zip}
use Rattle.label_sets.specs.Labels.{label_sets_eq}
use Rattle.sample_groups.specs.Beside.{AreBeside}
use Rattle.sample_groups.specs.Groups.{shared_labels, Gathered}
use Rattle.sample_groups.specs.Placing.{HasPlace}
use Rattle.sample_groups.proofs.Placing.{put_in}
use Rattle.sample_groups.proofs.group_table.place_in.Goals as goal
use Rattle.sample_groups.proofs.group_table.place_in.Goals.{After-put_new}

placed : (c : After-put_new)
    → HasPlace (zip c.args.sets.now c.args.groups.now.items) (zip c.insert.new.self c.put_new.new.groups.items) (shared_labels c.args.kind c.args.labels.now) c.in_ok-place.place
    × AreBeside label_sets_eq c.insert.new.self c.put_new.new.groups.items
placed c =
    let labels = shared_labels c.args.kind c.args.labels.now in
    let same : c.reserve.new.self.items ≡ c.args.groups.now.items = c.in_ok-reserve.ensures.items in
    let both = put_in c.args.sets.now c.insert.new.self c.reserve.new.self.items c.put_new.new.groups.items labels c.in_ok-place.place
    (subst (λ gs. AreBeside label_sets_eq c.args.sets.now gs) (sym same) c.requires) (record {
      entered = record { at = c.in_ok-place.ensures.place; sets = c.in_ok-place.ensures.sets };
      new = c.put_new.ensures.new;
      other = c.put_new.ensures.other;
    }) in
    (subst (λ (gs : List Gathered). HasPlace (zip c.args.sets.now gs) (zip c.insert.new.self c.put_new.new.groups.items) labels c.in_ok-place.place) same both.0, both.1)

pub returns-clause-place : goal.returns-clause-place
returns-clause-place c = (placed c).0

pub returns-clause-beside : goal.returns-clause-beside
returns-clause-beside c = (placed c).1
