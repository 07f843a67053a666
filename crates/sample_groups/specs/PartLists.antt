-- Where the parts of a group lie (the bridge's own).
use Rattle.std.specs.Prelude.{List, [], ◌∷◌}
use Rattle.sample_groups.specs.declared.part.Part.{Part}
use Rattle.sample_groups.specs.declared.part_list.Held.{Held}
use Rattle.sample_groups.specs.declared.part_list.Held.TheVariants.{Nothing, One, Many}

-- the parts, wherever they lie
abbrev pub parts_held : Held → List Part
parts_held Nothing = []
parts_held (One part) = part ∷ []
parts_held (Many parts) = parts.items
