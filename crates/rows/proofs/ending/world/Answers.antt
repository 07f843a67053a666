-- A world of at most one file may be made, and nothing was asked of it.
use Rattle.std.proofs.Common.{◌∙◌, ℕ, ◌≤◌, List, [], ◌∷◌, length, map, refl, sym, ap, subst, arith}
use Rattle.std.specs.List.{IsDistinct}
use Rattle.std.proofs.lemmas.Bool.{le-leb}
use Rattle.std.proofs.lemmas.List.{length-map}
use Rattle.std.proofs.lemmas.List.Elements.{All-nil}
use Rattle.bridge_ports.specs.MemoryWorlds.{FileState, PairState, MemoryWorldState}
use Rattle.bridge_ports.specs.WorldMaking.{IsRightListen, IsRightPair, MayBeMade, is_one_path}
use Rattle.memory_world.specs.WorldParts.{file_given, fresh_pair, seen_home}
use Rattle.world_run.specs.Unused.{IsUnused}
use Rattle.rows.proofs.ending.world.Goals as goal

-- the path of at most one file is there once
few_paths : (files : List FileState) → length files ≤ 1 → IsDistinct is_one_path files
unfolding IsDistinct
few_paths [] few = tt
few_paths (f ∷ []) few = (tt, tt)
few_paths (f ∷ g ∷ files) few = absurd (omega (arith, few))

-- a world may be made of at most one file
may_be_made : (files : List FileState) → length files ≤ 1 → MayBeMade files [] []
unfolding IsDistinct
may_be_made files few = record {
  paths = few_paths files few;
  numbers = tt;
  addresses = tt;
  right_pairs = All-nil IsRightPair;
  right_doors = All-nil IsRightListen;
}

-- the pair of a number that none was given for is unused
bare_unused : (n : ℕ) → 1 ≤ n → n ≤ 256 → IsUnused (seen_home []) n
bare_unused n low high = rw (le-leb 1 n low, le-leb n 256 high) (_, refl, (refl, refl))

pub new-requires-3 : goal.new-requires-3
new-requires-3 c =
    let few : length (map file_given c.args.files) ≤ 1 = rw (length-map c.args.files file_given) c.requires in
    rw (c.new.ensures.items, c.new-2.ensures.items) (may_be_made (map file_given c.args.files) few)

pub returns : goal.returns
returns c = record {
  no_file = ap (λ (w : MemoryWorldState). w.world.asked) c.new-3.ensures;
  no_door = ap (λ (w : MemoryWorldState). w.world.door_at) c.new-3.ensures;
  pairs = λ n low high.
      subst (λ (ps : List PairState). IsUnused (seen_home ps) n) (sym (ap (λ (w : MemoryWorldState). w.pairs) c.new-3.ensures ∙ ap (map fresh_pair) c.new.ensures.items))
      (bare_unused n low high);
}
