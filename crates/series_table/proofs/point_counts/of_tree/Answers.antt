use Rattle.series_table.proofs.Tallies.{of_parts}
use Rattle.series_table.proofs.point_counts.of_tree.Goals as goal

pub returns : goal.returns
returns c = of_parts c.of_parts.result c.as_slice.result.now c.args.tree.now c.as_slice.ensures c.of_parts.ensures.valued c.of_parts.ensures.unvalued
