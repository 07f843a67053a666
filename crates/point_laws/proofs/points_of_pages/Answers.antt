use Rattle.point_laws.proofs.ScopePoints.{places_lose_nothing, taken_lose_nothing, series_lose_nothing, readings_lose_nothing}
use Rattle.point_laws.proofs.points_of_pages.Goals as goal

pub returns-clause-places : goal.returns-clause-places
returns-clause-places c = places_lose_nothing c.args.page.now c.families-families.ensures.right

pub returns-clause-taken : goal.returns-clause-taken
returns-clause-taken c = taken_lose_nothing c.args.page.now c.families-families.ensures.right

pub returns-clause-taken_series : goal.returns-clause-taken_series
returns-clause-taken_series c = series_lose_nothing c.args.page.now c.families-families.ensures.right

pub returns-clause-all : goal.returns-clause-all
returns-clause-all c = readings_lose_nothing c.args.page.now c.families-families.ensures.right
