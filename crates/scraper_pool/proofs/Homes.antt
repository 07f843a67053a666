-- A share with which no target was out has none out behind its work.
use Rattle.std.proofs.Common.{◌≡◌, ℕ, Bool, true, false, ap, ◌∙◌}
use Rattle.scraper_pool.specs.Turns.{Seated, IsWork, seated}

pub stays_home : (asked : Bool) (h t i h1 t1 i1 : ℕ) → h ≡ 0 → IsWork asked (seated h t i) (seated h1 t1 i1) → h1 ≡ 0
stays_home false h t i h1 t1 i1 free work = ap (λ (s : Seated). s.held) work ∙ free
stays_home true h t i h1 t1 i1 free work = work.0
