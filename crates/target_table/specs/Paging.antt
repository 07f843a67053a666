-- The steps that change what the reader of a page gets.
-- Prometheus, "Federation"; when a page is seen is the bridge's own.
use Rattle.std.specs.Prelude.{◌≡◌, ℕ, Bool, true, false, ◌&&◌, ◌==◌, List}
use Rattle.std.specs.List.{AllByRecursion}
use Rattle.target_table.specs.Machine.{Deed, putting, TableStep, deed_at, paging}

-- a target is put back
abbrev pub is_putting : Deed → Bool
is_putting (putting lane) = true
is_putting _ = false

-- the step puts the target at this place back
abbrev pub is_put_of : ℕ → TableStep → Bool
is_put_of place (deed_at at deed) = is_putting deed && at == place
is_put_of place paging = false

-- none of the steps puts it back
abbrev pub NonePutsBack : ℕ → List TableStep → Type 0
NonePutsBack place steps = AllByRecursion (λ step. is_put_of place step ≡ false) steps
