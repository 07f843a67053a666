-- Values that stand beside their keys in a second list (the bridge's own).
use Rattle.std.specs.Prelude.{◌≡◌, Bool, List, length}
use Rattle.std.specs.List.{IsDistinct}

-- each value stands beside its key, and no two keys are one
pub record AreBeside {K V : Type 0} (eq : K → K → Bool) (keys : List K) (values : List V) : Type 0 where
  pub many : length keys ≡ length values
  pub distinct : IsDistinct eq keys
