-- A list of which no label is read.
use Rattle.std.proofs.Common.{◌≡◌, ℕ, List, None, refl}
use Rattle.page_model.specs.TextReading.{labels_at}
use Rattle.page_model.specs.OpenReading.{more_labels_at}

-- in the text format
pub text-no_labels : (cs : List ℕ) → labels_at 0 cs ≡ None
unfolding labels_at
text-no_labels cs = refl

-- in OpenMetrics, behind the first label
pub open-no_labels : (cs : List ℕ) → more_labels_at 0 cs ≡ None
unfolding more_labels_at
open-no_labels cs = refl
