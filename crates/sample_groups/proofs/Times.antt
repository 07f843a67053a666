-- Times in milliseconds beside the latest time.
use Rattle.std.proofs.Common.{◌≡◌, ℕ, ◌*◌, ◌<◌, ◌≤◌, true, false, Some, None, refl, arith}
use Rattle.std.specs.Prelude.{nat_le}
use Rattle.std.proofs.lemmas.Bool.{le-leb, lt-leb}
use Rattle.page_model.specs.Readings.{latest_time, within_time}

-- so many milliseconds are no later than the latest time
pub by_latest : (n : ℕ) → n ≤ 4611686018427 → within_time (n * 1000000) ≡ Some (n * 1000000)
by_latest n h =
    let within : nat_le (n * 1000000) latest_time ≡ true = le-leb (n * 1000000) 4611686018427387904 (omega (arith, h)) in
    rw within refl

-- one more is later
pub past_latest : (n : ℕ) → 4611686018427 < n → within_time (n * 1000000) ≡ None
past_latest n h =
    let past : nat_le (n * 1000000) latest_time ≡ false = lt-leb (n * 1000000) 4611686018427387904 (omega (arith, h)) in
    rw past refl
