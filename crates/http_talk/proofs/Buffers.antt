-- Bytes that are read into a buffer behind others.
use Rattle.std.proofs.Common.{◌≡◌, ℕ, ◌+◌, ◌-◌, ◌≤◌, List, ◌++◌, length, take, drop, refl, sym, ap, ◌∙◌, arith}
use Rattle.std.proofs.lemmas.List.{length-append, length-take, take-append-drop, take-append-le}
use Rattle.std.proofs.lemmas.Slice.{take-put_mid}
use borrow.Rule.Slice.PartMut.{put_mid}
use Rattle.http_talk.proofs.Once.{take_past}

-- what is read behind others stands behind them
pub got_front : (buffer into : List ℕ) (filled room count : ℕ) → filled ≤ length buffer → count ≤ length into → take (filled + count) (put_mid filled room buffer into) ≡ take filled buffer ++ take count into
got_front buffer into filled room count within few =
    let now = put_mid filled room buffer into in
    let n = filled + length into in
    let front : take n now ≡ take filled buffer ++ into = take-put_mid filled room buffer into n refl within in
    let long : length (take n now) ≡ n = omega (arith, ap (length {A = ℕ}) front, length-append (take filled buffer) into, length-take filled buffer, within) in
    let rest : filled + count - length (take filled buffer) ≡ count = omega (arith, length-take filled buffer, within) in
    ap (λ xs. take (filled + count) xs) (sym (take-append-drop n now)) ∙ take-append-le (filled + count) (take n now) (drop n now) (omega (arith, long, few)) ∙ ap (λ xs. take (filled + count) xs) front
    ∙ take_past (take filled buffer) into (filled + count) (omega (arith, length-take filled buffer, within)) ∙ ap (λ m. take filled buffer ++ take m into) rest
