-- What the emitters are with a whole text more.
use Rattle.std.proofs.Common.{◌≡◌, ℕ, ◌+◌, ◌-◌, ◌^◌, ◌≤◌, min, List, [], ◌∷◌, ◌++◌, length, take, fold, sym, ap, ◌∙◌, append_assoc, append-nil, arith}
use Rattle.std.proofs.Math.Seq.{take-append_seam}
use Rattle.text_emitter.specs.Emitters.{count_push, Appended, appended, append_push}

-- a text is counted by its length
pub fold-count_push : (n : ℕ) (text : List ℕ) → n ≤ 2 ^ 64 - 1 → fold count_push n text ≡ min (n + length text) (2 ^ 64 - 1)
fold-count_push n [] fits = omega arith
fold-count_push n (x ∷ xs) fits = let rest = fold-count_push (min (n + 1) (2 ^ 64 - 1)) xs (omega arith) in omega (arith, rest)

-- a text is appended as a whole
pub append_folded : (a : Appended) (text : List ℕ) → fold append_push a text ≡ appended (a.bytes ++ text) a.start
append_folded a [] = ap (λ (l : List ℕ). appended l a.start) (sym (append-nil a.bytes))
append_folded a (x ∷ xs) =
    append_folded (append_push a x) xs
    ∙ ap (λ (l : List ℕ). appended l a.start) (append_assoc a.bytes (x ∷ []) xs)

-- without the text the bytes are what they were
pub front_kept : (bytes text : List ℕ) → take (length bytes) (bytes ++ text) ≡ bytes
front_kept bytes text = take-append_seam bytes text
