-- Keys that are put in one by one, the first ones shared.
use Rattle.std.proofs.Common.{◌≡◌, ℕ, ◌+◌, ◌<◌, List, [], ◌∷◌, ◌++◌, take, length, Some, refl, sym, ap, ◌∙◌, arith}
use Rattle.std.specs.Prelude.{slice_get}
use Rattle.std.proofs.lemmas.List.{append-nil, take_more}
use Rattle.std.proofs.lemmas.Option.{slice_get_within, get_or_from_slice_get}
use Rattle.label_sets.specs.declared.series_key.SeriesKey.{SeriesKey}

empty : (keys : List SeriesKey) → length keys ≡ 0 → keys ≡ []
empty [] e = refl
empty (key ∷ keys) e = absurd (omega arith)

-- one key more is shared, where there are none behind those that are
pub shared_more : (before own : List SeriesKey) (shared : ℕ) (key : SeriesKey) → length own ≡ 0 → slice_get before shared ≡ Some key → take (shared + 1) before ++ own ≡ (take shared before ++ own) ++ key ∷ []
shared_more before own shared key none key_at =
    let within : shared < length before = slice_get_within before shared key key_at in
    let more : take (shared + 1) before ≡ take shared before ++ key ∷ [] = take_more before shared key within ∙ ap (λ (k : SeriesKey). take shared before ++ k ∷ []) (get_or_from_slice_get before shared key key key_at) in
    rw (empty own none) (append-nil (take (shared + 1) before) ∙ (more ∙ ap (λ (ks : List SeriesKey). ks ++ key ∷ []) (sym (append-nil (take shared before)))))
