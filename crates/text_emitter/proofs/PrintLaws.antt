-- What writing a piece leaves of a text that is written through some room.
use Rattle.std.proofs.Common.{◌≡◌, ℕ, ◌≤◌, Bool, true, false, List, [], ◌∷◌, ◌++◌, Option, Result, Ok, Err, OnOk, OnErr, is_err, refl, sym, ap, ◌∙◌, subst, fold, append_assoc, append-nil}
use Rattle.std.specs.Bool.{⊤}
use Rattle.std.proofs.lemmas.Bool.{true≢false}
use Rattle.std.specs.Io.KnownBytes.{Appends}
use Rattle.bridge_ports.specs.Causes.{Rose, HasCause}
use Rattle.bridge_ports.specs.Writing.{WroteFront}
use Rattle.bridge_ports.proofs.Laws.{appends_twice, front_behind}
use Rattle.text_emitter.specs.Printing.{Printing, printing, print_push, IsGoingOn, Prints}

-- a whole piece is put behind a text
pub print_folded : (p : Printing) (piece : List ℕ) → fold print_push p piece ≡ printing p (p.text ++ piece)
print_folded p [] = ap (printing p) (sym (append-nil p.text))
print_folded p (x ∷ xs) = print_folded (print_push p x) xs ∙ ap (printing p) (append_assoc p.text (x ∷ []) xs)

-- where a write failed, the room does not count
pub room_is_lost : (held : Option (List ℕ)) (faults : ℕ) (room other : List ℕ) (failed : Bool) (p : Printing) → failed ≡ true → Prints held faults room failed p → Prints held faults other failed p
room_is_lost held faults room other true p lost prints = record { going_on = λ going. absurd (true≢false going); cut_off = prints.cut_off }
room_is_lost held faults room other false p lost prints = absurd (true≢false (sym lost))

-- what is in the room was written, or a write failed
pub room_written : {E : Type 0} (held now : Option (List ℕ)) (faults later : ℕ) (room : List ℕ) (r : Result ⊤ E) (p : Printing)
    → OnOk r (Appends held now room) → OnErr r (WroteFront held now room) → HasCause faults later r
    → IsGoingOn held faults room p → Prints now later [] (is_err r) p
room_written held now faults later room (Ok done) p whole front cause on = record {
  going_on = λ going. record {
    front = p.text;
    text = sym (append-nil p.text);
    written = subst (Appends p.before now) (sym on.text) (appends_twice p.before held now on.front room on.written whole);
    kept = cause.kept ∙ on.kept;
  };
  cut_off = λ lost. absurd (true≢false (sym lost));
}
room_written held now faults later room (Err e) p whole front cause on = record {
  going_on = λ going. absurd (true≢false going);
  cut_off = λ lost. record {
    written = subst (WroteFront p.before now) (sym on.text) (front_behind p.before held now on.front room on.written front);
    rose = subst (λ (n : ℕ). Rose n later) on.kept cause.failed;
    later = subst (λ (n : ℕ). n ≤ later) on.kept cause.later;
  };
}

-- a piece was written behind an empty room, or a write failed
pub piece_written : {E : Type 0} (held now : Option (List ℕ)) (faults later : ℕ) (piece : List ℕ) (r : Result ⊤ E) (p : Printing)
    → OnOk r (Appends held now piece) → OnErr r (WroteFront held now piece) → HasCause faults later r
    → IsGoingOn held faults [] p → Prints now later [] (is_err r) (printing p (p.text ++ piece))
piece_written held now faults later piece r p whole front cause on =
    room_written held now faults later piece r (printing p (p.text ++ piece)) whole front cause (record {
      front = p.text;
      text = refl;
      written = subst (Appends p.before held) (sym (on.text ∙ append-nil on.front)) on.written;
      kept = on.kept;
    })

-- what an error says, where there is one
pub said_by_error : {T E : Type 0} (r : Result T E) (P : Type 0) → is_err r ≡ true → OnErr r P → P
said_by_error (Ok x) P failed says = absurd (true≢false (sym failed))
said_by_error (Err e) P failed says = says
