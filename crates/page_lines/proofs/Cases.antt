-- Small cases of lines, by computation.
use Rattle.std.proofs.Common.{◌≡◌, [], ◌∷◌, codes, refl, true, false}
use Rattle.page_lines.specs.Lines.{lines_of, ends_clean, ended_lines, open_line}
use Rattle.page_lines.specs.Told.{told_of, whole, too_long}

nothing : lines_of [] ≡ []
unfolding lines_of
nothing = refl

both_ended : lines_of (codes "a\nb\n") ≡ codes "a" ∷ codes "b" ∷ []
unfolding lines_of
both_ended = refl

open_end : lines_of (codes "a\nb") ≡ codes "a" ∷ codes "b" ∷ []
unfolding lines_of
open_end = refl

empty_lines : lines_of (codes "\n\n") ≡ [] ∷ [] ∷ []
unfolding lines_of
empty_lines = refl

empty_between : lines_of (codes "a\n\n") ≡ codes "a" ∷ [] ∷ []
unfolding lines_of
empty_between = refl

carriage_return : lines_of (codes "a\r\n") ≡ codes "a\r" ∷ []
unfolding lines_of
carriage_return = refl

clean : ends_clean (codes "a\n") ≡ true
unfolding ends_clean
clean = refl

clean_nothing : ends_clean [] ≡ true
unfolding ends_clean
clean_nothing = refl

not_clean : ends_clean (codes "a\nb") ≡ false
unfolding ends_clean
not_clean = refl

ended : ended_lines (codes "a\n\nb") ≡ codes "a" ∷ [] ∷ []
unfolding ended_lines
ended = refl

behind : open_line (codes "a\n\nb") ≡ codes "b"
unfolding open_line
behind = refl

nothing_behind : open_line (codes "a\n") ≡ []
unfolding open_line
nothing_behind = refl

-- of two bytes at most
told : told_of 2 (codes "a\n\nbcd\nef\ngh") ≡ whole (codes "a") ∷ whole [] ∷ too_long ∷ whole (codes "ef") ∷ []
unfolding told_of ended_lines open_line
told = refl

told_at_the_byte_past : told_of 2 (codes "a\nbcd") ≡ whole (codes "a") ∷ too_long ∷ []
unfolding told_of ended_lines open_line
told_at_the_byte_past = refl
