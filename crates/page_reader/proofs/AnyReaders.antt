-- What a reader of a format answers, where it stands in that of the two readers.
use Rattle.std.proofs.Common.{◌≡◌, ℕ, List, ◌++◌, Result, Ok, Err, sym, subst, ◌∙◌}
use Rattle.std.specs.Prelude.{⊤}
use Rattle.page_model.specs.declared.format.Format.{Format}
use Rattle.page_model.specs.declared.format.Treatment.{Treatment}
use Rattle.page_model.specs.declared.fault.PageFault.{PageFault}
use Rattle.line_scan.specs.LineReading.{setting_of}
use Rattle.page_feeding.specs.PageFeeding.{Stands, Refuses, TakesPiece}
use Rattle.page_reader.specs.declared.any_reader.AnyReader.{AnyReader}
use Rattle.page_reader.specs.AnyReading.{format_of, fed_of, StandsIn, TakesPieceIn}

-- a piece that is taken in the reader's own format is taken in the format that is asked for
pub piece_in : (old new : AnyReader) (piece : List ℕ) (result : Result ⊤ PageFault) → format_of new ≡ format_of old → TakesPiece (format_of old) (fed_of old) (fed_of new) piece result → TakesPieceIn old new piece result
piece_in old new piece (Ok u) same takes f t limit fed s = record {
  format = same ∙ s.format;
  stands = subst (λ (g : Format). Stands g t limit (fed ++ piece) (fed_of new)) (sym same) (takes t limit fed s.stands);
}
piece_in old new piece (Err fault) same takes f t limit fed s =
    subst (λ (g : Format). Refuses (setting_of g t limit) (fed ++ piece) fault) s.format (takes t limit fed s.stands)

-- what is answered at the end in the reader's own format is answered in the format that is asked for
pub end_in : (Says : Format → Treatment → ℕ → List ℕ → Type 0) (reader : AnyReader)
    → ((t : Treatment) (limit : ℕ) (fed : List ℕ) → Stands (format_of reader) t limit fed (fed_of reader) → Says (format_of reader) t limit fed)
    → (f : Format) (t : Treatment) (limit : ℕ) (fed : List ℕ) → StandsIn f t limit fed reader → Says f t limit fed
end_in Says reader ends f t limit fed s = subst (λ (g : Format). Says g t limit fed) s.format (ends t limit fed s.stands)
