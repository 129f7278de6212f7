-- What each status says of a session whose segments feeders run.
use Rattle.std.specs.Prelude.{◌≡◌, ◌≢◌, ◌⊎◌, ℕ, ◌+◌, ◌<◌, List, [], ◌∷◌, ◌++◌, length, Option}
use Rattle.std.specs.Io.KnownBytes.{Appends}
use Rattle.doc_types.specs.SchemaCodes.{Types}
use Rattle.lane_lives.specs.declared.setting.Setting.{Setting}
use Rattle.session_cluster.specs.Cells.{Cell}
use Rattle.session_cluster.specs.Deeds.{told_of}
use Rattle.session_cluster.specs.Output.{report_in, output_of}
use Rattle.session_cluster.specs.declared.asked.Asked.{Asked}
use Rattle.session_segments.specs.Parts.{Part, asked_of, asked_in, AreInTurn}
use Rattle.cell_session.specs.Ends.{OfFirst, StopsAt}
use Rattle.cell_session.specs.declared.status.Status.{Status}
use Rattle.cell_session.specs.declared.status.Status.TheVariants as status

-- the first so many lines are those of parts, a segment and the line that ends it and so on, of which this holds
abbrev pub OfParts : Types → ℕ → List ℕ → ℕ → (List Part → Type 0) → Type 0
OfParts types bits text count P =
    OfFirst types bits text count (λ commands. (parts : List Part) × ((asked_in parts ≡ commands) × (AreInTurn parts × P parts)))

-- the last part has lines
abbrev pub EndsInLines : List Part → Type 0
EndsInLines [] = ⊥
EndsInLines (p ∷ []) = 0 < length (asked_of p)
EndsInLines (p ∷ q ∷ parts) = EndsInLines (q ∷ parts)

-- why no line was dealt with behind these parts: as where each line runs alone, but that the source is read on before the
-- reports of a segment are written, at which the sink may fail
abbrev pub StopsFed : Status → Types → ℕ → List ℕ → Option (List ℕ) → List Part → Type 0
StopsFed status.Done types bits text left parts = StopsAt status.Done types bits text left (asked_in parts)
StopsFed status.ReadFault types bits text left parts = StopsAt status.ReadFault types bits text left (asked_in parts)
StopsFed status.WriteFault types bits text left parts = EndsInLines parts
StopsFed status.NoMemory types bits text left parts = StopsAt status.NoMemory types bits text left (asked_in parts)
StopsFed (status.Limit which) types bits text left parts = StopsAt (status.Limit which) types bits text left (asked_in parts)
StopsFed status.Usage types bits text left parts = ⊥

-- ---- the bytes written

-- the sink took the reports of all parts but the last, and of that one those of some first lines, and a front of the next
-- line's
pub record TakesPartFront (s : Setting) (parts : List Part) (cell : Cell) (before now : Option (List ℕ)) : Type 0 where
  pub whole : List Part
  pub last : Part
  pub all : parts ≡ whole ++ last ∷ []
  pub earlier : List Asked
  pub line : Asked
  pub later : List Asked
  pub lines : asked_of last ≡ earlier ++ line ∷ later
  pub front : List ℕ
  pub rest : List ℕ
  pub cut : rest ≢ []
  pub report : report_in s (told_of s (asked_in whole ++ earlier)) (length (asked_in whole ++ earlier) + 1) line cell ≡ front ++ rest
  pub output : Appends before now (output_of s (asked_in whole ++ earlier) cell ++ front)

-- the sink took the reports of all parts but the last, and of that one those of some first lines
pub record TakesPart (s : Setting) (parts : List Part) (cell : Cell) (before now : Option (List ℕ)) : Type 0 where
  pub whole : List Part
  pub last : Part
  pub all : parts ≡ whole ++ last ∷ []
  pub earlier : List Asked
  pub later : List Asked
  pub lines : asked_of last ≡ earlier ++ later
  pub output : Appends before now (output_of s (asked_in whole ++ earlier) cell)

abbrev pub WritesFed : Status → Setting → List Part → Cell → Option (List ℕ) → Option (List ℕ) → Type 0
WritesFed status.Done s parts cell before now = Appends before now (output_of s (asked_in parts) cell)
WritesFed status.ReadFault s parts cell before now = Appends before now (output_of s (asked_in parts) cell)
WritesFed (status.Limit which) s parts cell before now = Appends before now (output_of s (asked_in parts) cell)
WritesFed status.WriteFault s parts cell before now = TakesPartFront s parts cell before now
WritesFed status.NoMemory s parts cell before now =
    Appends before now (output_of s (asked_in parts) cell) ⊎ TakesPart s parts cell before now
WritesFed status.Usage s parts cell before now = ⊥
