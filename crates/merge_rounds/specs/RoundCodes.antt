-- That rounds are data.
use Rattle.std.specs.Prelude.{ℕ, Bool, List, Option, refl}
use Rattle.std.specs.Coded.{Coded, code_by, coded×, coded_ℕ, coded_bool, coded_list, coded_option}
use Rattle.bucket_ids.specs.Buckets.{Low}
use Rattle.pieces.specs.declared.piece.Piece.{Piece}
use Rattle.pieces.specs.PieceCodes.{low_code, piece_code}
use Rattle.entry_maps.specs.EntryCodes.{Entries, entries_code}
use Rattle.messages.specs.declared.message.Origin.{Origin}
use Rattle.messages.specs.declared.step.NodePieces.{NodePieces}
use Rattle.merge_rounds.specs.Rounds.{RoundState}

abbrev pub origin_code : Coded Origin
origin_code = code_by (ℕ × (ℕ × ℕ)) (coded× coded_ℕ (coded× coded_ℕ coded_ℕ))
    (λ o. (o.version, (o.lane, o.sender)))
    (λ p. record { version = p.0; lane = p.1.0; sender = p.1.1 }) (λ _. refl)

abbrev pub shown_code : Coded NodePieces
shown_code = code_by (ℕ × (List Piece × Bool)) (coded× coded_ℕ (coded× (coded_list piece_code) coded_bool))
    (λ s. (s.node, (s.pieces, s.entries)))
    (λ p. record { node = p.0; pieces = p.1.0; entries = p.1.1 }) (λ _. refl)

abbrev pub Parts : Type 0
Parts = (Origin × Low) × ((ℕ × ℕ) × ((ℕ × ℕ) × ((Option ℕ × List NodePieces) × (Entries × ℕ))))

abbrev pub parts_code : Coded Parts
parts_code = coded× (coded× origin_code low_code) (coded× (coded× coded_ℕ coded_ℕ)
    (coded× (coded× coded_ℕ coded_ℕ)
    (coded× (coded× (coded_option coded_ℕ) (coded_list shown_code)) (coded× entries_code coded_ℕ))))

abbrev pub parts_of : RoundState → Parts
parts_of r = (
  (r.origin, r.row),
  (
    (r.readers, r.receivers),
    ((r.reads, r.applies), ((r.awaited, r.shown), (r.union, r.holders))),
  ),
)

abbrev pub of_parts : Parts → RoundState
of_parts p = record {
  origin = p.0.0;
  row = p.0.1;
  readers = p.1.0.0;
  receivers = p.1.0.1;
  reads = p.1.1.0.0;
  applies = p.1.1.0.1;
  awaited = p.1.1.1.0.0;
  shown = p.1.1.1.0.1;
  union = p.1.1.1.1.0;
  holders = p.1.1.1.1.1;
}

abbrev pub round_code : Coded RoundState
round_code = code_by Parts parts_code parts_of of_parts (λ _. refl)
