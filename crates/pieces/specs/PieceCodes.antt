-- That buckets and pieces are data.
use Rattle.std.specs.Prelude.{ℕ, Bool, refl}
use Rattle.std.specs.Coded.{Coded, code_by, coded×, coded_ℕ, coded_bool}
use Rattle.bucket_ids.specs.Buckets.{Low}
use Rattle.pieces.specs.declared.piece.Piece.{Piece}

abbrev pub low_code : Coded Low
low_code = code_by (ℕ × ℕ) (coded× coded_ℕ coded_ℕ) (λ b. (b.bits, b.low)) (λ p. record { bits = p.0; low = p.1 }) (λ _. refl)

abbrev pub piece_code : Coded Piece
piece_code = code_by (Low × (ℕ × Bool)) (coded× low_code (coded× coded_ℕ coded_bool))
    (λ p. (p.bucket, (p.serial, p.ready))) (λ q. record { bucket = q.0; serial = q.1.0; ready = q.1.1 }) (λ _. refl)
