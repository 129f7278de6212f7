-- What a node has of pieces, and what each call makes of it.
use Rattle.std.specs.Prelude.{◌+◌, ◌≤◌, ℕ, List, [], ◌∷◌, refl}
use Rattle.std.specs.Coded.{Coded, code_by, coded×, coded_ℕ, coded_list}
use Rattle.bucket_ids.specs.Buckets.{Low}
use Rattle.pieces.specs.declared.piece.Piece.{Piece}
use Rattle.pieces.specs.PieceCodes.{piece_code}
use Rattle.pieces.specs.Pieces.{has_key_of, does_meet, renewed, ready_at, split_at, join_at, apply_at, without}
use Rattle.pieces.specs.Runs.{IsLaid}

-- the pieces, and the last serial that was drawn
pub record Holding : Type 0 where
  pub pieces : List Piece
  pub serial : ℕ

abbrev pub holding_code : Coded Holding
holding_code = code_by (List Piece × ℕ) (coded× (coded_list piece_code) coded_ℕ) (λ h. (h.pieces, h.serial)) (λ p. record { pieces = p.0; serial = p.1 }) (λ _. refl)

abbrev pub no_pieces : Holding
no_pieces = record { pieces = []; serial = 0 }

-- no serial is above the last that was drawn
abbrev pub AreUpTo : ℕ → List Piece → Type 0
AreUpTo serial [] = Unit {0}
AreUpTo serial (p ∷ ps) = (p.serial ≤ serial) × AreUpTo serial ps

pub record IsHolding (h : Holding) : Type 0 where
  pub laid : IsLaid 0 h.pieces
  pub up_to : AreUpTo h.serial h.pieces

-- the next serial is drawn, and given to what a change makes
abbrev pub drawn : (ℕ → List Piece → List Piece) → Holding → Holding
drawn change h = record { pieces = change (h.serial + 1) h.pieces; serial = h.serial + 1 }

abbrev pub after_store : ℕ → Holding → Holding
after_store key = drawn (renewed (has_key_of key))

abbrev pub after_apply : Low → Holding → Holding
after_apply b = drawn (apply_at b)

abbrev pub after_split : Low → Holding → Holding
after_split b = drawn (split_at b)

abbrev pub after_join : Low → Holding → Holding
after_join b = drawn (join_at b)

abbrev pub after_ready : Low → Holding → Holding
after_ready b = drawn (ready_at b)

abbrev pub after_activate : Low → Holding → Holding
after_activate b = drawn (renewed (does_meet b))

-- a delete draws none
abbrev pub after_delete : Low → Holding → Holding
after_delete b h = record { pieces = without b h.pieces; serial = h.serial }
