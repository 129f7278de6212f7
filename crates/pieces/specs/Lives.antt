-- The life of a node's pieces: the accepted changes, newest first, and what they leave.
use Rattle.std.specs.Prelude.{◌&&◌, ◌==◌, ℕ, Bool, not, List, [], ◌∷◌}
use Rattle.std.specs.List.{list_any}
use Rattle.bucket_ids.specs.Buckets.{Low}
use Rattle.pieces.specs.declared.piece.Piece.{Piece}
use Rattle.pieces.specs.Pieces.{is_piece, has_key_of, does_meet}
use Rattle.pieces.specs.Holdings.{Holding, no_pieces, after_store, after_apply, after_split, after_join, after_ready, after_activate, after_delete}

pub data Change : Type 0 where
  -- a key
  Store : ℕ → Change
  Apply : Low → Change
  Delete : Low → Change
  Split : Low → Change
  Join : Low → Change
  Ready : Low → Change
  Activate : Low → Change

abbrev pub after_change : Change → Holding → Holding
after_change (Store key) h = after_store key h
after_change (Apply b) h = after_apply b h
after_change (Delete b) h = after_delete b h
after_change (Split b) h = after_split b h
after_change (Join b) h = after_join b h
after_change (Ready b) h = after_ready b h
after_change (Activate b) h = after_activate b h

abbrev pub life : List Change → Holding
life [] = no_pieces
life (c ∷ cs) = after_change c (life cs)

-- the bucket is a piece with this serial
abbrev pub names : Low → ℕ → Holding → Bool
names b s h = list_any (is_piece b s) h.pieces

-- the piece meets a bucket and has another serial
abbrev pub stale : ℕ → Low → Piece → Bool
stale s b p = does_meet b p && not (p.serial == s)

-- the piece has a key and another serial
abbrev pub stale_at : ℕ → ℕ → Piece → Bool
stale_at s key p = has_key_of key p && not (p.serial == s)
