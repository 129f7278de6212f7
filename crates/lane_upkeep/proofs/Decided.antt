-- What a decision did, as it was decided.
use Rattle.std.proofs.Common.{◌≡◌, ◌∙◌, ℕ, sym, ap, subst}
use Rattle.bucket_ids.specs.Buckets.{Low, parent_of}
use Rattle.bucket_db.specs.declared.row.Row.{Row}
use Rattle.messages.specs.declared.decision.Decision.TheVariants.{RowSplit, RowsJoined}
use Rattle.lane_states.specs.declared.lane_state.LaneState.{LaneState}
use Rattle.lane_upkeep.specs.declared.owner.Owner.{Owner}
use Rattle.lane_upkeep.specs.Deciding.{Decides, DidSplit, DidJoin}
use Rattle.lane_upkeep.specs.UnderWay.{MayDecide, DidDecide}
use Rattle.lane_upkeep.proofs.Decisions.{row-is}

pub did_split : (c e : LaneState) (o : Owner) (at : ℕ) (b : Low) → MayDecide c o at (RowSplit b) → DidSplit c e o at → DidDecide c e o at (RowSplit b)
did_split c e o at b (row, found, same, few) (x, decides) =
    let is : (x.row).bucket ≡ b = sym (ap (λ (r : Row). r.bucket) (row-is c o at row x.row x.rows found x.opened x.found)) ∙ same in
    record { does = (x, is); decides = subst (λ (y : Low). Decides c e o (RowSplit y)) is decides }

pub did_join : (c e : LaneState) (o : Owner) (at : ℕ) (b : Low) → MayDecide c o at (RowsJoined b) → DidJoin c e o at → DidDecide c e o at (RowsJoined b)
did_join c e o at b (row, found, parent, can) (x, decides) =
    let is : (x.joined).bucket ≡ b = (x.is_joined).bucket ∙ (sym (ap (λ (r : Row). parent_of r.bucket) (row-is c o at row x.row x.rows found x.opened x.found)) ∙ parent) in
    record { does = (x, is); decides = subst (λ (y : Low). Decides c e o (RowsJoined y)) is decides }
