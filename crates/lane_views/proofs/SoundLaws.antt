-- That a view's code keeps one.
use Rattle.std.proofs.Common.{◌≡◌, ℕ, zero, suc, List, [], ◌∷◌, ◌++◌, take, length, refl, sym, ap, subst, ◌∙◌, arith}
use Rattle.doc_types.specs.SchemaCodes.{Types}
use Rattle.view_changes.specs.declared.change.LaneChange.{LaneChange}
use Rattle.view_changes.specs.Views.{new_node, nodes_after, next_generation, changed}
use Rattle.view_changes.specs.Opening.{opening}
use Rattle.view_changes.specs.Kept.{IsView, HasBucket}
use Rattle.lane_views.specs.Typed.{TypedNode, nodes_of, AreTyped, alike, seen, IsSound}
use Rattle.view_changes.proofs.OpeningLaws.{opening-view}
use Rattle.view_changes.proofs.ViewLaws.{view-changed}
use Rattle.lane_views.proofs.StepLaws.{typed-alike, nodes-alike}

pub seen-changed : (types : Types) (ts us : List TypedNode) (g h : ℕ) (c : LaneChange) → nodes_of us ≡ nodes_after types c (nodes_of ts) → h ≡ next_generation g → seen types us h ≡ changed (seen types ts g) c
seen-changed types ts us g h c nodes next = λ i. record { types = types; nodes = nodes i; generation = next i }

pub sound-changed : (types : Types) (ts us : List TypedNode) (g h : ℕ) (c : LaneChange) → IsSound types ts g → HasBucket c → nodes_of us ≡ nodes_after types c (nodes_of ts) → AreTyped types us → h ≡ next_generation g → IsSound types us h
sound-changed types ts us g h c sound bucket nodes typed next = record {
  typed = typed;
  view = subst IsView (sym (seen-changed types ts us g h c nodes next)) (view-changed (seen types ts g) c bucket sound.view);
}

-- what was written over a whole list
pub written-over : (n : ℕ) (xs ys : List TypedNode) → n ≡ length xs → take n (xs ++ ys) ≡ xs
written-over n [] ys h = rw h refl
written-over zero (x ∷ xs) ys h = absurd (omega arith)
written-over (suc n) (x ∷ xs) ys h = ap (λ (l : List TypedNode). x ∷ l) (written-over n xs ys (omega arith))

-- the same of lists as code has them
pub sound-made : (types : Types) (ts given us out : List TypedNode) (g h : ℕ) (c : LaneChange) → IsSound types ts g → given ≡ ts → out ≡ us → HasBucket c
    → nodes_of us ≡ nodes_after types c (nodes_of given) → AreTyped types us → h ≡ next_generation g → IsSound types out h
sound-made types ts given us out g h c sound lent back bucket nodes typed next =
    subst (λ (l : List TypedNode). IsSound types l h) (sym back)
    (sound-changed types ts us g h c sound bucket (nodes ∙ ap (λ (l : List TypedNode). nodes_after types c (nodes_of l)) lent) typed next)

-- ---- the opening

pub seen-opening : (types : Types) → seen types (alike 32 (record { types = types; node = new_node })) 0 ≡ opening types
seen-opening types = λ i. record { types = types; nodes = nodes-alike types 32 i; generation = 0 }

pub sound-opening : (types : Types) → IsSound types (alike 32 (record { types = types; node = new_node })) 0
sound-opening types = record { typed = typed-alike types new_node 32; view = subst IsView (sym (seen-opening types)) (opening-view types) }
