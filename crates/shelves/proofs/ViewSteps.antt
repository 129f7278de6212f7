-- A view takes changes in, one after the other.
use Rattle.std.proofs.Common.{◌≡◌, ◌<◌, List, [], ◌∷◌, ◌++◌, length, drop, slice_index_or, refl, ap, sym, ◌∙◌, append_assoc, arith}
use Rattle.view_changes.specs.declared.change.LaneChange.{LaneChange}
use Rattle.view_changes.specs.Views.{View, changed, view_after}
use Rattle.shelves.specs.Plain.{ShowsPart}

pub view_after-append : (v : View) (cs ds : List LaneChange) → view_after v (cs ++ ds) ≡ view_after (view_after v cs) ds
view_after-append v [] ds = refl
view_after-append v (c ∷ cs) ds = view_after-append (changed v c) cs ds

front-is : (xs : List LaneChange) (c : LaneChange) → 0 < length xs → c ≡ slice_index_or xs 0 c → xs ≡ c ∷ drop 1 xs
front-is [] c h is = absurd (omega arith)
front-is (x ∷ xs) c h is = ap (λ y. y ∷ xs) (sym is)

-- the first of the pending changes is taken in, and leaves them
pub part_more : (v w w' : View) (pending now rest : List LaneChange) (c : LaneChange) → 0 < length now → c ≡ slice_index_or now 0 c → rest ≡ drop 1 now → w' ≡ changed w c → ShowsPart v w pending now → ShowsPart v w' pending rest
part_more v w w' pending now rest c some is rest_is w_is p = record {
  first = p.first ++ c ∷ [];
  parted = p.parted ∙ (ap (λ (xs : List LaneChange). p.first ++ xs) (front-is now c some is ∙ ap (λ (xs : List LaneChange). c ∷ xs) (sym rest_is)) ∙ sym (append_assoc p.first (c ∷ []) rest));
  shown = w_is ∙ (ap (λ (x : View). changed x c) p.shown ∙ sym (view_after-append v p.first (c ∷ [])));
}
