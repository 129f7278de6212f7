-- What the note of a round shows of a node is how the pieces stand that its answer showed.
use Rattle.std.proofs.Common.{◌≡◌, ◌<◌, ◌==◌, ◌||◌, ℕ, zero, suc, Bool, true, false, cond, List, [], ◌∷◌, Option, Some, None, is_some, Contains, refl, sym, ap, ap₂, ◌∙◌, subst, arith}
use mathlib.Core.Bool.{true≢false}
use Rattle.std.specs.List.{list_any, find}
use Rattle.std.proofs.lemmas.Bool.{eqb-true}
use Rattle.bucket_ids.specs.Buckets.{Low}
use Rattle.node_sets.specs.Members.{has_node}
use Rattle.pieces.specs.declared.piece.Piece.{Piece}
use Rattle.merge_rounds.specs.Rounds.{RoundState, pieces_by}
use Rattle.pass_model.specs.Shown.{lies_over, lies_inside, serial_shown, shape_with, shape_shown}
use Rattle.pass_machine.specs.declared.notes.Exact.{Exact}
use Rattle.pass_machine.specs.declared.notes.RowNote.{RowNote}
use Rattle.lane_upkeep.specs.RoundNotes.{is_exact, serial_in, IsNoteOf}
use Rattle.pass_machine.specs.Abstract.{shape_in, shown_in}

pub serial-same : (row : Low) (ps : List Piece) → serial_in row ps ≡ serial_shown row ps
serial-same row [] = refl
serial-same row (p ∷ ps) = ap (λ (o : Option ℕ). cond (is_exact row p) (Some p.serial) o) (serial-same row ps)

-- ---- a node that is found

record IsFoundFor (n : ℕ) (xs : List Exact) (x : Exact) : Type 0 where
  node_is : x.node ≡ n
  there : Contains xs x

found-for : (n : ℕ) (xs : List Exact) (x : Exact) → find (λ (y : Exact). y.node == n) xs ≡ Some x → IsFoundFor n xs x
found-for n [] x h = cc
found-for n (y ∷ xs) x h = by_test (found-for n xs x) (y.node == n) refl h
  where
    by_test : (find (λ (z : Exact). z.node == n) xs ≡ Some x → IsFoundFor n xs x) → (t : Bool) → (y.node == n) ≡ t → cond t (Some y) (find (λ (z : Exact). z.node == n) xs) ≡ Some x → IsFoundFor n (y ∷ xs) x
    by_test rest true e g = let same : y ≡ x = cc in record { node_is = ap (λ (z : Exact). z.node) (sym same) ∙ eqb-true y.node n e; there = (zero, omega arith, same) }
    by_test rest false e g = let f = rest g in record { node_is = f.node_is; there = (suc (f.there).0, omega (arith, (f.there).1), (f.there).2) }

none-found : (n : ℕ) (xs : List Exact) → find (λ (y : Exact). y.node == n) xs ≡ None → list_any (λ (y : Exact). y.node == n) xs ≡ false
none-found n [] h = refl
none-found n (y ∷ xs) h = by_test (none-found n xs) (y.node == n) h
  where
    by_test : (find (λ (z : Exact). z.node == n) xs ≡ None → list_any (λ (z : Exact). z.node == n) xs ≡ false) → (t : Bool) → cond t (Some y) (find (λ (z : Exact). z.node == n) xs) ≡ None
        → (t || list_any (λ (z : Exact). z.node == n) xs) ≡ false
    by_test rest true g = cc
    by_test rest false g = rest g

pub no-some : {X : Type 0} (o : Option X) → is_some o ≡ false → o ≡ None
no-some None h = refl
no-some (Some x) h = absurd (true≢false h)

-- ---- the note

pub note-shows : (r : RoundState) (note : RowNote) → IsNoteOf r note → (n : ℕ) → n < 32 → shown_in note n ≡ shape_shown r.row (pieces_by n r.shown)
note-shows r note i n small = by_find (find (λ (x : Exact). x.node == n) note.exact.items) refl
  where
    sides : (o : Option ℕ) → shape_with o (has_node note.over n) (has_node note.inside n) ≡ shape_with o (list_any (lies_over r.row) (pieces_by n r.shown)) (list_any (lies_inside r.row) (pieces_by n r.shown))
    sides o = ap₂ (shape_with o) (i.over_are n small) (i.inside_are n small)

    by_find : (o : Option Exact) → find (λ (x : Exact). x.node == n) note.exact.items ≡ o → shape_in o note n ≡ shape_shown r.row (pieces_by n r.shown)
    by_find (Some x) e =
        let f = found-for n note.exact.items x e in
        let serial : serial_in r.row (pieces_by n r.shown) ≡ Some x.serial = subst (λ (k : ℕ). serial_in r.row (pieces_by k r.shown) ≡ Some x.serial) f.node_is ((i.exact_are).each x f.there) in
        ap (λ (o : Option ℕ). shape_with o (list_any (lies_over r.row) (pieces_by n r.shown)) (list_any (lies_inside r.row) (pieces_by n r.shown))) (sym serial ∙ serial-same r.row (pieces_by n r.shown))
    by_find None e =
        let serial : serial_in r.row (pieces_by n r.shown) ≡ None = no-some (serial_in r.row (pieces_by n r.shown)) (sym ((i.exact_are).below n small) ∙ none-found n note.exact.items e) in
        sides None ∙ ap (λ (o : Option ℕ). shape_with o (list_any (lies_over r.row) (pieces_by n r.shown)) (list_any (lies_inside r.row) (pieces_by n r.shown))) (sym serial ∙ serial-same r.row (pieces_by n r.shown))
