-- Each step keeps the rule of the two faces.
use Rattle.std.proofs.Common.{◌≡◌, ℕ, ◌≢◌, true, false, List, [], ◌∷◌, ◌++◌, set, refl, sym, ◌∙◌, ap, subst, ⊎_elim}
use mathlib.Core.Option.{some, some-ne-none}
use lib.ListN.{get_elem?}
use Rattle.left_right.specs.Register.{Admits, Turns, TurnsAt, Forks, Merges}
use Rattle.atomic_table.proofs.Lists.{at_set, at_snoc, set_again}
use Rattle.view_changes.specs.declared.change.LaneChange.{LaneChange}
use Rattle.view_changes.specs.Views.{View, view_after}
use Rattle.generation_guard.specs.Histories.{Beginning}
use Rattle.generation_guard.specs.declared.face.Face.{Face}
use Rattle.generation_guard.specs.declared.face.ShelfId.{ShelfId}
use Rattle.generation_guard.specs.declared.rule.Tag.{Tag}
use Rattle.generation_guard.specs.Faces.{shown_by}
use Rattle.generation_guard.specs.Seats.{Agrees, AllKnow, IsOf, TakesFace, NamesShelf, nothing, knows}

false-is-not-true : (A : Type 0) → false ≡ true → A
false-is-not-true A e = cc

pub takes : (place : ℕ) (t : Tag) → Turns Agrees place t (λ x. x) TakesFace
takes place t x tags h at = (
  t,
  subst (λ (ts : List Tag). Agrees x ts) (sym (set_again tags place t at)) h,
  (refl, refl, (λ known. subst (λ (i : ShelfId). IsOf i x) (sym (h.2 place t at known)) h.1)),
)

pub admits : Admits Agrees nothing
admits x tags h = (
  h.0,
  h.1,
  (λ place t at known. ⊎_elim (λ (e : get_elem? tags place ≡ some t). h.2 place t e known) (λ (e : nothing ≡ t). false-is-not-true _ (ap (λ (u : Tag). u.known) e ∙ known)) (at_snoc tags nothing t place at)),
)

know_set : (i : ShelfId) (tags : List Tag) (place : ℕ) (t : Tag) → AllKnow i tags → (t.known ≡ true → t.shelf ≡ i) → AllKnow i (set tags place t)
know_set i tags place t h fits j u at known =
    ⊎_elim (λ (p : (j ≡ place) × (t ≡ u)). subst (λ (v : Tag). v.known ≡ true → v.shelf ≡ i) p.1 fits known) (λ (p : (j ≢ place) × (get_elem? tags j ≡ some u)). h j u p.1 known) (at_set tags place j t u at)

know_snoc : (i : ShelfId) (tags : List Tag) (t : Tag) → AllKnow i tags → (t.known ≡ true → t.shelf ≡ i) → AllKnow i (tags ++ t ∷ [])
know_snoc i tags t h fits j u at known =
    ⊎_elim (λ (e : get_elem? tags j ≡ some u). h j u e known) (λ (e : t ≡ u). subst (λ (v : Tag). v.known ≡ true → v.shelf ≡ i) e fits known) (at_snoc tags t u j at)

pub forks : (place : ℕ) (t : Tag) → Forks Agrees place t t t
forks place t x tags h at = (h.0, h.1, know_snoc h.0 (set tags place t) t (know_set h.0 tags place t h.2 (h.2 place t at)) (h.2 place t at))

pub merges : (place : ℕ) (t : Tag) (other : ℕ) (u : Tag) → Merges Agrees place t other u u nothing
merges place t other u x tags h at apart there =
    let fits : u.known ≡ true → u.shelf ≡ h.0 = ⊎_elim (λ (p : (other ≡ place) × (u ≡ u)). absurd (apart p.0)) (λ (p : (other ≢ place) × (get_elem? tags other ≡ some u)). h.2 other u p.1) (at_set tags place other u u there) in
    (h.0, h.1, know_set h.0 (set tags place u) other nothing (know_set h.0 tags place u h.2 fits) (λ e. false-is-not-true _ e))

-- faces that show the same are of the same shelf
pub same_face : (i : ShelfId) (x y : Face) → shown_by y ≡ shown_by x → IsOf i x → IsOf i y
same_face i x y e h = (
  ap (λ (s : View × Beginning). s.1.history) e ∙ h.0,
  ap (λ (s : View × Beginning). s.0) e ∙ (h.1 ∙ ap (λ (cs : List LaneChange). view_after i.opening cs) (sym (ap (λ (s : View × Beginning). s.1.changes) e))),
)

pub names : (place : ℕ) (t : Tag) (x y : Face) → shown_by y ≡ shown_by x → TurnsAt Agrees place t x y NamesShelf
names place t x y e tags h at = (
  knows h.0,
  (h.0, same_face h.0 x y e h.1, know_set h.0 tags place (knows h.0) h.2 (λ _. refl)),
  (refl, same_face h.0 x y e h.1),
)

-- the writer knows the shelf that the next face is of
pub shows_next : (place : ℕ) (i : ShelfId) (x y : Face) → IsOf i y → TurnsAt Agrees place (knows i) x y (λ t _ _ u. u ≡ t)
shows_next place i x y next tags h at =
    let is : i ≡ h.0 = h.2 place (knows i) at refl in
    (knows i, (i, next, know_set i tags place (knows i) (subst (λ (j : ShelfId). AllKnow j tags) (sym is) h.2) (λ _. refl)), refl)

-- before anyone knows the shelf
pub first_agrees : (x : Face) → x.front.changes ≡ [] → Agrees x (nothing ∷ [])
first_agrees x none =
    let i : ShelfId = record { opening = x.view; history = x.front.history } in (
      i,
      (refl, ap (λ (cs : List LaneChange). view_after x.view cs) (sym none)),
      (λ place t at known. ⊎_elim (λ (e : get_elem? {A = Tag} [] place ≡ some t). absurd (some-ne-none t (sym e))) (λ (e : nothing ≡ t). false-is-not-true _ (ap (λ (u : Tag). u.known) e ∙ known)) (at_snoc [] nothing t place at)),
    )
