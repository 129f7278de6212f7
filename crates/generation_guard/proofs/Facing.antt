-- What steps make of a face.
use Rattle.std.proofs.Common.{◌≡◌, List, [], ◌∷◌, ◌++◌, fold, refl, sym, ◌∙◌, ap, subst, Result, Ok, Err, MatchResult}
use Rattle.std.proofs.lemmas.List.{append-nil}
use Rattle.std.specs.declared.alloc.AllocError.{AllocError}
use Rattle.view_changes.specs.declared.change.LaneChange.{LaneChange}
use Rattle.view_changes.specs.Views.{View, changed, view_after}
use Rattle.generation_guard.specs.Histories.{Beginning}
use Rattle.generation_guard.specs.declared.face.Face.{Face}
use Rattle.generation_guard.specs.declared.face.ShelfId.{ShelfId}
use Rattle.generation_guard.specs.declared.face.FaceStep.{FaceStep}
use Rattle.generation_guard.specs.declared.face.FaceStep.TheVariants.{Change, Reach}
use Rattle.generation_guard.specs.declared.rule.Tag.{Tag}
use Rattle.generation_guard.specs.Faces.{shown_by, stepped, changes_in}
use Rattle.generation_guard.specs.Seats.{IsOf, KeepsTag, IsNamed, IsAhead}

pub changes_in-append : (ss ts : List FaceStep) → changes_in (ss ++ ts) ≡ changes_in ss ++ changes_in ts
changes_in-append [] ts = refl
changes_in-append (Change c ∷ ss) ts = ap (λ (cs : List LaneChange). c ∷ cs) (changes_in-append ss ts)
changes_in-append (Reach f ∷ ss) ts = changes_in-append ss ts

view_after-append : (v : View) (cs ds : List LaneChange) → view_after v (cs ++ ds) ≡ view_after (view_after v cs) ds
view_after-append v [] ds = refl
view_after-append v (c ∷ cs) ds = view_after-append (changed v c) cs ds

-- steps, and then a front
fold-stepped : (s : View × Beginning) (ss : List FaceStep) (f : Beginning) → fold stepped s (ss ++ Reach f ∷ []) ≡ (view_after s.0 (changes_in ss), f)
fold-stepped s [] f = refl
fold-stepped s (Change c ∷ ss) f = fold-stepped (stepped s (Change c)) ss f
fold-stepped s (Reach g ∷ ss) f = fold-stepped (stepped s (Reach g)) ss f

-- the next face is of the same shelf, and shows the front
pub next_face : (i : ShelfId) (x y : Face) (ss : List FaceStep) (f : Beginning) → IsOf i x → IsAhead i x ss f
    → shown_by y ≡ fold stepped (shown_by x) (ss ++ Reach f ∷ []) → IsOf i y × (y.front ≡ f)
next_face i x y ss f h ahead is =
    let all : shown_by y ≡ (view_after x.view (changes_in ss), f) = is ∙ fold-stepped (shown_by x) ss f in
    let same : y.front ≡ f = ap (λ (s : View × Beginning). s.1) all in
    let sees : y.view ≡ view_after x.view (changes_in ss) = ap (λ (s : View × Beginning). s.0) all in
    let from : view_after x.view (changes_in ss) ≡ view_after (view_after i.opening x.front.changes) (changes_in ss) = ap (λ (v : View). view_after v (changes_in ss)) h.1 in
    let to : x.front.changes ++ changes_in ss ≡ y.front.changes = sym (ap (λ (b : Beginning). b.changes) same ∙ ahead.changes) in (
      (
        ap (λ (b : Beginning). b.history) same ∙ ahead.of_shelf,
        sees ∙ (from ∙ (sym (view_after-append i.opening x.front.changes (changes_in ss)) ∙ ap (λ (cs : List LaneChange). view_after i.opening cs) to)),
      ),
      same,
    )

-- a publication, which showed all or nothing
turned_at : (r : Result (Unit {0}) AllocError) (t t' : Tag) (x x' : Face) (ss old ss' : List FaceStep) (f : Beginning) → IsNamed t x → IsAhead t.shelf x old f → ss ≡ old ++ Reach f ∷ []
    → MatchResult r (λ _. (shown_by x' ≡ fold stepped (shown_by x) ss) × (ss' ≡ [])) (λ _. (x' ≡ x) × (ss' ≡ ss))
    → MatchResult r (λ _. t' ≡ t) (λ _. t' ≡ t)
    → IsNamed t' x' × (t'.shelf ≡ t.shelf)
    × MatchResult r (λ _. (x'.front.changes ≡ f.changes) × (changes_in ss' ≡ [])) (λ _. (x'.front.changes ≡ x.front.changes) × (changes_in ss' ≡ changes_in old))
turned_at (Ok u) t t' x x' ss old ss' f named ahead is values rule =
    let all : shown_by x' ≡ fold stepped (shown_by x) (old ++ Reach f ∷ []) = values.0 ∙ ap (λ (ps : List FaceStep). fold stepped (shown_by x) ps) is in
    let next = next_face t.shelf x x' old f named.is_of ahead all in
    let P : Tag → Type 0 = λ s. IsNamed s x' in (
      subst P (sym rule) (record { known = named.known; is_of = next.0 }),
      ap (λ (s : Tag). s.shelf) rule,
      (ap (λ (b : Beginning). b.changes) next.1, ap changes_in values.1),
    )
turned_at (Err e) t t' x x' ss old ss' f named ahead is values rule =
    let P : Tag → Type 0 = λ s. IsNamed s x' in
    let Q : Face → Type 0 = λ y. IsNamed t y in (
      subst P (sym rule) (subst Q (sym values.0) named),
      ap (λ (s : Tag). s.shelf) rule,
      (ap (λ (y : Face). y.front.changes) values.0, ap changes_in (values.1 ∙ is) ∙ (changes_in-append old (Reach f ∷ []) ∙ append-nil (changes_in old))),
    )

pub turned : (r : Result (Unit {0}) AllocError) (t₀ t t' : Tag) (x₀ x x' : Face) (ss old ss' : List FaceStep) (f : Beginning) → IsNamed t₀ x₀ → IsAhead t₀.shelf x₀ old f → ss ≡ old ++ Reach f ∷ []
    → t ≡ t₀ → x ≡ x₀
    → MatchResult r (λ _. (shown_by x' ≡ fold stepped (shown_by x) ss) × (ss' ≡ [])) (λ _. (x' ≡ x) × (ss' ≡ ss))
    → MatchResult r (λ _. KeepsTag t x x' t') (λ _. t' ≡ t)
    → IsNamed t' x' × (t'.shelf ≡ t₀.shelf)
    × MatchResult r (λ _. (x'.front.changes ≡ f.changes) × (changes_in ss' ≡ [])) (λ _. (x'.front.changes ≡ x₀.front.changes) × (changes_in ss' ≡ changes_in old))
turned r t₀ t t' x₀ x x' ss old ss' f named ahead is tags faces values rule =
    let V : Face → Type 0 = λ y. MatchResult r (λ _. (shown_by x' ≡ fold stepped (shown_by y) ss) × (ss' ≡ [])) (λ _. (x' ≡ y) × (ss' ≡ ss)) in
    let T : Tag → Type 0 = λ s. MatchResult r (λ _. t' ≡ s) (λ _. t' ≡ s) in
    turned_at r t₀ t' x₀ x' ss old ss' f named ahead is (subst V faces values) (subst T tags rule)
