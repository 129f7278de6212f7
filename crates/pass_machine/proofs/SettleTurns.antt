-- Each turn of a row that is settled is one or two of those in the abstract.
use Rattle.std.proofs.Common.{◌≡◌, ◌∙◌, ◌==◌, ◌&&◌, ◌||◌, not, ◌<◌, ℕ, suc, ◌+◌, Bool, true, false, List, [], ◌∷◌, Option, Some, None, refl, sym, ap, ap₂, subst, eqb-true, ◌⊎◌, inl, inr, arith, nat_lt, slice_get, if◌then◌else◌}
use Rattle.std.specs.Prelude.{is_some, Contains, take}
use Rattle.std.specs.List.{find}
use Rattle.std.specs.BTreeMap.{BTreeMap}
use Rattle.std.proofs.lemmas.Bool.Decides.{nat_tests}
use Rattle.std.proofs.lemmas.List.Elements.{Contains-append_right}
use mathlib.Core.Bool.{true≢false}
use Rattle.bucket_ids.specs.Buckets.{Low, IsBucket}
use Rattle.node_sets.specs.Members.{has_node}
use Rattle.cluster_states.specs.Publishing.{serves}
use Rattle.ideal_nodes.specs.Placement.{IsIdeal}
use Rattle.messages.specs.declared.body.Body.{Body}
use Rattle.messages.specs.declared.body.Body.TheVariants as body
use Rattle.bucket_db.specs.declared.row.Row.{Row}
use Rattle.bucket_db.specs.declared.row.Deleting.{Deleting as Delete}
use Rattle.lane_journals.specs.Readers.{or_else}
use Rattle.pass_model.specs.Nodes.{Node, can_ready}
use Rattle.pass_model.specs.Shapes.{Shape, Nothing, Same, Over as ShowedOver, Inside as ShowedInside, is_same, is_askew, shape_beside}
use Rattle.lane_rest.specs.Targets.{is_member, is_active, is_target_in}
use Rattle.pass_model.specs.Rows as rest
use Rattle.pass_model.specs.Rows.{Settings}
use Rattle.pass_model.specs.Passes.{World}
use Rattle.pass_model.specs.Settling as place
use Rattle.pass_model.specs.Settling.{first_in, needs_align, activate_nodes, could_activate}
use Rattle.pass_model.specs.Scripts.{told_body, told_node}
use Rattle.pass_model.specs.Turns as turns
use Rattle.pass_model.specs.Turns.{Stand, stand, told, turn_at, by_row, with_place_row, round_of, align_one, ready_one, if_answered, accepted_if, unmarked, activate_then, does_lose}
use Rattle.pass_model.proofs.RowLists.{set-same}
use Rattle.pass_machine.specs.declared.doing.Time.{Time}
use Rattle.pass_machine.specs.declared.doing.Time.TheVariants.{First, Again}
use Rattle.pass_machine.specs.declared.doing.Settle.{Settle}
use Rattle.pass_machine.specs.declared.doing.Settle.TheVariants as settle
use Rattle.pass_machine.specs.declared.doing.Doing.{Doing}
use Rattle.pass_machine.specs.declared.doing.Doing.TheVariants.{Settling}
use Rattle.pass_machine.specs.declared.doing.UpkeepStep.TheVariants as step
use Rattle.pass_machine.specs.declared.doing.Turn.{Turn}
use Rattle.pass_machine.specs.declared.doing.Turn.TheVariants.{Over, Says}
use Rattle.pass_machine.specs.declared.notes.Exact.{Exact}
use Rattle.pass_machine.specs.declared.notes.RowNote.{RowNote}
use Rattle.pass_machine.specs.Settling as row
use Rattle.pass_machine.specs.Settling.{next_row, next_node, alignment_in, tell_or, activate_or, tell_active, delete_or, tell_delete, end_delete, serial_to_lose, serial_among, serial_of}
use Rattle.pass_machine.specs.Turns.{View, is_due, is_asked, is_target, to_be_active, to_be_active_in, beginning, settle_turn}
use Rattle.pass_machine.proofs.Ideals.{searched_are, asked_serves}
use Rattle.pass_machine.specs.Abstract.{time_of, doing_of, AreMade, shape_in, shown_in, is_accepted, row_with, Shows, IsParted, Agrees, IsPlace, Refines}

-- ---- turns

pub one-turn : (s : Settings) (d : turns.Doing) (w : World) (y : Stand) → turn_at s d w ≡ y → turns.turns s 1 (stand d w) ≡ y
unfolding turns.turns turns.turn
one-turn s d w y h = h

pub two-turns : (s : Settings) (d e : turns.Doing) (w : World) (y : Stand) → turn_at s d w ≡ stand e w → turn_at s e w ≡ y → turns.turns s 2 (stand d w) ≡ y
unfolding turns.turns turns.turn
two-turns s d e w y h i = ap (λ (x : Stand). turn_at s x.doing x.world) h ∙ i

below : (n : ℕ) → n < 32 → nat_lt n 32 ≡ true
below n h = grind (arith, nat_tests)

pub next-one : (n : ℕ) → suc n ≡ n + 1
next-one n = omega arith

-- ---- a message to one node

-- one that changes nothing
pub told-none : (n : ℕ) (f : ℕ → Node → Node) (w : World) → ((x : Node) → f n x ≡ x) → told n f w ≡ w
told-none n f w h = λ i. record { nodes = λ k. same k i; rows = w.rows }
  where
    same : (k : ℕ) → (if k == n then f k (w.nodes k) else w.nodes k) ≡ w.nodes k
    same k = by_test (k == n) refl
      where
        by_test : (t : Bool) → (k == n) ≡ t → (if t then f k (w.nodes k) else w.nodes k) ≡ w.nodes k
        by_test true e = subst (λ (j : ℕ). f j (w.nodes k) ≡ w.nodes k) (sym (eqb-true k n e)) (h (w.nodes k))
        by_test false e = refl

pub told-one : (n : ℕ) (f : ℕ → Node → Node) (b : Body) (w : World) → ((x : Node) → f n x ≡ told_body b x) → told n f w ≡ record { nodes = told_node n b w.nodes; rows = w.rows }
told-one n f b w h = λ i. record { nodes = λ k. same k i; rows = w.rows }
  where
    same : (k : ℕ) → (if k == n then f k (w.nodes k) else w.nodes k) ≡ (if k == n then told_body b (w.nodes k) else w.nodes k)
    same k = by_test (k == n) refl
      where
        by_test : (t : Bool) → (k == n) ≡ t → (if t then f k (w.nodes k) else w.nodes k) ≡ (if t then told_body b (w.nodes k) else w.nodes k)
        by_test true e = subst (λ (j : ℕ). f j (w.nodes k) ≡ told_body b (w.nodes k)) (sym (eqb-true k n e)) (h (w.nodes k))
        by_test false e = refl

-- ---- what brings a node in line

abbrev told_by : Low → Shape → Option Body
told_by b ShowedOver = Some (body.Split b)
told_by b ShowedInside = Some (body.Join b)
told_by b _ = None

-- ---- what is found in a list

pub find-in : (n : ℕ) (ys : List Exact) (y : Exact) → find (λ (z : Exact). z.node == n) ys ≡ Some y → Contains ys y × (y.node ≡ n)
find-in n [] y h = cc
find-in n (x ∷ xs) y h = by_test (λ f. find-in n xs y f) (x.node == n) refl h
  where
    by_test : (find (λ (z : Exact). z.node == n) xs ≡ Some y → Contains xs y × (y.node ≡ n)) → (t : Bool) → (x.node == n) ≡ t → (if t then Some x else find (λ (z : Exact). z.node == n) xs) ≡ Some y → Contains (x ∷ xs) y × (y.node ≡ n)
    by_test rest true e f = let same : x ≡ y = cc in ((0, omega arith, same), ap (λ (z : Exact). z.node) (sym same) ∙ eqb-true x.node n e)
    by_test rest false e f = let found = rest f in (Contains-append_right (x ∷ []) xs y found.0, found.1)

pub eqb-sym : (m n : ℕ) → (m == n) ≡ (n == m)
eqb-sym m n = grind (arith, nat_tests)

-- ---- the active node

active-stays : (a : Option ℕ) (ready : Bool) (be : Option ℕ) → (if ready && not (is_some a) then be else None) ≡ None → or_else a (if_answered ready be) ≡ a
active-stays None true be h = h
active-stays None false be h = refl
active-stays (Some n) ready be h = refl

active-new : (a : Option ℕ) (ready : Bool) (be : Option ℕ) (n : ℕ) (accepted : Bool) → (if ready && not (is_some a) then be else None) ≡ Some n → (or_else a (if_answered ready be) ≡ Some n) × (is_accepted a accepted ≡ false)
active-new None true be n accepted h = (h, refl)
active-new None false be n accepted h = cc
active-new (Some m) true be n accepted h = cc
active-new (Some m) false be n accepted h = cc

pub or-none : (t : Bool) → (t || false) ≡ t
or-none true = refl
or-none false = refl

-- ---- a row that is settled

module _ (v : View) (s : Settings) (made : BTreeMap ℕ (Unit {0})) (list : List Low) (are_made : AreMade made list) (w : World) (t : Time) (at : ℕ) (r : Row) (note : RowNote) (shown : ℕ → Shape)
    (agrees : Agrees v s) (found : slice_get v.rows at ≡ Some r) (valid : IsBucket r.bucket) (serving : (n : ℕ) → r.active ≡ Some n → serves v.state n ≡ true) (parted : IsParted (serves v.state) note)
    (shows : Shows (serves v.state) note shown) (seen : slice_get w.rows at ≡ Some (row_with shown (Some note) r)) (ideals : IsIdeal r.bucket v.state (v.ideal r.bucket)) where
  abbrev one : rest.Row
  one = row_with shown (Some note) r

  abbrev at-step : Settle → Doing
  at-step next = Settling t at next

  abbrev time : turns.Time
  time = time_of list t

  abbrev Does : Settle → Turn → Type 0
  Does next x = Refines v s list w r note shown (at-step next) x

  by-seen : (x : Stand) (f : rest.Row → Stand) → by_row (slice_get w.rows at) x f ≡ f one
  by-seen x f = ap (λ (o : Option rest.Row). by_row o x f) seen

  over : (next : Settle) (e : Doing) → turn_at s (doing_of list (at-step next)) w ≡ stand (doing_of list e) w → Does next (Over e)
  over next e h = (1, one-turn s (doing_of list (at-step next)) w (stand (doing_of list e) w) h)

  -- ---- the beginning

  due-same : (u : Time) → turns.is_due (time_of list u) r.bucket ≡ is_due made u r.bucket
  due-same First = refl
  due-same Again = are_made r.bucket valid

  to-next : stand (turns.Settling time (suc at)) w ≡ stand (doing_of list (next_row t at)) w
  to-next = ap (λ (k : ℕ). stand (turns.Settling time k) w) (next-one at)

  begins : Does settle.Beginning (Over (beginning made t at r.bucket))
  begins = over settle.Beginning (beginning made t at r.bucket)
      (by-seen (turns.end_settling time w) (turns.settle_next time at w)
      ∙ (ap (λ (u : Bool). if u then stand (turns.Aligning time at 0 false) w else stand (turns.Settling time (suc at)) w) (due-same t) ∙ by_due (is_due made t r.bucket)))
    where
      by_due : (u : Bool) → (if u then stand (turns.Aligning time at 0 false) w else stand (turns.Settling time (suc at)) w) ≡ stand (doing_of list (if u then at-step (settle.Aligning 0 false) else next_row t at)) w
      by_due true = refl
      by_due false = to-next

  -- ---- align

  shown-askew : (n : ℕ) → serves v.state n ≡ true → (if has_node note.over n then Some (body.Split r.bucket) else (if has_node note.inside n then Some (body.Join r.bucket) else None)) ≡ told_by r.bucket (shown n)
  shown-askew n h = by_over (has_node note.over n) refl ∙ ap (told_by r.bucket) (sym (shows n h))
    where
      by_inside : (x : Bool) (o : Option Exact) → has_node note.inside n ≡ x → find (λ (y : Exact). y.node == n) note.exact.items ≡ o → has_node note.over n ≡ false → (if x then Some (body.Join r.bucket) else None) ≡ told_by r.bucket (shown_in note n)
      by_inside true None e f g = ap (λ (k : Shape). told_by r.bucket k) (sym (ap (λ (o : Option Exact). shape_in o note n) f ∙ ap₂ (λ a b. shape_beside a b) g e))
      by_inside true (Some y) e f g =
          let same : shown_in note n ≡ Same y.serial = ap (λ (o : Option Exact). shape_in o note n) f in
          elim (parted.inside n e).1 [ inl a ↦ absurd (let no : Same y.serial ≡ ShowedOver = sym same ∙ a in cc) | inr a ↦ absurd (let no : Same y.serial ≡ ShowedInside = sym same ∙ a in cc) ]
      by_inside false None e f g = ap (λ (k : Shape). told_by r.bucket k) (sym (ap (λ (o : Option Exact). shape_in o note n) f ∙ ap₂ (λ a b. shape_beside a b) g e))
      by_inside false (Some y) e f g = ap (λ (k : Shape). told_by r.bucket k) (sym (ap (λ (o : Option Exact). shape_in o note n) f))

      by_over : (x : Bool) → has_node note.over n ≡ x → (if x then Some (body.Split r.bucket) else (if has_node note.inside n then Some (body.Join r.bucket) else None)) ≡ told_by r.bucket (shown_in note n)
      by_over true e = ap (told_by r.bucket) (sym (parted.over n e).1)
      by_over false e = by_inside (has_node note.inside n) (find (λ (y : Exact). y.node == n) note.exact.items) refl refl e

  module _ (n : ℕ) (any : Bool) where
    abbrev align-turn : Bool → Stand
    align-turn needs = stand (turns.Aligning time at (suc n) (needs || any)) (told n (align_one s one) w)

    align-small : n < 32 → turn_at s (doing_of list (at-step (settle.Aligning n any))) w ≡ align-turn (needs_align s one n)
    align-small h = by-seen (stand (turns.Settling time (suc at)) w) (turns.aligning s time at n any w)
        ∙ ap (λ (u : Bool). if u then align-turn (needs_align s one n) else (if any then stand (turns.AlignRound time at) w else stand (turns.Readying time at 0 false) w)) (below n h)

    align-skips : n < 32 → needs_align s one n ≡ false → Does (settle.Aligning n any) (Over (at-step (settle.Aligning (n + 1) any)))
    align-skips h idle = over (settle.Aligning n any) (at-step (settle.Aligning (n + 1) any))
        (align-small h ∙ ap₂ (λ (d : turns.Doing) (x : World). stand d x) (ap₂ (λ (k : ℕ) (u : Bool). turns.Aligning time at k (u || any)) (next-one n) idle)
        (told-none n (align_one s one) w (λ x. ap (λ (u : Bool). if u then place.aligned r.bucket (shown n) x else x) idle)))

    align-tells : n < 32 → needs_align s one n ≡ true → (b : Body) → ((x : Node) → place.aligned r.bucket (shown n) x ≡ told_body b x) → Does (settle.Aligning n any) (Says (step.Tell n b))
    align-tells h need b tells =
        align-small h ∙ ap₂ (λ (d : turns.Doing) (x : World). stand d x) (ap₂ (λ (k : ℕ) (u : Bool). turns.Aligning time at k (u || any)) (next-one n) need)
        (told-one n (align_one s one) b w (λ x. ap (λ (u : Bool). if u then place.aligned r.bucket (shown n) x else x) need ∙ tells x))

    needs : (a h : Bool) (k : Shape) → serves v.state n ≡ a → has_node note.holders n ≡ h → shown n ≡ k → needs_align s one n ≡ ((a && not h) && is_askew k)
    needs a h k e f g = ap₂ (λ (x : Bool) (y : Bool). x && y) (ap₂ (λ (x : Bool) (y : Bool). x && not y) (agrees.serving n ∙ e) f) (ap is_askew g)

    align-case : n < 32 → (a h : Bool) (k : Shape) → serves v.state n ≡ a → has_node note.holders n ≡ h → shown n ≡ k
        → Does (settle.Aligning n any) (tell_or n (if a then (if h then None else told_by r.bucket k) else None) (at-step (settle.Aligning (n + 1) any)))
    align-case small false h k e f g = align-skips small (needs false h k e f g)
    align-case small true true k e f g = align-skips small (needs true true k e f g)
    align-case small true false Nothing e f g = align-skips small (needs true false Nothing e f g)
    align-case small true false (Same x) e f g = align-skips small (needs true false (Same x) e f g)
    align-case small true false ShowedOver e f g = align-tells small (needs true false ShowedOver e f g) (body.Split r.bucket) (λ x. ap (λ (k : Shape). place.aligned r.bucket k x) g)
    align-case small true false ShowedInside e f g = align-tells small (needs true false ShowedInside e f g) (body.Join r.bucket) (λ x. ap (λ (k : Shape). place.aligned r.bucket k x) g)

    align-over : (x : Bool) → (if x then stand (turns.AlignRound time at) w else stand (turns.Readying time at 0 false) w) ≡ stand (doing_of list (row.aligned t at x)) w
    align-over true = refl
    align-over false = refl

    aligns : Does (settle.Aligning n any) (row.aligning t at r.bucket note (serves v.state n) n any)
    aligns = by_test (nat_lt n 32) refl
      where
        by_serves : (a : Bool) → serves v.state n ≡ a → n < 32 → Does (settle.Aligning n any) (tell_or n (if a then alignment_in r.bucket note n else None) (at-step (settle.Aligning (n + 1) any)))
        by_serves false e h = align-case h false (has_node note.holders n) (shown n) e refl refl
        by_serves true e h = subst (λ (x : Option Body). Does (settle.Aligning n any) (tell_or n (if has_node note.holders n then None else x) (at-step (settle.Aligning (n + 1) any)))) (sym (shown-askew n e))
            (align-case h true (has_node note.holders n) (shown n) e refl refl)

        by_test : (x : Bool) → nat_lt n 32 ≡ x → Does (settle.Aligning n any) (if x then tell_or n (if serves v.state n then alignment_in r.bucket note n else None) (at-step (settle.Aligning (n + 1) any)) else Over (row.aligned t at any))
        by_test true e = by_serves (serves v.state n) refl (grind (arith, nat_tests))
        by_test false e = over (settle.Aligning n any) (row.aligned t at any)
            (by-seen (stand (turns.Settling time (suc at)) w) (turns.aligning s time at n any w)
            ∙ (ap (λ (u : Bool). if u then align-turn (needs_align s one n) else (if any then stand (turns.AlignRound time at) w else stand (turns.Readying time at 0 false) w)) e ∙ align-over any))

  align-rounds : Does settle.AlignRound (Says (step.Round at))
  align-rounds = by-seen (stand (turns.Settling time (suc at)) w) (λ q. stand (turns.Readying time at 0 false) (round_of s at q w))

  -- ---- ready

  abbrev be : Option ℕ
  be = to_be_active v r

  be-same : place.to_be_active s one ≡ be
  be-same = ap (λ (f : Low → List ℕ). or_else r.active (first_in (f r.bucket) (λ n. has_node r.complete n))) agrees.ideal

  asked-same : (n : ℕ) → place.is_asked s one n ≡ is_asked v r n
  asked-same n =
      ap₂ (λ (ns : List ℕ) (a : Option ℕ). is_member ns n || is_active a n)
      (searched_are s.searchable s.redundancy agrees.searched (s.ideal r.bucket) r.active ∙ ap₂ (λ (k : ℕ) (f : Low → List ℕ). take k (f r.bucket)) agrees.searchable agrees.ideal) be-same
      ∙ by_test (is_member (take (v.rules).searchable (v.ideal r.bucket)) n || is_active be n) refl
    where
      by_test : (x : Bool) → (is_member (take (v.rules).searchable (v.ideal r.bucket)) n || is_active be n) ≡ x → x ≡ (serves v.state n && x)
      by_test true e = sym (ap (λ (u : Bool). u && true) (asked_serves r.bucket v.state (v.ideal r.bucket) ideals r.complete r.active serving (v.rules).searchable n e))
      by_test false e = sym (and-false (serves v.state n))
        where
          and-false : (u : Bool) → (u && false) ≡ false
          and-false true = refl
          and-false false = refl

  or-left : (a b : Bool) → (a || b) ≡ false → b ≡ false
  or-left true b h = absurd (true≢false h)
  or-left false b h = h

  module _ (n : ℕ) (ready : Bool) where
    abbrev ready-turn : Stand
    ready-turn = stand (turns.Readying time at (suc n) (if is_active (place.to_be_active s one) n then can_ready r.bucket (w.nodes n) else ready)) (told n (ready_one s one) w)

    ready-small : n < 32 → turn_at s (doing_of list (at-step (settle.Readying n ready))) w ≡ ready-turn
    ready-small h = by-seen (stand (turns.Settling time (suc at)) w) (turns.readying s time at n ready w) ∙ ap (λ (u : Bool). if u then ready-turn else stand (turns.Deciding time at ready) w) (below n h)

    -- one that isn't asked isn't to be active
    idle-active : place.is_asked s one n ≡ false → is_active (place.to_be_active s one) n ≡ false
    idle-active idle = or-left (rest.is_searched s one n) (is_active (place.to_be_active s one) n) idle

    ready-skips : n < 32 → place.is_asked s one n ≡ false → Does (settle.Readying n ready) (Over (at-step (settle.Readying (n + 1) ready)))
    ready-skips h idle = over (settle.Readying n ready) (at-step (settle.Readying (n + 1) ready))
        (ready-small h ∙ ap₂ (λ (d : turns.Doing) (x : World). stand d x)
        (ap₂ (λ (k : ℕ) (u : Bool). turns.Readying time at k (if u then can_ready r.bucket (w.nodes n) else ready)) (next-one n) (idle-active idle))
        (told-none n (ready_one s one) w (λ x. ap (λ (u : Bool). if u then told_body (body.Ready r.bucket) x else x) idle)))

    ready-tells : n < 32 → place.is_asked s one n ≡ true → Does (settle.Readying n ready) (Says (step.Tell n (body.Ready r.bucket)))
    ready-tells h asked =
        ready-small h ∙ ap₂ (λ (d : turns.Doing) (x : World). stand d x)
        (ap₂ (λ (k : ℕ) (u : Bool). turns.Readying time at k (if u then can_ready r.bucket (w.nodes n) else ready)) (next-one n)
        (ap (λ (a : Option ℕ). is_active a n) be-same ∙ ap (λ (o : Option Row). is_active (to_be_active_in v o) n) (sym found)))
        (told-one n (ready_one s one) (body.Ready r.bucket) w (λ x. ap (λ (u : Bool). if u then told_body (body.Ready r.bucket) x else x) asked))

    readies : Does (settle.Readying n ready) (row.readying t at r.bucket (is_asked v r n) n ready)
    readies = by_test (nat_lt n 32) refl
      where
        by_asked : n < 32 → (a : Bool) → is_asked v r n ≡ a → Does (settle.Readying n ready) (if a then Says (step.Tell n (body.Ready r.bucket)) else Over (at-step (settle.Readying (n + 1) ready)))
        by_asked h true e = ready-tells h (asked-same n ∙ e)
        by_asked h false e = ready-skips h (asked-same n ∙ e)

        by_test : (x : Bool) → nat_lt n 32 ≡ x → Does (settle.Readying n ready) (if x then (if is_asked v r n then Says (step.Tell n (body.Ready r.bucket)) else Over (at-step (settle.Readying (n + 1) ready))) else Over (at-step (settle.Deciding ready)))
        by_test true e = by_asked (grind (arith, nat_tests)) (is_asked v r n) refl
        by_test false e = over (settle.Readying n ready) (at-step (settle.Deciding ready))
            (by-seen (stand (turns.Settling time (suc at)) w) (turns.readying s time at n ready w) ∙ ap (λ (u : Bool). if u then ready-turn else stand (turns.Deciding time at ready) w) e)

  -- ---- the active node

  abbrev with_active : Option ℕ → Bool → rest.Row
  with_active a accepted = record { bucket = r.bucket; complete = λ n. has_node r.complete n; active = a; accepted = accepted; documents = note.documents; holders = λ n. has_node note.holders n; shown = shown }

  -- the row is put back as it was
  back : (q : rest.Row) → q ≡ one → with_place_row at q w ≡ w
  back q same = ap (λ (x : rest.Row). with_place_row at x w) same ∙ ap (λ (rows : List rest.Row). record { nodes = w.nodes; rows = rows }) (set-same w.rows at one seen)

  decides : (ready : Bool) → Does (settle.Deciding ready) (row.deciding t at r be ready)
  decides ready = by_node (if ready && not (is_some r.active) then be else None) refl
    where
      turns-to : turn_at s (doing_of list (at-step (settle.Deciding ready))) w ≡ stand (turns.Activating time at) (with_place_row at (with_active (or_else r.active (if_answered ready be)) (is_accepted r.active r.accepted)) w)
      turns-to = by-seen (stand (turns.Settling time (suc at)) w) (λ q. stand (turns.Activating time at) (with_place_row at (turns.decided s ready q) w))
          ∙ ap (λ (a : Option ℕ). stand (turns.Activating time at) (with_place_row at (with_active (or_else r.active (if_answered ready a)) (is_accepted r.active r.accepted)) w)) be-same

      by_node : (x : Option ℕ) → (if ready && not (is_some r.active) then be else None) ≡ x → Does (settle.Deciding ready) (activate_or at r.bucket x (at-step settle.Activating))
      by_node None e = over (settle.Deciding ready) (at-step settle.Activating)
          (turns-to ∙ ap (λ (x : World). stand (turns.Activating time at) x) (back (with_active (or_else r.active (if_answered ready be)) (is_accepted r.active r.accepted)) (ap (λ (a : Option ℕ). with_active a (is_accepted r.active r.accepted)) (active-stays r.active ready be e))))
      by_node (Some n) e = λ marks left.
          let x = active-new r.active ready be n r.accepted e in
          turns-to ∙ ap₂ (λ (a : Option ℕ) (accepted : Bool). stand (turns.Activating time at) (with_place_row at (with_active a accepted) w)) x.0 x.1

  -- no more than is said once it accepted, or where none is active
  module _ (quiet : (not (is_accepted r.active r.accepted) && true ≡ false) ⊎ (r.active ≡ None)) where
    still-nodes : (n : ℕ) → activate_nodes one w.nodes n ≡ w.nodes n
    still-nodes n = elim quiet [
      | inl told ↦ ap (λ (u : Bool). if u && is_active r.active n then told_body (body.Activate r.bucket) (w.nodes n) else w.nodes n) (and-one (not (is_accepted r.active r.accepted)) told)
      | inr none ↦ ap (λ (a : Option ℕ). if not (is_accepted a r.accepted) && is_active a n then told_body (body.Activate r.bucket) (w.nodes n) else w.nodes n) none
    ]
      where
        and-one : (a : Bool) → (a && true) ≡ false → a ≡ false
        and-one true h = h
        and-one false h = refl

    still-row : accepted_if (could_activate r.bucket w.nodes r.active) one ≡ one
    still-row = ap (λ (u : Bool). with_active r.active u) (elim quiet [
      | inl told ↦ or-one (is_accepted r.active r.accepted) (could_activate r.bucket w.nodes r.active) told
      | inr none ↦ ap (λ (a : Option ℕ). is_accepted a r.accepted || could_activate r.bucket w.nodes a) none ∙ sym (ap (λ (a : Option ℕ). is_accepted a r.accepted) none)
    ])
      where
        or-one : (a b : Bool) → (not a && true) ≡ false → (a || b) ≡ a
        or-one true b h = refl
        or-one false b h = absurd (true≢false h)

    activate-skips : Does settle.Activating (Over (at-step (settle.Deleting 0)))
    activate-skips = (
      2,
      two-turns s (turns.Activating time at) (turns.Accepting time at (could_activate r.bucket w.nodes r.active)) w (stand (turns.Deleting time at 0) w)
          (by-seen (stand (turns.Settling time (suc at)) w) (activate_then (turns.Accepting time at) w)
          ∙ (λ i. stand (turns.Accepting time at (could_activate r.bucket w.nodes r.active)) (record { nodes = λ n. still-nodes n i; rows = w.rows })))
          (by-seen (stand (turns.Settling time (suc at)) w) (λ q. stand (turns.Deleting time at 0) (with_place_row at (accepted_if (could_activate r.bucket w.nodes r.active) q) w))
          ∙ ap (λ (x : World). stand (turns.Deleting time at 0) x) (back (accepted_if (could_activate r.bucket w.nodes r.active) one) still-row)),
    )

  activate-tells : (n : ℕ) → r.active ≡ Some n → r.accepted ≡ false → Does settle.Activating (Says (step.Tell n (body.Activate r.bucket)))
  activate-tells n is yet =
      by-seen (stand (turns.Settling time (suc at)) w) (activate_then (turns.Accepting time at) w)
      ∙ (λ i. stand (turns.Accepting time at (could_activate r.bucket w.nodes (is i))) (record { nodes = λ k. same k i; rows = w.rows }))
    where
      same : (k : ℕ) → activate_nodes one w.nodes k ≡ told_node n (body.Activate r.bucket) w.nodes k
      same k =
          ap₂ (λ (a : Option ℕ) (accepted : Bool). if not (is_accepted a accepted) && is_active a k then told_body (body.Activate r.bucket) (w.nodes k) else w.nodes k) is yet
          ∙ ap (λ (u : Bool). if u then told_body (body.Activate r.bucket) (w.nodes k) else w.nodes k) (eqb-sym n k)

  activates : Does settle.Activating (row.activating t at r (serves v.state))
  activates = by_node r.active refl
    where
      by_node : (a : Option ℕ) → r.active ≡ a → Does settle.Activating (tell_active r.bucket r.accepted a (serves v.state) (at-step (settle.Deleting 0)))
      by_node None e = activate-skips (inr e)
      by_node (Some n) e = by_test r.accepted (serves v.state n) refl (serving n e)
        where
          by_test : (x y : Bool) → r.accepted ≡ x → y ≡ true → Does settle.Activating (if not x && y then Says (step.Tell n (body.Activate r.bucket)) else Over (at-step (settle.Deleting 0)))
          by_test true y f g = activate-skips (inl (ap (λ (a : Option ℕ). not (is_accepted a r.accepted) && true) e ∙ ap (λ (u : Bool). not u && true) f))
          by_test false true f g = activate-tells n e f
          by_test false false f g = absurd (true≢false (sym g))

  accepts : (accepted : Bool) → (accepted ≡ true → is_some r.active ≡ true) → Does (settle.Accepting accepted) (row.accepting t at accepted)
  accepts true some =
      by-seen (stand (turns.Settling time (suc at)) w) (λ q. stand (turns.Deleting time at 0) (with_place_row at (accepted_if true q) w))
      ∙ ap (λ (u : Bool). stand (turns.Deleting time at 0) (with_place_row at (with_active r.active u) w)) (by_active r.active (some refl))
    where
      by_active : (a : Option ℕ) → is_some a ≡ true → (is_accepted a r.accepted || true) ≡ is_accepted a true
      by_active None h = absurd (true≢false (sym h))
      by_active (Some n) h = or-true r.accepted
        where
          or-true : (u : Bool) → (u || true) ≡ true
          or-true true = refl
          or-true false = refl
  accepts false some = over (settle.Accepting false) (at-step (settle.Deleting 0))
      (by-seen (stand (turns.Settling time (suc at)) w) (λ q. stand (turns.Deleting time at 0) (with_place_row at (accepted_if false q) w))
      ∙ ap (λ (x : World). stand (turns.Deleting time at 0) x) (back (accepted_if false one) (ap (λ (u : Bool). with_active r.active u) (or-none (is_accepted r.active r.accepted)))))

  -- ---- delete

  target-same : (n : ℕ) → rest.is_target s one n ≡ is_target v r n
  target-same n = ap₂ (λ (k : ℕ) (f : Low → List ℕ). is_target_in k (f r.bucket) r.active n) agrees.redundancy agrees.ideal

  enough-same : (n : ℕ) → place.are_enough s one n ≡ row.are_enough (v.rules).acks r note n
  enough-same n = ap (λ (k : ℕ). row.are_enough k r note n) agrees.acks

  -- what was found of a node that showed just the row
  found-exact : (n : ℕ) (y : Exact) → find (λ (z : Exact). z.node == n) note.exact.items ≡ Some y → (serves v.state n ≡ true) × (shown n ≡ Same y.serial)
  found-exact n y e =
      let x = find-in n note.exact.items y e in
      let yes : serves v.state n ≡ true = subst (λ (k : ℕ). serves v.state k ≡ true) x.1 (parted.exact y x.0).0 in
      (yes, shows n yes ∙ ap (λ (o : Option Exact). shape_in o note n) e)

  loses : (n : ℕ) (target : Bool) (o : Option Exact) → rest.is_target s one n ≡ target → find (λ (z : Exact). z.node == n) note.exact.items ≡ o
      → does_lose s one n ≡ is_some (if not target && row.are_enough (v.rules).acks r note n then serial_of o else None)
  loses n target o e f =
      ap₂ (λ (a : Bool) (b : Bool). ((s.serving n && not a) && b) && is_same (shown n)) e (enough-same n)
      ∙ (ap (λ (a : Bool). ((a && not target) && row.are_enough (v.rules).acks r note n) && is_same (shown n)) (agrees.serving n) ∙ by_found o f)
    where
      tests : (a b : Bool) (j : ℕ) → (((true && a) && b) && true) ≡ is_some (if a && b then Some j else None)
      tests true true j = refl
      tests true false j = refl
      tests false b j = refl

      never : (a : Bool) (x : Bool) → (x ≡ true → true ≡ false) → (a && x) ≡ false
      never true true h = h refl
      never true false h = refl
      never false x h = refl

      none-is : (a : Bool) → is_some (if a then serial_of None else None) ≡ false
      none-is true = refl
      none-is false = refl

      not-same : find (λ (z : Exact). z.node == n) note.exact.items ≡ None → serves v.state n ≡ true → is_same (shown n) ≡ false
      not-same g serve = ap is_same (shows n serve ∙ ap (λ (o : Option Exact). shape_in o note n) g) ∙ beside (has_node note.over n) (has_node note.inside n)
        where
          beside : (a b : Bool) → is_same (shape_beside a b) ≡ false
          beside true b = refl
          beside false true = refl
          beside false false = refl

      by_found : (o : Option Exact) → find (λ (z : Exact). z.node == n) note.exact.items ≡ o
          → (((serves v.state n && not target) && row.are_enough (v.rules).acks r note n) && is_same (shown n)) ≡ is_some (if not target && row.are_enough (v.rules).acks r note n then serial_of o else None)
      by_found None g = by_serves (serves v.state n) refl ∙ sym (none-is (not target && row.are_enough (v.rules).acks r note n))
        where
          by_serves : (x : Bool) → serves v.state n ≡ x → (((x && not target) && row.are_enough (v.rules).acks r note n) && is_same (shown n)) ≡ false
          by_serves true h = never ((true && not target) && row.are_enough (v.rules).acks r note n) (is_same (shown n)) (λ u. sym u ∙ not-same g h)
          by_serves false h = refl
      by_found (Some y) g =
          let x = found-exact n y g in
          ap₂ (λ (a : Bool) (k : Shape). ((a && not target) && row.are_enough (v.rules).acks r note n) && is_same k) x.0 x.1
          ∙ tests (not target) (row.are_enough (v.rules).acks r note n) y.serial

  module _ (idle : r.deleting ≡ None) (n : ℕ) where
    abbrev serial : Option ℕ
    serial = serial_to_lose r note (is_target v r n) (v.rules).acks n

    lose-same : does_lose s one n ≡ is_some serial
    lose-same =
        loses n (is_target v r n) (find (λ (z : Exact). z.node == n) note.exact.items) (target-same n) refl
        ∙ sym (ap (λ (d : Option Delete). is_some (if is_some d then None else (if not (is_target v r n) && row.are_enough (v.rules).acks r note n then serial_among note.exact.items n else None))) idle)

    abbrev lose-turn : Bool → Stand
    lose-turn does = if does then stand (turns.DeleteTold time at n) (with_place_row at (unmarked n one) w) else stand (turns.Deleting time at (suc n)) w

    delete-turn : (x : Bool) → nat_lt n 32 ≡ x → turn_at s (doing_of list (at-step (settle.Deleting n))) w ≡ (if x then lose-turn (is_some serial) else stand (turns.Settling time (suc at)) w)
    delete-turn x e = by-seen (stand (turns.Settling time (suc at)) w) (turns.deleting s time at n w)
        ∙ ap₂ (λ (u does : Bool). if u then lose-turn does else stand (turns.Settling time (suc at)) w) e lose-same

    deletes : Does (settle.Deleting n) (row.deleting t at r.bucket (if nat_lt n 32 then serial else None) n)
    deletes = by_test (nat_lt n 32) refl
      where
        over-node : (x : Bool) → nat_lt n 32 ≡ x → (if x then stand (turns.Deleting time at (suc n)) w else stand (turns.Settling time (suc at)) w) ≡ stand (doing_of list (next_node t at n)) w
        over-node true e = ap (λ (k : ℕ). stand (turns.Deleting time at k) w) (next-one n) ∙ ap (λ (u : Bool). stand (doing_of list (if u then at-step (settle.Deleting (n + 1)) else next_row t at)) w) (sym e)
        over-node false e = to-next ∙ ap (λ (u : Bool). stand (doing_of list (if u then at-step (settle.Deleting (n + 1)) else next_row t at)) w) (sym e)

        by_serial : nat_lt n 32 ≡ true → (x : Option ℕ) → serial ≡ x → Does (settle.Deleting n) (delete_or at r.bucket n x (next_node t at n))
        by_serial e None f = over (settle.Deleting n) (next_node t at n) (delete-turn true e ∙ (ap (λ (o : Option ℕ). lose-turn (is_some o)) f ∙ over-node true e))
        by_serial e (Some k) f = λ marks left.
            delete-turn true e ∙ (ap (λ (o : Option ℕ). lose-turn (is_some o)) f
            ∙ (λ i. stand (turns.DeleteTold time at n) (with_place_row at (record { bucket = r.bucket; complete = λ m. sym (left m) i; active = r.active; accepted = is_accepted r.active r.accepted; documents = note.documents; holders = λ m. has_node note.holders m; shown = shown }) w)))

        by_test : (x : Bool) → nat_lt n 32 ≡ x → Does (settle.Deleting n) (delete_or at r.bucket n (if x then serial else None) (next_node t at n))
        by_test true e = by_serial e serial refl
        by_test false e = over (settle.Deleting n) (next_node t at n) (delete-turn false e ∙ over-node false e)

  -- what is unanswered is of a node
  module _ (n k : ℕ) (is : r.deleting ≡ Some (record { bucket = r.bucket; node = n; serial = k })) (small : n < 32) where
    pending : row.unanswered r n ≡ Some (record { bucket = r.bucket; node = n; serial = k })
    pending = ap (λ (u : Bool). if u then r.deleting else None) (below n small) ∙ is

    tells-delete : shown n ≡ Same k → serves v.state n ≡ true → Does (settle.DeleteTold n) (row.delete_told t at r (serves v.state) n)
    tells-delete e serve =
        subst (λ (o : Option Delete). Does (settle.DeleteTold n) (tell_delete o (serves v.state) (next_node t at n))) (sym pending)
        (subst (λ (u : Bool). Does (settle.DeleteTold n) (if u then Says (step.Tell n (body.Delete r.bucket k)) else Over (next_node t at n))) (sym serve)
        (by-seen (stand (turns.Settling time (suc at)) w) (turns.delete_told time at n w)
        ∙ ap (λ (x : World). stand (turns.DeleteOver time at n) x) (told-one n (λ m. place.delete_shown r.bucket (shown m)) (body.Delete r.bucket k) w (λ x. ap (λ (h : Shape). place.delete_shown r.bucket h x) e))))

    ends-delete : Does (settle.DeleteOver n) (row.delete_over t at r n)
    ends-delete =
        subst (λ (o : Option Delete). Does (settle.DeleteOver n) (end_delete at o (next_node t at n))) (sym pending)
        (λ marks left. ap (λ (j : ℕ). stand (turns.Deleting time at j) w) (next-one n) ∙ sym (ap (λ (x : World). stand (turns.Deleting time at (n + 1)) x) (back one refl)))

-- ---- all of them

module _ (v : View) (s : Settings) (made : BTreeMap ℕ (Unit {0})) (list : List Low) (are_made : AreMade made list) (w : World) (t : Time) (at : ℕ) (r : Row) (note : RowNote) (shown : ℕ → Shape) (ideals : IsIdeal r.bucket v.state (v.ideal r.bucket)) where
  abbrev It : Settle → Turn → Type 0
  It next x = Refines v s list w r note shown (Settling t at next) x

  pub settle_refines : (next : Settle) → IsPlace v s w at r note shown next → It next (settle_turn v made t at r note next)
  settle_refines settle.Beginning p = begins v s made list are_made w t at r note shown p.agrees p.found p.valid p.serving p.parted p.shows p.seen ideals
  settle_refines (settle.Aligning n any) p = aligns v s made list are_made w t at r note shown p.agrees p.found p.valid p.serving p.parted p.shows p.seen ideals n any
  settle_refines settle.AlignRound p = align-rounds v s made list are_made w t at r note shown p.agrees p.found p.valid p.serving p.parted p.shows p.seen ideals
  settle_refines (settle.Readying n ready) p = readies v s made list are_made w t at r note shown p.agrees p.found p.valid p.serving p.parted p.shows p.seen ideals n ready
  settle_refines (settle.Deciding ready) p = decides v s made list are_made w t at r note shown p.agrees p.found p.valid p.serving p.parted p.shows p.seen ideals ready
  settle_refines settle.Activating p = activates v s made list are_made w t at r note shown p.agrees p.found p.valid p.serving p.parted p.shows p.seen ideals
  settle_refines (settle.Accepting accepted) p = accepts v s made list are_made w t at r note shown p.agrees p.found p.valid p.serving p.parted p.shows p.seen ideals accepted (p.pends).1
  settle_refines (settle.Deleting n) p = deletes v s made list are_made w t at r note shown p.agrees p.found p.valid p.serving p.parted p.shows p.seen ideals p.pends n
  settle_refines (settle.DeleteTold n) p =
      let x = p.pends in
      tells-delete v s made list are_made w t at r note shown p.agrees p.found p.valid p.serving p.parted p.shows p.seen ideals n x.0 x.1 x.4 x.2 x.3
  settle_refines (settle.DeleteOver n) p =
      let x = p.pends in
      ends-delete v s made list are_made w t at r note shown p.agrees p.found p.valid p.serving p.parted p.shows p.seen ideals n x.0 x.1 x.2
