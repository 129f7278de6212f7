-- Turns in which rows are settled.
use Rattle.std.proofs.Common.{◌≡◌, ◌||◌, ◌<◌, ◌≤◌, ℕ, suc, Bool, true, false, cond, nat_lt, List, Some, None, slice_get, slice_set, refl, sym, ap, ◌∙◌, subst, arith}
use Rattle.lane_rest.specs.Sets.{any_below}
use Rattle.pass_model.specs.Nodes.{Node, can_ready}
use Rattle.lane_rest.specs.Targets.{is_active}
use Rattle.pass_model.specs.Rows.{Settings, Row, round_node, round_row}
use Rattle.pass_model.specs.Settling.{Place, needs_align, to_be_active, activate_nodes, could_activate, delete_shown, delete_at, round_at, settle}
use Rattle.pass_model.specs.Passes.{World, settle_if}
use Rattle.pass_model.specs.Resting.{AreSettings}
use Rattle.pass_model.specs.Turns.{Time, Settling, Aligning, AlignRound, Readying, Deciding, Activating, Accepting, Deleting, DeleteTold, stand, is_due, told, round_of, with_place_row, settle_next, align_one, ready_one, aligning, readying, decided, activate_then, accepted_if, does_lose, unmarked, deleting, delete_told, turn_at}
use Rattle.pass_model.specs.Orders.{ActiveServes, AreInOrder}
use Rattle.pass_model.proofs.Walking.{same-row, tell_one, each_from, goes_from, each-next, each-end}
use Rattle.pass_model.proofs.RowLists.{set-same, set-get, set-set, all-set, all-at}
use Rattle.pass_model.proofs.RoundedRows.{IsRounded, round-rounded, accepted-rounded, unmarked-rounded, decided-rounded, decided-serves}
use Rattle.pass_model.proofs.SettledPlaces.{after_ready, after_align, round_if, align_from, align-goes, align-ends, settle-begins, ready_from, ready-begins, ready-goes, ready-ends, delete_from, delete_next, delete-begins, delete-loses, delete-skips, delete-ends, lost-other}
use Rattle.pass_model.proofs.OrderedRows.{order-set}
use Rattle.pass_model.proofs.Reached.{IsSettling, IsInRow, ToldAny, all_due, Standing}
use Rattle.proof_basics.proofs.Numbers.{lt-of, ge-of}
use Rattle.pass_model.proofs.Standings.{in-row, by-test}

any-none : (p : ℕ → Bool) → false ≡ any_below p 0
unfolding any_below
any-none p = refl

any-more : (p : ℕ → Bool) (k : ℕ) → (p k || any_below p k) ≡ any_below p (suc k)
unfolding any_below
any-more p k = refl

is-last : (k : ℕ) → k ≤ 32 → nat_lt k 32 ≡ false → 32 ≡ k
is-last k le h = let more = ge-of k 32 h in omega (arith, le, more)

module _ (s : Settings) (b : World) where
  -- a node is told, or nothing is done
  told-on : (t : Time) (at : ℕ) (rest next : Place → Place) (w : World) (ms : ℕ → Node) (o : IsInRow s b t at rest w) → rest (record { nodes = w.nodes; row = o.row }) ≡ next (record { nodes = ms; row = o.row })
      → IsInRow s b t at next (record { nodes = ms; rows = w.rows })
  told-on t at rest next w ms o e = record {
    from = o.from;
    origin = o.origin;
    row = o.row;
    found = o.found;
    left = sym (ap (λ (y : Place). goes_from (settle_if s (is_due t)) at y w.rows) e) ∙ o.left;
    rounded = o.rounded;
  }

  -- the row becomes another
  row-on : (t : Time) (at : ℕ) (rest next : Place → Place) (w : World) (ms : ℕ → Node) (q : Row) (o : IsInRow s b t at rest w) → rest (record { nodes = w.nodes; row = o.row }) ≡ next (record { nodes = ms; row = q })
      → IsRounded s q → IsInRow s b t at next (record { nodes = ms; rows = slice_set w.rows at q })
  row-on t at rest next w ms q o e rounded =
      let y = next (record { nodes = ms; row = q }) in
      record {
        from = o.from;
        origin = o.origin;
        row = q;
        found = set-get w.rows at o.row q o.found;
        left = ap (λ (rows : List Row). each_from (settle_if s (is_due t)) (suc at) y.nodes rows) (set-set w.rows at q y.row)
            ∙ (sym (ap (λ (z : Place). goes_from (settle_if s (is_due t)) at z w.rows) e) ∙ o.left);
        rounded = all-set (IsRounded s) w.rows at q rounded o.rounded;
      }

  -- nothing is left to do for the row
  row-ends : (t : Time) (at : ℕ) (rest : Place → Place) (w : World) (o : IsInRow s b t at rest w) → rest (record { nodes = w.nodes; row = o.row }) ≡ record { nodes = w.nodes; row = o.row } → IsSettling s b t (suc at) w
  row-ends t at rest w o e = record {
    from = o.from;
    origin = o.origin;
    left = sym (ap (λ (rows : List Row). each_from (settle_if s (is_due t)) (suc at) w.nodes rows) (set-same w.rows at o.row o.found))
        ∙ (sym (ap (λ (y : Place). goes_from (settle_if s (is_due t)) at y w.rows) e) ∙ o.left);
    rounded = o.rounded;
  }

  module _ (sound : AreSettings s) (t : Time) (at : ℕ) (w : World) (order : AreInOrder s w.rows) where
    abbrev here : Row → Place
    here r = record { nodes = w.nodes; row = r }

    abbrev to_decide : Bool → Place → Place
    to_decide ready x = after_ready s (record { nodes = x.nodes; row = decided s ready x.row })

    abbrev to_accept : Bool → Place → Place
    to_accept answered x = delete_at s (record { nodes = x.nodes; row = accepted_if answered x.row })

    abbrev ready_answer : ℕ → Bool → Row → Bool
    ready_answer k ready r = cond (is_active (to_be_active s r) k) (can_ready r.bucket (w.nodes k)) ready

    rounded-row : (rest : Place → Place) (o : IsInRow s b t at rest w) → IsRounded s o.row
    rounded-row rest o = all-at (IsRounded s) w.rows at o.row o.found o.rounded

    serving-row : (rest : Place → Place) (o : IsInRow s b t at rest w) → ActiveServes s o.row
    serving-row rest o = all-at (ActiveServes s) w.rows at o.row o.found order.serve

    set-order : (rest : Place → Place) (o : IsInRow s b t at rest w) (q : Row) → q.bucket ≡ (o.row).bucket → ActiveServes s q → AreInOrder s (slice_set w.rows at q)
    set-order rest o q same serves = order-set s w.rows at o.row q o.found same serves order

    -- ---- row after row

    pub settled-all : (x : IsSettling s b t at w) → slice_get w.rows at ≡ None → w ≡ all_due s b t x.from
    settled-all x none = sym (each-end (settle_if s (is_due t)) at w.nodes w.rows none) ∙ x.left

    begins-row : (x : IsSettling s b t at w) (r : Row) → slice_get w.rows at ≡ Some r → is_due t r.bucket ≡ true → IsInRow s b t at (λ y. after_align s (align_from s 0 y)) w
    begins-row x r found due =
        let y : Place = record { nodes = w.nodes; row = r } in
        let same : settle_if s (is_due t) y ≡ after_align s (align_from s 0 y) = ap (λ (u : Bool). cond u (settle s y) y) due ∙ settle-begins s sound y in
        record {
          from = x.from;
          origin = x.origin;
          row = r;
          found = found;
          left = sym (each-next (settle_if s (is_due t)) at w.nodes w.rows r found ∙ ap (λ (z : Place). goes_from (settle_if s (is_due t)) at z w.rows) same) ∙ x.left;
          rounded = x.rounded;
        }

    skips-row : (x : IsSettling s b t at w) (r : Row) → slice_get w.rows at ≡ Some r → is_due t r.bucket ≡ false → IsSettling s b t (suc at) w
    skips-row x r found due =
        let y : Place = record { nodes = w.nodes; row = r } in
        let same : settle_if s (is_due t) y ≡ y = ap (λ (u : Bool). cond u (settle s y) y) due in
        record {
          from = x.from;
          origin = x.origin;
          left = sym (each-next (settle_if s (is_due t)) at w.nodes w.rows r found ∙ (ap (λ (z : Place). goes_from (settle_if s (is_due t)) at z w.rows) same
              ∙ ap (λ (rows : List Row). each_from (settle_if s (is_due t)) (suc at) w.nodes rows) (set-same w.rows at r found))) ∙ x.left;
          rounded = x.rounded;
        }

    pub next-row : (x : IsSettling s b t at w) (r : Row) → slice_get w.rows at ≡ Some r → Standing s b (settle_next t at w r)
    next-row x r found = by-test (Standing s b) (is_due t r.bucket) (stand (Aligning t at 0 false) w) (stand (Settling t (suc at)) w)
        (λ due. (order, (begins-row x r found due, (λ q f. any-none (needs_align s q)), omega arith)))
        (λ due. (order, skips-row x r found due))

    -- ---- align

    told-more : (k : ℕ) (any : Bool) (r : Row) → slice_get w.rows at ≡ Some r → ToldAny s b at k any w → ToldAny s b at (suc k) (needs_align s r k || any) w
    told-more k any r found are q f =
        let same : r ≡ q = same-row r q (sym found ∙ f) in
        ap (λ (u : Bool). needs_align s r k || u) (are q f) ∙ (ap (λ (p : Row). needs_align s p k || any_below (needs_align s q) k) same ∙ any-more (needs_align s q) k)

    pub aligns : (k : ℕ) (any : Bool) (o : IsInRow s b t at (λ x. after_align s (align_from s k x)) w) → ToldAny s b at k any w → k ≤ 32 → Standing s b (turn_at s (Aligning t at k any) w)
    aligns k any o are le = in-row (Standing s b) (slice_get w.rows at) (stand (Settling t (suc at)) w) (aligning s t at k any w) o.row o.found
        (by-test (Standing s b) (nat_lt k 32) (stand (Aligning t at (suc k) (needs_align s o.row k || any)) (told k (align_one s o.row) w)) (cond any (stand (AlignRound t at) w) (stand (Readying t at 0 false) w))
        (λ h. (
          order,
          (
            told-on t at (λ x. after_align s (align_from s k x)) (λ x. after_align s (align_from s (suc k) x)) w (tell_one k (align_one s o.row) w.nodes) o (ap (after_align s) (align-goes s k (here o.row))),
            told-more k any o.row o.found are,
            (let less = lt-of k 32 h in omega (arith, less)),
          ),
        ))
        (λ h. by-test (Standing s b) any (stand (AlignRound t at) w) (stand (Readying t at 0 false) w)
        (λ u. (order, told-on t at (λ x. after_align s (align_from s k x)) (λ x. after_align s (round_at s x)) w w.nodes o (ap (after_align s) (ends (is-last k le h) ∙ ap (λ (v : Bool). round_if s v (here o.row)) (sym (are o.row o.found) ∙ u)))))
        (λ u. (
          order,
          (
            told-on t at (λ x. after_align s (align_from s k x)) (λ x. after_ready s (ready_from s 0 false x)) w w.nodes o
                (ap (after_align s) (ends (is-last k le h) ∙ ap (λ (v : Bool). round_if s v (here o.row)) (sym (are o.row o.found) ∙ u)) ∙ ap (after_ready s) (ready-begins s false (here o.row))),
            omega arith,
          ),
        ))))
      where
        ends : 32 ≡ k → align_from s k (here o.row) ≡ round_if s (any_below (needs_align s o.row) k) (here o.row)
        ends e = subst (λ (i : ℕ). align_from s i (here o.row) ≡ round_if s (any_below (needs_align s o.row) i) (here o.row)) e (align-ends s sound (here o.row))

    pub aligns-round : (o : IsInRow s b t at (λ x. after_align s (round_at s x)) w) → Standing s b (turn_at s (AlignRound t at) w)
    aligns-round o = in-row (Standing s b) (slice_get w.rows at) (stand (Settling t (suc at)) w) (λ r. stand (Readying t at 0 false) (round_of s at r w)) o.row o.found (
      set-order (λ x. after_align s (round_at s x)) o (round_row s o.row w.nodes) refl (serving-row (λ x. after_align s (round_at s x)) o),
      (
        row-on t at (λ x. after_align s (round_at s x)) (λ x. after_ready s (ready_from s 0 false x)) w (round_node s o.row w.nodes) (round_row s o.row w.nodes) o
            (ap (after_ready s) (ready-begins s false (round_at s (here o.row)))) (round-rounded s o.row w.nodes),
        omega arith,
      ),
    )

    -- ---- ready

    pub readies : (k : ℕ) (ready : Bool) (o : IsInRow s b t at (λ x. after_ready s (ready_from s k ready x)) w) → k ≤ 32 → Standing s b (turn_at s (Readying t at k ready) w)
    readies k ready o le = in-row (Standing s b) (slice_get w.rows at) (stand (Settling t (suc at)) w) (readying s t at k ready w) o.row o.found
        (by-test (Standing s b) (nat_lt k 32) (stand (Readying t at (suc k) (ready_answer k ready o.row)) (told k (ready_one s o.row) w)) (stand (Deciding t at ready) w)
        (λ h. (
          order,
          (
            told-on t at (λ x. after_ready s (ready_from s k ready x)) (λ x. after_ready s (ready_from s (suc k) (ready_answer k ready o.row) x)) w (tell_one k (ready_one s o.row) w.nodes) o (ap (after_ready s) (ready-goes s k ready (here o.row))),
            (let less = lt-of k 32 h in omega (arith, less)),
          ),
        ))
        (λ h. (order, told-on t at (λ x. after_ready s (ready_from s k ready x)) (λ x. after_ready s (record { nodes = x.nodes; row = decided s ready x.row })) w w.nodes o (ap (after_ready s) (ends (is-last k le h))))))
      where
        ends : 32 ≡ k → ready_from s k ready (here o.row) ≡ record { nodes = w.nodes; row = decided s ready o.row }
        ends e = subst (λ (i : ℕ). ready_from s i ready (here o.row) ≡ record { nodes = w.nodes; row = decided s ready o.row }) e
            (ready-ends s sound ready (here o.row) (rounded-row (λ x. after_ready s (ready_from s k ready x)) o) (serving-row (λ x. after_ready s (ready_from s k ready x)) o))

    pub decides : (ready : Bool) (o : IsInRow s b t at (λ x. after_ready s (record { nodes = x.nodes; row = decided s ready x.row })) w) → Standing s b (turn_at s (Deciding t at ready) w)
    decides ready o = in-row (Standing s b) (slice_get w.rows at) (stand (Settling t (suc at)) w) (λ r. stand (Activating t at) (with_place_row at (decided s ready r) w)) o.row o.found (
      set-order (to_decide ready) o (decided s ready o.row) refl (decided-serves s sound o.row (rounded-row (to_decide ready) o) ready (serving-row (to_decide ready) o)),
      row-on t at (to_decide ready) (after_ready s) w w.nodes (decided s ready o.row) o refl (decided-rounded s sound o.row (rounded-row (to_decide ready) o) ready),
    )

    -- ---- activate

    pub activates : (o : IsInRow s b t at (after_ready s) w) → Standing s b (turn_at s (Activating t at) w)
    activates o = in-row (Standing s b) (slice_get w.rows at) (stand (Settling t (suc at)) w) (activate_then (Accepting t at) w) o.row o.found
        (order, told-on t at (after_ready s) (λ x. delete_at s (record { nodes = x.nodes; row = accepted_if (could_activate (o.row).bucket w.nodes (o.row).active) x.row })) w (activate_nodes o.row w.nodes) o refl)

    pub accepts : (answered : Bool) (o : IsInRow s b t at (λ x. delete_at s (record { nodes = x.nodes; row = accepted_if answered x.row })) w) → Standing s b (turn_at s (Accepting t at answered) w)
    accepts answered o = in-row (Standing s b) (slice_get w.rows at) (stand (Settling t (suc at)) w) (λ r. stand (Deleting t at 0) (with_place_row at (accepted_if answered r) w)) o.row o.found (
      set-order (to_accept answered) o (accepted_if answered o.row) refl (serving-row (to_accept answered) o),
      (
        row-on t at (to_accept answered) (delete_from s 0) w w.nodes (accepted_if answered o.row) o (delete-begins s (record { nodes = w.nodes; row = accepted_if answered o.row })) (accepted-rounded s answered o.row (rounded-row (to_accept answered) o)),
        omega arith,
      ),
    )

    -- ---- delete

    pub deletes : (k : ℕ) (o : IsInRow s b t at (delete_from s k) w) → k ≤ 32 → Standing s b (turn_at s (Deleting t at k) w)
    deletes k o le = in-row (Standing s b) (slice_get w.rows at) (stand (Settling t (suc at)) w) (deleting s t at k w) o.row o.found
        (by-test (Standing s b) (nat_lt k 32) (cond (does_lose s o.row k) (stand (DeleteTold t at k) (with_place_row at (unmarked k o.row) w)) (stand (Deleting t at (suc k)) w)) (stand (Settling t (suc at)) w)
        (λ h. by-test (Standing s b) (does_lose s o.row k) (stand (DeleteTold t at k) (with_place_row at (unmarked k o.row) w)) (stand (Deleting t at (suc k)) w)
        (λ u. (
          set-order (delete_from s k) o (unmarked k o.row) refl (serving-row (delete_from s k) o),
          (
            row-on t at (delete_from s k) (delete_next s k) w w.nodes (unmarked k o.row) o (delete-loses s k (here o.row) (rounded-row (delete_from s k) o) u)
                (unmarked-rounded s k o.row (rounded-row (delete_from s k) o) (lost-other s o.row k u).0),
            lt-of k 32 h,
          ),
        ))
        (λ u. (
          order,
          (
            told-on t at (delete_from s k) (delete_from s (suc k)) w w.nodes o (delete-skips s k (here o.row) u),
            (let less = lt-of k 32 h in omega (arith, less)),
          ),
        )))
        (λ h. (order, row-ends t at (delete_from s k) w o (ends (is-last k le h)))))
      where
        ends : 32 ≡ k → delete_from s k (here o.row) ≡ here o.row
        ends e = subst (λ (i : ℕ). delete_from s i (here o.row) ≡ here o.row) e (delete-ends s sound (here o.row))

    pub tells-delete : (k : ℕ) (o : IsInRow s b t at (delete_next s k) w) → k < 32 → Standing s b (turn_at s (DeleteTold t at k) w)
    tells-delete k o less = in-row (Standing s b) (slice_get w.rows at) (stand (Settling t (suc at)) w) (delete_told t at k w) o.row o.found
        (order, (told-on t at (delete_next s k) (delete_from s (suc k)) w (tell_one k (λ n. delete_shown (o.row).bucket ((o.row).shown n)) w.nodes) o refl, less))
