-- What is sent again: each Delete that has no answer, and the active node of each row is told so.
use Rattle.std.proofs.Common.{◌≡◌, ◌∙◌, ◌&&◌, ◌||◌, not, ◌⊎◌, inl, inr, ◌<◌, ◌≤◌, ◌+◌, ◌++◌, ℕ, zero, suc, Bool, true, false, Option, Some, None, List, [], ◌∷◌, map, refl, sym, ap, ap₂, subst, arith, slice_get, slice_set, append_assoc, append-nil, eq-eqb, if◌then◌else◌}
use Rattle.std.specs.Prelude.{is_some}
use Rattle.std.specs.BTreeMap.{BTreeMap}
use Rattle.std.proofs.lemmas.Bool.{cases_lt}
use Rattle.bucket_ids.specs.Buckets.{Low, IsBucket}
use Rattle.bucket_ids.specs.Printed.{number_of}
use Rattle.bucket_db.specs.Changes.{after_delete, without_delete}
use Rattle.bucket_db.specs.declared.row.Row.{Row}
use Rattle.bucket_db.specs.declared.row.Deleting.{Deleting as Delete}
use Rattle.bucket_db.specs.Rows.{Rows}
use Rattle.pieces.proofs.PieceLaws.{same-refl}
use Rattle.cluster_states.specs.declared.cluster_state.ClusterState.{ClusterState}
use Rattle.cluster_states.specs.Publishing.{serves}
use Rattle.messages.specs.declared.body.Body.TheVariants as body
use Rattle.messages.specs.declared.decision.Decision.TheVariants.{DeleteOver}
use Rattle.distributor_part.specs.Parts.{Part, rows_of}
use Rattle.distributor_part.specs.Upkeep.{AcceptsAt, EndsDelete}
use Rattle.pass_model.specs.Nodes.{Node, delete_node}
use Rattle.pass_model.specs.Shapes.{Nothing}
use Rattle.pass_model.specs.Rows as rest
use Rattle.pass_model.specs.Rows.{Settings}
use Rattle.pass_model.specs.Passes.{World}
use Rattle.pass_model.specs.Scripts.{told_node}
use Rattle.pass_model.specs.Turns as turns
use Rattle.pass_model.specs.Turns.{Stand, Unanswered, stand, by_row, activate_then, accepted_if, with_place_row, turn_at as turn_at_rest}
use Rattle.pass_model.specs.Orders as orders
use Rattle.pass_machine.specs.declared.doing.Doing.TheVariants.{ResendingDelete, ResentDelete, ResendingActivate, ResentActivate, Rounding}
use Rattle.pass_machine.specs.declared.doing.UpkeepStep.TheVariants as step
use Rattle.pass_machine.specs.declared.doing.Turn.TheVariants.{Over, Says}
use Rattle.pass_machine.specs.declared.notes.RowNote.{RowNote}
use Rattle.pass_machine.specs.Notes.{of_bucket, note_for, whole_in}
use Rattle.pass_machine.specs.Places.{is_same_delete, was_sent}
use Rattle.pass_machine.specs.Settling.{tell_active, end_delete}
use Rattle.pass_machine.specs.Turns.{View, resend_delete, resending_delete, resent_delete, resending_activate, resent_activate, turn_at}
use Rattle.pass_machine.specs.Abstract.{row_with, answer_of, Activates}
use Rattle.proof_basics.proofs.Lists.{of_image}
use Rattle.pass_machine.proofs.SettleTurns.{told-one, two-turns}
use Rattle.pass_machine.proofs.ResentActivates.{sends_active, notes_active}
use Rattle.pass_runs.specs.Worlds.{IsUnder, row_by, row_of, world_of}
use Rattle.pass_runs.specs.Steps.{Changes, IsDecidedBy}
use Rattle.pass_runs.specs.Standing.{NoNotes, NoneBelow, NoneDeletes, Leads, Stands}
use Rattle.pass_runs.proofs.Goings.{GoesOn}
use Rattle.pass_runs.proofs.PlaceChanges.{accept_changes}
use Rattle.pass_runs.proofs.StandsOn.{stands_on}
use Rattle.pass_runs.proofs.Leading.{lead_one, lead_more, lead_same}
use Rattle.pass_runs.proofs.Rows.{world_row, world_none, world_set, quiet_set, none_behind, none_next, same_some, same_there}

-- ---- rows below a place

quiet-all : (rows : List Row) (at : ℕ) → slice_get rows at ≡ None → NoneBelow at rows → NoneDeletes rows
quiet-all rows at none below k row found = below k row (none_behind rows at k row none found) found

quiet-more : (rows : List Row) (at : ℕ) (row : Row) → slice_get rows at ≡ Some row → row.deleting ≡ None → NoneBelow at rows → NoneBelow (at + 1) rows
quiet-more rows at row found quiet below k other less there = by_order (cases_lt k at)
  where
    by_order : (k < at) ⊎ (at ≤ k) → other.deleting ≡ None
    by_order (inl l) = below k other l there
    by_order (inr l) =
        let same : k ≡ at = omega (arith, l, less) in
        subst (λ (r : Row). r.deleting ≡ None) (same_there rows k at row other found same there) quiet

-- none of them has a Delete, so none has this one
never-sent : (rows : List Row) (at : ℕ) (d : Delete) → NoneBelow at rows → was_sent rows at d ≡ false
never-sent [] zero d below = refl
never-sent [] (suc at) d below = refl
never-sent (row ∷ rows) zero d below = refl
never-sent (row ∷ rows) (suc at) d below = by_delete row.deleting (below 0 row (omega arith) refl) (never-sent rows at d (λ k other less there. below (suc k) other (let l = less in omega (arith, l)) there))
  where
    by_delete : (o : Option Delete) → o ≡ None → was_sent rows at d ≡ false → (is_same_delete d o || was_sent rows at d) ≡ false
    by_delete None e h = h
    by_delete (Some g) e h = cc

-- ---- a Delete that is over

own-over : (d : Delete) → after_delete d.bucket d.node (Some d) ≡ None
own-over d = ap₂ (λ (t u : Bool). if t && u then None else Some d) (same-refl d.bucket) (eq-eqb d.node d.node refl)

none-over : (b : Low) (n : ℕ) (o : Option Delete) → o ≡ None → after_delete b n o ≡ None
none-over b n None e = refl
none-over b n (Some d) e = cc

-- the rows of the world don't show Deletes
same-without : (state : ClusterState) (still : ℕ → Node) (b : Low) (n : ℕ) (o : Option RowNote) (row : Row) → row_by state still o (without_delete b n row) ≡ row_by state still o row
same-without state still b n None row = refl
same-without state still b n (Some note) row = refl

world-without : (state : ClusterState) (still : ℕ → Node) (notes : BTreeMap ℕ RowNote) (b : Low) (n : ℕ) (rows : List Row) → map (row_of state still notes) (map (without_delete b n) rows) ≡ map (row_of state still notes) rows
world-without state still notes b n [] = refl
world-without state still notes b n (row ∷ rows) = ap₂ (λ (r : rest.Row) (rs : List rest.Row). r ∷ rs) (same-without state still b n (whole_in (note_for row.bucket notes)) row) (world-without state still notes b n rows)

-- rows of a part that the answer of a Delete changes
rows-over : (p q : Part) (b : Low) (n : ℕ) → EndsDelete p q b n → rows_of q.rows ≡ map (without_delete b n) (rows_of p.rows)
rows-over p q b n x = ap (λ (z : Part). rows_of z.rows) x.after ∙ ap (λ (o : Option Rows). map (without_delete b n) (rows_of o)) (sym x.opened)

one-more : (sent : List Unanswered) (d : Unanswered) → orders.AreOfBuckets sent → IsBucket d.bucket → orders.AreOfBuckets (sent ++ (d ∷ []))
one-more [] d all valid = (valid, tt)
one-more (e ∷ es) d all valid = (all.0, one-more es d all.1 valid)

-- where no round was noted a row of the world has no note
no-note : (state : ClusterState) (still : ℕ → Node) (notes : BTreeMap ℕ RowNote) (row : Row) → NoNotes notes → row_of state still notes row ≡ row_with (λ n. Nothing) None row
no-note state still notes row none = ap (λ (o : Option RowNote). row_by state still (whole_in (of_bucket row.bucket o)) row) (none (number_of row.bucket))

module _ (s : Settings) (still : ℕ → Node) (first : World) (v : View) (made : BTreeMap ℕ (Unit {0})) (notes : BTreeMap ℕ RowNote) where
  -- ---- Deletes

  module _ (at : ℕ) (ns : ℕ → Node) (under : IsUnder s still v ns) (x : Stands s still first v made notes (ResendingDelete at) ns) where
    -- where there is no more row, the active nodes are told
    deletes-end : slice_get v.rows at ≡ None → Stands s still first v made notes (ResendingActivate 0) ns
    deletes-end none =
        stands_on s still first v made notes (ResendingDelete at) ns x (ResendingActivate 0) v notes ns (x.knows.0, x.knows.1, quiet-all v.rows at none x.knows.2)
        (subst (λ (l : List Unanswered). Leads s (stand (turns.ResendingDelete l) first) (stand (turns.ResendingActivate 0) (world_of still v notes ns))) (append-nil x.sent)
        (lead_one s (stand (turns.ResendingDelete (x.sent ++ [])) first) (turns.ResendingDelete []) (world_of still v notes ns) (stand (turns.ResendingActivate 0) (world_of still v notes ns)) (x.led []) refl))

    delete-passed : (row : Row) → slice_get v.rows at ≡ Some row → row.deleting ≡ None → Stands s still first v made notes (ResendingDelete (at + 1)) ns
    delete-passed row found quiet =
        stands_on s still first v made notes (ResendingDelete at) ns x (ResendingDelete (at + 1)) v notes ns (x.knows.0, x.knows.1, quiet-more v.rows at row found quiet x.knows.2)
        x.led

    -- the Delete in the list of the abstract, and the world behind its message
    abbrev again : Delete → Unanswered
    again d = record { node = d.node; bucket = d.bucket; serial = d.serial }

    abbrev told-world : Delete → World
    told-world d = world_of still v notes (told_node d.node (body.Delete d.bucket d.serial) ns)

    delete-sent : (d : Delete) → IsBucket d.bucket → Stands s still first v made notes (ResentDelete at) (told_node d.node (body.Delete d.bucket d.serial) ns)
    delete-sent d valid = record {
      order = x.order;
      list = x.list;
      are_made = x.are_made;
      knows = x.knows;
      sent = x.sent ++ (again d ∷ []);
      buckets = one-more x.sent (again d) x.buckets valid;
      led = λ more. subst (λ (l : List Unanswered). Leads s (stand (turns.ResendingDelete l) first) (stand (turns.ResentDelete more) (told-world d))) (sym (append_assoc x.sent (again d ∷ []) more))
          (lead_one s (stand (turns.ResendingDelete (x.sent ++ (again d ∷ more))) first) (turns.ResendingDelete (again d ∷ more)) (world_of still v notes ns) (stand (turns.ResentDelete more) (told-world d)) (x.led (again d ∷ more))
          (ap (λ (w : World). stand (turns.ResentDelete more) w) (told-one d.node (λ n. delete_node d.bucket d.serial) (body.Delete d.bucket d.serial) (world_of still v notes ns) (λ y. refl))));
    }

    pub resending_delete_goes : GoesOn s still first v made notes (ResendingDelete at) ns (turn_at v made notes (ResendingDelete at))
    resending_delete_goes = by_row_of (slice_get v.rows at) refl
      where
        by_row_of : (o : Option Row) → slice_get v.rows at ≡ o → GoesOn s still first v made notes (ResendingDelete at) ns (resending_delete v at o)
        by_row_of None none = deletes-end none
        by_row_of (Some row) found = by_delete row.deleting refl
          where
            by_delete : (o : Option Delete) → row.deleting ≡ o → GoesOn s still first v made notes (ResendingDelete at) ns (resend_delete v at o)
            by_delete None quiet = delete-passed row found quiet
            by_delete (Some d) has = subst (λ (t : Bool). GoesOn s still first v made notes (ResendingDelete at) ns (if t then Says (step.Tell d.node (body.Delete d.bucket d.serial)) else Over (ResendingDelete (at + 1))))
                (sym (ap₂ (λ (t u : Bool). not t && u) (never-sent v.rows at d x.knows.2) (under.deletes at row d found has))) (λ valid. delete-sent d valid)

  module _ (at : ℕ) (ns : ℕ → Node) (under : IsUnder s still v ns) (x : Stands s still first v made notes (ResentDelete at) ns) where
    abbrev here : World
    here = world_of still v notes ns

    -- a turn of the abstract leads on to the next Delete
    next-led : (more : List Unanswered) → Leads s (stand (turns.ResendingDelete (x.sent ++ more)) first) (stand (turns.ResendingDelete more) here)
    next-led more = lead_one s (stand (turns.ResendingDelete (x.sent ++ more)) first) (turns.ResentDelete more) here (stand (turns.ResendingDelete more) here) (x.led more) refl

    back-there : Stands s still first v made notes (ResendingDelete at) ns
    back-there = stands_on s still first v made notes (ResentDelete at) ns x (ResendingDelete at) v notes ns x.knows next-led

    delete-over : (row : Row) (d : Delete) → slice_get v.rows at ≡ Some row → row.deleting ≡ Some d → (w : View) (after : BTreeMap ℕ RowNote) → Changes v w (IsDecidedBy at (DeleteOver d.bucket d.node)) → after ≡ notes
        → Stands s still first w made after (ResendingDelete (at + 1)) ns
    delete-over row d found has w after c same =
        stands_on s still first v made notes (ResentDelete at) ns x (ResendingDelete (at + 1)) w after ns (x.knows.0, subst NoNotes (sym same) x.knows.1, below)
        (λ more. lead_same s (stand (turns.ResendingDelete (x.sent ++ more)) first) (turns.ResendingDelete more) here (world_of still w after ns) world-same (next-led more))
      where
        rows-are : rows_of (c.after).rows ≡ map (without_delete d.bucket d.node) v.rows
        rows-are = rows-over c.before c.after d.bucket d.node c.does ∙ ap (λ (rows : List Row). map (without_delete d.bucket d.node) rows) c.rows

        rows-now : w.rows ≡ map (without_delete d.bucket d.node) v.rows
        rows-now = ap (λ (u : View). u.rows) c.view ∙ rows-are

        world-same : world_of still v notes ns ≡ world_of still w after ns
        world-same = sym (ap₂ (λ (u : View) (m : BTreeMap ℕ RowNote). world_of still u m ns) c.view same
            ∙ ap (λ (rs : List rest.Row). record { nodes = ns; rows = rs }) (ap (λ (rows : List Row). map (row_of v.state still notes) rows) rows-are ∙ world-without v.state still notes d.bucket d.node v.rows))

        below : NoneBelow (at + 1) w.rows
        below k other less there = by_image (of_image (without_delete d.bucket d.node) v.rows k other (subst (λ (rows : List Row). slice_get rows k ≡ Some other) rows-now there))
          where
            by_image : (old : Row) × (slice_get v.rows k ≡ Some old) × (other ≡ without_delete d.bucket d.node old) → other.deleting ≡ None
            by_image (old, was, is) = ap (λ (r : Row). r.deleting) is ∙ by_order (cases_lt k at)
              where
                by_order : (k < at) ⊎ (at ≤ k) → after_delete d.bucket d.node old.deleting ≡ None
                by_order (inl l) = none-over d.bucket d.node old.deleting (x.knows.2 k old l was)
                by_order (inr l) =
                    let here : k ≡ at = omega (arith, l, less) in
                    ap (λ (o : Option Delete). after_delete d.bucket d.node o) (ap (λ (r : Row). r.deleting) (sym (same_there v.rows k at row old found here was)) ∙ has) ∙ own-over d

    pub resent_delete_goes : GoesOn s still first v made notes (ResentDelete at) ns (turn_at v made notes (ResentDelete at))
    resent_delete_goes = by_row_of (slice_get v.rows at) refl
      where
        by_row_of : (o : Option Row) → slice_get v.rows at ≡ o → GoesOn s still first v made notes (ResentDelete at) ns (resent_delete v at o)
        by_row_of None none = deletes-end at ns under back-there none
        by_row_of (Some row) found = by_delete row.deleting refl
          where
            by_delete : (o : Option Delete) → row.deleting ≡ o → GoesOn s still first v made notes (ResentDelete at) ns (end_delete at o (ResendingDelete (at + 1)))
            by_delete None quiet = delete-passed at ns under back-there row found quiet
            by_delete (Some d) has = λ w after later c same. delete-over row d found has w after c same

  -- ---- Activates

  module _ (at : ℕ) (ns : ℕ → Node) (under : IsUnder s still v ns) (x : Stands s still first v made notes (ResendingActivate at) ns) where
    abbrev there : World
    there = world_of still v notes ns

    activates-end : slice_get v.rows at ≡ None → Stands s still first v made notes (Rounding 0) ns
    activates-end none =
        stands_on s still first v made notes (ResendingActivate at) ns x (Rounding 0) v notes ns (x.knows.0, λ k row less found. absurd (omega (arith, less)), x.knows.2)
        (lead_one s (stand (turns.ResendingDelete x.sent) first) (turns.ResendingActivate at) there (stand (turns.Rounding 0) there) x.led
        (ap (λ (o : Option rest.Row). by_row o (stand (turns.Rounding 0) there) (activate_then (turns.ResentActivate at) there)) (world_none v.state still notes v.rows at none)))

    module _ (row : Row) (found : slice_get v.rows at ≡ Some row) where
      seen : slice_get there.rows at ≡ Some (row_with (λ n. Nothing) None row)
      seen = world_row v.state still notes v.rows at row found ∙ ap Some (no-note v.state still notes row x.knows.1)

      activate-passed : (k : ℕ) × (turns.turns s k (stand (turns.ResendingActivate at) there) ≡ stand (turns.ResendingActivate (at + 1)) there) → Stands s still first v made notes (ResendingActivate (at + 1)) ns
      activate-passed led =
          stands_on s still first v made notes (ResendingActivate at) ns x (ResendingActivate (at + 1)) v notes ns x.knows
          (lead_more s (stand (turns.ResendingDelete x.sent) first) (turns.ResendingActivate at) there (stand (turns.ResendingActivate (at + 1)) there) x.led led)

      activate-sent : (n : ℕ) (taken : Bool) → row.active ≡ Some n
          → turn_at_rest s (turns.ResendingActivate at) there ≡ stand (turns.ResentActivate at taken) (record { nodes = told_node n (body.Activate row.bucket) ns; rows = there.rows })
          → Stands s still first v made notes (ResentActivate at taken) (told_node n (body.Activate row.bucket) ns)
      activate-sent n taken is turn =
          stands_on s still first v made notes (ResendingActivate at) ns x (ResentActivate at taken) v notes (told_node n (body.Activate row.bucket) ns) (x.knows.0, x.knows.1, x.knows.2, λ t other here. some other here)
          (lead_one s (stand (turns.ResendingDelete x.sent) first) (turns.ResendingActivate at) there (stand (turns.ResentActivate at taken) (world_of still v notes (told_node n (body.Activate row.bucket) ns))) x.led turn)
        where
          some : (other : Row) → slice_get v.rows at ≡ Some other → is_some other.active ≡ true
          some other here = ap (λ (r : Row). is_some r.active) (same_some (slice_get v.rows at) other row here found) ∙ ap (λ (o : Option ℕ). is_some o) is

      activate-goes : GoesOn s still first v made notes (ResendingActivate at) ns (tell_active row.bucket row.accepted row.active (serves v.state) (ResendingActivate (at + 1)))
      activate-goes = by_active row.active refl (sends_active v s there at row (λ n. Nothing) seen (λ n is. under.actives at row n found is))
        where
          by_active : (a : Option ℕ) → row.active ≡ a → Activates v s there row (λ n. Nothing) (ResendingActivate at) (tell_active row.bucket row.accepted a (serves v.state) (ResendingActivate (at + 1)))
              → GoesOn s still first v made notes (ResendingActivate at) ns (tell_active row.bucket row.accepted a (serves v.state) (ResendingActivate (at + 1)))
          by_active None is led = activate-passed led
          by_active (Some n) is led = by_test (not row.accepted && serves v.state n) led
            where
              by_test : (t : Bool) → Activates v s there row (λ n. Nothing) (ResendingActivate at) (if t then Says (step.Tell n (body.Activate row.bucket)) else Over (ResendingActivate (at + 1)))
                  → GoesOn s still first v made notes (ResendingActivate at) ns (if t then Says (step.Tell n (body.Activate row.bucket)) else Over (ResendingActivate (at + 1)))
              by_test true turn = λ valid. activate-sent n (answer_of (body.Activate row.bucket) (ns n)) is turn
              by_test false led = activate-passed led

    pub resending_activate_goes : GoesOn s still first v made notes (ResendingActivate at) ns (turn_at v made notes (ResendingActivate at))
    resending_activate_goes = by_row_of (slice_get v.rows at) refl
      where
        by_row_of : (o : Option Row) → slice_get v.rows at ≡ o → GoesOn s still first v made notes (ResendingActivate at) ns (resending_activate v at o)
        by_row_of None none = activates-end none
        by_row_of (Some row) found = activate-goes row found

  module _ (at : ℕ) (taken : Bool) (ns : ℕ → Node) (under : IsUnder s still v ns) (x : Stands s still first v made notes (ResentActivate at taken) ns) where
    abbrev after-told : World
    after-told = world_of still v notes ns

    -- the row is gone: two turns go over that
    accepts-end : slice_get v.rows at ≡ None → Stands s still first v made notes (Rounding 0) ns
    accepts-end none =
        stands_on s still first v made notes (ResentActivate at taken) ns x (Rounding 0) v notes ns (x.knows.0, λ k row less found. absurd (omega (arith, less)), x.knows.2)
        (lead_more s (stand (turns.ResendingDelete x.sent) first) (turns.ResentActivate at taken) after-told (stand (turns.Rounding 0) after-told) x.led (
          2,
          two-turns s (turns.ResentActivate at taken) (turns.ResendingActivate (suc at)) after-told (stand (turns.Rounding 0) after-told)
              (ap (λ (o : Option rest.Row). by_row o (stand (turns.ResendingActivate (suc at)) after-told) (λ q. stand (turns.ResendingActivate (suc at)) (with_place_row at (accepted_if taken q) after-told))) (world_none v.state still notes v.rows at none))
              (ap (λ (o : Option rest.Row). by_row o (stand (turns.Rounding 0) after-told) (activate_then (turns.ResentActivate (suc at)) after-told)) (world_none v.state still notes v.rows (suc at) (none_next v.rows at none))),
        ))

    module _ (row : Row) (found : slice_get v.rows at ≡ Some row) where
      seen-now : slice_get after-told.rows at ≡ Some (row_with (λ n. Nothing) None row)
      seen-now = world_row v.state still notes v.rows at row found ∙ ap Some (no-note v.state still notes row x.knows.1)

      abbrev accepting : Row
      accepting = record row { accepted = true }

      accept-passed : (k : ℕ) × (turns.turns s k (stand (turns.ResentActivate at taken) after-told) ≡ stand (turns.ResendingActivate (at + 1)) after-told) → Stands s still first v made notes (ResendingActivate (at + 1)) ns
      accept-passed led =
          stands_on s still first v made notes (ResentActivate at taken) ns x (ResendingActivate (at + 1)) v notes ns (x.knows.0, x.knows.1, x.knows.2)
          (lead_more s (stand (turns.ResendingDelete x.sent) first) (turns.ResentActivate at taken) after-told (stand (turns.ResendingActivate (at + 1)) after-told) x.led led)

      accept-noted : turn_at_rest s (turns.ResentActivate at taken) after-told ≡ stand (turns.ResendingActivate (at + 1)) (with_place_row at (row_with (λ n. Nothing) None (record row { accepted = true })) after-told)
          → (w : View) → Changes v w (λ p q. AcceptsAt p q at) → Stands s still first w made notes (ResendingActivate (at + 1)) ns
      accept-noted turn w c =
          stands_on s still first v made notes (ResentActivate at taken) ns x (ResendingActivate (at + 1)) w notes ns (x.knows.0, x.knows.1, quiet)
          (lead_one s (stand (turns.ResendingDelete x.sent) first) (turns.ResentActivate at taken) after-told (stand (turns.ResendingActivate (at + 1)) (world_of still w notes ns)) x.led
          (turn ∙ ap (λ (z : World). stand (turns.ResendingActivate (at + 1)) z) (sym world-now)))
        where
          view-now : w ≡ record v { rows = slice_set v.rows at accepting }
          view-now = accept_changes v at row found w c

          world-now : world_of still w notes ns ≡ with_place_row at (row_with (λ n. Nothing) None accepting) after-told
          world-now = ap (λ (u : View). world_of still u notes ns) view-now
              ∙ ap (λ (rs : List rest.Row). record { nodes = ns; rows = rs })
              (world_set v.state still notes notes v.rows at accepting (λ k q off there. refl)
              ∙ ap (λ (r : rest.Row). slice_set (map (row_of v.state still notes) v.rows) at r) (no-note v.state still notes accepting x.knows.1))

          quiet : NoneDeletes w.rows
          quiet = subst NoneDeletes (sym (ap (λ (u : View). u.rows) view-now)) (quiet_set v.rows at row accepting found refl x.knows.2)

      accept-goes : GoesOn s still first v made notes (ResentActivate at taken) ns (if taken then Says (step.Accept at) else Over (ResendingActivate (at + 1)))
      accept-goes = by_taken taken (notes_active v s after-told at row (λ n. Nothing) seen-now taken (λ t. x.knows.3 t row found))
        where
          by_taken : (t : Bool) → Activates v s after-told row (λ n. Nothing) (ResentActivate at taken) (if t then Says (step.Accept at) else Over (ResendingActivate (at + 1)))
              → GoesOn s still first v made notes (ResentActivate at taken) ns (if t then Says (step.Accept at) else Over (ResendingActivate (at + 1)))
          by_taken true turn = λ w later c. accept-noted turn w c
          by_taken false led = accept-passed led

    pub resent_activate_goes : GoesOn s still first v made notes (ResentActivate at taken) ns (turn_at v made notes (ResentActivate at taken))
    resent_activate_goes = by_row_of (slice_get v.rows at) refl
      where
        by_row_of : (o : Option Row) → slice_get v.rows at ≡ o → GoesOn s still first v made notes (ResentActivate at taken) ns (resent_activate at taken o)
        by_row_of None none = accepts-end none
        by_row_of (Some row) found = accept-goes row found
