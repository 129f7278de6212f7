-- A row is split.
use Rattle.std.proofs.Common.{◌≡◌, ℕ, ◌^◌, ◌<◌, Bool, true, false, List, ◌∷◌, Option, Some, None, inl, inr, ◌⊎◌, refl, sym, ap, ◌∙◌, subst, slice_get, eq-eqb}
use Rattle.std.specs.List.{remove}
use Rattle.bucket_ids.specs.Buckets.{Low}
use Rattle.bucket_ids.specs.Buckets as ids
use Rattle.cluster_states.specs.declared.cluster_state.ClusterState.{ClusterState}
use Rattle.bucket_db.specs.Changes.{with_row, split_at, first_half, second_half}
use Rattle.bucket_db.specs.declared.row.Row.{Row}
use Rattle.bucket_db.proofs.RowLaws.{split_is}
use Rattle.messages.specs.declared.decision.Decision.TheVariants as choice
use Rattle.node_model.specs.Nodes.{Node}
use Rattle.distributor_part.specs.declared.rules.Rules.{Rules}
use Rattle.distributor_part.specs.Parts.{Part}
use Rattle.distributor_part.specs.Upkeep.{SplitsRow}
use Rattle.lane_journals.specs.Buckets.{contains, first_child, second_child}
use Rattle.lane_journals.specs.Events.{Decided, RowSplit}
use Rattle.lane_journals.specs.Readers.{Journal}
use Rattle.lane_journals.specs.Meanings.{history}
use Rattle.lane_journals.specs.KeptJournals.{IsLegalStep}
use Rattle.lane_journals.specs.declared.event.LaneEvent.{LaneEvent}
use Rattle.lane_journals.specs.declared.event.LaneEvent.TheVariants as event
use Rattle.lane_journals.proofs.BucketLaws.{child_of, first_in, second_in, children_apart, fits-of}
use Rattle.lane_keeping.specs.LaneKeeping.{setting_of, row_by, part_in, Keeps}
use Rattle.lane_keeping.specs.Laws.{IsKeptNext}
use Rattle.lane_keeping.proofs.Owners.{known-row, place-fits}
use Rattle.row_keeping.specs.Deciding.{IsDeciding}
use Rattle.row_keeping.proofs.RowLists.{Apart, parted-of, place-row, not-true, come-here, come-other, come-apart, gone-apart, gone-here, gone-other}
use Rattle.row_keeping.proofs.Reading.{Says, SaysRow}
use Rattle.row_keeping.proofs.Decided.{owns, rows-apart, rows-say, decided-next}

first-is : (b : Low) → first_child b ≡ ids.first_child b
unfolding first_child
first-is b = refl

second-is : (b : Low) → second_child b ≡ ids.second_child b
unfolding second_child
second-is b = refl

module _ (rs : List Row) (at : ℕ) (row : Row) (free : Apart rs) (found : slice_get rs at ≡ Some row) where
  abbrev one : Row
  one = first_half row

  abbrev two : Row
  two = second_half row

  fits : row.bucket.low < 2 ^ row.bucket.bits
  fits = place-fits rs at row (parted-of rs free) found

  is-first : (key : ℕ) → contains (ids.first_child row.bucket) key ≡ contains (first_child row.bucket) key
  is-first key = ap (λ (b : Low). contains b key) (sym (first-is row.bucket))

  is-second : (key : ℕ) → contains (ids.second_child row.bucket) key ≡ contains (second_child row.bucket) key
  is-second key = ap (λ (b : Low). contains b key) (sym (second-is row.bucket))

  -- the first half comes where no key of it has a row, and then the second
  no-first : (key : ℕ) → contains (first_child row.bucket) key ≡ true → row_by key (remove rs at) ≡ None
  no-first key i = gone-here key rs at row free found (first_in row.bucket key fits i)

  no-second : (key : ℕ) → contains (second_child row.bucket) key ≡ true → row_by key (with_row (first_half row) (remove rs at)) ≡ None
  no-second key i = come-other key one (remove rs at) (is-first key ∙ not-true (contains (first_child row.bucket) key) (λ j. children_apart row.bucket key j i)) ∙ gone-here key rs at row free found (second_in row.bucket key fits i)

  pub split-apart : Apart (split_at at rs)
  split-apart = subst Apart (sym (split_is rs at row found))
      (come-apart two (with_row one (remove rs at))
      (come-apart one (remove rs at) (gone-apart rs at free) (subst (λ (b : Low). b.low < 2 ^ b.bits) (first-is row.bucket) (fits-of row.bucket fits).0) (λ key i. no-first key (sym (is-first key) ∙ i)))
      (subst (λ (b : Low). b.low < 2 ^ b.bits) (second-is row.bucket) (fits-of row.bucket fits).1) (λ key i. no-second key (sym (is-second key) ∙ i)))

  -- the row of a key of the first half, of the second, and of neither
  split-first : (key : ℕ) → contains (first_child row.bucket) key ≡ true → row_by key (split_at at rs) ≡ Some (first_half row)
  split-first key i = ap (λ (xs : List Row). row_by key xs) (split_is rs at row found)
      ∙ come-other key two (with_row one (remove rs at)) (is-second key ∙ not-true (contains (second_child row.bucket) key) (λ j. children_apart row.bucket key i j))
      ∙ come-here key one (remove rs at) (is-first key ∙ i) (no-first key i)

  split-second : (key : ℕ) → contains (second_child row.bucket) key ≡ true → row_by key (split_at at rs) ≡ Some (second_half row)
  split-second key i = ap (λ (xs : List Row). row_by key xs) (split_is rs at row found) ∙ come-here key two (with_row one (remove rs at)) (is-second key ∙ i) (no-second key i)

  split-other : (key : ℕ) → contains row.bucket key ≡ false → row_by key (split_at at rs) ≡ row_by key rs
  split-other key out = ap (λ (xs : List Row). row_by key xs) (split_is rs at row found)
      ∙ come-other key two (with_row one (remove rs at)) (is-second key ∙ not-true (contains (second_child row.bucket) key) (λ j. outside (second_in row.bucket key fits j)))
      ∙ come-other key one (remove rs at) (is-first key ∙ not-true (contains (first_child row.bucket) key) (λ j. outside (first_in row.bucket key fits j)))
      ∙ gone-other key rs at row found out
    where
      outside : contains row.bucket key ≡ true → ⊥
      outside i = let w : true ≡ false = sym i ∙ out in cc

  -- so say the readers
  module _ (v d : ℕ) (H : Journal) (say : (key : ℕ) → Says v key H (row_by key rs)) where
    abbrev K : Journal
    K = Decided d v (RowSplit row.bucket) ∷ H

    here : (key : ℕ) → contains row.bucket key ≡ true → SaysRow v key H row
    here key i = subst (λ (o : Option Row). Says v key H o) (place-row rs at row free found key i) (say key)

    by-half : (key : ℕ) → contains row.bucket key ≡ true → (contains (first_child row.bucket) key ≡ true) ⊎ (contains (second_child row.bucket) key ≡ true) → Says v key K (row_by key (split_at at rs))
    by-half key i (inl f) = let h = here key i in subst (λ (o : Option Row). Says v key K o) (sym (split-first key f)) (record {
      row = rw (eq-eqb v v refl, i, f) (ap (λ (b : Low). Some b) (first-is row.bucket));
      members = h.members;
      actives = h.actives;
      deletes = h.deletes;
    })
    by-half key i (inr f) = let h = here key i in let off = not-true (contains (first_child row.bucket) key) (λ j. children_apart row.bucket key j f) in subst (λ (o : Option Row). Says v key K o) (sym (split-second key f)) (record {
      row = rw (eq-eqb v v refl, i, off) (ap (λ (b : Low). Some b) (second-is row.bucket));
      members = h.members;
      actives = h.actives;
      deletes = h.deletes;
    })

    outside-says : (key : ℕ) → contains row.bucket key ≡ false → (o : Option Row) → Says v key H o → Says v key K o
    outside-says key out None h = rw (eq-eqb v v refl, out) h
    outside-says key out (Some r) h = record { row = rw (eq-eqb v v refl, out) h.row; members = h.members; actives = h.actives; deletes = h.deletes }

    pub split-says : (key : ℕ) → Says v key K (row_by key (split_at at rs))
    split-says key = by_key (contains row.bucket key) refl
      where
        by_key : (t : Bool) → contains row.bucket key ≡ t → Says v key K (row_by key (split_at at rs))
        by_key true i = by-half key i (child_of row.bucket key i)
        by_key false out = subst (λ (o : Option Row). Says v key K o) (sym (split-other key out)) (outside-says key out (row_by key rs) (say key))

pub split-next : (lane : Low) (rules : Rules) (J : List LaneEvent) (newest : Option ClusterState) (last : ℕ) (nodes : List Node) (parts : List Part) → Keeps lane rules J newest last nodes parts
    → (now : List Part) (d : ℕ) (s : ClusterState) → IsDeciding lane rules J parts now d s → (at : ℕ) (x : SplitsRow (part_in lane rules parts d) (part_in lane rules now d) at)
    → IsKeptNext lane rules J newest last nodes now (event.Decided d s.version (choice.RowSplit (x.row).bucket))
split-next lane rules J newest last nodes parts keep now d s g at x =
    decided-next lane rules J newest last nodes parts keep d s g.acting x.rows x.opened now g.others (choice.RowSplit (x.row).bucket) step (split_at at (x.rows).rows) x.after
    (split-apart (x.rows).rows at x.row free x.found)
    (split-says (x.rows).rows at x.row free x.found s.version d (history J) (rows-say lane rules J newest last nodes parts keep d s g.acting x.rows x.opened))
  where
    free : Apart (x.rows).rows
    free = rows-apart lane rules J newest last nodes parts keep d s g.acting x.rows x.opened

    step : IsLegalStep (setting_of lane rules) J (event.Decided d s.version (choice.RowSplit (x.row).bucket))
    step = record {
      noted = tt;
      permitted = (
        (g.acting).holds,
        (
          x.fewer,
          record {
            row = (known-row lane rules J newest last nodes parts keep d s g.acting x.rows x.opened at x.row x.found).is_row;
            no_round = g.no_round (x.row).bucket;
            idle = g.idle (x.row).bucket;
          },
        ),
      );
      placed = (owns lane rules J newest last nodes parts keep d s g.acting, tt);
      ended = tt;
    }
