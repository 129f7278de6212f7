-- A row gets an active node, or a Delete; that its active node accepted is no matter of the journal.
use Rattle.std.proofs.Common.{◌≡◌, ◌&&◌, not, ℕ, zero, suc, ◌+◌, Bool, true, false, List, ◌∷◌, cond, Option, Some, None, inl, inr, refl, sym, ap, ◌∙◌, subst, slice_get, arith, add_comm, eqb, eq-eqb}
use Rattle.std.proofs.lemmas.Bool.Decides.{nat_tests}
use Rattle.bucket_ids.specs.Buckets.{Low}
use Rattle.node_sets.specs.Members.{has_node, size_of, size_below}
use Rattle.cluster_states.specs.declared.cluster_state.ClusterState.{ClusterState}
use Rattle.ideal_nodes.specs.Placement.{IsIdeal}
use Rattle.bucket_db.specs.Changes.{at_row}
use Rattle.bucket_db.specs.declared.row.Row.{Row}
use Rattle.messages.specs.declared.decision.Decision.TheVariants as choice
use Rattle.node_model.specs.Nodes.{Node}
use Rattle.distributor_part.specs.declared.rules.Rules.{Rules}
use Rattle.distributor_part.specs.Parts.{Part}
use Rattle.distributor_part.specs.Targets.{IsTarget, IsFirstComplete, IsToBeActive}
use Rattle.distributor_part.specs.Upkeep.{ActivatesAt, BeginsDelete, deleting_from}
use Rattle.lane_journals.specs.Sets.{count_below, count}
use Rattle.lane_journals.specs.Buckets.{contains}
use Rattle.lane_journals.specs.Events.{Decided, ActiveOn, DeleteFrom}
use Rattle.lane_journals.specs.Readers.{Journal, round_of, deleting}
use Rattle.lane_journals.specs.Readers as readers
use Rattle.lane_journals.specs.Legal.{IsIdleRow, Keeper}
use Rattle.lane_journals.specs.Meanings.{history}
use Rattle.lane_journals.specs.Places.{Setting}
use Rattle.lane_journals.specs.Places as places
use Rattle.lane_journals.specs.KeptJournals.{IsLegalStep}
use Rattle.lane_journals.specs.declared.event.LaneEvent.{LaneEvent}
use Rattle.lane_journals.specs.declared.event.LaneEvent.TheVariants as event
use Rattle.lane_journals.proofs.BucketLaws.{own-low}
use Rattle.lane_keeping.specs.LaneKeeping.{setting_of, IsDelete, row_by, part_in, Keeps}
use Rattle.lane_keeping.specs.Acting.{IsKnownRow}
use Rattle.lane_keeping.specs.Laws.{IsKeptNext}
use Rattle.lane_keeping.proofs.Owners.{known-row}
use Rattle.row_keeping.specs.Deciding.{IsDeciding, MayActivate, MayDelete, IsKeeper}
use Rattle.row_keeping.proofs.RowLists.{Apart, place-row, changed-apart, changed-here, changed-other}
use Rattle.row_keeping.proofs.Reading.{Says, SaysRow}
use Rattle.row_keeping.proofs.Decided.{owns, rows-apart, rows-say, decided-next}

-- ---- a row that changes in its bucket

pub changed-says : (f : Row → Row) → ((r : Row) → (f r).bucket ≡ r.bucket) → (at : ℕ) (rs : List Row) (row : Row) → Apart rs → slice_get rs at ≡ Some row → (v : ℕ) (H K : Journal) → ((key : ℕ) → Says v key H (row_by key rs))
    → ((key : ℕ) → contains row.bucket key ≡ true → SaysRow v key H row → SaysRow v key K (f row))
    → ((key : ℕ) → contains row.bucket key ≡ false → (o : Option Row) → Says v key H o → Says v key K o)
    → (key : ℕ) → Says v key K (row_by key (at_row at f rs))
changed-says f same at rs row free found v H K say inside outside key = by_key (contains row.bucket key) refl
  where
    by_key : (t : Bool) → contains row.bucket key ≡ t → Says v key K (row_by key (at_row at f rs))
    by_key true i = subst (λ (o : Option Row). Says v key K o) (sym (changed-here f same key at rs row free found i))
        (inside key i (subst (λ (o : Option Row). Says v key H o) (place-row rs at row free found key i) (say key)))
    by_key false out = subst (λ (o : Option Row). Says v key K o) (sym (changed-other f same key at rs row found out)) (outside key out (row_by key rs) (say key))

-- ---- activations

active-outside : (v d node : ℕ) (b : Low) (H : Journal) (key : ℕ) → contains b key ≡ false → (o : Option Row) → Says v key H o → Says v key (Decided d v (ActiveOn b node) ∷ H) o
active-outside v d node b H key out None h = h
active-outside v d node b H key out (Some r) h = record { row = h.row; members = h.members; actives = rw (eq-eqb v v refl, out) h.actives; deletes = h.deletes }

-- ---- Deletes

without-node : (node n : ℕ) (c : Bool) → cond (eqb node n) false c ≡ (c && not (eqb n node))
without-node node n true = grind (arith, nat_tests)
without-node node n false = grind (arith, nat_tests)

from-outside : (v d node serial : ℕ) (b : Low) (H : Journal) (key : ℕ) → contains b key ≡ false → (o : Option Row) → Says v key H o → Says v key (Decided d v (DeleteFrom b node serial) ∷ H) o
from-outside v d node serial b H key out None h = h
from-outside v d node serial b H key out (Some r) h = record { row = h.row; members = λ n. rw (eq-eqb v v refl, out) (h.members n); actives = h.actives; deletes = rw (eq-eqb v v refl, out) h.deletes }

size_below-count : (set k : ℕ) → size_below set k ≡ count_below (λ n. has_node set n) k
unfolding size_below count_below
size_below-count set zero = refl
size_below-count set (suc k) = ap (λ (m : ℕ). m + cond (has_node set k) 1 0) (size_below-count set k) ∙ add_comm (count_below (λ n. has_node set n) k) (cond (has_node set k) 1 0)

size_of-count : (set : ℕ) → size_of set ≡ count (λ n. has_node set n)
unfolding size_of count
size_of-count set = size_below-count set 32

-- ---- the lane

module _ (lane : Low) (rules : Rules) (J : List LaneEvent) (newest : Option ClusterState) (last : ℕ) (nodes : List Node) (parts : List Part) (keep : Keeps lane rules J newest last nodes parts) (now : List Part) (d : ℕ) (s : ClusterState) (g : IsDeciding lane rules J parts now d s) where
  abbrev S : Setting
  S = setting_of lane rules

  -- nothing is under way in a row of the part
  pub quiet : (row : Row) → IsKnownRow s.version (history J) row → IsIdleRow s.version row.bucket (history J)
  quiet row known = record { row = known.is_row; no_round = g.no_round row.bucket; idle = g.idle row.bucket }

  -- what holds of each key of the row holds of the row
  own : (row : Row) → IsKnownRow s.version (history J) row → contains row.bucket (row.bucket).low ≡ true
  own row known = own-low row.bucket (known.is_row).fits

  pub activate-next : (at node : ℕ) (x : ActivatesAt (part_in lane rules parts d) (part_in lane rules now d) at node) → MayActivate (history J) s x.row node
      → IsKeptNext lane rules J newest last nodes now (event.Decided d s.version (choice.ActiveOn (x.row).bucket node))
  activate-next at node x may =
      decided-next lane rules J newest last nodes parts keep d s g.acting x.rows x.opened now g.others (choice.ActiveOn (x.row).bucket node) step (at_row at activated (x.rows).rows) x.after
      (changed-apart activated (λ r. refl) at (x.rows).rows free)
      (changed-says activated (λ r. refl) at (x.rows).rows x.row free x.found s.version (history J) (Decided d s.version (ActiveOn (x.row).bucket node) ∷ history J)
      (rows-say lane rules J newest last nodes parts keep d s g.acting x.rows x.opened)
      (λ key i h. record { row = h.row; members = h.members; actives = rw (eq-eqb s.version s.version refl, i) refl; deletes = h.deletes })
      (active-outside s.version d node (x.row).bucket (history J)))
    where
      activated : Row → Row
      activated r = record r { active = Some node; accepted = false }

      free : Apart (x.rows).rows
      free = rows-apart lane rules J newest last nodes parts keep d s g.acting x.rows x.opened

      known : IsKnownRow s.version (history J) x.row
      known = known-row lane rules J newest last nodes parts keep d s g.acting x.rows x.opened at x.row x.found

      first : IsFirstComplete s (x.row).bucket (x.row).complete node
      first = subst (λ (o : Option ℕ). IsToBeActive s (x.row).bucket (x.row).complete o node) may.undecided may.to_be_active

      step : IsLegalStep S J (event.Decided d s.version (choice.ActiveOn (x.row).bucket node))
      step = record {
        noted = tt;
        permitted = (
          (g.acting).holds,
          record {
            quiet = quiet x.row known;
            undecided = λ key i. known.active_is key i ∙ may.undecided;
            member = λ key i. known.members node key i ∙ (first.is_first).member;
          },
        );
        placed = (
          owns lane rules J newest last nodes parts keep d s g.acting,
          (
            may.ready,
            record {
              state = s;
              published = (g.acting).published;
              ideal = first.ideal;
              is_ideal = first.is_ideal;
              listed = (first.is_first).listed;
              first = λ m has member. (first.is_first).first m has (sym (known.members m ((x.row).bucket).low (own x.row known)) ∙ member ((x.row).bucket).low (own x.row known));
            },
          ),
        );
        ended = tt;
      }

  pub delete-next : (at node serial : ℕ) (x : BeginsDelete (part_in lane rules parts d) (part_in lane rules now d) at node serial) → MayDelete rules (history J) s x.row node serial
      → IsKeptNext lane rules J newest last nodes now (event.Decided d s.version (choice.DeleteFrom (x.row).bucket node serial))
  delete-next at node serial x may =
      decided-next lane rules J newest last nodes parts keep d s g.acting x.rows x.opened now g.others (choice.DeleteFrom (x.row).bucket node serial) step (at_row at (deleting_from (x.row).bucket node serial x.marks) (x.rows).rows) x.after
      (changed-apart (deleting_from (x.row).bucket node serial x.marks) (λ r. refl) at (x.rows).rows free)
      (changed-says (deleting_from (x.row).bucket node serial x.marks) (λ r. refl) at (x.rows).rows x.row free x.found s.version (history J) (Decided d s.version (DeleteFrom (x.row).bucket node serial) ∷ history J)
      (rows-say lane rules J newest last nodes parts keep d s g.acting x.rows x.opened)
      (λ key i h. record {
        row = h.row;
        members = λ n. rw (eq-eqb s.version s.version refl, i, h.members n) (without-node node n (has_node (x.row).complete n) ∙ sym (x.kept n));
        actives = h.actives;
        deletes = rw (eq-eqb s.version s.version refl, i) (refl, refl, refl);
      })
      (from-outside s.version d node serial (x.row).bucket (history J)))
    where
      free : Apart (x.rows).rows
      free = rows-apart lane rules J newest last nodes parts keep d s g.acting x.rows x.opened

      known : IsKnownRow s.version (history J) x.row
      known = known-row lane rules J newest last nodes parts keep d s g.acting x.rows x.opened at x.row x.found

      here : (key : ℕ) → contains (x.row).bucket key ≡ true → SaysRow s.version key (history J) x.row
      here key i = subst (λ (o : Option Row). Says s.version key (history J) o) (place-row (x.rows).rows at x.row free x.found key i) (rows-say lane rules J newest last nodes parts keep d s g.acting x.rows x.opened key)

      no-delete : (o : Option readers.Deleting) → IsDelete None o → o ≡ None
      no-delete None h = refl
      no-delete (Some e) h = absurd h

      no-target : IsTarget rules.redundancy s (x.row).bucket (x.row).active node → ⊥
      no-target t = let w : true ≡ false = sym ((may.are_targets node).1 t) ∙ may.no_target in cc

      keeps-copy : (m : ℕ) → IsKeeper (history J) s x.row node m → Keeper s.version (round_of s.version (x.row).bucket (history J)) node m (x.row).bucket (history J)
      keeps-copy m k = record { other = k.other; member = λ key i. known.members m key i ∙ k.complete; answered = k.answered }

      places-target : places.IsTarget S J s.version (x.row).bucket node → ⊥
      places-target (inl t) = no-target (inl (record { ideal = t.ideal; is_ideal = (let both = sym t.published ∙ (g.acting).published in let one : t.state ≡ s = cc in subst (λ (z : ClusterState). IsIdeal (x.row).bucket z t.ideal) one t.is_ideal); among = t.among }))
      places-target (inr t) = no-target (inr (sym (known.active_is ((x.row).bucket).low (own x.row known)) ∙ t ((x.row).bucket).low (own x.row known)))

      step : IsLegalStep S J (event.Decided d s.version (choice.DeleteFrom (x.row).bucket node serial))
      step = record {
        noted = tt;
        permitted = (
          (g.acting).holds,
          record {
            quiet = quiet x.row known;
            none = λ key i. no-delete (deleting s.version key (history J)) (subst (λ (o : Option _). IsDelete o (deleting s.version key (history J))) may.none (here key i).deletes);
            inactive = λ key i is. no-target (inr (sym (known.active_is key i) ∙ is));
            given = may.given;
            read = may.shown;
            named = may.exact;
            keepers = ((λ n. has_node may.keepers n), (let z = size_of-count may.keepers in let e = may.enough in omega (arith, z, e)), (λ n h. keeps-copy n (may.are_keepers n h)));
          },
        );
        placed = (owns lane rules J newest last nodes parts keep d s g.acting, places-target);
        ended = tt;
      }
