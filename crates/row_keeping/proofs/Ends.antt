-- A Delete of rows is over.
use Rattle.std.proofs.Common.{◌≡◌, ◌&&◌, ℕ, Bool, true, false, map, List, ◌∷◌, cond, Option, Some, None, refl, sym, ap, ap₂, ◌∙◌, subst, eqb, eq-eqb}
use Rattle.bucket_ids.specs.Buckets.{Low}
use Rattle.cluster_states.specs.declared.cluster_state.ClusterState.{ClusterState}
use Rattle.bucket_db.specs.Changes.{is_delete, after_delete, without_delete}
use Rattle.bucket_db.specs.declared.row.Row.{Row}
use Rattle.bucket_db.specs.declared.row.Deleting.{Deleting}
use Rattle.messages.specs.declared.decision.Decision.TheVariants as choice
use Rattle.node_model.specs.Nodes.{Node}
use Rattle.distributor_part.specs.declared.rules.Rules.{Rules}
use Rattle.distributor_part.specs.Parts.{Part}
use Rattle.distributor_part.specs.Upkeep.{EndsDelete}
use Rattle.lane_journals.specs.Buckets.{contains, same_bucket}
use Rattle.lane_journals.specs.Events.{Delete, Decided, DeleteOver}
use Rattle.lane_journals.specs.Readers as readers
use Rattle.lane_journals.specs.Readers.{Journal, deleting, ends}
use Rattle.lane_journals.specs.Meanings.{history}
use Rattle.lane_journals.specs.Places.{Setting}
use Rattle.lane_journals.specs.KeptJournals.{IsLegalStep}
use Rattle.lane_journals.specs.declared.event.LaneEvent.{LaneEvent}
use Rattle.lane_journals.specs.declared.event.LaneEvent.TheVariants as event
use Rattle.lane_journals.proofs.BucketLaws.{own-low}
use Rattle.lane_keeping.specs.LaneKeeping.{setting_of, IsDelete, row_by, part_in, Keeps}
use Rattle.lane_keeping.specs.Laws.{IsKeptNext}
use Rattle.lane_keeping.proofs.Owners.{place-fits}
use Rattle.row_keeping.specs.Deciding.{IsDeciding, HasDelete, IsDeleteOver}
use Rattle.row_keeping.proofs.RowLists.{Apart, parted-of, place-row, after-all, all-row, all-apart}
use Rattle.row_keeping.proofs.Reading.{Says, SaysRow}
use Rattle.row_keeping.proofs.Decided.{owns, rows-apart, rows-say, decided-next}

-- ---- which Delete ends

test-is : (b : Low) (node : ℕ) (x : Deleting) → is_delete b node x ≡ cond (same_bucket x.bucket b) (eqb x.node node) false
unfolding same_bucket
test-is b node x = by_tests (eqb x.bucket.bits b.bits) (eqb x.bucket.low b.low) (eqb x.node node)
  where
    by_tests : (p q r : Bool) → ((p && q) && r) ≡ cond (cond p q false) r false
    by_tests true true r = refl
    by_tests true false r = refl
    by_tests false q r = refl

ended-same : (b : Low) (node : ℕ) (x : Deleting) (y : readers.Deleting) → IsDelete (Some x) (Some y) → IsDelete (after_delete b node (Some x)) (ends b node (Some y))
ended-same b node x y same = by_tests (same_bucket y.bucket b) (eqb y.node node) (test-is b node x ∙ ap₂ (λ (c : Low) (n : ℕ). cond (same_bucket c b) (eqb n node) false) same.0 same.1)
  where
    by_tests : (p q : Bool) → is_delete b node x ≡ cond p q false → IsDelete (cond (is_delete b node x) None (Some x)) (cond p (cond q None (Some y)) (Some y))
    by_tests true true e = rw e tt
    by_tests true false e = rw e same
    by_tests false q e = rw e same

ended-delete : (b : Low) (node : ℕ) (o : Option Deleting) (e : Option readers.Deleting) → IsDelete o e → IsDelete (after_delete b node o) (ends b node e)
ended-delete b node None None h = tt
ended-delete b node None (Some y) h = absurd h
ended-delete b node (Some x) None h = absurd h
ended-delete b node (Some x) (Some y) h = ended-same b node x y h

-- ---- the rows

over-says : (b : Low) (node : ℕ) (v d key : ℕ) (H : Journal) (o : Option Row) → Says v key H o → Says v key (Decided d v (DeleteOver b node) ∷ H) (after-all (without_delete b node) (λ r. refl) o)
over-says b node v d key H None h = h
over-says b node v d key H (Some r) h = record { row = h.row; members = h.members; actives = h.actives; deletes = rw (eq-eqb v v refl) (ended-delete b node r.deleting (deleting v key H) h.deletes) }

-- ---- the lane

module _ (lane : Low) (rules : Rules) (J : List LaneEvent) (newest : Option ClusterState) (last : ℕ) (nodes : List Node) (parts : List Part) (keep : Keeps lane rules J newest last nodes parts) (now : List Part) (d : ℕ) (s : ClusterState) (g : IsDeciding lane rules J parts now d s) where
  abbrev S : Setting
  S = setting_of lane rules

  -- what the journal has of a Delete of the part
  pub record Pending (delete : Deleting) : Type 0 where
    pub key : ℕ
    pub pending : readers.Deleting
    pub is : deleting s.version key (history J) ≡ Some pending
    pub same : IsDelete (Some delete) (Some pending)

  pub pending : (delete : Deleting) (x : EndsDelete (part_in lane rules parts d) (part_in lane rules now d) delete.bucket delete.node) → HasDelete x.rows delete → Pending delete
  pending delete x h = by_delete (deleting s.version key (history J)) refl (subst (λ (o : Option Deleting). IsDelete o (deleting s.version key (history J))) h.deleting here.deletes)
    where
      free : Apart (x.rows).rows
      free = rows-apart lane rules J newest last nodes parts keep d s g.acting x.rows x.opened

      key : ℕ
      key = ((h.row).bucket).low

      inside : contains (h.row).bucket ((h.row).bucket).low ≡ true
      inside = own-low (h.row).bucket (place-fits (x.rows).rows h.at h.row (parted-of (x.rows).rows free) h.found)

      here : SaysRow s.version ((h.row).bucket).low (history J) h.row
      here = subst (λ (o : Option Row). Says s.version ((h.row).bucket).low (history J) o) (place-row (x.rows).rows h.at h.row free h.found ((h.row).bucket).low inside)
          (rows-say lane rules J newest last nodes parts keep d s g.acting x.rows x.opened ((h.row).bucket).low)

      by_delete : (o : Option readers.Deleting) → deleting s.version ((h.row).bucket).low (history J) ≡ o → IsDelete (Some delete) o → Pending delete
      by_delete None e same = absurd same
      by_delete (Some y) e same = record { key = ((h.row).bucket).low; pending = y; is = e; same = same }

  pub over-next : (delete : Deleting) (x : EndsDelete (part_in lane rules parts d) (part_in lane rules now d) delete.bucket delete.node) → HasDelete x.rows delete → IsDeleteOver (history J) s delete
      → IsKeptNext lane rules J newest last nodes now (event.Decided d s.version (choice.DeleteOver delete.bucket delete.node))
  over-next delete x h over =
      decided-next lane rules J newest last nodes parts keep d s g.acting x.rows x.opened now g.others (choice.DeleteOver delete.bucket delete.node) step (map changed (x.rows).rows) x.after
      (all-apart changed (λ r. refl) (x.rows).rows (rows-apart lane rules J newest last nodes parts keep d s g.acting x.rows x.opened))
      (λ key. subst (λ (o : Option Row). Says s.version key (Decided d s.version (DeleteOver delete.bucket delete.node) ∷ history J) o) (sym (all-row changed (λ r. refl) key (x.rows).rows))
      (over-says delete.bucket delete.node s.version d key (history J) (row_by key (x.rows).rows) (rows-say lane rules J newest last nodes parts keep d s g.acting x.rows x.opened key)))
    where
      changed : Row → Row
      changed r = without_delete delete.bucket delete.node r

      was : Pending delete
      was = pending delete x h

      step : IsLegalStep S J (event.Decided d s.version (choice.DeleteOver delete.bucket delete.node))
      step = record {
        noted = tt;
        permitted = (
          (g.acting).holds,
          record {
            key = was.key;
            delete = was.pending;
            pending = was.is;
            bucket = sym (was.same).0;
            node = sym (was.same).1;
            no_round = λ other row e at. g.no_round row;
            idle = λ other line begin p e is_open inside. g.idle p.row line begin p is_open refl;
            number = over.number;
            message = over.message;
            was_sent = over.was_sent;
            receiver = over.receiver;
            version = over.version;
            body = over.body ∙ ap (λ (n : ℕ). Delete delete.bucket n) (was.same).2;
            reply = over.reply;
            replied = over.replied;
            ending = over.ending;
            back = over.back;
          },
        );
        placed = (owns lane rules J newest last nodes parts keep d s g.acting, tt);
        ended = tt;
      }
