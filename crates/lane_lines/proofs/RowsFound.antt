-- The search for a row: the opening, and then the round of the row.
use Rattle.std.proofs.Common.{◌≡◌, ℕ, true, false, List, Option, Some, None, IsSome, is_some, refl, sym, ap, subst, ◌∙◌}
use Rattle.bucket_ids.specs.Buckets.{Low}
use Rattle.stamps.specs.declared.stamp.Stamp.{Stamp}
use Rattle.cluster_states.specs.declared.cluster_state.ClusterState.{ClusterState}
use Rattle.messages.specs.declared.operation.Operation.{Operation}
use Rattle.bucket_db.specs.Rows.{Rows}
use Rattle.distributor_part.specs.declared.rules.Rules.{Rules}
use Rattle.lane_journals.specs.declared.event.LaneEvent.{LaneEvent}
use Rattle.lane_keeping.specs.Asking.{OthersStay}
use Rattle.lane_journals.specs.Readers.{Journal}
use Rattle.lane_journals.specs.Facts.{Idle}
use Rattle.lane_journals.specs.Meanings.{history}
use Rattle.lane_states.specs.FreeRows.{IsRowFree}
use Rattle.operation_keeping.specs.Wants.{IsRunSince, IsCutRunSince}
use Rattle.lane_states.specs.declared.lane_state.LaneState.{LaneState}
use Rattle.lane_states.specs.LaneStates.{journal_of, part_of}
use Rattle.round_keeping.specs.RoundRuns.{NoneRuns}
use Rattle.lane_lines.specs.Steps.{IsUneventful}
use Rattle.lane_lines.specs.Readying.{IsToPrepare, IsForLine, OfUnprepared, OfSearches, search_from, GoesOnWith, IsCutOffWith, IsOpenedFor, OpensOr, FindsOr}
use Rattle.lane_lines.proofs.RunningSteps.{run-more}
use Rattle.lane_lines.specs.declared.readying.Shortage.{Shortage}

-- ---- runs

pub cut-then : (lane : Low) (rules : Rules) (line : ℕ) (o : Operation) (from : Journal) (J K : List LaneEvent) → IsRunSince lane rules line o from J K → (L : List LaneEvent) → IsCutRunSince lane rules line o from K L → IsCutRunSince lane rules line o from J L
cut-then lane rules line o from J K first L c = (c.0, run-more lane rules line o from J K c.0 first c.1, c.2)

pub none-on : (J K : List LaneEvent) → NoneRuns J → IsUneventful J K → NoneRuns K
none-on J K none q = λ v b. q.rounds v b ∙ none v b

pub no-rows : (o : Option Rows) → false ≡ is_some o → o ≡ None
no-rows None e = refl
no-rows (Some x) e = let none : false ≡ true = e in cc

-- what the opening came to
module _ (from : Journal) (e : LaneState) (d line : ℕ) (o : Operation) (s : ClusterState) (end : Option Shortage) (h : OpensOr from e d line o s end) where
  pub opened-so : end ≡ None → IsOpenedFor from e d s
  opened-so is = subst (λ (x : Option Shortage). OpensOr from e d line o s x) is h

  pub short-so : (x : Shortage) → end ≡ Some x → FindsOr from e line o s (Some x)
  short-so x is = subst (λ (y : Option Shortage). OpensOr from e d line o s y) is h

pub moved-then : (x y z : LaneState) → y ≡ record x { journal = y.journal; last = y.last; nodes = y.nodes; parts = y.parts; late = y.late }
    → z ≡ record y { journal = z.journal; last = z.last; nodes = z.nodes; parts = z.parts; late = z.late } → z ≡ record x { journal = z.journal; last = z.last; nodes = z.nodes; parts = z.parts; late = z.late }
moved-then x y z a b = b ∙ ap (λ (w : LaneState). record w { journal = z.journal; last = z.last; nodes = z.nodes; parts = z.parts; late = z.late }) a

-- the row of a state under which no operation is prepared is free
pub free-so : (y : LaneState) (s t : ClusterState) (acks key : ℕ) → s ≡ t → ((b : Low) → Idle t.version b (history (journal_of y))) → IsRowFree (journal_of y) s acks key
free-so y s t acks key same idle row known inside few = subst (λ (u : ClusterState). Idle u.version row.bucket (history (journal_of y))) (sym same) (idle row.bucket)

-- ---- the opening, and then the round

module _ (x y z : LaneState) (d key : ℕ) (lane : y.lane ≡ x.lane) (rules : y.rules ≡ x.rules)
    (goes : OfUnprepared x d key (λ line o s stamp. GoesOnWith (search_from x) x y line o d s stamp))
    (opens : OfUnprepared x d key (λ line o s stamp. IsOpenedFor (search_from x) y d s)) where
  waits-on : (line : ℕ) (o : Operation) (s : ClusterState) (stamp : Option Stamp) → GoesOnWith (search_from x) x y line o d s stamp → IsToPrepare y.lane (journal_of y) line o d s stamp
  waits-on line o s stamp g = subst (λ (l : Low). IsToPrepare l (journal_of y) line o d s stamp) (sym lane) g.still

  pub line-on : IsForLine x d key → IsForLine y d key
  line-on f = record {
    line = f.line;
    operation = f.operation;
    state = f.state;
    stamp = f.stamp;
    waits = waits-on f.line f.operation f.state f.stamp (goes f.line f.operation f.state f.stamp f.waits f.key_is);
    key_is = f.key_is;
  }

  pub rows-on : IsForLine x d key → IsSome (part_of y d).rows
  rows-on f = (opens f.line f.operation f.state f.stamp f.waits f.key_is).rows

  pub goes-then : OfSearches y d key (λ from line o s stamp. GoesOnWith from y z line o d s stamp) → OfUnprepared x d key (λ line o s stamp. GoesOnWith (search_from x) x z line o d s stamp)
  goes-then h = λ line o s stamp w e.
      let g = goes line o s stamp w e in
      let p = opens line o s stamp w e in
      let n = h line o s stamp (waits-on line o s stamp g) e (search_from x) p.sent_stays p.no_round in
      record {
        run = run-more x.lane x.rules line o (search_from x) (journal_of x) (journal_of y) (journal_of z) g.run
            (subst (λ (l : Low). IsRunSince l x.rules line o (search_from x) (journal_of y) (journal_of z)) lane (subst (λ (r : Rules). IsRunSince y.lane r line o (search_from x) (journal_of y) (journal_of z)) rules n.run));
        still = subst (λ (l : Low). IsToPrepare l (journal_of z) line o d s stamp) lane n.still;
      }

  pub finds-then : (end : Option Shortage) → OfSearches y d key (λ from line o s stamp. FindsOr from z line o s end) → OfUnprepared x d key (λ line o s stamp. FindsOr (search_from x) z line o s end)
  finds-then end h = λ line o s stamp w e.
      let p = opens line o s stamp w e in
      h line o s stamp (waits-on line o s stamp (goes line o s stamp w e)) e (search_from x) p.sent_stays p.no_round

  pub cuts-then : OfSearches y d key (λ from line o s stamp. IsCutOffWith from y z line o d s stamp) → OfUnprepared x d key (λ line o s stamp. IsCutOffWith (search_from x) x z line o d s stamp)
  cuts-then h = λ line o s stamp w e.
      let g = goes line o s stamp w e in
      let p = opens line o s stamp w e in
      let n = h line o s stamp (waits-on line o s stamp g) e (search_from x) p.sent_stays p.no_round in
      record {
        run = cut-then x.lane x.rules line o (search_from x) (journal_of x) (journal_of y) g.run (journal_of z)
            (subst (λ (l : Low). IsCutRunSince l x.rules line o (search_from x) (journal_of y) (journal_of z)) lane (subst (λ (r : Rules). IsCutRunSince y.lane r line o (search_from x) (journal_of y) (journal_of z)) rules n.run));
        still = subst (λ (l : Low). IsToPrepare l (journal_of z) line o d s stamp) lane n.still;
      }

pub parts-then : (x y z : LaneState) (d : ℕ) → y.lane ≡ x.lane → y.rules ≡ x.rules → OthersStay x.lane x.rules x.parts.items y.parts.items d → OthersStay y.lane y.rules y.parts.items z.parts.items d
    → OthersStay x.lane x.rules x.parts.items z.parts.items d
parts-then x y z d lane rules a b e off =
    subst (λ (r : Rules). OthersStay x.lane r y.parts.items z.parts.items d) rules (subst (λ (l : Low). OthersStay l y.rules y.parts.items z.parts.items d) lane b) e off ∙ a e off
