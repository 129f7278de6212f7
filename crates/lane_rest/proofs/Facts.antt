-- What is plain of targets and of rows at rest.
use Rattle.std.proofs.Common.{◌≡◌, ◌==◌, ◌||◌, ◌≤◌, ◌<◌, ℕ, Bool, true, false, List, take, Option, Some, refl, ap, ap₂, ◌∙◌, eq-eqb, arith}
use Rattle.cluster_states.specs.declared.cluster_state.ClusterState.{ClusterState}
use Rattle.lane_journals.specs.RowLists.{Row}
use Rattle.lane_journals.specs.Meanings.{history}
use Rattle.lane_journals.specs.Places.{Setting}
use Rattle.lane_journals.specs.declared.event.LaneEvent.{LaneEvent}
use Rattle.lane_rest.specs.Targets.{is_member, is_active, is_target_in}
use Rattle.lane_rest.specs.Rest.{IsRowAtRest, documents, union_under}

either-first : (a b : Bool) → a ≡ true → (a || b) ≡ true
either-first true b e = refl
either-first false b e = cc

either-second : (a b : Bool) → b ≡ true → (a || b) ≡ true
either-second true b e = refl
either-second false b e = e

pub first-target : (redundancy n : ℕ) → (ideal : List ℕ) → (active : Option ℕ) → is_member (take redundancy ideal) n ≡ true → is_target_in redundancy ideal active n ≡ true
first-target redundancy n ideal active is = either-first (is_member (take redundancy ideal) n) (is_active active n) is

pub active-target : (redundancy n : ℕ) → (ideal : List ℕ) → is_target_in redundancy ideal (Some n) n ≡ true
active-target redundancy n ideal = either-second (is_member (take redundancy ideal) n) (n == n) (eq-eqb n n refl)

pub rests-with : (S : Setting) (searchable split_at : ℕ) (s : ClusterState) (J : List LaneEvent) (row : Row) → IsRowAtRest S searchable split_at s J row → IsRowAtRest S searchable (documents row.bucket (union_under s (history J)) J) s J row
rests-with S searchable split_at s J row r = record {
  ideal = r.ideal;
  is_ideal = r.is_ideal;
  targets = r.targets;
  others = r.others;
  complete = r.complete;
  active = r.active;
  ready = r.ready;
  small = λ few. omega arith;
}
