-- The first events of a lane.
use Rattle.std.proofs.Common.{◌≡◌, ◌==◌, ◌<◌, ℕ, zero, suc, Bool, true, false, List, [], ◌∷◌, Option, Some, is_some, inl, inr, refl, sym, ap, ◌∙◌, arith, if◌then◌else◌}
use Rattle.std.specs.Option.{IsSome}
use Rattle.std.proofs.lemmas.Bool.{cases_lt}
use Rattle.std.proofs.lemmas.Bool.Decides.{nat_tests}
use Rattle.node_sets.specs.Members.{has_node}
use Rattle.node_sets.proofs.Bits.{has_none}
use Rattle.carriers.specs.declared.fate.Fate.{Fate}
use Rattle.cluster_states.specs.declared.cluster_state.ClusterState.{ClusterState}
use Rattle.lane_journals.specs.Readers.{held}
use Rattle.lane_journals.specs.Meanings.{history}
use Rattle.lane_journals.specs.declared.event.LaneEvent.{LaneEvent}
use Rattle.lane_journals.specs.declared.event.LaneEvent.TheVariants.{Published, Heard}
use Rattle.lane_keeping.specs.Tidings.{heard_below, announced}
use Rattle.lane_calls.specs.LaneValues.{LaneValue, new_value, IsLaneValue}
use Rattle.lane_lives.specs.declared.setting.Setting.{Setting}
use Rattle.lane_lives.specs.Serving.{bucket_in, IsServing}
use Rattle.lane_calls.proofs.Told.{same_deaf}

-- each of those below a number that isn't deaf holds the state
pub held_below : (deaf : ℕ) (s : ClusterState) (J : List LaneEvent) (d e : ℕ) → e < d → has_node deaf e ≡ false → held e (history (heard_below d deaf s J)) ≡ Some s.version
unfolding heard_below
held_below deaf s J zero e h hears = absurd (omega (arith, h))
held_below deaf s J (suc d) e h hears = elim (cases_lt e d) [
  | inl below ↦ further (has_node deaf d) (held_below deaf s J d e below hears)
  | inr here ↦ own (omega (arith, h, here))
]
  where
    over : (t : Bool) (o : Option ℕ) → o ≡ Some s.version → (if t then Some s.version else o) ≡ Some s.version
    over true o is = refl
    over false o is = is

    further : (t : Bool) → held e (history (heard_below d deaf s J)) ≡ Some s.version → held e (history (if t then heard_below d deaf s J else Heard d s.version ∷ heard_below d deaf s J)) ≡ Some s.version
    further true is = is
    further false is = over (d == e) _ is

    heard : d ≡ e → held e (history (Heard d s.version ∷ heard_below d deaf s J)) ≡ Some s.version
    heard same = grind (arith, nat_tests)

    own : d ≡ e → held e (history (if has_node deaf d then heard_below d deaf s J else Heard d s.version ∷ heard_below d deaf s J)) ≡ Some s.version
    own same = ap (λ (t : Bool). held e (history (if t then heard_below d deaf s J else Heard d s.version ∷ heard_below d deaf s J))) (ap (has_node deaf) same ∙ hears) ∙ heard same

pub held_told : (deaf : ℕ) (s : ClusterState) (J : List LaneEvent) (d : ℕ) → d < 32 → has_node deaf d ≡ false → held d (history (announced deaf s J)) ≡ Some s.version
held_told deaf s J d small hears = held_below deaf s (Published s ∷ J) 32 d small hears

pub heard_first : (s : ClusterState) (d : ℕ) → d < 32 → IsSome (held d (history (announced 0 s [])))
heard_first s d h = ap is_some (held_told 0 s [] d h (has_none d))

-- a lane that was made, for which room was made, and where the first state was announced to all
pub opened_serves : (s : Setting) (planned carried : List Fate) (takes_plans : Bool) (lane deaf : ℕ) (made roomed v : LaneValue) → carried ≡ planned → made ≡ new_value (bucket_in s lane) s.rules s.schema [] carried takes_plans
    → roomed ≡ record made { has_room = true } → ((n : ℕ) → has_node deaf n ≡ false) → v ≡ record roomed { journal = announced deaf s.initial roomed.journal; has_room = false } → IsLaneValue v → IsServing s planned lane [] v
opened_serves s planned carried takes_plans lane deaf made roomed v same new room none is holds =
    let first : v ≡ record (new_value (bucket_in s lane) s.rules s.schema [] carried takes_plans) { journal = announced deaf s.initial [] } =
    is ∙ (λ i. record (room i) { journal = announced deaf s.initial (room i).journal; has_room = false }) ∙ (λ i. record (new i) { journal = announced deaf s.initial (new i).journal; has_room = false }) in
    record {
      lane_is = ap (λ (x : LaneValue). x.lane) first;
      rules_are = ap (λ (x : LaneValue). x.rules) first;
      types_are = ap (λ (x : LaneValue). x.types) first;
      planned_are = ap (λ (x : LaneValue). x.planned) first ∙ same;
      idle = ap (λ (x : LaneValue). x.under_way) first;
      rising = tt;
      life = ap (λ (x : LaneValue). x.journal) first ∙ same_deaf deaf 0 (λ n. none n ∙ sym (has_none n)) 32 s.initial (Published s.initial ∷ []);
      holds = holds;
    }
