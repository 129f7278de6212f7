-- A lane whose owner may make a pass, and what the opening of its state makes of it.
use Rattle.std.proofs.Common.{◌≡◌, ◌<◌, ℕ, Bool, true, List, Option, Some, None, is_some, refl, sym, ap, subst, ◌∙◌, vec_len}
use Rattle.bucket_ids.specs.Buckets.{Low}
use Rattle.carriers.specs.declared.fate.Fate.{Fate}
use Rattle.bucket_db.specs.Rows.{Rows}
use Rattle.distributor_part.specs.Parts.{Part}
use Rattle.lane_journals.specs.Facts.{Idle}
use Rattle.lane_journals.specs.Meanings.{history}
use Rattle.lane_journals.specs.Places.{state_in}
use Rattle.lane_journals.specs.Readers.{held, running}
use Rattle.lane_journals.specs.declared.event.LaneEvent.{LaneEvent}
use Rattle.lane_keeping.specs.Asking.{OthersStay}
use Rattle.lane_states.specs.declared.lane_state.LaneState.{LaneState}
use Rattle.lane_rounds.specs.declared.opening.OpeningEnd.{OpeningEnd}
use Rattle.lane_states.specs.LaneStates.{journal_of, part_of, IsKept, HasRoom, IsCarriedBy, IsResting}
use Rattle.lane_rounds.specs.Openings.{EndsBy, EndsOpening, StopsOpening}
use Rattle.round_keeping.specs.RoundRuns.{NoneRuns}
use Rattle.upkeep_spans.specs.Spans.{AreUpkeep, Nothing, OfUpkeep}
use Rattle.lane_upkeep.specs.declared.owner.Owner.{Owner}
use Rattle.lane_upkeep.specs.Passing.{IsPassing, PassesOn}
use Rattle.lane_upkeep.specs.Maintaining.{IsBetween}
use Rattle.lane_upkeep.proofs.Upkept.{upkeep-opened, upkeep-stopped}

-- ---- what stays

pub passes-none : (c : LaneState) (o : Owner) → PassesOn c c o
passes-none c o = record { others = λ e off. refl; parts = refl; after = refl; grows = Nothing }

module _ (holds : OfUpkeep (λ J K. (d : ℕ) → held d (history K) ≡ held d (history J))) (states : OfUpkeep (λ J K. (v : ℕ) → state_in v K ≡ state_in v J))
    (idles : OfUpkeep (λ J K. (v : ℕ) (b : Low) → Idle v b (history J) → Idle v b (history K)))
    (c e : LaneState) (o : Owner) (given now : List Fate) (b : IsBetween c o given) (on : PassesOn c e o) where
  pub between-on : IsKept e → HasRoom 0 e → IsCarriedBy e now → IsResting (part_of e o.distributor) → NoneRuns (journal_of e) → IsBetween e o now
  between-on keeps spare carried resting runs =
      let v : ℕ = (o.state).version in
      let lane : e.lane ≡ c.lane = ap (λ (z : LaneState). z.lane) on.after in
      record {
        keeps = keeps;
        spare = spare;
        carried = carried;
        there = subst (λ (n : ℕ). o.distributor < n) (sym on.parts) b.there;
        acting = record {
          holds = holds o.distributor (o.state).version (journal_of c) (journal_of e) on.grows o.distributor ∙ (b.acting).holds;
          published = states o.distributor (o.state).version (journal_of c) (journal_of e) on.grows (o.state).version ∙ (b.acting).published;
          owner = rw lane (b.acting).owner;
        };
        resting = resting;
        none_runs = runs;
        idle = λ w x. idles o.distributor (o.state).version (journal_of c) (journal_of e) on.grows w x (b.idle w x);
      }

-- ---- the rows

record HasThem (o : Option Rows) : Type 0 where
  rows : Rows
  are : o ≡ Some rows

them : (o : Option Rows) → is_some o ≡ true → HasThem o
them None h = Prim.cc
them (Some rows) h = record { rows = rows; are = refl }

pub passing-of : (e : LaneState) (o : Owner) (now : List Fate) → IsBetween e o now → (part_of e o.distributor).state ≡ Some o.state → is_some (part_of e o.distributor).rows ≡ true → IsPassing e o now
passing-of e o now b heard some =
    let t : HasThem (part_of e o.distributor).rows = them (part_of e o.distributor).rows some in
    record {
      keeps = b.keeps;
      spare = b.spare;
      carried = b.carried;
      there = b.there;
      acting = b.acting;
      rows = t.rows;
      opened = record { heard = heard; opened = t.are };
      resting = b.resting;
      none_runs = b.none_runs;
      idle = b.idle;
    }

pub between-of : (e : LaneState) (o : Owner) (now : List Fate) → IsPassing e o now → IsBetween e o now
between-of e o now p = record { keeps = p.keeps; spare = p.spare; carried = p.carried; there = p.there; acting = p.acting; resting = p.resting; none_runs = p.none_runs; idle = p.idle }

ends-open : (c : LaneState) (d : ℕ) (missing : Option ℕ) (short : Bool) (K : List LaneEvent) (q : Part) → missing ≡ None → EndsBy c d missing short K q → is_some q.rows ≡ true
ends-open c d None short K q e h = ap (λ (z : Part). is_some z.rows) ((h.opens).rows).after
ends-open c d (Some m) short K q e h = Prim.cc

pub open-now : (c e : LaneState) (d : ℕ) (end : OpeningEnd) → EndsOpening c e d end → end.missing ≡ None → is_some (part_of e d).rows ≡ true
open-now c e d end h none = ap (λ (z : Part). is_some z.rows) (h.gives_up).after ∙ ends-open c d end.missing end.short (journal_of e) h.part none h.ends

-- ---- one opening behind another pass

pub passes-then : (c e f : LaneState) (o : Owner) → ((d v : ℕ) (J K L : List LaneEvent) → AreUpkeep d v J K → AreUpkeep d v K L → AreUpkeep d v J L) → PassesOn c e o → PassesOn e f o → PassesOn c f o
passes-then c e f o further a b = record {
  others = λ n off. others n off;
  parts = b.parts ∙ a.parts;
  after = b.after ∙ ap (λ (z : LaneState). record z { journal = f.journal; last = f.last; nodes = f.nodes; parts = f.parts; late = f.late }) a.after;
  grows = further o.distributor (o.state).version (journal_of c) (journal_of e) (journal_of f) a.grows b.grows;
}
  where
    others : OthersStay c.lane c.rules c.parts.items f.parts.items o.distributor
    others n off = rw (ap (λ (z : LaneState). z.lane) a.after, ap (λ (z : LaneState). z.rules) a.after) at (b.others n off) ∙ a.others n off

-- ---- what an opening leaves

module _ (c e : LaneState) (o : Owner) (given : List Fate) (b : IsBetween c o given) (heard : (part_of c o.distributor).state ≡ Some o.state)
    (others : OthersStay c.lane c.rules c.parts.items e.parts.items o.distributor) (parts : vec_len e.parts ≡ vec_len c.parts)
    (after : e ≡ record c { journal = e.journal; last = e.last; nodes = e.nodes; parts = e.parts; late = e.late }) where
  pub opened-passes : (end : OpeningEnd) → EndsOpening c e o.distributor end → PassesOn c e o
  opened-passes end h = record { others = others; parts = parts; after = after; grows = upkeep-opened c e o.distributor o.state heard end h }

  pub stopped-passes : StopsOpening c e o.distributor → PassesOn c e o
  stopped-passes h = record { others = others; parts = parts; after = after; grows = upkeep-stopped c e o.distributor o.state heard h }

-- no round runs where none ran
pub none-run-on : (J K : List LaneEvent) → ((v : ℕ) (b : Low) → running v b (history K) ≡ running v b (history J)) → NoneRuns J → NoneRuns K
none-run-on J K same none = λ v b. same v b ∙ none v b
