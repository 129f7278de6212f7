-- Node after node is asked: the facts of a loop over the steps.
use Rattle.std.proofs.Common.{◌≡◌, ◌||◌, ◌<◌, ◌+◌, ◌-◌, ℕ, Bool, List, Option, Some, None, Result, Ok, Err, OnErr, sym, ap, subst, ◌∙◌, arith}
use Rattle.bucket_ids.specs.Buckets.{Low}
use Rattle.node_sets.specs.Members.{size_of}
use Rattle.node_sets.proofs.Bits.{size_of_most}
use Rattle.distributor_part.specs.declared.rules.Rules.{Rules}
use Rattle.distributor_part.specs.Parts.{Part}
use Rattle.distributor_part.specs.Steps.{without_end}
use Rattle.lane_journals.specs.declared.event.LaneEvent.{LaneEvent}
use Rattle.lane_keeping.specs.LaneKeeping.{PartKeeps}
use Rattle.lane_keeping.specs.Asking.{OthersStay}
use Rattle.lane_states.specs.declared.lane_state.LaneState.{LaneState}
use Rattle.lane_rounds.specs.declared.opening.OpeningEnd.{OpeningEnd}
use Rattle.lane_states.specs.LaneStates.{journal_of, IsKept, part_of, IsResting}
use Rattle.lane_rounds.specs.Openings.{IsOpening, AsksOne, IsOpenedNow, IsLacking, StopsAsking, IsAsked, More, OpensAfter, LacksAfter, StopsAfter, EndsBy, GivesUp, EndsOpening}

-- the lane with other nodes, parts and messages
abbrev pub moved : LaneState → LaneState → LaneState
moved x z = record x { journal = z.journal; last = z.last; nodes = z.nodes; parts = z.parts; late = z.late }

pub fewer-left : (x z : LaneState) (d : ℕ) (short : Bool) → AsksOne x z d short → 33 - size_of (part_of z d).asked < 33 - size_of (part_of x d).asked
fewer-left x z d short one = let more = one.more in let most = size_of_most (part_of z d).asked in omega (arith, more, most)

module _ (x y z : LaneState) (d : ℕ) (was : Bool) (kept : IsKept y) (asked : IsAsked x.lane x.rules d (journal_of x) (part_of x d) (journal_of y) (part_of y d) was) (after : y ≡ moved x y) where
  knows : PartKeeps x.lane x.rules (journal_of y) d (part_of y d)
  knows = subst (λ (r : Rules). PartKeeps x.lane r (journal_of y) d (part_of y d)) (ap (λ (w : LaneState). w.rules) after)
      (subst (λ (l : Low). PartKeeps l y.rules (journal_of y) d (part_of y d)) (ap (λ (w : LaneState). w.lane) after) (kept.keeps.parts_are d))

  pub asked-more : (short : Bool) → AsksOne y z d short → IsAsked x.lane x.rules d (journal_of x) (part_of x d) (journal_of z) (part_of z d) (was || short)
  asked-more short one = More (journal_of y) (journal_of z) (part_of y d) one.asked (part_of z d) (y.last + 1) one.message was short asked knows one.asks one.gone one.settled one.heard

  pub others-more : OthersStay x.lane x.rules x.parts.items y.parts.items d → OthersStay y.lane y.rules y.parts.items z.parts.items d → OthersStay x.lane x.rules x.parts.items z.parts.items d
  others-more a b e off = subst (λ (r : Rules). OthersStay x.lane r y.parts.items z.parts.items d) (ap (λ (w : LaneState). w.rules) after)
      (subst (λ (l : Low). OthersStay l y.rules y.parts.items z.parts.items d) (ap (λ (w : LaneState). w.lane) after) b) e off ∙ a e off

  pub opened-after : IsOpenedNow y z d → OpensAfter x d was (journal_of z) (part_of z d)
  opened-after o = record {
    before = journal_of y;
    part = part_of y d;
    asked = asked;
    keeps = knows;
    buckets = o.buckets;
    opens = o.opens;
    grows = o.grows;
  }

  pub lacks-after : (missing : ℕ) → IsLacking y z d missing → LacksAfter x d missing was (journal_of z) (part_of z d)
  lacks-after missing l = record {
    part = part_of y d;
    asked = subst (λ (J : List LaneEvent). IsAsked x.lane x.rules d (journal_of x) (part_of x d) J (part_of y d) was) (sym l.same) asked;
    keeps = subst (λ (J : List LaneEvent). PartKeeps x.lane x.rules J d (part_of y d)) (sym l.same) knows;
    lacks = l.lacks;
    after = l.after;
  }

  pub stops-after : IsOpening (part_of y d) → StopsAsking y z d → StopsAfter x d (journal_of z) (part_of z d)
  stops-after o s = record {
    part = part_of y d;
    short = was;
    asked = subst (λ (J : List LaneEvent). IsAsked x.lane x.rules d (journal_of x) (part_of x d) J (part_of y d) was) (sym s.same) asked;
    opening = o;
    after = s.after;
  }

-- ---- the job is over

pub rests-opened : (c : LaneState) (d : ℕ) (short : Bool) (K : List LaneEvent) (p q : Part) → OpensAfter c d short K p → GivesUp p q → IsResting q
rests-opened c d short K p q o g = record {
  unasked = ap (λ (x : Part). x.asked) g.after;
  told = ap (λ (x : Part). x.awaited) g.after;
  no_round = ap (λ (x : Part). x.stage) g.after ∙ ap without_end (ap (λ (x : Part). x.stage) ((o.opens).rows).after ∙ ((o.opens).unopened).no_round);
}

pub rests-lacking : (c : LaneState) (d missing : ℕ) (short : Bool) (K : List LaneEvent) (p q : Part) → LacksAfter c d missing short K p → GivesUp p q → IsResting q
rests-lacking c d missing short K p q l g = record {
  unasked = ap (λ (x : Part). x.asked) g.after;
  told = ap (λ (x : Part). x.awaited) g.after;
  no_round = ap (λ (x : Part). x.stage) g.after ∙ ap without_end (ap (λ (x : Part). x.stage) l.after);
}

pub rests-stopped : (c : LaneState) (d : ℕ) (K : List LaneEvent) (p q : Part) → StopsAfter c d K p → GivesUp p q → IsResting q
rests-stopped c d K p q s g = record {
  unasked = ap (λ (x : Part). x.asked) g.after;
  told = ap (λ (x : Part). x.awaited) g.after;
  no_round = ap (λ (x : Part). x.stage) g.after ∙ ap without_end (ap (λ (x : Part). x.stage) s.after ∙ (s.opening).no_round);
}

rests-by : (c : LaneState) (d : ℕ) (missing : Option ℕ) (short : Bool) (K : List LaneEvent) (p q : Part) → EndsBy c d missing short K p → GivesUp p q → IsResting q
rests-by c d None short K p q e g = rests-opened c d short K p q e g
rests-by c d (Some missing) short K p q e g = rests-lacking c d missing short K p q e g

pub rests-ended : (c e : LaneState) (d : ℕ) (end : OpeningEnd) → EndsOpening c e d end → IsResting (part_of e d)
rests-ended c e d end o = rests-by c d end.missing end.short (journal_of e) o.part (part_of e d) o.ends o.gives_up

pub on-err : {T E : Type 0} (r : Result T E) (P : Type 0) → P → OnErr r P
on-err (Ok x) P p = tt
on-err (Err e) P p = p
