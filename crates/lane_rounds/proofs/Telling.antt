-- What a part is told, and what of it stays.
use Rattle.std.proofs.Common.{◌≡◌, ◌<◌, ℕ, List, Option, Some, None, length, slice_set, sym, ap, subst, ◌∙◌}
use Rattle.bucket_ids.specs.Buckets.{Low}
use Rattle.messages.specs.declared.reply.Reply.{Reply}
use Rattle.messages.specs.declared.reply.Reply.TheVariants as reply
use Rattle.distributor_part.specs.declared.rules.Rules.{Rules}
use Rattle.distributor_part.specs.Parts.{Part}
use Rattle.distributor_part.specs.Steps.{IsAfterAnswer}
use Rattle.lane_keeping.specs.LaneKeeping.{part_in}
use Rattle.lane_keeping.specs.Asking.{KnowsTheSame, IsPartTold, IsToldTo}
use Rattle.lane_states.specs.Growing.{HasHeard}
use Rattle.lane_keeping.proofs.Parts.{part-own, part-others}

heard-none : (p q : Part) → q ≡ record p { awaited = None } → HasHeard p q
heard-none p q e = record {
  after = e ∙ ap (λ (a : ℕ). record p { answered = a; awaited = None }) (sym (ap (λ (x : Part). x.answered) e))
      ∙ ap (λ (bs : List Low). record p { answered = q.answered; shown = bs; awaited = None }) (sym (ap (λ (x : Part). x.shown) e));
}

pub heard-after : (p q : Part) (node : ℕ) (o : Option Reply) → IsAfterAnswer p q node o → HasHeard p q
heard-after p q node None h = heard-none p q h
heard-after p q node (Some (reply.Answer ps es)) h = record {
  after = h.after ∙ ap (λ (bs : List Low). record p { answered = q.answered; shown = bs; awaited = None }) (sym (ap (λ (x : Part). x.shown) h.after));
}
heard-after p q node (Some (reply.Newer v)) h = heard-none p q h
heard-after p q node (Some reply.NoBucket) h = heard-none p q h
heard-after p q node (Some reply.Differs) h = heard-none p q h
heard-after p q node (Some reply.NoMemory) h = heard-none p q h

-- the part of one distributor is told
pub told-to : (lane : Low) (rules : Rules) (parts : List Part) (d : ℕ) (p q : Part) (node : ℕ) (r : Reply) → d < length parts → part_in lane rules parts d ≡ p → IsPartTold p q node r → IsToldTo lane rules parts (slice_set parts d q) d node r
told-to lane rules parts d p q node r within is t = record {
  told = subst (λ (x : Part). IsPartTold (part_in lane rules parts d) x node r) (sym (part-own lane rules parts d q within)) (subst (λ (x : Part). IsPartTold x q node r) (sym is) t);
  others = part-others lane rules parts d q;
}

pub heard-at : (lane : Low) (rules : Rules) (parts : List Part) (d : ℕ) (p q : Part) → d < length parts → part_in lane rules parts d ≡ p → HasHeard p q → HasHeard (part_in lane rules parts d) (part_in lane rules (slice_set parts d q) d)
heard-at lane rules parts d p q within is h = subst (λ (x : Part). HasHeard (part_in lane rules parts d) x) (sym (part-own lane rules parts d q within)) (subst (λ (x : Part). HasHeard x q) (sym is) h)

-- ---- at its place

pub awaited-at : (lane : Low) (rules : Rules) (parts : List Part) (d node : ℕ) (p : Part) → part_in lane rules parts d ≡ p → (part_in lane rules parts d).awaited ≡ Some node → p.awaited ≡ Some node
awaited-at lane rules parts d node p is h = sym (ap (λ (x : Part). x.awaited) is) ∙ h

pub knows-at : (lane : Low) (rules : Rules) (parts : List Part) (d : ℕ) (p q : Part) → d < length parts → part_in lane rules parts d ≡ p → KnowsTheSame p q → KnowsTheSame (part_in lane rules parts d) (part_in lane rules (slice_set parts d q) d)
knows-at lane rules parts d p q within is h = subst (λ (x : Part). KnowsTheSame (part_in lane rules parts d) x) (sym (part-own lane rules parts d q within)) (subst (λ (x : Part). KnowsTheSame x q) (sym is) h)
