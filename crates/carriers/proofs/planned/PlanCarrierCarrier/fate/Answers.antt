use Rattle.std.proofs.Common.{◌≡◌, ◌+◌, length, sym, ◌∙◌, drop, arith}
use Rattle.carriers.specs.Fates.{first_of}
use Rattle.carriers.specs.Plans.{fates_of}
use Rattle.carriers.proofs.PlanLaws.{IsBehind, next_number, is_numbered_next, given_after, plan_after_fate}
use Rattle.carriers.proofs.planned.PlanCarrierCarrier.fate.Goals as goal

behind : (c : goal.After-self-3-1) → IsBehind c.self.inside.spent (length c.self.inside.plans.items) c.place_behind-self-inside.result
behind c = let size : length c.self.inside.plans.items ≡ c.len.result = sym c.self.inside.plans.ok.0 ∙ sym c.len.ensures in record {
  inside = λ h. c.place_behind-self-inside.ensures.inside (omega arith);
  outside = λ h. c.place_behind-self-inside.ensures.outside (omega arith);
}

first : (c : goal.After-self-3-1) → c.fate_of-fate.result ≡ first_of (drop c.self.inside.spent (fates_of c.self.inside.plans.items))
first c = rw c.deref.ensures.value at c.fate_of-fate.ensures

pub counted-self-inside-requires : goal.counted-self-inside-requires
counted-self-inside-requires c =
    let next : c.args.number ≡ c.self.inside.given + 1 = next_number _ _ _ _ _ _ c.self.view_is c.requires.next in
    let few = c.self.invariant.few in omega arith

pub invariant_of-self : goal.invariant_of-self
invariant_of-self c = is_numbered_next _ _ _ _ _ _ _ _ c.self.invariant
    (next_number _ _ _ _ _ _ c.self.view_is c.requires.next) (behind c) c.counted-self-inside.ensures

pub returns-clause-after : goal.returns-clause-after
returns-clause-after c = plan_after_fate _ _ _ _ _ _ _ _ _ c.self.view_is c.requires.next c.self.invariant.numbered
    (first c) (behind c) c.counted-self-inside.ensures

pub returns-clause-given : goal.returns-clause-given
returns-clause-given c = given_after _ _ _ _ _ _ _ c.self.view_is c.requires.next c.self.invariant.numbered (first c)
