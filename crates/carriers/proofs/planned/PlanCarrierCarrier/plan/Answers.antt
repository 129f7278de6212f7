use Rattle.std.proofs.Common.{◌≡◌, ◌+◌, ◌-◌, length, sym, ap, ◌∙◌, arith}
use Rattle.carriers.specs.Fates.{after_plan}
use Rattle.carriers.proofs.PlanLaws.{plan_of, spent_within, is_numbered_append, plan_after_plan}
use Rattle.carriers.proofs.planned.PlanCarrierCarrier.plan.Goals as goal

pub overflow_sub-waiting : goal.overflow_sub-waiting
overflow_sub-waiting c =
    let within = spent_within _ _ _ c.self.invariant.numbered in
    let size : length c.self.inside.plans.items ≡ c.len.result = sym c.self.inside.plans.ok.0 ∙ sym c.len.ensures in omega arith

waits : (c : goal.In_ok-add_behind) → c.self.inside.spent + (c.len.result - c.self.inside.spent) ≡ length c.self.inside.plans.items
waits c =
    let within = spent_within _ _ _ c.self.invariant.numbered in
    let size : length c.self.inside.plans.items ≡ c.len.result = sym c.self.inside.plans.ok.0 ∙ sym c.len.ensures in omega arith

after : (c : goal.In_ok-add_behind) → plan_of c.add_behind.new.plans.items c.self.inside.given c.self.inside.spent c.self.inside.faults
    ≡ after_plan c.args.self.now c.args.fates.now
after c = plan_after_plan _ _ _ _ _ _ _ _ c.self.view_is (waits c) c.in_ok-add_behind.ensures.ok

pub invariant_of-self-2 : goal.invariant_of-self-2
invariant_of-self-2 c = is_numbered_append _ _ _ _ _ _ _ c.self.invariant (waits c) c.in_ok-add_behind.ensures.ok

pub returns-clause-after : goal.returns-clause-after
returns-clause-after c = after c

pub returns-clause-planned : goal.returns-clause-planned
returns-clause-planned c = ap (λ p. p.planned) (after c)

pub returns-clause-given : goal.returns-clause-given
returns-clause-given c = ap (λ p. p.given) (after c)
