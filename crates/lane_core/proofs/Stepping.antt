-- What a call of an operation that is prepared comes to.
use Rattle.std.proofs.Common.{◌≡◌, ◌⊎◌, ◌≤◌, ◌+◌, ℕ, Bool, true, false, Option, Some, None, inl, inr, refl, sym, ap, ◌∙◌, subst}
use Rattle.bucket_ids.specs.Buckets.{Low}
use Rattle.messages.specs.declared.message.Message.{Message}
use Rattle.messages.specs.declared.outcome.Outcome.{Outcome}
use Rattle.messages.specs.declared.reply.Reply.{Reply}
use Rattle.op_machine.specs.declared.machine.Standing.{Standing}
use Rattle.op_machine.specs.Outcomes.{Next, Asks, Finishes, message_in, outcome_in}
use Rattle.op_machine.specs.Standings.{next_at, IsAnswered}
use Rattle.operation_keeping.specs.Left.{messages_left}
use Rattle.lane_states.specs.declared.lane_state.LaneState.{LaneState}
use Rattle.lane_core.specs.declared.work.Phase.{Phase}
use Rattle.lane_core.specs.declared.work.Phase.TheVariants as phase
use Rattle.lane_calls.specs.declared.answers.Advance.{Advance}
use Rattle.lane_calls.specs.declared.answers.Advance.TheVariants as advance
use Rattle.lane_lines.specs.Steps.{StandsIn, TellsOne}
use Rattle.lane_core.specs.Phases.{IsPhaseOf, WantsMore, ComesTo}

-- a machine without an outcome has a message
asks-more : (n : Next) → outcome_in n ≡ None → (m : Message) × (n ≡ Asks m)
asks-more (Asks m) h = (m, refl)
asks-more (Finishes x) h = let none : ◌≡◌ {A = Option Outcome} (Some x) None = h in absurd (cc)

finishes-so : (n : Next) (x : Outcome) → outcome_in n ≡ Some x → n ≡ Finishes x
finishes-so (Asks m) x h = let none : ◌≡◌ {A = Option Outcome} None (Some x) = h in absurd (cc)
finishes-so (Finishes y) x h = let same : y ≡ x = cc in ap Finishes same

silent-asks : (n : Next) (m : Message) → message_in n ≡ None → n ≡ Asks m → ⊥
silent-asks n m h e = let none : ◌≡◌ {A = Option Message} (Some m) None = sym (ap message_in e) ∙ h in cc

module _ (asks : (t : Standing) (m : Message) → next_at t ≡ Asks m → 1 ≤ messages_left t)
    (falls : (t after : Standing) (m : Message) (y : Option Reply) → next_at t ≡ Asks m → IsAnswered m.receiver y t after → messages_left after + 1 ≡ messages_left t)
    (c : LaneState) (line : ℕ) (row : Low) (t x : Standing) (now more : Bool) (told : more ≡ true → TellsOne t x) (over : more ≡ false → message_in (next_at x) ≡ None) (same : more ≡ false → x ≡ t) (st : StandsIn c line row now x) where
  plan-by : (b : Bool) → more ≡ b → x.plan ≡ t.plan
  plan-by true e = (told e).2.1.plan
  plan-by false e = ap (λ (s : Standing). s.plan) (same e)

  fewer-by : (b : Bool) → more ≡ b → (m : Message) → next_at x ≡ Asks m → messages_left x + 1 ≡ messages_left t
  fewer-by true e m next = let w = told e in falls t x w.0 w.2.0 w.1 w.2.1
  fewer-by false e m next = absurd (silent-asks (next_at x) m (over e) next)

  wants-more : outcome_in (next_at x) ≡ None → WantsMore c line row now t x
  wants-more none = let m = asks-more (next_at x) none in record { message = m.0; next = m.1; stands = st; same_plan = plan-by more refl; fewer = fewer-by more refl m.0 m.1; some = asks x m.0 m.1 }

  pub comes-by : (p : Phase) (a : Advance) → IsPhaseOf row now x p a → ComesTo c line row t p a
  comes-by (phase.Prepared m r w) advance.More h = (h.0, subst (λ (s : Standing). WantsMore c line row w t s) (sym h.2) (subst (λ (b : Bool). WantsMore c line row b t x) (sym h.1) (wants-more h.3)))
  comes-by (phase.Over outcome said answered) advance.Done h = record {
    standing = x;
    written = now;
    stands = st;
    same_plan = plan-by more refl;
    finished = finishes-so (next_at x) outcome h.0;
    same = h.1;
    answered_is = h.2;
  }
  comes-by phase.Short advance.NoMemory h = tt
  comes-by phase.Begun advance.More h = absurd h
  comes-by phase.Begun (advance.Waits by) h = absurd h
  comes-by (phase.Prepared m r w) (advance.Waits by) h = absurd h
  comes-by (phase.Over outcome said answered) (advance.Waits by) h = absurd h
  comes-by phase.Short (advance.Waits by) h = absurd h
  comes-by phase.Begun advance.Done h = absurd h
  comes-by phase.Begun advance.NoMemory h = absurd h
  comes-by (phase.Prepared m r w) advance.Done h = absurd h
  comes-by (phase.Prepared m r w) advance.NoMemory h = absurd h
  comes-by (phase.Over outcome said answered) advance.More h = absurd h
  comes-by (phase.Over outcome said answered) advance.NoMemory h = absurd h
  comes-by phase.Short advance.More h = absurd h
  comes-by phase.Short advance.Done h = absurd h

-- where it goes on, a message was left
left-by : (more : Bool) → more ≡ false ⊎ more ≡ true
left-by true = inr refl
left-by false = inl refl

pub left-then : (row : Low) (now more : Bool) (x : Standing) (p : Phase) (a : Advance) → (more ≡ false → message_in (next_at x) ≡ None) → IsPhaseOf row now x p a → a ≡ advance.More → more ≡ true
left-then row now more x (phase.Prepared m r w) advance.More over h is = elim (left-by more) [
  | inl none ↦ (let m = asks-more (next_at x) h.3 in absurd (silent-asks (next_at x) m.0 (over none) m.1))
  | inr some ↦ some
]
left-then row now more x (phase.Over o t n) advance.Done over h is = absurd (let e : advance.Done ≡ advance.More = is in cc)
left-then row now more x phase.Short advance.NoMemory over h is = absurd (let e : advance.NoMemory ≡ advance.More = is in cc)
left-then row now more x phase.Begun advance.More over h is = absurd h
left-then row now more x phase.Begun (advance.Waits by) over h is = absurd h
left-then row now more x (phase.Prepared m r w) (advance.Waits by) over h is = absurd h
left-then row now more x (phase.Over o t n) (advance.Waits by) over h is = absurd h
left-then row now more x phase.Short (advance.Waits by) over h is = absurd h
left-then row now more x phase.Begun advance.Done over h is = absurd h
left-then row now more x phase.Begun advance.NoMemory over h is = absurd h
left-then row now more x (phase.Prepared m r w) advance.Done over h is = absurd h
left-then row now more x (phase.Prepared m r w) advance.NoMemory over h is = absurd h
left-then row now more x (phase.Over o t n) advance.More over h is = absurd h
left-then row now more x (phase.Over o t n) advance.NoMemory over h is = absurd h
left-then row now more x phase.Short advance.More over h is = absurd h
left-then row now more x phase.Short advance.Done over h is = absurd h
