-- What every history leaves.
use Rattle.std.proofs.Common.{◌≡◌, ◌⊎◌, inl, inr, ◌≤◌, ℕ, List, [], ◌∷◌, ◌++◌, length, Bool, true, false, cond, Option, Result, Ok, Err, refl, sym, ◌∙◌, ap, subst, arith}
use Rattle.std.proofs.lemmas.List.{append-nil}
use Rattle.disks.specs.Disks.{DiskState, HasClock}
use Rattle.doc_types.specs.SchemaCodes.{Types}
use Rattle.messages.specs.declared.message.Message.{Message}
use Rattle.service_layer.specs.declared.replies.Taken.{Taken}
use Rattle.node_journal.specs.declared.causes.OpenCause.{OpenCause}
use Rattle.node_journal.specs.declared.causes.OpenCause.TheVariants as cause
use Rattle.node_journal.specs.declared.faults.JournalFault.{JournalFault}
use Rattle.node_journal.specs.declared.faults.JournalFault.TheVariants as fault
use Rattle.node_journal.specs.Lives.{is_recorded, added}
use Rattle.node_journal.specs.Journals.{recorded, Records, RecordsOrAlso, Journaled, Holds}
use Rattle.node_journal.specs.Opening.{HandsBack}
use Rattle.node_journal.specs.Histories.{Mark, Told, Perhaps, Chosen, marked, IsTake, HasFile, Phase, Runs, Crashed, History, Begins, IsOpened, CrashesAsItOpens, IsNotOpened, Takes, CrashesBetween, CrashesInTake, Recalls}
use Rattle.node_journal.proofs.Writings.{at_recorded}

module _ {D : Type 0} (state : D → DiskState) (last : Option ℕ) (schema : Types) (limit : ℕ) (clock : (d : D) → HasClock (state d)) where
  -- a node that holds what was chosen
  pub record Keeps (marks : List Mark) (j : Journaled D) : Type 0 where
    pub under : j.schema ≡ schema
    pub within : j.max_bytes ≡ limit
    pub messages : List Message
    pub chosen : Chosen marks messages
    pub holds : Holds state j messages

  -- what holds of a node that runs
  pub record Stands (marks : List Mark) (j : Journaled D) : Type 0 where
    pub leaves : (file : List ℕ) → (state j.disk).may_leave file → Recalls schema limit marks file
    pub keeps : j.shut ≡ false → Keeps marks j

  abbrev Stays : List Mark → Phase D → Type 0
  Stays marks (Runs j) = Stands marks j
  Stays marks (Crashed file) = Recalls schema limit marks file

  -- one message more, or not
  pub recalls_also : (marks : List Mark) (ms : List Message) (m : Message) (file : List ℕ) → Chosen marks ms → RecordsOrAlso schema limit (Ok ms) m file → Recalls schema limit (Perhaps m ∷ marks) file
  recalls_also marks ms m file chosen (inl r) = (ms, (inl chosen, r))
  recalls_also marks ms m file chosen (inr r) = (ms ++ m ∷ [], (inr (ms, (chosen, refl)), r))

  pub recalls_perhaps : (marks : List Mark) (m : Message) (file : List ℕ) → Recalls schema limit marks file → Recalls schema limit (Perhaps m ∷ marks) file
  recalls_perhaps marks m file r = (r.0, (inl r.1.0, r.1.1))

  -- a node that holds messages leaves them
  holds_leaves : (j : Journaled D) (ms : List Message) (file : List ℕ) → j.schema ≡ schema → j.max_bytes ≡ limit → Holds state j ms → (state j.disk).may_leave file → Records schema limit (Ok ms) file
  holds_leaves j ms file under within h left =
      subst (λ (n : ℕ). Records schema n (Ok ms) file) within (subst (λ (s : Types). Records s j.max_bytes (Ok ms) file) under
      (subst (Records j.schema j.max_bytes (Ok ms)) (sym (h.durable file left)) (record { size = h.size; messages = at_recorded j.schema (state j.disk).seen j.end ms h.at })))

  stands_keeping : (marks : List Mark) (j : Journaled D) → Keeps marks j → Stands marks j
  stands_keeping marks j k = record {
    leaves = λ file left. (k.messages, (k.chosen, holds_leaves j k.messages file k.under k.within k.holds left));
    keeps = λ e. k;
  }

  also_under : (old : Journaled D) (ms : List Message) (m : Message) (file : List ℕ) → old.schema ≡ schema → old.max_bytes ≡ limit → RecordsOrAlso old.schema old.max_bytes (Ok ms) m file → RecordsOrAlso schema limit (Ok ms) m file
  also_under old ms m file under within r =
      subst (λ (n : ℕ). RecordsOrAlso schema n (Ok ms) m file) within (subst (λ (s : Types). RecordsOrAlso s old.max_bytes (Ok ms) m file) under r)

  -- a message that was told, or none
  chosen_added : (marks : List Mark) (ms : List Message) (m : Message) (told : Bool) → Chosen marks ms → Chosen (cond told (Told m ∷ marks) marks) (ms ++ cond told (m ∷ []) [])
  chosen_added marks ms m true chosen = (ms, (chosen, refl))
  chosen_added marks ms m false chosen = subst (Chosen marks) (sym (append-nil ms)) chosen

  -- after a take
  takes_on : (marks : List Mark) (old : Journaled D) (m : Message) (result : Result Taken JournalFault) (new : Journaled D) → Stands marks old → IsTake state last old m result new → Stands (marked result m marks) new
  takes_on marks old m (Ok t) new s take =
      let k = s.keeps take.taken.goes_on in
      stands_keeping (marked (Ok t) m marks) new (record {
        under = take.taken.schema ∙ k.under;
        within = take.taken.max_bytes ∙ k.within;
        messages = k.messages ++ added t.reply m;
        chosen = chosen_added marks k.messages m (is_recorded t.reply) k.chosen;
        holds = take.taken.holds k.messages k.holds;
      })
  takes_on marks old m (Err fault.Shut) new s take = subst (Stands marks) (sym take.refused.1) s
  takes_on marks old m (Err fault.Full) new s take = subst (Stands marks) (sym take.refused.1.1.1) s
  takes_on marks old m (Err fault.DiskFault) new s take =
      let k = s.keeps take.refused.0 in
      record {
        leaves = λ file left. recalls_also marks k.messages m file k.chosen (also_under old k.messages m file k.under k.within ((take.any_moment k.messages k.holds).now file left));
        keeps = λ e. absurd (clash new.shut take.refused.1.1.0 e);
      }
    where
      clash : (b : Bool) → b ≡ true → b ≡ false → ⊥
      clash true t f = cc
      clash false t f = cc
  takes_on marks old m (Err fault.NoMemory) new s take = subst (Stands marks) (sym take.refused.1) s

  -- a crash in a take of a node that isn't shut
  crash_in : (marks : List Mark) (old new : Journaled D) (m : Message) (result : Result Taken JournalFault) (file : List ℕ) → Keeps marks old → IsTake state last old m result new → (state new.disk).left_since (state old.disk).moment file → Recalls schema limit (Perhaps m ∷ marks) file
  crash_in marks old new m result file k take left =
      recalls_also marks k.messages m file k.chosen (also_under old k.messages m file k.under k.within ((take.any_moment k.messages k.holds).each file left))

  -- and in one of any node
  crash_in_take : (marks : List Mark) (old new : Journaled D) (m : Message) (result : Result Taken JournalFault) (file : List ℕ) → Stands marks old → IsTake state last old m result new → (state new.disk).left_since (state old.disk).moment file → Recalls schema limit (Perhaps m ∷ marks) file
  crash_in_take marks old new m (Ok t) file s take left = crash_in marks old new m (Ok t) file (s.keeps take.taken.goes_on) take left
  crash_in_take marks old new m (Err fault.Shut) file s take left =
      recalls_perhaps marks m file (s.leaves file ((clock old.disk).only_now file (subst (λ (j : Journaled D). (state j.disk).left_since (state old.disk).moment file) take.refused.1 left)))
  crash_in_take marks old new m (Err fault.Full) file s take left = crash_in marks old new m (Err fault.Full) file (s.keeps take.refused.0) take left
  crash_in_take marks old new m (Err fault.DiskFault) file s take left = crash_in marks old new m (Err fault.DiskFault) file (s.keeps take.refused.0) take left
  crash_in_take marks old new m (Err fault.NoMemory) file s take left = crash_in marks old new m (Err fault.NoMemory) file (s.keeps take.refused.0) take left

  -- what an opened file reads as
  same_messages : (file : List ℕ) (a b : List Message) → recorded schema file ≡ Ok a → recorded schema file ≡ Ok b → a ≡ b
  same_messages file a b x y = cc

  recorded_on : (disk : D) (file left : List ℕ) (ms : List Message) → (state disk).seen ≡ file → recorded schema file ≡ Ok ms → Records schema limit (recorded schema (state disk).seen) left → Records schema limit (Ok ms) left
  recorded_on disk file left ms seen is r = subst (λ (t : Result (List Message) ℕ). Records schema limit t left) (ap (recorded schema) seen ∙ is) r

  pub stays : (marks : List Mark) (phase : Phase D) → History state last schema limit marks phase → Stays marks phase
  stays _ _ (Begins file r) = ([], (refl, r))
  stays _ _ (IsOpened marks file disk j h has opens) =
      let r = stays marks (Crashed file) h in
      let same = same_messages file r.0 opens.messages r.1.1.messages (ap (recorded schema) (sym has.seen) ∙ opens.told) in
      stands_keeping marks j (record {
        under = opens.under;
        within = opens.within;
        messages = opens.messages;
        chosen = subst (Chosen marks) same r.1.0;
        holds = opens.holds;
      })
  stays _ _ (CrashesAsItOpens marks file disk j left h has opens crash) =
      let r = stays marks (Crashed file) h in
      (r.0, (r.1.0, recorded_on disk file left r.0 has.seen r.1.1.messages ((opens.any_moment has.settled).each left crash)))
  stays _ _ (IsNotOpened marks file disk why back left h has hands crash) =
      let r = stays marks (Crashed file) h in
      let size : length (state disk).seen ≤ limit = omega (arith, r.1.1.size, ap (λ (f : List ℕ). length f) has.seen) in
      (r.0, (r.1.0, recorded_on disk file left r.0 has.seen r.1.1.messages ((hands.any_moment size has.settled).each left crash)))
  stays _ _ (Takes marks old m result new h take) = takes_on marks old m result new (stays marks (Runs old) h) take
  stays _ _ (CrashesBetween marks j left h crash) = (stays marks (Runs j) h).leaves left crash
  stays _ _ (CrashesInTake marks old m result new left h take crash) = crash_in_take marks old new m result left (stays marks (Runs old) h) take crash

  -- why a file that a crash left isn't opened
  pub why_not : (marks : List Mark) (file : List ℕ) (disk : D) (why : OpenCause) (back : D) → Recalls schema limit marks file → HasFile state disk file → HandsBack state last schema disk limit why back → (why ≡ cause.DiskFault) ⊎ (why ≡ cause.NoMemory)
  why_not marks file disk (cause.TooLong n) back r has hands = absurd (omega (arith, hands.why.0, hands.why.1.0, r.1.1.size, ap (λ (f : List ℕ). length f) has.seen))
  why_not marks file disk (cause.Damaged at) back r has hands = absurd (clash (recorded schema file) r.0 at r.1.1.messages (ap (recorded schema) (sym has.seen) ∙ hands.why.1))
    where
      clash : (t : Result (List Message) ℕ) (ms : List Message) (n : ℕ) → t ≡ Ok ms → t ≡ Err n → ⊥
      clash t ms n a b = cc
  why_not marks file disk cause.DiskFault back r has hands = inl refl
  why_not marks file disk cause.NoMemory back r has hands = inr refl
