-- Where an operation stands: its plan and what was told.
use Rattle.std.specs.Prelude.{◌≡◌, ℕ, List, Option, None, Some}
use Rattle.std.specs.FinMap as fin
use Rattle.entry_maps.specs.EntryCodes.{Entries}
use Rattle.global_ids.specs.Keys.{key_of}
use Rattle.documents.specs.declared.entry.Entry.{Entry}
use Rattle.messages.specs.declared.message.Message.{Message}
use Rattle.messages.specs.declared.reply.Reply.{Reply}
use Rattle.op_machine.specs.declared.plan.Plan.{Plan}
use Rattle.op_machine.specs.declared.machine.Standing.{Standing}
use Rattle.op_machine.specs.declared.tally.Heard.{Heard}
use Rattle.op_machine.specs.declared.verdict.Verdict.{Verdict}
use Rattle.op_machine.specs.declared.verdict.Verdict.TheVariants.{Ends, Writes}
use Rattle.op_machine.specs.Outcomes.{Answers, answers_of, tally_of, reader, verdict, Next, Asks, Finishes, next_of}
use Rattle.op_machine.specs.Plans.{IsPlan}
use Rattle.op_machine.specs.Telling.{IsCounted, IsTold, IsNobody}

-- what comes next
abbrev pub next_at : Standing → Next
next_at s = next_of s.plan (answers_of s.reads) (answers_of s.stores)

-- the operation of a plan of which nothing was told
pub record IsBegun (p : Plan) (s : Standing) : Type 0 where
  pub plan : s.plan ≡ p
  pub reads : IsNobody s.reads
  pub stores : IsNobody s.stores

-- a message to the node comes next
abbrev pub IsTo : ℕ → Next → Type 0
IsTo node (Asks m) = m.receiver ≡ node
IsTo node (Finishes x) = ⊥

abbrev pub IsAsked : Standing → ℕ → Type 0
IsAsked s node = IsTo node (next_at s)

-- the receiver of a message that was sent may answer
abbrev pub MayAnswer : Standing → Option Message → Type 0
MayAnswer s None = Unit {0}
MayAnswer s (Some m) = IsAsked s m.receiver

-- the reply is told of the Reads while one of them is to be answered, and else of the Stores, which show nothing
abbrev pub IsAnsweredBy : Option ℕ → ℕ → Option Reply → Standing → Standing → Type 0
IsAnsweredBy (Some n) node reply old new = IsTold old.plan.operation.id node reply old.reads new.reads × (new.stores ≡ old.stores)
IsAnsweredBy None node reply old new = (new.reads ≡ old.reads) × IsCounted node reply old.stores new.stores

pub record IsAnswered (node : ℕ) (reply : Option Reply) (old new : Standing) : Type 0 where
  pub plan : new.plan ≡ old.plan
  pub told : IsAnsweredBy (reader old.plan (answers_of old.reads)) node reply old new

-- ---- the entry that is to be stored, once the Reads are over

abbrev pub entry_in : Verdict → Option Entry
entry_in (Ends x) = None
entry_in (Writes e) = Some e

abbrev pub due_by : Option ℕ → Plan → Answers → Option Entry
due_by (Some n) p reads = None
due_by None p reads = entry_in (verdict p reads)

abbrev pub due_entry : Plan → Answers → Option Entry
due_entry p reads = due_by (reader p reads) p reads

-- ---- what the machine keeps

-- the entry of a document that was shown
abbrev pub seen_in : List ℕ → Option Entries → Option Entry
seen_in id None = None
seen_in id (Some shown) = fin.get shown id

abbrev pub standing_of : Plan → Heard → Option Entries → Heard → Standing
standing_of p reads shown stores = record { plan = p; reads = tally_of reads (seen_in p.operation.id shown); stores = tally_of stores None }

-- what the operation comes to, where that is known
abbrev pub IsKnown : Plan → Answers → Option Verdict → Type 0
IsKnown p reads None = Unit {0}
IsKnown p reads (Some v) = verdict p reads ≡ v

-- it is known only once the Reads are over
abbrev pub IsJudged : Standing → Option Verdict → Type 0
IsJudged s None = Unit {0}
IsJudged s (Some v) = (reader s.plan (answers_of s.reads) ≡ None) × (verdict s.plan (answers_of s.reads) ≡ v)

pub record IsMachine (key : ℕ) (s : Standing) (v : Option Verdict) : Type 0 where
  pub key_is : key ≡ key_of s.plan.operation.id
  pub plan : IsPlan s.plan
  pub judged : IsJudged s v
