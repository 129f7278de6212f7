use Rattle.std.proofs.Common.{◌≡◌, ◌≤◌, ◌+◌, ◌-◌, List, ◌++◌, length, Ok, Some, true, false, refl, sym, ◌∙◌, ap, subst, arith}
use Rattle.disks.specs.Disks.{LeavesOnly}
use Rattle.io_ends.specs.Causes.{HasRisen}
use Rattle.message_texts.specs.Texts.{message_in, text_of}
use Rattle.messages.specs.declared.message.Message.{Message}
use Rattle.doc_types.specs.SchemaCodes.{Types}
use Rattle.node_journal.specs.Lives.{added}
use Rattle.node_journal.specs.Journals.{Journaled, Holds, RecordsOrAlso}
use Rattle.node_journal.specs.Taking.{Accepts, IsFramed}
use Rattle.node_journal.proofs.Lives.{is_inside, has_room}
use Rattle.node_journal.proofs.Takings.{few_serials, still, holds_after, moment_after}
use Rattle.node_journal.proofs.journaled_node.JournaledNode.take.Goals as goal

pub take-requires-clause-inside : goal.take-requires-clause-inside
take-requires-clause-inside g c = is_inside c.args.self.now.schema c.args.message.now.body c.requires.body

pub take-requires-clause-room : goal.take-requires-clause-room
take-requires-clause-room g c = has_room c.args.message.now.body c.self.inside.node.serial (few_serials g.D.Disk.state _ c.self.invariant c.if-self.false)

pub take-taken-requires-clause-inside : goal.take-taken-requires-clause-inside
take-taken-requires-clause-inside g c = is_inside c.args.self.now.schema c.args.message.now.body c.requires.body

pub take-taken-requires-clause-room : goal.take-taken-requires-clause-room
take-taken-requires-clause-room g c = has_room c.args.message.now.body c.self.inside.node.serial (few_serials g.D.Disk.state _ c.self.invariant c.if-self.false)

pub returns-then-message-version-clause-any_moment : goal.returns-then-message-version-clause-any_moment
returns-then-message-version-clause-any_moment g c ms h =
    still g.D.Disk.state c.args.self.now c.self.inside.disk ms c.args.message.now (g.met.D.Disk.clock c.args.self.now.disk) (ap (λ (j : Journaled g.row.D.Denot). j.disk) c.self.view_is) h

pub returns-in-Err-clause-any_moment : goal.returns-in-Err-clause-any_moment
returns-in-Err-clause-any_moment g c ms h =
    still g.D.Disk.state c.args.self.now c.args.self.now.disk ms c.args.message.now (g.met.D.Disk.clock c.args.self.now.disk) refl h

pub returns-then-is_wanting-clause-any_moment : goal.returns-then-is_wanting-clause-any_moment
returns-then-is_wanting-clause-any_moment g c ms h =
    still g.D.Disk.state c.args.self.now c.self.inside.disk ms c.args.message.now (g.met.D.Disk.clock c.args.self.now.disk) (ap (λ (j : Journaled g.row.D.Denot). j.disk) c.self.view_is) h

pub invariant_of-self-in-Ok-add : goal.invariant_of-self-in-Ok-add
invariant_of-self-in-Ok-add g c =
    let old : Journaled g.row.D.Denot = record { node = c.self.inside.node; disk = c.self.inside.disk; schema = c.self.inside.schema; max_bytes = c.self.inside.max_bytes; end = c.self.inside.end; shut = c.self.inside.shut } in
    let bytes = c.deref.result.now in
    let schema : old.schema ≡ c.args.self.now.schema = ap (λ (j : Journaled g.row.D.Denot). j.schema) c.self.view_is in
    let reads = subst (λ (s : Types). message_in s (text_of c.args.message.now) ≡ Some c.args.message.now) (sym schema) (c.in-Ok.ensures.reads c.args.self.now.schema c.requires) in
    let framed = subst (IsFramed (text_of c.args.message.now) old.end old.max_bytes) (sym c.deref.ensures.value) c.in-Ok.ensures.framed in
    let size : old.end + (c.len.result - 1) + 1 ≡ old.end + length bytes = omega (arith, c.len.ensures, c.deref.ensures.len, framed.size) in
    let le : old.node.version ≤ c.args.message.now.version = omega (arith, c.if-message-version.false, c.version.ensures) in
    let after = holds_after g.D.Disk.state old c.take-taken.new.self c.add.new.disk c.args.message.now c.take-taken.result.reply bytes (old.end + (c.len.result - 1)) le c.take-taken.ensures.takes (sym c.is_wanting.ensures ∙ c.if-is_wanting.false) framed reads size c.in-Ok-add.ensures.added c.in-Ok-add.ensures.size c.in-Ok-add.ensures.durable in
    let h = c.self.invariant.holds c.if-self.false in
    record { least = c.self.invariant.least; most = c.self.invariant.most; holds = λ e. (h.0 ++ added c.take-taken.result.reply c.args.message.now, after h.0 h.1) }

pub returns-in-Ok-add : goal.returns-in-Ok-add
returns-in-Ok-add g c =
    let old : Journaled g.row.D.Denot = record { node = c.self.inside.node; disk = c.self.inside.disk; schema = c.self.inside.schema; max_bytes = c.self.inside.max_bytes; end = c.self.inside.end; shut = c.self.inside.shut } in
    let new : Journaled g.row.D.Denot = record { node = c.take-taken.new.self; disk = c.add.new.disk; schema = c.self.inside.schema; max_bytes = c.self.inside.max_bytes; end = c.self.inside.end + (c.len.result - 1); shut = c.self.inside.shut } in
    let bytes = c.deref.result.now in
    let schema : old.schema ≡ c.args.self.now.schema = ap (λ (j : Journaled g.row.D.Denot). j.schema) c.self.view_is in
    let reads = subst (λ (s : Types). message_in s (text_of c.args.message.now) ≡ Some c.args.message.now) (sym schema) (c.in-Ok.ensures.reads c.args.self.now.schema c.requires) in
    let framed = subst (IsFramed (text_of c.args.message.now) old.end old.max_bytes) (sym c.deref.ensures.value) c.in-Ok.ensures.framed in
    let size : old.end + (c.len.result - 1) + 1 ≡ old.end + length bytes = omega (arith, c.len.ensures, c.deref.ensures.len, framed.size) in
    let le : old.node.version ≤ c.args.message.now.version = omega (arith, c.if-message-version.false, c.version.ensures) in
    let after = holds_after g.D.Disk.state old c.take-taken.new.self c.add.new.disk c.args.message.now c.take-taken.result.reply bytes (old.end + (c.len.result - 1)) le c.take-taken.ensures.takes (sym c.is_wanting.ensures ∙ c.if-is_wanting.false) framed reads size c.in-Ok-add.ensures.added c.in-Ok-add.ensures.size c.in-Ok-add.ensures.durable in
    let accepts : Accepts g.D.Disk.state old c.args.message.now new c.take-taken.result = record { goes_on = c.if-self.false; takes = c.take-taken.ensures.takes; room = λ e. framed.room; schema = refl; max_bytes = refl; holds = after } in
    let leaves = moment_after g.D.Disk.state old c.add.new.disk c.args.message.now bytes framed reads c.add.ensures.any_moment in
    record {
      taken = subst (λ (k : Journaled g.row.D.Denot). Accepts g.D.Disk.state k c.args.message.now new c.take-taken.result) c.self.view_is accepts;
      refused = tt;
      under = (ap (λ (k : Journaled g.row.D.Denot). k.schema) c.self.view_is, ap (λ (k : Journaled g.row.D.Denot). k.max_bytes) c.self.view_is);
      any_moment = subst (λ (k : Journaled g.row.D.Denot). (ms : List Message) → Holds g.D.Disk.state k ms → LeavesOnly (g.D.Disk.state k.disk) (g.D.Disk.state c.add.new.disk) (RecordsOrAlso k.schema k.max_bytes (Ok ms) c.args.message.now)) c.self.view_is leaves;
    }

pub returns : goal.returns
returns g c =
    let old : Journaled g.row.D.Denot = record { node = c.self.inside.node; disk = c.self.inside.disk; schema = c.self.inside.schema; max_bytes = c.self.inside.max_bytes; end = c.self.inside.end; shut = c.self.inside.shut } in
    let bytes = c.deref.result.now in
    let schema : old.schema ≡ c.args.self.now.schema = ap (λ (j : Journaled g.row.D.Denot). j.schema) c.self.view_is in
    let reads = subst (λ (s : Types). message_in s (text_of c.args.message.now) ≡ Some c.args.message.now) (sym schema) (c.in-Ok.ensures.reads c.args.self.now.schema c.requires) in
    let framed = subst (IsFramed (text_of c.args.message.now) old.end old.max_bytes) (sym c.deref.ensures.value) c.in-Ok.ensures.framed in
    let leaves = moment_after g.D.Disk.state old c.add.new.disk c.args.message.now bytes framed reads c.add.ensures.any_moment in
    let refuses : (old.shut ≡ false) × (HasRisen g.D.Disk.last (g.D.Disk.state old.disk).faults (g.D.Disk.state c.add.new.disk).faults × ((true ≡ true) × (old.end + (6 + length (text_of c.args.message.now)) ≤ old.max_bytes))) =
    (c.if-self.false, (c.in-Err-add.ensures.counts.fault, (refl, framed.room))) in
    record {
      taken = tt;
      refused = subst (λ (k : Journaled g.row.D.Denot). (k.shut ≡ false) × (HasRisen g.D.Disk.last (g.D.Disk.state k.disk).faults (g.D.Disk.state c.add.new.disk).faults × ((true ≡ true) × (k.end + (6 + length (text_of c.args.message.now)) ≤ k.max_bytes)))) c.self.view_is refuses;
      under = (ap (λ (k : Journaled g.row.D.Denot). k.schema) c.self.view_is, ap (λ (k : Journaled g.row.D.Denot). k.max_bytes) c.self.view_is);
      any_moment = subst (λ (k : Journaled g.row.D.Denot). (ms : List Message) → Holds g.D.Disk.state k ms → LeavesOnly (g.D.Disk.state k.disk) (g.D.Disk.state c.add.new.disk) (RecordsOrAlso k.schema k.max_bytes (Ok ms) c.args.message.now)) c.self.view_is leaves;
    }
