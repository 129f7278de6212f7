use Rattle.std.proofs.Common.{ℕ, List, drop, ◌∙◌, ap, subst, sym, arith}
use Rattle.disks.specs.Moments.{rests_not, rests_on}
use Rattle.message_texts.specs.Texts.{message_in}
use Rattle.node_journal.specs.Files.{reading, onto}
use Rattle.node_journal.specs.Opening.{FindsRecord, IsBehind, IsSoFar}
use Rattle.node_model.specs.Nodes.{Node}
use Rattle.node_journal.proofs.Lives.{is_inside, has_room}
use Rattle.node_journal.proofs.Openings.{so_far_none, so_far_more, rest_reads, cause_so_far}
use Rattle.node_journal.proofs.replaying.replay.Goals as goal

pub take_found-requires-clause-inside : goal.take_found-requires-clause-inside
take_found-requires-clause-inside g c =
    let behind = subst (FindsRecord c.args.schema.now (g.D.Disk.state c.records.disk).seen c.records.end) c.in-Ok-Some.field-0-is c.in-Ok-Some.ensures.found in
    is_inside c.args.schema.now c.in-Ok-Some.found.message.body behind.fits.body

pub take_found-requires-clause-room : goal.take_found-requires-clause-room
take_found-requires-clause-room g c =
    let s = c.records.invariant.so_far in
    has_room c.in-Ok-Some.found.message.body c.records.node.serial (omega (arith, s.few, s.within, c.requires.size, c.requires.few))

pub records-init : goal.records-init
records-init g c =
    let file = (g.D.Disk.state c.args.disk.now).seen in
    record {
      so_far = subst (λ (n : Node). IsSoFar c.args.schema.now file n 0) (sym c.requires.new) (so_far_none c.args.schema.now file (omega (arith, c.requires.some, c.requires.size)));
      rests = rests_not (g.D.Disk.state c.args.disk.now);
      count = omega arith;
    }

pub records-preserved : goal.records-preserved
records-preserved g c =
    let file = (g.D.Disk.state c.args.disk.now).seen in
    let found = c.in-Ok-Some.found in
    let behind = subst (FindsRecord c.args.schema.now (g.D.Disk.state c.records.disk).seen c.records.end) c.in-Ok-Some.field-0-is c.in-Ok-Some.ensures.found in
    let here = subst (λ (f : List ℕ). IsBehind c.args.schema.now f c.records.end found.message c.in-Ok.next) c.records.invariant.rests.seen (subst (IsBehind c.args.schema.now (g.D.Disk.state c.records.disk).seen c.records.end found.message) (sym c.in-Ok.ensures.next) behind) in
    record {
      so_far = so_far_more c.args.schema.now file c.records.node c.take_found.new.node c.records.end c.in-Ok.next found.message c.records.invariant.so_far here c.in-Ok.ensures.taken;
      rests = rests_on _ _ _ (g.met.D.Disk.clock c.args.disk.now) c.records.invariant.rests c.record_at.ensures.rests;
      count = omega (arith, c.records.invariant.count, c.record_at.ensures.count);
    }

pub returns-in-Err-clause-cause : goal.returns-in-Err-clause-cause
returns-in-Err-clause-cause g c =
    let s = c.records.invariant.so_far in
    let file = (g.D.Disk.state c.args.disk.now).seen in
    let told = rest_reads c.args.schema.now file c.records.node c.records.end s ∙ ap (λ (f : List ℕ). onto s.messages (reading (message_in c.args.schema.now) 0 c.records.end (drop c.records.end f))) (sym c.records.invariant.rests.seen) in
    cause_so_far _ _ s.messages g.D.Disk.last (g.D.Disk.state c.args.disk.now) (g.D.Disk.state c.records.disk) (g.D.Disk.state c.record_at.new.disk) c.in-Err.cause told c.records.invariant.count c.in-Err.ensures.cause

pub returns-in_default-clause-rests : goal.returns-in_default-clause-rests
returns-in_default-clause-rests g c = rests_on _ _ _ (g.met.D.Disk.clock c.args.disk.now) c.records.invariant.rests c.record_at.ensures.rests

pub returns-in-Ok-None-clause-rests : goal.returns-in-Ok-None-clause-rests
returns-in-Ok-None-clause-rests g c = rests_on _ _ _ (g.met.D.Disk.clock c.args.disk.now) c.records.invariant.rests c.record_at.ensures.rests

pub returns-in-Err-clause-rests : goal.returns-in-Err-clause-rests
returns-in-Err-clause-rests g c = rests_on _ _ _ (g.met.D.Disk.clock c.args.disk.now) c.records.invariant.rests c.record_at.ensures.rests
