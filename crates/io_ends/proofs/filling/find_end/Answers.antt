use Rattle.std.proofs.Common.{arith, ap, length, sym}
use Rattle.io_ends.proofs.ReaderLaws.{passes, near_passed, sought_next, split_fetched, split_kept}
use Rattle.io_ends.proofs.filling.find_end.Goals as goal

pub returns-in-Ok-eq0-clause-kept : goal.returns-in-Ok-eq0-clause-kept
returns-in-Ok-eq0-clause-kept g c =
    let so_far = c.loop-at.invariant.0 in
    let p = passes _ _ c.args.room _ _ c.pass_long-seen.ensures (ap length (sym c.ahead-size.ensures)) (c.in_default.ensures so_far.clear) (omega arith) so_far.long in
    λ bytes h. split_fetched bytes _ _ _ _ _ c.in-Ok-eq0.ensures.ok (p.kept bytes _ (so_far.kept bytes h))

pub loop-at-preserved : goal.loop-at-preserved
loop-at-preserved g c =
    let so_far = c.loop-at.invariant.0 in
    let p = passes _ _ c.args.room _ _ c.pass_long-seen.ensures (ap length (sym c.ahead-size.ensures)) (c.in_default.ensures so_far.clear) (omega arith) so_far.long in
    (sought_next _ _ _ _ _ _ _ _ _ _ _ _ _ _ so_far p c.in-Ok.ensures.ok c.in-Ok.ensures.gave, omega (arith, c.loop-at.invariant.1, c.fetch.ensures.count))

pub returns-in-Err-Fault-clause-kept : goal.returns-in-Err-Fault-clause-kept
returns-in-Err-Fault-clause-kept g c =
    let so_far = c.loop-at.invariant.0 in
    let p = passes _ _ c.args.room _ _ c.pass_long-seen.ensures (ap length (sym c.ahead-size.ensures)) (c.in_default.ensures so_far.clear) (omega arith) so_far.long in
    λ bytes h. rw c.in-Err-Fault.ensures.err.0 (split_kept bytes _ _ _ c.in-Err-Fault.ensures.err.1 (p.kept bytes _ (so_far.kept bytes h)))

pub returns-in-Err-Memory-clause-kept : goal.returns-in-Err-Memory-clause-kept
returns-in-Err-Memory-clause-kept g c =
    let so_far = c.loop-at.invariant.0 in
    let p = passes _ _ c.args.room _ _ c.pass_long-seen.ensures (ap length (sym c.ahead-size.ensures)) (c.in_default.ensures so_far.clear) (omega arith) so_far.long in
    λ bytes h. rw c.in-Err-Memory.ensures.err.0 (split_kept bytes _ _ _ c.in-Err-Memory.ensures.err.1 (p.kept bytes _ (so_far.kept bytes h)))

pub returns-in-Ok-eq0-clause-near : goal.returns-in-Ok-eq0-clause-near
returns-in-Ok-eq0-clause-near g c =
    let so_far = c.loop-at.invariant.0 in
    let p = passes _ _ c.args.room _ _ c.pass_long-seen.ensures (ap length (sym c.ahead-size.ensures)) (c.in_default.ensures so_far.clear) (omega arith) so_far.long in
    (sought_next _ _ _ _ _ _ _ _ _ _ _ _ _ _ so_far p c.in-Ok-eq0.ensures.ok c.in-Ok-eq0.ensures.gave).near

pub returns-in-Err-Fault-clause-near : goal.returns-in-Err-Fault-clause-near
returns-in-Err-Fault-clause-near g c =
    let so_far = c.loop-at.invariant.0 in
    let p = passes _ _ c.args.room _ _ c.pass_long-seen.ensures (ap length (sym c.ahead-size.ensures)) (c.in_default.ensures so_far.clear) (omega arith) so_far.long in
    rw c.in-Err-Fault.ensures.err.0 (near_passed _ _ _ _ _ p)

pub returns-in-Err-Memory-clause-near : goal.returns-in-Err-Memory-clause-near
returns-in-Err-Memory-clause-near g c =
    let so_far = c.loop-at.invariant.0 in
    let p = passes _ _ c.args.room _ _ c.pass_long-seen.ensures (ap length (sym c.ahead-size.ensures)) (c.in_default.ensures so_far.clear) (omega arith) so_far.long in
    rw c.in-Err-Memory.ensures.err.0 (near_passed _ _ _ _ _ p)

pub returns-in-Ok-eq0-clause-last : goal.returns-in-Ok-eq0-clause-last
returns-in-Ok-eq0-clause-last g c =
    let so_far = c.loop-at.invariant.0 in
    let p = passes _ _ c.args.room _ _ c.pass_long-seen.ensures (ap length (sym c.ahead-size.ensures)) (c.in_default.ensures so_far.clear) (omega arith) so_far.long in
    (sought_next _ _ _ _ _ _ _ _ _ _ _ _ _ _ so_far p c.in-Ok-eq0.ensures.ok c.in-Ok-eq0.ensures.gave).last

pub returns-in-Err-Fault-clause-last : goal.returns-in-Err-Fault-clause-last
returns-in-Err-Fault-clause-last g c =
    let so_far = c.loop-at.invariant.0 in
    let p = passes _ _ c.args.room _ _ c.pass_long-seen.ensures (ap length (sym c.ahead-size.ensures)) (c.in_default.ensures so_far.clear) (omega arith) so_far.long in
    λ _. rw c.in-Err-Fault.ensures.err.0 (near_passed _ _ _ _ _ p)

pub returns-in-Err-Memory-clause-last : goal.returns-in-Err-Memory-clause-last
returns-in-Err-Memory-clause-last g c =
    let so_far = c.loop-at.invariant.0 in
    let p = passes _ _ c.args.room _ _ c.pass_long-seen.ensures (ap length (sym c.ahead-size.ensures)) (c.in_default.ensures so_far.clear) (omega arith) so_far.long in
    λ _. rw c.in-Err-Memory.ensures.err.0 (near_passed _ _ _ _ _ p)
