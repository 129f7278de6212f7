use Rattle.std.proofs.Common.{◌<◌, ◌≤◌, ◌++◌, get_or, drop, inl, inr, sym, ap, ◌∙◌, arith, append_assoc}
use Rattle.match_views.proofs.Steps.{join-first, join-second, join-both, join-end, tail}
use Rattle.match_views.proofs.sets.join.Goals.{then-loop-i-test+else-j-ys, else-loop-i-test}
use Rattle.match_views.proofs.sets.join.Goals as goal

pub loop-i-preserved-then-x-y : goal.loop-i-preserved-then-x-y
loop-i-preserved-then-x-y c = (rw (c.in_ok-push.ensures.items, append_assoc) (ap (λ zs. c.loop-i.all.items ++ zs) (sym (join-first c.args.xs.now c.args.ys.now c.loop-i.i c.loop-i.j c.loop-i-test.true c.if-j-ys.true (let h : get_or c.args.xs.now c.loop-i.i 0 < get_or c.args.ys.now c.loop-i.j 0 = omega arith in h))) ∙ c.loop-i.invariant.0), omega arith, omega arith)

pub loop-i-preserved-then-y-x : goal.loop-i-preserved-then-y-x
loop-i-preserved-then-y-x c = (rw (c.in_ok-push-2.ensures.items, append_assoc) (ap (λ zs. c.loop-i.all.items ++ zs) (sym (join-second c.args.xs.now c.args.ys.now c.loop-i.i c.loop-i.j c.loop-i-test.true c.if-j-ys.true (let h : get_or c.args.ys.now c.loop-i.j 0 < get_or c.args.xs.now c.loop-i.i 0 = omega arith in h))) ∙ c.loop-i.invariant.0), omega arith, omega arith)

pub loop-i-preserved : goal.loop-i-preserved
loop-i-preserved c = (rw (c.in_ok-push-3.ensures.items, append_assoc) (ap (λ zs. c.loop-i.all.items ++ zs) (sym (join-both c.args.xs.now c.args.ys.now c.loop-i.i c.loop-i.j c.loop-i-test.true c.if-j-ys.true (let h : get_or c.args.ys.now c.loop-i.j 0 ≤ get_or c.args.xs.now c.loop-i.i 0 = omega arith in h) (let h : get_or c.args.xs.now c.loop-i.i 0 ≤ get_or c.args.ys.now c.loop-i.j 0 = omega arith in h))) ∙ c.loop-i.invariant.0), omega arith, omega arith)

pub returns : goal.returns
returns c = elim c.loop-i-test.branch [ then-loop-i-test+else-j-ys w ↦ c.in_ok-extend_from_slice-2.ensures.items ∙ (ap (λ zs. c.extend_from_slice.new.self.items ++ zs) (tail c.loop-i.j c.args.ys.now) ∙ (ap (λ zs. zs ++ drop c.loop-i.j c.args.ys.now) (c.in_ok-extend_from_slice.ensures.items ∙ ap (λ zs. c.loop-i.all.items ++ zs) (tail c.loop-i.i c.args.xs.now)) ∙ (append_assoc c.loop-i.all.items (drop c.loop-i.i c.args.xs.now) (drop c.loop-i.j c.args.ys.now) ∙ (ap (λ zs. c.loop-i.all.items ++ zs) (sym (join-end c.args.xs.now c.args.ys.now c.loop-i.i c.loop-i.j (inr (omega arith)))) ∙ c.loop-i.invariant.0)))) | else-loop-i-test w ↦ c.in_ok-extend_from_slice-2.ensures.items ∙ (ap (λ zs. c.extend_from_slice.new.self.items ++ zs) (tail c.loop-i.j c.args.ys.now) ∙ (ap (λ zs. zs ++ drop c.loop-i.j c.args.ys.now) (c.in_ok-extend_from_slice.ensures.items ∙ ap (λ zs. c.loop-i.all.items ++ zs) (tail c.loop-i.i c.args.xs.now)) ∙ (append_assoc c.loop-i.all.items (drop c.loop-i.i c.args.xs.now) (drop c.loop-i.j c.args.ys.now) ∙ (ap (λ zs. c.loop-i.all.items ++ zs) (sym (join-end c.args.xs.now c.args.ys.now c.loop-i.i c.loop-i.j (inl (omega arith)))) ∙ c.loop-i.invariant.0)))) ]
