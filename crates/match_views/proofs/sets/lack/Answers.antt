use Rattle.std.proofs.Common.{◌<◌, ◌≤◌, ◌++◌, get_or, inl, inr, sym, ap, ◌∙◌, arith, append_assoc}
use Rattle.match_views.proofs.Steps.{lack-first, lack-second, lack-both, lack-end, tail}
use Rattle.match_views.proofs.sets.lack.Goals.{then-loop-i-test+else-j-ys, else-loop-i-test}
use Rattle.match_views.proofs.sets.lack.Goals as goal

pub loop-i-preserved-then-x-y : goal.loop-i-preserved-then-x-y
loop-i-preserved-then-x-y c = (rw (c.in_ok-push.ensures.items, append_assoc) (ap (λ zs. c.loop-i.rest.items ++ zs) (sym (lack-first c.args.xs.now c.args.ys.now c.loop-i.i c.loop-i.j c.loop-i-test.true c.if-j-ys.true (let h : get_or c.args.xs.now c.loop-i.i 0 < get_or c.args.ys.now c.loop-i.j 0 = omega arith in h))) ∙ c.loop-i.invariant.0), omega arith, omega arith)

pub loop-i-preserved-then-y-x : goal.loop-i-preserved-then-y-x
loop-i-preserved-then-y-x c = (ap (λ zs. c.loop-i.rest.items ++ zs) (sym (lack-second c.args.xs.now c.args.ys.now c.loop-i.i c.loop-i.j c.loop-i-test.true c.if-j-ys.true (let h : get_or c.args.ys.now c.loop-i.j 0 < get_or c.args.xs.now c.loop-i.i 0 = omega arith in h))) ∙ c.loop-i.invariant.0, omega arith, omega arith)

pub loop-i-preserved : goal.loop-i-preserved
loop-i-preserved c = (ap (λ zs. c.loop-i.rest.items ++ zs) (sym (lack-both c.args.xs.now c.args.ys.now c.loop-i.i c.loop-i.j c.loop-i-test.true c.if-j-ys.true (let h : get_or c.args.ys.now c.loop-i.j 0 ≤ get_or c.args.xs.now c.loop-i.i 0 = omega arith in h) (let h : get_or c.args.xs.now c.loop-i.i 0 ≤ get_or c.args.ys.now c.loop-i.j 0 = omega arith in h))) ∙ c.loop-i.invariant.0, omega arith, omega arith)

pub returns : goal.returns
returns c = elim c.loop-i-test.branch [ then-loop-i-test+else-j-ys w ↦ c.in_ok-extend_from_slice.ensures.items ∙ (ap (λ zs. c.loop-i.rest.items ++ zs) (tail c.loop-i.i c.args.xs.now) ∙ ap (λ zs. c.loop-i.rest.items ++ zs) (sym (lack-end c.args.xs.now c.args.ys.now c.loop-i.i c.loop-i.j (inr (omega arith)))) ∙ c.loop-i.invariant.0) | else-loop-i-test w ↦ c.in_ok-extend_from_slice.ensures.items ∙ (ap (λ zs. c.loop-i.rest.items ++ zs) (tail c.loop-i.i c.args.xs.now) ∙ ap (λ zs. c.loop-i.rest.items ++ zs) (sym (lack-end c.args.xs.now c.args.ys.now c.loop-i.i c.loop-i.j (inl (omega arith)))) ∙ c.loop-i.invariant.0) ]
