use Rattle.std.proofs.Common.{◌≡◌, ◌∙◌, ◌<◌, ◌^◌, ℕ, Option, Some, None, refl, sym, subst}
use Rattle.pass_machine.specs.declared.doing.Doing.{Doing}
use Rattle.pass_machine.specs.declared.notes.RowNote.{RowNote}
use Rattle.lane_states.proofs.Giving.{gives_same, gives_then}
use Rattle.lane_upkeep.specs.UnderWay.{KnowsDoing}
use Rattle.lane_upkeep.proofs.Going.{on_none, on_then}
use Rattle.lane_upkeep.proofs.Standings.{does_begin, does_more, does_finish}
use Rattle.lane_upkeep.specs.Taking.{GoesOneOn}
use Rattle.lane_upkeep.proofs.Taken.{run_none, run_more, run_over}
use Rattle.lane_upkeep.proofs.pass.make_pass.Goals as goal

no-note : (o : Option RowNote) (note : RowNote) → o ≡ None → o ≡ Some note → ⊥
no-note o note a b = let e : ◌≡◌ {A = Option RowNote} None (Some note) = sym a ∙ b in cc

pub loop-pass-init : goal.loop-pass-init
loop-pass-init g c =
    let x = c.args.lane.now in
    let o = c.args.owner.now in
    let p = c.new-pass.result in
    let begins = c.new-pass.ensures in
    record {
      passing = c.requires.passing;
      on = on_none x o;
      planned = refl;
      kind = refl;
      gives = gives_same _ _ refl;
      under_way = record {
        notes = λ number note has. absurd (no-note _ note (begins.no_notes number) has);
        doing = subst (λ (d : Doing). KnowsDoing x o d) (sym begins.begins) tt;
      };
      run = run_none x o p (g.C.Carrier.given c.args.carrier.now) (record { begins = begins.begins; none_made = begins.none_made; no_notes = begins.no_notes });
      few = subst (λ (n : ℕ). n < 2 ^ 64) c.row_count-many.ensures c.row_count-many.type_inv;
      quiet = does_begin c.passes_stand.ensures.begins x o (g.C.Carrier.given c.args.carrier.now) p c.requires.passing c.rows_are_whole.ensures.whole begins.begins begins.none_made begins.no_notes;
    }

pub returns-in_err-go_on-clause-on : goal.returns-in_err-go_on-clause-on
returns-in_err-go_on-clause-on g c = on_then c.args.lane.now c.loop-pass.lane c.go_on.new.lane c.args.owner.now c.loop-pass.invariant.on c.go_on.ensures.on

pub loop-pass-preserved : goal.loop-pass-preserved
loop-pass-preserved g c =
    let x = c.args.lane.now in
    let m = c.loop-pass.lane in
    let e = c.go_on.new.lane in
    let o = c.args.owner.now in
    let i = c.loop-pass.invariant in
    let h = c.go_on.ensures in
    record {
      passing = h.passing;
      on = on_then x m e o i.on h.on;
      planned = h.planned ∙ i.planned;
      kind = h.kind ∙ i.kind;
      gives = gives_then _ _ _ i.gives h.gives;
      under_way = c.in_ok-go_on.ensures.under_way;
      run = run_more x m e o c.loop-pass.pass c.go_on.new.pass (g.C.Carrier.given c.args.carrier.now) (g.C.Carrier.given c.loop-pass.carrier) (g.C.Carrier.given c.go_on.new.carrier) i.run
          (subst (GoesOneOn m e o c.loop-pass.pass c.go_on.new.pass (g.C.Carrier.given c.loop-pass.carrier) (g.C.Carrier.given c.go_on.new.carrier)) c.if-branch.true c.in_ok-go_on.ensures.takes);
      few = subst (λ (n : ℕ). n < 2 ^ 64) c.row_count-many-in-loop-pass.ensures c.row_count-many-in-loop-pass.type_inv;
      quiet = does_more c.undisturbed_spans_part.ensures.first c.undisturbed_spans_part.ensures.second x m e o (g.C.Carrier.given c.args.carrier.now) (g.C.Carrier.given c.loop-pass.carrier) (g.C.Carrier.given c.go_on.new.carrier) c.loop-pass.pass c.go_on.new.pass
          i.on h.on i.passing h.passing i.quiet c.in_ok-go_on.ensures.quiet;
    }

pub returns-in_err-go_on-clause-gives : goal.returns-in_err-go_on-clause-gives
returns-in_err-go_on-clause-gives g c = gives_then _ _ _ c.loop-pass.invariant.gives c.go_on.ensures.gives

pub returns-clause-gives : goal.returns-clause-gives
returns-clause-gives g c = gives_then _ _ _ c.loop-pass.invariant.gives c.go_on.ensures.gives

pub returns-clause-on : goal.returns-clause-on
returns-clause-on g c = on_then c.args.lane.now c.loop-pass.lane c.go_on.new.lane c.args.owner.now c.loop-pass.invariant.on c.go_on.ensures.on

pub returns-clause-quiet : goal.returns-clause-quiet
returns-clause-quiet g c =
    let x = c.args.lane.now in
    let m = c.loop-pass.lane in
    let e = c.go_on.new.lane in
    let o = c.args.owner.now in
    let i = c.loop-pass.invariant in
    let h = c.go_on.ensures in
    let given = g.C.Carrier.given c.args.carrier.now in
    let now = g.C.Carrier.given c.go_on.new.carrier in
    does_finish c.passes_end.ensures x e o given now c.go_on.new.pass (c.in_ok-go_on.ensures.ends c.if-branch.false)
    (does_more c.undisturbed_spans_part.ensures.first c.undisturbed_spans_part.ensures.second x m e o given (g.C.Carrier.given c.loop-pass.carrier) now c.loop-pass.pass c.go_on.new.pass i.on h.on i.passing h.passing i.quiet c.in_ok-go_on.ensures.quiet)

pub returns-clause-pass : goal.returns-clause-pass
returns-clause-pass g c =
    let x = c.args.lane.now in
    let m = c.loop-pass.lane in
    let e = c.go_on.new.lane in
    let o = c.args.owner.now in
    let given = g.C.Carrier.given c.args.carrier.now in
    let mid = g.C.Carrier.given c.loop-pass.carrier in
    let now = g.C.Carrier.given c.go_on.new.carrier in
    run_over x m e o c.loop-pass.pass c.go_on.new.pass given mid now c.loop-pass.invariant.run (subst (GoesOneOn m e o c.loop-pass.pass c.go_on.new.pass mid now) c.if-branch.false c.in_ok-go_on.ensures.takes)
    (c.in_ok-go_on.ensures.ends c.if-branch.false)
