use Rattle.std.proofs.Common.{◌≡◌, ◌<◌, ℕ, List, length, sym, ap, subst, rules, zero, suc, [], ◌∷◌, Some, OnOk, Result, Ok, Err, slice_get, refl, arith}
use Rattle.bucket_db.specs.declared.row.Row.{Row}
use Rattle.distributor_part.specs.Parts.{Part, rows_of}
use Rattle.lane_states.specs.LaneStates.{part_of}
use Rattle.proof_basics.proofs.Results.{on_ok}
use Rattle.pass_machine.specs.declared.doing.Doing.{Doing}
use Rattle.pass_machine.specs.Turns.{Sees}
use Rattle.pass_machine.specs.Going.{left}
use Rattle.lane_upkeep.specs.Passing.{rows_in, HasRow}
use Rattle.lane_upkeep.specs.UnderWay.{view_in, KnowsDoing}
use Rattle.lane_upkeep.proofs.Changed.{rounded_known}
use Rattle.lane_upkeep.proofs.NextSteps.{ideal_of, ideal_is}
use Rattle.lane_upkeep.proofs.Permitted.{part_read, sees_view}
use Rattle.lane_upkeep.proofs.Rounded.{on_both, same_count, round_noted}
use Rattle.lane_upkeep.proofs.steps.round.Given.{Over}
use Rattle.lane_upkeep.specs.Quiet.{IsRoundQuietly, StandsOn}
use Rattle.lane_upkeep.proofs.QuietSteps.{does_map_in, settings_go_on}
use Rattle.lane_upkeep.proofs.Standings.{stands_rounded}
use Rattle.lane_upkeep.proofs.steps.round.Goals as goal

-- the part is the owner's behind the round
part-is : (g : Over) (c : goal.After-round_over g) → c.index.result.now ≡ part_of c.run_round_at.new.lane c.args.owner.now.distributor
part-is g c = part_read c.run_round_at.new.lane c.args.owner.now c.from.result c.index.result.now c.from.ensures (search rules) c.index.ensures

sees : (g : Over) (c : goal.After-round_over g) → Sees c.index.result.now (view_in (ideal_of c.args.owner.now) c.run_round_at.new.lane c.args.owner.now)
sees g c =
    let e = c.run_round_at.new.lane in
    let o = c.args.owner.now in
    subst (λ (p : Part). Sees p (view_in (ideal_of o) e o)) (sym (part-is g c)) (sees_view e o (ideal_of o) (g.C.Carrier.given c.run_round_at.new.carrier, c.run_round_at.ensures.passing) (ideal_is o))

pub returns-clause-under_way : goal.returns-clause-under_way
returns-clause-under_way g c =
    let x = c.args.lane.now in
    let e = c.run_round_at.new.lane in
    let o = c.args.owner.now in
    let p = c.args.pass.now in
    let q = c.round_over.new.self in
    let v = view_in (ideal_of o) e o in
    let note = c.in_ok-note.note in
    on_both c.round_over.result (λ behind kept. record {
      notes = round_noted x e o c.args.at note p.notes.by_number q.notes.by_number c.rows_are_whole.ensures.whole c.requires.place c.in_ok-note.ensures.row c.in_ok-note.ensures.knows c.in_ok-note.ensures.others
          c.requires.under_way.notes kept;
      doing = subst (λ (d : Doing). KnowsDoing e o d) (sym (behind v (sees g c))) (rounded_known x e o (length (rows_in x o)) v p.doing c.requires.rounded);
    }) c.round_over.ensures.behind c.round_over.ensures.kept

pub returns-clause-nearer : goal.returns-clause-nearer
returns-clause-nearer g c =
    let x = c.args.lane.now in
    let e = c.run_round_at.new.lane in
    let o = c.args.owner.now in
    let p = c.args.pass.now in
    let q = c.round_over.new.self in
    let now : length (rows_of c.index.result.now.rows) ≡ length (rows_in e o) = ap (λ (y : Part). length (rows_of y.rows)) (part-is g c) in
    let same : length (rows_in e o) ≡ length (rows_in x o) = same_count (rows_in x o) (rows_in e o) c.run_round_at.ensures.buckets in
    on_ok c.round_over.result (λ nearer most few within.
    subst (λ (n : ℕ). left most (length (rows_in e o)) q.doing < left most n p.doing) same
    (subst (λ (n : ℕ). left most n q.doing < left most n p.doing) now (nearer most))) c.round_over.ensures.nearer

there : (rows : List Row) (at : ℕ) → at < length rows → (row : Row) × (slice_get rows at ≡ Some row)
there [] at h = absurd (omega (arith, h))
there (r ∷ rs) zero h = (r, refl)
there (r ∷ rs) (suc at) h = let less : at < length rs = omega (arith, h) in there rs at less

-- all of what is said of a result
all-ok : {X E : Type 0} (r : Result X E) (P Q R S : Type 0) → (P → Q → R → S) → OnOk r P → OnOk r Q → OnOk r R → OnOk r S
all-ok (Ok x) P Q R S f p q s = f p q s
all-ok (Err e) P Q R S f p q s = tt

pub returns-clause-quiet : goal.returns-clause-quiet
returns-clause-quiet g c =
    let x = c.args.lane.now in
    let e = c.run_round_at.new.lane in
    let o = c.args.owner.now in
    let ran = c.in_ok-note.ensures in
    let note = c.in_ok-note.note in
    let given = g.C.Carrier.given c.args.carrier.now in
    let now = g.C.Carrier.given c.run_round_at.new.carrier in
    let p = c.args.pass.now in
    let q = c.round_over.new.self in
    let found = there (rows_in x o) c.args.at c.requires.place in
    all-ok c.round_over.result _ _ _ _
    (λ behind kept makes. does_map_in given now x e o (λ d s. (row : Row) → HasRow x o c.args.at row → IsRoundQuietly d s x e o c.args.at row note) (λ d s. StandsOn d s x e o p q)
    (λ d s are current goes versions still quiet. stands_rounded c.passes_stand.ensures.rounded d s x e o given now p q c.args.at found.0 note c.requires.passing ran.passing ran.on are
    (settings_go_on x e o s ran.on are) c.rows_are_whole.ensures.whole c.rows_are_whole-2.ensures.whole c.requires.next found.1 still (quiet found.0 found.1)
    (λ v seen. behind v (subst (λ (y : Part). Sees y v) (sym (part-is g c)) seen)) kept makes) ran.quiet)
    c.round_over.ensures.behind c.round_over.ensures.kept c.round_over.ensures.made

pub returns-clause-does : goal.returns-clause-does
returns-clause-does g c =
    let e = c.run_round_at.new.lane in
    let o = c.args.owner.now in
    all-ok c.round_over.result _ _ _ _
    (λ behind kept makes. record {
      note = c.in_ok-note.note;
      ran = c.in_ok-note.ensures.ran;
      behind = λ ideal are.
          let v = view_in ideal e o in
          behind v (subst (λ (y : Part). Sees y v) (sym (part-is g c)) (sees_view e o ideal (g.C.Carrier.given c.run_round_at.new.carrier, c.run_round_at.ensures.passing) are));
      kept = kept;
      makes = makes;
    }) c.round_over.ensures.behind c.round_over.ensures.kept c.round_over.ensures.made
