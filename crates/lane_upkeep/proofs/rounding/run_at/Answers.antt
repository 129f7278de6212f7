use Rattle.std.proofs.Common.{◌≡◌, ◌∙◌, ◌<◌, ℕ, length, vec_len, rules, refl, sym, ap, subst}
use Rattle.bucket_ids.specs.Buckets.{Low, IsIn}
use Rattle.distributor_part.specs.Parts.{rows_of}
use Rattle.lane_states.specs.declared.lane_state.LaneState.{LaneState}
use Rattle.round_keeping.specs.declared.round_run.RoundRun.{RoundRun}
use Rattle.lane_states.specs.LaneStates.{journal_of, part_of}
use Rattle.round_keeping.specs.RoundRuns.{IsRunning, IsRunBy, Begins}
use Rattle.lane_states.specs.Shortages.{NoneIsShort, EndsAtOnce}
use Rattle.round_keeping.specs.RoundShortages.{HadMemory}
use Rattle.lane_rounds.proofs.Shortages.{once-still}
use Rattle.lane_states.proofs.Giving.{gives_same}
use Rattle.upkeep_spans.specs.Spans.{AreUpkeep}
use Rattle.lane_upkeep.proofs.Passing.{still-passing-in, still-passes-in, passing-gained}
use Rattle.lane_upkeep.proofs.RoundsLeft.{gains-left, upkeep-left, others-left, answers-left, ran-left, row-left, buckets-gained, note-whole}
use Rattle.lane_upkeep.proofs.Upkept.{upkeep-whole, upkeep-cut}
use Rattle.lane_upkeep.proofs.rounding.run_at.Goals as goal

pub begin_round_at-run-requires-clause-may : goal.begin_round_at-run-requires-clause-may
begin_round_at-run-requires-clause-may g c =
    let x = c.args.lane.now in
    let o = c.args.owner.now in
    let p = c.requires.passing in
    let d = o.distributor in
    record {
      state = o.state;
      heard = p.opened.heard;
      owner = p.acting.owner;
      rows = p.rows;
      opened = p.opened.opened;
      unasked = p.resting.unasked;
      told = p.resting.told;
      no_round = p.resting.no_round;
      place = subst (λ r. c.args.at < length (rows_of r)) p.opened.opened c.requires.place;
    }

pub begin_round_at-run-requires-clause-idle : goal.begin_round_at-run-requires-clause-idle
begin_round_at-run-requires-clause-idle g c =
    let x = c.args.lane.now in
    let o = c.args.owner.now in
    let p = c.requires.passing in
    let d = o.distributor in
    rw c.in_ok-reserve.ensures.items p.idle

pub begin_round_at-run-requires-clause-none_runs : goal.begin_round_at-run-requires-clause-none_runs
begin_round_at-run-requires-clause-none_runs g c =
    let x = c.args.lane.now in
    let o = c.args.owner.now in
    let p = c.requires.passing in
    let d = o.distributor in
    rw c.in_ok-reserve.ensures.items p.none_runs

pub begin_round_at-run-requires-clause-keeps : goal.begin_round_at-run-requires-clause-keeps
begin_round_at-run-requires-clause-keeps g c =
    let x = c.args.lane.now in
    let o = c.args.owner.now in
    let p = c.requires.passing in
    let d = o.distributor in
    rw c.in_ok-reserve.ensures.items p.keeps

pub run_round-requires-clause-there : goal.run_round-requires-clause-there
run_round-requires-clause-there g c =
    let x = c.args.lane.now in
    let o = c.args.owner.now in
    let p = c.requires.passing in
    let d = o.distributor in
    let m = c.begin_round_at-run.new.lane in
    let run = c.begin_round_at-run.result in
    let begins : Begins x.lane (journal_of x) (journal_of m) d run.key run = rw c.in_ok-reserve.ensures.items at c.begin_round_at-run.ensures.begins in
    subst (λ (k : ℕ). k < vec_len m.parts) (sym begins.distributor_is) (subst (λ (k : ℕ). d < k) (sym c.begin_round_at-run.ensures.parts) p.there)

pub run_round-requires-clause-runs : goal.run_round-requires-clause-runs
run_round-requires-clause-runs g c =
    let x = c.args.lane.now in
    let o = c.args.owner.now in
    let p = c.requires.passing in
    let d = o.distributor in
    let m = c.begin_round_at-run.new.lane in
    let run = c.begin_round_at-run.result in
    let begins : Begins x.lane (journal_of x) (journal_of m) d run.key run = rw c.in_ok-reserve.ensures.items at c.begin_round_at-run.ensures.begins in
    subst (λ (l : Low). IsRunning l (journal_of m) run) (sym (ap (λ (z : LaneState). z.lane) c.begin_round_at-run.ensures.after)) begins.runs

pub run_round-requires-clause-told : goal.run_round-requires-clause-told
run_round-requires-clause-told g c =
    let x = c.args.lane.now in
    let o = c.args.owner.now in
    let p = c.requires.passing in
    let d = o.distributor in
    let m = c.begin_round_at-run.new.lane in
    let run = c.begin_round_at-run.result in
    let begins : Begins x.lane (journal_of x) (journal_of m) d run.key run = rw c.in_ok-reserve.ensures.items at c.begin_round_at-run.ensures.begins in
    ap (λ (z : RoundRun). z.round.awaited) begins.new.is

pub run_round-requires-clause-run_by : goal.run_round-requires-clause-run_by
run_round-requires-clause-run_by g c =
    let x = c.args.lane.now in
    let o = c.args.owner.now in
    let p = c.requires.passing in
    let d = o.distributor in
    let m = c.begin_round_at-run.new.lane in
    let run = c.begin_round_at-run.result in
    let begins : Begins x.lane (journal_of x) (journal_of m) d run.key run = rw c.in_ok-reserve.ensures.items at c.begin_round_at-run.ensures.begins in
    subst (λ (e : ℕ). IsRunBy (part_of m e) run) (sym begins.distributor_is) c.begin_round_at-run.ensures.run_by

pub run_round-requires-clause-inside : goal.run_round-requires-clause-inside
run_round-requires-clause-inside g c =
    let x = c.args.lane.now in
    let o = c.args.owner.now in
    let p = c.requires.passing in
    let d = o.distributor in
    let m = c.begin_round_at-run.new.lane in
    let run = c.begin_round_at-run.result in
    let begins : Begins x.lane (journal_of x) (journal_of m) d run.key run = rw c.in_ok-reserve.ensures.items at c.begin_round_at-run.ensures.begins in
    subst (λ (l : Low). IsIn l run.key) (sym (ap (λ (z : LaneState). z.lane) c.begin_round_at-run.ensures.after)) c.begin_round_at-run.ensures.inside

pub run_round-requires-clause-carried : goal.run_round-requires-clause-carried
run_round-requires-clause-carried g c =
    c.begin_round_at-run.ensures.carried _ (rw c.in_ok-reserve.ensures.items c.requires.passing.carried)

pub returns-in_err-reserve-clause-passing : goal.returns-in_err-reserve-clause-passing
returns-in_err-reserve-clause-passing g c =
    let x = c.args.lane.now in
    let o = c.args.owner.now in
    let p = c.requires.passing in
    let d = o.distributor in
    let e : LaneState = record x { journal = record x.journal { events = c.reserve.new.self } } in
    still-passing-in x e o _ p (rw c.in_err-reserve.ensures.items refl) refl (rw c.in_err-reserve.ensures.items p.keeps) (search rules)

pub returns-in_err-reserve-clause-on : goal.returns-in_err-reserve-clause-on
returns-in_err-reserve-clause-on g c =
    let x = c.args.lane.now in
    let o = c.args.owner.now in
    let p = c.requires.passing in
    let d = o.distributor in
    let e : LaneState = record x { journal = record x.journal { events = c.reserve.new.self } } in
    still-passes-in x e o (rw c.in_err-reserve.ensures.items refl) refl

pub returns-in_err-run_round-clause-passing : goal.returns-in_err-run_round-clause-passing
returns-in_err-run_round-clause-passing g c =
    let x = c.args.lane.now in
    let o = c.args.owner.now in
    let p = c.requires.passing in
    let d = o.distributor in
    let m = c.begin_round_at-run.new.lane in
    let run = c.begin_round_at-run.result in
    let begins : Begins x.lane (journal_of x) (journal_of m) d run.key run = rw c.in_ok-reserve.ensures.items at c.begin_round_at-run.ensures.begins in
    let n = c.run_round.new.lane in
    let y = c.run_round.new.run in
    let job = c.run_round.ensures.job in
    let step = c.begin_round_at-run.ensures.step in
    let go = c.run_round.ensures.same in
    let u : AreUpkeep d o.state.version (journal_of x) (journal_of n) = upkeep-left x m n o c.args.at run y job.0 _ p begins step go job.1
    (upkeep-cut m.lane run _ _ m.last n.last m.late.late n.late.late (journal_of m) (journal_of n) c.in_err-run_round.ensures.cut) in
    passing-gained c.upkeep_leaves_states.ensures.held c.upkeep_leaves_states.ensures.state c.upkeep_leaves_lines.ensures.idle x n o _ _ p u
    (ap (λ (z : LaneState). z.lane) c.run_round.ensures.after ∙ ap (λ (z : LaneState). z.lane) c.begin_round_at-run.ensures.after)
    (c.run_round.ensures.parts ∙ c.begin_round_at-run.ensures.parts) c.args.at y.round.holders
    (gains-left x m n o c.args.at run y job.0 _ p begins step go job.1)
    c.run_round.ensures.keeps c.run_round.ensures.room c.run_round.ensures.carried c.run_round.ensures.none_runs

pub returns-in_err-run_round-clause-on : goal.returns-in_err-run_round-clause-on
returns-in_err-run_round-clause-on g c =
    let x = c.args.lane.now in
    let o = c.args.owner.now in
    let p = c.requires.passing in
    let d = o.distributor in
    let m = c.begin_round_at-run.new.lane in
    let run = c.begin_round_at-run.result in
    let begins : Begins x.lane (journal_of x) (journal_of m) d run.key run = rw c.in_ok-reserve.ensures.items at c.begin_round_at-run.ensures.begins in
    let n = c.run_round.new.lane in
    let y = c.run_round.new.run in
    let job = c.run_round.ensures.job in
    let step = c.begin_round_at-run.ensures.step in
    let go = c.run_round.ensures.same in
    let u : AreUpkeep d o.state.version (journal_of x) (journal_of n) = upkeep-left x m n o c.args.at run y job.0 _ p begins step go job.1
    (upkeep-cut m.lane run _ _ m.last n.last m.late.late n.late.late (journal_of m) (journal_of n) c.in_err-run_round.ensures.cut) in
    record {
      others = others-left x m n o c.args.at run y job.0 _ p begins step go job.1
          (ap (λ (z : LaneState). z.lane) c.begin_round_at-run.ensures.after) (ap (λ (z : LaneState). z.rules) c.begin_round_at-run.ensures.after) c.begin_round_at-run.ensures.others c.run_round.ensures.others;
      parts = c.run_round.ensures.parts ∙ c.begin_round_at-run.ensures.parts;
      after = c.run_round.ensures.after ∙ ap (λ (z : LaneState). record z { journal = n.journal; nodes = n.nodes; parts = n.parts; late = n.late; last = n.last }) c.begin_round_at-run.ensures.after;
      grows = u;
    }

pub returns-in_err-run_round-clause-buckets : goal.returns-in_err-run_round-clause-buckets
returns-in_err-run_round-clause-buckets g c =
    let x = c.args.lane.now in
    let o = c.args.owner.now in
    let p = c.requires.passing in
    let d = o.distributor in
    let m = c.begin_round_at-run.new.lane in
    let run = c.begin_round_at-run.result in
    let begins : Begins x.lane (journal_of x) (journal_of m) d run.key run = rw c.in_ok-reserve.ensures.items at c.begin_round_at-run.ensures.begins in
    let n = c.run_round.new.lane in
    let y = c.run_round.new.run in
    let job = c.run_round.ensures.job in
    let step = c.begin_round_at-run.ensures.step in
    let go = c.run_round.ensures.same in
    buckets-gained (part_of x d) (part_of n d) c.args.at y.round.holders (gains-left x m n o c.args.at run y job.0 _ p begins step go job.1)

pub returns-clause-passing : goal.returns-clause-passing
returns-clause-passing g c =
    let x = c.args.lane.now in
    let o = c.args.owner.now in
    let p = c.requires.passing in
    let d = o.distributor in
    let m = c.begin_round_at-run.new.lane in
    let run = c.begin_round_at-run.result in
    let begins : Begins x.lane (journal_of x) (journal_of m) d run.key run = rw c.in_ok-reserve.ensures.items at c.begin_round_at-run.ensures.begins in
    let n = c.run_round.new.lane in
    let y = c.run_round.new.run in
    let job = c.run_round.ensures.job in
    let step = c.begin_round_at-run.ensures.step in
    let go = c.run_round.ensures.same in
    let u : AreUpkeep d o.state.version (journal_of x) (journal_of n) = upkeep-left x m n o c.args.at run y job.0 _ p begins step go job.1
    (upkeep-whole m.lane run c.in_ok-run_round.field-0 _ _ m.last n.last m.late.late n.late.late (journal_of m) (journal_of n) c.in_ok-run_round.ensures.whole) in
    passing-gained c.upkeep_leaves_states.ensures.held c.upkeep_leaves_states.ensures.state c.upkeep_leaves_lines.ensures.idle x n o _ _ p u
    (ap (λ (z : LaneState). z.lane) c.run_round.ensures.after ∙ ap (λ (z : LaneState). z.lane) c.begin_round_at-run.ensures.after)
    (c.run_round.ensures.parts ∙ c.begin_round_at-run.ensures.parts) c.args.at y.round.holders
    (gains-left x m n o c.args.at run y job.0 _ p begins step go job.1)
    c.run_round.ensures.keeps c.run_round.ensures.room c.run_round.ensures.carried c.run_round.ensures.none_runs

pub returns-clause-on : goal.returns-clause-on
returns-clause-on g c =
    let x = c.args.lane.now in
    let o = c.args.owner.now in
    let p = c.requires.passing in
    let d = o.distributor in
    let m = c.begin_round_at-run.new.lane in
    let run = c.begin_round_at-run.result in
    let begins : Begins x.lane (journal_of x) (journal_of m) d run.key run = rw c.in_ok-reserve.ensures.items at c.begin_round_at-run.ensures.begins in
    let n = c.run_round.new.lane in
    let y = c.run_round.new.run in
    let job = c.run_round.ensures.job in
    let step = c.begin_round_at-run.ensures.step in
    let go = c.run_round.ensures.same in
    let u : AreUpkeep d o.state.version (journal_of x) (journal_of n) = upkeep-left x m n o c.args.at run y job.0 _ p begins step go job.1
    (upkeep-whole m.lane run c.in_ok-run_round.field-0 _ _ m.last n.last m.late.late n.late.late (journal_of m) (journal_of n) c.in_ok-run_round.ensures.whole) in
    record {
      others = others-left x m n o c.args.at run y job.0 _ p begins step go job.1
          (ap (λ (z : LaneState). z.lane) c.begin_round_at-run.ensures.after) (ap (λ (z : LaneState). z.rules) c.begin_round_at-run.ensures.after) c.begin_round_at-run.ensures.others c.run_round.ensures.others;
      parts = c.run_round.ensures.parts ∙ c.begin_round_at-run.ensures.parts;
      after = c.run_round.ensures.after ∙ ap (λ (z : LaneState). record z { journal = n.journal; nodes = n.nodes; parts = n.parts; late = n.late; last = n.last }) c.begin_round_at-run.ensures.after;
      grows = u;
    }

pub returns-clause-buckets : goal.returns-clause-buckets
returns-clause-buckets g c =
    let x = c.args.lane.now in
    let o = c.args.owner.now in
    let p = c.requires.passing in
    let d = o.distributor in
    let m = c.begin_round_at-run.new.lane in
    let run = c.begin_round_at-run.result in
    let begins : Begins x.lane (journal_of x) (journal_of m) d run.key run = rw c.in_ok-reserve.ensures.items at c.begin_round_at-run.ensures.begins in
    let n = c.run_round.new.lane in
    let y = c.run_round.new.run in
    let job = c.run_round.ensures.job in
    let step = c.begin_round_at-run.ensures.step in
    let go = c.run_round.ensures.same in
    buckets-gained (part_of x d) (part_of n d) c.args.at y.round.holders (gains-left x m n o c.args.at run y job.0 _ p begins step go job.1)

pub returns-clause-gains : goal.returns-clause-gains
returns-clause-gains g c =
    let x = c.args.lane.now in
    let o = c.args.owner.now in
    let p = c.requires.passing in
    let d = o.distributor in
    let m = c.begin_round_at-run.new.lane in
    let run = c.begin_round_at-run.result in
    let begins : Begins x.lane (journal_of x) (journal_of m) d run.key run = rw c.in_ok-reserve.ensures.items at c.begin_round_at-run.ensures.begins in
    let n = c.run_round.new.lane in
    let y = c.run_round.new.run in
    let job = c.run_round.ensures.job in
    let step = c.begin_round_at-run.ensures.step in
    let go = c.run_round.ensures.same in
    gains-left x m n o c.args.at run y job.0 _ p begins step go job.1

pub returns-clause-row : goal.returns-clause-row
returns-clause-row g c row found =
    let x = c.args.lane.now in
    let o = c.args.owner.now in
    let p = c.requires.passing in
    let d = o.distributor in
    let m = c.begin_round_at-run.new.lane in
    let run = c.begin_round_at-run.result in
    let begins : Begins x.lane (journal_of x) (journal_of m) d run.key run = rw c.in_ok-reserve.ensures.items at c.begin_round_at-run.ensures.begins in
    let n = c.run_round.new.lane in
    let y = c.run_round.new.run in
    let job = c.run_round.ensures.job in
    let step = c.begin_round_at-run.ensures.step in
    let go = c.run_round.ensures.same in
    row-left x m n o c.args.at run y job.0 _ p begins step go job.1 row found

pub returns-clause-answers : goal.returns-clause-answers
returns-clause-answers g c =
    let x = c.args.lane.now in
    let o = c.args.owner.now in
    let p = c.requires.passing in
    let d = o.distributor in
    let m = c.begin_round_at-run.new.lane in
    let run = c.begin_round_at-run.result in
    let begins : Begins x.lane (journal_of x) (journal_of m) d run.key run = rw c.in_ok-reserve.ensures.items at c.begin_round_at-run.ensures.begins in
    let n = c.run_round.new.lane in
    let y = c.run_round.new.run in
    let job = c.run_round.ensures.job in
    let step = c.begin_round_at-run.ensures.step in
    let go = c.run_round.ensures.same in
    answers-left x m n o c.args.at run y job.0 _ p begins step go job.1 c.in_ok-run_round.ensures.end.answers

pub returns-clause-others : goal.returns-clause-others
returns-clause-others g c note off k =
    let x = c.args.lane.now in
    let o = c.args.owner.now in
    let p = c.requires.passing in
    let d = o.distributor in
    let m = c.begin_round_at-run.new.lane in
    let run = c.begin_round_at-run.result in
    let begins : Begins x.lane (journal_of x) (journal_of m) d run.key run = rw c.in_ok-reserve.ensures.items at c.begin_round_at-run.ensures.begins in
    let n = c.run_round.new.lane in
    let y = c.run_round.new.run in
    let job = c.run_round.ensures.job in
    let step = c.begin_round_at-run.ensures.step in
    let go = c.run_round.ensures.same in
    let same : y.round.row ≡ run.round.row = ap (λ z. z.row) go.round_is in
    note-whole o.state note m.lane run (λ is. off (is ∙ sym same)) d run.key c.in_ok-run_round.field-0 _ _ m.last n.last m.late.late n.late.late (journal_of x) (journal_of m) (journal_of n)
    (subst (λ (l : Low). Begins l (journal_of x) (journal_of m) d run.key run) (sym (ap (λ (z : LaneState). z.lane) c.begin_round_at-run.ensures.after)) begins) c.in_ok-run_round.ensures.whole k

pub returns-clause-gives : goal.returns-clause-gives
returns-clause-gives g c = let on = c.in_ok-run_round.ensures.whole.on in (on.fates, on.given_are)

pub returns-in_err-run_round-clause-gives : goal.returns-in_err-run_round-clause-gives
returns-in_err-run_round-clause-gives g c = let on = c.in_err-run_round.ensures.cut.on in (on.fates, on.given_are)

pub returns-in_err-reserve-clause-gives : goal.returns-in_err-reserve-clause-gives
returns-in_err-reserve-clause-gives g c = gives_same _ _ refl

pub returns-clause-ran : goal.returns-clause-ran
returns-clause-ran g c =
    let x = c.args.lane.now in
    let o = c.args.owner.now in
    let p = c.requires.passing in
    let d = o.distributor in
    let m = c.begin_round_at-run.new.lane in
    let run = c.begin_round_at-run.result in
    let begins : Begins x.lane (journal_of x) (journal_of m) d run.key run = rw c.in_ok-reserve.ensures.items at c.begin_round_at-run.ensures.begins in
    let n = c.run_round.new.lane in
    let y = c.run_round.new.run in
    let job = c.run_round.ensures.job in
    let step = c.begin_round_at-run.ensures.step in
    let go = c.run_round.ensures.same in
    ran-left x m n o c.args.at run y job.0 _ p begins step go job.1 (record x { journal = record x.journal { events = c.reserve.new.self } }) c.begin_round_at-run.ensures.after refl refl refl refl c.run_round.ensures.took c.in_ok-run_round.field-0 _ _ c.in_ok-run_round.ensures.whole c.in_ok-run_round.ensures.end

pub returns-clause-had : goal.returns-clause-had
returns-clause-had g c =
    let x = c.args.lane.now in
    let d = c.args.owner.now.distributor in
    let m = c.begin_round_at-run.new.lane in
    let run = c.begin_round_at-run.result in
    let begins : Begins x.lane (journal_of x) (journal_of m) d run.key run = rw c.in_ok-reserve.ensures.items at c.begin_round_at-run.ensures.begins in
    let last : m.last ≡ x.last = ap (λ (z : LaneState). z.last) c.begin_round_at-run.ensures.after in
    let had : HadMemory run = record { read = ap (λ (z : RoundRun). z.unread) begins.new.is; applied = ap (λ (z : RoundRun). z.unapplied) begins.new.is } in
    let n = c.run_round.new.lane in
    c.in_ok-run_round.ensures.fine refl had

pub returns-clause-none_is_short : goal.returns-clause-none_is_short
returns-clause-none_is_short g c =
    let x = c.args.lane.now in
    let d = c.args.owner.now.distributor in
    let m = c.begin_round_at-run.new.lane in
    let run = c.begin_round_at-run.result in
    let begins : Begins x.lane (journal_of x) (journal_of m) d run.key run = rw c.in_ok-reserve.ensures.items at c.begin_round_at-run.ensures.begins in
    let last : m.last ≡ x.last = ap (λ (z : LaneState). z.last) c.begin_round_at-run.ensures.after in
    let had : HadMemory run = record { read = ap (λ (z : RoundRun). z.unread) begins.new.is; applied = ap (λ (z : RoundRun). z.unapplied) begins.new.is } in
    let n = c.run_round.new.lane in
    subst (λ (i : ℕ). NoneIsShort i n.last (journal_of n)) last (c.in_ok-run_round.ensures.none_is_short refl had)

pub returns-clause-at_once : goal.returns-clause-at_once
returns-clause-at_once g c =
    let x = c.args.lane.now in
    let d = c.args.owner.now.distributor in
    let m = c.begin_round_at-run.new.lane in
    let run = c.begin_round_at-run.result in
    let begins : Begins x.lane (journal_of x) (journal_of m) d run.key run = rw c.in_ok-reserve.ensures.items at c.begin_round_at-run.ensures.begins in
    let last : m.last ≡ x.last = ap (λ (z : LaneState). z.last) c.begin_round_at-run.ensures.after in
    let had : HadMemory run = record { read = ap (λ (z : RoundRun). z.unread) begins.new.is; applied = ap (λ (z : RoundRun). z.unapplied) begins.new.is } in
    let n = c.run_round.new.lane in
    subst (λ (i : ℕ). EndsAtOnce i n.last (journal_of n)) last (c.run_round.ensures.at_once refl had)

pub returns-in_err-run_round-clause-at_once : goal.returns-in_err-run_round-clause-at_once
returns-in_err-run_round-clause-at_once g c =
    let x = c.args.lane.now in
    let d = c.args.owner.now.distributor in
    let m = c.begin_round_at-run.new.lane in
    let run = c.begin_round_at-run.result in
    let begins : Begins x.lane (journal_of x) (journal_of m) d run.key run = rw c.in_ok-reserve.ensures.items at c.begin_round_at-run.ensures.begins in
    let last : m.last ≡ x.last = ap (λ (z : LaneState). z.last) c.begin_round_at-run.ensures.after in
    let had : HadMemory run = record { read = ap (λ (z : RoundRun). z.unread) begins.new.is; applied = ap (λ (z : RoundRun). z.unapplied) begins.new.is } in
    let n = c.run_round.new.lane in
    subst (λ (i : ℕ). EndsAtOnce i n.last (journal_of n)) last (c.run_round.ensures.at_once refl had)

pub returns-in_err-reserve-clause-at_once : goal.returns-in_err-reserve-clause-at_once
returns-in_err-reserve-clause-at_once g c = once-still c.args.lane.now.last c.args.lane.now.last _ refl
