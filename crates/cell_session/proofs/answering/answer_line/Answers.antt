use Rattle.std.proofs.Common.{Result, Ok, Err, Option, None, Some, List, ℕ, inr, refl, ap, sym, subst, ◌∙◌, IfErr}
use Rattle.std.specs.Io.KnownBytes.{Keeps}
use Rattle.std.specs.Result.{IsErrAnd}
use Rattle.io_ends.specs.Causes.{AppendsFront}
use Rattle.session_cluster.specs.Output.{bytes_of}
use Rattle.cell_session.specs.Answering.{StopsAs}
use Rattle.cell_session.proofs.answering.answer_line.Goals as goal

if_err : {A E : Type 0} (r : Result A E) (P Q : E → Type 0) → IsErrAnd r P → ((e : E) → P e → Q e) → IfErr r Q
if_err (Ok x) P Q h step = tt
if_err (Err e) P Q h step = step e h

pub returns-in_err-write_all-clause-stopped : goal.returns-in_err-write_all-clause-stopped
returns-in_err-write_all-clause-stopped g c =
    if_err c.from_residual-in_err-write_all.result _ _ c.from_residual-in_err-write_all.ensures.1 (λ why is.
    subst (λ w. StopsAs w c.args.setting.now c.args.line c.args.command c.args.session.now.cell c.deal.new.self.cell (g.K.Sink.written c.args.sink.now) (g.K.Sink.written c.write_all.new.sink)) (sym is) (
      c.in_ok-answer.ensures.ok.0,
      subst (AppendsFront (g.K.Sink.written c.args.sink.now) (g.K.Sink.written c.write_all.new.sink)) (c.deref.ensures.value ∙ c.in_ok-bytes.ensures ∙ ap (bytes_of c.args.line) c.in_ok-answer.ensures.ok.1) c.in_err-write_all.ensures.err,
    ))

keeps : (a : Option (List ℕ)) → Keeps a a
keeps None = tt
keeps (Some x) = refl

pub returns-in_err-bytes-clause-stopped : goal.returns-in_err-bytes-clause-stopped
returns-in_err-bytes-clause-stopped g c =
    let dealt = c.in_ok-answer.ensures.ok.0 in
    if_err c.from_residual-in_err-bytes.result _ _ c.from_residual-in_err-bytes.ensures.1 (λ why is.
    subst (λ w. StopsAs w c.args.setting.now c.args.line c.args.command c.args.session.now.cell c.deal.new.self.cell (g.K.Sink.written c.args.sink.now) (g.K.Sink.written c.args.sink.now)) (sym is)
    (inr dealt.0, keeps (g.K.Sink.written c.args.sink.now)))
