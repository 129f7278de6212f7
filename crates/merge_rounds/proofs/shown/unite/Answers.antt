use Rattle.std.proofs.Common.{sym, ap, ◌∙◌, arith}
use Rattle.merge_rounds.specs.Rounds.{union_with}
use Rattle.merge_rounds.proofs.Unions.{joined_onto_none}
use Rattle.merge_rounds.proofs.shown.unite.Goals as goal

pub returns-in-Some-clause-union : goal.returns-in-Some-clause-union
returns-in-Some-clause-union c =
    sym (joined_onto_none c.args.union.now c.in-Some.entries (omega (arith, c.entries.ensures, c.if-entries-eq0.true)))
    ∙ ap (union_with c.args.union.now) c.in-Some.ensures.value
