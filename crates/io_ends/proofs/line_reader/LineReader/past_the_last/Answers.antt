use Rattle.std.proofs.Common.{◌≡◌, ◌∙◌, sym, ap, length, arith}
use Rattle.io_ends.proofs.FeedPlaces.{some_bytes, none_bytes}
use Rattle.io_ends.proofs.ReaderLaws.{more_lines, fetched_lines, no_lines}
use Rattle.io_ends.proofs.line_reader.LineReader.past_the_last.Goals as goal

pub returns-then-passed-gt0-clause-told : goal.returns-then-passed-gt0-clause-told
returns-then-passed-gt0-clause-told g c =
    rw (← c.self.view_is) (λ text line s. (more_lines text _ _ s (omega (arith, c.passed.ensures.value)), rw (← c.self.view_is) at c.requires))

pub returns-then-not-is_empty-clause-told : goal.returns-then-not-is_empty-clause-told
returns-then-not-is_empty-clause-told g c =
    let some = some_bytes _ _ c.is_empty.ensures c.if-not-is_empty.true in
    rw (← c.self.view_is) (λ text line s. (more_lines text _ _ s (omega (arith, some, ap length c.ahead.ensures)), rw (← c.self.view_is) at c.requires))

pub returns-then-count-eq0-clause-told : goal.returns-then-count-eq0-clause-told
returns-then-count-eq0-clause-told g c =
    let none = none_bytes _ _ c.is_empty.ensures c.if-not-is_empty.false in
    let passed : c.self.inside.window.passed ≡ 0 = omega (arith, c.passed.ensures.value) in
    rw (← c.self.view_is) (λ text line s. no_lines text _ _ _ _ s (rw c.if-count-eq0.true at c.in-Ok.ensures.ok) passed (sym (ap length c.ahead.ensures) ∙ none))

pub returns-clause-told : goal.returns-clause-told
returns-clause-told g c =
    rw (← c.self.view_is) (λ text line s. (fetched_lines text _ _ _ _ _ s c.in-Ok.ensures.ok (omega arith), rw (← c.self.view_is) at c.requires))
