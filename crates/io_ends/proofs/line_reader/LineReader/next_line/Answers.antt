use Rattle.std.proofs.Common.{arith}
use Rattle.io_ends.proofs.ReaderLaws.{stands_kept, feed_told, feed_stands, feed_near, input_told, input_stands, input_near, input_ends, past_told}
use Rattle.io_ends.proofs.line_reader.LineReader.next_line.Goals as goal

pub returns-in-Feed-clause-told : goal.returns-in-Feed-clause-told
returns-in-Feed-clause-told g c = rw (← c.self.view_is) (λ text s.
    feed_told text _ c.find_end.new.window _ _ (stands_kept text _ _ _ _ c.in-Feed.ensures.kept s) c.in-Feed.ensures.found (rw (← c.self.view_is) at c.requires) _ _ _ c.give.ensures.gives)

pub returns-in-Feed-clause-stands : goal.returns-in-Feed-clause-stands
returns-in-Feed-clause-stands g c = rw (← c.self.view_is) (λ text s.
    feed_stands text (record { ahead = c.self.inside.window.ahead; passed = c.self.inside.window.passed; lines = c.self.inside.lines; given = c.self.inside.given; max_lines = c.self.inside.max_lines; max_bytes = c.self.inside.max_bytes }) c.find_end.new.window _ _ (stands_kept text _ _ _ _ c.in-Feed.ensures.kept s) c.in-Feed.ensures.found _ _ _ c.give.ensures.gives)

pub returns-in-Input-clause-told : goal.returns-in-Input-clause-told
returns-in-Input-clause-told g c = rw (← c.self.view_is) (λ text s.
    input_told text _ c.find_end.new.window _ (stands_kept text _ _ _ _ c.in-Input.ensures.kept s) c.in-Input.ensures.found.0 c.in-Input.ensures.found.1 (rw (← c.self.view_is) at c.requires) _ _ _ c.give_last.ensures.gives)

pub returns-in-Input-clause-stands : goal.returns-in-Input-clause-stands
returns-in-Input-clause-stands g c = rw (← c.self.view_is) (λ text s.
    input_stands text (record { ahead = c.self.inside.window.ahead; passed = c.self.inside.window.passed; lines = c.self.inside.lines; given = c.self.inside.given; max_lines = c.self.inside.max_lines; max_bytes = c.self.inside.max_bytes }) c.find_end.new.window _ (stands_kept text _ _ _ _ c.in-Input.ensures.kept s) c.in-Input.ensures.found.0 c.in-Input.ensures.found.1 _ _ _ c.give_last.ensures.gives)

pub returns-in-Past-clause-told : goal.returns-in-Past-clause-told
returns-in-Past-clause-told g c = rw (← c.self.view_is) (λ text s.
    past_told text (record { ahead = c.self.inside.window.ahead; passed = c.self.inside.window.passed; lines = c.self.inside.lines; given = c.self.inside.given; max_lines = c.self.inside.max_lines; max_bytes = c.self.inside.max_bytes }) c.find_end.new.window _ _ (stands_kept text _ _ _ _ c.in-Past.ensures.kept s) c.in-Past.ensures.found.0 c.in-Past.ensures.found.1 (omega arith) (rw (← c.self.view_is) at c.requires))

pub returns-in-Past-clause-stands : goal.returns-in-Past-clause-stands
returns-in-Past-clause-stands g c = rw (← c.self.view_is) (λ text s. stands_kept text _ _ _ _ c.in-Past.ensures.kept s)

pub returns-in-Fault-clause-stands : goal.returns-in-Fault-clause-stands
returns-in-Fault-clause-stands g c = rw (← c.self.view_is) (λ text s. stands_kept text _ _ _ _ c.in-Fault.ensures.kept s)

pub returns-in-Memory-clause-stands : goal.returns-in-Memory-clause-stands
returns-in-Memory-clause-stands g c = rw (← c.self.view_is) (λ text s. stands_kept text _ _ _ _ c.in-Memory.ensures.kept s)

pub returns-in-Feed-clause-last : goal.returns-in-Feed-clause-last
returns-in-Feed-clause-last g c = rw (← c.self.view_is) (λ near.
    feed_near (record { ahead = c.self.inside.window.ahead; passed = c.self.inside.window.passed; lines = c.self.inside.lines; given = c.self.inside.given; max_lines = c.self.inside.max_lines; max_bytes = c.self.inside.max_bytes }) c.find_end.new.window _ _ c.in-Feed.ensures.found (c.in-Feed.ensures.last near) _ _ _ c.give.ensures.gives)

pub returns-in-Input-clause-last : goal.returns-in-Input-clause-last
returns-in-Input-clause-last g c = rw (← c.self.view_is) (λ near.
    input_near (record { ahead = c.self.inside.window.ahead; passed = c.self.inside.window.passed; lines = c.self.inside.lines; given = c.self.inside.given; max_lines = c.self.inside.max_lines; max_bytes = c.self.inside.max_bytes }) c.find_end.new.window _ (c.in-Input.ensures.last near) _ _ _ c.give_last.ensures.gives)

pub returns-in-Input-clause-ends : goal.returns-in-Input-clause-ends
returns-in-Input-clause-ends g c = rw (← c.self.view_is) (λ text s near.
    input_ends text (record { ahead = c.self.inside.window.ahead; passed = c.self.inside.window.passed; lines = c.self.inside.lines; given = c.self.inside.given; max_lines = c.self.inside.max_lines; max_bytes = c.self.inside.max_bytes }) c.find_end.new.window _ _ (stands_kept text _ _ _ _ c.in-Input.ensures.kept s) c.in-Input.ensures.found.0 c.in-Input.ensures.found.1 _ _ _ c.give_last.ensures.gives)
