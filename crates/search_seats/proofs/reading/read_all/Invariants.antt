use Rattle.std.proofs.Common.{◌≡◌, take, length}
use Rattle.search_seats.specs.Searches.{KeepSeats, ReadSoFar}
use Rattle.search_seats.proofs.reading.read_all.Given as goal

-- the seats of the lanes so far were read
abbrev pub invariant-loop-lane : goal.invariant-loop-lane
invariant-loop-lane l = KeepSeats l.initial.seats.items l.seats.items × (length l.seats.items ≡ length l.initial.seats.items)
    × ReadSoFar l.query l.version (take l.lane l.seats.items) l.fronts.items l.sum
