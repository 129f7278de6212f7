-- Which deeds the parts of a session are in each lane.
use Rattle.std.specs.Prelude.{◌==◌, ℕ, suc, ◌+◌, List, [], ◌∷◌, Option, length, if◌then◌else◌}
use Rattle.cluster_states.specs.Publishing.{Told}
use Rattle.messages.specs.declared.operation.Operation.{Operation}
use Rattle.lane_calls.specs.Lines.{Lines}
use Rattle.lane_lives.specs.declared.setting.Setting.{Setting}
use Rattle.lane_lives.specs.Lives.{Deed, Feeds}
use Rattle.session_cluster.specs.Deeds.{first_told, told_by, with_line}
use Rattle.session_cluster.specs.Lanes.{lane_of_id}
use Rattle.session_cluster.specs.declared.cluster.LineSpans.{LineSpans}
use Rattle.session_cluster.specs.declared.asked.Asked.{Asked}
use Rattle.session_cluster.specs.declared.asked.Asked.TheVariants as command
use Rattle.session_segments.specs.Parts.{Part, Alone, Together, asked_of}

-- ---- the lines of a segment in a lane

-- with this line in front, if it asks for an operation there
abbrev pub with_feed : Setting → ℕ → ℕ → Operation → Option ℕ → Lines → Lines
with_feed s lane line op via lines = if lane_of_id s.bits op.id == lane then record { number = line; operation = op; via = via } ∷ lines else lines

abbrev pub with_fed : Setting → ℕ → ℕ → Asked → Lines → Lines
with_fed s lane line command.Blank lines = lines
with_fed s lane line command.TooLong lines = lines
with_fed s lane line command.Barrier lines = lines
with_fed s lane line (command.Bad why) lines = lines
with_fed s lane line (command.Feed op via) lines = with_feed s lane line op via lines
with_fed s lane line (command.State state deaf) lines = lines
with_fed s lane line (command.BadState offset) lines = lines
with_fed s lane line (command.Stop node) lines = lines
with_fed s lane line (command.Start node) lines = lines
with_fed s lane line (command.Net at fates) lines = lines
with_fed s lane line command.Maintain lines = lines
with_fed s lane line (command.Search query) lines = lines
with_fed s lane line (command.BadQuery offset) lines = lines

-- those of the lane among these, the newest first, in front of others; the first of them all has this number
abbrev pub fed_lines : Setting → ℕ → ℕ → List Asked → Lines → Lines
fed_lines s lane line [] lines = lines
fed_lines s lane line (c ∷ cs) lines = fed_lines s lane (suc line) cs (with_fed s lane line c lines)

-- ---- deeds

-- with this part in front, whose first line has this number, and before which these states are told
abbrev pub with_part : Setting → List LineSpans → ℕ → ℕ → Told → ℕ → Part → List Deed → List Deed
with_part s us feeders lane told line (Alone c) deeds = with_line s us lane told line c deeds
with_part s us feeders lane told line (Together cs left) deeds = Feeds feeders (fed_lines s lane line cs []) (left lane) ∷ deeds

-- with these parts, the oldest first
abbrev pub with_parts : Setting → List LineSpans → ℕ → ℕ → Told → ℕ → List Part → List Deed → List Deed
with_parts s us feeders lane told line [] deeds = deeds
with_parts s us feeders lane told line (p ∷ ps) deeds =
    with_parts s us feeders lane (told_by told (asked_of p)) (line + length (asked_of p)) ps (with_part s us feeders lane told line p deeds)

-- those of a session's parts in a lane, where feeders, so many of them, ran each segment at once
abbrev pub fed_deeds : Setting → List LineSpans → ℕ → ℕ → List Part → List Deed
fed_deeds s us feeders lane ps = with_parts s us feeders lane (first_told s) 1 ps []
