use Rattle.lane_lines.proofs.Ending.{quiet-end, legal-end}
use Rattle.lane_lines.proofs.closing.note_end.Goals as goal

pub note-requires : goal.note-requires
note-requires c = record {
  keeps = c.requires.keeps;
  quiet = quiet-end c.args.outcome c.in_default.not-Acked;
  no_stop = tt;
  legal = legal-end c.args.lane.now c.args.line c.args.distributor c.args.key c.args.answered c.args.outcome c.in_default.not-Acked c.requires.may;
  room = c.requires.room;
}
