use Rattle.pieces.proofs.Scans.{found_over, missed_over}
use Rattle.pieces.proofs.places.place_over.Goals as goal

pub returns-then-pieces-le16-clause-some : goal.returns-then-pieces-le16-clause-some
returns-then-pieces-le16-clause-some c = found_over c.args.bucket c.args.pieces.now c.scan_over.result c.scan_over.ensures

pub returns-then-pieces-le16-clause-none : goal.returns-then-pieces-le16-clause-none
returns-then-pieces-le16-clause-none c = missed_over c.args.bucket c.args.pieces.now c.scan_over.result c.scan_over.ensures
