use Rattle.doc_types.proofs.Runs.{ascii_cut}
use Rattle.doc_types.proofs.cuts.cut.Goals as goal

pub split_at-requires : goal.split_at-requires
split_at-requires c = ascii_cut c.args.text.now c.args.size c.utf8.text c.requires.within c.requires.some c.requires.ascii
