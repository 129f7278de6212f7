use Rattle.std.proofs.Common.{sym, ◌∙◌}
use Rattle.message_texts.proofs.FitLaws.{fits_document}
use Rattle.message_texts.proofs.entries.if_fits.Goals as goal

pub returns-then-document_fits-clause-fits : goal.returns-then-document_fits-clause-fits
returns-then-document_fits-clause-fits c = fits_document c.args.schema.now c.args.document (sym c.document_fits.ensures ∙ c.if-document_fits.true)
