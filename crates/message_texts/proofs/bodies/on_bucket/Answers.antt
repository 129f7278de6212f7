use Rattle.message_texts.proofs.bodies.on_bucket.Goals as goal

pub returns-then-eq-clause-fits : goal.returns-then-eq-clause-fits
returns-then-eq-clause-fits c is = c.read_in.ensures.fits c.args.schema.now is
