use Rattle.words_line.proofs.plain.plain_options.Goals as goal

pub returns-in_err-copies-clause-usage : goal.returns-in_err-copies-clause-usage
returns-in_err-copies-clause-usage c _ o s = c.in_err-copies.ensures
    (record { redundancy = o.redundancy; acks = o.acks; searchable = o.searchable })
    (record { redundancy = s.redundancy; acks = s.acks; searchable = s.searchable })
