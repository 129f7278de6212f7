use Rattle.std.proofs.Common.{◌≡◌, arith}
use Rattle.std.specs.List.{prefix_len}
use Rattle.doc_types.specs.Tokens.{is_blank}
use Rattle.doc_types.proofs.Runs.{run_ascii, blank_ascii}
use Rattle.doc_types.proofs.tokens.skip_blanks.Goals as goal

pub cut-requires-clause-ascii : goal.cut-requires-clause-ascii
cut-requires-clause-ascii c =
    let run : c.blank_run-blanks.result ≡ prefix_len is_blank c.args.text.now = rw c.as_bytes.ensures.value at c.blank_run-blanks.ensures.run in
    rw run (run_ascii is_blank c.args.text.now blank_ascii (omega (arith, run)))
