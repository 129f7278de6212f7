use Rattle.std.proofs.Common.{◌≡◌, arith}
use Rattle.std.specs.List.{prefix_len}
use Rattle.doc_types.specs.Tokens.{is_name}
use Rattle.doc_types.proofs.Runs.{run_ascii, name_ascii, some_name}
use Rattle.doc_types.proofs.tokens.read_word.Goals as goal

pub cut-requires-clause-some : goal.cut-requires-clause-some
cut-requires-clause-some c =
    let run : c.name_run.result ≡ prefix_len is_name c.args.text.now = rw c.as_bytes.ensures.value at c.name_run.ensures.run in
    omega (arith, run, some_name c.args.text.now c.requires.some c.requires.letter)

pub cut-requires-clause-ascii : goal.cut-requires-clause-ascii
cut-requires-clause-ascii c =
    let run : c.name_run.result ≡ prefix_len is_name c.args.text.now = rw c.as_bytes.ensures.value at c.name_run.ensures.run in
    rw run (run_ascii is_name c.args.text.now name_ascii (some_name c.args.text.now c.requires.some c.requires.letter))
