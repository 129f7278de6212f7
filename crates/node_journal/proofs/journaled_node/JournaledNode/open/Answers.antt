use Rattle.std.proofs.Common.{◌≤◌, length, false, sym, refl, subst, arith}
use Rattle.doc_types.specs.SchemaCodes.{Types}
use Rattle.node_journal.specs.Journals.{Holds}
use Rattle.node_journal.proofs.Openings.{read_holds}
use Rattle.node_journal.proofs.journaled_node.JournaledNode.open.Goals as goal

pub returns-in-Ok-read_all-clause-opened : goal.returns-in-Ok-read_all-clause-opened
returns-in-Ok-read_all-clause-opened g c =
    let r = c.in-Ok-read_all.ensures.read in
    let size : length (g.D.Disk.state c.args.disk).seen ≤ c.args.max_bytes = omega (arith, c.length-size.ensures, c.if-size-max_bytes.false) in
    let node = c.in-Ok-read_all.replayed.node in
    let end = c.in-Ok-read_all.replayed.end in
    let holds = read_holds g.D.Disk.state c.args.schema.now (g.D.Disk.state c.args.disk).seen c.read_all.new.disk node end c.args.max_bytes size (omega (arith, c.requires.least)) r in
    record {
      under = c.in-Ok.ensures;
      within = refl;
      size = size;
      messages = r.messages;
      told = r.told;
      holds = subst (λ (s : Types). Holds g.D.Disk.state (record { node = node; disk = c.read_all.new.disk; schema = s; max_bytes = c.args.max_bytes; end = end; shut = false }) r.messages) (sym c.in-Ok.ensures) holds;
      took = r.took;
      any_moment = λ settled. c.in-Ok-read_all.ensures.any_moment c.args.max_bytes (omega (arith, c.requires.least)) size settled;
    }
