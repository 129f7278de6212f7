use Rattle.std.proofs.Common.{rules, ◌∙◌, ap}
use Rattle.std.specs.FinMap as fin
use Rattle.entry_maps.specs.Entries.{with_entry}
use Rattle.sub_databases.proofs.PartLaws.{undone}
use Rattle.sub_databases.proofs.taking.take_first.Goals as goal

pub returns-in_default : goal.returns-in_default
returns-in_default c =
    let m = c.args.entries.now in
    let e = c.args.entry.now in (
      c.remove_at.ensures
          ∙ ap (λ x. fin.remove c.put_at.new.self x.id) c.entry.ensures
          ∙ ap (λ n. fin.remove n e.id) (c.in_ok-put_at.ensures.ok ∙ ap (with_entry m) c.in_ok-copy.ensures)
          ∙ undone m e c.requires.none,
      search rules,
    )
