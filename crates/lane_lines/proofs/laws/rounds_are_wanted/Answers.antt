use Rattle.std.proofs.Common.{◌≡◌, ℕ, Some, true, sym, subst}
use Rattle.bucket_ids.specs.Buckets.{Low}
use Rattle.lane_journals.specs.Buckets.{contains}
use Rattle.lane_keeping.specs.LaneKeeping.{part_in}
use Rattle.lane_states.specs.LaneStates.{journal_of, part_of}
use Rattle.lane_lines.proofs.Wanted.{acting-before, begin-wanted, whole-wanted, cut-wanted}
use Rattle.lane_lines.proofs.laws.rounds_are_wanted.Goals as goal

pub returns : goal.returns
returns c =
    let law = c.owners_act.ensures in
    record {
      begun = λ x e d key run keep none begins step line o stamp from w.
          let acting = acting-before x.lane (journal_of x) (journal_of e) d key run begins in
          begin-wanted x.lane x.rules run (journal_of x) (journal_of e) d key (part_of x d) (part_of e d) acting begins (keep.keeps.parts_are d) step
          (λ rows at row opened is_row. (
            law.rows _ _ _ _ _ _ _ keep.keeps run.distributor run.state acting rows key at row
                (subst (λ (n : ℕ). (part_in x.lane x.rules x.parts.items n).rows ≡ Some rows) (sym begins.distributor_is) opened) is_row,
            law.inside rows key at row is_row,
          ))
          none line o stamp from w;
      whole = λ x e run end given now runs by h from above line o stamp w.
          whole-wanted x.lane x.rules run (journal_of x) runs line o stamp w from
          (subst (λ (b : Low). contains b run.key ≡ true) (sym by.row_is) (law.inside by.rows run.key by.at by.row by.is_row))
          end given now x.last above e.last x.late.late e.late.late (journal_of e) h;
      cut = λ x e run given now runs by h from above line o stamp w.
          cut-wanted x.lane x.rules run (journal_of x) runs line o stamp w from
          (subst (λ (b : Low). contains b run.key ≡ true) (sym by.row_is) (law.inside by.rows run.key by.at by.row by.is_row))
          given now x.last above e.last x.late.late e.late.late (journal_of e) h;
    }
