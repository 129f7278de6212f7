use Rattle.std.proofs.Common.{◌==◌, ◌∙◌, not, get_or, sym, rules, eqb-true, vec_len}
use Rattle.std.specs.List.{filter}
use Rattle.std.proofs.lemmas.Fn.{filter_same}
use Rattle.std.proofs.lemmas.List.{nil_from_length}
use Rattle.std.proofs.lemmas.List.Elements.{filter_passes}
use Rattle.entry_rows.proofs.ChunkLists.{drop_empty, failed, some_in}
use Rattle.entry_rows.proofs.chunks.Chunks.drop_empty.Goals as goal

pub returns-clause-slots : goal.returns-clause-slots
returns-clause-slots c =
    rw (filter_same _ (λ r. not (vec_len r == 0)) _ (λ x b q k. search rules) _ _ c.retain.ensures.filtered)
    (drop_empty (λ r. r.items) (λ r. not (vec_len r == 0)) (λ r e. nil_from_length r.items (sym r.ok.0 ∙ eqb-true (vec_len r) 0 (failed _ e))) c.args.self.now.rows.items)

pub returns-clause-some : goal.returns-clause-some
returns-clause-some c =
    rw (filter_same _ (λ r. not (vec_len r == 0)) _ (λ x b q k. search rules) _ _ c.retain.ensures.filtered)
    (λ k d lt.
    let row = get_or (filter (λ r. not (vec_len r == 0)) c.args.self.now.rows.items) k d in
    some_in (vec_len row) (filter_passes (λ r. not (vec_len r == 0)) c.args.self.now.rows.items k d lt) _ row.ok.0)
