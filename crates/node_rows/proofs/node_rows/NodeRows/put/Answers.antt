use Rattle.std.proofs.Common.{◌≡◌, true, false, sym, ap, subst, ◌∙◌}
use Rattle.proof_basics.proofs.Results.{on_ok}
use Rattle.global_ids.specs.Keys.{key_of}
use Rattle.field_indexes.specs.Told.{fields_of}
use Rattle.document_rows.specs.Rows.{is_of, has_row, AreDistinct}
use Rattle.document_rows.specs.Reading.{row_at}
use Rattle.node_rows.specs.Kept.{documents_in, IsProper}
use Rattle.node_rows.specs.TypedRows.{TypedRows, with_rows}
use Rattle.node_rows.proofs.KeptLaws.{told_local, told_missing, id_of}
use Rattle.node_rows.proofs.RoomLaws.{if_map, put_as, replace_as}
use Rattle.node_rows.proofs.node_rows.NodeRows.put.Goals as goal

pub enter-requires : goal.enter-requires
enter-requires c =
    let rows = documents_in c.self.inside.rows.items in
    let id = c.entry.result.now.id in
    let told = told_local c.self.inside.schema c.self.inside.ids rows c.self.inside.indexes.types (fields_of c.self.inside.indexes.fields) c.self.invariant id c.local.result c.local.ensures in
    let lacks : has_row id c.args.self.now.rows ≡ false = subst (λ (t : TypedRows). has_row id t.rows ≡ false) c.self.view_is (told_missing id rows c.local.result c.in-None.is told) in
    record {
      own = if_map (λ d. IsProper c.args.self.now.types d × (c.args.key ≡ key_of d.id) × (d.id ≡ c.args.entry.id)) (λ d. IsProper c.args.self.now.types d × (c.args.key ≡ key_of d.id) × (has_row d.id c.args.self.now.rows ≡ false)) c.args.entry.body
          (λ d p. (p.0, p.1, ap (λ x. has_row x c.args.self.now.rows) (p.2 ∙ sym (ap (λ e. e.id) c.entry.ensures)) ∙ lacks)) c.requires.own;
    }

pub returns-in-Some-clause-ok : goal.returns-in-Some-clause-ok
returns-in-Some-clause-ok c =
    let rows = documents_in c.self.inside.rows.items in
    let n = c.in-Some.local in
    let id = c.entry.result.now.id in
    let told = told_local c.self.inside.schema c.self.inside.ids rows c.self.inside.indexes.types (fields_of c.self.inside.indexes.fields) c.self.invariant id c.local.result c.local.ensures in
    let there : is_of id (row_at c.args.self.now.rows n) ≡ true = subst (λ (t : TypedRows). is_of id (row_at t.rows n) ≡ true) c.self.view_is (id_of id (row_at rows n) ((told n).0 c.in-Some.is)) in
    let distinct : AreDistinct c.args.self.now.rows = subst (λ (t : TypedRows). AreDistinct t.rows) c.self.view_is c.self.invariant.distinct in
    let own = if_map (λ d. IsProper c.args.self.now.types d × (c.args.key ≡ key_of d.id) × (d.id ≡ c.args.entry.id)) (λ d. is_of d.id (row_at c.args.self.now.rows n) ≡ true) c.args.entry.body
    (λ d p. ap (λ x. is_of x (row_at c.args.self.now.rows n)) (p.2 ∙ sym (ap (λ e. e.id) c.entry.ensures)) ∙ there) c.requires.own in
    on_ok c.replace.result (λ e. e ∙ ap (λ rs. with_rows rs c.args.self.now) (replace_as c.args.entry.body c.args.self.now.rows n distinct own)) c.replace.ensures.ok

pub returns-in-None-clause-ok : goal.returns-in-None-clause-ok
returns-in-None-clause-ok c =
    let rows = documents_in c.self.inside.rows.items in
    let id = c.entry.result.now.id in
    let told = told_local c.self.inside.schema c.self.inside.ids rows c.self.inside.indexes.types (fields_of c.self.inside.indexes.fields) c.self.invariant id c.local.result c.local.ensures in
    let lacks : has_row id c.args.self.now.rows ≡ false = subst (λ (t : TypedRows). has_row id t.rows ≡ false) c.self.view_is (told_missing id rows c.local.result c.in-None.is told) in
    let own = if_map (λ d. IsProper c.args.self.now.types d × (c.args.key ≡ key_of d.id) × (d.id ≡ c.args.entry.id)) (λ d. has_row d.id c.args.self.now.rows ≡ false) c.args.entry.body
    (λ d p. ap (λ x. has_row x c.args.self.now.rows) (p.2 ∙ sym (ap (λ e. e.id) c.entry.ensures)) ∙ lacks) c.requires.own in
    on_ok c.enter.result (λ e. e ∙ ap (λ rs. with_rows rs c.args.self.now) (put_as c.args.entry.body c.args.self.now.rows own)) c.enter.ensures.ok
