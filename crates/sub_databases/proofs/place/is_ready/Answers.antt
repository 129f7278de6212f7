use Rattle.std.proofs.Common.{◌≡◌, ◌↔◌, ◌∙◌, ℕ, Some}
use Rattle.sub_databases.proofs.RowSteps.{local_some, stands_at}
use Rattle.sub_databases.proofs.place.is_ready.Goals as goal

pub returns : goal.returns
returns c =
    let e = c.args.entry.now in
    let rows = c.args.rows.now.rows in
    let here : (n : ℕ) → (c.local.result ≡ Some n) ↔ stands_at rows n e.id = rw c.entry.ensures at c.local.ensures in
    c.is_some.ensures ∙ local_some e.id rows c.local.result here
