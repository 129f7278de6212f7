-- Nodes to which nothing is said as a row is settled.
use Rattle.std.proofs.Common.{◌≡◌, ◌∙◌, ◌&&◌, ◌||◌, not, ◌<◌, ◌≤◌, ◌+◌, ℕ, Bool, true, false, Option, None, Some, is_some, refl, sym, ap, arith, nat_lt, slice_get, if◌then◌else◌}
use Rattle.std.proofs.lemmas.Bool.Decides.{nat_tests}
use mathlib.Core.Bool.{true≢false}
use Rattle.std.specs.BTreeMap.{BTreeMap}
use Rattle.bucket_ids.specs.Buckets.{Low}
use Rattle.messages.specs.declared.body.Body.{Body}
use Rattle.messages.specs.declared.body.Body.TheVariants as body
use Rattle.bucket_db.specs.declared.row.Row.{Row}
use Rattle.cluster_states.specs.Publishing.{serves}
use Rattle.pass_machine.specs.declared.doing.Time.{Time}
use Rattle.pass_machine.specs.declared.doing.Settle.{Settle}
use Rattle.pass_machine.specs.declared.doing.Settle.TheVariants as settle
use Rattle.pass_machine.specs.declared.doing.Doing.TheVariants.{Settling}
use Rattle.pass_machine.specs.declared.doing.Turn.{Turn}
use Rattle.pass_machine.specs.declared.doing.Turn.TheVariants.{Over, Says}
use Rattle.pass_machine.specs.declared.doing.UpkeepStep.TheVariants.{Tell}
use Rattle.pass_machine.specs.declared.notes.RowNote.{RowNote}
use Rattle.pass_machine.specs.Notes.{note_for, whole_in}
use Rattle.pass_machine.specs.Settling.{alignment_in, aligning, aligned, tell_or, readying, serial_among, serial_to_lose, are_enough, deleting, delete_or, next_node, next_row}
use Rattle.pass_machine.specs.Turns.{View, turn_at, settle_turn, by_row, by_note, is_asked, is_target}

is-less : (n : ℕ) → n < 32 → nat_lt n 32 ≡ true
is-less n h = grind (arith, nat_tests)

-- ---- what is said to no node that isn't askew

pub not_askew : (b : Low) (serving holds over inside : Bool) → ((serving && (over || inside)) && not holds) ≡ false
    → (if serving then (if holds then None else (if over then Some (body.Split b) else if inside then Some (body.Join b) else None)) else None) ≡ None
not_askew b false holds over inside e = refl
not_askew b true true over inside e = refl
not_askew b true false true inside e = absurd (true≢false e)
not_askew b true false false true e = absurd (true≢false e)
not_askew b true false false false e = refl

-- ---- nor is anything deleted from a node that isn't spare

pub not_spare : (deleting target enough : Bool) (serial : Option ℕ) → (is_some serial && not target) ≡ false
    → (if deleting then None else (if not target && enough then serial else None)) ≡ None
not_spare true target enough serial e = refl
not_spare false true enough serial e = refl
not_spare false false false serial e = refl
not_spare false false true None e = refl
not_spare false false true (Some serial) e = absurd (true≢false e)

module _ (v : View) (made : BTreeMap ℕ (Unit {0})) (notes : BTreeMap ℕ RowNote) (t : Time) (at : ℕ) (row : Row) (note : RowNote) (has : slice_get v.rows at ≡ Some row) (whole : whole_in (note_for row.bucket notes) ≡ Some note) where
  row-turn : (next : Settle) → turn_at v made notes (Settling t at next) ≡ settle_turn v made t at row note next
  row-turn next = ap (λ (x : Option Row). by_row v made notes t at x next) has ∙ ap (λ (x : Option RowNote). by_note v made t at row x next) whole

  pub aligned_on : (any : Bool) (n : ℕ) → n < 32 → (if serves v.state n then alignment_in row.bucket note n else None) ≡ None
      → turn_at v made notes (Settling t at (settle.Aligning n any)) ≡ Over (Settling t at (settle.Aligning (n + 1) any))
  aligned_on any n few none =
      row-turn (settle.Aligning n any)
      ∙ (ap (λ (x : Bool). if x then tell_or n (if serves v.state n then alignment_in row.bucket note n else None) (Settling t at (settle.Aligning (n + 1) any)) else Over (aligned t at any)) (is-less n few)
      ∙ ap (λ (x : Option Body). tell_or n x (Settling t at (settle.Aligning (n + 1) any))) none)

  pub readied_on : (ready : Bool) (n : ℕ) → n < 32 → is_asked v row n ≡ false
      → turn_at v made notes (Settling t at (settle.Readying n ready)) ≡ Over (Settling t at (settle.Readying (n + 1) ready))
  readied_on ready n few none =
      row-turn (settle.Readying n ready)
      ∙ (ap (λ (x : Bool). if x then (if is_asked v row n then Says (Tell n (body.Ready row.bucket)) else Over (Settling t at (settle.Readying (n + 1) ready))) else Over (Settling t at (settle.Deciding ready))) (is-less n few)
      ∙ ap (λ (x : Bool). if x then Says (Tell n (body.Ready row.bucket)) else Over (Settling t at (settle.Readying (n + 1) ready))) none)

  pub kept_on : (n : ℕ) → n < 32 → (is_some (serial_among (note.exact).items n) && not (is_target v row n)) ≡ false
      → turn_at v made notes (Settling t at (settle.Deleting n)) ≡ Over (Settling t at (settle.Deleting (n + 1)))
  kept_on n few none =
      let lost : serial_to_lose row note (is_target v row n) (v.rules).acks n ≡ None = not_spare (is_some row.deleting) (is_target v row n) (are_enough (v.rules).acks row note n) (serial_among (note.exact).items n) none in
      row-turn (settle.Deleting n)
      ∙ (ap (λ (x : Bool). delete_or at row.bucket n (if x then serial_to_lose row note (is_target v row n) (v.rules).acks n else None) (if x then Settling t at (settle.Deleting (n + 1)) else next_row t at)) (is-less n few)
      ∙ ap (λ (x : Option ℕ). delete_or at row.bucket n x (Settling t at (settle.Deleting (n + 1)))) lost)
