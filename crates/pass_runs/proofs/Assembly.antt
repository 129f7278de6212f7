-- Wherever the machine stands, a pass stands behind its turn.
use Rattle.std.proofs.Common.{◌≡◌, ℕ, subst}
use Rattle.std.specs.BTreeMap.{BTreeMap}
use Rattle.pass_model.specs.Nodes.{Node}
use Rattle.pass_model.specs.Rows.{Settings}
use Rattle.pass_model.specs.Passes.{World}
use Rattle.pass_machine.specs.declared.doing.Doing.{Doing}
use Rattle.pass_machine.specs.declared.doing.Doing.TheVariants.{ResendingDelete, ResentDelete, ResendingActivate, ResentActivate, Rounding, Joining, JoinTold, JoinRound, Splitting, SplitTold, SplitFirst, SplitSecond, Settling, Finished}
use Rattle.pass_machine.specs.declared.doing.Turn.{Turn}
use Rattle.pass_machine.specs.declared.notes.RowNote.{RowNote}
use Rattle.pass_machine.specs.Turns.{View, turn_at}
use Rattle.pass_machine.specs.Going.{GoesOver, Stays, Goes}
use Rattle.pass_runs.specs.Worlds.{IsUnder}
use Rattle.pass_runs.specs.Standing.{Stands}
use Rattle.pass_runs.proofs.Goings.{GoesOn}
use Rattle.pass_runs.proofs.Resending.{resending_delete_goes, resent_delete_goes, resending_activate_goes, resent_activate_goes}
use Rattle.pass_runs.proofs.Rounding.{rounding_goes}
use Rattle.pass_runs.proofs.Joining.{joining_goes, join_told_goes, join_round_goes}
use Rattle.pass_runs.proofs.Splitting.{splitting_goes, split_told_goes, split_first_goes, split_second_goes}
use Rattle.pass_runs.proofs.Settling.{settling_goes}

module _ (s : Settings) (still : ℕ → Node) (first : World) (v : View) (made : BTreeMap ℕ (Unit {0})) (notes : BTreeMap ℕ RowNote) where
  turn_goes : (d : Doing) (ns : ℕ → Node) → IsUnder s still v ns → Stands s still first v made notes d ns → GoesOn s still first v made notes d ns (turn_at v made notes d)
  turn_goes (ResendingDelete at) ns under x = resending_delete_goes s still first v made notes at ns under x
  turn_goes (ResentDelete at) ns under x = resent_delete_goes s still first v made notes at ns under x
  turn_goes (ResendingActivate at) ns under x = resending_activate_goes s still first v made notes at ns under x
  turn_goes (ResentActivate at taken) ns under x = resent_activate_goes s still first v made notes at taken ns under x
  turn_goes (Rounding at) ns under x = rounding_goes s still first v made notes at ns under x
  turn_goes (Joining t bits at) ns under x = joining_goes s still first v made notes t bits at ns under x
  turn_goes (JoinTold t bits at p n) ns under x = join_told_goes s still first v made notes t bits at p n ns under x
  turn_goes (JoinRound t bits at p) ns under x = join_round_goes s still first v made notes t bits at p ns under x
  turn_goes (Splitting at) ns under x = splitting_goes s still first v made notes at ns under x
  turn_goes (SplitTold at b c n) ns under x = split_told_goes s still first v made notes at b c n ns under x
  turn_goes (SplitFirst at b c) ns under x = split_first_goes s still first v made notes at b c ns under x
  turn_goes (SplitSecond at c) ns under x = split_second_goes s still first v made notes at c ns under x
  turn_goes (Settling t at next) ns under x = settling_goes s still first v made notes t at next ns under x
  turn_goes Finished ns under x = tt

  -- where it is known which turn that is
  pub this_turn_goes : (d : Doing) (t : Turn) (ns : ℕ → Node) → IsUnder s still v ns → turn_at v made notes d ≡ t → Stands s still first v made notes d ns → GoesOn s still first v made notes d ns t
  this_turn_goes d t ns under is x = subst (λ (u : Turn). GoesOn s still first v made notes d ns u) is (turn_goes d ns under x)

  pub goes_over : (d e : Doing) (ns : ℕ → Node) → IsUnder s still v ns → GoesOver v made notes d e → Stands s still first v made notes d ns → Stands s still first v made notes e ns
  goes_over d e ns under (Stays _) x = x
  goes_over d e ns under (Goes _ c _ is rest) x = goes_over c e ns under rest (subst (λ (u : Turn). GoesOn s still first v made notes d ns u) is (turn_goes d ns under x))
