use Rattle.std.proofs.Common.{◌≡◌, Some, sym, subst, rules}
use mir.Syntax.{w64}
use mir.Val.{SFits}
use Rattle.std.proofs.lemmas.Int.{to_z-of_z}
use Rattle.std.specs.Prelude.{IsSome}
use Rattle.std.specs.Ordering.{int_eq}
use Rattle.indexmap.specs.IndexMap as table
use Rattle.proof_basics.proofs.Results.{on_ok}
use Rattle.std.specs.Option.{option_copied}
use Rattle.group_counts.specs.Keyed.{number_of}
use Rattle.group_counts.specs.Tallies.{HasPlace}
use Rattle.group_counts.proofs.taking.place_value.Goals as goal

pub returns-in-Some-Int-clause-number : goal.returns-in-Some-Int-clause-number
returns-in-Some-Int-clause-number c =
    let number = c.in-Some-Int.number in
    let fits : SFits w64 number = search rules in
    let own : number_of (option_copied c.args.value) ≡ Some number = search rules in
    let new = c.place_number.new.tallies in
    on_ok c.place_number.result (λ h. subst (λ o. HasPlace o (table.get int_eq new)) (sym own) (subst (λ n. IsSome (table.get int_eq new n)) (to_z-of_z w64 number fits) h)) c.place_number.ensures.placed
