-- What lines are upkeep, and what lines are barriers.
use Rattle.std.proofs.Common.{◌≡◌, ℕ, ◌&&◌, Bool, true, false, List, [], ◌∷◌, codes, Option, Some, None, option_and_then, Ok, refl, ap, subst}
use Rattle.serde_json.specs.Data.{Data, null, boolean, number, string, array, object}
use Rattle.serde_json.specs.Find.{get, as_bool}
use Rattle.doc_types.specs.SchemaCodes.{Types}
use Rattle.feed_lines.specs.Keys.{all_stand}
use Rattle.feed_lines.specs.Lines.{IsBareLine}
use Rattle.feed_lines.specs.Meaning.{answer_by, command_in, own_said, bare_said, data_said}
use Rattle.feed_lines.specs.Tests.{first_cause, verb_of, members_of, or_false, is_true_in, tests}
use Rattle.feed_lines.specs.declared.command.Cause.TheVariants as cause
use Rattle.feed_lines.specs.declared.command.Command.{Command}
use Rattle.feed_lines.specs.declared.command.Command.TheVariants as command
use Rattle.feed_lines.specs.declared.keys.LineVerb.{LineVerb}
use Rattle.feed_lines.specs.declared.keys.LineVerb.TheVariants as line
use Rattle.feed_lines.proofs.LineTests.{left, said, says}
use Rattle.feed_lines.proofs.SettingLaws.{two_hold, each_of_two, with_true}

bare_by : (asked : Command) (b : Bool) → bare_said asked b ≡ answer_by (first_cause ((b, cause.Value) ∷ [])) asked
bare_by asked true = refl
bare_by asked false = refl

pub maintain_is : (types : Types) (bits : ℕ) (d : Data) → bare_said command.Maintain (is_true_in (codes "maintain") d) ≡ own_said types bits line.Maintain d
maintain_is types bits d = bare_by command.Maintain (is_true_in (codes "maintain") d)

pub barrier_is : (types : Types) (bits : ℕ) (d : Data) → bare_said command.Barrier (is_true_in (codes "barrier") d) ≡ own_said types bits line.Barrier d
barrier_is types bits d = bare_by command.Barrier (is_true_in (codes "barrier") d)

true_back : (o : Option Data) → or_false (option_and_then as_bool o) ≡ true → o ≡ Some (boolean true)
true_back None h = cc
true_back (Some null) h = cc
true_back (Some (boolean true)) h = refl
true_back (Some (boolean false)) h = cc
true_back (Some (number n)) h = cc
true_back (Some (string s)) h = cc
true_back (Some (array ds)) h = cc
true_back (Some (object ms)) h = cc

bare_parts : (v : LineVerb) (key : List ℕ) (d : Data) → verb_of d ≡ Some v → first_cause ((all_stand v (members_of d) && true, cause.Key) ∷ (is_true_in key d, cause.Value) ∷ []) ≡ None → IsBareLine v key d
bare_parts v key d verb holds =
    let each = each_of_two (all_stand v (members_of d) && true) (is_true_in key d) cause.Key cause.Value holds in
    record { has_verb = record { verb = verb; keys = left _ _ each.0 }; value = true_back (get key d) each.1 }

bare_holds : (v : LineVerb) (key : List ℕ) (d : Data) → IsBareLine v key d → first_cause ((all_stand v (members_of d) && true, cause.Key) ∷ (is_true_in key d, cause.Value) ∷ []) ≡ None
bare_holds v key d p =
    two_hold (all_stand v (members_of d) && true) (is_true_in key d) cause.Key cause.Value
    (with_true _ p.has_verb.keys) (ap (λ o. or_false (option_and_then as_bool o)) p.value)

-- what the command says of a line's verb and of its one value
abbrev AsksBare : Command → Data → Type 0
AsksBare command.Maintain d = IsBareLine line.Maintain (codes "maintain") d
AsksBare command.Barrier d = IsBareLine line.Barrier (codes "barrier") d
AsksBare _ d = Unit {0}

by_verb : (types : Types) (bits : ℕ) (v : LineVerb) (d : Data) → verb_of d ≡ Some v → first_cause (tests types bits v d) ≡ None → AsksBare (command_in types bits v d) d
by_verb types bits (line.Feed v) d verb holds = tt
by_verb types bits line.Search d verb holds = tt
by_verb types bits line.State d verb holds = tt
by_verb types bits line.Stop d verb holds = tt
by_verb types bits line.Start d verb holds = tt
by_verb types bits line.Net d verb holds = tt
by_verb types bits line.Maintain d verb holds = bare_parts line.Maintain (codes "maintain") d verb holds
by_verb types bits line.Barrier d verb holds = bare_parts line.Barrier (codes "barrier") d verb holds

asks : (types : Types) (bits : ℕ) (d : Data) (asked : Command) → data_said types bits d ≡ Ok asked → AsksBare asked d
asks types bits d asked h = let s = said types bits d asked h in subst (λ c. AsksBare c d) s.command (by_verb types bits s.v d s.verb s.holds)

pub maintain_means : (types : Types) (bits : ℕ) (d : Data) → data_said types bits d ≡ Ok command.Maintain → IsBareLine line.Maintain (codes "maintain") d
maintain_means types bits d h = asks types bits d command.Maintain h

pub means_maintain : (types : Types) (bits : ℕ) (d : Data) → IsBareLine line.Maintain (codes "maintain") d → data_said types bits d ≡ Ok command.Maintain
means_maintain types bits d p = says types bits line.Maintain d p.has_verb.verb (bare_holds line.Maintain (codes "maintain") d p)

pub barrier_means : (types : Types) (bits : ℕ) (d : Data) → data_said types bits d ≡ Ok command.Barrier → IsBareLine line.Barrier (codes "barrier") d
barrier_means types bits d h = asks types bits d command.Barrier h

pub means_barrier : (types : Types) (bits : ℕ) (d : Data) → IsBareLine line.Barrier (codes "barrier") d → data_said types bits d ≡ Ok command.Barrier
means_barrier types bits d p = says types bits line.Barrier d p.has_verb.verb (bare_holds line.Barrier (codes "barrier") d p)
