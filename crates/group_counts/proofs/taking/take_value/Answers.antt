use Rattle.std.proofs.Common.{◌≡◌, ℤ, ℕ, List, Some, cond, bytes_eq, sym, ap, subst, ◌∙◌, rules, to_z, of_z}
use Rattle.std.specs.Option.{option_copied}
use mir.Syntax.{w64}
use mir.Val.{SFits}
use Rattle.std.proofs.lemmas.Int.{to_z-of_z}
use Rattle.std.specs.Prelude.{IsSome}
use Rattle.std.specs.Ordering.{int_cmp, nat_cmp, int_eq}
use Rattle.std.specs.Cmp.Lexicographic.{slice_cmp}
use Rattle.indexmap.specs.IndexMap as table
use Rattle.indexmap.specs.IndexMap.{get_by_text}
use Rattle.group_counts.specs.Figures.{AreFigures}
use Rattle.group_counts.specs.Keyed.{number_of, text_of, number_in, text_in}
use Rattle.group_counts.specs.Tallies.{tally_with, HasPlace}
use Rattle.group_counts.proofs.TallyLaws.{taken-key}
use Rattle.group_counts.proofs.KeyLaws.{same-number, number-test, same-text, text-test}
use Rattle.group_counts.proofs.taking.take_value.Goals as goal

pub take_number-requires-clause-placed : goal.take_number-requires-clause-placed
take_number-requires-clause-placed c =
    let number = c.in-Some-Int.number in
    let fits : SFits w64 number = search rules in
    let own : number_of (option_copied c.args.value) ≡ Some number = search rules in
    let old = c.args.numbers.now in
    subst (λ n. IsSome (table.get int_eq old n)) (sym (to_z-of_z w64 number fits)) (subst (λ o. HasPlace o (table.get int_eq old)) own c.requires.number)

pub returns-in-Some-Int-clause-numbers : goal.returns-in-Some-Int-clause-numbers
returns-in-Some-Int-clause-numbers c = λ d f is.
    let by = c.args.by.now in
    let number = c.in-Some-Int.number in
    let fits : SFits w64 number = search rules in
    let own : number_in by.field d ≡ Some number = ap number_of is ∙ (let e : number_of (option_copied c.args.value) ≡ Some number = search rules in e) in
    let old = c.args.numbers.now in
    let new = c.take_number.new.tallies in
    taken-key int_cmp by.outputs (number_in by.field) same-number d number (int_eq number) 9223372036854775807 (table.get int_eq old) (table.get int_eq new) own (number-test number) c.requires.numbers
    (subst (λ n. (z : ℤ) → table.get int_eq new z ≡ cond (int_eq n z) (Some (tally_with by.outputs d (table.get int_eq old n))) (table.get int_eq old z)) (to_z-of_z w64 number fits)
    (subst (λ ks. (z : ℤ) → table.get int_eq new z ≡ cond (int_eq (to_z w64 (of_z w64 number)) z) (Some (tally_with ks d (table.get int_eq old (to_z w64 (of_z w64 number))))) (table.get int_eq old z)) c.items.ensures (c.take_number.ensures d (subst (λ ks. AreFigures ks d c.args.slots.now) (sym c.items.ensures) f))))

pub returns-in-Some-Text-clause-texts : goal.returns-in-Some-Text-clause-texts
returns-in-Some-Text-clause-texts c = λ d f is.
    let by = c.args.by.now in
    let text = c.text.result.now in
    let own : text_in by.field d ≡ Some text = ap text_of is ∙ (let e : text_of (option_copied c.args.value) ≡ Some text = search rules in e) in
    let old = c.args.texts.now in
    let new = c.take_text.new.tallies in
    taken-key (slice_cmp nat_cmp) by.outputs (text_in by.field) same-text d text (bytes_eq text) 9223372036854775807 (get_by_text old) (get_by_text new) own (text-test text) c.requires.texts
    (subst (λ ks. (t : List ℕ) → get_by_text new t ≡ cond (bytes_eq text t) (Some (tally_with ks d (get_by_text old text))) (get_by_text old t)) c.items-in-Some-Text.ensures (c.take_text.ensures d (subst (λ ks. AreFigures ks d c.args.slots.now) (sym c.items-in-Some-Text.ensures) f)))
