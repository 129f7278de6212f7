use Rattle.std.proofs.Common.{◌≡◌, true, sym, subst, rules}
use mir.Val.{SFits}
use mir.Syntax.{w64}
use Rattle.std.proofs.lemmas.Int.{to_z-of_z}
use Rattle.std.specs.Int.Signed.{◌≤ℤ◌}
use Rattle.query_text.specs.Truth.{relates}
use Rattle.proof_basics.proofs.Tests.{both}
use Rattle.match_views.proofs.ranges.span.Goals as goal

pub returns : goal.returns
returns c = λ q w e.
    let one = c.args.one in
    let two = c.args.two in
    let first = c.bounds-first.result in
    let second = c.bounds-second.result in
    let fits_one : SFits w64 one.number = search rules in
    let fits_two : SFits w64 two.number = search rules in
    let fits_a : SFits w64 first.0 = search rules in
    let fits_b : SFits w64 second.0 = search rules in
    let fits_c : SFits w64 first.1 = search rules in
    let fits_d : SFits w64 second.1 = search rules in
    let fits_low : SFits w64 c.greater.result = search rules in
    let fits_high : SFits w64 c.lesser.result = search rules in
    let t = both (relates one.rel one.number q) (relates two.rel two.number q) e in
    let a = c.bounds-first.ensures q w (subst (λ n. relates one.rel n q ≡ true) (sym (to_z-of_z w64 one.number fits_one)) t.0) in
    let b = c.bounds-second.ensures q w (subst (λ n. relates two.rel n q ≡ true) (sym (to_z-of_z w64 two.number fits_two)) t.1) in (
      subst (λ n. n ≤ℤ q) (sym (to_z-of_z w64 c.greater.result fits_low)) (c.greater.ensures q (subst (λ n. n ≤ℤ q) (sym (to_z-of_z w64 first.0 fits_a)) a.0) (subst (λ n. n ≤ℤ q) (sym (to_z-of_z w64 second.0 fits_b)) b.0)),
      subst (λ n. q ≤ℤ n) (sym (to_z-of_z w64 c.lesser.result fits_high)) (c.lesser.ensures q (subst (λ n. q ≤ℤ n) (sym (to_z-of_z w64 first.1 fits_c)) a.1) (subst (λ n. q ≤ℤ n) (sym (to_z-of_z w64 second.1 fits_d)) b.1)),
    )
