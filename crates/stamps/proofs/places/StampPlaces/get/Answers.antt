use Rattle.std.proofs.Common.{rules, ◌≡◌, ◌≢◌, ◌≤◌, ◌<◌, None, length, get_or, sym, ap, ◌∙◌, arith}
use Rattle.stamps.specs.declared.places.VersionPlaces.{VersionPlaces}
use Rattle.stamps.specs.Places.{first_of}
use Rattle.stamps.proofs.PlaceLaws.{under-none, under-there}
use Rattle.stamps.proofs.places.StampPlaces.get.Goals as goal

pub returns-then-at-len : goal.returns-then-at-len
returns-then-at-len c =
    let xs = c.args.self.now.versions.items in
    let v = c.args.stamp.version in
    let at : c.first_of-at.result ≡ first_of v xs = c.first_of-at.ensures.value ∙ ap (first_of v) c.deref.ensures.value in
    let all : c.first_of-at.result ≡ length xs = search rules in
    sym (ap (λ l. get_or l c.args.stamp.count None) (under-none v xs (sym at ∙ all)))

pub returns : goal.returns
returns c =
    let xs = c.args.self.now.versions.items in
    let v = c.args.stamp.version in
    let d : VersionPlaces = c.index.result.now in
    let at : c.first_of-at.result ≡ first_of v xs = c.first_of-at.ensures.value ∙ ap (first_of v) c.deref.ensures.value in
    let within : c.first_of-at.result ≤ length xs = search rules in
    let other : c.first_of-at.result ≢ length xs = search rules in
    let there : first_of v xs < length xs = omega (arith, within, other, at) in
    c.place_at.ensures
    ∙ ap (λ l. get_or l c.args.stamp.count None)
    (c.deref-2.ensures.value ∙ ap (λ (z : VersionPlaces). z.places.items) (c.index.ensures ∙ ap (λ k. get_or xs k d) at) ∙ sym (under-there v xs d there))
