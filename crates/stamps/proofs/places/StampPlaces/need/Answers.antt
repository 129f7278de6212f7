use Rattle.std.proofs.Common.{rules, ◌≡◌, length, get_or, None, refl, sym, ap, ◌∙◌}
use Rattle.stamps.specs.Places.{first_of, under}
use Rattle.stamps.proofs.PlaceLaws.{under-push, first-push}
use Rattle.stamps.proofs.places.StampPlaces.need.Goals as goal

pub returns-in_ok-push-clause-at : goal.returns-in_ok-push-clause-at
returns-in_ok-push-clause-at c =
    let xs = c.args.self.now.versions.items in
    let v = c.args.version in
    let first : c.first_of-at.result ≡ first_of v xs = search rules in
    let all : c.first_of-at.result ≡ length xs = search rules in
    all ∙ sym (first-push v xs (record { version = v; places = c.new.result }) refl (sym first ∙ all)) ∙ ap (first_of v) (sym c.in_ok-push.ensures.items)

pub returns-in_ok-push-clause-same : goal.returns-in_ok-push-clause-same
returns-in_ok-push-clause-same c = λ s.
    let xs = c.args.self.now.versions.items in
    ap (λ l. get_or l s.count None) (ap (under s.version) c.in_ok-push.ensures.items ∙ under-push xs (record { version = c.args.version; places = c.new.result }) c.new.ensures.items s.version)
