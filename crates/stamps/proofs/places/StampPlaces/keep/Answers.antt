use Rattle.std.proofs.Common.{◌≡◌, ◌==◌, ◌<◌, ℕ, Some, None, get_or, set, if◌then◌else◌, sym, ap, ◌∙◌, subst, length}
use Rattle.std.proofs.lemmas.Result.{on_ok_weaker, on_err_weaker}
use Rattle.stamps.specs.declared.places.VersionPlaces.{VersionPlaces}
use Rattle.stamps.specs.Places.{first_of, under}
use Rattle.stamps.proofs.PlaceLaws.{version-there, under-there, one-kept, none-kept}
use Rattle.stamps.proofs.places.StampPlaces.keep.Goals as goal

pub returns-clause-ok : goal.returns-clause-ok
returns-clause-ok c =
    let xs = c.need.new.self.versions.items in
    let v = c.args.stamp.version in
    let d : VersionPlaces = c.index_mut.result.now in
    let y : VersionPlaces = record { version = d.version; places = c.put_at.new.places } in
    let at : c.in_ok-at.at ≡ first_of v xs = c.in_ok-at.ensures.at in
    let there : first_of v xs < length xs = subst (λ k. k < length xs) at c.in_ok-at.ensures.there in
    let old : d ≡ get_or xs (first_of v xs) d = c.index_mut.ensures.value ∙ ap (λ k. get_or xs k d) at in
    let is : d.version ≡ v = ap (λ (z : VersionPlaces). z.version) old ∙ version-there v xs d there in
    let was : d.places.items ≡ under v xs = ap (λ (z : VersionPlaces). z.places.items) old ∙ sym (under-there v xs d there) in
    on_ok_weaker c.put_at.result
    (λ (h : (i : ℕ) → get_or c.put_at.new.places.items i None ≡ (if c.args.stamp.count == i then Some c.args.place else get_or d.places.items i None)) s.
    ap (λ k. get_or (under s.version (set xs k y)) s.count None) at
    ∙ one-kept v xs y is there c.args.stamp.count c.args.place (λ i. h i ∙ ap (λ l. if c.args.stamp.count == i then Some c.args.place else get_or l i None) was) s
    ∙ ap (λ o. if v == s.version then (if c.args.stamp.count == s.count then Some c.args.place else o) else o) (c.in_ok-at.ensures.same s))
    c.put_at.ensures.ok

pub returns-clause-err : goal.returns-clause-err
returns-clause-err c =
    let xs = c.need.new.self.versions.items in
    let v = c.args.stamp.version in
    let d : VersionPlaces = c.index_mut.result.now in
    let y : VersionPlaces = record { version = d.version; places = c.put_at.new.places } in
    let at : c.in_ok-at.at ≡ first_of v xs = c.in_ok-at.ensures.at in
    let there : first_of v xs < length xs = subst (λ k. k < length xs) at c.in_ok-at.ensures.there in
    let old : d ≡ get_or xs (first_of v xs) d = c.index_mut.ensures.value ∙ ap (λ k. get_or xs k d) at in
    let is : d.version ≡ v = ap (λ (z : VersionPlaces). z.version) old ∙ version-there v xs d there in
    let was : d.places.items ≡ under v xs = ap (λ (z : VersionPlaces). z.places.items) old ∙ sym (under-there v xs d there) in
    on_err_weaker c.put_at.result
    (λ h s. ap (λ k. get_or (under s.version (set xs k y)) s.count None) at ∙ none-kept v xs y is there (h ∙ was) s ∙ c.in_ok-at.ensures.same s)
    c.put_at.ensures.err
