use Rattle.std.proofs.Common.{◌≡◌, ℤ, pos, ◌+ℤ◌, ◌-ℤ◌, ◌<◌, ◌++◌, ◌∷◌, [], List, ℕ, cond, map, true, sym, ap, subst, ◌∙◌, rules}
use mir.Val.{to_z, of_z, SFits}
use mir.Syntax.{w64}
use Rattle.std.proofs.lemmas.Int.{to_z-of_z}
use Rattle.std.specs.Int.Signed.{◌≤ℤ◌}
use Rattle.view_changes.specs.Serving.{rows_of}
use Rattle.document_rows.specs.Reading.{places_where, has_number_in, IsWide}
use Rattle.match_views.specs.Bounds.{within}
use Rattle.match_views.specs.Ranges.{AreAll}
use Rattle.match_views.proofs.RangeLaws.{AreSoFar, so_far_next, so_far_all, nearer, past_end, above_zero, next_fits}
use Rattle.match_views.proofs.ranges.numbers_so.Goals.{in-Some+in_ok-push_so+then-own-high, in_default}
use Rattle.match_views.proofs.ranges.numbers_so.Goals as goal

pub overflow_add-from : goal.overflow_add-from
overflow_add-from g c =
    let own = c.in-Some.own in
    let high = c.span-low.result.1 in
    let fits : SFits w64 own = search rules in
    let end : SFits w64 high = search rules in
    let e : to_z w64 (of_z w64 own) ≡ own = to_z-of_z w64 own fits in
    let h : to_z w64 (of_z w64 high) ≡ high = to_z-of_z w64 high end in
    subst (λ n. SFits w64 (n +ℤ pos 1)) (sym e)
    (next_fits own high (subst (λ n. own ≤ℤ n) h c.in-Some.ensures.to) (λ same. c.if-own-high.false (ap (of_z w64) same)) fits end)

pub loop-own-preserved : goal.loop-own-preserved
loop-own-preserved g c =
    let name = c.args.type_name.now in
    let field = c.args.field.now in
    let rows = rows_of c.args.node (g.L.Lists.seen c.args.lists.now) in
    let test = within c.args.one c.args.two in
    let low = to_z w64 (of_z w64 c.span-low.result.0) in
    let own = c.in-Some.own in
    let parts = map {B = ℤ × List ℕ} (λ p. (p.0, p.1.now)) c.loop-own.parts.items in
    let after = map {B = ℤ × List ℕ} (λ p. (p.0, p.1.now)) c.push_so.new.parts.items in
    let fits : SFits w64 own = search rules in
    let e : to_z w64 (of_z w64 own) ≡ own = to_z-of_z w64 own fits in
    let next : SFits w64 (to_z w64 (of_z w64 own) +ℤ pos 1) = search rules in
    let e1 = to_z-of_z w64 (to_z w64 (of_z w64 own) +ℤ pos 1) next in
    let grown : after ≡ cond (test own) (parts ++ (own, c.in-Some.ids.now) ∷ []) parts = subst (λ n. after ≡ cond (test n) (parts ++ (n, c.in-Some.ids.now) ∷ []) parts) e c.in_ok-push_so.ensures in
    subst (λ n. AreSoFar name field rows test low n after) (sym (e1 ∙ ap (λ n. n +ℤ pos 1) e))
    (so_far_next name field rows test low (to_z w64 c.loop-own.from-bits) own parts c.in-Some.ids.now after c.loop-own.invariant c.in-Some.ensures.from c.in-Some.ensures.least c.in-Some.ensures.ids grown)

pub loop-own-smaller : goal.loop-own-smaller
loop-own-smaller g c =
    let own = c.in-Some.own in
    let high = c.span-low.result.1 in
    let fits : SFits w64 own = search rules in
    let e : to_z w64 (of_z w64 own) ≡ own = to_z-of_z w64 own fits in
    let next : SFits w64 (to_z w64 (of_z w64 own) +ℤ pos 1) = search rules in
    let e1 = to_z-of_z w64 (to_z w64 (of_z w64 own) +ℤ pos 1) next in
    let end : SFits w64 high = search rules in
    let h : to_z w64 (of_z w64 high) ≡ high = to_z-of_z w64 high end in
    subst (λ n. above_zero (n -ℤ to_z w64 (of_z w64 (to_z w64 (of_z w64 own) +ℤ pos 1))) < above_zero (n -ℤ to_z w64 c.loop-own.from-bits)) (sym h)
    (subst (λ n. above_zero (high -ℤ n) < above_zero (high -ℤ to_z w64 c.loop-own.from-bits)) (sym (e1 ∙ ap (λ n. n +ℤ pos 1) e))
    (nearer high (to_z w64 c.loop-own.from-bits) own c.in-Some.ensures.from (subst (λ n. own ≤ℤ n) h c.in-Some.ensures.to) (λ same. c.if-own-high.false (ap (of_z w64) same))))

pub returns : goal.returns
returns g c =
    let name = c.args.type_name.now in
    let field = c.args.field.now in
    let rows = rows_of c.args.node (g.L.Lists.seen c.args.lists.now) in
    let test = within c.args.one c.args.two in
    let low = c.span-low.result.0 in
    let high = c.span-low.result.1 in
    let from = to_z w64 c.loop-own.from-bits in
    let start : SFits w64 low = search rules in
    let end : SFits w64 high = search rules in
    let l : to_z w64 (of_z w64 low) ≡ low = to_z-of_z w64 low start in
    let h : to_z w64 (of_z w64 high) ≡ high = to_z-of_z w64 high end in
    let parts = map {B = ℤ × List ℕ} (λ p. (p.0, p.1.now)) c.loop-own.parts.items in
    let bounds : (q : ℤ) → IsWide q → test q ≡ true → (low ≤ℤ q) × (q ≤ℤ high) = c.span-low.ensures in
    let so_far : AreSoFar name field rows test low from parts =
    subst (λ n. AreSoFar name field rows test n from parts) l c.loop-own.invariant in
    elim c.match-next_value.branch [
      | in-Some+in_ok-push_so+then-own-high w ↦
          (let own = w.in-Some.own in
          let fits : SFits w64 own = search rules in
          let e : to_z w64 (of_z w64 own) ≡ own = to_z-of_z w64 own fits in
          let after = map {B = ℤ × List ℕ} (λ p. (p.0, p.1.now)) w.push_so.new.parts.items in
          let same : own ≡ high = sym e ∙ ap (to_z w64) w.if-own-high.true ∙ h in
          let grown : after ≡ cond (test own) (parts ++ (own, w.in-Some.ids.now) ∷ []) parts =
          subst (λ n. after ≡ cond (test n) (parts ++ (n, w.in-Some.ids.now) ∷ []) parts) e w.in_ok-push_so.ensures in
          subst (λ v. AreAll name field rows test (map {B = ℤ × List ℕ} (λ p. (p.0, p.1.now)) v.items)) (sym w.parts-is)
          (so_far_all name field rows test low (own +ℤ pos 1) high after
          (so_far_next name field rows test low from own parts w.in-Some.ids.now after so_far w.in-Some.ensures.from w.in-Some.ensures.least w.in-Some.ensures.ids grown)
          bounds w.in-Some.ensures.wide (λ q a b. past_end q own high same a b)))
      | in_default w ↦
          subst (λ v. AreAll name field rows test (map {B = ℤ × List ℕ} (λ p. (p.0, p.1.now)) v.items)) (sym w.parts-is)
          (so_far_all name field rows test low from high parts so_far bounds w.in_default.ensures.wide (subst (λ n. (q : ℤ) → from ≤ℤ q → q ≤ℤ n → places_where (has_number_in name field q) rows ≡ []) h w.in_default.ensures.none))
    ]
