use Rattle.std.proofs.Common.{◌≡◌, ◌∙◌, ℕ, List, true, refl, sym, ap₂, nat_eq}
use Rattle.std.specs.Cmp.Lexicographic.{pointwise, texts_ties}
use Rattle.std.specs.Ordering.{is_eq}
use Rattle.std.specs.declared.cmp.Ordering.{Ordering}
use Rattle.std.specs.declared.cmp.Ordering.TheVariants.{Less, Equal, Greater}
use Rattle.documents.specs.EntryCodes.{id_cmp}
use Rattle.entry_rows.proofs.slots.id_order.Goals as goal

equal_if : (r : Ordering) → is_eq r ≡ true → Equal ≡ r
equal_if Less e = cc
equal_if Equal e = refl
equal_if Greater e = cc

pub returns-then-eq : goal.returns-then-eq
returns-then-eq c = equal_if (id_cmp c.args.one.now c.args.other.now) (sym (texts_ties c.args.one.now c.args.other.now) ∙ (sym (ap₂ (λ (x y : List ℕ). pointwise nat_eq x y) c.as_bytes.ensures.value c.as_bytes-2.ensures.value) ∙ (sym c.eq.ensures ∙ c.if-eq.true)))
