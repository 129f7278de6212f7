-- By cases, where the machine stands after a turn.
use Rattle.std.proofs.Common.{◌≡◌, Bool, true, false, cond, Option, Some, None, refl, sym, subst}
use Rattle.pass_model.specs.Rows.{Row}
use Rattle.pass_model.specs.Turns.{Stand, by_row}

module _ (P : Stand → Type 0) where
  pub in-row : (o : Option Row) (x : Stand) (f : Row → Stand) (r : Row) → o ≡ Some r → P (f r) → P (by_row o x f)
  in-row o x f r e h = subst (λ (p : Option Row). P (by_row p x f)) (sym e) h

  pub by-row : (o : Option Row) (x : Stand) (f : Row → Stand) → (o ≡ None → P x) → ((r : Row) → o ≡ Some r → P (f r)) → P (by_row o x f)
  by-row None x f none some = none refl
  by-row (Some r) x f none some = some r refl

  pub either-row : (o : Option Row) (x : Stand) (f : Row → Stand) → P x → ((r : Row) → P (f r)) → P (by_row o x f)
  either-row None x f none some = none
  either-row (Some r) x f none some = some r

  pub by-test : (t : Bool) (x y : Stand) → (t ≡ true → P x) → (t ≡ false → P y) → P (cond t x y)
  by-test true x y f g = f refl
  by-test false x y f g = g refl

  pub either-test : (t : Bool) (x y : Stand) → P x → P y → P (cond t x y)
  either-test true x y f g = f
  either-test false x y f g = g
