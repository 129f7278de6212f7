-- A list of lines, and one more.
use Rattle.std.proofs.Common.{◌≡◌, ◌≢◌, ◌<◌, ◌≤◌, ◌+◌, ◌/◌, ◌%◌, ◌^◌, ℕ, List, [], ◌∷◌, ◌++◌, length, Option, None, Some, inl, inr, refl, sym, ap, ◌∙◌, subst, slice_get, slice_set, arith}
use Rattle.proof_basics.proofs.Options.{none_some}
use Rattle.global_ids.specs.Keys as keys
use Rattle.lane_keeping.proofs.Words.{key-is}
use Rattle.lane_core.proofs.Places.{get-map, get-within, get-old, get-new, get-push-cases, push-length, get-set-cases, set-length}
use Rattle.lane_locks.specs.declared.lines.Line.{Line}
use Rattle.lane_locks.specs.declared.lines.Stage.{Stage}
use Rattle.lane_locks.specs.declared.lines.Stage.TheVariants.{Waiting}
use Rattle.lane_locks.specs.Lines.{line_of, lines_of, feeder_at, NoneOf, IsLast, IsWhole, AreLines, AreWaiting, AreLast, AreEmpty, IsAbove}

-- ---- nothing

pub none-lines : (feeders : ℕ) → 0 < feeders → AreLines feeders []
none-lines feeders some = record {
  some_feeder = some;
  rising = λ a b l m at_a at_b less. absurd (none_some l at_a);
  whole = λ at l found. absurd (none_some l found);
  before = λ at l found. absurd (none_some l found);
}

pub none-waiting : AreWaiting [] []
none-waiting = record { many = refl; each = λ at s found. absurd (none_some s found) }

pub none-last : (feeders : ℕ) (last : List (Option ℕ)) → AreEmpty feeders last → AreLast feeders [] last
none-last feeders last e = record {
  many = e.many;
  each = λ f o found. subst (λ (p : Option ℕ). IsLast feeders [] 0 f p) (sym (e.each f o found)) (λ i l low high got same. none_some l got);
}

pub more-empty : (count : ℕ) (last : List (Option ℕ)) → AreEmpty count last → AreEmpty (count + 1) (last ++ None ∷ [])
more-empty count last e = record {
  many = push-length last None ∙ (let m = e.many in omega (arith, m));
  each = λ f o found. elim (get-push-cases last None f o found) [ inl old ↦ e.each f o old | inr new ↦ new.1 ];
}

pub no-empty : AreEmpty 0 []
no-empty = record { many = refl; each = λ f o found. absurd (none_some o found) }

-- ---- one more

module _ (feeders : ℕ) (ls : List Line) (l : Line) where
  abbrev more : List Line
  more = ls ++ l ∷ []

  none-old : (low high f : ℕ) → high ≤ length ls → NoneOf feeders ls low high f → NoneOf feeders more low high f
  none-old low high f within none i m over under got same = elim (get-push-cases ls l i m got) [
    | inl old ↦ none i m over under old same
    | inr new ↦ (let here = new.0 in omega (arith, under, within, here))
  ]

  last-old : (count f : ℕ) (o : Option ℕ) → count ≤ length ls → IsLast feeders ls count f o → IsLast feeders more count f o
  last-old count f None within last = none-old 0 count f within last
  last-old count f (Some k) within last =
      let of = last.1 in
      (last.0, (of.0, get-old ls l k of.0 of.1, of.2), none-old (k + 1) count f within last.2)

  pub lines-push : AreLines feeders ls → IsWhole l → IsAbove (lines_of ls) l.number → IsLast feeders ls (length ls) (feeder_at feeders l) l.before → AreLines feeders more
  lines-push are whole above last = record { some_feeder = are.some_feeder; rising = rising; whole = whole-at; before = before }
    where
      rising : (a b : ℕ) (m n : Line) → slice_get more a ≡ Some m → slice_get more b ≡ Some n → a < b → m.number < n.number
      rising a b m n at_a at_b less = elim (get-push-cases ls l a m at_a) [
        | inl old ↦ elim (get-push-cases ls l b n at_b) [
          | inl old' ↦ are.rising a b m n old old' less
          | inr new ↦ subst (λ (z : Line). m.number < z.number) (sym new.1) (above a (line_of m) (get-map line_of ls a m old))
        ]
        | inr new ↦ elim (get-push-cases ls l b n at_b) [
          | inl old ↦ (let w = get-within ls b n old in let here = new.0 in absurd (omega (arith, w, here, less)))
          | inr new' ↦ (let here = new.0 in let there = new'.0 in absurd (omega (arith, here, there, less)))
        ]
      ]

      whole-at : (at : ℕ) (m : Line) → slice_get more at ≡ Some m → IsWhole m
      whole-at at m got = elim (get-push-cases ls l at m got) [ inl old ↦ are.whole at m old | inr new ↦ subst IsWhole (sym new.1) whole ]

      before : (at : ℕ) (m : Line) → slice_get more at ≡ Some m → IsLast feeders more at (feeder_at feeders m) m.before
      before at m got = elim (get-push-cases ls l at m got) [
        | inl old ↦ (let w = get-within ls at m old in last-old at (feeder_at feeders m) m.before (omega (arith, w)) (are.before at m old))
        | inr new ↦ subst (λ (z : Line). IsLast feeders more at (feeder_at feeders z) z.before) (sym new.1)
            (subst (λ (k : ℕ). IsLast feeders more k (feeder_at feeders l) l.before) (sym new.0) (last-old (length ls) (feeder_at feeders l) l.before (omega arith) last))
      ]

  -- ---- the last of each feeder

  one-more : length more ≡ length ls + 1
  one-more = push-length ls l

  none-more : (low f : ℕ) → feeder_at feeders l ≢ f → NoneOf feeders ls low (length ls) f → NoneOf feeders more low (length more) f
  none-more low f off none i m over under got same = elim (get-push-cases ls l i m got) [
    | inl old ↦ none i m over (get-within ls i m old) old same
    | inr new ↦ off (ap (feeder_at feeders) (sym new.1) ∙ same)
  ]

  last-more : (f : ℕ) (o : Option ℕ) → feeder_at feeders l ≢ f → IsLast feeders ls (length ls) f o → IsLast feeders more (length more) f o
  last-more f None off last = none-more 0 f off last
  last-more f (Some k) off last =
      let of = last.1 in
      let less = last.0 in
      let grown = one-more in
      (omega (arith, less, grown), (of.0, get-old ls l k of.0 of.1, of.2), none-more (k + 1) f off last.2)

  last-own : IsLast feeders more (length more) (feeder_at feeders l) (Some (length ls))
  last-own =
      let grown = one-more in
      (omega (arith, grown), (l, get-new ls l, refl), λ i m over under got same. omega (arith, grown, over, under))

  pub last-push : (last : List (Option ℕ)) → AreLast feeders ls last → AreLast feeders more (slice_set last (feeder_at feeders l) (Some (length ls)))
  last-push last are = record { many = set-length last (feeder_at feeders l) (Some (length ls)) ∙ are.many; each = each }
    where
      each : (f : ℕ) (o : Option ℕ) → slice_get (slice_set last (feeder_at feeders l) (Some (length ls))) f ≡ Some o → IsLast feeders more (length more) f o
      each f o got = elim (get-set-cases last (feeder_at feeders l) f (Some (length ls)) o got) [
        | inl here ↦ subst (λ (p : Option ℕ). IsLast feeders more (length more) f p) (sym here.1) (subst (λ (g : ℕ). IsLast feeders more (length more) g (Some (length ls))) (sym here.0) last-own)
        | inr off ↦ last-more f o (λ same. off.0 (sym same)) (are.each f o off.1)
      ]

  pub waiting-push : (stages : List Stage) → AreWaiting ls stages → AreWaiting more (stages ++ Waiting ∷ [])
  waiting-push stages are = record {
    many = push-length stages Waiting ∙ (let m = are.many in let grown = one-more in omega (arith, m, grown));
    each = λ at s got. elim (get-push-cases stages Waiting at s got) [ inl old ↦ are.each at s old | inr new ↦ new.1 ];
  }

  -- its feeder goes by its key
  pub feeder-is : l.key ≡ keys.key_of l.operation.id → (l.key / 2 ^ 32) % feeders ≡ feeder_at feeders l
  feeder-is is = ap (λ (k : ℕ). (k / 2 ^ 32) % feeders) (is ∙ sym (key-is l.operation.id))
