-- Lists of rows.
use Rattle.std.proofs.Common.{◌≡◌, ◌||◌, ℕ, Bool, false, List, [], ◌∷◌, refl, sym, ap₂, ◌∙◌, subst, ◌⊎◌, inl, inr}
use Rattle.std.specs.List.{list_any}
use Rattle.bucket_ids.specs.Buckets.{Low, IsBucket}
use Rattle.pass_model.specs.Nodes.{Node}
use Rattle.pass_model.specs.Rows.{Row}
use Rattle.pass_model.specs.Passes.{AllRows, Among, In}
use Rattle.pass_model.specs.Resting.{AreApart}
use Rattle.pieces.specs.Pieces.{meets}
use Rattle.proof_basics.proofs.Tests.{or_false}
use Rattle.pass_model.proofs.Geometry.{apart-sym}
use Rattle.pass_model.proofs.Rows.{Frames}

pub all-mono : (Q R : Row → Type 0) → ((r : Row) → Q r → R r) → (rows : List Row) → AllRows Q rows → AllRows R rows
all-mono Q R f [] h = tt
all-mono Q R f (r ∷ rs) h = (f r h.0, all-mono Q R f rs h.1)

pub all-in : (Q : Row → Type 0) (x : Row) (rows : List Row) → AllRows Q rows → In x rows → Q x
all-in Q x [] h i = absurd i
all-in Q x (r ∷ rs) h (inl e) = subst Q (sym e) h.0
all-in Q x (r ∷ rs) h (inr i) = all-in Q x rs h.1 i

pub all-of : (Q : Row → Type 0) (rows : List Row) → ((x : Row) → In x rows → Q x) → AllRows Q rows
all-of Q [] f = tt
all-of Q (r ∷ rs) f = (f r (inl refl), all-of Q rs (λ x i. f x (inr i)))

pub none-in : (T : Row → Bool) (x : Row) (rows : List Row) → list_any T rows ≡ false → In x rows → T x ≡ false
none-in T x [] h i = absurd i
none-in T x (r ∷ rs) h (inl e) = subst (λ y. T y ≡ false) (sym e) (or_false (T r) (list_any T rs) h).0
none-in T x (r ∷ rs) h (inr i) = none-in T x rs (or_false (T r) (list_any T rs) h).1 i

pub all-among : (Q : Row → Type 0) (r : Row) (rows rest : List Row) → AllRows Q rows → Among r rows rest → Q r × AllRows Q rest
all-among Q r [] rest h m = absurd m
all-among Q r (q ∷ qs) [] h m = (subst Q (sym m.0) h.0, tt)
all-among Q r (q ∷ qs) (x ∷ rest) h (inl m) = (subst Q (sym m.0) h.0, subst (AllRows Q) m.1 h.1)
all-among Q r (q ∷ qs) (x ∷ rest) h (inr m) = let ih = all-among Q r qs rest h.1 m.1 in (ih.0, (subst Q m.0 h.0, ih.1))

pub among-all : (Q : Row → Type 0) (r : Row) (rows rest : List Row) → Q r → AllRows Q rest → Among r rows rest → AllRows Q rows
among-all Q r [] rest q h m = absurd m
among-all Q r (x ∷ qs) [] q h m = (subst Q m.0 q, subst (AllRows Q) (sym m.1) tt)
among-all Q r (x ∷ qs) (y ∷ rest) q h (inl m) = (subst Q m.0 q, subst (AllRows Q) (sym m.1) h)
among-all Q r (x ∷ qs) (y ∷ rest) q h (inr m) = (subst Q (sym m.0) h.0, among-all Q r qs rest q h.1 m.1)

pub none-among : (T : Row → Bool) (r : Row) (rows rest : List Row) → list_any T rows ≡ false → Among r rows rest → (T r ≡ false) × (list_any T rest ≡ false)
none-among T r [] rest h m = absurd m
none-among T r (q ∷ qs) [] h m = (subst (λ y. T y ≡ false) (sym m.0) (or_false (T q) (list_any T qs) h).0, refl)
none-among T r (q ∷ qs) (x ∷ rest) h (inl m) = let o = or_false (T q) (list_any T qs) h in (subst (λ y. T y ≡ false) (sym m.0) o.0, subst (λ l. list_any T l ≡ false) m.1 o.1)
none-among T r (q ∷ qs) (x ∷ rest) h (inr m) = let o = or_false (T q) (list_any T qs) h in let ih = none-among T r qs rest o.1 m.1 in (ih.0, ap₂ (λ a b. a || b) (subst (λ y. T y ≡ false) m.0 o.0) ih.1)

pub among-none : (T : Row → Bool) (r : Row) (rows rest : List Row) → T r ≡ false → list_any T rest ≡ false → Among r rows rest → list_any T rows ≡ false
among-none T r [] rest h g m = absurd m
among-none T r (q ∷ qs) [] h g m = ap₂ (λ a b. a || b) (subst (λ y. T y ≡ false) m.0 h) (subst (λ l. list_any T l ≡ false) (sym m.1) refl)
among-none T r (q ∷ qs) (x ∷ rest) h g (inl m) = ap₂ (λ a b. a || b) (subst (λ y. T y ≡ false) m.0 h) (subst (λ l. list_any T l ≡ false) (sym m.1) g)
among-none T r (q ∷ qs) (x ∷ rest) h g (inr m) = let o = or_false (T x) (list_any T rest) g in ap₂ (λ a b. a || b) (subst (λ y. T y ≡ false) (sym m.0) o.0) (among-none T r qs rest h o.1 m.1)

pub apart-among : (r : Row) (rows rest : List Row) → AreApart rows → Among r rows rest → (list_any (λ q. meets q.bucket r.bucket) rest ≡ false) × IsBucket r.bucket × AreApart rest
apart-among r [] rest a m = absurd m
apart-among r (q ∷ qs) [] a m = (refl, subst (λ (y : Row). IsBucket y.bucket) (sym m.0) a.1, tt)
apart-among r (q ∷ qs) (x ∷ rest) a (inl m) = (subst (λ (y : Row). list_any (λ z. meets z.bucket y.bucket) (x ∷ rest) ≡ false) (sym m.0) (subst (λ l. list_any (λ z. meets z.bucket q.bucket) l ≡ false) m.1 a.0), subst (λ (y : Row). IsBucket y.bucket) (sym m.0) a.1, subst AreApart m.1 a.2)
apart-among r (q ∷ qs) (x ∷ rest) a (inr m) =
    let ih = apart-among r qs rest a.2 m.1 in
    let o = none-among (λ z. meets z.bucket q.bucket) r qs rest a.0 m.1 in (
      ap₂ (λ s t. s || t) (subst (λ (y : Row). meets y.bucket r.bucket ≡ false) m.0 (apart-sym r.bucket q.bucket o.0)) ih.0,
      ih.1,
      (subst (λ (y : Row). list_any (λ z. meets z.bucket y.bucket) rest ≡ false) m.0 o.1, subst (λ (y : Row). IsBucket y.bucket) m.0 a.1, ih.2),
    )

pub among-apart : (r : Row) (rows rest : List Row) → list_any (λ q. meets q.bucket r.bucket) rest ≡ false → IsBucket r.bucket → AreApart rest → Among r rows rest → AreApart rows
among-apart r [] rest h ok a m = absurd m
among-apart r (q ∷ qs) [] h ok a m = (subst (λ l. list_any (λ z. meets z.bucket q.bucket) l ≡ false) (sym m.1) refl, subst (λ (y : Row). IsBucket y.bucket) m.0 ok, subst AreApart (sym m.1) tt)
among-apart r (q ∷ qs) (x ∷ rest) h ok a (inl m) = (subst (λ l. list_any (λ z. meets z.bucket q.bucket) l ≡ false) (sym m.1) (subst (λ (y : Row). list_any (λ z. meets z.bucket y.bucket) (x ∷ rest) ≡ false) m.0 h), subst (λ (y : Row). IsBucket y.bucket) m.0 ok, subst AreApart (sym m.1) a)
among-apart r (q ∷ qs) (x ∷ rest) h ok a (inr m) =
    let o = or_false (meets x.bucket r.bucket) (list_any (λ z. meets z.bucket r.bucket) rest) h in (
      subst (λ (y : Row). list_any (λ z. meets z.bucket y.bucket) qs ≡ false) (sym m.0) (among-none (λ z. meets z.bucket x.bucket) r qs rest (apart-sym x.bucket r.bucket o.0) a.0 m.1),
      subst (λ (y : Row). IsBucket y.bucket) (sym m.0) a.1,
      among-apart r qs rest o.1 ok a.2 m.1,
    )

pub in-among : (x r : Row) (rows rest : List Row) → Among r rows rest → In x rows → (x ≡ r) ⊎ In x rest
in-among x r [] rest m i = absurd m
in-among x r (q ∷ qs) [] m (inl e) = inl (e ∙ sym m.0)
in-among x r (q ∷ qs) [] m (inr i) = absurd (subst (λ l. In x l) m.1 i)
in-among x r (q ∷ qs) (y ∷ rest) (inl m) (inl e) = inl (e ∙ sym m.0)
in-among x r (q ∷ qs) (y ∷ rest) (inl m) (inr i) = inr (subst (λ l. In x l) m.1 i)
in-among x r (q ∷ qs) (y ∷ rest) (inr m) (inl e) = inr (inl (e ∙ m.0))
in-among x r (q ∷ qs) (y ∷ rest) (inr m) (inr i) = elim (in-among x r qs rest m.1 i) [ inl e ↦ inl e | inr j ↦ inr (inr j) ]

pub among-in : (r : Row) (rows rest : List Row) → Among r rows rest → In r rows
among-in r [] rest m = absurd m
among-in r (q ∷ qs) [] m = inl m.0
among-in r (q ∷ qs) (y ∷ rest) (inl m) = inl m.0
among-in r (q ∷ qs) (y ∷ rest) (inr m) = inr (among-in r qs rest m.1)

pub among-rest : (x r : Row) (rows rest : List Row) → Among r rows rest → In x rest → In x rows
among-rest x r [] rest m i = absurd m
among-rest x r (q ∷ qs) [] m i = absurd i
among-rest x r (q ∷ qs) (y ∷ rest) (inl m) i = inr (subst (λ l. In x l) (sym m.1) i)
among-rest x r (q ∷ qs) (y ∷ rest) (inr m) (inl e) = inl (e ∙ sym m.0)
among-rest x r (q ∷ qs) (y ∷ rest) (inr m) (inr i) = inr (among-rest x r qs rest m.1 i)

-- what holds of rows apart from a bucket that a step is about stays
pub all-frames : (P : (ℕ → Node) → Row → Type 0) (b : Low) (ns ms : ℕ → Node) → ((r : Row) → IsBucket r.bucket → Frames r.bucket ns ms → P ns r → P ms r) → ((c : Low) → IsBucket c → meets c b ≡ false → Frames c ns ms)
    → (rows : List Row) → list_any (λ q. meets q.bucket b) rows ≡ false → AreApart rows → AllRows (P ns) rows → AllRows (P ms) rows
all-frames P b ns ms keep f [] none a h = tt
all-frames P b ns ms keep f (r ∷ rs) none a h =
    let o = or_false (meets r.bucket b) (list_any (λ q. meets q.bucket b) rs) none in
    (keep r a.1 (f r.bucket a.1 o.0) h.0, all-frames P b ns ms keep f rs o.1 a.2 h.1)
