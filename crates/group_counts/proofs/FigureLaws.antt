-- Outputs, and lists of them, with a document more.
use Rattle.std.proofs.Common.{◌≡◌, ℕ, ℤ, pos, zero, suc, ◌+◌, ◌<◌, ◌≤◌, ◌+ℤ◌, ◌++◌, ◌⊎◌, inl, inr, Bool, true, false, cond, List, [], ◌∷◌, map, length, take, drop, get_or, fold, Option, None, Some, refl, sym, ap, ap₂, subst, ◌∙◌, arith, append-nil}
use Rattle.std.specs.Prelude.{slice_set, int_lt}
use Rattle.std.specs.Option.{IfSome}
use Rattle.std.specs.Int.{int_min, int_max}
use Rattle.std.proofs.lemmas.Int.{ints}
use Rattle.doc_types.specs.declared.outputs.OutputKind.{OutputKind}
use Rattle.doc_types.specs.declared.outputs.OutputKind.TheVariants as output
use Rattle.documents.specs.Fields.{Contents}
use Rattle.group_counts.specs.Numbers.{onto, found, sum_of, either, least, greatest}
use Rattle.group_counts.specs.Keyed.{number_in, numbers_in, output_over}
use Rattle.group_counts.specs.Tallies.{IsSmall, IsWide, AreSmall, plus, with_number, next_value, next_values, told_outputs}

-- ---- one output

pub found-more : {A B : Type 0} (f : A → Option B) (xs : List A) (x : A) → found f (xs ++ x ∷ []) ≡ found f xs ++ onto (f x) []
found-more f [] x = refl
found-more {B = B} f (y ∷ ys) x = by (f y) (found-more f ys x)
  where
    by : (o : Option B) → found f (ys ++ x ∷ []) ≡ found f ys ++ onto (f x) [] → onto o (found f (ys ++ x ∷ [])) ≡ onto o (found f ys) ++ onto (f x) []
    by None ih = ih
    by (Some b) ih = ap (λ r. b ∷ r) ih

fold-last : {A B : Type 0} (f : B → A → B) (b : B) (xs : List A) (x : A) → fold f b (xs ++ x ∷ []) ≡ f (fold f b xs) x
fold-last f b [] x = refl
fold-last f b (y ∷ ys) x = fold-last f (f b y) ys x

sum-more : (zs : List ℤ) (o : Option ℤ) → Some (sum_of (zs ++ onto o [])) ≡ with_number plus (Some (sum_of zs)) o
sum-more zs None = ap (λ l. Some (sum_of l)) (append-nil zs)
sum-more zs (Some z) = ap Some (fold-last (λ s z. s +ℤ z) (pos 0) zs z)

choice-more : (choose : ℤ → ℤ → ℤ) (zs : List ℤ) (o : Option ℤ) → fold (either choose) None (zs ++ onto o []) ≡ with_number (either choose) (fold (either choose) None zs) o
choice-more choose zs None = ap (fold (either choose) None) (append-nil zs)
choice-more choose zs (Some z) = fold-last (either choose) None zs z

pub length-more : {A : Type 0} (xs : List A) (x : A) → length (xs ++ x ∷ []) ≡ length xs + 1
length-more [] x = refl
length-more (y ∷ ys) x = let ih : length (ys ++ x ∷ []) ≡ length ys + 1 = length-more ys x in omega (arith, ih)

pub output-more : (docs : List Contents) (d : Contents) (k : OutputKind) → output_over (docs ++ d ∷ []) k ≡ next_value k (output_over docs k) d
output-more docs d output.Count = ap (λ n. Some (pos n)) (length-more docs d)
output-more docs d (output.Sum field) = ap (λ zs. Some (sum_of zs)) (found-more (number_in field) docs d) ∙ sum-more (numbers_in field docs) (number_in field d)
output-more docs d (output.Min field) = ap least (found-more (number_in field) docs d) ∙ choice-more int_min (numbers_in field docs) (number_in field d)
output-more docs d (output.Max field) = ap greatest (found-more (number_in field) docs d) ∙ choice-more int_max (numbers_in field docs) (number_in field d)

pub values-more : (ks : List OutputKind) (docs : List Contents) (d : Contents) → map (output_over (docs ++ d ∷ [])) ks ≡ next_values ks d (map (output_over docs) ks)
values-more [] docs d = refl
values-more (k ∷ ks) docs d = ap₂ (λ v vs. v ∷ vs) (output-more docs d k) (values-more ks docs d)

-- ---- how large it is

pub small-more : (n : ℕ) (v : Option ℤ) → IsSmall n v → IsSmall (n + 1) v
small-more n None h = tt
small-more n (Some s) h = (omega (arith, ints, h.0), omega (arith, ints, h.1))

pub small-own : (n : ℕ) (z : ℤ) → IsWide z → IsSmall (n + 1) (Some z)
small-own n z f = (omega (arith, ints, f.0, f.1), omega (arith, ints, f.0, f.1))

pub small-plus : (n : ℕ) (s z : ℤ) → IsWide z → IsSmall n (Some s) → IsSmall (n + 1) (Some (s +ℤ z))
small-plus n s z f h = (omega (arith, ints, f.0, f.1, h.0), omega (arith, ints, f.0, f.1, h.1))

one_of : (n : ℕ) (t : Bool) (y z : ℤ) → IsSmall n (Some y) → IsSmall n (Some z) → IsSmall n (Some (cond t y z))
one_of n true y z g h = g
one_of n false y z g h = h

pub small-min : (n : ℕ) (s z : ℤ) → IsWide z → IsSmall n (Some s) → IsSmall (n + 1) (Some (int_min s z))
small-min n s z f h = one_of (n + 1) (int_lt z s) z s (small-own n z f) (small-more n (Some s) h)

pub small-max : (n : ℕ) (s z : ℤ) → IsWide z → IsSmall n (Some s) → IsSmall (n + 1) (Some (int_max s z))
small-max n s z f h = one_of (n + 1) (int_lt z s) s z (small-more n (Some s) h) (small-own n z f)

small-sum : (n : ℕ) (v o : Option ℤ) → IfSome o IsWide → IsSmall n v → IsSmall (n + 1) (with_number plus v o)
small-sum n v None w h = small-more n v h
small-sum n None (Some z) w h = tt
small-sum n (Some s) (Some z) w h = small-plus n s z w h

small-least : (n : ℕ) (v o : Option ℤ) → IfSome o IsWide → IsSmall n v → IsSmall (n + 1) (with_number (either int_min) v o)
small-least n v None w h = small-more n v h
small-least n None (Some z) w h = small-own n z w
small-least n (Some s) (Some z) w h = small-min n s z w h

small-greatest : (n : ℕ) (v o : Option ℤ) → IfSome o IsWide → IsSmall n v → IsSmall (n + 1) (with_number (either int_max) v o)
small-greatest n v None w h = small-more n v h
small-greatest n None (Some z) w h = small-own n z w
small-greatest n (Some s) (Some z) w h = small-max n s z w h

pub one_wide : IfSome (Some (pos 1)) IsWide
one_wide = (omega (arith, ints), omega (arith, ints))

pub summed-small : (v o r : Option ℤ) → IfSome o IsWide → r ≡ with_number plus v o → (n : ℕ) → IsSmall n v → IsSmall (n + 1) r
summed-small v o r w e = λ n h. subst (IsSmall (n + 1)) (sym e) (small-sum n v o w h)

pub lowered-small : (v o r : Option ℤ) → IfSome o IsWide → r ≡ with_number (either int_min) v o → (n : ℕ) → IsSmall n v → IsSmall (n + 1) r
lowered-small v o r w e = λ n h. subst (IsSmall (n + 1)) (sym e) (small-least n v o w h)

pub raised-small : (v o r : Option ℤ) → IfSome o IsWide → r ≡ with_number (either int_max) v o → (n : ℕ) → IsSmall n v → IsSmall (n + 1) r
raised-small v o r w e = λ n h. subst (IsSmall (n + 1)) (sym e) (small-greatest n v o w h)

-- ---- lists of outputs, one after the other

values-step : (at : ℕ) (ks : List OutputKind) (d : Contents) (vs : List (Option ℤ)) (k : OutputKind) (v : Option ℤ) → at < length ks → at < length vs
    → slice_set (next_values (take at ks) d vs) at (next_value (get_or ks at k) (get_or (next_values (take at ks) d vs) at v) d) ≡ next_values (take (suc at) ks) d vs
values-step at [] d vs k v g h = absurd (omega (arith, g))
values-step at (x ∷ ks) d [] k v g h = absurd (omega (arith, h))
values-step zero (x ∷ ks) d (y ∷ vs) k v g h = refl
values-step (suc at) (x ∷ ks) d (y ∷ vs) k v g h = ap (λ l. next_value x y d ∷ l) (values-step at ks d vs k v (omega (arith, g)) (omega (arith, h)))

pub value-still : (at : ℕ) (ks : List OutputKind) (d : Contents) (vs : List (Option ℤ)) (v : Option ℤ) → get_or (next_values (take at ks) d vs) at v ≡ get_or vs at v
value-still zero ks d vs v = refl
value-still (suc at) [] d vs v = refl
value-still (suc at) (x ∷ ks) d [] v = refl
value-still (suc at) (x ∷ ks) d (y ∷ vs) v = value-still at ks d vs v

pub values-long : (ks : List OutputKind) (d : Contents) (vs : List (Option ℤ)) → length (next_values ks d vs) ≡ length vs
values-long [] d vs = refl
values-long (k ∷ ks) d [] = refl
values-long (k ∷ ks) d (v ∷ vs) = ap suc (values-long ks d vs)

pub values-end : (at : ℕ) (ks : List OutputKind) (d : Contents) (vs : List (Option ℤ)) → (length ks ≤ at) ⊎ (length vs ≤ at) → next_values (take at ks) d vs ≡ next_values ks d vs
values-end zero [] d vs h = refl
values-end zero (k ∷ ks) d [] h = refl
values-end zero (k ∷ ks) d (v ∷ vs) (inl h) = absurd (omega (arith, h))
values-end zero (k ∷ ks) d (v ∷ vs) (inr h) = absurd (omega (arith, h))
values-end (suc at) [] d vs h = refl
values-end (suc at) (k ∷ ks) d [] h = refl
values-end (suc at) (k ∷ ks) d (v ∷ vs) (inl h) = ap (λ l. next_value k v d ∷ l) (values-end at ks d vs (inl (omega (arith, h))))
values-end (suc at) (k ∷ ks) d (v ∷ vs) (inr h) = ap (λ l. next_value k v d ∷ l) (values-end at ks d vs (inr (omega (arith, h))))

after : (at : ℕ) → suc at ≡ at + 1
after at = omega arith

outputs-after : (at : ℕ) (ks : List OutputKind) (vs : List (Option ℤ)) (k : OutputKind) (v : Option ℤ) → at < length ks → at < length vs
    → told_outputs (take (suc at) ks) vs ≡ told_outputs (take at ks) vs ++ record { kind = get_or ks at k; value = get_or vs at v } ∷ []
outputs-after at [] vs k v g h = absurd (omega (arith, g))
outputs-after at (x ∷ ks) [] k v g h = absurd (omega (arith, h))
outputs-after zero (x ∷ ks) (y ∷ vs) k v g h = refl
outputs-after (suc at) (x ∷ ks) (y ∷ vs) k v g h = ap (λ l. record { kind = x; value = y } ∷ l) (outputs-after at ks vs k v (omega (arith, g)) (omega (arith, h)))

pub outputs-step : (at : ℕ) (ks : List OutputKind) (vs : List (Option ℤ)) (k : OutputKind) (v : Option ℤ) → at < length ks → at < length vs
    → told_outputs (take (at + 1) ks) vs ≡ told_outputs (take at ks) vs ++ record { kind = get_or ks at k; value = get_or vs at v } ∷ []
outputs-step at ks vs k v g h = ap (λ n. told_outputs (take n ks) vs) (sym (after at)) ∙ outputs-after at ks vs k v g h

pub outputs-end : (at : ℕ) (ks : List OutputKind) (vs : List (Option ℤ)) → (length ks ≤ at) ⊎ (length vs ≤ at) → told_outputs (take at ks) vs ≡ told_outputs ks vs
outputs-end zero [] vs h = refl
outputs-end zero (k ∷ ks) [] h = refl
outputs-end zero (k ∷ ks) (v ∷ vs) (inl h) = absurd (omega (arith, h))
outputs-end zero (k ∷ ks) (v ∷ vs) (inr h) = absurd (omega (arith, h))
outputs-end (suc at) [] vs h = refl
outputs-end (suc at) (k ∷ ks) [] h = refl
outputs-end (suc at) (k ∷ ks) (v ∷ vs) (inl h) = ap (λ l. record { kind = k; value = v } ∷ l) (outputs-end at ks vs (inl (omega (arith, h))))
outputs-end (suc at) (k ∷ ks) (v ∷ vs) (inr h) = ap (λ l. record { kind = k; value = v } ∷ l) (outputs-end at ks vs (inr (omega (arith, h))))

-- ---- facts of all items

pub small-at : (n at : ℕ) (vs : List (Option ℤ)) (v : Option ℤ) → at < length vs → AreSmall n vs → IsSmall n (get_or vs at v)
small-at n at [] v l h = absurd (omega (arith, l))
small-at n zero (y ∷ vs) v l h = h.0
small-at n (suc at) (y ∷ vs) v l h = small-at n at vs v (omega (arith, l)) h.1

pub small-set : (n at : ℕ) (vs : List (Option ℤ)) (v : Option ℤ) → IsSmall n v → AreSmall n vs → AreSmall n (slice_set vs at v)
small-set n at [] v s h = tt
small-set n zero (y ∷ vs) v s h = (s, h.1)
small-set n (suc at) (y ∷ vs) v s h = (h.0, small-set n at vs v s h.1)

pub small-append : (n : ℕ) (us vs : List (Option ℤ)) → AreSmall n us → AreSmall n vs → AreSmall n (us ++ vs)
small-append n [] vs g h = h
small-append n (u ∷ us) vs g h = (g.0, small-append n us vs g.1 h)

pub small-take : (n m : ℕ) (vs : List (Option ℤ)) → AreSmall n vs → AreSmall n (take m vs)
small-take n zero vs h = tt
small-take n (suc m) [] h = tt
small-take n (suc m) (v ∷ vs) h = (h.0, small-take n m vs h.1)

pub small-drop : (n m : ℕ) (vs : List (Option ℤ)) → AreSmall n vs → AreSmall n (drop m vs)
small-drop n zero vs h = h
small-drop n (suc m) [] h = tt
small-drop n (suc m) (v ∷ vs) h = small-drop n m vs h.1

pub small-all : (n : ℕ) (vs : List (Option ℤ)) → AreSmall n vs → AreSmall (n + 1) vs
small-all n [] h = tt
small-all n (v ∷ vs) h = (small-more n v h.0, small-all n vs h.1)

pub small-last : (n : ℕ) (vs : List (Option ℤ)) (v : Option ℤ) → AreSmall n vs → IsSmall n v → AreSmall n (vs ++ v ∷ [])
small-last n [] v h s = (s, tt)
small-last n (y ∷ vs) v h s = (h.0, small-last n vs v h.1 s)

-- the loop over a tally's outputs
value-now : (at : ℕ) (ks : List OutputKind) (d : Contents) (vs now : List (Option ℤ)) → now ≡ next_values (take at ks) d vs → get_or now at None ≡ get_or vs at None
value-now at ks d vs now h = ap (λ l. get_or l at None) h ∙ value-still at ks d vs None

now-long : (at : ℕ) (ks : List OutputKind) (d : Contents) (vs now : List (Option ℤ)) → now ≡ next_values (take at ks) d vs → length now ≡ length vs
now-long at ks d vs now h = ap length h ∙ values-long (take at ks) d vs

pub small-now : (n at : ℕ) (ks : List OutputKind) (d : Contents) (vs now : List (Option ℤ)) → at < length now → now ≡ next_values (take at ks) d vs → AreSmall n vs → IsSmall n (get_or now at None)
small-now n at ks d vs now l h a = subst (IsSmall n) (sym (value-now at ks d vs now h)) (small-at n at vs None (let e : length now ≡ length vs = now-long at ks d vs now h in omega (arith, l, e)) a)

pub take-step : (at : ℕ) (ks : List OutputKind) (d : Contents) (vs now : List (Option ℤ)) (k : OutputKind) (y : Option ℤ) → at < length ks → at < length now → now ≡ next_values (take at ks) d vs
    → k ≡ get_or ks at k → y ≡ next_value k (get_or now at None) d → slice_set now at y ≡ next_values (take (at + 1) ks) d vs
take-step at ks d vs now k y g l h own is =
    ap₂ (λ v z. slice_set v at z) h (is ∙ ap₂ (λ a b. next_value a b d) own (ap (λ v. get_or v at None) h))
    ∙ values-step at ks d vs k None g (let e : length now ≡ length vs = now-long at ks d vs now h in omega (arith, l, e))
    ∙ ap (λ n. next_values (take n ks) d vs) (after at)

pub small-step : (at : ℕ) (ks : List OutputKind) (d : Contents) (vs now : List (Option ℤ)) (y : Option ℤ) → at < length now → now ≡ next_values (take at ks) d vs
    → ((n : ℕ) → IsSmall n (get_or now at None) → IsSmall (n + 1) y) → ((n : ℕ) → AreSmall n vs → AreSmall (n + 1) now) → (n : ℕ) → AreSmall n vs → AreSmall (n + 1) (slice_set now at y)
small-step at ks d vs now y l h step all = λ n a. small-set (n + 1) at now y (step n (small-now n at ks d vs now l h a)) (all n a)

pub take-end : (at : ℕ) (ks : List OutputKind) (d : Contents) (vs now : List (Option ℤ)) → (length ks ≤ at) ⊎ (length now ≤ at) → now ≡ next_values (take at ks) d vs → now ≡ next_values ks d vs
take-end at ks d vs now (inl h) e = e ∙ values-end at ks d vs (inl h)
take-end at ks d vs now (inr h) e = e ∙ values-end at ks d vs (inr (let s : length now ≡ length vs = now-long at ks d vs now e in omega (arith, h, s)))

-- fewer documents make no larger output
small-wide : (m n : ℕ) (v : Option ℤ) → m ≤ n → IsSmall m v → IsSmall n v
small-wide m n None l h = tt
small-wide m n (Some s) l h = (omega (arith, ints, h.0, l), omega (arith, ints, h.1, l))

pub all-wide : (m n : ℕ) (vs : List (Option ℤ)) → m ≤ n → AreSmall m vs → AreSmall n vs
all-wide m n [] l h = tt
all-wide m n (v ∷ vs) l h = (small-wide m n v l h.0, all-wide m n vs l h.1)
