-- Members in a list, beside the data that they stand for.
use Rattle.std.proofs.Common.{◌≡◌, ℕ, zero, suc, ◌+◌, ◌<◌, ◌≤◌, List, [], ◌∷◌, ◌++◌, length, get_or, take, drop, drop-cons, add-one, Option, Some, Ordering, Less, Equal, Greater, nat_cmp, is_eq, Bool, true, false, bytes_eq, string_bytes, true≢false, Bor, Vec, Global, rules, slice_set, refl, sym, ap, ap₂, ◌∙◌, arith}
use Rattle.std.proofs.Math.Seq.{take-suc, take_all}
use Rattle.std.proofs.lemmas.Cmp.{nat_list_cmp_total, tied_itself}
use Rattle.std.proofs.lemmas.List.{drop_all}
use Rattle.std.proofs.lemmas.Map.Text.{is_eq-slice_cmp}
use Rattle.std.proofs.lemmas.Slice.Eq.{bytes_eq-Decides}
use Rattle.std.specs.Cmp.Lexicographic.{slice_cmp}
use Rattle.std.specs.BTreeMap.{insert_entry}
use Rattle.std.specs.Ordering.{match_ordering}
use Rattle.serde_json.specs.Data.{Data, array, object, Members, no_members, member, put}
use Rattle.serde_json.specs.Find.{get_member}
use Rattle.serde_json.specs.View.{view as owned, members_view as members_owned}
use Rattle.serde_json.proofs.Views as Views
use Rattle.line_values.specs.View.{view, items_view, members_view}
use Rattle.line_values.specs.declared.line_value.LineValue.{LineValue, Array, Object, the_lemmas}

abbrev pub Entry : Type 0
Entry = Bor (List ℕ) × LineValue

pub view-Array : (v : Vec LineValue Global) → view (Array v) ≡ array (items_view v.items)
view-Array v = search (rules, the_lemmas)

pub view-Object : (m : Vec Entry Global) → view (Object m) ≡ object (members_view m.items)
view-Object m = search (rules, the_lemmas)

-- ---- looking up

same_text : (xs : List ℕ) → slice_cmp nat_cmp xs xs ≡ Equal
same_text xs = tied_itself nat_list_cmp_total xs

pub member_here : (name : List ℕ) (e : Entry) (es : List Entry) → bytes_eq e.0.now name ≡ true → get_member name (members_view (e ∷ es)) ≡ Some (view e.1)
member_here name e es is = rw ((bytes_eq-Decides e.0.now name).0 is, same_text)

either : (o : Ordering) (a b : Option Data) → is_eq o ≡ false → match_ordering o a b a ≡ a
either Less a b e = refl
either Equal a b e = absurd (true≢false e)
either Greater a b e = refl

differ : (xs ys : List ℕ) (b : Bool) → bytes_eq xs ys ≡ b → bytes_eq ys xs ≡ false → b ≡ false
differ xs ys true e other = absurd (true≢false (sym ((bytes_eq-Decides ys xs).1 (sym ((bytes_eq-Decides xs ys).0 e))) ∙ other))
differ xs ys false e other = refl

pub member_later : (name : List ℕ) (e : Entry) (es : List Entry) → bytes_eq e.0.now name ≡ false → get_member name (members_view (e ∷ es)) ≡ get_member name (members_view es)
member_later name e es other = either (slice_cmp nat_cmp name e.0.now) _ _ (is_eq-slice_cmp name e.0.now ∙ differ name e.0.now _ refl other)

-- ---- putting in

-- what lies within a list doesn't hang on what is read past its end
pub get_or_known : (all : List Entry) (i : ℕ) (d e : Entry) → i < length all → get_or all i d ≡ get_or all i e
get_or_known [] i d e lt = absurd (omega arith)
get_or_known (x ∷ xs) zero d e lt = refl
get_or_known (x ∷ xs) (suc i) d e lt = get_or_known xs i d e (omega arith)

-- members behind those of a list
abbrev pub behind : List Entry → Members → Members
behind [] ms = ms
behind (e ∷ es) ms = member e.0.now (view e.1) (behind es ms)

behind-append : (xs ys : List Entry) (ms : Members) → behind (xs ++ ys) ms ≡ behind xs (behind ys ms)
behind-append [] ys ms = refl
behind-append (x ∷ xs) ys ms = ap (member x.0.now (view x.1)) (behind-append xs ys ms)

pub members_view-append : (xs ys : List Entry) → members_view (xs ++ ys) ≡ behind xs (members_view ys)
members_view-append [] ys = refl
members_view-append (x ∷ xs) ys = ap (member x.0.now (view x.1)) (members_view-append xs ys)

members_view-set : (all : List Entry) (i : ℕ) (e : Entry) → i < length all → members_view (slice_set all i e) ≡ behind (take i all) (member e.0.now (view e.1) (members_view (drop (suc i) all)))
members_view-set [] i e lt = absurd (omega arith)
members_view-set (x ∷ xs) zero e lt = refl
members_view-set (x ∷ xs) (suc i) e lt = ap (member x.0.now (view x.1)) (members_view-set xs i e (omega arith))

module _ (k : List ℕ) (v : LineValue) (all : List Entry) where
  -- what stands before a place stays, and the key goes behind it
  abbrev pub AtPlace : ℕ → Type 0
  AtPlace i = behind (take i all) (put k (view v) (members_view (drop i all))) ≡ put k (view v) (members_view all)

  at : (i : ℕ) (e : Entry) → i < length all → AtPlace i
      → behind (take i all) (match_ordering (slice_cmp nat_cmp k (get_or all i e).0.now) (member k (view v) (members_view (get_or all i e ∷ drop (suc i) all)))
      (member (get_or all i e).0.now (view v) (members_view (drop (suc i) all))) (member (get_or all i e).0.now (view (get_or all i e).1) (put k (view v) (members_view (drop (suc i) all)))))
      ≡ put k (view v) (members_view all)
  at i e lt so = sym (ap (λ es. behind (take i all) (put k (view v) (members_view es))) (drop-cons all i e lt)) ∙ so

  pub one_place_on : (i : ℕ) (e : Entry) → i < length all → slice_cmp nat_cmp k (get_or all i e).0.now ≡ Greater → AtPlace i → AtPlace (i + 1)
  one_place_on i e lt above so =
      ap (λ n. behind (take n all) (put k (view v) (members_view (drop n all)))) (add-one i)
      ∙ ap (λ xs. behind xs (put k (view v) (members_view (drop (suc i) all)))) (take-suc all i e lt)
      ∙ behind-append (take i all) (get_or all i e ∷ []) (put k (view v) (members_view (drop (suc i) all)))
      ∙ (rw above at (at i e lt so))

  pub put_before : (i : ℕ) (e : Entry) (n : Bor (List ℕ)) → n.now ≡ k → i < length all → slice_cmp nat_cmp k (get_or all i e).0.now ≡ Less → AtPlace i
      → members_view (take i all ++ (n, v) ∷ drop i all) ≡ put k (view v) (members_view all)
  put_before i e n is lt below so =
      members_view-append (take i all) ((n, v) ∷ drop i all)
      ∙ ap₂ (λ key es. behind (take i all) (member key (view v) (members_view es))) is (drop-cons all i e lt)
      ∙ (rw below at (at i e lt so))

  pub put_over : (i : ℕ) (e : Entry) → i < length all → slice_cmp nat_cmp k (get_or all i e).0.now ≡ Equal → AtPlace i
      → members_view (slice_set all i ((get_or all i e).0, v)) ≡ put k (view v) (members_view all)
  put_over i e lt same so = members_view-set all i ((get_or all i e).0, v) lt ∙ (rw same at (at i e lt so))

  pub put_last : (i : ℕ) (n : Bor (List ℕ)) → n.now ≡ k → length all ≤ i → AtPlace i → members_view (all ++ (n, v) ∷ []) ≡ put k (view v) (members_view all)
  put_last i n is le so =
      members_view-append all ((n, v) ∷ [])
      ∙ ap₂ (λ xs key. behind xs (member key (view v) no_members)) (sym (take_all i all le)) is
      ∙ sym (ap (λ es. behind (take i all) (put k (view v) (members_view es))) (drop_all i all le))
      ∙ so

-- the same for the entries of a map
abbrev inserted : List Entry → Bor (List ℕ) → LineValue → List Entry
inserted es k v = insert_entry (λ x y. slice_cmp nat_cmp x.now y.now) es k v

members_view-match_ordering : (o : Ordering) (a b c : List Entry) → members_view (match_ordering o a b c) ≡ match_ordering o (members_view a) (members_view b) (members_view c)
members_view-match_ordering Less a b c = refl
members_view-match_ordering Equal a b c = refl
members_view-match_ordering Greater a b c = refl

pub members_view-inserted : (es : List Entry) (k : Bor (List ℕ)) (v : LineValue) → members_view (inserted es k v) ≡ put k.now (view v) (members_view es)
members_view-inserted [] k v = refl
members_view-inserted (e ∷ es) k v = members_view-match_ordering (slice_cmp nat_cmp k.now e.0.now) _ _ _ ∙ rw (members_view-inserted es k v)

-- ---- the members of a map

-- members with one behind them
abbrev added : Members → List ℕ → Data → Members
added no_members k d = member k d no_members
added (member l e ms) k d = member l e (added ms k d)

one_added : (es : List Entry) (e : Entry) → members_view (es ++ e ∷ []) ≡ added (members_view es) e.0.now (view e.1)
one_added [] e = refl
one_added (x ∷ es) e = ap (member x.0.now (view x.1)) (one_added es e)

one_owned : (es : List Views.Entry) (e : Views.Entry) → members_owned (es ++ e ∷ []) ≡ added (members_owned es) (string_bytes e.0) (owned e.1)
one_owned [] e = refl
one_owned (x ∷ es) e = ap (member (string_bytes x.0) (owned x.1)) (one_owned es e)

pub one_lent : (es : List Entry) (done : List Views.Entry) (e : Entry) (o : Views.Entry) → members_view es ≡ members_owned done → e.0.now ≡ string_bytes o.0 → view e.1 ≡ owned o.1
    → members_view (es ++ e ∷ []) ≡ members_owned (done ++ o ∷ [])
one_lent es done e o so key same = one_added es e ∙ ap₂ (λ ms d. added ms e.0.now d) so same ∙ ap (λ k. added (members_owned done) k (owned o.1)) key ∙ sym (one_owned done o)
