-- What one member more does to members that rise.
use Rattle.std.proofs.Common.{◌≡◌, ℕ, ◌≤◌, Bool, true, false, cond, List, Some, None, refl, sym, ap, subst, ◌∙◌, arith}
use Rattle.std.specs.Ordering.{nat_cmp, match_ordering, is_eq, ordering_reverse}
use Rattle.std.specs.declared.cmp.Ordering.{Ordering}
use Rattle.std.specs.declared.cmp.Ordering.TheVariants.{Less, Equal, Greater}
use Rattle.std.specs.Cmp.Lexicographic.{slice_cmp, nat_list_cmp_total}
use Rattle.std.specs.FinMap.{slice_cmp-IsAntisymmetric, nat_cmp-IsAntisymmetric}
use Rattle.std.specs.Str.{bytes_eq}
use Rattle.std.proofs.lemmas.Map.Text.{is_eq-slice_cmp}
use Rattle.std.proofs.lemmas.Slice.Eq.{bytes_eq-Decides}
use Rattle.json.specs.Tree.{depth, members_depth, HasNumbers, MembersHaveNumbers}
use Rattle.serde_json.specs.Data.{Data, Members, no_members, member, put}
use Rattle.serde_json.specs.Written.{outline, members_outline}
use Rattle.reports.specs.Telling.{are_rising}
use Rattle.reports.proofs.Parts.{look}

-- a member at the place that its key's order says
abbrev placed : Ordering → List ℕ → Data → List ℕ → Data → Members → Members
placed o k d l e ms = match_ordering o (member k d (member l e ms)) (member l d ms) (member l e (put k d ms))

-- ---- keys rise

abbrev Below : List ℕ → Members → Type 0
Below k no_members = Unit {0}
Below k (member l e ms) = slice_cmp nat_cmp k l ≡ Less

joined : (k : List ℕ) (d : Data) (ms : Members) → Below k ms → are_rising ms ≡ true → are_rising (member k d ms) ≡ true
joined k d no_members b h = refl
joined k d (member l e ms) b h = ap (λ o. match_ordering o (are_rising (member l e ms)) false false) b ∙ h

parted_by : (o : Ordering) (r : Bool) → match_ordering o r false false ≡ true → (o ≡ Less) × (r ≡ true)
parted_by Less r h = (refl, h)
parted_by Equal r h = cc
parted_by Greater r h = cc

parted : (k : List ℕ) (d : Data) (ms : Members) → are_rising (member k d ms) ≡ true → Below k ms × (are_rising ms ≡ true)
parted k d no_members h = (tt, refl)
parted k d (member l e ms) h = parted_by (slice_cmp nat_cmp k l) (are_rising (member l e ms)) h

below_placed : (o : Ordering) (m k : List ℕ) (d : Data) (l : List ℕ) (e : Data) (ms : Members) → slice_cmp nat_cmp m l ≡ Less → slice_cmp nat_cmp m k ≡ Less → Below m (placed o k d l e ms)
below_placed Less m k d l e ms b h = h
below_placed Equal m k d l e ms b h = b
below_placed Greater m k d l e ms b h = b

below_put : (m k : List ℕ) (d : Data) (ms : Members) → Below m ms → slice_cmp nat_cmp m k ≡ Less → Below m (put k d ms)
below_put m k d no_members b h = h
below_put m k d (member l e ms) b h = below_placed (slice_cmp nat_cmp k l) m k d l e ms b h

placed_rises : (o : Ordering) (k : List ℕ) (d : Data) (l : List ℕ) (e : Data) (ms : Members) → slice_cmp nat_cmp k l ≡ o → are_rising (member l e ms) ≡ true → are_rising (put k d ms) ≡ true → are_rising (placed o k d l e ms) ≡ true
placed_rises Less k d l e ms is h rest = joined k d (member l e ms) is h
placed_rises Equal k d l e ms is h rest = let p = parted l e ms h in joined l d ms p.0 p.1
placed_rises Greater k d l e ms is h rest =
    let above : slice_cmp nat_cmp l k ≡ Less = nat_list_cmp_total.antisymm l k ∙ ap ordering_reverse is in
    joined l e (put k d ms) (below_put l k d ms (parted l e ms h).0 above) rest

pub put_rises : (k : List ℕ) (d : Data) (ms : Members) → are_rising ms ≡ true → are_rising (put k d ms) ≡ true
put_rises k d no_members h = refl
put_rises k d (member l e ms) h = placed_rises (slice_cmp nat_cmp k l) k d l e ms refl h (put_rises k d ms (parted l e ms h).1)

-- ---- numbers and nesting

placed_numbers : (o : Ordering) (k : List ℕ) (d : Data) (l : List ℕ) (e : Data) (ms : Members) → HasNumbers (outline d) → MembersHaveNumbers (members_outline (member l e ms)) → MembersHaveNumbers (members_outline (put k d ms))
    → MembersHaveNumbers (members_outline (placed o k d l e ms))
placed_numbers Less k d l e ms n h rest = (n, h)
placed_numbers Equal k d l e ms n h rest = (n, h.1)
placed_numbers Greater k d l e ms n h rest = (h.0, rest)

pub put_numbers : (k : List ℕ) (d : Data) (ms : Members) → HasNumbers (outline d) → MembersHaveNumbers (members_outline ms) → MembersHaveNumbers (members_outline (put k d ms))
put_numbers k d no_members n h = (n, tt)
put_numbers k d (member l e ms) n h = placed_numbers (slice_cmp nat_cmp k l) k d l e ms n h (put_numbers k d ms n h.1)

placed_depth : (o : Ordering) (k : List ℕ) (d : Data) (l : List ℕ) (e : Data) (ms : Members) → depth (outline d) ≤ 1 → members_depth (members_outline (member l e ms)) ≤ 1 → members_depth (members_outline (put k d ms)) ≤ 1
    → members_depth (members_outline (placed o k d l e ms)) ≤ 1
placed_depth Less k d l e ms n h rest = omega (arith, n, h)
placed_depth Equal k d l e ms n h rest = omega (arith, n, h)
placed_depth Greater k d l e ms n h rest = omega (arith, h, rest)

pub put_depth : (k : List ℕ) (d : Data) (ms : Members) → depth (outline d) ≤ 1 → members_depth (members_outline ms) ≤ 1 → members_depth (members_outline (put k d ms)) ≤ 1
put_depth k d no_members n h = omega (arith, n)
put_depth k d (member l e ms) n h = placed_depth (slice_cmp nat_cmp k l) k d l e ms n h (put_depth k d ms n (omega (arith, h)))

-- ---- what stands under a key

tests : (k l : List ℕ) (o : Ordering) → slice_cmp nat_cmp k l ≡ o → bytes_eq k l ≡ is_eq o
tests k l o is = sym (is_eq-slice_cmp k l) ∙ ap is_eq is

itself : (k : List ℕ) → bytes_eq k k ≡ true
itself k = (bytes_eq-Decides k k).1 refl

placed_there : (o : Ordering) (k : List ℕ) (d : Data) (l : List ℕ) (e : Data) (ms : Members) → slice_cmp nat_cmp k l ≡ o → look k (members_outline (put k d ms)) ≡ Some (outline d) → look k (members_outline (placed o k d l e ms)) ≡ Some (outline d)
placed_there Less k d l e ms is rest = ap (λ b. cond b (Some (outline d)) (look k (members_outline (member l e ms)))) (itself k)
placed_there Equal k d l e ms is rest = ap (λ b. cond b (Some (outline d)) (look k (members_outline ms))) (tests k l Equal is)
placed_there Greater k d l e ms is rest = ap (λ b. cond b (Some (outline e)) (look k (members_outline (put k d ms)))) (tests k l Greater is) ∙ rest

pub put_there : (k : List ℕ) (d : Data) (ms : Members) → look k (members_outline (put k d ms)) ≡ Some (outline d)
put_there k d no_members = ap (λ b. cond b (Some (outline d)) None) (itself k)
put_there k d (member l e ms) = placed_there (slice_cmp nat_cmp k l) k d l e ms refl (put_there k d ms)

placed_aside : (o : Ordering) (q k : List ℕ) (d : Data) (l : List ℕ) (e : Data) (ms : Members) → slice_cmp nat_cmp k l ≡ o → bytes_eq q k ≡ false → look q (members_outline (put k d ms)) ≡ look q (members_outline ms)
    → look q (members_outline (placed o k d l e ms)) ≡ look q (members_outline (member l e ms))
placed_aside Less q k d l e ms is apart rest = ap (λ b. cond b (Some (outline d)) (look q (members_outline (member l e ms)))) apart
placed_aside Equal q k d l e ms is apart rest =
    let aside : bytes_eq q l ≡ false = subst (λ x. bytes_eq q x ≡ false) (slice_cmp-IsAntisymmetric nat_cmp-IsAntisymmetric k l is) apart in
    ap (λ b. cond b (Some (outline d)) (look q (members_outline ms))) aside ∙ sym (ap (λ b. cond b (Some (outline e)) (look q (members_outline ms))) aside)
placed_aside Greater q k d l e ms is apart rest = ap (λ r. cond (bytes_eq q l) (Some (outline e)) r) rest

pub put_aside : (q k : List ℕ) (d : Data) (ms : Members) → bytes_eq q k ≡ false → look q (members_outline (put k d ms)) ≡ look q (members_outline ms)
put_aside q k d no_members apart = ap (λ b. cond b (Some (outline d)) None) apart
put_aside q k d (member l e ms) apart = placed_aside (slice_cmp nat_cmp k l) q k d l e ms refl apart (put_aside q k d ms apart)
