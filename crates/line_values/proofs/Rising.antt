-- Members that were put one after another rise, and so do those of each value that was read.
use Rattle.std.proofs.Common.{◌≡◌, ℕ, Bool, true, false, List, [], ◌∷◌, Option, None, Some, option_map, option_and_then, unwrap_or, String, Global, string_bytes, string_cmp, refl, ap, subst, ◌∙◌}
use Rattle.std.specs.List.{AllByRecursion}
use Rattle.std.specs.List.Sorted.{IsStrictlySortedBy}
use Rattle.std.specs.Map.{keys_of}
use Rattle.std.specs.Ordering.{nat_cmp, match_ordering, ordering_reverse}
use Rattle.std.specs.declared.cmp.Ordering.{Ordering}
use Rattle.std.specs.declared.cmp.Ordering.TheVariants.{Less, Equal, Greater}
use Rattle.std.specs.Cmp.Lexicographic.{slice_cmp, nat_list_cmp_total}
use Rattle.json.specs.Lex.{tokens}
use Rattle.json.specs.Json as json
use Rattle.serde_json.specs.Data.{Data, null, boolean, number, string, array, object, Members, no_members, member, put}
use Rattle.serde_json.specs.Find.{get_member}
use Rattle.serde_json.specs.Read.{number_of, of_json, of_items, of_members, max_depth, read}
use Rattle.serde_json.specs.View.{view, members_view}
use Rattle.serde_json.proofs.Views.{Entry}
use Rattle.line_values.specs.Order.{are_rising, keys_rise, HasRising}

-- a member at the place that its key's order says
abbrev placed : Ordering → List ℕ → Data → List ℕ → Data → Members → Members
placed o k d l e ms = match_ordering o (member k d (member l e ms)) (member l d ms) (member l e (put k d ms))

abbrev Below : List ℕ → Members → Type 0
Below k no_members = Unit {0}
Below k (member l e ms) = slice_cmp nat_cmp k l ≡ Less

joined : (k : List ℕ) (d : Data) (ms : Members) → Below k ms → are_rising ms ≡ true → are_rising (member k d ms) ≡ true
joined k d no_members b h = refl
joined k d (member l e ms) b h = ap (λ o. match_ordering o (are_rising (member l e ms)) false false) b ∙ h

parted_by : (o : Ordering) (r : Bool) → match_ordering o r false false ≡ true → (o ≡ Less) × (r ≡ true)
parted_by Less r h = (refl, h)
parted_by Equal r h = cc
parted_by Greater r h = cc

parted : (k : List ℕ) (d : Data) (ms : Members) → are_rising (member k d ms) ≡ true → Below k ms × (are_rising ms ≡ true)
parted k d no_members h = (tt, refl)
parted k d (member l e ms) h = parted_by (slice_cmp nat_cmp k l) (are_rising (member l e ms)) h

-- all that stand behind a key are above it
abbrev pub AllAbove : List ℕ → Members → Type 0
AllAbove k no_members = Unit {0}
AllAbove k (member l e ms) = (slice_cmp nat_cmp k l ≡ Less) × AllAbove k ms

above_by : (k l : List ℕ) (ms : Members) → slice_cmp nat_cmp k l ≡ Less → AllAbove l ms → AllAbove k ms
above_by k l no_members lt h = tt
above_by k l (member m e ms) lt h = (nat_list_cmp_total.trans k l m lt h.0, above_by k l ms lt h.1)

pub all_above : (k : List ℕ) (d : Data) (ms : Members) → are_rising (member k d ms) ≡ true → AllAbove k ms × (are_rising ms ≡ true)
all_above k d no_members h = (tt, refl)
all_above k d (member l e ms) h =
    let p = parted k d (member l e ms) h in
    ((p.0, above_by k l ms p.0 (all_above l e ms p.1).0), p.1)

below_placed : (o : Ordering) (m k : List ℕ) (d : Data) (l : List ℕ) (e : Data) (ms : Members) → slice_cmp nat_cmp m l ≡ Less → slice_cmp nat_cmp m k ≡ Less → Below m (placed o k d l e ms)
below_placed Less m k d l e ms b h = h
below_placed Equal m k d l e ms b h = b
below_placed Greater m k d l e ms b h = b

below_put : (m k : List ℕ) (d : Data) (ms : Members) → Below m ms → slice_cmp nat_cmp m k ≡ Less → Below m (put k d ms)
below_put m k d no_members b h = h
below_put m k d (member l e ms) b h = below_placed (slice_cmp nat_cmp k l) m k d l e ms b h

placed_rises : (o : Ordering) (k : List ℕ) (d : Data) (l : List ℕ) (e : Data) (ms : Members) → slice_cmp nat_cmp k l ≡ o → are_rising (member l e ms) ≡ true → are_rising (put k d ms) ≡ true → are_rising (placed o k d l e ms) ≡ true
placed_rises Less k d l e ms is h rest = joined k d (member l e ms) is h
placed_rises Equal k d l e ms is h rest = let p = parted l e ms h in joined l d ms p.0 p.1
placed_rises Greater k d l e ms is h rest =
    let above : slice_cmp nat_cmp l k ≡ Less = nat_list_cmp_total.antisymm l k ∙ ap ordering_reverse is in
    joined l e (put k d ms) (below_put l k d ms (parted l e ms h).0 above) rest

pub put_rises : (k : List ℕ) (d : Data) (ms : Members) → are_rising ms ≡ true → are_rising (put k d ms) ≡ true
put_rises k d no_members h = refl
put_rises k d (member l e ms) h = placed_rises (slice_cmp nat_cmp k l) k d l e ms refl h (put_rises k d ms (parted l e ms h).1)

-- ---- the keys of a map

below_first : (k : String Global) (es : List Entry) → AllByRecursion (λ y. string_cmp k y ≡ Less) (keys_of es) → Below (string_bytes k) (members_view es)
below_first k [] h = tt
below_first k (e ∷ es) h = h.0

pub map_rises : (es : List Entry) → IsStrictlySortedBy string_cmp (keys_of es) → are_rising (members_view es) ≡ true
unfolding IsStrictlySortedBy
map_rises [] h = refl
map_rises (e ∷ es) h = joined (string_bytes e.0) (view e.1) (members_view es) (below_first e.0 es h.0) (map_rises es h.1)

-- ---- what was read

same_data : (d e : Data) → Some d ≡ Some e → d ≡ e
same_data d e same = ap (λ o. unwrap_or o null) same

same_members : (ms ns : Members) → Some ms ≡ Some ns → ms ≡ ns
same_members ms ns same = ap (λ o. unwrap_or o no_members) same

module _ (P : Data → Type 0) where
  plain : (d e : Data) → Some d ≡ Some e → P d → P e
  plain d e same h = subst P (same_data d e same) h

  mapped : {A : Type 0} (f : A → Data) (o : Option A) (d : Data) → ((a : A) → o ≡ Some a → P (f a)) → option_map f o ≡ Some d → P d
  mapped f None d h e = absurd (cc)
  mapped f (Some a) d h e = plain (f a) d e (h a refl)

after : (f : Data → Option Members) (r : Members) (G : Type 0) (o : Option Data) → ((d : Data) → o ≡ Some d → f d ≡ Some r → G) → option_and_then f o ≡ Some r → G
after f r G None next e = absurd (cc)
after f r G (Some d) next e = next d refl e

members_rise : (ms : json.Members) (found r : Members) → of_members ms found ≡ Some r → are_rising found ≡ true → are_rising r ≡ true
members_rise json.no_members found r e h = subst (λ x. are_rising x ≡ true) (same_members found r e) h
members_rise (json.member k j ms) found r e h =
    after (λ d. of_members ms (put k d found)) r (are_rising r ≡ true) (of_json j) (λ d is x. members_rise ms (put k d found) r x (put_rises k d found h)) e

abbrev Rises : Data → Type 0
Rises d = keys_rise d ≡ true

json_rises : (j : json.Json) (d : Data) → of_json j ≡ Some d → Rises d
json_rises json.null d e = plain Rises null d e refl
json_rises (json.boolean b) d e = plain Rises (boolean b) d e refl
json_rises (json.number s) d e = mapped Rises number (number_of s) d (λ a x. refl) e
json_rises (json.string s) d e = plain Rises (string s) d e refl
json_rises (json.array js) d e = mapped Rises array (of_items js) d (λ a x. refl) e
json_rises (json.object ms) d e = mapped Rises object (of_members ms no_members) d (λ r x. members_rise ms no_members r x refl) e

-- the keys of each member's value rise
abbrev AllRise : Members → Type 0
AllRise no_members = Unit {0}
AllRise (member k d ms) = Rises d × AllRise ms

all_placed : (o : Ordering) (k : List ℕ) (d : Data) (l : List ℕ) (e : Data) (ms : Members) → Rises d → AllRise (member l e ms) → AllRise (put k d ms) → AllRise (placed o k d l e ms)
all_placed Less k d l e ms h all rest = (h, all)
all_placed Equal k d l e ms h all rest = (h, all.1)
all_placed Greater k d l e ms h all rest = (all.0, rest)

all_put : (k : List ℕ) (d : Data) (ms : Members) → Rises d → AllRise ms → AllRise (put k d ms)
all_put k d no_members h all = (h, tt)
all_put k d (member l e ms) h all = all_placed (slice_cmp nat_cmp k l) k d l e ms h all (all_put k d ms h all.1)

members_all : (ms : json.Members) (found r : Members) → of_members ms found ≡ Some r → AllRise found → AllRise r
members_all json.no_members found r e h = subst AllRise (same_members found r e) h
members_all (json.member k j ms) found r e h =
    after (λ d. of_members ms (put k d found)) r (AllRise r) (of_json j) (λ d is x. members_all ms (put k d found) r x (all_put k d found (json_rises j d is) h)) e

abbrev Inner : Data → Type 0
Inner null = Unit {0}
Inner (boolean b) = Unit {0}
Inner (number n) = Unit {0}
Inner (string s) = Unit {0}
Inner (array ds) = Unit {0}
Inner (object ms) = AllRise ms

json_inner : (j : json.Json) (d : Data) → of_json j ≡ Some d → Inner d
json_inner json.null d e = plain Inner null d e tt
json_inner (json.boolean b) d e = plain Inner (boolean b) d e tt
json_inner (json.number s) d e = mapped Inner number (number_of s) d (λ a x. tt) e
json_inner (json.string s) d e = plain Inner (string s) d e tt
json_inner (json.array js) d e = mapped Inner array (of_items js) d (λ a x. tt) e
json_inner (json.object ms) d e = mapped Inner object (of_members ms no_members) d (λ r x. members_all ms no_members r x tt) e

found_rises : (o : Ordering) (x : Option Data) (d e : Data) → match_ordering o x (Some d) x ≡ Some e → Rises d → (x ≡ Some e → Rises e) → Rises e
found_rises Less x d e is h rest = rest is
found_rises Equal x d e is h rest = plain Rises d e is h
found_rises Greater x d e is h rest = rest is

under_key : (ms : Members) → AllRise ms → (key : List ℕ) (e : Data) → get_member key ms ≡ Some e → Rises e
under_key no_members all key e is = absurd (cc)
under_key (member l d ms) all key e is = found_rises (slice_cmp nat_cmp key l) (get_member key ms) d e is all.0 (under_key ms all.1 key e)

inner_has : (d : Data) → Inner d → HasRising d
inner_has null h key e is = absurd (cc)
inner_has (boolean b) h key e is = absurd (cc)
inner_has (number n) h key e is = absurd (cc)
inner_has (string s) h key e is = absurd (cc)
inner_has (array ds) h key e is = absurd (cc)
inner_has (object ms) h key e is = under_key ms h key e is

read_by : (o : Option json.Json) (d : Data) → option_and_then of_json o ≡ Some d → HasRising d
read_by None d e = absurd (cc)
read_by (Some j) d e = inner_has d (json_inner j d e)

-- of a text that was read
pub read_has_rising : (text : List ℕ) (d : Data) → read text ≡ Some d → HasRising d
read_has_rising text d e = read_by (option_and_then (λ p. json.if_last p.0 p.1) (json.value max_depth (tokens text))) d e
