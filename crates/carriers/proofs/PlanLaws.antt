-- Plans that stand with the numbers of their messages.
use Rattle.std.proofs.Common.{◌≡◌, ◌==◌, ℕ, zero, suc, ◌+◌, ◌-◌, ◌<◌, ◌≤◌, List, [], ◌∷◌, ◌++◌, length, drop, get_or, inl, inr, Bool, true, false, if◌then◌else◌, refl, sym, ap, ◌∙◌, subst, arith, length-append}
use Rattle.std.proofs.Math.ListN.{drop_of_length-le}
use Rattle.std.proofs.Math.Numerals.{add-one}
use Rattle.std.proofs.lemmas.Bool.{cases_lt}
use Rattle.std.proofs.lemmas.Bool.Decides.{nat_tests}
use Rattle.std.proofs.lemmas.List.{length-map, drop-append-le}
use Rattle.carriers.specs.declared.fate.Fate.{Fate}
use Rattle.carriers.specs.declared.fate.Fate.TheVariants.{Deliver}
use Rattle.carriers.specs.declared.planned.Planned.{Planned}
use Rattle.carriers.specs.Fates.{Plan, is_fault, delivered, first_of, after_fate, after_plan}
use Rattle.carriers.specs.Plans.{fates_of, fate_at, given_of, numbered, AreNumbered, IsNumbered}

-- the fate of a place is the first of those from there on
pub first_of_drop : (plans : List Planned) (place : ℕ) (none : Planned) → place < length plans
    → (get_or plans place none).fate ≡ first_of (drop place (fates_of plans))
first_of_drop [] place none h = absurd (omega arith)
first_of_drop (q ∷ plans) zero none h = refl
first_of_drop (q ∷ plans) (suc place) none h = first_of_drop plans place none (omega arith)

pub none_after : (plans : List Planned) (place : ℕ) → length plans ≤ place → Deliver ≡ first_of (drop place (fates_of plans))
none_after [] zero h = refl
none_after [] (suc place) h = refl
none_after (q ∷ plans) zero h = absurd (omega arith)
none_after (q ∷ plans) (suc place) h = none_after plans place (omega arith)

pub spent_within : (given spent : ℕ) (plans : List Planned) → AreNumbered given spent plans → spent ≤ length plans
spent_within given zero plans n = omega arith
spent_within given (suc spent) [] n = absurd n
spent_within given (suc spent) (p ∷ plans) n = let rest = spent_within given spent plans n.1 in omega arith

-- the message behind those that were given gets the first fate that waits
pub fate_at_next : (given spent : ℕ) (plans : List Planned) → AreNumbered given spent plans
    → fate_at plans (given + 1) ≡ first_of (drop spent (fates_of plans))
fate_at_next given zero [] n = refl
fate_at_next given zero (p ∷ plans) n = let own = n.0 in grind (arith, nat_tests)
fate_at_next given (suc spent) [] n = absurd n
fate_at_next given (suc spent) (p ∷ plans) n =
    let rest = fate_at_next given spent plans n.1 in let own = n.0 in grind (arith, nat_tests)

-- what was given or waits still stands right where one message more was dealt with
later : (given spent : ℕ) (plans : List Planned) → spent < length plans → AreNumbered given spent plans
    → AreNumbered (given + 1) (suc spent) plans
later given zero [] h n = absurd (omega arith)
later given zero (p ∷ plans) h n = ((let own = n.0 in omega arith), n.1)
later given (suc spent) [] h n = absurd n
later given (suc spent) (p ∷ plans) h n =
    ((let own = n.0 in omega arith), later given spent plans (omega arith) n.1)

all_spent : (given spent : ℕ) (plans : List Planned) → length plans ≤ spent → AreNumbered given spent plans
    → AreNumbered (given + 1) spent plans
all_spent given zero [] h n = tt
all_spent given zero (p ∷ plans) h n = absurd (omega arith)
all_spent given (suc spent) [] h n = absurd n
all_spent given (suc spent) (p ∷ plans) h n =
    ((let own = n.0 in omega arith), all_spent given spent plans (omega arith) n.1)

-- the place of the next fate that waits
pub record IsBehind (spent count next : ℕ) : Type 0 where
  pub inside : spent < count → next ≡ spent + 1
  pub outside : count ≤ spent → next ≡ spent

-- one more fate was given: the first that waits, if there is one
pub numbered_next : (given spent next : ℕ) (plans : List Planned) → AreNumbered given spent plans
    → IsBehind spent (length plans) next → AreNumbered (given + 1) next plans
numbered_next given spent next plans n b = elim (cases_lt spent (length plans)) [
  | inl in_it ↦ subst (λ k. AreNumbered (given + 1) k plans) (sym (b.inside in_it ∙ add-one spent)) (later given spent plans in_it n)
  | inr past ↦ subst (λ k. AreNumbered (given + 1) k plans) (sym (b.outside past)) (all_spent given spent plans past n)
]

drop_one_more : (spent : ℕ) (fates : List Fate) → drop (suc spent) fates ≡ drop 1 (drop spent fates)
drop_one_more zero fates = refl
drop_one_more (suc spent) [] = refl
drop_one_more (suc spent) (f ∷ fates) = drop_one_more spent fates

drop_past : (spent : ℕ) (fates : List Fate) → length fates ≤ spent → drop spent fates ≡ drop 1 (drop spent fates)
drop_past spent fates past = drop_of_length-le fates past ∙ sym (ap (drop 1) (drop_of_length-le fates past))

-- what waits then
pub drop_next : (spent next : ℕ) (plans : List Planned) → IsBehind spent (length plans) next
    → drop next (fates_of plans) ≡ drop 1 (drop spent (fates_of plans))
drop_next spent next plans b = elim (cases_lt spent (length plans)) [
  | inl in_it ↦ ap (λ k. drop k (fates_of plans)) (b.inside in_it ∙ add-one spent) ∙ drop_one_more spent (fates_of plans)
  | inr past ↦ ap (λ k. drop k (fates_of plans)) (b.outside past)
      ∙ drop_past spent (fates_of plans) (subst (λ n. n ≤ spent) (sym (length-map plans (λ p. p.fate))) past)
]

-- fates planned for messages behind one are none of those up to it
late : (number before : ℕ) (fates : List Fate) → number ≤ before → fate_at (numbered before fates) number ≡ Deliver
late number before [] h = refl
late number before (f ∷ fates) h = let rest = late number (before + 1) fates (omega arith) in grind (arith, nat_tests)

fate_at_append : (number : ℕ) (plans more : List Planned) → fate_at more number ≡ Deliver
    → fate_at (plans ++ more) number ≡ fate_at plans number
fate_at_append number [] more h = h
fate_at_append number (p ∷ plans) more h = ap (λ f. if p.number == number then p.fate else f) (fate_at_append number plans more h)

pub given_of_append : (given before : ℕ) (plans : List Planned) (fates : List Fate) → given ≤ before
    → given_of (plans ++ numbered before fates) given ≡ given_of plans given
given_of_append zero before plans fates h = refl
given_of_append (suc given) before plans fates h =
    let rest = given_of_append given before plans fates (omega arith) in
    let own = fate_at_append (suc given) plans (numbered before fates) (late (suc given) before fates h) in cc

numbered_alone : (before : ℕ) (fates : List Fate) → AreNumbered before zero (numbered before fates)
numbered_alone before [] = tt
numbered_alone before (f ∷ fates) = (refl, numbered_alone (before + 1) fates)

pub numbered_append : (given spent waiting : ℕ) (plans : List Planned) (fates : List Fate) → AreNumbered given spent plans
    → spent + waiting ≡ length plans → AreNumbered given spent (plans ++ numbered (given + waiting) fates)
numbered_append given zero waiting [] fates n e =
    subst (λ k. AreNumbered k zero (numbered (given + waiting) fates)) (let none : waiting ≡ 0 = omega arith in omega arith) (numbered_alone (given + waiting) fates)
numbered_append given zero waiting (p ∷ plans) fates n e = (
  n.0,
  subst (λ k. AreNumbered (given + 1) zero (plans ++ numbered k fates)) (omega arith)
      (numbered_append (given + 1) zero (waiting - 1) plans fates n.1 (omega arith)),
)
numbered_append given (suc spent) waiting [] fates n e = absurd n
numbered_append given (suc spent) waiting (p ∷ plans) fates n e =
    (n.0, numbered_append given spent waiting plans fates n.1 (omega arith))

fates_of_numbered : (before : ℕ) (fates : List Fate) → fates_of (numbered before fates) ≡ fates
fates_of_numbered before [] = refl
fates_of_numbered before (f ∷ fates) = ap (λ fs. f ∷ fs) (fates_of_numbered (before + 1) fates)

pub fates_of_append : (before : ℕ) (plans : List Planned) (fates : List Fate)
    → fates_of (plans ++ numbered before fates) ≡ fates_of plans ++ fates
fates_of_append before [] fates = fates_of_numbered before fates
fates_of_append before (p ∷ plans) fates = ap (λ fs. p.fate ∷ fs) (fates_of_append before plans fates)

pub length_given : (plans : List Planned) (given : ℕ) → length (given_of plans given) ≡ given
length_given plans zero = refl
length_given plans (suc given) = let rest = length_given plans given in let both = length-append (given_of plans given) (fate_at plans (suc given) ∷ []) in omega arith

-- a carrier as its fields make it
abbrev pub plan_of : List Planned → ℕ → ℕ → ℕ → Plan
plan_of plans given spent faults = record {
  given = given_of plans given;
  planned = fates_of plans;
  waiting = drop spent (fates_of plans);
  faults = faults;
}

-- the number of the next message
pub next_number : (plans : List Planned) (given spent faults number : ℕ) (p : Plan) → plan_of plans given spent faults ≡ p
    → number ≡ length p.given + 1 → number ≡ given + 1
next_number plans given spent faults number p e h =
    h ∙ ap (λ q. length q.given + 1) (sym e) ∙ ap (λ k. k + 1) (length_given plans given)

given_next : (plans : List Planned) (given spent : ℕ) (fate : Fate) → AreNumbered given spent plans
    → fate ≡ first_of (drop spent (fates_of plans)) → given_of plans (given + 1) ≡ given_of plans given ++ fate ∷ []
given_next plans given spent fate n e =
    ap (given_of plans) (add-one given)
    ∙ ap (λ f. given_of plans given ++ f ∷ []) (ap (fate_at plans) (sym (add-one given)) ∙ fate_at_next given spent plans n ∙ sym e)

-- the fates given after one more
pub given_after : (plans : List Planned) (given spent faults number : ℕ) (p : Plan) (fate : Fate)
    → plan_of plans given spent faults ≡ p → number ≡ length p.given + 1 → AreNumbered given spent plans
    → fate ≡ first_of (drop spent (fates_of plans)) → given_of plans number ≡ p.given ++ fate ∷ []
given_after plans given spent faults number p fate e h n f =
    ap (given_of plans) (next_number plans given spent faults number p e h)
    ∙ given_next plans given spent fate n f ∙ ap (λ q. q.given ++ fate ∷ []) e

-- the carrier after a fate was given
pub plan_after_fate : (plans : List Planned) (given spent faults number next counted : ℕ) (p : Plan) (fate : Fate)
    → plan_of plans given spent faults ≡ p → number ≡ length p.given + 1 → AreNumbered given spent plans
    → fate ≡ first_of (drop spent (fates_of plans)) → IsBehind spent (length plans) next
    → counted ≡ faults + (if is_fault fate then 1 else 0) → plan_of plans number next counted ≡ after_fate p fate
plan_after_fate plans given spent faults number next counted p fate e h n f b k =
    let all = given_after plans given spent faults number p fate e h n f in
    let rest = drop_next spent next plans b in cc

given_unchanged : (plans more : List Planned) (given waiting : ℕ) (p : Plan) (fates : List Fate)
    → more ≡ plans ++ numbered (given + waiting) fates → given_of more given ≡ given_of plans given
given_unchanged plans more given waiting p fates m =
    ap (λ ps. given_of ps given) m ∙ given_of_append given (given + waiting) plans fates (omega arith)

fates_after : (plans more : List Planned) (given waiting : ℕ) (fates : List Fate)
    → more ≡ plans ++ numbered (given + waiting) fates → fates_of more ≡ fates_of plans ++ fates
fates_after plans more given waiting fates m = ap fates_of m ∙ fates_of_append (given + waiting) plans fates

waits_after : (plans more : List Planned) (given spent waiting : ℕ) (fates : List Fate) → spent + waiting ≡ length plans
    → more ≡ plans ++ numbered (given + waiting) fates
    → drop spent (fates_of more) ≡ drop spent (fates_of plans) ++ fates
waits_after plans more given spent waiting fates w m =
    ap (drop spent) (fates_after plans more given waiting fates m)
    ∙ drop-append-le spent (fates_of plans) fates (let size = length-map plans (λ p. p.fate) in omega arith)

-- the invariant after further fates were planned
pub is_numbered_append : (given spent waiting faults : ℕ) (plans more : List Planned) (fates : List Fate)
    → IsNumbered given spent faults plans → spent + waiting ≡ length plans
    → more ≡ plans ++ numbered (given + waiting) fates → IsNumbered given spent faults more
is_numbered_append given spent waiting faults plans more fates i w m = record {
  numbered = subst (AreNumbered given spent) (sym m) (numbered_append given spent waiting plans fates i.numbered w);
  few = i.few;
}

-- and after fates were planned
pub plan_after_plan : (plans more : List Planned) (given spent waiting faults : ℕ) (p : Plan) (fates : List Fate)
    → plan_of plans given spent faults ≡ p → spent + waiting ≡ length plans
    → more ≡ plans ++ numbered (given + waiting) fates → plan_of more given spent faults ≡ after_plan p fates
plan_after_plan plans more given spent waiting faults p fates e w m =
    let same = given_unchanged plans more given waiting p fates m in
    let all = fates_after plans more given waiting fates m in
    let rest = waits_after plans more given spent waiting fates w m in cc

pub length_delivered : (count : ℕ) → length (delivered count) ≡ count
length_delivered zero = refl
length_delivered (suc count) =
    let rest = length_delivered count in let both = length-append (delivered count) (Deliver ∷ []) in omega arith

few_counted : (given faults number counted : ℕ) (fault : Bool) → faults ≤ given → number ≡ given + 1
    → counted ≡ faults + (if fault then 1 else 0) → counted ≤ number
few_counted given faults number counted true few e k = omega arith
few_counted given faults number counted false few e k = omega arith

-- the invariant after one fate more
pub is_numbered_next : (plans : List Planned) (given spent faults number next counted : ℕ) (fate : Fate)
    → IsNumbered given spent faults plans → number ≡ given + 1 → IsBehind spent (length plans) next
    → counted ≡ faults + (if is_fault fate then 1 else 0) → IsNumbered number next counted plans
is_numbered_next plans given spent faults number next counted fate i e b k = record {
  numbered = subst (λ g. AreNumbered g next plans) (sym e) (numbered_next given spent next plans i.numbered b);
  few = few_counted given faults number counted (is_fault fate) i.few e k;
}
