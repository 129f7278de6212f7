-- Rows as their last round left them: the targets are complete, and only they took its union. So they stay when the
-- active node is decided and when others lose their marks.
use Rattle.std.proofs.Common.{◌≡◌, ◌==◌, ◌&&◌, ◌||◌, not, ◌≤◌, ℕ, Bool, true, false, cond, List, filter, Option, Some, None, refl, sym, ap, ◌∙◌, subst, arith, eqb-true, nat_le, inl, inr}
use Rattle.bucket_ids.specs.Buckets.{Low}
use Rattle.lane_journals.specs.Sets.{count}
use Rattle.lane_journals.specs.Readers.{or_else}
use Rattle.lane_rest.specs.Targets.{is_active}
use Rattle.pass_model.specs.Nodes.{Node}
use Rattle.pass_model.specs.Rows.{Settings, Row, is_first, is_target, is_searched, round_row}
use Rattle.pass_model.specs.Settling.{first_in, to_be_active, is_asked, are_enough, does_delete}
use Rattle.pass_model.specs.Resting.{AreSettings}
use Rattle.proof_basics.proofs.Tests.{or_true, or_left, or_right, is_false, clash}
use Rattle.pass_model.proofs.Settling.{member-take, member-filter, best-is-first}
use Rattle.pass_model.specs.Turns.{decided, if_answered, unmarked, accepted_if}
use Rattle.pass_model.specs.Orders.{ActiveServes}

pub record IsRounded (s : Settings) (r : Row) : Type 0 where
  pub complete : (n : ℕ) → is_target s r n ≡ true → r.complete n ≡ true
  pub held : (n : ℕ) → r.holders n ≡ true → is_target s r n ≡ true

pub round-rounded : (s : Settings) (r : Row) (ns : ℕ → Node) → IsRounded s (round_row s r ns)
round-rounded s r ns = record { complete = λ n h. or_left (is_target s r n) (r.complete n) h; held = λ n h. h }

pub accepted-rounded : (s : Settings) (answered : Bool) (r : Row) → IsRounded s r → IsRounded s (accepted_if answered r)
accepted-rounded s answered r d = record { complete = d.complete; held = d.held }

pub unmarked-rounded : (s : Settings) (k : ℕ) (r : Row) → IsRounded s r → is_target s r k ≡ false → IsRounded s (unmarked k r)
unmarked-rounded s k r d out = record { complete = λ n h. by_test n h (n == k) refl; held = d.held }
  where
    by_test : (n : ℕ) → is_target s r n ≡ true → (t : Bool) → (n == k) ≡ t → (r.complete n && not (n == k)) ≡ true
    by_test n h true e = clash h (ap (λ m. is_target s r m) (eqb-true n k e) ∙ out)
    by_test n h false e = ap (λ t. r.complete n && not t) e ∙ ap (λ t. t && true) (d.complete n h)

-- a node that lost its mark didn't take the union, so the others stay enough
pub unmarked-enough : (s : Settings) (k : ℕ) (r : Row) → IsRounded s r → is_target s r k ≡ false → (n : ℕ) → are_enough s (unmarked k r) n ≡ are_enough s r n
unmarked-enough s k r d out n = ap (λ (p : ℕ → Bool). nat_le s.acks (count p)) (λ i m. same m i)
  where
    none : r.holders k ≡ false
    none = is_false (r.holders k) (λ h. clash (d.held k h) out)

    by_tests : (c h o t : Bool) → (t ≡ true → h ≡ false) → (c && not t && h && o) ≡ (c && h && o)
    by_tests true true o true f = let bad : true ≡ false = f refl in cc
    by_tests true false o true f = refl
    by_tests true h o false f = refl
    by_tests false h o t f = refl

    same : (m : ℕ) → (r.complete m && not (m == k) && r.holders m && not (m == n)) ≡ (r.complete m && r.holders m && not (m == n))
    same m = by_tests (r.complete m) (r.holders m) (not (m == n)) (m == k) (λ e. ap (λ l. r.holders l) (eqb-true m k e) ∙ none)

pub unmarked-deletes : (s : Settings) (k : ℕ) (r : Row) → IsRounded s r → is_target s r k ≡ false → (n : ℕ) → does_delete s (unmarked k r) n ≡ does_delete s r n
unmarked-deletes s k r d out n = ap (λ t. s.serving n && not (is_target s r n) && t) (unmarked-enough s k r d out n)

module _ (s : Settings) (sound : AreSettings s) where
  pub not-serving : (n : ℕ) → 32 ≤ n → s.serving n ≡ false
  not-serving n le = is_false (s.serving n) (λ h. let less = sound.few n h in absurd (omega (arith, le, less)))

  pub target-serves : (r : Row) → ActiveServes s r → (n : ℕ) → is_target s r n ≡ true → s.serving n ≡ true
  target-serves r a n h = elim (or_true (is_first s r.bucket n) (is_active r.active n) h) [ inl first ↦ sound.serving r.bucket n first | inr active ↦ a n active ]

  best-first : (b : Low) → is_first s b (sound.best b) ≡ true
  best-first b = best-is-first s sound (λ id. None) b

  module _ (r : Row) (d : IsRounded s r) where
    abbrev best : ℕ
    best = sound.best r.bucket

    best-target : is_target s r best ≡ true
    best-target = or_left (is_first s r.bucket best) (is_active r.active best) (best-first r.bucket)

    first-found : first_in (s.ideal r.bucket) r.complete ≡ Some best
    first-found =
        let e = sound.best_first r.bucket in
        subst (λ (l : List ℕ). first_in l r.complete ≡ Some best) (sym e.1) (ap (λ t. cond t (Some best) (first_in e.0 r.complete)) (d.complete best best-target))

    -- the node that is to be active is a target
    pub chosen-target : (n : ℕ) → is_active (to_be_active s r) n ≡ true → is_target s r n ≡ true
    chosen-target n h = by_active r.active refl
      where
        by_active : (a : Option ℕ) → r.active ≡ a → is_target s r n ≡ true
        by_active (Some x) e =
            let same = ap (λ o. or_else o (first_in (s.ideal r.bucket) r.complete)) e in
            or_right (is_first s r.bucket n) (is_active r.active n) (subst (λ o. is_active o n ≡ true) (same ∙ sym e) h)
        by_active None e =
            let same = ap (λ o. or_else o (first_in (s.ideal r.bucket) r.complete)) e ∙ first-found in
            subst (λ m. is_target s r m ≡ true) (eqb-true best n (subst (λ o. is_active o n ≡ true) same h)) best-target

    -- and so are all that are asked to be ready
    pub asked-target : (n : ℕ) → is_asked s r n ≡ true → is_target s r n ≡ true
    asked-target n h = elim (or_true (is_searched s r n) (is_active (to_be_active s r) n) h) [
      | inl first ↦ member-filter (is_target s r) (s.ideal r.bucket) n (member-take s.searchable (filter (is_target s r) (s.ideal r.bucket)) n first)
      | inr active ↦ chosen-target n active
    ]

    -- no node becomes a target by the decision, and none ceases to be one
    pub decided-target : (ready : Bool) (n : ℕ) → is_target s (decided s ready r) n ≡ is_target s r n
    decided-target ready n = by_active r.active refl
      where
        by_best : (t : Bool) → (best == n) ≡ t → (is_first s r.bucket n || t) ≡ (is_first s r.bucket n || false)
        by_best true e = let first : is_first s r.bucket n ≡ true = subst (λ m. is_first s r.bucket m ≡ true) (eqb-true best n e) (best-first r.bucket) in ap (λ t. t || true) first ∙ sym (ap (λ t. t || false) first)
        by_best false e = refl

        by_ready : (t : Bool) → (is_first s r.bucket n || is_active (if_answered t (Some best)) n) ≡ (is_first s r.bucket n || false)
        by_ready true = by_best (best == n) refl
        by_ready false = refl

        by_active : (a : Option ℕ) → r.active ≡ a → is_target s (decided s ready r) n ≡ is_target s r n
        by_active (Some x) e = ap (λ o. is_first s r.bucket n || is_active (or_else o (if_answered ready (to_be_active s r))) n) e ∙ sym (ap (λ o. is_first s r.bucket n || is_active o n) e)
        by_active None e =
            let same : to_be_active s r ≡ Some best = ap (λ o. or_else o (first_in (s.ideal r.bucket) r.complete)) e ∙ first-found in
            ap (λ o. is_first s r.bucket n || is_active (or_else o (if_answered ready (to_be_active s r))) n) e
            ∙ (ap (λ o. is_first s r.bucket n || is_active (if_answered ready o) n) same
            ∙ (by_ready ready ∙ sym (ap (λ o. is_first s r.bucket n || is_active o n) e)))

    pub decided-rounded : (ready : Bool) → IsRounded s (decided s ready r)
    decided-rounded ready = record {
      complete = λ n h. d.complete n (sym (decided-target ready n) ∙ h);
      held = λ n h. decided-target ready n ∙ d.held n h;
    }

    pub decided-serves : (ready : Bool) → ActiveServes s r → ActiveServes s (decided s ready r)
    decided-serves ready a n h =
        target-serves r a n (sym (decided-target ready n) ∙ or_right (is_first s r.bucket n) (is_active (decided s ready r).active n) h)
