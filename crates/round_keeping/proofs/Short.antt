-- Whom an operation names that ends for want of copies, after a round.
use Rattle.std.proofs.Common.{◌≡◌, ◌&&◌, not, ℕ, zero, suc, ◌+◌, Bool, true, false, cond, List, Option, Some, None, is_some, refl, sym, ap, ap₂, ◌∙◌, subst, add_comm}
use mathlib.Core.Bool.{true≢false}
use Rattle.bucket_ids.specs.Buckets.{Low}
use Rattle.node_sets.specs.Members.{has_node, size_of, size_below}
use Rattle.cluster_states.specs.declared.cluster_state.ClusterState.{ClusterState}
use Rattle.cluster_states.specs.Publishing.{serves}
use Rattle.bucket_db.specs.declared.row.Row.{Row}
use Rattle.merge_rounds.specs.Rounds.{RoundState, did_show}
use Rattle.lane_journals.specs.Sets.{count_below, count}
use Rattle.lane_journals.specs.Buckets.{contains}
use Rattle.lane_journals.specs.Readers.{Journal, Given, answer, round_of}
use Rattle.lane_journals.specs.States.{state_of}
use Rattle.lane_journals.specs.Endings.{FellShort, RoundFellShort, UnionFellShort}
use Rattle.lane_journals.specs.Meanings.{history}
use Rattle.lane_journals.specs.Places.{Setting, state_in}
use Rattle.lane_journals.specs.KeptJournals.{IsLegal}
use Rattle.lane_journals.specs.declared.event.LaneEvent.{LaneEvent}
use Rattle.lane_journals.proofs.Meant.{state-serves}
use Rattle.lane_keeping.specs.RoundKeeping.{KnowsAnswers}
use Rattle.round_keeping.specs.Laws.{AreUnshown, HasTooFew}

-- ---- sizes

size_below-count : (set : ℕ) (p : ℕ → Bool) → ((n : ℕ) → has_node set n ≡ p n) → (k : ℕ) → size_below set k ≡ count_below p k
unfolding size_below count_below
size_below-count set p same zero = refl
size_below-count set p same (suc k) = ap₂ (λ a b. a + cond b 1 0) (size_below-count set p same k) (same k) ∙ add_comm (count_below p k) (cond (p k) 1 0)

pub size_of-count : (set : ℕ) (p : ℕ → Bool) → ((n : ℕ) → has_node set n ≡ p n) → size_of set ≡ count p
unfolding size_of count
size_of-count set p same = size_below-count set p same 32

same-count_below : (p q : ℕ → Bool) → ((n : ℕ) → p n ≡ q n) → (k : ℕ) → count_below p k ≡ count_below q k
unfolding count_below
same-count_below p q same zero = refl
same-count_below p q same (suc k) = ap₂ (λ a b. cond a 1 0 + b) (same k) (same-count_below p q same k)

same-count : (p q : ℕ → Bool) → ((n : ℕ) → p n ≡ q n) → count p ≡ count q
unfolding count
same-count p q same = same-count_below p q same 32

-- ---- tests

-- who serves and isn't missing was shown
unmissed : (a w : Bool) → (a && not (a && not w)) ≡ (a && w)
unmissed true true = refl
unmissed true false = refl
unmissed false w = refl

first : (a b : Bool) → (a && b) ≡ true → a ≡ true
first true b h = refl
first false b h = h

second : (a b : Bool) → (a && b) ≡ true → b ≡ true
second true b h = h
second false b h = absurd (true≢false (sym h))

both : (a b : Bool) → a ≡ true → b ≡ true → (a && b) ≡ true
both a b h k = rw (h, k) refl

unset : (t : Bool) → not t ≡ true → t ≡ false
unset true h = absurd (true≢false (sym h))
unset false h = refl

some-is : {A : Type 0} (o : Option A) → is_some o ≡ true → (x : A) × (o ≡ Some x)
some-is None h = absurd (true≢false (sym h))
some-is (Some x) h = (x, refl)

module _ (S : Setting) (J : List LaneEvent) (l : IsLegal S J) (s : ClusterState) (at : state_in s.version J ≡ Some s) (r : RoundState) (know : KnowsAnswers J s r) where
  abbrev H : Journal
  H = history J

  abbrev v : ℕ
  v = s.version

  abbrev number : ℕ
  number = round_of v r.row H

  abbrev Gave : ℕ → Type 0
  Gave n = (g : Given) × (answer v number n H ≡ Some g)

  serving : (n : ℕ) → state_of H v n ≡ serves s n
  serving n = state-serves S J l v n s at

  gave : (n : ℕ) → did_show n r.shown ≡ true → Gave n
  gave n h = some-is (answer v number n H) (sym (know.shown_are n) ∙ h)

  was-shown : (n : ℕ) → Gave n → did_show n r.shown ≡ true
  was-shown n g = know.shown_are n ∙ ap is_some g.1

  abbrev shows : ℕ → Bool
  shows n = serves s n && did_show n r.shown

  fell : (absent : ℕ) → serves s absent ≡ true → did_show absent r.shown ≡ false → FellShort (λ n. state_of H v n ≡ true) Gave (count shows) absent
  fell absent serve unshown = (
    (
      shows,
      refl,
      λ n. (
        λ h. (serving n ∙ first (serves s n) (did_show n r.shown) h, gave n (second (serves s n) (did_show n r.shown) h)),
        λ h. both (serves s n) (did_show n r.shown) (sym (serving n) ∙ h.0) (was-shown n h.1),
      ),
    ),
    serving absent ∙ serve,
    λ g. true≢false (sym (was-shown absent g) ∙ unshown),
  )

  short : (answered needed absent : ℕ) → answered ≡ count shows → needed ≡ count (λ n. state_of H v n) → serves s absent ≡ true → did_show absent r.shown ≡ false → RoundFellShort H v r.row answered needed absent
  short answered needed absent many all serve unshown = (all, subst (λ (k : ℕ). FellShort (λ n. state_of H v n ≡ true) Gave k absent) (sym many) (fell absent serve unshown))

  pub counted-short : (absent : ℕ) → serves s absent ≡ true → did_show absent r.shown ≡ false → RoundFellShort H v r.row (count shows) (count (serves s)) absent
  counted-short absent = short (count shows) (count (serves s)) absent refl (same-count (serves s) (λ n. state_of H v n) (λ n. sym (serving n)))

  module _ (missing shown absent : ℕ) (are : AreUnshown s r missing shown) (unseen : has_node missing absent ≡ true) where
    shown-is : (n : ℕ) → has_node shown n ≡ shows n
    shown-is n = are.shown_are n ∙ ap (λ (t : Bool). serves s n && not t) (are.missing_are n) ∙ unmissed (serves s n) (did_show n r.shown)

    is-missing : (serves s absent && not (did_show absent r.shown)) ≡ true
    is-missing = sym (are.missing_are absent) ∙ unseen

    pub reads-short : (all : ℕ) → ((n : ℕ) → has_node all n ≡ serves s n) → RoundFellShort H v r.row (size_of shown) (size_of all) absent
    reads-short all same = short (size_of shown) (size_of all) absent (size_of-count shown shows shown-is) (size_of-count all (λ n. state_of H v n) (λ n. same n ∙ sym (serving n)))
        (first (serves s absent) (not (did_show absent r.shown)) is-missing) (unset (did_show absent r.shown) (second (serves s absent) (not (did_show absent r.shown)) is-missing))

  pub applies-short : (key absent : ℕ) (row : Row) → HasTooFew S.acks J s r key row absent → UnionFellShort S J v key r.row (size_of row.complete) S.acks absent
  applies-short key absent row h =
      let inside = subst (λ (b : Low). contains b key ≡ true) (sym h.same_bucket) h.inside in (
        refl,
        h.few,
        (has_node row.complete, sym (size_of-count row.complete (has_node row.complete) (λ n. refl)), λ n. (λ e. (h.known).members n key inside ∙ e, λ e. sym ((h.known).members n key inside) ∙ e)),
        (r.receivers, know.receivers_are, h.receiver),
        λ a. true≢false (sym ((know.holders_are absent).1 a) ∙ h.no_holder),
      )
