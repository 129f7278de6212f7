-- The union of a round, answer by answer.
use Rattle.std.proofs.Common.{◌≡◌, ◌==◌, ◌||◌, inl, inr, ℕ, Bool, true, false, cond, ◌∷◌, Option, Some, None, refl, sym, ap, ◌∙◌, eqb, eqb-true}
use mathlib.Core.Bool.{true≢false}
use Rattle.std.specs.FinMap as fin
use Rattle.std.specs.FinMap.{get-empty}
use Rattle.documents.specs.EntryCodes.{id_cmp}
use Rattle.entry_maps.specs.EntryCodes.{Entries}
use Rattle.documents.specs.declared.entry.Entry.{Entry}
use Rattle.entry_maps.specs.Entries.{in_bucket, newer_of, is_newer}
use Rattle.entry_maps.specs.Joins.{joined}
use Rattle.entry_maps.proofs.JoinLaws.{get-joined}
use Rattle.replica_store.specs.Replicas.{LieIn}
use Rattle.lane_journals.specs.Stamps.{Stamp, Le, newer}
use Rattle.lane_journals.specs.Buckets.{Bucket, Id}
use Rattle.lane_journals.specs.Events.{Event}
use Rattle.lane_journals.specs.Readers.{Journal, Given, answer, running, round_of}
use Rattle.lane_journals.specs.Legal.{MayUnite}
use Rattle.lane_journals.proofs.Basics.{answer-stays}
use Rattle.lane_journals.proofs.Order.{Le_trans, Le-at, Le-from, newer-left, newer-right, newer-either}
use Rattle.lane_keeping.specs.NodeKeeping.{stamp_of}
use Rattle.lane_keeping.specs.Unions.{Gave, IsUnion}
use Rattle.lane_keeping.proofs.Sending.{stamps-join}

pub union-begins : (v r : ℕ) (H : Journal) → IsUnion v r H (λ n. false) fin.empty
union-begins v r H = record {
  covers = λ n e. absurd (true≢false (sym e));
  attained = λ id s e. let none = sym (ap stamp_of (get-empty id_cmp id)) ∙ e in cc;
}

pub union-stays : (v r : ℕ) (H : Journal) (e : Event) (did : ℕ → Bool) (u : Entries) → IsUnion v r H did u → IsUnion v r (e ∷ H) did u
union-stays v r H e did u h = record {
  covers = λ n d. let c = h.covers n d in (c.0, answer-stays v r n H c.0 e c.1, c.2);
  attained = λ id s f. let a = h.attained id s f in (a.0, a.1, answer-stays v r a.0 H a.1 e a.2, a.3);
}

pub union-joins : (v r : ℕ) (H : Journal) (did : ℕ → Bool) (u : Entries) (n : ℕ) (g : Given) (es : Entries) → IsUnion v r H did u → answer v r n H ≡ Some g → Gave g es → IsUnion v r H (λ m. m == n || did m) (joined u es)
union-joins v r H did u n g es h given gave = record { covers = λ m d. covered m (eqb m n) refl d; attained = λ id s f. attained id s f }
  where
    new : (id : Id) → stamp_of (fin.get (joined u es) id) ≡ newer (stamp_of (fin.get es id)) (stamp_of (fin.get u id))
    new id = stamps-join u es id

    covered : (m : ℕ) (t : Bool) → eqb m n ≡ t → (t || did m) ≡ true → (x : Given) × (answer v r m H ≡ Some x) × ((id : Id) → Le (x.content id) (stamp_of (fin.get (joined u es) id)))
    covered m true e d = (
      g,
      ap (λ i. answer v r i H) (eqb-true m n e) ∙ given,
      λ id. Le-from (g.content id) (stamp_of (fin.get es id)) _ (gave id) (Le-at (stamp_of (fin.get es id)) _ _ (new id) (newer-left (stamp_of (fin.get es id)) (stamp_of (fin.get u id)))),
    )
    covered m false e d =
        let c = h.covers m d in (
          c.0,
          c.1,
          λ id. Le-at ((c.0).content id) _ _ (new id) (Le_trans _ _ _ (c.2 id) (newer-right (stamp_of (fin.get es id)) (stamp_of (fin.get u id)))),
        )

    attained : (id : Id) (s : Stamp) → stamp_of (fin.get (joined u es) id) ≡ Some s → (m : ℕ) × (x : Given) × (answer v r m H ≡ Some x) × (x.content id ≡ Some s)
    attained id s f = elim (newer-either (stamp_of (fin.get es id)) (stamp_of (fin.get u id))) [
      | inl one ↦ (n, g, given, gave id ∙ sym one ∙ sym (new id) ∙ f)
      | inr two ↦ h.attained id s (sym two ∙ sym (new id) ∙ f)
    ]

pub union-unites : (P : ℕ → ℕ → Bool) (H : Journal) (v : ℕ) (b : Bucket) (did : ℕ → Bool) (u : Entries) → running v b H ≡ true → IsUnion v (round_of v b H) H did u → ((n : ℕ) → P v n ≡ true → did n ≡ true) → MayUnite P H v b (λ id. stamp_of (fin.get u id))
union-unites P H v b did u under_way h all = record {
  under_way = under_way;
  covers = λ n p. h.covers n (all n p);
  attained = h.attained;
}

pub union-lies : (b : Bucket) (u es : Entries) → LieIn b u → LieIn b es → LieIn b (joined u es)
union-lies b u es h k id e g = by_other (fin.get es id) refl (sym (get-joined u es id) ∙ g)
  where
    by_newer : (t : Bool) (x : Entry) → fin.get es id ≡ Some x → cond t (Some x) (fin.get u id) ≡ Some e → in_bucket b id ≡ true
    by_newer true x f i = k id e (f ∙ i)
    by_newer false x f i = h id e i

    by_other : (o : Option Entry) → fin.get es id ≡ o → newer_of (fin.get u id) o ≡ Some e → in_bucket b id ≡ true
    by_other None f i = h id e i
    by_other (Some x) f i = by_newer (is_newer x (fin.get u id)) x f i
