-- The operations under way, after an event of one of them or of none.
use Rattle.std.proofs.Common.{◌≡◌, ◌≢◌, ◌⊎◌, ℕ, true, List, [], ◌∷◌, ◌++◌, length, Option, Some, inl, inr, refl, sym, ap, ◌∙◌, subst, slice_get, slice_set}
use Rattle.std.specs.List.{remove}
use Rattle.std.proofs.lemmas.Bool.{cases_eq}
use Rattle.bucket_ids.specs.Buckets.{Low}
use Rattle.distributor_part.specs.declared.rules.Rules.{Rules}
use Rattle.lane_journals.specs.Facts.{AllClosed}
use Rattle.lane_journals.specs.Readers.{Beginning, began, closed}
use Rattle.lane_journals.specs.Meanings.{history}
use Rattle.lane_journals.specs.KeptJournals.{IsLegal}
use Rattle.lane_journals.specs.declared.event.LaneEvent.{LaneEvent}
use Rattle.lane_keeping.specs.LaneKeeping.{setting_of}
use Rattle.messages.specs.declared.operation.Operation.{Operation}
use Rattle.operation_keeping.specs.Others.{AreOthers}
use Rattle.lane_core.specs.declared.work.Job.{Job}
use Rattle.lane_core.specs.Works.{IsJob, PhaseLasts, AreJobs}
use Rattle.lane_core.proofs.Lasting.{job-lasts}
use Rattle.lane_core.proofs.Places.{get-set, get-set-cases, get-set-off, get-old, get-new, get-push-cases, skip, skip-off, skip-apart, skip-back, get-remove, get-one}

-- ---- none of them

no-item : (at : ℕ) (j : Job) → ◌≡◌ {A = Option Job} (slice_get [] at) (Some j) → ⊥
no-item at j h = cc

pub no-jobs : (lane : Low) (rules : Rules) (J : List LaneEvent) → AllClosed (history J) → AreJobs lane rules J []
no-jobs lane rules J all = record {
  each = λ at j h. absurd (no-item at j h);
  lasts = λ at j h. absurd (no-item at j h);
  lines_apart = λ a b j k h. absurd (no-item a j h);
  documents_apart = λ a b j k h. absurd (no-item a j h);
  others = λ line begin begun. inl (all line begin begun);
}

pub all-closed-of : (lane : Low) (rules : Rules) (J : List LaneEvent) → AreJobs lane rules J [] → AllClosed (history J)
all-closed-of lane rules J are line begin b = elim (are.others line begin b) [ inl over ↦ over | inr there ↦ absurd (no-item there.0 there.1 there.2) ]

-- ---- an event, or more

module _ (lane : Low) (rules : Rules) (J K : List LaneEvent) (jobs : List Job) (are : AreJobs lane rules J jobs) (before : IsLegal (setting_of lane rules) J) (legal : IsLegal (setting_of lane rules) K) where
  -- all but one go on as they are
  abbrev pub AreOthersBut : ℕ → Type 0
  AreOthersBut at = (b : ℕ) (m : Job) → slice_get jobs b ≡ Some m → b ≢ at → AreOthers m.line m.operation.id J K

  module _ (at : ℕ) (j : Job) (found : slice_get jobs at ≡ Some j) where
    pub off-line : (b : ℕ) (m : Job) → slice_get jobs b ≡ Some m → b ≢ at → j.line ≢ m.line
    off-line b m got off same = off (are.lines_apart b at m j got found (sym same))

    pub off-document : (b : ℕ) (m : Job) → slice_get jobs b ≡ Some m → b ≢ at → j.operation.id ≢ m.operation.id
    off-document b m got off same = off (are.documents_apart b at m j got found (sym same))

    -- ---- one of them is another

    module _ (k : Job) (line : k.line ≡ j.line) (operation : k.operation ≡ j.operation) (job : IsJob lane rules K k) (lasts : PhaseLasts k.left k.phase) (others : AreOthersBut at)
        (begins : (l : ℕ) → began l (history K) ≡ began l (history J)) (ends : (l : ℕ) → closed l (history K) ≡ closed l (history J)) where
      abbrev now : List Job
      now = slice_set jobs at k

      id : k.operation.id ≡ j.operation.id
      id = ap (λ (o : Operation). o.id) operation

      -- who is at a place was there, or is the one
      was-there : (R : Job → Job → Type 0) → R k j → ((m : Job) → R m m) → (b : ℕ) (m : Job) → slice_get now b ≡ Some m → (was : Job) × (slice_get jobs b ≡ Some was) × R m was
      was-there R one same b m h = elim (get-set-cases jobs at b k m h) [
        | inl here ↦ (j, subst (λ (i : ℕ). slice_get jobs i ≡ Some j) (sym here.0) found, subst (λ (x : Job). R x j) (sym here.1) one)
        | inr off ↦ (m, off.1, same m)
      ]

      pub jobs-set : AreJobs lane rules K now
      jobs-set = record {
        each = λ b m h. elim (get-set-cases jobs at b k m h) [
          | inl here ↦ subst (IsJob lane rules K) (sym here.1) job
          | inr off ↦ job-lasts lane rules J K before legal m (others b m off.1 off.0) (are.each b m off.1)
        ];
        lasts = λ b m h. elim (get-set-cases jobs at b k m h) [
          | inl here ↦ subst (λ (x : Job). PhaseLasts x.left x.phase) (sym here.1) lasts
          | inr off ↦ are.lasts b m off.1
        ];
        lines_apart = λ b c x y hb hc same.
            let p = was-there (λ m w. m.line ≡ w.line) line (λ m. refl) b x hb in
            let q = was-there (λ m w. m.line ≡ w.line) line (λ m. refl) c y hc in
            are.lines_apart b c p.0 q.0 p.1 q.1 (sym p.2 ∙ same ∙ q.2);
        documents_apart = λ b c x y hb hc same.
            let p = was-there (λ m w. m.operation.id ≡ w.operation.id) id (λ m. refl) b x hb in
            let q = was-there (λ m w. m.operation.id ≡ w.operation.id) id (λ m. refl) c y hc in
            are.documents_apart b c p.0 q.0 p.1 q.1 (sym p.2 ∙ same ∙ q.2);
        others = λ l begin b. elim (are.others l begin (sym (begins l) ∙ b)) [
          | inl over ↦ inl (ends l ∙ over)
          | inr there ↦ inr (still-there l there.0 there.1 there.2 there.3)
        ];
      }
        where
          still-there : (l p : ℕ) (m : Job) → slice_get jobs p ≡ Some m → m.line ≡ l → (b : ℕ) × (x : Job) × (slice_get now b ≡ Some x) × (x.line ≡ l)
          still-there l p m got is = elim (cases_eq p at) [
            | inl same ↦ (let one : m ≡ j = get-one jobs p m j got (subst (λ (i : ℕ). slice_get jobs i ≡ Some j) (sym same) found) in (at, k, get-set jobs at j k found, line ∙ ap (λ (x : Job). x.line) (sym one) ∙ is))
            | inr off ↦ (p, m, get-set-off jobs at p k m off got, is)
          ]

    -- ---- one of them is closed

    module _ (others : AreOthersBut at) (begins : (l : ℕ) → began l (history K) ≡ began l (history J)) (ends : (l : ℕ) → closed l (history J) ≡ true → closed l (history K) ≡ true) (over : closed j.line (history K) ≡ true) where
      there-before : (b : ℕ) (m : Job) → slice_get (remove jobs at) b ≡ Some m → slice_get jobs (skip at b) ≡ Some m
      there-before b m h = sym (get-remove jobs at b) ∙ h

      pub jobs-remove : AreJobs lane rules K (remove jobs at)
      jobs-remove = record {
        each = λ b m h. job-lasts lane rules J K before legal m (others (skip at b) m (there-before b m h) (skip-off at b)) (are.each (skip at b) m (there-before b m h));
        lasts = λ b m h. are.lasts (skip at b) m (there-before b m h);
        lines_apart = λ b c x y hb hc same. skip-apart at b c (are.lines_apart (skip at b) (skip at c) x y (there-before b x hb) (there-before c y hc) same);
        documents_apart = λ b c x y hb hc same. skip-apart at b c (are.documents_apart (skip at b) (skip at c) x y (there-before b x hb) (there-before c y hc) same);
        others = λ l begin b. elim (are.others l begin (sym (begins l) ∙ b)) [
          | inl was ↦ inl (ends l was)
          | inr there ↦ left-there l there.0 there.1 there.2 there.3
        ];
      }
        where
          left-there : (l p : ℕ) (m : Job) → slice_get jobs p ≡ Some m → m.line ≡ l → (closed l (history K) ≡ true) ⊎ ((b : ℕ) × (x : Job) × (slice_get (remove jobs at) b ≡ Some x) × (x.line ≡ l))
          left-there l p m got is = elim (cases_eq p at) [
            | inl same ↦ (let one : m ≡ j = get-one jobs p m j got (subst (λ (i : ℕ). slice_get jobs i ≡ Some j) (sym same) found) in
                inl (subst (λ (z : ℕ). closed z (history K) ≡ true) (ap (λ (x : Job). x.line) (sym one) ∙ is) over))
            | inr off ↦ (let s = skip-back at p off in inr (s.0, m, get-remove jobs at s.0 ∙ ap (slice_get jobs) s.1 ∙ got, is))
          ]

  -- ---- one more begins

  module _ (k : Job) (job : IsJob lane rules K k) (lasts : PhaseLasts k.left k.phase) (others : (b : ℕ) (m : Job) → slice_get jobs b ≡ Some m → AreOthers m.line m.operation.id J K)
      (fresh : (b : ℕ) (m : Job) → slice_get jobs b ≡ Some m → m.line ≡ k.line → ⊥) (free : (b : ℕ) (m : Job) → slice_get jobs b ≡ Some m → m.operation.id ≡ k.operation.id → ⊥)
      (begins : (l : ℕ) (begin : Beginning) → began l (history K) ≡ Some begin → (began l (history J) ≡ Some begin) ⊎ (k.line ≡ l)) (ends : (l : ℕ) → closed l (history J) ≡ true → closed l (history K) ≡ true) where
    apart-by : (R : Job → Job → Type 0) → ((b c : ℕ) (x y : Job) → slice_get jobs b ≡ Some x → slice_get jobs c ≡ Some y → R x y → b ≡ c) → ((b : ℕ) (m : Job) → slice_get jobs b ≡ Some m → R m k → ⊥) → ((x y : Job) → R x y → R y x)
        → (b c : ℕ) (x y : Job) → slice_get (jobs ++ k ∷ []) b ≡ Some x → slice_get (jobs ++ k ∷ []) c ≡ Some y → R x y → b ≡ c
    apart-by R apart off back b c x y hb hc r = elim (get-push-cases jobs k b x hb) [
      | inl p ↦ elim (get-push-cases jobs k c y hc) [
        | inl q ↦ apart b c x y p q r
        | inr new ↦ absurd (off b x p (subst (λ (z : Job). R x z) new.1 r))
      ]
      | inr new ↦ elim (get-push-cases jobs k c y hc) [
        | inl q ↦ absurd (off c y q (back k y (subst (λ (z : Job). R z y) new.1 r)))
        | inr too ↦ new.0 ∙ sym too.0
      ]
    ]

    pub jobs-push : AreJobs lane rules K (jobs ++ k ∷ [])
    jobs-push = record {
      each = λ b m h. elim (get-push-cases jobs k b m h) [
        | inl old ↦ job-lasts lane rules J K before legal m (others b m old) (are.each b m old)
        | inr new ↦ subst (IsJob lane rules K) (sym new.1) job
      ];
      lasts = λ b m h. elim (get-push-cases jobs k b m h) [
        | inl old ↦ are.lasts b m old
        | inr new ↦ subst (λ (x : Job). PhaseLasts x.left x.phase) (sym new.1) lasts
      ];
      lines_apart = apart-by (λ x y. x.line ≡ y.line) are.lines_apart fresh (λ x y e. sym e);
      documents_apart = apart-by (λ x y. x.operation.id ≡ y.operation.id) are.documents_apart free (λ x y e. sym e);
      others = λ l begin b. elim (begins l begin b) [
        | inl old ↦ elim (are.others l begin old) [
          | inl over ↦ inl (ends l over)
          | inr there ↦ inr (there.0, there.1, get-old jobs k there.0 there.1 there.2, there.3)
        ]
        | inr new ↦ inr (length jobs, k, get-new jobs k, new)
      ];
    }

  -- ---- nothing of them

  pub jobs-still : ((b : ℕ) (m : Job) → slice_get jobs b ≡ Some m → AreOthers m.line m.operation.id J K) → ((l : ℕ) → began l (history K) ≡ began l (history J)) → ((l : ℕ) → closed l (history K) ≡ closed l (history J)) → AreJobs lane rules K jobs
  jobs-still others begins ends = record {
    each = λ b m h. job-lasts lane rules J K before legal m (others b m h) (are.each b m h);
    lasts = are.lasts;
    lines_apart = are.lines_apart;
    documents_apart = are.documents_apart;
    others = λ l begin b. elim (are.others l begin (sym (begins l) ∙ b)) [ inl over ↦ inl (ends l ∙ over) | inr there ↦ inr there ];
  }
