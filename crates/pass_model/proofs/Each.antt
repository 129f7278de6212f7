-- The same step at each row, one after the other.
use Rattle.std.proofs.Common.{◌≡◌, ◌||◌, ℕ, Bool, false, List, [], ◌∷◌, refl, sym, ap, ap₂, ◌∙◌, subst, ◌⊎◌, inl, inr}
use Rattle.std.specs.List.{list_any}
use Rattle.bucket_ids.specs.Buckets.{Low, IsBucket}
use Rattle.pass_model.specs.Nodes.{Node}
use Rattle.pass_model.specs.Rows.{Row, Settings}
use Rattle.pass_model.specs.Settling.{Place}
use Rattle.pass_model.specs.Passes.{AllRows, In, World, and_then, each_row}
use Rattle.pass_model.specs.Resting.{AreApart, IsRow, IsUnion}
use Rattle.pieces.specs.Pieces.{meets}
use Rattle.lane_journals.specs.Events.{Content}
use Rattle.proof_basics.proofs.Tests.{or_false}
use Rattle.pass_model.proofs.Geometry.{apart-sym}
use Rattle.pass_model.proofs.Rows.{AllGood, Frames, frames-refl, frames-trans, frames-row}
use Rattle.pass_model.proofs.Aligning.{Fine}
use Rattle.pass_model.proofs.Lists.{all-frames}

module _ (s : Settings) (U : Content) (f : Place → Place) (Pre Post : (ℕ → Node) → Row → Type 0) (Like : Row → Row → Type 0) where
  -- what a step does for its row, and leaves of the others
  pub record Stepper : Type 0 where
    pub bucket : (x : Place) → (f x).row.bucket ≡ x.row.bucket
    pub does : (x : Place) → Fine s U x.nodes x.row → Pre x.nodes x.row → Fine s U (f x).nodes (f x).row × Post (f x).nodes (f x).row × Like x.row (f x).row
    pub frames : (x : Place) (c : Low) → IsBucket c → IsBucket x.row.bucket → meets c x.row.bucket ≡ false → AllGood x.nodes → Frames c x.nodes (f x).nodes
    pub before : (ns ms : ℕ → Node) (r : Row) → IsBucket r.bucket → Frames r.bucket ns ms → Pre ns r → Pre ms r
    pub after : (ns ms : ℕ → Node) (r : Row) → IsBucket r.bucket → Frames r.bucket ns ms → Post ns r → Post ms r

  pub record Went (ns : ℕ → Node) (rows : List Row) (w : World) : Type 0 where
    pub good : AllGood w.nodes
    pub union : IsUnion s U w.nodes
    pub rows_are : AllRows (IsRow s w.nodes) w.rows
    pub post : AllRows (Post w.nodes) w.rows
    pub apart : AreApart w.rows
    pub same : (T : Low → Bool) → list_any (λ q. T q.bucket) w.rows ≡ list_any (λ q. T q.bucket) rows
    pub frames : (c : Low) → IsBucket c → list_any (λ q. meets q.bucket c) rows ≡ false → Frames c ns w.nodes
    pub from : (y : Row) → In y w.rows → (r : Row) × In r rows × Like r y

  pub went : Stepper → (ns : ℕ → Node) (rows : List Row) → AllGood ns → IsUnion s U ns → AllRows (IsRow s ns) rows → AreApart rows → AllRows (Pre ns) rows → Went ns rows (each_row f ns rows)
  went step ns [] good union rows apart pre = record { good = good; union = union; rows_are = tt; post = tt; apart = tt; same = λ T. refl; frames = λ c ok none. frames-refl c ns; from = λ y i. absurd i }
  went step ns (r ∷ rs) good union rows apart pre =
      let x : Place = record { nodes = ns; row = r } in
      let d = step.does x (record { good = good; union = union; row = rows.0 }) pre.0 in
      let ms = (f x).nodes in
      let f_here : (c : Low) → IsBucket c → meets c r.bucket ≡ false → Frames c ns ms = λ c ok m. step.frames x c ok apart.1 m good in
      finish x d refl (went step ms rs d.0.good d.0.union
      (all-frames (IsRow s) r.bucket ns ms (λ q ok g h. frames-row s U ns ms q ok g h) f_here rs apart.0 apart.2 rows.1) apart.2
      (all-frames Pre r.bucket ns ms (λ q ok g h. step.before ns ms q ok g h) f_here rs apart.0 apart.2 pre.1))
    where
      finish : (x : Place) → Fine s U (f x).nodes (f x).row × Post (f x).nodes (f x).row × Like x.row (f x).row → record { nodes = ns; row = r } ≡ x → Went (f x).nodes rs (each_row f (f x).nodes rs)
          → Went ns (r ∷ rs) (and_then (f x) (λ ls. each_row f ls rs))
      finish x d e w =
          let same_row : (f x).row.bucket ≡ r.bucket = step.bucket x ∙ ap (λ (y : Place). y.row.bucket) (sym e) in
          let ok = subst IsBucket (sym same_row) apart.1 in
          let f_rest = subst (λ b. Frames b (f x).nodes (each_row f (f x).nodes rs).nodes) (sym same_row) (w.frames r.bucket apart.1 apart.0) in
          record {
            good = w.good;
            union = w.union;
            rows_are = (frames-row s U (f x).nodes (each_row f (f x).nodes rs).nodes (f x).row ok f_rest d.0.row, w.rows_are);
            post = (step.after (f x).nodes (each_row f (f x).nodes rs).nodes (f x).row ok f_rest d.1, w.post);
            apart = (subst (λ b. list_any (λ q. meets q.bucket b) (each_row f (f x).nodes rs).rows ≡ false) (sym same_row) (w.same (λ b. meets b r.bucket) ∙ apart.0), ok, w.apart);
            same = λ T. ap₂ (λ u v. u || v) (ap T same_row) (w.same T);
            frames = λ c okc none.
                let o = or_false (meets r.bucket c) (list_any (λ q. meets q.bucket c) rs) none in
                frames-trans c ns (f x).nodes (each_row f (f x).nodes rs).nodes
                (subst (λ (y : Place). Frames c ns (f y).nodes) e (step.frames (record { nodes = ns; row = r }) c okc apart.1 (apart-sym r.bucket c o.0) good))
                (w.frames c okc o.1);
            from = λ y i. by_place y i;
          }
        where
          by_place : (y : Row) → (y ≡ (f x).row) ⊎ In y (each_row f (f x).nodes rs).rows → (q : Row) × In q (r ∷ rs) × Like q y
          by_place y (inl h) = (x.row, inl (ap (λ (z : Place). z.row) (sym e)), subst (λ z. Like x.row z) (sym h) d.2)
          by_place y (inr i) = let g = w.from y i in (g.0, inr g.1, g.2)
