-- What new lanes may be asked.
use Rattle.std.proofs.Common.{◌≡◌, ◌+◌, ℕ, List, [], ◌∷◌, ◌++◌, Option, None, Some, IsSome, IfSome, refl, sym, ap, ◌∙◌, subst, Result, Ok, Err, OnOk, arith, slice_get, inl, inr}
use Rattle.proof_basics.proofs.Options.{none_some}
use Rattle.bucket_ids.specs.Buckets.{Low, IsIn}
use Rattle.global_ids.specs.Keys as keys
use Rattle.global_ids.proofs.KeyLaws.{key_small}
use Rattle.carriers.specs.declared.fate.Fate.{Fate}
use Rattle.lane_journals.specs.Buckets.{key_of}
use Rattle.lane_journals.specs.Readers.{held}
use Rattle.lane_journals.specs.Meanings.{history}
use Rattle.lane_keeping.specs.Tidings.{last_state}
use Rattle.lane_calls.specs.LaneValues.{LaneValue}
use Rattle.lane_calls.specs.Lines.{FeedLine, Lines}
use Rattle.lane_lives.specs.declared.setting.Setting.{Setting}
use Rattle.lane_lives.specs.Lives.{newest_in}
use Rattle.lane_lives.specs.Serving.{IsServing}
use Rattle.lane_core.proofs.Served.{serving_fresh, serving_newest}
use Rattle.lane_core.proofs.Places.{get-push-cases}
use Rattle.lane_locks.specs.Lines.{Listed, IsAbove}
use Rattle.lane_locks.specs.Lanes.{EachAt}
use Rattle.lane_locks.specs.Runs.{MayRun}
use Rattle.feeder_tables.specs.Lines.{IsOf, AreOf}

some_there : {A : Type 0} (o : Option A) (x : A) → o ≡ Some x → IsSome o
some_there o x is = subst IsSome (sym is) refl

none_holds : (P : ℕ → Type 0) (via : Option ℕ) → via ≡ None → IfSome via P
none_holds P via is = subst (λ (o : Option ℕ). IfSome o P) (sym is) tt

-- a new lane may run lines that can be asked of it
pub new_may_run : (s : Setting) (planned : List Fate) (lane feeders : ℕ) (v : LaneValue) (list : Listed) → IsServing s planned lane [] v → list.feeders ≡ feeders → AreOf s.bits lane list.lines → MayRun feeders v list
new_may_run s planned lane feeders v list is so of = record {
  idle = is.idle;
  feeders_are = so;
  of_lane = record {
    published = some_there (last_state v.journal) (newest_in s []) (serving_newest s planned lane [] v is);
    each = λ at line there. let o = of at line there in record {
      in_lane = subst (λ (b : Low). IsIn b (key_of line.operation.id)) (sym is.lane_is) o.in_lane;
      holds = none_holds (λ d. IsSome (held d (history v.journal))) line.via o.no_via;
    };
  };
  fresh = λ at line there. serving_fresh s planned lane [] v line.number is (of at line there).number;
}

-- the key of a document lies in its lane
pub key_lies : (bits lane key : ℕ) (id : List ℕ) → key ≡ keys.key_of id → keys.lane_of key bits ≡ lane → IsIn (keys.lane_bucket bits lane) (key_of id)
unfolding key_of
key_lies bits lane key id key_is lane_is = subst (λ (l : ℕ). IsIn (keys.lane_bucket bits l) (keys.key_of id)) (ap (λ (k : ℕ). keys.lane_of k bits) (sym key_is) ∙ lane_is) (key_small id, refl)

-- one more line behind the others
module _ (lines : Lines) (line : FeedLine) where
  pub more_above : (n : ℕ) → line.number ≡ n → IsAbove lines n → IsAbove (lines ++ line ∷ []) (n + 1)
  more_above n is above at other there = elim (get-push-cases lines line at other there) [
    | inl old ↦ (let less = above at other old in omega (arith, less))
    | inr new ↦ (let same = ap (λ (l : FeedLine). l.number) new.1 in omega (arith, is, same))
  ]

  pub more_of : (bits lane : ℕ) → IsOf bits lane line → AreOf bits lane lines → AreOf bits lane (lines ++ line ∷ [])
  more_of bits lane is of at other there = elim (get-push-cases lines line at other there) [
    | inl old ↦ of at other old
    | inr new ↦ subst (λ (l : FeedLine). IsOf bits lane l) (sym new.1) is
  ]

pub still_above : (lines : Lines) (n : ℕ) → IsAbove lines n → IsAbove lines (n + 1)
still_above lines n above at line there = let less = above at line there in omega (arith, less)

pub none_above : (lines : Lines) (n : ℕ) → lines ≡ [] → IsAbove lines n
none_above lines n is at line there = absurd (none_some line (ap (λ (ls : Lines). slice_get ls at) (sym is) ∙ there))

pub none_of : (bits lane : ℕ) (lines : Lines) → lines ≡ [] → AreOf bits lane lines
none_of bits lane lines is at line there = absurd (none_some line (ap (λ (ls : Lines). slice_get ls at) (sym is) ∙ there))

pub where_ok : {A E : Type 0} (r : Result A E) (P Q : Type 0) → (P → Q) → OnOk r P → OnOk r Q
where_ok (Ok v) P Q f p = f p
where_ok (Err e) P Q f p = tt

-- one more lane behind the others
pub more_may : {A : Type 0} (P : A → Type 0) (all xs : List A) (x : A) → all ≡ xs ++ x ∷ [] → EachAt (λ _ y. P y) xs → P x → EachAt (λ _ y. P y) all
more_may {A} P all xs x is each last place y at = elim (get-push-cases xs x place y (ap (λ (ys : List A). slice_get ys place) (sym is) ∙ at)) [
  | inl old ↦ each place y old
  | inr new ↦ subst P (sym new.1) last
]

pub none_may : {A : Type 0} (P : A → Type 0) (xs : List A) → xs ≡ [] → EachAt (λ _ y. P y) xs
none_may {A} P xs is place y at = absurd (none_some y (ap (λ (ys : List A). slice_get ys place) (sym is) ∙ at))
