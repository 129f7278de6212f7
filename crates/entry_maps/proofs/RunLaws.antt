-- The slots of a bucket are one run of the list.
use Rattle.std.proofs.Common.{◌≡◌, ℕ, ◌+◌, ◌<◌, ◌≤◌, ◌^◌, ◌↔◌, Bool, true, false, cond, not, List, [], ◌∷◌, ◌++◌, length, take, drop, refl, sym, ap, ap₂, subst, ◌∙◌, arith, eqb-true, eq-eqb, Option, None, Some}
use mathlib.Core.Bool.{true≢false}
use Rattle.std.specs.List.{All, AllWithin, filter, count_by}
use Rattle.std.specs.FinMap as fin
use Rattle.std.specs.FinMap.{get-retain_keys, slice_cmp-IsAntisymmetric, nat_cmp-IsAntisymmetric}
use Rattle.std.proofs.lemmas.List.{take-append-drop, get_or-take, get_or-drop, length-take, length-drop, append-nil, drop-drop}
use Rattle.std.proofs.lemmas.List.Elements.{All-head, All-tail, All-drop, All-filter, filter-append}
use Rattle.std.proofs.lemmas.List.Kept.{IsStrictlySortedBy-filter}
use Rattle.std.proofs.lemmas.List.Filters.{sum_by-filter_both}
use Rattle.bucket_ids.specs.Buckets.{Low, IsBucket, IsIn}
use Rattle.bucket_ids.specs.Paths.{path, first_path, last_path}
use Rattle.global_ids.specs.Keys.{key_of}
use Rattle.documents.specs.declared.entry.Entry.{Entry}
use Rattle.entry_rows.specs.declared.slots.Slot.{Slot}
use Rattle.entry_rows.specs.declared.chunks.Chunks.{Chunks}
use Rattle.entry_maps.specs.declared.runs.Run.{Run}
use Rattle.entry_rows.specs.Chunks.{flat, place}
use Rattle.entry_maps.specs.Entries.{in_bucket}
use Rattle.entry_rows.specs.Order.{slot_cmp}
use Rattle.entry_maps.specs.Runs.{IsRun}
use Rattle.entry_rows.specs.Slots.{has_document}
use Rattle.entry_maps.specs.Slots.{entries_of, entry_in, IsPlaced, IsKept, lies_in, path_by}
use Rattle.entry_maps.proofs.SlotLists.{same_id, same_id-is, get-entries_of}
use Rattle.entry_maps.proofs.StoredLaws.{same_entries}
use Rattle.entry_rows.proofs.ChunkLaws.{fails}

-- what the order of paths says of a bucket
abbrev pub RunLaw : Type 0
RunLaw = (b : Low) (id : List ℕ) → IsBucket b → (in_bucket b id ≡ true) ↔ ((first_path b ≤ path_by id) × (path_by id ≤ last_path b))

pub run_law : ((b : Low) (key : ℕ) → IsBucket b → key < 2 ^ 58 → IsIn b key ↔ ((first_path b ≤ path key) × (path key ≤ last_path b))) → ((id : List ℕ) → key_of id < 2 ^ 58) → RunLaw
run_law run small b id bucket =
    let law = run b (key_of id) bucket (small id) in
    (λ t. law.0 (small id, eqb-true _ _ t), λ lies. eq-eqb _ _ (law.1 lies).1)

in_below : RunLaw → (b : Low) (s : Slot) → IsBucket b → IsPlaced s → s.path < first_path b → lies_in b s ≡ false
in_below law b s bucket placed below = fails _ (λ t. omega (arith, ((law b s.entry.id bucket).0 t).0, below, placed))

in_past : RunLaw → (b : Low) (s : Slot) → IsBucket b → IsPlaced s → last_path b < s.path → lies_in b s ≡ false
in_past law b s bucket placed past = fails _ (λ t. omega (arith, ((law b s.entry.id bucket).0 t).1, past, placed))

in_between : RunLaw → (b : Low) (s : Slot) → IsBucket b → IsPlaced s → first_path b ≤ s.path → s.path ≤ last_path b → lies_in b s ≡ true
in_between law b s bucket placed low high = (law b s.entry.id bucket).1 (omega (arith, low, placed), omega (arith, high, placed))

-- the elements of three parts of which the test passes the middle one
module _ (p : Slot → Bool) where
  all_pass : (xs : List Slot) → All (λ s. p s ≡ true) xs → filter p xs ≡ xs
  all_pass [] h = refl
  all_pass (x ∷ xs) h = ap (λ b. cond b (x ∷ filter p xs) (filter p xs)) (All-head (λ s. p s ≡ true) x xs h) ∙ ap (λ l. x ∷ l) (all_pass xs (All-tail (λ s. p s ≡ true) x xs h))

  none_pass : (xs : List Slot) → All (λ s. p s ≡ false) xs → filter p xs ≡ []
  none_pass [] h = refl
  none_pass (x ∷ xs) h = ap (λ b. cond b (x ∷ filter p xs) (filter p xs)) (All-head (λ s. p s ≡ false) x xs h) ∙ none_pass xs (All-tail (λ s. p s ≡ false) x xs h)

  parts : (xs : List Slot) (i n : ℕ) → take i xs ++ (take n (drop i xs) ++ drop n (drop i xs)) ≡ xs
  parts xs i n = ap (λ l. take i xs ++ l) (take-append-drop n (drop i xs)) ∙ take-append-drop i xs

  pub middle_passes : (xs : List Slot) (i n : ℕ) → All (λ s. p s ≡ false) (take i xs) → All (λ s. p s ≡ true) (take n (drop i xs)) → All (λ s. p s ≡ false) (drop n (drop i xs))
      → take n (drop i xs) ≡ filter p xs
  middle_passes xs i n before inside past = sym (
      ap (filter p) (sym (parts xs i n))
      ∙ filter-append p (take i xs) (take n (drop i xs) ++ drop n (drop i xs))
      ∙ ap₂ (λ a b. a ++ b) (none_pass (take i xs) before) (filter-append p (take n (drop i xs)) (drop n (drop i xs)) ∙ ap₂ (λ a b. a ++ b) (all_pass _ inside) (none_pass _ past) ∙ append-nil _))

  pub ends_pass : (xs : List Slot) (i n : ℕ) → All (λ s. p s ≡ true) (take i xs) → All (λ s. p s ≡ false) (take n (drop i xs)) → All (λ s. p s ≡ true) (drop n (drop i xs))
      → take i xs ++ drop n (drop i xs) ≡ filter p xs
  ends_pass xs i n before inside past = sym (
      ap (filter p) (sym (parts xs i n))
      ∙ filter-append p (take i xs) (take n (drop i xs) ++ drop n (drop i xs))
      ∙ ap₂ (λ a b. a ++ b) (all_pass (take i xs) before) (filter-append p (take n (drop i xs)) (drop n (drop i xs)) ∙ ap₂ (λ a b. a ++ b) (none_pass _ inside) (all_pass _ past)))

-- what holds of each slot of a part
module _ (P Q : Slot → Type 0) (xs : List Slot) (all : All IsPlaced xs) (to : (s : Slot) → IsPlaced s → P s → Q s) where
  pub front_all : (i : ℕ) → i ≤ length xs → AllWithin P xs 0 i → All Q (take i xs)
  front_all i le h k d lt =
      let long = length-take i xs in
      let low : k < i = omega arith in
      subst Q (sym (get_or-take i xs k d low)) (to _ (all k d (omega arith)) (h k d (omega arith) low))

  pub rest_all : (i : ℕ) → AllWithin P xs i (length xs) → All Q (drop i xs)
  rest_all i h k d lt =
      let long = length-drop i xs in
      subst Q (sym (get_or-drop i xs k d)) (to _ (all (i + k) d (omega arith)) (h (i + k) d (omega arith) (omega arith)))

-- a filter by a test of ids is what the map keeps by that test
module _ (t : List ℕ → Bool) where
  one : (b c d : Bool) (s : Slot) (rest : List Slot) (q : List ℕ) (found : Option Entry) → same_id q s.entry.id ≡ c → (c ≡ true → b ≡ d) → entry_in rest q ≡ cond d found None
      → entry_in (cond b (s ∷ rest) rest) q ≡ cond d (cond c (Some s.entry) found) None
  one true true true s rest q found same link r = ap (λ c. cond c (Some s.entry) (entry_in rest q)) same
  one true true false s rest q found same link r = absurd (true≢false (link refl))
  one true false d s rest q found same link r = ap (λ c. cond c (Some s.entry) (entry_in rest q)) same ∙ r
  one false true true s rest q found same link r = absurd (true≢false (sym (link refl)))
  one false true false s rest q found same link r = r
  one false false d s rest q found same link r = r

  nothing_kept : (b : Bool) → ◌≡◌ {A = Option Entry} None (cond b None None)
  nothing_kept true = refl
  nothing_kept false = refl

  pub entry_in-filter : (slots : List Slot) (q : List ℕ) → entry_in (filter (λ s. t s.entry.id) slots) q ≡ cond (t q) (entry_in slots q) None
  entry_in-filter [] q = nothing_kept (t q)
  entry_in-filter (s ∷ slots) q =
      one (t s.entry.id) (same_id q s.entry.id) (t q) s (filter (λ r. t r.entry.id) slots) q (entry_in slots q) refl (λ e. ap t (sym (same_id-is _ _ e))) (entry_in-filter slots q)

  pub filtered_entries : (slots : List Slot) → entries_of (filter (λ s. t s.entry.id) slots) ≡ fin.retain_keys (entries_of slots) t
  filtered_entries slots = same_entries _ _ (λ q.
      get-entries_of (filter (λ s. t s.entry.id) slots) q ∙ entry_in-filter slots q ∙ ap (λ o. cond (t q) o None) (sym (get-entries_of slots q))
      ∙ sym (get-retain_keys (entries_of slots) t q (λ x e. ap t (sym (slice_cmp-IsAntisymmetric nat_cmp-IsAntisymmetric q x e)))))

-- a filter leaves the order
module _ (p : Slot → Bool) where
  pub IsKept-filter : (slots : List Slot) → IsKept slots → IsKept (filter p slots)
  IsKept-filter slots kept = record { placed = All-filter p IsPlaced slots kept.placed; rising = IsStrictlySortedBy-filter slot_cmp p slots kept.rising }

  pub counts-filter : (slots : List Slot) → count_by has_document (filter p slots) + count_by has_document (filter (λ s. not (p s)) slots) ≡ count_by has_document slots
  counts-filter slots = sum_by-filter_both p (λ s. not (p s)) (λ s. refl) (λ s. cond (has_document s) 1 0) slots

-- between the first slot that lies no lower and the last that lies no higher are the bucket's
module _ (law : RunLaw) (b : Low) (xs : List Slot) (i n : ℕ) (bucket : IsBucket b) (placed : All IsPlaced xs) (within : i ≤ length xs) (short : n ≤ length (drop i xs))
    (below : AllWithin (λ s. s.path < first_path b) xs 0 i) (low : AllWithin (λ s. first_path b ≤ s.path) xs i (length xs))
    (high : AllWithin (λ s. s.path ≤ last_path b) (drop i xs) 0 n) (past : AllWithin (λ s. last_path b < s.path) (drop i xs) n (length (drop i xs))) where
  front : All (λ s. lies_in b s ≡ false) (take i xs)
  front = front_all (λ s. s.path < first_path b) (λ s. lies_in b s ≡ false) xs placed (λ s p h. in_below law b s bucket p h) i within below

  rest : All IsPlaced (drop i xs)
  rest = All-drop IsPlaced i xs placed

  middle : All (λ s. lies_in b s ≡ true) (take n (drop i xs))
  middle =
      let low_rest : All (λ s. first_path b ≤ s.path) (drop i xs) = rest_all (λ s. first_path b ≤ s.path) (λ s. first_path b ≤ s.path) xs placed (λ s p h. h) i low in
      front_all (λ s. (first_path b ≤ s.path) × (s.path ≤ last_path b)) (λ s. lies_in b s ≡ true) (drop i xs) rest (λ s p h. in_between law b s bucket p h.0 h.1) n short
      (λ k d from to. (low_rest k d (omega arith), high k d from to))

  end : All (λ s. lies_in b s ≡ false) (drop n (drop i xs))
  end = rest_all (λ s. last_path b < s.path) (λ s. lies_in b s ≡ false) (drop i xs) rest (λ s p h. in_past law b s bucket p h) n past

  pub run_inside : take n (drop i xs) ≡ filter (lies_in b) xs
  run_inside = middle_passes (lies_in b) xs i n front middle end

  turned : (t : Bool) (P : List Slot) → All (λ s. lies_in b s ≡ t) P → All (λ s. not (lies_in b s) ≡ not t) P
  turned t P h k d lt = ap not (h k d lt)

  pub run_outside : take i xs ++ drop (i + n) xs ≡ filter (λ s. not (lies_in b s)) xs
  run_outside =
      ap (λ l. take i xs ++ l) (sym (drop-drop n i xs))
      ∙ ends_pass (λ s. not (lies_in b s)) xs i n (turned false _ front) (turned true _ middle) (turned false _ end)

-- the slots of a bucket's run are the bucket's, and the others are not
module _ (law : RunLaw) (b : Low) (c : Chunks) (run : Run) (bucket : IsBucket b) (placed : All IsPlaced (flat c)) (r : IsRun c (first_path b) (last_path b) run) where
  abbrev i : ℕ
  i = place c run.from

  short : run.entries ≤ length (drop i (flat c))
  short = omega (arith, length-drop i (flat c), r.within, r.many)

  high : AllWithin (λ s. s.path ≤ last_path b) (drop i (flat c)) 0 run.entries
  high k d from to = subst (λ (s : Slot). s.path ≤ last_path b) (sym (get_or-drop i (flat c) k d)) (r.high (i + k) d (omega arith) (omega (arith, to, r.many)))

  past : AllWithin (λ s. last_path b < s.path) (drop i (flat c)) run.entries (length (drop i (flat c)))
  past k d from to = subst (λ (s : Slot). last_path b < s.path) (sym (get_or-drop i (flat c) k d)) (r.past (i + k) d (omega (arith, from, r.many)) (omega (arith, to, length-drop i (flat c))))

  pub inside : take run.entries (drop i (flat c)) ≡ filter (lies_in b) (flat c)
  inside = run_inside law b (flat c) i run.entries bucket placed (omega (arith, r.many, r.within)) short r.below r.low high past

  pub outside : take i (flat c) ++ drop (place c run.to) (flat c) ≡ filter (λ s. not (lies_in b s)) (flat c)
  outside =
      ap (λ k. take i (flat c) ++ drop k (flat c)) (sym r.many)
      ∙ run_outside law b (flat c) i run.entries bucket placed (omega (arith, r.many, r.within)) short r.below r.low high past
