-- That the node that covers a key decides how often a document is times_counted.
use Rattle.std.proofs.Common.{◌≡◌, inl, inr, ℕ, ◌+◌, ◌≤◌, ◌||◌, ◌++◌, Bool, true, false, cond, List, [], ◌∷◌, sym, ap, ◌∙◌, arith}
use mathlib.Core.Bool.{true≢false}
use Rattle.global_ids.specs.Keys.{key_of}
use Rattle.document_rows.specs.Rows.{Rows, is_of, has_row}
use Rattle.view_changes.specs.Views.{NodeView}
use Rattle.view_changes.specs.Kept.{AreNodes}
use Rattle.coverage.specs.Covering.{times}
use Rattle.view_changes.specs.Serving.{serves, node_regions}
use Rattle.search_laws.specs.Searches.{Seen, places, node_places, times_counted, serving_regions, AreLanes, SomeNode, SomeSeen}
use Rattle.view_changes.proofs.CoverLaws.{times-parted, times-append}
use Rattle.search_laws.proofs.Counting.{none-there, nodes-times_counted, lanes-times_counted, lanes-once, times_counted-once}

-- a node that serves has the document, or is over its key without it
abbrev pub HasIt : List ℕ → NodeView → Type 0
HasIt id n = has_row id n.rows ≡ true

abbrev pub LacksIt : List ℕ → NodeView → Type 0
LacksIt id n = has_row id n.rows ≡ false

places-there : (id : List ℕ) (rows : Rows) → has_row id rows ≡ true → 1 ≤ places id rows
places-there id [] h = absurd (true≢false (sym h))
places-there id (r ∷ rows) h = by_test (is_of id r) h (places-there id rows)
  where
    by_test : (t : Bool) → (t || has_row id rows) ≡ true → (has_row id rows ≡ true → 1 ≤ places id rows) → 1 ≤ cond t 1 0 + places id rows
    by_test true k ih = omega arith
    by_test false k ih = omega (arith, ih k)

nodes-there : (w : ℕ) (id : List ℕ) (ns : List NodeView) → SomeNode w (key_of id) (HasIt id) ns → 1 ≤ node_places w id ns
nodes-there w id [] s = absurd s
nodes-there w id (n ∷ ns) (inl s) = let here : cond (serves w n) (places id n.rows) 0 ≡ places id n.rows = ap (λ t. cond t (places id n.rows) 0) s.0 in omega (arith, here, places-there id n.rows s.2)
nodes-there w id (n ∷ ns) (inr s) = omega (arith, nodes-there w id ns s)

lanes-there : (w : ℕ) (id : List ℕ) (ls : List Seen) → SomeSeen w (key_of id) (HasIt id) ls → 1 ≤ times_counted w id ls
lanes-there w id [] s = absurd s
lanes-there w id (l ∷ ls) (inl s) = omega (arith, nodes-there w id (l.view).nodes s)
lanes-there w id (l ∷ ls) (inr s) = omega (arith, lanes-there w id ls s)

-- it is times_counted once where the node that covers its key has it
pub times_counted-there : (w : ℕ) (id : List ℕ) (ls : List Seen) → AreLanes ls → SomeSeen w (key_of id) (HasIt id) ls → times_counted w id ls ≡ 1
times_counted-there w id ls h s = omega (arith, times_counted-once w id ls h, lanes-there w id ls s)

nodes-lack : (w : ℕ) (id : List ℕ) (ns : List NodeView) → AreNodes ns → SomeNode w (key_of id) (LacksIt id) ns → node_places w id ns + 1 ≤ times (node_regions w ns) (key_of id)
nodes-lack w id [] h s = absurd s
nodes-lack w id (n ∷ ns) h (inl s) =
    let here : cond (serves w n) (places id n.rows) 0 ≡ places id n.rows = ap (λ t. cond t (places id n.rows) 0) s.0 in
    let none : places id n.rows ≡ 0 = none-there id n.rows s.2 in
    let over : times n.regions (key_of id) ≡ 1 = times-parted n.regions (h.0).regions (key_of id) ∙ ap (λ t. cond t 1 0) s.1 in
    let both : times (node_regions w (n ∷ ns)) (key_of id) ≡ times n.regions (key_of id) + times (node_regions w ns) (key_of id) = ap (λ t. times (cond t n.regions [] ++ node_regions w ns) (key_of id)) s.0 ∙ times-append n.regions (node_regions w ns) (key_of id) in
    omega (arith, here, none, over, both, nodes-times_counted w id ns h.1)
nodes-lack w id (n ∷ ns) h (inr s) = by_test (serves w n) (nodes-lack w id ns h.1 s) (nodes-times_counted w id (n ∷ []) (h.0, tt))
  where
    by_test : (t : Bool) → node_places w id ns + 1 ≤ times (node_regions w ns) (key_of id) → cond (serves w n) (places id n.rows) 0 + 0 ≤ times (cond (serves w n) n.regions [] ++ []) (key_of id)
        → (cond (serves w n) (places id n.rows) 0 + node_places w id ns) + 1 ≤ times (cond (serves w n) n.regions [] ++ node_regions w ns) (key_of id)
    by_test t ih one = omega (arith, ih, one, times-append (cond (serves w n) n.regions []) (node_regions w ns) (key_of id), times-append (cond (serves w n) n.regions []) [] (key_of id))

lanes-lack : (w : ℕ) (id : List ℕ) (ls : List Seen) → AreLanes ls → SomeSeen w (key_of id) (LacksIt id) ls → times_counted w id ls + 1 ≤ times (serving_regions w ls) (key_of id)
lanes-lack w id [] h s = absurd s
lanes-lack w id (l ∷ ls) h (inl s) =
    omega (arith, nodes-lack w id (l.view).nodes (h.0).nodes s, lanes-times_counted w id ls h.3, times-append (node_regions w (l.view).nodes) (serving_regions w ls) (key_of id))
lanes-lack w id (l ∷ ls) h (inr s) =
    omega (arith, nodes-times_counted w id (l.view).nodes (h.0).nodes, lanes-lack w id ls h.3 s, times-append (node_regions w (l.view).nodes) (serving_regions w ls) (key_of id))

-- and it isn't times_counted where that node lacks it
pub not-times_counted : (w : ℕ) (id : List ℕ) (ls : List Seen) → AreLanes ls → SomeSeen w (key_of id) (LacksIt id) ls → times_counted w id ls ≡ 0
not-times_counted w id ls h s = omega (arith, lanes-lack w id ls h s, lanes-once w (key_of id) ls h)
