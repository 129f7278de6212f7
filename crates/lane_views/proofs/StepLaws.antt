-- What a change of one node makes of the nodes of a view.
use Rattle.std.proofs.Common.{◌≡◌, ℕ, zero, suc, ◌+◌, ◌<◌, ◌≤◌, ◌||◌, ◌++◌, add-one, Bool, true, false, cond, List, [], ◌∷◌, take, drop, length, get_or, set, refl, sym, ap, subst, ◌∙◌, arith}
use mathlib.Core.Bool.{true≢false}
use Rattle.std.specs.List.{list_any}
use Rattle.bucket_ids.specs.Buckets.{Low}
use Rattle.doc_types.specs.SchemaCodes.{Types}
use Rattle.view_changes.specs.Views.{NodeView, new_node, at, node_at, is_in_the_way, is_barred}
use Rattle.view_changes.specs.Serving.{serves, serves_at}
use Rattle.view_changes.specs.Kept.{AreNodes, IsNode}
use Rattle.view_changes.specs.Opening.{new_nodes}
use Rattle.lane_views.specs.Typed.{TypedNode, alike, step, step_at, nodes_of, AreTyped}

pub nodes-step : (types : Types) (n : ℕ) (f : Types → NodeView → NodeView) (ts : List TypedNode) → AreTyped types ts → nodes_of (step_at n f ts) ≡ at n (f types) (nodes_of ts)
nodes-step types n f [] h = refl
nodes-step types zero f (t ∷ ts) h = ap (λ (y : Types). f y t.node ∷ nodes_of ts) h.0
nodes-step types (suc n) f (t ∷ ts) h = ap (λ (ns : List NodeView). t.node ∷ ns) (nodes-step types n f ts h.1)

pub typed-step : (types : Types) (n : ℕ) (f : Types → NodeView → NodeView) (ts : List TypedNode) → AreTyped types ts → AreTyped types (step_at n f ts)
typed-step types n f [] h = tt
typed-step types zero f (t ∷ ts) h = h
typed-step types (suc n) f (t ∷ ts) h = (h.0, typed-step types n f ts h.1)

-- past the end nothing changes
pub step-past : (n : ℕ) (f : Types → NodeView → NodeView) (ts : List TypedNode) → length ts ≤ n → step_at n f ts ≡ ts
step-past n f [] h = refl
step-past zero f (t ∷ ts) h = absurd (omega arith)
step-past (suc n) f (t ∷ ts) h = ap (λ (l : List TypedNode). t ∷ l) (step-past n f ts (omega arith))

-- the node's place has the changed node
pub set-step : (n : ℕ) (f : Types → NodeView → NodeView) (ts : List TypedNode) (d : TypedNode) → n < length ts → set ts n (step f (get_or ts n d)) ≡ step_at n f ts
set-step n f [] d h = absurd (omega arith)
set-step zero f (t ∷ ts) d h = refl
set-step (suc n) f (t ∷ ts) d h = ap (λ (l : List TypedNode). t ∷ l) (set-step n f ts d (omega arith))

pub set-made : (n m : ℕ) (f : Types → NodeView → NodeView) (ts : List TypedNode) (d y : TypedNode) → m ≡ n → m < length ts → y ≡ step f (get_or ts m d) → set ts m y ≡ step_at n f ts
set-made n m f ts d y same h made = ap (λ (z : TypedNode). set ts m z) made ∙ set-step m f ts d h ∙ ap (λ k. step_at k f ts) same

-- ---- one node of many

pub typed-at : (types : Types) (n : ℕ) (ts : List TypedNode) (d : TypedNode) → n < length ts → AreTyped types ts → (get_or ts n d).types ≡ types
typed-at types n [] d h k = absurd (omega arith)
typed-at types zero (t ∷ ts) d h k = k.0
typed-at types (suc n) (t ∷ ts) d h k = typed-at types n ts d (omega arith) k.1

pub node-at : (n : ℕ) (ts : List TypedNode) (d : TypedNode) → n < length ts → node_at n (nodes_of ts) ≡ (get_or ts n d).node
node-at n [] d h = absurd (omega arith)
node-at zero (t ∷ ts) d h = refl
node-at (suc n) (t ∷ ts) d h = node-at n ts d (omega arith)

pub serves-at : (n w : ℕ) (ts : List TypedNode) (d : TypedNode) → n < length ts → serves_at n w (nodes_of ts) ≡ serves w (get_or ts n d).node
serves-at n w [] d h = absurd (omega arith)
serves-at zero w (t ∷ ts) d h = refl
serves-at (suc n) w (t ∷ ts) d h = serves-at n w ts d (omega arith)

pub serves-past : (n w : ℕ) (ts : List TypedNode) → length ts ≤ n → serves_at n w (nodes_of ts) ≡ false
serves-past n w [] h = refl
serves-past zero w (t ∷ ts) h = absurd (omega arith)
serves-past (suc n) w (t ∷ ts) h = serves-past n w ts (omega arith)

pub node-past : (n : ℕ) (ts : List TypedNode) → length ts ≤ n → node_at n (nodes_of ts) ≡ new_node
node-past n [] h = refl
node-past zero (t ∷ ts) h = absurd (omega arith)
node-past (suc n) (t ∷ ts) h = node-past n ts (omega arith)

pub sound-at : (n : ℕ) (ts : List TypedNode) (d : TypedNode) → n < length ts → AreNodes (nodes_of ts) → IsNode (get_or ts n d).node
sound-at n [] d h k = absurd (omega arith)
sound-at zero (t ∷ ts) d h k = k.0
sound-at (suc n) (t ∷ ts) d h k = sound-at n ts d (omega arith) k.1

-- the same by a place's number in code
pub node-made : (n m : ℕ) (ts : List TypedNode) (d : TypedNode) → m ≡ n → m < length ts → node_at n (nodes_of ts) ≡ (get_or ts m d).node
node-made n m ts d same h = ap (λ k. node_at k (nodes_of ts)) (sym same) ∙ node-at m ts d h

pub serves-made : (n m w : ℕ) (ts : List TypedNode) (d : TypedNode) → m ≡ n → m < length ts → serves_at n w (nodes_of ts) ≡ serves w (get_or ts m d).node
serves-made n m w ts d same h = ap (λ k. serves_at k w (nodes_of ts)) (sym same) ∙ serves-at m w ts d h

pub nodes-made : (types : Types) (n : ℕ) (f : Types → NodeView → NodeView) (ts us : List TypedNode) → AreTyped types ts → us ≡ step_at n f ts → nodes_of us ≡ at n (f types) (nodes_of ts)
nodes-made types n f ts us typed e = ap nodes_of e ∙ nodes-step types n f ts typed

pub typed-made : (types : Types) (n : ℕ) (f : Types → NodeView → NodeView) (ts us : List TypedNode) → AreTyped types ts → us ≡ step_at n f ts → AreTyped types us
typed-made types n f ts us typed e = subst (AreTyped types) (sym e) (typed-step types n f ts typed)

pub nodes-unless : (types : Types) (t : Bool) (n : ℕ) (f : Types → NodeView → NodeView) (ts us : List TypedNode) → AreTyped types ts → us ≡ cond t ts (step_at n f ts) → nodes_of us ≡ cond t (nodes_of ts) (at n (f types) (nodes_of ts))
nodes-unless types true n f ts us typed e = ap nodes_of e
nodes-unless types false n f ts us typed e = nodes-made types n f ts us typed e

pub typed-unless : (types : Types) (t : Bool) (n : ℕ) (f : Types → NodeView → NodeView) (ts us : List TypedNode) → AreTyped types ts → us ≡ cond t ts (step_at n f ts) → AreTyped types us
typed-unless types true n f ts us typed e = subst (AreTyped types) (sym e) typed
typed-unless types false n f ts us typed e = typed-made types n f ts us typed e

-- past the end nothing changes, whoever is in the way
pub past-unless : (t : Bool) (n : ℕ) (f : Types → NodeView → NodeView) (ts : List TypedNode) → length ts ≤ n → ts ≡ cond t ts (step_at n f ts)
past-unless true n f ts h = refl
past-unless false n f ts h = sym (step-past n f ts h)

-- where nobody is in the way, the node is changed
pub unless-free : (t : Bool) (n : ℕ) (f : Types → NodeView → NodeView) (ts us : List TypedNode) → t ≡ false → us ≡ step_at n f ts → us ≡ cond t ts (step_at n f ts)
unless-free true n f ts us free e = absurd (true≢false free)
unless-free false n f ts us free e = e

-- ---- who is in the way

abbrev InTheWay : ℕ → Low → TypedNode → Bool
InTheWay w b t = is_in_the_way w b t.node

pub any-nodes : (w : ℕ) (b : Low) (ts : List TypedNode) → list_any (λ t. is_in_the_way w b t.node) ts ≡ list_any (is_in_the_way w b) (nodes_of ts)
any-nodes w b [] = refl
any-nodes w b (t ∷ ts) = ap (λ r. is_in_the_way w b t.node || r) (any-nodes w b ts)

either : (a b c : Bool) → ((a || b) || c) ≡ (a || (b || c))
either true b c = refl
either false b c = refl

-- those before a node, and those behind it
pub barred-parts : (n w : ℕ) (b : Low) (ts : List TypedNode) → n < length ts
    → (list_any (λ t. is_in_the_way w b t.node) (take n ts) || list_any (λ t. is_in_the_way w b t.node) (drop (suc n) ts)) ≡ is_barred n w b (nodes_of ts)
barred-parts n w b [] h = absurd (omega arith)
barred-parts zero w b (t ∷ ts) h = any-nodes w b ts
barred-parts (suc n) w b (t ∷ ts) h = either (is_in_the_way w b t.node) _ _ ∙ ap (λ r. is_in_the_way w b t.node || r) (barred-parts n w b ts (omega arith))

-- ---- nodes alike

pub barred-before : (n w : ℕ) (b : Low) (ts front : List TypedNode) (d : TypedNode) (x : Bool) → x ≡ list_any (λ t. is_in_the_way w b t.node) front → front ≡ take n ts
    → n < length ts → w ≡ ((get_or ts n d).node).version → x ≡ true → x ≡ is_barred n (node_at n (nodes_of ts)).version b (nodes_of ts)
barred-before n w b ts front d x is of h version yes_x =
    let same : w ≡ (node_at n (nodes_of ts)).version = version ∙ sym (ap (λ (y : NodeView). y.version) (node-at n ts d h)) in
    let some : list_any (λ t. is_in_the_way w b t.node) (take n ts) ≡ true = ap (list_any (λ t. is_in_the_way w b t.node)) (sym of) ∙ sym is ∙ yes_x in
    yes_x ∙ ap (λ t. t || list_any (λ t. is_in_the_way w b t.node) (drop (suc n) ts)) (sym some) ∙ barred-parts n w b ts h ∙ ap (λ k. is_barred n k b (nodes_of ts)) same

pub barred-behind : (n w : ℕ) (b : Low) (ts front back : List TypedNode) (d : TypedNode) (x y : Bool) → x ≡ list_any (λ t. is_in_the_way w b t.node) front → front ≡ take n ts
    → y ≡ list_any (λ t. is_in_the_way w b t.node) back → back ≡ drop (n + 1) ts
    → n < length ts → w ≡ ((get_or ts n d).node).version → x ≡ false → y ≡ is_barred n (node_at n (nodes_of ts)).version b (nodes_of ts)
barred-behind n w b ts front back d x y is of rest rest_of h version no_x =
    let same : w ≡ (node_at n (nodes_of ts)).version = version ∙ sym (ap (λ (z : NodeView). z.version) (node-at n ts d h)) in
    let none : list_any (λ t. is_in_the_way w b t.node) (take n ts) ≡ false = ap (list_any (λ t. is_in_the_way w b t.node)) (sym of) ∙ sym is ∙ no_x in
    let one : n + 1 ≡ suc n = omega arith in
    let behind : back ≡ drop (suc n) ts = rest_of ∙ ap (λ k. drop k ts) one in
    rest ∙ ap (list_any (λ t. is_in_the_way w b t.node)) behind ∙ ap (λ t. t || list_any (λ t. is_in_the_way w b t.node) (drop (suc n) ts)) (sym none) ∙ barred-parts n w b ts h ∙ ap (λ k. is_barred n k b (nodes_of ts)) same

pub alike-none : (t : TypedNode) → alike 0 t ≡ []
unfolding alike
alike-none t = refl

alike-suc : (k : ℕ) (t : TypedNode) → alike (suc k) t ≡ alike k t ++ t ∷ []
unfolding alike
alike-suc zero t = refl
alike-suc (suc k) t = ap (λ (l : List TypedNode). t ∷ l) (alike-suc k t)

-- one more of them
pub alike-more : (n : ℕ) (t : TypedNode) → alike (n + 1) t ≡ alike n t ++ t ∷ []
alike-more n t = rw add-one (alike-suc n t)

pub typed-alike : (types : Types) (node : NodeView) (n : ℕ) → AreTyped types (alike n (record { types = types; node = node }))
unfolding alike
typed-alike types node zero = tt
typed-alike types node (suc n) = (refl, typed-alike types node n)

pub nodes-alike : (types : Types) (n : ℕ) → nodes_of (alike n (record { types = types; node = new_node })) ≡ new_nodes n
unfolding alike new_nodes
nodes-alike types zero = refl
nodes-alike types (suc n) = ap (λ (ns : List NodeView). new_node ∷ ns) (nodes-alike types n)
