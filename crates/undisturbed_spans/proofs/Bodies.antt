-- Bodies that mean the same in a journal make the same of a node.
use Rattle.std.proofs.Common.{◌≡◌, ℕ, Bool, List, Option, Some, None, refl, sym, ap, ◌∙◌}
use Rattle.std.specs.FinMap as fin
use Rattle.entry_maps.specs.EntryCodes.{Entries}
use Rattle.messages.specs.declared.body.Body.{Body}
use Rattle.messages.specs.declared.body.Body.TheVariants as body
use Rattle.messages.specs.Noting.{noted_body}
use Rattle.lane_journals.specs.Events as plain
use Rattle.lane_journals.specs.Events.{Content}
use Rattle.lane_journals.specs.Meanings.{meaning_body, entry_at}
use Rattle.lane_journals.specs.declared.event.LaneEvent.{LaneEvent}
use Rattle.lane_keeping.specs.NodeKeeping.{stamp_of}
use Rattle.lane_keeping.specs.Flights.{meant, Brings}
use Rattle.lane_keeping.proofs.Stamping.{content-is}
use Rattle.pass_model.specs.Nodes.{Node, apply_once, split_once, join_once, ready_once, activate_once, delete_once, apply_node, split_node, join_node, ready_node, activate_node, delete_node, received}
use Rattle.pass_model.specs.Lanes.{IsPassBody, after_once, is_taken}
use Rattle.pass_model.specs.Scripts.{told_body}

-- what a body of a pass means to a node of a pass
once_by : plain.Body → Node → Node
once_by (plain.Apply b u) x = apply_once b u x
once_by (plain.Split b) x = split_once b x
once_by (plain.Join b) x = join_once b x
once_by (plain.Ready b) x = ready_once b x
once_by (plain.Activate b) x = activate_once b x
once_by (plain.Delete b s) x = delete_once b s x
once_by _ x = x

-- each body of a pass is one of these, by what it means
abbrev pub IsPassPlain : plain.Body → Type 0
IsPassPlain plain.Ask = ⊥
IsPassPlain (plain.Read b) = ⊥
IsPassPlain (plain.ReadDoc id) = ⊥
IsPassPlain (plain.Store id s) = ⊥
IsPassPlain _ = Unit {0}

pub meant-pass : (x : Body) → IsPassBody x → IsPassPlain (meant x)
meant-pass (body.Apply b m) p = tt
meant-pass (body.Delete b s) p = tt
meant-pass (body.Split b) p = tt
meant-pass (body.Join b) p = tt
meant-pass (body.Ready b) p = tt
meant-pass (body.Activate b) p = tt
meant-pass body.Ask p = absurd p
meant-pass (body.Read b o) p = absurd p
meant-pass (body.Store e) p = absurd p

pub pass-meant : (x : Body) → IsPassPlain (meant x) → IsPassBody x
pass-meant (body.Apply b m) p = tt
pass-meant (body.Delete b s) p = tt
pass-meant (body.Split b) p = tt
pass-meant (body.Join b) p = tt
pass-meant (body.Ready b) p = tt
pass-meant (body.Activate b) p = tt
pass-meant body.Ask p = absurd p
pass-meant (body.Read b None) p = absurd p
pass-meant (body.Read b (Some id)) p = absurd p
pass-meant (body.Store e) p = absurd p

-- what is noted of a body means what it means
pub noted-means : (J : List LaneEvent) (x : Body) → IsPassBody x → Brings (λ t. entry_at t J) x → meaning_body J (noted_body x) ≡ meant x
noted-means J (body.Apply b m) p h = ap (λ (u : Content). plain.Apply b u) (λ i id. content-is J m h id i)
noted-means J (body.Delete b s) p h = refl
noted-means J (body.Split b) p h = refl
noted-means J (body.Join b) p h = refl
noted-means J (body.Ready b) p h = refl
noted-means J (body.Activate b) p h = refl
noted-means J body.Ask p h = absurd p
noted-means J (body.Read b o) p h = absurd p
noted-means J (body.Store e) p h = absurd p

once-by-meaning : (x : Body) → IsPassBody x → (z : Node) → after_once x z ≡ once_by (meant x) z
unfolding once_by
once-by-meaning (body.Apply b m) p z = refl
once-by-meaning (body.Delete b s) p z = refl
once-by-meaning (body.Split b) p z = refl
once-by-meaning (body.Join b) p z = refl
once-by-meaning (body.Ready b) p z = refl
once-by-meaning (body.Activate b) p z = refl
once-by-meaning body.Ask p z = absurd p
once-by-meaning (body.Read b o) p z = absurd p
once-by-meaning (body.Store e) p z = absurd p

pub same-once : (x y : Body) → IsPassBody x → IsPassBody y → meant x ≡ meant y → (z : Node) → after_once x z ≡ after_once y z
same-once x y p q e z = once-by-meaning x p z ∙ ap (λ b. once_by b z) e ∙ sym (once-by-meaning y q z)

-- whether it is taken
taken_by : plain.Body → Node → Bool
taken_by (plain.Apply b u) z = is_taken (body.Ask) z
taken_by (plain.Delete b s) z = is_taken (body.Delete b s) z
taken_by (plain.Split b) z = is_taken (body.Split b) z
taken_by (plain.Join b) z = is_taken (body.Join b) z
taken_by (plain.Ready b) z = is_taken (body.Ready b) z
taken_by (plain.Activate b) z = is_taken (body.Activate b) z
taken_by _ z = is_taken (body.Ask) z

taken-by-meaning : (x : Body) → IsPassBody x → (z : Node) → is_taken x z ≡ taken_by (meant x) z
unfolding taken_by
taken-by-meaning (body.Apply b m) p z = refl
taken-by-meaning (body.Delete b s) p z = refl
taken-by-meaning (body.Split b) p z = refl
taken-by-meaning (body.Join b) p z = refl
taken-by-meaning (body.Ready b) p z = refl
taken-by-meaning (body.Activate b) p z = refl
taken-by-meaning body.Ask p z = absurd p
taken-by-meaning (body.Read b o) p z = absurd p
taken-by-meaning (body.Store e) p z = absurd p

pub same-taken : (x y : Body) → IsPassBody x → IsPassBody y → meant x ≡ meant y → (z : Node) → is_taken x z ≡ is_taken y z
same-taken x y p q e z = taken-by-meaning x p z ∙ ap (λ b. taken_by b z) e ∙ sym (taken-by-meaning y q z)

-- a message that comes once or twice
pub told-is : (x : Body) → IsPassBody x → (z : Node) → told_body x z ≡ received (after_once x) z
unfolding apply_node split_node join_node ready_node activate_node delete_node
told-is (body.Apply b m) p z = refl
told-is (body.Split b) p z = refl
told-is (body.Join b) p z = refl
told-is (body.Ready b) p z = refl
told-is (body.Activate b) p z = refl
told-is (body.Delete b s) p z = refl
told-is body.Ask p z = absurd p
told-is (body.Read b o) p z = absurd p
told-is (body.Store e) p z = absurd p
