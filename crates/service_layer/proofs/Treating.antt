-- A body is treated as its parts say.
use Rattle.std.proofs.Common.{◌≡◌, ◌∙◌, inl, inr, refl, sym, ap, subst, arith, List, [], ◌∷◌, map, length, ℕ, Result, Ok, Err, OnOk, OnErr}
use Rattle.std.specs.FinMap as fin
use Rattle.std.specs.FinMap.{len-entries, len-empty}
use Rattle.documents.specs.declared.entry.Entry.{Entry}
use Rattle.documents.specs.EntryCodes.{id_cmp}
use Rattle.entry_maps.specs.Stamps.{stamps_of, rising_of, stamp_in, stamp_cmp}
use Rattle.stamps.specs.declared.stamp.Stamp.{Stamp}
use Rattle.std.specs.declared.cmp.Ordering.{Ordering}
use Rattle.messages.specs.declared.body.Body.{Body}
use Rattle.messages.specs.declared.reply.Reply.{Reply}
use Rattle.pieces.specs.Told.{IsAnsweredAs}
use Rattle.pieces.specs.declared.fault.StoreFault.{StoreFault}
use Rattle.pieces.specs.declared.fault.StoreFault.TheVariants as fault
use Rattle.node_model.specs.Nodes.{Node, after_body}
use Rattle.node_model.specs.Takes.{Treats, told, shown_pieces, shown_entries}
use Rattle.service_layer.specs.Steps.{Shows, IsReplyTo, done_reply}

-- a body that changes what a node has
pub treated : {A : Type 0} (x : Body) (old new : Node) (r : Result A StoreFault) → shown_pieces x old.pieces ≡ [] → shown_entries x old.entries ≡ fin.empty
    → OnOk r (new ≡ after_body x old) → OnErr r (new ≡ old) → IsAnsweredAs (told x old.pieces) r → Treats old x new (done_reply r)
treated x old new (Ok a) ps m ok err t = (t, (sym ps, (sym m, ok)))
treated x old new (Err fault.NoBucket) ps m ok err t = (t, err)
treated x old new (Err fault.Differs) ps m ok err t = (t, err)
treated x old new (Err fault.NoMemory) ps m ok err t = (t, err)

-- a body that asks to see something
pub shows : (x : Body) (n : Node) (r : Result Reply StoreFault) (y : Reply) → after_body x n ≡ n → Shows n x r → IsReplyTo r y → Treats n x n y
shows x n (Ok r) y same s (inl e) = subst (Treats n x n) (sym (e ∙ s.1)) (s.0, (refl, (refl, sym same)))
shows x n (Ok r) y same s (inr e) = subst (Treats n x n) (sym e) (s.0, refl)
shows x n (Err fault.NoBucket) y same s e = subst (Treats n x n) (sym e) (s, refl)
shows x n (Err fault.Differs) y same s e = subst (Treats n x n) (sym e) (s, refl)
shows x n (Err fault.NoMemory) y same s e = subst (Treats n x n) (sym e) (s, refl)

pub no_items : {A : Type 0} (xs : List A) → length xs ≡ 0 → xs ≡ []
no_items [] e = refl
no_items (x ∷ xs) e = absurd (omega arith)

no_entries : {K : Type 0} (R : K → K → Ordering) (X : Type 0) → fin.entries (fin.empty {X = X} {R = R}) ≡ []
no_entries R X = no_items _ (sym (len-entries (fin.empty {X = X} {R = R})) ∙ len-empty R X)

-- no entry has a stamp
pub stamps-empty : stamps_of fin.empty ≡ []
stamps-empty = ap (λ (es : List (List ℕ × Entry)). rising_of (map stamp_in (map (λ e. e.1) es))) (no_entries id_cmp Entry) ∙ ap (λ (es : List (Stamp × Unit {0})). map (λ e. e.0) es) (no_entries stamp_cmp (Unit {0}))
