-- What a node tells is what its message and its reply say.
use Rattle.std.proofs.Common.{◌≡◌, ◌++◌, ◌<◌, ◌&&◌, ℕ, Bool, true, false, cond, nat_lt, List, [], ◌∷◌, filter, Option, None, Some, Result, Ok, Err, IfOk, refl, sym, ap, ◌∙◌, arith}
use Rattle.std.proofs.lemmas.Bool.Decides.{nat_tests}
use Rattle.bucket_ids.specs.Buckets.{Low}
use Rattle.documents.specs.declared.entry.Entry.{Entry}
use Rattle.global_ids.specs.Keys.{key_of}
use Rattle.entry_maps.specs.EntryCodes.{Entries}
use Rattle.entry_maps.specs.Entries.{is_newer, HasNoneNewer}
use Rattle.std.specs.FinMap as fin
use Rattle.messages.specs.declared.body.Body.{Body}
use Rattle.messages.specs.declared.message.Message.{Message}
use Rattle.messages.specs.declared.reply.Reply.{Reply}
use Rattle.messages.specs.declared.reply.Reply.TheVariants as reply
use Rattle.pieces.specs.declared.fault.StoreFault.{StoreFault}
use Rattle.pieces.specs.declared.fault.StoreFault.TheVariants as fault
use Rattle.view_changes.specs.Views.{in_regions, listed}
use Rattle.view_changes.specs.Shown.{Keeping}
use Rattle.view_changes.specs.Deeds.{Unites, is_seen, takes, changes_of as changes_told}
use Rattle.view_changes.specs.declared.change.LaneChange.{LaneChange}
use Rattle.view_changes.specs.declared.change.LaneChange.TheVariants.{Adopt}
use Rattle.view_changes.proofs.OrderLaws.{no-value-passes}
use Rattle.node_model.specs.Nodes.{Node, adopt}
use Rattle.service_layer.specs.Steps.{done_reply}
use Rattle.node_model.specs.Telling.{kept_of, deed_in, deed_replied, changes_taken}
use Rattle.service_layer.specs.Steps.{after_first, adoption_of, told_in}

-- a message of a smaller version tells nothing
pub older_tells : (x : Node) (m : Message) (v : ℕ) → m.version < x.version → [] ≡ changes_taken x m (reply.Newer v)
older_tells x m v older = by_test (nat_lt x.version m.version) refl
  where
    by_test : (t : Bool) → nat_lt x.version m.version ≡ t → [] ≡ cond t (Adopt m.receiver m.version ∷ []) [] ++ []
    by_test true is = absurd (grind (arith, nat_tests))
    by_test false is = refl

-- and any other what it makes the node's version, and then what is accepted
pub adopted_tells : (x : Node) (m : Message) (r : Reply)
    → after_first (adoption_of m.receiver m.version x) (changes_told m.receiver (kept_of (adopt m.version x)) (deed_replied m.body r)) ≡ changes_taken x m r
adopted_tells x m r = by_test (nat_lt x.version m.version)
  where
    by_test : (t : Bool) → after_first (cond t (Some (Adopt m.receiver m.version)) None)
        (changes_told m.receiver (kept_of (cond t (record { version = m.version; entries = x.entries; pieces = x.pieces; regions = []; serial = x.serial }) x)) (deed_replied m.body r))
        ≡ cond t (Adopt m.receiver m.version ∷ []) [] ++ changes_told m.receiver (cond t (record { version = m.version; regions = []; entries = x.entries }) (kept_of x)) (deed_replied m.body r)
    by_test true = refl
    by_test false = refl

-- a body that tells nothing where it is accepted tells nothing at all
pub quiet_tells : (x : Body) (n : ℕ) (k : Keeping) (r : Reply) → changes_told n k (deed_in x) ≡ [] → [] ≡ changes_told n k (deed_replied x r)
quiet_tells x n k (reply.Answer ps es) h = sym h
quiet_tells x n k (reply.Newer v) h = refl
quiet_tells x n k reply.NoBucket h = refl
quiet_tells x n k reply.Differs h = refl
quiet_tells x n k reply.NoMemory h = refl

-- and of another it is told what was made where it is accepted
pub done_tells : (x : Body) (n : ℕ) (k : Keeping) (r : Result (List LaneChange) StoreFault) → IfOk r (λ cs. cs ≡ changes_told n k (deed_in x)) → told_in r ≡ changes_told n k (deed_replied x (done_reply r))
done_tells x n k (Ok cs) h = h
done_tells x n k (Err fault.NoBucket) h = refl
done_tells x n k (Err fault.Differs) h = refl
done_tells x n k (Err fault.NoMemory) h = refl

both-or-none : (a b : Bool) → (b && a) ≡ (a && b)
both-or-none true true = refl
both-or-none true false = refl
both-or-none false true = refl
both-or-none false false = refl

-- whether an entry lies in a region may be asked first
pub seen_is : (k : Keeping) (e : Entry) → (in_regions k.regions (key_of e.id) && is_newer e (fin.get k.entries e.id)) ≡ is_seen k e
seen_is k e = both-or-none (is_newer e (fin.get k.entries e.id)) (in_regions k.regions (key_of e.id))

-- without a region no entry is seen
pub none_seen : (k : Keeping) (es : List Entry) → k.regions ≡ [] → filter (is_seen k) es ≡ []
none_seen k [] h = refl
none_seen k (e ∷ es) h =
    let none : is_seen k e ≡ false = sym (seen_is k e) ∙ ap (λ (rs : List Low). in_regions rs (key_of e.id) && is_newer e (fin.get k.entries e.id)) h in
    ap (λ t. cond t (e ∷ filter (is_seen k) es) (filter (is_seen k) es)) none ∙ none_seen k es h

-- ---- as the clauses of the code say it

pub quiet_told : (x : Body) (n : ℕ) (k : Keeping) (first : Option LaneChange) (r : Reply) (cs : List LaneChange) → changes_told n k (deed_in x) ≡ [] → cs ≡ after_first first []
    → cs ≡ after_first first (changes_told n k (deed_replied x r))
quiet_told x n k first r cs quiet e = e ∙ ap (after_first first) (quiet_tells x n k r quiet)

pub done_told : (x : Body) (n : ℕ) (k : Keeping) (first : Option LaneChange) (r : Result (List LaneChange) StoreFault) (y : Reply) (cs : List LaneChange) → IfOk r (λ l. l ≡ changes_told n k (deed_in x)) → y ≡ done_reply r
    → cs ≡ after_first first (told_in r) → cs ≡ after_first first (changes_told n k (deed_replied x y))
done_told x n k first r y cs made reply_is e = e ∙ ap (after_first first) (done_tells x n k r made) ∙ ap (λ z. after_first first (changes_told n k (deed_replied x z))) (sym reply_is)

pub adopted_told : (x y : Node) (m : Message) (r : Reply) (first : Option LaneChange) (cs : List LaneChange) → first ≡ adoption_of m.receiver m.version x → y ≡ adopt m.version x
    → cs ≡ after_first first (changes_told m.receiver (kept_of y) (deed_replied m.body r)) → cs ≡ changes_taken x m r
adopted_told x y m r first cs first_is adopted e =
    e ∙ ap (λ (f : Option LaneChange). after_first f (changes_told m.receiver (kept_of y) (deed_replied m.body r))) first_is
    ∙ ap (λ (z : Node). after_first (adoption_of m.receiver m.version x) (changes_told m.receiver (kept_of z) (deed_replied m.body r))) adopted
    ∙ adopted_tells x m r

pub none_told : (n : ℕ) (k : Keeping) (m : Entries) → k.regions ≡ [] → [] ≡ changes_told n k (Unites m)
none_told n k m h = sym (ap (takes n) (none_seen k (listed m) h))

-- nor is one where no entry is newer
pub none_newer_told : (n : ℕ) (k : Keeping) (m : Entries) → HasNoneNewer m k.entries → [] ≡ changes_told n k (Unites m)
none_newer_told n k m old = sym (ap (takes n) (no-value-passes (is_seen k) m (λ id e h. ap (λ t. t && in_regions k.regions (key_of e.id)) (old id e h))))

pub taken_told : {E : Type 0} (n : ℕ) (k : Keeping) (m : Entries) (kept : List Entry) (r : Result (List LaneChange) E) → kept ≡ filter (is_seen k) (listed m) → IfOk r (λ l. l ≡ takes n kept)
    → IfOk r (λ l. l ≡ changes_told n k (Unites m))
taken_told n k m kept (Ok l) e h = h ∙ ap (takes n) e
taken_told n k m kept (Err x) e h = h
