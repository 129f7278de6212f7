-- Steps of a pass one after the other in a quiet span.
use Rattle.std.proofs.Common.{◌≡◌, ◌∙◌, ◌==◌, ◌++◌, ℕ, Bool, true, false, List, [], ◌∷◌, Option, refl, sym, ap, subst, eqb-true, append_assoc, if◌then◌else◌}
use mathlib.Core.Bool.{true≢false}
use Rattle.bucket_ids.specs.Buckets.{Low}
use Rattle.cluster_states.specs.declared.cluster_state.ClusterState.{ClusterState}
use Rattle.cluster_states.specs.Publishing.{serves}
use Rattle.messages.specs.declared.body.Body.{Body}
use Rattle.messages.specs.declared.decision.Decision.{Decision}
use Rattle.messages.specs.declared.reply.Reply.{Reply}
use Rattle.carriers.specs.declared.fate.Fate.{Fate}
use Rattle.lane_carriage.specs.Carriage.{IsCarried}
use Rattle.lane_journals.specs.Events.{Content}
use Rattle.lane_journals.specs.Places.{Setting}
use Rattle.lane_journals.specs.declared.event.LaneEvent.{LaneEvent}
use Rattle.lane_journals.specs.declared.event.LaneEvent.TheVariants.{Published, Heard, Begun, Refused, Opened, Prepared, Wrote, Sent, Delivered, Returned, Closed, Decided, Stopped, Started}
use Rattle.lane_keeping.specs.LaneKeeping.{setting_of}
use Rattle.lane_states.specs.declared.lane_state.LaneState.{LaneState}
use Rattle.lane_states.specs.LaneStates.{journal_of}
use Rattle.lane_rest.specs.Rest.{documents}
use Rattle.pass_model.specs.Nodes.{Node}
use Rattle.pass_model.specs.Rows.{Settings}
use Rattle.pass_model.specs.Scripts.{Script, told_body, told_node}
use Rattle.pass_model.specs.Worlds.{AreSettingsOf}
use Rattle.upkeep_spans.specs.Spans.{IsUpkeepEvent, AreUpkeep, Nothing, More}
use Rattle.undisturbed_spans.specs.Undisturbed.{GoesUndisturbed, Extends}
use Rattle.lane_upkeep.specs.declared.owner.Owner.{Owner}
use Rattle.lane_upkeep.specs.Passing.{IsPassing, PassesOn}
use Rattle.lane_upkeep.specs.Deciding.{Decides, DecidesNothing}
use Rattle.lane_upkeep.specs.Quiet.{Goes, nodes_in, IsCurrent, AreSettingsIn, InQuiet, NodesBecome, VersionsStay, OthersStay, DoesQuietly, IsToldQuietly}
use Rattle.lane_upkeep.specs.Sending.{Says}
use Rattle.lane_upkeep.proofs.QuietDecisions.{decided-nodes, decided-versions, undecided-nodes, undecided-versions}

-- ---- what stays while a pass goes on

writes-none : (d v : ℕ) (e : LaneEvent) (J : List LaneEvent) (b : Low) (held : Content) → IsUpkeepEvent d v e → documents b held (e ∷ J) ≡ documents b held J
writes-none d v (Opened x y rows) J b held is = refl
writes-none d v (Sent n x y to body) J b held is = refl
writes-none d v (Delivered n r) J b held is = refl
writes-none d v (Returned n) J b held is = refl
writes-none d v (Decided x y z) J b held is = refl
writes-none d v (Published s) J b held is = absurd is
writes-none d v (Heard x y) J b held is = absurd is
writes-none d v (Begun line x y id s) J b held is = absurd is
writes-none d v (Refused line x outcome) J b held is = absurd is
writes-none d v (Prepared line row set) J b held is = absurd is
writes-none d v (Wrote line entry) J b held is = absurd is
writes-none d v (Closed line outcome) J b held is = absurd is
writes-none d v (Stopped x) J b held is = absurd is
writes-none d v (Started x) J b held is = absurd is

pub documents-stay : (d v : ℕ) (J K : List LaneEvent) → AreUpkeep d v J K → (b : Low) (held : Content) → documents b held K ≡ documents b held J
documents-stay d v J K Nothing b held = refl
documents-stay d v J K (More M e is more) b held = writes-none d v e M b held is ∙ documents-stay d v J M more b held

with-journal : (S : Setting) (first most : ℕ) (s : ClusterState) (J K : List LaneEvent) (t : Settings) → ((b : Low) (held : Content) → documents b held K ≡ documents b held J) → AreSettingsOf S first most s J t → AreSettingsOf S first most s K t
with-journal S first most s J K t same a = record {
  serving = a.serving;
  ideal = a.ideal;
  redundancy = a.redundancy;
  acks = a.acks;
  searchable = a.searchable;
  split_at = a.split_at;
  lane_bits = a.lane_bits;
  documents = λ held b. a.documents held b ∙ sym (same b held);
}

-- the settings are the lane's further on
pub settings_go_on : (c e : LaneState) (o : Owner) (s : Settings) → PassesOn c e o → AreSettingsIn c o s → AreSettingsIn e o s
settings_go_on c e o s on a = record {
  sound = a.sound;
  searched = a.searched;
  lane = subst (λ (z : LaneState). AreSettingsOf (setting_of z.lane z.rules) (z.rules).searchable (z.rules).split_at o.state (journal_of e) s) (sym on.after)
      (with-journal (setting_of c.lane c.rules) (c.rules).searchable (c.rules).split_at o.state (journal_of c) (journal_of e) s (documents-stay o.distributor (o.state).version (journal_of c) (journal_of e) on.grows) a.lane);
}

-- and each node that serves knows the version
pub current_goes_on : (c e : LaneState) (o : Owner) → VersionsStay c e → IsCurrent c o → IsCurrent e o
current_goes_on c e o stay current n serves = stay n ∙ current n serves

pub versions_none : (c : LaneState) → VersionsStay c c
versions_none c n = refl

pub versions_then : (c m e : LaneState) → VersionsStay c m → VersionsStay m e → VersionsStay c e
versions_then c m e a b n = b n ∙ a n

-- ---- fates

pub extends_none : (given : List Fate) → given ≡ given ++ [] → Extends given given
extends_none given e = ([], e)

-- ---- two steps

module _ (first : (e v : ℕ) (d : Script) (given more : List Fate) (J K L : List LaneEvent) → AreUpkeep e v J K → AreUpkeep e v K L → IsCarried given K → IsCarried (given ++ more) L → GoesUndisturbed d (given ++ more) J L → GoesUndisturbed d given J K)
    (second : (e v : ℕ) (d : Script) (given more : List Fate) (J K L : List LaneEvent) → AreUpkeep e v J K → AreUpkeep e v K L → IsCarried given K → IsCarried (given ++ more) L → GoesUndisturbed d (given ++ more) J L → GoesUndisturbed d (given ++ more) K L)
    (c m e : LaneState) (o : Owner) (mid end : List Fate) (a : PassesOn c m o) (b : PassesOn m e o) (p : IsPassing m o mid) (q : IsPassing e o end) (x : Extends mid end) where
  carried-on : IsCarried (mid ++ x.0) (journal_of e)
  carried-on = subst (λ (g : List Fate). IsCarried g (journal_of e)) x.1 (q.carried).carried

  -- each is quiet where both together are
  pub goes_first : (d : Script) → Goes d end c e → Goes d mid c m
  goes_first d g = first o.distributor (o.state).version d mid x.0 (journal_of c) (journal_of m) (journal_of e) a.grows b.grows (p.carried).carried carried-on (subst (λ (f : List Fate). GoesUndisturbed d f (journal_of c) (journal_of e)) x.1 g)

  pub goes_second : (d : Script) → Goes d end c e → Goes d end m e
  goes_second d g = subst (λ (f : List Fate). GoesUndisturbed d f (journal_of m) (journal_of e)) (sym x.1)
      (second o.distributor (o.state).version d mid x.0 (journal_of c) (journal_of m) (journal_of e) a.grows b.grows (p.carried).carried carried-on (subst (λ (f : List Fate). GoesUndisturbed d f (journal_of c) (journal_of e)) x.1 g))

  -- what each does is done by both
  pub quiet_then : (L M : Script → Settings → Type 0) → ((d : Script) (s : Settings) → L d s → VersionsStay c m) → InQuiet mid c m o L → InQuiet end m e o M → InQuiet end c e o (λ d s. L d s × M d s)
  quiet_then L M stays one two d s are current g =
      let l : L d s = one d s are current (goes_first d g) in
      (l, two d s (settings_go_on c m o s a are) (current_goes_on c m o (stays d s l) current) (goes_second d g))

-- ---- fates of several steps

none-behind : (given : List Fate) → given ≡ given ++ []
none-behind [] = refl
none-behind (f ∷ fs) = ap (λ (g : List Fate). f ∷ g) (none-behind fs)

pub extends_same : (given now : List Fate) → now ≡ given → Extends given now
extends_same given now e = ([], e ∙ none-behind given)

pub extends_then : (f g h : List Fate) → Extends f g → Extends g h → Extends f h
extends_then f g h x y = (x.0 ++ y.0, y.1 ∙ (ap (λ (z : List Fate). z ++ y.0) x.1 ∙ append_assoc f x.0 y.0))

-- ---- nodes that don't serve

pub others_none : (d : Script) (c : LaneState) (o : Owner) → OthersStay d c c o
others_none d c o n off = refl

pub others_then : (d : Script) (c m e : LaneState) (o : Owner) → OthersStay d c m o → OthersStay d m e o → OthersStay d c e o
others_then d c m e o a b n off = b n off ∙ a n off

-- where a function leaves them, and all nodes become what it says
pub becomes_others : (d : Script) (c e : LaneState) (o : Owner) (f : (ℕ → Node) → ℕ → Node) → ((ns : ℕ → Node) (n : ℕ) → serves o.state n ≡ false → f ns n ≡ ns n) → NodesBecome d c e f → OthersStay d c e o
becomes_others d c e o f leaves becomes n off = becomes n ∙ leaves (nodes_in d c) n off

not-told : (o : Owner) (node : ℕ) (b : Body) (n : ℕ) (x : Node) (t : Bool) → serves o.state node ≡ true → serves o.state n ≡ false → (n == node) ≡ t → (if t then told_body b x else x) ≡ x
not-told o node b n x true on off e = absurd (true≢false (sym on ∙ (ap (λ (k : ℕ). serves o.state k) (sym (eqb-true n node e)) ∙ off)))
not-told o node b n x false on off e = refl

pub told_others : (d : Script) (c e : LaneState) (o : Owner) (node : ℕ) (b : Body) → serves o.state node ≡ true → NodesBecome d c e (told_node node b) → OthersStay d c e o
told_others d c e o node b on becomes n off = becomes n ∙ not-told o node b n (nodes_in d c n) (n == node) on off refl

-- ---- one step that does this quietly

-- nothing was done at all
pub does_same : (c : LaneState) (o : Owner) (given : List Fate) (L : Script → Settings → Type 0) → ((d : Script) (s : Settings) → AreSettingsIn c o s → IsCurrent c o → L d s) → DoesQuietly given given c c o L
does_same c o given L holds = record {
  fates = extends_same given given refl;
  quiet = λ d s are current goes. holds d s are current;
  versions = λ d s are current goes. versions_none c;
  still = λ d s are current goes. others_none d c o;
}

-- it does what follows from that
pub does_map : (given now : List Fate) (c e : LaneState) (o : Owner) (L M : Script → Settings → Type 0) → ((d : Script) (s : Settings) → L d s → M d s) → DoesQuietly given now c e o L → DoesQuietly given now c e o M
does_map given now c e o L M f a = record {
  fates = a.fates;
  quiet = λ d s are current goes. f d s (a.quiet d s are current goes);
  versions = a.versions;
  still = a.still;
}

-- the same, with all that is known of the span
pub does_map_in : (given now : List Fate) (c e : LaneState) (o : Owner) (L M : Script → Settings → Type 0) → ((d : Script) (s : Settings) → AreSettingsIn c o s → IsCurrent c o → Goes d now c e → VersionsStay c e → OthersStay d c e o → L d s → M d s)
    → DoesQuietly given now c e o L → DoesQuietly given now c e o M
does_map_in given now c e o L M f a = record {
  fates = a.fates;
  quiet = λ d s are current goes. f d s are current goes (a.versions d s are current goes) (a.still d s are current goes) (a.quiet d s are current goes);
  versions = a.versions;
  still = a.still;
}

-- a decision leaves all nodes
pub does_decided : (c e : LaneState) (o : Owner) (given : List Fate) (x : Decision) → Decides c e o x → DoesQuietly given given c e o (λ d s. NodesBecome d c e (λ ns. ns))
does_decided c e o given x h = record {
  fates = extends_same given given refl;
  quiet = λ d s are current goes n. decided-nodes c e o x h d n;
  versions = λ d s are current goes. decided-versions c e o x h;
  still = λ d s are current goes n off. decided-nodes c e o x h d n;
}

pub does_undecided : (c e : LaneState) (o : Owner) (given : List Fate) → DecidesNothing c e o → DoesQuietly given given c e o (λ d s. NodesBecome d c e (λ ns. ns))
does_undecided c e o given h = record {
  fates = extends_same given given refl;
  quiet = λ d s are current goes n. undecided-nodes c e o h d n;
  versions = λ d s are current goes. undecided-versions c e o h;
  still = λ d s are current goes n off. undecided-nodes c e o h d n;
}

-- one message to a node that serves
pub does_say : (c e : LaneState) (o : Owner) (node : ℕ) (b : Body) (given now : List Fate) (reply : Option Reply) → serves o.state node ≡ true → Says c e o node b given now reply → DoesQuietly given now c e o (λ d s. IsToldQuietly d c e node b reply)
does_say c e o node b given now reply on says = record {
  fates = says.fates;
  quiet = says.quiet;
  versions = λ d s are current goes. (says.quiet d s are current goes).versions;
  still = λ d s are current goes. told_others d c e o node b on (says.quiet d s are current goes).nodes;
}

-- ---- two steps, each of which does something quietly

-- the clauses of the law that quiet spans part
abbrev pub FirstIsQuiet : Type 0
FirstIsQuiet = (e v : ℕ) (d : Script) (given more : List Fate) (J K L : List LaneEvent) → AreUpkeep e v J K → AreUpkeep e v K L → IsCarried given K → IsCarried (given ++ more) L → GoesUndisturbed d (given ++ more) J L → GoesUndisturbed d given J K

abbrev pub SecondIsQuiet : Type 0
SecondIsQuiet = (e v : ℕ) (d : Script) (given more : List Fate) (J K L : List LaneEvent) → AreUpkeep e v J K → AreUpkeep e v K L → IsCarried given K → IsCarried (given ++ more) L → GoesUndisturbed d (given ++ more) J L → GoesUndisturbed d (given ++ more) K L

pub does_then : FirstIsQuiet → SecondIsQuiet → (c m e : LaneState) (o : Owner) (given mid end : List Fate) (L M : Script → Settings → Type 0) → PassesOn c m o → PassesOn m e o → IsPassing m o mid → IsPassing e o end
    → DoesQuietly given mid c m o L → DoesQuietly mid end m e o M → DoesQuietly given end c e o (λ d s. L d s × M d s)
does_then first second c m e o given mid end L M on_first on_second passing_mid passing_end a b =
    let one : (d : Script) → Goes d end c e → Goes d mid c m = λ d g. goes_first first second c m e o mid end on_first on_second passing_mid passing_end b.fates d g in
    let two : (d : Script) → Goes d end c e → Goes d end m e = λ d g. goes_second first second c m e o mid end on_first on_second passing_mid passing_end b.fates d g in
    let sets : (s : Settings) → AreSettingsIn c o s → AreSettingsIn m o s = λ s are. settings_go_on c m o s on_first are in
    let knows : (d : Script) (s : Settings) → AreSettingsIn c o s → IsCurrent c o → Goes d end c e → IsCurrent m o = λ d s are current g. current_goes_on c m o (a.versions d s are current (one d g)) current in
    record {
      fates = extends_then given mid end a.fates b.fates;
      quiet = λ d s are current g. (a.quiet d s are current (one d g), b.quiet d s (sets s are) (knows d s are current g) (two d g));
      versions = λ d s are current g. versions_then c m e (a.versions d s are current (one d g)) (b.versions d s (sets s are) (knows d s are current g) (two d g));
      still = λ d s are current g. others_then d c m e o (a.still d s are current (one d g)) (b.still d s (sets s are) (knows d s are current g) (two d g));
    }
