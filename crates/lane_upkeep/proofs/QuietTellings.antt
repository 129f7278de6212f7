-- What a message of a pass makes of nodes in a quiet span.
use Rattle.std.proofs.Common.{◌≡◌, ◌++◌, ◌+◌, ℕ, true, false, List, [], ◌∷◌, length, Option, Some, None, IfSome, IfNone, IfOk, Result, Ok, Err, refl, sym, ap, ◌∙◌, subst}
use mathlib.Core.Bool.{true≢false}
use Rattle.carriers.specs.declared.fate.Fate.{Fate}
use Rattle.messages.specs.declared.body.Body.{Body}
use Rattle.messages.specs.declared.body.Body.TheVariants as body
use Rattle.messages.specs.declared.message.Message.{Message}
use Rattle.messages.specs.declared.reply.Reply.{Reply}
use Rattle.messages.specs.declared.reply.Reply.TheVariants as replies
use Rattle.messages.specs.Noting.{message_of, noted_reply}
use Rattle.node_model.specs.Nodes.{Node}
use Rattle.lane_journals.specs.Events as plain
use Rattle.lane_journals.specs.Readers as readers
use Rattle.lane_journals.specs.Readers.{first_reply, returned, stopped}
use Rattle.lane_journals.specs.Meanings.{history, entry_at, meaning_reply}
use Rattle.lane_journals.specs.declared.event.LaneEvent.{LaneEvent}
use Rattle.lane_keeping.specs.Flights.{Brings}
use Rattle.lane_keeping.specs.Replaying.{sending}
use Rattle.lane_carriage.specs.Carriage.{met, IsDealt, AreDelivered, due}
use Rattle.lane_carriage.specs.Waits.{numbers}
use Rattle.lane_carriage.specs.Laws.{OfTaken}
use Rattle.lane_keeping.specs.LaneKeeping.{node_in, setting_of}
use Rattle.lane_keeping.specs.RoundKeeping.{origin_in}
use Rattle.lane_states.specs.declared.lane_state.LaneState.{LaneState}
use Rattle.lane_states.specs.LaneStates.{journal_of, IsKept, Went, NodesOn}
use Rattle.lane_states.specs.Tellings.{IsRowBody, IsFirstReply}
use Rattle.pass_model.specs.Lanes.{IsPassBody, is_answer}
use Rattle.pass_model.specs.Scripts.{Script}
use Rattle.undisturbed_spans.specs.Undisturbed.{GoesUndisturbed}
use Rattle.undisturbed_spans.specs.Telling.{IsSaid, IsToldIn}
use Rattle.lane_upkeep.specs.declared.owner.Owner.{Owner}
use Rattle.lane_upkeep.specs.CameBack.{CameBack}
use Rattle.lane_upkeep.specs.Passing.{IsPassing, MayTell}
use Rattle.lane_upkeep.specs.Quiet.{Goes, IsCurrent, IsToldQuietly}
use Rattle.lane_upkeep.proofs.Tellings.{row-body}
use Rattle.lane_upkeep.proofs.QuietEnds.{reply_ends}

-- both of what is said of a result
pub both-ok : {X E : Type 0} (P Q R : X → Type 0) (r : Result X E) → ((x : X) → P x → Q x → R x) → IfOk r P → IfOk r Q → IfOk r R
both-ok P Q R (Ok x) f p q = f x p q
both-ok P Q R (Err e) f p q = tt

pass-body : (b : Body) → IsRowBody b → IsPassBody b
pass-body body.Ask h = absurd h
pass-body (body.Read b only) h = absurd h
pass-body (body.Store e) h = absurd h
pass-body (body.Apply b es) h = absurd h
pass-body (body.Delete b s) h = tt
pass-body (body.Split b) h = tt
pass-body (body.Join b) h = tt
pass-body (body.Ready b) h = tt
pass-body (body.Activate b) h = tt

-- it carries no entries
brings-none : (J : List LaneEvent) (b : Body) → IsRowBody b → Brings (λ t. entry_at t J) b
brings-none J body.Ask h = absurd h
brings-none J (body.Read b only) h = absurd h
brings-none J (body.Store e) h = absurd h
brings-none J (body.Apply b es) h = absurd h
brings-none J (body.Delete b s) h = tt
brings-none J (body.Split b) h = tt
brings-none J (body.Join b) h = tt
brings-none J (body.Ready b) h = tt
brings-none J (body.Activate b) h = tt

-- ---- replies that mean the same

answers-by : (J : List LaneEvent) (r : Reply) → is_answer r ≡ readers.is_answer (meaning_reply J (noted_reply r))
answers-by J (replies.Answer ps es) = refl
answers-by J (replies.Newer v) = refl
answers-by J replies.NoBucket = refl
answers-by J replies.Differs = refl
answers-by J replies.NoMemory = refl

wants-by : (J : List LaneEvent) (r : Reply) → meaning_reply J (noted_reply r) ≡ plain.NoMemory → r ≡ replies.NoMemory
wants-by J (replies.Answer ps es) e = cc
wants-by J (replies.Newer v) e = cc
wants-by J replies.NoBucket e = cc
wants-by J replies.Differs e = cc
wants-by J replies.NoMemory e = refl

-- ---- the message

module _ (waits : OfTaken (λ given last late f taken rest. numbers taken ≡ due (given ++ f ∷ []) (last + 1)))
    (back : (d : Script) (given : List Fate) (f : Fate) (J K : List LaneEvent) (old now : ℕ → Node) (m : Message) → IsSaid d given f J K old now m → returned (length given + 1) (history K) ≡ true)
    (told : (d : Script) (given : List Fate) (f : Fate) (J K : List LaneEvent) (old now : ℕ → Node) (m : Message) → IsSaid d given f J K old now m
    → (first_reply (length given + 1) (history K) ≡ Some plain.NoMemory → ⊥) → IsToldIn d J K old now (length given + 1) m)
    (c e : LaneState) (o : Owner) (given now : List Fate) (node : ℕ) (b : Body) (p : IsPassing c o given) (may : MayTell c o node b)
    (w : Went c e (message_of (origin_in c.lane o.distributor o.state) node b) given now) (took : NodesOn c e) (kept : IsKept e) (d : Script) (current : IsCurrent c o) (goes : Goes d now c e) where
  abbrev m : Message
  m = message_of (origin_in c.lane o.distributor o.state) node b

  abbrev J : List LaneEvent
  J = journal_of c

  of-row : IsRowBody b
  of-row = row-body may.row node b may.of_row

  counted : c.last ≡ length given
  counted = ((p.carried).waiting).counted

  said : IsSaid d given w.fate J (journal_of e) (node_in c.nodes.items) (node_in e.nodes.items) m
  said = record {
    carried = (p.carried).carried;
    of_pass = pass-body b of-row;
    brings = brings-none J b of-row;
    current = current node may.serving;
    between = w.between;
    dealt = subst (λ (i : ℕ). IsDealt (met (stopped node (history J)) w.fate) (i + 1) (sending (i + 1) m ∷ J) w.between) counted w.dealt;
    late = subst (λ (i : ℕ). AreDelivered (due (given ++ w.fate ∷ []) (i + 1)) w.between (journal_of e)) counted
        (subst (λ (ns : List ℕ). AreDelivered ns w.between (journal_of e))
        (waits given c.last c.late.late w.fate m (w.late).taken e.late.late (p.carried).waiting (w.late).are_taken w.none_left) (w.late).delivered);
    nodes = took;
    quiet = subst (λ (fates : List Fate). GoesUndisturbed d fates J (journal_of e)) w.fates goes;
  }

  -- where a reply comes that isn't want of memory
  some-told : (r : Reply) → IsFirstReply (journal_of e) (c.last + 1) r → (r ≡ replies.NoMemory → ⊥) → CameBack (journal_of e) o node b r → IsToldQuietly d c e node b (Some r)
  some-told r first fine came =
      let is : first_reply (length given + 1) (history (journal_of e)) ≡ Some (meaning_reply first.before (noted_reply r)) = subst (λ (i : ℕ). first_reply (i + 1) (history (journal_of e)) ≡ Some (meaning_reply first.before (noted_reply r))) counted first.is in
      let t = told d given w.fate J (journal_of e) (node_in c.nodes.items) (node_in e.nodes.items) m said (λ wants. fine (wants-by first.before r (same _ _ (sym is ∙ wants)))) in
      record {
        nodes = t.nodes;
        versions = t.versions;
        given = r;
        came_back = refl;
        answers = answers-by first.before r ∙ ap readers.is_answer (same _ _ (sym is ∙ t.replied)) ∙ sym (answers-by t.before t.reply) ∙ t.answers;
        ends = reply_ends (setting_of e.lane e.rules) (journal_of e) o node b r (kept.keeps).legal (t.versions node ∙ current node may.serving) came fine;
      }
    where
      same : (x y : plain.Reply) → ◌≡◌ {A = Option plain.Reply} (Some x) (Some y) → x ≡ y
      same x y h = cc

  pub quiet-told : (reply : Option Reply) → IfSome reply (IsFirstReply (journal_of e) (c.last + 1)) → IfNone reply (returned (c.last + 1) (history (journal_of e)) ≡ false) → (reply ≡ Some replies.NoMemory → ⊥)
      → IfSome reply (CameBack (journal_of e) o node b) → IsToldQuietly d c e node b reply
  quiet-told (Some r) first silent fine came = some-told r first (λ n. fine (ap (λ x. Some x) n)) came
  quiet-told None first silent fine came =
      let there : returned (c.last + 1) (history (journal_of e)) ≡ true = subst (λ (i : ℕ). returned (i + 1) (history (journal_of e)) ≡ true) (sym counted)
      (back d given w.fate J (journal_of e) (node_in c.nodes.items) (node_in e.nodes.items) m said) in
      absurd (true≢false (sym there ∙ silent))
