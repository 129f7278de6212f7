-- What a lane keeps, after one more event: a state, a distributor that hears it, a message that is sent or delivered.
use Rattle.std.proofs.Common.{◌≡◌, ◌≢◌, ℕ, ◌+◌, ◌<◌, ◌≤◌, Bool, true, false, List, [], ◌∷◌, cond, Option, Some, None, is_some, inl, inr, refl, sym, ap, ◌∙◌, subst, arith, eqb, eq-eqb}
use Rattle.std.specs.List.{Contains}
use Rattle.std.proofs.lemmas.Bool.{eqb-true, cases_eq}
use Rattle.bucket_ids.specs.Buckets.{Low}
use Rattle.node_sets.proofs.Bits.{has_none}
use Rattle.cluster_states.specs.declared.cluster_state.ClusterState.{ClusterState}
use Rattle.cluster_states.specs.Publishing.{serves}
use Rattle.ideal_nodes.specs.Placement.{IsOwner}
use Rattle.messages.specs.declared.message.Message.{Message}
use Rattle.messages.specs.declared.body.Body.TheVariants as body
use Rattle.messages.specs.declared.reply.Reply.{Reply}
use Rattle.messages.specs.Noting.{noted_body}
use Rattle.node_model.specs.Nodes.{Node}
use Rattle.distributor_part.specs.declared.rules.Rules.{Rules}
use Rattle.distributor_part.specs.Parts.{Part, new_part}
use Rattle.lane_journals.specs.Readers as readers
use Rattle.lane_journals.specs.Readers.{Given, or_else, only_if, sent, began, closed, published, held, asked, opened}
use Rattle.lane_journals.specs.RowLists as listed
use Rattle.lane_journals.specs.RowLists.{row_with, rows}
use Rattle.lane_journals.specs.Meanings.{history}
use Rattle.lane_journals.specs.Places.{Setting, state_in}
use Rattle.lane_journals.specs.KeptJournals.{IsLegal, IsLegalStep}
use Rattle.lane_journals.specs.declared.event.LaneEvent.{LaneEvent}
use Rattle.lane_journals.specs.declared.event.LaneEvent.TheVariants as event
use Rattle.lane_journals.proofs.Basics.{or_else-some, or_else-cases, only_if-some}
use Rattle.lane_journals.proofs.Meant.{state-published, state-serves}
use Rattle.lane_journals.proofs.RowLists.{no_rows}
use Rattle.lane_keeping.specs.NodeKeeping.{NodeKeeps}
use Rattle.lane_keeping.specs.Replaying.{sending, delivered}
use Rattle.lane_keeping.specs.LaneKeeping.{setting_of, IsIdle, node_in, KnowsOpening, IsRowOf, Holds, PartKeeps, part_in, Keeps}
use Rattle.lane_keeping.proofs.Acting.{Acted, not-yet, unopened, unasked}
use Rattle.proof_basics.proofs.Numbers.{apart}

module _ (lane : Low) (rules : Rules) where
  abbrev S : Setting
  S = setting_of lane rules

  -- ---- a state is published

  unpublished : (J : List LaneEvent) (s : ClusterState) → IsLegalStep S J (event.Published s) → (o : Option ClusterState) → state_in s.version J ≡ o → o ≡ None
  unpublished J s step None e = refl
  unpublished J s step (Some t) e = let less = (step.permitted).newest s.version (state-published s.version J t e) in absurd (omega (arith, less))

  states-more : (J : List LaneEvent) (s : ClusterState) (d : ℕ) (p : Part) (o : Option ClusterState)
      → Holds lane d (held d (history J)) (λ v. state_in v J) (λ v n. asked v n (history J)) (λ v. opened v (history J)) (λ v key. row_with key (rows v (history J))) o p
      → Holds lane d (held d (history J)) (λ v. state_in v (event.Published s ∷ J)) (λ v n. asked v n (history J)) (λ v. opened v (history J)) (λ v key. row_with key (rows v (history J))) o p
  states-more J s d p None h = h
  states-more J s d p (Some t) h = (h.0, or_else-some (state_in t.version J) _ t h.1, h.2)

  pub keeps-published : (J : List LaneEvent) (newest : Option ClusterState) (last : ℕ) (nodes : List Node) (parts : List Part) (s : ClusterState)
      → Keeps lane rules J newest last nodes parts → IsLegalStep S J (event.Published s) → Keeps lane rules (event.Published s ∷ J) (Some s) last nodes parts
  keeps-published J newest last nodes parts s k step = record {
    legal = (k.legal, step);
    newest_is = (ap (λ (o : Option ClusterState). or_else o (only_if (eqb s.version s.version) s)) (unpublished J s step (state_in s.version J) refl) ∙ ap (λ (t : Bool). only_if t s) (eq-eqb s.version s.version refl), greatest);
    numbered = k.numbered;
    nodes_are = k.nodes_are;
    parts_are = λ d. let p = k.parts_are d in record {
      number_is = p.number_is;
      lane_is = p.lane_is;
      rules_are = p.rules_are;
      heard = states-more J s d (part_in lane rules parts d) (part_in lane rules parts d).state p.heard;
    };
  }
    where
      greatest : (v : ℕ) → cond (eqb s.version v) true (published v (history J)) ≡ true → v ≤ s.version
      greatest v h = by_test (eqb s.version v) refl h
        where
          by_test : (t : Bool) → eqb s.version v ≡ t → cond t true (published v (history J)) ≡ true → v ≤ s.version
          by_test true e h = let same = eqb-true s.version v e in omega (arith, same)
          by_test false e h = let less = (step.permitted).newest v h in omega (arith, less)

  -- ---- a distributor hears it

  -- nobody holds the newest state before he hears it, if he holds an older one
  pub knows-nothing : (J : List LaneEvent) (s : ClusterState) (d : ℕ) → IsLegal S J → (Acted S J s.version → ⊥)
      → KnowsOpening (λ n. asked s.version n (history J)) (opened s.version (history J)) (λ key. row_with key (rows s.version (history J))) s (new_part d lane rules (Some s))
  knows-nothing J s d legal none =
      let closed = unopened S J s.version legal none in
      record {
        answered_are = λ n. has_none n ∙ sym (ap is_some (unasked S J s.version n legal none));
        serving = λ n h. let e = has_none n in let w : true ≡ false = sym h ∙ e in cc;
        shown_are = λ e. record {
          valid = λ b c. absurd (nothing b c);
          named = λ b c. absurd (nothing b c);
          all = λ b n. (let a = n.answer in let e = unasked S J s.version n.node legal none in let w : None ≡ Some n.given = sym e ∙ a in absurd (not_some n.given w));
        };
        opened_as = closed;
        rows_are = λ key. subst (λ (rs : List listed.Row). IsRowOf None (row_with key rs)) (sym (no_rows s.version (history J) closed)) tt;
        parted = tt;
      }
    where
      nothing : (b : Low) → Contains {X = Low} [] b → ⊥
      nothing b c = let less = c.1 in omega (arith, less)

      not_some : (g : Given) → ◌≡◌ {A = Option Given} None (Some g) → ⊥
      not_some g e = cc

  pub keeps-heard : (J : List LaneEvent) (last : ℕ) (nodes : List Node) (parts now : List Part) (s : ClusterState) (d : ℕ)
      → Keeps lane rules J (Some s) last nodes parts → IsIdle d (λ line. began line (history J)) (λ line. closed line (history J))
      → ((w : ℕ) → held d (history J) ≡ Some w → w < s.version)
      → part_in lane rules now d ≡ new_part d lane rules (Some s) → ((e : ℕ) → e ≢ d → part_in lane rules now e ≡ part_in lane rules parts e)
      → Keeps lane rules (event.Heard d s.version ∷ J) (Some s) last nodes now
  keeps-heard J last nodes parts now s d k idle below own other = record {
    legal = (
      k.legal,
      record {
        noted = tt;
        permitted = record {
          state = state-published s.version J s k.newest_is.0;
          newest = k.newest_is.1;
          newer = below;
          idle = idle;
        };
        placed = tt;
        ended = tt;
      },
    );
    newest_is = k.newest_is;
    numbered = k.numbered;
    nodes_are = k.nodes_are;
    parts_are = λ e. elim (cases_eq e d) [
      | inl is ↦ subst (λ (x : ℕ). PartKeeps lane rules (event.Heard d s.version ∷ J) x (part_in lane rules now x)) (sym is) (subst (λ (x : Part). PartKeeps lane rules (event.Heard d s.version ∷ J) d x) (sym own) hearer)
      | inr off ↦ subst (λ (x : Part). PartKeeps lane rules (event.Heard d s.version ∷ J) e x) (sym (other e off)) (bystander e off)
    ];
  }
    where
      hearer : PartKeeps lane rules (event.Heard d s.version ∷ J) d (new_part d lane rules (Some s))
      hearer = record {
        number_is = refl;
        lane_is = refl;
        rules_are = refl;
        heard = (
          ap (λ (t : Bool). cond t (Some s.version) (held d (history J))) (eq-eqb d d refl),
          k.newest_is.0,
          λ owner. knows-nothing J s d k.legal (not-yet S J s.version d s k.newest_is.0 owner below),
        );
      }

      bystander : (e : ℕ) → e ≢ d → PartKeeps lane rules (event.Heard d s.version ∷ J) e (part_in lane rules parts e)
      bystander e off = let p = k.parts_are e in record {
        number_is = p.number_is;
        lane_is = p.lane_is;
        rules_are = p.rules_are;
        heard = subst (λ (o : Option ℕ). Holds lane e o (λ v. state_in v J) (λ v n. asked v n (history J)) (λ v. opened v (history J)) (λ v key. row_with key (rows v (history J))) (part_in lane rules parts e).state (part_in lane rules parts e))
            (sym (ap (λ (t : Bool). cond t (Some s.version) (held e (history J))) (apart d e (λ same. off (sym same))))) p.heard;
      }

  -- ---- a message is sent

  pub may-ask : (J : List LaneEvent) (newest : Option ClusterState) (last : ℕ) (nodes : List Node) (parts : List Part) → Keeps lane rules J newest last nodes parts
      → (m : Message) (s : ClusterState) → m.body ≡ body.Ask → m.version ≡ s.version → held m.sender (history J) ≡ Some s.version → state_in s.version J ≡ Some s → IsOwner lane s m.sender
      → opened s.version (history J) ≡ false → serves s m.receiver ≡ true → IsLegalStep S J (sending (last + 1) m)
  may-ask J newest last nodes parts k m s is under holds at owner unopened serving =
      subst (λ (b : _). IsLegalStep S J (event.Sent (last + 1) m.version m.sender m.receiver (noted_body b))) (sym is)
      (subst (λ (v : ℕ). IsLegalStep S J (event.Sent (last + 1) v m.sender m.receiver (noted_body body.Ask))) (sym under) (record {
        noted = tt;
        permitted = record {
          greater = λ j x h. (let le = k.numbered j x h in omega (arith, le));
          holder = holds;
          member = state-serves S J k.legal s.version m.receiver s at ∙ serving;
          timing = inl refl;
          carries = unopened;
        };
        placed = (record { state = s; published = at; owner = owner }, tt);
        ended = tt;
      }))

  pub keeps-sent : (J : List LaneEvent) (newest : Option ClusterState) (last : ℕ) (nodes : List Node) (parts : List Part) (m : Message)
      → Keeps lane rules J newest last nodes parts → IsLegalStep S J (sending (last + 1) m) → Keeps lane rules (sending (last + 1) m ∷ J) newest (last + 1) nodes parts
  keeps-sent J newest last nodes parts m k step = record {
    legal = (k.legal, step);
    newest_is = k.newest_is;
    numbered = λ j x h. numbered j x h;
    nodes_are = k.nodes_are;
    parts_are = k.parts_are;
  }
    where
      numbered : (j : ℕ) (x : readers.Message) → sent j (history (sending (last + 1) m ∷ J)) ≡ Some x → j ≤ last + 1
      numbered j x h = elim (or_else-cases (sent j (history J)) _ x h) [
        | inl old ↦ (let le = k.numbered j x old in omega (arith, le))
        | inr new ↦ (let o = only_if-some (eqb (last + 1) j) _ x new.1 in let same = eqb-true (last + 1) j o.0 in omega (arith, same))
      ]

  -- ---- it is delivered

  pub keeps-delivered : (J : List LaneEvent) (newest : Option ClusterState) (last : ℕ) (nodes now : List Node) (parts : List Part) (number n : ℕ) (r : Reply) (y : Node)
      → Keeps lane rules J newest last nodes parts → IsLegalStep S J (delivered number r) → NodeKeeps (delivered number r ∷ J) n y
      → ((m : ℕ) (x : Node) → n ≢ m → NodeKeeps J m x → NodeKeeps (delivered number r ∷ J) m x)
      → node_in now n ≡ y → ((m : ℕ) → m ≢ n → node_in now m ≡ node_in nodes m)
      → Keeps lane rules (delivered number r ∷ J) newest last now parts
  keeps-delivered J newest last nodes now parts number n r y k step taken stay own other = record {
    legal = (k.legal, step);
    newest_is = k.newest_is;
    numbered = k.numbered;
    nodes_are = λ m. elim (cases_eq m n) [
      | inl is ↦ subst (λ (x : ℕ). NodeKeeps (delivered number r ∷ J) x (node_in now x)) (sym is) (subst (λ (x : Node). NodeKeeps (delivered number r ∷ J) n x) (sym own) taken)
      | inr off ↦ subst (λ (x : Node). NodeKeeps (delivered number r ∷ J) m x) (sym (other m off)) (stay m (node_in nodes m) (λ same. off (sym same)) (k.nodes_are m))
    ];
    parts_are = k.parts_are;
  }
