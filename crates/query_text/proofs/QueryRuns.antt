-- Each query is read, and nothing else.
use Rattle.std.proofs.Common.{◌≡◌, ℕ, Bool, true, false, cond, List, [], ◌∷◌, ◌++◌, Option, Some, None, is_some, refl, sym, ap, subst, ◌∙◌, option_and_then, option_map}
use Rattle.std.specs.FinMap as fin
use Rattle.doc_types.specs.SchemaCodes.{Types}
use Rattle.doc_types.specs.Tokens.{Token, word}
use Rattle.conditions.specs.Machines.{run, Reads}
use Rattle.conditions.specs.declared.kinds.Kind.TheVariants as part_of
use Rattle.conditions.specs.declared.kinds.Negation.TheVariants as negation
use Rattle.conditions.specs.Formulas.{Formula}
use Rattle.conditions.specs.Kinds.{kind_of}
use Rattle.conditions.specs.Machine as asked
use Rattle.proof_basics.proofs.Options.{some_same, none_some}
use Rattle.conditions.proofs.Basics.{run-one, run-cons, run-append}
use Rattle.query_groups.specs.declared.cues.Cue.{Cue}
use Rattle.query_groups.specs.declared.cues.Cue.TheVariants as cue
use Rattle.query_groups.specs.declared.grouping.Opening.{Opening}
use Rattle.query_groups.specs.declared.grouping.Opening.TheVariants as before
use Rattle.query_groups.specs.declared.grouping.Middle.{Middle}
use Rattle.query_groups.specs.declared.grouping.Middle.TheVariants as amid
use Rattle.query_groups.specs.declared.grouping.Listing.{Listing}
use Rattle.query_groups.specs.declared.grouping.Listing.TheVariants as at
use Rattle.query_groups.specs.declared.grouping.Closing.{Closing}
use Rattle.query_groups.specs.declared.grouping.Closing.TheVariants as after
use Rattle.query_text.specs.declared.parts.Part.{Part}
use Rattle.query_text.specs.declared.parts.Part.TheVariants as part
use Rattle.query_groups.specs.declared.groups.GroupBy.{GroupBy}
use Rattle.query_text.specs.declared.reader.Head.TheVariants as head
use Rattle.query_text.specs.declared.terms.Term.{Term}
use Rattle.query_groups.specs.Cues.{select_word, from_word, where_word, star, bar, semicolon, cue_of}
use Rattle.query_groups.specs.Outputs.{has_groups}
use Rattle.query_text.specs.Grammar.{IsTail, end_tokens, Said, IsQuery}
use Rattle.query_text.specs.Parts as parts
use Rattle.query_text.specs.Parts.{condition_step}
use Rattle.query_groups.specs.Grouping.{Group, opening, middle, listing, closing, group_next}
use Rattle.query_text.specs.Machine.{Asking, Query, heading, typed, asking, grouping, ended, select_next, star_next, from_next, where_next, said_so, whole_condition, asking_next, grouping_next, query_step, begin, query_says}
use Rattle.query_groups.proofs.CueTokens.{TokenIs, cue_token, select_cue, star_cue, from_cue, where_cue, bar_cue, semicolon_cue}
use Rattle.query_groups.proofs.Outputs.{groups_there}
use Rattle.query_groups.proofs.GroupRuns.{GroupRuns, group_runs}
use Rattle.query_text.proofs.QueryReading.{Asks, asking_tokens, types_there, laws, query_goes, query_said, query_begins, read_by}

nothing : {X : Type 0} (o : Option X) (x : X) → o ≡ None → o ≡ Some x → ⊥
nothing o x n s = cc (n, s)

module _ (types : Types) (name : List ℕ) where
  -- a condition goes on neither with `|` nor with `;`
  bar_at : (p : asked.Place Term Part) (fs : List (asked.Frame Term)) → asked.place_step negation.Sign (parts.terms types name) part_of.Other bar p fs ≡ None
  bar_at (asked.outside asked.want) fs = refl
  bar_at (asked.outside asked.want_bracket) fs = refl
  bar_at (asked.outside (asked.behind x)) fs = refl
  bar_at (asked.within (part.Field field k)) fs = refl
  bar_at (asked.within (part.Contains field)) fs = refl
  bar_at (asked.within (part.Sign field r)) fs = refl
  bar_at (asked.within (part.Whole x)) fs = refl

  bar_refused : (x : Asking) → condition_step types name x bar ≡ None
  unfolding kind_of
  bar_refused x = bar_at x.place x.stack

  semicolon_at : (p : asked.Place Term Part) (fs : List (asked.Frame Term)) → asked.place_step negation.Sign (parts.terms types name) part_of.Other semicolon p fs ≡ None
  semicolon_at (asked.outside asked.want) fs = refl
  semicolon_at (asked.outside asked.want_bracket) fs = refl
  semicolon_at (asked.outside (asked.behind x)) fs = refl
  semicolon_at (asked.within (part.Field field k)) fs = refl
  semicolon_at (asked.within (part.Contains field)) fs = refl
  semicolon_at (asked.within (part.Sign field r)) fs = refl
  semicolon_at (asked.within (part.Whole x)) fs = refl

  semicolon_refused : (x : Asking) → condition_step types name x semicolon ≡ None
  unfolding kind_of
  semicolon_refused x = semicolon_at x.place x.stack

  -- the steps of a condition are steps of a query
  asked_by : (x y : Asking) (c : Cue) (t : Token) → TokenIs c t → condition_step types name x t ≡ Some y → asking_next types name x c t ≡ Some (asking name y)
  asked_by x y cue.Bar t is e = absurd (nothing (condition_step types name x bar) y (bar_refused x) (subst (λ u. condition_step types name x u ≡ Some y) is e))
  asked_by x y cue.Semicolon t is e = absurd (nothing (condition_step types name x semicolon) y (semicolon_refused x) (subst (λ u. condition_step types name x u ≡ Some y) is e))
  asked_by x y _ t is e = ap (option_map (asking name)) e

  asked_run : (ts : List Token) (x y : Asking) → run (condition_step types name) x ts ≡ Some y → run (query_step types) (asking name x) ts ≡ Some (asking name y)
  asked_run [] x y e = ap (λ z. Some (asking name z)) (some_same x y e)
  asked_run (t ∷ ts) x y e = elim (condition_step types name x t) as (λ o. condition_step types name x t ≡ o → option_and_then (λ w. run (condition_step types name) w ts) o ≡ Some y → run (query_step types) (asking name x) (t ∷ ts) ≡ Some (asking name y)) [
    | None ↦ λ d f. absurd (none_some y f)
    | Some w ↦ λ d f. run-cons (query_step types) (asking name x) t (asking name w) ts (asking name y) (asked_by x w (cue_of t) t (cue_token t) d) (asked_run ts w y f)
  ] refl e

  -- a group goes on with no `;`
  semicolon_opening : (p : Opening) → group_next types name (opening p) semicolon ≡ None
  unfolding cue_of
  semicolon_opening before.Bar = refl
  semicolon_opening before.All = refl
  semicolon_opening before.AllOpen = refl
  semicolon_opening before.Group = refl
  semicolon_opening before.GroupOpen = refl

  semicolon_middle : (field : List ℕ) (p : Middle) → group_next types name (middle field p) semicolon ≡ None
  unfolding cue_of
  semicolon_middle field amid.Field = refl
  semicolon_middle field amid.Close = refl
  semicolon_middle field amid.Each = refl
  semicolon_middle field amid.EachOpen = refl
  semicolon_middle field amid.Output = refl

  semicolon_listing : (field : List ℕ) (os : List _) (p : Listing) → group_next types name (listing field os p) semicolon ≡ None
  unfolding cue_of
  semicolon_listing field os at.Want = refl
  semicolon_listing field os at.Count = refl
  semicolon_listing field os (at.Fold o) = refl
  semicolon_listing field os (at.Argument o) = refl
  semicolon_listing field os (at.Closed x) = refl
  semicolon_listing field os at.Behind = refl

  semicolon_closing : (g : GroupBy) (p : Closing) → group_next types name (closing g p) semicolon ≡ None
  unfolding cue_of
  semicolon_closing g after.Output = refl
  semicolon_closing g after.Each = refl
  semicolon_closing g after.All = refl

  semicolon_ends : (g : Group) → group_next types name g semicolon ≡ None
  semicolon_ends (opening p) = semicolon_opening p
  semicolon_ends (middle field p) = semicolon_middle field p
  semicolon_ends (listing field os p) = semicolon_listing field os p
  semicolon_ends (closing g p) = semicolon_closing g p

  group_by : (f : Formula Term) (g h : Group) (c : Cue) (t : Token) → TokenIs c t → group_next types name g t ≡ Some h → grouping_next types name f g c t ≡ Some (grouping name f h)
  group_by f g h cue.Semicolon t is e = absurd (nothing (group_next types name g semicolon) h (semicolon_ends g) (subst (λ u. group_next types name g u ≡ Some h) is e))
  group_by f g h _ t is e = ap (option_map (grouping name f)) e

  group_run : (f : Formula Term) (ts : List Token) (g h : Group) → run (group_next types name) g ts ≡ Some h → run (query_step types) (grouping name f g) ts ≡ Some (grouping name f h)
  group_run f [] g h e = ap (λ z. Some (grouping name f z)) (some_same g h e)
  group_run f (t ∷ ts) g h e = elim (group_next types name g t) as (λ o. group_next types name g t ≡ o → option_and_then (λ w. run (group_next types name) w ts) o ≡ Some h → run (query_step types) (grouping name f g) (t ∷ ts) ≡ Some (grouping name f h)) [
    | None ↦ λ d r. absurd (none_some h r)
    | Some w ↦ λ d r. run-cons (query_step types) (grouping name f g) t (grouping name f w) ts (grouping name f h) (group_by f g w (cue_of t) t (cue_token t) d) (group_run f ts w h r)
  ] refl e

  -- before the condition
  head_run : is_some (fin.get types name) ≡ true → run (query_step types) begin (asking_tokens name []) ≡ Some (asking name asked.start)
  head_run h =
      let f : Query → Token → Option Query = query_step types in
      let z : Query = asking name asked.start in
      run-cons f begin select_word (heading head.Select) (star ∷ from_word ∷ word name ∷ where_word ∷ []) z
      (ap (select_next types) select_cue ∙ ap (λ b. cond b (Some (heading head.Select)) None) (types_there types name h))
      (run-cons f (heading head.Select) star (heading head.Star) (from_word ∷ word name ∷ where_word ∷ []) z (ap star_next star_cue)
      (run-cons f (heading head.Star) from_word (heading head.From) (word name ∷ where_word ∷ []) z (ap from_next from_cue)
      (run-cons f (heading head.From) (word name) (typed name) (where_word ∷ []) z (ap (λ b. cond b (Some (typed name)) None) h)
      (run-one f (typed name) where_word z (ap (where_next name) where_cue)))))

  -- some tokens lead to a state that says so
  record Comes (x : Query) (ts : List Token) (v : Said) : Type 0 where
    pub state : Query
    pub ran : run (query_step types) x ts ≡ Some state
    pub says : query_says state ≡ Some v

  come_after : (x y : Query) (ts us : List Token) (v : Said) → run (query_step types) x ts ≡ Some y → Comes y us v → Comes x (ts ++ us) v
  come_after x y ts us v e c = record { state = c.state; ran = run-append (query_step types) x ts y us c.state e c.ran; says = c.says }

  come_next : (x y : Query) (t : Token) (us : List Token) (v : Said) → query_step types x t ≡ Some y → Comes y us v → Comes x (t ∷ us) v
  come_next x y t us v e c = record { state = c.state; ran = run-cons (query_step types) x t y us c.state e c.ran; says = c.says }

  asked_end : (x : Asking) (f : Formula Term) (e : Bool) → whole_condition x ≡ Some f → Comes (asking name x) (end_tokens e) (said_so name None f)
  asked_end x f false w = record { state = asking name x; ran = refl; says = ap (option_map (said_so name None)) w }
  asked_end x f true w = record {
    state = ended (said_so name None f);
    ran = run-one (query_step types) (asking name x) semicolon (ended (said_so name None f)) (ap (λ c. asking_next types name x c semicolon) semicolon_cue ∙ ap (option_map (λ y. ended (said_so name None y))) w);
    says = refl;
  }

  group_end : (f : Formula Term) (g : GroupBy) (e : Bool) → Comes (grouping name f (closing g after.All)) (end_tokens e) (said_so name (Some g) f)
  group_end f g false = record { state = grouping name f (closing g after.All); ran = refl; says = refl }
  group_end f g true = record {
    state = ended (said_so name (Some g) f);
    ran = run-one (query_step types) (grouping name f (closing g after.All)) semicolon (ended (said_so name (Some g) f)) (ap (λ c. grouping_next types name f (closing g after.All) c semicolon) semicolon_cue);
    says = refl;
  }

  bar_run : (x : Asking) (f : Formula Term) → has_groups types name ≡ true → whole_condition x ≡ Some f → query_step types (asking name x) bar ≡ Some (grouping name f (opening before.Bar))
  bar_run x f h w = ap (λ c. asking_next types name x c bar) bar_cue ∙ ap (λ b. cond b (option_map (λ y. grouping name y (opening before.Bar)) (whole_condition x)) None) h ∙ ap (option_map (λ y. grouping name y (opening before.Bar))) w

  tail_comes : (x : Asking) (f : Formula Term) (o : Option GroupBy) (ts : List Token) (e : Bool) → whole_condition x ≡ Some f → IsTail types name ts o → Comes (asking name x) (ts ++ end_tokens e) (said_so name o f)
  tail_comes x f None ts e w is = subst (λ l. Comes (asking name x) (l ++ end_tokens e) (said_so name None f)) (sym is) (asked_end x f e w)
  tail_comes x f (Some g) ts e w is =
      let r : GroupRuns types name ts g = group_runs types name ts g is in
      subst (λ l. Comes (asking name x) (l ++ end_tokens e) (said_so name (Some g) f)) (sym r.same)
      (come_next (asking name x) (grouping name f (opening before.Bar)) bar (r.rest ++ end_tokens e) (said_so name (Some g) f) (bar_run x f (groups_there types name g.field is.groups) w)
      (come_after (grouping name f (opening before.Bar)) (grouping name f (closing g after.All)) r.rest (end_tokens e) (said_so name (Some g) f) (group_run f r.rest (opening before.Bar) (closing g after.All) r.ran)
      (group_end f g e)))

  query_comes : (f : Formula Term) (o : Option GroupBy) (cs ts : List Token) (e : Bool) → is_some (fin.get types name) ≡ true → Asks types name cs f → IsTail types name ts o
      → Comes begin (asking_tokens name (cs ++ (ts ++ end_tokens e))) (said_so name o f)
  query_comes f o cs ts e h a is =
      let r = (laws types name).accepts cs f a in
      come_after begin (asking name asked.start) (asking_tokens name []) (cs ++ (ts ++ end_tokens e)) (said_so name o f) (head_run h)
      (come_after (asking name asked.start) (asking name r.0) cs (ts ++ end_tokens e) (said_so name o f) (asked_run cs asked.start r.0 r.1.0)
      (tail_comes r.0 f o ts e r.1.1 is))

module _ (types : Types) where
  accepted : (ts : List Token) (v : Said) → IsQuery types ts v → (x : Query) × ((run (query_step types) begin ts ≡ Some x) × (query_says x ≡ Some v))
  accepted ts v q =
      let c : Comes types v.type_name begin (asking_tokens v.type_name (q.condition ++ (q.tail ++ end_tokens q.ended))) v = query_comes types v.type_name v.asked v.group q.condition q.tail q.ended q.known q.asks q.grouped in
      (c.state, (subst (λ l. run (query_step types) begin l ≡ Some c.state) (sym q.written) c.ran, c.says))

  not_none : (ts : List Token) (t : Token) → ts ++ t ∷ [] ≡ [] → ⊥
  not_none [] t e = cc
  not_none (u ∷ us) t e = cc

  pub queries_read : Reads (query_step types) query_says begin (IsQuery types)
  queries_read = record {
    accepts = accepted;
    only = λ ts x v r w. query_said types ts x v (read_by types ts x r) w;
    begins = λ ts x y t r s. query_begins types (ts ++ t ∷ []) y (query_goes types ts t x y (read_by types ts x r) s) (not_none ts t);
  }
