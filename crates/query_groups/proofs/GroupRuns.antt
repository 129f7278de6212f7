-- Each group of a query is read.
use Rattle.std.proofs.Common.{◌≡◌, ℕ, true, false, cond, List, [], ◌∷◌, ◌++◌, Option, Some, None, sym, ap, subst, ◌∙◌, option_map, append_assoc, append-nil}
use Rattle.doc_types.specs.declared.outputs.OutputKind.{OutputKind}
use Rattle.doc_types.specs.declared.outputs.OutputKind.TheVariants as output
use Rattle.doc_types.specs.declared.values.FieldType.TheVariants as kind
use Rattle.doc_types.specs.SchemaCodes.{Types}
use Rattle.doc_types.specs.Tokens.{Token, word}
use Rattle.conditions.specs.Machines.{run}
use Rattle.conditions.specs.Kinds.{opens, closes}
use Rattle.conditions.proofs.Basics.{run-one, run-cons, run-append}
use Rattle.query_groups.specs.declared.fields.Fold.{Fold}
use Rattle.query_groups.specs.declared.fields.Fold.TheVariants as fold
use Rattle.query_groups.specs.declared.grouping.Opening.TheVariants as before
use Rattle.query_groups.specs.declared.grouping.Middle.TheVariants as amid
use Rattle.query_groups.specs.declared.grouping.Listing.TheVariants as at
use Rattle.query_groups.specs.declared.grouping.Closing.TheVariants as after
use Rattle.query_groups.specs.declared.groups.GroupBy.{GroupBy}
use Rattle.query_groups.specs.Cues.{all_word, group_word, each_word, output_word, count_word, bar, comma}
use Rattle.query_groups.specs.Outputs.{field_kind}
use Rattle.query_groups.specs.Outputs.{output_of, is_named, NamedOnce, OutputsFit, groups_by, some_free, some_left}
use Rattle.query_groups.specs.Groups.{output_tokens, followed, IsGroup}
use Rattle.query_groups.specs.Grouping.{Group, opening, middle, listing, closing, opening_next, middle_step, want_next, output_end, behind_next, opened, closing_step, group_next}
use Rattle.query_groups.proofs.CueTokens.{all_cue, group_cue, each_cue, outputs_cue, count_cue, sum_cue, min_cue, max_cue, open_cue, close_cue, comma_cue}
use Rattle.query_groups.proofs.Outputs.{IsNew, new_free, new_some_free, new_left}
use Rattle.query_groups.proofs.GroupReading.{fold_word}

module _ (types : Types) (name : List ℕ) where
  -- up to the outputs
  front_run : (field : List ℕ) → groups_by (field_kind types name field) ≡ true
      → run (group_next types name) (opening before.Bar) (all_word ∷ opens ∷ group_word ∷ opens ∷ word field ∷ closes ∷ each_word ∷ opens ∷ output_word ∷ opens ∷ []) ≡ Some (listing field [] at.Want)
  front_run field h =
      let f : Group → Token → Option Group = group_next types name in
      let z : Group = listing field [] at.Want in
      run-cons f (opening before.Bar) all_word (opening before.All) (opens ∷ group_word ∷ opens ∷ word field ∷ closes ∷ each_word ∷ opens ∷ output_word ∷ opens ∷ []) z (ap (λ c. option_map opening (opening_next before.Bar c)) all_cue)
      (run-cons f (opening before.All) opens (opening before.AllOpen) (group_word ∷ opens ∷ word field ∷ closes ∷ each_word ∷ opens ∷ output_word ∷ opens ∷ []) z (ap (λ c. option_map opening (opening_next before.All c)) open_cue)
      (run-cons f (opening before.AllOpen) group_word (opening before.Group) (opens ∷ word field ∷ closes ∷ each_word ∷ opens ∷ output_word ∷ opens ∷ []) z (ap (λ c. option_map opening (opening_next before.AllOpen c)) group_cue)
      (run-cons f (opening before.Group) opens (opening before.GroupOpen) (word field ∷ closes ∷ each_word ∷ opens ∷ output_word ∷ opens ∷ []) z (ap (λ c. option_map opening (opening_next before.Group c)) open_cue)
      (run-cons f (opening before.GroupOpen) (word field) (middle field amid.Field) (closes ∷ each_word ∷ opens ∷ output_word ∷ opens ∷ []) z (ap (λ b. cond b (Some (middle field amid.Field)) None) h)
      (run-cons f (middle field amid.Field) closes (middle field amid.Close) (each_word ∷ opens ∷ output_word ∷ opens ∷ []) z (ap (middle_step field amid.Field) close_cue)
      (run-cons f (middle field amid.Close) each_word (middle field amid.Each) (opens ∷ output_word ∷ opens ∷ []) z (ap (middle_step field amid.Close) each_cue)
      (run-cons f (middle field amid.Each) opens (middle field amid.EachOpen) (output_word ∷ opens ∷ []) z (ap (middle_step field amid.Each) open_cue)
      (run-cons f (middle field amid.EachOpen) output_word (middle field amid.Output) (opens ∷ []) z (ap (middle_step field amid.EachOpen) outputs_cue)
      (run-one f (middle field amid.Output) opens z (ap (middle_step field amid.Output) open_cue))))))))))

  -- one output
  fold_begins : (field : List ℕ) (os : List OutputKind) (o : Fold) → some_free types name os o ≡ true → group_next types name (listing field os at.Want) (fold_word o) ≡ Some (listing field os (at.Fold o))
  fold_begins field os fold.Sum h = ap (λ c. option_map (listing field os) (want_next types name os c)) sum_cue ∙ ap (λ b. option_map (listing field os) (cond b (Some (at.Fold fold.Sum)) None)) h
  fold_begins field os fold.Min h = ap (λ c. option_map (listing field os) (want_next types name os c)) min_cue ∙ ap (λ b. option_map (listing field os) (cond b (Some (at.Fold fold.Min)) None)) h
  fold_begins field os fold.Max h = ap (λ c. option_map (listing field os) (want_next types name os c)) max_cue ∙ ap (λ b. option_map (listing field os) (cond b (Some (at.Fold fold.Max)) None)) h

  fold_run : (field : List ℕ) (os : List OutputKind) (o : Fold) (g : List ℕ) → field_kind types name g ≡ Some kind.Int → is_named (output_of o g) os ≡ false
      → run (group_next types name) (listing field os at.Want) (fold_word o ∷ opens ∷ word g ∷ closes ∷ []) ≡ Some (listing field (os ++ output_of o g ∷ []) at.Behind)
  fold_run field os o g k n =
      let f : Group → Token → Option Group = group_next types name in
      let z : Group = listing field (os ++ output_of o g ∷ []) at.Behind in
      run-cons f (listing field os at.Want) (fold_word o) (listing field os (at.Fold o)) (opens ∷ word g ∷ closes ∷ []) z (fold_begins field os o (new_some_free types name os o g k n))
      (run-cons f (listing field os (at.Fold o)) opens (listing field os (at.Argument o)) (word g ∷ closes ∷ []) z (ap (λ c. option_map (listing field os) (opened c (at.Argument o))) open_cue)
      (run-cons f (listing field os (at.Argument o)) (word g) (listing field os (at.Closed (output_of o g))) (closes ∷ []) z (ap (λ b. option_map (listing field os) (cond b (Some (at.Closed (output_of o g))) None)) (new_free types name os o g k n))
      (run-one f (listing field os (at.Closed (output_of o g))) closes z (ap (output_end field os (output_of o g)) close_cue))))

  output_run : (field : List ℕ) (os : List OutputKind) (x : OutputKind) → IsNew types name os x → run (group_next types name) (listing field os at.Want) (output_tokens x) ≡ Some (listing field (os ++ x ∷ []) at.Behind)
  output_run field os output.Count h =
      let f : Group → Token → Option Group = group_next types name in
      let z : Group = listing field (os ++ output.Count ∷ []) at.Behind in
      run-cons f (listing field os at.Want) count_word (listing field os at.Count) (opens ∷ closes ∷ []) z
      (ap (λ c. option_map (listing field os) (want_next types name os c)) count_cue ∙ ap (λ b. option_map (listing field os) (cond b None (Some at.Count))) h.1)
      (run-cons f (listing field os at.Count) opens (listing field os (at.Closed output.Count)) (closes ∷ []) z (ap (λ c. option_map (listing field os) (opened c (at.Closed output.Count))) open_cue)
      (run-one f (listing field os (at.Closed output.Count)) closes z (ap (output_end field os output.Count) close_cue)))
  output_run field os (output.Sum g) h = fold_run field os fold.Sum g h.0 h.1
  output_run field os (output.Min g) h = fold_run field os fold.Min g h.0 h.1
  output_run field os (output.Max g) h = fold_run field os fold.Max g h.0 h.1

  comma_run : (field : List ℕ) (os : List OutputKind) → some_left types name os ≡ true → group_next types name (listing field os at.Behind) comma ≡ Some (listing field os at.Want)
  comma_run field os h = ap (behind_next types name field os) comma_cue ∙ ap (λ b. cond b (Some (listing field os at.Want)) None) h

  -- all outputs
  head_new : (named os : List OutputKind) (last : OutputKind) → OutputsFit types name (os ++ last ∷ []) → NamedOnce named (os ++ last ∷ []) → (x : OutputKind) × IsNew types name named x
  head_new named [] last f n = (last, (f.0, n.0))
  head_new named (o ∷ os) last f n = (o, (f.0, n.0))

  last_new : (named os : List OutputKind) (last : OutputKind) → OutputsFit types name (os ++ last ∷ []) → NamedOnce named (os ++ last ∷ []) → IsNew types name (named ++ os) last
  last_new named [] last f n = (f.0, ap (is_named last) (append-nil named) ∙ n.0)
  last_new named (o ∷ os) last f n = let r : IsNew types name ((named ++ o ∷ []) ++ os) last = last_new (named ++ o ∷ []) os last f.1 n.1 in (r.0, ap (is_named last) (sym (append_assoc named (o ∷ []) os)) ∙ r.1)

  followed_run : (field : List ℕ) (named os : List OutputKind) (last : OutputKind) → OutputsFit types name (os ++ last ∷ []) → NamedOnce named (os ++ last ∷ [])
      → run (group_next types name) (listing field named at.Want) (followed os) ≡ Some (listing field (named ++ os) at.Want)
  followed_run field named [] last f n = ap (λ l. Some (listing field l at.Want)) (sym (append-nil named))
  followed_run field named (o ∷ os) last f n =
      let s : Group → Token → Option Group = group_next types name in
      let next = head_new (named ++ o ∷ []) os last f.1 n.1 in
      run-append s (listing field named at.Want) (output_tokens o) (listing field (named ++ o ∷ []) at.Behind) (comma ∷ followed os) (listing field (named ++ (o ∷ os)) at.Want)
      (output_run field named o (f.0, n.0))
      (run-cons s (listing field (named ++ o ∷ []) at.Behind) comma (listing field (named ++ o ∷ []) at.Want) (followed os) (listing field (named ++ (o ∷ os)) at.Want)
      (comma_run field (named ++ o ∷ []) (new_left types name (named ++ o ∷ []) next.0 next.1))
      (followed_run field (named ++ o ∷ []) os last f.1 n.1 ∙ ap (λ l. Some (listing field l at.Want)) (append_assoc named (o ∷ []) os)))

  closing_run : (field : List ℕ) (os : List OutputKind) → run (group_next types name) (listing field os at.Behind) (closes ∷ closes ∷ closes ∷ []) ≡ Some (closing (record { field = field; outputs = os }) after.All)
  closing_run field os =
      let f : Group → Token → Option Group = group_next types name in
      let g : GroupBy = record { field = field; outputs = os } in
      run-cons f (listing field os at.Behind) closes (closing g after.Output) (closes ∷ closes ∷ []) (closing g after.All) (ap (behind_next types name field os) close_cue)
      (run-cons f (closing g after.Output) closes (closing g after.Each) (closes ∷ []) (closing g after.All) (ap (closing_step g after.Output) close_cue)
      (run-one f (closing g after.Each) closes (closing g after.All) (ap (closing_step g after.Each) close_cue)))

  outputs_run : (field : List ℕ) (os : List OutputKind) (last : OutputKind) → OutputsFit types name (os ++ last ∷ []) → NamedOnce [] (os ++ last ∷ [])
      → run (group_next types name) (listing field [] at.Want) (followed os ++ (output_tokens last ++ (closes ∷ closes ∷ closes ∷ []))) ≡ Some (closing (record { field = field; outputs = os ++ last ∷ [] }) after.All)
  outputs_run field os last f n =
      let s : Group → Token → Option Group = group_next types name in
      let z : Group = closing (record { field = field; outputs = os ++ last ∷ [] }) after.All in
      run-append s (listing field [] at.Want) (followed os) (listing field os at.Want) (output_tokens last ++ (closes ∷ closes ∷ closes ∷ [])) z (followed_run field [] os last f n)
      (run-append s (listing field os at.Want) (output_tokens last) (listing field (os ++ last ∷ []) at.Behind) (closes ∷ closes ∷ closes ∷ []) z (output_run field os last (last_new [] os last f n))
      (closing_run field (os ++ last ∷ [])))

  -- the tokens of a group behind its `|`
  pub record GroupRuns (tokens : List Token) (g : GroupBy) : Type 0 where
    pub rest : List Token
    pub same : tokens ≡ bar ∷ rest
    pub ran : run (group_next types name) (opening before.Bar) rest ≡ Some (closing g after.All)

  group_ran : (field : List ℕ) (os : List OutputKind) (last : OutputKind) → groups_by (field_kind types name field) ≡ true → OutputsFit types name (os ++ last ∷ []) → NamedOnce [] (os ++ last ∷ [])
      → run (group_next types name) (opening before.Bar) (all_word ∷ opens ∷ group_word ∷ opens ∷ word field ∷ closes ∷ each_word ∷ opens ∷ output_word ∷ opens ∷ (followed os ++ (output_tokens last ++ (closes ∷ closes ∷ closes ∷ []))))
      ≡ Some (closing (record { field = field; outputs = os ++ last ∷ [] }) after.All)
  group_ran field os last h f n =
      run-append (group_next types name) (opening before.Bar) (all_word ∷ opens ∷ group_word ∷ opens ∷ word field ∷ closes ∷ each_word ∷ opens ∷ output_word ∷ opens ∷ []) (listing field [] at.Want)
      (followed os ++ (output_tokens last ++ (closes ∷ closes ∷ closes ∷ []))) (closing (record { field = field; outputs = os ++ last ∷ [] }) after.All) (front_run field h) (outputs_run field os last f n)

  pub group_runs : (tokens : List Token) (g : GroupBy) → IsGroup types name tokens g → GroupRuns tokens g
  group_runs tokens g h = record {
    rest = all_word ∷ opens ∷ group_word ∷ opens ∷ word g.field ∷ closes ∷ each_word ∷ opens ∷ output_word ∷ opens ∷ (followed h.before ++ (output_tokens h.last ++ (closes ∷ closes ∷ closes ∷ [])));
    same = h.written;
    ran = subst (λ l. run (group_next types name) (opening before.Bar) (all_word ∷ opens ∷ group_word ∷ opens ∷ word g.field ∷ closes ∷ each_word ∷ opens ∷ output_word ∷ opens ∷ (followed h.before ++ (output_tokens h.last ++ (closes ∷ closes ∷ closes ∷ []))))
        ≡ Some (closing (record { field = g.field; outputs = l }) after.All)) (sym h.outputs) (group_ran g.field h.before h.last h.groups h.fit h.once);
  }
