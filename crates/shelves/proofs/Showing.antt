-- Changes are shown in several steps.
use Rattle.std.proofs.Common.{◌≡◌, List, [], ◌∷◌, ◌++◌, ap, sym, ◌∙◌, subst, append_assoc}
use Rattle.view_changes.specs.declared.change.LaneChange.{LaneChange}
use Rattle.shelves.specs.Shelves.{ShowsFirst, TakesFirst}

pub shows_on : (shows shows' shows'' : List LaneChange → Type 0) (before now after : List LaneChange) → ShowsFirst shows shows' before now → ShowsFirst shows' shows'' now after → ShowsFirst shows shows'' before after
shows_on shows shows' shows'' before now after s t = record {
  first = s.first ++ t.first;
  parted = s.parted ∙ (ap (λ (xs : List LaneChange). s.first ++ xs) t.parted ∙ sym (append_assoc s.first t.first after));
  shown = λ cs h. subst shows'' (append_assoc cs s.first t.first) (t.shown (cs ++ s.first) (s.shown cs h));
}

-- others come behind
pub shows_behind : (shows shows' : List LaneChange → Type 0) (before after cs : List LaneChange) → ShowsFirst shows shows' before after → ShowsFirst shows shows' (before ++ cs) (after ++ cs)
shows_behind shows shows' before after cs s = record {
  first = s.first;
  parted = ap (λ (xs : List LaneChange). xs ++ cs) s.parted ∙ append_assoc s.first after cs;
  shown = s.shown;
}

-- the first of those that are kept is taken
pub takes_next : (shows shows' shows'' : List LaneChange → Type 0) (before pending pending' all kept kept' : List LaneChange) (c : LaneChange) → kept ≡ c ∷ kept' → ShowsFirst shows' shows'' (pending ++ c ∷ []) pending' → TakesFirst shows shows' before pending all kept → TakesFirst shows shows'' before pending' all kept'
takes_next shows shows' shows'' before pending pending' all kept kept' c is s t = record {
  gone = t.gone ++ c ∷ [];
  parted = t.parted ∙ (ap (λ (xs : List LaneChange). t.gone ++ xs) is ∙ sym (append_assoc t.gone (c ∷ []) kept'));
  shown = subst (λ (xs : List LaneChange). ShowsFirst shows shows'' xs pending') (append_assoc before t.gone (c ∷ []))
      (shows_on shows shows' shows'' _ _ _ (shows_behind shows shows' _ _ (c ∷ []) t.shown) s);
}

-- what is pending is shown
pub takes_on : (shows shows' shows'' : List LaneChange → Type 0) (before pending pending' all kept : List LaneChange) → ShowsFirst shows' shows'' pending pending' → TakesFirst shows shows' before pending all kept → TakesFirst shows shows'' before pending' all kept
takes_on shows shows' shows'' before pending pending' all kept s t = record { gone = t.gone; parted = t.parted; shown = shows_on shows shows' shows'' _ _ _ t.shown s }
