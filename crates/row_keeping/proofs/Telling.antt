-- What an owner says of its rows may be sent.
use Rattle.std.proofs.Common.{◌≡◌, ℕ, ◌+◌, ◌^◌, ◌<◌, true, List, Option, Some, None, inl, inr, refl, sym, ap, ◌∙◌, subst, arith}
use Rattle.bucket_ids.specs.Buckets.{Low}
use Rattle.cluster_states.specs.declared.cluster_state.ClusterState.{ClusterState}
use Rattle.bucket_db.specs.declared.row.Row.{Row}
use Rattle.bucket_db.specs.declared.row.Deleting.{Deleting}
use Rattle.messages.specs.declared.message.Message.{Message}
use Rattle.messages.specs.declared.body.Body.{Body}
use Rattle.messages.specs.declared.body.Body.TheVariants as body
use Rattle.messages.specs.Noting.{noted_body}
use Rattle.node_model.specs.Nodes.{Node}
use Rattle.node_model.specs.Takes.{IsInside}
use Rattle.distributor_part.specs.declared.rules.Rules.{Rules}
use Rattle.distributor_part.specs.Parts.{Part}
use Rattle.lane_journals.specs.Stamps.{Stamp}
use Rattle.lane_journals.specs.Buckets.{contains}
use Rattle.documents.specs.declared.entry.Entry.{Entry}
use Rattle.lane_journals.specs.Readers as readers
use Rattle.lane_journals.specs.Readers.{held, opened, deleting}
use Rattle.lane_journals.specs.Facts.{IsRow}
use Rattle.lane_journals.specs.Legal.{MayCarry}
use Rattle.lane_journals.specs.States.{state_of}
use Rattle.lane_journals.specs.Meanings.{history, entry_at}
use Rattle.lane_journals.specs.Places.{Setting, Owns, PlacedBody}
use Rattle.lane_journals.specs.KeptJournals.{IsLegalStep}
use Rattle.lane_journals.specs.declared.event.LaneEvent.{LaneEvent}
use Rattle.lane_keeping.specs.Flights.{meant, Brings, IsExact, IsWhole}
use Rattle.lane_keeping.specs.Replaying.{sending}
use Rattle.lane_keeping.proofs.Sending.{may-send}
use Rattle.lane_journals.proofs.BucketLaws.{own-low}
use Rattle.lane_keeping.specs.LaneKeeping.{setting_of, IsDelete, part_in, Keeps}
use Rattle.lane_keeping.specs.Acting.{IsKnownRow}
use Rattle.lane_keeping.proofs.Owners.{known-row, serving}
use Rattle.row_keeping.specs.Telling.{IsOfRow, IsTelling}
use Rattle.row_keeping.proofs.RowLists.{place-row}
use Rattle.row_keeping.proofs.Reading.{Says, SaysRow}
use Rattle.row_keeping.proofs.Decided.{owns, rows-apart, rows-say}

-- ---- bodies that bring nothing

brings-nothing : (row : Row) (n : ℕ) (x : Body) → IsOfRow row n x → (wrote : Stamp → Option Entry) → Brings wrote x
brings-nothing row n (body.Split b) is wrote = tt
brings-nothing row n (body.Join b) is wrote = tt
brings-nothing row n (body.Ready b) is wrote = tt
brings-nothing row n (body.Activate b) is wrote = tt
brings-nothing row n (body.Delete b serial) is wrote = tt
brings-nothing row n _ is wrote = absurd is

names-none : (row : Row) (n : ℕ) (x : Body) → IsOfRow row n x → IsExact x
names-none row n (body.Split b) is = tt
names-none row n (body.Join b) is = tt
names-none row n (body.Ready b) is = tt
names-none row n (body.Activate b) is = tt
names-none row n (body.Delete b serial) is = tt
names-none row n _ is = absurd is

lies-inside : (row : Row) (n : ℕ) (x : Body) → IsOfRow row n x → IsInside x
lies-inside row n (body.Split b) is = tt
lies-inside row n (body.Join b) is = tt
lies-inside row n (body.Ready b) is = tt
lies-inside row n (body.Activate b) is = tt
lies-inside row n (body.Delete b serial) is = tt
lies-inside row n _ is = absurd is

-- ---- the lane

module _ (lane : Low) (rules : Rules) (J : List LaneEvent) (newest : Option ClusterState) (last : ℕ) (nodes : List Node) (parts : List Part) (keep : Keeps lane rules J newest last nodes parts) (d : ℕ) (s : ClusterState) (m : Message) (t : IsTelling lane J d s (part_in lane rules parts d) m) where
  abbrev S : Setting
  S = setting_of lane rules

  known : IsKnownRow s.version (history J) t.row
  known = known-row lane rules J newest last nodes parts keep d s t.acting t.rows t.opened t.at t.row t.found

  own : contains (t.row).bucket ((t.row).bucket).low ≡ true
  own = own-low (t.row).bucket (known.is_row).fits

  here : SaysRow s.version ((t.row).bucket).low (history J) t.row
  here = subst (λ (o : Option Row). Says s.version ((t.row).bucket).low (history J) o)
      (place-row (t.rows).rows t.at t.row (rows-apart lane rules J newest last nodes parts keep d s t.acting t.rows t.opened) t.found ((t.row).bucket).low own)
      (rows-say lane rules J newest last nodes parts keep d s t.acting t.rows t.opened ((t.row).bucket).low)

  carries-delete : (b : Low) (n serial : ℕ) → (t.row).deleting ≡ Some (record { bucket = b; node = n; serial = serial }) → (key : ℕ) × (deleting s.version key (history J) ≡ Some (record { bucket = b; node = n; serial = serial }))
  carries-delete b n serial is = (((t.row).bucket).low, by_delete (deleting s.version ((t.row).bucket).low (history J)) refl (subst (λ (o : Option Deleting). IsDelete o (deleting s.version ((t.row).bucket).low (history J))) is here.deletes))
    where
      by_delete : (o : Option readers.Deleting) → deleting s.version ((t.row).bucket).low (history J) ≡ o → IsDelete (Some (record { bucket = b; node = n; serial = serial })) o
          → deleting s.version ((t.row).bucket).low (history J) ≡ Some (record { bucket = b; node = n; serial = serial })
      by_delete None e same = absurd same
      by_delete (Some y) e same = e ∙ (λ i. Some (record { bucket = sym same.0 i; node = sym same.1 i; serial = sym same.2 i }))

  carried : (x : Body) → IsOfRow t.row m.receiver x → MayCarry (state_of (history J)) (history J) s.version m.receiver (meant x)
  carried (body.Split b) is = tt
  carried (body.Join b) is = subst (λ (c : Low). c.low < 2 ^ c.bits) (sym is) (known.is_row).fits
  carried (body.Ready b) is = tt
  carried (body.Activate b) is = subst (λ (c : Low). MayCarry (state_of (history J)) (history J) s.version m.receiver (meant (body.Activate c))) (sym is.0) (known.is_row, (λ key i. known.active_is key i ∙ is.1))
  carried (body.Delete b serial) is = carries-delete b m.receiver serial is
  carried _ is = absurd is

  placed : (x : Body) → IsOfRow t.row m.receiver x → PlacedBody S J s.version m.receiver (noted_body x)
  placed (body.Split b) is = inl (subst (λ (c : Low). IsRow s.version c (history J)) (sym is) known.is_row)
  placed (body.Join b) is = inl (subst (λ (c : Low). IsRow s.version c (history J)) (sym is) known.is_row)
  placed (body.Ready b) is = inl (subst (λ (c : Low). IsRow s.version c (history J)) (sym is) known.is_row)
  placed (body.Activate b) is = tt
  placed (body.Delete b serial) is = tt
  placed _ is = absurd is

  pub told-brings : Brings (λ u. entry_at u J) m.body
  told-brings = brings-nothing t.row m.receiver m.body t.of_row (λ u. entry_at u J)

  pub told-legal : IsLegalStep S J (sending (last + 1) m)
  told-legal = may-send S J (last + 1) m told-brings (names-none t.row m.receiver m.body t.of_row) (record {
    greater = λ j x h. (let le = keep.numbered j x h in omega (arith, le));
    holder = ap (λ (e : ℕ). held e (history J)) t.sender_is ∙ (t.acting).holds ∙ ap (λ (v : ℕ). Some v) (sym t.version_is);
    member = ap (λ (v : ℕ). state_of (history J) v m.receiver) t.version_is ∙ serving lane rules J newest last nodes parts keep d s t.acting m.receiver ∙ t.serving;
    timing = inr (ap (λ (v : ℕ). opened v (history J)) t.version_is ∙ (known.is_row).opened);
    carries = subst (λ (v : ℕ). MayCarry (state_of (history J)) (history J) v m.receiver (meant m.body)) (sym t.version_is) (carried m.body t.of_row);
  }) (subst (λ (e : ℕ). Owns S J e m.version) (sym t.sender_is) (subst (λ (v : ℕ). Owns S J d v) (sym t.version_is) (owns lane rules J newest last nodes parts keep d s t.acting)))
      (subst (λ (v : ℕ). PlacedBody S J v m.receiver (noted_body m.body)) (sym t.version_is) (placed m.body t.of_row))

  pub told-whole : IsWhole m.body
  told-whole = record { bucket = t.valid; inside = lies-inside t.row m.receiver m.body t.of_row }
