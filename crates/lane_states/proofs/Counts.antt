-- What a lane keeps of the changes of its view, after one event more.
use Rattle.std.proofs.Common.{◌≡◌, ◌≤◌, ◌+◌, ◌++◌, ℕ, Bool, true, false, min, List, [], ◌∷◌, length, refl, ap, sym, ◌∙◌, append_assoc, arith}
use Rattle.std.proofs.lemmas.List.{length-append}
use Rattle.view_changes.specs.declared.change.LaneChange.{LaneChange}
use Rattle.lane_journals.specs.declared.event.LaneEvent.{LaneEvent}
use Rattle.lane_journals.specs.declared.event.LaneEvent.TheVariants.{Delivered, Stopped, Started}
use Rattle.lane_keeping.specs.Laws.{IsQuietEvent}
use Rattle.lane_keeping.specs.Tidings.{IsNoStop}
use Rattle.lane_changes.specs.Changes.{changes_of, TellsNothing}
use Rattle.lane_changes.proofs.Quiet.{changes-quiet}
use Rattle.lane_states.specs.Told.{change_count, all_kept, Tells, IsTold}

pub no-stop : (e : LaneEvent) → TellsNothing e → IsNoStop e
no-stop (Delivered k r) h = absurd h
no-stop (Stopped n) h = absurd h
no-stop (Started n) h = absurd h
no-stop _ h = tt

pub tells-nothing : (e : LaneEvent) → IsQuietEvent e → IsNoStop e → TellsNothing e
tells-nothing (Delivered k r) quiet stays = absurd quiet
tells-nothing (Stopped n) quiet stays = absurd stays
tells-nothing (Started n) quiet stays = absurd stays
tells-nothing _ quiet stays = tt

pub count-quiet : (J : List LaneEvent) (e : LaneEvent) → TellsNothing e → change_count J ≡ change_count (e ∷ J)
count-quiet J e h = ap (λ (cs : List LaneChange). min (length cs) 18446744073709551615) (sym (changes-quiet J e h))

counted : (told old count all : ℕ) → told ≡ min old 18446744073709551615 → all ≡ old + count → min (told + count) 18446744073709551615 ≡ min all 18446744073709551615
counted told old count all a b = omega (arith, a, b)

count-more : (J : List LaneEvent) (e : LaneEvent) (cs : List LaneChange) (told count : ℕ) → told ≡ change_count J → changes_of (e ∷ J) ≡ changes_of J ++ cs → count ≡ length cs
    → min (told + count) 18446744073709551615 ≡ change_count (e ∷ J)
count-more J e cs told count is more many =
    counted told (length (changes_of J)) count (length (changes_of (e ∷ J))) is (ap length more ∙ length-append (changes_of J) cs ∙ ap (λ n. length (changes_of J) + n) (sym many))

-- an event that gives none
pub told-quiet : (J : List LaneEvent) (e : LaneEvent) (t : Tells) → TellsNothing e → IsTold J t → IsTold (e ∷ J) t
told-quiet J e t h k = record { count = k.count ∙ count-quiet J e h; whole = k.whole ∙ sym (changes-quiet J e h); place = k.place }

-- one that gives some, which are kept
pub told-more : (J : List LaneEvent) (e : LaneEvent) (cs : List LaneChange) (t t2 : Tells) → IsTold J t → changes_of (e ∷ J) ≡ changes_of J ++ cs → t2.handed ≡ t.handed → (t2.log).told ≡ min ((t.log).told + length cs) 18446744073709551615
    → all_kept (t2.log).kept ≡ all_kept (t.log).kept ++ cs → ((t2.log).turn_room ≡ true → (t2.log).lists + 1 ≤ (t2.log).places) → IsTold (e ∷ J) t2
told-more J e cs t t2 k more same told kept place = record {
  count = told ∙ count-more J e cs (t.log).told (length cs) k.count more refl;
  whole = ap (λ (ds : List LaneChange). ds ++ all_kept (t2.log).kept) same
      ∙ (ap (λ (ds : List LaneChange). t.handed ++ ds) kept ∙ (sym (append_assoc t.handed (all_kept (t.log).kept) cs) ∙ (ap (λ (ds : List LaneChange). ds ++ cs) k.whole ∙ sym more)));
  place = place;
}

-- with other places, of which the one that is kept free is there
pub told-roomier : (J : List LaneEvent) (t : Tells) (kept : List (List LaneChange)) (lists places : ℕ) (room : Bool) → kept ≡ (t.log).kept → (room ≡ true → lists + 1 ≤ places) → IsTold J t
    → IsTold J (record { log = record { told = (t.log).told; kept = kept; lists = lists; places = places; turn_room = room }; handed = t.handed })
told-roomier J t kept lists places room same place k = record { count = k.count; whole = ap (λ (ks : List (List LaneChange)). t.handed ++ all_kept ks) same ∙ k.whole; place = place }

-- where nothing happened
pub told-nothing : (lists places : ℕ) → IsTold [] (record { log = record { told = 0; kept = []; lists = lists; places = places; turn_room = false }; handed = [] })
told-nothing lists places = record { count = refl; whole = refl; place = λ room. let wrong : false ≡ true = room in cc }
