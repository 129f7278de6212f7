-- What holds of each command, whatever its line.
use Rattle.std.proofs.Common.{◌≡◌, ◌==◌, ◌⊎◌, inl, inr, ℕ, zero, suc, ◌<◌, ◌≤◌, ◌^◌, ℤ, pos, negsuc, Bool, true, false, List, [], ◌∷◌, length, codes, Option, Some, None, option_and_then, Ok, Err, nat_lt, nat_le, refl, sym, ap, ◌∙◌, arith, cond, subst}
use Rattle.std.proofs.lemmas.Bool.Decides.{nat_tests}
use Rattle.std.specs.List.{AllByRecursion}
use Rattle.std.specs.Str.{is_utf8, bytes_eq}
use Rattle.serde_json.specs.Data.{Data, Items, no_items, item}
use Rattle.serde_json.specs.Events.{items_len, members_len}
use Rattle.serde_json.specs.Find.{get, as_array, as_object, as_str}
use Rattle.serde_json.specs.Read.{read}
use Rattle.doc_types.specs.SchemaCodes.{Types}
use Rattle.json_documents.specs.Schemas.{members_in}
use Rattle.documents.specs.Fields.{Contents}
use Rattle.json_documents.specs.Json.{whole, onto, each}
use Rattle.messages.specs.declared.operation.Operation.{Operation}
use Rattle.messages.specs.declared.operation.OpKind.{OpKind}
use Rattle.messages.specs.declared.operation.OpKind.TheVariants as kind
use Rattle.carriers.specs.declared.fate.Fate.{Fate}
use Rattle.carriers.specs.declared.fate.Fate.TheVariants as fate
use Rattle.feed_lines.specs.Lines.{SaysVia}
use Rattle.feed_lines.specs.Meaning.{is_blank_line, data_said, json_said, text_said, line_said}
use Rattle.feed_lines.specs.Values.{below, number_below, lane_end, most_fates, IsFate, late_by, fate_named, fate_by, fate_of, few_fates}
use Rattle.feed_lines.specs.declared.command.Cause.TheVariants as cause
use Rattle.feed_lines.specs.declared.command.Command.{Command}
use Rattle.feed_lines.specs.declared.command.Command.TheVariants as command
use Rattle.feed_lines.proofs.GetsAndRemoves.{bare_get}
use Rattle.feed_lines.proofs.LineLaws.{put_means, update_means, remove_means, get_means}
use Rattle.feed_lines.proofs.SettingLaws.{stop_means, start_means, net_means}

-- ---- a line that asks for something is a JSON value that does

-- a command is nothing, or what a value says
abbrev Shown : Types → ℕ → Command → Type 0
Shown types bits c = (c ≡ command.Blank) ⊎ ((d : Data) × (data_said types bits d ≡ Ok c))

of_json : (types : Types) (bits : ℕ) (o : Option Data) (c : Command) → json_said types bits o ≡ Ok c → Shown types bits c
of_json types bits None c h = cc
of_json types bits (Some d) c h = inr (d, h)

of_text : (types : Types) (bits : ℕ) (bytes : List ℕ) (t : Bool) (c : Command) → cond t (json_said types bits (read bytes)) (Err cause.Json) ≡ Ok c → Shown types bits c
of_text types bits bytes true c h = of_json types bits (read bytes) c h
of_text types bits bytes false c h = cc

of_bytes : (types : Types) (bits : ℕ) (bytes : List ℕ) (c : Command) → text_said types bits bytes ≡ Ok c → Shown types bits c
unfolding text_said
of_bytes types bits bytes c h = of_text types bits bytes (is_utf8 bytes) c h

of_blank : (types : Types) (bits : ℕ) (bytes : List ℕ) (t : Bool) (c : Command) → cond t (Ok command.Blank) (text_said types bits bytes) ≡ Ok c → Shown types bits c
of_blank types bits bytes true c h = let is : command.Blank ≡ c = cc in inl (sym is)
of_blank types bits bytes false c h = of_bytes types bits bytes c h

shown : (types : Types) (bits : ℕ) (bytes : List ℕ) (c : Command) → line_said types bits bytes ≡ Ok c → Shown types bits c
unfolding line_said
shown types bits bytes c h = of_blank types bits bytes (is_blank_line bytes) c h

-- ---- operations

abbrev with_kind : Operation → OpKind → Operation
with_kind o k = record { id = o.id; kind = k; condition = o.condition; create = o.create }

as_kind : (types : Types) (bits : ℕ) (d : Data) (o : Operation) (via : Option ℕ) (k : OpKind) → data_said types bits d ≡ Ok (command.Feed o via) → o.kind ≡ k → data_said types bits d ≡ Ok (command.Feed (with_kind o k) via)
as_kind types bits d o via k h is = h ∙ ap (λ l. Ok (command.Feed (with_kind o l) via)) is

own_by : (types : Types) (bits : ℕ) (o : Operation) (via : Option ℕ) (document : Contents) → Shown types bits (command.Feed o via) → o.kind ≡ kind.Put document → document.id ≡ o.id
own_by types bits o via document (inl h) is = cc
own_by types bits o via document (inr h) is = ap (λ (c : Contents). c.id) (put_means types bits h.0 o.id document o.condition o.create via (as_kind types bits h.0 o via (kind.Put document) h.1 is)).content

pub own : (types : Types) (bits : ℕ) (bytes : List ℕ) (o : Operation) (via : Option ℕ) (document : Contents) → line_said types bits bytes ≡ Ok (command.Feed o via) → o.kind ≡ kind.Put document → document.id ≡ o.id
own types bits bytes o via document h is = own_by types bits o via document (shown types bits bytes (command.Feed o via) h) is

plain_by : (types : Types) (bits : ℕ) (o : Operation) (via : Option ℕ) → Shown types bits (command.Feed o via) → o.kind ≡ kind.Get → o.condition ≡ None
plain_by types bits o via (inl h) is = cc
plain_by types bits o via (inr h) is = (bare_get types h.0 o.id o.condition o.create via (get_means types bits h.0 o.id o.condition o.create via (as_kind types bits h.0 o via kind.Get h.1 is))).0

pub plain : (types : Types) (bits : ℕ) (bytes : List ℕ) (o : Operation) (via : Option ℕ) → line_said types bits bytes ≡ Ok (command.Feed o via) → o.kind ≡ kind.Get → o.condition ≡ None
plain types bits bytes o via h is = plain_by types bits o via (shown types bits bytes (command.Feed o via) h) is

-- ---- numbers

if_below : (t : Bool) (m n end : ℕ) → nat_lt m end ≡ t → cond t (Some m) None ≡ Some n → n < end
if_below true m n end e h =
    let is : m ≡ n = cc in
    let lower : m < end = grind (arith, nat_tests) in
    omega (arith, is, lower)
if_below false m n end e h = cc

below_end : (end : ℕ) (o : Option ℤ) (n : ℕ) → below end o ≡ Some n → n < end
below_end end None n h = cc
below_end end (Some (pos m)) n h = if_below (nat_lt m end) m n end refl h
below_end end (Some (negsuc m)) n h = cc

is_below : (end : ℕ) (d : Data) (n : ℕ) → number_below end d ≡ Some n → n < end
is_below end d n h = below_end end (whole d) n h

via_below : (o : Option Data) (number : ℕ) → SaysVia o (Some number) → number < 32
via_below None number h = cc
via_below (Some d) number h = let is : number ≡ h.0 = cc in is_below 32 d number (h.1.0 ∙ ap Some (sym is))

via_data : (types : Types) (bits : ℕ) (d : Data) (o : Operation) (number : ℕ) (k : OpKind) → o.kind ≡ k → data_said types bits d ≡ Ok (command.Feed (with_kind o k) (Some number)) → number < 32
via_data types bits d o number (kind.Put document) is h = via_below (get (codes "via") d) number (put_means types bits d o.id document o.condition o.create (Some number) h).line.says_via
via_data types bits d o number (kind.Update changes) is h = via_below (get (codes "via") d) number (update_means types bits d o.id changes o.condition o.create (Some number) h).line.says_via
via_data types bits d o number kind.Remove is h = via_below (get (codes "via") d) number (remove_means types bits d o.id o.condition o.create (Some number) h).says_via
via_data types bits d o number kind.Get is h = via_below (get (codes "via") d) number (get_means types bits d o.id o.condition o.create (Some number) h).says_via

via_by : (types : Types) (bits : ℕ) (o : Operation) (number : ℕ) → Shown types bits (command.Feed o (Some number)) → number < 32
via_by types bits o number (inl h) = cc
via_by types bits o number (inr h) = via_data types bits h.0 o number o.kind refl h.1

pub via_small : (types : Types) (bits : ℕ) (bytes : List ℕ) (o : Operation) (number : ℕ) → line_said types bits bytes ≡ Ok (command.Feed o (Some number)) → number < 32
via_small types bits bytes o number h = via_by types bits o number (shown types bits bytes (command.Feed o (Some number)) h)

stop_by : (types : Types) (bits node : ℕ) → Shown types bits (command.Stop node) → node < 32
stop_by types bits node (inl h) = cc
stop_by types bits node (inr h) = let line = stop_means types bits h.0 node h.1 in is_below 32 line.said node line.number

pub stop_small : (types : Types) (bits : ℕ) (bytes : List ℕ) (node : ℕ) → line_said types bits bytes ≡ Ok (command.Stop node) → node < 32
stop_small types bits bytes node h = stop_by types bits node (shown types bits bytes (command.Stop node) h)

start_by : (types : Types) (bits node : ℕ) → Shown types bits (command.Start node) → node < 32
start_by types bits node (inl h) = cc
start_by types bits node (inr h) = let line = start_means types bits h.0 node h.1 in is_below 32 line.said node line.number

pub start_small : (types : Types) (bits : ℕ) (bytes : List ℕ) (node : ℕ) → line_said types bits bytes ≡ Ok (command.Start node) → node < 32
start_small types bits bytes node h = start_by types bits node (shown types bits bytes (command.Start node) h)

end_is : (bits : ℕ) → bits < 8 → lane_end bits ≡ 2 ^ bits
end_is bits h = let few : nat_lt bits 8 ≡ true = grind (arith, nat_tests) in ap (λ t. cond t (2 ^ bits) 256) few

lane_by : (types : Types) (bits lane : ℕ) (fates : List Fate) → Shown types bits (command.Net lane fates) → bits < 8 → lane < 2 ^ bits
lane_by types bits lane fates (inl h) few = cc
lane_by types bits lane fates (inr h) few = let line = net_means types bits h.0 lane fates h.1 in subst (λ e. lane < e) (end_is bits few) (is_below (lane_end bits) line.said_lane lane line.says_lane)

pub lane_small : (types : Types) (bits : ℕ) (bytes : List ℕ) (lane : ℕ) (fates : List Fate) → line_said types bits bytes ≡ Ok (command.Net lane fates) → bits < 8 → lane < 2 ^ bits
lane_small types bits bytes lane fates h few = lane_by types bits lane fates (shown types bits bytes (command.Net lane fates) h) few

-- ---- fates

late_right : (o : Option ℕ) (f : Fate) → ((n : ℕ) → o ≡ Some n → n < suc most_fates) → late_by o ≡ Some f → IsFate f
late_right None f small h = cc
late_right (Some zero) f small h = cc
late_right (Some (suc k)) f small h = let is : fate.Late (suc k) ≡ f = cc in subst IsFate is (omega arith, omega (arith, small (suc k) refl))

late_said : (o : Option Data) (n : ℕ) → option_and_then (number_below (suc most_fates)) o ≡ Some n → n < suc most_fates
late_said None n h = cc
late_said (Some d) n h = is_below (suc most_fates) d n h

late_if : (t : Bool) (o : Option Data) (f : Fate) → cond t (late_by (option_and_then (number_below (suc most_fates)) o)) None ≡ Some f → IsFate f
late_if true o f h = late_right (option_and_then (number_below (suc most_fates)) o) f (late_said o) h
late_if false o f h = cc

named_if : (a b c d : Bool) (f : Fate) → cond a (Some fate.Deliver) (cond b (Some fate.LoseRequest) (cond c (Some fate.LoseReply) (cond d (Some fate.Twice) None))) ≡ Some f → IsFate f
named_if true b c d f h = let is : fate.Deliver ≡ f = cc in subst IsFate is tt
named_if false true c d f h = let is : fate.LoseRequest ≡ f = cc in subst IsFate is tt
named_if false false true d f h = let is : fate.LoseReply ≡ f = cc in subst IsFate is tt
named_if false false false true f h = let is : fate.Twice ≡ f = cc in subst IsFate is tt
named_if false false false false f h = cc

named_right : (word : List ℕ) (f : Fate) → fate_named word ≡ Some f → IsFate f
unfolding fate_named
named_right word f h = named_if (bytes_eq word (codes "deliver")) (bytes_eq word (codes "lose_request")) (bytes_eq word (codes "lose_reply")) (bytes_eq word (codes "twice")) f h

fate_right_by : (o : Option (List ℕ)) (d : Data) (f : Fate) → fate_by o d ≡ Some f → IsFate f
fate_right_by (Some word) d f h = named_right word f h
fate_right_by None d f h = late_if (members_len (members_in (as_object d)) == 1) (get (codes "late") d) f h

fate_right : (d : Data) (f : Fate) → fate_of d ≡ Some f → IsFate f
fate_right d f h = fate_right_by (as_str d) d f h

-- as many fates as items, each right
abbrev AreFates : ℕ → List Fate → Type 0
AreFates n fates = (length fates ≡ n) × AllByRecursion IsFate fates

onto_right : (o : Option Fate) (r : Option (List Fate)) (n : ℕ) (fates : List Fate) → ((f : Fate) → o ≡ Some f → IsFate f) → ((rest : List Fate) → r ≡ Some rest → AreFates n rest) → onto o r ≡ Some fates → AreFates (suc n) fates
onto_right None r n fates one more h = cc
onto_right (Some f) None n fates one more h = cc
onto_right (Some f) (Some rest) n fates one more h =
    let is : f ∷ rest ≡ fates = cc in
    let others = more rest refl in
    subst (λ l. AreFates (suc n) l) is (ap suc others.0, (one f refl, others.1))

each_right : (ds : Items) (fates : List Fate) → each fate_of ds ≡ Some fates → AreFates (items_len ds) fates
each_right no_items fates h = let is : [] ≡ fates = cc in subst (λ l. AreFates 0 l) is (refl, tt)
each_right (item d ds) fates h = onto_right (fate_of d) (each fate_of ds) (items_len ds) fates (fate_right d) (each_right ds) h

few_if : (t : Bool) (ds : Items) (fates : List Fate) → nat_le (items_len ds) most_fates ≡ t → cond t (each fate_of ds) None ≡ Some fates → (length fates ≤ most_fates) × AllByRecursion IsFate fates
few_if true ds fates e h =
    let right = each_right ds fates h in
    let few : items_len ds ≤ most_fates = grind (arith, nat_tests) in
    (subst (λ n. n ≤ most_fates) (sym right.0) few, right.1)
few_if false ds fates e h = cc

list_right : (o : Option Items) (fates : List Fate) → option_and_then few_fates o ≡ Some fates → (length fates ≤ most_fates) × AllByRecursion IsFate fates
list_right None fates h = cc
list_right (Some ds) fates h = few_if (nat_le (items_len ds) most_fates) ds fates refl h

fates_by : (types : Types) (bits lane : ℕ) (fates : List Fate) → Shown types bits (command.Net lane fates) → (length fates ≤ most_fates) × AllByRecursion IsFate fates
fates_by types bits lane fates (inl h) = cc
fates_by types bits lane fates (inr h) = let line = net_means types bits h.0 lane fates h.1 in list_right (as_array line.said_fates) fates line.says_fates

pub fates_right : (types : Types) (bits : ℕ) (bytes : List ℕ) (lane : ℕ) (fates : List Fate) → line_said types bits bytes ≡ Ok (command.Net lane fates) → (length fates ≤ most_fates) × AllByRecursion IsFate fates
fates_right types bits bytes lane fates h = fates_by types bits lane fates (shown types bits bytes (command.Net lane fates) h)
