-- The value of a message that fits is read again from its text.
use Rattle.std.proofs.Common.{◌≡◌, ◌∙◌, ◌<◌, ◌^◌, ℕ, Bool, true, false, ◌&&◌, List, [], ◌∷◌, ◌++◌, map, Option, Some, None, refl, sym, ap, subst, arith, append_assoc, append-nil}
use Rattle.std.specs.Prelude.{T, ℤ, pos, negsuc}
use Rattle.std.specs.FinMap as fin
use Rattle.std.specs.FinMap.{entries_sorted}
use Rattle.std.specs.FinMap.Entries.{below_all}
use Rattle.std.specs.List.{AllByRecursion}
use Rattle.std.specs.Cmp.Lexicographic.{nat_list_cmp_total}
use Rattle.std.specs.Ordering.{is_lt, ordering_reverse}
use Rattle.std.specs.declared.cmp.Ordering.{Ordering}
use Rattle.std.specs.declared.cmp.Ordering.TheVariants.{Less, Equal, Greater}
use Rattle.serde_json.specs.Data.{string, member, put}
use Rattle.serde_json.specs.View.{items_of}
use Rattle.bucket_ids.specs.Buckets.{Low}
use Rattle.doc_types.specs.SchemaCodes.{Types, name_cmp}
use Rattle.doc_types.specs.declared.values.FieldValue.{FieldValue}
use Rattle.doc_types.specs.declared.values.FieldValue.TheVariants.{Int, Text, Ints, Texts}
use Rattle.documents.specs.Fields.{Contents}
use Rattle.documents.specs.declared.entry.Entry.{Entry}
use Rattle.entry_maps.specs.EntryCodes.{Entries}
use Rattle.json_documents.specs.Json.{number_json, value_json, members_json}
use Rattle.messages.specs.declared.body.Body.{Body}
use Rattle.messages.specs.declared.body.Body.TheVariants as body
use Rattle.messages.specs.declared.message.Message.{Message}
use Rattle.message_texts.specs.ByKey.{by_key}
use Rattle.message_texts.specs.Entries.{fields_data, entry_data}
use Rattle.message_texts.specs.Fitting.{IsSigned, HasSigned, FitsIfThere, FitsEntry, FitEntries, FitsBody, Fits}
use Rattle.message_texts.specs.Texts.{message_data}
use Rattle.message_texts.proofs.OrderLaws.{IsOwn, apart_by_key, find_by_key}
use Rattle.message_texts.proofs.EntryLaws.{AllFit, all_fit}
use Rattle.message_texts.proofs.PrintLaws.{put_all, IsPlain, ArePlain, MembersArePlain}

-- ---- fields

first : (a b : Bool) → T (a && b) → T a
first true b p = tt
first false b p = p

second : (a b : Bool) → T (a && b) → T b
second true b p = p
second false b p = absurd p

less : (o : Ordering) → T (is_lt o) → o ≡ Less
less Less p = refl
less Equal p = absurd p
less Greater p = absurd p

abbrev Field : Type 0
Field = List ℕ × FieldValue

below_middle : (x : List ℕ) (es : List Field) (e : Field) (more : List Field) → T (below_all name_cmp x (es ++ e ∷ more)) → name_cmp x e.0 ≡ Less
below_middle x [] e more h = less _ (first _ _ h)
below_middle x (y ∷ es) e more h = below_middle x es e more (second _ _ h)

-- a name above all before it goes last
put_last : (es : List Field) (e : Field) (more : List Field) → T (fin.is_sorted name_cmp (es ++ e ∷ more)) → put e.0 (value_json e.1) (members_json es) ≡ members_json (es ++ e ∷ [])
put_last [] e more h = refl
put_last (x ∷ es) e more h =
    let above : name_cmp e.0 x.0 ≡ Greater = nat_list_cmp_total.antisymm e.0 x.0 ∙ ap ordering_reverse (below_middle x.0 es e more (first _ _ h)) in
    rw above (ap (member x.0 (value_json x.1)) (put_last es e more (second _ _ h)))

fields_go_in : (done es : List Field) → T (fin.is_sorted name_cmp (done ++ es)) → put_all (members_json es) (members_json done) ≡ members_json (done ++ es)
fields_go_in done [] h = ap members_json (sym (append-nil done))
fields_go_in done (e ∷ es) h =
    ap (put_all (members_json es)) (put_last done e es h)
    ∙ fields_go_in (done ++ e ∷ []) es (subst (λ (l : List Field). T (fin.is_sorted name_cmp l)) (sym (append_assoc done (e ∷ []) es)) h)
    ∙ ap members_json (append_assoc done (e ∷ []) es)

number_plain : (z : ℤ) → IsSigned z → IsPlain (number_json z)
number_plain (pos n) h = omega (arith, h)
number_plain (negsuc n) h = h

numbers_plain : (zs : List ℤ) → AllByRecursion IsSigned zs → ArePlain (items_of (map number_json zs))
numbers_plain [] h = tt
numbers_plain (z ∷ zs) h = (number_plain z h.0, numbers_plain zs h.1)

texts_plain : (ts : List (List ℕ)) → ArePlain (items_of (map string ts))
texts_plain [] = tt
texts_plain (t ∷ ts) = (tt, texts_plain ts)

value_plain : (v : FieldValue) → HasSigned v → IsPlain (value_json v)
value_plain (Int z) h = number_plain z h
value_plain (Text t) h = tt
value_plain (Ints zs) h = numbers_plain zs h
value_plain (Texts ts) h = texts_plain ts

fields_plain : (es : List Field) → AllByRecursion (λ e. HasSigned e.1) es → MembersArePlain (members_json es)
fields_plain [] h = tt
fields_plain (e ∷ es) h = (value_plain e.1 h.0, fields_plain es h.1)

-- ---- entries

module _ (types : Types) where
  body_plain : (id : List ℕ) (d : Option Contents) → FitsIfThere types id d → IsPlain (fields_data d)
  body_plain id None h = tt
  body_plain id (Some d) h = (fields_go_in [] (fin.entries d.fields) (entries_sorted d.fields), fields_plain (fin.entries d.fields) h.numbers)

  entry_plain : (e : Entry) → FitsEntry types e → IsPlain (entry_data e)
  entry_plain e h = (refl, (body_plain e.id e.body h.body, (tt, (tt, tt))))

  entries_plain : (b : Low) (es : List Entry) → AllFit types b es → ArePlain (items_of (map entry_data es))
  entries_plain b [] h = tt
  entries_plain b (e ∷ es) h = (entry_plain e h.0.0, entries_plain b es h.1)

  by_key_fit : (b : Low) (m : Entries) → FitEntries types b m → AllFit types b (by_key m)
  by_key_fit b m fit =
      let own : IsOwn m = λ id e has. (fit id e has).own in
      all_fit types b (by_key m) (apart_by_key m) (λ q e is. fit q e (sym (find_by_key m q own) ∙ is))

  -- ---- messages

  module _ (v l s r : ℕ) (cv : v < 2 ^ 64) (cl : l < 2 ^ 64) (cs : s < 2 ^ 64) (cr : r < 2 ^ 64) where
    data_plain : (b : Body) → FitsBody types b → IsPlain (message_data (record { version = v; lane = l; sender = s; receiver = r; body = b }))
    data_plain body.Ask h = (refl, (tt, (cl, (cr, (cs, (cv, tt))))))
    data_plain (body.Read b None) h = (refl, (tt, (tt, (cl, (tt, (cr, (cs, (cv, tt))))))))
    data_plain (body.Read b (Some id)) h = (refl, (tt, (tt, (cl, (tt, (cr, (cs, (cv, tt))))))))
    data_plain (body.Store e) h = (refl, (tt, (entry_plain e h, (cl, (cr, (cs, (cv, tt)))))))
    data_plain (body.Apply b m) h = (refl, (tt, (tt, (entries_plain b (by_key m) (by_key_fit b m h.1), (cl, (cr, (cs, (cv, tt))))))))
    data_plain (body.Delete b serial) h = (refl, (tt, (tt, (cl, (cr, (cs, (h.1, (cv, tt))))))))
    data_plain (body.Split b) h = (refl, (tt, (tt, (cl, (cr, (cs, (cv, tt)))))))
    data_plain (body.Join b) h = (refl, (tt, (tt, (cl, (cr, (cs, (cv, tt)))))))
    data_plain (body.Ready b) h = (refl, (tt, (tt, (cl, (cr, (cs, (cv, tt)))))))
    data_plain (body.Activate b) h = (refl, (tt, (tt, (cl, (cr, (cs, (cv, tt)))))))

  pub message_plain : (m : Message) → Fits types m → IsPlain (message_data m)
  message_plain m h =
      data_plain m.version m.lane m.sender m.receiver (omega (arith, h.version)) (omega (arith, h.lane)) (omega (arith, h.sender)) (omega (arith, h.receiver)) m.body h.body
