-- What a text is read as fits the schema.
use Rattle.std.proofs.Common.{◌≡◌, ◌∙◌, ◌<◌, ◌^◌, ℕ, Bool, true, false, cond, ◌&&◌, nat_lt, List, Option, Some, None, option_map, option_and_then, is_some, IfSome, Result, Ok, Err, refl, sym, ap, subst, arith}
use mathlib.Core.Bool.{true≢false}
use Rattle.std.specs.FinMap as fin
use Rattle.std.specs.Prelude.{codes}
use Rattle.std.specs.Str.{bytes_eq, is_utf8, IsUtf8}
use Rattle.std.proofs.lemmas.Bool.{and_parts}
use Rattle.std.proofs.lemmas.Bool.Decides.{nat_tests}
use Rattle.std.proofs.lemmas.Slice.Eq.{bytes_eq-Decides}
use Rattle.std.proofs.lemmas.Str.{IsUtf8-from_is_utf8}
use Rattle.serde_json.specs.Data.{Data, null, boolean, number, string, array, object, Items, no_items, item}
use Rattle.serde_json.specs.Find.{get, as_array, as_number, as_u64}
use Rattle.serde_json.specs.Read.{read}
use Rattle.bucket_ids.specs.Buckets.{Low, IsBucket}
use Rattle.document_ids.specs.Grammar.{Parts, HasParts, IsId}
use Rattle.document_ids.specs.Parts.{parts_of, type_of}
use Rattle.document_ids.specs.declared.fault.IdFault.{IdFault}
use Rattle.stamps.specs.declared.stamp.Stamp.{Stamp}
use Rattle.stamps.specs.Printed.{printed, IsStamp, stamp_in}
use Rattle.doc_types.specs.SchemaCodes.{Types}
use Rattle.documents.specs.Fields.{Contents}
use Rattle.documents.specs.Kinds.{kinds_of}
use Rattle.documents.specs.declared.entry.Entry.{Entry}
use Rattle.entry_maps.specs.EntryCodes.{Entries}
use Rattle.entry_maps.specs.Entries.{in_bucket, is_newer, with_entry}
use Rattle.json_documents.specs.DocumentFaults.{document_fault}
use Rattle.json_documents.specs.Json.{fields_in}
use Rattle.messages.specs.declared.body.Body.{Body}
use Rattle.messages.specs.declared.body.Body.TheVariants as body
use Rattle.messages.specs.declared.message.Message.{Message}
use Rattle.message_texts.specs.Bodies.{some_id, only_in, bare, on_bucket, body_by, body_in}
use Rattle.message_texts.specs.Entries as entries
use Rattle.message_texts.specs.Entries.{document_fits, if_fits, entry_by, body_under, entry_in, joined, gathered}
use Rattle.message_texts.specs.Fitting.{FitsIfThere, FitsEntry, FitEntries, FitsBody, Fits}
use Rattle.message_texts.specs.Parts.{is_printed, bucket_by, bucket_in, id_by, id_in, below, number_at, bucket_at, text_at}
use Rattle.message_texts.specs.Texts.{text_of, message_by, said_by, if_text, value_in, message_in, IsTextOf}
use Rattle.message_texts.proofs.BucketLaws.{is_bucket}
use Rattle.message_texts.proofs.FitLaws.{fits_document}
use Rattle.message_texts.proofs.JoinLaws.{fits_joined, none_fit}

-- ---- of what may be there

module _ {A B : Type 0} (P : B → Type 0) (f : A → Option B) where
  then_some : (Q : A → Type 0) (o : Option A) → IfSome o Q → ((a : A) → Q a → IfSome (f a) P) → IfSome (option_and_then f o) P
  then_some Q None h more = tt
  then_some Q (Some a) h more = more a h

  then_any : (o : Option A) → ((a : A) → IfSome (f a) P) → IfSome (option_and_then f o) P
  then_any None more = tt
  then_any (Some a) more = more a

map_some : {A B : Type 0} (P : B → Type 0) (f : A → B) (Q : A → Type 0) (o : Option A) → IfSome o Q → ((a : A) → Q a → P (f a)) → IfSome (option_map f o) P
map_some P f Q None h more = tt
map_some P f Q (Some a) h more = more a h

module _ {A : Type 0} (P : A → Type 0) where
  if_some : (t : Bool) (a : A) → (t ≡ true → P a) → IfSome (cond t (Some a) None) P
  if_some true a p = p refl
  if_some false a p = tt

  if_then : (t : Bool) (o : Option A) → (t ≡ true → IfSome o P) → IfSome (cond t o None) P
  if_then true o p = p refl
  if_then false o p = tt

  if_not : (t : Bool) (o : Option A) → IfSome o P → IfSome (cond t None o) P
  if_not true o p = tt
  if_not false o p = p

  if_else : (t : Bool) (a b : Option A) → IfSome a P → IfSome b P → IfSome (cond t a b) P
  if_else true a b p q = p
  if_else false a b p q = q

  each_some : (o : Option A) → ((a : A) → o ≡ Some a → P a) → IfSome o P
  each_some None p = tt
  each_some (Some a) p = p a refl

  of_some : (o : Option A) (a : A) → o ≡ Some a → IfSome o P → P a
  of_some o a is h = subst (λ (q : Option A). IfSome q P) is h

-- ---- numbers, buckets, ids

lower : (a b : ℕ) → nat_lt a b ≡ true → a < b
lower a b e = grind (arith, nat_tests)

small_number : (limit : ℕ) (key : List ℕ) (d : Data) → IfSome (number_at limit key d) (λ n. n < limit)
small_number limit key d =
    let small : ℕ → Type 0 = λ n. n < limit in
    then_any small (below limit) (option_and_then as_u64 (option_and_then as_number (get key d))) (λ n. if_some small (nat_lt n limit) n (lower n limit))

bucket_fits : (text : List ℕ) → IfSome (bucket_in text) IsBucket
unfolding bucket_in
bucket_fits text = if_some IsBucket (is_printed text (bucket_by text)) (bucket_by text) (is_bucket text (bucket_by text))

bucket_under : (d : Data) → IfSome (bucket_at d) IsBucket
bucket_under d = then_any IsBucket bucket_in (text_at (codes "bucket") d) bucket_fits

-- what the crates below say of ids and stamps
pub record AreRight : Type 0 where
  pub ids : (text : List ℕ) (p : Parts) → parts_of text ≡ Ok p → HasParts text p
  pub stamps : (text : List ℕ) (s : Stamp) → stamp_in text ≡ Some s → (text ≡ printed s) × IsStamp s

module _ (right : AreRight) where
  id_fits : (text : List ℕ) → IfSome (id_in text) IsId
  id_fits text = by (parts_of text) refl
    where
      by : (r : Result Parts IdFault) → parts_of text ≡ r → IfSome (id_by text r) IsId
      by (Ok p) is = (p, right.ids text p is)
      by (Err fault) is = tt

  stamp_fits : (text : List ℕ) → IfSome (stamp_in text) IsStamp
  stamp_fits text = each_some IsStamp (stamp_in text) (λ s is. (right.stamps text s is).1)

  -- ---- entries

  module _ (types : Types) where
    document_fit : (id : List ℕ) (v : Data) → IfSome (entries.body_in types id v) (FitsIfThere types id)
    document_fit id null = tt
    document_fit id (boolean b) = tt
    document_fit id (number n) = tt
    document_fit id (string s) = tt
    document_fit id (array ds) = tt
    document_fit id (object ms) =
        let d : Contents = record { id = id; fields = fields_in (kinds_of types (type_of id)) ms } in
        if_not (FitsIfThere types id) (is_some (document_fault types (type_of id) ms)) (if_fits types d) (if_some (FitsIfThere types id) (document_fits types d) (Some d) (fits_document types d))

    under_fit : (d : Data) (o : Option (List ℕ)) (id : List ℕ) → o ≡ Some id → IfSome (body_under types d o) (FitsIfThere types id)
    under_fit d o id is =
        subst (λ (q : Option (List ℕ)). IfSome (body_under types d q) (FitsIfThere types id)) (sym is) (then_any (FitsIfThere types id) (entries.body_in types id) (get (codes "fields") d) (document_fit id))

    parts_fit : (s : Option Stamp) (i : Option (List ℕ)) (b : Option (Option Contents)) → IfSome s IsStamp → IfSome i IsId → ((id : List ℕ) → i ≡ Some id → IfSome b (FitsIfThere types id)) → IfSome (entry_by s i b) (FitsEntry types)
    parts_fit (Some s) (Some i) (Some b) hs hi hb = record { id = hi; stamp = hs; body = hb i refl }
    parts_fit (Some s) (Some i) None hs hi hb = tt
    parts_fit (Some s) None b hs hi hb = tt
    parts_fit None i b hs hi hb = tt

    entry_fit : (d : Data) → IfSome (entry_in types d) (FitsEntry types)
    unfolding entry_in
    entry_fit d =
        let id = option_and_then id_in (text_at (codes "id") d) in
        parts_fit (option_and_then stamp_in (text_at (codes "stamp") d)) id (body_under types d id)
        (then_any IsStamp stamp_in (text_at (codes "stamp") d) stamp_fits) (then_any IsId id_in (text_at (codes "id") d) id_fits) (under_fit d id)

    join_fit : (b : Low) (m : Entries) (o : Option Entry) → FitEntries types b m → IfSome o (FitsEntry types) → IfSome (joined b m o) (FitEntries types b)
    join_fit b m None fit h = tt
    join_fit b m (Some e) fit h =
        if_some (FitEntries types b) (in_bucket b e.id && is_newer e (fin.get m e.id)) (with_entry m e) (λ t. fits_joined types b m e h (and_parts (in_bucket b e.id) (is_newer e (fin.get m e.id)) t).0 fit)

    all_join : (b : Low) (ds : Items) (m : Entries) → FitEntries types b m → IfSome (gathered types b m ds) (FitEntries types b)
    all_join b no_items m fit = fit
    all_join b (item d ds) m fit =
        then_some (FitEntries types b) (λ (n : Entries). gathered types b n ds) (FitEntries types b) (joined b m (entry_in types d)) (join_fit b m (entry_in types d) fit (entry_fit d)) (all_join b ds)

    -- ---- bodies

    abbrev IfId : Option (List ℕ) → Type 0
    IfId o = IfSome o IsId

    only_fit : (v : Data) → IfSome (only_in v) IfId
    only_fit null = tt
    only_fit (boolean b) = tt
    only_fit (number n) = tt
    only_fit (string text) = by (id_in text) (id_fits text)
      where
        by : (o : Option (List ℕ)) → IfSome o IsId → IfSome (some_id o) IfId
        by None h = tt
        by (Some id) h = h
    only_fit (array ds) = tt
    only_fit (object ms) = tt

    read_fit : (b : Low) (o : Option (List ℕ)) → IsBucket b → IfSome o IsId → FitsBody types (body.Read b o)
    read_fit b None is h = is
    read_fit b (Some id) is h = (is, h)

    bare_fit : (name : List ℕ) (b : Low) → IsBucket b → IfSome (bare name b) (FitsBody types)
    bare_fit name b is =
        if_else (FitsBody types) (bytes_eq name (codes "split")) _ _ is (if_else (FitsBody types) (bytes_eq name (codes "join")) _ _ is (if_else (FitsBody types) (bytes_eq name (codes "ready")) _ _ is (if_else (FitsBody types) (bytes_eq name (codes "activate")) _ _ is tt)))

    bucket_body : (name : List ℕ) (d : Data) (b : Low) → IsBucket b → IfSome (on_bucket types name d b) (FitsBody types)
    bucket_body name d b is =
        if_else (FitsBody types) (bytes_eq name (codes "read")) _ _ (map_some (FitsBody types) (body.Read b) IfId _ (then_any IfId only_in (get (codes "only") d) only_fit) (λ o h. read_fit b o is h))
        (if_else (FitsBody types) (bytes_eq name (codes "apply")) _ _
        (map_some (FitsBody types) (body.Apply b) (FitEntries types b) _ (then_any (FitEntries types b) (gathered types b fin.empty) (option_and_then as_array (get (codes "entries") d)) (λ ds. all_join b ds fin.empty (none_fit types b fin.empty refl))) (λ m h. (is, h)))
        (if_else (FitsBody types) (bytes_eq name (codes "delete")) _ _ (map_some (FitsBody types) (body.Delete b) (λ n. n < 2 ^ 64) _ (small_number (2 ^ 64) (codes "serial") d) (λ n h. (is, h))) (bare_fit name b is)))

    named_body : (d : Data) (name : List ℕ) → IfSome (body_by types d name) (FitsBody types)
    named_body d name =
        if_else (FitsBody types) (bytes_eq name (codes "ask")) _ _ tt
        (if_else (FitsBody types) (bytes_eq name (codes "store")) _ _ (map_some (FitsBody types) body.Store (FitsEntry types) _ (then_any (FitsEntry types) (entry_in types) (get (codes "entry") d) entry_fit) (λ e h. h))
        (then_some (FitsBody types) (on_bucket types name d) IsBucket (bucket_at d) (bucket_under d) (bucket_body name d)))

    body_fit : (d : Data) → IfSome (body_in types d) (FitsBody types)
    unfolding body_in
    body_fit d = then_any (FitsBody types) (body_by types d) (text_at (codes "body") d) (named_body d)

    -- ---- messages

    all_parts : (v l s r : Option ℕ) (b : Option Body) → IfSome v (λ n. n < 2 ^ 32) → IfSome l (λ n. n < 2 ^ 8) → IfSome s (λ n. n < 2 ^ 8) → IfSome r (λ n. n < 2 ^ 8) → IfSome b (FitsBody types) → IfSome (message_by v l s r b) (Fits types)
    all_parts (Some v) (Some l) (Some s) (Some r) (Some b) hv hl hs hr hb = record { version = hv; lane = hl; sender = hs; receiver = hr; body = hb }
    all_parts (Some v) (Some l) (Some s) (Some r) None hv hl hs hr hb = tt
    all_parts (Some v) (Some l) (Some s) None b hv hl hs hr hb = tt
    all_parts (Some v) (Some l) None r b hv hl hs hr hb = tt
    all_parts (Some v) None s r b hv hl hs hr hb = tt
    all_parts None l s r b hv hl hs hr hb = tt

    said_fit : (d : Data) → IfSome (said_by types d) (Fits types)
    said_fit d =
        all_parts _ _ _ _ _ (small_number (2 ^ 32) (codes "version") d) (small_number (2 ^ 8) (codes "lane") d) (small_number (2 ^ 8) (codes "sender") d) (small_number (2 ^ 8) (codes "receiver") d) (body_fit d)

    abbrev FitsIn : List ℕ → Message → Type 0
    FitsIn text m = Fits types m × IsUtf8 text

    said_in : (text : List ℕ) → IfSome (option_and_then (said_by types) (value_in text)) (FitsIn text)
    said_in text =
        let utf8 : Data → Type 0 = λ d. IsUtf8 text in
        then_some (FitsIn text) (said_by types) utf8 (value_in text)
        (if_then utf8 (is_utf8 text) (read text) (λ t. each_some utf8 (read text) (λ d is. IsUtf8-from_is_utf8 text t)))
        (λ d u. each_some (FitsIn text) (said_by types d) (λ m is. (of_some (Fits types) (said_by types d) m is (said_fit d), u)))

    read_fits : (text : List ℕ) → IfSome (message_in types text) (λ m. IsTextOf types m text)
    unfolding message_in
    read_fits text =
        let its : Message → Type 0 = λ m. IsTextOf types m text in
        then_some its (if_text text) (FitsIn text) (option_and_then (said_by types) (value_in text)) (said_in text)
        (λ m h. if_some its (bytes_eq text (text_of m)) m (λ same. record { fits = h.0; is = (bytes_eq-Decides text (text_of m)).0 same; utf8 = h.1 }))

    -- what a text is read as has this text, and fits
    pub is_its_text : (text : List ℕ) (m : Message) → message_in types text ≡ Some m → IsTextOf types m text
    is_its_text text m is = of_some (λ m. IsTextOf types m text) (message_in types text) m is (read_fits text)

-- a text that is none's is read as none, and the other way round
pub reads_none : (types : Types) (text : List ℕ) → ((m : Message) → message_in types text ≡ Some m → IsTextOf types m text) → ((m : Message) → IsTextOf types m text → ⊥) → message_in types text ≡ None
reads_none types text its none = by (message_in types text) refl
  where
    by : (o : Option Message) → message_in types text ≡ o → o ≡ None
    by None is = refl
    by (Some m) is = absurd (none m (its m is))

pub none_reads : (types : Types) (text : List ℕ) → ((m : Message) → IsTextOf types m text → message_in types text ≡ Some m) → message_in types text ≡ None → (m : Message) → IsTextOf types m text → ⊥
none_reads types text reads none m is = true≢false (ap is_some (sym (reads m is) ∙ none))
