-- Bodies are read again.
use Rattle.std.proofs.Common.{◌≡◌, ◌∙◌, ◌^◌, ℕ, List, Option, Some, None, option_map, option_and_then, refl, ap}
use Rattle.serde_json.specs.Data.{Data}
use Rattle.std.specs.Prelude.{codes}
use Rattle.bucket_ids.specs.Buckets.{Low, IsBucket}
use Rattle.bucket_ids.specs.Printed.{printed}
use Rattle.doc_types.specs.SchemaCodes.{Types}
use Rattle.messages.specs.declared.body.Body.{Body}
use Rattle.messages.specs.declared.body.Body.TheVariants as body
use Rattle.messages.specs.declared.message.Message.{Message}
use Rattle.message_texts.specs.Bodies.{some_id, on_bucket, body_in}
use Rattle.message_texts.specs.Fitting.{FitsBody}
use Rattle.message_texts.specs.Parts.{bucket_in}
use Rattle.message_texts.specs.Texts.{message_data}
use Rattle.message_texts.proofs.BucketLaws.{printed_bucket}
use Rattle.message_texts.proofs.EntryLaws.{AreRead, entry_back, map_back}
use Rattle.message_texts.proofs.PartLaws.{read_id, small_below}

module _ (read : AreRead) (types : Types) (v l s r : ℕ) where
  -- the message of a body
  abbrev whole : Body → Message
  whole b = record { version = v; lane = l; sender = s; receiver = r; body = b }

  -- a body with a bucket
  bucket_back : (d : Data) (name : List ℕ) (b : Low) → IsBucket b → option_and_then (on_bucket types name d) (bucket_in (printed b)) ≡ on_bucket types name d b
  bucket_back d name b is = ap (option_and_then (on_bucket types name d)) (printed_bucket b is)

  pub body_back : (b : Body) → FitsBody types b → body_in types (message_data (whole b)) ≡ Some b
  unfolding body_in
  body_back body.Ask fits = refl
  body_back (body.Read b None) fits = bucket_back (message_data (whole (body.Read b None))) (codes "read") b fits
  body_back (body.Read b (Some id)) fits =
      bucket_back (message_data (whole (body.Read b (Some id)))) (codes "read") b fits.0
      ∙ ap (λ (o : Option (List ℕ)). option_map (body.Read b) (some_id o)) (read_id read.ids id fits.1)
  body_back (body.Store e) fits = ap (option_map body.Store) (entry_back read types e fits)
  body_back (body.Apply b m) fits =
      bucket_back (message_data (whole (body.Apply b m))) (codes "apply") b fits.0 ∙ ap (option_map (body.Apply b)) (map_back read types b m fits.1)
  body_back (body.Delete b serial) fits =
      bucket_back (message_data (whole (body.Delete b serial))) (codes "delete") b fits.0 ∙ ap (option_map (body.Delete b)) (small_below (2 ^ 64) serial fits.1)
  body_back (body.Split b) fits = bucket_back (message_data (whole (body.Split b))) (codes "split") b fits
  body_back (body.Join b) fits = bucket_back (message_data (whole (body.Join b))) (codes "join") b fits
  body_back (body.Ready b) fits = bucket_back (message_data (whole (body.Ready b))) (codes "ready") b fits
  body_back (body.Activate b) fits = bucket_back (message_data (whole (body.Activate b))) (codes "activate") b fits
