-- The keys of a line.
use Rattle.std.specs.Prelude.{◌||◌, ℕ, Bool, true, false, List, [], ◌∷◌, codes, Option, Some, None, if◌then◌else◌}
use Rattle.std.specs.Str.{bytes_eq}
use Rattle.serde_json.specs.Data.{Members, no_members, member}
use Rattle.feed_lines.specs.declared.keys.Verb.{Verb}
use Rattle.feed_lines.specs.declared.keys.Verb.TheVariants as verb
use Rattle.feed_lines.specs.declared.keys.LineVerb.{LineVerb}
use Rattle.feed_lines.specs.declared.keys.LineVerb.TheVariants as line

-- the verbs that ask for no document of an id; a barrier isn't built yet
unfoldable pub other_verb : List ℕ → Option LineVerb
other_verb key = if bytes_eq key (codes "search") then Some line.Search else (if bytes_eq key (codes "state") then Some line.State else (if bytes_eq key (codes "stop") then Some line.Stop
    else (if bytes_eq key (codes "start") then Some line.Start else (if bytes_eq key (codes "net") then Some line.Net
    else (if bytes_eq key (codes "maintain") then Some line.Maintain else (if bytes_eq key (codes "barrier") then Some line.Barrier else None))))))

unfoldable pub verb_named : List ℕ → Option LineVerb
verb_named key = if bytes_eq key (codes "put") then Some (line.Feed verb.Put) else (if bytes_eq key (codes "update") then Some (line.Feed verb.Update)
    else (if bytes_eq key (codes "remove") then Some (line.Feed verb.Remove) else (if bytes_eq key (codes "get") then Some (line.Feed verb.Get)
    else other_verb key)))

-- the keys that are verbs
abbrev pub with_verb : Option LineVerb → List LineVerb → List LineVerb
with_verb None rest = rest
with_verb (Some v) rest = v ∷ rest

abbrev pub verbs_in : Members → List LineVerb
verbs_in no_members = []
verbs_in (member key d ms) = with_verb (verb_named key) (verbs_in ms)

-- the verb of an object with exactly one
abbrev pub alone : List LineVerb → Option LineVerb
alone [] = None
alone (v ∷ []) = Some v
alone (v ∷ w ∷ vs) = None

abbrev pub only_verb : Members → Option LineVerb
only_verb ms = alone (verbs_in ms)

-- the key of an operation's verb
abbrev pub name_of : Verb → List ℕ
name_of verb.Put = codes "put"
name_of verb.Update = codes "update"
name_of verb.Remove = codes "remove"
name_of verb.Get = codes "get"

abbrev pub stands_beside_fields : List ℕ → Bool
stands_beside_fields key = bytes_eq key (codes "fields") || bytes_eq key (codes "condition") || bytes_eq key (codes "create") || bytes_eq key (codes "via")

-- a put and an update have `fields` beside the verb and may have `condition`, `create` and `via`, a remove may have
-- `condition` and `via`, and a get may have `via`
unfoldable pub may_stand_with : Verb → List ℕ → Bool
may_stand_with verb.Put key = bytes_eq key (codes "put") || stands_beside_fields key
may_stand_with verb.Update key = bytes_eq key (codes "update") || stands_beside_fields key
may_stand_with verb.Remove key = bytes_eq key (codes "remove") || bytes_eq key (codes "condition") || bytes_eq key (codes "via")
may_stand_with verb.Get key = bytes_eq key (codes "get") || bytes_eq key (codes "via")

-- a state may have `deaf` beside the verb; a search, a stop, a start, a net and an upkeep have the verb alone
unfoldable pub may_stand : LineVerb → List ℕ → Bool
may_stand (line.Feed v) key = may_stand_with v key
may_stand line.Search key = bytes_eq key (codes "search")
may_stand line.State key = bytes_eq key (codes "state") || bytes_eq key (codes "deaf")
may_stand line.Stop key = bytes_eq key (codes "stop")
may_stand line.Start key = bytes_eq key (codes "start")
may_stand line.Net key = bytes_eq key (codes "net")
may_stand line.Maintain key = bytes_eq key (codes "maintain")
may_stand line.Barrier key = bytes_eq key (codes "barrier")

abbrev pub all_stand : LineVerb → Members → Bool
all_stand v no_members = true
all_stand v (member key d ms) = if may_stand v key then all_stand v ms else false

-- the keys of the object of `net`
unfoldable pub is_net_key : List ℕ → Bool
is_net_key key = bytes_eq key (codes "lane") || bytes_eq key (codes "fates")

abbrev pub are_net_keys : Members → Bool
are_net_keys no_members = true
are_net_keys (member key d ms) = if is_net_key key then are_net_keys ms else false
