-- What each event leaves of the parts of a state.
use Rattle.std.proofs.Common.{◌≡◌, ℕ, arith, List, [], ◌∷◌, ◌++◌, map, length, not, cond, ◌+◌, ◌≤◌, Bool, true, false, Option, Some, None, Result}
use Rattle.std.proofs.Common.{Ok, Err, refl, ap, ap₂, sym, subst, ◌∙◌, find}
use Rattle.std.specs.List.{position_or_len}
use Rattle.std.specs.Result.{IsErrAnd}
use Rattle.std.specs.Prelude.{is_some, nat_lt, bytes_eq, IsSomeAnd, IfSome, IfOk, OnErr, ◌||◌, ◌==◌}
use Rattle.std.proofs.lemmas.List.FromFn.{get_or-map-range_with_len}
use Rattle.std.proofs.lemmas.Bool.{eqb-true}
use Rattle.std.proofs.lemmas.List.{map-append, length-map, length-append}
use Rattle.bmc_base.specs.Places.{Place}
use Rattle.fru_area.specs.declared.field.Field.{Field}
use Rattle.probe_lang.specs.Sights.{Sight, entry_sight}
use Rattle.probe_lang.specs.Values.{Probe}
use Rattle.probe_lang.specs.Presents as presents
use Rattle.probe_lang.specs.Presents.{with_entry, without_entry, is_entry_at, are_by_place}
use Rattle.probe_lang.specs.declared.rows.Entry.{Entry}
use Rattle.cfg_json.specs.Configs.{Config, fixed_of}
use Rattle.cfg_json.specs.Shelves as shelves
use Rattle.match_rows.specs.Matching.{entry_of}
use Rattle.match_rows.proofs.RowsLemmas.{found_is_held}
use Rattle.found_set.specs.declared.facts.Facts.{Facts}
use Rattle.found_set.specs.declared.row.Row.{Row}
use Rattle.found_set.specs.Found.{Rule, rule_of, has_name, number_of, facts, is_found, is_reached}
use Rattle.found_set.specs.Marks.{AreMarked, marks, mark_count}
use Rattle.found_set.specs.Rows as rows
use Rattle.found_set.specs.Rows.{row_of, sights_of, IsKnown}
use Rattle.found_set.specs.Events.{Event, PlugEvent, UnplugEvent, rules_after, rows_after}
use Rattle.found_set.specs.Sets.{SetView, after, as_staged, committed}
use Rattle.inventory.specs.Boards as of_configs
use Rattle.inventory.specs.Boards.{rules_of, boards_in}
use Rattle.inventory.specs.Differences.{Moment, IsMarkedBy, boards_at, keys_left}
use Rattle.inventory.specs.Moments.{IsAmong}
use Rattle.inventory.specs.declared.board.BoardKey.{BoardKey}
use Rattle.inventory.proofs.MomentsLemmas.{with_among, found_apart}
use Rattle.bmc_report.specs.declared.change.Change.{Change}
use Rattle.bmc_watch.specs.Changes.{IsDifference, AreWithin, Tells}
use Rattle.bmc_watch.proofs.KeysLemmas.{keys_within}
use Rattle.fru_rows.specs.Idle.{is_idle, busy}
use Rattle.bmc_watch.proofs.BusyLemmas.{busy_free, busy_found, busy_with, busy_without}
use Rattle.bmc_watch.proofs.IdleLemmas.{busy_boards}
use Rattle.bmc_watch.proofs.RowsLemmas.{rows_sights, rows_hold, rows_with, rows_without, entry_is_known}

pub on_err : {T E P : Type 0} (result : Result T E) → P → OnErr result P
on_err (Ok value) fact = tt
on_err (Err fault) fact = fact

pub not_ok : {T E : Type 0} (P : T → Type 0) (Q : E → Type 0) (result : Result T E) → IsErrAnd result Q → IfOk result P
not_ok P Q (Ok value) fails = absurd fails
not_ok P Q (Err fault) fails = tt

pub if_ok_more : {T E : Type 0} (P Q : T → Type 0) (result : Result T E) → ((value : T) → P value → Q value) → IfOk result P → IfOk result Q
if_ok_more P Q (Ok value) more fact = more value fact
if_ok_more P Q (Err fault) more fact = tt

-- ---- what the set asks for

pub new_place : (set_rows : List Row) (entries : List Entry) (entry : Entry) (configs : List Config) (place : Place) (fields : List Field)
    → set_rows ≡ map row_of (busy entries) → entry ≡ entry_of configs place fields → presents.holds_place entries place ≡ false
    → rows.holds_place set_rows entry.place ≡ false
new_place set_rows entries entry configs place fields same is free =
    ap₂ (λ (set_rows : List Row) (entry : Entry). rows.holds_place set_rows entry.place) same is
    ∙ rows_hold (busy entries) place ∙ busy_free entries place free

pub held_place : (set_rows : List Row) (entries : List Entry) (place : Place) (entry : Entry) → set_rows ≡ map row_of (busy entries)
    → find (is_entry_at place) entries ≡ Some entry → is_idle entry ≡ false → rows.holds_place set_rows place ≡ true
held_place set_rows entries place entry same found works =
    ap (λ (set_rows : List Row). rows.holds_place set_rows place) same ∙ rows_hold (busy entries) place
    ∙ sym (found_is_held place (busy entries)) ∙ ap is_some (busy_found place entry entries found works)

-- the entry that is found is not idle
pub busy_at : (found : Option Entry) (entry : Entry) → Some entry ≡ found → IsSomeAnd found (λ entry. is_idle entry ≡ false) → is_idle entry ≡ false
busy_at found entry same works = subst (λ (found : Option Entry). IsSomeAnd found (λ entry. is_idle entry ≡ false)) (sym same) works

pub busy_none : (found : Option Entry) → None ≡ found → IsSomeAnd found (λ entry. is_idle entry ≡ false) → ⊥
busy_none found same works = subst (λ (found : Option Entry). IsSomeAnd found (λ entry. is_idle entry ≡ false)) (sym same) works

pub known_entry : (rules : List Rule) (configs : List Config) (entry : Entry) (place : Place) (fields : List Field) → rules ≡ rules_of configs
    → entry ≡ entry_of configs place fields → IsKnown rules (row_of entry)
known_entry rules configs entry place fields same is =
    subst (λ (entry : Entry). IsKnown rules (row_of entry)) (sym is)
    (subst (λ (rules : List Rule). IsKnown rules (row_of (entry_of configs place fields))) (sym same) (entry_is_known configs place fields))

place_is : (configs : List Config) (name : List ℕ) → position_or_len (has_name name) (rules_of configs) ≡ position_or_len (shelves.has_name name) configs
place_is [] name = refl
place_is (config ∷ configs) name =
    ap (λ (later : ℕ). cond (not (bytes_eq name config.name)) (1 + later) 0) (place_is configs name)

number_is : (configs : List Config) (name : List ℕ) → number_of (rules_of configs) name ≡ shelves.number_of configs name
number_is configs name =
    ap₂ (λ (place count : ℕ). cond (nat_lt place count) (Some place) None) (place_is configs name) (length-map configs of_configs.rule_of)

-- a name that no configuration has
pub no_number : (configs : List Config) (name : List ℕ) (config : Config) (number : Option ℕ) → number ≡ shelves.number_of configs name → name ≡ config.name
    → is_some number ≡ false → shelves.number_of configs config.name ≡ None
no_number configs name config number at named lacks =
    let none : number ≡ None = none_is number lacks in
    sym (ap (shelves.number_of configs) named) ∙ sym at ∙ none
  where
    none_is : (number : Option ℕ) → is_some number ≡ false → number ≡ None
    none_is None lacks = refl
    none_is (Some number) lacks = absurd (cc)

pub new_name : (rules : List Rule) (configs : List Config) (name : List ℕ) (config : Config) → rules ≡ rules_of configs → name ≡ config.name
    → shelves.number_of configs config.name ≡ None → number_of rules name ≡ None
new_name rules configs name config same named none = ap₂ number_of same named ∙ number_is configs config.name ∙ none

-- the rules with that of one more configuration
pub rules_more : (rules : List Rule) (configs : List Config) (config : Config) (name : List ℕ) (probe : Probe) (fixed : List ℕ) → rules ≡ rules_of configs
    → name ≡ config.name → probe ≡ config.probe → fixed ≡ fixed_of config
    → rules ++ rule_of name probe fixed ∷ [] ≡ rules_of (configs ++ config ∷ [])
rules_more rules configs config name probe fixed same named by leads =
    ap₂ (λ (rules : List Rule) (rule : Rule). rules ++ rule ∷ []) same
    (ap (λ (name : List ℕ). rule_of name probe fixed) named ∙ ap₂ (rule_of config.name) by leads)
    ∙ sym (map-append of_configs.rule_of configs (config ∷ []))

-- ---- the two moments

-- the place of an entry is free among the busy ones too
pub free_there : (entry : Entry) (entries before : List Entry) → presents.holds_place entries entry.place ≡ false → before ≡ busy entries
    → presents.holds_place before entry.place ≡ false
free_there entry entries before free same =
    ap (λ (there : List Entry). presents.holds_place there entry.place) same ∙ busy_free entries entry.place free

pub plug_among : (entry : Entry) (entries before behind : List Entry) → before ≡ entries → behind ≡ with_entry entry entries → IsAmong entry before behind
plug_among entry entries before behind same with =
    subst (λ (before : List Entry). IsAmong entry before behind) (sym same)
    (subst (λ (behind : List Entry). IsAmong entry entries behind) (sym with) (with_among entry entries))

pub busy_plugged : (entry held : Entry) (entries before behind : List Entry) → entry ≡ held → are_by_place entries ≡ true → is_idle entry ≡ false
    → before ≡ busy entries → behind ≡ with_entry held before → behind ≡ busy (with_entry held entries)
busy_plugged entry held entries before behind is order works same with =
    with ∙ ap (with_entry held) same ∙ busy_with held entries order (ap is_idle (sym is) ∙ works)

pub unplug_among : (place : Place) (entry : Entry) (entries before behind : List Entry) → are_by_place entries ≡ true
    → find (is_entry_at place) entries ≡ Some entry → before ≡ entries → behind ≡ without_entry place entries → IsAmong entry behind before
unplug_among place entry entries before behind ordered found same without =
    subst (λ (before : List Entry). IsAmong entry behind before) (sym same)
    (subst (λ (behind : List Entry). IsAmong entry behind entries) (sym without) (found_apart place entries entry ordered found))

-- the marks of a test are marked as it says
are_marked : (test : ℕ → Bool) → AreMarked (marks test) test
are_marked test number few = get_or-map-range_with_len test 0 mark_count number number false few (omega arith)

marked_by : (held : Facts) (rules : List Rule) (sights : List Sight) → held ≡ facts rules sights
    → IsMarkedBy held (is_found rules sights) (is_reached rules sights)
marked_by held rules sights same =
    subst (λ (held : Facts). IsMarkedBy held (is_found rules sights) (is_reached rules sights)) (sym same)
    (record { found = are_marked (is_found rules sights); reach = are_marked (is_reached rules sights) })

-- a moment has what is found and reachable where these FRUs are present, and those of them that are busy
pub record IsSeen (configs : List Config) (entries : List Entry) (moment : Moment) : Type 0 where
  pub marked : IsMarkedBy moment.facts (is_found (rules_of configs) (map entry_sight (busy entries)))
      (is_reached (rules_of configs) (map entry_sight (busy entries)))
  pub works : moment.entries ≡ busy entries

pub seen : (configs : List Config) (entries : List Entry) (moment : Moment) (rules : List Rule) (set_rows : List Row)
    → moment.facts ≡ facts rules (sights_of set_rows) → rules ≡ rules_of configs → set_rows ≡ map row_of (busy entries) → moment.entries ≡ busy entries
    → IsSeen configs entries moment
seen configs entries moment rules set_rows facts_are same rows_same entries_are = record {
  marked = marked_by moment.facts (rules_of configs) (map entry_sight (busy entries))
      (facts_are ∙ ap₂ (λ (rules : List Rule) (set_rows : List Row). facts rules (sights_of set_rows)) same rows_same
      ∙ ap (facts (rules_of configs)) (rows_sights (busy entries)));
  works = entries_are;
}

-- its boards are those of all FRUs that are present
pub boards_seen : (configs : List Config) (entries : List Entry) (moment : Moment) → IsSeen configs entries moment
    → boards_at configs (is_found (rules_of configs) (map entry_sight (busy entries))) (is_reached (rules_of configs) (map entry_sight (busy entries))) moment
    ≡ boards_in configs (map entry_sight entries)
unfolding boards_in
boards_seen configs entries moment shows = λ i number. at number i
  where
    at_busy : (there : List Entry) → moment.entries ≡ there → (number : ℕ)
        → boards_at configs (is_found (rules_of configs) (map entry_sight there)) (is_reached (rules_of configs) (map entry_sight there)) moment number
        ≡ boards_in configs (map entry_sight there) number
    at_busy there same number =
        ap (λ (entries : List Entry). boards_at configs (is_found (rules_of configs) (map entry_sight there))
        (is_reached (rules_of configs) (map entry_sight there)) (record { facts = moment.facts; entries = entries }) number) same

    at : (number : ℕ)
        → boards_at configs (is_found (rules_of configs) (map entry_sight (busy entries)))
        (is_reached (rules_of configs) (map entry_sight (busy entries))) moment number
        ≡ boards_in configs (map entry_sight entries) number
    at number = at_busy (busy entries) shows.works number ∙ busy_boards configs entries number

-- what comparing the two moments gives, over the FRUs that are present at each
pub difference_is : (configs configs_after : List Config) (before behind : Moment) (entries entries_after : List Entry) (gone new : List BoardKey)
    → IsSeen configs entries before → IsSeen configs_after entries_after behind
    → ((found reach found_after reach_after : ℕ → Bool) → IsMarkedBy before.facts found reach → IsMarkedBy behind.facts found_after reach_after
    → (gone ≡ keys_left (length configs) (boards_at configs found reach before) (boards_at configs_after found_after reach_after behind))
    × (new ≡ keys_left (length configs_after) (boards_at configs_after found_after reach_after behind) (boards_at configs found reach before)))
    → IsDifference (length configs) (length configs_after) (boards_in configs (map entry_sight entries))
    (boards_in configs_after (map entry_sight entries_after))
    gone new
difference_is configs configs_after before behind entries entries_after gone new was is differs =
    let both = differs _ _ _ _ was.marked is.marked in
    let here = boards_seen configs entries before was in
    let there = boards_seen configs_after entries_after behind is in
    record {
      those_gone = both.0 ∙ ap₂ (keys_left (length configs)) here there;
      those_new = both.1 ∙ ap₂ (keys_left (length configs_after)) there here;
    }

-- the keys that are told have configurations
pub gone_within : (count count_after : ℕ) (boards boards_after : ℕ → List (Option Place)) (gone new told : List BoardKey)
    → IsDifference count count_after boards boards_after gone new → told ≡ gone → AreWithin told count
gone_within count count_after boards boards_after gone new told differs same =
    subst (λ (keys : List BoardKey). AreWithin keys count) (sym (same ∙ differs.those_gone)) (keys_within count boards boards_after)

pub within_more : (keys : List BoardKey) (configs : List Config) (config : Config) → AreWithin keys (length configs)
    → AreWithin keys (length (configs ++ config ∷ []))
within_more keys configs config within = λ k d few.
    let here = within k d few in
    let more = length-append configs (config ∷ []) in omega (arith, here, more)

pub staged_within : (count count_after : ℕ) (boards boards_after : ℕ → List (Option Place)) (gone new : List BoardKey) (staged : Option (List BoardKey))
    → IsDifference count count_after boards boards_after gone new → staged ≡ Some new → IsSomeAnd staged (λ new. AreWithin new count_after)
staged_within count count_after boards boards_after gone new staged differs same =
    subst (λ (staged : Option (List BoardKey)). IsSomeAnd staged (λ new. AreWithin new count_after)) (sym same)
    (subst (λ (keys : List BoardKey). AreWithin keys count_after) (sym differs.those_new) (keys_within count_after boards_after boards))

pub room_for : (gone new told : List BoardKey) (staged : Option (List BoardKey)) (room : ℕ) → told ≡ gone → staged ≡ Some new
    → length gone + length new ≤ room → IsSomeAnd staged (λ new. length told + length new ≤ room)
room_for gone new told staged room same is fits =
    subst (λ (staged : Option (List BoardKey)). IsSomeAnd staged (λ new. length told + length new ≤ room)) (sym is)
    (subst (λ (keys : List BoardKey). length keys + length new ≤ room) (sym same) fits)

pub tells_those : (configs : List Config) (gone new told : List BoardKey) (staged : Option (List BoardKey)) (kept kept_now : List (List (Option Place)))
    (changes : List Change) → told ≡ gone → staged ≡ Some new → IfSome staged (λ new. Tells configs told new kept kept_now changes)
    → Tells configs gone new kept kept_now changes
tells_those configs gone new told staged kept kept_now changes same is tells =
    subst (λ (keys : List BoardKey). Tells configs keys new kept kept_now changes) same
    (subst (λ (staged : Option (List BoardKey)). IfSome staged (λ new. Tells configs told new kept kept_now changes)) is tells)

-- ---- what the set has afterwards

pub set_after : (event : Event) (set staged_set now : SetView) → staged_set ≡ as_staged set (Some (after event set)) → now ≡ committed staged_set
    → (now.rules ≡ rules_after event set.rules) × (now.rows ≡ rows_after event set.rows)
set_after event set staged_set now staged commits =
    let is = commits ∙ ap committed staged in (ap (λ (set : SetView). set.rules) is, ap (λ (set : SetView). set.rows) is)

pub rows_plugged : (set_rows : List Row) (entries entries_now : List Entry) (entry : Entry) → set_rows ≡ map row_of (busy entries)
    → presents.are_by_place entries ≡ true → is_idle entry ≡ false → entries_now ≡ with_entry entry entries
    → rows_after (PlugEvent (row_of entry)) set_rows ≡ map row_of (busy entries_now)
rows_plugged set_rows entries entries_now entry same order works now =
    ap (rows.with_row (row_of entry)) same ∙ rows_with entry (busy entries)
    ∙ ap (map row_of) (busy_with entry entries order works ∙ ap busy (sym now))

pub rows_unplugged : (set_rows : List Row) (entries entries_now : List Entry) (place : Place) → set_rows ≡ map row_of (busy entries)
    → entries_now ≡ without_entry place entries → rows_after (UnplugEvent place) set_rows ≡ map row_of (busy entries_now)
rows_unplugged set_rows entries entries_now place same now =
    ap (rows.without_row place) same ∙ rows_without place (busy entries)
    ∙ ap (map row_of) (busy_without place entries ∙ ap busy (sym now))

-- no FRU is left where none was ever plugged
pub none_left : (plugged : Bool) (entries entries_now : List Entry) (place : Place) → (plugged || (length entries == 0)) ≡ true
    → entries_now ≡ without_entry place entries → (plugged || (length entries_now == 0)) ≡ true
none_left true entries entries_now place none now = refl
none_left false [] entries_now place none now = ap (λ (entries : List Entry). length entries == 0) now
none_left false (entry ∷ entries) entries_now place none now = absurd (omega (arith, eqb-true (length (entry ∷ entries)) 0 none))

pub no_entries : (plugged : Bool) (entries : List Entry) → plugged ≡ false → (plugged || (length entries == 0)) ≡ true → entries ≡ []
no_entries true entries never none = absurd (cc)
no_entries false [] never none = refl
no_entries false (entry ∷ entries) never none = absurd (omega (arith, eqb-true (length (entry ∷ entries)) 0 none))
