-- What is known stands for a history, before a step and after it.
use Rattle.std.proofs.Common.{◌≡◌, ℕ, List, [], ◌∷◌, ◌++◌, map, Bool, true, false, not, cond, Option, Some, None, refl, ap, ap₂, sym, subst, ◌∙◌}
use Rattle.std.proofs.Common.{find, length}
use Rattle.std.specs.Prelude.{option_map}
use Rattle.std.specs.List.Sorted.{IsStrictlySortedBy}
use Rattle.std.specs.Ordering.{is_eq}
use Rattle.std.specs.Option.{option_eq}
use Rattle.bmc_base.specs.Places.{Place, place_eq, place_cmp}
use Rattle.probe_lang.specs.Presents.{is_entry_at}
use Rattle.probe_lang.specs.Sights.{Sight, entry_sight}
use Rattle.probe_lang.specs.declared.rows.Entry.{Entry}
use Rattle.cfg_json.specs.Configs.{Config}
use Rattle.match_rows.proofs.MatchingLemmas.{entry_sight_is}
use Rattle.inventory.specs.Boards.{boards_in, has_board}
use Rattle.inventory.specs.Indexes.{kept_of, except, with_boards}
use Rattle.inventory.specs.Items.{entry_fields, items, live}
use Rattle.inventory.specs.Limits.{passed_limit}
use Rattle.inventory.specs.Lists.{keys_of, board_list}
use Rattle.inventory.proofs.BoardLemmas.{all_pass}
use Rattle.inventory.proofs.IndexesLemmas.{with_boards_distinct}
use Rattle.inventory.proofs.ListLemmas.{distinct_filter}
use Rattle.bmc_report.specs.declared.refusal.Refusal.{Refusal}
use Rattle.bmc_machine.specs.Standings.{Fru, Standing, is_at, fields_of}
use Rattle.bmc_machine.specs.Boards.{sights_of, boards, board_keys, fields_at}
use Rattle.bmc_machine.specs.Histories.{Step, Start, Configure, Plug, RefusedPlug, Unplug, Read, Lose, Tick, is_tick, standing}
use Rattle.bmc_machine.specs.Lives.{IsNoOutcome}
use Rattle.bmc_machine.specs.Indexes.{kept, boards_now, items_now, live_now}
use Rattle.bmc_machine.specs.Refusals.{limit_refusal, refusal_by_limit, refusal_after, IsLegalStep, IsLegal}
use Rattle.bmc_machine.specs.Changes.{inventory, changes_between}
use Rattle.bmc_machine.specs.Answers.{past_refused}
use Rattle.bmc_machine.proofs.LivesLemmas.{changes_watched}
use Rattle.bmc_machine.proofs.IndexLemmas.{kept_next, kept_now, kept_idle}
use Rattle.bmc_machine.proofs.MeetingLemmas.{boards_differ}
use Rattle.bmc_machine.proofs.StandingLemmas.{places, frus_ascend}
use Rattle.bmc_watch.specs.Watches.{WatchView, no_view, fru_entry, view_boards, view_items, view_inventory, view_refusal, WatchStands, Moves}
use Rattle.bmc_watch.specs.Steps.{Accepts, Tries}
use Rattle.bmc_watch.proofs.ItemsLemmas.{AreByPlace, busy_items}

pub stands_none : WatchStands no_view []
unfolding standing kept IsLegal
stands_none = record { legal = tt; configs = refl; entries = refl; plugged = refl; kept = λ number. refl }

-- ---- what is seen

entry_sights : (configs : List Config) (frus : List Fru) → map entry_sight (map (fru_entry configs) frus) ≡ sights_of configs frus
entry_sights configs [] = refl
entry_sights configs (fru ∷ frus) =
    ap₂ (λ (first : Sight) (later : List Sight). first ∷ later) (entry_sight_is configs fru.place (fields_of fru)) (entry_sights configs frus)

-- the boards by what is known are those of a scan
pub boards_are : (view : WatchView) (now : Standing) → view.configs ≡ now.configs → view.entries ≡ map (fru_entry now.configs) now.frus
    → (number : ℕ) → view_boards view number ≡ boards now number
unfolding boards
boards_are view now configs entries number =
    ap₂ (λ (configs : List Config) (sights : List Sight). boards_in configs sights number) configs
    (ap (map entry_sight) entries ∙ entry_sights now.configs now.frus)

-- the fields that are known at a place are those of the FRU there
pub fields_are : (configs : List Config) (frus : List Fru) → entry_fields (map (fru_entry configs) frus) ≡ fields_at frus
fields_are configs frus = λ i place. at frus place i
  where
    at : (frus : List Fru) (place : Place) → entry_fields (map (fru_entry configs) frus) place ≡ fields_at frus place
    at [] place = refl
    at (fru ∷ frus) place = by (is_eq (place_cmp place fru.place)) (at frus place)
      where
        by : (here : Bool) → entry_fields (map (fru_entry configs) frus) place ≡ fields_at frus place
            → option_map (λ (entry : Entry). entry.fru) (cond here (Some (fru_entry configs fru)) (find (is_entry_at place) (map (fru_entry configs) frus)))
            ≡ option_map fields_of (cond here (Some fru) (find (is_at place) frus))
        by true rest = refl
        by false rest = rest

entry_places : (configs : List Config) (frus : List Fru) → map (λ (entry : Entry). entry.place) (map (fru_entry configs) frus) ≡ places frus
entry_places configs [] = refl
entry_places configs (fru ∷ frus) = ap (λ (later : List Place). fru.place ∷ later) (entry_places configs frus)

-- what is known of the FRUs comes by place
pub known_by_place : (view : WatchView) (past : List Step) → IsLegal past → view.entries ≡ map (fru_entry (standing past).configs) (standing past).frus
    → AreByPlace view.entries
known_by_place view past legal entries =
    subst (λ (places : List Place). IsStrictlySortedBy place_cmp places)
    (sym (ap (map (λ (entry : Entry). entry.place)) entries ∙ entry_places (standing past).configs (standing past).frus)) (frus_ascend past legal)

module _ (view : WatchView) (past : List Step) (legal : IsLegal past) (configs : view.configs ≡ (standing past).configs)
    (entries : view.entries ≡ map (fru_entry (standing past).configs) (standing past).frus)
    (same : (number : ℕ) → view_boards view number ≡ boards (standing past) number)
    (held : (number : ℕ) → kept_of view.kept number ≡ kept past number) where
  -- what the boards expose is what those of a scan do
  items_are : view_items view ≡ items_now past
  unfolding items_now boards_now board_keys
  items_are =
      busy_items view.configs (kept_of view.kept) (length view.configs) view.entries (known_by_place view past legal entries)
      ∙ (λ i. items (configs i) (fields i) (board_list (λ number. held number i) (keys_of (length (configs i)) (λ number. same number i))))
    where
      fields : entry_fields view.entries ≡ fields_at (standing past).frus
      fields = ap entry_fields entries ∙ fields_are (standing past).configs (standing past).frus

  inventory_is : view_inventory view ≡ inventory past
  unfolding live_now
  inventory_is = λ i. record {
    configs = configs i;
    boards = λ number. same number i;
    kept = λ number. held number i;
    live = live (items_are i);
  }

-- the live items are those of the machine
pub live_is : (view : WatchView) (past : List Step) → WatchStands view past → live (view_items view) ≡ live_now past
unfolding live_now
live_is view past stood =
    ap live (items_are view past stood.legal stood.configs stood.entries (boards_are view (standing past) stood.configs stood.entries) stood.kept)

-- the limit that the boards would pass is that of a scan
pub limit_is : (view : WatchView) (now : Standing) → view.configs ≡ now.configs → view.entries ≡ map (fru_entry now.configs) now.frus
    → refusal_by_limit now ≡ view_refusal view
unfolding board_keys
limit_is view now configs entries = sym (λ i. option_map limit_refusal (passed_limit (configs i) (keys_of (length (configs i)) (λ number. same number i))))
  where
    same : (number : ℕ) → view_boards view number ≡ boards now number
    same = boards_are view now configs entries

-- ---- what is kept

-- what fails a test is left out already
except_twice : (test other : Option Place → Bool) (places : List (Option Place)) → ((place : Option Place) → other place ≡ true → test place ≡ true)
    → except test (except other places) ≡ except test places
except_twice test other [] passes = refl
except_twice test other (place ∷ places) passes = by (other place) (passes place) (except_twice test other places passes)
  where
    by : (is_other : Bool) → (is_other ≡ true → test place ≡ true) → except test (except other places) ≡ except test places
        → except test (cond (not is_other) (place ∷ except other places) (except other places)) ≡ except test (place ∷ places)
    by true passes rest = rest ∙ sym (ap (λ (left : Bool). cond (not left) (place ∷ except test places) (except test places)) (passes refl))
    by false passes rest = ap (λ (later : List (Option Place)). cond (not (test place)) (place ∷ later) later) rest

-- the boards that are new are kept behind the others
kept_after : (old new : WatchView) (past : List Step) (step : Step) → IsLegal (step ∷ past)
    → ((number : ℕ) → view_boards old number ≡ boards (standing past) number) → ((number : ℕ) → kept_of old.kept number ≡ kept past number)
    → ((number : ℕ) → view_boards new number ≡ boards (standing (step ∷ past)) number) → Moves old new
    → (number : ℕ) → kept_of new.kept number ≡ kept (step ∷ past) number
kept_after old new past step legal before held after moves number =
    moves.kept number
    ∙ ap₂ (λ (there here : List (Option Place)). with_boards there (except (has_board (view_boards old number)) here)) (held number) (after number)
    ∙ ap (λ (here : List (Option Place)). with_boards (kept past number) (except (has_board here) now)) (before number)
    ∙ with_boards_distinct (kept past number) (except (has_board (boards (standing past) number)) now)
    (distinct_filter (option_eq place_eq) _ now (boards_differ (step ∷ past) number legal))
    ∙ ap (λ (new : List (Option Place)). kept past number ++ new)
    (except_twice (has_board (kept past number)) (has_board (boards (standing past) number)) now
    (λ place has. all_pass (has_board (kept past number)) (boards (standing past) number) (kept_now past number) place has))
    ∙ sym (kept_next step past number)
  where
    now : List (Option Place)
    now = boards (standing (step ∷ past)) number

-- ---- steps

-- an accepted step joins the history, and the changes are its own
pub accepted : (old new : WatchView) (past : List Step) (step : Step) → WatchStands old past → refusal_after past step ≡ None → IsLegalStep past step
    → IsNoOutcome step → is_tick step ≡ false → new.configs ≡ (standing (step ∷ past)).configs
    → new.entries ≡ map (fru_entry (standing (step ∷ past)).configs) (standing (step ∷ past)).frus
    → new.plugged ≡ (standing (step ∷ past)).plugged → Moves old new → Accepts past step new
unfolding IsLegal
accepted old new past step stood reason legal watched still configs entries plugged moves =
    let before = boards_are old (standing past) stood.configs stood.entries in
    let after = boards_are new (standing (step ∷ past)) configs entries in
    let held = kept_after old new past step (stood.legal, legal) before stood.kept after moves in
    record {
      reason = reason;
      stands = record { legal = (stood.legal, legal); configs = configs; entries = entries; plugged = plugged; kept = held };
      told =
          moves.changes
          ∙ ap₂ changes_between (inventory_is old past stood.legal stood.configs stood.entries before stood.kept)
          (inventory_is new (step ∷ past) (stood.legal, legal) configs entries after held)
          ∙ sym (changes_watched past step watched still);
    }

-- a state that stands does so also without its last changes
without_changes : (view : WatchView) (past : List Step) → WatchStands view past → WatchStands (record view { changes = [] }) past
without_changes view past stood =
    record { legal = stood.legal; configs = stood.configs; entries = stood.entries; plugged = stood.plugged; kept = stood.kept }

standing_refused : (place : Place) (bytes : List ℕ) (refusal : Refusal) (past : List Step) → standing (RefusedPlug place bytes refusal ∷ past) ≡ standing past
unfolding standing
standing_refused place bytes refusal past = refl

-- a refused plug joins the history, and leaves what stands
refused_plug : (view : WatchView) (past : List Step) (place : Place) (bytes : List ℕ) (refusal : Refusal) → WatchStands view past
    → refusal_after past (Plug place bytes) ≡ Some refusal → WatchStands view (RefusedPlug place bytes refusal ∷ past)
unfolding IsLegal
refused_plug view past place bytes refusal stood reason =
    let same : standing (RefusedPlug place bytes refusal ∷ past) ≡ standing past = standing_refused place bytes refusal past in
    record {
      legal = (stood.legal, reason);
      configs = stood.configs ∙ sym (ap (λ (now : Standing). now.configs) same);
      entries = stood.entries ∙ sym (ap (λ (now : Standing). map (fru_entry now.configs) now.frus) same);
      plugged = stood.plugged ∙ sym (ap (λ (now : Standing). now.plugged) same);
      kept = λ number. stood.kept number ∙ sym (kept_idle (RefusedPlug place bytes refusal) past number same);
    }

-- a step is refused that whatever history is known refuses
pub refused : (old new : WatchView) (step : Step) (refusal : Refusal)
    → ((past : List Step) → WatchStands old past → refusal_after past step ≡ Some refusal) → new ≡ record old { changes = [] }
    → Tries old step (Some refusal) new
refused old new step refusal reasons left = record {
  tried = λ past stood. record {
    reason = reasons past stood;
    stands = subst (λ (view : WatchView). WatchStands view (past_refused past step refusal)) (sym left) (of step past (reasons past stood)
        (without_changes old past stood));
  };
  left = left;
}
  where
    of : (step : Step) (past : List Step) → refusal_after past step ≡ Some refusal → WatchStands (record old { changes = [] }) past
        → WatchStands (record old { changes = [] }) (past_refused past step refusal)
    of (Start options) past reason stood = stood
    of (Configure config) past reason stood = stood
    of (Plug place bytes) past reason stood = refused_plug _ past place bytes refusal stood reason
    of (RefusedPlug place bytes other) past reason stood = stood
    of (Unplug place) past reason stood = stood
    of (Read name raw) past reason stood = stood
    of (Lose name) past reason stood = stood
    of Tick past reason stood = stood
