-- What a step leaves that is tried.
use Rattle.std.specs.Prelude.{◌≡◌, ⊤, true, List, [], ◌∷◌, Option, Some, None}
use Rattle.bmc_base.specs.Places.{Place}
use Rattle.fru_area.specs.declared.field.Field.{Field}
use Rattle.probe_lang.specs.Presents.{with_entry, without_entry}
use Rattle.match_rows.specs.Matching.{entry_of}
use Rattle.bmc_report.specs.declared.refusal.Refusal.{Refusal}
use Rattle.bmc_machine.specs.Histories.{Step}
use Rattle.bmc_machine.specs.Refusals.{refusal_after}
use Rattle.bmc_machine.specs.Changes.{changes}
use Rattle.bmc_machine.specs.Answers.{past_refused}
use Rattle.bmc_watch.specs.Watches.{WatchView, view_refusal, WatchStands, Moves}

-- a FRU with these fields was added at a place
pub record AddsFru (place : Place) (fields : List Field) (old new : WatchView) : Type 0 where
  pub configs : new.configs ≡ old.configs
  pub entries : new.entries ≡ with_entry (entry_of old.configs place fields) old.entries
  pub plugged : new.plugged ≡ true
  pub fits : view_refusal new ≡ None
  pub moves : Moves old new

-- what would be known with a FRU with these fields at a place
abbrev pub with_fru : WatchView → Place → List Field → WatchView
with_fru view place fields = record view { entries = with_entry (entry_of view.configs place fields) view.entries; plugged = true }

-- a FRU was added, or its boards would pass a limit
abbrev pub AddsUnless : Option Refusal → Place → List Field → WatchView → WatchView → Type 0
AddsUnless None place fields old new = AddsFru place fields old new
AddsUnless (Some refusal) place fields old new = (view_refusal (with_fru old place fields) ≡ Some refusal) × (new ≡ record old { changes = [] })

-- the FRU at a place was taken away
pub record RemovesFru (place : Place) (old new : WatchView) : Type 0 where
  pub configs : new.configs ≡ old.configs
  pub entries : new.entries ≡ without_entry place old.entries
  pub plugged : new.plugged ≡ old.plugged
  pub moves : Moves old new

-- after a history a step was accepted, and these are its changes
pub record Accepts (past : List Step) (step : Step) (new : WatchView) : Type 0 where
  pub reason : refusal_after past step ≡ None
  pub stands : WatchStands new (step ∷ past)
  pub told : new.changes ≡ changes past step

-- or it was refused for this reason
pub record Refuses (refusal : Refusal) (past : List Step) (step : Step) (new : WatchView) : Type 0 where
  pub reason : refusal_after past step ≡ Some refusal
  pub stands : WatchStands new (past_refused past step refusal)

abbrev pub IsTried : Option Refusal → List Step → Step → WatchView → Type 0
IsTried None past step new = Accepts past step new
IsTried (Some refusal) past step new = Refuses refusal past step new

-- a refusal leaves all but the last changes, which are forgotten
abbrev pub IsLeft : Option Refusal → WatchView → WatchView → Type 0
IsLeft None old new = ⊤
IsLeft (Some refusal) old new = new ≡ record old { changes = [] }

-- A step is tried: whatever history is known, it is refused after it for this reason, or accepted.
pub record Tries (old : WatchView) (step : Step) (refusal : Option Refusal) (new : WatchView) : Type 0 where
  pub tried : (past : List Step) → WatchStands old past → IsTried refusal past step new
  pub left : IsLeft refusal old new
