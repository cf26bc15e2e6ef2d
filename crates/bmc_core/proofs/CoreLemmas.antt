-- What each act leaves of a core: what it leaves of its state, and of its log.
use Rattle.std.proofs.Common.{◌≡◌, ◌∙◌, ◌≤◌, ◌+◌, ℕ, List, [], ◌∷◌, ◌++◌, Option, Some, None, Ok, Err, arith, length, refl, ap, sym, subst}
use Rattle.std.specs.Prelude.{⊤, Result}
use Rattle.std.specs.List.{fold}
use Rattle.bmc_base.specs.Places.{Place}
use Rattle.bmc_report.specs.declared.change.Change.{Change}
use Rattle.bmc_report.specs.declared.refusal.Refusal.{Refusal}
use Rattle.bmc_base.specs.Counts.{raised}
use Rattle.event_log.specs.Stands.{LogView, Stands as LogIsOf, nth_id}
use Rattle.event_log.specs.Updates.{next_entry}
use Rattle.event_log.specs.declared.entry.LogEntry.{LogEntry}
use Rattle.event_log.proofs.KeptLemmas.{stands_more}
use Rattle.event_log.specs.declared.entry.Class.{Class}
use Rattle.bmc_machine.specs.Answers.{past_refused}
use Rattle.bmc_machine.specs.Changes.{changes}
use Rattle.bmc_machine.specs.Histories.{Step, Start, Configure, Plug, RefusedPlug, Unplug, Read, Lose, Tick, cap_after, log_cap, tick_of}
use Rattle.bmc_machine.specs.Logs.{class_of, entries, news, with_change, with_entry}
use Rattle.bmc_core.specs.declared.act.Act.{Act}
use Rattle.bmc_core.specs.declared.act.Act.TheVariants as acts
use Rattle.bmc_core.specs.declared.fault.CoreFault.{CoreFault}
use Rattle.bmc_core.specs.declared.fault.CoreFault.TheVariants.{Refused, OutOfMemory}
use Rattle.bmc_core.specs.Acts.{Applies, StateApplies, step_of}
use Rattle.bmc_core.specs.Cores.{CoreView, LogStands, Stands, ticked_core}
use Rattle.bmc_core.specs.Logging.{Logs, heard, log_refused, noted, noted_as, noted_change, plug_place, refused_plug}
use Rattle.bmc_core.specs.States.{StateView, ticked_state}
use Rattle.bmc_core.proofs.TickedLemmas.{tick_applies}

-- a step that may be done: all that it changed is news for the log, and the log keeps as many errors as before
pub record IsDone (step : Step) : Type 0 where
  pub tells : (told : List Change) → news step told ≡ told
  pub keeps : (cap : ℕ) → cap_after step cap ≡ cap

-- each act is one
pub is_done : {L : Type 0} (act : Act L) → IsDone (step_of act)
is_done (acts.Config config) = record { tells = λ told. refl; keeps = λ cap. refl }
is_done (acts.Plug place bytes) = record { tells = λ told. refl; keeps = λ cap. refl }
is_done (acts.Unplug place) = record { tells = λ told. refl; keeps = λ cap. refl }
is_done (acts.Good name raw) = record { tells = λ told. refl; keeps = λ cap. refl }
is_done (acts.Lost name) = record { tells = λ told. refl; keeps = λ cap. refl }
is_done acts.Tick = record { tells = λ told. refl; keeps = λ cap. refl }

pub tick_done : IsDone Tick
tick_done = record { tells = λ told. refl; keeps = λ cap. refl }

-- ---- the log

-- a log that notes changes keeps as many errors as before
noted_cap : (tick : ℕ) (told : List Change) (log : LogView) → (noted tick told log).error_cap ≡ log.error_cap
noted_cap tick [] log = refl
noted_cap tick (change ∷ told) log = noted_cap tick told (noted_change tick log change) ∙ one (class_of change)
  where
    one : (class : Option Class) → (noted_as tick log change class).error_cap ≡ log.error_cap
    one None = refl
    one (Some class) = refl

still_some : (old new : LogView) (tick : ℕ) (told : List Change) → Logs old tick told new → 1 ≤ old.error_cap → 1 ≤ new.error_cap
still_some old new tick told logs some =
    subst (λ (most : ℕ). 1 ≤ most) (sym (ap (λ (log : LogView). log.error_cap) logs.exact ∙ noted_cap tick told old)) some

-- a log that keeps at least one error notes any changes
logs_noted : (tick : ℕ) (told : List Change) (log : LogView) → 1 ≤ log.error_cap → Logs log tick told (noted tick told log)
logs_noted tick [] log some = record { exact = refl; stands = λ all stands. stands }
logs_noted tick (change ∷ told) log some =
    let later = logs_noted tick told (noted_change tick log change) (subst (λ (most : ℕ). 1 ≤ most) (sym (noted_cap tick (change ∷ []) log)) some) in
    record { exact = refl; stands = λ all stands. later.stands (with_change tick all change) (one (class_of change) all stands) }
  where
    one : (class : Option Class) (all : List LogEntry) → LogIsOf log all → LogIsOf (noted_as tick log change class) (with_entry tick all change class)
    one None all stands = stands
    one (Some class) all stands =
        subst (λ (entry : LogEntry). LogIsOf (noted_as tick log change (Some class)) (all ++ entry ∷ []))
        (λ i. record { id = next stands i; class = class; tick = tick; change = change })
        (stands_more log all (next_entry log class tick change) some refl stands)
      where
        next : LogIsOf log all → raised log.last_id 1 ≡ nth_id (length all + 1)
        next stands = let counted = stands.counted in grind (arith, counted)

-- a log notes what a done step changed
log_done : (old new : LogView) (past : List Step) (step : Step) (tick : ℕ) (told : List Change) → IsDone step → tick ≡ tick_of (step ∷ past)
    → told ≡ changes past step → Logs old tick told new → LogStands old past → LogStands new (step ∷ past)
unfolding entries
log_done old new past step tick told done clock same logs stood = record {
  entries = subst (LogIsOf new) (λ i. fold (with_change (clock i)) (entries past) ((same ∙ sym (done.tells (changes past step))) i))
      (logs.stands (entries past) stood.entries);
  cap = ap (λ (log : LogView). log.error_cap) logs.exact ∙ noted_cap tick told old ∙ stood.cap ∙ sym (done.keeps (log_cap past));
  some = still_some old new tick told logs stood.some;
}

-- a log that notes nothing stands as it did
log_same : (old new : LogView) (past : List Step) (tick : ℕ) → Logs old tick [] new → LogStands old past → LogStands new past
log_same old new past tick logs stood = record {
  entries = logs.stands (entries past) stood.entries;
  cap = ap (λ (log : LogView). log.error_cap) logs.exact ∙ stood.cap;
  some = still_some old new tick [] logs stood.some;
}

-- a log notes a plug that was refused
log_plug : (old new : LogView) (past : List Step) (step : Step) (tick : ℕ) (told : List Change) → tick ≡ tick_of (step ∷ past)
    → news step (changes past step) ≡ told → log_cap (step ∷ past) ≡ log_cap past → Logs old tick told new → LogStands old past
    → LogStands new (step ∷ past)
unfolding entries
log_plug old new past step tick told clock same keeps logs stood = record {
  entries = subst (LogIsOf new) (λ i. fold (with_change (clock i)) (entries past) (sym same i)) (logs.stands (entries past) stood.entries);
  cap = ap (λ (log : LogView). log.error_cap) logs.exact ∙ noted_cap tick told old ∙ stood.cap ∙ sym keeps;
  some = still_some old new tick told logs stood.some;
}

log_refuses : (old new : LogView) (past : List Step) (step : Step) (refusal : Refusal) (tick : ℕ) → tick ≡ tick_of past
    → Logs old tick (refused_plug (plug_place step) refusal) new → LogStands old past → LogStands new (past_refused past step refusal)
log_refuses old new past (Plug place bytes) refusal tick clock logs stood =
    log_plug old new past (RefusedPlug place bytes refusal) tick _ clock refl refl logs stood
log_refuses old new past (Start options) refusal tick clock logs stood = log_same old new past tick logs stood
log_refuses old new past (Configure config) refusal tick clock logs stood = log_same old new past tick logs stood
log_refuses old new past (RefusedPlug place bytes reason) refusal tick clock logs stood = log_same old new past tick logs stood
log_refuses old new past (Unplug place) refusal tick clock logs stood = log_same old new past tick logs stood
log_refuses old new past (Read name raw) refusal tick clock logs stood = log_same old new past tick logs stood
log_refuses old new past (Lose name) refusal tick clock logs stood = log_same old new past tick logs stood
log_refuses old new past Tick refusal tick clock logs stood = log_same old new past tick logs stood

-- ---- the core

-- an act that is done to the state, or not, is done to the core, or not, where the log notes what it hears of it
pub core_applies : (old new : CoreView) (step : Step) (result : Result ⊤ CoreFault) → IsDone step → StateApplies old.state step result new.state
    → Logs old.log new.state.senses.ticks (heard result (plug_place step) new.state.senses.watch.changes) new.log → Applies old step result new
core_applies old new step (Ok done) may applies logs = record {
  stands = λ past stood.
      let now = applies.stands past stood.state in (
        now.0,
        record {
          state = now.1;
          log = log_done old.log new.log past step new.state.senses.ticks new.state.senses.watch.changes may now.1.senses.ticks now.2 logs stood.log;
        },
        now.2,
      );
  left = tt;
}
core_applies old new step (Err (Refused refusal)) may applies logs = record {
  stands = λ past stood.
      let now = applies.stands past stood.state in (
        now.0,
        record {
          state = now.1;
          log = log_refuses old.log new.log past step refusal new.state.senses.ticks (still ∙ stood.state.senses.ticks) logs stood.log;
        },
      );
  left = (applies.left, logs.exact ∙ ap (λ (tick : ℕ). log_refused step refusal tick old.log) still);
}
  where
    still : new.state.senses.ticks ≡ old.state.senses.ticks
    still = ap (λ (state : StateView). state.senses.ticks) applies.left
core_applies old new step (Err OutOfMemory) may applies logs = record {
  stands = λ past stood. record {
    state = applies.stands past stood.state;
    log = log_same old.log new.log past new.state.senses.ticks logs stood.log;
  };
  left = (applies.left.0, applies.left.1, logs.exact);
}

-- the same, where the log heard it at the tick count of then, of the changes of then, and by the place of the plug
pub core_tried : (old new : CoreView) (step : Step) (result : Result ⊤ CoreFault) (plugged : Option Place) (tick : ℕ) (told : List Change) → IsDone step
    → StateApplies old.state step result new.state → plugged ≡ plug_place step → tick ≡ new.state.senses.ticks → told ≡ new.state.senses.watch.changes
    → Logs old.log tick (heard result plugged told) new.log → Applies old step result new
core_tried old new step result plugged tick told may applies place clock same logs =
    core_applies old new step result may applies
    (subst (λ (told : List Change). Logs old.log new.state.senses.ticks told new.log) (λ i. heard result (place i) (same i))
    (subst (λ (tick : ℕ). Logs old.log tick (heard result plugged told) new.log) clock logs))

-- a core after a tick
pub core_ticked : (old : CoreView) (state : StateView) (tick : ℕ) (told : List Change) (log : LogView) → state ≡ ticked_state old.state
    → tick ≡ state.senses.ticks → told ≡ state.senses.watch.changes → log ≡ noted tick told old.log
    → record { state = state; log = log } ≡ ticked_core old
core_ticked old state tick told log is clock same logged = λ i. record { state = is i; log = (logged ∙ then) i }
  where
    then : noted tick told old.log ≡ (ticked_core old).log
    then = λ i.
        noted ((clock ∙ ap (λ (state : StateView). state.senses.ticks) is) i) ((same ∙ ap (λ (state : StateView). state.senses.watch.changes) is) i) old.log

-- and it stands for the history with the tick, where the core stood for the history
pub core_ticks : (core : CoreView) (past : List Step) → Stands core past
    → Stands (ticked_core core) (Tick ∷ past) × ((ticked_core core).state.senses.watch.changes ≡ changes past Tick)
core_ticks core past stood =
    let then = ticked_state core.state in
    let logs = logs_noted then.senses.ticks then.senses.watch.changes core.log stood.log.some in
    let applies = core_applies core (ticked_core core) Tick (Ok tt) tick_done (tick_applies core.state) logs in
    let stands = applies.stands past stood in (stands.1, stands.2)
