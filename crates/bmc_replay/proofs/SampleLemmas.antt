-- A sample, counted and told.
use Rattle.std.proofs.Common.{◌≡◌, ◌∙◌, ℕ, List, [], ◌∷◌, length, Bool, true, false, cond, ◌+◌, ◌++◌, Option, Some, None, Ok, Err, refl, ap, ap₂, sym}
use Rattle.std.proofs.Common.{subst, append-nil, arith}
use Rattle.std.specs.Prelude.{Result, nat_le, ◌-◌}
use Rattle.bmc_base.specs.Counts.{last_count}
use Rattle.bmc_base.specs.Calls.{Fails}
use Rattle.bmc_base.specs.declared.out_of_memory.OutOfMemory.{OutOfMemory as NoMemory}
use Rattle.bmc_io.specs.CountSink.{told_by}
use Rattle.bmc_io.specs.Sinks.{AppendsFront, Output}
use Rattle.bmc_io.specs.Told.{Told, added}
use Rattle.bmc_io.specs.Told.Told.{Count, Nothing}
use Rattle.bmc_text.specs.Items.{Item, items_of}
use Rattle.pat_gate.specs.Makers.{Maker}
use Rattle.cfg_json.specs.Verdicts.{Verdict}
use Rattle.bmc_machine.specs.Histories.{Options}
use Rattle.bmc_machine.specs.Ties.{AreTied}
use Rattle.bmc_machine.specs.Answers.{out_after}
use Rattle.bmc_run.specs.Outside.{Outside}
use Rattle.bmc_run.specs.Statuses.{Replays, WhereTold, Writes}
use Rattle.bmc_run.specs.declared.stop.Stop.{Stop}
use Rattle.bmc_run.specs.declared.stop.Stop.TheVariants as stops
use Rattle.bmc_replay.specs.Commands.{CountsSample, RunsSample, alone, counted_of, sample_of, summary, summary_of}
use Rattle.bmc_replay.specs.declared.sample.Counted.{Counted}

pub no_ties : (items : List Item) → AreTied items []
no_ties [] = tt
no_ties (item ∷ items) = tt

-- nothing is counted
pub counts_nothing : (options : Options) (seed : ℕ) (fault : NoMemory) (maker : Maker) → CountsSample options seed (Err fault) maker maker
counts_nothing options seed fault maker = record {
  verdicts = [];
  tied = no_ties (items_of (sample_of seed));
  large = sym (append-nil maker.refused);
  counted = tt;
}

counted_is : (m n : ℕ) (few : Bool) → Count n ≡ cond few (Count (0 + m)) Nothing → n ≡ m
counted_is m n true told = let same : n ≡ 0 + m = cc in omega (arith, same)
counted_is m n false told = absurd (cc)

module _ (options : Options) (seed : ℕ) (script : List ℕ) (same : script ≡ sample_of seed) (before now : Outside) (maker maker_now : Maker)
    (left : before.input.left ≡ Some script) where
  ties : (verdicts : List Verdict) → WhereTold before.input.left (λ script. AreTied (items_of script) verdicts) → AreTied (items_of (sample_of seed)) verdicts
  ties verdicts tied =
      subst (λ (script : List ℕ). AreTied (items_of script) verdicts) same
      (subst (λ (left : Option (List ℕ)). WhereTold left (λ script. AreTied (items_of script) verdicts)) left tied)

  -- the run of the sample is not counted for want of memory
  counts_not : (result : Result ℕ Stop) (fault : NoMemory) → Replays (alone options) result before now maker maker_now
      → CountsSample options seed (Err fault) maker maker_now
  counts_not result fault replays = record {
    verdicts = replays.verdicts;
    tied = ties replays.verdicts replays.tied;
    large = replays.large;
    counted = tt;
  }

  tells_length : (text : List ℕ) (n : ℕ) → Count n ≡ added (Count 0) text → n ≡ length text
  tells_length text n told = counted_is (length text) n (nat_le (length text) (last_count - 0)) told

  -- it is counted
  counts_all : (refused bytes : ℕ) → before.output.taken ≡ Count 0 → told_by (Some bytes) ≡ now.output.taken
      → Replays (alone options) (Ok refused) before now maker maker_now
      → CountsSample options seed (Ok (record { refused = refused; bytes = bytes })) maker maker_now
  counts_all refused bytes none told replays = record {
    verdicts = replays.verdicts;
    tied = ties replays.verdicts replays.tied;
    large = replays.large;
    counted = (
      all.each,
      all.refusals,
      tells_length (out_after (alone options) replays.verdicts (sample_of seed)) bytes
          (told ∙ all.text ∙ ap (λ (old : Told). added old (out_after (alone options) replays.verdicts (sample_of seed))) none),
    );
  }
    where
      all : Writes (alone options) (Ok refused) (sample_of seed) replays.verdicts before.output.taken now.output.taken
      all =
          subst (λ (script : List ℕ). Writes (alone options) (Ok refused) script replays.verdicts before.output.taken now.output.taken) same
          (subst (λ (left : Option (List ℕ)).
          WhereTold left (λ script. Writes (alone options) (Ok refused) script replays.verdicts before.output.taken now.output.taken)) left replays.text)

  -- the run ended, and the sink told so much
  pub counts_by : (ended : Result ℕ Stop) (bytes : Option ℕ) → before.output.taken ≡ Count 0 → told_by bytes ≡ now.output.taken
      → Replays (alone options) ended before now maker maker_now → CountsSample options seed (counted_of ended bytes) maker maker_now
  counts_by (Ok refused) (Some bytes) none told replays = counts_all refused bytes none told replays
  counts_by (Ok refused) None none told replays = counts_not (Ok refused) (record {}) replays
  counts_by (Err stop) bytes none told replays = counts_not (Err stop) (record {}) replays

-- ---- the summary

-- what was not counted is not told
pub tells_nothing : (options : Options) (seed : ℕ) (result : Result Counted NoMemory) (out : Output) (maker maker_now : Maker)
    → CountsSample options seed result maker maker_now → RunsSample options seed (Err stops.OutOfMemory) out out maker maker_now
tells_nothing options seed result out maker maker_now counts =
    record { verdicts = counts.verdicts; tied = counts.tied; large = counts.large; ends = refl }

module _ (options : Options) (seed : ℕ) (counted : Counted) (maker maker_now : Maker) (counts : CountsSample options seed (Ok counted) maker maker_now) where
  summary_is : summary seed counted.refused counted.bytes ≡ summary_of options seed counts.verdicts
  summary_is = ap₂ (summary seed) counts.counted.1 counts.counted.2

  said : (text front : List ℕ) → front ≡ [] → text ≡ front ++ summary seed counted.refused counted.bytes → text ≡ summary_of options seed counts.verdicts
  said text front none is = is ∙ ap (λ (front : List ℕ). front ++ summary seed counted.refused counted.bytes) none ∙ summary_is

  -- it is told
  pub tells_all : (old new : Output) (text front : List ℕ) → front ≡ [] → text ≡ front ++ summary seed counted.refused counted.bytes
      → new.taken ≡ added old.taken text
      → new.calls.faults ≡ old.calls.faults → RunsSample options seed (Ok counted.refused) old new maker maker_now
  tells_all old new text front none is told well = record {
    verdicts = counts.verdicts;
    tied = counts.tied;
    large = counts.large;
    ends = (counts.counted.0, counts.counted.1, told ∙ ap (added old.taken) (said text front none is), well);
  }

  -- a write of it stops
  pub tells_front : (old new : Output) (text front : List ℕ) → front ≡ [] → text ≡ front ++ summary seed counted.refused counted.bytes
      → AppendsFront old.taken new.taken text → Fails old.calls new.calls → RunsSample options seed (Err stops.WriteFault) old new maker maker_now
  tells_front old new text front none is writes fails = record {
    verdicts = counts.verdicts;
    tied = counts.tied;
    large = counts.large;
    ends = (counts.counted.0, subst (AppendsFront old.taken new.taken) (said text front none is) writes, fails);
  }
