-- What a run does with an item is what the machine answers.
use Rattle.std.proofs.Common.{◌≡◌, ℕ, List, [], ◌∷◌, ◌++◌, Option, Some, None, Ok, Err, refl, ap, ap₂, sym, subst, ◌∙◌, string_bytes}
use Rattle.std.proofs.Common.{true, append-nil, append_assoc, arith, subst₂, zero, suc}
use Rattle.std.specs.Prelude.{⊤, ◌+◌, ◌≢◌, Result}
use Rattle.std.specs.List.{flat_map}
use Rattle.bmc_base.specs.Counts.{raised}
use Rattle.bmc_text.specs.Items.{Item, Line, Block}
use Rattle.pat_gate.specs.Makers.{Maker}
use Rattle.cfg_json.specs.Configs.{Config}
use Rattle.cfg_json.specs.Documents.{config_read}
use Rattle.cfg_json.specs.Readings.{GivesConfig}
use Rattle.cfg_json.specs.Verdicts.{Verdict, Accepted, large_in, verdict_of}
use Rattle.cfg_json.specs.declared.config_fault.ConfigFault.{ConfigFault}
use Rattle.cfg_json.specs.declared.config_fault.ConfigFault.TheVariants as faults
use Rattle.cfg_json.proofs.VerdictsLemmas.{gives_ties}
use Rattle.bmc_script.specs.Commands.{command_of, is_blank, GivesCommand}
use Rattle.bmc_script.proofs.CommandsLemmas.{blank_line}
use Rattle.bmc_script.specs.declared.command.Command.{Command}
use Rattle.bmc_script.specs.declared.command.Command.TheVariants as commands
use Rattle.bmc_script.specs.declared.command.ScriptFault.{ScriptFault}
use Rattle.bmc_script.specs.declared.command.ScriptFault.TheVariants as lines
use Rattle.bmc_report.specs.Refusals.{refused_line}
use Rattle.bmc_report.specs.Changes.{change_line}
use Rattle.bmc_report.specs.declared.change.Change.{Change}
use Rattle.bmc_report.specs.declared.refusal.Origin.{Origin}
use Rattle.bmc_report.specs.declared.refusal.Origin.TheVariants.{Line as OfScript}
use Rattle.bmc_report.specs.declared.refusal.Refusal.{Refusal}
use Rattle.bmc_machine.specs.Histories.{Step, Configure, Tick, tick_of}
use Rattle.bmc_machine.specs.Refusals.{command_refusal, config_refusal}
use Rattle.bmc_machine.specs.Answers.{Answer, silent, showing, refusing, answer_by, answer_step, answer_ticks, answer_command}
use Rattle.bmc_machine.specs.Answers.{answer_broken, answer_config, answer}
use Rattle.bmc_machine.specs.Ties.{IsTied}
use Rattle.bmc_core.specs.Cores.{CoreView, Stands, ticked_core}
use Rattle.bmc_core.specs.Acts.{StandsAfter, Applies}
use Rattle.bmc_core.specs.declared.fault.CoreFault.{CoreFault}
use Rattle.bmc_core.specs.declared.fault.CoreFault.TheVariants as faults_of
use Rattle.bmc_core.proofs.ListsLemmas.{lists_are}
use Rattle.bmc_core.proofs.CoreLemmas.{core_ticks}
use Rattle.bmc_report.specs.declared.topic.Topic.{Topic}
use Rattle.bmc_run.specs.declared.run.Run.{Run}
use Rattle.bmc_run.specs.declared.run.Effect.{Effect}
use Rattle.bmc_run.specs.declared.run.Effect.TheVariants.{Nothing, Changed, Shown, Ticks, Refused}
use Rattle.bmc_run.specs.declared.run.Pending.{Pending}
use Rattle.bmc_run.specs.Ticks.{after_ticks, change_text, tick_text}
use Rattle.bmc_run.specs.Runs.{effect_text, effect_of, IsAnswer, Answers, IsVerdict, AnswersItem, AnswersNext, LeavesItem, LeavesNext}
use Rattle.bmc_run.specs.Runs.{line_text, leaves, asked, settled, gathered}
use Rattle.bmc_run.specs.Runs.{CountsItem, TakesItem, TakesNext, refusals, refused_with}

-- the lines of the last changes, by the history for which the core stands
change_text_is : (core : CoreView) (past : List Step) (changes : List Change) → Stands core past → core.state.senses.watch.changes ≡ changes
    → change_text core ≡ flat_map (change_line (tick_of past)) changes
change_text_is core past changes stands told =
    ap₂ (λ (tick : ℕ) (changes : List Change). flat_map (change_line tick) changes) stands.state.senses.ticks told

-- nothing comes of it
pub silent_answers : (view : CoreView) → Answers (λ line past. silent past) Nothing view view
silent_answers view line past stood = record { stands = stood; text = refl; refused = refl }

-- it is refused for this reason, and leaves what is known
pub refused_answers : (view : CoreView) (refusal : Refusal) → Answers (λ line past. refusing line past refusal) (Refused refusal) view view
refused_answers view refusal line past stood = record { stands = stood; text = refl; refused = refl }

-- a list is shown, and leaves what is known
pub shown_answers : (core : CoreView) (topic : Topic) → Answers (λ line past. showing past topic) (Shown topic) core core
shown_answers core topic line past stood = record { stands = stood; text = lists_are topic core past stood; refused = refl }

-- ticks that pass in a core that stands for a history are answered so
ticks_are : (count : ℕ) (core : CoreView) (past : List Step) → Stands core past
    → Stands (after_ticks count core) (answer_ticks count past).past × (tick_text count core ≡ (answer_ticks count past).text)
    × (0 ≡ (answer_ticks count past).refused)
unfolding answer_ticks after_ticks tick_text
ticks_are zero core past stood = (stood, refl, refl)
ticks_are (suc n) core past stood =
    let next = core_ticks core past stood in
    let later = ticks_are n (ticked_core core) (Tick ∷ past) next.0 in
    let refused = later.2 in (
      later.0,
      ap₂ (λ (first rest : List ℕ). first ++ rest) (change_text_is (ticked_core core) (Tick ∷ past) _ next.0 next.1) later.1,
      omega (arith, refused),
    )

-- ticks are to pass
pub ticks_answer : (core : CoreView) (count : ℕ) → Answers (λ line past. answer_ticks count past) (Ticks count) core core
ticks_answer core count line past stood =
    let are = ticks_are count core past stood in record { stands = are.0; text = are.1; refused = are.2 }

-- an act is answered as its step is
pub act_answers : (old : CoreView) (step : Step) (done : Result ⊤ CoreFault) (effect : Effect) (new : CoreView) → Applies old step done new
    → effect_of done ≡ Some effect → Answers (λ line past. answer_step line past step) effect old new
act_answers old step done effect new applies is line past stood = of done (applies.stands past stood) is
  where
    some_same : (one other : Effect) → Option.Some one ≡ Some other → one ≡ other
    some_same one other same = cc

    of : (done : Result ⊤ CoreFault) → StandsAfter done new past step → effect_of done ≡ Some effect
        → IsAnswer (answer_step line past step) line effect new
    of (Ok ok) accepts is =
        subst (λ (effect : Effect). IsAnswer (answer_step line past step) line effect new) (some_same _ _ is)
        (subst (λ (reason : Option Refusal). IsAnswer (answer_by reason line past step) line Changed new) (sym accepts.0)
        (record { stands = accepts.1; text = change_text_is new (step ∷ past) _ accepts.1 accepts.2; refused = refl }))
    of (Err (faults_of.Refused refusal)) refuses is =
        subst (λ (effect : Effect). IsAnswer (answer_step line past step) line effect new) (some_same _ _ is)
        (subst (λ (reason : Option Refusal). IsAnswer (answer_by reason line past step) line (Refused refusal) new) (sym refuses.0)
        (record { stands = refuses.1; text = refl; refused = refl }))
    of (Err faults_of.OutOfMemory) none is = absurd (cc)

-- the same under another name of the answer
pub renamed : (what other : (Refusal → List ℕ) → List Step → Answer) (effect : Effect) (old new : CoreView)
    → ((line : Refusal → List ℕ) (past : List Step) → what line past ≡ other line past) → Answers what effect old new → Answers other effect old new
renamed what other effect old new same answers line past stood =
    subst (λ (answer : Answer). IsAnswer answer line effect new) (same line past) (answers line past stood)

-- a line that has no command is refused
read_as : (fault : ScriptFault) (read : Result Command ScriptFault) (refusal : Refusal) → GivesCommand (Err fault) read
    → command_refusal fault ≡ Some refusal → read ≡ Err fault
read_as lines.UnknownCommand read refusal gives is = gives
read_as lines.BadArguments read refusal gives is = gives
read_as lines.PlaceRange read refusal gives is = gives
read_as lines.TickLimit read refusal gives is = gives
read_as lines.BadHex read refusal gives is = gives
read_as lines.OutOfMemory read refusal gives is = absurd (cc)

pub line_answers : (view : CoreView) (line : List ℕ) (fault : ScriptFault) (refusal : Refusal) → GivesCommand (Err fault) (command_of line)
    → command_refusal fault ≡ Some refusal → Answers (λ label past. answer label past Accepted (Line line)) (Refused refusal) view view
line_answers view line fault refusal gives is =
    renamed (λ label past. refusing label past refusal) _ (Refused refusal) view view
    (λ label past. sym (ap (answer_command label past) (read_as fault (command_of line) refusal gives is)
    ∙ ap (λ (reason : Option Refusal). answer_broken reason label past) is))
    (refused_answers view refusal)

pub command_answers : (old new : CoreView) (line : List ℕ) (command : Command) (effect : Effect) → command_of line ≡ Ok command
    → Answers (λ label past. answer_command label past (Ok command)) effect old new
    → Answers (λ label past. answer label past Accepted (Line line)) effect old new
command_answers old new line command effect is =
    renamed (λ label past. answer_command label past (Ok command)) _ effect old new (λ label past. ap (answer_command label past) (sym is))

-- a blank line asks for nothing
pub blank_answers : (view : CoreView) (line : List ℕ) → is_blank line ≡ true
    → Answers (λ label past. answer label past Accepted (Line line)) Nothing view view
blank_answers view line is = command_answers view view line commands.Nothing Nothing (blank_line line is) (silent_answers view)

-- ---- verdicts

-- the maker was not asked
pub unasked : (item : Item) (effect : Effect) (old new : CoreView) (maker maker_now : Maker) → IsTied item Accepted → maker_now ≡ maker
    → Answers (λ line past. answer line past Accepted item) effect old new → AnswersItem item effect old new maker maker_now
unasked item effect old new maker maker_now tied same answers = record {
  verdict = Accepted;
  is_verdict = record { tied = tied; large = ap (λ (maker : Maker). maker.refused) same ∙ sym (append-nil maker.refused) };
  answers = answers;
}

-- an item without a verdict
pub left_unasked : (item : Item) (maker maker_now : Maker) → maker_now ≡ maker → LeavesItem item maker maker_now
left_unasked item maker maker_now same =
    record { verdicts = []; tied = tt; large = ap (λ (maker : Maker). maker.refused) same ∙ sym (append-nil maker.refused) }

pub left_with : (item : Item) (verdict : Verdict) (maker maker_now : Maker) → IsVerdict item verdict maker maker_now → LeavesItem item maker maker_now
left_with item verdict maker maker_now is = record {
  verdicts = verdict ∷ [];
  tied = (is.tied, tt);
  large = is.large ∙ ap (λ (texts : List (List ℕ)). maker.refused ++ texts) (sym (append-nil (large_in verdict)));
}

-- what was answered and not counted
pub left_answered : {L C : Type 0} (item : Option Item) (effect : Option Effect) (old new : Run L C) (maker maker_now : Maker)
    → AnswersNext item effect old new maker maker_now → LeavesNext item maker maker_now
left_answered None None old new maker maker_now answers = answers.1
left_answered None (Some effect) old new maker maker_now answers = absurd answers
left_answered (Some item) None old new maker maker_now answers = absurd answers
left_answered (Some item) (Some effect) old new maker maker_now answers =
    left_with item answers.0.verdict maker maker_now answers.0.is_verdict

-- what reading a block answers is a verdict on it
pub read_verdict : (bytes : List ℕ) (result : Result Config ConfigFault) (maker maker_now : Maker)
    → GivesConfig maker maker_now result (config_read bytes) → result ≢ Err faults.OutOfMemory → IsVerdict (Block bytes) (verdict_of result) maker maker_now
read_verdict bytes result maker maker_now gives known =
    let ties = gives_ties maker maker_now result (config_read bytes) gives known in record { tied = ties.0; large = ties.1 }

-- a configuration that was read is an act
pub config_answers : (bytes : List ℕ) (config : Config) (done : Result ⊤ CoreFault) (effect : Effect) (old new : CoreView) (maker maker_now : Maker)
    → GivesConfig maker maker_now (Ok config) (config_read bytes) → Applies old (Configure config) done new → effect_of done ≡ Some effect
    → AnswersItem (Block bytes) effect old new maker maker_now
config_answers bytes config done effect old new maker maker_now gives applies is = record {
  verdict = Accepted;
  is_verdict = read_verdict bytes (Ok config) maker maker_now gives (λ same. absurd (cc));
  answers =
      renamed (λ line past. answer_step line past (Configure config)) _ effect old new
      (λ line past. ap (answer_config line past Accepted) (sym gives.0)) (act_answers old (Configure config) done effect new applies is);
}

-- how a block is answered that is refused
block_answer : (line : Refusal → List ℕ) (past : List Step) (bytes : List ℕ) (rule : ConfigFault) (refusal : Refusal) (maker maker_now : Maker)
    → GivesConfig maker maker_now (Err rule) (config_read bytes) → config_refusal rule ≡ Some refusal
    → answer_config line past (verdict_of (Err rule)) (config_read bytes) ≡ refusing line past refusal
block_answer line past bytes rule refusal maker maker_now gives is = of rule (config_read bytes) gives is
  where
    by_rule : (rule : ConfigFault) (read : Result Config ConfigFault) → read ≡ Err rule → config_refusal rule ≡ Some refusal
        → answer_config line past Accepted read ≡ refusing line past refusal
    by_rule rule read breaks is =
        ap (answer_config line past Accepted) breaks ∙ ap (λ (reason : Option Refusal). answer_broken reason line past) is

    some_same : (one other : Refusal) → Option.Some one ≡ Some other → one ≡ other
    some_same one other same = cc

    of : (rule : ConfigFault) (read : Result Config ConfigFault) → GivesConfig maker maker_now (Err rule) read → config_refusal rule ≡ Some refusal
        → answer_config line past (verdict_of (Err rule)) read ≡ refusing line past refusal
    of faults.NotJson read gives is = by_rule faults.NotJson read gives.0 is
    of faults.Fraction read gives is = by_rule faults.Fraction read gives.0 is
    of faults.MissingKey read gives is = by_rule faults.MissingKey read gives.0 is
    of faults.WrongKind read gives is = by_rule faults.WrongKind read gives.0 is
    of faults.OutOfRange read gives is = by_rule faults.OutOfRange read gives.0 is
    of (faults.ProbeSyntax at) read gives is = by_rule (faults.ProbeSyntax at) read gives.0 is
    of faults.TemplateSyntax read gives is = by_rule faults.TemplateSyntax read gives.0 is
    of faults.MuxMatchOne read gives is = by_rule faults.MuxMatchOne read gives.0 is
    of (faults.PatternSyntax text) (Ok config) gives is = ap (refusing line past) (some_same _ _ is)
    of (faults.PatternSyntax text) (Err other) gives is = absurd gives.0
    of (faults.PatternTooLarge text) (Ok config) gives is = ap (refusing line past) (some_same _ _ is)
    of (faults.PatternTooLarge text) (Err other) gives is = absurd gives.0
    of faults.OutOfMemory read gives is = absurd (cc)

known_rule : (rule : ConfigFault) (refusal : Refusal) → config_refusal rule ≡ Some refusal
    → (let result : Result Config ConfigFault = Err rule in result) ≢ Err faults.OutOfMemory
known_rule rule refusal is same = absurd (let no = ap (λ (result : Result Config ConfigFault). reason_of result) same in cc)
  where
    reason_of : Result Config ConfigFault → Option Refusal
    reason_of (Ok config) = None
    reason_of (Err rule) = config_refusal rule

pub broken_answers : (bytes : List ℕ) (rule : ConfigFault) (refusal : Refusal) (view : CoreView) (maker maker_now : Maker)
    → GivesConfig maker maker_now (Err rule) (config_read bytes) → config_refusal rule ≡ Some refusal
    → AnswersItem (Block bytes) (Refused refusal) view view maker maker_now
broken_answers bytes rule refusal view maker maker_now gives is = record {
  verdict = verdict_of (Err rule);
  is_verdict = read_verdict bytes (Err rule) maker maker_now gives (known_rule rule refusal is);
  answers =
      renamed (λ line past. refusing line past refusal) _ (Refused refusal) view view
      (λ line past. sym (block_answer line past bytes rule refusal maker maker_now gives is)) (refused_answers view refusal);
}

-- where no memory was left for it, nothing is said of a block
pub unread : (bytes : List ℕ) (rule : ConfigFault) (maker maker_now : Maker) → GivesConfig maker maker_now (Err rule) (config_read bytes)
    → config_refusal rule ≡ None → LeavesItem (Block bytes) maker maker_now
unread bytes faults.OutOfMemory maker maker_now gives none = left_unasked (Block bytes) maker maker_now gives
unread bytes faults.NotJson maker maker_now gives none = absurd (cc)
unread bytes faults.Fraction maker maker_now gives none = absurd (cc)
unread bytes faults.MissingKey maker maker_now gives none = absurd (cc)
unread bytes faults.WrongKind maker maker_now gives none = absurd (cc)
unread bytes faults.OutOfRange maker maker_now gives none = absurd (cc)
unread bytes (faults.ProbeSyntax at) maker maker_now gives none = absurd (cc)
unread bytes faults.TemplateSyntax maker maker_now gives none = absurd (cc)
unread bytes faults.MuxMatchOne maker maker_now gives none = absurd (cc)
unread bytes (faults.PatternSyntax text) maker maker_now gives none = absurd (cc)
unread bytes (faults.PatternTooLarge text) maker maker_now gives none = absurd (cc)

-- ---- counting

-- what is gathered of an item at once, and behind it what is still to come, are all that is printed of it
all_printed : (line : Refusal → List ℕ) (effect : Effect) (core : CoreView)
    → line_text line effect core ++ asked (leaves effect) core ≡ effect_text line effect core
all_printed line Nothing core = refl
all_printed line Changed core = append-nil (change_text core)
all_printed line (Shown topic) core = refl
all_printed line (Ticks count) core = refl
all_printed line (Refused refusal) core = append-nil (line refusal)

counts_gathered : {L C : Type 0} (origin : Origin) (effect : Effect) (old new : Run L C) → CountsItem origin effect old new
    → gathered new ≡ string_bytes old.text ++ effect_text (refused_line origin old.number) effect old.core
counts_gathered origin effect old new counts =
    ap₂ (λ (pending : Pending) (core : CoreView). string_bytes new.text ++ asked pending core) counts.pending counts.core
    ∙ ap (λ (text : List ℕ). text ++ asked (leaves effect) old.core) counts.text
    ∙ append_assoc (string_bytes old.text) (line_text (refused_line origin old.number) effect old.core) (asked (leaves effect) old.core)
    ∙ ap (λ (text : List ℕ). string_bytes old.text ++ text) (all_printed (refused_line origin old.number) effect old.core)

-- what is refused is counted
counted_with : (effect : Effect) (refused count : ℕ) → refused ≡ raised 0 count → refused_with effect refused ≡ raised 0 (count + refusals effect)
counted_with Nothing refused count is = is ∙ ap (raised 0) (omega arith)
counted_with Changed refused count is = is ∙ ap (raised 0) (omega arith)
counted_with (Shown topic) refused count is = is ∙ ap (raised 0) (omega arith)
counted_with (Ticks ticks) refused count is = is ∙ ap (raised 0) (omega arith)
counted_with (Refused refusal) refused count is = ap (λ (refused : ℕ). raised refused 1) is ∙ raised_on count
  where
    raised_on : (count : ℕ) → raised (raised 0 count) 1 ≡ raised 0 (count + 1)
    raised_on count = grind arith

-- what was answered is counted
pub answered_item : {L C : Type 0} (origin : Origin) (item : Item) (effect : Effect) (old answered new : Run L C) (maker maker_now : Maker)
    → answered ≡ record old { core = answered.core }
    → AnswersItem item effect old.core answered.core maker maker_now → CountsItem origin effect answered new → TakesItem origin item old new maker maker_now
answered_item {L} {C} origin item effect old answered new maker maker_now same answers counts = record {
  verdict = answers.verdict;
  is_verdict = answers.is_verdict;
  number = counts.number ∙ ap (λ (run : Run L C). run.number + 1) same;
  follows = λ past stood.
      let is = answers.answers (refused_line origin old.number) past stood in
      record {
        stands =
            subst₂
            (λ (pending : Pending) (core : CoreView). Stands (settled pending core) (answer (refused_line origin old.number) past answers.verdict item).past)
            (sym counts.pending) (sym counts.core) is.stands;
        text =
            counts_gathered origin effect answered new counts
            ∙ ap₂ (λ (text : List ℕ) (n : ℕ). text ++ effect_text (refused_line origin n) effect answered.core)
            (ap (λ (run : Run L C). string_bytes run.text) same) (ap (λ (run : Run L C). run.number) same)
            ∙ ap (λ (text : List ℕ). string_bytes old.text ++ text) is.text;
        refused = λ count counted.
            counts.refused ∙ counted_with effect answered.refused count (ap (λ (run : Run L C). run.refused) same ∙ counted)
            ∙ ap (λ (n : ℕ). raised 0 (count + n)) is.refused;
      };
}

-- and so what came is taken
pub taken_next : {L C : Type 0} (item : Option Item) (found : Option Effect) (effect : Effect) (old answered new : Run L C) (maker maker_now : Maker)
    → AnswersNext item found old answered maker maker_now → found ≡ Some effect → CountsItem OfScript effect answered new
    → TakesNext item old new maker maker_now
taken_next item found effect old answered new maker maker_now answers is counts =
    of item (subst (λ (found : Option Effect). AnswersNext item found old answered maker maker_now) is answers)
  where
    of : (item : Option Item) → AnswersNext item (Some effect) old answered maker maker_now → TakesNext item old new maker maker_now
    of None answers = absurd answers
    of (Some item) answers = answered_item OfScript item effect old answered new maker maker_now answers.1 answers.0 counts
