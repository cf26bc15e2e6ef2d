-- Files that are taken, one after another.
use Rattle.std.proofs.Common.{◌≡◌, ◌<◌, ◌≤◌, ◌+◌, ℕ, suc, List, [], ◌∷◌, ◌++◌, length, Bool, Option, Some, None, Ok, Err, refl, ap, ap₂, sym, ◌∙◌}
use Rattle.std.proofs.Common.{subst, subst₂, arith, append_assoc, append-nil, drop, get_or, length-append, map, option_map, string_bytes, take}
use Rattle.std.specs.Prelude.{IsSomeAnd, if◌then◌else◌}
use Rattle.std.specs.List.{Contains, cons_option}
use Rattle.std.proofs.Math.Seq.{drop-cons}
use Rattle.std.proofs.lemmas.Bool.{le-ltb, lt-ltb}
use Rattle.std.proofs.lemmas.List.{map-append, map_push, take-append-drop, take_all, take_more}
use Rattle.std.proofs.lemmas.List.Elements.{Contains-append_right}
use Rattle.bmc_base.specs.Calls.{Calls}
use Rattle.bmc_io.specs.Files.{Folder, IsWhole, ReadsFile, bytes_of}
use Rattle.bmc_io.specs.Told.{Told}
use Rattle.bmc_io.specs.Sinks.{AppendsFront}
use Rattle.bmc_io.specs.declared.files.FileFault.{FileFault}
use Rattle.bmc_io.specs.declared.files.FileFault.TheVariants as faults
use Rattle.bmc_io.specs.declared.files.Whole.{Whole}
use Rattle.bmc_io.specs.declared.files.Whole.TheVariants.{Given, Longer}
use Rattle.bmc_io.proofs.Fronts.{front_after, front_none}
use Rattle.bmc_text.specs.Items.{Item, Block, BlockTooLong, longest_block}
use Rattle.bmc_report.specs.Refusals.{refused_line}
use Rattle.bmc_report.specs.declared.refusal.Origin.{Origin}
use Rattle.bmc_report.specs.declared.refusal.Origin.TheVariants.{File}
use Rattle.pat_gate.specs.Makers.{Maker}
use Rattle.cfg_json.specs.Verdicts.{Verdict, large_in}
use Rattle.bmc_machine.specs.Histories.{Options, Step, begun}
use Rattle.bmc_machine.specs.Ties.{AreTied, large_texts}
use Rattle.bmc_machine.specs.Answers.{Answer, and_then, answer, answers, answer_files, silent}
use Rattle.bmc_run.specs.Gathering.{Gathers, Printed}
use Rattle.bmc_run.specs.Runs.{Follows, IsAfter, IsReady, LeavesItem, TakesItem, asked, file_item, settled}
use Rattle.bmc_run.specs.Statuses.{WhereTold}
use Rattle.bmc_run.specs.declared.run.Run.{Run}
use Rattle.bmc_run.specs.declared.run.Pending.{Pending}
use Rattle.bmc_run.specs.declared.run.Pending.TheVariants.{Nothing}
use Rattle.bmc_core.specs.Cores.{Stands}
use Rattle.bmc_run.proofs.Along.{large_more, printed_moved, printed_more}
use Rattle.bmc_run.proofs.SoFar.{and_then-assoc, and_then-silent}
use Rattle.bmc_run.proofs.ReasonsLemmas.{fails_behind}
use Rattle.bmc_run.specs.Stops.{stop_of_file}
use Rattle.bmc_run.specs.declared.stop.Stop.{Stop}
use Rattle.bmc_run.specs.declared.stop.Stop.TheVariants as stops
use Rattle.bmc_replay.specs.Files.{AreItems, FileCause, HasTaken, ReadsFiles, StopsAtFile, file_items, item_named, item_of}

-- ---- answers to items, and to more of them

answers-cons : (origin : Origin) (number : ℕ) (past : List Step) (verdict : Verdict) (later : List Verdict) (item : Item) (items : List Item)
    → answers origin number past (verdict ∷ later) (item ∷ items) ≡ and_then (answer (refused_line origin number) past verdict item)
    (answers origin (number + 1) (answer (refused_line origin number) past verdict item).past later items)
unfolding answers
answers-cons origin number past verdict later item items = refl

answers-nil : (origin : Origin) (number : ℕ) (past : List Step) (verdicts : List Verdict) → answers origin number past verdicts [] ≡ silent past
unfolding answers
answers-nil origin number past verdicts = refl

and_then-nothing : (past : List Step) (later : Answer) → and_then (silent past) later ≡ later
and_then-nothing past later =
    let same : 0 + later.refused ≡ later.refused = omega arith in λ i. record { past = later.past; text = later.text; refused = same i }

-- some items are answered, and then the others
pub answers-append : (origin : Origin) (number : ℕ) (past : List Step) (verdicts later : List Verdict) (items more : List Item)
    → length verdicts ≡ length items → answers origin number past (verdicts ++ later) (items ++ more)
    ≡ and_then (answers origin number past verdicts items)
    (answers origin (number + length items) (answers origin number past verdicts items).past later more)
answers-append origin number past [] later [] more each =
    ap (λ (n : ℕ). answers origin n past later more) same ∙ sym (and_then-nothing past (answers origin (number + 0) past later more))
    ∙ ap (λ (first : Answer). and_then first (answers origin (number + 0) first.past later more)) (sym (answers-nil origin number past []))
  where
    same : number ≡ number + 0
    same = omega arith
answers-append origin number past [] later (item ∷ items) more each = absurd (omega (arith, each))
answers-append origin number past (verdict ∷ verdicts) later [] more each = absurd (omega (arith, each))
answers-append origin number past (verdict ∷ verdicts) later (item ∷ items) more each =
    answers-cons origin number past verdict (verdicts ++ later) item (items ++ more)
    ∙ ap (and_then first) (answers-append origin (number + 1) first.past verdicts later items more (omega (arith, each)))
    ∙ and_then-assoc first rest (answers origin ((number + 1) + length items) rest.past later more)
    ∙ ap (λ (n : ℕ). and_then (and_then first rest) (answers origin n rest.past later more)) one_more
    ∙ ap (λ (whole : Answer). and_then whole (answers origin (number + length (item ∷ items)) whole.past later more))
    (sym (answers-cons origin number past verdict verdicts item items))
  where
    first : Answer
    first = answer (refused_line origin number) past verdict item

    rest : Answer
    rest = answers origin (number + 1) first.past verdicts items

    one_more : (number + 1) + length items ≡ number + length (item ∷ items)
    one_more = omega arith

-- and an item more
answers-snoc : (origin : Origin) (number : ℕ) (past : List Step) (verdicts : List Verdict) (verdict : Verdict) (items : List Item) (item : Item)
    → length verdicts ≡ length items → answers origin number past (verdicts ++ verdict ∷ []) (items ++ item ∷ [])
    ≡ and_then (answers origin number past verdicts items)
    (answer (refused_line origin (number + length items)) (answers origin number past verdicts items).past verdict item)
answers-snoc origin number past verdicts verdict items item each =
    answers-append origin number past verdicts (verdict ∷ []) items (item ∷ []) each
    ∙ ap (and_then (answers origin number past verdicts items)) (answers-cons origin (number + length items) before verdict [] item []
    ∙ ap (and_then one) (answers-nil origin ((number + length items) + 1) one.past []) ∙ and_then-silent one)
  where
    before : List Step
    before = (answers origin number past verdicts items).past

    one : Answer
    one = answer (refused_line origin (number + length items)) before verdict item

-- ---- ties to items, and to more of them

tied-append : (items more : List Item) (verdicts later : List Verdict) → length verdicts ≡ length items → AreTied items verdicts → AreTied more later
    → AreTied (items ++ more) (verdicts ++ later)
tied-append [] more [] later each tied also = also
tied-append [] more (verdict ∷ verdicts) later each tied also = absurd (omega (arith, each))
tied-append (item ∷ items) more [] later each tied also = absurd (omega (arith, each))
tied-append (item ∷ items) more (verdict ∷ verdicts) later each tied also =
    (tied.0, tied-append items more verdicts later (omega (arith, each)) tied.1 also)

none_tied : (items : List Item) → AreTied items []
none_tied [] = tt
none_tied (item ∷ items) = tt

first_tied : (item : Item) (items : List Item) (more : List Verdict) → AreTied (item ∷ []) more → AreTied (item ∷ items) more
first_tied item items [] tied = tt
first_tied item items (verdict ∷ []) tied = (tied.0, tt)
first_tied item items (verdict ∷ other ∷ later) tied = absurd tied.1

-- ---- the items of files

-- what was read of a file is its item
pub is_read : (holds : Option (List (List ℕ × List ℕ))) (name : List ℕ) (whole : Whole) → IsWhole holds name longest_block whole
    → WhereTold holds (λ files. item_named files name ≡ Some (file_item whole))
is_read None name whole is = tt
is_read (Some files) name (Given bytes) is = ap (option_map item_of) is.1 ∙ ap Some (fits bytes is.0)
  where
    fits : (bytes : List ℕ) → length bytes ≤ longest_block → item_of bytes ≡ Block bytes
    fits bytes few = ap (λ (long : Bool). if long then BlockTooLong else Block bytes) (le-ltb longest_block (length bytes) few)
is_read (Some files) name Longer is = longer (bytes_of files name) is
  where
    longer : (found : Option (List ℕ)) → IsSomeAnd found (λ bytes. longest_block < length bytes) → option_map item_of found ≡ Some BlockTooLong
    longer None long = absurd long
    longer (Some bytes) long =
        ap Some (ap (λ (long : Bool). if long then BlockTooLong else Block bytes) (lt-ltb longest_block (length bytes) long))

are_items-snoc : (holds : Option (List (List ℕ × List ℕ))) (names : List (List ℕ)) (name : List ℕ) (items : List Item) (item : Item)
    → AreItems holds names items → WhereTold holds (λ files. item_named files name ≡ Some item) → AreItems holds (names ++ name ∷ []) (items ++ item ∷ [])
are_items-snoc holds [] name [] item are is = (is, tt)
are_items-snoc holds [] name (other ∷ items) item are is = absurd are
are_items-snoc holds (first ∷ names) name [] item are is = absurd are
are_items-snoc holds (first ∷ names) name (other ∷ items) item are is = (are.0, are_items-snoc holds names name items item are.1 is)

items_first : (files : List (List ℕ × List ℕ)) (names later : List (List ℕ)) (items : List Item) → AreItems (Some files) names items
    → file_items files (names ++ later) ≡ items ++ file_items files later
items_first files [] later [] are = refl
items_first files [] later (item ∷ items) are = absurd are
items_first files (name ∷ names) later [] are = absurd are
items_first files (name ∷ names) later (item ∷ items) are =
    ap₂ (λ (found : Option Item) (rest : List Item). cons_option found rest) are.0 (items_first files names later items are.1)

item_next : (files : List (List ℕ × List ℕ)) (name : List ℕ) (later : List (List ℕ)) (item : Item) → item_named files name ≡ Some item
    → file_items files (name ∷ later) ≡ item ∷ file_items files later
item_next files name later item is = ap (λ (found : Option Item). cons_option found (file_items files later)) is

-- ---- taking a file

module _ (options : Options) (holds : Option (List (List ℕ × List ℕ))) where
  -- what is printed of the files that were read is a front of what is printed of all of them, whatever later verdicts are
  abbrev pub Begins : List (List ℕ) → List Verdict → List ℕ → Type 0
  Begins names verdicts total = WhereTold holds (λ files. (later : List Verdict)
      → (rest : List ℕ) × ((answer_files options (verdicts ++ later) (file_items files names)).text ≡ total ++ rest))

  begins_by : (holds : Option (List (List ℕ × List ℕ))) (names later : List (List ℕ)) (items : List Item) (verdicts : List Verdict)
      → AreItems holds names items → length verdicts ≡ length items
      → WhereTold holds (λ files. (more : List Verdict) → (rest : List ℕ)
      × ((answer_files options (verdicts ++ more) (file_items files (names ++ later))).text ≡ (answer_files options verdicts items).text ++ rest))
  begins_by None names later items verdicts are each = tt
  begins_by (Some files) names later items verdicts are each = λ more. (
    (answers File (1 + length items) (answer_files options verdicts items).past more (file_items files later)).text,
    ap (λ (items : List Item). (answer_files options (verdicts ++ more) items).text) (items_first files names later items are)
        ∙ ap (λ (answer : Answer). answer.text) (answers-append File 1 (begun options) verdicts more items (file_items files later) each),
  )

  -- a front of it is written
  fronts_by : (holds : Option (List (List ℕ × List ℕ))) (names : List (List ℕ)) (verdicts more : List Verdict) (old mid now : Told) (text total : List ℕ)
      → WhereTold holds (λ files. (later : List Verdict) → (rest : List ℕ)
      × ((answer_files options (verdicts ++ later) (file_items files names)).text ≡ total ++ rest))
      → Printed old mid text total → AppendsFront mid now text
      → WhereTold holds (λ files. (later : List Verdict)
      → AppendsFront old now (answer_files options ((verdicts ++ more) ++ later) (file_items files names)).text)
  fronts_by None names verdicts more old mid now text total begins printed front = tt
  fronts_by (Some files) names verdicts more old mid now text total begins printed front = λ later.
      subst (λ (all : List Verdict). AppendsFront old now (answer_files options all (file_items files names)).text) (sym (append_assoc verdicts more later))
      (front_after old mid now printed.written text (answer_files options (verdicts ++ (more ++ later)) (file_items files names)).text
      (begins (more ++ later)).0 printed.told front
      ((begins (more ++ later)).1 ∙ ap (λ (whole : List ℕ). whole ++ (begins (more ++ later)).0) (sym printed.parts)
      ∙ append_assoc printed.written text (begins (more ++ later)).0))

  ties_by : (holds : Option (List (List ℕ × List ℕ))) (names later : List (List ℕ)) (items : List Item) (verdicts : List Verdict)
      → AreItems holds names items → length verdicts ≡ length items → AreTied items verdicts
      → WhereTold holds (λ files. AreTied (file_items files (names ++ later)) verdicts)
  ties_by None names later items verdicts are each tied = tt
  ties_by (Some files) names later items verdicts are each tied =
      subst₂ (λ (items : List Item) (verdicts : List Verdict). AreTied items verdicts) (sym (items_first files names later items are)) (append-nil verdicts)
      (tied-append items (file_items files later) verdicts [] each tied (none_tied (file_items files later)))

  ties_with : (holds : Option (List (List ℕ × List ℕ))) (names later : List (List ℕ)) (name : List ℕ) (items : List Item) (item : Item)
      (verdicts more : List Verdict)
      → AreItems holds names items → WhereTold holds (λ files. item_named files name ≡ Some item) → length verdicts ≡ length items
      → AreTied items verdicts → AreTied (item ∷ []) more
      → WhereTold holds (λ files. AreTied (file_items files (names ++ name ∷ later)) (verdicts ++ more))
  ties_with None names later name items item verdicts more are is each tied also = tt
  ties_with (Some files) names later name items item verdicts more are is each tied also =
      subst (λ (items : List Item). AreTied items (verdicts ++ more))
      (sym (items_first files names (name ∷ later) items are ∙ ap (λ (rest : List Item). items ++ rest) (item_next files name later item is)))
      (tied-append items (item ∷ file_items files later) verdicts more each tied (first_tied item (file_items files later) more also))

  module _ {L C : Type 0} where
    -- nothing was taken
    pub taken_none : (told : Told) (maker : Maker) (run : Run L C) → IsReady run → IsAfter (silent (begun options)) told told run
        → HasTaken options holds [] told told maker maker run
    taken_none told maker run ready after = record {
      items = [];
      verdicts = [];
      read = tt;
      each = refl;
      tied = tt;
      large = sym (append-nil maker.refused);
      after = subst (λ (answer : Answer). IsAfter answer told told run) (sym (answers-nil File 1 (begun options) [])) after;
      pending = ready.pending;
      number = ready.number ∙ omega arith;
    }

    -- what was gathered is written
    pub taken_moved : (names : List (List ℕ)) (told now new : Told) (first maker : Maker) (run moved : Run L C)
        → HasTaken options holds names told now first maker run → moved ≡ record run { text = moved.text }
        → Gathers now new (string_bytes run.text) (string_bytes moved.text) [] → HasTaken options holds names told new first maker moved
    taken_moved names told now new first maker run moved has same gathers = record {
      items = has.items;
      verdicts = has.verdicts;
      read = has.read;
      each = has.each;
      tied = has.tied;
      large = has.large;
      after = record {
        core = subst (λ (run : Run L C). Stands run.core (answer_files options has.verdicts has.items).past) (sym same) has.after.core;
        printed =
            printed_moved told now new (string_bytes run.text) (string_bytes moved.text) (answer_files options has.verdicts has.items).text
            has.after.printed gathers;
        refused = ap (λ (run : Run L C). run.refused) same ∙ has.after.refused;
      };
      pending = ap (λ (run : Run L C). run.pending) same ∙ has.pending;
      number = ap (λ (run : Run L C). run.number) same ∙ has.number;
    }

    -- a file more is taken
    pub taken_more : (names : List (List ℕ)) (name : List ℕ) (whole : Whole) (told now : Told) (first maker maker_new : Maker) (run taken : Run L C)
        → HasTaken options holds names told now first maker run → IsWhole holds name longest_block whole
        → TakesItem File (file_item whole) run taken maker maker_new → taken.pending ≡ Nothing
        → HasTaken options holds (names ++ name ∷ []) told now first maker_new taken
    taken_more names name whole told now first maker maker_new run taken has is takes none = record {
      items = has.items ++ item ∷ [];
      verdicts = has.verdicts ++ takes.verdict ∷ [];
      read = are_items-snoc holds names name has.items item has.read (is_read holds name whole is);
      each =
          length-append has.verdicts (takes.verdict ∷ []) ∙ ap (λ (n : ℕ). n + 1) has.each ∙ sym (length-append has.items (item ∷ []));
      tied = tied-append has.items (item ∷ []) has.verdicts (takes.verdict ∷ []) has.each has.tied (takes.is_verdict.tied, tt);
      large =
          large_more first.refused maker.refused maker_new.refused has.verdicts (takes.verdict ∷ []) has.large
          (takes.is_verdict.large ∙ ap (λ (texts : List (List ℕ)). maker.refused ++ texts) (sym (append-nil (large_in takes.verdict))));
      after = subst (λ (answer : Answer). IsAfter answer told now taken) (sym whole_answer) come;
      pending = none;
      number = takes.number ∙ ap (λ (n : ℕ). n + 1) (has.number ∙ sym (length-append has.items (item ∷ [])));
    }
      where
        item : Item
        item = file_item whole

        so_far : Answer
        so_far = answer_files options has.verdicts has.items

        one : Answer
        one = answer (refused_line File (1 + length has.items)) so_far.past takes.verdict item

        whole_answer : answer_files options (has.verdicts ++ takes.verdict ∷ []) (has.items ++ item ∷ []) ≡ and_then so_far one
        whole_answer = answers-snoc File 1 (begun options) has.verdicts takes.verdict has.items item has.each

        number : run.number ≡ 1 + length has.items
        number = has.number ∙ omega arith

        follows : Follows one run taken
        follows = subst (λ (number : ℕ). Follows (answer (refused_line File number) so_far.past takes.verdict item) run taken) number
            (takes.follows so_far.past has.after.core)

        come : IsAfter (and_then so_far one) told now taken
        come = record {
          core = subst (λ (pending : Pending). Stands (settled pending taken.core) one.past) none follows.stands;
          printed = printed_more told now (string_bytes run.text) (string_bytes taken.text) so_far.text one.text has.after.printed grown;
          refused = follows.refused so_far.refused has.after.refused;
        }
          where
            grown : string_bytes taken.text ≡ string_bytes run.text ++ one.text
            grown =
                sym (append-nil (string_bytes taken.text))
                ∙ ap (λ (pending : Pending). string_bytes taken.text ++ asked pending taken.core) (sym none) ∙ follows.text

    -- it is read, and not taken for want of memory
    pub stops_untaken : (names later : List (List ℕ)) (name : List ℕ) (whole : Whole) (told now : Told) (first maker maker_new : Maker) (run : Run L C)
        → HasTaken options holds names told now first maker run → IsWhole holds name longest_block whole
        → LeavesItem (file_item whole) maker maker_new → StopsAtFile options holds (names ++ name ∷ later) told now first maker_new
    stops_untaken names later name whole told now first maker maker_new run has is leaves = record {
      verdicts = has.verdicts ++ leaves.verdicts;
      tied =
          ties_with holds names later name has.items (file_item whole) has.verdicts leaves.verdicts has.read (is_read holds name whole is) has.each has.tied
          leaves.tied;
      large = large_more first.refused maker.refused maker_new.refused has.verdicts leaves.verdicts has.large leaves.large;
      text =
          fronts_by holds (names ++ name ∷ later) has.verdicts leaves.verdicts told now now (string_bytes run.text)
          (answer_files options has.verdicts has.items).text
          (begins_by holds names (name ∷ later) has.items has.verdicts has.read has.each) has.after.printed (front_none now (string_bytes run.text));
    }

    -- a write of what was gathered of earlier files stops
    pub stops_unwritten : (names later : List (List ℕ)) (told now new : Told) (first maker : Maker) (run : Run L C)
        → HasTaken options holds names told now first maker run → AppendsFront now new (string_bytes run.text)
        → StopsAtFile options holds (names ++ later) told new first maker
    stops_unwritten names later told now new first maker run has front = record {
      verdicts = has.verdicts ++ [];
      tied = subst (λ (verdicts : List Verdict). WhereTold holds (λ files. AreTied (file_items files (names ++ later)) verdicts))
          (sym (append-nil has.verdicts)) (ties_by holds names later has.items has.verdicts has.read has.each has.tied);
      large = has.large ∙ ap (λ (verdicts : List Verdict). first.refused ++ large_texts verdicts) (sym (append-nil has.verdicts));
      text =
          fronts_by holds (names ++ later) has.verdicts [] told now new (string_bytes run.text) (answer_files options has.verdicts has.items).text
          (begins_by holds names later has.items has.verdicts has.read has.each) has.after.printed front;
    }

    -- the next file is not read: nothing more was written
    pub stops_unread : (names later : List (List ℕ)) (told now : Told) (first maker : Maker) (run : Run L C)
        → HasTaken options holds names told now first maker run → StopsAtFile options holds (names ++ later) told now first maker
    stops_unread names later told now first maker run has =
        stops_unwritten names later told now now first maker run has (front_none now (string_bytes run.text))

-- ---- what the outside shows of it

pub reads_nothing : (files : Folder) → ReadsFiles files files
reads_nothing files = record { holds = refl; faults = refl; failed_names = refl }

pub reads_on : (old mid new : Folder) → ReadsFiles old mid → ReadsFiles mid new → ReadsFiles old new
reads_on old mid new first next = record {
  holds = next.holds ∙ first.holds;
  faults = next.faults ∙ first.faults;
  failed_names = next.failed_names ∙ first.failed_names;
}

-- the cause is the same behind files that were read well
pub cause_behind : (stop : Stop) (names : List (List ℕ)) (old mid new : Folder) (calls calls_mid calls_new : Calls) → ReadsFiles old mid
    → calls_mid.faults ≡ calls.faults → FileCause stop names mid new calls_mid calls_new → FileCause stop names old new calls calls_new
cause_behind stops.OutOfMemory names old mid new calls calls_mid calls_new reads well cause = (reads_on old mid new reads cause.0, cause.1 ∙ well)
cause_behind stops.ReadFault names old mid new calls calls_mid calls_new reads well cause = (
  record {
    holds = cause.0.holds ∙ reads.holds;
    fails = fails_behind old.calls mid.calls new.calls reads.faults cause.0.fails;
    name = cause.0.name;
    is_one = cause.0.is_one;
    failed_names = cause.0.failed_names ∙ ap (λ (failed : List (List ℕ)). failed ++ cause.0.name ∷ []) reads.failed_names;
  },
  cause.1 ∙ well,
)
cause_behind stops.WriteFault names old mid new calls calls_mid calls_new reads well cause =
    (reads_on old mid new reads cause.0, fails_behind calls calls_mid calls_new well cause.1)
cause_behind stops.TooLong names old mid new calls calls_mid calls_new reads well cause = absurd cause

-- a file is read, or not
pub is_read_well : (old new : Folder) (name : List ℕ) (limit : ℕ) (whole : Whole) → ReadsFile old new name limit (Ok whole) → ReadsFiles old new
is_read_well old new name limit whole reads =
    let is = reads.1 in record {
      holds = ap (λ (files : Folder). files.holds) is;
      faults = ap (λ (files : Folder). files.calls.faults) is;
      failed_names = ap (λ (files : Folder). files.failed_names) is;
    }

pub is_unread : (fault : FileFault) (old new : Folder) (name : List ℕ) (limit : ℕ) (names : List (List ℕ)) (calls calls_now : Calls)
    → ReadsFile old new name limit (Err fault) → Contains names name → calls_now.faults ≡ calls.faults
    → FileCause (stop_of_file fault) names old new calls calls_now
is_unread faults.Failed old new name limit names calls calls_now is one well = (
  record {
    holds = ap (λ (files : Folder). files.holds) is;
    fails = record { count = ap (λ (files : Folder). files.calls.faults) is; last = ap (λ (files : Folder). files.calls.last_failed) is };
    name = name;
    is_one = one;
    failed_names = ap (λ (files : Folder). files.failed_names) is;
  },
  well,
)
is_unread faults.OutOfMemory old new name limit names calls calls_now is one well = (
  record {
    holds = ap (λ (files : Folder). files.holds) is;
    faults = ap (λ (files : Folder). files.calls.faults) is;
    failed_names = ap (λ (files : Folder). files.failed_names) is;
  },
  well,
)

-- ---- the names of files, one after another

module _ {X : Type 0} (text : X → List ℕ) (xs : List X) (i : ℕ) (d : X) (within : i < length xs) where
  -- one more
  pub names_more : map text (take (i + 1) xs) ≡ map text (take i xs) ++ text (get_or xs i d) ∷ []
  names_more = ap (map text) (take_more xs i d within) ∙ map_push text (take i xs) (get_or xs i d)

  -- those before one, it, and those behind it
  pub names_split : map text xs ≡ map text (take i xs) ++ text (get_or xs i d) ∷ map text (drop (suc i) xs)
  names_split =
      ap (map text) (sym (take-append-drop i xs)) ∙ map-append text (take i xs) (drop i xs)
      ∙ ap (λ (rest : List X). map text (take i xs) ++ map text rest) (drop-cons xs i d within)

  pub names_contain : Contains (map text xs) (text (get_or xs i d))
  names_contain =
      subst (λ (names : List (List ℕ)). Contains names (text (get_or xs i d))) (sym names_split)
      (Contains-append_right (map text (take i xs)) (text (get_or xs i d) ∷ map text (drop (suc i) xs)) (text (get_or xs i d)) (0, omega arith, refl))

-- all of them
pub names_all : {X : Type 0} (text : X → List ℕ) (xs : List X) (i : ℕ) → length xs ≤ i → map text (take i xs) ≡ map text xs
names_all text xs i all = ap (map text) (take_all i xs all)
