-- A run of the machine over the outside, so far.
use Rattle.std.proofs.Common.{◌≡◌, ◌<◌, ◌≤◌, ◌+◌, ℕ, List, [], ◌∷◌, ◌++◌, length, Bool, true, false, Option, Some, None, Ok, Err, refl, ap, sym, ◌∙◌}
use Rattle.std.proofs.Common.{subst, subst₂, arith, append_assoc, append-nil, length-append, string_bytes}
use Rattle.std.specs.Io.KnownBytes.{Consumes, IsAtEnd}
use Rattle.std.proofs.KnownBytes.{Consumes-nil, Consumes-trans}
use Rattle.bmc_base.specs.Calls.{Calls}
use Rattle.bmc_base.specs.Counts.{raised}
use Rattle.bmc_io.specs.Told.{Told, added}
use Rattle.bmc_io.specs.Sources.{Input}
use Rattle.bmc_io.specs.Sinks.{Output, AppendsFront}
use Rattle.bmc_io.proofs.ToldLemmas.{added_more}
use Rattle.bmc_io.proofs.Fronts.{front_none, front_after, front_so_far, front_all}
use Rattle.bmc_text.specs.Items.{Item, items_of}
use Rattle.bmc_text.specs.Feeds.{ItemFeed, Reads, longest_script}
use Rattle.bmc_text.specs.Faults.{HasFault}
use Rattle.bmc_text.specs.NextItems.{item_next, TakesNextItem, TakesItem as IsTaken, LacksItem}
use Rattle.bmc_text.specs.declared.lines.LineFault.{LineFault}
use Rattle.bmc_text.specs.declared.lines.LineFault.TheVariants as faults
use Rattle.bmc_text.specs.declared.items.NextItem.{NextItem}
use Rattle.std.proofs.lemmas.Grind.{flat_map-append}
use Rattle.bmc_report.specs.Refusals.{refused_line}
use Rattle.bmc_report.specs.declared.refusal.Origin.TheVariants.{Line}
use Rattle.bmc_report.specs.declared.topic.Topic.TheVariants.{Frus}
use Rattle.pat_gate.specs.Makers.{Maker}
use Rattle.cfg_json.specs.Verdicts.{Verdict, large_in}
use Rattle.bmc_machine.specs.Shows.{shown}
use Rattle.bmc_machine.specs.Histories.{Step}
use Rattle.bmc_machine.specs.Ties.{AreTied, large_texts}
use Rattle.bmc_machine.specs.Answers.{Answer, answer, answers, and_then, answer_after, out_after, with_list}
use Rattle.bmc_run.specs.declared.run.Run.{Run}
use Rattle.bmc_run.specs.declared.run.Pending.{Pending}
use Rattle.bmc_run.specs.declared.run.Pending.TheVariants.{Nothing}
use Rattle.bmc_run.specs.declared.stop.Stop.{Stop}
use Rattle.bmc_run.specs.declared.stop.Stop.TheVariants as stops
use Rattle.bmc_core.specs.Cores.{CoreView, Stands}
use Rattle.bmc_run.specs.Runs.{TakesNext, LeavesNext, IsReady, IsAfter, asked, gathered, settled}
use Rattle.bmc_core.specs.Lists.{entry_rows}
use Rattle.bmc_run.specs.Gathering.{Gathers, Printed}
use Rattle.bmc_run.specs.Outside.{Outside, outside}
use Rattle.bmc_run.specs.Stops.{GetsNothing, StopsShort, StopsAt}
use Rattle.bmc_run.specs.Statuses.{Replays, WhereTold, Writes, WritesFront, Reaches, Takes, WritesWhole, WriteCause, stop_of}
use Rattle.bmc_run.specs.Progress.{SoFar, HasEnded, HasCome, Along}
use Rattle.bmc_run.proofs.SoFar.{with_item, so_far_none, so_far_more, so_far_last, so_far_end, so_far_whole}
use Rattle.bmc_core.proofs.ListsLemmas.{lists_are}

-- text is written
pub printed_moved : (old now new : Told) (text text_now total : List ℕ) → Printed old now text total → Gathers now new text text_now []
    → Printed old new text_now total
printed_moved old now new text text_now total printed gathers = record {
  written = printed.written ++ gathers.written;
  told = gathers.told ∙ ap (λ (told : Told). added told gathers.written) printed.told ∙ added_more old printed.written gathers.written;
  parts =
      append_assoc printed.written gathers.written text_now
      ∙ ap (λ (rest : List ℕ). printed.written ++ rest) (gathers.parts ∙ append-nil text) ∙ printed.parts;
}

-- text is gathered
pub printed_more : (old now : Told) (text text_now total more : List ℕ) → Printed old now text total → text_now ≡ text ++ more
    → Printed old now text_now (total ++ more)
printed_more old now text text_now total more printed grown = record {
  written = printed.written;
  told = printed.told;
  parts =
      ap (λ (rest : List ℕ). printed.written ++ rest) grown ∙ sym (append_assoc printed.written text more)
      ∙ ap (λ (front : List ℕ). front ++ more) printed.parts;
}

-- a front of what is printed for the script, where it is told
abbrev pub IsFront : Answer → Option (List ℕ) → List Verdict → Told → Told → Type 0
IsFront first script verdicts old new = WhereTold script (λ script. WritesFront first script verdicts old new)

-- with more verdicts it is one too
front_under : (first : Answer) (script : Option (List ℕ)) (verdicts more : List Verdict) (old new : Told) → IsFront first script verdicts old new
    → IsFront first script (verdicts ++ more) old new
front_under first None verdicts more old new front = tt
front_under first (Some script) verdicts more old new front =
    λ later. subst (λ (all : List Verdict). AppendsFront old new (out_after first all script)) (sym (append_assoc verdicts more later)) (front (more ++ later))

-- a run that stops has written a front
pub stopped : (first : Answer) (stop : Stop) (script : Option (List ℕ)) (verdicts : List Verdict) (old new : Told) → IsFront first script verdicts old new
    → WhereTold script (λ script. Writes first (Err stop) script verdicts old new)
stopped first stop None verdicts old new front = tt
stopped first stops.OutOfMemory (Some script) verdicts old new front = front
stopped first stops.ReadFault (Some script) verdicts old new front = front
stopped first stops.WriteFault (Some script) verdicts old new front = front
stopped first stops.TooLong (Some script) verdicts old new front = front

-- no verdict was given yet
none_tied : (script : Option (List ℕ)) → WhereTold script (λ script. AreTied (items_of script) [])
none_tied None = tt
none_tied (Some script) = tt

-- a run stops before anything was read or written
pub stops_unread : (old new : ItemFeed) (before : Outside) (text : List ℕ) → new.read ≡ old.read → StopsShort old new before before text
stops_unread old new before text same = record {
  reading = record { piece = []; consumed = Consumes-nil before.input.left; count = omega (arith, same); bytes = tt };
  writing = front_none before.output.taken text;
}

-- it stops where the source gives no item, after what was gathered was written
stops_reading : (fault : LineFault) (old new : ItemFeed) (input input_now : Input) (output output_now : Output) (text : List ℕ)
    → output_now.taken ≡ added output.taken text → Reads old.waiting old.read new.read input input_now (LacksItem fault)
    → HasFault fault new.read input.calls input_now.calls
    → StopsAt (stop_of fault) old new (outside input output) (outside input_now output_now) text
stops_reading faults.ReadFault old new input input_now output output_now text writing lacks cause = record
    { reading = lacks; count = cause.1; writing = writing }
stops_reading faults.Spent old new input input_now output output_now text writing lacks cause = record { reading = lacks; count = cause.1; writing = writing }
stops_reading faults.OutOfMemory old new input input_now output output_now text writing lacks cause = record {
  reading = record { piece = lacks.piece; consumed = lacks.consumed; count = lacks.count; bytes = tt };
  writing = front_all output.taken output_now.taken text writing;
}

-- and no item was whole before
pub stops_unbuffered : (fault : LineFault) (old same new : ItemFeed) (input input_now : Input) (output output_now : Output) (text : List ℕ) → same ≡ old
    → output_now.taken ≡ added output.taken text → Reads same.waiting same.read new.read input input_now (LacksItem fault)
    → HasFault fault new.read input.calls input_now.calls
    → StopsAt (stop_of fault) old new (outside input output) (outside input_now output_now) text
stops_unbuffered fault old same new input input_now output output_now text as_before writing lacks cause =
    subst (λ (old : ItemFeed). StopsAt (stop_of fault) old new (outside input output) (outside input_now output_now) text) as_before
    (stops_reading fault same new input input_now output output_now text writing lacks cause)

-- at least a byte was taken of an item that is not the end
pub spends_item : (item : Option Item) (feed feed_now : ItemFeed) (piece : List ℕ) (ended : Bool) → ended ≡ false
    → IsTaken item ended (feed.waiting ++ piece) feed_now.waiting → feed_now.read ≡ feed.read + length piece
    → feed.read + length feed_now.waiting + 1 ≤ feed_now.read + length feed.waiting
spends_item None feed feed_now piece ended going taken read = absurd (let no = taken.at_end in cc)
spends_item (Some item) feed feed_now piece true going taken read = absurd (cc)
spends_item (Some item) feed feed_now piece false going taken read = omega (arith, taken.shorter, read, length-append feed.waiting piece)

-- what is printed of the bytes that were taken is the front of what is printed of the script, whatever later verdicts are
abbrev pub Begins : Answer → Option (List ℕ) → List Verdict → List ℕ → Type 0
Begins first script verdicts total =
    WhereTold script (λ script. (later : List Verdict) → (rest : List ℕ) × (out_after first (verdicts ++ later) script ≡ total ++ rest))

-- all that is printed after an answer
printed_after : (so_far later : Answer) → with_list (and_then so_far later) ≡ so_far.text ++ (later.text ++ shown Frus later.past)
printed_after so_far later = append_assoc so_far.text later.text (shown Frus later.past)

so_far_begins : (first : Answer) (left left_now : Option (List ℕ)) (taken waiting : List ℕ) (verdicts : List Verdict) (number : ℕ) (so_far : Answer)
    → Consumes left left_now taken → SoFar first taken waiting verdicts number so_far → Begins first left verdicts so_far.text
so_far_begins first None left_now taken waiting verdicts number so_far consumed machine = tt
so_far_begins first (Some script) None taken waiting verdicts number so_far consumed machine = absurd consumed
so_far_begins first (Some script) (Some rest) taken waiting verdicts number so_far consumed machine = λ later_verdicts.
    let later : Answer = answers Line number so_far.past later_verdicts (items_of (waiting ++ rest)) in (
      later.text ++ shown Frus later.past,
      ap (out_after first (verdicts ++ later_verdicts)) consumed ∙ ap with_list (machine.all rest later_verdicts) ∙ printed_after so_far later,
    )

-- the script was what was taken, where the source was read to its end
taken_all : (script taken rest : List ℕ) → script ≡ taken ++ rest → rest ≡ [] → script ≡ taken
taken_all script taken rest consumed at_end = consumed ∙ ap (λ (rest : List ℕ). taken ++ rest) at_end ∙ append-nil taken

ended_begins : (first : Answer) (left left_now : Option (List ℕ)) (taken : List ℕ) (verdicts : List Verdict) (so_far : Answer)
    → Consumes left left_now taken → IsAtEnd left_now → HasEnded first taken verdicts so_far → Begins first left verdicts (with_list so_far)
ended_begins first None left_now taken verdicts so_far consumed at_end machine = tt
ended_begins first (Some script) None taken verdicts so_far consumed at_end machine = absurd consumed
ended_begins first (Some script) (Some rest) taken verdicts so_far consumed at_end machine = λ later. (
  [],
  ap (out_after first (verdicts ++ later)) (taken_all script taken rest consumed at_end)
      ∙ ap with_list (machine.all later) ∙ sym (append-nil (with_list so_far)),
)

drop_more : (first : Answer) (script : Option (List ℕ)) (verdicts : List Verdict) (total more : List ℕ) → Begins first script verdicts (total ++ more)
    → Begins first script verdicts total
drop_more first None verdicts total more begins = tt
drop_more first (Some script) verdicts total more begins =
    λ later. (more ++ (begins later).0, (begins later).1 ∙ append_assoc total more (begins later).0)

-- what was written of it is a front
begins_front : (first : Answer) (script : Option (List ℕ)) (verdicts : List Verdict) (old now : Told) (text total : List ℕ) → Begins first script verdicts total
    → Printed old now text total → IsFront first script verdicts old now
begins_front first None verdicts old now text total begins printed = tt
begins_front first (Some script) verdicts old now text total begins printed = λ later.
    front_so_far old now printed.written (text ++ (begins later).0) (out_after first (verdicts ++ later) script) printed.told
    ((begins later).1 ∙ ap (λ (front : List ℕ). front ++ (begins later).0) (sym printed.parts) ∙ append_assoc printed.written text (begins later).0)

-- and so it is where a write of what was gathered, and of more, stops
begins_stopped : (first : Answer) (script : Option (List ℕ)) (verdicts : List Verdict) (old now new : Told) (text more total : List ℕ)
    → Begins first script verdicts (total ++ more) → Printed old now text total → AppendsFront now new (text ++ more) → IsFront first script verdicts old new
begins_stopped first None verdicts old now new text more total begins printed front = tt
begins_stopped first (Some script) verdicts old now new text more total begins printed front = λ later.
    front_after old now new printed.written (text ++ more) (out_after first (verdicts ++ later) script) (begins later).0 printed.told front
    ((begins later).1 ∙ ap (λ (whole : List ℕ). (whole ++ more) ++ (begins later).0) (sym printed.parts)
    ∙ ap (λ (whole : List ℕ). whole ++ (begins later).0) (append_assoc printed.written text more)
    ∙ append_assoc printed.written (text ++ more) (begins later).0)

begins_cut : (first : Answer) (script : Option (List ℕ)) (verdicts : List Verdict) (old now new : Told) (text total : List ℕ)
    → Begins first script verdicts total → Printed old now text total → AppendsFront now new text → IsFront first script verdicts old new
begins_cut first script verdicts old now new text total begins printed front =
    begins_stopped first script verdicts old now new text [] total (subst (Begins first script verdicts) (sym (append-nil total)) begins) printed
    (subst (AppendsFront now new) (sym (append-nil text)) front)

-- the verdicts are tied to the items of the script
tied_by : (first : Answer) (ended : Bool) (left left_now : Option (List ℕ)) (taken waiting : List ℕ) (verdicts : List Verdict) (number : ℕ) (so_far : Answer)
    → Consumes left left_now taken → (ended ≡ true → IsAtEnd left_now) → HasCome first ended taken waiting verdicts number so_far
    → WhereTold left (λ script. AreTied (items_of script) verdicts)
tied_by first ended None left_now taken waiting verdicts number so_far consumed at_end machine = tt
tied_by first ended (Some script) None taken waiting verdicts number so_far consumed at_end machine = absurd consumed
tied_by first false (Some script) (Some rest) taken waiting verdicts number so_far consumed at_end machine =
    subst₂ (λ (bytes : List ℕ) (all : List Verdict). AreTied (items_of bytes) all) (sym consumed) (append-nil verdicts) (machine.tied rest [] tt)
tied_by first true (Some script) (Some rest) taken waiting verdicts number so_far consumed at_end machine =
    subst (λ (bytes : List ℕ). AreTied (items_of bytes) verdicts) (sym (taken_all script taken rest consumed (at_end refl))) machine.tied

going : {A : Type 0} → false ≡ true → A
going never = absurd (cc)

-- verdicts on an item that was not taken are tied to the script, behind those before it
left_tied : (first : Answer) (ended : Bool) (left left_now : Option (List ℕ)) (taken waiting piece rest : List ℕ) (verdicts more : List Verdict) (number : ℕ)
    (so_far : Answer) (item : Item) → Consumes left left_now (taken ++ piece) → (ended ≡ true → IsAtEnd left_now)
    → SoFar first taken waiting verdicts number so_far → IsTaken (Some item) ended (waiting ++ piece) rest → AreTied (item ∷ []) more
    → WhereTold left (λ script. AreTied (items_of script) (verdicts ++ more))
left_tied first ended None left_now taken waiting piece rest verdicts more number so_far item consumed at_end machine came tied = tt
left_tied first ended (Some script) None taken waiting piece rest verdicts more number so_far item consumed at_end machine came tied = absurd consumed
left_tied first false (Some script) (Some behind) taken waiting piece rest verdicts more number so_far item consumed at_end machine came tied =
    subst (λ (bytes : List ℕ). AreTied (items_of bytes) (verdicts ++ more)) (sym (consumed ∙ append_assoc taken piece behind))
    (machine.tied (piece ++ behind) more
    (subst (λ (items : List Item). AreTied items more) (sym (ap items_of (sym (append_assoc waiting piece behind)) ∙ came.all behind))
    (first_tied item (items_of (rest ++ behind)) more tied)))
  where
    first_tied : (item : Item) (items : List Item) (more : List Verdict) → AreTied (item ∷ []) more → AreTied (item ∷ items) more
    first_tied item items [] tied = tt
    first_tied item items (verdict ∷ []) tied = (tied.0, tt)
    first_tied item items (verdict ∷ other ∷ later) tied = absurd tied.1
left_tied first true (Some script) (Some behind) taken waiting piece rest verdicts more number so_far item consumed at_end machine came tied =
    subst (λ (bytes : List ℕ). AreTied (items_of bytes) (verdicts ++ more)) (sym (taken_all script (taken ++ piece) behind consumed (at_end refl)))
    (machine.tied piece more (subst (λ (items : List Item). AreTied items more) (sym came.all) tied))

pub large_more : (maker now new : List (List ℕ)) (verdicts more : List Verdict) → now ≡ maker ++ large_texts verdicts → new ≡ now ++ large_texts more
    → new ≡ maker ++ large_texts (verdicts ++ more)
large_more maker now new verdicts more before later =
    later ∙ ap (λ (texts : List (List ℕ)). texts ++ large_texts more) before ∙ append_assoc maker (large_texts verdicts) (large_texts more)
    ∙ ap (λ (texts : List (List ℕ)). maker ++ texts) (sym (flat_map-append large_in verdicts more))

-- a write in the final list stops for want of memory or by a fault of the sink
stops_after : (first : Answer) (stop : Stop) (verdicts : List Verdict) (before now : Outside) (calls calls_now : Calls)
    → Takes before now (λ count. count ≤ longest_script) → WriteCause stop calls calls_now → Reaches first (Err stop) verdicts before now
stops_after first stops.OutOfMemory verdicts before now calls calls_now takes cause = takes
stops_after first stops.WriteFault verdicts before now calls calls_now takes cause = takes
stops_after first stops.ReadFault verdicts before now calls calls_now takes cause = absurd cause
stops_after first stops.TooLong verdicts before now calls calls_now takes cause = absurd cause

all_written : (first : Answer) (refused : ℕ) (left left_now : Option (List ℕ)) (taken : List ℕ) (verdicts : List Verdict) (so_far : Answer) (old new : Told)
    → Consumes left left_now taken → IsAtEnd left_now → HasEnded first taken verdicts so_far → refused ≡ raised 0 so_far.refused
    → new ≡ added old (with_list so_far)
    → WhereTold left (λ script. Writes first (Ok refused) script verdicts old new)
all_written first refused None left_now taken verdicts so_far old new consumed at_end machine same text = tt
all_written first refused (Some script) None taken verdicts so_far old new consumed at_end machine same text = absurd consumed
all_written first refused (Some script) (Some rest) taken verdicts so_far old new consumed at_end machine same text =
    let script_is : script ≡ taken = taken_all script taken rest consumed at_end in
    let is : answer_after first verdicts script ≡ so_far =
    ap (answer_after first verdicts) script_is ∙ ap (λ (all : List Verdict). answer_after first all taken) (sym (append-nil verdicts)) ∙ machine.all [] in
    record {
      each = machine.each ∙ sym (ap (λ (bytes : List ℕ). length (items_of bytes)) script_is);
      text = text ∙ ap (λ (answer : Answer). added old (with_list answer)) (sym is);
      refusals = same ∙ ap (λ (answer : Answer). raised 0 answer.refused) (sym is);
    }

module _ {L C : Type 0} where
  -- of a run of which nothing is still to be done only text is gathered
  text_is : (run : Run L C) → run.pending ≡ Nothing → string_bytes run.text ≡ gathered run
  text_is run none =
      sym (append-nil (string_bytes run.text)) ∙ ap (λ (pending : Pending). string_bytes run.text ++ asked pending run.core) (sym none)

  -- and it stands for a history as its core does
  stood_is : (run : Run L C) (past : List Step) → run.pending ≡ Nothing → Stands (settled run.pending run.core) past → Stands run.core past
  stood_is run past none stands = subst (λ (pending : Pending). Stands (settled pending run.core) past) none stands

  -- what was still to be done is done, and text moved
  abbrev pub IsMoved : Run L C → Run L C → Type 0
  IsMoved run moved = moved ≡ record run { core = settled run.pending run.core; text = moved.text; pending = Nothing }

  -- then nothing is still to be done, and the number is the same
  pub told_none : (run moved : Run L C) → IsMoved run moved → moved.pending ≡ Nothing
  told_none run moved same = ap (λ (run : Run L C). run.pending) same

  pub told_number : (run moved : Run L C) → IsMoved run moved → moved.number ≡ run.number
  told_number run moved same = ap (λ (run : Run L C). run.number) same

  -- the number of the next item
  numbered : (item : Option Item) (moved run_now : Run L C) (maker maker_now : Maker) (ended : Bool) (bytes rest : List ℕ) → ended ≡ false
      → IsTaken item ended bytes rest → TakesNext item moved run_now maker maker_now → run_now.number ≡ moved.number + 1
  numbered None moved run_now maker maker_now ended bytes rest going taken takes = absurd (let no = taken.at_end in cc)
  numbered (Some item) moved run_now maker maker_now ended bytes rest going taken takes = takes.number

  -- and where only text moved before
  pub counted_next : (item : Option Item) (run moved run_now : Run L C) (maker maker_now : Maker) (ended : Bool) (bytes rest : List ℕ)
      → ended ≡ false → moved ≡ record run { text = moved.text } → IsTaken item ended bytes rest → TakesNext item moved run_now maker maker_now
      → run_now.number ≡ run.number + 1
  counted_next item run moved run_now maker maker_now ended bytes rest going same taken takes =
      numbered item moved run_now maker maker_now ended bytes rest going taken takes ∙ ap (λ (run : Run L C). run.number + 1) same

module _ {L C : Type 0} (first : Answer) where
  -- it begins
  pub along_none : (input : Input) (before output : Output) (maker : Maker) (feed : ItemFeed) (run : Run L C)
      → feed ≡ record { line = []; block = []; waiting = []; read = 0; ended = false } → IsReady run → IsAfter first before.taken output.taken run
      → Along first false (outside input before) (outside input output) maker maker feed run
  along_none input before output maker feed run none ready after = record {
    taken = [];
    verdicts = [];
    so_far = first;
    consumed = Consumes-nil input.left;
    read = sym (ap (λ (feed : ItemFeed). feed.read) none);
    large = sym (append-nil maker.refused);
    printed = subst (λ (text : List ℕ). Printed before.taken output.taken text first.text) (text_is run ready.pending) after.printed;
    stands = subst (λ (pending : Pending). Stands (settled pending run.core) first.past) (sym ready.pending) after.core;
    refused = after.refused;
    machine = rw (ap (λ (feed : ItemFeed). feed.waiting) none, ready.number) (so_far_none first);
  }

  -- it stops before it begins
  pub never_begun : (input : Input) (before output : Output) (maker : Maker) (run : Run L C) → IsAfter first before.taken output.taken run
      → Replays first (Err stops.OutOfMemory) (outside input before) (outside input output) maker maker
  never_begun input before output maker run after = record {
    verdicts = [];
    tied = none_tied input.left;
    large = sym (append-nil maker.refused);
    text = stopped first stops.OutOfMemory input.left [] before.taken output.taken
        (begins_front first input.left [] before.taken output.taken (string_bytes run.text) first.text
        (so_far_begins first input.left input.left [] [] [] 1 first (Consumes-nil input.left) (so_far_none first)) after.printed);
    reached = record { bytes = []; consumed = Consumes-nil input.left; count = omega arith };
  }

  along_begins : (ended : Bool) (before now : Outside) (maker maker_now : Maker) (feed : ItemFeed) (run : Run L C)
      (along : Along first ended before now maker maker_now feed run) → (ended ≡ true → IsAtEnd now.input.left)
      → Begins first before.input.left along.verdicts along.so_far.text
  along_begins false before now maker maker_now feed run along at_end =
      so_far_begins first before.input.left now.input.left along.taken feed.waiting along.verdicts run.number along.so_far along.consumed along.machine
  along_begins true before now maker maker_now feed run along at_end =
      drop_more first before.input.left along.verdicts along.so_far.text (shown Frus along.so_far.past)
      (ended_begins first before.input.left now.input.left along.taken along.verdicts along.so_far along.consumed (at_end refl) along.machine)

  along_tied : (ended : Bool) (before now : Outside) (maker maker_now : Maker) (feed : ItemFeed) (run : Run L C)
      (along : Along first ended before now maker maker_now feed run) → (ended ≡ true → IsAtEnd now.input.left)
      → WhereTold before.input.left (λ script. AreTied (items_of script) along.verdicts)
  along_tied ended before now maker maker_now feed run along at_end =
      tied_by first ended before.input.left now.input.left along.taken feed.waiting along.verdicts run.number along.so_far along.consumed at_end along.machine

  -- a run stops here: by this front, and having reached this
  along_replays : (stop : Stop) (ended : Bool) (before now new : Outside) (maker maker_now : Maker) (feed : ItemFeed) (run : Run L C)
      (along : Along first ended before now maker maker_now feed run) → (ended ≡ true → IsAtEnd now.input.left)
      → IsFront first before.input.left along.verdicts before.output.taken new.output.taken → Reaches first (Err stop) along.verdicts before new
      → Replays first (Err stop) before new maker maker_now
  along_replays stop ended before now new maker maker_now feed run along at_end front reached = record {
    verdicts = along.verdicts;
    tied = along_tied ended before now maker maker_now feed run along at_end;
    large = along.large;
    text = stopped first stop before.input.left along.verdicts before.output.taken new.output.taken front;
    reached = reached;
  }

  -- a write of what was gathered stops
  along_cut : (ended : Bool) (before now new : Outside) (maker maker_now : Maker) (feed : ItemFeed) (run : Run L C)
      (along : Along first ended before now maker maker_now feed run) → (ended ≡ true → IsAtEnd now.input.left)
      → AppendsFront now.output.taken new.output.taken (gathered run)
      → IsFront first before.input.left along.verdicts before.output.taken new.output.taken
  along_cut ended before now new maker maker_now feed run along at_end front =
      begins_cut first before.input.left along.verdicts before.output.taken now.output.taken new.output.taken (gathered run) along.so_far.text
      (along_begins ended before now maker maker_now feed run along at_end) along.printed front

  -- an item was got and not taken
  along_front : (before now new : Outside) (maker maker_now : Maker) (feed : ItemFeed) (run : Run L C) (text : List ℕ)
      (along : Along first false before now maker maker_now feed run) → run.pending ≡ Nothing
      → Gathers now.output.taken new.output.taken (string_bytes run.text) text []
      → IsFront first before.input.left along.verdicts before.output.taken new.output.taken
  along_front before now new maker maker_now feed run text along none gathers =
      begins_front first before.input.left along.verdicts before.output.taken new.output.taken text along.so_far.text
      (along_begins false before now maker maker_now feed run along (λ no. absurd (cc)))
      (printed_moved before.output.taken now.output.taken new.output.taken (gathered run) text along.so_far.text along.printed
      (subst (λ (front : List ℕ). Gathers now.output.taken new.output.taken front text []) (text_is run none) gathers))

  -- so many bytes were taken by then, whatever is written after it
  along_count : (ended : Bool) (before now new : Outside) (maker maker_now : Maker) (feed : ItemFeed) (run : Run L C) (IsCount : ℕ → Type 0)
      → Along first ended before now maker maker_now feed run → now.input ≡ new.input → IsCount feed.read → Takes before new IsCount
  along_count ended before now new maker maker_now feed run IsCount along same count = record {
    bytes = along.taken;
    consumed = subst (λ (input : Input). Consumes before.input.left input.left along.taken) same along.consumed;
    count = subst IsCount (sym along.read) count;
  }

  -- and a piece more
  along_piece : (before now new : Outside) (maker maker_now : Maker) (feed feed_now : ItemFeed) (run : Run L C) (piece : List ℕ) (IsCount : ℕ → Type 0)
      → Along first false before now maker maker_now feed run → Consumes now.input.left new.input.left piece → feed_now.read ≡ feed.read + length piece
      → IsCount feed_now.read → Takes before new IsCount
  along_piece before now new maker maker_now feed feed_now run piece IsCount along consumed read count = record {
    bytes = along.taken ++ piece;
    consumed = Consumes-trans before.input.left now.input.left new.input.left along.taken piece along.consumed consumed;
    count = subst IsCount (read ∙ ap (λ n. n + length piece) (sym along.read) ∙ sym (length-append along.taken piece)) count;
  }

  -- all that was printed is written, and it is what is printed of the items that are whole in the bytes taken
  along_whole : (before now new : Outside) (maker maker_now : Maker) (feed feed_now : ItemFeed) (run : Run L C) (IsCount : ℕ → Type 0)
      (along : Along first false before now maker maker_now feed run) → GetsNothing feed feed_now now new (gathered run) IsCount
      → WritesWhole first along.verdicts before new IsCount
  unfolding along_piece
  along_whole before now new maker maker_now feed feed_now run IsCount along gets =
      let counted = along_piece before now new maker maker_now feed feed_now run gets.reading.piece IsCount along gets.reading.consumed
      gets.reading.count gets.count in
      record {
        bytes = counted.bytes;
        consumed = counted.consumed;
        count = counted.count;
        text =
            gets.writing ∙ ap (λ (told : Told). added told (gathered run)) along.printed.told
            ∙ added_more before.output.taken along.printed.written (gathered run)
            ∙ ap (added before.output.taken) (along.printed.parts
            ∙ sym (ap (λ (answer : Answer). answer.text)
            (so_far_whole first along.taken feed.waiting gets.reading.piece along.verdicts run.number along.so_far along.machine gets.reading.bytes)));
      }

  -- the run stops where an item is wanted
  stops_along : (stop : Stop) (before now new : Outside) (maker maker_now : Maker) (feed feed_now : ItemFeed) (run : Run L C)
      → feed_now.read ≤ longest_script → Along first false before now maker maker_now feed run → StopsAt stop feed feed_now now new (gathered run)
      → Replays first (Err stop) before new maker maker_now
  stops_along stops.OutOfMemory before now new maker maker_now feed feed_now run limit along how =
      along_replays stops.OutOfMemory false before now new maker maker_now feed run along going
      (along_cut false before now new maker maker_now feed run along going how.writing)
      (along_piece before now new maker maker_now feed feed_now run how.reading.piece (λ count. count ≤ longest_script) along how.reading.consumed
      how.reading.count limit)
  stops_along stops.WriteFault before now new maker maker_now feed feed_now run limit along how =
      along_replays stops.WriteFault false before now new maker maker_now feed run along going
      (along_cut false before now new maker maker_now feed run along going how.writing)
      (along_piece before now new maker maker_now feed feed_now run how.reading.piece (λ count. count ≤ longest_script) along how.reading.consumed
      how.reading.count limit)
  stops_along stops.ReadFault before now new maker maker_now feed feed_now run limit along how =
      along_replays stops.ReadFault false before now new maker maker_now feed run along going
      (along_cut false before now new maker maker_now feed run along going
      (front_all now.output.taken new.output.taken (gathered run) how.writing))
      (along_whole before now new maker maker_now feed feed_now run (λ count. count < longest_script) along how)
  stops_along stops.TooLong before now new maker maker_now feed feed_now run limit along how =
      along_replays stops.TooLong false before now new maker maker_now feed run along going
      (along_cut false before now new maker maker_now feed run along going
      (front_all now.output.taken new.output.taken (gathered run) how.writing))
      (along_whole before now new maker maker_now feed feed_now run (λ count. count ≡ longest_script) along how)

  pub along_stops : (stop : Stop) (before now new : Outside) (maker maker_now : Maker) (feed feed_now : ItemFeed) (run : Run L C)
      → feed_now.read ≤ longest_script → Along first false before now maker maker_now feed run → run.pending ≡ Nothing
      → StopsAt stop feed feed_now now new (string_bytes run.text) → Replays first (Err stop) before new maker maker_now
  along_stops stop before now new maker maker_now feed feed_now run limit along none how =
      stops_along stop before now new maker maker_now feed feed_now run limit along (subst (StopsAt stop feed feed_now now new) (text_is run none) how)

  -- the run stops where what came is not taken for want of memory
  pub along_leaves : (item : Option Item) (ended : Bool) (before now new : Outside) (maker maker_now maker_new : Maker) (feed feed_now : ItemFeed)
      (run : Run L C) (text : List ℕ) → feed_now.read ≤ longest_script → (ended ≡ true → IsAtEnd new.input.left)
      → Along first false before now maker maker_now feed run → run.pending ≡ Nothing
      → Reads feed.waiting feed.read feed_now.read now.input new.input (λ bytes. IsTaken item ended bytes feed_now.waiting)
      → Gathers now.output.taken new.output.taken (string_bytes run.text) text [] → LeavesNext item maker_now maker_new
      → Replays first (Err stops.OutOfMemory) before new maker maker_new
  along_leaves None ended before now new maker maker_now maker_new feed feed_now run text limit at_end along none came gathers leaves = record {
    verdicts = along.verdicts;
    tied = along_tied false before now maker maker_now feed run along going;
    large = ap (λ (maker : Maker). maker.refused) leaves ∙ along.large;
    text = stopped first stops.OutOfMemory before.input.left along.verdicts before.output.taken new.output.taken
        (along_front before now new maker maker_now feed run text along none gathers);
    reached = along_piece before now new maker maker_now feed feed_now run came.piece (λ count. count ≤ longest_script) along came.consumed came.count limit;
  }
  along_leaves (Some item) ended before now new maker maker_now maker_new feed feed_now run text limit at_end along none came gathers leaves = record {
    verdicts = along.verdicts ++ leaves.verdicts;
    tied =
        left_tied first ended before.input.left new.input.left along.taken feed.waiting came.piece feed_now.waiting along.verdicts leaves.verdicts run.number
        along.so_far item
        (Consumes-trans before.input.left now.input.left new.input.left along.taken came.piece along.consumed came.consumed) at_end along.machine
        came.bytes leaves.tied;
    large = large_more maker.refused maker_now.refused maker_new.refused along.verdicts leaves.verdicts along.large leaves.large;
    text = stopped first stops.OutOfMemory before.input.left (along.verdicts ++ leaves.verdicts) before.output.taken new.output.taken
        (front_under first before.input.left along.verdicts leaves.verdicts before.output.taken new.output.taken
        (along_front before now new maker maker_now feed run text along none gathers));
    reached = along_piece before now new maker maker_now feed feed_now run came.piece (λ count. count ≤ longest_script) along came.consumed came.count limit;
  }

  -- what was gathered, or what is still to come, stops on its way out, after an item was taken
  pub along_unwritten : (stop : Stop) (ended : Bool) (before now new : Outside) (maker maker_now : Maker) (feed : ItemFeed) (run : Run L C)
      (calls calls_now : Calls) → feed.read ≤ longest_script → (ended ≡ true → IsAtEnd now.input.left) → now.input ≡ new.input
      → Along first ended before now maker maker_now feed run → AppendsFront now.output.taken new.output.taken (gathered run)
      → WriteCause stop calls calls_now → Replays first (Err stop) before new maker maker_now
  along_unwritten stop ended before now new maker maker_now feed run calls calls_now limit at_end same along front cause =
      along_replays stop ended before now new maker maker_now feed run along at_end
      (along_cut ended before now new maker maker_now feed run along at_end front)
      (stops_after first stop along.verdicts before new calls calls_now
      (along_count ended before now new maker maker_now feed run (λ count. count ≤ longest_script) along same limit) cause)

  -- what came is taken, after what was gathered moved
  pub along_next : (next : NextItem) (before now new : Outside) (maker maker_now maker_new : Maker) (feed feed_now : ItemFeed) (run moved run_now : Run L C)
      → moved ≡ record run { text = moved.text } → Along first false before now maker maker_now feed run → run.pending ≡ Nothing
      → TakesNextItem next feed feed_now now.input new.input
      → Gathers now.output.taken new.output.taken (string_bytes run.text) (string_bytes moved.text) []
      → TakesNext (item_next next feed_now) moved run_now maker_now maker_new
      → Along first feed_now.ended before new maker maker_new feed_now run_now
  unfolding along_piece
  along_next next before now new maker maker_now maker_new feed feed_now run moved run_now same along none came gathers takes =
      of (item_next next feed_now) feed_now.ended came.bytes takes
    where
      stood : Stands moved.core along.so_far.past
      stood = subst (λ (view : CoreView). Stands view along.so_far.past) (sym (ap (λ (run : Run L C). run.core) same))
          (stood_is run along.so_far.past none along.stands)

      moved_none : moved.pending ≡ Nothing
      moved_none = ap (λ (run : Run L C). run.pending) same ∙ none

      refused : moved.refused ≡ raised 0 along.so_far.refused
      refused = ap (λ (run : Run L C). run.refused) same ∙ along.refused

      machine : SoFar first along.taken feed.waiting along.verdicts moved.number along.so_far
      machine = subst (λ (number : ℕ). SoFar first along.taken feed.waiting along.verdicts number along.so_far) (sym (ap (λ (run : Run L C). run.number) same))
          along.machine

      printed : Printed before.output.taken new.output.taken (string_bytes moved.text) along.so_far.text
      printed = printed_moved before.output.taken now.output.taken new.output.taken (gathered run) (string_bytes moved.text) along.so_far.text
          along.printed
          (subst (λ (front : List ℕ). Gathers now.output.taken new.output.taken front (string_bytes moved.text) []) (text_is run none) gathers)

      moved_text : string_bytes moved.text ≡ gathered moved
      moved_text = text_is moved moved_none

      counted : Takes before new (λ n. n ≡ feed_now.read)
      counted = along_piece before now new maker maker_now feed feed_now run came.piece (λ n. n ≡ feed_now.read) along came.consumed came.count refl

      of : (item : Option Item) (ended : Bool) → IsTaken item ended (feed.waiting ++ came.piece) feed_now.waiting
          → TakesNext item moved run_now maker_now maker_new → Along first ended before new maker maker_new feed_now run_now
      of None false last takes = absurd (let no = last.at_end in cc)
      of None true last takes = record {
        taken = along.taken ++ came.piece;
        verdicts = along.verdicts;
        so_far = along.so_far;
        consumed = counted.consumed;
        read = counted.count;
        large = ap (λ (maker : Maker). maker.refused) takes.1 ∙ along.large;
        printed = subst (λ (text : List ℕ). Printed before.output.taken new.output.taken text along.so_far.text)
            (moved_text ∙ sym (ap (λ (run : Run L C). gathered run) takes.0)) printed;
        stands =
            subst (λ (run : Run L C). Stands (settled run.pending run.core) along.so_far.past) (sym takes.0)
            (subst (λ (pending : Pending). Stands (settled pending moved.core) along.so_far.past) (sym moved_none) stood);
        refused = ap (λ (run : Run L C). run.refused) takes.0 ∙ refused;
        machine = so_far_end first along.taken feed.waiting came.piece feed_now.waiting along.verdicts moved.number along.so_far true machine last;
      }
      of (Some item) ended bytes takes =
          let follows = takes.follows along.so_far.past stood in
          record {
            taken = along.taken ++ came.piece;
            verdicts = along.verdicts ++ takes.verdict ∷ [];
            so_far = with_item along.so_far moved.number takes.verdict item;
            consumed = counted.consumed;
            read = counted.count;
            large =
                large_more maker.refused maker_now.refused maker_new.refused along.verdicts (takes.verdict ∷ []) along.large
                (takes.is_verdict.large ∙ ap (λ (texts : List (List ℕ)). maker_now.refused ++ texts) (sym (append-nil (large_in takes.verdict))));
            printed =
                printed_more before.output.taken new.output.taken (string_bytes moved.text) (gathered run_now) along.so_far.text
                (answer (refused_line Line moved.number) along.so_far.past takes.verdict item).text printed follows.text;
            stands = follows.stands;
            refused = follows.refused along.so_far.refused refused;
            machine = come ended bytes;
          }
        where
          come : (ended : Bool) → IsTaken (Some item) ended (feed.waiting ++ came.piece) feed_now.waiting
              → HasCome first ended (along.taken ++ came.piece) feed_now.waiting (along.verdicts ++ takes.verdict ∷ []) run_now.number
              (with_item along.so_far moved.number takes.verdict item)
          come true last =
              so_far_last first along.taken feed.waiting came.piece feed_now.waiting along.verdicts moved.number along.so_far takes.verdict item machine
              last takes.is_verdict.tied
          come false begins =
              subst (λ (number : ℕ). SoFar first (along.taken ++ came.piece) feed_now.waiting (along.verdicts ++ takes.verdict ∷ []) number
              (with_item along.so_far moved.number takes.verdict item)) (sym takes.number)
              (so_far_more first along.taken feed.waiting came.piece feed_now.waiting along.verdicts moved.number along.so_far takes.verdict item machine begins
              takes.is_verdict.tied)

  -- what is gathered moves
  pub along_told : (ended : Bool) (before : Outside) (input : Input) (output output_now : Output) (maker maker_now : Maker) (feed : ItemFeed)
      (run moved : Run L C) → IsMoved run moved → Along first ended before (outside input output) maker maker_now feed run
      → Gathers output.taken output_now.taken (gathered run) (string_bytes moved.text) []
      → Along first ended before (outside input output_now) maker maker_now feed moved
  along_told ended before input output output_now maker maker_now feed run moved same along gathers = record {
    taken = along.taken;
    verdicts = along.verdicts;
    so_far = along.so_far;
    consumed = along.consumed;
    read = along.read;
    large = along.large;
    printed =
        printed_moved before.output.taken output.taken output_now.taken (gathered run) (gathered moved) along.so_far.text along.printed
        (subst (λ (rest : List ℕ). Gathers output.taken output_now.taken (gathered run) rest []) (text_is moved (told_none run moved same)) gathers);
    stands = subst (λ (run : Run L C). Stands (settled run.pending run.core) along.so_far.past) (sym same) along.stands;
    refused = ap (λ (run : Run L C). run.refused) same ∙ along.refused;
    machine =
        subst (λ (number : ℕ). HasCome first ended along.taken feed.waiting along.verdicts number along.so_far) (sym (ap (λ (run : Run L C). run.number) same))
        along.machine;
  }

  -- it is known whether the script has ended
  pub along_known : (ended told : Bool) (before now : Outside) (maker maker_now : Maker) (feed : ItemFeed) (run : Run L C) → ended ≡ told
      → Along first ended before now maker maker_now feed run → Along first told before now maker maker_now feed run
  along_known ended told before now maker maker_now feed run known along =
      subst (λ (is_ended : Bool). Along first is_ended before now maker maker_now feed run) known along

  -- what is left to print at the end of the script
  list_of : (before now : Outside) (maker maker_now : Maker) (feed : ItemFeed) (run : Run L C) (along : Along first true before now maker maker_now feed run)
      → run.pending ≡ Nothing → along.so_far.text ++ entry_rows run.core.state.senses.watch.entries ≡ with_list along.so_far
  list_of before now maker maker_now feed run along none =
      ap (λ (rows : List ℕ). along.so_far.text ++ rows)
      (lists_are Frus run.core along.so_far.past (stood_is run along.so_far.past none along.stands))

  -- it stops in the final list
  pub ended_cut : (stop : Stop) (before now new : Outside) (maker maker_now : Maker) (feed : ItemFeed) (run : Run L C) (calls calls_now : Calls)
      → IsAtEnd now.input.left → feed.read ≤ longest_script → now.input ≡ new.input → Along first true before now maker maker_now feed run
      → run.pending ≡ Nothing
      → AppendsFront now.output.taken new.output.taken (string_bytes run.text ++ entry_rows run.core.state.senses.watch.entries)
      → WriteCause stop calls calls_now
      → Replays first (Err stop) before new maker maker_now
  ended_cut stop before now new maker maker_now feed run calls calls_now at_end limit same along none front cause =
      along_replays stop true before now new maker maker_now feed run along (λ yes. at_end)
      (begins_stopped first before.input.left along.verdicts before.output.taken now.output.taken new.output.taken (gathered run)
      (entry_rows run.core.state.senses.watch.entries) along.so_far.text
      (subst (Begins first before.input.left along.verdicts) (sym (list_of before now maker maker_now feed run along none))
      (ended_begins first before.input.left now.input.left along.taken along.verdicts along.so_far along.consumed at_end along.machine))
      along.printed
      (subst (λ (text : List ℕ). AppendsFront now.output.taken new.output.taken (text ++ entry_rows run.core.state.senses.watch.entries))
      (text_is run none) front))
      (stops_after first stop along.verdicts before new calls calls_now
      (along_count true before now new maker maker_now feed run (λ count. count ≤ longest_script) along same limit) cause)

  -- all is written and was taken
  pub ended_all : (before now new : Outside) (maker maker_now : Maker) (feed : ItemFeed) (run : Run L C) → IsAtEnd now.input.left
      → feed.read < longest_script → now.input ≡ new.input → Along first true before now maker maker_now feed run → run.pending ≡ Nothing
      → new.output.taken ≡ added now.output.taken (string_bytes run.text ++ entry_rows run.core.state.senses.watch.entries)
      → Replays first (Ok run.refused) before new maker maker_now
  ended_all before now new maker maker_now feed run at_end few same along none text = record {
    verdicts = along.verdicts;
    tied = along_tied true before now maker maker_now feed run along (λ yes. at_end);
    large = along.large;
    text =
        all_written first run.refused before.input.left now.input.left along.taken along.verdicts along.so_far before.output.taken
        new.output.taken along.consumed
        at_end along.machine along.refused
        (text ∙ ap (λ (text : List ℕ). added now.output.taken (text ++ entry_rows run.core.state.senses.watch.entries)) (text_is run none)
        ∙ ap (λ (told : Told). added told (gathered run ++ entry_rows run.core.state.senses.watch.entries)) along.printed.told
        ∙ added_more before.output.taken along.printed.written (gathered run ++ entry_rows run.core.state.senses.watch.entries)
        ∙ ap (added before.output.taken) (sym (append_assoc along.printed.written (gathered run) (entry_rows run.core.state.senses.watch.entries))
        ∙ ap (λ (text : List ℕ). text ++ entry_rows run.core.state.senses.watch.entries) along.printed.parts
        ∙ list_of before now maker maker_now feed run along none));
    reached = (
      subst (λ (input : Input). IsAtEnd input.left) same at_end,
      along_count true before now new maker maker_now feed run (λ count. count < longest_script) along same few,
    );
  }
