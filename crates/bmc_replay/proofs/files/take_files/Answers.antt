-- Files are taken one after another.
use Rattle.std.proofs.Common.{◌∙◌, ◌+◌, ◌∷◌, ◌++◌, Bor, List, ℕ, Option, [], arith, drop, get_or, map, refl, subst, suc, sym, take}
use Rattle.std.proofs.lemmas.Result.{err_from_is_err_and}
use Rattle.bmc_replay.specs.Files.{HasTaken, StopsAtFile}
use Rattle.bmc_replay.proofs.FilesLemmas.{cause_behind, names_all, names_contain, names_more, names_split, reads_nothing, reads_on}
use Rattle.bmc_replay.proofs.files.take_files.Goals as goal

pub loop-name-init : goal.loop-name-init
loop-name-init g c = record {
  comes = λ options told first has. has;
  none = c.requires.ready.pending;
  number = c.requires.ready.number ∙ omega arith;
  sound = reads_nothing _;
  sink = refl;
}

pub take_file-requires-clause-none : goal.take_file-requires-clause-none
take_file-requires-clause-none g c = c.loop-name.invariant.none

pub take_file-requires-clause-few : goal.take_file-requires-clause-few
take_file-requires-clause-few g c =
    let sized = c.well_formed.1.1.0.1 in
    let number = c.loop-name.invariant.number in
    let within = c.loop-name-test.true in
    omega (arith, sized, number, within)

pub returns-in_err-take_file-clause-stops : goal.returns-in_err-take_file-clause-stops
returns-in_err-take_file-clause-stops g c =
    let p = err_from_is_err_and c.from_residual.result c.from_residual.ensures.1 in
    let text : Bor (List ℕ) → List ℕ = λ name. name.now in
    let none : Bor (List ℕ) = record { ref_ptr = (0, 0); now = [] } in
    let within = c.loop-name-test.true in
    let before : List (List ℕ) = map text (take c.loop-name.name-index c.args.names.now) in
    let name : List ℕ = text (get_or c.args.names.now c.loop-name.name-index none) in
    let behind : List (List ℕ) = map text (drop (suc c.loop-name.name-index) c.args.names.now) in
    rw p.1 (λ options told first has.
    subst (λ (names : List (List ℕ)).
    StopsAtFile options (g.Fs.Files.seen c.args.files.now).holds names told (g.K.Sink.seen c.take_file.new.output).taken first
    (g.M.PatternMaker.seen c.take_file.new.maker))
    (sym (names_split text c.args.names.now c.loop-name.name-index none within))
    (subst (λ (holds : Option (List (List ℕ × List ℕ))).
    HasTaken options holds before told (g.K.Sink.seen c.loop-name.output).taken first (g.M.PatternMaker.seen c.loop-name.maker) c.loop-name.run
    → StopsAtFile options holds (before ++ name ∷ behind) told (g.K.Sink.seen c.take_file.new.output).taken first
    (g.M.PatternMaker.seen c.take_file.new.maker))
    c.loop-name.invariant.sound.holds
    (c.in_err-take_file.ensures.stops options before behind told first)
    (c.loop-name.invariant.comes options told first has)))

pub returns-in_err-take_file-clause-cause : goal.returns-in_err-take_file-clause-cause
returns-in_err-take_file-clause-cause g c =
    let p = err_from_is_err_and c.from_residual.result c.from_residual.ensures.1 in
    let text : Bor (List ℕ) → List ℕ = λ name. name.now in
    let none : Bor (List ℕ) = record { ref_ptr = (0, 0); now = [] } in
    rw (p.1, p.2)
    (cause_behind c.in_err-take_file.field-0.0 _ (g.Fs.Files.seen c.args.files.now) (g.Fs.Files.seen c.loop-name.files) (g.Fs.Files.seen c.take_file.new.files)
    (g.K.Sink.seen c.args.output.now).calls (g.K.Sink.seen c.loop-name.output).calls (g.K.Sink.seen c.take_file.new.output).calls
    c.loop-name.invariant.sound c.loop-name.invariant.sink
    (c.in_err-take_file.ensures.cause _ (names_contain text c.args.names.now c.loop-name.name-index none c.loop-name-test.true)))

pub loop-name-preserved : goal.loop-name-preserved
loop-name-preserved g c =
    let text : Bor (List ℕ) → List ℕ = λ name. name.now in
    let none : Bor (List ℕ) = record { ref_ptr = (0, 0); now = [] } in
    let sound = c.in_ok-take_file.ensures.sound in
    let before : List (List ℕ) = map text (take c.loop-name.name-index c.args.names.now) in
    let name : List ℕ = text (get_or c.args.names.now c.loop-name.name-index none) in
    record {
      comes = λ options told first has.
          subst (λ (names : List (List ℕ)).
          HasTaken options (g.Fs.Files.seen c.args.files.now).holds names told (g.K.Sink.seen c.take_file.new.output).taken first
          (g.M.PatternMaker.seen c.take_file.new.maker) c.take_file.new.run)
          (sym (names_more text c.args.names.now c.loop-name.name-index none c.loop-name-test.true))
          (subst (λ (holds : Option (List (List ℕ × List ℕ))).
          HasTaken options holds before told (g.K.Sink.seen c.loop-name.output).taken first (g.M.PatternMaker.seen c.loop-name.maker) c.loop-name.run
          → HasTaken options holds (before ++ name ∷ []) told (g.K.Sink.seen c.take_file.new.output).taken first
          (g.M.PatternMaker.seen c.take_file.new.maker) c.take_file.new.run)
          c.loop-name.invariant.sound.holds
          (c.in_ok-take_file.ensures.taken options before told first)
          (c.loop-name.invariant.comes options told first has));
      none = c.in_ok-take_file.ensures.none;
      number =
          let number = c.in_ok-take_file.ensures.number in
          let before = c.loop-name.invariant.number in
          omega (arith, number, before);
      sound = reads_on _ _ _ c.loop-name.invariant.sound sound.0;
      sink = sound.1 ∙ c.loop-name.invariant.sink;
    }

pub returns-clause-taken : goal.returns-clause-taken
returns-clause-taken g c = λ options told first has.
    let text : Bor (List ℕ) → List ℕ = λ name. name.now in
    subst (λ (names : List (List ℕ)).
    HasTaken options (g.Fs.Files.seen c.args.files.now).holds names told (g.K.Sink.seen c.loop-name.output).taken first
    (g.M.PatternMaker.seen c.loop-name.maker) c.loop-name.run)
    (names_all text c.args.names.now c.loop-name.name-index (let over = c.loop-name-test.false in omega (arith, over)))
    (c.loop-name.invariant.comes options told first has)

pub returns-clause-none : goal.returns-clause-none
returns-clause-none g c = c.loop-name.invariant.none

pub returns-clause-sound : goal.returns-clause-sound
returns-clause-sound g c = (c.loop-name.invariant.sound, c.loop-name.invariant.sink)
