-- A file is taken behind those before it, or the run stops there.
use Rattle.std.proofs.Common.{◌∷◌, refl}
use Rattle.std.proofs.lemmas.Result.{err_from_is_err_and}
use Rattle.bmc_run.proofs.GatheringLemmas.{gathers_flushed}
use Rattle.bmc_replay.proofs.FilesLemmas.{stops_unread, stops_untaken, stops_unwritten, taken_more, taken_moved}
use Rattle.bmc_replay.proofs.files.take_file.Goals as goal

pub returns-in_err-flush-clause-stops : goal.returns-in_err-flush-clause-stops
returns-in_err-flush-clause-stops g c =
    let p = err_from_is_err_and c.from_residual.result c.from_residual.ensures.1 in
    rw p.1 (λ options names later told first has.
    stops_unwritten options _ names (c.args.name.now ∷ later) told _ _ first _ c.args.run.now has c.flush.ensures.front)

pub returns-in_err-file-clause-stops : goal.returns-in_err-file-clause-stops
returns-in_err-file-clause-stops g c =
    let p = err_from_is_err_and c.from_residual-in_err-file.result c.from_residual-in_err-file.ensures.1 in
    rw p.1 (λ options names later told first has.
    stops_unread options _ names (c.args.name.now ∷ later) told _ first _ _
    (taken_moved options _ names told _ _ first _ c.args.run.now (record c.args.run.now { text = c.flush.new.text }) has refl
    (gathers_flushed _ _ _ _ c.in_ok-flush.ensures.all c.in_ok-flush.ensures.none)))

pub returns-in_err-take_file-clause-stops : goal.returns-in_err-take_file-clause-stops
returns-in_err-take_file-clause-stops g c =
    let p = err_from_is_err_and c.from_residual-in_err-take_file.result c.from_residual-in_err-take_file.ensures.1 in
    rw p.1 (λ options names later told first has.
    stops_untaken options _ names later c.args.name.now c.in_ok-file.file told _ first _ _ (record c.args.run.now { text = c.flush.new.text })
    (taken_moved options _ names told _ _ first _ c.args.run.now (record c.args.run.now { text = c.flush.new.text }) has refl
    (gathers_flushed _ _ _ _ c.in_ok-flush.ensures.all c.in_ok-flush.ensures.none))
    c.in_ok-file.ensures.0 c.in_err-take_file.ensures.err)

pub returns-clause-taken : goal.returns-clause-taken
returns-clause-taken g c = λ options names told first has.
    taken_more options _ names c.args.name.now c.in_ok-file.file told _ first _ _ (record c.args.run.now { text = c.flush.new.text }) c.take_file.new.self
    (taken_moved options _ names told _ _ first _ c.args.run.now (record c.args.run.now { text = c.flush.new.text }) has refl
    (gathers_flushed _ _ _ _ c.in_ok-flush.ensures.all c.in_ok-flush.ensures.none))
    c.in_ok-file.ensures.0 c.in_ok-take_file.ensures.ok c.in_ok-take_file.ensures.none
