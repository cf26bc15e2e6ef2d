use Rattle.std.proofs.Common.{◌≡◌, ◌∙◌, sym, ap, Some, slice_get, option_map}
use Rattle.match_rows.specs.Matching.{hits_of, channels_of}
use Rattle.match_rows.proofs.MatchingLemmas.{found_more, opened_more, opened_where, counted_more, on_err_config, on_err_behind}
use Rattle.match_rows.proofs.matching.find.Goals as goal

pub loop-number-preserved : goal.loop-number-preserved
loop-number-preserved g c =
    let place = c.args.place in
    let fields = c.args.fru.now in
    let configs = c.args.shelf.now in
    let number = c.loop-number.number in
    let config = c.unwrap-config.result.now in
    let at : slice_get configs number ≡ Some config = sym c.at.ensures ∙ ap (option_map (λ config. config.now)) c.unwrap-config.ensures in
    record {
      found =
          found_more place fields configs number config c.loop-number.hits c.append_hits.new.hits (hits_of configs place fields)
          at c.loop-number.invariant.found c.in_ok-is_match.ensures.ok;
      opened =
          opened_more place fields configs number config c.loop-number.channels c.append_if.new.channels (channels_of configs place fields)
          at c.loop-number.invariant.opened
          (opened_where place fields number config c.loop-number.channels c.append_if.new.channels c.in_ok-is_match.is_match
          c.in_ok-is_match.ensures.any c.in_ok-append_if.ensures);
      counted =
          counted_more c.args.steps.now c.loop-number.steps c.append_hits.new.steps configs number config
          at c.loop-number.invariant.counted c.in_ok-is_match.ensures.counted;
    }

pub returns-in_err-is_match-clause-limit : goal.returns-in_err-is_match-clause-limit
returns-in_err-is_match-clause-limit g c =
    let configs = c.args.shelf.now in
    let number = c.loop-number.number in
    let config = c.unwrap-config.result.now in
    let at : slice_get configs number ≡ Some config = sym c.at.ensures ∙ ap (option_map (λ config. config.now)) c.unwrap-config.ensures in
    on_err_config c.from_residual.result c.args.steps.now c.loop-number.steps c.append_hits.new.steps configs number config
    at c.loop-number.invariant.counted c.in_err-is_match.ensures.limit

pub returns-in_err-append_if-clause-limit : goal.returns-in_err-append_if-clause-limit
returns-in_err-append_if-clause-limit g c =
    let configs = c.args.shelf.now in
    let number = c.loop-number.number in
    let config = c.unwrap-config.result.now in
    let at : slice_get configs number ≡ Some config = sym c.at.ensures ∙ ap (option_map (λ config. config.now)) c.unwrap-config.ensures in
    on_err_behind c.from_residual-in_err-append_if.result c.args.steps.now c.loop-number.steps c.append_hits.new.steps configs number config
    at c.loop-number.invariant.counted c.in_ok-is_match.ensures.counted
