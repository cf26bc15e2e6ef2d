use Rattle.std.proofs.Common.{◌∙◌, ◌≡◌, ◌<◌, ap, sym, ℕ, Bool, false, arith, option_map}
use Rattle.found_set.specs.Marks.{is_marked}
use Rattle.cfg_json.specs.Configs.{Config}
use Rattle.inventory.specs.Moments.{boards_now}
use Rattle.inventory.specs.Differences.{Moment, IsMarkedBy, boards_at}
use Rattle.inventory.proofs.DifferencesLemmas.{boards_there, config_more, config_skipped, none_within, same_there}
use Rattle.inventory.proofs.compare.push_shelf.Goals as goal

pub loop-number-preserved : goal.loop-number-preserved
loop-number-preserved g c =
    let config : Config = c.in-Some.config.now in
    let number = c.loop-number.number in
    let configs = c.args.shelf.now in
    let one : c.match_one-match_one.result ≡ config.probe.match_one = c.match_one-match_one.ensures ∙ ap (λ probe. probe.match_one) c.probe.ensures in
    let there = λ (found reach : ℕ → Bool) (moment : Moment). ap (λ (match_one : Bool). boards_now match_one found reach moment number) one
    ∙ boards_there configs found reach moment number config (sym c.in-Some.ensures) in
    record {
      gone = λ found reach found_after reach_after marked marked_after. config_more number (boards_at configs found reach c.args.before.now)
          (boards_at configs found_after reach_after c.args.after.now) _ _ _ _ _
          (c.loop-number.invariant.gone found reach found_after reach_after marked marked_after)
          (c.in_ok-push_config.ensures.gone found reach found_after reach_after marked marked_after) (there found reach c.args.before.now)
          (there found_after reach_after c.args.after.now);
      come = λ found reach found_after reach_after marked marked_after. config_more number (boards_at configs found_after reach_after c.args.after.now)
          (boards_at configs found reach c.args.before.now) _ _ _ _ _ (c.loop-number.invariant.come found reach found_after reach_after marked marked_after)
          (c.in_ok-push_config.ensures.come found_after reach_after found reach marked_after marked) (there found_after reach_after c.args.after.now)
          (there found reach c.args.before.now);
    }

pub loop-number-preserved-then-not-has : goal.loop-number-preserved-then-not-has
loop-number-preserved-then-not-has g c =
    let number = c.loop-number.number in
    let configs = c.args.shelf.now in
    let small : number < 256 = omega (arith, c.loop-number-test.true, c.len-number-end.ensures.value, c.requires.few) in
    let none : is_marked c.args.marks.now number ≡ false = sym c.has.ensures.value ∙ c.if-not-has.true in
    let same : (found reach found_after reach_after : ℕ → Bool) → IsMarkedBy c.args.before.now.facts found reach
    → IsMarkedBy c.args.after.now.facts found_after reach_after
    → boards_at configs found reach c.args.before.now number ≡ boards_at configs found_after reach_after c.args.after.now number =
    λ found reach found_after reach_after marked marked_after.
    same_there configs found reach found_after reach_after c.args.before.now c.args.after.now number
    (c.requires.marks number small none found reach found_after reach_after marked marked_after) in
    record {
      gone = λ found reach found_after reach_after marked marked_after. config_skipped number (boards_at configs found reach c.args.before.now)
          (boards_at configs found_after reach_after c.args.after.now) _ _
          (c.loop-number.invariant.gone found reach found_after reach_after marked marked_after)
          (same found reach found_after reach_after marked marked_after);
      come = λ found reach found_after reach_after marked marked_after. config_skipped number (boards_at configs found_after reach_after c.args.after.now)
          (boards_at configs found reach c.args.before.now) _ _ (c.loop-number.invariant.come found reach found_after reach_after marked marked_after)
          (sym (same found reach found_after reach_after marked marked_after));
    }

pub unreachable-requires : goal.unreachable-requires
unreachable-requires g c =
    none_within c.args.shelf.now c.loop-number.number (sym c.at.ensures ∙ ap (option_map (λ config. config.now)) c.in_default.is)
    (omega (arith, c.loop-number-test.true, c.len-number-end.ensures.value))
