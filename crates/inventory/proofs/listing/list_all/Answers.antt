use Rattle.std.proofs.Common.{◌≡◌, ◌∙◌, ◌++◌, ℕ, Bool, List, Option, length, sym, ap, arith, option_map, option_to_list}
use Rattle.cfg_json.specs.Configs.{Config}
use Rattle.bmc_base.specs.Places.{Place}
use Rattle.inventory.specs.Indexes.{kept_of, with_boards}
use Rattle.inventory.specs.Differences.{boards_at}
use Rattle.inventory.specs.Lists.{board_list, keys_of}
use Rattle.inventory.specs.Moments.{boards_now}
use Rattle.inventory.proofs.DifferencesLemmas.{boards_there}
use Rattle.inventory.proofs.ListingLemmas.{config_listed}
use Rattle.inventory.proofs.listing.list_all.Goals as goal

pub loop-number-preserved : goal.loop-number-preserved
loop-number-preserved g c =
    let config : Config = c.in-Some.config.now in
    let number = c.loop-number.number in
    let all : List Config = c.args.shelf.now ++ option_to_list (option_map (λ config. config.now) c.args.plus) in
    let one : c.match_one-match_one.result ≡ config.probe.match_one = c.match_one-match_one.ensures ∙ ap (λ probe. probe.match_one) c.probe.ensures in
    λ found reach marked.
    config_listed (kept_of c.args.keep.now.kept) (boards_at all found reach c.args.moment.now) number c.deref.result.now c.loop-number.boards.items
    c.append_boards.new.boards.items (c.loop-number.invariant found reach marked) c.in_ok-append_boards.ensures
    (c.deref.ensures.value ∙ c.in_ok-list_boards.ensures.boards found reach marked
    ∙ ap (λ (match_one : Bool). boards_now match_one found reach c.args.moment.now number) one
    ∙ boards_there all found reach c.args.moment.now number config (sym c.in-Some.ensures))

pub returns : goal.returns
returns g c =
    let all : List Config = c.args.shelf.now ++ option_to_list (option_map (λ config. config.now) c.args.plus) in
    let end : c.loop-number.number ≡ length all = omega (arith, c.config_count-number-end.ensures.value) in
    λ found reach marked.
    let boards : ℕ → List (Option Place) = boards_at all found reach c.args.moment.now in
    c.loop-number.invariant found reach marked
    ∙ ap (λ n. board_list (λ number. with_boards (kept_of c.args.keep.now.kept number) (boards number)) (keys_of n boards)) end
