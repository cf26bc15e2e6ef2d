use Rattle.std.proofs.Common.{◌≡◌, ◌∙◌, ◌++◌, ◌∷◌, [], ◌+◌, Bool, List, Option, cond, refl, sym, ap, subst}
use Rattle.std.proofs.lemmas.List.{append-nil}
use Rattle.bmc_base.specs.Places.{Place}
use Rattle.inventory.specs.Boards.{has_board}
use Rattle.inventory.specs.Differences.{key_of}
use Rattle.inventory.specs.Moments.{is_first}
use Rattle.inventory.proofs.ListLemmas.{all_any}
use Rattle.inventory.proofs.MergeLemmas.{IsMerged, merged_next, merge_more}
use Rattle.inventory.proofs.boards.push_left.Goals as goal

pub loop-place-init : goal.loop-place-init
loop-place-init c =
    let there = c.args.there.now in
    record {
      merged = record {
        ascend = c.requires.here;
        rest_ascend = c.requires.there;
        are_in = all_any (λ (each : Option Place). has_board there each ≡ has_board there each) (λ each. refl) c.args.here.now;
      };
      keys = sym (append-nil c.args.keys.now);
    }

pub loop-place-preserved : goal.loop-place-preserved
loop-place-preserved c =
    let here = c.args.here.now in
    let there = c.args.there.now in
    let rest = c.loop-place.rest.now in
    let i = c.loop-place.place-index in
    let board = c.place-item.result in
    let merged = c.loop-place.invariant.merged in
    record {
      merged = subst (λ (rest : List (Option Place)). IsMerged here there rest (i + 1)) (sym c.skip_before-rest.ensures)
          (merged_next here there rest i board c.loop-place-test.true c.place-item.is merged);
      keys = merge_more here there rest i board c.loop-place-test.true c.place-item.is merged c.args.number c.args.keys.now c.loop-place.keys
          c.push_if_left.new.keys c.loop-place.invariant.keys
          (c.in_ok-push_if_left.ensures ∙ ap (λ (has : Bool). c.loop-place.keys ++ cond has [] (key_of c.args.number board ∷ []))
          (c.is_first.ensures ∙ ap (is_first board) c.skip_before-rest.ensures));
    }
