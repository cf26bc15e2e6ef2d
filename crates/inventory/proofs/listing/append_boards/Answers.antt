use Rattle.inventory.specs.Indexes.{kept_of}
use Rattle.inventory.proofs.BoardsLemmas.{ascending_differ}
use Rattle.inventory.proofs.ListingLemmas.{listed_more, count_more}
use Rattle.inventory.proofs.listing.append_boards.Goals as goal

pub loop-place-preserved : goal.loop-place-preserved
loop-place-preserved c =
    let kept = kept_of c.args.keep.now.kept c.args.number in
    let places = c.args.places.now in
    let differ = ascending_differ places c.requires in
    record {
      listed =
          listed_more kept places c.loop-place.place-index c.place-item.result differ c.loop-place-test.true c.place-item.is c.args.number c.in_ok-index.index
          c.loop-place.last c.args.boards.now.items c.loop-place.boards.items c.push.new.self.items c.loop-place.invariant.listed c.loop-place.invariant.count
          c.in_ok-index.ensures.index c.in_ok-push.ensures.items;
      count =
          count_more kept places c.loop-place.place-index c.place-item.result differ c.loop-place-test.true c.place-item.is c.loop-place.last
          c.give_index.new.last c.loop-place.invariant.count c.in_ok-index.ensures.last;
    }
