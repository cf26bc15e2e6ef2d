use Rattle.std.proofs.Common.{◌∙◌, ◌<◌, ◌+◌, List, [], length, take, get_or, refl, sym, ap, subst, arith}
use Rattle.std.proofs.lemmas.List.{length-set, take_more}
use Rattle.inventory.specs.declared.board.BoardKey.{BoardKey}
use Rattle.inventory.specs.Differences.{places_of}
use Rattle.inventory.specs.Keeping.{IsGreatest}
use Rattle.inventory.proofs.KeepingLemmas.{count_plus, ready_next, seen_alike}
use Rattle.inventory.proofs.index_keep.reserve_lists.Goals as goal

pub returns-in_err-reserve_list-clause-kept : goal.returns-in_err-reserve_list-clause-kept
returns-in_err-reserve_list-clause-kept c =
    let key = get_or c.args.keys.now c.loop-i.i c.index-keys-i.result in
    let listed : key.config < length c.loop-i.lists =
    omega (arith, c.requires.listed c.loop-i.i c.index-keys-i.result c.loop-i-test.true, c.loop-i.invariant.many) in
    λ number. seen_alike (λ list. list.keys) [] c.loop-i.lists key.config c.reserve_list.new.list c.index-lists-config.result listed
    c.reserve_list.ensures.kept number ∙ c.loop-i.invariant.kept number

pub loop-i-preserved : goal.loop-i-preserved
loop-i-preserved c =
    let keys = c.args.keys.now in
    let i = c.loop-i.i in
    let key = get_or keys i c.index-keys-i.result in
    let lists = c.loop-i.lists in
    let count = c.count_of-count.result in
    let listed : key.config < length lists =
    omega (arith, c.requires.listed i c.index-keys-i.result c.loop-i-test.true, c.loop-i.invariant.many) in
    let more = take_more keys i c.index-keys-i.result c.loop-i-test.true in
    record {
      many = length-set lists key.config c.reserve_list.new.list ∙ c.loop-i.invariant.many;
      kept = λ number. seen_alike (λ list. list.keys) [] lists key.config c.reserve_list.new.list c.index-lists-config.result listed
          c.reserve_list.ensures.kept number ∙ c.loop-i.invariant.kept number;
      greatest = subst (λ (front : List BoardKey). IsGreatest front c.with-greatest.result.end c.with-greatest.result.count) (sym more)
          (c.with-greatest.ensures (take i keys) key c.loop-i.invariant.greatest refl c.count_of-count.ensures);
      ready = λ number. ready_next lists key.config c.index-lists-config.result c.reserve_list.new.list listed (take i keys) (take (i + 1) keys) count
          c.count_of-count.ensures (λ each. ap (λ (front : List BoardKey). length (places_of each front)) more ∙ count_plus each (take i keys) key)
          c.in_ok-reserve_list.ensures.room c.in_ok-reserve_list.ensures.few number (c.loop-i.invariant.ready number);
    }
