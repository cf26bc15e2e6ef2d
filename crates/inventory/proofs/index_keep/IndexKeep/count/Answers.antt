use Rattle.std.proofs.Common.{◌∙◌, ◌≡◌, ◌<◌, [], sym, ap, length, arith}
use Rattle.std.proofs.lemmas.List.{get_or-map}
use Rattle.inventory.specs.Indexes.{kept_of}
use Rattle.inventory.specs.Keeping.{keys_of}
use Rattle.inventory.proofs.index_keep.IndexKeep.count.Goals as goal

pub count_in_list-requires : goal.count_in_list-requires
count_in_list-requires c =
    let lists = c.self.inside.lists.items in
    let number = c.args.number in
    let within : number < length lists = omega arith in
    let list : c.index.result.now.keys ≡ kept_of (keys_of lists) number =
    ap (λ it. it.keys) c.index.ensures ∙ sym (get_or-map (λ it. it.keys) lists number c.index.result.now [] within) in
    omega (arith, c.self.invariant.few number, ap length list)
