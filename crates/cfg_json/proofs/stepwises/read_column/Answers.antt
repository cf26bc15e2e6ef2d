-- An element more.
use Rattle.std.proofs.Common.{◌≡◌, ◌∙◌, ℤ, [], ◌∷◌, ◌++◌, map, sym, ap, arith, rules, SFits, w64, to_z, of_z}
use Rattle.std.proofs.lemmas.Int.{to_z-of_z}
use Rattle.std.proofs.lemmas.List.{map-append}
use Rattle.cfg_json.specs.Stepwises.{in_milli}
use Rattle.cfg_json.specs.Values.{any_milli}
use Rattle.cfg_json.proofs.ListsLemmas.{after_more}
use Rattle.cfg_json.proofs.stepwises.read_column.Goals as goal

pub loop-item-preserved : goal.loop-item-preserved
loop-item-preserved c =
    let column = c.loop-item.column.items in
    let item = c.in_ok-milli_within.field-0 in
    let fits : SFits w64 item.0 = search rules in
    let pushed : map in_milli c.push.new.self.items ≡ map in_milli column ++ item ∷ [] =
    ap (map in_milli) c.push.ensures.items ∙ map-append in_milli column (to_z w64 (of_z w64 item.0) ∷ [])
    ∙ ap (λ (z : ℤ). map in_milli column ++ in_milli z ∷ []) (to_z-of_z w64 item.0 fits) in
    record {
      column = after_more any_milli c.args.items.now c.loop-item.item-index c.item-item.result item
          (map in_milli column) (map in_milli c.push.new.self.items) c.loop-item-test.true c.item-item.is
          (sym c.in_ok-milli_within.ensures) pushed
          ∙ c.loop-item.invariant.column;
      room = omega (arith, c.push.ensures.len, c.loop-item.invariant.room);
    }
