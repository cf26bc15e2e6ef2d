use Rattle.std.proofs.Common.{◌∙◌, ◌||◌, List, ap, subst}
use Rattle.probe_lang.specs.declared.rows.Hit.{Hit}
use Rattle.probe_lang.specs.Sights.{has_config}
use Rattle.found_set.specs.Marks.{is_marked}
use Rattle.inventory.specs.Moments.{IsApart, IsLone}
use Rattle.inventory.proofs.MomentsLemmas.{none_otherwise, same_unmarked}
use Rattle.inventory.proofs.compare.configs_apart.Goals as goal

-- each other FRU is seen as before
pub returns-in-Lone : goal.returns-in-Lone
returns-in-Lone c =
    let before = c.args.before.now in
    let after = c.args.after.now in
    let lone : IsLone _ before after = subst (λ apart. IsApart apart before after) c.in-Lone.is c.requires.apart in
    same_unmarked c.args.changed.now before after _ _ _ c.requires.one c.found_apart-marks.ensures
    (λ number small. c.mark_touched.ensures number small
    ∙ ap (λ (hits : List Hit). is_marked c.found_apart-marks.result number || has_config hits number) c.as_slice.ensures)
    (none_otherwise before after _ lone.alike)

-- or not
pub returns-in-Unknown : goal.returns-in-Unknown
returns-in-Unknown c =
    same_unmarked c.args.changed.now c.args.before.now c.args.after.now _ _ _ c.requires.one c.found_apart-marks.ensures
    (λ number small. c.mark_touched.ensures number small
    ∙ ap (λ (hits : List Hit). is_marked c.found_apart-marks.result number || has_config hits number) c.as_slice.ensures)
    c.mark_seen_otherwise.ensures
