-- A row that is covered changes nothing; else all is evaluated.
use Rattle.std.proofs.Common.{◌∙◌, length, sym, refl, ◌*◌}
use Rattle.found_set.specs.Marks.{is_marked}
use Rattle.found_set.specs.Found.{is_reached}
use Rattle.found_set.specs.Rows.{is_idle, sights_of}
use Rattle.found_set.proofs.IdleLemmas.{covered_same, busy_unless_covered}
use Rattle.found_set.proofs.EventsLemmas.{none_within, busy_within}
use Rattle.found_set.proofs.MarksLemmas.{reach_marked}
use Rattle.found_set.proofs.evaluate.reevaluate.Goals as goal

pub returns-then-is_covered-clause-facts : goal.returns-then-is_covered-clause-facts
returns-then-is_covered-clause-facts g c =
    let before = c.requires.before in
    let rules = c.args.rules.now in
    c.copied.ensures ∙ before.told
    ∙ covered_same rules c.args.row.now c.args.others.now before.rows c.args.rows.now before.beside c.requires.beside
    (sym (c.is_covered.ensures (is_reached rules (sights_of before.rows)) (reach_marked rules (sights_of before.rows) c.args.old.now before.told))
    ∙ c.if-is_covered.true)

pub returns-then-is_covered-clause-counted : goal.returns-then-is_covered-clause-counted
returns-then-is_covered-clause-counted g c = none_within _ _

pub returns-clause-counted : goal.returns-clause-counted
returns-clause-counted g c =
    let bare = sym (c.is_covered.ensures (is_marked c.args.old.now.reach) (λ n small. refl)) ∙ c.if-is_covered.false in
    busy_within (is_idle c.args.row.now) (2 * length c.args.rules.now) _ _ (busy_unless_covered (is_marked c.args.old.now.reach) c.args.row.now
    c.args.others.now bare)
    c.evaluate.ensures.counted

pub evaluate-requires : goal.evaluate-requires
evaluate-requires g c = record {
  few = c.requires.few;
  named = c.requires.named;
  earlier = c.earlier_beside-earlier.ensures c.args.rules.now c.args.rows.now c.requires.few c.requires.before c.requires.beside;
}
