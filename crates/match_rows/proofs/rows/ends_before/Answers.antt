use Rattle.std.proofs.Common.{◌∙◌, sym, ap}
use Rattle.probe_lang.specs.declared.rows.Entry.{Entry}
use Rattle.match_rows.proofs.PlacesLemmas.{is_before}
use Rattle.match_rows.proofs.BoxesLemmas.{boxes_all_before}
use Rattle.match_rows.proofs.rows.ends_before.Goals as goal

pub returns-in-Some : goal.returns-in-Some
returns-in-Some c is =
    boxes_all_before c.args.place c.args.entries.now c.in-Some.last.now c.requires (sym c.in-Some.ensures.value)
    (ap (λ (entry : Entry). is_before entry.place c.args.place) (sym c.deref.ensures) ∙ sym c.is_before.ensures ∙ is)
