use Rattle.std.proofs.Common.{◌∙◌, None, Some, sym, ap, option_map}
use Rattle.probe_lang.specs.Presents.{unboxed}
use Rattle.inventory.specs.Differences.{Moment}
use Rattle.inventory.specs.Items.{entry_fields}
use Rattle.inventory.proofs.OrderLemmas.{three_by_place, found_before, found_plus, found_behind}
use Rattle.inventory.proofs.moment.Moment.fru.Goals as goal

pub entry_at-before-requires : goal.entry_at-before-requires
entry_at-before-requires c =
    (three_by_place (unboxed c.self.inside.before.now) (unboxed c.self.inside.plus.now) (unboxed c.self.inside.behind.now) c.self.invariant).0

pub entry_at-plus-requires : goal.entry_at-plus-requires
entry_at-plus-requires c =
    (three_by_place (unboxed c.self.inside.before.now) (unboxed c.self.inside.plus.now) (unboxed c.self.inside.behind.now) c.self.invariant).1

pub entry_at-requires : goal.entry_at-requires
entry_at-requires c =
    (three_by_place (unboxed c.self.inside.before.now) (unboxed c.self.inside.plus.now) (unboxed c.self.inside.behind.now) c.self.invariant).2

pub returns-in-Some : goal.returns-in-Some
returns-in-Some c =
    found_before c.args.place (unboxed c.self.inside.before.now) (unboxed c.self.inside.plus.now) (unboxed c.self.inside.behind.now) c.in-Some.entry.now
    c.in-Some.ensures
    ∙ ap (λ (moment : Moment). entry_fields moment.entries c.args.place) c.self.view_is

pub returns-in-Some-plus : goal.returns-in-Some-plus
returns-in-Some-plus c =
    found_plus c.args.place (unboxed c.self.inside.before.now) (unboxed c.self.inside.plus.now) (unboxed c.self.inside.behind.now)
    c.in-Some-plus.entry.now (sym (ap (option_map (λ entry. entry.now)) c.in_default.is) ∙ c.entry_at-before.ensures) c.in-Some-plus.ensures
    ∙ ap (λ (moment : Moment). entry_fields moment.entries c.args.place) c.self.view_is

pub returns-in_err-entry : goal.returns-in_err-entry
returns-in_err-entry c =
    ap (option_map (λ fru. fru.now)) c.from_residual.ensures
    ∙ found_behind c.args.place (unboxed c.self.inside.before.now) (unboxed c.self.inside.plus.now) (unboxed c.self.inside.behind.now) None
    (sym (ap (option_map (λ entry. entry.now)) c.in_default.is) ∙ c.entry_at-before.ensures)
    (sym (ap (option_map (λ entry. entry.now)) c.in_default-plus.is) ∙ c.entry_at-plus.ensures)
    (sym (ap (option_map (λ entry. entry.now)) c.in_err-entry.was) ∙ c.entry_at.ensures)
    ∙ ap (λ (moment : Moment). entry_fields moment.entries c.args.place) c.self.view_is

pub returns : goal.returns
returns c =
    found_behind c.args.place (unboxed c.self.inside.before.now) (unboxed c.self.inside.plus.now) (unboxed c.self.inside.behind.now)
    (Some c.in_ok-entry.entry.now)
    (sym (ap (option_map (λ entry. entry.now)) c.in_default.is) ∙ c.entry_at-before.ensures)
    (sym (ap (option_map (λ entry. entry.now)) c.in_default-plus.is) ∙ c.entry_at-plus.ensures)
    (sym (ap (option_map (λ entry. entry.now)) c.in_ok-entry.was) ∙ c.entry_at.ensures)
    ∙ ap (λ (moment : Moment). entry_fields moment.entries c.args.place) c.self.view_is
