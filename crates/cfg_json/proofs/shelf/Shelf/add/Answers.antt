-- A new name goes last in the map, and so does its configuration.
use Rattle.cfg_json.proofs.ShelvesLemmas.{entries_with, configs_of_more, AreNamed_more, few_more, valid_more}
use Rattle.cfg_json.proofs.shelf.Shelf.add.Goals as goal

pub invariant_of-self-2 : goal.invariant_of-self-2
invariant_of-self-2 g c =
    let entries = c.self.inside.configs.entries in
    let last = entries_with c.args.config entries c.self.invariant.0 (rw (← c.self.view_is) at c.requires.new) in
    rw (c.in_ok-insert.ensures.entries, c.name.ensures, last) (
      AreNamed_more c.args.config entries c.self.invariant.0,
      few_more c.args.config entries (rw (← c.self.view_is) at c.requires.few),
      valid_more c.args.config entries c.self.invariant.2 c.exposes-exposes.ensures.valid,
    )

pub returns-clause-ok : goal.returns-clause-ok
returns-clause-ok g c =
    let entries = c.self.inside.configs.entries in
    let last = entries_with c.args.config entries c.self.invariant.0 (rw (← c.self.view_is) at c.requires.new) in
    rw (← c.self.view_is, c.in_ok-insert.ensures.entries, c.name.ensures, last) (configs_of_more c.args.config entries)
