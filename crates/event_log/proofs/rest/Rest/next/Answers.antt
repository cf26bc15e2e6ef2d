use Rattle.std.proofs.Common.{◌∙◌, ap, sym, drop}
use Rattle.std.proofs.lemmas.List.{drop-drop}
use Rattle.event_log.proofs.rest.Rest.next.Goals as goal

pub returns-clause-after : goal.returns-clause-after
returns-clause-after c = sym (drop-drop 1 c.self.inside.listed c.self.inside.entries.now.items) ∙ ap (drop 1) c.self.view_is
