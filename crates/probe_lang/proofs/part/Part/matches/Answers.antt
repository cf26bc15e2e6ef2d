use Rattle.std.proofs.Common.{sym}
use Rattle.probe_lang.specs.Parts.{want_of}
use Rattle.probe_lang.proofs.PartsLemmas.{unknown-fails}
use Rattle.probe_lang.proofs.part.Part.matches.Goals as goal

pub returns-in-Unknown : goal.returns-in-Unknown
returns-in-Unknown c =
    sym (unknown-fails c.self.inside.key c.in-Unknown.field-0 (want_of c.self.inside.test) c.args.self.now c.args.place c.args.fru.now
    c.self.view_is c.in-Unknown.is c.self.invariant c.fields_are_named.ensures)
