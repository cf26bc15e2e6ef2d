use Rattle.tmpl.specs.Rendering.{fields_of}
use Rattle.tmpl.proofs.RenderingLemmas.{plain_text}
use Rattle.tmpl.proofs.render.push_stretch.Goals as goal

pub returns-in-Plain : goal.returns-in-Plain
returns-in-Plain c =
    let text = plain_text c.args.spot.now.place (fields_of c.args.spot.now.fru) c.args.spot.now.index c.in-Plain.text.now in
    rw (c.in-Plain.is, text) c.push_text.ensures
