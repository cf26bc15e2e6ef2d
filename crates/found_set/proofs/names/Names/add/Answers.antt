-- A new name goes last.
use Rattle.std.proofs.Common.{◌≡◌, ◌∙◌, Bool, ◌∷◌, ◌++◌, [], None, cond, ap, sym, subst}
use Rattle.std.specs.Prelude.{bytes_eq, position}
use Rattle.found_set.specs.Named.{NamesView}
use Rattle.found_set.proofs.NamedLemmas.{not_among}
use Rattle.found_set.proofs.names.Names.add.Goals as goal

pub returns : goal.returns
returns c =
    let keys = c.self.inside.set.keys in
    let name = c.args.name in
    let new = subst (λ (v : NamesView). position (bytes_eq name) v.names ≡ None) (sym c.self.view_is) c.requires.new in
    c.in-Ok.ensures.keys ∙ ap (λ (b : Bool). cond b keys (keys ++ name ∷ [])) (not_among (bytes_eq name) keys new)
    ∙ ap (λ (v : NamesView). v.names ++ name ∷ []) c.self.view_is
