use Rattle.found_set.proofs.earlier.Earlier.nothing.Goals as goal

pub returns : goal.returns
returns c = λ n small. c.all.ensures n small
