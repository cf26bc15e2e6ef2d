use Rattle.fru_record.proofs.builder.push_board.Goals as goal

pub push_area-requires-clause-texts : goal.push_area-requires-clause-texts
push_area-requires-clause-texts c = rw c.in-Some.is at c.requires.texts

pub returns-in-Some-clause-utf8 : goal.returns-in-Some-clause-utf8
returns-in-Some-clause-utf8 c = rw c.in-Some.is c.push_area.ensures.utf8
