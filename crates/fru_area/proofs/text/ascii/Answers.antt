use Rattle.std.proofs.lemmas.Str.{IsUtf8-from_ascii}
use Rattle.fru_area.proofs.text.ascii.Goals as goal

-- ASCII is UTF-8
pub from_utf8_unchecked-requires : goal.from_utf8_unchecked-requires
from_utf8_unchecked-requires c = IsUtf8-from_ascii c.args.bytes.now c.if-not-is_ascii.ensures.cases
