-- Exposes that are read are valid.
use Rattle.std.proofs.Common.{rules, option_map}
use Rattle.serde_json.specs.View.{view}
use Rattle.cfg_json.proofs.ValidLemmas.{exposes_valid}
use Rattle.cfg_json.proofs.draft.read_members.Goals as goal

pub invariant_of-result : goal.invariant_of-result
invariant_of-result g c =
    (search rules, exposes_valid (option_map (λ value. view value.now) c.get.result) c.in_ok-exposes.exposes c.in_ok-exposes.ensures)
