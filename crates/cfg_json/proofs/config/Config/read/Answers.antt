-- The draft is refused, or a pattern of it, or it is whole.
use Rattle.std.proofs.Common.{◌∙◌, ap}
use Rattle.cfg_json.specs.Configs.{Config}
use Rattle.cfg_json.specs.Documents.{document_of}
use Rattle.cfg_json.proofs.RulesLemmas.{document_names_none}
use Rattle.cfg_json.proofs.ReadingsLemmas.{document_refused, patterns_refused}
use Rattle.cfg_json.proofs.config.Config.read.Goals as goal

pub returns-in_err-name : goal.returns-in_err-name
returns-in_err-name g c =
    document_refused _ c.in_err-name.field-0.0 _ c.from_residual.result
    (document_names_none (document_of c.args.bytes.now)) c.from_residual.ensures.1 c.in_err-name.ensures

pub returns-in_err-patterns : goal.returns-in_err-patterns
returns-in_err-patterns g c =
    patterns_refused _ _ c.in_ok-name.field-0 c.as_slice.result.now c.in_err-patterns.field-0.0 _ c.from_residual-in_err-patterns.result c.in_ok-name.ensures
    (c.as_slice.ensures ∙ ap (λ (config : Config). config.patterns) c.name.view_is) c.in_err-patterns.ensures c.from_residual-in_err-patterns.ensures.1
