use Rattle.std.proofs.Common.{ap, sym, ◌∙◌}
use Rattle.fru_record.specs.Records.{record_of}
use Rattle.fru_record.proofs.BuildingLemmas.{built-read}
use Rattle.fru_record.proofs.LayoutsLemmas.{IsBuildable-allowed, GivesBytes-fault}
use Rattle.fru_record.proofs.builder.build.Goals as goal

pub record_bytes-requires : goal.record_bytes-requires
record_bytes-requires c = IsBuildable-allowed c.args.parts.now c.new-layout.result c.new-layout.ensures (sym c.first_fault.ensures ∙ c.in-None.is)

pub returns-in-Some-clause-bytes : goal.returns-in-Some-clause-bytes
returns-in-Some-clause-bytes c = GivesBytes-fault c.in-Some.fault c.args.parts.now (sym c.first_fault.ensures ∙ c.in-Some.is)

pub returns-in_ok-bytes-in-None-clause-read : goal.returns-in_ok-bytes-in-None-clause-read
returns-in_ok-bytes-in-None-clause-read c =
    ap record_of (c.from.ensures ∙ c.in_ok-bytes-in-None.ensures.written)
    ∙ built-read c.args.parts.now c.in_ok-bytes-in-None.ensures.utf8 (sym c.first_fault.ensures ∙ c.in-None.is)
