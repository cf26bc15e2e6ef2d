use Rattle.std.proofs.Common.{true, false, refl}
use Rattle.fru_record.proofs.LayoutsLemmas.{fault-found, sizes, long_area-seen, long_record-seen}
use Rattle.fru_record.proofs.builder.first_fault.Goals as goal

pub returns-then-has_late_date : goal.returns-then-has_late_date
returns-then-has_late_date c = fault-found c.args.parts.now true _ _ _ _ _ (cc) refl refl refl refl refl

pub returns-then-parts_break : goal.returns-then-parts_break
returns-then-parts_break c = fault-found c.args.parts.now false true _ _ _ _ (cc) (cc) refl refl refl refl

pub returns-then-parts_break-2 : goal.returns-then-parts_break-2
returns-then-parts_break-2 c = fault-found c.args.parts.now false false true _ _ _ (cc) (cc) (cc) refl refl refl

pub returns-then-parts_break-3 : goal.returns-then-parts_break-3
returns-then-parts_break-3 c = fault-found c.args.parts.now false false false true _ _ (cc) (cc) (cc) (cc) refl refl

pub returns-then-has_long_area : goal.returns-then-has_long_area
returns-then-has_long_area c =
    let area = long_area-seen c.args.parts.now c.args.layout c.requires in
    fault-found c.args.parts.now false false false false true _ (cc) (cc) (cc) (cc) (cc) refl

pub returns-then-is_too_long : goal.returns-then-is_too_long
returns-then-is_too_long c =
    let area = long_area-seen c.args.parts.now c.args.layout c.requires in
    let most = sizes c.args.parts.now c.args.layout c.requires (cc) in
    let whole = long_record-seen c.args.parts.now c.args.layout c.requires most.0 most.1 most.2 in
    fault-found c.args.parts.now false false false false false true (cc) (cc) (cc) (cc) (cc) (cc)

pub returns : goal.returns
returns c =
    let area = long_area-seen c.args.parts.now c.args.layout c.requires in
    let most = sizes c.args.parts.now c.args.layout c.requires (cc) in
    let whole = long_record-seen c.args.parts.now c.args.layout c.requires most.0 most.1 most.2 in
    fault-found c.args.parts.now false false false false false false (cc) (cc) (cc) (cc) (cc) (cc)
