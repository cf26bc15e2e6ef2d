use Rattle.std.proofs.Common.{sym, ◌∙◌, arith}
use Rattle.fru_area.proofs.UnitsLemmas.{length-encode_utf8-le, unicode_text-pair, unicode_text-lone, unicode_text-last}
use Rattle.fru_area.proofs.text.first_char.Goals.{in_default-via-in-Some+else-is_pair, in_default-via-in_default}
use Rattle.fru_area.proofs.text.first_char.Goals as goal

pub returns-in-Some : goal.returns-in-Some
returns-in-Some c =
    let first = c.in_ok-unit.ensures in
    let second = c.in-Some.ensures in
    let pair = sym c.is_pair.ensures ∙ c.if-is_pair.true in record {
      text = unicode_text-pair _ _ _ _ _ _ first.units second.units pair c.pair_char.ensures;
      size = length-encode_utf8-le _;
      shorter = omega (arith, first.shorter, second.shorter);
      two = λ h. omega (arith, first.shorter, first.two, second.shorter, second.two);
    }

pub returns-in_default : goal.returns-in_default
returns-in_default c =
    let first = c.in_ok-unit.ensures in record {
      text = elim c.in_default.branch [
        | in_default-via-in-Some+else-is_pair w ↦
            let second = w.in-Some.ensures in
            unicode_text-lone _ _ _ _ _ _ first.units second.units (sym w.is_pair.ensures ∙ w.if-is_pair.false) c.unit_char.ensures
        | in_default-via-in_default w ↦ unicode_text-last _ _ _ _ first.units w.in_default.ensures c.unit_char.ensures
      ];
      size = length-encode_utf8-le _;
      shorter = first.shorter;
      two = first.two;
    }
