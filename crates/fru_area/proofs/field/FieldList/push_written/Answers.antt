use Rattle.std.proofs.Common.{◌∙◌, [], ◌≡◌, vec_len, length, arith, refl}
use Rattle.std.proofs.Math.Seq.{set-append_seam, get_or-append_seam}
use Rattle.fru_area.proofs.field.FieldList.push_written.Goals as goal

pub returns-clause-ok : goal.returns-clause-ok
returns-clause-ok c =
    let fields = c.reserve.new.self.items in
    let len : vec_len c.reserve.new.self ≡ length fields = omega arith in
    let here = (simp (c.push_reserved.ensures.items, c.len-at.ensures, len) at c.index_mut.ensures.value) ∙ get_or-append_seam fields _ [] _ in
    rw here
    (simp (c.push_reserved.ensures.items, c.len-at.ensures, c.write_text.ensures, len)
    (set-append_seam fields _ [] _ ∙ simp (c.in_ok-reserve.ensures.items, c.self.view_is) refl))
