-- One member more is made, or it is refused.
use Rattle.std.proofs.Common.{sym, ◌∙◌, ap₂, ◌∷◌, ◌++◌, [], List}
use Rattle.std.proofs.lemmas.List.{take_more}
use Rattle.std.proofs.lemmas.Result.{err_from_is_err_and}
use Rattle.probe_lang.specs.declared.pattern_text.Member.{Member}
use Rattle.probe_lang.proofs.MatchesLemmas.{texts_of-read, MakesPattern-refused}
use Rattle.probe_lang.proofs.pattern.Pattern.make.Goals as goal

pub returns-in_err-make : goal.returns-in_err-make
returns-in_err-make g c =
    let p = err_from_is_err_and c.from_residual-in_err-make.result c.from_residual-in_err-make.ensures.1 in
    MakesPattern-refused c.args.text.now c.loop-member.member-index c.member-item.result _ _ _ c.in_err-make.field-0.0 p.0 _
    (rw (sym c.as_slice-members.ensures) c.loop-member-test.true) (rw (sym c.as_slice-members.ensures) c.member-item.is) c.loop-member.invariant.same
    c.in_err-make.ensures p.1 p.2

pub loop-member-preserved : goal.loop-member-preserved
loop-member-preserved g c =
    let i = c.loop-member.member-index in
    let members = c.as_slice-members.result.now in
    let made = c.in_ok-make.ensures in
    record {
      made = c.in_ok-push.ensures ∙ ap₂ (λ (front : List Member) (part : Member). front ++ part ∷ []) c.loop-member.invariant.made (made.0 ∙ c.member-item.is)
          ∙ sym (take_more members i c.member-item.result c.loop-member-test.true);
      read = texts_of-read members i c.member-item.result c.loop-member-test.true c.member-item.is c.loop-member.invariant.read made.1;
      same = made.2 ∙ c.loop-member.invariant.same;
    }
