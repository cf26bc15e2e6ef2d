use Rattle.std.proofs.Common.{◌≡◌, ◌∙◌, ap, sym}
use Rattle.found_set.specs.declared.next_facts.EventKey.TheVariants as key
use Rattle.found_set.specs.Found.{Rule, rule_of}
use Rattle.found_set.specs.Events.{ConfigEvent}
use Rattle.found_set.proofs.SetsLemmas.{prepared, with_one}
use Rattle.found_set.proofs.set.FoundSet.prepare_config.Goals as goal

pub returns : goal.returns
returns g c =
    let made : c.in_ok-rule.rule ≡ rule_of c.args.name c.args.probe.now c.args.fixed.now = c.in_ok-rule.ensures in
    rw (← made) (prepared c.args.self.now c.unstage.new.self c.stage_config.new.self (ConfigEvent c.in_ok-rule.rule) _ c.in_ok-facts.facts _ _ c.unstage.ensures
    (ap key.Config (c.in_ok-of.ensures ∙ sym (ap (λ (r : Rule). r.name) made))) c.in_ok-facts.ensures.ok c.in_ok-facts.ensures.staged
    (with_one _ _ c.unstage.new.self.rules c.unstage.new.self.rows c.in_ok-rule.rule c.stage_config.ensures.counted))
