-- The name stays held, or the controllers in the zone are told too.
use Rattle.std.proofs.Common.{◌≡◌, ◌∙◌, ◌∷◌, [], ◌&&◌, Bool, true, false, List, sym, ap₂}
use Rattle.cfg_json.specs.declared.item.ItemId.{ItemId}
use Rattle.inventory.specs.Bearers.{ids_in, ids_over, member_tag, name_tag}
use Rattle.inventory.specs.Leads.{compared, is_held}
use Rattle.inventory.specs.declared.family.Family.TheVariants as families
use Rattle.inventory.specs.declared.tag.Tag.{Tag}
use Rattle.inventory.proofs.ToldLemmas.{held_first, on_ok, told_as, told_both, told_first, zone_stays}
use Rattle.inventory.proofs.leads.Leads.add_zone.Goals as goal

pub returns-then-stays : goal.returns-then-stays
returns-then-stays c order lead =
    let tags = c.args.tags.now.entries in
    let here : Tag → List ItemId = ids_in tags in
    let there : Tag → List ItemId = ids_over c.args.notes.now.over.entries tags in
    let zone = c.args.zone.now in
    let stays : true ≡ (is_held here zone && is_held there zone) =
    sym c.if-stays.true ∙ c.stays.ensures
    ∙ ap₂ (λ (one two : Bool). one && two) (held_first here zone c.args.lead.before lead.before) (held_first there zone c.args.lead.after lead.after) in
    told_as here there (name_tag families.Zone zone ∷ []) (compared here there (name_tag families.Zone zone)) c.args.self.now c.add_lead.new.self
    (sym (zone_stays here there zone true stays))
    (told_first here there families.Zone zone c.args.lead c.args.self.now c.add_lead.new.self lead c.in_ok-add_lead.ensures.gone c.in_ok-add_lead.ensures.new)

pub returns : goal.returns
returns c order lead =
    let tags = c.args.tags.now.entries in
    let here : Tag → List ItemId = ids_in tags in
    let there : Tag → List ItemId = ids_over c.args.notes.now.over.entries tags in
    let zone = c.args.zone.now in
    let before = held_first here zone c.args.lead.before lead.before in
    let after = held_first there zone c.args.lead.after lead.after in
    let stays : false ≡ (is_held here zone && is_held there zone) =
    sym c.if-stays.false ∙ c.stays.ensures ∙ ap₂ (λ (one two : Bool). one && two) before after in
    on_ok c.add_members.result (λ members.
    told_as here there (name_tag families.Zone zone ∷ member_tag zone ∷ []) (compared here there (name_tag families.Zone zone)) c.args.self.now
    c.add_members.new.self (sym (zone_stays here there zone false stays))
    (told_both here there (name_tag families.Zone zone ∷ []) (member_tag zone ∷ []) c.args.self.now c.add_lead.new.self c.add_members.new.self
    (told_first here there families.Zone zone c.args.lead c.args.self.now c.add_lead.new.self lead c.in_ok-add_lead.ensures.gone
    c.in_ok-add_lead.ensures.new) members))
    (c.add_members.ensures order (c.is_some.ensures ∙ before) (c.is_some-2.ensures ∙ after))
