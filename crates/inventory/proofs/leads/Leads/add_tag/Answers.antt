-- What is told under a name, with the name of a zone, and in a zone.
use Rattle.std.proofs.Common.{◌≡◌, ◌∙◌, inl, inr, not, List, refl, sym, ap, subst}
use Rattle.std.specs.Result.{OnOk}
use Rattle.cfg_json.specs.declared.item.ItemId.{ItemId}
use Rattle.inventory.specs.Bearers.{ids_in, ids_over, is_empty, member_tag, name_tag}
use Rattle.inventory.specs.Leads.{compared, AreTold, IsLead}
use Rattle.inventory.specs.declared.family.Family.TheVariants as families
use Rattle.inventory.specs.declared.tag.Role.{Role}
use Rattle.inventory.specs.declared.tag.Role.TheVariants as roles
use Rattle.inventory.specs.declared.tag.Tag.{Tag}
use Rattle.inventory.proofs.LeadTagsLemmas.{key_at}
use Rattle.inventory.proofs.ToldLemmas.{on_both, told_name}
use Rattle.inventory.proofs.leads.Leads.add_tag.Goals as goal

-- a tag of this role
of_role : (role : Role) (key tag : Tag) → key.role ≡ role → key ≡ tag → ◌≡◌ {A = Tag} (record { role = role; name = key.name }) tag
of_role role key tag is same = (λ i. record { role = sym is i; name = key.name }) ∙ same

pub returns-in-Sensor : goal.returns-in-Sensor
returns-in-Sensor c order tag at =
    let tags = c.args.tags.now.entries in
    let over = c.args.notes.now.over.entries in
    let here : Tag → List ItemId = ids_in tags in
    let there : Tag → List ItemId = ids_over over tags in
    let key = key_at over c.args.number tag c.in-Some.tag.now c.in-Some.field-0-1.now at c.in-Some.ensures.entry in
    let lead = c.lead_at-lead.ensures tag at tags order.firsts in
    elim c.in-Sensor.is [
      | inl is ↦
          on_both c.add_lead.result
          (told_name here there families.Sensor c.in-Some.tag.now.name tag c.lead_at-lead.result c.args.self.now c.add_lead.new.self
          (of_role roles.Sensor c.in-Some.tag.now tag is key) refl lead)
          c.add_lead.ensures.gone c.add_lead.ensures.new
      | inr is ↦
          on_both c.add_lead.result
          (told_name here there families.Fan c.in-Some.tag.now.name tag c.lead_at-lead.result c.args.self.now c.add_lead.new.self
          (of_role roles.Fan c.in-Some.tag.now tag is key) refl lead)
          c.add_lead.ensures.gone c.add_lead.ensures.new
    ]

pub returns-in-Zone : goal.returns-in-Zone
returns-in-Zone c order tag at =
    let tags = c.args.tags.now.entries in
    let over = c.args.notes.now.over.entries in
    let key = key_at over c.args.number tag c.in-Some.tag.now c.in-Some.field-0-1.now at c.in-Some.ensures.entry in
    let same : name_tag families.Zone c.in-Some.tag.now.name ≡ tag = of_role roles.Zone c.in-Some.tag.now tag c.in-Zone.is key in
    subst (λ (tag : Tag). OnOk c.add_zone.result
    (AreTold (ids_in tags) (ids_over over tags) (compared (ids_in tags) (ids_over over tags) tag) c.args.self.now c.add_zone.new.self)) same
    (c.add_zone.ensures order (subst (λ (tag : Tag). IsLead c.lead_at-lead.result (ids_in tags tag) (ids_over over tags tag)) (sym same)
    (c.lead_at-lead.ensures tag at tags order.firsts)))

pub returns-in-Member : goal.returns-in-Member
returns-in-Member c order tag at =
    let tags = c.args.tags.now.entries in
    let over = c.args.notes.now.over.entries in
    let here : Tag → List ItemId = ids_in tags in
    let there : Tag → List ItemId = ids_over over tags in
    let zone = c.in-Some.tag.now.name in
    let key = key_at over c.args.number tag c.in-Some.tag.now c.in-Some.field-0-1.now at c.in-Some.ensures.entry in
    let same : member_tag zone ≡ tag = of_role roles.Member c.in-Some.tag.now tag c.in-Member.is key in
    subst (λ (tag : Tag). OnOk c.add_members.result (AreTold here there (compared here there tag) c.args.self.now c.add_members.new.self)) same
    (c.add_members.ensures order
    (c.are_some-before.ensures ∙ ap (λ (ids : List ItemId). not (is_empty ids)) (c.kept_for.ensures ∙ ap here c.name_tag-zone.ensures))
    (c.are_some-after.ensures ∙ ap (λ (ids : List ItemId). not (is_empty ids)) (c.noted_for.ensures ∙ ap there c.name_tag-zone.ensures)))
