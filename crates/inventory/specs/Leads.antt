-- How the live ids that go and come are told, tag by tag.
use Rattle.std.specs.Prelude.{◌≡◌, Bool, true, false, not, ◌||◌, ◌&&◌, ℕ, List, [], ◌∷◌, map, slice_get}
use Rattle.std.specs.List.Sorted.{IsStrictlySortedBy}
use Rattle.cfg_json.specs.declared.item.ItemId.{ItemId}
use Rattle.inventory.specs.Bearers.{ids_in, ids_over, is_empty, leads, member_tag, name_tag, Lists}
use Rattle.inventory.specs.Orders.{id_cmp}
use Rattle.inventory.specs.declared.family.Family.TheVariants as families
use Rattle.inventory.specs.declared.leads.Lead.{Lead}
use Rattle.inventory.specs.declared.leads.Leads.{Leads}
use Rattle.inventory.specs.declared.tag.Role.{Role}
use Rattle.inventory.specs.declared.tag.Role.TheVariants.{Sensor, Zone, Fan, Member}
use Rattle.inventory.specs.declared.tag.Tag.{Tag}
use Rattle.inventory.specs.declared.tags.Notes.{Notes}

-- beside each tag that is noted stands the first id that is kept for it
abbrev pub AreFirst : Notes → List (Tag × List ItemId) → Type 0
AreFirst notes tags = notes.firsts.items ≡ map (λ (entry : Tag × List ItemId). slice_get (ids_in tags entry.0) 0) notes.over.entries

-- the ids for each tag ascend, those that are kept and those that are noted, and the first of those that are kept stand beside
pub record AreInOrder (notes : Notes) (tags : List (Tag × List ItemId)) : Type 0 where
  pub kept : (tag : Tag) → IsStrictlySortedBy id_cmp (ids_in tags tag)
  pub noted : (tag : Tag) → IsStrictlySortedBy id_cmp (ids_over notes.over.entries tags tag)
  pub firsts : AreFirst notes tags

-- these are the first of the ids before and of those after
pub record IsLead (lead : Lead) (here there : List ItemId) : Type 0 where
  pub before : lead.before ≡ slice_get here 0
  pub after : lead.after ≡ slice_get there 0

-- those ids are put in a list that pass a test
abbrev pub ListsMore : List ItemId → List ItemId → (ItemId → Bool) → Type 0
ListsMore old new more = (test : ItemId → Bool) → Lists old test → Lists new (λ each. test each || more each)

-- the ids are told that are live under these tags here and not there, and those that are there and not here
pub record AreTold (here there : Tag → List ItemId) (tags : List Tag) (told more : Leads) : Type 0 where
  pub gone : ListsMore told.gone.items more.gone.items (leads here there tags)
  pub new : ListsMore told.new.items more.new.items (leads there here tags)

-- whether the name of a zone is held
abbrev pub is_held : (Tag → List ItemId) → List ℕ → Bool
is_held ids zone = not (is_empty (ids (name_tag families.Zone zone)))

-- the tags under which ids are compared where those for one change: with the name of a zone all that are in it, but where it stays held
abbrev pub compared_by : Role → List ℕ → Bool → List Tag
compared_by Zone zone true = name_tag families.Zone zone ∷ []
compared_by Zone zone false = name_tag families.Zone zone ∷ member_tag zone ∷ []
compared_by Sensor name stays = name_tag families.Sensor name ∷ []
compared_by Fan name stays = name_tag families.Fan name ∷ []
compared_by Member zone stays = member_tag zone ∷ []

abbrev pub compared : (Tag → List ItemId) → (Tag → List ItemId) → Tag → List Tag
compared here there tag = compared_by tag.role tag.name (is_held here tag.name && is_held there tag.name)
