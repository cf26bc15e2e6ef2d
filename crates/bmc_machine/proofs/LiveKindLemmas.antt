-- What gives zones, fans and controllers of each kind, and how many of them are among items.
use Rattle.std.proofs.Common.{◌≡◌, ℕ, suc, List, [], ◌∷◌, Bool, true, false, cond, Option, Some, None, filter, option_map}
use Rattle.std.proofs.Common.{refl, sym, ap, ◌∙◌}
use Rattle.std.specs.Prelude.{length, count_by, option_and_then}
use Rattle.std.specs.Option.{option_eq}
use Rattle.std.proofs.lemmas.List.Sums.{length-filter}
use Rattle.bmc_base.specs.Places.{Place}
use Rattle.ctl_face.specs.declared.kind.Kind.{Kind}
use Rattle.ctl_face.specs.declared.kind.Kind.TheVariants.{Pid, Stepwise}
use Rattle.ctl_face.specs.Kinds.{kind_of, kind_eq}
use Rattle.fru_area.specs.declared.field.Field.{Field}
use Rattle.tmpl.specs.Rendering.{rendered}
use Rattle.cfg_json.specs.Configs.{is_zone, is_fan, controls_by, is_pid, is_stepwise}
use Rattle.cfg_json.specs.declared.counts.Counts.{Counts}
use Rattle.cfg_json.specs.declared.expose.Body.{Body}
use Rattle.cfg_json.specs.declared.expose.Body.TheVariants as bodies
use Rattle.cfg_json.specs.declared.item.ControlItem.{ControlItem}
use Rattle.cfg_json.specs.declared.item.Item.{Item}
use Rattle.cfg_json.specs.declared.item.ItemPart.{ItemPart}
use Rattle.cfg_json.specs.declared.item.ItemPart.TheVariants as parts
use Rattle.inventory.specs.Items.{family_of, family_eq, names_at, part_of, control_at}
use Rattle.inventory.specs.declared.family.Family.{Family}
use Rattle.inventory.specs.declared.family.Family.TheVariants as families
use Rattle.fan_zone.specs.Live.{LiveControl, with_control, controls, with_zone, zones, with_fan, fans}
use Rattle.fan_zone.specs.Seats.{is_control_of}
use Rattle.bmc_machine.proofs.LiveCountLemmas.{passes, IsCounted}

-- ---- zones and fans

abbrev pub of_family : Family → ItemPart → Bool
of_family family part = option_eq family_eq (family_of part) (Some family)

-- a controller is of no family
no_family : (family : Family) (control : Option ControlItem) → passes (of_family family) (option_map parts.Control control) ≡ true → false ≡ true
no_family family None is = is
no_family family (Some control) is = is

pub zones_counted : IsCounted (of_family families.Zone) is_zone (λ (counts : Counts). counts.zones)
zones_counted = record {
  shows = λ place fields index expose. by place fields index expose.name expose.kind expose.body;
  counts = λ exposes. refl;
}
  where
    by : (place : Option Place) (fields : Option (List Field)) (index : ℕ) (name kind : List ℕ) (body : Body)
        → passes (of_family families.Zone) (part_of place fields index body) ≡ true → is_zone (record { name = name; kind = kind; body = body }) ≡ true
    by place fields index name kind (bodies.Zone setting) is = refl
    by place fields index name kind (bodies.Sensor part) is = is
    by place fields index name kind bodies.Fan is = is
    by place fields index name kind (bodies.Control part) is = no_family families.Zone (control_at place fields index part) is
    by place fields index name kind (bodies.Mux part) is = is
    by place fields index name kind bodies.Passive is = is

pub fans_counted : IsCounted (of_family families.Fan) is_fan (λ (counts : Counts). counts.fans)
fans_counted = record {
  shows = λ place fields index expose. by place fields index expose.name expose.kind expose.body;
  counts = λ exposes. refl;
}
  where
    by : (place : Option Place) (fields : Option (List Field)) (index : ℕ) (name kind : List ℕ) (body : Body)
        → passes (of_family families.Fan) (part_of place fields index body) ≡ true → is_fan (record { name = name; kind = kind; body = body }) ≡ true
    by place fields index name kind bodies.Fan is = refl
    by place fields index name kind (bodies.Sensor part) is = is
    by place fields index name kind (bodies.Zone setting) is = is
    by place fields index name kind (bodies.Control part) is = no_family families.Fan (control_at place fields index part) is
    by place fields index name kind (bodies.Mux part) is = is
    by place fields index name kind bodies.Passive is = is

pub zones_count : (items : List Item) → length (zones items) ≡ length (filter (λ (item : Item). of_family families.Zone item.part) items)
zones_count [] = refl
zones_count (item ∷ more) = by item.part (zones_count more)
  where
    others : List Item
    others = filter (λ (item : Item). of_family families.Zone item.part) more

    by : (part : ItemPart) → length (zones more) ≡ length others
        → length (with_zone item.id item.name part (zones more)) ≡ length (cond (of_family families.Zone part) (item ∷ others) others)
    by (parts.Zone setting) rest = ap suc rest
    by (parts.Sensor sensor) rest = rest
    by parts.Fan rest = rest
    by (parts.Control control) rest = rest
    by (parts.Mux part) rest = rest
    by parts.Passive rest = rest

pub fans_count : (items : List Item) → length (fans items) ≡ length (filter (λ (item : Item). of_family families.Fan item.part) items)
fans_count [] = refl
fans_count (item ∷ more) = by item.part (fans_count more)
  where
    others : List Item
    others = filter (λ (item : Item). of_family families.Fan item.part) more

    by : (part : ItemPart) → length (fans more) ≡ length others
        → length (with_fan item.id item.name part (fans more)) ≡ length (cond (of_family families.Fan part) (item ∷ others) others)
    by parts.Fan rest = ap suc rest
    by (parts.Sensor sensor) rest = rest
    by (parts.Zone setting) rest = rest
    by (parts.Control control) rest = rest
    by (parts.Mux part) rest = rest
    by parts.Passive rest = rest

-- ---- controllers

-- whether a part is a controller of a kind
abbrev pub of_kind : Kind → ItemPart → Bool
of_kind kind (parts.Control control) = kind_eq kind (kind_of control.setting)
of_kind kind (parts.Sensor sensor) = false
of_kind kind parts.Fan = false
of_kind kind (parts.Zone setting) = false
of_kind kind (parts.Mux part) = false
of_kind kind parts.Passive = false

kind_swap : (kind other : Kind) → kind_eq kind other ≡ kind_eq other kind
kind_swap Pid Pid = refl
kind_swap Pid Stepwise = refl
kind_swap Stepwise Pid = refl
kind_swap Stepwise Stepwise = refl

kind_shows : (kind : Kind) (place : Option Place) (fields : Option (List Field)) (index : ℕ) (body : Body)
    → passes (of_kind kind) (part_of place fields index body) ≡ true → controls_by kind body ≡ true
kind_shows kind place fields index (bodies.Control part) is =
    by (rendered place fields index part.zone) (names_at place fields index part.inputs) (names_at place fields index part.outputs) is
  where
    control : List ℕ → List (List ℕ) → List (List ℕ) → ControlItem
    control zone inputs outputs = record { setting = part.setting; zone = zone; inputs = inputs; outputs = outputs }

    made : Option (List ℕ) → Option (List (List ℕ)) → Option (List (List ℕ)) → Option ControlItem
    made zone inputs outputs = option_and_then (λ zone. option_and_then (λ inputs. option_map (control zone inputs) outputs) inputs) zone

    by : (zone : Option (List ℕ)) (inputs outputs : Option (List (List ℕ)))
        → passes (of_kind kind) (option_map parts.Control (made zone inputs outputs)) ≡ true → kind_eq kind (kind_of part.setting) ≡ true
    by None inputs outputs is = absurd (cc)
    by (Some zone) None outputs is = absurd (cc)
    by (Some zone) (Some inputs) None is = absurd (cc)
    by (Some zone) (Some inputs) (Some outputs) is = is
kind_shows kind place fields index (bodies.Sensor part) is = is
kind_shows kind place fields index bodies.Fan is = is
kind_shows kind place fields index (bodies.Zone setting) is = is
kind_shows kind place fields index (bodies.Mux part) is = is
kind_shows kind place fields index bodies.Passive is = is

pub pids_counted : IsCounted (of_kind Pid) is_pid (λ (counts : Counts). counts.pids)
pids_counted = record { shows = λ place fields index expose. kind_shows Pid place fields index expose.body; counts = λ exposes. refl }

pub steps_counted : IsCounted (of_kind Stepwise) is_stepwise (λ (counts : Counts). counts.steps)
steps_counted = record { shows = λ place fields index expose. kind_shows Stepwise place fields index expose.body; counts = λ exposes. refl }

pub kinds_count : (kind : Kind) (items : List Item)
    → count_by (is_control_of kind) (controls items) ≡ length (filter (λ (item : Item). of_kind kind item.part) items)
kinds_count kind items = sym (length-filter (is_control_of kind) (controls items)) ∙ those items
  where
    those : (some : List Item) → length (filter (is_control_of kind) (controls some)) ≡ length (filter (λ (item : Item). of_kind kind item.part) some)
    those [] = refl
    those (item ∷ more) = by item.part (those more)
      where
        here : List LiveControl
        here = filter (is_control_of kind) (controls more)

        others : List Item
        others = filter (λ (item : Item). of_kind kind item.part) more

        one : (control : LiveControl) (is is_too : Bool) → is ≡ is_too → length here ≡ length others
            → length (cond is (control ∷ here) here) ≡ length (cond is_too (item ∷ others) others)
        one control true true same rest = ap suc rest
        one control true false same rest = absurd (cc)
        one control false true same rest = absurd (cc)
        one control false false same rest = rest

        by : (part : ItemPart) → length here ≡ length others
            → length (filter (is_control_of kind) (with_control item.id part (controls more))) ≡ length (cond (of_kind kind part) (item ∷ others) others)
        by (parts.Control control) rest =
            one (record { id = item.id; item = control }) (kind_eq (kind_of control.setting) kind) (kind_eq kind (kind_of control.setting))
            (kind_swap (kind_of control.setting) kind) rest
        by (parts.Sensor sensor) rest = rest
        by parts.Fan rest = rest
        by (parts.Zone setting) rest = rest
        by (parts.Mux part) rest = rest
        by parts.Passive rest = rest
