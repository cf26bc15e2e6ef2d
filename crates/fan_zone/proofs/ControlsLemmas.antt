-- Items that are no controllers do not count among the controllers, and where there is no zone there is none.
use Rattle.std.proofs.Common.{◌≡◌, ℕ, ◌+◌, ◌<◌, bytes_eq, true, false, List, [], ◌∷◌, ◌++◌, length, take, get_or, refl, ap, sym, ◌∙◌, arith}
use Rattle.std.proofs.lemmas.Bool.{true≢false}
use Rattle.std.proofs.lemmas.List.{take_more}
use Rattle.std.specs.Borrow.{Bor}
use Rattle.std.specs.List.{All, list_any}
use Rattle.cfg_json.specs.declared.item.Item.{Item}
use Rattle.cfg_json.specs.declared.item.ItemId.{ItemId}
use Rattle.cfg_json.specs.declared.item.ItemPart.{ItemPart}
use Rattle.cfg_json.specs.declared.item.ItemPart.TheVariants as parts
use Rattle.fan_zone.specs.Live.{LiveControl, LiveZone, controls, items_of, with_control, zones}
use Rattle.fan_zone.specs.Settings.{HasZone}
use Rattle.inventory.specs.Items.{is_control}

no_control : (id : ItemId) (part : ItemPart) (more : List LiveControl) → is_control part ≡ false → with_control id part more ≡ more
no_control id (parts.Control item) more other = absurd (true≢false other)
no_control id (parts.Zone setting) more other = refl
no_control id parts.Fan more other = refl
no_control id (parts.Sensor sensor) more other = refl
no_control id (parts.Mux part) more other = refl
no_control id parts.Passive more other = refl

behind : (refs : List (Bor Item)) (x : Bor Item) → is_control x.now.part ≡ false → controls (items_of (refs ++ x ∷ [])) ≡ controls (items_of refs)
behind [] x other = no_control x.now.id x.now.part [] other
behind (ref ∷ refs) x other = ap (with_control ref.now.id ref.now.part) (behind refs x other)

-- one that stands behind the others
pub not_last : (live : List (Bor Item)) (n : ℕ) (d : Bor Item) → n < length live → is_control (get_or live n d).now.part ≡ false
    → controls (items_of (take (n + 1) live)) ≡ controls (items_of (take n live))
not_last live n d lt other =
    ap (λ (refs : List (Bor Item)). controls (items_of refs)) (take_more live n d lt) ∙ behind (take n live) (get_or live n d) other

none_placed : (zones : List LiveZone) (controls : List LiveControl) → length zones ≡ 0
    → All (λ (control : LiveControl). list_any (λ (zone : LiveZone). bytes_eq zone.name control.item.zone) zones ≡ true) controls → controls ≡ []
none_placed zones [] none placed = refl
none_placed [] (control ∷ more) none placed = absurd (true≢false (sym (placed 0 control (omega arith))))
none_placed (zone ∷ zones) (control ∷ more) none placed = absurd (omega (arith, none))

-- where no zone is live, no controller is, since each is in one of them
pub without_zones : (live : List Item) → length (zones live) ≡ 0 → All (HasZone live) (controls live) → controls live ≡ []
without_zones live none placed = none_placed (zones live) (controls live) none placed
