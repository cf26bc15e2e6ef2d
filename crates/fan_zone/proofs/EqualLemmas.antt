-- Kinds and ids that test alike are one.
use Rattle.std.proofs.Common.{◌≡◌, Bool, true, false, ◌&&◌, Option, Some, None, refl, sym, ap}
use Rattle.std.specs.Option.{option_eq}
use Rattle.std.proofs.lemmas.Bool.{true≢false, eq-eqb, eqb-true}
use Rattle.bmc_base.specs.Places.{Place, place_eq}
use Rattle.ctl_face.specs.declared.kind.Kind.{Kind}
use Rattle.ctl_face.specs.declared.kind.Kind.TheVariants.{Pid, Stepwise}
use Rattle.ctl_face.specs.Kinds.{kind_eq}
use Rattle.cfg_json.specs.declared.item.ItemId.{ItemId}
use Rattle.fan_zone.specs.Live.{id_eq}

pub kind_same : (kind other : Kind) → kind_eq kind other ≡ true → kind ≡ other
kind_same Pid Pid same = refl
kind_same Pid Stepwise same = absurd (true≢false (sym same))
kind_same Stepwise Pid same = absurd (true≢false (sym same))
kind_same Stepwise Stepwise same = refl

pub kind_self : (kind : Kind) → kind_eq kind kind ≡ true
kind_self Pid = refl
kind_self Stepwise = refl

and_first : (one other : Bool) → (one && other) ≡ true → one ≡ true
and_first true other both = refl
and_first false other both = both

and_second : (one other : Bool) → (one && other) ≡ true → other ≡ true
and_second true other both = both
and_second false other both = absurd (cc)

and_both : (one other : Bool) → one ≡ true → other ≡ true → (one && other) ≡ true
and_both true other first second = second
and_both false other first second = first

place_same : (place other : Place) → place_eq place other ≡ true → place ≡ other
place_same place other same =
    let bus : place.bus ≡ other.bus = eqb-true place.bus other.bus (and_first _ _ same) in
    let address : place.address ≡ other.address = eqb-true place.address other.address (and_second _ _ same) in
    λ i. record { bus = bus i; address = address i }

place_self : (place : Place) → place_eq place place ≡ true
place_self place = and_both _ _ (eq-eqb place.bus place.bus refl) (eq-eqb place.address place.address refl)

board_same : (place other : Option Place) → option_eq place_eq place other ≡ true → place ≡ other
board_same None None same = refl
board_same None (Some other) same = absurd (cc)
board_same (Some place) None same = absurd (cc)
board_same (Some place) (Some other) same = ap Some (place_same place other same)

board_self : (place : Option Place) → option_eq place_eq place place ≡ true
board_self None = refl
board_self (Some place) = place_self place

pub id_same : (id other : ItemId) → id_eq id other ≡ true → id ≡ other
id_same id other same =
    let config : id.config ≡ other.config = eqb-true _ _ (and_first _ _ (and_first _ _ same)) in
    let place : id.place ≡ other.place = board_same _ _ (and_second _ _ (and_first _ _ same)) in
    let expose : id.expose ≡ other.expose = eqb-true _ _ (and_second _ _ same) in
    λ i. record { config = config i; place = place i; expose = expose i }

pub id_self : (id : ItemId) → id_eq id id ≡ true
id_self id =
    and_both _ _ (and_both _ _ (eq-eqb id.config id.config refl) (board_self id.place)) (eq-eqb id.expose id.expose refl)
