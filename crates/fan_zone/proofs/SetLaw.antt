-- What `set` leaves is sound.
use Rattle.std.proofs.Common.{◌≡◌, ℕ, zero, suc, ◌+◌, Bool, true, false, ◌&&◌, ◌||◌, cond, if◌then◌else◌, nat_eq, List, [], ◌∷◌, slice_index_or}
use Rattle.std.proofs.Common.{Option, Some, None, IsSome, option_map, refl, ap, sym, ◌∙◌, subst, arith}
use Rattle.std.proofs.lemmas.Bool.{true≢false}
use Rattle.std.proofs.lemmas.Bool.Decides.{nat_tests}
use Rattle.std.proofs.lemmas.Option.{none-some, same_Some}
use Rattle.std.specs.List.{All, count_by}
use Rattle.std.specs.Option.{is_none}
use Rattle.ctl_face.specs.declared.kind.Kind.{Kind}
use Rattle.ctl_face.specs.Seen.{Seen, unloaded}
use Rattle.ctl_face.specs.Kinds.{kind_of, kind_eq}
use Rattle.fan_zone.specs.Live.{LiveControl, controls, id_eq}
use Rattle.fan_zone.specs.Boxes.{box_at, kinds_of}
use Rattle.cfg_json.specs.declared.item.ItemId.{ItemId}
use Rattle.cfg_json.specs.declared.item.Item.{Item}
use Rattle.fan_zone.specs.declared.held.Held.{Held}
use Rattle.fan_zone.specs.declared.held.Seat.{Seat}
use Rattle.fan_zone.specs.Rows.{numbered}
use Rattle.fan_zone.specs.Ticks.{ZonesView}
use Rattle.fan_zone.specs.Sets.{find_held, seat_of, kept_seat, with_number, kept_numbers, is_taken, cleared_box, cleared}
use Rattle.fan_zone.specs.Seats.{is_of, is_number_of, is_control_of, is_new_of, KeepsBox, IsRoomy}
use Rattle.fan_zone.specs.Settings.{CanSet, HasSameSetting, before}
use Rattle.fan_zone.specs.Sound.{IsSound, IsSeated, AreSeated, HasSmallOutput, IsTyped}
use Rattle.fan_zone.proofs.Numbered.{all_cons, all_tail, length-numbered}
use Rattle.fan_zone.proofs.Pigeons.{count_cons, count_same}
use Rattle.fan_zone.proofs.SoundLaw.{typed_at}

-- the one that is found is one of them
found_by : (P : Held → Type 0) (id : ItemId) (one : Held) (more : List Held) (held : Held) (b : Bool) → (if b then Some one else find_held id more)
    ≡ Some held → All P (one ∷ more)
    → (find_held id more ≡ Some held → P held) → P held
found_by P id one more held true e all rest = subst P (same_Some one held e) (all 0 one (omega arith))
found_by P id one more held false e all rest = rest e

pub found : (P : Held → Type 0) (id : ItemId) (list : List Held) (held : Held) → find_held id list ≡ Some held → All P list → P held
found P id [] held e all = absurd (none-some held e)
found P id (one ∷ more) held e all = found_by P id one more held (id_eq one.id id) e all (λ r. found P id more held r (all_tail P one more all))

-- the seat that is kept is that of one of them
pub kept_found : (o : Option Held) (seat : Seat) → option_map seat_of o ≡ Some seat → (held : Held) × (o ≡ Some held) × (seat_of held ≡ seat)
kept_found None seat e = absurd (none-some seat e)
kept_found (Some held) seat e = (held, refl, same_Some (seat_of held) seat e)

-- clearing
kind_cleared_by : (b : Bool) (seen : Seen) → (if b then seen else unloaded seen.kind).kind ≡ seen.kind
kind_cleared_by true seen = refl
kind_cleared_by false seen = refl

pub kind_from : (taken : List ℕ) (n : ℕ) (bank : List Seen) (m : ℕ) → (box_at (numbered (cleared_box taken) n bank) m).kind ≡ (box_at bank m).kind
kind_from taken n [] m = refl
kind_from taken n (b ∷ bank) zero = kind_cleared_by (is_taken taken n) b
kind_from taken n (b ∷ bank) (suc m) = kind_from taken (suc n) bank m

pub kinds_cleared : (taken : List ℕ) (n : ℕ) (bank : List Seen) → kinds_of (numbered (cleared_box taken) n bank) ≡ kinds_of bank
kinds_cleared taken n [] = refl
kinds_cleared taken n (b ∷ bank) =
    ap (λ (kind : Kind). kind ∷ kinds_of (numbered (cleared_box taken) (suc n) bank)) (kind_cleared_by (is_taken taken n) b)
    ∙ ap (λ (kinds : List Kind). b.kind ∷ kinds) (kinds_cleared taken (suc n) bank)

count_kinds : (kind : Kind) (bank : List Seen) → count_by (λ (each : Kind). kind_eq each kind) (kinds_of bank) ≡ count_by (is_of kind) bank
count_kinds kind [] = refl
count_kinds kind (b ∷ bank) =
    omega (arith, count_cons (λ (each : Kind). kind_eq each kind) b.kind (kinds_of bank), count_cons (is_of kind) b bank, count_kinds kind bank)

count_from : (kind : Kind) (taken : List ℕ) (n : ℕ) (bank : List Seen) → count_by (is_of kind) (numbered (cleared_box taken) n bank)
    ≡ count_by (is_of kind) bank
count_from kind taken n [] = refl
count_from kind taken n (b ∷ bank) =
    let one : cond {A = ℕ} (is_of kind (cleared_box taken n b)) 1 0 ≡ cond {A = ℕ} (is_of kind b) 1 0 =
    ap (λ (k : Kind). cond {A = ℕ} (kind_eq k kind) 1 0) (kind_cleared_by (is_taken taken n) b) in
    omega (
      arith,
      count_cons (is_of kind) (cleared_box taken n b) (numbered (cleared_box taken) (suc n) bank),
      count_cons (is_of kind) b bank,
      one,
      count_from kind taken (suc n) bank,
    )

pub box_from : (taken : List ℕ) (n : ℕ) (bank : List Seen) (m : ℕ) → is_taken taken (n + m) ≡ true → box_at (numbered (cleared_box taken) n bank) m
    ≡ box_at bank m
box_from taken n [] m is = refl
box_from taken n (b ∷ bank) zero is =
    let none : n ≡ n + 0 = omega arith in
    ap (λ (t : Bool). if t then b else unloaded b.kind) (ap (is_taken taken) none ∙ is)
box_from taken n (b ∷ bank) (suc m) is =
    let next : suc n + m ≡ n + suc m = omega arith in
    box_from taken (suc n) bank m (ap (is_taken taken) next ∙ is)

all_from_by : (P : Seen → Type 0) (b : Bool) (seen : Seen) → P seen → P (unloaded seen.kind) → P (if b then seen else unloaded seen.kind)
all_from_by P true seen there gone = there
all_from_by P false seen there gone = gone

all_from : (P : Seen → Type 0) (taken : List ℕ) (n : ℕ) (bank : List Seen) → ((kind : Kind) → P (unloaded kind)) → All P bank
    → All P (numbered (cleared_box taken) n bank)
all_from P taken n [] gone all = all
all_from P taken n (b ∷ bank) gone all =
    all_cons P (cleared_box taken n b) (numbered (cleared_box taken) (suc n) bank)
    (all_from_by P (is_taken taken n) b (all 0 b (omega arith)) (gone b.kind)) (all_from P taken (suc n) bank gone (all_tail P b bank all))

-- the boxes that are kept and the controllers that kept none are together as many as the controllers
split_one : (old : List Held) (bank : List Seen) (kind : Kind) (c : LiveControl) (numbers : List ℕ) (o : Option Seat) → kept_seat old c.id ≡ o
    → ((seat : Seat) → o ≡ Some seat → (box_at bank seat.number).kind ≡ kind_of c.item.setting)
    → count_by (is_number_of bank kind) (with_number o numbers) + cond {A = ℕ} (is_new_of old kind c) 1 0
    ≡ count_by (is_number_of bank kind) numbers + cond {A = ℕ} (is_control_of kind c) 1 0
split_one old bank kind c numbers None e is =
    let new : cond {A = ℕ} (is_new_of old kind c) 1 0 ≡ cond {A = ℕ} (is_control_of kind c) 1 0 =
    ap (λ (o : Option Seat). cond {A = ℕ} (is_none o && is_control_of kind c) 1 0) e in
    omega (arith, new)
split_one old bank kind c numbers (Some seat) e is =
    let new : cond {A = ℕ} (is_new_of old kind c) 1 0 ≡ 0 = ap (λ (o : Option Seat). cond {A = ℕ} (is_none o && is_control_of kind c) 1 0) e in
    let here : cond {A = ℕ} (is_number_of bank kind seat.number) 1 0 ≡ cond {A = ℕ} (is_control_of kind c) 1 0 =
    ap (λ (k : Kind). cond {A = ℕ} (kind_eq k kind) 1 0) (is seat refl) in
    omega (arith, new, here, count_cons (is_number_of bank kind) seat.number numbers)

abbrev FitsKind : List Held → List Seen → LiveControl → Type 0
FitsKind old bank c = (seat : Seat) → kept_seat old c.id ≡ Some seat → (box_at bank seat.number).kind ≡ kind_of c.item.setting

split_all : (old : List Held) (bank : List Seen) (kind : Kind) (cs : List LiveControl) → All (FitsKind old bank) cs
    → count_by (is_number_of bank kind) (kept_numbers old cs) + count_by (is_new_of old kind) cs ≡ count_by (is_control_of kind) cs
split_all old bank kind [] all = refl
split_all old bank kind (c ∷ cs) all =
    omega (
      arith,
      split_one old bank kind c (kept_numbers old cs) (kept_seat old c.id) refl (all 0 c (omega arith)),
      count_cons (is_new_of old kind) c cs,
      count_cons (is_control_of kind) c cs,
      split_all old bank kind cs (all_tail (FitsKind old bank) c cs all),
    )

-- a box that a controller keeps is among those that are kept
pub or_left : (a b : Bool) → a ≡ true → (a || b) ≡ true
or_left true b e = refl
or_left false b e = absurd (true≢false (sym e))

pub or_more : (a b : Bool) → b ≡ true → (a || b) ≡ true
or_more true b e = refl
or_more false b e = e

pub itself : (n : ℕ) → nat_eq n n ≡ true
itself n = grind (arith, nat_tests)

with_number_first : (o : Option Seat) (numbers : List ℕ) (seat : Seat) → o ≡ Some seat → is_taken (with_number o numbers) seat.number ≡ true
with_number_first None numbers seat e = absurd (none-some seat e)
with_number_first (Some one) numbers seat e = or_left (nat_eq one.number seat.number) (is_taken numbers seat.number)
    (ap (λ (s : Seat). nat_eq s.number seat.number) (same_Some one seat e) ∙ itself seat.number)

with_number_more : (o : Option Seat) (numbers : List ℕ) (n : ℕ) → is_taken numbers n ≡ true → is_taken (with_number o numbers) n ≡ true
with_number_more None numbers n is = is
with_number_more (Some one) numbers n is = or_more (nat_eq one.number n) (is_taken numbers n) is

abbrev pub IsNoted : List Held → List ℕ → LiveControl → Type 0
IsNoted old numbers c = (seat : Seat) → kept_seat old c.id ≡ Some seat → is_taken numbers seat.number ≡ true

pub noted : (old : List Held) (cs : List LiveControl) → All (IsNoted old (kept_numbers old cs)) cs
noted old [] = λ k d lt. absurd (omega arith)
noted old (c ∷ cs) =
    all_cons (IsNoted old (kept_numbers old (c ∷ cs))) c cs (λ seat e. with_number_first (kept_seat old c.id) (kept_numbers old cs) seat e)
    (λ k d lt seat e. with_number_more (kept_seat old c.id) (kept_numbers old cs) seat.number (noted old cs k d lt seat e))

-- the box of a controller that was there is of its kind
same_kind : (old : ZonesView) (c : LiveControl) → All IsTyped old.bank → HasSameSetting old c → FitsKind old.held old.bank c
same_kind old c typed same seat e =
    let f = kept_found (find_held c.id old.held) seat e in
    let number : f.0.number ≡ seat.number = ap (λ (s : Seat). s.number) f.2 in
    let is : kind_of c.item.setting ≡ (box_at old.bank f.0.number).kind = typed_at old.bank f.0.number typed c.item.setting (same f.0 f.1) in
    ap (λ (n : ℕ). (box_at old.bank n).kind) (sym number) ∙ sym is

kept_there : (old : ZonesView) (taken : List ℕ) (c : LiveControl) → AreSeated old.bank old.held → IsNoted old.held taken c
    → KeepsBox old.held taken (cleared taken old.bank) c
kept_there old taken c seats is seat e =
    let f = kept_found (find_held c.id old.held) seat e in
    let number : f.0.number ≡ seat.number = ap (λ (s : Seat). s.number) f.2 in
    let there = found (IsSeated old.bank) c.id old.held f.0 f.1 seats in
    let zero_more : 0 + seat.number ≡ seat.number = omega arith in
    let same : box_at (cleared taken old.bank) seat.number ≡ box_at old.bank f.0.number =
    box_from taken 0 old.bank seat.number (ap (is_taken taken) zero_more ∙ is seat e) ∙ ap (box_at old.bank) (sym number) in
    record {
      within = omega (arith, there.within, number, length-numbered (cleared_box taken) 0 old.bank);
      taken = is seat e;
      loaded = subst (λ (b : Seen). IsSome b.setting) (sym same) there.loaded;
    }

-- what holds before the first controller takes its seat
pub roomy_start : (old : ZonesView) (live : List Item) → IsSound old → CanSet old live → IsRoomy old.held (before old.held old.bank live) (controls live)
roomy_start old live s can =
    let cs = controls live in
    let taken = kept_numbers old.held cs in
    let bank = cleared taken old.bank in
    record {
      room = λ kind.
          let same : count_by (is_number_of bank kind) taken ≡ count_by (is_number_of old.bank kind) taken =
          count_same (is_number_of bank kind) (is_number_of old.bank kind) taken (λ n. ap (λ (k : Kind). kind_eq k kind) (kind_from taken 0 old.bank n)) in
          let fits : All (FitsKind old.held old.bank) cs = λ k d lt. same_kind old (slice_index_or cs k d) s.typed (can.same k d lt) in
          omega (arith, same, split_all old.held old.bank kind cs fits, can.room kind, count_kinds kind old.bank, count_from kind taken 0 old.bank);
      kept = λ k d lt. kept_there old taken (slice_index_or cs k d) s.seats (noted old.held cs k d lt);
      valid = can.valid;
      seats = λ k d lt. absurd (omega arith);
      taken = λ k d lt. absurd (omega arith);
      small = all_from HasSmallOutput taken 0 old.bank (λ kind x e. absurd (none-some x e)) s.outputs;
      typed = all_from IsTyped taken 0 old.bank (λ kind x e. absurd (none-some x e)) s.typed;
    }
