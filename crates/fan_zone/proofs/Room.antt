-- One more controller takes its seat.
use Rattle.std.proofs.Common.{◌≡◌, ℕ, ◌≤◌, Bool, true, ◌&&◌, cond, List, [], ◌∷◌, ◌++◌, slice_index_or, Option, Some, None, IsSome, refl, ap, sym}
use Rattle.std.proofs.Common.{◌∙◌, subst, arith}
use Rattle.std.proofs.lemmas.List.{length-set}
use Rattle.std.specs.List.{All, count_by}
use Rattle.std.specs.Option.{is_none}
use Rattle.ctl_face.specs.declared.kind.Kind.{Kind}
use Rattle.ctl_face.specs.declared.setting.Setting.{Setting}
use Rattle.ctl_face.specs.Seen.{Seen, loaded}
use Rattle.ctl_face.specs.Kinds.{kind_of, kind_eq}
use Rattle.fan_zone.specs.Live.{LiveControl}
use Rattle.fan_zone.specs.Boxes.{box_at}
use Rattle.fan_zone.proofs.EqualLemmas.{kind_self}
use Rattle.fan_zone.specs.declared.held.Held.{Held}
use Rattle.fan_zone.specs.declared.held.Seat.{Seat}
use Rattle.fan_zone.specs.declared.rows.ZoneRow.{ZoneRow}
use Rattle.live_sensors.specs.Sensors.{LiveSensors}
use Rattle.fan_zone.specs.Sets.{Seating, kept_seat, is_taken, free, seated, seated_free, seat_next, held_of}
use Rattle.fan_zone.specs.Seats.{IsValidControl, is_of, is_number_of, is_control_of, is_new_of, IsKept, KeepsBox, IsRoomy}
use Rattle.fan_zone.specs.Sound.{IsSeated}
use Rattle.fan_zone.proofs.Numbered.{all_tail, all_push}
use Rattle.fan_zone.proofs.Pigeons.{count_cons, count_push, count_same, pigeons}
use Rattle.fan_zone.proofs.Free.{free_box}
use Rattle.fan_zone.proofs.Loaded.{load_box, kind_kept, count_loaded, loaded_here, taken_still, taken_new, seated_still, kept_still, small_loaded, typed_loaded}

kept_head : (old : List Held) (taken : List ℕ) (bank : List Seen) (c : LiveControl) (left : List LiveControl) (seat : Seat)
    → All (KeepsBox old taken bank) (c ∷ left) → kept_seat old c.id ≡ Some seat → IsKept taken bank seat
kept_head old taken bank c left seat all e = all 0 c (omega arith) seat e

-- one that kept its box
roomy_kept : (rows : List ZoneRow) (sensors : LiveSensors) (old : List Held) (s : Seating) (c : LiveControl) (left : List LiveControl) (seat : Seat)
    → kept_seat old c.id ≡ Some seat → IsRoomy old s (c ∷ left)
    → IsRoomy old (seated rows sensors c s (Some seat)) left
roomy_kept rows sensors old s c left seat e r =
    let k = kept_head old s.taken s.bank c left seat r.kept e in
    let one = held_of rows sensors c seat in
    record {
      room = λ kind.
          let no : cond {A = ℕ} (is_new_of old kind c) 1 0 ≡ 0 = ap (λ (o : Option Seat). cond {A = ℕ} (is_none o && is_control_of kind c) 1 0) e in
          omega (arith, r.room kind, count_cons (is_new_of old kind) c left, no);
      kept = all_tail (KeepsBox old s.taken s.bank) c left r.kept;
      valid = all_tail IsValidControl c left r.valid;
      seats = all_push (IsSeated s.bank) s.held one r.seats (record { within = k.within; loaded = k.loaded });
      taken = all_push (λ (h : Held). is_taken s.taken h.number ≡ true) s.held one r.taken k.taken;
      small = r.small;
      typed = r.typed;
    }

some_of : (o : Option ℕ) → ((o ≡ None) → ⊥) → (n : ℕ) × (o ≡ Some n)
some_of None h = absurd (h refl)
some_of (Some n) h = (n, refl)

-- a box is free for one that kept none
pub free_there : (old : List Held) (s : Seating) (c : LiveControl) (left : List LiveControl) → kept_seat old c.id ≡ None → IsRoomy old s (c ∷ left)
    → (n : ℕ) × (free (kind_of c.item.setting) s.taken 0 s.bank ≡ Some n)
free_there old s c left e r =
    let kind = kind_of c.item.setting in
    some_of (free kind s.taken 0 s.bank) (λ none.
    let new : cond {A = ℕ} (is_new_of old kind c) 1 0 ≡ 1 = ap (λ (o : Option Seat). cond {A = ℕ} (is_none o && is_control_of kind c) 1 0) e
    ∙ ap (λ (b : Bool). cond {A = ℕ} b 1 0) (kind_self kind) in
    let full : count_by (is_of kind) s.bank ≤ count_by (is_number_of s.bank kind) s.taken = pigeons kind s.taken s.bank none in
    omega (arith, full, new, r.room kind, count_cons (is_new_of old kind) c left))

-- one that takes a free box
roomy_new : (rows : List ZoneRow) (sensors : LiveSensors) (old : List Held) (s : Seating) (c : LiveControl) (left : List LiveControl) (n : ℕ)
    → kept_seat old c.id ≡ None → free (kind_of c.item.setting) s.taken 0 s.bank ≡ Some n
    → IsRoomy old s (c ∷ left) → IsRoomy old (seated_free rows sensors c s (Some n)) left
roomy_new rows sensors old s c left n e is r =
    let set = c.item.setting in
    let f = free_box (kind_of set) s.taken s.bank n is in
    let bank = load_box s.bank n set in
    let taken = s.taken ++ n ∷ [] in
    let one = held_of rows sensors c (record { number = n; age = 0 }) in
    record {
      room = λ kind.
          let new : cond {A = ℕ} (is_new_of old kind c) 1 0 ≡ cond {A = ℕ} (is_control_of kind c) 1 0 =
          ap (λ (o : Option Seat). cond {A = ℕ} (is_none o && is_control_of kind c) 1 0) e in
          let here : cond {A = ℕ} (is_number_of bank kind n) 1 0 ≡ cond {A = ℕ} (is_control_of kind c) 1 0 =
          ap (λ (k : Kind). cond {A = ℕ} (kind_eq k kind) 1 0) (kind_kept s.bank n n set ∙ f.kind_is) in
          let same : count_by (is_number_of bank kind) s.taken ≡ count_by (is_number_of s.bank kind) s.taken =
          count_same (is_number_of bank kind) (is_number_of s.bank kind) s.taken (λ m. ap (λ (k : Kind). kind_eq k kind) (kind_kept s.bank n m set)) in
          omega (
            arith,
            r.room kind,
            count_cons (is_new_of old kind) c left,
            new,
            here,
            same,
            count_push (is_number_of bank kind) s.taken n,
            count_loaded
                kind s.bank n set,
          );
      kept = λ k d lt seat at. kept_still s.bank s.taken n set seat f.untaken (all_tail (KeepsBox old s.taken s.bank) c left r.kept k d lt seat at);
      valid = all_tail IsValidControl c left r.valid;
      seats = all_push (IsSeated bank) s.held one (λ k d lt. seated_still s.bank s.taken n set (slice_index_or s.held k d) f.untaken (r.taken k d lt)
          (r.seats k d lt))
          (record {
            within = omega (arith, f.within, length-set s.bank n (loaded (box_at s.bank n) set));
            loaded =
                subst (λ (o : Option Setting). IsSome o) (sym (loaded_here s.bank n set f.within)) refl;
          });
      taken = all_push (λ (h : Held). is_taken taken h.number ≡ true) s.held one
          (λ k d lt. taken_still s.taken (n ∷ []) (slice_index_or s.held k d).number (r.taken k d lt)) (taken_new s.taken n);
      small = small_loaded s.bank n set r.small;
      typed = typed_loaded s.bank n set (sym f.kind_is) r.typed;
    }

roomy_by : (rows : List ZoneRow) (sensors : LiveSensors) (old : List Held) (s : Seating) (c : LiveControl) (left : List LiveControl) (o : Option Seat)
    → kept_seat old c.id ≡ o → IsRoomy old s (c ∷ left)
    → IsRoomy old (seated rows sensors c s o) left
roomy_by rows sensors old s c left (Some seat) e r = roomy_kept rows sensors old s c left seat e r
roomy_by rows sensors old s c left None e r =
    let f = free_there old s c left e r in
    subst (λ (o : Option ℕ). IsRoomy old (seated_free rows sensors c s o) left) (sym f.1) (roomy_new rows sensors old s c left f.0 e f.1 r)

pub roomy_next : (rows : List ZoneRow) (sensors : LiveSensors) (old : List Held) (s : Seating) (c : LiveControl) (left : List LiveControl)
    → IsRoomy old s (c ∷ left) → IsRoomy old (seat_next rows sensors old s c) left
roomy_next rows sensors old s c left r = roomy_by rows sensors old s c left (kept_seat old c.id) refl r
