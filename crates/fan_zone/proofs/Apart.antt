-- No two controllers share a box.
use Rattle.std.proofs.Common.{◌≡◌, ◌≢◌, ℕ, zero, suc, ◌+◌, ◌<◌, Bool, true, false, ◌||◌, if◌then◌else◌, nat_eq, List, [], ◌∷◌, ◌++◌, length, map}
use Rattle.std.proofs.Common.{slice_index_or, Option, Some, None, refl, ap, sym, ◌∙◌, subst, arith}
use Rattle.std.proofs.lemmas.Bool.{true≢false}
use Rattle.std.proofs.lemmas.Bool.Decides.{nat_tests}
use Rattle.std.proofs.lemmas.List.{map-append}
use Rattle.std.proofs.lemmas.List.Folds.{list_any-append}
use Rattle.std.proofs.lemmas.Option.{none-some, same_Some}
use Rattle.std.proofs.lemmas.Map.Keys.{IsDistinct-head, IsDistinct-tail}
use Rattle.std.specs.List.{All, AllByRecursion, IsDistinct}
use Rattle.ctl_face.specs.Seen.{Seen}
use Rattle.ctl_face.specs.Kinds.{kind_of}
use Rattle.cfg_json.specs.declared.item.ItemId.{ItemId}
use Rattle.cfg_json.specs.declared.item.Item.{Item}
use Rattle.fan_zone.specs.Live.{LiveControl, controls, id_eq, id_of}
use Rattle.fan_zone.specs.declared.held.Held.{Held}
use Rattle.fan_zone.specs.declared.held.Seat.{Seat}
use Rattle.fan_zone.specs.declared.rows.ZoneRow.{ZoneRow}
use Rattle.live_sensors.specs.Sensors.{LiveSensors}
use Rattle.fan_zone.specs.Ticks.{ZonesView}
use Rattle.fan_zone.specs.Sets.{Seating, find_held, kept_seat, kept_numbers, is_taken, free, held_of, seated, seated_free, seat_next, seat_all}
use Rattle.fan_zone.specs.Seats.{IsRoomy}
use Rattle.fan_zone.specs.Settings.{CanSet, before, zone_rows_of, seating_of}
use Rattle.fan_zone.specs.Sound.{IsSound, Differ, number_of}
use Rattle.fan_zone.proofs.Numbered.{all_tail}
use Rattle.fan_zone.proofs.EqualLemmas.{id_same, id_self}
use Rattle.fan_zone.proofs.Free.{free_box}
use Rattle.fan_zone.proofs.Room.{roomy_next, free_there}
use Rattle.fan_zone.proofs.SetLaw.{IsNoted, noted, kept_found, roomy_start, itself, or_left, or_more, box_from}
use Rattle.fan_zone.proofs.Sitting.{Untouched, untouched_next, numbers, or_false}

same_number : (a b : ℕ) → nat_eq a b ≡ true → a ≡ b
same_number a b e = grind (arith, nat_tests)

not_by : (b : Bool) → (b ≡ true → ⊥) → b ≡ false
not_by true h = absurd (h refl)
not_by false h = refl

neither : (a b : Bool) → a ≡ false → b ≡ false → (a || (b || false)) ≡ false
neither true b e f = absurd (true≢false e)
neither false true e f = absurd (true≢false f)
neither false false e f = refl

neither2 : (a b : Bool) → a ≡ false → b ≡ false → (a || b) ≡ false
neither2 true b e f = absurd (true≢false e)
neither2 false b e f = f

not_both : (a b : ℕ) → (nat_eq a b ≡ true → ⊥) → nat_eq a b ≡ false
not_both a b h = not_by (nat_eq a b) h

-- one that is found has the id, and its number is one of the numbers
pub record IsFound (id : ItemId) (list : List Held) (held : Held) : Type 0 where
  pub id_is : held.id ≡ id
  pub among : is_taken (numbers list) held.number ≡ true

found_by : (id : ItemId) (one : Held) (more : List Held) (held : Held) (b : Bool) → id_eq one.id id ≡ b → (if b then Some one else find_held id more)
    ≡ Some held → (find_held id more ≡ Some held → IsFound id more held) → IsFound id (one ∷ more) held
found_by id one more held true test e rest =
    let same : one ≡ held = same_Some one held e in
    record {
      id_is = ap (λ (h : Held). h.id) (sym same) ∙ id_same one.id id test;
      among = or_left (nat_eq one.number held.number) (is_taken (numbers more) held.number)
          (ap (λ (h : Held). nat_eq h.number held.number) same ∙ itself held.number);
    }
found_by id one more held false test e rest =
    let f = rest e in
    record { id_is = f.id_is; among = or_more (nat_eq one.number held.number) (is_taken (numbers more) held.number) f.among }

is_found : (id : ItemId) (list : List Held) (held : Held) → find_held id list ≡ Some held → IsFound id list held
is_found id [] held e = absurd (none-some held e)
is_found id (one ∷ more) held e = found_by id one more held (id_eq one.id id) refl e (λ r. is_found id more held r)

-- two that are found in one box are one
same_by : (a b : ItemId) (one : Held) (more : List Held) (h k : Held) (p q : Bool) → is_taken (numbers more) one.number ≡ false
    → (if p then Some one else find_held a more) ≡ Some h → (if q then Some one else find_held b more) ≡ Some k → h.number ≡ k.number
    → (find_held a more ≡ Some h → find_held b more ≡ Some k → h ≡ k) → h ≡ k
same_by a b one more h k true true not e f same rest = sym (same_Some one h e) ∙ same_Some one k f
same_by a b one more h k true false not e f same rest =
    let o : one ≡ h = same_Some one h e in
    let number : k.number ≡ one.number = sym same ∙ ap (λ (x : Held). x.number) (sym o) in
    absurd (true≢false (sym (is_found b more k f).among ∙ (ap (is_taken (numbers more)) number ∙ not)))
same_by a b one more h k false true not e f same rest =
    let o : one ≡ k = same_Some one k f in
    let number : h.number ≡ one.number = same ∙ ap (λ (x : Held). x.number) (sym o) in
    absurd (true≢false (sym (is_found a more h e).among ∙ (ap (is_taken (numbers more)) number ∙ not)))
same_by a b one more h k false false not e f same rest = rest e f

same_held : (a b : ItemId) (list : List Held) (h k : Held) → Differ (numbers list) → find_held a list ≡ Some h → find_held b list ≡ Some k → h.number
    ≡ k.number → h ≡ k
same_held a b [] h k d e f same = absurd (none-some h e)
same_held a b (one ∷ more) h k d e f same = same_by a b one more h k (id_eq one.id a) (id_eq one.id b) d.0 e f same (λ x y. same_held a b more h k d.1 x y same)

-- controllers that keep one box are one
same_id : (old : List Held) (a b : LiveControl) (s t : Seat) → Differ (numbers old) → kept_seat old a.id ≡ Some s → kept_seat old b.id ≡ Some t → s.number
    ≡ t.number → a.id ≡ b.id
same_id old a b s t d e f same =
    let x = kept_found (find_held a.id old) s e in
    let y = kept_found (find_held b.id old) t f in
    let number : x.0.number ≡ y.0.number = ap (λ (z : Seat). z.number) x.2 ∙ (same ∙ ap (λ (z : Seat). z.number) (sym y.2)) in
    let one : x.0 ≡ y.0 = same_held a.id b.id old x.0 y.0 d x.1 y.1 number in
    sym (is_found a.id old x.0 x.1).id_is ∙ (ap (λ (h : Held). h.id) one ∙ (is_found b.id old y.0 y.1).id_is)

-- one more number
push_taken : (list : List ℕ) (last number : ℕ) → is_taken list number ≡ false → nat_eq last number ≡ false → is_taken (list ++ last ∷ []) number ≡ false
push_taken list last number a b = list_any-append (λ (one : ℕ). nat_eq one number) list (last ∷ []) ∙ neither (is_taken list number) (nat_eq last number) a b

swapped : (a b : ℕ) → nat_eq a b ≡ false → nat_eq b a ≡ false
swapped a b e = not_both b a (λ f. true≢false (sym (ap (λ (x : ℕ). nat_eq x b) (sym (same_number b a f)) ∙ itself b) ∙ e))

push_differ : (list : List ℕ) (last : ℕ) → Differ list → is_taken list last ≡ false → Differ (list ++ last ∷ [])
push_differ [] last d not = (refl, tt)
push_differ (one ∷ more) last d not =
    let o = or_false (nat_eq one last) (is_taken more last) not in
    (push_taken more last one d.0 (swapped one last o.0), push_differ more last d.1 o.1)

-- what holds while the controllers take their seats
abbrev IsClear : List Held → List Held → LiveControl → Type 0
IsClear old held c = (seat : Seat) → kept_seat old c.id ≡ Some seat → is_taken (numbers held) seat.number ≡ false

pub record Separate (old : List Held) (s : Seating) (left : List LiveControl) : Type 0 where
  pub differ : Differ (numbers s.held)
  pub clear : All (IsClear old s.held) left
  pub ids : IsDistinct id_eq (map id_of left)

numbers_push : (held : List Held) (one : Held) → numbers (held ++ one ∷ []) ≡ numbers held ++ one.number ∷ []
numbers_push held one = map-append number_of held (one ∷ [])

-- the id of the first controller is no other's
other_id : (id : ItemId) (left : List LiveControl) (k : ℕ) (d : LiveControl) → AllByRecursion (λ (other : ItemId). id_eq id other ≡ false) (map id_of left)
    → k < length left → id ≢ (slice_index_or left k d).id
other_id id [] k d all lt = absurd (omega arith)
other_id id (c ∷ left) zero d all lt = λ e. true≢false (sym (ap (λ (other : ItemId). id_eq id other) (sym e) ∙ id_self id) ∙ all.0)
other_id id (c ∷ left) (suc k) d all lt = other_id id left k d all.1 (omega arith)

separate_kept : (rows : List ZoneRow) (sensors : LiveSensors) (old : List Held) (s : Seating) (c : LiveControl) (left : List LiveControl) (seat : Seat)
    → Differ (numbers old) → kept_seat old c.id ≡ Some seat → Separate old s (c ∷ left)
    → Separate old (seated rows sensors c s (Some seat)) left
separate_kept rows sensors old s c left seat d e a =
    let one = held_of rows sensors c seat in
    let not : is_taken (numbers s.held) seat.number ≡ false = a.clear 0 c (omega arith) seat e in
    record {
      differ = subst Differ (sym (numbers_push s.held one)) (push_differ (numbers s.held) seat.number a.differ not);
      clear = λ k z lt seat2 e2.
          let c2 = slice_index_or left k z in
          let apart : nat_eq seat.number seat2.number ≡ false =
          not_both seat.number seat2.number (λ f. other_id c.id left k z (IsDistinct-head id_eq c.id (map id_of left) a.ids) lt
          (same_id old c c2 seat seat2 d e e2 (same_number seat.number seat2.number f))) in
          ap (λ (l : List ℕ). is_taken l seat2.number) (numbers_push s.held one)
          ∙ push_taken (numbers s.held) seat.number seat2.number (all_tail (IsClear old s.held) c left a.clear k z lt seat2 e2) apart;
      ids = IsDistinct-tail id_eq c.id (map id_of left) a.ids;
    }

-- what is taken by all that sit is not free
none_sits : (held : List Held) (taken : List ℕ) (n : ℕ) → All (λ (h : Held). is_taken taken h.number ≡ true) held → is_taken taken n ≡ false
    → is_taken (numbers held) n ≡ false
none_sits [] taken n all not = refl
none_sits (h ∷ held) taken n all not =
    let apart : nat_eq h.number n ≡ false = not_both h.number n (λ f. true≢false
    (sym (all 0 h (omega arith)) ∙ (ap (is_taken taken) (same_number h.number n f) ∙ not))) in
    neither2 (nat_eq h.number n) (is_taken (numbers held) n) apart (none_sits held taken n
    (all_tail (λ (x : Held). is_taken taken x.number ≡ true) h held all) not)

separate_new : (rows : List ZoneRow) (sensors : LiveSensors) (old : List Held) (base : List ℕ) (start : List Seen) (s : Seating) (c : LiveControl)
    (left : List LiveControl) (n : ℕ) → IsRoomy old s (c ∷ left) → Untouched base start s
    → All (IsNoted old base) left → free (kind_of c.item.setting) s.taken 0 s.bank ≡ Some n → Separate old s (c ∷ left)
    → Separate old (seated_free rows sensors c s (Some n)) left
separate_new rows sensors old base start s c left n r u noted is a =
    let f = free_box (kind_of c.item.setting) s.taken s.bank n is in
    let one = held_of rows sensors c (record { number = n; age = 0 }) in
    record {
      differ = subst Differ (sym (numbers_push s.held one)) (push_differ (numbers s.held) n a.differ (none_sits s.held s.taken n r.taken f.untaken));
      clear = λ k z lt seat2 e2.
          let apart : nat_eq n seat2.number ≡ false =
          not_both n seat2.number (λ g. true≢false (sym (u.taken seat2.number (noted k z lt seat2 e2))
          ∙ (ap (is_taken s.taken) (sym (same_number n seat2.number g)) ∙ f.untaken))) in
          ap (λ (l : List ℕ). is_taken l seat2.number) (numbers_push s.held one)
          ∙ push_taken (numbers s.held) n seat2.number (all_tail (IsClear old s.held) c left a.clear k z lt seat2 e2) apart;
      ids = IsDistinct-tail id_eq c.id (map id_of left) a.ids;
    }

separate_by : (rows : List ZoneRow) (sensors : LiveSensors) (old : List Held) (base : List ℕ) (start : List Seen) (s : Seating) (c : LiveControl)
    (left : List LiveControl) (o : Option Seat) → kept_seat old c.id ≡ o → Differ (numbers old)
    → IsRoomy old s (c ∷ left) → Untouched base start s → All (IsNoted old base) left → Separate old s (c ∷ left)
    → Separate old (seated rows sensors c s o) left
separate_by rows sensors old base start s c left (Some seat) e d r u noted a = separate_kept rows sensors old s c left seat d e a
separate_by rows sensors old base start s c left None e d r u noted a =
    let f = free_there old s c left e r in
    subst (λ (o : Option ℕ). Separate old (seated_free rows sensors c s o) left) (sym f.1)
    (separate_new rows sensors old base start s c left f.0 r u noted f.1 a)

separate_all : (rows : List ZoneRow) (sensors : LiveSensors) (old : List Held) (base : List ℕ) (start : List Seen) (s : Seating) (cs : List LiveControl)
    → Differ (numbers old) → IsRoomy old s cs → Untouched base start s → All (IsNoted old base) cs
    → Separate old s cs → Differ (numbers (seat_all rows sensors old s cs).held)
separate_all rows sensors old base start s [] d r u noted a = a.differ
separate_all rows sensors old base start s (c ∷ cs) d r u noted a =
    let more = all_tail (IsNoted old base) c cs noted in
    separate_all rows sensors old base start (seat_next rows sensors old s c) cs d (roomy_next rows sensors old s c cs r)
    (untouched_next rows sensors old base start s c u) more
    (separate_by rows sensors old base start s c cs (kept_seat old c.id) refl d r u more a)

pub apart_set : (live : List Item) (sensors : LiveSensors) (old : ZonesView) → IsSound old → CanSet old live
    → Differ (map number_of (seating_of old live sensors).held)
apart_set live sensors old s can =
    let cs = controls live in
    let taken = kept_numbers old.held cs in
    let start = before old.held old.bank live in
    let zero_more = λ (n : ℕ). let e : 0 + n ≡ n = omega arith in e in
    let untouched : Untouched taken old.bank start = record {
      taken = λ number is. is;
      still = λ number is. box_from taken 0 old.bank number (ap (is_taken taken) (zero_more number) ∙ is);
    } in
    separate_all (zone_rows_of old live) sensors old.held taken old.bank start cs s.apart (roomy_start old live s can) untouched (noted old.held cs)
    (record { differ = tt; clear = λ k d lt seat e. refl; ids = can.ids })
