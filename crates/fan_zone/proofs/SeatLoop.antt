-- All controllers take their seats, one item after another.
use Rattle.std.proofs.Common.{◌≡◌, ℕ, Bool, cond, ◌+◌, ◌<◌, ◌≤◌, List, [], ◌∷◌, ◌++◌, length, drop, get_or, Option, Some, None, IsSome, refl, ap, sym}
use Rattle.std.proofs.Common.{◌∙◌, subst, arith, Bor}
use Rattle.std.proofs.lemmas.List.{append-nil, length-append, drop_more, drop_all, length_push}
use Rattle.std.proofs.lemmas.List.Sums.{sum_by-append}
use Rattle.std.specs.List.{All, count_by}
use Rattle.std.specs.Option.{is_none}
use Rattle.ctl_face.specs.Kinds.{kind_of}
use Rattle.cfg_json.specs.declared.item.ItemId.{ItemId}
use Rattle.cfg_json.specs.declared.item.Item.{Item}
use Rattle.cfg_json.specs.declared.item.ControlItem.{ControlItem}
use Rattle.cfg_json.specs.declared.item.ItemPart.{ItemPart}
use Rattle.cfg_json.specs.declared.item.ItemPart.TheVariants as parts
use Rattle.fan_zone.specs.Live.{LiveControl, controls, items_of, with_control}
use Rattle.fan_zone.specs.declared.held.Held.{Held}
use Rattle.fan_zone.specs.declared.held.Seat.{Seat}
use Rattle.fan_zone.specs.declared.rows.ZoneRow.{ZoneRow}
use Rattle.live_sensors.specs.Sensors.{LiveSensors}
use Rattle.fan_zone.specs.Sets.{Seating, kept_seat, free, seated, seated_free, seat_next, seat_all, held_of}
use Rattle.fan_zone.specs.Seats.{is_new, IsReady, IsRoomy}
use Rattle.fan_zone.proofs.Numbered.{all_cons}
use Rattle.fan_zone.proofs.Pigeons.{count_cons}
use Rattle.fan_zone.proofs.Keeping.{controls_more}
use Rattle.fan_zone.proofs.Room.{roomy_next, free_there}

pub ready_at : (P : LiveControl → Type 0) (id : ItemId) (part : ItemPart) (control : ControlItem) → part ≡ parts.Control control
    → All P (with_control id part []) → P (record { id = id; item = control })
ready_at P id part control e all =
    let here : All P (with_control id (parts.Control control) []) = subst (λ (p : ItemPart). All P (with_control id p [])) e all in
    here 0 (record { id = id; item = control }) (omega arith)

-- a new controller is counted
pub counted_at : (old : List Held) (id : ItemId) (part : ItemPart) (control : ControlItem) (n room : ℕ) → part ≡ parts.Control control
    → n + count_by (is_new old) (with_control id part []) ≤ room → kept_seat old id ≡ None → n < room
counted_at old id part control n room e le new =
    let one : LiveControl = record { id = id; item = control } in
    let same : count_by (is_new old) (with_control id part []) ≡ count_by (is_new old) (one ∷ []) =
    ap (λ (p : ItemPart). count_by (is_new old) (with_control id p [])) e in
    let counts : cond {A = ℕ} (is_new old one) 1 0 ≡ 1 = ap (λ (seat : Option Seat). cond {A = ℕ} (is_none seat) 1 0) new in
    omega (arith, le, same, counts, count_cons (is_new old) one [])

-- seats grow by at most one
pub record Grew (before after : Seating) (n new : ℕ) : Type 0 where
  pub held : length after.held ≤ length before.held + n
  pub taken : length after.taken ≤ length before.taken + new

grew_free : (rows : List ZoneRow) (sensors : LiveSensors) (c : LiveControl) (s : Seating) (o : Option ℕ) → Grew s (seated_free rows sensors c s o) 1 1
grew_free rows sensors c s None = record { held = omega arith; taken = omega arith }
grew_free rows sensors c s (Some n) = record {
  held = omega (arith, length_push s.held (held_of rows sensors c (record { number = n; age = 0 })));
  taken = omega (arith, length_push s.taken n);
}

grew_by : (rows : List ZoneRow) (sensors : LiveSensors) (c : LiveControl) (s : Seating) (o : Option Seat)
    → Grew s (seated rows sensors c s o) 1 (cond {A = ℕ} (is_none o) 1 0)
grew_by rows sensors c s (Some seat) = record { held = omega (arith, length_push s.held (held_of rows sensors c seat)); taken = omega arith }
grew_by rows sensors c s None = grew_free rows sensors c s (free (kind_of c.item.setting) s.taken 0 s.bank)

pub grew : (rows : List ZoneRow) (sensors : LiveSensors) (old : List Held) (s : Seating) (cs : List LiveControl)
    → Grew s (seat_all rows sensors old s cs) (length cs) (count_by (is_new old) cs)
grew rows sensors old s [] = record { held = omega arith; taken = omega arith }
grew rows sensors old s (c ∷ cs) =
    let next = seat_next rows sensors old s c in
    let one = grew_by rows sensors c s (kept_seat old c.id) in
    let more = grew rows sensors old next cs in
    record { held = omega (arith, one.held, more.held); taken = omega (arith, one.taken, more.taken, count_cons (is_new old) c cs) }

-- seats in two parts
pub seat_append : (rows : List ZoneRow) (sensors : LiveSensors) (old : List Held) (s : Seating) (a b : List LiveControl)
    → seat_all rows sensors old s (a ++ b) ≡ seat_all rows sensors old (seat_all rows sensors old s a) b
seat_append rows sensors old s [] b = refl
seat_append rows sensors old s (c ∷ a) b = seat_append rows sensors old (seat_next rows sensors old s c) a b

pub roomy_all : (rows : List ZoneRow) (sensors : LiveSensors) (old : List Held) (s : Seating) (a b : List LiveControl) → IsRoomy old s (a ++ b)
    → IsRoomy old (seat_all rows sensors old s a) b
roomy_all rows sensors old s [] b r = r
roomy_all rows sensors old s (c ∷ a) b r = roomy_all rows sensors old (seat_next rows sensors old s c) a b (roomy_next rows sensors old s c (a ++ b) r)

ready_head : (old : List Held) (s : Seating) (c : LiveControl) (left : List LiveControl) → IsRoomy old s (c ∷ left) → IsReady old s c
ready_head old s c left r = record {
  valid = r.valid 0 c (omega arith);
  free = λ e. let f = free_there old s c left e r in subst (λ (o : Option ℕ). IsSome o) (sym f.1) refl;
}

ready_part : (old : List Held) (s : Seating) (id : ItemId) (part : ItemPart) (left : List LiveControl) → IsRoomy old s (with_control id part [] ++ left)
    → All (IsReady old s) (with_control id part [])
ready_part old s id (parts.Control item) left r = all_cons (IsReady old s) (record { id = id; item = item }) []
    (ready_head old s (record { id = id; item = item }) left r) (λ k d lt. absurd (omega arith))
ready_part old s id (parts.Sensor sensor) left r = λ k d lt. absurd (omega arith)
ready_part old s id parts.Fan left r = λ k d lt. absurd (omega arith)
ready_part old s id (parts.Zone setting) left r = λ k d lt. absurd (omega arith)
ready_part old s id (parts.Mux part) left r = λ k d lt. absurd (omega arith)
ready_part old s id parts.Passive left r = λ k d lt. absurd (omega arith)

-- what the loop keeps
pub record Seats (rows : List ZoneRow) (sensors : LiveSensors) (old : List Held) (live : List (Bor Item)) (start now : Seating) (next_room taken_room : ℕ)
    (n : ℕ) : Type 0 where
  pub roomy : IsRoomy old now (controls (items_of (drop n live)))
  pub rest : seat_all rows sensors old now (controls (items_of (drop n live))) ≡ seat_all rows sensors old start (controls (items_of live))
  pub next : length now.held + length (controls (items_of (drop n live))) ≤ next_room
  pub taken : length now.taken + count_by (is_new old) (controls (items_of (drop n live))) ≤ taken_room

-- what an item asks for
pub record Asks (old : List Held) (item : Item) (now : Seating) (next_room taken_room : ℕ) : Type 0 where
  pub next : length now.held + length (controls (item ∷ [])) ≤ next_room
  pub taken : length now.taken + count_by (is_new old) (controls (item ∷ [])) ≤ taken_room
  pub ready : All (IsReady old now) (controls (item ∷ []))

count_split : {A : Type 0} (p : A → Bool) (all some others : List A) → all ≡ some ++ others → count_by p all ≡ count_by p some + count_by p others
count_split p all some others e = ap (count_by p) e ∙ sum_by-append (λ x. cond {A = ℕ} (p x) 1 0) some others

split : (live : List (Bor Item)) (n : ℕ) (d : Bor Item) → n < length live
    → controls (items_of (drop n live)) ≡ controls ((get_or live n d).now ∷ []) ++ controls (items_of (drop (n + 1) live))
split live n d lt =
    ap (λ (l : List (Bor Item)). controls (items_of l)) (drop_more live n d lt) ∙ controls_more (get_or live n d).now (items_of (drop (n + 1) live))

pub asks : (rows : List ZoneRow) (sensors : LiveSensors) (old : List Held) (live : List (Bor Item)) (start now : Seating) (next_room taken_room n : ℕ)
    (d : Bor Item) → Seats rows sensors old live start now next_room taken_room n → n < length live
    → Asks old (get_or live n d).now now next_room taken_room
asks rows sensors old live start now next_room taken_room n d s lt =
    let item = (get_or live n d).now in
    let left = controls (items_of (drop (n + 1) live)) in
    let one = controls (item ∷ []) in
    let at = split live n d lt in
    let size : length (controls (items_of (drop n live))) ≡ length one + length left = ap length at ∙ length-append one left in
    let new = count_split (is_new old) _ one left at in
    record {
      next = omega (arith, s.next, size);
      taken = omega (arith, s.taken, new);
      ready = ready_part old now item.id item.part left (subst (IsRoomy old now) at s.roomy);
    }

pub seats_more : (rows : List ZoneRow) (sensors : LiveSensors) (old : List Held) (live : List (Bor Item)) (start now after : Seating)
    (next_room taken_room next_after taken_after n : ℕ) (d : Bor Item)
    → Seats rows sensors old live start now next_room taken_room n → n < length live → after
    ≡ seat_all rows sensors old now (controls ((get_or live n d).now ∷ [])) → next_room ≤ next_after → taken_room ≤ taken_after
    → Seats rows sensors old live start after next_after taken_after (n + 1)
seats_more rows sensors old live start now after next_room taken_room next_after taken_after n d s lt is next taken =
    let item = (get_or live n d).now in
    let left = controls (items_of (drop (n + 1) live)) in
    let one = controls (item ∷ []) in
    let at = split live n d lt in
    let size : length (controls (items_of (drop n live))) ≡ length one + length left = ap length at ∙ length-append one left in
    let new = count_split (is_new old) _ one left at in
    let grown : Grew now after (length one) (count_by (is_new old) one) =
    subst (λ (z : Seating). Grew now z (length one) (count_by (is_new old) one)) (sym is) (grew rows sensors old now one) in
    record {
      roomy = subst (λ (z : Seating). IsRoomy old z left) (sym is) (roomy_all rows sensors old now one left (subst (IsRoomy old now) at s.roomy));
      rest = ap (λ (z : Seating). seat_all rows sensors old z left) is
          ∙ (sym (seat_append rows sensors old now one left) ∙ (ap (seat_all rows sensors old now) (sym at) ∙ s.rest));
      next = omega (arith, s.next, size, grown.held, next);
      taken = omega (arith, s.taken, new, grown.taken, taken);
    }

pub seats_end : (rows : List ZoneRow) (sensors : LiveSensors) (old : List Held) (live : List (Bor Item)) (start now : Seating) (next_room taken_room n : ℕ)
    → Seats rows sensors old live start now next_room taken_room n → length live ≤ n
    → now ≡ seat_all rows sensors old start (controls (items_of live))
seats_end rows sensors old live start now next_room taken_room n s le =
    sym (ap (λ (l : List (Bor Item)). seat_all rows sensors old now (controls (items_of l))) (drop_all n live le)) ∙ s.rest

pub roomy_end : (rows : List ZoneRow) (sensors : LiveSensors) (old : List Held) (start : Seating) (cs : List LiveControl) → IsRoomy old start cs
    → IsRoomy old (seat_all rows sensors old start cs) []
roomy_end rows sensors old start cs r = roomy_all rows sensors old start cs [] (subst (IsRoomy old start) (sym (append-nil cs)) r)
