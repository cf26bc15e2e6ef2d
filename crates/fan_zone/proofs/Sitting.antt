-- How the controllers sit once all have their seats.
use Rattle.std.proofs.Common.{◌≢◌, ◌≡◌, ℕ, Bool, true, false, ◌||◌, nat_eq, List, [], ◌∷◌, ◌++◌, map, Option, Some, None, refl, ap, sym, ◌∙◌, subst, arith}
use Rattle.std.proofs.lemmas.Bool.{true≢false}
use Rattle.std.proofs.lemmas.List.{append_assoc, append-nil, get_or-set_same, get_or-set_other}
use Rattle.std.proofs.lemmas.List.Folds.{list_any-append}
use Rattle.std.proofs.lemmas.Option.{none-some, same_Some}
use Rattle.std.specs.List.{All}
use Rattle.ctl_face.specs.declared.kind.Kind.{Kind}
use Rattle.ctl_face.specs.declared.kind.Kind.TheVariants.{Pid as PidKind}
use Rattle.ctl_face.specs.declared.setting.Setting.{Setting}
use Rattle.ctl_face.specs.Seen.{Seen, loaded, unloaded}
use Rattle.ctl_face.specs.Kinds.{kind_of}
use Rattle.fan_zone.specs.Live.{LiveControl}
use Rattle.fan_zone.specs.Boxes.{box_at, kinds_of}
use Rattle.fan_zone.specs.declared.held.Held.{Held}
use Rattle.fan_zone.specs.declared.held.Seat.{Seat}
use Rattle.fan_zone.specs.declared.rows.ZoneRow.{ZoneRow}
use Rattle.live_sensors.specs.Sensors.{LiveSensors}
use Rattle.fan_zone.specs.Sets.{Seating, kept_seat, kept_numbers, with_number, is_taken, free, held_of, seated, seated_free, seat_next, seat_all}
use Rattle.fan_zone.specs.Seats.{IsRoomy}
use Rattle.fan_zone.specs.IsSets.{Sits, Paired, fresh_box}
use Rattle.fan_zone.specs.Sound.{number_of}
use Rattle.fan_zone.proofs.Numbered.{all_tail}
use Rattle.fan_zone.proofs.Free.{free_box}
use Rattle.fan_zone.proofs.Loaded.{kinds_loaded, box_kept, taken_still, taken_new}
use Rattle.fan_zone.proofs.Room.{roomy_next, free_there}
use Rattle.fan_zone.proofs.SetLaw.{IsNoted, itself, or_more}

-- what a taken box is after more seats
pub record Stays (before after : Seating) (number : ℕ) : Type 0 where
  pub taken : is_taken after.taken number ≡ true
  pub box_is : box_at after.bank number ≡ box_at before.bank number

stays_free : (rows : List ZoneRow) (sensors : LiveSensors) (c : LiveControl) (s : Seating) (number : ℕ) (o : Option ℕ)
    → free (kind_of c.item.setting) s.taken 0 s.bank ≡ o → is_taken s.taken number ≡ true
    → Stays s (seated_free rows sensors c s o) number
stays_free rows sensors c s number None e is = record { taken = is; box_is = refl }
stays_free rows sensors c s number (Some n) e is =
    let f = free_box (kind_of c.item.setting) s.taken s.bank n e in
    record { taken = taken_still s.taken (n ∷ []) number is; box_is = box_kept s.bank s.taken n number c.item.setting f.untaken is }

stays_one : (rows : List ZoneRow) (sensors : LiveSensors) (c : LiveControl) (s : Seating) (number : ℕ) (o : Option Seat) → is_taken s.taken number ≡ true
    → Stays s (seated rows sensors c s o) number
stays_one rows sensors c s number (Some seat) is = record { taken = is; box_is = refl }
stays_one rows sensors c s number None is = stays_free rows sensors c s number (free (kind_of c.item.setting) s.taken 0 s.bank) refl is

pub stays_all : (rows : List ZoneRow) (sensors : LiveSensors) (old : List Held) (s : Seating) (cs : List LiveControl) (number : ℕ) → is_taken s.taken number
    ≡ true → Stays s (seat_all rows sensors old s cs) number
stays_all rows sensors old s [] number is = record { taken = is; box_is = refl }
stays_all rows sensors old s (c ∷ cs) number is =
    let one = stays_one rows sensors c s number (kept_seat old c.id) is in
    let more = stays_all rows sensors old (seat_next rows sensors old s c) cs number one.taken in
    record { taken = more.taken; box_is = more.box_is ∙ one.box_is }

-- kinds stay
kinds_free : (rows : List ZoneRow) (sensors : LiveSensors) (c : LiveControl) (s : Seating) (o : Option ℕ)
    → kinds_of (seated_free rows sensors c s o).bank ≡ kinds_of s.bank
kinds_free rows sensors c s None = refl
kinds_free rows sensors c s (Some n) = kinds_loaded s.bank n c.item.setting

kinds_one : (rows : List ZoneRow) (sensors : LiveSensors) (c : LiveControl) (s : Seating) (o : Option Seat)
    → kinds_of (seated rows sensors c s o).bank ≡ kinds_of s.bank
kinds_one rows sensors c s (Some seat) = refl
kinds_one rows sensors c s None = kinds_free rows sensors c s (free (kind_of c.item.setting) s.taken 0 s.bank)

pub kinds_all : (rows : List ZoneRow) (sensors : LiveSensors) (old : List Held) (s : Seating) (cs : List LiveControl)
    → kinds_of (seat_all rows sensors old s cs).bank ≡ kinds_of s.bank
kinds_all rows sensors old s [] = refl
kinds_all rows sensors old s (c ∷ cs) = kinds_all rows sensors old (seat_next rows sensors old s c) cs ∙ kinds_one rows sensors c s (kept_seat old c.id)

-- the boxes that were taken at first, and have not changed since
pub record Untouched (base : List ℕ) (start : List Seen) (s : Seating) : Type 0 where
  pub taken : (number : ℕ) → is_taken base number ≡ true → is_taken s.taken number ≡ true
  pub still : (number : ℕ) → is_taken base number ≡ true → box_at s.bank number ≡ box_at start number

pub untouched_next : (rows : List ZoneRow) (sensors : LiveSensors) (old : List Held) (base : List ℕ) (start : List Seen) (s : Seating) (c : LiveControl)
    → Untouched base start s → Untouched base start (seat_next rows sensors old s c)
untouched_next rows sensors old base start s c u = record {
  taken = λ number is. (stays_one rows sensors c s number (kept_seat old c.id) (u.taken number is)).taken;
  still = λ number is. (stays_one rows sensors c s number (kept_seat old c.id) (u.taken number is)).box_is ∙ u.still number is;
}

abbrev pub numbers : List Held → List ℕ
numbers held = map number_of held

-- how those sit that take their seats from here on
pub record Sat (rows : List ZoneRow) (sensors : LiveSensors) (old : List Held) (start : List Seen) (s : Seating) (cs : List LiveControl) : Type 0 where
  pub more : List Held
  pub held : (seat_all rows sensors old s cs).held ≡ s.held ++ more
  pub sit : Paired (Sits rows sensors old start (seat_all rows sensors old s cs).bank) cs more
  pub cover : (number : ℕ) → is_taken (seat_all rows sensors old s cs).taken number ≡ true → is_taken (numbers more) number ≡ false
      → is_taken s.taken number ≡ true
  pub kept : (number : ℕ) → is_taken (kept_numbers old cs) number ≡ true → is_taken (numbers more) number ≡ true
  pub other : (number : ℕ) → is_taken (numbers more) number ≡ false → box_at (seat_all rows sensors old s cs).bank number ≡ box_at s.bank number

pub or_false : (a b : Bool) → (a || b) ≡ false → (a ≡ false) × (b ≡ false)
or_false true b e = absurd (true≢false e)
or_false false b e = (refl, e)

or_cases : (a b : Bool) → (a || b) ≡ true → a ≡ false → b ≡ true
or_cases true b e n = absurd (true≢false n)
or_cases false b e n = e

noted_or : (a b c : Bool) → (b ≡ true → c ≡ true) → (a || b) ≡ true → (a || c) ≡ true
noted_or true b c h is = refl
noted_or false b c h is = h is

noted_by : (number : ℕ) (o : Option Seat) (seat : Seat) (rest more : List ℕ) → o ≡ Some seat → (is_taken rest number ≡ true → is_taken more number ≡ true)
    → is_taken (with_number o rest) number ≡ true → is_taken (seat.number ∷ more) number ≡ true
noted_by number o seat rest more e rest_more is = noted_or (nat_eq seat.number number) (is_taken rest number) (is_taken more number) rest_more
    (subst (λ (p : Option Seat). is_taken (with_number p rest) number ≡ true) e is)

-- one that kept its box sits
sat_kept : (rows : List ZoneRow) (sensors : LiveSensors) (old : List Held) (base : List ℕ) (start : List Seen) (s : Seating) (c : LiveControl)
    (cs : List LiveControl) (seat : Seat) → kept_seat old c.id ≡ Some seat
    → Untouched base start s → is_taken base seat.number ≡ true → Sat rows sensors old start (seated rows sensors c s (Some seat)) cs
    → seat_next rows sensors old s c ≡ seated rows sensors c s (Some seat) → Sat rows sensors old start s (c ∷ cs)
sat_kept rows sensors old base start s c cs seat e u is t same =
    let one = held_of rows sensors c seat in
    let next = seated rows sensors c s (Some seat) in
    let all = λ (z : Seating). seat_all rows sensors old z cs in
    let stay = stays_all rows sensors old next cs seat.number (u.taken seat.number is) in
    record {
      more = one ∷ t.more;
      held = ap (λ (z : Seating). (all z).held) same ∙ (t.held ∙ append_assoc s.held (one ∷ []) t.more);
      sit = subst (λ (z : Seating). Sits rows sensors old start (all z).bank c one × Paired (Sits rows sensors old start (all z).bank) cs t.more) (sym same) (
        record {
          record_is = refl;
          kept = λ seat2 e2. (same_Some seat seat2 (sym e ∙ e2), stay.box_is ∙ u.still seat.number is);
          fresh = λ none. absurd (none-some seat (sym none ∙ e));
        },
        t.sit,
      );
      cover = λ number at not. t.cover number (ap (λ (z : Seating). is_taken (all z).taken number) (sym same) ∙ at)
          (or_false (nat_eq seat.number number) (is_taken (numbers t.more) number) not).1;
      kept = λ number at. noted_by number (kept_seat old c.id) seat (kept_numbers old cs) (numbers t.more) e (t.kept number) at;
      other = λ number not. ap (λ (z : Seating). box_at (all z).bank number) same
          ∙ t.other number (or_false (nat_eq seat.number number) (is_taken (numbers t.more) number) not).1;
    }

loaded_fresh : (seen : Seen) (kind : Kind) (setting : Setting) → seen.kind ≡ kind → loaded seen setting ≡ loaded (unloaded kind) setting
loaded_fresh seen kind setting e = ap (λ (k : Kind). loaded (unloaded k) setting) e

pub other_number : (n number : ℕ) → nat_eq n number ≡ false → number ≢ n
other_number n number e = λ same. true≢false (sym (ap (nat_eq n) same ∙ itself n) ∙ e)

last_or : (a b : Bool) → (a || (b || false)) ≡ true → b ≡ false → a ≡ true
last_or true b e not = refl
last_or false true e not = absurd (true≢false not)
last_or false false e not = absurd (true≢false (sym e))

last_taken : (taken : List ℕ) (n number : ℕ) → is_taken (taken ++ n ∷ []) number ≡ true → nat_eq n number ≡ false → is_taken taken number ≡ true
last_taken taken n number is not = last_or (is_taken taken number) (nat_eq n number)
    (sym (list_any-append (λ (one : ℕ). nat_eq one number) taken (n ∷ [])) ∙ is) not

-- one that takes a free box sits
sat_new : (rows : List ZoneRow) (sensors : LiveSensors) (old : List Held) (start : List Seen) (s : Seating) (c : LiveControl) (cs : List LiveControl)
    (n : ℕ) → kept_seat old c.id ≡ None
    → free (kind_of c.item.setting) s.taken 0 s.bank ≡ Some n → Sat rows sensors old start (seated_free rows sensors c s (Some n)) cs
    → seat_next rows sensors old s c ≡ seated_free rows sensors c s (Some n)
    → Sat rows sensors old start s (c ∷ cs)
sat_new rows sensors old start s c cs n e is t same =
    let set = c.item.setting in
    let f = free_box (kind_of set) s.taken s.bank n is in
    let one = held_of rows sensors c (record { number = n; age = 0 }) in
    let next = seated_free rows sensors c s (Some n) in
    let all = λ (z : Seating). seat_all rows sensors old z cs in
    let stay = stays_all rows sensors old next cs n (taken_new s.taken n) in
    let here : box_at next.bank n ≡ fresh_box set = get_or-set_same s.bank n (loaded (box_at s.bank n) set) (unloaded PidKind) f.within ∙ loaded_fresh
    (box_at s.bank n) (kind_of set) set f.kind_is in
    record {
      more = one ∷ t.more;
      held = ap (λ (z : Seating). (all z).held) same ∙ (t.held ∙ append_assoc s.held (one ∷ []) t.more);
      sit = subst (λ (z : Seating). Sits rows sensors old start (all z).bank c one × Paired (Sits rows sensors old start (all z).bank) cs t.more) (sym same) (
        record {
          record_is = refl;
          kept = λ seat e2. absurd (none-some seat (sym e ∙ e2));
          fresh = λ none. (refl, stay.box_is ∙ here);
        },
        t.sit,
      );
      cover = λ number at not.
          let o = or_false (nat_eq n number) (is_taken (numbers t.more) number) not in
          last_taken s.taken n number (t.cover number (ap (λ (z : Seating). is_taken (all z).taken number) (sym same) ∙ at) o.1) o.0;
      kept = λ number at. or_more (nat_eq n number) (is_taken (numbers t.more) number)
          (t.kept number (ap (λ (o : Option Seat). is_taken (with_number o (kept_numbers old cs)) number) (sym e) ∙ at));
      other = λ number not.
          let o = or_false (nat_eq n number) (is_taken (numbers t.more) number) not in
          ap (λ (z : Seating). box_at (all z).bank number) same ∙ (t.other number o.1
          ∙ get_or-set_other s.bank n number (loaded (box_at s.bank n) set) (unloaded PidKind) (other_number n number o.0));
    }

abbrev SatFrom : List ZoneRow → LiveSensors → List Held → List ℕ → List Seen → List LiveControl → Type 0
SatFrom rows sensors old base start cs = (s : Seating) → IsRoomy old s cs → Untouched base start s → Sat rows sensors old start s cs

sat_by : (rows : List ZoneRow) (sensors : LiveSensors) (old : List Held) (base : List ℕ) (start : List Seen) (s : Seating) (c : LiveControl)
    (cs : List LiveControl) (o : Option Seat) → kept_seat old c.id ≡ o → IsRoomy old s (c ∷ cs)
    → Untouched base start s → IsNoted old base c → SatFrom rows sensors old base start cs → Sat rows sensors old start s (c ∷ cs)
sat_by rows sensors old base start s c cs (Some seat) e r u noted rest =
    let same : seat_next rows sensors old s c ≡ seated rows sensors c s (Some seat) = ap (seated rows sensors c s) e in
    let next : Sat rows sensors old start (seated rows sensors c s (Some seat)) cs =
    subst (λ (z : Seating). Sat rows sensors old start z cs) same (rest (seat_next rows sensors old s c) (roomy_next rows sensors old s c cs r)
    (untouched_next rows sensors old base start s c u)) in
    sat_kept rows sensors old base start s c cs seat e u (noted seat e) next same
sat_by rows sensors old base start s c cs None e r u noted rest =
    let f = free_there old s c cs e r in
    let same : seat_next rows sensors old s c ≡ seated_free rows sensors c s (Some f.0) =
    ap (seated rows sensors c s) e ∙ ap (seated_free rows sensors c s) f.1 in
    let next : Sat rows sensors old start (seated_free rows sensors c s (Some f.0)) cs =
    subst (λ (z : Seating). Sat rows sensors old start z cs) same (rest (seat_next rows sensors old s c) (roomy_next rows sensors old s c cs r)
    (untouched_next rows sensors old base start s c u)) in
    sat_new rows sensors old start s c cs f.0 e f.1 next same

pub sat_all : (rows : List ZoneRow) (sensors : LiveSensors) (old : List Held) (base : List ℕ) (start : List Seen) (s : Seating) (cs : List LiveControl)
    → IsRoomy old s cs → Untouched base start s → All (IsNoted old base) cs
    → Sat rows sensors old start s cs
sat_all rows sensors old base start s [] r u noted = record {
  more = [];
  held = sym (append-nil s.held);
  sit = tt;
  cover = λ number at not. at;
  kept = λ number at. at;
  other = λ number not. refl;
}
sat_all rows sensors old base start s (c ∷ cs) r u noted =
    sat_by rows sensors old base start s c cs (kept_seat old c.id) refl r u (noted 0 c (omega arith))
    (λ s2 r2 u2. sat_all rows sensors old base start s2 cs r2 u2 (all_tail (IsNoted old base) c cs noted))
