-- The boxes that are kept, one item on.
use Rattle.std.proofs.Common.{◌≡◌, ℕ, cond, suc, ◌+◌, ◌<◌, ◌≤◌, List, [], ◌∷◌, ◌++◌, length, drop, get_or, Option, Some, None, refl, ap, sym, ◌∙◌, arith, Bor}
use Rattle.std.proofs.lemmas.List.{append_assoc, append-nil, length-append, drop_more, drop_all}
use Rattle.cfg_json.specs.declared.item.ItemId.{ItemId}
use Rattle.cfg_json.specs.declared.item.Item.{Item}
use Rattle.cfg_json.specs.declared.item.ItemPart.{ItemPart}
use Rattle.cfg_json.specs.declared.item.ItemPart.TheVariants as parts
use Rattle.fan_zone.specs.Live.{LiveControl, controls, items_of, with_control}
use Rattle.std.specs.List.{count_by}
use Rattle.std.specs.Option.{is_none}
use Rattle.fan_zone.specs.declared.held.Held.{Held}
use Rattle.fan_zone.specs.declared.held.Seat.{Seat}
use Rattle.fan_zone.specs.Seats.{is_new}
use Rattle.fan_zone.proofs.Pigeons.{count_cons}
use Rattle.fan_zone.specs.Sets.{kept_numbers, kept_seat, with_number}

with_one : (id : ItemId) (part : ItemPart) (more : List LiveControl) → with_control id part more ≡ with_control id part [] ++ more
with_one id (parts.Sensor sensor) more = refl
with_one id parts.Fan more = refl
with_one id (parts.Zone setting) more = refl
with_one id (parts.Control item) more = refl
with_one id (parts.Mux part) more = refl
with_one id parts.Passive more = refl

-- the controllers of the first item, and those of the others
pub controls_more : (item : Item) (more : List Item) → controls (item ∷ more) ≡ controls (item ∷ []) ++ controls more
controls_more item more = with_one item.id item.part (controls more)

with_number_append : (seat : Option Seat) (a b : List ℕ) → with_number seat (a ++ b) ≡ with_number seat a ++ b
with_number_append None a b = refl
with_number_append (Some seat) a b = refl

pub kept_append : (old : List Held) (a b : List LiveControl) → kept_numbers old (a ++ b) ≡ kept_numbers old a ++ kept_numbers old b
kept_append old [] b = refl
kept_append old (c ∷ a) b = ap (with_number (kept_seat old c.id)) (kept_append old a b)
    ∙ with_number_append (kept_seat old c.id) (kept_numbers old a) (kept_numbers old b)

with_number_length : (seat : Option Seat) (a : List ℕ) → length (with_number seat a) ≤ suc (length a)
with_number_length None a = omega arith
with_number_length (Some seat) a = omega arith

pub kept_length : (old : List Held) (a : List LiveControl) → length (kept_numbers old a) ≤ length a
kept_length old [] = omega arith
kept_length old (c ∷ a) = omega (arith, with_number_length (kept_seat old c.id) (kept_numbers old a), kept_length old a)

with_number_new : (seat : Option Seat) (a : List ℕ) → length (with_number seat a) + cond {A = ℕ} (is_none seat) 1 0 ≡ suc (length a)
with_number_new None a = omega arith
with_number_new (Some seat) a = omega arith

-- a controller kept its box, or it is new
pub kept_or_new : (old : List Held) (a : List LiveControl) → length (kept_numbers old a) + count_by (is_new old) a ≡ length a
kept_or_new old [] = refl
kept_or_new old (c ∷ a) =
    omega (arith, with_number_new (kept_seat old c.id) (kept_numbers old a), count_cons (is_new old) c a, kept_or_new old a)

-- what the loop keeps
pub record Keeping (old : List Held) (live : List (Bor Item)) (start now : List ℕ) (capacity room_now n : ℕ) : Type 0 where
  pub rest : now ++ kept_numbers old (controls (items_of (drop n live))) ≡ start ++ kept_numbers old (controls (items_of live))
  pub room : length now + length (controls (items_of (drop n live))) ≤ room_now
  pub capacity_kept : capacity ≤ room_now

pub keeping_more : (old : List Held) (live : List (Bor Item)) (start now next : List ℕ) (capacity room_now room_next n : ℕ) (d item : Bor Item)
    → Keeping old live start now capacity room_now n → n < length live → item ≡ get_or live n d
    → next ≡ now ++ kept_numbers old (controls (item.now ∷ [])) → room_now ≤ room_next → Keeping old live start next capacity room_next (n + 1)
keeping_more old live start now next capacity room_now room_next n d item k lt at is room =
    let rest = drop (n + 1) live in
    let one = controls (item.now ∷ []) in
    let here : controls (items_of (drop n live)) ≡ one ++ controls (items_of rest) =
    ap (λ (l : List (Bor Item)). controls (items_of l))
    (drop_more live n d lt ∙ ap (λ (i : Bor Item). i ∷ rest) (sym at)) ∙ controls_more item.now (items_of rest) in
    let others = controls (items_of rest) in
    let size : length (controls (items_of (drop n live))) ≡ length one + length others = ap length here ∙ length-append one others in
    let grown : length next ≡ length now + length (kept_numbers old one) = ap length is ∙ length-append now (kept_numbers old one) in
    record {
      rest = ap (λ (l : List ℕ). l ++ kept_numbers old others) is
          ∙ (append_assoc now (kept_numbers old one) (kept_numbers old others)
          ∙ (ap (λ (l : List ℕ). now ++ l) (sym (ap (kept_numbers old) here ∙ kept_append old one others)) ∙ k.rest));
      room = omega (arith, k.room, size, grown, kept_length old one, room);
      capacity_kept = omega (arith, k.capacity_kept, room);
    }

pub keeping_end : (old : List Held) (live : List (Bor Item)) (start now : List ℕ) (capacity room_now n : ℕ) → Keeping old live start now capacity room_now n
    → length live ≤ n → now ≡ start ++ kept_numbers old (controls (items_of live))
keeping_end old live start now capacity room_now n k le =
    sym (ap (λ (l : List (Bor Item)). now ++ kept_numbers old (controls (items_of l))) (drop_all n live le) ∙ append-nil now) ∙ k.rest
