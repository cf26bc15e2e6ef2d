-- A step that is refused, or fails for want of memory, leaves the state as it was.
use Rattle.std.proofs.Common.{arith, ◌≡◌, ◌∙◌, ◌≤◌, ℕ, List, Bool, Option, map, length, ◌==◌, ◌||◌, ap, ap₂, sym, subst, subst₂}
use Rattle.std.specs.Prelude.{vec_capacity}
use Rattle.cfg_json.specs.Configs.{Config}
use Rattle.cfg_json.specs.declared.item.Item.{Item}
use Rattle.probe_lang.specs.declared.rows.Entry.{Entry}
use Rattle.fru_rows.specs.Idle.{busy}
use Rattle.found_set.specs.Rows.{row_of}
use Rattle.found_set.specs.Events.{Staged}
use Rattle.found_set.specs.Sets.{SetView, as_staged}
use Rattle.inventory.specs.Boards.{rules_of}
use Rattle.inventory.specs.Indexes.{kept_of}
use Rattle.inventory.specs.declared.limits.Totals.{Totals}
use Rattle.bmc_watch.specs.Insides.{IsSound, IsStocked}
use Rattle.bmc_watch.specs.Watches.{WatchView, IsSame}
use Rattle.bmc_watch.specs.declared.watch.Watch.TheInside.{Inside}
use Rattle.bmc_watch.proofs.StockLemmas.{stocked_kept}

-- what holds inside holds where all but what is staged stays
pub left_sound : {L : Type 0} {staged : Option Staged} (old new : Inside L) → IsSound old → new.shelf ≡ old.shelf → new.set ≡ as_staged old.set staged
    → new.rows.entries ≡ old.rows.entries → new.plugged ≡ old.plugged → ((number : ℕ) → kept_of new.keep.kept number ≡ kept_of old.keep.kept number)
    → new.totals ≡ old.totals → new.stock.items ≡ old.stock.items → vec_capacity old.changes ≤ vec_capacity new.changes → IsSound new
left_sound old new sound configs set entries plugged kept totals items room = record {
  rules = ap (λ (set : SetView). set.rules) set ∙ sound.rules ∙ sym (ap rules_of configs);
  rows = ap (λ (set : SetView). set.rows) set ∙ sound.rows ∙ sym (ap (λ (entries : List Entry). map row_of (busy entries)) entries);
  none = ap₂ (λ (plugged : Bool) (entries : List Entry). plugged || (length entries == 0)) plugged entries ∙ sound.none;
  stock = subst₂ (λ (configs : List Config) (entries : List Entry). IsStocked configs entries new.keep.kept new.totals new.stock.items) (sym configs)
      (sym entries)
      (subst₂ (λ (totals : Totals) (items : List Item). IsStocked old.shelf old.rows.entries new.keep.kept totals items) (sym totals) (sym items)
      (stocked_kept old.shelf old.rows.entries old.keep.kept new.keep.kept old.totals old.stock.items kept sound.stock));
  room = omega (arith, sound.room, room);
}

-- and what is seen is the same
pub left_same : (old new view : WatchView) → old ≡ view → new.configs ≡ old.configs → new.entries ≡ old.entries → new.plugged ≡ old.plugged
    → ((number : ℕ) → kept_of new.kept number ≡ kept_of old.kept number) → new.changes ≡ old.changes → IsSame view new
left_same old new view is configs entries plugged kept changes =
    subst (λ (view : WatchView). IsSame view new) is
    (record { configs = configs; entries = entries; plugged = plugged; kept = kept; changes = changes })
