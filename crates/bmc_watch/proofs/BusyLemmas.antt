-- The FRUs with hits or channels, among those that are present.
use Rattle.std.proofs.Common.{◌≡◌, ◌∙◌, Bool, true, false, not, cond, List, [], ◌∷◌, ◌++◌, Some, find, refl, sym, ap}
use Rattle.std.proofs.lemmas.Bool.{or_parts, or_from}
use Rattle.std.proofs.lemmas.Option.{same_Some}
use Rattle.bmc_base.specs.Places.{Place}
use Rattle.probe_lang.specs.declared.rows.Entry.{Entry}
use Rattle.probe_lang.specs.Presents.{is_entry_at, holds_place, with_entry, without_entry, are_by_place}
use Rattle.fru_rows.specs.Idle.{is_idle, busy}
use Rattle.fru_rows.proofs.JoinedLemmas.{filter_with_in}
use Rattle.inventory.specs.Moments.{IsAmong}

pub busy_free : (entries : List Entry) (place : Place) → holds_place entries place ≡ false → holds_place (busy entries) place ≡ false
busy_free [] place free = refl
busy_free (entry ∷ entries) place free = let parts = or_parts _ _ free in by (is_idle entry) parts.0 (busy_free entries place parts.1)
  where
    by : (idle : Bool) → is_entry_at place entry ≡ false → holds_place (busy entries) place ≡ false
        → holds_place (cond (not idle) (entry ∷ busy entries) (busy entries)) place ≡ false
    by true away rest = rest
    by false away rest = or_from _ _ away rest

pub busy_with : (entry : Entry) (entries : List Entry) → are_by_place entries ≡ true → is_idle entry ≡ false
    → with_entry entry (busy entries) ≡ busy (with_entry entry entries)
busy_with entry entries order works = sym (filter_with_in (λ (each : Entry). not (is_idle each)) entry entries order (ap not works))

pub busy_without : (place : Place) (entries : List Entry) → without_entry place (busy entries) ≡ busy (without_entry place entries)
busy_without place [] = refl
busy_without place (entry ∷ entries) = by (is_entry_at place entry) refl (is_idle entry) refl (busy_without place entries)
  where
    by : (here : Bool) → is_entry_at place entry ≡ here → (idle : Bool) → is_idle entry ≡ idle
        → without_entry place (busy entries) ≡ busy (without_entry place entries)
        → without_entry place (cond (not idle) (entry ∷ busy entries) (busy entries))
        ≡ busy (cond (not here) (entry ∷ without_entry place entries) (without_entry place entries))
    by true at true is rest = rest
    by true at false is rest =
        ap (λ (here : Bool). cond (not here) (entry ∷ without_entry place (busy entries)) (without_entry place (busy entries))) at ∙ rest
    by false away true is rest =
        rest ∙ sym (ap (λ (idle : Bool). cond (not idle) (entry ∷ busy (without_entry place entries)) (busy (without_entry place entries))) is)
    by false away false is rest =
        ap (λ (here : Bool). cond (not here) (entry ∷ without_entry place (busy entries)) (without_entry place (busy entries))) away
        ∙ ap (λ (later : List Entry). entry ∷ later) rest
        ∙ sym (ap (λ (idle : Bool). cond (not idle) (entry ∷ busy (without_entry place entries)) (busy (without_entry place entries))) is)

-- an entry that is found and not idle is found among the busy ones
pub busy_found : (place : Place) (entry : Entry) (entries : List Entry) → find (is_entry_at place) entries ≡ Some entry → is_idle entry ≡ false
    → find (is_entry_at place) (busy entries) ≡ Some entry
busy_found place entry [] found works = absurd (cc)
busy_found place entry (other ∷ entries) found works =
    by (is_entry_at place other) refl (is_idle other) refl found (λ found. busy_found place entry entries found works)
  where
    by : (here : Bool) → is_entry_at place other ≡ here → (idle : Bool) → is_idle other ≡ idle
        → cond here (Some other) (find (is_entry_at place) entries) ≡ Some entry
        → (find (is_entry_at place) entries ≡ Some entry → find (is_entry_at place) (busy entries) ≡ Some entry)
        → find (is_entry_at place) (cond (not idle) (other ∷ busy entries) (busy entries)) ≡ Some entry
    by true at true is found rest =
        let same : other ≡ entry = same_Some _ _ found in absurd (let no = sym is ∙ ap (λ (entry : Entry). is_idle entry) same ∙ works in cc)
    by true at false is found rest = ap (λ (here : Bool). cond here (Some other) (find (is_entry_at place) (busy entries))) at ∙ found
    by false away true is found rest = rest found
    by false away false is found rest = ap (λ (here : Bool). cond here (Some other) (find (is_entry_at place) (busy entries))) away ∙ rest found

-- an idle entry is not among them, whether it is among the others or not
pub busy_among : (entry : Entry) (others entries : List Entry) → IsAmong entry others entries → is_idle entry ≡ true → busy entries ≡ busy others
busy_among entry others entries among idle = ap busy among.with ∙ by among.front ∙ sym (ap busy among.without)
  where
    by : (front : List Entry) → busy (front ++ entry ∷ among.back) ≡ busy (front ++ among.back)
    by [] = ap (λ (idle : Bool). cond (not idle) (entry ∷ busy among.back) (busy among.back)) idle
    by (other ∷ front) = ap (λ (later : List Entry). cond (not (is_idle other)) (other ∷ later) later) (by front)
