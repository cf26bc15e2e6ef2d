-- Kept hits and channels tell what the records tell.
use Rattle.std.proofs.Common.{◌≡◌, ℕ, Bool, true, false, cond, ◌&&◌, ◌||◌, List, [], ◌∷◌, refl, ap₂, sym, ◌∙◌}
use Rattle.std.specs.List.{list_any}
use Rattle.bmc_base.specs.Places.{Place}
use Rattle.probe_lang.specs.Sights.{Sight}
use Rattle.found_set.specs.declared.row.Row.{Row}
use Rattle.found_set.specs.Found.{Rule, on_buses, is_root, facts}
use Rattle.found_set.specs.Rows.{row_sight, sights_of}
use Rattle.found_set.specs.Laws.{AreKept, IsKept}
use Rattle.found_set.proofs.IdleLemmas.{facts_same}

any_cond : (test : Sight → Bool) (stays : Bool) (sight : Sight) (sights : List Sight)
    → list_any test (cond stays (sight ∷ sights) sights) ≡ ((stays && test sight) || list_any test sights)
any_cond test true sight sights = refl
any_cond test false sight sights = refl

-- what the two have in common on each choice of buses
module _ (sees : Sight → Bool) (test : ℕ → Bool) where
  any_kept : (rows : List Row) (sights : List Sight) → AreKept rows sights
      → ((row : Row) (sight : Sight) → IsKept row sight → sees (row_sight row) ≡ sees sight)
      → list_any sees (on_buses test (sights_of rows)) ≡ list_any sees (on_buses test sights)
  any_kept [] [] kept alike = refl
  any_kept [] (sight ∷ sights) kept alike = absurd kept
  any_kept (row ∷ rows) [] kept alike = absurd kept
  any_kept (row ∷ rows) (sight ∷ sights) kept alike =
      any_cond sees (test row.place.bus) (row_sight row) (on_buses test (sights_of rows))
      ∙ ap₂ (λ (x y : Bool). x || y) (ap₂ (λ (p : Place) (x : Bool). test p.bus && x) kept.0.place (alike row sight kept.0)) (any_kept rows sights kept.1 alike)
      ∙ sym (any_cond sees (test sight.place.bus) sight (on_buses test sights))

pub kept_scan : (rules : List Rule) (rows : List Row) (sights : List Sight) → AreKept rows sights → facts rules (sights_of rows) ≡ facts rules sights
kept_scan rules rows sights kept =
    facts_same (sights_of rows) sights
    (λ test c p. any_kept (λ (s : Sight). s.matched c p) test rows sights kept (λ row sight is. is.matched c p))
    (λ c bus. any_kept (λ (s : Sight). s.opened c bus) is_root rows sights kept (λ row sight is. is.opened c bus))
    rules
