-- Ticks that pass in a core.
use Rattle.std.specs.Prelude.{ℕ, zero, suc, List, [], ◌++◌}
use Rattle.std.specs.List.{flat_map}
use Rattle.bmc_report.specs.Changes.{change_line}
use Rattle.bmc_core.specs.Cores.{CoreView, ticked_core}

-- the lines of the last changes, each with the tick count
abbrev pub change_text : CoreView → List ℕ
change_text core = flat_map (change_line core.state.senses.ticks) core.state.senses.watch.changes

-- the core after so many ticks
unfoldable pub after_ticks : ℕ → CoreView → CoreView
after_ticks zero core = core
after_ticks (suc n) core = after_ticks n (ticked_core core)

-- what is printed of so many ticks: the changes of each
unfoldable pub tick_text : ℕ → CoreView → List ℕ
tick_text zero core = []
tick_text (suc n) core = change_text (ticked_core core) ++ tick_text n (ticked_core core)
