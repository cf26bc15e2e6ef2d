use Rattle.std.proofs.Common.{◌∙◌, [], ◌∷◌, ◌++◌, ap, arith, length, sym}
use Rattle.cfg_json.specs.Shelves.{number_of}
use Rattle.found_set.proofs.EventsLemmas.{none_within}
use Rattle.bmc_watch.specs.Counting.{most_evals}
use Rattle.bmc_watch.specs.Watches.{WatchView}
use Rattle.bmc_watch.proofs.EventsLemmas.{no_number}
use Rattle.bmc_watch.proofs.watch.Watch.configure.Goals as goal

pub add_config-requires-clause-never : goal.add_config-requires-clause-never
add_config-requires-clause-never g c = ap (λ (view : WatchView). view.plugged) (sym c.self.view_is) ∙ c.if-self.false

pub add_config-requires-clause-new : goal.add_config-requires-clause-new
add_config-requires-clause-new g c =
    ap (λ (view : WatchView). number_of view.configs c.args.config.name) (sym c.self.view_is)
    ∙ no_number c.self.inside.shelf c.name.result c.args.config c.position.result c.position.ensures c.name.ensures
    (sym c.is_some.ensures ∙ c.if-is_some.false)

pub add_config-requires-clause-few : goal.add_config-requires-clause-few
add_config-requires-clause-few g c =
    omega (arith, c.len.ensures.value, c.if-len-ge-MOST_CONFIGS.false, ap (λ (view : WatchView). length view.configs) c.self.view_is)

-- ---- the work

pub returns-then-self-clause-counted : goal.returns-then-self-clause-counted
returns-then-self-clause-counted g c =
    none_within c.args.steps.now (most_evals (c.args.self.now.configs ++ c.args.config ∷ []))

pub returns-then-is_some-clause-counted : goal.returns-then-is_some-clause-counted
returns-then-is_some-clause-counted g c =
    none_within c.args.steps.now (most_evals (c.args.self.now.configs ++ c.args.config ∷ []))

pub returns-then-len-ge-MOST_CONFIGS-clause-counted : goal.returns-then-len-ge-MOST_CONFIGS-clause-counted
returns-then-len-ge-MOST_CONFIGS-clause-counted g c =
    none_within c.args.steps.now (most_evals (c.args.self.now.configs ++ c.args.config ∷ []))
