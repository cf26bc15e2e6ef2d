use Rattle.std.proofs.Common.{◌≡◌, arith}
use Rattle.std.specs.Prelude.{codes}
use Rattle.bmc_script.proofs.CommandsLemmas.{four_bytes, six_bytes, plug_alone, unplug_alone, config_alone, read_alone, lose_alone, tick_alone, show_alone}
use Rattle.bmc_script.proofs.command.other_fault.Goals as goal

pub returns-in-plug : goal.returns-in-plug
returns-in-plug c = let verb : c.args.line.now ≡ codes "plug" = cc (four_bytes c.args.line.now (omega arith)) in rw verb plug_alone

pub returns-in-plug-2 : goal.returns-in-plug-2
returns-in-plug-2 c = let verb : c.args.line.now ≡ codes "read" = cc (four_bytes c.args.line.now (omega arith)) in rw verb read_alone

pub returns-in-plug-3 : goal.returns-in-plug-3
returns-in-plug-3 c = let verb : c.args.line.now ≡ codes "lose" = cc (four_bytes c.args.line.now (omega arith)) in rw verb lose_alone

pub returns-in-plug-4 : goal.returns-in-plug-4
returns-in-plug-4 c = let verb : c.args.line.now ≡ codes "tick" = cc (four_bytes c.args.line.now (omega arith)) in rw verb tick_alone

pub returns-in-plug-5 : goal.returns-in-plug-5
returns-in-plug-5 c = let verb : c.args.line.now ≡ codes "show" = cc (four_bytes c.args.line.now (omega arith)) in rw verb show_alone

pub returns-in-plug-6 : goal.returns-in-plug-6
returns-in-plug-6 c = let verb : c.args.line.now ≡ codes "unplug" = cc (six_bytes c.args.line.now (omega arith)) in rw verb unplug_alone

pub returns-in-plug-7 : goal.returns-in-plug-7
returns-in-plug-7 c = let verb : c.args.line.now ≡ codes "config" = cc (six_bytes c.args.line.now (omega arith)) in rw verb config_alone
