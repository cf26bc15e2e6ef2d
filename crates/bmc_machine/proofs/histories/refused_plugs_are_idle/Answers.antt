use Rattle.bmc_machine.specs.Histories.{Configure, Plug, Unplug, Read, Lose}
use Rattle.bmc_machine.proofs.RefusalLemmas.{standing_refused_plug, kept_refused_plug, past_of_refused}
use Rattle.bmc_machine.proofs.histories.refused_plugs_are_idle.Goals as goal

pub returns : goal.returns
returns c = record {
  standing = standing_refused_plug;
  kept = kept_refused_plug;
  plug = λ line past place bytes refusal. past_of_refused line past (Plug place bytes) refusal;
  configuration = λ line past config refusal. past_of_refused line past (Configure config) refusal;
  unplug = λ line past place refusal. past_of_refused line past (Unplug place) refusal;
  reading = λ line past name raw refusal. past_of_refused line past (Read name raw) refusal;
  loss = λ line past name refusal. past_of_refused line past (Lose name) refusal;
}
