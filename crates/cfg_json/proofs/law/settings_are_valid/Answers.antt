-- Settings that are read are valid.
use Rattle.cfg_json.proofs.SettingsLemmas.{setting_valid}
use Rattle.cfg_json.proofs.law.settings_are_valid.Goals as goal

pub returns : goal.returns
returns c = setting_valid
