use Rattle.fan_zone.proofs.SettingsLaw.{settings_stay}
use Rattle.fan_zone.proofs.law.settings_stay.Goals as goal

pub returns : goal.returns
returns c = settings_stay
