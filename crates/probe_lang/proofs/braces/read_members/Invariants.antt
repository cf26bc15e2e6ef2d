-- The members so far and those that are left are the members.
use Rattle.std.proofs.Common.{◌≡◌, ◌++◌}
use Rattle.std.specs.Prelude.{option_map}
use Rattle.serde_json.specs.View.{members_view}
use Rattle.probe_lang.specs.Braces.{members_of}
use Rattle.probe_lang.proofs.braces.read_members.Given as goal

abbrev pub invariant-members : goal.invariant-members
invariant-members l = option_map (λ members. l.text ++ members) (members_of (members_view l.key-iterator)) ≡ members_of (members_view l.members.entries)
