use Rattle.std.proofs.Common.{◌≡◌, ◌++◌, take, drop, option_map}
use Rattle.std.specs.Prelude.{option_to_list}
use Rattle.inventory.specs.Follows.{kept_with}
use Rattle.inventory.specs.Lists.{board_list}
use Rattle.inventory.specs.Naming.{naming}
use Rattle.inventory.proofs.ComingLemmas.{IsCounted}
use Rattle.inventory.proofs.NamingKeysLemmas.{naming_keys}
use Rattle.inventory.proofs.coming.list_coming.Given as goal

abbrev pub invariant-loop-key : goal.invariant-loop-key
invariant-loop-key g l = record {
  boards : l.boards.items
      ≡ naming (l.shelf ++ option_to_list (option_map (λ config. config.now) l.plus)) (board_list (kept_with l.keep.kept l.keys) (take l.key-index l.keys));
  counted : IsCounted l.keep.kept (naming_keys (l.shelf ++ option_to_list (option_map (λ config. config.now) l.plus)) (take l.key-index l.keys))
      (naming_keys (l.shelf ++ option_to_list (option_map (λ config. config.now) l.plus)) (drop l.key-index l.keys)) l.number l.last;
}
