use Rattle.std.proofs.Common.{refl}
use lib.Utf8.{encode}
use Rattle.std.specs.Str.{chars, is_utf8}
use Rattle.hex.proofs.OnLiterals.{hex_on_literals}
use Rattle.bmc_text.specs.Items.{without_return, line_item, whole_block, whole_item, cut_most, cut}
use Rattle.bmc_text.specs.Words.{digits as digits_in, number, block_size}
use Rattle.bmc_text.specs.Hex.{hex_decoded}
use Rattle.bmc_script.specs.Commands.{place_named, plug_of, unplug_of, config_of as config_command, words_of, command_of}
use Rattle.fru_area.specs.Headers.{header, area_at}
use Rattle.fru_area.specs.Walks.{first_field, walk, raw_fields}
use Rattle.fru_area.specs.Texts.{text_of}
use Rattle.fru_area.specs.Names.{name_text}
use Rattle.fru_area.specs.Areas.{area_fields}
use Rattle.fru_record.specs.Records.{fields_of_area, fields_at, fields_under, record_of}
use Rattle.fru_record.specs.Lookups.{text_named}
use Rattle.serde_json.proofs.OnLiterals.{serde_json_on_literals}
use Rattle.cfg_json.specs.Documents.{config_in, config_of}
use Rattle.probe_lang.specs.Words.{without_spaces, between, found_name, term_of_word}
use Rattle.probe_lang.specs.Braces.{pattern_in}
use Rattle.probe_lang.specs.Grammar.{read_from}
use Rattle.probe_lang.specs.Matches.{matches}
use Rattle.inventory.specs.Boards.{board_places, boards_in}
use Rattle.inventory.specs.Items.{items, live, items_less}
use Rattle.inventory.specs.Limits.{passed_limit}
use Rattle.bmc_machine.specs.Histories.{standing}
use Rattle.bmc_machine.specs.Boards.{boards, board_keys}
use Rattle.bmc_machine.specs.Indexes.{kept, boards_now, items_now, live_now}
use Rattle.bmc_machine.specs.Answers.{answers}
use Rattle.bmc_machine.proofs.examples.boards_were_met.Goals as goal

pub returns : goal.returns
unfolding encode is_utf8 chars hex_on_literals without_return line_item whole_block whole_item cut_most cut block_size hex_decoded digits_in number
    place_named plug_of unplug_of config_command words_of command_of header area_at first_field walk raw_fields text_of name_text area_fields fields_of_area
    fields_at fields_under record_of text_named serde_json_on_literals config_in config_of without_spaces between found_name term_of_word pattern_in
    read_from matches board_places boards_in boards kept standing answers passed_limit board_keys boards_now items_now live_now items live items_less
returns c = record { second = refl; third = refl; before = refl }
