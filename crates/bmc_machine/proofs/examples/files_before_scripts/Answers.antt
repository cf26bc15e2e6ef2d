use Rattle.std.proofs.Common.{refl}
use lib.Utf8.{encode}
use Rattle.std.specs.Str.{chars, is_utf8}
use Rattle.std.specs.Fmt.{digits}
use Rattle.hex.proofs.OnLiterals.{hex_on_literals}
use Rattle.bmc_text.specs.Items.{without_return, line_item, whole_block, whole_item, cut_most, cut}
use Rattle.bmc_text.specs.Words.{digits as digits_in, number, block_size}
use Rattle.bmc_text.specs.Hex.{hex_decoded}
use Rattle.bmc_script.specs.Commands.{place_named, plug_of, unplug_of, config_of as config_command, words_of, command_of}
use Rattle.fru_area.specs.Headers.{header, area_at}
use Rattle.fru_area.specs.Walks.{first_field, walk, raw_fields}
use Rattle.fru_area.specs.Texts.{text_of}
use Rattle.fru_area.specs.Names.{name_text}
use Rattle.fru_area.specs.Areas.{area_fields}
use Rattle.bmc_report.specs.Refusals.{area_text, refusal_name, refusal_text}
use Rattle.bmc_report.specs.Quoted.{quoted}
use Rattle.bmc_report.specs.Rows.{field_row, fru_row}
use Rattle.fru_record.specs.Records.{fields_of_area, fields_at, fields_under, record_of}
use Rattle.bmc_report.specs.Changes.{kind_text, change_text}
use Rattle.fru_record.specs.Lookups.{text_named}
use Rattle.serde_json.proofs.OnLiterals.{serde_json_on_literals}
use Rattle.cfg_json.specs.Documents.{config_in, config_of}
use Rattle.tmpl.specs.Chains.{chain_behind}
use Rattle.tmpl.specs.Operations.{digits as operand_digits, operation_at}
use Rattle.tmpl.specs.Numbers.{fixed_number}
use Rattle.tmpl.specs.Words.{field_of, word_of}
use Rattle.tmpl.specs.Templates.{piece_at, pieces_of, is_template, is_single, uses_index}
use Rattle.tmpl.specs.Rendering.{rendered, rendered_number}
use Rattle.cfg_json.specs.Exposes.{body_of}
use Rattle.probe_lang.specs.Words.{without_spaces, between, found_name, term_of_word}
use Rattle.probe_lang.specs.Braces.{pattern_in}
use Rattle.probe_lang.specs.Grammar.{read_from}
use Rattle.probe_lang.specs.Matches.{matches}
use Rattle.inventory.specs.Boards.{board_places, boards_in}
use Rattle.inventory.specs.Items.{items, live, items_less}
use Rattle.inventory.specs.Limits.{passed_limit}
use Rattle.bmc_machine.specs.Histories.{standing}
use Rattle.bmc_machine.specs.Boards.{boards, board_keys}
use Rattle.bmc_machine.specs.Indexes.{kept, boards_now, items_now, live_now}
use Rattle.bmc_machine.specs.Changes.{changes_between}
use Rattle.bmc_machine.specs.Shows.{fru_list}
use Rattle.bmc_machine.specs.Turns.{since}
use Rattle.bmc_machine.specs.Answers.{answers}
use Rattle.bmc_machine.proofs.examples.files_before_scripts.Goals as goal

pub returns : goal.returns
unfolding since chain_behind operand_digits operation_at fixed_number field_of word_of piece_at pieces_of is_template is_single uses_index rendered
    rendered_number body_of encode is_utf8 chars digits hex_on_literals without_return line_item whole_block whole_item cut_most cut block_size
    hex_decoded digits_in number place_named plug_of unplug_of config_command words_of command_of header area_at first_field walk raw_fields text_of name_text
    area_fields area_text refusal_name refusal_text quoted field_row fru_row fields_of_area fields_at fields_under record_of kind_text change_text
    text_named serde_json_on_literals config_in config_of without_spaces between found_name term_of_word pattern_in read_from matches board_places boards_in
    boards kept changes_between standing answers fru_list passed_limit board_keys boards_now items_now live_now items live items_less
returns c = refl
