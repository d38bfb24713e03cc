-- What the worked rows compute with.
use Rattle.generated.proofs.Terms.{digits, context_of_number, after, posted, failed, settled, begun, told, worked, released, effects_text, move_text}
use Rattle.generated.proofs.Terms.{reading_of, saying_of, row_of, op_of, write_of, read_of, image_of, volume_alone, begin_of, number_field, number_in}
use Rattle.generated.proofs.Terms.{volume_field, volume_named, lane_named, name_field, opening_of, own_volume_of, free_lane_of, word_of, is_name, encode_with}
use Rattle.scenario.specs.Grammar.{line_of}

unfoldable pub computing : Unit {0}
unfolding digits context_of_number after posted failed settled begun told worked released effects_text move_text reading_of saying_of row_of line_of op_of write_of read_of image_of volume_alone begin_of number_field number_in volume_field volume_named lane_named name_field opening_of own_volume_of free_lane_of word_of is_name encode_with
computing = tt
