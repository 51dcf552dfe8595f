use Rattle.std.proofs.Common.{◌+◌, ◌*◌, length}
use Rattle.value_steps.proofs.changes.+changes.Given as goal

abbrev pub decreases-change_at : goal.decreases-change_at
decreases-change_at l = 4 * length l.moves.now

abbrev pub decreases-change_field : goal.decreases-change_field
decreases-change_field l = 4 * length l.moves.now + 3

abbrev pub decreases-change_element : goal.decreases-change_element
decreases-change_element l = 4 * length l.moves.now + 3

abbrev pub decreases-change_value : goal.decreases-change_value
decreases-change_value l = 4 * length l.moves.now + 3

abbrev pub decreases-change_place : goal.decreases-change_place
decreases-change_place l = 4 * length l.moves.now + 2

abbrev pub decreases-change_item : goal.decreases-change_item
decreases-change_item l = 4 * length l.moves.now + 1

abbrev pub decreases-change_in_fields : goal.decreases-change_in_fields
decreases-change_in_fields l = 4 * length l.moves.now + 1

abbrev pub decreases-change_entry : goal.decreases-change_entry
decreases-change_entry l = 4 * length l.moves.now + 1
