use Rattle.std.proofs.Common.{◌≡◌, ◌+◌, ◌-◌, ◌*◌, [], drop, true}
use Rattle.event_types.specs.Types.{form_of}
use Rattle.epl_values.specs.Order.{KeysAscend}
use Rattle.evt_text.specs.Reading.{with_front, value_from, fields_from, items_from, list_at, entry_at, put_in}
use Rattle.evt_text.proofs.values.+values.Given as goal

abbrev pub invariant-fields-fields : goal.invariant-fields-fields
invariant-fields-fields l =
    with_front l.values (fields_from (value_from l.limit l.types) l.first (drop l.next-index l.fields) l.scanner.rest.now)
    ≡ fields_from (value_from l.fn.limit l.fn.types) true l.fn.fields l.fn.scanner.rest.now

abbrev pub invariant-items-items : goal.invariant-items-items
invariant-items-items l =
    with_front l.values (items_from (value_from l.limit l.types (form_of l.element)) 93 (l.limit - l._turn) l.first l.scanner.rest.now)
    ≡ list_at (value_from l.fn.limit l.fn.types (form_of l.fn.element)) 91 93 l.fn.limit l.fn.scanner.rest.now

abbrev pub invariant-entries-entries : goal.invariant-entries-entries
invariant-entries-entries l = record {
  order : KeysAscend l.pairs;
  reads : put_in l.pairs (items_from (entry_at (value_from l.limit l.types (form_of l.key)) (value_from l.limit l.types (form_of l.item))) 125 (l.limit - l._turn) l.first l.scanner.rest.now)
      ≡ put_in [] (list_at (entry_at (value_from l.fn.limit l.fn.types (form_of l.fn.key)) (value_from l.fn.limit l.fn.types (form_of l.fn.item))) 123 125 l.fn.limit l.fn.scanner.rest.now);
}

abbrev pub decreases-value : goal.decreases-value
decreases-value l = 6 * l.limit

abbrev pub decreases-item : goal.decreases-item
decreases-item l = 6 * l.limit + 1

abbrev pub decreases-entry : goal.decreases-entry
decreases-entry l = 6 * l.limit + 1

abbrev pub decreases-next_entry : goal.decreases-next_entry
decreases-next_entry l = 6 * l.limit + 2

abbrev pub decreases-fields : goal.decreases-fields
decreases-fields l = 6 * l.limit + 3

abbrev pub decreases-items : goal.decreases-items
decreases-items l = 6 * l.limit + 3

abbrev pub decreases-entries : goal.decreases-entries
decreases-entries l = 6 * l.limit + 3

abbrev pub decreases-event : goal.decreases-event
decreases-event l = 6 * l.limit + 4

abbrev pub decreases-formed : goal.decreases-formed
decreases-formed l = 6 * l.limit + 5
