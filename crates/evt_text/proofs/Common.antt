-- The names that most files here cite, passed on from one place. Declares nothing.
pub use Rattle.std.proofs.Common.{Bool, List, None, Option, Some, [], ap, append_assoc, arith, cond, drop, false, get_or, inl, inr, length, length-append, map, nat_le, neg_ℤ, pos, refl, suc, sym, take, true, zero, ℕ, ℤ, ◌∙◌}
pub use Rattle.std.proofs.lemmas.Bool.{and_from, and_parts, eqb-true, le-leb, leb-true, ne_eqb, or_cases}
pub use Rattle.std.proofs.lemmas.List.{take_at}
pub use Rattle.std.proofs.lemmas.Option.{none-some, same_Some}
pub use Rattle.std.proofs.lemmas.Str.Parse.{digit_from_value}
pub use Rattle.std.specs.Char.{digit_value}
pub use Rattle.std.specs.List.{AllByRecursion, slice_get}
pub use Rattle.std.specs.Option.{option_map}
pub use Rattle.std.specs.Prelude.{remove, slice_set}
pub use Rattle.std.specs.Str.{IsCharBoundary}
pub use Rattle.std.specs.Str.Parse.{AllDigits, IsNumeral, digits_value, digits_value_after}
pub use Rattle.std.specs.declared.cmp.Ordering.{Ordering}
pub use Rattle.std.specs.declared.cmp.Ordering.TheVariants.{Equal, Greater, Less}
pub use Rattle.epl_values.specs.Order.{KeysAscend, Scalar, order_of, scalar_cmp, scalar_of}
pub use Rattle.epl_values.specs.declared.shape.EventShape.{EventShape}
pub use Rattle.epl_values.specs.declared.shape.Field.{Field}
pub use Rattle.epl_values.specs.declared.shape.Shape.{Shape}
pub use Rattle.epl_values.specs.declared.shape.Shape.TheVariants.{Event}
pub use Rattle.epl_values.specs.declared.value.Pair.{Pair, out-Pair}
pub use Rattle.epl_values.specs.declared.value.Value.{Value}
pub use Rattle.event_types.specs.Types.{BooleanForm, ContextForm, DictionaryForm, EventForm, Form, HasKnownFields, HasNoCycle, IntegerForm, ListenerForm, SequenceForm, TextForm, types_held, types_in}
pub use Rattle.evt_text.specs.Forms.{HasNames, IsName, is_digit, is_letter}
pub use Rattle.evt_text.specs.Reading.{behind_blanks, behind_name, behind_sign, digit_at, digits_from, fields_from, form_at, inside_from, with_front}
pub use Rattle.evt_text.specs.Spelling.{AreBlanks, IsLead, SpellsBytes, SpellsEvent, SpellsFields, SpellsInteger, SpellsString, SpellsWithin, escaped, is_blank, is_plain}
