-- Methods that change their object leave it a value of its shape.
use Rattle.std.proofs.Common.{◌≡◌, ◌∷◌, ◌++◌}
use Rattle.value_shapes.proofs.Common.{ℕ, List, [], length, Bool, true, false, Option, Some, None, Ok, Err, sym, subst, true≢false, false≢true, none-some, same_Some, Shape, Shape-F, out-Shape, roll-Shape, roll-out-Shape, EventShape, Value, Value-F, out-Value, Pair, Fault, integer_of, natural, at_key, without_entry, all_joined, ok_same, Fit, AllFit}
use Rattle.std.specs.Prelude.{if◌then◌else◌, remove, nat_lt, is_some}
use Rattle.epl_values.specs.declared.shape.Shape.TheOpen as shape_layer
use Rattle.epl_values.specs.declared.shape.Shape.TheVariants as shape
use Rattle.epl_values.specs.declared.value.Value.TheOpen as layer
use Rattle.epl_values.specs.declared.value.Value.TheVariants as value
use Rattle.typed_program.specs.declared.expression.Method.{Method}
use Rattle.typed_program.specs.declared.expression.Method.TheVariants as method
use Rattle.typed_program.specs.Methods.{Signature, of_layer, signature}
use Rattle.action_host.specs.declared.host.Fault.TheVariants as fault
use Rattle.body_meaning.specs.Methods.{added_in, appended_in, changed_by, cleared_in, first, removed_in, removed_key, removed_place, second}
use Rattle.value_steps.proofs.Kept.{all_removed, fine}
use Rattle.value_shapes.proofs.Entries.{without_fits}
use Rattle.value_shapes.proofs.Layers.{EachFit, EntriesFit, LayerFits, dictionary_layer, fit_out, fit_rolled, sequence_layer}
use Rattle.value_shapes.proofs.Lists.{fit_head, fit_tail}
use Rattle.value_shapes.proofs.Made.{dictionary_made, sequence_made}
use Rattle.value_shapes.proofs.Parts.{dictionary_with}

module _ (types : List EventShape) where
  -- ---- arguments

  pub first_fits : (arguments : List Value) (s : Shape) (ss : List Shape) → AllFit types arguments (s ∷ ss) → Fit types (first arguments) s
  first_fits [] s ss a = absurd (false≢true a.have)
  first_fits (v ∷ vs) s ss a = fit_head types v vs s ss a

  pub second_fits : (arguments : List Value) (s t : Shape) (ss : List Shape) → AllFit types arguments (s ∷ t ∷ ss) → Fit types (second arguments) t
  second_fits [] s t ss a = absurd (false≢true a.have)
  second_fits (v ∷ vs) s t ss a = first_fits vs t ss (fit_tail types v vs s (t ∷ ss) a)

  -- what is taken, where the row of the method is known
  taken : (arguments : List Value) (known row : Signature) → Some known ≡ Some row → AllFit types arguments row.takes → AllFit types arguments known.takes
  taken arguments known row e a = subst (λ (r : Signature). AllFit types arguments r.takes) (sym (same_Some known row e)) a

  -- ---- append

  append_items : (x : Value) (item : Shape) (l : Value-F Value Pair) → Fit types x item → LayerFits types l (shape_layer.Sequence item) → Fit types (appended_in x l) (roll-Shape (shape_layer.Sequence item))
  append_items x item (layer.Sequence items) h f = subst (Fit types (value.Sequence (items ++ x ∷ []))) (sym (shape.rolls-Sequence item)) (sequence_made types (items ++ x ∷ []) item (all_joined (λ v. Fit types v item) items (x ∷ []) (sequence_layer types items item f) (h, tt)))
  append_items x item l h f = fit_rolled types l (shape_layer.Sequence item) f

  append_layer : (arguments : List Value) (d : Shape-F Shape) (l : Value-F Value Pair) (row : Signature) → of_layer d method.Append ≡ Some row → AllFit types arguments row.takes → LayerFits types l d → Fit types (appended_in (first arguments) l) (roll-Shape d)
  append_layer arguments (shape_layer.Sequence item) l row e a f = append_items (first arguments) item l (first_fits arguments item [] (taken arguments _ row e a)) f
  append_layer arguments d l row e a f = absurd (none-some _ e)

  -- ---- clear

  clear_items : (item : Shape) (l : Value-F Value Pair) → LayerFits types l (shape_layer.Sequence item) → Fit types (cleared_in l) (roll-Shape (shape_layer.Sequence item))
  clear_items item (layer.Sequence items) f = subst (Fit types (value.Sequence [])) (sym (shape.rolls-Sequence item)) (sequence_made types [] item tt)
  clear_items item (layer.Dictionary pairs) f = absurd (true≢false (sym f.has))
  clear_items item l f = fit_rolled types l (shape_layer.Sequence item) f

  clear_entries : (k item : Shape) (l : Value-F Value Pair) → LayerFits types l (shape_layer.Dictionary k item) → Fit types (cleared_in l) (roll-Shape (shape_layer.Dictionary k item))
  clear_entries k item (layer.Dictionary pairs) f = subst (Fit types (value.Dictionary [])) (sym (shape.rolls-Dictionary k item)) (dictionary_made types [] k item tt tt)
  clear_entries k item (layer.Sequence items) f = absurd (true≢false (sym f.has))
  clear_entries k item l f = fit_rolled types l (shape_layer.Dictionary k item) f

  clear_layer : (d : Shape-F Shape) (l : Value-F Value Pair) (row : Signature) → of_layer d method.Clear ≡ Some row → LayerFits types l d → Fit types (cleared_in l) (roll-Shape d)
  clear_layer (shape_layer.Sequence item) l row e f = clear_items item l f
  clear_layer (shape_layer.Dictionary k item) l row e f = clear_entries k item l f
  clear_layer d l row e f = absurd (none-some _ e)

  -- ---- add

  add_entries : (key x : Value) (k item : Shape) (l : Value-F Value Pair) → Fit types key k → Fit types x item → LayerFits types l (shape_layer.Dictionary k item) → Fit types (added_in key x l) (roll-Shape (shape_layer.Dictionary k item))
  add_entries key x k item (layer.Dictionary pairs) fk fx f = subst (Fit types (added_in key x (layer.Dictionary pairs))) (sym (shape.rolls-Dictionary k item)) (dictionary_with types key x pairs k item (dictionary_layer types pairs k item f) f.keys fk fx)
  add_entries key x k item l fk fx f = fit_rolled types l (shape_layer.Dictionary k item) f

  add_layer : (arguments : List Value) (d : Shape-F Shape) (l : Value-F Value Pair) (row : Signature) → of_layer d method.Add ≡ Some row → AllFit types arguments row.takes → LayerFits types l d → Fit types (added_in (first arguments) (second arguments) l) (roll-Shape d)
  add_layer arguments (shape_layer.Dictionary k item) l row e a f =
      let given = taken arguments _ row e a in
      add_entries (first arguments) (second arguments) k item l (first_fits arguments k (item ∷ []) given) (second_fits arguments k item [] given) f
  add_layer arguments d l row e a f = absurd (none-some _ e)

  -- ---- remove

  removed_if : (b : Bool) (v w : Value) (s : Shape) (e : Fault) → Fit types v s → (if b then Ok v else Err e) ≡ Ok w → Fit types w s
  removed_if true v w s e f h = subst (λ y. Fit types y s) (ok_same v w h) f
  removed_if false v w s e f h = cc

  remove_place : (items : List Value) (n : Option ℕ) (w : Value) (item : Shape) → EachFit types item items → removed_place items n ≡ Ok w → Fit types w (shape.Sequence item)
  remove_place items None w item a h = cc
  remove_place items (Some n) w item a h = removed_if (nat_lt n (length items)) (value.Sequence (remove items n)) w (shape.Sequence item) fault.IndexOutOfRange (sequence_made types (remove items n) item (all_removed (λ v. Fit types v item) items n a)) h

  remove_key : (pairs : List Pair) (x w : Value) (k item : Shape) → EntriesFit types k item pairs → LayerFits types (layer.Dictionary pairs) (shape_layer.Dictionary k item) → removed_key pairs x ≡ Ok w → Fit types w (shape.Dictionary k item)
  remove_key pairs x w k item a f h = let left = without_fits types x pairs k item a f.keys in removed_if (is_some (at_key x pairs)) (value.Dictionary (without_entry x pairs)) w (shape.Dictionary k item) fault.MissingKey (dictionary_made types (without_entry x pairs) k item left.0 left.1) h

  remove_items : (x : Value) (item : Shape) (l : Value-F Value Pair) (w : Value) → LayerFits types l (shape_layer.Sequence item) → removed_in x l ≡ Ok w → Fit types w (roll-Shape (shape_layer.Sequence item))
  remove_items x item (layer.Sequence items) w f h = subst (Fit types w) (sym (shape.rolls-Sequence item)) (remove_place items (natural (integer_of x)) w item (sequence_layer types items item f) h)
  remove_items x item l w f h = absurd (true≢false (sym f.has))

  remove_entries : (x : Value) (k item : Shape) (l : Value-F Value Pair) (w : Value) → LayerFits types l (shape_layer.Dictionary k item) → removed_in x l ≡ Ok w → Fit types w (roll-Shape (shape_layer.Dictionary k item))
  remove_entries x k item (layer.Dictionary pairs) w f h = subst (Fit types w) (sym (shape.rolls-Dictionary k item)) (remove_key pairs x w k item (dictionary_layer types pairs k item f) f h)
  remove_entries x k item l w f h = absurd (true≢false (sym f.has))

  remove_layer : (x : Value) (d : Shape-F Shape) (l : Value-F Value Pair) (w : Value) (row : Signature) → of_layer d method.Remove ≡ Some row → LayerFits types l d → removed_in x l ≡ Ok w → Fit types w (roll-Shape d)
  remove_layer x (shape_layer.Sequence item) l w row e f h = remove_items x item l w f h
  remove_layer x (shape_layer.Dictionary k item) l w row e f h = remove_entries x k item l w f h
  remove_layer x d l w row e f h = absurd (none-some _ e)

  -- ---- methods

  is_left : (v w : Value) (s : Shape) → fine v ≡ fine w → Fit types v s → Fit types w s
  is_left v w s h f = subst (λ y. Fit types y s) (ok_same v w h) f

  -- what a method makes of its object has the object's shape
  pub changed_fits : (m : Method) (arguments : List Value) (v w : Value) (s : Shape) (row : Signature) → signature s m ≡ Some row → AllFit types arguments row.takes → Fit types v s → changed_by m arguments v ≡ Ok w → Fit types w s
  unfolding signature
  changed_fits method.Append arguments v w s row e a f h = is_left _ w s h (subst (Fit types (appended_in (first arguments) (out-Value v))) (roll-out-Shape s) (append_layer arguments (out-Shape s) (out-Value v) row e a (fit_out types v s f)))
  changed_fits method.Remove arguments v w s row e a f h = subst (Fit types w) (roll-out-Shape s) (remove_layer (first arguments) (out-Shape s) (out-Value v) w row e (fit_out types v s f) h)
  changed_fits method.Clear arguments v w s row e a f h = is_left _ w s h (subst (Fit types (cleared_in (out-Value v))) (roll-out-Shape s) (clear_layer (out-Shape s) (out-Value v) row e (fit_out types v s f)))
  changed_fits method.Add arguments v w s row e a f h = is_left _ w s h (subst (Fit types (added_in (first arguments) (second arguments) (out-Value v))) (roll-out-Shape s) (add_layer arguments (out-Shape s) (out-Value v) row e a (fit_out types v s f)))
  changed_fits m arguments v w s row e a f h = is_left v w s h f
